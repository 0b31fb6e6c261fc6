use Rattle.std.proofs.Common.{◌≡◌, ◌+◌, ◌-◌, ◌≤◌, length, take, drop, ap, arith, ◌∙◌}
use Rattle.pk_io.proofs.Pieces.{drop-as_read}
use Rattle.pk_io.proofs.memory.MemSourceSource.read.Goals as goal

pub returns-then-count-gt0-clause-bytes : goal.returns-then-count-gt0-clause-bytes
returns-then-count-gt0-clause-bytes c =
    let s = c.self.inside in
    let n = c.min-count.result in
    let fits : n ≤ length s.bytes.items - s.at = omega (arith, ap length c.deref-2.ensures.value) in
    let span : s.at + n - s.at ≡ n = omega arith in
    let front : c.copy_from_slice.new.self ≡ take n (drop s.at s.bytes.items) =
    c.copy_from_slice.ensures.after ∙ rw (span, c.deref-2.ensures.value) in
    rw (← c.self.view_is) (
      drop-as_read s.bytes.items c.copy_from_slice.new.self (drop n c.args.buf.now) s.at n fits front,
      λ none room. absurd (omega arith),
    )
