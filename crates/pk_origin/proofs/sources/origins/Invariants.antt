use Rattle.std.proofs.Common.{◌≡◌, ℕ, ◌+◌, ◌<◌, ◌^◌, map, length, slice_index_or}
use Rattle.pk_origin.specs.Texts.{is_open_at}
use Rattle.pk_origin.specs.Origins.{first_origin, origin_of}
use Rattle.pk_origin.proofs.sources.origins.Given as goal

abbrev pub invariant-loop-k : goal.invariant-loop-k
invariant-loop-k l =
    let lines = map (λ line. line.now) l.lines in
    record {
      size : length l.origins.items ≡ l.k;
      each : (j : ℕ) → j < l.k → slice_index_or l.origins.items j first_origin ≡ origin_of lines j;
      next : l.next ≡ origin_of lines l.k;
      small : l.next.line < 2 ^ 31 + l.k + 1;
      comment : l.is_open ≡ is_open_at lines l.k;
    }
