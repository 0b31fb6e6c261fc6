use Rattle.std.specs.Prelude.{◌≡◌, ◌+◌, ◌-◌, ℕ, List, take, drop}
use Rattle.std.proofs.Common.{arith, refl, ap}
use Rattle.pk_cert.specs.Heads.{HeadOf}
use Rattle.pk_cert.proofs.Heading.{head_read}
use Rattle.pk_cert.proofs.heads.head_of.Goals as goal

pub returns : goal.returns
returns c =
    let bytes : List ℕ = c.args.bytes.now in
    let size : ℕ = c.args.size in
    let p = c.args.places in
    let entry : ℕ = 13 + c.args.size_len + p.oct_len in
    let text : ℕ = entry + p.entry_len + 1 in
    let h : HeadOf = record { text = take (text + size - text) (drop text bytes); oct = p.oct; entry = take (entry + p.entry_len - entry) (drop entry bytes) } in
    let many : text + size - text ≡ size = omega arith in
    let long : entry + p.entry_len - entry ≡ p.entry_len = omega arith in
    let r = head_read bytes size c.args.size_len p entry text h refl refl (ap (λ (n : ℕ). take n (drop text bytes)) many) refl (ap (λ (n : ℕ). take n (drop entry bytes)) long) c.requires.opening c.requires.read in
    record { is = r.0; first = r.1 }
