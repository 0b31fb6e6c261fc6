use Rattle.std.proofs.Common.{◌≡◌, ℕ, suc, ◌+◌, ◌-◌, ap, ◌∙◌, arith}
use Rattle.pk_wrong_byte.specs.Pieces.{ReachedOf, calls}
use Rattle.pk_wrong_byte.proofs.pieces.path.Goals as goal

pub loop-k-preserved : goal.loop-k-preserved
loop-k-preserved c =
    let count : ℕ = c.call_count-count.result in
    let k : ℕ = c.loop-k._k in
    let there : ReachedOf = c.loop-k.there in
    let left : suc (count - (k + 1)) ≡ count - k = omega (arith, c.loop-k-test.true) in
    ap (calls (count - (k + 1))) c.call-there.ensures ∙ ap (λ (n : ℕ). calls n there) left ∙ c.loop-k.invariant
