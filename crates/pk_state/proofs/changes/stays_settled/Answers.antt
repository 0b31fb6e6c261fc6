use Rattle.std.proofs.Common.{◌≡◌, sym, subst}
use Rattle.std.specs.Prelude.{Bool, true, false, not}
use Rattle.pk_octagons.specs.Members.{IsChosen}
use Rattle.pk_state.proofs.changes.stays_settled.Goals as goal

never : (b : Bool) → b ≡ true → not b ≡ true → ⊥
never true e f = absurd (cc)
never false e f = absurd (cc)

pub returns-then-tight : goal.returns-then-tight
returns-then-tight c = λ yes. (
  c.if-tight.true.0,
  c.if-tight.true.1,
  λ i. never c.is_chosen.result (c.is_chosen.ensures.there.1 (subst (λ ps. IsChosen ps c.args.x) (sym c.packs.ensures) i)) yes,
)
