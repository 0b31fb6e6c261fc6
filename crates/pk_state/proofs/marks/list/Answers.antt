use Rattle.std.proofs.Common.{subst}
use Rattle.std.specs.Prelude.{◌∷◌, []}
use Rattle.pk_octagons.specs.Values.{IsListed}
use Rattle.pk_octagons.proofs.Bounding.{listed_last, listed_left}
use Rattle.pk_state.proofs.Loose.{listed_at}
use Rattle.pk_state.proofs.marks.list.Goals as goal

pub returns-in_ok-push-in-None-clause-listed : goal.returns-in_ok-push-in-None-clause-listed
returns-in_ok-push-in-None-clause-listed c = rw c.in_ok-push-in-None.ensures.items (listed_last c.args.loose.now.items c.args.x)

pub returns-in_ok-push-in-None-clause-others : goal.returns-in_ok-push-in-None-clause-others
returns-in_ok-push-in-None-clause-others c = λ y h. rw c.in_ok-push-in-None.ensures.items (listed_left c.args.loose.now.items (c.args.x ∷ []) y h)

pub returns-in-Some-clause-listed : goal.returns-in-Some-clause-listed
returns-in-Some-clause-listed c =
    subst (λ xs. IsListed xs c.args.x) c.deref.ensures.value (listed_at c.deref.result.now c.in-Some.field-0 c.args.x c.in-Some.ensures.0 c.in-Some.ensures.1)
