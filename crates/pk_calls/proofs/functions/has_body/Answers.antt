use Rattle.std.proofs.Common.{sym, subst}
use Rattle.std.specs.Prelude.{◌↔◌, IsTrue, IsSome}
use Rattle.pk_typed.specs.Views.{unit_tree}
use Rattle.pk_calls.specs.Calls.{body_of}
use Rattle.pk_calls.proofs.CallLemmas.{has_body_is}
use Rattle.pk_calls.proofs.functions.has_body.Goals as goal

pub returns : goal.returns
returns c = subst (λ b. IsTrue b ↔ IsSome (body_of (unit_tree c.args.unit.now) c.args.function)) (sym c.is_some.ensures) (has_body_is _ _ c.body.ensures)
