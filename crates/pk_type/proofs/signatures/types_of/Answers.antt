use Rattle.std.proofs.Common.{◌∙◌, ap, [], ◌∷◌, ◌++◌}
use Rattle.pk_type_scope.specs.Scopes.{names_in, scoping_of}
use Rattle.pk_type.proofs.SignatureLemmas.{next, at_end, types_step, types_done}
use Rattle.pk_type.proofs.signatures.types_of.Goals as goal

pub loop-parameter-preserved : goal.loop-parameter-preserved
loop-parameter-preserved c =
    types_step (names_in (scoping_of c.args.scope.now)) c.parameter-item.result _ _ _ _ _ (next c.args.list.now c.loop-parameter.parameter-index c.parameter-item.result c.loop-parameter-test.true c.parameter-item.is)
    (c.in_ok-push.ensures.items ∙ ap (λ t. c.loop-parameter.types.items ++ t ∷ []) c.type_named.ensures) c.loop-parameter.invariant

pub returns : goal.returns
returns c = types_done (names_in (scoping_of c.args.scope.now)) _ _ _ (at_end c.args.list.now c.loop-parameter.parameter-index c.loop-parameter-test.false) c.loop-parameter.invariant
