use Rattle.pk_ast.specs.Views.{parameter_tree}
use Rattle.pk_type.proofs.SignatureLemmas.{named_step}
use Rattle.pk_type.proofs.functions.parameter.Goals as goal

pub returns-in_ok-object-in-Some : goal.returns-in_ok-object-in-Some
unfolding parameter_tree
returns-in_ok-object-in-Some c =
    named_step (parameter_tree c.args.p.now) c.in-Some.name _ _ _ _ c.in-Some.is c.note_parameter.ensures c.of-words.ensures c.in_ok-object-in-Some.ensures
