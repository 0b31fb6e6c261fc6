use Rattle.pk_ast.specs.Views.{enumerator_tree}
use Rattle.pk_type_declaration.proofs.EnumerationLemmas.{enumerator_walked}
use Rattle.pk_type_declaration.proofs.walk.Walk.enumerator.Goals as goal

pub returns-clause-walked : goal.returns-clause-walked
unfolding enumerator_tree
returns-clause-walked c =
    enumerator_walked c.args.next c.in_ok-value.value (enumerator_tree c.args.x.now) _ _ _ c.in_ok-value.ensures.value c.in_ok-value.ensures.walked c.in_ok-enumerator_name.ensures
