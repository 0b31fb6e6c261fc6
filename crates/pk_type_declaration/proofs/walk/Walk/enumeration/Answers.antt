use Rattle.std.proofs.Common.{ap}
use Rattle.pk_ast.specs.Views.{specifiers_tree, enumerator_trees, enumeration_tree}
use Rattle.pk_type_declaration.proofs.EnumerationLemmas.{enumeration_walked, enumeration_trees}
use Rattle.pk_type_declaration.proofs.walk.Walk.enumeration.Goals as goal

pub returns-clause-walked : goal.returns-clause-walked
unfolding enumeration_tree
returns-clause-walked c =
    enumeration_walked (specifiers_tree c.args.words.now) (enumeration_tree c.args.e.now) c.type_name_among.result c.in_ok-next.next _ _ _ _ _ c.type_name_among.ensures c.in_ok-tag.ensures c.in_ok-next.ensures.walked c.in_ok-next.ensures.next (ap enumerator_trees c.deref.ensures.value) c.in_ok-enumerators.ensures.walked

pub returns-clause-trees : goal.returns-clause-trees
unfolding enumeration_tree
returns-clause-trees c =
    enumeration_trees (specifiers_tree c.args.words.now) (enumeration_tree c.args.e.now) c.type_name_among.result c.in_ok-next.next _ _ _ _ _ _ _ c.type_name_among.ensures c.in_ok-tag.ensures c.in_ok-next.ensures.walked c.in_ok-next.ensures.next (ap enumerator_trees c.deref.ensures.value) c.in_ok-next.ensures.trees c.in_ok-enumerators.ensures.trees
