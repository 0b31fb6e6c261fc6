use Rattle.std.proofs.Common.{ap}
use Rattle.pk_ast.specs.Views.{declarator_trees, declaration_tree}
use Rattle.pk_type_declaration.proofs.StaticLemmas.{declaration_walked, declaration_trees}
use Rattle.pk_type_declaration.proofs.walk.Walk.static_declaration.Goals as goal

pub returns-clause-walked : goal.returns-clause-walked
unfolding declaration_tree
returns-clause-walked c =
    declaration_walked (declaration_tree c.args.d.now) _ _ _ _ _ c.at-words.ensures (ap declarator_trees c.deref.ensures.value) c.in_ok-all.ensures.walked c.in_ok-static_declarators.ensures.walked

pub returns-clause-trees : goal.returns-clause-trees
unfolding declaration_tree
returns-clause-trees c =
    declaration_trees (declaration_tree c.args.d.now) _ _ _ _ _ _ c.at-words.ensures (ap declarator_trees c.deref.ensures.value) c.in_ok-all.ensures.walked c.in_ok-all.ensures.trees c.in_ok-static_declarators.ensures.trees
