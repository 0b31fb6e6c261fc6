use Rattle.std.proofs.Common.{◌∙◌, ap, option_map}
use Rattle.pk_ast.specs.Views.{declarator_trees, declaration_tree}
use Rattle.pk_typed.specs.Views.{declared_trees}
use Rattle.pk_type_declaration.specs.Views.{declared_in}
use Rattle.pk_type_declaration.proofs.DeclaratorLemmas.{declaration_walked, declaration_trees}
use Rattle.pk_type_declaration.proofs.PartLemmas.{map_twice}
use Rattle.pk_type_declaration.proofs.walk.Walk.declaration.Goals as goal

pub returns-clause-walked : goal.returns-clause-walked
unfolding declaration_tree
returns-clause-walked c =
    declaration_walked (declaration_tree c.args.d.now) _ _ _ _ _ c.at-words.ensures (ap declarator_trees c.deref.ensures.value) c.in_ok-hidden.ensures.walked c.in_ok-declarators.ensures.walked

pub returns-clause-trees : goal.returns-clause-trees
unfolding declaration_tree
returns-clause-trees c =
    map_twice (λ v. v.items) declared_trees c.whole.result
    ∙ (ap (option_map declared_trees) c.whole.ensures
    ∙ declaration_trees (declaration_tree c.args.d.now) _ _ _ _ (declared_trees c.in_ok-hidden.hidden.items) (declared_in c.of-all.result) _ c.at-words.ensures (ap declarator_trees c.deref.ensures.value) c.in_ok-hidden.ensures.walked
    c.in_ok-hidden.ensures.trees (ap (option_map declared_trees) c.of-all.ensures) c.in_ok-declarators.ensures.trees)
