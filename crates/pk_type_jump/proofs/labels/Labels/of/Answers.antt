use Rattle.std.proofs.Common.{◌∙◌, ap}
use Rattle.pk_ast.specs.Views.{item_trees, block_tree}
use Rattle.pk_type_jump.specs.Labels.{listed_items, outermost, nothing_listed}
use Rattle.pk_type_jump.proofs.labels.Labels.of.Goals as goal

pub returns : goal.returns
unfolding block_tree
returns c =
    c.in_ok-items.ensures
    ∙ (ap (λ l. listed_items c.args.text.now outermost l (item_trees c.deref.result.now)) c.new-labels.ensures
    ∙ ap (λ list. listed_items c.args.text.now outermost nothing_listed (item_trees list)) c.deref.ensures.value)
