use Rattle.std.proofs.Common.{◌∙◌, ap, false, None}
use Rattle.pk_ast.specs.Views.{item_trees, block_tree}
use Rattle.pk_type_jump.specs.Jumps.{jumped_items, around_body, nothing_jumped}
use Rattle.pk_type_jump.specs.Views.{labels_in, jumped_in}
use Rattle.pk_type_jump.proofs.jumps.Jumps.of.Goals as goal

pub returns : goal.returns
unfolding block_tree
returns c =
    let labels = labels_in c.args.labels.now in
    c.in_ok-items.ensures.jumped
    ∙ (ap (λ xs. jumped_items c.args.text.now labels (record { scopes = xs; here = 0; in_loop = false; switch = None }) (jumped_in c.in_ok-jumps.jumps) (item_trees c.deref.result.now)) c.in_ok-jumps.ensures.scopes
    ∙ (ap (λ j. jumped_items c.args.text.now labels around_body j (item_trees c.deref.result.now)) c.in_ok-jumps.ensures.jumped
    ∙ ap (λ list. jumped_items c.args.text.now labels around_body nothing_jumped (item_trees list)) c.deref.ensures.value))
