use Rattle.std.proofs.Common.{◌∙◌, ap}
use Rattle.pk_ast.specs.Views.{item_trees, block_tree}
use Rattle.pk_type_scope.specs.Failures.{noted}
use Rattle.pk_type_declaration.specs.Views.{walked_in}
use Rattle.pk_type_declaration.specs.Rules.{failing}
use Rattle.pk_type_jump.specs.Jumps.{jumps_of}
use Rattle.pk_type_jump.specs.Labels.{Listed, labels_of}
use Rattle.pk_type_jump.specs.Views.{jumped_in, listed_in}
use Rattle.pk_type_statement.specs.Statements.{after_items}
use Rattle.pk_type_statement.specs.Trees.{typed_items}
use Rattle.pk_type_statement.specs.Views.{passed_in}
use Rattle.pk_type.specs.Functions.{before_body}
use Rattle.pk_type.specs.Rules.{about_jumps, noting}
use Rattle.pk_type.proofs.bodies.walked_body.Goals as goal

pub returns-clause-walked : goal.returns-clause-walked
unfolding block_tree
returns-clause-walked c =
    let text = c.args.to.now.walk.scope.text.now in
    let tree = item_trees c.args.block.now.items.items in
    let p = before_body (walked_in c.args.to.now.walk) in
    let l : Listed = labels_of text tree in
    let w = (after_items noting.statements c.args.returns p tree).walked in
    c.note_jumps.ensures
    ∙ (ap (λ q. failing noted (about_jumps (listed_in c.in_ok-labels.labels) (jumped_in c.in_ok-jumps.jumps)) q.walked)
    (c.in_ok-items.ensures.passed ∙ (ap (λ q. after_items noting.statements c.args.returns q (item_trees c.deref.result.now)) c.begin.ensures ∙ ap (λ is. after_items noting.statements c.args.returns p (item_trees is)) c.deref.ensures.value))
    ∙ (ap (λ j. failing noted (about_jumps (listed_in c.in_ok-labels.labels) j) w) c.in_ok-jumps.ensures
    ∙ ap (λ x. failing noted (about_jumps x (jumps_of text x.labels tree)) w) c.in_ok-labels.ensures))

pub returns-clause-items : goal.returns-clause-items
unfolding block_tree
returns-clause-items c =
    let tree = item_trees c.args.block.now.items.items in
    let p = before_body (walked_in c.args.to.now.walk) in
    c.in_ok-items.ensures.trees
    ∙ (ap (λ x. typed_items noting.statements c.args.returns x.labels (passed_in c.begin.new.to) (item_trees c.deref.result.now)) c.in_ok-labels.ensures
    ∙ (ap (λ q. typed_items noting.statements c.args.returns (labels_of c.args.to.now.walk.scope.text.now tree).labels q (item_trees c.deref.result.now)) c.begin.ensures
    ∙ ap (λ is. typed_items noting.statements c.args.returns (labels_of c.args.to.now.walk.scope.text.now tree).labels p (item_trees is)) c.deref.ensures.value))
