use Rattle.std.proofs.Common.{subst, sym, ◌∙◌}
use Rattle.pk_graph.specs.Views.{tree_view}
use Rattle.pk_state.specs.Changes.{known_in}
use Rattle.pk_transfer.specs.Linear.{HasPlaces}
use Rattle.pk_transfer.specs.Told.{Told}
use Rattle.pk_transfer.proofs.Apart.{tree_places}
use Rattle.pk_transfer.proofs.assumptions.holds.Goals as goal

pub compared-requires-clause-left : goal.compared-requires-clause-left
compared-requires-clause-left c =
    let y = c.args.state.layout in
    subst (λ (d : Told). HasPlaces d.form) (sym (c.l.view_is ∙ c.tell-l.ensures)) (tree_places y.packs (known_in c.args.state.facts) (tree_view c.args.left.now))

pub compared-requires-clause-right : goal.compared-requires-clause-right
compared-requires-clause-right c =
    let y = c.args.state.layout in
    subst (λ (d : Told). HasPlaces d.form) (sym (c.r.view_is ∙ c.tell-r.ensures)) (tree_places y.packs (known_in c.args.state.facts) (tree_view c.args.right.now))
