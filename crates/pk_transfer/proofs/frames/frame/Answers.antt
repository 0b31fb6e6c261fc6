use Rattle.std.proofs.Common.{◌≡◌, ◌∙◌, ◌∷◌, [], ℕ, ap, sym, subst, List}
use Rattle.std.specs.Prelude.{IfOk, All}
use Rattle.std.proofs.lemmas.List.Elements.{All-nil, All-cons}
use Rattle.pk_graph.specs.Shown.{graph_view}
use Rattle.pk_graph.specs.OctagonVariables.{octagon_variables_of}
use Rattle.pk_state.specs.Layouts.{Layout}
use Rattle.pk_transfer.specs.Graphs.{layout_over, IsPackOfGraph}
use Rattle.pk_transfer.proofs.frames.frame.Goals as goal

pub frame_over-requires : goal.frame_over-requires
frame_over-requires c =
    let g = graph_view c.args.graph.now in
    subst (All (IsPackOfGraph g)) (sym (c.in_ok-packs.ensures ∙ ap (λ (xs : List ℕ). xs ∷ []) c.in_ok-chosen.ensures))
    (All-cons (IsPackOfGraph g) (octagon_variables_of g c.args.oct) [] (c.graphs_law.ensures.packs g g.points c.args.oct c.requires) (All-nil (IsPackOfGraph g)))

pub returns : goal.returns
returns c =
    let g = graph_view c.args.graph.now in
    subst (λ (ps : List (List ℕ)). IfOk c.frame_over.result (λ (f : Layout). f ≡ layout_over g ps)) (c.in_ok-packs.ensures ∙ ap (λ (xs : List ℕ). xs ∷ []) c.in_ok-chosen.ensures) c.frame_over.ensures
