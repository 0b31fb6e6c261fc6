use Rattle.std.proofs.Common.{ℕ, List, All, ◌∙◌, sym, subst}
use Rattle.pk_graph.specs.Shown.{graph_view}
use Rattle.pk_transfer.specs.Graphs.{IsPackOfGraph}
use Rattle.pk_analysis.proofs.Layouting.{are_packs}
use Rattle.pk_analysis.proofs.frames.packed.Goals as goal

pub frame_over-requires : goal.frame_over-requires
frame_over-requires c =
    let g = graph_view c.args.graph.now in
    subst (λ (packs : List (List ℕ)). All (IsPackOfGraph g) packs) (sym (c.into_packs.ensures ∙ c.in_ok-packs.ensures.packs))
    (are_packs g c.args.plan.now c.args.oct c.requires.oct)
