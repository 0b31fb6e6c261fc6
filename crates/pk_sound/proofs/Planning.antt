-- An analysis goes by its plan.
use Rattle.std.proofs.Common.{◌≡◌, ◌<◌, ◌⊎◌, inl, inr, ℕ, ap, ◌∙◌, sym, subst, length, arith}
use Rattle.std.specs.List.{slice_index_or}
use Rattle.std.proofs.lemmas.List.{length-map}
use Rattle.std.proofs.lemmas.List.Elements.{All-map}
use Rattle.pk_graph.specs.Graphs.{PointOf, GraphOf}
use Rattle.pk_phases.specs.declared.equations.Part.{Part}
use Rattle.pk_phases.specs.declared.equations.Part.TheVariants.{Point, HeadOf}
use Rattle.pk_phases.specs.Equations.{IsExit}
use Rattle.pk_phases.specs.Solved.{SourcesAhead}
use Rattle.pk_phases.specs.Equations.{ReadsPoints}
use Rattle.pk_analysis.specs.declared.arrows.Arrow.{Arrow}
use Rattle.pk_analysis.specs.Arrows.{arrows_at}
use Rattle.pk_analysis.specs.Digraphs.{targets_of, digraph_of}
use Rattle.pk_analysis.specs.Parts.{part_at}
use Rattle.pk_sound.specs.Planned.{AnalysesGoByPlan}
use Rattle.pk_sound.proofs.Arrows_at.{arrows_to}
use Rattle.pk_sound.proofs.Fitting.{plan_fits}
use Rattle.pk_sound.proofs.Parting.{head_is, exit_is, point_is, parts_are, sources_ahead}
use Rattle.pk_sound.proofs.Systems.{system_of}

pub analyses_go_by_plan : AnalysesGoByPlan
analyses_go_by_plan g o p order a made is ordered =
    let ahead : SourcesAhead (system_of g a.layout a.thresholds a.parts a.delay a.narrow) order =
    sources_ahead g a.layout a.thresholds a.parts a.delay a.narrow p order ordered.axioms ordered.is_linear is.parts (plan_fits (digraph_of g) ordered.nest p ordered.is_nest ordered.axioms ordered.is_plan) in
    record {
      components = λ c of. (head_is p ordered.axioms a.parts is.parts c of, exit_is p ordered.axioms a.parts is.parts c of);
      parts = parts_are g a.layout a.thresholds a.parts a.delay a.narrow p order ordered.axioms ordered.is_linear is.parts;
      points = subst (λ (k : GraphOf). ReadsPoints (system_of k a.layout a.thresholds a.parts a.delay a.narrow)) (sym is.graph) reads;
      ahead = subst (λ (k : GraphOf). SourcesAhead (system_of k a.layout a.thresholds a.parts a.delay a.narrow) order) (sym is.graph) ahead;
    }
  where
    no_exit : (part : Part) → (part ≡ Point) ⊎ ((x : ℕ) × (part ≡ HeadOf x)) → IsExit part → ⊥
    no_exit part (inl e) h = subst IsExit e h
    no_exit part (inr e) h = subst IsExit e.1 h

    of_point : (u : ℕ) → u < length g.points → IsExit (part_at a.parts u) → ⊥
    of_point u h =
        let points : p.points ≡ length g.points = ordered.is_plan.points ∙ length-map g.points (λ (q : PointOf). targets_of q.edges) in
        no_exit (part_at a.parts u) (elim (point_is p ordered.axioms a.parts is.parts u (omega (arith, h, points))) [
          | inl e ↦ inl e
          | inr c ↦ inr (c.0.exit, ap (part_at a.parts) (sym c.2) ∙ head_is p ordered.axioms a.parts is.parts c.0 c.1)
        ])

    reads : ReadsPoints (system_of g a.layout a.thresholds a.parts a.delay a.narrow)
    reads e = All-map (λ (u : ℕ). IsExit (part_at a.parts u) → ⊥) (λ (r : Arrow). r.from) (arrows_at g e) (λ k d h. of_point (slice_index_or (arrows_at g e) k d).from (arrows_to g e k d h).point)
