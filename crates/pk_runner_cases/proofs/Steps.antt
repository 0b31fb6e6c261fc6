-- Where the steps of a graph run lead.
use Rattle.std.proofs.Common.{◌≡◌, ℕ, ◌<◌, ap, ◌∙◌, sym, subst, refl, List, length, map}
use Rattle.std.proofs.lemmas.List.{length-map}
use Rattle.pk_graph.specs.declared.graphs.Edge.{Edge}
use Rattle.pk_graph.specs.Graphs.{GraphOf, EdgeOf, edge_view, point_at, no_point, kinds_of}
use Rattle.pk_graph.specs.WellMade.{IsGraph, IsEdgeOf}
use Rattle.pk_graph.specs.Steps.{Numbers, After, To, Blocked, Wants, Faulted, effect}
use Rattle.pk_graph.specs.Stores.{Stored, storing}
use Rattle.pk_graph_step.specs.declared.answers.GraphStep.{GraphStep}
use Rattle.pk_graph_step.specs.declared.answers.GraphStep.TheVariants as answers
use Rattle.pk_graph_step.specs.GraphSteps.{no_edge, edge_at, answer_of, step_over}
use Rattle.pk_graph_step.specs.Laws.{StepsKeepStores}
use Rattle.pk_runner_cases.specs.Places.{IsAt}

abbrev pub LeadsOn : GraphOf → GraphStep → Type 0
LeadsOn g (answers.To q s) = IsAt g q s
LeadsOn g (answers.Faulted f) = Unit {0}
LeadsOn g answers.Blocked = Unit {0}
LeadsOn g (answers.Wants t n) = Unit {0}

pub leads_on : (g : GraphOf) (p k : ℕ) (es : List Edge) (chosen : Numbers) (s : Stored) → StepsKeepStores → IsGraph g → IsAt g p s → map edge_view es ≡ (point_at g p).edges → k < length es
    → LeadsOn g (step_over (edge_at g p k) chosen s)
leads_on g p k es chosen s law m at f h = led (effect storing chosen e.instr s) refl
  where
    e : EdgeOf
    e = edge_at g p k

    fits : IsEdgeOf g e
    fits = (m.points p no_point at.point).edges k no_edge (subst (λ (n : ℕ). k < n) (sym (length-map es edge_view) ∙ ap (λ (xs : List EdgeOf). length xs) f) h)

    led : (a : After Stored) → effect storing chosen e.instr s ≡ a → LeadsOn g (answer_of e.to a)
    led (To t) w = record { point = fits.leads_to_a_point; store = law (kinds_of g) e.instr chosen s t fits.typed at.store w }
    led Blocked w = tt
    led (Wants t n) w = tt
    led (Faulted x) w = tt
