-- Runs of a graph, as pairs of a point and a store.
use Rattle.std.specs.Prelude.{◌≡◌, ℕ, ◌<◌, All, Contains}
use Rattle.pk_graph.specs.Kinds.{count_of}
use Rattle.pk_graph.specs.Graphs.{VariableOf, EdgeOf, GraphOf, point_at}
use Rattle.pk_graph.specs.Steps.{Numbers, To, effect}
use Rattle.pk_graph.specs.Stores.{Stored, storing}
pub use Rattle.pk_graph_step.specs.Beginnings.{BeginsWith, Begins}

-- each array has an element (C99 6.7.5.2)
abbrev pub HasElements : GraphOf → Type 0
HasElements g = All (λ (x : VariableOf). 0 < count_of x.kind.length) g.variables

-- Some run comes to a point with a store: it begins at point 0, and each step goes over an edge of its point, with any numbers where some are chosen.
pub data Reaches (g : GraphOf) : ℕ → Stored → Type 0 where
  begins : {s : Stored} → Begins g s → Reaches g 0 s
  steps : {p : ℕ} {s t : Stored} {e : EdgeOf} (chosen : Numbers) → Reaches g p s → Contains (point_at g p).edges e →
      effect storing chosen e.instr s ≡ To t → Reaches g e.to t
