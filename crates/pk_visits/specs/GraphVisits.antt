-- Runs of a graph, and what is seen of them.
use Rattle.std.specs.Prelude.{◌≡◌, ℕ, Bool, true, if◌then◌else◌, List, [], ◌∷◌, map, Contains, Option, Some, None, unwrap_or}
use Rattle.pk_graph.specs.Trees.{InstrOf, Skip, Set, Havoc, Clear, Load, Store, Guard, Check}
use Rattle.pk_graph.specs.Graphs.{EdgeOf, GraphOf, variable_at, point_at, names_at}
use Rattle.pk_graph.specs.Steps.{Numbers, To, effect}
use Rattle.pk_graph.specs.Stores.{Stored, storing, numbers_of}
use Rattle.pk_number.specs.Preorders.{is_among}
pub use Rattle.pk_graph_step.specs.Beginnings.{BeginsWith, Begins}
use Rattle.pk_meaning.specs.Runs.{Known, Visit}

-- the variable that an instruction writes
abbrev pub written : InstrOf ℕ → Option ℕ
written Skip = None
written (Set x e) = Some x
written (Havoc x t n) = Some x
written (Clear a) = Some a.variable
written (Load x a s b i) = Some x
written (Store a s b i e) = Some a.variable
written (Guard e b) = None
written (Check s e) = None

abbrev pub is_in_scope : Option ℕ → List ℕ → Bool
is_in_scope None xs = true
is_in_scope (Some x) xs = is_among x xs

-- A step over an edge is a visit of its end, unless it writes a variable that isn't in scope there: a temporary, a result, a parameter of a call while its arguments are passed.
abbrev pub is_visit : GraphOf → EdgeOf → Bool
is_visit g e = is_in_scope (written e.instr) (names_at g e.to)

abbrev pub known_of : GraphOf → Stored → ℕ → Known
known_of g s x = record { name = unwrap_or (variable_at g x).name []; numbers = numbers_of s x }

-- of a point, with a store
abbrev pub visit_at : GraphOf → ℕ → Stored → Visit
visit_at g p s =
    record { path = (point_at g p).path; at = (point_at g p).at; known = map (known_of g s) (names_at g p) }

abbrev pub visits_if : GraphOf → EdgeOf → Stored → List Visit → List Visit
visits_if g e s vs = if is_visit g e then visit_at g e.to s ∷ vs else vs

-- A run from a point with a store to another, with the visits behind the first in order: each step with numbers where some are chosen.
pub data GraphRuns (g : GraphOf) : ℕ → Stored → List Visit → ℕ → Stored → Type 0 where
  ends : {p : ℕ} {s : Stored} → GraphRuns g p s [] p s
  steps : {p q : ℕ} {s t r : Stored} {e : EdgeOf} {vs : List Visit} (chosen : Numbers) →
      Contains (point_at g p).edges e → effect storing chosen e.instr s ≡ To t
      → GraphRuns g e.to t vs q r → GraphRuns g p s (visits_if g e t vs) q r
