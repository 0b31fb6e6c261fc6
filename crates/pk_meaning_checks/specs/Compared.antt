-- A run of a program and the run of its graph with the same choices, computed: how both end, and whether they have the same visits.
use Rattle.std.specs.Prelude.{ℕ, zero, suc, ◌-◌, nat_eq, Bool, true, false, ◌&&◌, ℤ, pos, List, [], ◌∷◌, ◌++◌, length, replicate, drop, Option, Some, None}
use Rattle.std.specs.Ordering.{int_eq}
use Rattle.std.specs.Str.{bytes_eq}
use Rattle.pk_ctypes.specs.declared.places.Pos.{Pos}
use Rattle.pk_ctypes.specs.declared.types.IntType.{IntType}
use Rattle.pk_ctypes.specs.Types.{wrapped}
use Rattle.pk_graph.specs.Kinds.{count_of}
use Rattle.pk_graph.specs.Steps as graph
use Rattle.pk_graph.specs.Steps.{Numbers, Failure, failure, After, effect}
use Rattle.pk_graph.specs.Stores.{Stored, storing}
use Rattle.pk_graph.specs.Graphs.{StartOf, any_start, number_start, VariableOf, EdgeOf, GraphOf, point_at}
use Rattle.pk_meaning.specs.Programs.{Program, function_of}
use Rattle.pk_meaning.specs.Steps as meaning
use Rattle.pk_meaning.specs.Steps.{Config, Next, step}
use Rattle.pk_meaning.specs.Runs.{Known, Visit, visits_if, start}
use Rattle.pk_visits.specs.GraphVisits as graphs
use Rattle.pk_lower.specs.Graphs.{graph_of}

pub data End : Type 0 where
  Fails : Failure → End
  Leaves : Option ℤ → End
  Halts : End
  Goes : End
  Breaks : End

pub record Ran : Type 0 where
  pub visits : List Visit
  pub end : End

abbrev pub first_of : IntType → ℕ → Numbers → Numbers
first_of t zero zs = []
first_of t (suc n) [] = pos 0 ∷ first_of t n []
first_of t (suc n) (z ∷ zs) = wrapped t z ∷ first_of t n zs

abbrev pub all_converted : List IntType → Numbers → Numbers
all_converted [] zs = []
all_converted (t ∷ ts) [] = pos 0 ∷ all_converted ts []
all_converted (t ∷ ts) (z ∷ zs) = wrapped t z ∷ all_converted ts zs

-- ---- of the program

abbrev pub after : Program → Config → Ran → Ran
after p c r = record { visits = visits_if p c r.visits; end = r.end }

abbrev pub ended : End → Ran
ended e = record { visits = []; end = e }

abbrev pub chosen_next : Program → (Numbers → Config → Ran) → Numbers → Next → Ran
chosen_next p next zs (meaning.To d) = after p d (next zs d)
chosen_next p next zs (meaning.Faulted f s) = ended Breaks
chosen_next p next zs meaning.Assumed = ended Breaks
chosen_next p next zs (meaning.Returned v) = ended Breaks
chosen_next p next zs (meaning.Wants t n) = ended Breaks
chosen_next p next zs meaning.Stuck = ended Breaks

abbrev pub next_of : Program → (Numbers → Config → Ran) → Numbers → Config → Next → Ran
next_of p next zs c (meaning.To d) = after p d (next zs d)
next_of p next zs c (meaning.Faulted f s) = ended (Fails (failure f s))
next_of p next zs c meaning.Assumed = ended Halts
next_of p next zs c (meaning.Returned v) = ended (Leaves v)
next_of p next zs c (meaning.Wants t n) = chosen_next p next (drop n zs) (step p (first_of t n zs) c)
next_of p next zs c meaning.Stuck = ended Breaks

abbrev pub ran : ℕ → Program → Numbers → Config → Ran
ran zero p zs c = ended Goes
ran (suc n) p zs c = next_of p (ran n p) zs c (step p [] c)

abbrev pub ran_if : ℕ → Program → Numbers → Option Config → Ran
ran_if n p zs None = ended Breaks
ran_if n p zs (Some c) = after p c (ran n p zs c)

abbrev pub program_run : ℕ → Program → Numbers → Ran
program_run n p zs =
    let ts = (function_of p 0).parameters in ran_if n p (drop (length ts) zs) (start p (all_converted ts zs))

-- ---- of the graph

abbrev pub behind : GraphOf → EdgeOf → Stored → Ran → Ran
behind g e s r = record { visits = graphs.visits_if g e s r.visits; end = r.end }

abbrev pub chosen_over : GraphOf → (Numbers → ℕ → Stored → Ran) → Numbers → EdgeOf → After Stored → Ran → Ran
chosen_over g next zs e (graph.To t) o = behind g e t (next zs e.to t)
chosen_over g next zs e graph.Blocked o = ended Breaks
chosen_over g next zs e (graph.Wants t n) o = ended Breaks
chosen_over g next zs e (graph.Faulted f) o = ended Breaks

abbrev pub over : GraphOf → (Numbers → ℕ → Stored → Ran) → Numbers → EdgeOf → Stored → After Stored → Ran → Ran
over g next zs e s (graph.To t) o = behind g e t (next zs e.to t)
over g next zs e s graph.Blocked o = o
over g next zs e s (graph.Wants t n) o = chosen_over g next (drop n zs) e (effect storing (first_of t n zs) e.instr s) o
over g next zs e s (graph.Faulted f) o = ended (Fails f)

abbrev pub over_any : GraphOf → (Numbers → ℕ → Stored → Ran) → Numbers → Stored → List EdgeOf → Ran
over_any g next zs s [] = ended Halts
over_any g next zs s (e ∷ es) = over g next zs e s (effect storing [] e.instr s) (over_any g next zs s es)

abbrev pub at_point : GraphOf → (Numbers → ℕ → Stored → Ran) → Numbers → Stored → List EdgeOf → Ran
at_point g next zs s [] = ended (Leaves None)
at_point g next zs s (e ∷ es) = over_any g next zs s (e ∷ es)

abbrev pub runs : ℕ → GraphOf → Numbers → ℕ → Stored → Ran
runs zero g zs p s = ended Goes
runs (suc n) g zs p s = at_point g (runs n g) zs s (point_at g p).edges

-- what variables begin with; those that hold any numbers have them from the list, in order
abbrev pub begun_by : VariableOf → StartOf → (Numbers → Stored) → Numbers → Stored
begun_by x any_start f zs = first_of x.kind.int_type (count_of x.kind.length) zs ∷ f (drop (count_of x.kind.length) zs)
begun_by x (number_start ns) f zs = (ns ++ replicate (count_of x.kind.length - length ns) (pos 0)) ∷ f zs

abbrev pub begun : List VariableOf → Numbers → Stored
begun [] zs = []
begun (x ∷ xs) zs = begun_by x x.start (begun xs) zs

abbrev pub graph_run : ℕ → Program → Numbers → Ran
graph_run n p zs =
    let g = graph_of p.unit p.paths in
    let ts = (function_of p 0).parameters in
    let s = begun g.variables zs in
    record (runs n g (drop (length ts) zs) 0 s) {
      visits = graphs.visit_at g 0 s
          ∷ (runs n g (drop (length ts) zs) 0 s).visits;
    }

-- ---- compared

abbrev pub same_numbers : Numbers → Numbers → Bool
same_numbers [] [] = true
same_numbers [] (w ∷ ws) = false
same_numbers (v ∷ vs) [] = false
same_numbers (v ∷ vs) (w ∷ ws) = int_eq v w && same_numbers vs ws

abbrev pub same_known : List Known → List Known → Bool
same_known [] [] = true
same_known [] (w ∷ ws) = false
same_known (v ∷ vs) [] = false
same_known (v ∷ vs) (w ∷ ws) = bytes_eq v.name w.name && same_numbers v.numbers w.numbers && same_known vs ws

abbrev pub same_pos : Pos → Pos → Bool
same_pos a b = nat_eq a.line b.line && nat_eq a.column b.column

abbrev pub same_visits : List Visit → List Visit → Bool
same_visits [] [] = true
same_visits [] (w ∷ ws) = false
same_visits (v ∷ vs) [] = false
same_visits (v ∷ vs) (w ∷ ws) =
    nat_eq v.path w.path && same_pos v.at w.at && same_known v.known w.known && same_visits vs ws

-- how the program ends, how its graph ends, and whether they have the same visits
pub record Answer : Type 0 where
  pub program : End
  pub graph : End
  pub same : Bool

abbrev pub compared : ℕ → Program → Numbers → Answer
compared n p zs =
    let a = program_run n p zs in
    let b = graph_run n p zs in
    record { program = a.end; graph = b.end; same = same_visits a.visits b.visits }
