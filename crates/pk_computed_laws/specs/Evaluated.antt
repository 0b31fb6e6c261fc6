-- What a run of a program computes a run of its graph evaluates.
use Rattle.std.specs.Prelude.{◌≡◌, ◌⊎◌, ℕ, ◌≤◌, ℤ, Ok, List, Contains, Some}
use Rattle.pk_ctypes.specs.declared.faults.Fault.{Fault}
use Rattle.pk_ctypes.specs.declared.places.Pos.{Pos}
use Rattle.pk_typed.specs.Trees.{UnitTree}
use Rattle.pk_calls.specs.declared.listings.CallPath.{CallPath}
use Rattle.pk_calls.specs.Answers.{HasPaths}
use Rattle.pk_graph.specs.declared.trees.Site.{Site}
use Rattle.pk_graph.specs.Graphs.{GraphOf}
use Rattle.pk_graph.specs.Steps.{Numbers, tree_value}
use Rattle.pk_graph.specs.Stores.{Stored, storing}
use Rattle.pk_graph.specs.Accesses.{OperationOf, Index, Divisor, Negation, Result, Shift, Assertion, AccessOf, accesses_of, fault_of}
use Rattle.pk_lower.specs.Answers.{point_limit}
use Rattle.pk_lower.specs.Graphs.{graph_of}
use Rattle.pk_lower.specs.Parts.{point_count}
use Rattle.pk_welltyped.specs.WellTyped.{IsUnit}
use Rattle.pk_welltyped.specs.Marks.{AreMarked}
use Rattle.pk_meaning.specs.Programs.{Program}
use Rattle.pk_meaning.specs.Steps.{Config}
use Rattle.pk_meaning.specs.Runs.{Visit, start, Runs}
use Rattle.pk_visits.specs.GraphVisits.{Begins, GraphRuns}
use Rattle.pk_computed_laws.specs.Computed.{Operation, CanFault, Computes, IsFolded}

-- in the store the operands have values
abbrev pub HasOperands : OperationOf → Stored → Type 0
HasOperands (Index n i) s = (z : ℤ) × (tree_value storing i s ≡ Ok z)
HasOperands (Divisor a b) s = (x : ℤ) × (y : ℤ) × (tree_value storing a s ≡ Ok x) × (tree_value storing b s ≡ Ok y)
HasOperands (Negation t e) s = (x : ℤ) × (tree_value storing e s ≡ Ok x)
HasOperands (Result op t a b) s =
    (x : ℤ) × (y : ℤ) × (tree_value storing a s ≡ Ok x) × (tree_value storing b s ≡ Ok y)
HasOperands (Shift op t a b) s = (x : ℤ) × (y : ℤ) × (tree_value storing a s ≡ Ok x) × (tree_value storing b s ≡ Ok y)
HasOperands (Assertion e) s = (z : ℤ) × (tree_value storing e s ≡ Ok z)

-- A run of the graph comes to the point of an access, with a store in which its operands have values: an access with these calls, at this place, that can come to this fault.
pub record IsEvaluated (g : GraphOf) (place : Site) (fault : Fault) : Type 0 where
  pub first : Stored
  pub begins : Begins g first
  pub access : AccessOf
  pub listed : Contains (accesses_of g) access
  pub at : access.site ≡ place
  pub kind : fault_of access.operation ≡ fault
  pub visits : List Visit
  pub store : Stored
  pub runs : GraphRuns g 0 first visits access.point store
  pub operands : HasOperands access.operation store

-- Wherever a run of the program comes to, each operation that its next step computes is evaluated so, with each fault that it can come to; but for an operator on constants that doesn't fault.
abbrev pub OperationsAreEvaluated : Program → GraphOf → Type 0
OperationsAreEvaluated p g =
    (choice : Numbers) (first last : Config) (visits : List Visit) (at : Pos) (operation : Operation) (fault : Fault) →
    start p choice ≡ Some first → Runs p first visits last → Computes last.work at operation → CanFault operation fault
    → IsEvaluated g (record { path = last.path; at = at }) fault ⊎ IsFolded p first last

-- Every typed unit with its call paths, and the graph that the lowering makes of it.
abbrev pub ComputedIsEvaluated : Type 0
ComputedIsEvaluated =
    (u : UnitTree) (name : List ℕ) (paths : List CallPath) → IsUnit u → AreMarked u → HasPaths u name paths →
    point_count u paths ≤ point_limit
    → OperationsAreEvaluated (record { unit = u; paths = paths }) (graph_of u paths)
