-- What the lowering folds has no access.
use Rattle.std.specs.Prelude.{◌≡◌, ℕ, ◌≤◌, ℤ, List, Contains, Some}
use Rattle.pk_ctypes.specs.declared.faults.Fault.{Fault}
use Rattle.pk_ctypes.specs.declared.places.Pos.{Pos}
use Rattle.pk_ctypes.specs.declared.types.IntType.{IntType}
use Rattle.pk_ctypes.specs.declared.types.Op.{Op}
use Rattle.pk_typed.specs.Trees.{ValueTree, UnitTree}
use Rattle.pk_typed.specs.Trees as tree
use Rattle.pk_calls.specs.declared.listings.CallPath.{CallPath}
use Rattle.pk_calls.specs.Answers.{HasPaths}
use Rattle.pk_graph.specs.declared.trees.Site.{Site}
use Rattle.pk_graph.specs.Graphs.{GraphOf}
use Rattle.pk_graph.specs.Steps.{Numbers}
use Rattle.pk_graph.specs.Accesses.{AccessOf, accesses_of, fault_of}
use Rattle.pk_lower.specs.Answers.{point_limit}
use Rattle.pk_lower.specs.Graphs.{graph_of}
use Rattle.pk_lower.specs.Parts.{point_count}
use Rattle.pk_lower_row.specs.declared.shapes.Shape.TheVariants.{Fixed}
use Rattle.pk_lower_row.specs.Shapes.{shape_of}
use Rattle.pk_welltyped.specs.WellTyped.{IsUnit}
use Rattle.pk_welltyped.specs.Marks.{AreMarked}
use Rattle.pk_meaning.specs.Programs.{Program}
use Rattle.pk_meaning.specs.Work.{Work, Evaluate}
use Rattle.pk_meaning.specs.Steps.{Config}
use Rattle.pk_meaning.specs.Runs.{Visit, start, Runs}
use Rattle.pk_access_laws.specs.Laws.{OperatorsAreApart}
use Rattle.pk_computed_laws.specs.Computed.{Operation, CanFault, Computes, site}
use Rattle.pk_computed_laws.specs.Evaluated.{IsEvaluated}

-- an operator at a place
pub data IsOperatorAt : ValueTree → Pos → Type 0 where
  one_operand : {op : Op} {at : Pos} {t : IntType} {e : ValueTree} → IsOperatorAt (tree.unary op at t e) at
  two_operands : {op : Op} {at : Pos} {t : IntType} {a b : ValueTree} → IsOperatorAt (tree.binary op at t a b) at

-- no access has these calls and this place
abbrev pub HasNoAccess : GraphOf → Site → Type 0
HasNoAccess g place = (a : AccessOf) → Contains (accesses_of g) a → a.site ≡ place → ⊥

-- Where a run begins to evaluate an operator of which the lowering knows the value, the graph has no access at its place on the path.
abbrev pub BeginsFolded : Program → GraphOf → Type 0
BeginsFolded p g =
    (choice : Numbers) (first last : Config) (visits : List Visit) (e : ValueTree) (behind : Work) (at : Pos) (z : ℤ) →
    start p choice ≡ Some first → Runs p first visits last → last.work ≡ Evaluate e behind → IsOperatorAt e at →
    shape_of e ≡ Fixed z → HasNoAccess g (site last at)

-- In every unit in whose bodies no two operators share a place.
abbrev pub FoldedHasNoAccess : Type 0
FoldedHasNoAccess =
    (u : UnitTree) (paths : List CallPath) → OperatorsAreApart u →
    BeginsFolded (record { unit = u; paths = paths }) (graph_of u paths)

-- ---- without exception

-- Wherever a run of the program comes to, each operation that its next step computes, with each fault that it can come to, is evaluated by a run of the graph, if the graph has an access with its calls, its place and that fault.
abbrev pub AccessesAreEvaluated : Program → GraphOf → Type 0
AccessesAreEvaluated p g =
    (choice : Numbers) (first last : Config) (visits : List Visit) (at : Pos) (operation : Operation) (fault : Fault) →
    start p choice ≡ Some first → Runs p first visits last → Computes last.work at operation → CanFault operation fault
    → (a : AccessOf) → Contains (accesses_of g) a → a.site ≡ site last at → fault_of a.operation ≡ fault
    → IsEvaluated g (site last at) fault

-- Every typed unit with its call paths, in whose bodies no two operators share a place.
abbrev pub ComputedAccessesAreEvaluated : Type 0
ComputedAccessesAreEvaluated =
    (u : UnitTree) (name : List ℕ) (paths : List CallPath) → IsUnit u → AreMarked u → HasPaths u name paths →
    point_count u paths ≤ point_limit → OperatorsAreApart u
    → AccessesAreEvaluated (record { unit = u; paths = paths }) (graph_of u paths)
