-- What a verdict says of the runs.
use Rattle.std.specs.Prelude.{◌≡◌, ℕ, false, ℤ, pos, Ok, Err, Contains}
use Rattle.pk_ctypes.specs.declared.types.Op.TheVariants.{Neg}
use Rattle.pk_ctypes.specs.declared.faults.Fault.TheVariants as faults
use Rattle.pk_ctypes.specs.Operators.{value_of}
use Rattle.pk_graph.specs.declared.verdicts.Verdict.TheVariants.{Safe, Unreachable}
use Rattle.pk_graph.specs.Graphs.{GraphOf}
use Rattle.pk_graph.specs.Steps.{tree_value, is_true, is_index}
use Rattle.pk_graph.specs.Stores.{Stored, storing}
use Rattle.pk_graph.specs.Accesses.{OperationOf, Index, Divisor, Negation, Result, Shift, Assertion, AccessOf, accesses_of}
use Rattle.pk_state.specs.Facts.{Stated}
use Rattle.pk_plan.specs.Order.{Level}
use Rattle.pk_plan.specs.Plans.{PlanView}
use Rattle.pk_verdict.specs.Verdicts.{verdict_of}
use Rattle.pk_iterate.specs.Outcome.{Outcome}
use Rattle.pk_phases.specs.declared.equations.Cell.{Cell}
use Rattle.pk_analysis.specs.declared.analysis.Options.{Options}
use Rattle.pk_analysis.specs.Flows.{Flow}
use Rattle.pk_sound.specs.Runs.{Reaches}
use Rattle.pk_sound.specs.Results.{IsAnalysed, reduced_at_point}

-- in the store a run comes to the operation: its operands have values
abbrev pub IsEvaluatedIn : OperationOf → Stored → Type 0
IsEvaluatedIn (Index n i) s = (z : ℤ) × (tree_value storing i s ≡ Ok z)
IsEvaluatedIn (Divisor a b) s = (x : ℤ) × (y : ℤ) × (tree_value storing a s ≡ Ok x) × (tree_value storing b s ≡ Ok y)
IsEvaluatedIn (Negation t e) s = (x : ℤ) × (tree_value storing e s ≡ Ok x)
IsEvaluatedIn (Result op t a b) s =
    (x : ℤ) × (y : ℤ) × (tree_value storing a s ≡ Ok x) × (tree_value storing b s ≡ Ok y)
IsEvaluatedIn (Shift op t a b) s = (x : ℤ) × (y : ℤ) × (tree_value storing a s ≡ Ok x) × (tree_value storing b s ≡ Ok y)
IsEvaluatedIn (Assertion e) s = (z : ℤ) × (tree_value storing e s ≡ Ok z)

-- It comes there, and the operation faults: an index is none of 0 to n - 1, a divisor is 0, a result lies outside of its type, a shift has no value, an assertion is false.
abbrev pub FaultsIn : OperationOf → Stored → Type 0
FaultsIn (Index n i) s = (z : ℤ) × (tree_value storing i s ≡ Ok z) × (is_index n z ≡ false)
FaultsIn (Divisor a b) s =
    (x : ℤ) × (y : ℤ) × (tree_value storing a s ≡ Ok x) × (tree_value storing b s ≡ Ok y) × (y ≡ pos 0)
FaultsIn (Negation t e) s = (x : ℤ) × (tree_value storing e s ≡ Ok x) × (value_of Neg t x x ≡ Err faults.Overflow)
FaultsIn (Result op t a b) s =
    (x : ℤ) × (y : ℤ) × (tree_value storing a s ≡ Ok x) × (tree_value storing b s ≡ Ok y)
    × (value_of op t x y ≡ Err faults.Overflow)
FaultsIn (Shift op t a b) s =
    (x : ℤ) × (y : ℤ) × (tree_value storing a s ≡ Ok x) × (tree_value storing b s ≡ Ok y)
    × (value_of op t x y ≡ Err faults.Shift)
FaultsIn (Assertion e) s = (z : ℤ) × (tree_value storing e s ≡ Ok z) × (is_true z ≡ false)

-- the verdict on an access, by the reduced state of its point, holds in a store
pub record IsRightIn (a : Flow) (it : Outcome (Cell Stated)) (access : AccessOf) (s : Stored) : Type 0 where
  pub safe : verdict_of a.layout (reduced_at_point a it access.point) access.operation ≡ Safe →
      FaultsIn access.operation s → ⊥
  pub unreachable : verdict_of a.layout (reduced_at_point a it access.point) access.operation ≡ Unreachable →
      IsEvaluatedIn access.operation s → ⊥

-- No run faults at an access that is safe, and none evaluates one that is unreachable.
abbrev pub VerdictsHold : Type 0
VerdictsHold =
    (g : GraphOf) (o : Options) (p : PlanView) (order : Level) (a : Flow) (most : ℕ) (it : Outcome (Cell Stated)) →
    IsAnalysed g o p order a most it
    → (access : AccessOf) (s : Stored) → Contains (accesses_of g) access → Reaches g access.point s →
    IsRightIn a it access s
