-- What lies between the bounds of an unknown verdict.
use Rattle.std.specs.Prelude.{◌≡◌, ◌⊎◌, ℕ, ℤ, pos, ◌-ℤ◌, ◌≤ℤ◌, Ok, Contains}
use Rattle.pk_ctypes.specs.declared.types.IntType.{IntType}
use Rattle.pk_ctypes.specs.declared.types.Op.{Op}
use Rattle.pk_ctypes.specs.declared.types.Op.TheVariants.{Add, Sub, Mul, Div, Rem, Neg}
use Rattle.pk_ctypes.specs.Types.{width_of}
use Rattle.pk_ctypes.specs.Operators.{exact}
use Rattle.pk_graph.specs.declared.verdicts.Verdict.TheVariants.{Unknown}
use Rattle.pk_graph.specs.Trees.{TreeOf}
use Rattle.pk_graph.specs.Graphs.{GraphOf}
use Rattle.pk_graph.specs.Steps.{tree_value}
use Rattle.pk_graph.specs.Stores.{Stored, storing}
use Rattle.pk_graph.specs.Accesses.{OperationOf, Index, Divisor, Negation, Result, Shift, Assertion, AccessOf, accesses_of}
use Rattle.pk_state.specs.Facts.{Stated}
use Rattle.pk_plan.specs.Order.{Level}
use Rattle.pk_plan.specs.Plans.{PlanView}
use Rattle.pk_verdict.specs.Verdicts.{verdict_of}
use Rattle.pk_iterate.specs.Outcome.{Outcome}
use Rattle.pk_phases.specs.declared.equations.Cell.{Cell}
use Rattle.pk_analysis.specs.declared.analysis.Options.{Options}
use Rattle.pk_analysis.specs.Flows.{Flow}
use Rattle.pk_sound.specs.Runs.{Reaches}
use Rattle.pk_sound.specs.Results.{IsAnalysed, reduced_at_point}

-- each value that a tree has where some run comes to the point lies from lo to hi
abbrev pub ValuesLie : GraphOf → ℕ → TreeOf ℕ → (lo hi : ℤ) → Type 0
ValuesLie g p e lo hi = (s : Stored) (z : ℤ) → Reaches g p s → tree_value storing e s ≡ Ok z → (lo ≤ℤ z) × (z ≤ℤ hi)

-- so does each number that an operator stands for there, before it is fitted to its type
abbrev pub NumbersLie : GraphOf → ℕ → Op → IntType → TreeOf ℕ → TreeOf ℕ → (lo hi : ℤ) → Type 0
NumbersLie g p op t a b lo hi =
    (s : Stored) (x y z : ℤ) → Reaches g p s → tree_value storing a s ≡ Ok x → tree_value storing b s ≡ Ok y →
    exact op t x y ≡ Ok z → (lo ≤ℤ z) × (z ≤ℤ hi)

-- Of a quotient or a rest, which overflows by its least dividend alone, it is the dividend; of a sum, a difference or a product the number itself.
pub data ResultLies (g : GraphOf) (p : ℕ) (op : Op) (t : IntType) (a b : TreeOf ℕ) (lo hi : ℤ) : Type 0 where
  dividend : (op ≡ Div) ⊎ (op ≡ Rem) → ValuesLie g p a lo hi → ResultLies g p op t a b lo hi
  number : (op ≡ Add) ⊎ ((op ≡ Sub) ⊎ (op ≡ Mul)) → NumbersLie g p op t a b lo hi → ResultLies g p op t a b lo hi

-- the count of a shift lies from 0 to the width less 1
abbrev pub CountsLie : GraphOf → ℕ → IntType → TreeOf ℕ → Type 0
CountsLie g p t b = ValuesLie g p b (pos 0) (pos (width_of t) -ℤ pos 1)

-- Of a shift it is the count; where that is always in range the left operand, or the number that the shift stands for.
pub data ShiftLies (g : GraphOf) (p : ℕ) (op : Op) (t : IntType) (a b : TreeOf ℕ) (lo hi : ℤ) : Type 0 where
  count : ValuesLie g p b lo hi → ShiftLies g p op t a b lo hi
  left : CountsLie g p t b → ValuesLie g p a lo hi → ShiftLies g p op t a b lo hi
  shifted : CountsLie g p t b → NumbersLie g p op t a b lo hi → ShiftLies g p op t a b lo hi

-- what decides an operation of the point lies from lo to hi: the index, the divisor, the result, the shift, the asserted value
abbrev pub IsDecidedWithin : GraphOf → ℕ → OperationOf → (lo hi : ℤ) → Type 0
IsDecidedWithin g p (Index n i) lo hi = ValuesLie g p i lo hi
IsDecidedWithin g p (Divisor a b) lo hi = ValuesLie g p b lo hi
IsDecidedWithin g p (Negation t e) lo hi = NumbersLie g p Neg t e e lo hi
IsDecidedWithin g p (Result op t a b) lo hi = ResultLies g p op t a b lo hi
IsDecidedWithin g p (Shift op t a b) lo hi = ShiftLies g p op t a b lo hi
IsDecidedWithin g p (Assertion e) lo hi = ValuesLie g p e lo hi

-- Where the verdict on an access is unknown, what decides it lies between its bounds, in every run.
abbrev pub BoundsHold : Type 0
BoundsHold =
    (g : GraphOf) (o : Options) (p : PlanView) (order : Level) (a : Flow) (most : ℕ) (it : Outcome (Cell Stated)) →
    IsAnalysed g o p order a most it
    → (access : AccessOf) (lo hi : ℤ) → Contains (accesses_of g) access →
    verdict_of a.layout (reduced_at_point a it access.point) access.operation ≡ Unknown lo hi →
    IsDecidedWithin g access.point access.operation lo hi
