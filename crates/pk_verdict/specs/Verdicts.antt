-- The verdict on an access, by what is known at its point.
use Rattle.std.specs.Prelude.{Bool, true, false, not, ◌&&◌, ◌||◌, if◌then◌else◌, ℤ, pos, negsuc, ◌-ℤ◌, int_le, int_lt, Option, Some, None}
use Rattle.pk_ctypes.specs.declared.types.IntType.{IntType}
use Rattle.pk_ctypes.specs.declared.types.Op.{Op}
use Rattle.pk_ctypes.specs.declared.types.Op.TheVariants.{Div, Rem, Shl, Neg}
use Rattle.pk_ctypes.specs.Types.{low_of, high_of, width_of, is_signed_of}
use Rattle.pk_interval.specs.declared.outcome.Outcome.{Outcome}
use Rattle.pk_interval.specs.declared.outcome.Outcome.TheVariants.{Empty, Within, TooLarge}
use Rattle.pk_interval.specs.Ranges.{Range}
use Rattle.pk_interval.specs.Operators.{range_of}
use Rattle.pk_congr.specs.Classes.{has_member}
use Rattle.pk_graph.specs.declared.verdicts.Verdict.{Verdict}
use Rattle.pk_graph.specs.declared.verdicts.Verdict.TheVariants.{Safe, Unknown, Unreachable}
use Rattle.pk_graph.specs.Trees.{Guard}
use Rattle.pk_graph.specs.Kinds.{Kinds, IsTyped, IsOfType, IsRight, type_of}
use Rattle.pk_graph.specs.Accesses.{OperationOf, Index, Divisor, Negation, Result, Shift, Assertion}
use Rattle.pk_value.specs.Known.{Known}
use Rattle.pk_state.specs.Layouts.{Layout}
use Rattle.pk_state.specs.Facts.{Facts}
use Rattle.pk_state.specs.Changes.{known_in}
use Rattle.pk_transfer.specs.Trees.{tree_known}
use Rattle.pk_transfer.specs.Transfers.{transferred}

-- safe where the test holds, else the bounds of what decides it
abbrev pub safe_if : Bool → Range → Verdict
safe_if true r = Safe
safe_if false r = Unknown r.lo r.hi

-- no run comes to an operation of which an operand has no value
abbrev pub told_of : Option Known → (Known → Verdict) → Verdict
told_of None v = Unreachable
told_of (Some k) v = v k

-- all numbers lie from lo to hi
abbrev pub lies_in : ℤ → ℤ → Range → Bool
lies_in lo hi r = int_le lo r.lo && int_le r.hi hi

-- z isn't one of the numbers, by the range or by the class
abbrev pub excludes : Known → ℤ → Bool
excludes k z = int_lt z k.range.lo || int_lt k.range.hi z || not (has_member k.class z)

-- whether a result lies in its type, before it is clamped; only products of unsigned types are too large to be told
abbrev pub result_verdict : IntType → Outcome → Verdict
result_verdict t Empty = Unreachable
result_verdict t (Within r) = safe_if (lies_in (low_of t) (high_of t) r) r
result_verdict t TooLarge = Unknown (low_of t) (high_of t)

-- a quotient lies outside of a signed type only where its least number is divided by -1; then the rest faults too
abbrev pub quotient_verdict : IntType → Known → Known → Verdict
quotient_verdict t a b = safe_if (excludes a (low_of t) || excludes b (negsuc 0)) a.range

abbrev pub ranged_verdict : Op → IntType → Known → Known → Verdict
ranged_verdict op t a b = result_verdict t (range_of op t a.range b.range)

abbrev pub operator_verdict : Op → IntType → Known → Known → Verdict
operator_verdict Div t a b = quotient_verdict t a b
operator_verdict Rem t a b = quotient_verdict t a b
operator_verdict op t a b = ranged_verdict op t a b

-- the left operand and the result, where both may fail: of a left shift in a signed type
abbrev pub left_verdict : Bool → IntType → Known → Known → Verdict
left_verdict true t a b = if int_le (pos 0) a.range.lo then ranged_verdict Shl t a b else Unknown a.range.lo a.range.hi
left_verdict false t a b = Safe

abbrev pub moved_verdict : Op → IntType → Known → Known → Verdict
moved_verdict Shl t a b = left_verdict (is_signed_of t) t a b
moved_verdict op t a b = Safe

-- first the count, which lies from 0 to the width less 1
abbrev pub shift_verdict : Op → IntType → Known → Known → Verdict
shift_verdict op t a b =
    if lies_in (pos 0) (pos (width_of t) -ℤ pos 1) b.range then moved_verdict op t a b
    else Unknown b.range.lo b.range.hi

-- nothing is left of a state
abbrev pub nothing_in : Option Facts → Bool
nothing_in None = true
nothing_in (Some f) = false

-- An operation at a point of which this is known, and it isn't that no run comes there: an index (C99 6.5.6), a divisor of 0 (6.5.5), a result outside of its type (6.5), a shift (6.5.7), and an
-- assertion, which holds where the guard that it is false leaves no store.
abbrev pub operation_verdict : Layout → Option Facts → OperationOf → Verdict
operation_verdict y f (Index n i) =
    told_of (tree_known (known_in f) i) (λ k. safe_if (lies_in (pos 0) (pos n -ℤ pos 1) k.range) k.range)
operation_verdict y f (Divisor a b) =
    told_of (tree_known (known_in f) a)
    (λ j. told_of (tree_known (known_in f) b) (λ k. safe_if (excludes k (pos 0)) k.range))
operation_verdict y f (Negation t e) = told_of (tree_known (known_in f) e) (λ k. ranged_verdict Neg t k k)
operation_verdict y f (Result op t a b) =
    told_of (tree_known (known_in f) a) (λ j. told_of (tree_known (known_in f) b) (operator_verdict op t j))
operation_verdict y f (Shift op t a b) =
    told_of (tree_known (known_in f) a) (λ j. told_of (tree_known (known_in f) b) (shift_verdict op t j))
operation_verdict y f (Assertion e) =
    told_of (tree_known (known_in f) e) (λ k. safe_if (nothing_in (transferred y f (Guard e false))) k.range)

abbrev pub verdict_of : Layout → Option Facts → OperationOf → Verdict
verdict_of y None o = Unreachable
verdict_of y (Some f) o = operation_verdict y (Some f) o

-- operands that agree with a table of the variables
abbrev pub IsTypedOperation : Kinds → OperationOf → Type 0
IsTypedOperation ks (Index n i) = IsTyped ks i
IsTypedOperation ks (Divisor a b) = IsTyped ks a × IsTyped ks b
IsTypedOperation ks (Negation t e) = IsOfType ks t e
IsTypedOperation ks (Result op t a b) = IsOfType ks t a × IsTyped ks b × IsRight op t (type_of ks b)
IsTypedOperation ks (Shift op t a b) = IsOfType ks t a × IsTyped ks b × IsRight op t (type_of ks b)
IsTypedOperation ks (Assertion e) = IsTyped ks e
