-- The bounds of an unknown verdict are less than 2^127 from 0.
use Rattle.std.specs.Prelude.{ℕ, Bool, true, false, pos, ◌-ℤ◌, int_le, if◌then◌else◌, Option, Some, None, IfSome}
use Rattle.pk_ctypes.specs.declared.types.IntType.{IntType}
use Rattle.pk_ctypes.specs.declared.types.Op.{Op}
use Rattle.pk_ctypes.specs.declared.types.Op.TheVariants.{Add, Sub, Mul, Div, Rem, Shl, Shr, And, Or, Xor, Lt, Gt, Le, Ge, Eq, Ne, Neg, BitNot, Not}
use Rattle.pk_ctypes.specs.Types.{width_of, is_signed_of}
use Rattle.pk_interval.specs.declared.outcome.Outcome.{Outcome}
use Rattle.pk_interval.specs.declared.outcome.Outcome.TheVariants.{Empty, Within, TooLarge}
use Rattle.pk_interval.specs.Ranges.{Range, IsIn}
use Rattle.pk_interval.specs.Operators.{range_of, HasRightIn}
use Rattle.pk_graph.specs.declared.verdicts.Verdict.{Verdict}
use Rattle.pk_graph.specs.declared.verdicts.Verdict.TheVariants.{Safe, Unknown, Unreachable}
use Rattle.pk_graph.specs.Trees.{TreeOf, Guard}
use Rattle.pk_graph.specs.Kinds.{IsTyped, IsOfType, type_of}
use Rattle.pk_graph.specs.Accesses.{OperationOf, Index, Divisor, Negation, Result, Shift, Assertion}
use Rattle.pk_value.specs.Known.{Known}
use Rattle.pk_state.specs.Layouts.{Layout}
use Rattle.pk_state.specs.Facts.{Facts, AreFactsIf}
use Rattle.pk_octagons.specs.Values.{IsValue}
use Rattle.pk_state.specs.Changes.{known_in}
use Rattle.pk_transfer.specs.Trees.{tree_known, kinds_of}
use Rattle.pk_transfer.specs.Transfers.{transferred}
use Rattle.pk_transfer.proofs.Told.{in_wider, right_wider}
use Rattle.pk_verdict.specs.Verdicts as verdicts
use Rattle.pk_verdict.specs.Verdicts.{IsTypedOperation, operation_verdict}
use Rattle.pk_sound.proofs.Values_stay.{tree_stays}
use Rattle.pk_read_back_laws.proofs.BoundLemmas.{Small, AreSmall, IsSmall, in_small, whole_small, range_small}

abbrev pub IsSmallVerdict : Verdict → Type 0
IsSmallVerdict Safe = Unit {0}
IsSmallVerdict (Unknown lo hi) = Small lo × Small hi
IsSmallVerdict Unreachable = Unit {0}

range_in : (t : IntType) (r : Range) → IsIn t r → AreSmall r
range_in t r h = record { lo = in_small t r.lo h.from; hi = in_small t r.hi h.to }

safe_small : (b : Bool) (r : Range) → AreSmall r → IsSmallVerdict (verdicts.safe_if b r)
safe_small true r h = tt
safe_small false r h = (h.lo, h.hi)

told_small : (t : IntType) (o : Option Known) (v : Known → Verdict) → IfSome o (IsValue t) → ((k : Known) → IsValue t k → IsSmallVerdict (v k)) → IsSmallVerdict (verdicts.told_of o v)
told_small t None v h f = tt
told_small t (Some k) v h f = f k h

result_small : (t : IntType) (o : Outcome) → IsSmall o → IsSmallVerdict (verdicts.result_verdict t o)
result_small t Empty h = tt
result_small t (Within r) h = safe_small _ r h
result_small t TooLarge h = let all = whole_small t in (all.lo, all.hi)

ranged_small : (op : Op) (t : IntType) (a b : Known) → IsIn t a.range → HasRightIn op t b.range → IsSmallVerdict (verdicts.ranged_verdict op t a b)
ranged_small op t a b h k = result_small t (range_of op t a.range b.range) (range_small op t a.range b.range h k)

operator_small : (op : Op) (t : IntType) (a b : Known) → IsIn t a.range → HasRightIn op t b.range → IsSmallVerdict (verdicts.operator_verdict op t a b)
operator_small Add t a b h k = ranged_small Add t a b h k
operator_small Sub t a b h k = ranged_small Sub t a b h k
operator_small Mul t a b h k = ranged_small Mul t a b h k
operator_small Div t a b h k = safe_small _ a.range (range_in t a.range h)
operator_small Rem t a b h k = safe_small _ a.range (range_in t a.range h)
operator_small Shl t a b h k = ranged_small Shl t a b h k
operator_small Shr t a b h k = ranged_small Shr t a b h k
operator_small And t a b h k = ranged_small And t a b h k
operator_small Or t a b h k = ranged_small Or t a b h k
operator_small Xor t a b h k = ranged_small Xor t a b h k
operator_small Lt t a b h k = ranged_small Lt t a b h k
operator_small Gt t a b h k = ranged_small Gt t a b h k
operator_small Le t a b h k = ranged_small Le t a b h k
operator_small Ge t a b h k = ranged_small Ge t a b h k
operator_small Eq t a b h k = ranged_small Eq t a b h k
operator_small Ne t a b h k = ranged_small Ne t a b h k
operator_small Neg t a b h k = ranged_small Neg t a b h k
operator_small BitNot t a b h k = ranged_small BitNot t a b h k
operator_small Not t a b h k = ranged_small Not t a b h k

left_small : (signed : Bool) (t : IntType) (a b : Known) → IsIn t a.range → IsSmallVerdict (verdicts.left_verdict signed t a b)
left_small true t a b h = by (int_le (pos 0) a.range.lo)
  where
    by : (c : Bool) → IsSmallVerdict (if c then verdicts.ranged_verdict Shl t a b else Unknown a.range.lo a.range.hi)
    by true = ranged_small Shl t a b h tt
    by false = let all = range_in t a.range h in (all.lo, all.hi)
left_small false t a b h = tt

moved_small : (op : Op) (t : IntType) (a b : Known) → IsIn t a.range → IsSmallVerdict (verdicts.moved_verdict op t a b)
moved_small Add t a b h = tt
moved_small Sub t a b h = tt
moved_small Mul t a b h = tt
moved_small Div t a b h = tt
moved_small Rem t a b h = tt
moved_small Shl t a b h = left_small (is_signed_of t) t a b h
moved_small Shr t a b h = tt
moved_small And t a b h = tt
moved_small Or t a b h = tt
moved_small Xor t a b h = tt
moved_small Lt t a b h = tt
moved_small Gt t a b h = tt
moved_small Le t a b h = tt
moved_small Ge t a b h = tt
moved_small Eq t a b h = tt
moved_small Ne t a b h = tt
moved_small Neg t a b h = tt
moved_small BitNot t a b h = tt
moved_small Not t a b h = tt

shift_small : (op : Op) (t u : IntType) (a b : Known) → IsIn t a.range → IsIn u b.range → IsSmallVerdict (verdicts.shift_verdict op t a b)
shift_small op t u a b h k = by (verdicts.lies_in (pos 0) (pos (width_of t) -ℤ pos 1) b.range)
  where
    by : (c : Bool) → IsSmallVerdict (if c then verdicts.moved_verdict op t a b else Unknown b.range.lo b.range.hi)
    by true = moved_small op t a b h
    by false = let all = range_in u b.range k in (all.lo, all.hi)

-- ---- operations of which this is known

module _ (y : Layout) (f : Option Facts) (a : AreFactsIf y f) where
  value_is : (e : TreeOf ℕ) → IsTyped (kinds_of y) e → IfSome (tree_known (known_in f) e) (IsValue (type_of (kinds_of y) e))
  value_is e h = tree_stays y f e a h

  left_in : (t : IntType) (e : TreeOf ℕ) (k : Known) → IsOfType (kinds_of y) t e → IsValue (type_of (kinds_of y) e) k → IsIn t k.range
  left_in t e k h v = in_wider t (type_of (kinds_of y) e) k.range h.fits v.inside

  pub operation_small : (o : OperationOf) → IsTypedOperation (kinds_of y) o → IsSmallVerdict (operation_verdict y f o)
  operation_small (Index n i) h =
      told_small (type_of (kinds_of y) i) (tree_known (known_in f) i) (λ k. verdicts.safe_if (verdicts.lies_in (pos 0) (pos n -ℤ pos 1) k.range) k.range) (value_is i h)
      (λ k v. safe_small _ k.range (range_in (type_of (kinds_of y) i) k.range v.inside))
  operation_small (Divisor d e) h =
      told_small (type_of (kinds_of y) d) (tree_known (known_in f) d) (λ j. verdicts.told_of (tree_known (known_in f) e) (λ k. verdicts.safe_if (verdicts.excludes k (pos 0)) k.range)) (value_is d h.0)
      (λ j w. told_small (type_of (kinds_of y) e) (tree_known (known_in f) e) (λ k. verdicts.safe_if (verdicts.excludes k (pos 0)) k.range) (value_is e h.1)
      (λ k v. safe_small _ k.range (range_in (type_of (kinds_of y) e) k.range v.inside)))
  operation_small (Negation t e) h =
      told_small (type_of (kinds_of y) e) (tree_known (known_in f) e) (λ k. verdicts.ranged_verdict Neg t k k) (value_is e h.typed)
      (λ k v. ranged_small Neg t k k (left_in t e k h v) tt)
  operation_small (Result op t d e) h =
      told_small (type_of (kinds_of y) d) (tree_known (known_in f) d) (λ j. verdicts.told_of (tree_known (known_in f) e) (verdicts.operator_verdict op t j)) (value_is d h.0.typed)
      (λ j w. told_small (type_of (kinds_of y) e) (tree_known (known_in f) e) (verdicts.operator_verdict op t j) (value_is e h.1)
      (λ k v. operator_small op t j k (left_in t d j h.0 w) (right_wider op t (type_of (kinds_of y) e) k.range h.2 v.inside)))
  operation_small (Shift op t d e) h =
      told_small (type_of (kinds_of y) d) (tree_known (known_in f) d) (λ j. verdicts.told_of (tree_known (known_in f) e) (verdicts.shift_verdict op t j)) (value_is d h.0.typed)
      (λ j w. told_small (type_of (kinds_of y) e) (tree_known (known_in f) e) (verdicts.shift_verdict op t j) (value_is e h.1)
      (λ k v. shift_small op t (type_of (kinds_of y) e) j k (left_in t d j h.0 w) v.inside))
  operation_small (Assertion e) h =
      told_small (type_of (kinds_of y) e) (tree_known (known_in f) e) (λ k. verdicts.safe_if (verdicts.nothing_in (transferred y f (Guard e false))) k.range) (value_is e h)
      (λ k v. safe_small _ k.range (range_in (type_of (kinds_of y) e) k.range v.inside))

pub verdict_small : (y : Layout) (f : Option Facts) (o : OperationOf) → AreFactsIf y f → IsTypedOperation (kinds_of y) o → IsSmallVerdict (verdicts.verdict_of y f o)
verdict_small y None o a h = tt
verdict_small y (Some f) o a h = operation_small y (Some f) a o h
