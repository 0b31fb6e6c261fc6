-- What decides an operation lies between the bounds of its verdict.
use Rattle.std.specs.Prelude.{◌≡◌, ◌⊎◌, ◌||◌, ℕ, ◌-◌, ◌*◌, ◌<◌, ◌≤◌, ◌^◌, Bool, true, false, if◌then◌else◌, nat_lt, ℤ, pos, negsuc, ◌-ℤ◌, ◌*ℤ◌, ◌≤ℤ◌, int_le, unsigned_abs, Option, Some, None, IfSome, Ok}
use Rattle.std.proofs.Common.{arith, refl, subst, ap, ◌∙◌, inl, inr}
use Rattle.std.proofs.Math.Nat.{mul-le-mul_left}
use Rattle.std.proofs.lemmas.Bool.Decides.{nat_tests}
use Rattle.std.proofs.lemmas.Int.{ints, unsigned_abs-mul}
use Rattle.std.proofs.lemmas.List.Elements.{All-contains}
use Rattle.pk_ctypes.specs.declared.types.IntType.{IntType}
use Rattle.pk_ctypes.specs.declared.types.IntType.TheVariants.{Char, SChar, UChar, Short, UShort, Int, UInt, Long, ULong, LLong, ULLong}
use Rattle.pk_ctypes.specs.declared.types.Op.{Op}
use Rattle.pk_ctypes.specs.declared.types.Op.TheVariants.{Add, Sub, Mul, Div, Rem, Shl, Shr, And, Or, Xor, Lt, Gt, Le, Ge, Eq, Ne, Neg, BitNot, Not}
use Rattle.pk_ctypes.specs.Types.{low_of, high_of, width_of, is_signed_of, InType}
use Rattle.pk_interval.specs.declared.outcome.Outcome.{Outcome}
use Rattle.pk_interval.specs.declared.outcome.Outcome.TheVariants.{Empty, Within, TooLarge}
use Rattle.pk_interval.specs.Ranges.{Range}
use Rattle.pk_interval.specs.Operators.{range_of, within_if, product_of, hull_if, range_product, left_by, shiftable, counts_of}
use Rattle.pk_interval.specs.Laws.{KnownBy}
use Rattle.pk_graph.specs.declared.verdicts.Verdict.{Verdict}
use Rattle.pk_graph.specs.declared.verdicts.Verdict.TheVariants.{Unknown}
use Rattle.pk_graph.specs.Trees.{TreeOf, Guard}
use Rattle.pk_graph.specs.Graphs.{GraphOf, kinds_of}
use Rattle.pk_graph.specs.Kinds.{Kinds, type_of, IsTyped, IsOfType, IsRight}
use Rattle.pk_graph.specs.Steps.{tree_value}
use Rattle.pk_graph.specs.Stores.{Stored, storing, IsStore}
use Rattle.pk_graph.specs.Accesses.{OperationOf, Index, Divisor, Negation, Result, Shift, Assertion, accesses_of}
use Rattle.pk_value.specs.Known.{Known, IsOf, IsOneOf}
use Rattle.pk_state.specs.Layouts.{Layout, IsLayout}
use Rattle.pk_state.specs.Facts.{Facts, AreFactsIf}
use Rattle.pk_state.specs.Members.{Member}
use Rattle.pk_state.specs.Reduced.{reduced}
use Rattle.pk_octagons.specs.Values.{IsValue}
use Rattle.pk_state.specs.Changes.{known_in}
use Rattle.pk_state.proofs.Held.{facts_stay}
use Rattle.pk_state.proofs.Sound.{states_sound}
use Rattle.pk_transfer.specs.Slots.{spread}
use Rattle.pk_transfer.specs.Trees.{tree_known, IsOver}
use Rattle.pk_transfer.specs.Transfers.{transferred}
use Rattle.pk_verdict.specs.Verdicts.{safe_if, told_of, lies_in, excludes, result_verdict, ranged_verdict, operator_verdict, left_verdict, moved_verdict, shift_verdict, nothing_in, operation_verdict, verdict_of, IsTypedOperation}
use Rattle.pk_sound.specs.Runs.{Reaches}
use Rattle.pk_sound.specs.Results.{known_at_point}
use Rattle.pk_sound.specs.Bounds.{ValuesLie, NumbersLie, ResultLies, dividend, number, CountsLie, ShiftLies, count, left, shifted, IsDecidedWithin, BoundsHold}
use Rattle.pk_sound.proofs.Accesses.{HasResult, IsShift, HasKind, IsAccess, accesses_are}
use Rattle.pk_sound.specs.FamilyRuns.{FamiliesBound}
use Rattle.pk_sound.proofs.Holding.{reached, results_are_families}
use Rattle.pk_sound.proofs.Judging.{bounded, IsLeft, IsRightOf, exact_known, one_of, value_of_type, left_operand, right_operand}
use Rattle.pk_sound.proofs.Padding.{pad, tree_pad, kinds_up, store_up, over_up, operation_up}

-- ---- what tells an unknown verdict

unknown_if : (b : Bool) (r : Range) (lo hi : ℤ) → safe_if b r ≡ Unknown lo hi → (r.lo ≡ lo) × (r.hi ≡ hi)
unknown_if true r lo hi e = absurd (cc)
unknown_if false r lo hi e = (cc, cc)

told_some : (o : Option Known) (v : Known → Verdict) (lo hi : ℤ) → told_of o v ≡ Unknown lo hi → (k : Known) × (o ≡ Some k) × (v k ≡ Unknown lo hi)
told_some None v lo hi e = absurd (cc)
told_some (Some k) v lo hi e = (k, refl, e)

-- the verdict of a test, or of what is left where it holds
tested : (b : Bool) (v w : Verdict) (lo hi : ℤ) → (if b then v else w) ≡ Unknown lo hi → ((b ≡ true) × (v ≡ Unknown lo hi)) ⊎ ((b ≡ false) × (w ≡ Unknown lo hi))
tested true v w lo hi e = inl (refl, e)
tested false v w lo hi e = inr (refl, e)

same_bounds : (l h lo hi : ℤ) → (let v : Verdict = Unknown l h in v ≡ Unknown lo hi) → (l ≡ lo) × (h ≡ hi)
same_bounds l h lo hi e = (cc, cc)

-- ---- products of a signed type can be held

widest : (t : IntType) → is_signed_of t ≡ true → (negsuc (2 ^ 63 - 1) ≤ℤ low_of t) × (high_of t ≤ℤ pos (2 ^ 63 - 1))
widest Char s = (omega (arith, ints), omega (arith, ints))
widest SChar s = (omega (arith, ints), omega (arith, ints))
widest Short s = (omega (arith, ints), omega (arith, ints))
widest Int s = (omega (arith, ints), omega (arith, ints))
widest Long s = (omega (arith, ints), omega (arith, ints))
widest LLong s = (omega (arith, ints), omega (arith, ints))
widest UChar s = absurd (cc)
widest UShort s = absurd (cc)
widest UInt s = absurd (cc)
widest ULong s = absurd (cc)
widest ULLong s = absurd (cc)

size_of : (z : ℤ) → negsuc (2 ^ 63 - 1) ≤ℤ z → z ≤ℤ pos (2 ^ 63 - 1) → unsigned_abs z ≤ 2 ^ 63
size_of (pos n) from to = omega (arith, ints, to)
size_of (negsuc n) from to = omega (arith, ints, from)

sized : (t : IntType) (z : ℤ) → is_signed_of t ≡ true → InType t z → unsigned_abs z ≤ 2 ^ 63
sized t z s h = let w = widest t s in size_of z (omega (arith, ints, w.0, h.from)) (omega (arith, ints, w.1, h.to))

product_held : (t : IntType) (x y : ℤ) → is_signed_of t ≡ true → InType t x → InType t y → product_of x y ≡ Some (x *ℤ y)
product_held t x y s h k =
    let a = sized t x s h in
    let b = sized t y s k in
    let rows : unsigned_abs x * unsigned_abs y ≤ unsigned_abs x * 2 ^ 63 = mul-le-mul_left (unsigned_abs x) b in
    let small : unsigned_abs (x *ℤ y) < 2 ^ 127 = omega (arith, unsigned_abs-mul x y, rows, a) in
    let test : nat_lt (unsigned_abs (x *ℤ y)) (2 ^ 127) ≡ true = grind (arith, nat_tests, small) in
    ap (λ (c : Bool). if c then Some (x *ℤ y) else None) test

not_large : (p q r s : ℤ) (o1 o2 o3 o4 : Option ℤ) → o1 ≡ Some p → o2 ≡ Some q → o3 ≡ Some r → o4 ≡ Some s → hull_if o1 o2 o3 o4 ≡ TooLarge → ⊥
not_large p q r s o1 o2 o3 o4 e f g h large =
    let first : hull_if (Some p) o2 o3 o4 ≡ TooLarge = subst (λ (o : Option ℤ). hull_if o o2 o3 o4 ≡ TooLarge) e large in
    let second : hull_if (Some p) (Some q) o3 o4 ≡ TooLarge = subst (λ (o : Option ℤ). hull_if (Some p) o o3 o4 ≡ TooLarge) f first in
    let third : hull_if (Some p) (Some q) (Some r) o4 ≡ TooLarge = subst (λ (o : Option ℤ). hull_if (Some p) (Some q) o o4 ≡ TooLarge) g second in
    let last : hull_if (Some p) (Some q) (Some r) (Some s) ≡ TooLarge = subst (λ (o : Option ℤ). hull_if (Some p) (Some q) (Some r) o ≡ TooLarge) h third in
    absurd (cc last)

within_not_large : (o : Option Range) → within_if o ≡ TooLarge → ⊥
within_not_large None e = cc
within_not_large (Some r) e = cc

-- ---- results

result_lies : (t : IntType) (o : Outcome) (z lo hi : ℤ) → KnownBy o z → (o ≡ TooLarge → ⊥) → result_verdict t o ≡ Unknown lo hi → (lo ≤ℤ z) × (z ≤ℤ hi)
result_lies t Empty z lo hi k few e = absurd k
result_lies t (Within r) z lo hi k few e =
    let same = unknown_if (lies_in (low_of t) (high_of t) r) r lo hi e in
    (subst (λ (l : ℤ). l ≤ℤ z) same.0 k.from, subst (λ (h : ℤ). z ≤ℤ h) same.1 k.to)
result_lies t TooLarge z lo hi k few e = absurd (few refl)

module _ (g : GraphOf) (p : ℕ) (ks : Kinds) (y : Layout) (f : Facts) (over : IsOver ks y) (lay : IsLayout y) (held : (s : Stored) → Reaches g p s → AreFactsIf y (Some f) × Member y (Some f) (spread (pad s)) × IsStore ks (pad s)) where
  abbrev known : TreeOf ℕ → Option Known
  known e = tree_known (known_in (Some f)) e

  -- what is known of a tree has its value in each run
  holds : (e : TreeOf ℕ) (k : Known) (s : Stored) (z : ℤ) → IsTyped ks e → known e ≡ Some k → Reaches g p s → tree_value storing e s ≡ Ok z → IsOf k z
  holds e k s z h is run v = let m = held s run in subst (λ (o : Option Known). IsOneOf o z) is (one_of ks y f (pad s) over lay m.0 m.1 m.2 e z h (tree_pad e s ∙ v))

  valued : (e : TreeOf ℕ) (k : Known) (s : Stored) → IsTyped ks e → known e ≡ Some k → Reaches g p s → IsValue (type_of ks e) k
  valued e k s h is run = let m = held s run in subst (λ (o : Option Known). IfSome o (IsValue (type_of ks e))) is (value_of_type ks y f (pad s) over lay m.0 m.1 m.2 e h)

  values_lie : (e : TreeOf ℕ) (k : Known) (lo hi : ℤ) → IsTyped ks e → known e ≡ Some k → (k.range.lo ≡ lo) × (k.range.hi ≡ hi) → ValuesLie g p e lo hi
  values_lie e k lo hi h is same s z run v =
      let o = holds e k s z h is run v in
      (subst (λ (l : ℤ). l ≤ℤ z) same.0 o.in_range.from, subst (λ (u : ℤ). z ≤ℤ u) same.1 o.in_range.to)

  first_of : (t : IntType) (e : TreeOf ℕ) (k : Known) (s : Stored) (z : ℤ) → IsOfType ks t e → known e ≡ Some k → Reaches g p s → tree_value storing e s ≡ Ok z → IsLeft t k z
  first_of t e k s z h is run v =
      let m = held s run in
      left_operand ks y f (pad s) over lay m.0 m.1 m.2 t e k z h (tree_pad e s ∙ v) (holds e k s z h.typed is run v) (valued e k s h.typed is run)

  second_of : (op : Op) (t : IntType) (e : TreeOf ℕ) (k : Known) (s : Stored) (z : ℤ) → IsTyped ks e → IsRight op t (type_of ks e) → known e ≡ Some k → Reaches g p s → tree_value storing e s ≡ Ok z → IsRightOf op t k z
  second_of op t e k s z h r is run v =
      let m = held s run in
      right_operand ks y f (pad s) over lay m.0 m.1 m.2 op t e k z h r (tree_pad e s ∙ v) (holds e k s z h is run v) (valued e k s h is run)

  -- an operator that is told by its number
  numbers_lie : (op : Op) (t : IntType) (c d : TreeOf ℕ) (j k : Known) (lo hi : ℤ) → IsOfType ks t c → IsTyped ks d → IsRight op t (type_of ks d) → known c ≡ Some j → known d ≡ Some k
      → ((x y : ℤ) → IsLeft t j x → IsRightOf op t k y → range_of op t j.range k.range ≡ TooLarge → ⊥) → ranged_verdict op t j k ≡ Unknown lo hi → NumbersLie g p op t c d lo hi
  numbers_lie op t c d j k lo hi h i r cj dk few v s x z u run vx vz eu =
      let l = first_of t c j s x h cj run vx in
      let w = second_of op t d k s z i r dk run vz in
      result_lies t (range_of op t j.range k.range) u lo hi (exact_known op t j k x z u l w eu) (few x z l w) v

  -- a product of a signed type
  few_products : (t : IntType) (j k : Known) → is_signed_of t ≡ true → (x y : ℤ) → IsLeft t j x → IsRightOf Mul t k y → range_product j.range k.range ≡ TooLarge → ⊥
  few_products t j k sign x z l w large =
      not_large _ _ _ _ _ _ _ _
      (product_held t j.range.lo k.range.lo sign l.inside.from w.inside.from)
      (product_held t j.range.lo k.range.hi sign l.inside.from w.inside.to)
      (product_held t j.range.hi k.range.lo sign l.inside.to w.inside.from)
      (product_held t j.range.hi k.range.hi sign l.inside.to w.inside.to) large

  result_lies_in : (op : Op) (t : IntType) (c d : TreeOf ℕ) (j k : Known) (lo hi : ℤ) → HasResult op → is_signed_of t ≡ true → IsOfType ks t c → IsTyped ks d → IsRight op t (type_of ks d) → known c ≡ Some j → known d ≡ Some k
      → operator_verdict op t j k ≡ Unknown lo hi → ResultLies g p op t c d lo hi
  result_lies_in Add t c d j k lo hi n sign h i r cj dk v = number (inl refl) (numbers_lie Add t c d j k lo hi h i r cj dk (λ x y l w e. cc) v)
  result_lies_in Sub t c d j k lo hi n sign h i r cj dk v = number (inr (inl refl)) (numbers_lie Sub t c d j k lo hi h i r cj dk (λ x y l w e. cc) v)
  result_lies_in Mul t c d j k lo hi n sign h i r cj dk v = number (inr (inr refl)) (numbers_lie Mul t c d j k lo hi h i r cj dk (few_products t j k sign) v)
  result_lies_in Div t c d j k lo hi n sign h i r cj dk v = dividend (inl refl) (values_lie c j lo hi h.typed cj (unknown_if (excludes j (low_of t) || excludes k (negsuc 0)) j.range lo hi v))
  result_lies_in Rem t c d j k lo hi n sign h i r cj dk v = dividend (inr refl) (values_lie c j lo hi h.typed cj (unknown_if (excludes j (low_of t) || excludes k (negsuc 0)) j.range lo hi v))
  result_lies_in Shl t c d j k lo hi n sign h i r cj dk v = absurd n
  result_lies_in Shr t c d j k lo hi n sign h i r cj dk v = absurd n
  result_lies_in And t c d j k lo hi n sign h i r cj dk v = absurd n
  result_lies_in Or t c d j k lo hi n sign h i r cj dk v = absurd n
  result_lies_in Xor t c d j k lo hi n sign h i r cj dk v = absurd n
  result_lies_in Lt t c d j k lo hi n sign h i r cj dk v = absurd n
  result_lies_in Gt t c d j k lo hi n sign h i r cj dk v = absurd n
  result_lies_in Le t c d j k lo hi n sign h i r cj dk v = absurd n
  result_lies_in Ge t c d j k lo hi n sign h i r cj dk v = absurd n
  result_lies_in Eq t c d j k lo hi n sign h i r cj dk v = absurd n
  result_lies_in Ne t c d j k lo hi n sign h i r cj dk v = absurd n
  result_lies_in Neg t c d j k lo hi n sign h i r cj dk v = absurd n
  result_lies_in BitNot t c d j k lo hi n sign h i r cj dk v = absurd n
  result_lies_in Not t c d j k lo hi n sign h i r cj dk v = absurd n

  -- ---- shifts

  counts_lie : (t : IntType) (d : TreeOf ℕ) (k : Known) → IsTyped ks d → known d ≡ Some k → lies_in (pos 0) (pos (width_of t) -ℤ pos 1) k.range ≡ true → CountsLie g p t d
  counts_lie t d k i dk inside s z run v = bounded (pos 0) (pos (width_of t) -ℤ pos 1) z k.range inside (holds d k s z i dk run v).in_range

  left_lies : (b : Bool) (t : IntType) (c d : TreeOf ℕ) (j k : Known) (lo hi : ℤ) → IsOfType ks t c → IsTyped ks d → known c ≡ Some j → known d ≡ Some k → CountsLie g p t d
      → left_verdict b t j k ≡ Unknown lo hi → ShiftLies g p Shl t c d lo hi
  left_lies false t c d j k lo hi h i cj dk counts v = absurd (cc)
  left_lies true t c d j k lo hi h i cj dk counts v =
      elim (tested (int_le (pos 0) j.range.lo) (ranged_verdict Shl t j k) (Unknown j.range.lo j.range.hi) lo hi v) [
        | inl natural ↦ shifted counts (numbers_lie Shl t c d j k lo hi h i tt cj dk (λ x y l w e. within_not_large (left_by (shiftable j.range) (counts_of t k.range)) e) natural.1)
        | inr negative ↦ left counts (values_lie c j lo hi h.typed cj (same_bounds j.range.lo j.range.hi lo hi negative.1))
      ]

  moved_lies : (op : Op) (t : IntType) (c d : TreeOf ℕ) (j k : Known) (lo hi : ℤ) → IsShift op → IsOfType ks t c → IsTyped ks d → known c ≡ Some j → known d ≡ Some k → CountsLie g p t d
      → moved_verdict op t j k ≡ Unknown lo hi → ShiftLies g p op t c d lo hi
  moved_lies Shl t c d j k lo hi n h i cj dk counts v = left_lies (is_signed_of t) t c d j k lo hi h i cj dk counts v
  moved_lies Shr t c d j k lo hi n h i cj dk counts v = absurd (cc)
  moved_lies Add t c d j k lo hi n h i cj dk counts v = absurd n
  moved_lies Sub t c d j k lo hi n h i cj dk counts v = absurd n
  moved_lies Mul t c d j k lo hi n h i cj dk counts v = absurd n
  moved_lies Div t c d j k lo hi n h i cj dk counts v = absurd n
  moved_lies Rem t c d j k lo hi n h i cj dk counts v = absurd n
  moved_lies And t c d j k lo hi n h i cj dk counts v = absurd n
  moved_lies Or t c d j k lo hi n h i cj dk counts v = absurd n
  moved_lies Xor t c d j k lo hi n h i cj dk counts v = absurd n
  moved_lies Lt t c d j k lo hi n h i cj dk counts v = absurd n
  moved_lies Gt t c d j k lo hi n h i cj dk counts v = absurd n
  moved_lies Le t c d j k lo hi n h i cj dk counts v = absurd n
  moved_lies Ge t c d j k lo hi n h i cj dk counts v = absurd n
  moved_lies Eq t c d j k lo hi n h i cj dk counts v = absurd n
  moved_lies Ne t c d j k lo hi n h i cj dk counts v = absurd n
  moved_lies Neg t c d j k lo hi n h i cj dk counts v = absurd n
  moved_lies BitNot t c d j k lo hi n h i cj dk counts v = absurd n
  moved_lies Not t c d j k lo hi n h i cj dk counts v = absurd n

  shift_lies : (op : Op) (t : IntType) (c d : TreeOf ℕ) (j k : Known) (lo hi : ℤ) → IsShift op → IsOfType ks t c → IsTyped ks d → known c ≡ Some j → known d ≡ Some k
      → shift_verdict op t j k ≡ Unknown lo hi → ShiftLies g p op t c d lo hi
  shift_lies op t c d j k lo hi n h i cj dk v =
      elim (tested (lies_in (pos 0) (pos (width_of t) -ℤ pos 1) k.range) (moved_verdict op t j k) (Unknown k.range.lo k.range.hi) lo hi v) [
        | inl inside ↦ moved_lies op t c d j k lo hi n h i cj dk (counts_lie t d k i dk inside.0) inside.1
        | inr outside ↦ count (values_lie d k lo hi i dk (same_bounds k.range.lo k.range.hi lo hi outside.1))
      ]

  -- ---- each operation

  decided : (o : OperationOf) (lo hi : ℤ) → IsTypedOperation ks o → HasKind o → operation_verdict y (Some f) o ≡ Unknown lo hi → IsDecidedWithin g p o lo hi
  decided (Index n i) lo hi h k v =
      let one = told_some (known i) (λ k. safe_if (lies_in (pos 0) (pos n -ℤ pos 1) k.range) k.range) lo hi v in
      values_lie i one.0 lo hi h one.1 (unknown_if (lies_in (pos 0) (pos n -ℤ pos 1) one.0.range) one.0.range lo hi one.2)
  decided (Divisor c d) lo hi h k v =
      let one = told_some (known c) (λ j. told_of (known d) (λ k. safe_if (excludes k (pos 0)) k.range)) lo hi v in
      let two = told_some (known d) (λ k. safe_if (excludes k (pos 0)) k.range) lo hi one.2 in
      values_lie d two.0 lo hi h.1 two.1 (unknown_if (excludes two.0 (pos 0)) two.0.range lo hi two.2)
  decided (Negation t e) lo hi h k v = λ s x z u run vx vz eu.
      let one = told_some (known e) (λ k. ranged_verdict Neg t k k) lo hi v in
      let l = first_of t e one.0 s x h one.1 run vx in
      result_lies t (range_of Neg t one.0.range one.0.range) u lo hi (exact_known Neg t one.0 one.0 x x u l (record { inside = tt; of = holds e one.0 s x h.typed one.1 run vx; typed = tt }) eu) (λ e. cc) one.2
  decided (Result op t c d) lo hi h k v =
      let one = told_some (known c) (λ j. told_of (known d) (operator_verdict op t j)) lo hi v in
      let two = told_some (known d) (operator_verdict op t one.0) lo hi one.2 in
      result_lies_in op t c d one.0 two.0 lo hi k.0 k.1 h.0 h.1 h.2 one.1 two.1 two.2
  decided (Shift op t c d) lo hi h k v =
      let one = told_some (known c) (λ j. told_of (known d) (shift_verdict op t j)) lo hi v in
      let two = told_some (known d) (shift_verdict op t one.0) lo hi one.2 in
      shift_lies op t c d one.0 two.0 lo hi k h.0 h.1 one.1 two.1 two.2
  decided (Assertion e) lo hi h k v =
      let one = told_some (known e) (λ k. safe_if (nothing_in (transferred y (Some f) (Guard e false))) k.range) lo hi v in
      values_lie e one.0 lo hi h one.1 (unknown_if (nothing_in (transferred y (Some f) (Guard e false))) one.0.range lo hi one.2)

pub families_bound : FamiliesBound
families_bound g l known made_of solved access lo hi has v = by (reduced l (known access.point)) refl v
  where
    made : IsAccess g access
    made = All-contains (IsAccess g) (accesses_of g) access (accesses_are g made_of.graph) has

    held : (f : Option Facts) → reduced l (known access.point) ≡ f → (s : Stored) → Reaches g access.point s → AreFactsIf l f × Member l f (spread (pad s)) × IsStore (kinds_up (kinds_of g)) (pad s)
    held f same s run =
        let at = reached g l known made_of solved access.point s run in
        let facts = solved.facts access.point at.point in (
          subst (AreFactsIf l) same (facts_stay.reductions l (known access.point) made_of.layout facts),
          subst (λ (e : Option Facts). Member l e (spread (pad s))) same (states_sound.kept l (known access.point) (spread (pad s)) made_of.layout facts at.member),
          store_up (kinds_of g) s at.store,
        )

    by : (f : Option Facts) → reduced l (known access.point) ≡ f → verdict_of l f access.operation ≡ Unknown lo hi → IsDecidedWithin g access.point access.operation lo hi
    by None same e = absurd (cc)
    by (Some f) same e =
        decided g access.point (kinds_up (kinds_of g)) l f (over_up (kinds_of g) l made_of.over) made_of.layout (held (Some f) same) access.operation lo hi (operation_up (kinds_of g) access.operation made.typed) made.kind e

pub bounds_hold : BoundsHold
bounds_hold g o p order a most it is =
    let family = results_are_families g o p order a most it is in
    families_bound g a.layout (known_at_point a it) family.laid_out family.solved
