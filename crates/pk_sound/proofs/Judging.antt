-- A verdict holds in each store of the state by which it is made.
use Rattle.std.specs.Prelude.{◌≡◌, ◌⊎◌, ℕ, ◌^◌, Bool, true, false, not, ◌&&◌, ◌||◌, if◌then◌else◌, ℤ, pos, negsuc, neg_ℤ, ◌+ℤ◌, ◌-ℤ◌, ◌*ℤ◌, ◌≤ℤ◌, int_le, int_lt, unsigned_abs, [], Option, Some, None, IfSome, Ok, Err}
use Rattle.std.specs.Int.{int_shr}
use Rattle.std.proofs.Common.{arith, refl, sym, subst, ◌∙◌, inl, inr}
use Rattle.std.proofs.lemmas.Int.{ints}
use Rattle.pk_ctypes.specs.declared.types.IntType.{IntType}
use Rattle.pk_ctypes.specs.declared.types.Op.{Op}
use Rattle.pk_ctypes.specs.declared.types.Op.TheVariants.{Add, Sub, Mul, Div, Rem, Shl, Shr, And, Or, Xor, Lt, Gt, Le, Ge, Eq, Ne, Neg, BitNot, Not}
use Rattle.pk_ctypes.specs.declared.faults.Fault.{Fault}
use Rattle.pk_ctypes.specs.declared.faults.Fault.TheVariants as faults
use Rattle.pk_ctypes.specs.Types.{low_of, high_of, width_of, is_signed_of, InType}
use Rattle.pk_ctypes.specs.Operators.{is_count, is_below_zero, exact, fitted, value_of, HasRight}
use Rattle.pk_ctypes.specs.Laws.{FaultsWith, sum_past, difference_past, product_past, negative_past, quotient_by_zero, rest_by_zero, quotient_past, rest_past, left_by_no_count, right_by_no_count, left_of_negative, left_past}
use Rattle.pk_ctypes.proofs.Faulting.{told}
use Rattle.pk_ctypes.proofs.Shifts as shifts
use Rattle.pk_ctypes.proofs.Values as values
use Rattle.pk_interval.specs.declared.outcome.Outcome.{Outcome}
use Rattle.pk_interval.specs.declared.outcome.Outcome.TheVariants.{Empty, Within, TooLarge}
use Rattle.pk_interval.specs.Ranges.{Range, Holds, IsIn}
use Rattle.pk_interval.specs.Operators.{range_of, HasRightIn}
use Rattle.pk_interval.specs.Laws.{KnownBy}
use Rattle.pk_interval.proofs.Sound.{sound as ranges_sound}
use Rattle.pk_congr.specs.Classes.{has_member}
use Rattle.pk_ctypes.proofs.Small.{both_true}
use Rattle.pk_congr.proofs.Order.{member}
use Rattle.pk_graph.specs.declared.verdicts.Verdict.{Verdict}
use Rattle.pk_graph.specs.declared.verdicts.Verdict.TheVariants.{Safe, Unknown, Unreachable}
use Rattle.pk_graph.specs.Trees.{TreeOf, Guard}
use Rattle.pk_graph.specs.Kinds.{Kinds, type_of, IsTyped, IsOfType, IsRight}
use Rattle.pk_graph.specs.Steps.{tree_value, is_true, is_index, To, effect}
use Rattle.pk_graph.specs.Stores.{Stored, storing, IsStore}
use Rattle.pk_graph.specs.Accesses.{OperationOf, Index, Divisor, Negation, Result, Shift, Assertion}
use Rattle.pk_value.specs.Known.{Known, IsOf, IsOneOf}
use Rattle.pk_state.specs.Layouts.{Layout, IsLayout}
use Rattle.pk_state.specs.Facts.{Facts, AreFactsIf}
use Rattle.pk_state.specs.Members.{Member}
use Rattle.pk_state.specs.Reduced.{reduced}
use Rattle.pk_octagons.specs.Values.{IsValue}
use Rattle.pk_state.specs.Changes.{known_in}
use Rattle.pk_state.proofs.Held.{facts_stay}
use Rattle.pk_graph_step.proofs.TypedLemmas.{typed_value, binary_right as right_value}
use Rattle.pk_transfer.specs.Slots.{spread}
use Rattle.pk_transfer.specs.Trees.{tree_known, IsOver}
use Rattle.pk_transfer.proofs.Slotting.{counts_of}
use Rattle.pk_transfer.proofs.Spreading.{tree_spread}
use Rattle.pk_transfer.specs.Transfers.{transferred}
use Rattle.pk_transfer.proofs.Keeping.{transferred_keeps}
use Rattle.pk_transfer.proofs.Told.{typed_in, trees_sound, in_wider, right_wider}
use Rattle.pk_verdict.specs.Verdicts.{safe_if, told_of, lies_in, excludes, result_verdict, quotient_verdict, ranged_verdict, operator_verdict, left_verdict, moved_verdict, shift_verdict, nothing_in, operation_verdict, verdict_of, IsTypedOperation}
use Rattle.pk_sound.specs.Verdicts.{IsEvaluatedIn, FaultsIn}
use Rattle.pk_sound.proofs.Accesses.{HasResult, IsShift, HasKind}
use Rattle.pk_sound.proofs.Facts_stay.{guard_stays}
use Rattle.pk_sound.proofs.Holding.{values_lie}
use Rattle.pk_sound.proofs.Values_stay.{tree_stays}

-- ---- tests

safe_true : (b : Bool) (r : Range) → safe_if b r ≡ Safe → b ≡ true
safe_true true r e = refl
safe_true false r e = absurd (cc)

there : (b : Bool) (r : Range) → safe_if b r ≡ Unreachable → ⊥
there true r e = cc
there false r e = cc

if_true : (b : Bool) (v : Verdict) (lo hi : ℤ) → (if b then v else Unknown lo hi) ≡ Safe → (b ≡ true) × (v ≡ Safe)
if_true true v lo hi e = (refl, e)
if_true false v lo hi e = absurd (cc)

if_there : (b : Bool) (v : Verdict) (lo hi : ℤ) → (if b then v else Unknown lo hi) ≡ Unreachable → (b ≡ true) × (v ≡ Unreachable)
if_there true v lo hi e = (refl, e)
if_there false v lo hi e = absurd (cc)

pub bounded : (lo hi z : ℤ) (r : Range) → lies_in lo hi r ≡ true → Holds r z → (lo ≤ℤ z) × (z ≤ℤ hi)
bounded lo hi z r e h = let both = both_true (int_le lo r.lo) (int_le r.hi hi) e in (omega (arith, ints, both.0, h.from), omega (arith, ints, both.1, h.to))

other_than : (k : Known) (z : ℤ) → excludes k z ≡ true → IsOf k z → ⊥
other_than k z e h = by (int_lt z k.range.lo) (int_lt k.range.hi z) (has_member k.class z) refl refl refl e
  where
    by : (b c d : Bool) → int_lt z k.range.lo ≡ b → int_lt k.range.hi z ≡ c → has_member k.class z ≡ d → (b || c || not d) ≡ true → ⊥
    by true c d f g i j = absurd (omega (arith, ints, f, h.in_range.from))
    by false true d f g i j = absurd (omega (arith, ints, g, h.in_range.to))
    by false false true f g i j = cc
    by false false false f g i j = absurd (cc ((member k.class z).1 h.in_class, i))

either_true : (a b : Bool) → (a || b) ≡ true → (a ≡ true) ⊎ (b ≡ true)
either_true true b e = inl refl
either_true false b e = inr e

-- ---- results

result_in : (t : IntType) (o : Outcome) (u : ℤ) → KnownBy o u → result_verdict t o ≡ Safe → InType t u
result_in t Empty u k e = absurd k
result_in t (Within r) u k e = let b = bounded (low_of t) (high_of t) u r (safe_true (lies_in (low_of t) (high_of t) r) r e) k in record { from = b.0; to = b.1 }
result_in t TooLarge u k e = absurd (cc)

result_there : (t : IntType) (o : Outcome) (u : ℤ) → KnownBy o u → result_verdict t o ≡ Unreachable → ⊥
result_there t Empty u k e = k
result_there t (Within r) u k e = there (lies_in (low_of t) (high_of t) r) r e
result_there t TooLarge u k e = cc

-- an operand, and the right one of an operator
pub record IsLeft (t : IntType) (k : Known) (z : ℤ) : Type 0 where
  pub inside : IsIn t k.range
  pub of : IsOf k z
  pub typed : InType t z

pub record IsRightOf (op : Op) (t : IntType) (k : Known) (z : ℤ) : Type 0 where
  pub inside : HasRightIn op t k.range
  pub of : IsOf k z
  pub typed : HasRight op t z

pub exact_known : (op : Op) (t : IntType) (j k : Known) (x y u : ℤ) → IsLeft t j x → IsRightOf op t k y → exact op t x y ≡ Ok u → KnownBy (range_of op t j.range k.range) u
exact_known op t j k x y u l r e = ranges_sound.before op t j.range k.range x y u l.inside r.inside l.of.in_range r.of.in_range e

exact_in : (op : Op) (t : IntType) (j k : Known) (x y u : ℤ) → IsLeft t j x → IsRightOf op t k y → exact op t x y ≡ Ok u → ranged_verdict op t j k ≡ Safe → InType t u
exact_in op t j k x y u l r e v = result_in t (range_of op t j.range k.range) u (exact_known op t j k x y u l r e) v

exact_there : (op : Op) (t : IntType) (j k : Known) (x y u : ℤ) → IsLeft t j x → IsRightOf op t k y → exact op t x y ≡ Ok u → ranged_verdict op t j k ≡ Unreachable → ⊥
exact_there op t j k x y u l r e v = result_there t (range_of op t j.range k.range) u (exact_known op t j k x y u l r e) v

-- a quotient or a rest overflows only where the least number is divided by -1
past_quotient : (op : Op) (t : IntType) (x y : ℤ) (f : Fault) → FaultsWith t x y op f → f ≡ faults.Overflow → (op ≡ Div) ⊎ (op ≡ Rem) → (x ≡ low_of t) × (y ≡ negsuc 0)
past_quotient op t x y f is =
    elim is as (λ op f _. f ≡ faults.Overflow → (op ≡ Div) ⊎ (op ≡ Rem) → (x ≡ low_of t) × (y ≡ negsuc 0)) [
      | sum_past s out ↦ λ e k. absurd (elim k [ inl q ↦ cc | inr q ↦ cc ])
      | difference_past s out ↦ λ e k. absurd (elim k [ inl q ↦ cc | inr q ↦ cc ])
      | product_past s out ↦ λ e k. absurd (elim k [ inl q ↦ cc | inr q ↦ cc ])
      | negative_past s out ↦ λ e k. absurd (elim k [ inl q ↦ cc | inr q ↦ cc ])
      | quotient_by_zero z ↦ λ e k. absurd (cc)
      | rest_by_zero z ↦ λ e k. absurd (cc)
      | quotient_past s a b ↦ λ e k. (a, b)
      | rest_past s a b ↦ λ e k. (a, b)
      | left_by_no_count out ↦ λ e k. absurd (cc)
      | right_by_no_count out ↦ λ e k. absurd (cc)
      | left_of_negative s l ↦ λ e k. absurd (cc)
      | left_past n s g out ↦ λ e k. absurd (cc)
    ]

quotient_safe : (op : Op) (t : IntType) (j k : Known) (x y : ℤ) → (op ≡ Div) ⊎ (op ≡ Rem) → IsLeft t j x → IsRightOf op t k y → quotient_verdict t j k ≡ Safe → value_of op t x y ≡ Err faults.Overflow → ⊥
quotient_safe op t j k x y is l r v e =
    let past = past_quotient op t x y faults.Overflow (told op t x y faults.Overflow l.typed r.typed e) refl is in
    elim (either_true (excludes j (low_of t)) (excludes k (negsuc 0)) (safe_true (excludes j (low_of t) || excludes k (negsuc 0)) j.range v)) [
      | inl h ↦ other_than j (low_of t) h (subst (IsOf j) past.0 l.of)
      | inr h ↦ other_than k (negsuc 0) h (subst (IsOf k) past.1 r.of)
    ]

result_safe : (op : Op) (t : IntType) (j k : Known) (x y : ℤ) → HasResult op → IsLeft t j x → IsRightOf op t k y → operator_verdict op t j k ≡ Safe → value_of op t x y ≡ Err faults.Overflow → ⊥
result_safe Add t j k x y h l r v e = values.no_fault faults.Overflow t (x +ℤ y) faults.Overflow (exact_in Add t j k x y (x +ℤ y) l r refl v) e
result_safe Sub t j k x y h l r v e = values.no_fault faults.Overflow t (x -ℤ y) faults.Overflow (exact_in Sub t j k x y (x -ℤ y) l r refl v) e
result_safe Mul t j k x y h l r v e = values.no_fault faults.Overflow t (x *ℤ y) faults.Overflow (exact_in Mul t j k x y (x *ℤ y) l r refl v) e
result_safe Div t j k x y h l r v e = quotient_safe Div t j k x y (inl refl) l r v e
result_safe Rem t j k x y h l r v e = quotient_safe Rem t j k x y (inr refl) l r v e
result_safe Shl t j k x y h l r v e = h
result_safe Shr t j k x y h l r v e = h
result_safe And t j k x y h l r v e = h
result_safe Or t j k x y h l r v e = h
result_safe Xor t j k x y h l r v e = h
result_safe Lt t j k x y h l r v e = h
result_safe Gt t j k x y h l r v e = h
result_safe Le t j k x y h l r v e = h
result_safe Ge t j k x y h l r v e = h
result_safe Eq t j k x y h l r v e = h
result_safe Ne t j k x y h l r v e = h
result_safe Neg t j k x y h l r v e = h
result_safe BitNot t j k x y h l r v e = h
result_safe Not t j k x y h l r v e = h

operator_there : (op : Op) (t : IntType) (j k : Known) (x y : ℤ) → HasResult op → IsLeft t j x → IsRightOf op t k y → operator_verdict op t j k ≡ Unreachable → ⊥
operator_there Add t j k x y h l r v = exact_there Add t j k x y (x +ℤ y) l r refl v
operator_there Sub t j k x y h l r v = exact_there Sub t j k x y (x -ℤ y) l r refl v
operator_there Mul t j k x y h l r v = exact_there Mul t j k x y (x *ℤ y) l r refl v
operator_there Div t j k x y h l r v = there (excludes j (low_of t) || excludes k (negsuc 0)) j.range v
operator_there Rem t j k x y h l r v = there (excludes j (low_of t) || excludes k (negsuc 0)) j.range v
operator_there Shl t j k x y h l r v = h
operator_there Shr t j k x y h l r v = h
operator_there And t j k x y h l r v = h
operator_there Or t j k x y h l r v = h
operator_there Xor t j k x y h l r v = h
operator_there Lt t j k x y h l r v = h
operator_there Gt t j k x y h l r v = h
operator_there Le t j k x y h l r v = h
operator_there Ge t j k x y h l r v = h
operator_there Eq t j k x y h l r v = h
operator_there Ne t j k x y h l r v = h
operator_there Neg t j k x y h l r v = h
operator_there BitNot t j k x y h l r v = h
operator_there Not t j k x y h l r v = h

-- ---- shifts

abbrev are_counts : IntType → Known → Bool
are_counts t k = lies_in (pos 0) (pos (width_of t) -ℤ pos 1) k.range

count_in : (t : IntType) (k : Known) (y : ℤ) → are_counts t k ≡ true → IsOf k y → is_count t y ≡ true
count_in t k y e h =
    let b = bounded (pos 0) (pos (width_of t) -ℤ pos 1) y k.range e h.in_range in
    by (int_le (pos 0) y) (int_lt y (pos (width_of t))) refl refl b.0 b.1
  where
    by : (m n : Bool) → int_le (pos 0) y ≡ m → int_lt y (pos (width_of t)) ≡ n → pos 0 ≤ℤ y → y ≤ℤ (pos (width_of t) -ℤ pos 1) → (m && n) ≡ true
    by true true f g a b = refl
    by true false f g a b = absurd (omega (arith, ints, g, b))
    by false n f g a b = absurd (omega (arith, ints, f, a))

not_negative : (t : IntType) (x : ℤ) (s : Bool) → is_signed_of t ≡ s → (s ≡ false) ⊎ (pos 0 ≤ℤ x) → is_below_zero t x ≡ false
not_negative t x false e h = rw e refl
not_negative t x true e (inl h) = absurd (cc)
not_negative t x true e (inr h) = by (int_lt x (pos 0)) refl
  where
    by : (b : Bool) → int_lt x (pos 0) ≡ b → is_below_zero t x ≡ false
    by true f = absurd (omega (arith, ints, f, h))
    by false f = rw (e, f) refl

shifted_exact : (t : IntType) (x y : ℤ) → is_count t y ≡ true → is_below_zero t x ≡ false → exact Shl t x y ≡ Ok (x *ℤ pos (2 ^ unsigned_abs y))
shifted_exact t x y c n = rw (c, n) refl

left_safe : (t : IntType) (j k : Known) (x y : ℤ) (s : Bool) → is_signed_of t ≡ s → IsLeft t j x → IsRightOf Shl t k y → is_count t y ≡ true → left_verdict s t j k ≡ Safe → value_of Shl t x y ≡ Err faults.Shift → ⊥
left_safe t j k x y false s l r c v e =
    let past = values.fitted_err faults.Shift t (x *ℤ pos (2 ^ unsigned_abs y)) faults.Shift (sym (shifts.left_value t x y c (not_negative t x false s (inl refl))) ∙ e) in
    absurd (cc (past.signed, s))
left_safe t j k x y true s l r c v e =
    let both = if_true (int_le (pos 0) j.range.lo) (ranged_verdict Shl t j k) j.range.lo j.range.hi v in
    let natural : pos 0 ≤ℤ x = omega (arith, ints, both.0, l.of.in_range.from) in
    let n = not_negative t x true s (inr natural) in
    values.no_fault faults.Shift t (x *ℤ pos (2 ^ unsigned_abs y)) faults.Shift (exact_in Shl t j k x y (x *ℤ pos (2 ^ unsigned_abs y)) l r (shifted_exact t x y c n) both.1) (sym (shifts.left_value t x y c n) ∙ e)

left_there : (t : IntType) (j k : Known) (x y : ℤ) (s : Bool) → is_signed_of t ≡ s → IsLeft t j x → IsRightOf Shl t k y → is_count t y ≡ true → left_verdict s t j k ≡ Unreachable → ⊥
left_there t j k x y false s l r c v = cc
left_there t j k x y true s l r c v =
    let both = if_there (int_le (pos 0) j.range.lo) (ranged_verdict Shl t j k) j.range.lo j.range.hi v in
    let natural : pos 0 ≤ℤ x = omega (arith, ints, both.0, l.of.in_range.from) in
    exact_there Shl t j k x y (x *ℤ pos (2 ^ unsigned_abs y)) l r (shifted_exact t x y c (not_negative t x true s (inr natural))) both.1

right_safe : (t : IntType) (x y : ℤ) → InType t x → is_count t y ≡ true → value_of Shr t x y ≡ Err faults.Shift → ⊥
right_safe t x y h c e =
    let shifted : value_of Shr t x y ≡ fitted faults.Shift t (int_shr x (unsigned_abs y)) = rw c refl in
    values.no_fault faults.Shift t (int_shr x (unsigned_abs y)) faults.Shift (shifts.right_in t x (unsigned_abs y) h) (sym shifted ∙ e)

moved_safe : (op : Op) (t : IntType) (j k : Known) (x y : ℤ) → IsShift op → IsLeft t j x → IsRightOf op t k y → is_count t y ≡ true → moved_verdict op t j k ≡ Safe → value_of op t x y ≡ Err faults.Shift → ⊥
moved_safe Shl t j k x y h l r c v e = left_safe t j k x y (is_signed_of t) refl l r c v e
moved_safe Shr t j k x y h l r c v e = right_safe t x y l.typed c e
moved_safe Add t j k x y h l r c v e = h
moved_safe Sub t j k x y h l r c v e = h
moved_safe Mul t j k x y h l r c v e = h
moved_safe Div t j k x y h l r c v e = h
moved_safe Rem t j k x y h l r c v e = h
moved_safe And t j k x y h l r c v e = h
moved_safe Or t j k x y h l r c v e = h
moved_safe Xor t j k x y h l r c v e = h
moved_safe Lt t j k x y h l r c v e = h
moved_safe Gt t j k x y h l r c v e = h
moved_safe Le t j k x y h l r c v e = h
moved_safe Ge t j k x y h l r c v e = h
moved_safe Eq t j k x y h l r c v e = h
moved_safe Ne t j k x y h l r c v e = h
moved_safe Neg t j k x y h l r c v e = h
moved_safe BitNot t j k x y h l r c v e = h
moved_safe Not t j k x y h l r c v e = h

moved_there : (op : Op) (t : IntType) (j k : Known) (x y : ℤ) → IsShift op → IsLeft t j x → IsRightOf op t k y → is_count t y ≡ true → moved_verdict op t j k ≡ Unreachable → ⊥
moved_there Shl t j k x y h l r c v = left_there t j k x y (is_signed_of t) refl l r c v
moved_there Shr t j k x y h l r c v = cc
moved_there Add t j k x y h l r c v = h
moved_there Sub t j k x y h l r c v = h
moved_there Mul t j k x y h l r c v = h
moved_there Div t j k x y h l r c v = h
moved_there Rem t j k x y h l r c v = h
moved_there And t j k x y h l r c v = h
moved_there Or t j k x y h l r c v = h
moved_there Xor t j k x y h l r c v = h
moved_there Lt t j k x y h l r c v = h
moved_there Gt t j k x y h l r c v = h
moved_there Le t j k x y h l r c v = h
moved_there Ge t j k x y h l r c v = h
moved_there Eq t j k x y h l r c v = h
moved_there Ne t j k x y h l r c v = h
moved_there Neg t j k x y h l r c v = h
moved_there BitNot t j k x y h l r c v = h
moved_there Not t j k x y h l r c v = h

shift_safe : (op : Op) (t : IntType) (j k : Known) (x y : ℤ) → IsShift op → IsLeft t j x → IsRightOf op t k y → shift_verdict op t j k ≡ Safe → value_of op t x y ≡ Err faults.Shift → ⊥
shift_safe op t j k x y h l r v e =
    let both = if_true (are_counts t k) (moved_verdict op t j k) k.range.lo k.range.hi v in
    moved_safe op t j k x y h l r (count_in t k y both.0 r.of) both.1 e

shift_there : (op : Op) (t : IntType) (j k : Known) (x y : ℤ) → IsShift op → IsLeft t j x → IsRightOf op t k y → shift_verdict op t j k ≡ Unreachable → ⊥
shift_there op t j k x y h l r v =
    let both = if_there (are_counts t k) (moved_verdict op t j k) k.range.lo k.range.hi v in
    moved_there op t j k x y h l r (count_in t k y both.0 r.of) both.1

-- ---- operands

-- what is known of an operand that has a value
told_by : (o : Option Known) (f : Known → Verdict) (v : Verdict) (z : ℤ) (P : Known → Type 0) → IsOneOf o z → IfSome o P → told_of o f ≡ v → (k : Known) × IsOf k z × P k × (f k ≡ v)
told_by None f v z P h i e = absurd h
told_by (Some k) f v z P h i e = (k, h, i, e)

index_out : (n : ℕ) (z : ℤ) → pos 0 ≤ℤ z → z ≤ℤ (pos n -ℤ pos 1) → is_index n z ≡ false → ⊥
index_out n z a b e = by (int_le (pos 0) z) (int_lt z (pos n)) refl refl e
  where
    by : (c d : Bool) → int_le (pos 0) z ≡ c → int_lt z (pos n) ≡ d → (c && d) ≡ false → ⊥
    by true true f g i = cc
    by true false f g i = absurd (omega (arith, ints, g, b))
    by false d f g i = absurd (omega (arith, ints, f, a))

nothing_is : (y : Layout) (f : Option Facts) (s : Stored) → nothing_in f ≡ true → Member y f s → ⊥
nothing_is y None s e m = m
nothing_is y (Some f) s e m = absurd (cc)

module _ (ks : Kinds) (y : Layout) (f : Facts) (s : Stored) (over : IsOver ks y) (lay : IsLayout y) (a : AreFactsIf y (Some f)) (m : Member y (Some f) (spread s)) (st : IsStore ks s) where
  abbrev known : TreeOf ℕ → Option Known
  known e = tree_known (known_in (Some f)) e

  pub one_of : (e : TreeOf ℕ) (z : ℤ) → IsTyped ks e → tree_value storing e s ≡ Ok z → IsOneOf (known e) z
  one_of e z h k = trees_sound.values y (Some f) (spread s) e z a m (typed_in ks y e over h).0 (tree_spread ks s e (counts_of ks s st) h ∙ k)

  pub value_of_type : (e : TreeOf ℕ) → IsTyped ks e → IfSome (known e) (IsValue (type_of ks e))
  value_of_type e h = let t = typed_in ks y e over h in subst (λ (u : IntType). IfSome (known e) (IsValue u)) t.1 (tree_stays y (Some f) e a t.0)

  pub left_operand : (t : IntType) (e : TreeOf ℕ) (k : Known) (z : ℤ) → IsOfType ks t e → tree_value storing e s ≡ Ok z → IsOf k z → IsValue (type_of ks e) k → IsLeft t k z
  left_operand t e k z h v i w = record { inside = in_wider t (type_of ks e) k.range h.fits w.inside; of = i; typed = h.fits z (typed_value values_lie ks s e z st h.typed v) }

  pub right_operand : (op : Op) (t : IntType) (e : TreeOf ℕ) (k : Known) (z : ℤ) → IsTyped ks e → IsRight op t (type_of ks e) → tree_value storing e s ≡ Ok z → IsOf k z → IsValue (type_of ks e) k → IsRightOf op t k z
  right_operand op t e k z h r v i w = record { inside = right_wider op t (type_of ks e) k.range r w.inside; of = i; typed = right_value op t (type_of ks e) z r (typed_value values_lie ks s e z st h v) }

  -- what is told of one operand, and of two
  abbrev Told : TreeOf ℕ → (Known → Verdict) → Verdict → ℤ → Type 0
  Told e g v z = (k : Known) × IsOf k z × IsValue (type_of ks e) k × (g k ≡ v)

  tell : (e : TreeOf ℕ) (g : Known → Verdict) (v : Verdict) (z : ℤ) → IsTyped ks e → tree_value storing e s ≡ Ok z → told_of (known e) g ≡ v → Told e g v z
  tell e g v z h k i = told_by (known e) g v z (IsValue (type_of ks e)) (one_of e z h k) (value_of_type e h) i

  -- with its value an assertion that is false passes the guard that it is
  assertion_holds : (e : TreeOf ℕ) (z : ℤ) → IsTyped ks e → tree_value storing e s ≡ Ok z → is_true z ≡ false → nothing_in (transferred y (Some f) (Guard e false)) ≡ true → ⊥
  assertion_holds e z h k t n =
      let goes : effect storing [] (Guard e false) s ≡ To s = rw (k, t) refl in
      let before = facts_stay.reductions y (Some f) lay a in
      let after = guard_stays ks y (reduced y (Some f)) e false over before h in
      nothing_is y (transferred y (Some f) (Guard e false)) (spread s) n (transferred_keeps y (Some f) (Guard e false) lay a after ks s s [] over st m h goes)

  operation_safe : (o : OperationOf) → IsTypedOperation ks o → HasKind o → operation_verdict y (Some f) o ≡ Safe → FaultsIn o s → ⊥
  operation_safe (Index n i) h k v e =
      let d = tell i (λ k. safe_if (lies_in (pos 0) (pos n -ℤ pos 1) k.range) k.range) Safe e.0 h e.1 v in
      let b = bounded (pos 0) (pos n -ℤ pos 1) e.0 d.0.range (safe_true (lies_in (pos 0) (pos n -ℤ pos 1) d.0.range) d.0.range d.3) d.1.in_range in
      index_out n e.0 b.0 b.1 e.2
  operation_safe (Divisor c d) h k v e =
      let one = tell c (λ j. told_of (known d) (λ k. safe_if (excludes k (pos 0)) k.range)) Safe e.0 h.0 e.2 v in
      let two = tell d (λ k. safe_if (excludes k (pos 0)) k.range) Safe e.1 h.1 e.3 one.3 in
      other_than two.0 (pos 0) (safe_true (excludes two.0 (pos 0)) two.0.range two.3) (subst (IsOf two.0) e.4 two.1)
  operation_safe (Negation t c) h k v e =
      let one = tell c (λ k. ranged_verdict Neg t k k) Safe e.0 h.typed e.1 v in
      let l = left_operand t c one.0 e.0 h e.1 one.1 one.2 in
      values.no_fault faults.Overflow t (neg_ℤ e.0) faults.Overflow (exact_in Neg t one.0 one.0 e.0 e.0 (neg_ℤ e.0) l (record { inside = tt; of = one.1; typed = tt }) refl one.3) e.2
  operation_safe (Result op t c d) h k v e =
      let one = tell c (λ j. told_of (known d) (operator_verdict op t j)) Safe e.0 h.0.typed e.2 v in
      let two = tell d (operator_verdict op t one.0) Safe e.1 h.1 e.3 one.3 in
      result_safe op t one.0 two.0 e.0 e.1 k.0 (left_operand t c one.0 e.0 h.0 e.2 one.1 one.2) (right_operand op t d two.0 e.1 h.1 h.2 e.3 two.1 two.2) two.3 e.4
  operation_safe (Shift op t c d) h k v e =
      let one = tell c (λ j. told_of (known d) (shift_verdict op t j)) Safe e.0 h.0.typed e.2 v in
      let two = tell d (shift_verdict op t one.0) Safe e.1 h.1 e.3 one.3 in
      shift_safe op t one.0 two.0 e.0 e.1 k (left_operand t c one.0 e.0 h.0 e.2 one.1 one.2) (right_operand op t d two.0 e.1 h.1 h.2 e.3 two.1 two.2) two.3 e.4
  operation_safe (Assertion c) h k v e =
      let one = tell c (λ k. safe_if (nothing_in (transferred y (Some f) (Guard c false))) k.range) Safe e.0 h e.1 v in
      assertion_holds c e.0 h e.1 e.2 (safe_true (nothing_in (transferred y (Some f) (Guard c false))) one.0.range one.3)

  operation_there : (o : OperationOf) → IsTypedOperation ks o → HasKind o → operation_verdict y (Some f) o ≡ Unreachable → IsEvaluatedIn o s → ⊥
  operation_there (Index n i) h k v e =
      let d = tell i (λ k. safe_if (lies_in (pos 0) (pos n -ℤ pos 1) k.range) k.range) Unreachable e.0 h e.1 v in
      there (lies_in (pos 0) (pos n -ℤ pos 1) d.0.range) d.0.range d.3
  operation_there (Divisor c d) h k v e =
      let one = tell c (λ j. told_of (known d) (λ k. safe_if (excludes k (pos 0)) k.range)) Unreachable e.0 h.0 e.2 v in
      let two = tell d (λ k. safe_if (excludes k (pos 0)) k.range) Unreachable e.1 h.1 e.3 one.3 in
      there (excludes two.0 (pos 0)) two.0.range two.3
  operation_there (Negation t c) h k v e =
      let one = tell c (λ k. ranged_verdict Neg t k k) Unreachable e.0 h.typed e.1 v in
      let l = left_operand t c one.0 e.0 h e.1 one.1 one.2 in
      exact_there Neg t one.0 one.0 e.0 e.0 (neg_ℤ e.0) l (record { inside = tt; of = one.1; typed = tt }) refl one.3
  operation_there (Result op t c d) h k v e =
      let one = tell c (λ j. told_of (known d) (operator_verdict op t j)) Unreachable e.0 h.0.typed e.2 v in
      let two = tell d (operator_verdict op t one.0) Unreachable e.1 h.1 e.3 one.3 in
      operator_there op t one.0 two.0 e.0 e.1 k.0 (left_operand t c one.0 e.0 h.0 e.2 one.1 one.2) (right_operand op t d two.0 e.1 h.1 h.2 e.3 two.1 two.2) two.3
  operation_there (Shift op t c d) h k v e =
      let one = tell c (λ j. told_of (known d) (shift_verdict op t j)) Unreachable e.0 h.0.typed e.2 v in
      let two = tell d (shift_verdict op t one.0) Unreachable e.1 h.1 e.3 one.3 in
      shift_there op t one.0 two.0 e.0 e.1 k (left_operand t c one.0 e.0 h.0 e.2 one.1 one.2) (right_operand op t d two.0 e.1 h.1 h.2 e.3 two.1 two.2) two.3
  operation_there (Assertion c) h k v e =
      let one = tell c (λ k. safe_if (nothing_in (transferred y (Some f) (Guard c false))) k.range) Unreachable e.0 h e.1 v in
      there (nothing_in (transferred y (Some f) (Guard c false))) one.0.range one.3

-- of any state
pub verdict_safe : (ks : Kinds) (y : Layout) (f : Option Facts) (s : Stored) (o : OperationOf) → IsOver ks y → IsLayout y → AreFactsIf y f → Member y f (spread s) → IsStore ks s → IsTypedOperation ks o → HasKind o → verdict_of y f o ≡ Safe → FaultsIn o s → ⊥
verdict_safe ks y None s o over lay a m st h k v e = m
verdict_safe ks y (Some f) s o over lay a m st h k v e = operation_safe ks y f s over lay a m st o h k v e

pub verdict_there : (ks : Kinds) (y : Layout) (f : Option Facts) (s : Stored) (o : OperationOf) → IsOver ks y → IsLayout y → AreFactsIf y f → Member y f (spread s) → IsStore ks s → IsTypedOperation ks o → HasKind o → verdict_of y f o ≡ Unreachable → IsEvaluatedIn o s → ⊥
verdict_there ks y None s o over lay a m st h k v e = m
verdict_there ks y (Some f) s o over lay a m st h k v e = operation_there ks y f s over lay a m st o h k v e
