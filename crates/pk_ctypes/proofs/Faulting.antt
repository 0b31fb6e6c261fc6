-- An operation faults exactly where the table has it.
use Rattle.std.specs.Prelude.{◌≡◌, ◌⊎◌, ℕ, ◌^◌, Bool, true, false, not, ℤ, pos, negsuc, ◌+ℤ◌, ◌-ℤ◌, ◌*ℤ◌, ◌<ℤ◌, neg_ℤ, int_lt, int_le, int_div, unsigned_abs, bit_and, bit_or, bit_xor, Result, Err}
use Rattle.std.specs.Ordering.{int_eq}
use Rattle.std.specs.Int.{int_shr}
use Rattle.std.proofs.Common.{◌∙◌, ap, sym, refl, inl, inr, arith, subst}
use Rattle.std.proofs.lemmas.Int.{ints}
use Rattle.std.proofs.lemmas.Bool.Decides.{Decides-int_eq}
use Rattle.pk_ctypes.specs.declared.types.IntType.{IntType}
use Rattle.pk_ctypes.specs.declared.types.IntType.TheVariants.{Char, SChar, UChar, Short, UShort, Int, UInt, Long, ULong, LLong, ULLong}
use Rattle.pk_ctypes.specs.declared.types.Op.{Op}
use Rattle.pk_ctypes.specs.declared.types.Op.TheVariants.{Add, Sub, Mul, Div, Rem, Shl, Shr, And, Or, Xor, Lt, Gt, Le, Ge, Eq, Ne, Neg, BitNot, Not}
use Rattle.pk_ctypes.specs.declared.faults.Fault.{Fault}
use Rattle.pk_ctypes.specs.declared.faults.Fault.TheVariants.{DivZero, Overflow, Shift}
use Rattle.pk_ctypes.specs.Types.{is_signed_of, low_of, InType, is_in_type}
use Rattle.pk_ctypes.specs.Operators.{truth, is_count, is_below_zero, bitwise, complement, fitted, value_of, HasRight}
use Rattle.pk_ctypes.specs.Laws.{IsCount, FaultsWith, sum_past, difference_past, product_past, negative_past, quotient_by_zero, rest_by_zero, quotient_past, rest_past, left_by_no_count, right_by_no_count, left_of_negative, left_past}
use Rattle.pk_ctypes.proofs.Bits.{bitwise_in, complement_in}
use Rattle.pk_ctypes.proofs.Quotients as quotients
use Rattle.pk_ctypes.proofs.Shifts as shifts
use Rattle.pk_ctypes.proofs.Values as values

-- ---- where the table has it

least_by_minus_one : (t : IntType) → is_signed_of t ≡ true → is_in_type t (int_div (low_of t) (negsuc 0)) ≡ false
least_by_minus_one Char s = refl
least_by_minus_one SChar s = refl
least_by_minus_one UChar s = absurd (cc)
least_by_minus_one Short s = refl
least_by_minus_one UShort s = absurd (cc)
least_by_minus_one Int s = refl
least_by_minus_one UInt s = absurd (cc)
least_by_minus_one Long s = refl
least_by_minus_one ULong s = absurd (cc)
least_by_minus_one LLong s = refl
least_by_minus_one ULLong s = absurd (cc)

past_test : (t : IntType) (a b : ℤ) → is_signed_of t ≡ true → a ≡ low_of t → b ≡ negsuc 0 → is_in_type t (int_div a b) ≡ false
past_test t a b s e f = ap (λ x. is_in_type t (int_div x b)) e ∙ ap (λ y. is_in_type t (int_div (low_of t) y)) f ∙ least_by_minus_one t s

not_zero : (b : ℤ) → b ≡ negsuc 0 → b ≡ pos 0 → ⊥
not_zero b e f = absurd (cc)

quotient_faults : (t : IntType) (a b : ℤ) → is_signed_of t ≡ true → a ≡ low_of t → b ≡ negsuc 0 → value_of Div t a b ≡ Err Overflow
quotient_faults t a b s e f =
    let test = past_test t a b s e f in
    values.quotient_fitted t a b (not_zero b f) ∙ rw (test, s) refl

no_count_left : (t : IntType) (a b : ℤ) → is_count t b ≡ false → value_of Shl t a b ≡ Err Shift
no_count_left t a b k = rw k refl

negative_left : (t : IntType) (a b : ℤ) → is_signed_of t ≡ true → a <ℤ pos 0 → value_of Shl t a b ≡ Err Shift
negative_left t a b s h = by (is_count t b) refl
  where
    by : (test : Bool) → is_count t b ≡ test → value_of Shl t a b ≡ Err Shift
    by true k = let below = shifts.below_zero_test t a s h in rw (k, below) refl
    by false k = no_count_left t a b k

past_left : (t : IntType) (a b : ℤ) (n : ℕ) → is_signed_of t ≡ true → b ≡ pos n → (InType t (a *ℤ pos (2 ^ n)) → ⊥) → value_of Shl t a b ≡ Err Shift
past_left t a b n s e out = by (is_count t b) (is_below_zero t a) refl refl
  where
    by : (test negative : Bool) → is_count t b ≡ test → is_below_zero t a ≡ negative → value_of Shl t a b ≡ Err Shift
    by true true k l = rw (k, l) refl
    by true false k l =
        shifts.left_value t a b k l ∙ ap (λ x. fitted Shift t (a *ℤ pos (2 ^ unsigned_abs x))) e ∙ values.fitted_past Shift t (a *ℤ pos (2 ^ n)) s out
    by false negative k l = no_count_left t a b k

pub faults : (op : Op) (t : IntType) (a b : ℤ) (f : Fault) → FaultsWith t a b op f → value_of op t a b ≡ Err f
faults op t a b f is =
    elim is as (λ op f _. value_of op t a b ≡ Err f) [
      | sum_past s out ↦ values.fitted_past Overflow t (a +ℤ b) s out
      | difference_past s out ↦ values.fitted_past Overflow t (a -ℤ b) s out
      | product_past s out ↦ values.fitted_past Overflow t (a *ℤ b) s out
      | negative_past s out ↦ values.fitted_past Overflow t (neg_ℤ a) s out
      | quotient_by_zero z ↦ values.by_zero t a b z
      | rest_by_zero z ↦ values.rest_by_zero t a b z
      | quotient_past s e g ↦ quotient_faults t a b s e g
      | rest_past s e g ↦ values.rest_past t a b (not_zero b g) (past_test t a b s e g)
      | left_by_no_count out ↦ no_count_left t a b (shifts.no_count_test t b out)
      | right_by_no_count out ↦ let test = shifts.no_count_test t b out in rw test refl
      | left_of_negative s l ↦ negative_left t a b s l
      | left_past n s e out ↦ past_left t a b n s e out
    ]

-- ---- and nowhere else

err_is : (f g : Fault) (r : Result ℤ Fault) → r ≡ Err f → r ≡ Err g → f ≡ g
err_is f g r e e' = cc

zero_or_not : (b : ℤ) → (b ≡ pos 0) ⊎ (b ≡ pos 0 → ⊥)
zero_or_not b = by (int_eq b (pos 0)) refl
  where
    by : (test : Bool) → int_eq b (pos 0) ≡ test → (b ≡ pos 0) ⊎ (b ≡ pos 0 → ⊥)
    by true e = let is = Decides-int_eq b (pos 0) in inl (is.0 e)
    by false e = inr (λ z. absurd (cc (values.zero_test b z)))

told_past : (op : Op) (t : IntType) (a b x : ℤ) (f : Fault) → (is_signed_of t ≡ true → (InType t x → ⊥) → FaultsWith t a b op Overflow) → fitted Overflow t x ≡ Err f → FaultsWith t a b op f
told_past op t a b x f make e = let past = values.fitted_err Overflow t x f e in subst (FaultsWith t a b op) past.same (make past.signed past.outside)

told_quotient : (t : IntType) (a b : ℤ) (f : Fault) → InType t a → value_of Div t a b ≡ Err f → FaultsWith t a b Div f
told_quotient t a b f h e = by (zero_or_not b)
  where
    by : (b ≡ pos 0) ⊎ (b ≡ pos 0 → ⊥) → FaultsWith t a b Div f
    by (inl z) = subst (FaultsWith t a b Div) (err_is DivZero f (value_of Div t a b) (values.by_zero t a b z) e) (quotient_by_zero z)
    by (inr n) =
        told_past Div t a b (int_div a b) f
        (λ s out. let past = quotients.quotient_past t a b s h n out in quotient_past s past.0 past.1)
        (sym (values.quotient_fitted t a b n) ∙ e)

told_rest : (t : IntType) (a b : ℤ) (f : Fault) → InType t a → InType t b → value_of Rem t a b ≡ Err f → FaultsWith t a b Rem f
told_rest t a b f h k e = by (zero_or_not b)
  where
    past : (b ≡ pos 0 → ⊥) → (InType t (int_div a b) → ⊥) → (s : Bool) → is_signed_of t ≡ s → FaultsWith t a b Rem Overflow
    past n out true s = let least = quotients.quotient_past t a b s h n out in rest_past s least.0 least.1
    past n out false s = absurd (out (quotients.unsigned_quotient_in t a b s h k))

    inside : (b ≡ pos 0 → ⊥) → InType t (int_div a b) ⊎ ((is_in_type t (int_div a b) ≡ false) × (InType t (int_div a b) → ⊥)) → FaultsWith t a b Rem f
    inside n (inl i) = absurd (cc (values.rest_value t a b h n (values.in_type_test t (int_div a b) i)))
    inside n (inr o) = subst (FaultsWith t a b Rem) (err_is Overflow f (value_of Rem t a b) (values.rest_past t a b n o.0) e) (past n o.1 (is_signed_of t) refl)

    by : (b ≡ pos 0) ⊎ (b ≡ pos 0 → ⊥) → FaultsWith t a b Rem f
    by (inl z) = subst (FaultsWith t a b Rem) (err_is DivZero f (value_of Rem t a b) (values.rest_by_zero t a b z) e) (rest_by_zero z)
    by (inr n) = inside n (values.cases_of_type t (int_div a b))

told_left : (t : IntType) (a b : ℤ) (f : Fault) → value_of Shl t a b ≡ Err f → FaultsWith t a b Shl f
told_left t a b f e = by (is_count t b) (is_below_zero t a) refl refl
  where
    count_at : (z : ℤ) → z ≡ b → IsCount t z → b ≡ pos (unsigned_abs b)
    count_at (pos n) same is = sym same ∙ ap (λ x. pos (unsigned_abs x)) same
    count_at (negsuc n) same is = absurd (omega (arith, ints, is.from))

    by : (test negative : Bool) → is_count t b ≡ test → is_below_zero t a ≡ negative → FaultsWith t a b Shl f
    by true true k l =
        let stopped : value_of Shl t a b ≡ Err Shift = rw (k, l) refl in
        let negative = shifts.below_zero t a l in
        subst (FaultsWith t a b Shl) (err_is Shift f (value_of Shl t a b) stopped e) (left_of_negative negative.0 negative.1)
    by true false k l =
        let past = values.fitted_err Shift t (a *ℤ pos (2 ^ unsigned_abs b)) f (sym (shifts.left_value t a b k l) ∙ e) in
        subst (FaultsWith t a b Shl) past.same (left_past (unsigned_abs b) past.signed (count_at b refl (shifts.count_is t b k)) past.outside)
    by false negative k l = subst (FaultsWith t a b Shl) (err_is Shift f (value_of Shl t a b) (no_count_left t a b k) e) (left_by_no_count (shifts.no_count t b k))

told_right : (t : IntType) (a b : ℤ) (f : Fault) → InType t a → value_of Shr t a b ≡ Err f → FaultsWith t a b Shr f
told_right t a b f h e = by (is_count t b) refl
  where
    by : (test : Bool) → is_count t b ≡ test → FaultsWith t a b Shr f
    by true k =
        let shifted : value_of Shr t a b ≡ fitted Shift t (int_shr a (unsigned_abs b)) = rw k refl in
        absurd (values.no_fault Shift t (int_shr a (unsigned_abs b)) f (shifts.right_in t a (unsigned_abs b) h) (sym shifted ∙ e))
    by false k =
        let stopped : value_of Shr t a b ≡ Err Shift = rw k refl in
        subst (FaultsWith t a b Shr) (err_is Shift f (value_of Shr t a b) stopped e) (right_by_no_count (shifts.no_count t b k))

never : (op : Op) (t : IntType) (a b x : ℤ) (f : Fault) → InType t x → fitted Overflow t x ≡ Err f → FaultsWith t a b op f
never op t a b x f h e = absurd (values.no_fault Overflow t x f h e)

pub told : (op : Op) (t : IntType) (a b : ℤ) (f : Fault) → InType t a → HasRight op t b → value_of op t a b ≡ Err f → FaultsWith t a b op f
told Add t a b f h k e = told_past Add t a b (a +ℤ b) f sum_past e
told Sub t a b f h k e = told_past Sub t a b (a -ℤ b) f difference_past e
told Mul t a b f h k e = told_past Mul t a b (a *ℤ b) f product_past e
told Div t a b f h k e = told_quotient t a b f h e
told Rem t a b f h k e = told_rest t a b f h k e
told Shl t a b f h k e = told_left t a b f e
told Shr t a b f h k e = told_right t a b f h e
told And t a b f h k e = never And t a b (bitwise bit_and t a b) f (bitwise_in bit_and t a b) e
told Or t a b f h k e = never Or t a b (bitwise bit_or t a b) f (bitwise_in bit_or t a b) e
told Xor t a b f h k e = never Xor t a b (bitwise bit_xor t a b) f (bitwise_in bit_xor t a b) e
told Lt t a b f h k e = never Lt t a b (truth (int_lt a b)) f (values.truth_in t (int_lt a b)) e
told Gt t a b f h k e = never Gt t a b (truth (int_lt b a)) f (values.truth_in t (int_lt b a)) e
told Le t a b f h k e = never Le t a b (truth (int_le a b)) f (values.truth_in t (int_le a b)) e
told Ge t a b f h k e = never Ge t a b (truth (int_le b a)) f (values.truth_in t (int_le b a)) e
told Eq t a b f h k e = never Eq t a b (truth (int_eq a b)) f (values.truth_in t (int_eq a b)) e
told Ne t a b f h k e = never Ne t a b (truth (not (int_eq a b))) f (values.truth_in t (not (int_eq a b))) e
told Neg t a b f h k e = told_past Neg t a b (neg_ℤ a) f negative_past e
told BitNot t a b f h k e = never BitNot t a b (complement t a) f (complement_in t a) e
told Not t a b f h k e = never Not t a b (truth (int_eq a (pos 0))) f (values.truth_in t (int_eq a (pos 0))) e
