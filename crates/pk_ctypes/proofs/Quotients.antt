-- Quotients that are rounded toward zero, and their rests.
use Rattle.std.specs.Prelude.{◌≡◌, ℕ, zero, suc, ◌*◌, ◌/◌, ◌<◌, ◌≤◌, true, false, ℤ, pos, negsuc, ◌+ℤ◌, ◌*ℤ◌, ◌≤ℤ◌, neg_ℤ, int_div, int_rem, unsigned_abs}
use Rattle.std.proofs.Common.{arith, ap, refl}
use Rattle.std.proofs.lemmas.Int.{ints, by_lt_z, quot-rem, rem_below, unsigned_abs-mul}
use Rattle.std.proofs.Math.Nat.{mul-le-mul_left}
use native.Mathlib.Nat.{div-le_self, mod-le, div-mul-le_self}
use Rattle.pk_ctypes.specs.declared.types.IntType.{IntType}
use Rattle.pk_ctypes.specs.declared.types.IntType.TheVariants.{Char, SChar, UChar, Short, UShort, Int, UInt, Long, ULong, LLong, ULLong}
use Rattle.pk_ctypes.specs.Types.{is_signed_of, low_of, high_of, InType}
use Rattle.pk_ctypes.specs.Laws.{IsTruncatedDivision}
use Rattle.pk_ctypes.proofs.Whole.{same_multiple}
use Rattle.pk_ctypes.proofs.Wrapped.{zero_in, one_most}

some_abs : (b : ℤ) → (b ≡ pos 0 → ⊥) → 0 < unsigned_abs b
some_abs (pos zero) h = absurd (h refl)
some_abs (pos (suc n)) h = omega arith
some_abs (negsuc n) h = omega arith

abs_neg : (n : ℕ) → unsigned_abs (neg_ℤ (pos n)) ≡ n
abs_neg zero = refl
abs_neg (suc n) = refl

toward_zero_abs : (a b : ℤ) → unsigned_abs (int_div a b) * unsigned_abs b ≤ unsigned_abs a
toward_zero_abs (pos a) (pos b) = div-mul-le_self a b
toward_zero_abs (pos a) (negsuc b) = rw (abs_neg (a / suc b)) (div-mul-le_self a (suc b))
toward_zero_abs (negsuc a) (pos b) = rw (abs_neg (suc a / b)) (div-mul-le_self (suc a) b)
toward_zero_abs (negsuc a) (negsuc b) = div-mul-le_self (suc a) (suc b)

toward_zero : (a b : ℤ) → unsigned_abs (int_div a b *ℤ b) ≤ unsigned_abs a
toward_zero a b = rw (unsigned_abs-mul (int_div a b) b) (toward_zero_abs a b)

not_negative : (a b : ℤ) → pos 0 ≤ℤ a → pos 0 ≤ℤ int_rem a b
not_negative (pos a) b h = omega (arith, ints)
not_negative (negsuc a) b h = absurd (omega (arith, ints))

not_positive : (a b : ℤ) → a ≤ℤ pos 0 → int_rem a b ≤ℤ pos 0
not_positive (pos a) b h = let small = mod-le a (unsigned_abs b) in omega (arith, ints)
not_positive (negsuc a) b h = omega (arith, ints)

pub truncated : (a b : ℤ) → (b ≡ pos 0 → ⊥) → IsTruncatedDivision a b (int_div a b) (int_rem a b)
truncated a b h = record {
  whole = quot-rem a b;
  toward_zero = toward_zero a b;
  smaller = rem_below a b (some_abs b h);
  not_negative = not_negative a b;
  not_positive = not_positive a b;
}

times_negative : (q : ℤ) (m : ℕ) → q *ℤ negsuc m ≡ neg_ℤ (q *ℤ pos (suc m))
times_negative (pos zero) m = omega (arith, ints)
times_negative (pos (suc q)) m = omega (arith, ints)
times_negative (negsuc q) m = omega (arith, ints)

same_quotient : (a b q r q' r' : ℤ) → IsTruncatedDivision a b q r → IsTruncatedDivision a b q' r' → q ≡ q'
same_quotient (pos a) (pos n) q r q' r' h k =
    let from = h.not_negative (omega (arith, ints)) in
    let from' = k.not_negative (omega (arith, ints)) in
    same_multiple q q' n (omega (arith, ints, h.whole, k.whole, h.smaller, k.smaller)) (omega (arith, ints, h.whole, k.whole, h.smaller, k.smaller))
same_quotient (negsuc a) (pos n) q r q' r' h k =
    let to = h.not_positive (omega (arith, ints)) in
    let to' = k.not_positive (omega (arith, ints)) in
    same_multiple q q' n (omega (arith, ints, h.whole, k.whole, h.smaller, k.smaller)) (omega (arith, ints, h.whole, k.whole, h.smaller, k.smaller))
same_quotient (pos a) (negsuc m) q r q' r' h k =
    let from = h.not_negative (omega (arith, ints)) in
    let from' = k.not_negative (omega (arith, ints)) in
    let turned = times_negative q m in
    let turned' = times_negative q' m in
    same_multiple q q' (suc m) (omega (arith, ints, h.whole, k.whole, h.smaller, k.smaller)) (omega (arith, ints, h.whole, k.whole, h.smaller, k.smaller))
same_quotient (negsuc a) (negsuc m) q r q' r' h k =
    let to = h.not_positive (omega (arith, ints)) in
    let to' = k.not_positive (omega (arith, ints)) in
    let turned = times_negative q m in
    let turned' = times_negative q' m in
    same_multiple q q' (suc m) (omega (arith, ints, h.whole, k.whole, h.smaller, k.smaller)) (omega (arith, ints, h.whole, k.whole, h.smaller, k.smaller))

pub only_division : (a b q r q' r' : ℤ) → IsTruncatedDivision a b q r → IsTruncatedDivision a b q' r' → (q ≡ q') × (r ≡ r')
only_division a b q r q' r' h k =
    let one = same_quotient a b q r q' r' h k in
    let products = ap (λ x. x *ℤ b) one in
    (one, omega (arith, ints, h.whole, k.whole, products))

-- the signed types have one negative number more
pub signed_low : (t : IntType) → is_signed_of t ≡ true → low_of t +ℤ high_of t ≡ negsuc 0
signed_low Char s = refl
signed_low SChar s = refl
signed_low UChar s = absurd (cc)
signed_low Short s = refl
signed_low UShort s = absurd (cc)
signed_low Int s = refl
signed_low UInt s = absurd (cc)
signed_low Long s = refl
signed_low ULong s = absurd (cc)
signed_low LLong s = refl
signed_low ULLong s = absurd (cc)

pub unsigned_low : (t : IntType) → is_signed_of t ≡ false → low_of t ≡ pos 0
unsigned_low t s = rw s refl

-- a quotient past the type is that of the least number by -1
positive_in : (t : IntType) (n : ℕ) (a : ℤ) → InType t a → n ≤ unsigned_abs a → pos 0 ≤ℤ a → InType t (pos n)
positive_in t n a h k l =
    let zero = zero_in t in
    record { from = omega (arith, ints, zero.0); to = omega (arith, ints, h.to) }

signed_negative_in : (t : IntType) (n a : ℕ) → is_signed_of t ≡ true → InType t (pos a) → n ≤ a → InType t (neg_ℤ (pos n))
signed_negative_in t n a s h k =
    let zero = zero_in t in
    let low = signed_low t s in
    record { from = omega (arith, ints, low, h.to); to = omega (arith, ints, zero.1) }

negative_in : (t : IntType) (n a : ℕ) → InType t (negsuc a) → n ≤ suc a → InType t (neg_ℤ (pos n))
negative_in t n a h k =
    let zero = zero_in t in
    record { from = omega (arith, ints, h.from); to = omega (arith, ints, zero.1) }

halved_in : (t : IntType) (a n : ℕ) → is_signed_of t ≡ true → InType t (negsuc a) → InType t (pos (suc a / suc (suc n)))
halved_in t a n s h =
    let zero = zero_in t in
    let one = one_most t in
    let low = signed_low t s in
    let whole = div-mul-le_self (suc a) (suc (suc n)) in
    let part : suc a / suc (suc n) * 2 ≤ suc a / suc (suc n) * suc (suc n) = mul-le-mul_left (suc a / suc (suc n)) (omega arith) in
    let half : suc a / suc (suc n) * 2 ≤ suc a = omega arith in
    record { from = omega (arith, ints, zero.0); to = omega (arith, ints, low, one, half, h.from) }

pub quotient_past : (t : IntType) (a b : ℤ) → is_signed_of t ≡ true → InType t a → (b ≡ pos 0 → ⊥) → (InType t (int_div a b) → ⊥) → (a ≡ low_of t) × (b ≡ negsuc 0)
quotient_past t a (pos zero) s h n out = absurd (n refl)
quotient_past t (pos a) (pos (suc b)) s h n out = absurd (out (positive_in t (a / suc b) (pos a) h (div-le_self a (suc b)) (omega (arith, ints))))
quotient_past t (pos a) (negsuc b) s h n out = absurd (out (signed_negative_in t (a / suc b) a s h (div-le_self a (suc b))))
quotient_past t (negsuc a) (pos (suc b)) s h n out = absurd (out (negative_in t (suc a / suc b) a h (div-le_self (suc a) (suc b))))
quotient_past t (negsuc a) (negsuc zero) s h n out = (
  by_lt_z (low_of t) (negsuc a)
      (λ l. absurd (out (
      let zero = zero_in t in
      let low = signed_low t s in
      record { from = omega (arith, ints, zero.0); to = omega (arith, ints, low, l) })))
      (λ l. omega (arith, ints, h.from, l)),
  refl,
)
quotient_past t (negsuc a) (negsuc (suc b)) s h n out = absurd (out (halved_in t a b s h))

-- an unsigned quotient is never past its type
pub unsigned_quotient_in : (t : IntType) (a b : ℤ) → is_signed_of t ≡ false → InType t a → InType t b → InType t (int_div a b)
unsigned_quotient_in t (pos a) (pos b) s h k = positive_in t (a / b) (pos a) h (div-le_self a b) (omega (arith, ints))
unsigned_quotient_in t (pos a) (negsuc b) s h k = let low = unsigned_low t s in absurd (omega (arith, ints, low, k.from))
unsigned_quotient_in t (negsuc a) b s h k = let low = unsigned_low t s in absurd (omega (arith, ints, low, h.from))
