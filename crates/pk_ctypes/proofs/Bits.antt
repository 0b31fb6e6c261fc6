-- The code's 128 bits end in the type's bits.
use Rattle.std.specs.Prelude.{◌-◌, ◌-ℤ◌, true, false, bit_and, bit_or, bit_xor, ◌≡◌, ℕ, suc, ◌+◌, ◌*◌, ◌/◌, ◌%◌, ◌<◌, ◌^◌, ℤ, pos, negsuc, ◌+ℤ◌, ◌*ℤ◌, unsigned_abs, FitsSigned, ◌⊎◌}
use Rattle.std.specs.Int.{w128, cast_signed, int_rem_euclid}
use Rattle.std.proofs.Common.{arith, ◌∙◌, ap, refl, sym, to_z, of_z, inl, inr}
use Rattle.std.proofs.lemmas.Int.{ints, int_rem_euclid_is}
use Rattle.std.proofs.lemmas.Nat.{pow_pos, div-add-mod', and_le_l, or_lt, xor_lt}
use Rattle.std.proofs.Math.Nat.{mod-eq_of_lt}
use Rattle.pk_ctypes.specs.declared.types.IntType.{IntType}
use Rattle.pk_ctypes.specs.declared.types.IntType.TheVariants.{Char, SChar, UChar, Short, UShort, Int, UInt, Long, ULong, LLong, ULLong}
use Rattle.pk_ctypes.specs.Types.{is_signed_of, high_of, InType, IsEqualModulo, size_of, width_of, wrapped}
use Rattle.pk_ctypes.specs.Operators.{bits_of, bitwise, complement}
use Rattle.pk_ctypes.specs.Laws.{BitsAreMade}
use Rattle.pk_ctypes.proofs.Values.{wrapped_inside}
use Rattle.pk_ctypes.proofs.Quotients.{signed_low, unsigned_low}
use Rattle.pk_ctypes.proofs.Whole.{same_multiple, sum_times, rest_split, rest_from, rest_below}
use Rattle.pk_ctypes.proofs.Wrapped.{wrapped_in, wrapped_same, wrapped_is, finer, as_signed, high_is}

-- numbers that are equal modulo the size convert to one
pub same_wrapped : (t : IntType) (a b : ℤ) → IsEqualModulo (size_of t) a b → wrapped t b ≡ wrapped t a
same_wrapped t a b e =
    let second = wrapped_same t b in
    let both = sum_times e.0 second.0 (pos (size_of t)) in
    sym (wrapped_is t a (wrapped t b) (wrapped_in t b) (e.0 +ℤ second.0, omega (arith, ints, e.1, second.1, both)))

-- what the code's bits are as a number
signed_same : (t : IntType) (m : ℕ) → m < 2 ^ 128 → wrapped t (to_z w128 m) ≡ wrapped t (pos m)
signed_same t m h = same_wrapped t (pos m) (to_z w128 m) (finer t (pos m) (to_z w128 m) (by (as_signed m h)))
  where
    by : (cast_signed w128 m ≡ pos m) ⊎ (cast_signed w128 m ≡ pos m +ℤ negsuc 0 *ℤ pos (2 ^ 128)) → IsEqualModulo (2 ^ 128) (pos m) (to_z w128 m)
    by (inl e) = (pos 0, omega (arith, ints, e))
    by (inr e) = (negsuc 0, e)

-- each type's size goes into 2 ^ 128
parts : (t : IntType) → (k : ℕ) × (k * size_of t ≡ 2 ^ 128)
parts Char = (2 ^ 120, refl)
parts SChar = (2 ^ 120, refl)
parts UChar = (2 ^ 120, refl)
parts Short = (2 ^ 112, refl)
parts UShort = (2 ^ 112, refl)
parts Int = (2 ^ 96, refl)
parts UInt = (2 ^ 96, refl)
parts Long = (2 ^ 64, refl)
parts ULong = (2 ^ 64, refl)
parts LLong = (2 ^ 64, refl)
parts ULLong = (2 ^ 64, refl)

lifted : (n k m : ℕ) → m + suc n ≡ k → negsuc n +ℤ pos k ≡ pos m
lifted n k m e = omega (arith, ints)

pub of_small : (z : ℤ) → FitsSigned w128 z → of_z w128 z < 2 ^ 128
of_small (pos n) h = let f : n < 2 ^ 127 = h.sfits in omega arith
of_small (negsuc n) h = omega arith

-- the lowest bits of the code's bits are the type's bits
low_bits : (t : IntType) (z : ℤ) → FitsSigned w128 z → of_z w128 z % size_of t ≡ bits_of t z
low_bits t (pos n) h = refl
low_bits t (negsuc n) h =
    let k = parts t in
    let fits : n < 2 ^ 127 = h.sfits in
    sym (ap unsigned_abs (int_rem_euclid_is (negsuc n) (pos (size_of t)) (size_of t) k.0 (of_z w128 (negsuc n)) (pow_pos (width_of t)) refl (lifted n (k.0 * size_of t) (of_z w128 (negsuc n)) (omega (arith, k.1)))))

rest_same : (t : IntType) (m : ℕ) → wrapped t (pos m) ≡ wrapped t (pos (m % size_of t))
rest_same t m = same_wrapped t (pos (m % size_of t)) (pos m) (pos (m / size_of t), ap pos (omega (arith, div-add-mod' m (size_of t))))

pub bitwise_back : (f : ℕ → ℕ → ℕ) → ((a b k : ℕ) → f a b % 2 ^ k ≡ f (a % 2 ^ k) (b % 2 ^ k)) → (t : IntType) (a b : ℤ) → FitsSigned w128 a → FitsSigned w128 b → f (of_z w128 a) (of_z w128 b) < 2 ^ 128 → wrapped t (to_z w128 (f (of_z w128 a) (of_z w128 b))) ≡ bitwise f t a b
bitwise_back f law t a b g h small =
    signed_same t (f (of_z w128 a) (of_z w128 b)) small
    ∙ rest_same t (f (of_z w128 a) (of_z w128 b))
    ∙ ap (λ n. wrapped t (pos n)) (law (of_z w128 a) (of_z w128 b) (width_of t) ∙ ap (λ n. f n (of_z w128 b % size_of t)) (low_bits t a g) ∙ ap (f (bits_of t a)) (low_bits t b h))

pub bitwise_in : (f : ℕ → ℕ → ℕ) (t : IntType) (a b : ℤ) → InType t (bitwise f t a b)
bitwise_in f t a b = wrapped_in t (pos (f (bits_of t a) (bits_of t b)))

pub complement_in : (t : IntType) (a : ℤ) → InType t (complement t a)
complement_in t a = wrapped_in t (pos (size_of t - 1 - bits_of t a))

-- the other bits are those of the number's negative less 1
pub complement_is : (t : IntType) (a : ℤ) → wrapped t (negsuc 0 -ℤ a) ≡ complement t a
complement_is t a =
    let n = size_of t in
    let some : 0 < n = pow_pos (width_of t) in
    let from = rest_from a n some in
    let below = rest_below a n some in
    let split = rest_split a n some in
    let more = sum_times split.0 (pos 1) (pos n) in
    sym (same_wrapped t (negsuc 0 -ℤ a) (pos (n - 1 - bits_of t a)) (split.0 +ℤ pos 1, omega (arith, ints, split.1, from, below, more)))

pub bits_below : (t : IntType) (z : ℤ) → bits_of t z < size_of t
bits_below t z =
    let some : 0 < size_of t = pow_pos (width_of t) in
    let from = rest_from z (size_of t) some in
    let below = rest_below z (size_of t) some in
    omega (arith, ints)

-- numbers that are equal modulo the size have the same bits
pub same_bits : (t : IntType) (a b : ℤ) → IsEqualModulo (size_of t) a b → bits_of t a ≡ bits_of t b
same_bits t a b e =
    let n = size_of t in
    let some : 0 < n = pow_pos (width_of t) in
    let first = rest_split a n some in
    let second = rest_split b n some in
    let from = rest_from a n some in
    let below = rest_below a n some in
    let from' = rest_from b n some in
    let below' = rest_below b n some in
    let sum = sum_times first.0 e.0 (pos n) in
    let one : second.0 ≡ first.0 +ℤ e.0 = same_multiple second.0 (first.0 +ℤ e.0) n (omega (arith, ints, first.1, second.1, e.1, sum, from, below, from', below')) (omega (arith, ints, first.1, second.1, e.1, sum, from, below, from', below')) in
    let products = ap (λ q. q *ℤ pos n) one in
    let rests : int_rem_euclid a (pos n) ≡ int_rem_euclid b (pos n) = omega (arith, ints, first.1, second.1, e.1, sum, products) in
    ap unsigned_abs rests

pub bits_of-wrapped : (t : IntType) (n : ℕ) → n < size_of t → bits_of t (wrapped t (pos n)) ≡ n
bits_of-wrapped t n h = sym (same_bits t (pos n) (wrapped t (pos n)) (wrapped_same t (pos n))) ∙ mod-eq_of_lt h

pub bits_of-bitwise : (f : ℕ → ℕ → ℕ) → ((k a b : ℕ) → a < 2 ^ k → b < 2 ^ k → f a b < 2 ^ k) → (t : IntType) (a b : ℤ) → bits_of t (bitwise f t a b) ≡ f (bits_of t a) (bits_of t b)
bits_of-bitwise f small t a b = bits_of-wrapped t (f (bits_of t a) (bits_of t b)) (small (width_of t) (bits_of t a) (bits_of t b) (bits_below t a) (bits_below t b))

other_bits : (t : IntType) (a : ℤ) → bits_of t (complement t a) + bits_of t a ≡ size_of t - 1
other_bits t a =
    let below = bits_below t a in
    let is = bits_of-wrapped t (size_of t - 1 - bits_of t a) (omega arith) in
    omega (arith, is)

signed_complement : (t : IntType) (a : ℤ) → is_signed_of t ≡ true → InType t a → complement t a ≡ negsuc 0 -ℤ a
signed_complement t a s h =
    let low = signed_low t s in
    sym (complement_is t a) ∙ wrapped_inside t (negsuc 0 -ℤ a) (record { from = omega (arith, ints, low, h.to); to = omega (arith, ints, low, h.from) })

unsigned_complement : (t : IntType) (a : ℤ) → is_signed_of t ≡ false → InType t a → complement t a ≡ high_of t -ℤ a
unsigned_complement t a s h =
    let low = unsigned_low t s in
    let last = high_is t in
    sym (complement_is t a) ∙ wrapped_is t (negsuc 0 -ℤ a) (high_of t -ℤ a) (record { from = omega (arith, ints, low, h.to); to = omega (arith, ints, low, h.from) }) (pos 1, omega (arith, ints, low, last))

and_small : (k a b : ℕ) → a < 2 ^ k → b < 2 ^ k → bit_and a b < 2 ^ k
and_small k a b h l = let most = and_le_l a b in omega arith

pub made : BitsAreMade
made = record {
  both = bits_of-bitwise bit_and and_small;
  either = bits_of-bitwise bit_or (λ k a b h l. or_lt k a b h l);
  one = bits_of-bitwise bit_xor (λ k a b h l. xor_lt k a b h l);
  other = other_bits;
  signed = signed_complement;
  unsigned = unsigned_complement;
}
