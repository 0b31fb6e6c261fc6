-- Multiples of a whole number.
use Rattle.std.specs.Prelude.{◌≡◌, ◌%◌, ◌*◌, true, ℤ, pos, negsuc, ◌+ℤ◌, ◌-ℤ◌, ◌*ℤ◌, neg_ℤ, int_div, int_rem, unsigned_abs}
use Rattle.std.proofs.Common.{arith, ◌∙◌, ap, sym}
use Rattle.std.proofs.lemmas.Int.{ints, quot-rem, unsigned_abs-mul}
use Rattle.std.proofs.lemmas.Bool.Decides.{nat_tests}
use Rattle.std.proofs.lemmas.Nat.Gcd.{mod-eq-zero_of_dvd, dvd_of_mod-eq-zero}
use native.Mathlib.Nat.{dvd-mul_left}
use Rattle.std.specs.Int.{◌∣◌}
use borrow.Author.Differences.{up, down, product_is}
use Rattle.std.proofs.Math.IntN.{*ℤ_comm, zero-*ℤ}
use Rattle.pk_ctypes.proofs.Whole.{sum_times}
use Rattle.pk_congr.specs.Classes.{divides}

abbrev pub Multiple : ℤ → ℤ → Type 0
Multiple d z = (k : ℤ) × (z ≡ k *ℤ d)

pub assoc : (a b c : ℤ) → (a *ℤ b) *ℤ c ≡ a *ℤ (b *ℤ c)
assoc a b c =
    let left = product_is a b in
    let right = product_is b c in
    omega (
      arith,
      ints,
      product_is,
      ap (λ k. k * up c) left.0,
      ap (λ k. k * down c) left.0,
      ap (λ k. k * up c) left.1,
      ap (λ k. k * down c) left.1,
      ap (λ k. up a * k) right.0,
      ap (λ k. down a * k) right.0,
      ap (λ k. up a * k) right.1,
      ap (λ k. down a * k) right.1,
    )

pub neg_product : (a b : ℤ) → neg_ℤ a *ℤ b ≡ neg_ℤ (a *ℤ b)
neg_product a b =
    let none : neg_ℤ a +ℤ a ≡ pos 0 = omega (arith, ints) in
    omega (arith, ints, sum_times (neg_ℤ a) a b, ap (λ x. x *ℤ b) none, zero-*ℤ b)

pub difference_times : (a b c : ℤ) → (a -ℤ b) *ℤ c ≡ a *ℤ c -ℤ b *ℤ c
difference_times a b c = omega (arith, ints, sum_times a (neg_ℤ b) c, neg_product b c)

pub times_difference : (a b c : ℤ) → c *ℤ (a -ℤ b) ≡ c *ℤ a -ℤ c *ℤ b
times_difference a b c = *ℤ_comm c (a -ℤ b) ∙ difference_times a b c ∙ omega (arith, ints, *ℤ_comm a c, *ℤ_comm b c)

pub zero_multiple : (d : ℤ) → Multiple d (pos 0)
zero_multiple d = (pos 0, omega (arith, ints, product_is))

pub self_multiple : (d : ℤ) → Multiple d d
self_multiple d = (pos 1, omega (arith, ints, product_is))

pub sum_multiple : (d a b : ℤ) → Multiple d a → Multiple d b → Multiple d (a +ℤ b)
sum_multiple d a b h k = (h.0 +ℤ k.0, omega (arith, ints, sum_times h.0 k.0 d, h.1, k.1))

pub difference_multiple : (d a b : ℤ) → Multiple d a → Multiple d b → Multiple d (a -ℤ b)
difference_multiple d a b h k = (h.0 -ℤ k.0, omega (arith, ints, difference_times h.0 k.0 d, h.1, k.1))

pub negative_multiple : (d a : ℤ) → Multiple d a → Multiple d (neg_ℤ a)
negative_multiple d a h = (neg_ℤ h.0, omega (arith, ints, neg_product h.0 d, h.1))

pub times_multiple : (d a c : ℤ) → Multiple d a → Multiple d (c *ℤ a)
times_multiple d a c h = (c *ℤ h.0, ap (λ x. c *ℤ x) h.1 ∙ sym (assoc c h.0 d))

pub multiple_trans : (d e z : ℤ) → Multiple d e → Multiple e z → Multiple d z
multiple_trans d e z h k = (k.0 *ℤ h.0, k.1 ∙ ap (λ x. k.0 *ℤ x) h.1 ∙ sym (assoc k.0 h.0 d))

-- the test
rem_zero : (z d : ℤ) → unsigned_abs z % unsigned_abs d ≡ 0 → int_rem z d ≡ pos 0
rem_zero (pos a) d e = ap pos e
rem_zero (negsuc a) d e = ap (λ n. neg_ℤ (pos n)) e

pub multiple_from_mod : (d z : ℤ) → unsigned_abs z % unsigned_abs d ≡ 0 → Multiple d z
multiple_from_mod d z e = (int_div z d, omega (arith, ints, quot-rem z d, rem_zero z d e))

pub mod_from_multiple : (d z : ℤ) → Multiple d z → unsigned_abs z % unsigned_abs d ≡ 0
mod_from_multiple d z h =
    let size : unsigned_abs z ≡ unsigned_abs h.0 * unsigned_abs d = ap unsigned_abs h.1 ∙ unsigned_abs-mul h.0 d in
    rw size (mod-eq-zero_of_dvd (unsigned_abs d) (dvd-mul_left (unsigned_abs d) (unsigned_abs h.0)))

pub multiple_test : (d z : ℤ) → Multiple d z → divides d z ≡ true
multiple_test d z h = let e = mod_from_multiple d z h in grind (arith, nat_tests)

pub test_multiple : (d z : ℤ) → divides d z ≡ true → Multiple d z
test_multiple d z e = multiple_from_mod d z (grind (arith, nat_tests))

pub dvd_from_multiple : (d z : ℤ) → Multiple d z → unsigned_abs d ∣ unsigned_abs z
dvd_from_multiple d z h = dvd_of_mod-eq-zero (unsigned_abs d) (mod_from_multiple d z h)

pub multiple_from_dvd : (d z : ℤ) → unsigned_abs d ∣ unsigned_abs z → Multiple d z
multiple_from_dvd d z h = multiple_from_mod d z (mod-eq-zero_of_dvd (unsigned_abs d) h)
