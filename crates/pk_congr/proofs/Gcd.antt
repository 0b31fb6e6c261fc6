-- Greatest common divisors and least common multiples.
use Rattle.std.specs.Prelude.{◌≡◌, ℕ, zero, suc, ◌+◌, ◌/◌, ◌%◌, ◌<◌, ℤ, pos, ◌+ℤ◌, ◌-ℤ◌, ◌*ℤ◌, unsigned_abs}
use Rattle.std.specs.Int.{IsGcd}
use Rattle.std.proofs.Common.{arith, ◌∙◌, ap, refl}
use Rattle.std.proofs.lemmas.Int.{ints}
use Rattle.std.proofs.lemmas.Nat.Gcd.{IsGcd-from_zero, IsGcd-from_mod, same_from_IsGcd}
use Rattle.std.proofs.Math.IntN.{*ℤ-zero}
use Rattle.pk_congr.specs.Classes.{gcd_in, gcd, int_gcd}
use Rattle.pk_congr.proofs.Multiples.{Multiple, assoc, times_difference, difference_times, dvd_from_multiple, multiple_from_dvd}

euclid_in : (n a b : ℕ) → b < n → IsGcd a b (gcd_in n a b)
unfolding gcd_in
euclid_in zero a b h = absurd (omega arith)
euclid_in (suc n) a zero h = IsGcd-from_zero a zero refl
euclid_in (suc n) a (suc b) h = IsGcd-from_mod a (suc b) _ (euclid_in n (suc b) (a % suc b) (omega arith))

pub euclid : (a b : ℕ) → IsGcd a b (gcd a b)
unfolding gcd
euclid a b = euclid_in (b + 1) a b (omega arith)

pub gcd_left : (a b : ℤ) → Multiple (int_gcd a b) a
gcd_left a b = multiple_from_dvd (int_gcd a b) a (euclid (unsigned_abs a) (unsigned_abs b)).0

pub gcd_right : (a b : ℤ) → Multiple (int_gcd a b) b
gcd_right a b = multiple_from_dvd (int_gcd a b) b (euclid (unsigned_abs a) (unsigned_abs b)).1

pub gcd_greatest : (a b d : ℤ) → Multiple d a → Multiple d b → Multiple d (int_gcd a b)
gcd_greatest a b d h k =
    multiple_from_dvd d (int_gcd a b) ((euclid (unsigned_abs a) (unsigned_abs b)).2 (unsigned_abs d) (dvd_from_multiple d a h) (dvd_from_multiple d b k))

-- Bézout's identity
abbrev Combines : ℕ → ℕ → ℕ → Type 0
Combines a b g = (u : ℤ) × (v : ℤ) × (pos g ≡ u *ℤ pos a +ℤ v *ℤ pos b)

combined_step : (a b g : ℕ) → 0 < b → Combines b (a % b) g → Combines a b g
combined_step a b g h c =
    let split : pos (a % b) ≡ pos a -ℤ pos (a / b) *ℤ pos b = omega (arith, ints) in
    (c.1, c.0 -ℤ c.1 *ℤ pos (a / b), turned c.0 c.1 (pos (a / b)) (pos a) (pos b) (pos (a % b)) (pos g) split c.2)
  where
    turned : (u v q a b r g : ℤ) → r ≡ a -ℤ q *ℤ b → g ≡ u *ℤ b +ℤ v *ℤ r → g ≡ v *ℤ a +ℤ (u -ℤ v *ℤ q) *ℤ b
    turned u v q a b r g e f = f ∙ ap (λ x. u *ℤ b +ℤ v *ℤ x) e ∙ omega (arith, ints, times_difference a (q *ℤ b) v, difference_times u (v *ℤ q) b, assoc v q b)

combined_in : (n a b : ℕ) → b < n → Combines a b (gcd_in n a b)
unfolding gcd_in
combined_in zero a b h = absurd (omega arith)
combined_in (suc n) a zero h = (pos 1, pos 0, omega (arith, ints))
combined_in (suc n) a (suc b) h = combined_step a (suc b) _ (omega arith) (combined_in n (suc b) (a % suc b) (omega arith))

pub combined : (a b : ℕ) → Combines a b (gcd a b)
unfolding gcd
combined a b = combined_in (b + 1) a b (omega arith)

pub gcd_some : (a b : ℕ) → 0 < a → 0 < gcd a b
gcd_some a b h = some (gcd a b) refl
  where
    some : (g : ℕ) → gcd a b ≡ g → 0 < g
    some zero e = let m = gcd_left (pos a) (pos b) in let nothing : pos a ≡ pos 0 = m.1 ∙ ap (λ g. m.0 *ℤ pos g) e ∙ *ℤ-zero m.0 in absurd (omega (arith, ints))
    some (suc g) e = omega arith

pub gcd_step : (a b : ℕ) → gcd a b ≡ gcd b (a % b)
gcd_step a b = same_from_IsGcd a b _ _ (euclid a b) (IsGcd-from_mod a b _ (euclid b (a % b)))

pub gcd_zero : (a b : ℕ) → b ≡ 0 → gcd a b ≡ a
gcd_zero a b e = same_from_IsGcd a b _ _ (euclid a b) (IsGcd-from_zero a b e)

pub gcd_some_right : (a b : ℕ) → 0 < b → 0 < gcd a b
gcd_some_right a b h = some (gcd a b) refl
  where
    some : (g : ℕ) → gcd a b ≡ g → 0 < g
    some zero e = let m = gcd_right (pos a) (pos b) in let nothing : pos b ≡ pos 0 = m.1 ∙ ap (λ g. m.0 *ℤ pos g) e ∙ *ℤ-zero m.0 in absurd (omega (arith, ints))
    some (suc g) e = omega arith
