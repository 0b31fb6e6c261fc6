-- A place and that of its negative.
use Rattle.std.specs.Prelude.{◌≡◌, ◌≢◌, ℕ, ◌<◌, ◌*◌, ◌/◌, ◌%◌, ◌==◌, ℤ, neg_ℤ, Bool, true, false}
use Rattle.std.proofs.Common.{refl, arith}
use Rattle.std.proofs.lemmas.Bool.Decides.{nat_tests}
use Rattle.std.proofs.lemmas.Int.{ints}
use Rattle.pk_octmat.specs.Octagon.{bar, side}

-- places come in pairs
pub pairs_of : (d : ℕ) → d % 2 ≡ 0 → d ≡ 2 * (d / 2)
pairs_of d h = omega arith

pub half_below : (d k : ℕ) → d % 2 ≡ 0 → 2 * k < d → k < d / 2
half_below d k h l = omega arith

pub bar_bar : (i : ℕ) → bar (bar i) ≡ i
bar_bar i = omega arith

pub bar_in : (n i : ℕ) → i < 2 * n → bar i < 2 * n
bar_in n i h = omega arith

pub bar_other : (i : ℕ) → bar i ≢ i
bar_other i h = absurd (omega arith)

neg_neg : (z : ℤ) → z ≡ neg_ℤ (neg_ℤ z)
neg_neg z = omega (arith, ints)

pub side_bar : (x : ℕ → ℤ) (i : ℕ) → side x (bar i) ≡ neg_ℤ (side x i)
side_bar x i = by ((i % 2) == 0) refl
  where
    by : (t : Bool) → ((i % 2) == 0) ≡ t → side x (bar i) ≡ neg_ℤ (side x i)
    by true e =
        let even : i % 2 ≡ 0 = grind (arith, nat_tests) in
        let rest : bar i % 2 ≡ 1 = omega arith in
        let odd : (bar i % 2 == 0) ≡ false = rw rest refl in
        let half : bar i / 2 ≡ i / 2 = omega arith in
        rw odd (rw half (rw e refl))
    by false e =
        let some : i % 2 ≢ 0 = grind (arith, nat_tests) in
        let rest : bar i % 2 ≡ 0 = omega arith in
        let even : (bar i % 2 == 0) ≡ true = rw rest refl in
        let half : bar i / 2 ≡ i / 2 = omega arith in
        rw even (rw half (rw e (neg_neg (x (i / 2)))))
