-- How often numbers of a range stand in a part.
use Rattle.std.proofs.Common.{◌≡◌, ℕ, ◌+◌, ◌<◌, ◌≤◌, Bool, true, false, refl, arith, nat_eq}
use Rattle.std.proofs.lemmas.Bool.Decides.{nat_tests}
use Rattle.pk_welltyped.specs.Marks.{one_if}

-- number n stands k times: once where it is one of a to b, else not at all
pub record Counts (a b n k : ℕ) : Type 0 where
  pub order : a ≤ b
  pub inside : a ≤ n → n < b → k ≡ 1
  pub below : n < a → k ≡ 0
  pub past : b ≤ n → k ≡ 0

pub none : (a n : ℕ) → Counts a a n 0
none a n = record { order = omega arith; inside = λ h k. absurd (omega (h, k, arith)); below = λ h. refl; past = λ h. refl }

pub both : (a b c n j k : ℕ) → Counts a b n j → Counts b c n k → Counts a c n (j + k)
both a b c n j k x y = record {
  order = omega (x.order, y.order, arith);
  inside = λ h l. grind (arith, x.inside, x.past, y.inside, y.below, x.order, y.order);
  below = λ h. omega (x.below h, y.below (omega (h, x.order, arith)), arith);
  past = λ h. omega (x.past (omega (h, y.order, arith)), y.past h, arith);
}

never : (n a : ℕ) → n ≡ a → nat_eq n a ≡ false → ⊥
never n a h k = grind (arith, nat_tests)

-- one number
pub one : (a n : ℕ) → Counts a (a + 1) n (one_if (nat_eq n a))
one a n = known (nat_eq n a) refl
  where
    known : (b : Bool) → nat_eq n a ≡ b → Counts a (a + 1) n (one_if b)
    known true is = let same : n ≡ a = grind (arith, nat_tests) in record { order = omega arith; inside = λ h k. refl; below = λ h. absurd (omega (h, same, arith)); past = λ h. absurd (omega (h, same, arith)) }
    known false is = record { order = omega arith; inside = λ h k. absurd (never n a (omega (h, k, arith)) is); below = λ h. refl; past = λ h. refl }
