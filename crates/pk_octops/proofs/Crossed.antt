-- A matrix of which the two rows of a variable are rewritten, and with them its columns.
use Rattle.std.specs.Prelude.{◌≡◌, ◌≢◌, ℕ, ◌^◌, ◌<◌, ◌≤◌, ◌+◌, ◌*◌, ◌/◌, ◌%◌, ◌==◌, ℤ, pos, ◌-ℤ◌, Option, Some, None, false, List, ◌⊎◌}
use Rattle.std.proofs.Common.{◌∙◌, ap, refl, subst, sym, arith, inl, inr}
use Rattle.std.proofs.lemmas.Bool.{cases_eq}
use Rattle.std.proofs.lemmas.Bool.Decides.{nat_tests}
use Rattle.std.proofs.lemmas.Int.{ints}
use Rattle.pk_octmat.specs.Bounds.{IsNear, capped, plus}
use Rattle.pk_octmat.specs.Octagon.{bar}
use Rattle.pk_octmat.specs.Half.{kept_at}
use Rattle.pk_octmat.proofs.Half.{kept_turned}
use Rattle.pk_octmat.proofs.Pair.{InPair, half_bar}
use Rattle.pk_octmat.proofs.Points.{capped_same}
use Rattle.pk_octops.specs.Assigns.{gain, moved, source}
use Rattle.pk_octops.proofs.Along.{moved_turned}

-- the other bounds gain nothing
source_other : (k t i : ℕ) → (i / 2) ≢ k → source k t i ≡ i
source_other k t i n = let no : ((i / 2) == k) ≡ false = grind (arith, nat_tests) in rw no refl

gain_other : (k : ℕ) (c : ℤ) (i : ℕ) → (i / 2) ≢ k → gain k c i ≡ pos 0
gain_other k c i n =
    let first : (i == (2 * k)) ≡ false = grind (arith, nat_tests) in
    let second : (i == (2 * k + 1)) ≡ false = grind (arith, nat_tests) in
    rw first (rw second refl)

plus_none : (b : Option ℤ) → plus b (Some (pos 0 -ℤ pos 0)) ≡ b
plus_none None = refl
plus_none (Some z) = ap (λ (y : ℤ). Some y) (omega (arith, ints))

pub moved_other : (e : ℕ → ℕ → Option ℤ) (k t : ℕ) (c : ℤ) (i j : ℕ) → (i / 2) ≢ k → (j / 2) ≢ k → IsNear (2 ^ 66) (e i j) → moved e k t c i j ≡ e i j
unfolding moved
moved_other e k t c i j m n near =
    rw (source_other k t i m) (rw (source_other k t j n) (rw (gain_other k c i m) (rw (gain_other k c j n) (ap capped (plus_none (e i j)) ∙ capped_same (e i j) near))))

-- both rows are rewritten
pub crossed_all : (d k t n : ℕ) (c : ℤ) (olds cells : List (Option ℤ)) → InPair d (2 * k) n (moved (kept_at d olds) k t c (2 * k)) (moved (kept_at d olds) k t c (2 * k + 1)) olds cells → d % 2 ≡ 0 → d ≤ n → ((i j : ℕ) → IsNear (2 ^ 66) (kept_at d olds i j))
    → ((i j : ℕ) → kept_at d olds i j ≡ kept_at d olds (bar j) (bar i)) → (i j : ℕ) → i < d → j < d → kept_at d cells i j ≡ moved (kept_at d olds) k t c i j
crossed_all d k t n c olds cells x pairs dn near turned i j id jd = by (cases_eq (i / 2) k) (cases_eq (j / 2) k)
  where
    half : (2 * k) / 2 ≡ k
    half = omega arith

    row : (a b : ℕ) → b < d → (a / 2) ≡ k → (a ≡ 2 * k) ⊎ (a ≢ 2 * k) → kept_at d cells a b ≡ moved (kept_at d olds) k t c a b
    row a b bd s (inl u) = subst (λ q. kept_at d cells q b ≡ moved (kept_at d olds) k t c q b) (sym u) (x.first b (omega (arith, bd, dn)) bd)
    row a b bd s (inr u) = let is : a ≡ 2 * k + 1 = omega (arith, s, u) in subst (λ q. kept_at d cells q b ≡ moved (kept_at d olds) k t c q b) (sym is) (x.second b (omega (arith, bd, dn)) bd)

    by : ((i / 2) ≡ k) ⊎ ((i / 2) ≢ k) → ((j / 2) ≡ k) ⊎ ((j / 2) ≢ k) → kept_at d cells i j ≡ moved (kept_at d olds) k t c i j
    by (inl s) q = row i j jd s (cases_eq i (2 * k))
    by (inr m) (inl s) =
        let apart : i ≢ j = λ u. m (ap (λ q. q / 2) u ∙ s) in
        kept_turned d cells i j pairs id jd apart ∙ row (bar j) (bar i) (omega (arith, pairs)) (half_bar j ∙ s) (cases_eq (bar j) (2 * k)) ∙ sym (moved_turned k t c (kept_at d olds) turned i j)
    by (inr m) (inr n) = x.rest i j (λ u. m (u ∙ half)) (λ u. n (u ∙ half)) ∙ sym (moved_other (kept_at d olds) k t c i j m n (near i j))
