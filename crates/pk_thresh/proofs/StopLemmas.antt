-- A list that was sorted, and of which each number was kept once.
use Rattle.std.proofs.Common.{◌≡◌, ◌↔◌, ◌+◌, sym, subst, ℤ, false, List, Contains, get_or, arith, Less, is_lt}
use Rattle.std.proofs.lemmas.Map.Keys.{Less-from_sorted}
use Rattle.std.proofs.lemmas.Int.{ints}
use Rattle.std.proofs.lemmas.Bool.Decides.{nat_tests}
use Rattle.std.specs.List.{dedup}
use Rattle.std.specs.List.Sorted.{IsSorted, IsStrictlySortedBy, IsPermutation}
use Rattle.std.specs.Ordering.{int_cmp, int_eq}
use Rattle.std.proofs.lemmas.Cmp.{int_cmp_total, int_eq_equiv}
use Rattle.std.proofs.lemmas.List.Kept.{IsStrictlySortedBy-dedup, Contains-dedup, Contains-from_dedup}
use Rattle.std.proofs.lemmas.List.Sorted.{Contains-permutation, IsPermutation-sym}

pub strictly : (xs : List ℤ) → IsSorted int_cmp xs → IsStrictlySortedBy int_cmp (dedup int_eq xs)
strictly xs h = IsStrictlySortedBy-dedup int_cmp_total (λ x y. grind (arith, ints, nat_tests)) xs h

-- rising strictly, no number is less than the one before it
pub rising : (xs : List ℤ) → IsStrictlySortedBy int_cmp xs → IsSorted int_cmp xs
rising xs h k d low next = turned (get_or xs k d) (get_or xs (k + 1) d) (Less-from_sorted int_cmp xs k (k + 1) d h (omega arith) next)
  where
    turned : (x y : ℤ) → int_cmp x y ≡ Less → is_lt (int_cmp y x) ≡ false
    turned x y e = grind (arith, ints, nat_tests)

pub kept : (xs ys zs : List ℤ) → IsPermutation xs ys → zs ≡ dedup int_eq ys → (z : ℤ) → Contains zs z ↔ Contains xs z
kept xs ys zs moved is z = (
  (λ h. Contains-permutation ys xs z (IsPermutation-sym xs ys moved) (Contains-from_dedup int_eq ys z (subst (λ (l : List ℤ). Contains l z) is h))),
  (λ h. subst (λ (l : List ℤ). Contains l z) (sym is) (Contains-dedup int_eq_equiv (λ x y e. grind (arith, ints, nat_tests)) ys z (Contains-permutation xs ys z moved h))),
)
