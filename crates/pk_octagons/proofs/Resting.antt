-- Octagons and values that leave each other as they are.
use Rattle.std.specs.Prelude.{◌≡◌, ◌≢◌, ◌⊎◌, ℕ, zero, suc, ◌+◌, ◌<◌, List, length, Some}
use Rattle.std.proofs.Common.{◌∙◌, ap, refl, sym, arith, inl, inr, set}
use Rattle.std.proofs.lemmas.Bool.{cases_eq}
use Rattle.pk_value.specs.Known.{Known}
use Rattle.pk_octmat.specs.Octagon.{Octagon, IsOctagon}
use Rattle.pk_octagons.specs.Packs.{chosen_at}
use Rattle.pk_octagons.specs.Values.{known_at}
use Rattle.pk_octagons.specs.Changes.{then_with}
use Rattle.pk_octagons.specs.Reduced.{IsResting, closed_in, by_range, by_ranges, bounded_by, bounded_at, bounded_all}
use Rattle.pk_octagons.proofs.Lists.{set_own}
use Rattle.pk_octagons.proofs.Closings.{own_closing}

-- ranges that lower nothing one by one lower nothing together
pub none_lowers : (l : List ℕ) (vs : List Known) (n : ℕ) (m : Octagon) → ((k : ℕ) → k < n → by_range m k (known_at vs (chosen_at l k)).range ≡ m) → by_ranges l vs n m ≡ m
none_lowers l vs zero m h = refl
none_lowers l vs (suc k) m h = ap (λ o. by_range o k (known_at vs (chosen_at l k)).range) (none_lowers l vs k m (λ j p. h j (omega (arith, p)))) ∙ h k (omega arith)

-- nor do bounds that change no value
pub none_bounds : (l : List ℕ) (m : Octagon) (n : ℕ) (vs : List Known) → ((k : ℕ) → k < n → bounded_by m k (known_at vs (chosen_at l k)) ≡ Some (known_at vs (chosen_at l k))) → bounded_all l m n vs ≡ Some vs
none_bounds l m zero vs h = refl
none_bounds l m (suc k) vs h =
    ap (λ o. then_with o (bounded_at m k (chosen_at l k))) (none_bounds l m k vs (λ j p. h j (omega (arith, p))))
    ∙ ap (λ o. then_with o (λ v. Some (set vs (chosen_at l k) v))) (h k (omega arith)) ∙ ap (λ ws. Some ws) (set_own vs (chosen_at l k) (known_at vs (chosen_at l k)) refl)

-- so many of them lower nothing, and the next one
pub none_lower_next : (l : List ℕ) (vs : List Known) (n : ℕ) (m : Octagon) → ((k : ℕ) → k < n → by_range m k (known_at vs (chosen_at l k)).range ≡ m) → by_range m n (known_at vs (chosen_at l n)).range ≡ m
    → (k : ℕ) → k < n + 1 → by_range m k (known_at vs (chosen_at l k)).range ≡ m
none_lower_next l vs n m h e k p = by (cases_eq k n)
  where
    by : (k ≡ n) ⊎ (k ≢ n) → by_range m k (known_at vs (chosen_at l k)).range ≡ m
    by (inl s) = rw s e
    by (inr d) = h k (omega (arith, p, d))

-- so many of the bounds change no value, and the next one
pub none_bound_next : (l : List ℕ) (m : Octagon) (n : ℕ) (vs : List Known) → ((k : ℕ) → k < n → bounded_by m k (known_at vs (chosen_at l k)) ≡ Some (known_at vs (chosen_at l k))) → bounded_by m n (known_at vs (chosen_at l n)) ≡ Some (known_at vs (chosen_at l n))
    → (k : ℕ) → k < n + 1 → bounded_by m k (known_at vs (chosen_at l k)) ≡ Some (known_at vs (chosen_at l k))
none_bound_next l m n vs h e k p = by (cases_eq k n)
  where
    by : (k ≡ n) ⊎ (k ≢ n) → bounded_by m k (known_at vs (chosen_at l k)) ≡ Some (known_at vs (chosen_at l k))
    by (inl s) = rw s e
    by (inr d) = h k (omega (arith, p, d))

-- a value that the octagon bounds to itself, at its place
pub none_bound_here : (l : List ℕ) (m : Octagon) (n : ℕ) (olds vs : List Known) (x : ℕ) (v w : Known) → vs ≡ olds → x ≡ chosen_at l n → known_at vs x ≡ v → w ≡ v → bounded_by m n v ≡ Some w
    → (set vs x w ≡ olds) × (bounded_by m n (known_at olds (chosen_at l n)) ≡ Some (known_at olds (chosen_at l n)))
none_bound_here l m n olds vs x v w same place here own is =
    let old : known_at olds (chosen_at l n) ≡ v = ap (λ us. known_at us (chosen_at l n)) (sym same) ∙ ap (known_at vs) (sym place) ∙ here in
    (set_own vs x w (here ∙ sym own) ∙ same, ap (bounded_by m n) old ∙ is ∙ ap (λ u. Some u) (own ∙ sym old))

-- what rests is its own closing
pub resting_closed : (l : List ℕ) (vs : List Known) (m : Octagon) → IsOctagon m → IsResting l vs m → Some m ≡ closed_in l vs m
resting_closed l vs m o h = own_closing m (by_ranges l vs (length l) m) o h.closed (none_lowers l vs (length l) m h.lowered)
