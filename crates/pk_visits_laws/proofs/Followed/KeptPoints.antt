-- Points of regions that are kept for later paths, as a list.
use Rattle.std.proofs.Common.{◌≡◌, ℕ, zero, suc, ◌+◌, ◌<◌, ◌≤◌, ◌⊎◌, inl, inr, List, [], ◌∷◌, ◌++◌, subst, arith}
use Rattle.pk_draft.specs.declared.drafts.Region.{Region}
use Rattle.pk_lower_laws.proofs.Drafts.Places.{Holds}
use Rattle.pk_lower_laws.proofs.Drafts.Plans.{World, base, size_of}
use Rattle.pk_visits.proofs.Slots.{Among, region_at}
use Rattle.pk_visits.proofs.Stages.{among_front, among_back, among_either}
use Rattle.pk_visits.proofs.Stores.{decided}
use Rattle.pk_visits.proofs.Grows.Statements.{upto, upto_from, upto_before, upto_has}

-- n points from p on, where p is one
abbrev points_from : (n p : ℕ) → List ℕ
points_from n zero = []
points_from n (suc p) = upto n (suc p)

has_point : (n p q : ℕ) → 0 < p → p ≤ q → q < p + n → Among q (points_from n p)
has_point n zero q z l u = absurd (omega (z, arith))
has_point n (suc p) q z l u = by (more (suc p) q l) where
  more : (a b : ℕ) → a ≤ b → (i : ℕ) × (b ≡ a + i)
  more zero b h = (b, omega arith)
  more (suc a) zero h = absurd (omega (h, arith))
  more (suc a) (suc b) h = let r = more a b (omega (h, arith)) in (r.0, omega (r.1, arith))

  by : (i : ℕ) × (q ≡ suc p + i) → Among q (upto n (suc p))
  by (i, e) = subst (λ x. Among x (upto n (suc p))) (let y = e in omega (y, arith)) (upto_has n (suc p) i (omega (u, e, arith)))

is_point : (n p q : ℕ) → Among q (points_from n p) → (0 < p) × (p ≤ q) × (q < p + n)
is_point n zero q h = absurd h
is_point n (suc p) q h = let a = upto_from n (suc p) q h in let b = upto_before n (suc p) q h in (omega arith, a, b)

-- of i paths from j on
abbrev pub kept_points : World → List Region → (i j : ℕ) → List ℕ
kept_points W rs zero j = []
kept_points W rs (suc i) j = points_from (size_of W j).points (region_at rs j).points ++ kept_points W rs i (j + 1)

pub keeps_point : (W : World) (rs : List Region) (i j m q : ℕ) → j ≤ m → m < j + i → Holds (base W) rs m q → Among q (kept_points W rs i j)
keeps_point W rs zero j m q a b h = absurd (omega (a, b, arith))
keeps_point W rs (suc i) j m q a b h = by (decided m j) (λ low. keeps_point W rs i (j + 1) m q low (omega (b, arith)) h) where
  above : (m ≡ j → ⊥) → j + 1 ≤ m
  above n = strict (split m j) where
    split : (x y : ℕ) → (x ≤ y) ⊎ (y + 1 ≤ x)
    split x y = grind arith

    strict : (m ≤ j) ⊎ (j + 1 ≤ m) → j + 1 ≤ m
    strict (inl x) = absurd (n (omega (x, a, arith)))
    strict (inr x) = x

  by : (m ≡ j) ⊎ (m ≡ j → ⊥) → (j + 1 ≤ m → Among q (kept_points W rs i (j + 1))) → Among q (points_from (size_of W j).points (region_at rs j).points ++ kept_points W rs i (j + 1))
  by (inl e) f =
      let s : Holds (base W) rs j q = subst (λ x. Holds (base W) rs x q) e h in
      among_front (points_from (size_of W j).points (region_at rs j).points) (kept_points W rs i (j + 1)) q (has_point (size_of W j).points (region_at rs j).points q s.kept s.from s.to)
  by (inr n) f = among_back (points_from (size_of W j).points (region_at rs j).points) (kept_points W rs i (j + 1)) q (f (above n))

pub kept_point : (W : World) (rs : List Region) (i j q : ℕ) → Among q (kept_points W rs i j) → (m : ℕ) × (j ≤ m) × Holds (base W) rs m q
kept_point W rs zero j q h = absurd h
kept_point W rs (suc i) j q h = by (among_either (points_from (size_of W j).points (region_at rs j).points) (kept_points W rs i (j + 1)) q h) (λ a. kept_point W rs i (j + 1) q a) where
  by : Among q (points_from (size_of W j).points (region_at rs j).points) ⊎ Among q (kept_points W rs i (j + 1)) → (Among q (kept_points W rs i (j + 1)) → (m : ℕ) × (j + 1 ≤ m) × Holds (base W) rs m q) → (m : ℕ) × (j ≤ m) × Holds (base W) rs m q
  by (inl a) f = let s = is_point (size_of W j).points (region_at rs j).points q a in (j, omega arith, record { kept = s.0; from = s.1; to = s.2 })
  by (inr a) f = let r = f a in let low = r.1 in (r.0, omega (low, arith), r.2)

-- whether a point is in a list
pub listed_or_not : (q : ℕ) (xs : List ℕ) → Among q xs ⊎ (Among q xs → ⊥)
listed_or_not q [] = inr (λ h. h)
listed_or_not q (x ∷ xs) = by (decided q x) (listed_or_not q xs) where
  by : (q ≡ x) ⊎ (q ≡ x → ⊥) → Among q xs ⊎ (Among q xs → ⊥) → Among q (x ∷ xs) ⊎ (Among q (x ∷ xs) → ⊥)
  by (inl e) b = inl (inl e)
  by (inr n) (inl h) = inl (inr h)
  by (inr n) (inr m) = inr (λ h. neither h) where
    neither : Among q (x ∷ xs) → ⊥
    neither (inl e) = n e
    neither (inr h) = m h
