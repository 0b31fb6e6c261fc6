-- The variables of packs.
use Rattle.std.specs.Prelude.{◌≡◌, ◌↔◌, ℕ, zero, suc, ◌+◌, ◌<◌, ◌==◌, ◌||◌, Bool, true, false, not, ℤ, List, [], ◌∷◌, length, slice_get, Option, Some, None, is_some}
use Rattle.std.proofs.Common.{◌∙◌, ap, refl, arith, inl, inr}
use Rattle.std.proofs.lemmas.List.Elements.{All-head, All-tail}
use Rattle.pk_octmat.specs.Octagon.{Octagon, entry}
use Rattle.pk_octops.specs.Assigns.{assignment_of}
use Rattle.pk_octagons.specs.Packs.{chosen_at, place_in, IsPack, ArePacks, pack_at, is_chosen, with_place, places_from, side_over}
use Rattle.pk_octagons.specs.Octagons.{AreOctagons}
use Rattle.pk_octagons.specs.Changes.{then_with, changed_at, assigned_octagons}
use Rattle.pk_octagons.specs.Members.{number_if, selected, MeetAll, IsChosen}
use Rattle.pk_octagons.proofs.Places.{other_test, place_there, none_apart}
use Rattle.pk_octagons.proofs.Overs.{same_count}
use Rattle.pk_octagons.proofs.Sound.{meets_same, chosen_is}

pub chosen_there : (packs : List (List ℕ)) (x : ℕ) → is_chosen packs x ≡ true → IsChosen packs x
chosen_there [] x e = absurd (cc)
chosen_there (c ∷ packs) x e = by (place_in c x) refl e (λ g. chosen_there packs x g)
  where
    by : (o : Option ℕ) → place_in c x ≡ o → (is_some o || is_chosen packs x) ≡ true → (is_chosen packs x ≡ true → IsChosen packs x) → IsChosen (c ∷ packs) x
    by None f g ih = inr (ih g)
    by (Some k) f g ih = let r = place_there c x k f in inl (k, r.0, r.1)

pub chosen_apart : (packs : List (List ℕ)) (x : ℕ) → is_chosen packs x ≡ false → IsChosen packs x → ⊥
chosen_apart [] x e h = absurd h
chosen_apart (c ∷ packs) x e h = by (place_in c x) refl e h (λ g i. chosen_apart packs x g i)
  where
    by : (o : Option ℕ) → place_in c x ≡ o → (is_some o || is_chosen packs x) ≡ false → IsChosen (c ∷ packs) x → (is_chosen packs x ≡ false → IsChosen packs x → ⊥) → ⊥
    by None f g (inl i) ih = none_apart c x f i.0 i.1 i.2
    by None f g (inr i) ih = ih g i
    by (Some k) f g i ih = absurd (cc)

pub chosen_test : (packs : List (List ℕ)) (x : ℕ) → (is_chosen packs x ≡ true) ↔ IsChosen packs x
chosen_test packs x = (chosen_there packs x, λ h. by h (is_chosen packs x) refl)
  where
    by : IsChosen packs x → (b : Bool) → is_chosen packs x ≡ b → is_chosen packs x ≡ true
    by h true e = e
    by h false e = absurd (chosen_apart packs x e h)

-- it has places where a pack has it
pub places_chosen : (p : ℕ) (packs : List (List ℕ)) (x : ℕ) → not (length (places_from p packs x) == 0) ≡ is_chosen packs x
places_chosen p [] x = refl
places_chosen p (c ∷ packs) x = by (place_in c x) (places_chosen (p + 1) packs x)
  where
    by : (o : Option ℕ) → not (length (places_from (p + 1) packs x) == 0) ≡ is_chosen packs x → not (length (with_place p o (places_from (p + 1) packs x)) == 0) ≡ (is_some o || is_chosen packs x)
    by None ih = ih
    by (Some k) ih = ap not (other_test (length (with_place p (Some k) (places_from (p + 1) packs x))) 0 (λ e. absurd (omega (arith, e))))

-- a pack's variable is one
pub chosen_of : (packs : List (List ℕ)) (p k : ℕ) → k < length (pack_at packs p) → IsChosen packs (chosen_at (pack_at packs p) k)
chosen_of [] p k h = absurd (omega (arith, h))
chosen_of (c ∷ packs) zero k h = inl (k, h, refl)
chosen_of (c ∷ packs) (suc p) k h = inr (chosen_of packs p k h)

apart_all : (packs : List (List ℕ)) (ms : List Octagon) (x : ℕ) (t : Option ℕ) (d : ℤ) (over : List ℕ) → length ms ≡ length packs → is_chosen packs x ≡ false → assigned_octagons packs ms x t d over ≡ ms
apart_all [] [] x t d over n e = refl
apart_all [] (m ∷ ms) x t d over n e = absurd (omega (arith, n))
apart_all (c ∷ packs) [] x t d over n e = absurd (omega (arith, n))
apart_all (c ∷ packs) (m ∷ ms) x t d over n e = by (place_in c x) refl e (λ g. apart_all packs ms x t d over (omega (arith, n)) g)
  where
    by : (o : Option ℕ) → place_in c x ≡ o → (is_some o || is_chosen packs x) ≡ false → (is_chosen packs x ≡ false → assigned_octagons packs ms x t d over ≡ ms) → assigned_octagons (c ∷ packs) (m ∷ ms) x t d over ≡ m ∷ ms
    by None f g ih = ap (λ o. changed_at o m (λ k. assignment_of m k (then_with t (side_over over c)) d) ∷ assigned_octagons packs ms x t d over) f ∙ ap (λ (ns : List Octagon). m ∷ ns) (ih g)
    by (Some k) f g ih = absurd (cc)

-- what is assigned to another changes no octagon
pub apart_stays : (packs : List (List ℕ)) (ms : List Octagon) (x : ℕ) (t : Option ℕ) (d : ℤ) (over : List ℕ) → AreOctagons packs ms → is_chosen packs x ≡ false → assigned_octagons packs ms x t d over ≡ ms
apart_stays packs ms x t d over h e = apart_all packs ms x t d over (same_count packs ms h.widths) e

-- only the numbers of the packs' variables matter
pub meet_same : (packs : List (List ℕ)) (ms : List Octagon) (x y : ℕ → ℤ) → ((v : ℕ) → IsChosen packs v → x v ≡ y v) → MeetAll packs ms x → MeetAll packs ms y
meet_same [] [] x y h m = tt
meet_same [] (n ∷ ms) x y h m = absurd m
meet_same (c ∷ packs) [] x y h m = absurd m
meet_same (c ∷ packs) (n ∷ ms) x y h m = (meets_same (entry n) (selected c x) (selected c y) (λ k. by k (slice_get c k) refl) m.0, meet_same packs ms x y (λ v i. h v (inr i)) m.1)
  where
    by : (k : ℕ) (o : Option ℕ) → slice_get c k ≡ o → number_if x o ≡ number_if y o
    by k None e = refl
    by k (Some v) e = let r = chosen_is c k v e in h v (inl (k, r.0, r.1))

-- it is among the first n
pub chosen_below : (n : ℕ) (packs : List (List ℕ)) (x : ℕ) → ArePacks n packs → IsChosen packs x → x < n
chosen_below n [] x h i = absurd i
chosen_below n (c ∷ packs) x h (inl (k, p, e)) = omega (arith, e, (All-head (IsPack n) c packs h).there k p)
chosen_below n (c ∷ packs) x h (inr i) = chosen_below n packs x (All-tail (IsPack n) c packs h) i
