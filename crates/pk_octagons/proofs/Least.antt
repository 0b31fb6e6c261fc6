-- The least bound of all octagons.
use Rattle.std.specs.Prelude.{◌≡◌, ℕ, ◌+◌, ◌/◌, Bool, true, false, if◌then◌else◌, ℤ, int_lt, List, [], ◌∷◌, ◌++◌, length, option_map, Option, Some, None}
use Rattle.std.specs.Int.{int_min}
use Rattle.std.proofs.Common.{◌∙◌, ap, refl, sym, arith}
use Rattle.std.proofs.lemmas.Int.{ints, clamps}
use Rattle.pk_octmat.specs.Bounds.{lesser}
use Rattle.pk_octmat.specs.Octagon.{Octagon, entry}
use Rattle.pk_octagons.specs.declared.packs.Place.{Place}
use Rattle.pk_octagons.specs.Packs.{place_in, pack_at, with_place, places_from, places_of, side_of, side_in}
use Rattle.pk_octagons.specs.Octagons.{octagon_at}
use Rattle.pk_octagons.specs.Changes.{then_with, bound_by, bound_in}
use Rattle.pk_octagons.proofs.Overs.{pack_behind, octagon_behind, append_one, append_length}

-- ---- the lesser of bounds

lesser_none : (a : Option ℤ) → lesser a None ≡ a
lesser_none None = refl
lesser_none (Some a) = refl

lesser_some : (a b : ℤ) → lesser (Some a) (Some b) ≡ Some (int_min a b)
lesser_some a b = by (int_lt b a) refl
  where
    by : (t : Bool) → int_lt b a ≡ t → (if t then Some b else Some a) ≡ Some (int_min a b)
    by true e = ap (λ (z : ℤ). Some z) (omega (arith, ints, clamps, e))
    by false e = ap (λ (z : ℤ). Some z) (omega (arith, ints, clamps, e))

lesser_twice : (a b c : Option ℤ) → lesser (lesser a b) c ≡ lesser a (lesser b c)
lesser_twice None b c = refl
lesser_twice (Some a) None c = refl
lesser_twice (Some a) (Some b) None = lesser_none (lesser (Some a) (Some b))
lesser_twice (Some a) (Some b) (Some c) =
    ap (λ o. lesser o (Some c)) (lesser_some a b) ∙ lesser_some (int_min a b) c ∙ ap (λ (z : ℤ). Some z) (omega (arith, ints, clamps)) ∙ sym (lesser_some a (int_min b c)) ∙ ap (λ o. lesser (Some a) o) (sym (lesser_some b c))

-- ---- at the places of a variable

abbrev pub least_with : (Place → Option ℤ) → Option ℤ → List Place → Option ℤ
least_with h acc [] = acc
least_with h acc (place ∷ places) = least_with h (lesser acc (h place)) places

abbrev pub told_at : List (List ℕ) → List Octagon → ℕ → ℕ → Place → Option ℤ
told_at packs ms i j place = then_with (side_in (pack_at packs place.pack) j) (entry (octagon_at ms place.pack) (side_of i place.place))

abbrev told_with : (c : List ℕ) (m : Octagon) (i j : ℕ) (o : Option ℕ) → Option ℤ
told_with c m i j o = then_with (option_map (side_of i) o) (λ a. then_with (side_in c j) (entry m a))

module _ (all : List (List ℕ)) (octagons : List Octagon) (i j : ℕ) where
  abbrev pub h : Place → Option ℤ
  h = told_at all octagons i j

  least_from : (done packs : List (List ℕ)) (before ms : List Octagon) (p : ℕ) (acc : Option ℤ) → all ≡ done ++ packs → octagons ≡ before ++ ms → p ≡ length done → p ≡ length before → length ms ≡ length packs
      → least_with h acc (places_from p packs (i / 2)) ≡ lesser acc (bound_in packs ms i j)
  least_from done [] before ms p acc a o d b e = sym (lesser_none acc)
  least_from done (c ∷ packs) before [] p acc a o d b e = absurd (omega (arith, e))
  least_from done (c ∷ packs) before (m ∷ ms) p acc a o d b e =
      by (place_in c (i / 2)) refl
      (λ u. least_from (done ++ c ∷ []) packs (before ++ m ∷ []) ms (p + 1) u (a ∙ append_one done packs c) (o ∙ append_one before ms m) (ap (λ k. k + 1) d ∙ sym (append_length done c)) (ap (λ k. k + 1) b ∙ sym (append_length before m)) (omega (arith, e)))
    where
      pack : pack_at all p ≡ c
      pack = ap (λ ps. pack_at ps p) a ∙ ap (pack_at (done ++ c ∷ packs)) d ∙ pack_behind done packs c

      octagon : octagon_at octagons p ≡ m
      octagon = ap (λ ns. octagon_at ns p) o ∙ ap (octagon_at (before ++ m ∷ ms)) b ∙ octagon_behind before ms m

      own : (k : ℕ) → h (record { pack = p; place = k }) ≡ told_with c m i j (Some k)
      own k = ap (λ q. then_with (side_in q j) (entry (octagon_at octagons p) (side_of i k))) pack ∙ ap (λ n. then_with (side_in c j) (entry n (side_of i k))) octagon

      by : (q : Option ℕ) → place_in c (i / 2) ≡ q → ((u : Option ℤ) → least_with h u (places_from (p + 1) packs (i / 2)) ≡ lesser u (bound_in packs ms i j))
          → least_with h acc (with_place p q (places_from (p + 1) packs (i / 2))) ≡ lesser acc (lesser (bound_by c m i j) (bound_in packs ms i j))
      by None f ih = ih acc ∙ ap (λ w. lesser acc (lesser (told_with c m i j w) (bound_in packs ms i j))) (sym f)
      by (Some k) f ih =
          ap (λ w. least_with h (lesser acc w) (places_from (p + 1) packs (i / 2))) (own k) ∙ ih (lesser acc (told_with c m i j (Some k)))
          ∙ lesser_twice acc (told_with c m i j (Some k)) (bound_in packs ms i j)
          ∙ ap (λ w. lesser acc (lesser (told_with c m i j w) (bound_in packs ms i j))) (sym f)

  pub least_all : length octagons ≡ length all → least_with h None (places_of all (i / 2)) ≡ bound_in all octagons i j
  least_all e = least_from [] all [] octagons 0 None refl refl refl refl e
