-- Octagons changed at the places of a variable, and no others.
use Rattle.std.specs.Prelude.{◌≡◌, ◌≢◌, ℕ, zero, suc, ◌+◌, ◌*◌, ◌/◌, ◌<◌, ◌≤◌, ◌^◌, Bool, true, false, if◌then◌else◌, ℤ, List, [], ◌∷◌, ◌++◌, length, map, option_map, Option, Some, None, IfSome}
use Rattle.std.proofs.Common.{◌∙◌, ap, refl, sym, arith, set, drop, get_or}
use Rattle.std.proofs.Math.ListN.{drop_of_length-le}
use Rattle.std.proofs.lemmas.List.{length-map, drop_more}
use Rattle.pk_octmat.specs.Octagon.{Octagon, bar}
use Rattle.pk_octops.specs.Assigns.{assignment_of}
use Rattle.pk_octops.specs.Guards.{IsGuard, guard_of}
use Rattle.pk_octagons.specs.declared.packs.Place.{Place}
use Rattle.pk_octagons.specs.Packs.{IsPlaceOf, chosen_at, place_in, pack_at, is_over, with_place, places_from, places_of, side_of, side_in, side_over}
use Rattle.pk_octagons.specs.Octagons.{octagon_at, widths}
use Rattle.pk_octagons.specs.Changes.{then_with, or_else, each_changed, changed_at, assigned_in, bounded_in, related_in}
use Rattle.pk_octagons.proofs.Places.{place_there}
use Rattle.pk_octagons.proofs.Zips.{width_at}

-- the octagons of these places changed, one after the other
abbrev pub over_places : (Place → Octagon → Octagon) → List Place → List Octagon → List Octagon
over_places g [] ms = ms
over_places g (place ∷ places) ms = over_places g places (set ms place.pack (g place (octagon_at ms place.pack)))

pub pack_behind : (done packs : List (List ℕ)) (c : List ℕ) → pack_at (done ++ c ∷ packs) (length done) ≡ c
pack_behind [] packs c = refl
pack_behind (d ∷ done) packs c = pack_behind done packs c

pub octagon_behind : (done ms : List Octagon) (m : Octagon) → octagon_at (done ++ m ∷ ms) (length done) ≡ m
octagon_behind [] ms m = refl
octagon_behind (d ∷ done) ms m = octagon_behind done ms m

set_behind : (done ms : List Octagon) (m n : Octagon) → set (done ++ m ∷ ms) (length done) n ≡ done ++ n ∷ ms
set_behind [] ms m n = refl
set_behind (d ∷ done) ms m n = ap (λ (t : List Octagon). d ∷ t) (set_behind done ms m n)

pub append_one : {A : Type 0} (done rest : List A) (a : A) → done ++ a ∷ rest ≡ (done ++ a ∷ []) ++ rest
append_one [] rest a = refl
append_one (d ∷ done) rest a = ap (λ t. d ∷ t) (append_one done rest a)

pub append_length : {A : Type 0} (done : List A) (a : A) → length (done ++ a ∷ []) ≡ length done + 1
append_length [] a = refl
append_length (d ∷ done) a = omega (arith, append_length done a)

pub append_empty : {A : Type 0} (done : List A) → done ++ [] ≡ done
append_empty [] = refl
append_empty (d ∷ done) = ap (λ t. d ∷ t) (append_empty done)

-- what is done at a place is what is done with its pack
abbrev pub IsChangeOf : List (List ℕ) → ℕ → (Place → Octagon → Octagon) → (List ℕ → Octagon → Octagon) → Type 0
IsChangeOf packs x g f = (p : ℕ) (m : Octagon) (o : Option ℕ) → place_in (pack_at packs p) x ≡ o → f (pack_at packs p) m ≡ changed_at o m (λ k. g (record { pack = p; place = k }) m)

module _ (all : List (List ℕ)) (x : ℕ) (g : Place → Octagon → Octagon) (f : List ℕ → Octagon → Octagon) (h : IsChangeOf all x g f) where
  over_from : (done packs : List (List ℕ)) (before ms : List Octagon) (p : ℕ) → all ≡ done ++ packs → p ≡ length done → p ≡ length before → length ms ≡ length packs
      → over_places g (places_from p packs x) (before ++ ms) ≡ before ++ each_changed f packs ms
  over_from done [] before [] p a d b e = refl
  over_from done [] before (m ∷ ms) p a d b e = absurd (omega (arith, e))
  over_from done (c ∷ packs) before [] p a d b e = absurd (omega (arith, e))
  over_from done (c ∷ packs) before (m ∷ ms) p a d b e =
      by (place_in c x) refl
      (λ n. over_from (done ++ c ∷ []) packs (before ++ n ∷ []) ms (p + 1) (a ∙ append_one done packs c) (ap (λ k. k + 1) d ∙ sym (append_length done c)) (ap (λ k. k + 1) b ∙ sym (append_length before n)) (omega (arith, e)))
    where
      pack : pack_at all p ≡ c
      pack = ap (λ ps. pack_at ps p) a ∙ ap (pack_at (done ++ c ∷ packs)) d ∙ pack_behind done packs c

      is : (o : Option ℕ) → place_in c x ≡ o → f c m ≡ changed_at o m (λ k. g (record { pack = p; place = k }) m)
      is o q = ap (λ ps. f ps m) (sym pack) ∙ h p m o (ap (λ ps. place_in ps x) pack ∙ q)

      done_with : (n : Octagon) → f c m ≡ n → over_places g (places_from (p + 1) packs x) ((before ++ n ∷ []) ++ ms) ≡ (before ++ n ∷ []) ++ each_changed f packs ms
          → over_places g (places_from (p + 1) packs x) (before ++ n ∷ ms) ≡ before ++ f c m ∷ each_changed f packs ms
      done_with n q ih = ap (over_places g (places_from (p + 1) packs x)) (append_one before ms n) ∙ ih ∙ sym (append_one before (each_changed f packs ms) n) ∙ ap (λ (u : Octagon). before ++ u ∷ each_changed f packs ms) (sym q)

      by : (o : Option ℕ) → place_in c x ≡ o → ((n : Octagon) → over_places g (places_from (p + 1) packs x) ((before ++ n ∷ []) ++ ms) ≡ (before ++ n ∷ []) ++ each_changed f packs ms)
          → over_places g (with_place p o (places_from (p + 1) packs x)) (before ++ m ∷ ms) ≡ before ++ f c m ∷ each_changed f packs ms
      by None q ih = done_with m (is None q) (ih m)
      by (Some k) q ih =
          let place : Place = record { pack = p; place = k } in
          ap (λ (n : Octagon). over_places g (places_from (p + 1) packs x) (set (before ++ m ∷ ms) p (g place n))) (ap (octagon_at (before ++ m ∷ ms)) b ∙ octagon_behind before ms m)
          ∙ ap (λ j. over_places g (places_from (p + 1) packs x) (set (before ++ m ∷ ms) j (g place m))) b
          ∙ ap (over_places g (places_from (p + 1) packs x)) (set_behind before ms m (g place m))
          ∙ done_with (g place m) (is (Some k) q) (ih (g place m))

  pub over_all : (ms : List Octagon) → length ms ≡ length all → over_places g (places_of all x) ms ≡ each_changed f all ms
  over_all ms e = over_from [] all [] ms 0 refl refl refl e

-- ---- step by step

pub set_octagon : (ms : List Octagon) (p : ℕ) → set ms p (octagon_at ms p) ≡ ms
set_octagon [] p = refl
set_octagon (m ∷ ms) zero = refl
set_octagon (m ∷ ms) (suc p) = ap (λ (t : List Octagon). m ∷ t) (set_octagon ms p)

pub widths_set : (ms : List Octagon) (p : ℕ) (n : Octagon) → n.vars ≡ (octagon_at ms p).vars → widths (set ms p n) ≡ widths ms
widths_set [] p n e = refl
widths_set (m ∷ ms) zero n e = ap (λ k. k ∷ widths ms) e
widths_set (m ∷ ms) (suc p) n e = ap (λ ks. m.vars ∷ ks) (widths_set ms p n e)

-- so many places are done
pub record AreOver (packs : List (List ℕ)) (g : Place → Octagon → Octagon) (places : List Place) (i : ℕ) (olds ms : List Octagon) : Type 0 where
  pub widths : widths ms ≡ map length packs
  pub left : over_places g (drop i places) ms ≡ over_places g places olds

pub over_none : (packs : List (List ℕ)) (g : Place → Octagon → Octagon) (places : List Place) (olds : List Octagon) → widths olds ≡ map length packs → AreOver packs g places 0 olds olds
over_none packs g places olds h = record { widths = h; left = refl }

pub over_more : (packs : List (List ℕ)) (g : Place → Octagon → Octagon) (places : List Place) (i : ℕ) (place d : Place) (olds ms news : List Octagon) → AreOver packs g places i olds ms → i < length places → place ≡ get_or places i d
    → ((m : Octagon) → (g place m).vars ≡ m.vars) → news ≡ set ms place.pack (g place (octagon_at ms place.pack)) → AreOver packs g places (i + 1) olds news
over_more packs g places i place d olds ms news h here is same made = record {
  widths = ap widths made ∙ widths_set ms place.pack (g place (octagon_at ms place.pack)) (same (octagon_at ms place.pack)) ∙ h.widths;
  left =
      ap (over_places g (drop (i + 1) places)) made
      ∙ sym (ap (λ ls. over_places g ls ms) (drop_more places i d here ∙ ap (λ (p : Place). p ∷ drop (i + 1) places) (sym is)))
      ∙ h.left;
}

pub over_end : (packs : List (List ℕ)) (x : ℕ) (g : Place → Octagon → Octagon) (f : List ℕ → Octagon → Octagon) (places : List Place) (i : ℕ) (olds ms : List Octagon) → IsChangeOf packs x g f → places ≡ places_of packs x → widths olds ≡ map length packs
    → length places ≤ i → AreOver packs g places i olds ms → ms ≡ each_changed f packs olds
over_end packs x g f places i olds ms h e w done o =
    let size : length olds ≡ length packs = sym (length-map olds (λ (m : Octagon). m.vars)) ∙ ap length w ∙ length-map packs length in
    sym (ap (λ ls. over_places g ls ms) (drop_of_length-le places done)) ∙ o.left ∙ ap (λ ls. over_places g ls olds) e ∙ over_all packs x g f h olds size

-- ---- at one place

at_option : (F : ℕ → Octagon) (m : Octagon) (h : ℕ → ℕ) (o : Option ℕ) → changed_at (option_map h o) m F ≡ changed_at o m (λ k. F (h k))
at_option F m h None = refl
at_option F m h (Some k) = refl

abbrev pub assigned_at : List (List ℕ) → Option ℕ → ℤ → List ℕ → Place → Octagon → Octagon
assigned_at packs t c over place m = assignment_of m place.place (then_with t (side_over over (pack_at packs place.pack))) c

abbrev pub bounded_at : List (List ℕ) → ℕ → ℤ → List ℕ → Place → Octagon → Octagon
bounded_at packs a c over place m = changed_at (side_over over (pack_at packs place.pack) a) m (λ i. or_else m (guard_of m (Some i) None c))

abbrev pub related_at : List (List ℕ) → ℕ → ℕ → ℤ → List ℕ → Place → Octagon → Octagon
related_at packs a b c over place m = changed_at (side_over over (pack_at packs place.pack) b) m (λ j. or_else m (guard_of m (Some (side_of a place.place)) (Some j) c))

pub assigned_is : (packs : List (List ℕ)) (x : ℕ) (t : Option ℕ) (c : ℤ) (over : List ℕ) → IsChangeOf packs x (assigned_at packs t c over) (assigned_in x t c over)
assigned_is packs x t c over p m o e = ap (λ u. changed_at u m (λ k. assignment_of m k (then_with t (side_over over (pack_at packs p))) c)) e

-- where a variable has no place, its term has none
no_side : (over c : List ℕ) (a : ℕ) → place_in c (a / 2) ≡ None → side_over over c a ≡ None
no_side over c a e = by (is_over over c)
  where
    by : (b : Bool) → (if b then side_in c a else None) ≡ None
    by true = ap (option_map (side_of a)) e
    by false = refl

pub bounded_is : (packs : List (List ℕ)) (a : ℕ) (c : ℤ) (over : List ℕ) → IsChangeOf packs (a / 2) (bounded_at packs a c over) (bounded_in a c over)
bounded_is packs a c over p m None e = ap (λ u. changed_at u m (λ i. or_else m (guard_of m (Some i) None c))) (no_side over (pack_at packs p) a e)
bounded_is packs a c over p m (Some k) e = refl

pub related_is : (packs : List (List ℕ)) (a b : ℕ) (c : ℤ) (over : List ℕ) → IsChangeOf packs (a / 2) (related_at packs a b c over) (related_in a b c over)
related_is packs a b c over p m o e = by (is_over over (pack_at packs p)) o e
  where
    at : Bool → ℕ → Octagon
    at t i = changed_at (if t then side_in (pack_at packs p) b else None) m (λ j. or_else m (guard_of m (Some i) (Some j) c))

    by : (t : Bool) (o : Option ℕ) → place_in (pack_at packs p) (a / 2) ≡ o → changed_at (if t then side_in (pack_at packs p) a else None) m (at t) ≡ changed_at o m (λ k. at t (side_of a k))
    by true o e = ap (λ u. changed_at (option_map (side_of a) u) m (at true)) e ∙ at_option (at true) m (side_of a) o
    by false None e = refl
    by false (Some k) e = refl

bound_vars : (m : Octagon) (i j : Option ℕ) (c : ℤ) → (changed_at i m (λ k. or_else m (guard_of m (Some k) j c))).vars ≡ m.vars
bound_vars m None j c = refl
bound_vars m (Some i) j c = refl

pub bounded_vars : (packs : List (List ℕ)) (a : ℕ) (c : ℤ) (over : List ℕ) (place : Place) (m : Octagon) → (bounded_at packs a c over place m).vars ≡ m.vars
bounded_vars packs a c over place m = bound_vars m (side_over over (pack_at packs place.pack) a) None c

pub related_vars : (packs : List (List ℕ)) (a b : ℕ) (c : ℤ) (over : List ℕ) (place : Place) (m : Octagon) → (related_at packs a b c over place m).vars ≡ m.vars
related_vars packs a b c over place m = by (side_over over (pack_at packs place.pack) b)
  where
    by : (o : Option ℕ) → (changed_at o m (λ j. or_else m (guard_of m (Some (side_of a place.place)) (Some j) c))).vars ≡ m.vars
    by None = refl
    by (Some j) = refl

-- ---- places in range

-- how wide the octagon of a place is
pub place_width : (packs : List (List ℕ)) (ms : List Octagon) (p : ℕ) → widths ms ≡ map length packs → p < length packs → (p < length ms) × ((octagon_at ms p).vars ≡ length (pack_at packs p))
place_width packs ms p e h = (omega (arith, h, sym (length-map ms (λ (m : Octagon). m.vars)), ap length e, length-map packs length), width_at ms p ∙ ap (λ ns. get_or ns p 0) e ∙ at_width packs p h)
  where
    at_width : (cs : List (List ℕ)) (q : ℕ) → q < length cs → get_or (map length cs) q 0 ≡ length (pack_at cs q)
    at_width [] q b = absurd (omega (arith, b))
    at_width (c ∷ cs) zero b = refl
    at_width (c ∷ cs) (suc q) b = at_width cs q (omega (arith, b))

-- two variables' places aren't opposite where they aren't
pub sides_apart : (c : List ℕ) (a b k j : ℕ) → place_in c (a / 2) ≡ Some k → side_in c b ≡ Some j → b ≢ bar a → j ≢ bar (side_of a k)
sides_apart c a b k j e f n h = by (place_in c (b / 2)) refl f
  where
    by : (o : Option ℕ) → place_in c (b / 2) ≡ o → option_map (side_of b) o ≡ Some j → ⊥
    by None g i = absurd (cc)
    by (Some l) g i =
        let same : side_of b l ≡ j = cc in
        let half : l ≡ k = omega (arith, same, h) in
        let one = (place_there c (a / 2) k e).1 in
        let other = (place_there c (b / 2) l g).1 in
        let alike : b / 2 ≡ a / 2 = sym other ∙ ap (chosen_at c) half ∙ one in
        n (omega (arith, same, h, half, alike))

-- the place of a term, where the pack has each variable, is its place
pub side_is : (over c : List ℕ) (t i : ℕ) → side_over over c t ≡ Some i → side_in c t ≡ Some i
side_is over c t i e = by (is_over over c) e
  where
    by : (b : Bool) → (if b then side_in c t else None) ≡ Some i → side_in c t ≡ Some i
    by true f = f
    by false f = absurd (cc)

-- where place i of a variable's places is, and the octagon there
pub record IsThere (packs : List (List ℕ)) (ms : List Octagon) (x : ℕ) (p : Place) : Type 0 where
  pub pack : p.pack < length packs
  pub octagon : p.pack < length ms
  pub width : (octagon_at ms p.pack).vars ≡ length (pack_at packs p.pack)
  pub is : place_in (pack_at packs p.pack) x ≡ Some p.place
  pub place : p.place < length (pack_at packs p.pack)
  pub few : p.place < 2 ^ 31

pub is_there : (packs : List (List ℕ)) (ms : List Octagon) (x : ℕ) (p : Place) → widths ms ≡ map length packs → IsPlaceOf packs x p → IsThere packs ms x p
is_there packs ms x p w h =
    let wide = place_width packs ms p.pack w h.there in
    record { pack = h.there; octagon = wide.0; width = wide.1; is = h.is; place = (place_there (pack_at packs p.pack) x p.place h.is).0; few = h.few }

-- as many octagons as packs
pub same_count : (packs : List (List ℕ)) (ms : List Octagon) → widths ms ≡ map length packs → length ms ≡ length packs
same_count packs ms e = sym (length-map ms (λ (m : Octagon). m.vars)) ∙ ap length e ∙ length-map packs length

-- the two terms are a guard of the octagon that is there
pub terms_there : (packs : List (List ℕ)) (ms : List Octagon) (a b : ℕ) (over : List ℕ) (place : Place) (first : ℕ) (second : Option ℕ) → IsThere packs ms (a / 2) place → b ≢ bar a → first ≡ side_of a place.place → second ≡ side_over over (pack_at packs place.pack) b
    → IfSome second (λ i. i < 2 * length (pack_at packs place.pack)) → IfSome second (λ k. IsGuard (octagon_at ms place.pack).vars (Some first) (Some k))
terms_there packs ms a b over place first None h n e f g = tt
terms_there packs ms a b over place first (Some j) h n e f g =
    (omega (arith, h.place, h.width, e), omega (arith, g, h.width), λ same. sides_apart (pack_at packs place.pack) a b place.place j h.is (side_is over (pack_at packs place.pack) b j (sym f)) n (same ∙ ap bar e))
