-- What the operations on lists of octagons mean for the numbers that meet them.
use Rattle.std.specs.Prelude.{◌≡◌, ◌≢◌, ◌⊎◌, ℕ, zero, suc, ◌+◌, ◌*◌, ◌/◌, ◌%◌, ◌<◌, ◌==◌, Bool, true, false, ◌&&◌, if◌then◌else◌, ℤ, pos, ◌+ℤ◌, ◌-ℤ◌, neg_ℤ, int_lt, List, [], ◌∷◌, length, slice_get, slice_index_or, Option, Some, None, option_map}
use Rattle.std.proofs.Common.{◌∙◌, ap, refl, sym, subst, arith, inl, inr}
use Rattle.std.proofs.lemmas.Int.{ints}
use Rattle.std.proofs.lemmas.Bool.Decides.{nat_tests}
use Rattle.std.proofs.lemmas.List.Elements.{All-head, All-tail}
use Rattle.pk_blocks.specs.Rows.{merged_from}
use Rattle.pk_octmat.specs.Bounds.{AtMost, greater, lesser}
use Rattle.pk_octmat.specs.Octagon.{Octagon, entry, bar, side, Meets, with_number, octagon_of, IsOctagon}
use Rattle.pk_octmat.proofs.Tabled.{octagon_entries}
use Rattle.pk_octmat.proofs.Tropical.{at_most_trans}
use Rattle.pk_octclose.proofs.Floyd.{closing_right}
use Rattle.pk_octops.specs.Guards.{Obeys, guard_of, guarded}
use Rattle.pk_octops.specs.Assigns.{Gives, assigned, assignment_of}
use Rattle.pk_octops.specs.Tables as tables
use Rattle.pk_octops.proofs.Along.{assign_sound, one_term, two_terms, lowered_holds}
use Rattle.pk_octops.proofs.Sound.{join_sound, widen_sound, narrow_sound, meets_from}
use Rattle.pk_value.specs.Known.{Known}
use Rattle.pk_octagons.specs.Packs.{chosen_at, place_in, IsPack, ArePacks, is_some_over, side_in, side_over}
use Rattle.pk_octagons.specs.Octagons.{AreOctagons, AreBelow, joined_octagons, widened_octagons, narrowed_octagons}
use Rattle.pk_octagons.specs.Changes.{then_with, each_changed, changed_at, assigned_in, bounded_in, related_in, or_else, AreTerms, assigned_octagons, guarded_octagons, bound_by, bound_in}
use Rattle.pk_octagons.specs.Reduced.{by_ranges, closed_in, with_first, closed_octagons}
use Rattle.pk_octagons.specs.Members.{number_if, selected, MeetsIn, MeetAll, MeetAllIf, AreInRange, OctagonsAreSound}
use Rattle.pk_octagons.proofs.Lists.{get_some}
use Rattle.pk_octagons.proofs.Places.{place_there, none_apart}
use Rattle.pk_octagons.proofs.Octs.{by_ranges_octagon, by_ranges_kept, by_ranges_falls}
use Rattle.pk_octagons.proofs.Overs.{side_is}

-- ---- lists of octagons

pub record IsOver (c : List ℕ) (m : Octagon) (packs : List (List ℕ)) (ms : List Octagon) : Type 0 where
  pub vars : m.vars ≡ length c
  pub octagon : IsOctagon m
  pub rest : AreOctagons packs ms

-- the first, and the others
pub first_of : (c : List ℕ) (packs : List (List ℕ)) (m : Octagon) (ms : List Octagon) → AreOctagons (c ∷ packs) (m ∷ ms) → IsOver c m packs ms
first_of c packs m ms h =
    let e = h.widths in
    record { vars = cc; octagon = All-head IsOctagon m ms h.each; rest = record { widths = cc; each = All-tail IsOctagon m ms h.each } }

pub no_octagons : {A : Type 0} (c : List ℕ) (packs : List (List ℕ)) → AreOctagons (c ∷ packs) [] → A
no_octagons c packs h = let e = h.widths in absurd (cc)

pub no_packs : {A : Type 0} (m : Octagon) (ms : List Octagon) → AreOctagons [] (m ∷ ms) → A
no_packs m ms h = let e = h.widths in absurd (cc)

left_meet : (x : ℕ → ℤ) (f : Octagon → Octagon → Octagon) (i : ℕ) (packs : List (List ℕ)) (ls rs : List Octagon) → ((c : List ℕ) (a b : Octagon) → MeetsIn x c a → MeetsIn x c (f a b)) → AreOctagons packs ls → AreOctagons packs rs → MeetAll packs ls x
    → MeetAll packs (merged_from (λ p. f) i ls rs) x
left_meet x f i [] [] rs s h k m = tt
left_meet x f i [] (a ∷ ls) rs s h k m = absurd m
left_meet x f i (c ∷ packs) [] rs s h k m = absurd m
left_meet x f i (c ∷ packs) (a ∷ ls) [] s h k m = no_octagons c packs k
left_meet x f i (c ∷ packs) (a ∷ ls) (b ∷ rs) s h k m = (s c a b m.0, left_meet x f (i + 1) packs ls rs s (first_of c packs a ls h).rest (first_of c packs b rs k).rest m.1)

right_meet : (x : ℕ → ℤ) (f : Octagon → Octagon → Octagon) (i : ℕ) (packs : List (List ℕ)) (ls rs : List Octagon) → ((c : List ℕ) (a b : Octagon) → b.vars ≡ a.vars → MeetsIn x c b → MeetsIn x c (f a b)) → AreOctagons packs ls → AreOctagons packs rs → MeetAll packs rs x
    → MeetAll packs (merged_from (λ p. f) i ls rs) x
right_meet x f i [] [] rs s h k m = tt
right_meet x f i [] (a ∷ ls) rs s h k m = no_packs a ls h
right_meet x f i (c ∷ packs) [] rs s h k m = no_octagons c packs h
right_meet x f i (c ∷ packs) (a ∷ ls) [] s h k m = absurd m
right_meet x f i (c ∷ packs) (a ∷ ls) (b ∷ rs) s h k m =
    let left = first_of c packs a ls h in
    let right = first_of c packs b rs k in
    (s c a b (right.vars ∙ sym left.vars) m.0, right_meet x f (i + 1) packs ls rs s left.rest right.rest m.1)

both_meet : (x : ℕ → ℤ) (f : Octagon → Octagon → Octagon) (i : ℕ) (packs : List (List ℕ)) (ls rs : List Octagon) → ((c : List ℕ) (a b : Octagon) → MeetsIn x c a → MeetsIn x c b → MeetsIn x c (f a b)) → MeetAll packs ls x → MeetAll packs rs x
    → MeetAll packs (merged_from (λ p. f) i ls rs) x
both_meet x f i [] [] rs s h k = tt
both_meet x f i [] (a ∷ ls) rs s h k = absurd h
both_meet x f i (c ∷ packs) [] rs s h k = absurd h
both_meet x f i (c ∷ packs) (a ∷ ls) [] s h k = absurd k
both_meet x f i (c ∷ packs) (a ∷ ls) (b ∷ rs) s h k = (s c a b h.0 k.0, both_meet x f (i + 1) packs ls rs s h.1 k.1)

joins : (packs : List (List ℕ)) (ls rs : List Octagon) (x : ℕ → ℤ) → AreOctagons packs ls → AreOctagons packs rs → MeetAll packs ls x ⊎ MeetAll packs rs x → MeetAll packs (joined_octagons ls rs) x
joins packs ls rs x h k (inl m) = left_meet x tables.join_of 0 packs ls rs (λ c a b q. join_sound a.vars a b (tables.join_of a b) (octagon_entries a.vars (λ i j. greater (entry a i j) (entry b i j))) (selected c x) (inl q)) h k m
joins packs ls rs x h k (inr m) = right_meet x tables.join_of 0 packs ls rs (λ c a b e q. join_sound a.vars a b (tables.join_of a b) (octagon_entries a.vars (λ i j. greater (entry a i j) (entry b i j))) (selected c x) (inr q)) h k m

widenings : (packs : List (List ℕ)) (hs ns : List Octagon) (x : ℕ → ℤ) → AreOctagons packs hs → AreOctagons packs ns → MeetAll packs hs x ⊎ MeetAll packs ns x → MeetAll packs (widened_octagons hs ns) x
widenings packs hs ns x h k (inl m) = left_meet x tables.widening_of 0 packs hs ns (λ c a b q. widen_sound a.vars a b (tables.widening_of a b) (octagon_entries a.vars (λ i j. tables.widened (entry a i j) (entry b i j))) (selected c x) (inl q)) h k m
widenings packs hs ns x h k (inr m) = right_meet x tables.widening_of 0 packs hs ns (λ c a b e q. widen_sound a.vars a b (tables.widening_of a b) (octagon_entries a.vars (λ i j. tables.widened (entry a i j) (entry b i j))) (selected c x) (inr q)) h k m

narrowings : (packs : List (List ℕ)) (hs ns : List Octagon) (x : ℕ → ℤ) → AreOctagons packs hs → AreOctagons packs ns → MeetAll packs hs x → MeetAll packs ns x → MeetAll packs (narrowed_octagons hs ns) x
narrowings packs hs ns x h k m o = both_meet x tables.narrowing_of 0 packs hs ns (λ c a b p q. narrow_sound a.vars a b (tables.narrowing_of a b) (octagon_entries a.vars (λ i j. tables.narrowed (entry a i j) (entry b i j))) (selected c x) p q) m o

within : (packs : List (List ℕ)) (ls rs : List Octagon) (x : ℕ → ℤ) → AreOctagons packs ls → AreOctagons packs rs → AreBelow ls rs → MeetAll packs ls x → MeetAll packs rs x
within [] [] [] x h k b m = tt
within [] [] (n ∷ ns) x h k b m = no_packs n ns k
within [] (a ∷ ls) rs x h k b m = absurd m
within (c ∷ packs) [] rs x h k b m = absurd m
within (c ∷ packs) (a ∷ ls) [] x h k b m = no_octagons c packs k
within (c ∷ packs) (a ∷ ls) (n ∷ ns) x h k b m = (
  record { each = λ i j. at_most_trans (Some (side (selected c x) j -ℤ side (selected c x) i)) (entry a i j) (entry n i j) (m.0.each i j) ((b 0 (omega arith)).each i j) },
  within packs ls ns x (first_of c packs a ls h).rest (first_of c packs n ns k).rest (λ p q. b (suc p) (omega (arith, q))) m.1,
)

-- ---- numbers of a pack's variables

pub side_same : (x y : ℕ → ℤ) → ((k : ℕ) → x k ≡ y k) → (i : ℕ) → side x i ≡ side y i
side_same x y h i = by (i % 2 == 0)
  where
    by : (b : Bool) → (if b then x (i / 2) else neg_ℤ (x (i / 2))) ≡ (if b then y (i / 2) else neg_ℤ (y (i / 2)))
    by true = h (i / 2)
    by false = ap neg_ℤ (h (i / 2))

pub meets_same : (e : ℕ → ℕ → Option ℤ) (x y : ℕ → ℤ) → ((k : ℕ) → x k ≡ y k) → Meets e x → Meets e y
meets_same e x y h m = record {
  each = λ i j. subst (λ v. AtMost (Some (side y j -ℤ v)) (e i j)) (side_same x y h i) (subst (λ v. AtMost (Some (v -ℤ side x i)) (e i j)) (side_same x y h j) (m.each i j));
}

pub chosen_is : (ys : List ℕ) (k y : ℕ) → slice_get ys k ≡ Some y → (k < length ys) × (slice_index_or ys k 0 ≡ y)
chosen_is [] k y e = absurd (cc)
chosen_is (z ∷ ys) zero y e = let same : z ≡ y = cc in (omega arith, same)
chosen_is (z ∷ ys) (suc k) y e = let r = chosen_is ys k y e in (omega (arith, r.0), r.1)

pub selected_is : (c : List ℕ) (x : ℕ → ℤ) (k : ℕ) → k < length c → selected c x k ≡ x (chosen_at c k)
selected_is c x k p = ap (number_if x) (get_some c k p)

-- V(t) of the variables is that of their places
side_place : (x y : ℕ → ℤ) (k t : ℕ) → y k ≡ x (t / 2) → side y (2 * k + t % 2) ≡ side x t
side_place x y k t e =
    let half : (2 * k + t % 2) / 2 ≡ k = omega arith in
    let sign : (2 * k + t % 2) % 2 ≡ t % 2 = omega arith in
    ap (λ i. if i == 0 then y ((2 * k + t % 2) / 2) else neg_ℤ (y ((2 * k + t % 2) / 2))) sign
    ∙ ap (λ i. if t % 2 == 0 then y i else neg_ℤ (y i)) half
    ∙ ap (λ z. if t % 2 == 0 then z else neg_ℤ z) e

pub side_selected : (c : List ℕ) (x : ℕ → ℤ) (t i : ℕ) → side_in c t ≡ Some i → side (selected c x) i ≡ side x t
side_selected c x t i e = by (place_in c (t / 2)) refl e
  where
    by : (o : Option ℕ) → place_in c (t / 2) ≡ o → option_map (λ k. 2 * k + t % 2) o ≡ Some i → side (selected c x) i ≡ side x t
    by None f g = absurd (cc)
    by (Some k) f g =
        let same : 2 * k + t % 2 ≡ i = cc in
        let r = place_there c (t / 2) k f in
        rw (← same) (side_place x (selected c x) k t (selected_is c x k r.0 ∙ ap x r.1))

-- what isn't assigned stays
apart_same : (c : List ℕ) (x : ℕ → ℤ) (y : ℕ) (z : ℤ) → place_in c y ≡ None → (j : ℕ) → selected c x j ≡ selected c (with_number x y z) j
apart_same c x y z n j = by (slice_get c j) refl
  where
    by : (o : Option ℕ) → slice_get c j ≡ o → number_if x o ≡ number_if (with_number x y z) o
    by None e = refl
    by (Some v) e =
        let r = chosen_is c j v e in
        let other : v ≢ y = λ same. none_apart c y n j r.0 (r.1 ∙ same) in
        let no : (v == y) ≡ false = grind (arith, other, nat_tests) in
        ap (λ b. if b then z else x v) (sym no)

-- only the number at its place changes
after : (n : ℕ) (c : List ℕ) (x : ℕ → ℤ) (k y : ℕ) (z : ℤ) → IsPack n c → place_in c y ≡ Some k → (j : ℕ) → with_number (selected c x) k z j ≡ selected c (with_number x y z) j
after n c x k y z h e j = by (j == k) refl
  where
    here : (k < length c) × (chosen_at c k ≡ y)
    here = place_there c y k e

    there : (o : Option ℕ) → slice_get c j ≡ o → j ≢ k → number_if x o ≡ number_if (with_number x y z) o
    there None f d = refl
    there (Some v) f d =
        let r = chosen_is c j v f in
        let other : v ≢ y = λ same. d (h.once j k r.0 here.0 (r.1 ∙ same ∙ sym here.1)) in
        let no : (v == y) ≡ false = grind (arith, other, nat_tests) in
        ap (λ b. if b then z else x v) (sym no)

    by : (b : Bool) → (j == k) ≡ b → (if b then z else selected c x j) ≡ selected c (with_number x y z) j
    by true f =
        let same : j ≡ k = grind (arith, f, nat_tests) in
        let yes : (chosen_at c k == y) ≡ true = let is = here.1 in grind (arith, is, nat_tests) in
        sym (ap (selected c (with_number x y z)) same ∙ selected_is c (with_number x y z) k here.0 ∙ ap (λ b. if b then z else x (chosen_at c k)) yes)
    by false f = there (slice_get c j) refl (grind (arith, f, nat_tests))

gives_in : (over c : List ℕ) (x : ℕ → ℤ) (t : Option ℕ) (d z : ℤ) → Gives x t d z → Gives (selected c x) (then_with t (side_over over c)) d z
gives_in over c x None d z h = tt
gives_in over c x (Some t) d z h = by (side_over over c t) refl
  where
    by : (o : Option ℕ) → side_over over c t ≡ o → Gives (selected c x) o d z
    by None e = tt
    by (Some i) e = rw (side_selected c x t i (side_is over c t i e)) h

assigned_one : (n : ℕ) (over c : List ℕ) (m : Octagon) (x : ℕ → ℤ) (y : ℕ) (t : Option ℕ) (d z : ℤ) → IsPack n c → Gives x t d z → MeetsIn x c m → MeetsIn (with_number x y z) c (assigned_in y t d over c m)
assigned_one n over c m x y t d z h g q = by (place_in c y) refl
  where
    by : (o : Option ℕ) → place_in c y ≡ o → MeetsIn (with_number x y z) c (changed_at o m (λ k. assignment_of m k (then_with t (side_over over c)) d))
    by None e = meets_same (entry m) (selected c x) (selected c (with_number x y z)) (apart_same c x y z e) q
    by (Some k) e =
        let u = then_with t (side_over over c) in
        meets_same (entry (assignment_of m k u d)) (with_number (selected c x) k z) (selected c (with_number x y z)) (after n c x k y z h e)
        (assign_sound m.vars k u d m (assignment_of m k u d) (octagon_entries m.vars (assigned (entry m) k u d)) (selected c x) z (gives_in over c x t d z g) q)

assigns : (n : ℕ) (packs : List (List ℕ)) (ms : List Octagon) (x : ℕ → ℤ) (y : ℕ) (t : Option ℕ) (c z : ℤ) (over : List ℕ) → ArePacks n packs → AreOctagons packs ms → Gives x t c z → MeetAll packs ms x → MeetAll packs (assigned_octagons packs ms y t c over) (with_number x y z)
assigns n [] ms x y t c z over a h g m = tt
assigns n (p ∷ packs) [] x y t c z over a h g m = absurd m
assigns n (p ∷ packs) (o ∷ ms) x y t c z over a h g m =
    (assigned_one n over p o x y t c z (All-head (IsPack n) p packs a) g m.0, assigns n packs ms x y t c z over (All-tail (IsPack n) p packs a) (first_of p packs o ms h).rest g m.1)

-- ---- guards

each_kept : (f : List ℕ → Octagon → Octagon) (packs : List (List ℕ)) (ms : List Octagon) (x : ℕ → ℤ) → ((c : List ℕ) (m : Octagon) → MeetsIn x c m → MeetsIn x c (f c m)) → MeetAll packs ms x → MeetAll packs (each_changed f packs ms) x
each_kept f [] ms x k m = tt
each_kept f (c ∷ packs) [] x k m = absurd m
each_kept f (c ∷ packs) (o ∷ ms) x k m = (k c o m.0, each_kept f packs ms x k m.1)

bounded_one : (x : ℕ → ℤ) (a : ℕ) (d : ℤ) (over : List ℕ) → Obeys x (Some a) None d → (c : List ℕ) (m : Octagon) → MeetsIn x c m → MeetsIn x c (bounded_in a d over c m)
bounded_one x a d over h c m q = by (side_over over c a) refl
  where
    by : (o : Option ℕ) → side_over over c a ≡ o → MeetsIn x c (changed_at o m (λ i. or_else m (guard_of m (Some i) None d)))
    by None e = q
    by (Some i) e =
        meets_from m.vars (guarded (entry m) (Some i) None d) (octagon_of m.vars (guarded (entry m) (Some i) None d)) (selected c x) (octagon_entries m.vars (guarded (entry m) (Some i) None d))
        (λ u v id jd. lowered_holds (entry m) (bar i) i (d +ℤ d) (selected c x) q (one_term (selected c x) i (bar i) d refl (rw (side_selected c x a i (side_is over c a i e)) h)) u v)

related_one : (x : ℕ → ℤ) (a b : ℕ) (d : ℤ) (over : List ℕ) → Obeys x (Some a) (Some b) d → (c : List ℕ) (m : Octagon) → MeetsIn x c m → MeetsIn x c (related_in a b d over c m)
related_one x a b d over h c m q = by (side_over over c a) refl (side_over over c b) refl
  where
    by : (o : Option ℕ) → side_over over c a ≡ o → (u : Option ℕ) → side_over over c b ≡ u → MeetsIn x c (changed_at o m (λ i. changed_at u m (λ j. or_else m (guard_of m (Some i) (Some j) d))))
    by None e u f = q
    by (Some i) e None f = q
    by (Some i) e (Some j) f =
        meets_from m.vars (guarded (entry m) (Some i) (Some j) d) (octagon_of m.vars (guarded (entry m) (Some i) (Some j) d)) (selected c x) (octagon_entries m.vars (guarded (entry m) (Some i) (Some j) d))
        (λ u v id jd. lowered_holds (entry m) (bar j) i d (selected c x) q (two_terms (selected c x) i j (bar j) d refl (rw (side_selected c x a i (side_is over c a i e), side_selected c x b j (side_is over c b j f)) h)) u v)

guards : (packs : List (List ℕ)) (ms : List Octagon) (x : ℕ → ℤ) (a b : Option ℕ) (c : ℤ) (over : List ℕ) → AreOctagons packs ms → AreTerms a b → Obeys x a b c → MeetAll packs ms x → MeetAllIf packs (guarded_octagons packs ms a b c over) x
guards packs ms x None None c over h t o m = by (int_lt c (pos 0)) refl
  where
    by : (b : Bool) → int_lt c (pos 0) ≡ b → MeetAllIf packs (if b && is_some_over over packs then None else Some ms) x
    by true e = absurd (omega (arith, ints, e, o))
    by false e = m
guards packs ms x None (Some b) c over h t o m = absurd t
guards packs ms x (Some a) None c over h t o m = each_kept (bounded_in a c over) packs ms x (bounded_one x a c over o) m
guards packs ms x (Some a) (Some b) c over h t o m = each_kept (related_in a b c over) packs ms x (related_one x a b c over o) m

-- ---- what is told of two variables

at_most_lesser : (z : Option ℤ) (a b : Option ℤ) → AtMost z a → AtMost z b → AtMost z (lesser a b)
at_most_lesser z None b p q = q
at_most_lesser z (Some a) None p q = p
at_most_lesser z (Some a) (Some b) p q = by (int_lt b a)
  where
    by : (t : Bool) → AtMost z (if t then Some b else Some a)
    by true = q
    by false = p

told_one : (c : List ℕ) (m : Octagon) (x : ℕ → ℤ) (i j : ℕ) → MeetsIn x c m → AtMost (Some (side x j -ℤ side x i)) (bound_by c m i j)
told_one c m x i j h = by (side_in c i) refl (side_in c j) refl
  where
    by : (o : Option ℕ) → side_in c i ≡ o → (u : Option ℕ) → side_in c j ≡ u → AtMost (Some (side x j -ℤ side x i)) (then_with o (λ a. then_with u (entry m a)))
    by None e u f = tt
    by (Some a) e None f = tt
    by (Some a) e (Some b) f =
        subst (λ v. AtMost (Some (v -ℤ side x i)) (entry m a b)) (side_selected c x j b f)
        (subst (λ v. AtMost (Some (side (selected c x) b -ℤ v)) (entry m a b)) (side_selected c x i a e) (h.each a b))

told : (packs : List (List ℕ)) (ms : List Octagon) (x : ℕ → ℤ) (i j : ℕ) → MeetAll packs ms x → AtMost (Some (side x j -ℤ side x i)) (bound_in packs ms i j)
told [] ms x i j m = tt
told (c ∷ packs) [] x i j m = tt
told (c ∷ packs) (o ∷ ms) x i j m = at_most_lesser (Some (side x j -ℤ side x i)) (bound_by c o i j) (bound_in packs ms i j) (told_one c o x i j m.0) (told packs ms x i j m.1)

pub octagons_sound : OctagonsAreSound
octagons_sound = record { joins = joins; within = within; widenings = widenings; narrowings = narrowings; assigned = assigns; guarded = guards; told = told }

-- ---- lowering by ranges, and closing

with_first_kept : (c : List ℕ) (packs : List (List ℕ)) (x : ℕ → ℤ) (o : Option Octagon) (r : Option (List Octagon)) → ((o ≡ None) → ⊥) → ((m : Octagon) → o ≡ Some m → MeetsIn x c m) → MeetAllIf packs r x → MeetAllIf (c ∷ packs) (with_first o r) x
with_first_kept c packs x None r n s m = absurd (n refl)
with_first_kept c packs x (Some o) None n s m = absurd m
with_first_kept c packs x (Some o) (Some ms) n s m = (s o refl, m)

pub closings_keep : (packs : List (List ℕ)) (vs : List Known) (ms : List Octagon) (x : ℕ → ℤ) → AreOctagons packs ms → AreInRange packs vs x → MeetAll packs ms x → MeetAllIf packs (closed_octagons packs vs ms) x
closings_keep [] vs [] x h r m = tt
closings_keep [] vs (o ∷ ms) x h r m = absurd m
closings_keep (c ∷ packs) vs [] x h r m = absurd m
closings_keep (c ∷ packs) vs (o ∷ ms) x h r m =
    let own = first_of c packs o ms h in
    let low = by_ranges c vs (length c) o in
    let octagon : IsOctagon low = by_ranges_octagon c vs (length c) o own.octagon (omega (arith, own.vars)) in
    let meets = by_ranges_kept c vs (length c) o (selected c x) m.0 (λ k p. rw (selected_is c x k p) (r (chosen_at c k) (inl (k, p, refl)))) in
    with_first_kept c packs x (closed_in c vs o) (closed_octagons packs vs ms) (λ e. closing_right.nothing low (selected c x) octagon e meets) (λ n e. (closing_right.points low n octagon e).to (selected c x) meets)
    (closings_keep packs vs ms x own.rest (λ y q. r y (inr q)) m.1)

pub closings_only : (packs : List (List ℕ)) (vs : List Known) (ms ns : List Octagon) (x : ℕ → ℤ) → AreOctagons packs ms → closed_octagons packs vs ms ≡ Some ns → MeetAll packs ns x → MeetAll packs ms x
closings_only [] vs [] ns x h e m = tt
closings_only [] vs (o ∷ ms) ns x h e m = no_packs o ms h
closings_only (c ∷ packs) vs [] ns x h e m = no_octagons c packs h
closings_only (c ∷ packs) vs (o ∷ ms) ns x h e m = by (closed_in c vs o) refl (closed_octagons packs vs ms) refl e (λ us f. closings_only packs vs ms us x (first_of c packs o ms h).rest f)
  where
    own : IsOver c o packs ms
    own = first_of c packs o ms h

    by : (p : Option Octagon) → closed_in c vs o ≡ p → (r : Option (List Octagon)) → closed_octagons packs vs ms ≡ r → with_first p r ≡ Some ns → ((us : List Octagon) → closed_octagons packs vs ms ≡ Some us → MeetAll packs us x → MeetAll packs ms x) → MeetAll (c ∷ packs) (o ∷ ms) x
    by None f r g k ih = absurd (cc)
    by (Some n) f None g k ih = absurd (cc)
    by (Some n) f (Some us) g k ih =
        let same : n ∷ us ≡ ns = cc in
        let both : MeetAll (c ∷ packs) (n ∷ us) x = subst (λ ks. MeetAll (c ∷ packs) ks x) (sym same) m in
        let low = by_ranges c vs (length c) o in
        let octagon : IsOctagon low = by_ranges_octagon c vs (length c) o own.octagon (omega (arith, own.vars)) in
        (by_ranges_falls c vs (length c) o (selected c x) own.octagon (omega (arith, own.vars)) ((closing_right.points low n octagon f).from (selected c x) both.0), ih us g both.1)
