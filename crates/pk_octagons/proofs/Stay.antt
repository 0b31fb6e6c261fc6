-- What is made of octagons is octagons of the packs.
use Rattle.std.specs.Prelude.{◌≡◌, ◌≢◌, ℕ, zero, suc, ◌+◌, ◌*◌, ◌/◌, ◌<◌, ◌≤◌, ℤ, pos, int_lt, Bool, true, false, ◌&&◌, if◌then◌else◌, List, [], ◌∷◌, length, map, slice_set, Option, Some, None, option_map}
use Rattle.std.proofs.Common.{◌∙◌, ap, refl, sym, subst, arith, set}
use Rattle.std.proofs.lemmas.List.Elements.{All-nil, All-cons, All-head, All-tail}
use Rattle.pk_ctypes.specs.declared.types.IntType.{IntType}
use Rattle.pk_value.specs.Known.{Known}
use Rattle.pk_blocks.specs.Rows.{merged_from}
use Rattle.pk_octmat.specs.Octagon.{Octagon, bar, octagon_of, top_bound, IsOctagon}
use Rattle.pk_octmat.proofs.Matrices.{top_same, top_turned, top_near}
use Rattle.pk_octmat.proofs.Tabled.{octagon_from}
use Rattle.pk_octclose.proofs.Floyd.{closing_right}
use Rattle.pk_octops.specs.Assigns.{assignment_of}
use Rattle.pk_octops.specs.Guards.{IsGuard, guard_of}
use Rattle.pk_octops.specs.Laws.{IsTerm}
use Rattle.pk_octops.specs.Tables.{join_of, widening_of, narrowing_of}
use Rattle.pk_octops.proofs.Kept.{values_kept}
use Rattle.pk_octagons.specs.Packs.{chosen_at, place_in, IsPack, ArePacks, pack_at, is_over, is_some_over, side_of, side_in, side_over}
use Rattle.pk_octagons.specs.Values.{type_at, known_at, AreValues}
use Rattle.pk_octagons.specs.Octagons.{AreOctagons, top_octagons}
use Rattle.pk_octagons.specs.Changes.{then_with, or_else, each_changed, changed_at, assigned_in, bounded_in, related_in, AreTerms, guarded_octagons}
use Rattle.pk_octagons.specs.Reduced.{by_ranges, closed_in, with_first, closed_octagons, bounded_by, bounded_at, bounded_all, bounded_values}
use Rattle.pk_octagons.specs.Laws.{OctagonsStay}
use Rattle.pk_octagons.proofs.Places.{place_there}
use Rattle.pk_octagons.proofs.Bounding.{value_at, bounded_value, write_values}
use Rattle.pk_octagons.proofs.Octs.{by_ranges_vars, by_ranges_octagon}
use Rattle.pk_octagons.proofs.Overs.{sides_apart, side_is}
use Rattle.pk_octagons.proofs.Sound.{first_of, no_octagons, no_packs}

more : (c : List ℕ) (packs : List (List ℕ)) (m : Octagon) (ms : List Octagon) → m.vars ≡ length c → IsOctagon m → AreOctagons packs ms → AreOctagons (c ∷ packs) (m ∷ ms)
more c packs m ms e o h = record { widths = ap (λ n. n ∷ map (λ (r : Octagon). r.vars) ms) e ∙ ap (λ ns. length c ∷ ns) h.widths; each = All-cons IsOctagon m ms o h.each }

none : AreOctagons [] []
none = record { widths = refl; each = All-nil IsOctagon }

tops : (n : ℕ) (packs : List (List ℕ)) → ArePacks n packs → AreOctagons packs (top_octagons packs)
tops n [] h = none
tops n (c ∷ packs) h =
    more c packs (octagon_of (length c) top_bound) (top_octagons packs) refl
    (octagon_from (length c) top_bound (record {
      few = (All-head (IsPack n) c packs h).few;
      zero = λ i id. top_same i;
      turned = λ i j id jd. top_turned i j (bar j) (bar i) refl refl;
      near = λ i j id jd. top_near i j;
    }))
    (tops n packs (All-tail (IsPack n) c packs h))

zips : (f : Octagon → Octagon → Octagon) (i : ℕ) (packs : List (List ℕ)) (ls rs : List Octagon) → ((a b : Octagon) → (f a b).vars ≡ a.vars) → ((a b : Octagon) → IsOctagon a → IsOctagon b → b.vars ≡ a.vars → IsOctagon (f a b)) → AreOctagons packs ls → AreOctagons packs rs
    → AreOctagons packs (merged_from (λ p. f) i ls rs)
zips f i [] [] rs e s h k = none
zips f i [] (a ∷ ls) rs e s h k = no_packs a ls h
zips f i (c ∷ packs) [] rs e s h k = no_octagons c packs h
zips f i (c ∷ packs) (a ∷ ls) [] e s h k = no_octagons c packs k
zips f i (c ∷ packs) (a ∷ ls) (b ∷ rs) e s h k =
    let l = first_of c packs a ls h in
    let r = first_of c packs b rs k in
    more c packs (f a b) (merged_from (λ p. f) (i + 1) ls rs) (e a b ∙ l.vars) (s a b l.octagon r.octagon (r.vars ∙ sym l.vars)) (zips f (i + 1) packs ls rs e s l.rest r.rest)

changes : (f : List ℕ → Octagon → Octagon) (packs : List (List ℕ)) (ms : List Octagon) → ((c : List ℕ) (m : Octagon) → m.vars ≡ length c → IsOctagon m → IsOctagon (f c m) × ((f c m).vars ≡ m.vars)) → AreOctagons packs ms → AreOctagons packs (each_changed f packs ms)
changes f [] ms s h = none
changes f (c ∷ packs) [] s h = no_octagons c packs h
changes f (c ∷ packs) (m ∷ ms) s h =
    let own = first_of c packs m ms h in
    let is = s c m own.vars own.octagon in
    more c packs (f c m) (each_changed f packs ms) (is.1 ∙ own.vars) is.0 (changes f packs ms s own.rest)

side_below : (c : List ℕ) (t i : ℕ) → side_in c t ≡ Some i → i < 2 * length c
side_below c t i e = by (place_in c (t / 2)) refl e
  where
    by : (o : Option ℕ) → place_in c (t / 2) ≡ o → option_map (side_of t) o ≡ Some i → i < 2 * length c
    by None f g = absurd (cc)
    by (Some k) f g = let same : side_of t k ≡ i = cc in omega (arith, same, (place_there c (t / 2) k f).0)

term_below : (over c : List ℕ) (t : Option ℕ) → IsTerm (length c) (then_with t (side_over over c))
term_below over c None = tt
term_below over c (Some t) = by (side_over over c t) refl
  where
    by : (o : Option ℕ) → side_over over c t ≡ o → IsTerm (length c) o
    by None e = tt
    by (Some i) e = side_below c t i (side_is over c t i e)

assigns : (x : ℕ) (t : Option ℕ) (d : ℤ) (over c : List ℕ) (m : Octagon) → m.vars ≡ length c → IsOctagon m → IsOctagon (assigned_in x t d over c m) × ((assigned_in x t d over c m).vars ≡ m.vars)
assigns x t d over c m e h = by (place_in c x) refl
  where
    u : Option ℕ
    u = then_with t (side_over over c)

    by : (o : Option ℕ) → place_in c x ≡ o → IsOctagon (changed_at o m (λ k. assignment_of m k u d)) × ((changed_at o m (λ k. assignment_of m k u d)).vars ≡ m.vars)
    by None q = (h, refl)
    by (Some k) q = (values_kept.assignment_octagon m k u d h (omega (arith, e, (place_there c x k q).0)) (subst (λ n. IsTerm n u) (sym e) (term_below over c t)), refl)

bounds : (a : ℕ) (d : ℤ) (over c : List ℕ) (m : Octagon) → m.vars ≡ length c → IsOctagon m → IsOctagon (bounded_in a d over c m) × ((bounded_in a d over c m).vars ≡ m.vars)
bounds a d over c m e h = by (side_over over c a) refl
  where
    by : (o : Option ℕ) → side_over over c a ≡ o → IsOctagon (changed_at o m (λ i. or_else m (guard_of m (Some i) None d))) × ((changed_at o m (λ i. or_else m (guard_of m (Some i) None d))).vars ≡ m.vars)
    by None q = (h, refl)
    by (Some i) q = (values_kept.guard_octagon m (or_else m (guard_of m (Some i) None d)) (Some i) None d h (omega (arith, e, side_below c a i (side_is over c a i q))) refl, refl)

relates : (a b : ℕ) (d : ℤ) (over : List ℕ) → b ≢ bar a → (c : List ℕ) (m : Octagon) → m.vars ≡ length c → IsOctagon m → IsOctagon (related_in a b d over c m) × ((related_in a b d over c m).vars ≡ m.vars)
relates a b d over n c m e h = where_over (is_over over c)
  where
    by : (o : Option ℕ) → place_in c (a / 2) ≡ o → (u : Option ℕ) → side_in c b ≡ u
        → IsOctagon (changed_at (option_map (side_of a) o) m (λ i. changed_at u m (λ j. or_else m (guard_of m (Some i) (Some j) d)))) × ((changed_at (option_map (side_of a) o) m (λ i. changed_at u m (λ j. or_else m (guard_of m (Some i) (Some j) d)))).vars ≡ m.vars)
    by None q u r = (h, refl)
    by (Some k) q None r = (h, refl)
    by (Some k) q (Some j) r =
        let guard : IsGuard m.vars (Some (side_of a k)) (Some j) = (omega (arith, e, (place_there c (a / 2) k q).0), omega (arith, e, side_below c b j r), sides_apart c a b k j q r n) in
        (values_kept.guard_octagon m (or_else m (guard_of m (Some (side_of a k)) (Some j) d)) (Some (side_of a k)) (Some j) d h guard refl, refl)

    where_over : (t : Bool)
        → IsOctagon (changed_at (if t then side_in c a else None) m (λ i. changed_at (if t then side_in c b else None) m (λ j. or_else m (guard_of m (Some i) (Some j) d)))) × ((changed_at (if t then side_in c a else None) m (λ i. changed_at (if t then side_in c b else None) m (λ j. or_else m (guard_of m (Some i) (Some j) d)))).vars ≡ m.vars)
    where_over true = by (place_in c (a / 2)) refl (side_in c b) refl
    where_over false = (h, refl)

guards : (packs : List (List ℕ)) (ms ns : List Octagon) (a b : Option ℕ) (c : ℤ) (over : List ℕ) → AreOctagons packs ms → AreTerms a b → guarded_octagons packs ms a b c over ≡ Some ns → AreOctagons packs ns
guards packs ms ns None None c over h t e = by (int_lt c (pos 0) && is_some_over over packs) e
  where
    by : (b : Bool) → (if b then None else Some ms) ≡ Some ns → AreOctagons packs ns
    by true f = absurd (cc)
    by false f = let same : ms ≡ ns = cc in subst (AreOctagons packs) same h
guards packs ms ns None (Some b) c over h t e = absurd t
guards packs ms ns (Some a) None c over h t e = let same : each_changed (bounded_in a c over) packs ms ≡ ns = cc in subst (AreOctagons packs) same (changes (bounded_in a c over) packs ms (bounds a c over) h)
guards packs ms ns (Some a) (Some b) c over h t e = let same : each_changed (related_in a b c over) packs ms ≡ ns = cc in subst (AreOctagons packs) same (changes (related_in a b c over) packs ms (relates a b c over t) h)

closes : (packs : List (List ℕ)) (vs : List Known) (ms ns : List Octagon) → AreOctagons packs ms → closed_octagons packs vs ms ≡ Some ns → AreOctagons packs ns
closes [] vs [] ns h e = let same : [] ≡ ns = cc in subst (AreOctagons []) same none
closes [] vs (m ∷ ms) ns h e = no_packs m ms h
closes (c ∷ packs) vs [] ns h e = no_octagons c packs h
closes (c ∷ packs) vs (m ∷ ms) ns h e = by (closed_in c vs m) refl (closed_octagons packs vs ms) refl e (λ us f. closes packs vs ms us (first_of c packs m ms h).rest f)
  where
    by : (p : Option Octagon) → closed_in c vs m ≡ p → (r : Option (List Octagon)) → closed_octagons packs vs ms ≡ r → with_first p r ≡ Some ns → ((us : List Octagon) → closed_octagons packs vs ms ≡ Some us → AreOctagons packs us) → AreOctagons (c ∷ packs) ns
    by None f r g k ih = absurd (cc)
    by (Some n) f None g k ih = absurd (cc)
    by (Some n) f (Some us) g k ih =
        let same : n ∷ us ≡ ns = cc in
        let own = first_of c packs m ms h in
        let low = by_ranges c vs (length c) m in
        let octagon : IsOctagon low = by_ranges_octagon c vs (length c) m own.octagon (omega (arith, own.vars)) in
        subst (AreOctagons (c ∷ packs)) same (more c packs n us (closing_right.vars low n octagon f ∙ by_ranges_vars c vs (length c) m ∙ own.vars) (closing_right.octagon low n octagon f) (ih us g))

puts : (packs : List (List ℕ)) (ms : List Octagon) (p : ℕ) (m : Octagon) → AreOctagons packs ms → m.vars ≡ length (pack_at packs p) → IsOctagon m → AreOctagons packs (slice_set ms p m)
puts [] [] p m h e o = h
puts [] (n ∷ ms) p m h e o = no_packs n ms h
puts (c ∷ packs) [] p m h e o = no_octagons c packs h
puts (c ∷ packs) (n ∷ ms) zero m h e o = more c packs m ms e o (first_of c packs n ms h).rest
puts (c ∷ packs) (n ∷ ms) (suc p) m h e o = let f = first_of c packs n ms h in more c packs n (slice_set ms p m) f.vars f.octagon (puts packs ms p m f.rest e o)

-- ---- values that are bounded

bounds_one : (types : List IntType) (m : Octagon) (k x : ℕ) (vs ws : List Known) → AreValues types vs → x < length vs → bounded_at m k x vs ≡ Some ws → AreValues types ws
bounds_one types m k x vs ws h p e = by (bounded_by m k (known_at vs x)) refl e
  where
    by : (o : Option Known) → bounded_by m k (known_at vs x) ≡ o → then_with o (λ v. Some (set vs x v)) ≡ Some ws → AreValues types ws
    by None f g = absurd (cc)
    by (Some v) f g = let same : set vs x v ≡ ws = cc in subst (AreValues types) same (write_values types vs x v p (bounded_value (type_at types x) m k (known_at vs x) v (value_at types vs x h p) f) h)

bounds_pack : (types : List IntType) (c : List ℕ) (m : Octagon) (n : ℕ) (vs ws : List Known) → IsPack (length types) c → n ≤ length c → AreValues types vs → bounded_all c m n vs ≡ Some ws → AreValues types ws
bounds_pack types c m zero vs ws h p a e = let same : vs ≡ ws = cc in subst (AreValues types) same a
bounds_pack types c m (suc k) vs ws h p a e = by (bounded_all c m k vs) refl e (λ us f. bounds_pack types c m k vs us h (omega (arith, p)) a f)
  where
    by : (o : Option (List Known)) → bounded_all c m k vs ≡ o → then_with o (bounded_at m k (chosen_at c k)) ≡ Some ws → ((us : List Known) → bounded_all c m k vs ≡ Some us → AreValues types us) → AreValues types ws
    by None f g ih = absurd (cc)
    by (Some us) f g ih = let b = ih us f in bounds_one types m k (chosen_at c k) us ws b (omega (arith, h.there k (omega (arith, p)), b.size)) g

bounds_all : (types : List IntType) (packs : List (List ℕ)) (ms : List Octagon) (vs ws : List Known) → ArePacks (length types) packs → AreValues types vs → bounded_values packs ms vs ≡ Some ws → AreValues types ws
bounds_all types [] ms vs ws h a e = let same : vs ≡ ws = cc in subst (AreValues types) same a
bounds_all types (c ∷ packs) [] vs ws h a e = let same : vs ≡ ws = cc in subst (AreValues types) same a
bounds_all types (c ∷ packs) (m ∷ ms) vs ws h a e = by (bounded_all c m (length c) vs) refl e (λ us b f. bounds_all types packs ms us ws (All-tail (IsPack (length types)) c packs h) b f)
  where
    by : (o : Option (List Known)) → bounded_all c m (length c) vs ≡ o → then_with o (bounded_values packs ms) ≡ Some ws → ((us : List Known) → AreValues types us → bounded_values packs ms us ≡ Some ws → AreValues types ws) → AreValues types ws
    by None f g ih = absurd (cc)
    by (Some us) f g ih = ih us (bounds_pack types c m (length c) vs us (All-head (IsPack (length types)) c packs h) (omega arith) a f) g

pub octagons_stay : OctagonsStay
octagons_stay = record {
  top = tops;
  joins = λ packs ls rs h k. zips join_of 0 packs ls rs (λ a b. refl) (λ a b p q e. values_kept.join_octagon a b p q e) h k;
  widenings = λ packs ls rs h k. zips widening_of 0 packs ls rs (λ a b. refl) (λ a b p q e. values_kept.widening_octagon a b p q e) h k;
  narrowings = λ packs ls rs h k. zips narrowing_of 0 packs ls rs (λ a b. refl) (λ a b p q e. values_kept.narrowing_octagon a b p q e) h k;
  assigned = λ packs ms x t c over h. changes (assigned_in x t c over) packs ms (assigns x t c over) h;
  guarded = guards;
  closed = closes;
  put = puts;
  bounded = bounds_all;
}
