-- What is read of a state, and what is written to it.
use Rattle.std.specs.Prelude.{◌≡◌, ◌≢◌, ◌⊎◌, ℕ, zero, suc, ◌<◌, ◌==◌, Bool, true, false, if◌then◌else◌, ℤ, ◌-ℤ◌, List, [], ◌∷◌, length, slice_set, Option, Some, None}
use Rattle.std.proofs.Common.{◌∙◌, ap, refl, sym, subst, arith, inl, inr, length-set}
use Rattle.std.proofs.lemmas.Bool.{cases_eq}
use Rattle.std.proofs.lemmas.Bool.Decides.{nat_tests}
use Rattle.std.proofs.lemmas.List.{get_or-set_same, get_or-set_other}
use Rattle.pk_graph.specs.Steps.{Numbers, number_at}
use Rattle.pk_graph.specs.Stores.{Stored, numbers_of, number_of}
use Rattle.pk_value.specs.Known.{Known, IsOf, IsOneOf}
use Rattle.pk_octmat.specs.Bounds.{AtMost}
use Rattle.pk_octmat.specs.Octagon.{Octagon, side, with_number, IsOctagon}
use Rattle.pk_octops.specs.Guards.{Obeys}
use Rattle.pk_octops.specs.Assigns.{Gives}
use Rattle.pk_octagons.specs.Packs.{pack_at, is_chosen}
use Rattle.pk_octagons.specs.Values.{type_at, known_at, IsValue}
use Rattle.pk_octagons.specs.Changes.{AreTerms, assigned_octagons, guarded_octagons}
use Rattle.pk_octagons.specs.Members.{MeetAllIf, IsChosen}
use Rattle.pk_octagons.proofs.Lists.{known_same, known_other}
use Rattle.pk_octagons.proofs.Bounding.{value_at, write_values}
use Rattle.pk_octagons.proofs.Sound.{octagons_sound}
use Rattle.pk_octagons.proofs.Stay.{octagons_stay}
use Rattle.pk_octagons.proofs.Chosen.{apart_stays, meet_same}
use Rattle.pk_state.specs.Layouts.{Layout, IsLayout}
use Rattle.pk_state.specs.Facts.{Facts, AreFactsIf}
use Rattle.pk_state.specs.Members.{AreOf, Member}
use Rattle.pk_state.specs.Changes.{known_in, bound_in, with_known, with_octagons, with_bounds, assigned_in, guarded_in, AreNumbersOf, IsApart, ChangesAreSound, ChangesStay}

-- ---- facts of a layout

read : (l : Layout) (f : Option Facts) (x : ℕ) (k : Known) → AreFactsIf l f → x < length l.types → known_in f x ≡ Some k → IsValue (type_at l.types x) k
read l None x k h p e = absurd (cc)
read l (Some f) x k h p e = let same : known_at f.values x ≡ k = cc in subst (IsValue (type_at l.types x)) same (value_at l.types f.values x h.values (omega (arith, p, h.values.size)))

wrote : (l : Layout) (f : Option Facts) (x : ℕ) (k : Known) → AreFactsIf l f → x < length l.types → IsValue (type_at l.types x) k → AreFactsIf l (with_known f x k)
wrote l None x k h p v = tt
wrote l (Some f) x k h p v = record { values = write_values l.types f.values x k (omega (arith, p, h.values.size)) v h.values; octagons = h.octagons }

gave : (l : Layout) (f : Option Facts) (x : ℕ) (t : Option ℕ) (c : ℤ) (over : List ℕ) → AreFactsIf l f → AreFactsIf l (assigned_in l f x t c over)
gave l None x t c over h = tt
gave l (Some f) x t c over h = record { values = h.values; octagons = octagons_stay.assigned l.packs f.octagons x t c over h.octagons }

passed : (l : Layout) (f : Option Facts) (a b : Option ℕ) (c : ℤ) (over : List ℕ) → AreFactsIf l f → AreTerms a b → AreFactsIf l (guarded_in l f a b c over)
passed l None a b c over h g = tt
passed l (Some f) a b c over h g = by (guarded_octagons l.packs f.octagons a b c over) refl
  where
    by : (o : Option (List Octagon)) → guarded_octagons l.packs f.octagons a b c over ≡ o → AreFactsIf l (with_octagons f.values o)
    by None e = tt
    by (Some ns) e = record { values = h.values; octagons = octagons_stay.guarded l.packs f.octagons ns a b c over h.octagons g e }

put : (l : Layout) (f : Option Facts) (p : ℕ) (m : Octagon) → AreFactsIf l f → m.vars ≡ length (pack_at l.packs p) → IsOctagon m → AreFactsIf l (with_bounds f p m)
put l None p m h e o = tt
put l (Some f) p m h e o = record { values = h.values; octagons = octagons_stay.put l.packs f.octagons p m h.octagons e o }

pub changes_stay : ChangesStay
changes_stay = record { known = read; written = wrote; assigned = gave; guarded = passed; bounded = put }

-- a variable that no octagon is over
pub assigned_apart : (l : Layout) (f : Option Facts) (x : ℕ) (t : Option ℕ) (c : ℤ) (over : List ℕ) → AreFactsIf l f → is_chosen l.packs x ≡ false → assigned_in l f x t c over ≡ f
assigned_apart l None x t c over h e = refl
assigned_apart l (Some f) x t c over h e = ap (λ (ms : List Octagon). let r : Facts = record { values = f.values; octagons = ms } in Some r) (apart_stays l.packs f.octagons x t c over h.octagons e)

-- ---- stores

known : (l : Layout) (f : Option Facts) (s : Stored) (x i : ℕ) → AreFactsIf l f → Member l f s → x < length l.types → i < length (numbers_of s x) → IsOneOf (known_in f x) (number_at (numbers_of s x) i)
known l None s x i h m p q = absurd m
known l (Some f) s x i h m p q = m.values.each x i (omega (arith, p, h.values.size)) q

some : (l : Layout) (f : Option Facts) (s : Stored) (x : ℕ) → AreFactsIf l f → Member l f s → x < length l.types → 0 < length (numbers_of s x)
some l None s x h m p = absurd m
some l (Some f) s x h m p = m.values.some x (omega (arith, p, h.values.size))

told : (l : Layout) (f : Option Facts) (s : Stored) (i j : ℕ) → Member l f s → AtMost (Some (side (number_of s) j -ℤ side (number_of s) i)) (bound_in l f i j)
told l None s i j m = absurd m
told l (Some f) s i j m = octagons_sound.told l.packs f.octagons (number_of s) i j m.octagons

-- more or other is known of a variable
pub refined_values : (vs : List Known) (s : Stored) (x : ℕ) (k : Known) → AreOf vs s → AreNumbersOf k (numbers_of s x) → AreOf (slice_set vs x k) s
refined_values vs s x k h n = record {
  each = λ y i p q. at y i (omega (arith, p, length-set vs x k)) q (cases_eq y x);
  some = λ y p. h.some y (omega (arith, p, length-set vs x k));
}
  where
    at : (y i : ℕ) → y < length vs → i < length (numbers_of s y) → (y ≡ x) ⊎ (y ≢ x) → IsOf (known_at (slice_set vs x k) y) (number_at (numbers_of s y) i)
    at y i p q (inl e) =
        let same : known_at (slice_set vs x k) y ≡ k = ap (known_at (slice_set vs x k)) e ∙ known_same vs x k (omega (arith, p, e)) in
        rw same (subst (λ u. i < length (numbers_of s u) → IsOf k (number_at (numbers_of s u) i)) (sym e) (n.each i) q)
    at y i p q (inr d) = rw (known_other vs x y k d) (h.each y i p q)

refined : (l : Layout) (f : Option Facts) (s : Stored) (x : ℕ) (k : Known) → AreFactsIf l f → Member l f s → AreNumbersOf k (numbers_of s x) → Member l (with_known f x k) s
refined l None s x k h m n = absurd m
refined l (Some f) s x k h m n = record { values = refined_values f.values s x k m.values n; scalars = m.scalars; octagons = m.octagons }

-- a variable has numbers only where the store has it
has : (s : Stored) (x : ℕ) → 0 < length (numbers_of s x) → x < length s
has [] x p = absurd (omega arith)
has (zs ∷ s) zero p = omega arith
has (zs ∷ s) (suc x) p = omega (arith, has s x p)

numbers_same : (s : Stored) (x : ℕ) (zs : Numbers) → x < length s → numbers_of (slice_set s x zs) x ≡ zs
numbers_same s x zs h = get_or-set_same s x zs [] h

numbers_other : (s : Stored) (x y : ℕ) (zs : Numbers) → y ≢ x → numbers_of (slice_set s x zs) y ≡ numbers_of s y
numbers_other s x y zs h = get_or-set_other s x y zs [] h

written_values : (vs : List Known) (s : Stored) (x : ℕ) (k : Known) (zs : Numbers) → x < length s → AreOf vs s → AreNumbersOf k zs → AreOf (slice_set vs x k) (slice_set s x zs)
written_values vs s x k zs here h n = record {
  each = λ y i p q. at y i (omega (arith, p, length-set vs x k)) q (cases_eq y x);
  some = λ y p. is y (omega (arith, p, length-set vs x k)) (cases_eq y x);
}
  where
    at : (y i : ℕ) → y < length vs → i < length (numbers_of (slice_set s x zs) y) → (y ≡ x) ⊎ (y ≢ x) → IsOf (known_at (slice_set vs x k) y) (number_at (numbers_of (slice_set s x zs) y) i)
    at y i p q (inl e) =
        let same : known_at (slice_set vs x k) y ≡ k = ap (known_at (slice_set vs x k)) e ∙ known_same vs x k (omega (arith, p, e)) in
        let nums : numbers_of (slice_set s x zs) y ≡ zs = ap (numbers_of (slice_set s x zs)) e ∙ numbers_same s x zs here in
        let short : i < length zs = subst (λ ns. i < length ns) nums q in
        rw same (subst (λ ns. IsOf k (number_at ns i)) (sym nums) (n.each i short))
    at y i p q (inr d) =
        let nums : numbers_of (slice_set s x zs) y ≡ numbers_of s y = numbers_other s x y zs d in
        let short : i < length (numbers_of s y) = subst (λ ns. i < length ns) nums q in
        rw (known_other vs x y k d) (subst (λ ns. IsOf (known_at vs y) (number_at ns i)) (sym nums) (h.each y i p short))

    is : (y : ℕ) → y < length vs → (y ≡ x) ⊎ (y ≢ x) → 0 < length (numbers_of (slice_set s x zs) y)
    is y p (inl e) = subst (λ ns. 0 < length ns) (sym (ap (numbers_of (slice_set s x zs)) e ∙ numbers_same s x zs here)) n.some
    is y p (inr d) = subst (λ ns. 0 < length ns) (sym (numbers_other s x y zs d)) (h.some y p)

-- ---- the octagons' variables

written : (l : Layout) (f : Option Facts) (s : Stored) (x : ℕ) (k : Known) (zs : Numbers) → AreFactsIf l f → Member l f s → x < length l.types → IsApart l x → AreNumbersOf k zs → Member l (with_known f x k) (slice_set s x zs)
written l None s x k zs h m p a n = absurd m
written l (Some f) s x k zs h m p a n = record {
  values = written_values f.values s x k zs (has s x (m.values.some x (omega (arith, p, h.values.size)))) m.values n;
  scalars = λ y i. subst (λ ns. length ns ≡ 1) (sym (same y i)) (m.scalars y i);
  octagons = meet_same l.packs f.octagons (number_of s) (number_of (slice_set s x zs)) (λ y i. ap (λ ns. number_at ns 0) (sym (same y i))) m.octagons;
}
  where
    same : (y : ℕ) → IsChosen l.packs y → numbers_of (slice_set s x zs) y ≡ numbers_of s y
    same y i = numbers_other s x y zs (λ e. a (subst (IsChosen l.packs) e i))

assigned_one : (l : Layout) (f : Option Facts) (s : Stored) (x : ℕ) (t : Option ℕ) (c z : ℤ) (k : Known) (over : List ℕ) → AreFactsIf l f → Member l f s → IsLayout l → x < length l.types → Gives (number_of s) t c z → IsOf k z → Member l (with_known (assigned_in l f x t c over) x k) (slice_set s x (z ∷ []))
assigned_one l None s x t c z k over h m lay p g i = absurd m
assigned_one l (Some f) s x t c z k over h m lay p g i = record {
  values = written_values f.values s x k (z ∷ []) here m.values (record { each = λ a q. one a q; some = omega arith });
  scalars = λ y j. is y j (cases_eq y x);
  octagons =
      meet_same l.packs (assigned_octagons l.packs f.octagons x t c over) (with_number (number_of s) x z) (number_of (slice_set s x (z ∷ []))) (λ y j. number y)
      (octagons_sound.assigned (length l.types) l.packs f.octagons (number_of s) x t c z over lay h.octagons g m.octagons);
}
  where
    here : x < length s
    here = has s x (m.values.some x (omega (arith, p, h.values.size)))

    one : (a : ℕ) → a < length (z ∷ []) → IsOf k (number_at (z ∷ []) a)
    one zero q = i
    one (suc a) q = absurd (omega arith)

    is : (y : ℕ) → IsChosen l.packs y → (y ≡ x) ⊎ (y ≢ x) → length (numbers_of (slice_set s x (z ∷ [])) y) ≡ 1
    is y j (inl e) = ap (λ ns. length ns) (ap (numbers_of (slice_set s x (z ∷ []))) e ∙ numbers_same s x (z ∷ []) here)
    is y j (inr d) = ap (λ ns. length ns) (numbers_other s x y (z ∷ []) d) ∙ m.scalars y j

    number : (y : ℕ) → with_number (number_of s) x z y ≡ number_of (slice_set s x (z ∷ [])) y
    number y = by (y == x) refl
      where
        by : (b : Bool) → (y == x) ≡ b → (if b then z else number_of s y) ≡ number_of (slice_set s x (z ∷ [])) y
        by true e =
            let same : y ≡ x = grind (arith, nat_tests) in
            sym (ap (number_of (slice_set s x (z ∷ []))) same ∙ ap (λ ns. number_at ns 0) (numbers_same s x (z ∷ []) here))
        by false e = ap (λ ns. number_at ns 0) (sym (numbers_other s x y (z ∷ []) (grind (arith, nat_tests))))

guarded_one : (l : Layout) (f : Option Facts) (s : Stored) (a b : Option ℕ) (c : ℤ) (over : List ℕ) → AreFactsIf l f → Member l f s → AreTerms a b → Obeys (number_of s) a b c → Member l (guarded_in l f a b c over) s
guarded_one l None s a b c over h m g o = absurd m
guarded_one l (Some f) s a b c over h m g o = by (guarded_octagons l.packs f.octagons a b c over) (octagons_sound.guarded l.packs f.octagons (number_of s) a b c over h.octagons g o m.octagons)
  where
    by : (r : Option (List Octagon)) → MeetAllIf l.packs r (number_of s) → Member l (with_octagons f.values r) s
    by None k = absurd k
    by (Some ns) k = record { values = m.values; scalars = m.scalars; octagons = k }

pub changes_sound : ChangesAreSound
changes_sound = record { known = known; some = some; told = told; refined = refined; written = written; assigned = assigned_one; guarded = guarded_one }
