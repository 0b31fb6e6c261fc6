-- The places of variables in packs.
use Rattle.std.specs.Prelude.{◌-◌, ◌≡◌, ◌≢◌, ◌⊎◌, ℕ, zero, suc, ◌+◌, ◌<◌, ◌≤◌, List, [], ◌∷◌, ◌++◌, length, All, Option, Some, None, slice_index_or}
use Rattle.std.proofs.Common.{◌∙◌, ap, refl, sym, arith, inl, inr, set, take, length-set, get_or, get_or-set_same, get_or-set_other}
use Rattle.std.proofs.lemmas.Bool.{cases_eq}
use Rattle.std.proofs.lemmas.List.Elements.{All-head, All-tail, All-nil, All-cons, All-weaker}
use Rattle.pk_octagons.specs.declared.packs.Place.{Place}
use Rattle.pk_octagons.specs.Packs.{IsPlaceOf, chosen_at, place_in, IsPack, pack_at, with_place, places_from}
use Rattle.pk_octagons.proofs.Places.{place_there, none_apart, found_none}

abbrev pub at : List (List Place) → ℕ → List Place
at t x = slice_index_or t x []

-- what is read in range is the same by any default
pub read_places : (t : List (List Place)) (x : ℕ) (v : List Place) → x < length t → v ≡ get_or t x v → at t x ≡ v
read_places [] x v h e = absurd (omega (arith, h))
read_places (u ∷ t) zero v h e = sym e
read_places (u ∷ t) (suc x) v h e = read_places t x v (omega (arith, h)) e

pub read_pack : (packs : List (List ℕ)) (p : ℕ) (c : List ℕ) → p < length packs → c ≡ get_or packs p c → c ≡ pack_at packs p
read_pack [] p c h e = absurd (omega (arith, h))
read_pack (d ∷ packs) zero c h e = e
read_pack (d ∷ packs) (suc p) c h e = read_pack packs p c (omega (arith, h)) e

-- ---- one pack

-- the places of x where those of the first k of the pack's variables are added
pub record AreAdded (chosen : List ℕ) (p k : ℕ) (olds t : List (List Place)) (x : ℕ) : Type 0 where
  pub placed : (j : ℕ) → j < k → chosen_at chosen j ≡ x → at t x ≡ at olds x ++ record { pack = p; place = j } ∷ []
  pub apart : ((j : ℕ) → j < k → chosen_at chosen j ≢ x) → at t x ≡ at olds x

abbrev pub AllAdded : List ℕ → ℕ → ℕ → List (List Place) → List (List Place) → Type 0
AllAdded chosen p k olds t = (length t ≡ length olds) × ((x : ℕ) → x < length olds → AreAdded chosen p k olds t x)

pub added_none : (chosen : List ℕ) (p : ℕ) (olds : List (List Place)) → AllAdded chosen p 0 olds olds
added_none chosen p olds = (refl, λ x h. record { placed = λ j q e. absurd (omega (arith, q)); apart = λ n. refl })

pub added_more : (chosen : List ℕ) (p k y : ℕ) (olds t news : List (List Place)) → IsPack (length olds) chosen → k < length chosen → y ≡ chosen_at chosen k → AllAdded chosen p k olds t
    → news ≡ set t y (at t y ++ record { pack = p; place = k } ∷ []) → AllAdded chosen p (k + 1) olds news
added_more chosen p k y olds t news h here is before made = (ap length made ∙ length-set t y _ ∙ before.0, λ x q. rw made (one x q (cases_eq x y)))
  where
    z : List Place
    z = at t y ++ record { pack = p; place = k } ∷ []

    own : at t y ≡ at olds y
    own = (before.1 y (omega (arith, is, h.there k here))).apart (λ j q e. absurd (omega (arith, q, h.once j k (omega (arith, q, here)) here (e ∙ is))))

    same : at (set t y z) y ≡ at olds y ++ record { pack = p; place = k } ∷ []
    same = get_or-set_same t y z [] (omega (arith, is, h.there k here, before.0)) ∙ ap (λ (ls : List Place). ls ++ record { pack = p; place = k } ∷ []) own

    first : (x j : ℕ) → x ≡ y → j < k + 1 → chosen_at chosen j ≡ x → at (set t y z) x ≡ at olds x ++ record { pack = p; place = j } ∷ []
    first x j e q f =
        let last : j ≡ k = h.once j k (omega (arith, q, here)) here (f ∙ e ∙ is) in
        rw (e, last) same

    one : (x : ℕ) → x < length olds → (x ≡ y) ⊎ (x ≢ y) → AreAdded chosen p (k + 1) olds (set t y z) x
    one x q (inl e) = record { placed = λ j r f. first x j e r f; apart = λ n. absurd (n k (omega arith) (sym is ∙ sym e)) }
    one x q (inr n) =
        let other : at (set t y z) x ≡ at t x = get_or-set_other t y x z [] n in
        record {
          placed = λ j r f. other ∙ (before.1 x q).placed j (later x j n r f (cases_eq j k)) f;
          apart = λ m. other ∙ (before.1 x q).apart (λ j r. m j (omega (arith, r)));
        }
      where
        later : (x j : ℕ) → x ≢ y → j < k + 1 → chosen_at chosen j ≡ x → (j ≡ k) ⊎ (j ≢ k) → j < k
        later x j n r f (inl e) = absurd (n (sym f ∙ ap (chosen_at chosen) e ∙ sym is))
        later x j n r f (inr d) = omega (arith, r, d)

pub added_all : (chosen : List ℕ) (p : ℕ) (olds t : List (List Place)) (x : ℕ) → AllAdded chosen p (length chosen) olds t → x < length olds → at t x ≡ at olds x ++ with_place p (place_in chosen x) []
added_all chosen p olds t x all h = by (place_in chosen x) refl
  where
    append_none : (ls : List Place) → ls ≡ ls ++ []
    append_none [] = refl
    append_none (l ∷ ls) = ap (λ (r : List Place). l ∷ r) (append_none ls)

    by : (o : Option ℕ) → place_in chosen x ≡ o → at t x ≡ at olds x ++ with_place p o []
    by None e = (all.1 x h).apart (none_apart chosen x e) ∙ append_none (at olds x)
    by (Some k) e = let r = place_there chosen x k e in (all.1 x h).placed k r.0 r.1

-- ---- all packs

-- one pack more
pub places_more : (p n : ℕ) (packs : List (List ℕ)) (x : ℕ) → n < length packs → places_from p (take (n + 1) packs) x ≡ places_from p (take n packs) x ++ with_place (p + n) (place_in (pack_at packs n) x) []
places_more p n [] x h = absurd (omega (arith, h))
places_more p zero (c ∷ packs) x h = let e : p + 0 ≡ p = omega arith in rw e refl
places_more p (suc n) (c ∷ packs) x h =
    let next : suc n + 1 ≡ suc (n + 1) = omega arith in
    rw next (by (place_in c x) (places_more (p + 1) n packs x (omega (arith, h))))
  where
    by : (o : Option ℕ) → places_from (p + 1) (take (n + 1) packs) x ≡ places_from (p + 1) (take n packs) x ++ with_place ((p + 1) + n) (place_in (pack_at packs n) x) []
        → with_place p o (places_from (p + 1) (take (n + 1) packs) x) ≡ with_place p o (places_from (p + 1) (take n packs) x) ++ with_place (p + suc n) (place_in (pack_at packs n) x) []
    by None ih = let e : p + suc n ≡ (p + 1) + n = omega arith in rw e ih
    by (Some k) ih = let e : p + suc n ≡ (p + 1) + n = omega arith in rw e (ap (λ (ls : List Place). record { pack = p; place = k } ∷ ls) ih)

pub placed_more : (packs : List (List ℕ)) (p x : ℕ) (c : List ℕ) (old new : List Place) → p < length packs → c ≡ get_or packs p c → new ≡ old ++ with_place p (place_in c x) [] → old ≡ places_from 0 (take p packs) x → new ≡ places_from 0 (take (p + 1) packs) x
placed_more packs p x c old new h e made before =
    let n : 0 + p ≡ p = omega arith in
    made ∙ ap (λ (ls : List Place). ls ++ with_place p (place_in c x) []) before ∙ ap (λ d. places_from 0 (take p packs) x ++ with_place p (place_in d x) []) (read_pack packs p c h e)
    ∙ sym (places_more 0 p packs x h ∙ ap (λ q. places_from 0 (take p packs) x ++ with_place q (place_in (pack_at packs p) x) []) n)

-- a variable that no pack has
pub places_none : (p : ℕ) (packs : List (List ℕ)) (n x : ℕ) → All (IsPack n) packs → n ≤ x → places_from p packs x ≡ []
places_none p [] n x h q = refl
places_none p (c ∷ packs) n x h q =
    let own = All-head (IsPack n) c packs h in
    ap (λ o. with_place p o (places_from (p + 1) packs x)) (found_none c x (λ j r e. absurd (omega (arith, own.there j r, e, q)))) ∙ places_none (p + 1) packs n x (All-tail (IsPack n) c packs h) q

-- a place in packs that are numbered from n on
record IsPlaceFrom (n : ℕ) (packs : List (List ℕ)) (x : ℕ) (p : Place) : Type 0 where
  from : n ≤ p.pack
  there : p.pack < n + length packs
  is : place_in (pack_at packs (p.pack - n)) x ≡ Some p.place

places_in : (n : ℕ) (packs : List (List ℕ)) (x : ℕ) → All (IsPlaceFrom n packs x) (places_from n packs x)
places_in n [] x = All-nil (IsPlaceFrom n [] x)
places_in n (c ∷ packs) x = by (place_in c x) refl (places_in (n + 1) packs x)
  where
    later : (p : Place) → IsPlaceFrom (n + 1) packs x p → IsPlaceFrom n (c ∷ packs) x p
    later p h =
        let next : p.pack - n ≡ suc (p.pack - (n + 1)) = omega (arith, h.from) in
        record { from = omega (arith, h.from); there = omega (arith, h.there); is = ap (λ q. place_in (pack_at (c ∷ packs) q) x) next ∙ h.is }

    rest : All (IsPlaceFrom (n + 1) packs x) (places_from (n + 1) packs x) → All (IsPlaceFrom n (c ∷ packs) x) (places_from (n + 1) packs x)
    rest ih = All-weaker (IsPlaceFrom (n + 1) packs x) (IsPlaceFrom n (c ∷ packs) x) later (places_from (n + 1) packs x) ih

    by : (o : Option ℕ) → place_in c x ≡ o → All (IsPlaceFrom (n + 1) packs x) (places_from (n + 1) packs x) → All (IsPlaceFrom n (c ∷ packs) x) (with_place n o (places_from (n + 1) packs x))
    by None e ih = rest ih
    by (Some k) e ih =
        let first : n - n ≡ 0 = omega arith in
        All-cons (IsPlaceFrom n (c ∷ packs) x) (record { pack = n; place = k }) (places_from (n + 1) packs x) (record { from = omega arith; there = omega arith; is = ap (λ q. place_in (pack_at (c ∷ packs) q) x) first ∙ e }) (rest ih)

pub places_are : (n : ℕ) (packs : List (List ℕ)) (x : ℕ) → All (IsPack n) packs → All (IsPlaceOf packs x) (places_from 0 packs x)
places_are n packs x a = All-weaker (IsPlaceFrom 0 packs x) (IsPlaceOf packs x) one (places_from 0 packs x) (places_in 0 packs x)
  where
    one : (p : Place) → IsPlaceFrom 0 packs x p → IsPlaceOf packs x p
    one p h =
        let same : p.pack - 0 ≡ p.pack = omega arith in
        let is : place_in (pack_at packs p.pack) x ≡ Some p.place = ap (λ q. place_in (pack_at packs q) x) (sym same) ∙ h.is in
        let there : p.pack < length packs = omega (arith, h.there) in
        record { there = there; is = is; few = omega (arith, (place_there (pack_at packs p.pack) x p.place is).0, (a p.pack [] there).few) }
