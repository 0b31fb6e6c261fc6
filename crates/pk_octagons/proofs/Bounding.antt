-- Values bounded by octagons, one after another.
use Rattle.std.specs.Prelude.{◌≡◌, ◌≢◌, ◌⊎◌, ℕ, zero, suc, ◌+◌, ◌-◌, ◌*◌, ◌<◌, ◌≤◌, Bool, true, false, if◌then◌else◌, ℤ, ◌≤ℤ◌, int_le, List, [], ◌∷◌, ◌++◌, length, Option, Some, None}
use Rattle.std.proofs.Common.{◌∙◌, ap, refl, sym, subst, arith, inl, inr, set, drop, length-set}
use Rattle.std.proofs.lemmas.Int.{ints, clamps}
use Rattle.std.proofs.Math.ListN.{drop_of_length-le}
use Rattle.std.proofs.lemmas.Bool.{cases_eq}
use Rattle.std.proofs.lemmas.List.{drop_more}
use Rattle.pk_ctypes.specs.declared.types.IntType.{IntType}
use Rattle.pk_interval.specs.Ranges.{Range}
use Rattle.pk_value.specs.Known.{Known}
use Rattle.pk_value.specs.Laws.{IsTight}
use Rattle.pk_octmat.specs.Bounds.{halved}
use Rattle.pk_octmat.specs.Octagon.{Octagon, entry}
use Rattle.pk_octops.specs.Values.{least_of}
use Rattle.pk_octagons.specs.Packs.{chosen_at, pack_at}
use Rattle.pk_octagons.specs.Values.{type_at, known_at, IsValue, AreValues, IsListed, AreMarked}
use Rattle.pk_octagons.specs.Octagons.{octagon_at, no_octagon}
use Rattle.pk_octagons.specs.Changes.{then_with}
use Rattle.pk_octagons.specs.Reduced.{with_range, raised_low, lowered_high, bounded_by, bounded_at, bounded_all, bounded_values}
use Rattle.pk_octagons.proofs.Lists.{known_same, known_other}

pub low_rises : (b : Option ℤ) (lo : ℤ) → lo ≤ℤ raised_low b lo
low_rises None lo = omega (arith, ints)
low_rises (Some c) lo = omega (arith, ints, clamps)

pub high_falls : (b : Option ℤ) (hi : ℤ) → lowered_high b hi ≤ℤ hi
high_falls None hi = omega (arith, ints)
high_falls (Some c) hi = omega (arith, ints, clamps)

pub value_at : (l : List IntType) (vs : List Known) (x : ℕ) → AreValues l vs → x < length vs → IsValue (type_at l x) (known_at vs x)
value_at l vs x h p = record { inside = h.inside x p; some = h.some x p; class = h.classes x p }

pub bounded_value : (t : IntType) (m : Octagon) (k : ℕ) (v w : Known) → IsValue t v → bounded_by m k v ≡ Some w → IsValue t w
bounded_value t m k v w h e = by (int_le lo hi) refl e
  where
    lo : ℤ
    lo = raised_low (least_of (entry m (2 * k) (2 * k + 1))) v.range.lo

    hi : ℤ
    hi = lowered_high (halved (entry m (2 * k + 1) (2 * k))) v.range.hi

    by : (b : Bool) → int_le lo hi ≡ b → with_range v (let r : Range = record { lo = lo; hi = hi } in if b then Some r else None) ≡ Some w → IsValue t w
    by true f g =
        let u : Known = record { range = record { lo = lo; hi = hi }; class = v.class } in
        let same : u ≡ w = cc in
        let first = low_rises (least_of (entry m (2 * k) (2 * k + 1))) v.range.lo in
        let last = high_falls (halved (entry m (2 * k + 1) (2 * k))) v.range.hi in
        subst (IsValue t) same (record {
          inside =
              record {
                from = record { from = omega (arith, ints, h.inside.from.from, first); to = omega (arith, ints, f, last, h.inside.to.to) };
                to = record { from = omega (arith, ints, f, first, h.inside.from.from); to = omega (arith, ints, last, h.inside.to.to) };
              };
          some = omega (arith, ints, f);
          class = h.class;
        })
    by false f g = absurd (cc)

pub write_values : (l : List IntType) (vs : List Known) (x : ℕ) (v : Known) → x < length vs → IsValue (type_at l x) v → AreValues l vs → AreValues l (set vs x v)
write_values l vs x v p h a = record {
  size = length-set vs x v ∙ a.size;
  inside = λ y q. (at y (omega (arith, q, length-set vs x v)) (cases_eq y x)).inside;
  some = λ y q. (at y (omega (arith, q, length-set vs x v)) (cases_eq y x)).some;
  classes = λ y q. (at y (omega (arith, q, length-set vs x v)) (cases_eq y x)).class;
}
  where
    at : (y : ℕ) → y < length vs → (y ≡ x) ⊎ (y ≢ x) → IsValue (type_at l y) (known_at (set vs x v) y)
    at y q (inl e) = subst (λ u. IsValue (type_at l u) (known_at (set vs x v) u)) (sym e) (rw (known_same vs x v p) h)
    at y q (inr n) = rw (known_other vs x y v n) (value_at l vs y a q)

pub bounded_more : (l : List ℕ) (m : Octagon) (k : ℕ) (olds vs : List Known) (x : ℕ) (v w : Known) → bounded_all l m k olds ≡ Some vs → x ≡ chosen_at l k → known_at vs x ≡ v → Some w ≡ bounded_by m k v → bounded_all l m (k + 1) olds ≡ Some (set vs x w)
bounded_more l m k olds vs x v w h c g e =
    let n : k + 1 ≡ suc k = omega arith in
    rw n
    (ap (λ o. then_with o (bounded_at m k (chosen_at l k))) h ∙ ap (λ y. bounded_at m k y vs) (sym c)
    ∙ ap (λ u. then_with (bounded_by m k u) (λ z. Some (set vs x z))) g ∙ ap (λ o. then_with o (λ z. Some (set vs x z))) (sym e))

bounded_none_more : (l : List ℕ) (m : Octagon) (k d : ℕ) (olds : List Known) → bounded_all l m k olds ≡ None → bounded_all l m (d + k) olds ≡ None
bounded_none_more l m k zero olds e = let n : 0 + k ≡ k = omega arith in rw n e
bounded_none_more l m k (suc d) olds e =
    let n : suc d + k ≡ suc (d + k) = omega arith in
    rw n (ap (λ o. then_with o (bounded_at m (d + k) (chosen_at l (d + k)))) (bounded_none_more l m k d olds e))

pub bounded_stop : (l : List ℕ) (m : Octagon) (k n : ℕ) (olds vs : List Known) (x : ℕ) (v : Known) → bounded_all l m k olds ≡ Some vs → x ≡ chosen_at l k → known_at vs x ≡ v → None ≡ bounded_by m k v → k < n → None ≡ bounded_all l m n olds
bounded_stop l m k n olds vs x v h c g e p =
    let here : bounded_all l m (suc k) olds ≡ None =
    ap (λ o. then_with o (bounded_at m k (chosen_at l k))) h ∙ ap (λ y. bounded_at m k y vs) (sym c)
    ∙ ap (λ u. then_with (bounded_by m k u) (λ z. Some (set vs x z))) g ∙ ap (λ o. then_with o (λ z. Some (set vs x z))) (sym e) in
    let d = n - suc k in
    let same : d + suc k ≡ n = omega arith in
    sym (subst (λ j. bounded_all l m j olds ≡ None) same (bounded_none_more l m (suc k) d olds here))

-- ---- values that are listed

pub listed_last : (xs : List ℕ) (y : ℕ) → IsListed (xs ++ y ∷ []) y
listed_last [] y = inl refl
listed_last (x ∷ xs) y = inr (listed_last xs y)

pub listed_left : (xs ys : List ℕ) (y : ℕ) → IsListed xs y → IsListed (xs ++ ys) y
listed_left [] ys y h = absurd h
listed_left (x ∷ xs) ys y (inl e) = inl e
listed_left (x ∷ xs) ys y (inr h) = inr (listed_left xs ys y h)

-- a value that is written is listed
pub marked_put : (vs : List Known) (loose : List ℕ) (x : ℕ) (v : Known) → AreMarked vs loose → AreMarked (set vs x v) (loose ++ x ∷ [])
marked_put vs loose x v h y p = by (cases_eq y x)
  where
    other : y ≢ x → IsTight (known_at vs y) ⊎ IsListed loose y → IsTight (known_at (set vs x v) y) ⊎ IsListed (loose ++ x ∷ []) y
    other n (inl t) = inl (rw (known_other vs x y v n) t)
    other n (inr l) = inr (listed_left loose (x ∷ []) y l)

    by : (y ≡ x) ⊎ (y ≢ x) → IsTight (known_at (set vs x v) y) ⊎ IsListed (loose ++ x ∷ []) y
    by (inl e) = inr (rw e (listed_last loose x))
    by (inr n) = other n (h y (omega (arith, p, length-set vs x v)))

-- ---- one octagon after another

pub bounded_step : (packs : List (List ℕ)) (ms : List Octagon) (p : ℕ) (c : List ℕ) (m : Octagon) (vs : List Known) → p < length packs → p < length ms → c ≡ pack_at packs p → m ≡ octagon_at ms p
    → bounded_values (drop p packs) (drop p ms) vs ≡ then_with (bounded_all c m (length c) vs) (bounded_values (drop (p + 1) packs) (drop (p + 1) ms))
bounded_step packs ms p c m vs h k e f =
    ap (λ ps. bounded_values ps (drop p ms) vs) (drop_more packs p [] h)
    ∙ ap (λ ns. bounded_values (pack_at packs p ∷ drop (p + 1) packs) ns vs) (drop_more ms p no_octagon k)
    ∙ ap (λ l. then_with (bounded_all l (octagon_at ms p) (length l) vs) (bounded_values (drop (p + 1) packs) (drop (p + 1) ms))) (sym e)
    ∙ ap (λ (n : Octagon). then_with (bounded_all c n (length c) vs) (bounded_values (drop (p + 1) packs) (drop (p + 1) ms))) (sym f)

pub bounded_over : (packs : List (List ℕ)) (ms : List Octagon) (p : ℕ) (vs : List Known) → length packs ≤ p → bounded_values (drop p packs) (drop p ms) vs ≡ Some vs
bounded_over packs ms p vs h = ap (λ ps. bounded_values ps (drop p ms) vs) (drop_of_length-le packs h)
