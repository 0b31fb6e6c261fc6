-- Numbers of values that octagons bound.
use Rattle.std.specs.Prelude.{◌≡◌, ◌≢◌, ◌⊎◌, ℕ, zero, suc, ◌+◌, ◌*◌, ◌<◌, ◌≤◌, Bool, true, false, if◌then◌else◌, ℤ, ◌≤ℤ◌, int_le, List, [], ◌∷◌, length, Option, Some, None}
use Rattle.std.proofs.Common.{◌∙◌, ap, refl, sym, subst, arith, inl, inr, set, length-set}
use Rattle.std.proofs.lemmas.Bool.{cases_eq}
use Rattle.std.proofs.lemmas.Int.{ints, clamps}
use Rattle.std.proofs.lemmas.List.Elements.{All-head, All-tail}
use Rattle.pk_interval.specs.Ranges.{Range, range_from}
use Rattle.pk_value.specs.Known.{Known, IsOf, IsOneOf}
use Rattle.pk_octmat.specs.Bounds.{AtMost, halved}
use Rattle.pk_octmat.specs.Octagon.{Octagon, entry, Meets}
use Rattle.pk_octops.specs.Values.{IsFrom, least_of}
use Rattle.pk_octops.proofs.Sound.{range_sound}
use Rattle.pk_octagons.specs.Packs.{chosen_at, IsPack, ArePacks}
use Rattle.pk_octagons.specs.Values.{known_at}
use Rattle.pk_octagons.specs.Changes.{then_with}
use Rattle.pk_octagons.specs.Reduced.{with_range, raised_low, lowered_high, bounded_by, bounded_at, bounded_all, bounded_values}
use Rattle.pk_octagons.specs.Members.{selected, MeetAll, ArePossible, KeepsNumbers, ReductionsAreExact}
use Rattle.pk_octagons.proofs.Lists.{known_same, known_other}
use Rattle.pk_octagons.proofs.Bounding.{low_rises, high_falls}
use Rattle.pk_octagons.proofs.Sound.{selected_is, closings_keep, closings_only}

low_holds : (b : Option ℤ) (lo z : ℤ) → IsFrom b z → lo ≤ℤ z → raised_low b lo ≤ℤ z
low_holds None lo z h p = p
low_holds (Some c) lo z h p = omega (arith, ints, clamps, h, p)

high_holds : (b : Option ℤ) (hi z : ℤ) → AtMost (Some z) b → z ≤ℤ hi → z ≤ℤ lowered_high b hi
high_holds None hi z h p = p
high_holds (Some c) hi z h p = omega (arith, ints, clamps, h, p)

found_holds : (v : Known) (lo hi z : ℤ) → lo ≤ℤ z → z ≤ℤ hi → IsOf v z → IsOneOf (with_range v (range_from lo hi)) z
found_holds v lo hi z p q h = by (int_le lo hi) refl
  where
    by : (b : Bool) → int_le lo hi ≡ b → IsOneOf (with_range v (let r : Range = record { lo = lo; hi = hi } in if b then Some r else None)) z
    by true e = record { in_range = record { from = p; to = q }; in_class = h.in_class }
    by false e = absurd (omega (arith, ints, e, p, q))

pub bounded_kept : (m : Octagon) (k : ℕ) (v : Known) (x : ℕ → ℤ) → Meets (entry m) x → IsOf v (x k) → IsOneOf (bounded_by m k v) (x k)
bounded_kept m k v x p h =
    let r = range_sound m k x p in
    found_holds v _ _ (x k) (low_holds (least_of (entry m (2 * k) (2 * k + 1))) v.range.lo (x k) r.0 h.in_range.from) (high_holds (halved (entry m (2 * k + 1) (2 * k))) v.range.hi (x k) r.1 h.in_range.to) h

found_only : (v w : Known) (lo hi z : ℤ) → v.range.lo ≤ℤ lo → hi ≤ℤ v.range.hi → with_range v (range_from lo hi) ≡ Some w → IsOf w z → IsOf v z
found_only v w lo hi z p q e h = by (int_le lo hi) e
  where
    by : (b : Bool) → with_range v (let r : Range = record { lo = lo; hi = hi } in if b then Some r else None) ≡ Some w → IsOf v z
    by true f =
        let u : Known = record { range = record { lo = lo; hi = hi }; class = v.class } in
        let same : u ≡ w = cc in
        let g : IsOf u z = subst (λ k. IsOf k z) (sym same) h in
        record { in_range = record { from = omega (arith, ints, p, g.in_range.from); to = omega (arith, ints, q, g.in_range.to) }; in_class = g.in_class }
    by false f = absurd (cc)

pub bounded_only : (m : Octagon) (k : ℕ) (v w : Known) (z : ℤ) → bounded_by m k v ≡ Some w → IsOf w z → IsOf v z
bounded_only m k v w z e h =
    found_only v w _ _ z (low_rises (least_of (entry m (2 * k) (2 * k + 1))) v.range.lo) (high_falls (halved (entry m (2 * k + 1) (2 * k))) v.range.hi) e h

-- ---- one octagon

-- what came of the values: as many, and no other numbers
record Came (vs : List Known) (o : Option (List Known)) : Type 0 where
  size : (ws : List Known) → o ≡ Some ws → length ws ≡ length vs
  only : (ws : List Known) (y : ℕ) (z : ℤ) → o ≡ Some ws → IsOf (known_at ws y) z → IsOf (known_at vs y) z

came_one : (vs us : List Known) (m : Octagon) (k x : ℕ) → length us ≡ length vs → ((y : ℕ) (z : ℤ) → IsOf (known_at us y) z → IsOf (known_at vs y) z) → x < length us → Came vs (bounded_at m k x us)
came_one vs us m k x size only p = by (bounded_by m k (known_at us x)) refl
  where
    at : (v : Known) → bounded_by m k (known_at us x) ≡ Some v → (y : ℕ) (z : ℤ) → (y ≡ x) ⊎ (y ≢ x) → IsOf (known_at (set us x v) y) z → IsOf (known_at us y) z
    at v e y z (inl q) h = rw q (bounded_only m k (known_at us x) v z e (subst (λ w. IsOf w z) (known_same us x v p) (subst (λ u. IsOf (known_at (set us x v) u) z) q h)))
    at v e y z (inr n) h = subst (λ w. IsOf w z) (known_other us x y v n) h

    by : (o : Option Known) → bounded_by m k (known_at us x) ≡ o → Came vs (then_with o (λ v. Some (set us x v)))
    by None e = record { size = λ ws f. absurd (cc); only = λ ws y z f. absurd (cc) }
    by (Some v) e = record {
      size = λ ws f. let same : set us x v ≡ ws = cc in ap length (sym same) ∙ length-set us x v ∙ size;
      only = λ ws y z f a. let same : set us x v ≡ ws = cc in only y z (at v e y z (cases_eq y x) (subst (λ ks. IsOf (known_at ks y) z) (sym same) a));
    }

came_all : (c : List ℕ) (m : Octagon) (n : ℕ) (vs : List Known) → IsPack (length vs) c → n ≤ length c → Came vs (bounded_all c m n vs)
came_all c m zero vs h p = record {
  size = λ ws f. let same : vs ≡ ws = cc in ap length (sym same);
  only = λ ws y z f a. let same : vs ≡ ws = cc in subst (λ ks. IsOf (known_at ks y) z) (sym same) a;
}
came_all c m (suc k) vs h p = by (bounded_all c m k vs) refl (came_all c m k vs h (omega (arith, p)))
  where
    by : (o : Option (List Known)) → bounded_all c m k vs ≡ o → Came vs o → Came vs (then_with o (bounded_at m k (chosen_at c k)))
    by None f d = record { size = λ ws g. absurd (cc); only = λ ws y z g. absurd (cc) }
    by (Some us) f d =
        let size = d.size us refl in
        came_one vs us m k (chosen_at c k) size (λ y z a. d.only us y z refl a) (omega (arith, h.there k (omega (arith, p)), size))

-- a variable of the pack
abbrev IsIn : List ℕ → ℕ → Type 0
IsIn c y = (k : ℕ) × (k < length c) × (chosen_at c k ≡ y)

abbrev KeepsIn : List ℕ → (ℕ → ℤ) → List Known → Option (List Known) → Type 0
KeepsIn c x vs None = ⊥
KeepsIn c x vs (Some ws) = (y : ℕ) (z : ℤ) → (IsIn c y → z ≡ x y) → IsOf (known_at vs y) z → IsOf (known_at ws y) z

all_kept : (c : List ℕ) (m : Octagon) (n : ℕ) (vs : List Known) (x : ℕ → ℤ) → IsPack (length vs) c → n ≤ length c → Meets (entry m) (selected c x) → ((y : ℕ) → IsIn c y → IsOf (known_at vs y) (x y)) → KeepsIn c x vs (bounded_all c m n vs)
all_kept c m zero vs x h p q a = λ y z e i. i
all_kept c m (suc k) vs x h p q a = by (bounded_all c m k vs) refl (all_kept c m k vs x h (omega (arith, p)) q a)
  where
    u : ℕ
    u = chosen_at c k

    here : k < length c
    here = omega (arith, p)

    at : (us : List Known) (v : Known) → u < length us → IsOf v (x u) → ((y : ℕ) (z : ℤ) → (IsIn c y → z ≡ x y) → IsOf (known_at vs y) z → IsOf (known_at us y) z) → (y : ℕ) (z : ℤ) → (IsIn c y → z ≡ x y) → IsOf (known_at vs y) z → (y ≡ u) ⊎ (y ≢ u) → IsOf (known_at (set us u v) y) z
    at us v l i ih y z e o (inl s) =
        let number : z ≡ x u = e (k, here, sym s) ∙ ap x s in
        rw (s, known_same us u v l, number) i
    at us v l i ih y z e o (inr n) = rw (known_other us u y v n) (ih y z e o)

    put : (us : List Known) → u < length us → ((y : ℕ) (z : ℤ) → (IsIn c y → z ≡ x y) → IsOf (known_at vs y) z → IsOf (known_at us y) z) → (w : Option Known) → IsOneOf w (x u) → KeepsIn c x vs (then_with w (λ v. Some (set us u v)))
    put us l ih None i = absurd i
    put us l ih (Some v) i = λ y z e o. at us v l i ih y z e o (cases_eq y u)

    by : (o : Option (List Known)) → bounded_all c m k vs ≡ o → KeepsIn c x vs o → KeepsIn c x vs (then_with o (bounded_at m k u))
    by None f ih = absurd ih
    by (Some us) f ih =
        let size = (came_all c m k vs h (omega (arith, p))).size us f in
        let held : IsOf (known_at us u) (x u) = ih u (x u) (λ i. refl) (a u (k, here, refl)) in
        let same = selected_is c x k here in
        put us (omega (arith, h.there k here, size)) ih (bounded_by m k (known_at us u)) (subst (λ z. IsOneOf (bounded_by m k (known_at us u)) z) same (bounded_kept m k (known_at us u) (selected c x) q (subst (IsOf (known_at us u)) (sym same) held)))

-- ---- all octagons

values_only : (packs : List (List ℕ)) (ms : List Octagon) (vs ws : List Known) (y : ℕ) (z : ℤ) → ArePacks (length vs) packs → bounded_values packs ms vs ≡ Some ws → IsOf (known_at ws y) z → IsOf (known_at vs y) z
values_only [] ms vs ws y z h e a = let same : vs ≡ ws = cc in subst (λ ks. IsOf (known_at ks y) z) (sym same) a
values_only (c ∷ packs) [] vs ws y z h e a = let same : vs ≡ ws = cc in subst (λ ks. IsOf (known_at ks y) z) (sym same) a
values_only (c ∷ packs) (m ∷ ms) vs ws y z h e a =
    by (bounded_all c m (length c) vs) refl e (λ us l f. values_only packs ms us ws y z (subst (λ n. ArePacks n packs) (sym l) (All-tail (IsPack (length vs)) c packs h)) f a)
  where
    came : Came vs (bounded_all c m (length c) vs)
    came = came_all c m (length c) vs (All-head (IsPack (length vs)) c packs h) (omega arith)

    by : (o : Option (List Known)) → bounded_all c m (length c) vs ≡ o → then_with o (bounded_values packs ms) ≡ Some ws → ((us : List Known) → length us ≡ length vs → bounded_values packs ms us ≡ Some ws → IsOf (known_at us y) z) → IsOf (known_at vs y) z
    by None f g ih = absurd (cc)
    by (Some us) f g ih = came.only us y z f (ih us (came.size us f) g)

values_kept : (packs : List (List ℕ)) (ms : List Octagon) (vs : List Known) (x : ℕ → ℤ) → ArePacks (length vs) packs → MeetAll packs ms x → ArePossible packs vs x → KeepsNumbers packs x vs (bounded_values packs ms vs)
values_kept [] ms vs x h q a = λ y z e i. i
values_kept (c ∷ packs) [] vs x h q a = absurd q
values_kept (c ∷ packs) (m ∷ ms) vs x h q a =
    by (bounded_all c m (length c) vs) refl (all_kept c m (length c) vs x own (omega arith) q.0 (λ y i. a y (inl i)))
    (λ us l ih. values_kept packs ms us x (subst (λ n. ArePacks n packs) (sym l) (All-tail (IsPack (length vs)) c packs h)) q.1 (λ y i. ih y (x y) (λ j. refl) (a y (inr i))))
  where
    own : IsPack (length vs) c
    own = All-head (IsPack (length vs)) c packs h

    rest : (us : List Known) → KeepsIn c x vs (Some us) → (r : Option (List Known)) → KeepsNumbers packs x us r → KeepsNumbers (c ∷ packs) x vs r
    rest us k None b = absurd b
    rest us k (Some ws) b = λ y z e i. b y z (λ j. e (inr j)) (k y z (λ j. e (inl j)) i)

    by : (o : Option (List Known)) → bounded_all c m (length c) vs ≡ o → KeepsIn c x vs o → ((us : List Known) → length us ≡ length vs → KeepsIn c x vs (Some us) → KeepsNumbers packs x us (bounded_values packs ms us)) → KeepsNumbers (c ∷ packs) x vs (then_with o (bounded_values packs ms))
    by None f k ih = absurd k
    by (Some us) f k ih = rest us k (bounded_values packs ms us) (ih us ((came_all c m (length c) vs own (omega arith)).size us f) k)

pub reductions_exact : ReductionsAreExact
reductions_exact = record { kept = closings_keep; only = closings_only; bounded = values_kept; bounded_only = values_only }
