-- Lists of elements of which one is changed.
use Rattle.std.proofs.Common.{◌≡◌, ◌≢◌, ℕ, zero, suc, ◌+◌, ◌<◌, ◌⊎◌, inl, inr, List, [], ◌∷◌, map, length, set, get_or, slice_get, Some, ◌++◌, take, drop, refl, sym, ap, subst, ◌∙◌, arith}
use Rattle.std.specs.Arc.{arc_value}
use Rattle.std.specs.declared.sync.Arc.{Arc}
use Rattle.std.specs.declared.alloc.Global.{Global}
use Rattle.std.specs.List.{filter_map}
use Rattle.std.proofs.lemmas.List.{map-append, take_more, length-map}
use Rattle.std.proofs.Math.Seq.{take-append_seam}
use Rattle.std.proofs.lemmas.List.Elements.{filter_map-append}
use Rattle.std.proofs.lemmas.Option.{slice_get-map, slice_get-get_or}
use Rattle.pk_iterate.specs.Behaviour.{Behaviour}
use Rattle.pk_core.specs.declared.entries.Entry.{Entry}
use Rattle.pk_core.specs.States.{Element, State}
use Rattle.pk_core.specs.Shown.{Standing, StandsAs, StandAs}
use Rattle.pk_core.specs.Entries.{standing_of, cells_of, changed, AreKept}

pub found_below : {X : Type 0} (xs : List X) (e : ℕ) (x : X) → slice_get xs e ≡ Some x → e < length xs
found_below [] e x h = absurd (cc)
found_below (y ∷ xs) zero x h = omega arith
found_below (y ∷ xs) (suc e) x h = omega (arith, found_below xs e x h)

-- an entry is written
pub changed_set : {C : Type 0} (xs : List (Entry C)) (e : ℕ) (y d : Entry C) (f : Standing C → Standing C) → e < length xs → standing_of y ≡ f (standing_of (get_or xs e d)) → map standing_of (set xs e y) ≡ changed (map standing_of xs) e f
changed_set [] e y d f below is = absurd (omega arith)
changed_set {C} (x ∷ xs) zero y d f below is = ap (λ (z : Standing C). z ∷ map standing_of xs) is
changed_set {C} (x ∷ xs) (suc e) y d f below is = ap (λ (zs : List (Standing C)). standing_of x ∷ zs) (changed_set xs e y d f (omega arith) is)

-- one element more is read
pub shared_more : {C : Type 0} (out : List (Arc C Global)) (xs : List (Entry C)) (us : List ℕ) (i : ℕ) (a : Arc C Global) (d : Entry C) → i < length us → map arc_value out ≡ filter_map (slice_get (cells_of (map standing_of xs))) (take i us) → get_or us i 0 < length xs → arc_value a ≡ arc_value (get_or xs (get_or us i 0) d).cell → map arc_value (out ++ a ∷ []) ≡ filter_map (slice_get (cells_of (map standing_of xs))) (take (i + 1) us)
shared_more out xs us i a d in_range so_far below is =
    let more = take_more us i 0 in_range in
    let found = slice_get-get_or xs (get_or us i 0) d below in
    rw (map-append (λ r. arc_value r) out (a ∷ []), more, filter_map-append (slice_get (cells_of (map standing_of xs))) (take i us) (get_or us i 0 ∷ []), slice_get-map (λ (y : Standing _). y.cell) (map standing_of xs) (get_or us i 0), slice_get-map standing_of xs (get_or us i 0), found, is, so_far) refl

-- ---- the element e is changed, and no other

pub length_changed : {C : Type 0} (xs : List (Standing C)) (e : ℕ) (f : Standing C → Standing C) → length (changed xs e f) ≡ length xs
length_changed [] e f = refl
length_changed (x ∷ xs) zero f = refl
length_changed (x ∷ xs) (suc e) f = ap suc (length_changed xs e f)

record At {C : Type 0} (xs : List (Standing C)) (e : ℕ) (f : Standing C → Standing C) (y : Standing C) : Type 0 where
  old : Standing C
  is : slice_get xs e ≡ Some old
  now : f old ≡ y

found_changed : {C : Type 0} (xs : List (Standing C)) (e u : ℕ) (f : Standing C → Standing C) (y : Standing C) → slice_get (changed xs e f) u ≡ Some y → ((u ≡ e) × At xs e f y) ⊎ ((u ≢ e) × (slice_get xs u ≡ Some y))
found_changed [] e u f y h = absurd (cc)
found_changed {C} (x ∷ xs) zero zero f y h = inl (refl, record { old = x; is = refl; now = cc })
found_changed (x ∷ xs) zero (suc u) f y h = inr ((λ q. absurd (omega (arith, q))), h)
found_changed (x ∷ xs) (suc e) zero f y h = inr ((λ q. absurd (omega (arith, q))), h)
found_changed {C} (x ∷ xs) (suc e) (suc u) f y h = elim (found_changed xs e u f y h) [
  | inl r ↦ inl (ap suc r.0, record { old = r.1.old; is = r.1.is; now = r.1.now })
  | inr r ↦ inr ((λ q. r.0 (omega (arith, q))), r.1)
]

-- the elements stand as in another state
pub stand_changed : {C : Type 0} (b : Behaviour C) (n : ℕ) (xs : List (Standing C)) (s t : State C) (e : ℕ) (f : Standing C → Standing C) → StandAs b n xs s → ((x : Standing C) → StandsAs b e x (s e) → StandsAs b e (f x) (t e)) → ((u : ℕ) → u ≢ e → t u ≡ s u) → StandAs b n (changed xs e f) t
stand_changed {C} b n xs s t e f all one others = record {
  long = length_changed xs e f ∙ all.long;
  each = λ u y h. elim (found_changed xs e u f y h) [
    | inl r ↦ subst (λ (k : ℕ). StandsAs b k y (t k)) (sym r.0) (subst (λ (z : Standing C). StandsAs b e z (t e)) r.1.now (one r.1.old (all.each e r.1.old r.1.is)))
    | inr r ↦ subst (λ (z : Element C). StandsAs b u y z) (sym (others u r.0)) (all.each u y r.1)
  ];
}

pub stand_same : {C : Type 0} (b : Behaviour C) (n : ℕ) (xs : List (Standing C)) (s t : State C) → StandAs b n xs s → ((u : ℕ) → u < n → s u ≡ t u) → StandAs b n xs t
stand_same {C} b n xs s t all same = record {
  long = all.long;
  each = λ u y h. subst (λ (z : Element C). StandsAs b u y z) (same u (omega (arith, found_below xs u y h, all.long))) (all.each u y h);
}

-- and are kept as well, if the cell may be held
pub kept_changed : {C : Type 0} (b : Behaviour C) (may_hold : ℕ → C → Type 0) (n : ℕ) (xs : List (Standing C)) (e : ℕ) (f : Standing C → Standing C) → AreKept b may_hold n xs → ((x : Standing C) → may_hold e x.cell → may_hold e (f x).cell) → AreKept b may_hold n (changed xs e f)
kept_changed {C} b may_hold n xs e f kept one = record {
  long = length_changed xs e f ∙ kept.long;
  held = λ u y h. elim (found_changed xs e u f y h) [
    | inl r ↦ subst (λ (k : ℕ). may_hold k y.cell) (sym r.0) (subst (λ (z : Standing C). may_hold e z.cell) r.1.now (one r.1.old (kept.held e r.1.old r.1.is)))
    | inr r ↦ kept.held u y r.1
  ];
  within = kept.within;
}

-- ---- what was lent is written back

written : {C : Type 0} (new items : List (Entry C)) (long : ℕ) (ys : List (Standing C)) → map standing_of new ≡ ys → length ys ≡ long → map standing_of (take long (new ++ drop (length new) items)) ≡ ys
written new items long ys is as_many =
    let same : length new ≡ long = sym (length-map new standing_of) ∙ ap length is ∙ as_many in
    ap (λ n. map standing_of (take n (new ++ drop (length new) items))) (sym same) ∙ ap (map standing_of) (take-append_seam new (drop (length new) items)) ∙ is

pub written_all : {C : Type 0} (new items : List (Entry C)) (long : ℕ) (ys : List (Standing C)) → map standing_of new ≡ ys → length ys ≡ length (map standing_of items) → length items ≡ long → map standing_of (take long (new ++ drop (length new) items)) ≡ ys
written_all new items long ys is as_many in_all = written new items long ys is (as_many ∙ length-map items standing_of ∙ in_all)

pub kept_written : {C : Type 0} (b : Behaviour C) (may_hold : ℕ → C → Type 0) (n : ℕ) (new items : List (Entry C)) (long : ℕ) (ys : List (Standing C)) → map standing_of new ≡ ys → length ys ≡ length (map standing_of items) → length items ≡ long → AreKept b may_hold n ys → AreKept b may_hold n (map standing_of (take long (new ++ drop (length new) items)))
kept_written b may_hold n new items long ys is as_many in_all kept =
    subst (λ zs. AreKept b may_hold n zs) (sym (written_all new items long ys is as_many in_all)) kept

-- a bound on run numbers, among the entries
pub room_at : {C : Type 0} (xs : List (Entry C)) (ys : List (Standing C)) (e most : ℕ) → map standing_of xs ≡ ys → ((x : Standing C) → slice_get ys e ≡ Some x → x.run < most) → (x : Entry C) → slice_get xs e ≡ Some x → x.run < most
room_at xs ys e most is room x found = room (standing_of x) (ap (λ zs. slice_get zs e) (sym is) ∙ rw (slice_get-map standing_of xs e, found) refl)
