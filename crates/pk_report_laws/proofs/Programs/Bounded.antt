-- What a visit knows keeps to what is told of its point.
use Rattle.std.specs.Prelude.{◌≡◌, ℕ, ◌<◌, ◌+◌, ◌*◌, ◌/◌, ◌%◌, ◌==◌, true, false, ℤ, pos, neg_ℤ, ◌+ℤ◌, ◌-ℤ◌, List, [], ◌∷◌, length, map, All, slice_get, Option, Some, None, option_map}
use Rattle.std.specs.List.{AllZip}
use Rattle.std.proofs.Common.{◌∙◌, ap, refl, sym, subst, arith}
use Rattle.std.proofs.lemmas.Bool.Decides.{nat_tests}
use Rattle.std.proofs.lemmas.Int.{ints}
use Rattle.std.proofs.lemmas.List.{length-map}
use Rattle.std.proofs.lemmas.List.Elements.{All-head, All-tail}
use Rattle.std.proofs.lemmas.Option.{slice_get-map}
use Rattle.pk_graph.specs.Graphs.{VariableOf, GraphOf, names_at, kinds_of}
use Rattle.pk_graph.specs.Steps.{Numbers, number_at}
use Rattle.pk_graph.specs.Stores.{Stored, numbers_of, number_of, IsStore}
use Rattle.pk_octmat.specs.Bounds.{AtMost}
use Rattle.pk_octmat.specs.Octagon.{side}
use Rattle.pk_octagons.proofs.Sound.{octagons_sound}
use Rattle.pk_state.specs.Layouts.{Layout}
use Rattle.pk_state.specs.Facts.{Facts}
use Rattle.pk_state.specs.Changes.{bound_in}
use Rattle.pk_sound.specs.Held.{Agrees, AgreesWith}
use Rattle.pk_meaning.specs.Runs.{Known}
use Rattle.pk_visits.specs.GraphVisits.{known_of, visit_at}
use Rattle.pk_report_laws.specs.Programs.Told.{IsKnownAs, HoldsAt, AreBounded, IsToldAt, IsToldIf}

-- ---- ranges and classes

known_as : (g : GraphOf) (l : Layout) (f : Facts) (s : Stored) (x : ℕ) → IsStore (kinds_of g) s → x < length g.variables → AgreesWith l f s → IsKnownAs g l f x (known_of g s x)
known_as g l f s x st there h = record {
  name = refl;
  count = st.counts x (let many = length-map g.variables (λ (v : VariableOf). v.kind) in omega (arith, there, many));
  numbers = λ i below. h.values x i below;
}

all_known : (g : GraphOf) (l : Layout) (f : Facts) (s : Stored) (xs : List ℕ) → IsStore (kinds_of g) s → All (λ x. x < length g.variables) xs → AgreesWith l f s → AllZip (IsKnownAs g l f) xs (map (known_of g s) xs)
all_known g l f s [] st there h = tt
all_known g l f s (x ∷ xs) st there h =
    (known_as g l f s x st (All-head (λ (y : ℕ). y < length g.variables) x xs there) h, all_known g l f s xs st (All-tail (λ (y : ℕ). y < length g.variables) x xs there) h)

-- ---- the octagons

first_side : (x : ℕ → ℤ) (k : ℕ) → side x (2 * k) ≡ x k
first_side x k =
    let even : ((2 * k) % 2 == 0) ≡ true = grind (arith, nat_tests) in
    let half : (2 * k) / 2 ≡ k = omega arith in
    rw even (ap x half)

second_side : (x : ℕ → ℤ) (k : ℕ) → side x (2 * k + 1) ≡ neg_ℤ (x k)
second_side x k =
    let odd : ((2 * k + 1) % 2 == 0) ≡ false = grind (arith, nat_tests) in
    let half : (2 * k + 1) / 2 ≡ k = omega arith in
    rw odd (ap (λ i. neg_ℤ (x i)) half)

sum_is : (x y : ℤ) → (x -ℤ neg_ℤ y) ≡ (x +ℤ y)
sum_is x y = omega (arith, ints)

negated_is : (x y : ℤ) → (neg_ℤ x -ℤ y) ≡ ((pos 0 -ℤ x) -ℤ y)
negated_is x y = omega (arith, ints)

-- the bounds of numbers k and m
bounded : (e : ℕ → ℕ → Option ℤ) (v : ℕ → ℤ) (k m : ℕ) → ((i j : ℕ) → AtMost (Some (side v j -ℤ side v i)) (e i j)) → AreBounded e k m (v k) (v m)
bounded e v k m h =
    let at : (i j : ℕ) (a b c : ℤ) → side v j ≡ a → side v i ≡ b → (a -ℤ b) ≡ c → AtMost (Some c) (e i j) = λ i j a b c first second is.
    subst (λ z. AtMost (Some z) (e i j)) (ap (λ z. z -ℤ side v i) first ∙ ap (λ z. a -ℤ z) second ∙ is) (h i j) in
    record {
      minus = at (2 * m) (2 * k) (v k) (v m) (v k -ℤ v m) (first_side v k) (first_side v m) refl;
      turned = at (2 * k) (2 * m) (v m) (v k) (v m -ℤ v k) (first_side v m) (first_side v k) refl;
      plus = at (2 * m + 1) (2 * k) (v k) (neg_ℤ (v m)) (v k +ℤ v m) (first_side v k) (second_side v m) (sum_is (v k) (v m));
      negated = at (2 * m) (2 * k + 1) (neg_ℤ (v k)) (v m) ((pos 0 -ℤ v k) -ℤ v m) (second_side v k) (first_side v m) (negated_is (v k) (v m));
    }

-- the number of a variable is the one that a visit knows
number_is : (g : GraphOf) (p : ℕ) (s : Stored) (i x : ℕ) (z : ℤ) → HoldsAt g p (visit_at g p s) i x z → number_of s x ≡ z
number_is g p s i x z h =
    let numbers : Some (numbers_of s x) ≡ Some (z ∷ []) =
    sym (ap (λ (o : Option Known). option_map (λ (n : Known). n.numbers) o) (slice_get-map (known_of g s) (names_at g p) i ∙ ap (option_map (known_of g s)) h.in_scope)) ∙ h.holds in
    let one : numbers_of s x ≡ z ∷ [] = cc in
    ap (λ (zs : Numbers). number_at zs 0) one

told_at : (g : GraphOf) (l : Layout) (f : Facts) (p : ℕ) (s : Stored) → IsStore (kinds_of g) s → All (λ x. x < length g.variables) (names_at g p) → AgreesWith l f s → IsToldAt g l f p (visit_at g p s)
told_at g l f p s st there h = record {
  path = refl;
  place = refl;
  values = all_known g l f s (names_at g p) st there h;
  pairs = λ i j x y a b first second.
      subst (λ c. AreBounded (bound_in l (Some f)) x y a c) (number_is g p s j y b second)
      (subst (λ c. AreBounded (bound_in l (Some f)) x y c (number_of s y)) (number_is g p s i x a first)
      (bounded (bound_in l (Some f)) (number_of s) x y (λ k m. octagons_sound.told l.packs f.octagons (number_of s) k m h.octagons)));
}

pub store_told : (g : GraphOf) (l : Layout) (f : Option Facts) (p : ℕ) (s : Stored) → IsStore (kinds_of g) s → All (λ x. x < length g.variables) (names_at g p) → Agrees l f s → IsToldIf g l f p (visit_at g p s)
store_told g l None p s st there h = h
store_told g l (Some f) p s st there h = told_at g l f p s st there h
