-- How large the sum of a shortest walk is: it needs no place twice.
use Rattle.std.specs.Prelude.{◌≡◌, ℕ, ◌<◌, ◌≤◌, ◌+◌, ◌*◌, ℤ, pos, Option, Some, Bool, true, false, List, [], ◌∷◌, ◌++◌, length}
use Rattle.std.specs.List.{IsDistinct, AllByRecursion, list_any}
use Rattle.std.proofs.Common.{◌∙◌, ap, refl, sym, subst, arith, eqb}
use Rattle.std.proofs.lemmas.Bool.Decides.{nat_tests}
use Rattle.std.proofs.lemmas.Map.Steps.{length-le_from_distinct_below}
use Rattle.std.proofs.Math.Nat.{mul-le-mul_right}
use Rattle.pk_octclose.proofs.Walks.{EachIn, Through, through_least, walk_append}
use Rattle.pk_octclose.specs.Walks.{walk_sum}
use Rattle.pk_octmat.proofs.Tropical.{at_most_both, at_most_same, at_most_trans, plus_comm, plus_le, plus_more}
use Rattle.pk_octmat.specs.Bounds.{AtMost, IsNear, plus}
use Rattle.pk_octpoints.proofs.Near.{near_more, plus_near}

-- no place stands twice in a list
abbrev pub Apart : List ℕ → Type 0
Apart [] = Unit {0}
Apart (x ∷ xs) = (list_any (eqb x) xs ≡ false) × Apart xs

none_among : (x : ℕ) (xs : List ℕ) → list_any (eqb x) xs ≡ false → AllByRecursion (λ y. eqb x y ≡ false) xs
none_among x [] h = tt
none_among x (y ∷ ys) h = by (none_among x ys) (eqb x y) refl (list_any (eqb x) ys) refl
  where
    by : (list_any (eqb x) ys ≡ false → AllByRecursion (λ z. eqb x z ≡ false) ys) → (a : Bool) → eqb x y ≡ a → (b : Bool) → list_any (eqb x) ys ≡ b → AllByRecursion (λ z. eqb x z ≡ false) (y ∷ ys)
    by ih true p b q = let no : true ≡ false = sym (rw p refl) ∙ h in absurd (cc)
    by ih false p true q = let no : true ≡ false = sym (rw p (rw q refl)) ∙ h in absurd (cc)
    by ih false p false q = (p, ih q)

apart_distinct : (xs : List ℕ) → Apart xs → IsDistinct eqb xs
unfolding IsDistinct
apart_distinct [] a = tt
apart_distinct (x ∷ xs) a = (none_among x xs a.0, apart_distinct xs a.1)

among_in : (P : ℕ → Type 0) (xs : List ℕ) (q : ℕ) → EachIn P xs → list_any (eqb q) xs ≡ true → P q
among_in P [] q b h = absurd (cc)
among_in P (x ∷ xs) q b h = by (among_in P xs q b.1) (eqb q x) refl
  where
    by : (list_any (eqb q) xs ≡ true → P q) → (a : Bool) → eqb q x ≡ a → P q
    by ih true e = let is : q ≡ x = grind (arith, nat_tests) in subst P (sym is) b.0
    by ih false n = ih (sym (rw n refl) ∙ h)

pub apart_short : (d : ℕ) (P : ℕ → Type 0) → ((p : ℕ) → P p → p < d) → (xs : List ℕ) → Apart xs → EachIn P xs → length xs ≤ d
apart_short d P inside xs a b = length-le_from_distinct_below xs d (apart_distinct xs a) (λ q h. inside q (among_in P xs q b h))

-- a list from a place of its own on
record FromPlace (v : ℕ) (xs : List ℕ) : Type 0 where
  before : List ℕ
  after : List ℕ
  is : before ++ v ∷ after ≡ xs

from_place : (v : ℕ) (xs : List ℕ) → list_any (eqb v) xs ≡ true → FromPlace v xs
from_place v [] h = absurd (cc)
from_place v (x ∷ xs) h = by (from_place v xs) (eqb v x) refl
  where
    by : (list_any (eqb v) xs ≡ true → FromPlace v xs) → (a : Bool) → eqb v x ≡ a → FromPlace v (x ∷ xs)
    by ih true e = let is : v ≡ x = grind (arith, nat_tests) in record { before = []; after = xs; is = rw is refl }
    by ih false n =
        let rest = ih (sym (rw n refl) ∙ h) in
        record { before = x ∷ rest.before; after = rest.after; is = ap (λ ys. x ∷ ys) rest.is }

each_after : (P : ℕ → Type 0) (v : ℕ) (xs ys : List ℕ) → EachIn P (xs ++ v ∷ ys) → EachIn P (v ∷ ys)
each_after P v [] ys b = b
each_after P v (x ∷ xs) ys b = each_after P v xs ys b.1

each_before : (P : ℕ → Type 0) (v : ℕ) (xs ys : List ℕ) → EachIn P (xs ++ v ∷ ys) → EachIn P xs
each_before P v [] ys b = tt
each_before P v (x ∷ xs) ys b = (b.0, each_before P v xs ys b.1)

apart_after : (v : ℕ) (xs ys : List ℕ) → Apart (xs ++ v ∷ ys) → Apart (v ∷ ys)
apart_after v [] ys a = a
apart_after v (x ∷ xs) ys a = apart_after v xs ys a.1

-- a walk with no place twice that is at most as long
record Shorter (e0 : ℕ → ℕ → Option ℤ) (P : ℕ → Type 0) (i j : ℕ) (vs : List ℕ) : Type 0 where
  by : List ℕ
  each : EachIn P by
  apart : Apart by
  le : AtMost (walk_sum e0 i by j) (walk_sum e0 i vs j)

shorter : (d : ℕ) (e0 e : ℕ → ℕ → Option ℤ) (P : ℕ → Type 0) → Through d e0 e P → ((p : ℕ) → P p → p < d) → (i j : ℕ) (vs : List ℕ) → i < d → j < d → EachIn P vs → Shorter e0 P i j vs
shorter d e0 e P t inside i j [] id jd b = record { by = []; each = tt; apart = tt; le = at_most_same (e0 i j) }
shorter d e0 e P t inside i j (v ∷ vs) id jd b =
    let vd : v < d = inside v b.0 in
    let s = shorter d e0 e P t inside v j vs vd jd b.1 in
    by s (list_any (eqb v) s.by) refl
  where
    by : (s : Shorter e0 P v j vs) → (a : Bool) → list_any (eqb v) s.by ≡ a → Shorter e0 P i j (v ∷ vs)
    by s false n = record { by = v ∷ s.by; each = (b.0, s.each); apart = (n, s.apart); le = plus_le _ _ _ _ (at_most_same (e0 i v)) s.le }
    by s true y =
        let vd : v < d = inside v b.0 in
        let f = from_place v s.by y in
        let each : EachIn P (f.before ++ v ∷ f.after) = subst (λ xs. EachIn P xs) (sym f.is) s.each in
        let apart : Apart (f.before ++ v ∷ f.after) = subst (λ xs. Apart xs) (sym f.is) s.apart in
        let round : AtMost (Some (pos 0)) (walk_sum e0 v f.before v) =
        subst (λ z. AtMost z (walk_sum e0 v f.before v)) (t.zero v vd) (through_least d e0 e P t inside v v f.before vd vd (each_before P v f.before f.after each)) in
        let cut : AtMost (walk_sum e0 v f.after j) (plus (walk_sum e0 v f.after j) (walk_sum e0 v f.before v)) = plus_more _ _ round in
        let whole : plus (walk_sum e0 v f.after j) (walk_sum e0 v f.before v) ≡ walk_sum e0 v s.by j =
        plus_comm (walk_sum e0 v f.after j) (walk_sum e0 v f.before v) ∙ sym (walk_append e0 f.before f.after v v j) ∙ ap (λ xs. walk_sum e0 v xs j) f.is in
        let le : AtMost (walk_sum e0 v f.after j) (walk_sum e0 v vs j) = at_most_trans _ (walk_sum e0 v s.by j) _ (subst (λ z. AtMost (walk_sum e0 v f.after j) z) whole cut) s.le in
        record {
          by = v ∷ f.after;
          each = each_after P v f.before f.after each;
          apart = apart_after v f.before f.after apart;
          le = plus_le _ _ _ _ (at_most_same (e0 i v)) le;
        }

walk_near : (e0 : ℕ → ℕ → Option ℤ) (m : ℕ) → ((i j : ℕ) → IsNear m (e0 i j)) → (i j : ℕ) (vs : List ℕ) → IsNear (length vs * m + m) (walk_sum e0 i vs j)
walk_near e0 m h i j [] = let none : m ≡ 0 * m + m = omega arith in subst (λ n. IsNear n (e0 i j)) none (h i j)
walk_near e0 m h i j (v ∷ vs) =
    let more : m + (length vs * m + m) ≡ length (v ∷ vs) * m + m = omega arith in
    subst (λ n. IsNear n (walk_sum e0 i (v ∷ vs) j)) more (plus_near m (length vs * m + m) (e0 i v) (walk_sum e0 v vs j) (h i v) (walk_near e0 m h v j vs))

-- so the bounds stay near 0 while the places are gone through
pub through_near : (d : ℕ) (e0 e : ℕ → ℕ → Option ℤ) (P : ℕ → Type 0) (m : ℕ) → Through d e0 e P → ((p : ℕ) → P p → p < d) → ((i j : ℕ) → IsNear m (e0 i j)) → (i j : ℕ) → i < d → j < d → IsNear (d * m + m) (e i j)
through_near d e0 e P m t inside h i j id jd =
    let r = t.reached i j id jd in
    let s = shorter d e0 e P t inside i j r.by id jd r.each in
    let same : walk_sum e0 i s.by j ≡ e i j =
    at_most_both (walk_sum e0 i s.by j) (e i j) (subst (λ v. AtMost (walk_sum e0 i s.by j) v) r.is s.le) (through_least d e0 e P t inside i j s.by id jd s.each) in
    let few : length s.by ≤ d = apart_short d P inside s.by s.apart s.each in
    subst (λ v. IsNear (d * m + m) v) same (near_more (length s.by * m + m) (d * m + m) _ (omega (arith, mul-le-mul_right m few)) (walk_near e0 m h i j s.by))
