-- The last reader of each item, constraint by constraint.
use Rattle.std.proofs.Common.{◌≡◌, ℕ, ◌+◌, ◌-◌, ◌<◌, ◌≤◌, ◌==◌, ◌&&◌, ◌||◌, inl, inr, List, [], ◌∷◌, ◌++◌, length, get_or, take, map, max, Bool, true, false, refl, ap, sym, subst, ◌∙◌, arith, get_or-set_other, get_or-set_same}
use lib.ListN.{set}
use Rattle.std.proofs.lemmas.Bool.{ne_eqb}
use Rattle.std.proofs.Math.Dec.{leb}
use Rattle.std.specs.List.{range_with_len, list_any}
use Rattle.std.proofs.lemmas.Bool.Decides.{nat_tests}
use Rattle.std.proofs.lemmas.List.{length-set, take_all}
use Rattle.std.proofs.lemmas.List.Folds.{list_any_more, list_any-append}
use Rattle.std.proofs.lemmas.List.FromFn.{length-range_with_len, get_or-range_with_len, map-range_with_len_more}
use Rattle.pk_plan.specs.Axioms.{Axioms}
use Rattle.pk_plan.specs.Plans.{PlanView, predecessors_of, end_of}
use Rattle.pk_peak.specs.Peak.{leads_from}
use Rattle.pk_peak.specs.Readers.{AreLast}
use Rattle.pk_peak.proofs.Listing.{same_or_not, equals_itself}

-- whether b reads the item i, and stands in the item j or a later one
abbrev pub reads_late : PlanView → (ℕ → ℕ) → (i j b : ℕ) → Bool
reads_late p item i j b = leb j (item b) && leads_from p item i b

-- what the elements below b read
abbrev pub read_below : PlanView → (ℕ → ℕ) → (i j b : ℕ) → Bool
read_below p item i j b = leb j i || list_any (reads_late p item i j) (range_with_len 0 b)

-- the last readers by the elements below b, and by some of the constraints that lead to b
pub record AreLastBelow (p : PlanView) (item : ℕ → ℕ) (count b : ℕ) (last : List ℕ) : Type 0 where
  pub long : length last ≡ count
  pub low : (i : ℕ) → i < count → get_or last i 0 < count
  pub each : (i j : ℕ) → i < count → leb j (get_or last i 0) ≡ read_below p item i j b

pub record AreLastWithin (p : PlanView) (item : ℕ → ℕ) (count b reader : ℕ) (read : List ℕ) (last : List ℕ) : Type 0 where
  pub long : length last ≡ count
  pub low : (i : ℕ) → i < count → get_or last i 0 < count
  pub each : (i j : ℕ) → i < count → leb j (get_or last i 0) ≡ (read_below p item i j b || (leb j reader && list_any (λ a. item a == i) read))

or_and_false : (s t : Bool) → (s || (t && false)) ≡ s
or_and_false true t = refl
or_and_false false true = refl
or_and_false false false = refl

or_more : (s t u v : Bool) → v ≡ true → ((s || (t && u)) || t) ≡ (s || (t && (u || v)))
or_more true t u v all = refl
or_more false true true v all = refl
or_more false true false v all = sym all
or_more false false u v all = refl

or_same : (s t u v : Bool) → v ≡ false → (s || (t && u)) ≡ (s || (t && (u || v)))
or_same s t true v none = refl
or_same s t false v none = ap (λ (w : Bool). s || (t && w)) (sym none)

max_tells : (j m n : ℕ) → leb j (max m n) ≡ (leb j m || leb j n)
max_tells j m n = grind (arith, nat_tests)

-- no constraint to b was looked at
pub none_within : (p : PlanView) (item : ℕ → ℕ) (count b reader : ℕ) (last : List ℕ) → AreLastBelow p item count b last → AreLastWithin p item count b reader [] last
none_within p item count b reader last below = record {
  long = below.long;
  low = below.low;
  each = λ i j h. below.each i j h ∙ sym (or_and_false (read_below p item i j b) (leb j reader));
}

-- one more was
pub one_within : (p : PlanView) (item : ℕ → ℕ) (count b reader k from m : ℕ) (read last : List ℕ) → k < length read → from ≡ item (get_or read k 0) → from < count → reader < count → m ≡ max (get_or last from 0) reader
    → AreLastWithin p item count b reader (take k read) last → AreLastWithin p item count b reader (take (k + 1) read) (set last from m)
one_within p item count b reader k from m read last in_range from_is low high is within = record {
  long = length-set last from m ∙ within.long;
  low = λ i h. elim (same_or_not i from) [
    | inl same ↦ let at = get_or-set_at i h same in let before = within.low from low in omega (arith, at, is, before, high)
    | inr other ↦ let at = get_or-set_other last from i m 0 other in let before = within.low i h in omega (arith, at, before)
  ];
  each = λ i j h. elim (same_or_not i from) [
    | inl same ↦
        let found : (item (get_or read k 0) == i) ≡ true = ap (λ (n : ℕ). n == i) (sym from_is ∙ sym same) ∙ equals_itself i in
        ap (leb j) (get_or-set_at i h same ∙ is) ∙ max_tells j (get_or last from 0) reader
        ∙ ap (λ (t : Bool). t || leb j reader) (ap (λ (n : ℕ). leb j (get_or last n 0)) (sym same) ∙ within.each i j h)
        ∙ or_more (read_below p item i j b) (leb j reader) (list_any (λ a. item a == i) (take k read)) (item (get_or read k 0) == i) found
        ∙ ap (λ (t : Bool). read_below p item i j b || (leb j reader && t)) (sym (list_any_more (λ a. item a == i) read k 0 in_range))
    | inr other ↦
        let found : (item (get_or read k 0) == i) ≡ false = ne_eqb (item (get_or read k 0)) i (λ e. other (sym (from_is ∙ e))) in
        ap (leb j) (get_or-set_other last from i m 0 other) ∙ within.each i j h
        ∙ or_same (read_below p item i j b) (leb j reader) (list_any (λ a. item a == i) (take k read)) (item (get_or read k 0) == i) found
        ∙ ap (λ (t : Bool). read_below p item i j b || (leb j reader && t)) (sym (list_any_more (λ a. item a == i) read k 0 in_range))
  ];
}
  where
    get_or-set_at : (i : ℕ) → i < count → i ≡ from → get_or (set last from m) i 0 ≡ m
    get_or-set_at i h same = ap (λ (n : ℕ). get_or (set last from m) n 0) same ∙ get_or-set_same last from m 0 (let l = within.long in omega (arith, l, low))

mapped : (xs : List ℕ) → map (λ (n : ℕ). n) xs ≡ xs
mapped [] = refl
mapped (x ∷ xs) = ap (λ (ys : List ℕ). x ∷ ys) (mapped xs)

range_push : (n : ℕ) → range_with_len 0 (n + 1) ≡ range_with_len 0 n ++ n ∷ []
range_push n = sym (mapped (range_with_len 0 (n + 1))) ∙ map-range_with_len_more (λ (k : ℕ). k) 0 n n (omega arith) ∙ ap (λ (xs : List ℕ). xs ++ n ∷ []) (mapped (range_with_len 0 n))

range_more : (f : ℕ → Bool) (b : ℕ) → list_any f (range_with_len 0 (b + 1)) ≡ (list_any f (range_with_len 0 b) || f b)
range_more f b = ap (list_any f) (range_push b) ∙ list_any-append f (range_with_len 0 b) (b ∷ []) ∙ ap (λ (t : Bool). list_any f (range_with_len 0 b) || t) (or_nothing (f b))
  where
    or_nothing : (t : Bool) → (t || false) ≡ t
    or_nothing true = refl
    or_nothing false = refl

-- one item more
pub own_more : (n : ℕ) (old new : List ℕ) → new ≡ old ++ n ∷ [] → old ≡ range_with_len 0 n → new ≡ range_with_len 0 (n + 1)
own_more n old new is so_far = is ∙ ap (λ (xs : List ℕ). xs ++ n ∷ []) so_far ∙ sym (range_push n)

pub own_all : (n count : ℕ) (items : List ℕ) → n ≤ count → count ≤ n → items ≡ range_with_len 0 n → items ≡ range_with_len 0 count
own_all n count items most least is = let all : n ≡ count = omega (arith, most, least) in is ∙ ap (range_with_len 0) all

-- all were: the last readers by the elements up to b
pub all_within : (p : PlanView) (item : ℕ → ℕ) (count b k : ℕ) (last : List ℕ) → length (predecessors_of p b) ≤ k → AreLastWithin p item count b (item b) (take k (predecessors_of p b)) last → AreLastBelow p item count (b + 1) last
all_within p item count b k last all within = record {
  long = within.long;
  low = within.low;
  each = λ i j h.
      within.each i j h
      ∙ ap (λ (xs : List ℕ). read_below p item i j b || (leb j (item b) && list_any (λ a. item a == i) xs)) (take_all k (predecessors_of p b) all)
      ∙ or_assoc (leb j i) (list_any (reads_late p item i j) (range_with_len 0 b)) (reads_late p item i j b)
      ∙ ap (λ (t : Bool). leb j i || t) (sym (range_more (reads_late p item i j) b));
}
  where
    or_assoc : (s t u : Bool) → ((s || t) || u) ≡ (s || (t || u))
    or_assoc true t u = refl
    or_assoc false t u = refl

-- each item is its own last reader at first
pub own_last : (p : PlanView) (item : ℕ → ℕ) (count : ℕ) (last : List ℕ) → last ≡ range_with_len 0 count → AreLastBelow p item count 0 last
own_last p item count last is = record {
  long = ap (λ (xs : List ℕ). length xs) is ∙ length-range_with_len 0 count;
  low = λ i h. subst (λ (n : ℕ). n < count) (sym (own i h)) h;
  each = λ i j h. ap (leb j) (own i h) ∙ sym (or_none (leb j i));
}
  where
    own : (i : ℕ) → i < count → get_or last i 0 ≡ i
    own i h = ap (λ (xs : List ℕ). get_or xs i 0) is ∙ get_or-range_with_len 0 count i 0 h ∙ omega arith

    or_none : (t : Bool) → (t || false) ≡ t
    or_none true = refl
    or_none false = refl

-- below END all are
pub are_last : (p : PlanView) (item : ℕ → ℕ) (count b end : ℕ) (last : List ℕ) → Axioms p → end ≡ p.elements - 1 → b ≤ end → end ≤ b → AreLastBelow p item count b last → AreLast p item count last
are_last p item count b end last axioms end_is most least below =
    let n = axioms.counted in
    let all : b ≡ end_of p = omega (arith, end_is, most, least, n) in
    let whole = subst (λ (k : ℕ). AreLastBelow p item count k last) all below in
    record { long = whole.long; within = whole.low; each = whole.each }
