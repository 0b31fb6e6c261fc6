-- A matrix that is filled row by row, and the symbols of its bounds.
use Rattle.std.specs.Prelude.{◌≡◌, ℕ, zero, suc, ◌<◌, ◌≤◌, ◌+◌, ◌*◌, ◌/◌, ◌%◌, ◌^◌, ◌==◌, ◌||◌, ◌&&◌, Bool, true, false, if◌then◌else◌, ℤ, List, map, length, slice_index_or, Option, Some, None}
use Rattle.std.proofs.Common.{arith, refl, sym, ap, subst, ◌∙◌, inl, inr, get_or}
use Rattle.std.proofs.Math.ListN.{get_or-map}
use Rattle.std.proofs.Math.Nat.{div-add-mod, div-lt_iff_lt-mul, mod-lt}
use Rattle.std.proofs.lemmas.Bool.{cases_eq}
use Rattle.std.proofs.lemmas.Bool.Decides.{nat_tests}
use Rattle.std.proofs.lemmas.List.{ext_get_or, length-map}
use Rattle.pk_octmat.specs.Bounds.{IsNear, capped}
use Rattle.pk_octmat.specs.Octagon.{Octagon, entry, bar, written, IsOctagon, HasEntries}
use Rattle.pk_octmat.proofs.Cells.{cell_in, place_in}
use Rattle.pk_octmat.proofs.Points.{capped_same}
use Rattle.pk_cert.specs.declared.rows.Symbol.{Symbol}
use Rattle.pk_cert.specs.declared.rows.Symbol.TheVariants.{Star}
use Rattle.pk_cert.specs.Rows.{kept}
use Rattle.pk_cert_states.specs.Parts.{number_of, bound_of, IsBound, IsPast, IsFilledTo, AreBoundsOf}

-- ---- one more place

-- what stands at a place where a bound is written to place (i, j)
written_at : (f : ℕ → ℕ → Option ℤ) (e : ℕ → ℕ → Option ℤ) (i j a b : ℕ) (t u v w : Bool) → (a == i) ≡ t → (b == j) ≡ u → (a == bar j) ≡ v → (b == bar i) ≡ w
    → f i j ≡ f (bar j) (bar i) → (((a ≡ i) → (b ≡ j) → ⊥) → e a b ≡ f a b) → (if ((t && u) || (v && w)) then f i j else e a b) ≡ f a b
written_at f e i j a b true true v w p q r s same before =
    let x : a ≡ i = grind (arith, nat_tests) in
    let y : b ≡ j = grind (arith, nat_tests) in
    ap (λ c. f c j) (sym x) ∙ ap (λ c. f a c) (sym y)
written_at f e i j a b true false true true p q r s same before =
    let x : a ≡ bar j = grind (arith, nat_tests) in
    let y : b ≡ bar i = grind (arith, nat_tests) in
    same ∙ ap (λ c. f c (bar i)) (sym x) ∙ ap (λ c. f a c) (sym y)
written_at f e i j a b false u true true p q r s same before =
    let x : a ≡ bar j = grind (arith, nat_tests) in
    let y : b ≡ bar i = grind (arith, nat_tests) in
    same ∙ ap (λ c. f c (bar i)) (sym x) ∙ ap (λ c. f a c) (sym y)
written_at f e i j a b true false true false p q r s same before = before (λ x y. let z : (b == j) ≡ true = grind (arith, nat_tests) in absurd (cc))
written_at f e i j a b true false false w p q r s same before = before (λ x y. let z : (b == j) ≡ true = grind (arith, nat_tests) in absurd (cc))
written_at f e i j a b false u true false p q r s same before = before (λ x y. let z : (a == i) ≡ true = grind (arith, nat_tests) in absurd (cc))
written_at f e i j a b false u false w p q r s same before = before (λ x y. let z : (a == i) ≡ true = grind (arith, nat_tests) in absurd (cc))

past_before : (i j a b : ℕ) → IsPast i (j + 1) a b → ((a ≡ i) → (b ≡ j) → ⊥) → IsPast i j a b
past_before i j a b (inl h) n = inl h
past_before i j a b (inr (inl h)) n = inr (inl h)
past_before i j a b (inr (inr h)) n = elim (cases_eq b j) [ inl s ↦ absurd (n h.0 s) | inr s ↦ inr (inr (h.0, omega (arith, h.1, s))) ]

pub put_set : (n : ℕ) (f : ℕ → ℕ → Option ℤ) (i j : ℕ) (m k : Octagon) → IsFilledTo n f i j m → k.vars ≡ m.vars → ((a b : ℕ) → entry k a b ≡ written (entry m) i j (capped (f i j)) a b)
    → IsNear (2 ^ 66) (f i j) → f i j ≡ f (bar j) (bar i) → IsFilledTo n f i (j + 1) k
put_set n f i j m k h vars e near same = record {
  vars = vars ∙ h.vars;
  each = λ a b p q past.
      e a b ∙ ap (λ (x : Option ℤ). written (entry m) i j x a b) (capped_same (f i j) near)
      ∙ written_at f (entry m) i j a b (a == i) (b == j) (a == bar j) (b == bar i) refl refl refl refl same (λ other. h.each a b p q (past_before i j a b past other));
}

pub put_same : (n : ℕ) (f : ℕ → ℕ → Option ℤ) (i j : ℕ) (m : Octagon) → IsFilledTo n f i j m → i ≡ j → IsFilledTo n f i (j + 1) m
put_same n f i j m h same = record { vars = h.vars; each = λ a b p q past. h.each a b p q (on a b past) }
  where
    on : (a b : ℕ) → IsPast i (j + 1) a b → IsPast i j a b
    on a b (inl s) = inl s
    on a b (inr (inl s)) = inr (inl s)
    on a b (inr (inr s)) = elim (cases_eq b j) [ inl t ↦ inl (s.0 ∙ same ∙ sym t) | inr t ↦ inr (inr (s.0, omega (arith, s.1, t))) ]

pub row_done : (n : ℕ) (f : ℕ → ℕ → Option ℤ) (i j : ℕ) (m : Octagon) → IsFilledTo n f i j m → 2 * n ≤ j → IsFilledTo n f (i + 1) 0 m
row_done n f i j m h full = record { vars = h.vars; each = λ a b p q past. h.each a b p q (on a b q past) }
  where
    on : (a b : ℕ) → b < 2 * n → IsPast (i + 1) 0 a b → IsPast i j a b
    on a b q (inl s) = inl s
    on a b q (inr (inl s)) = elim (cases_eq a i) [ inl t ↦ inr (inr (t, omega (arith, q, full))) | inr t ↦ inr (inl (omega (arith, s, t))) ]
    on a b q (inr (inr s)) = absurd (omega (arith, s.1))

-- ---- the symbols of an octagon

number_kept : (z : Option ℤ) → number_of (kept z) ≡ z
number_kept None = refl
number_kept (Some z) = refl

kept_at : (cells : List (Option ℤ)) (k : ℕ) → k < length cells → slice_index_or (map kept cells) k Star ≡ kept (slice_index_or cells k None)
kept_at cells k h = get_or-map kept cells k None

pub bounds_are : (n : ℕ) (symbols : List Symbol) (m : Octagon) → AreBoundsOf n symbols m → (i j : ℕ) → i < 2 * n → j < 2 * n → IsBound symbols (2 * n) i j
bounds_are n symbols m h i j p q = record {
  known = symbol i j p q ∙ ap kept (sym (is i j p q));
  near = subst (IsNear (2 ^ 66)) (sym (is i j p q)) (h.octagon.whole.near i j);
  turned = is i j p q ∙ h.octagon.whole.coherent.turned i j ∙ sym (is (bar j) (bar i) (omega (arith, q)) (omega (arith, p)));
  zero = λ s. is i j p q ∙ ap (λ k. entry m i k) (sym s) ∙ h.octagon.whole.coherent.zero i (omega (arith, p, h.vars));
}
  where
    d : ℕ
    d = 2 * n

    symbol : (a b : ℕ) → a < 2 * n → b < 2 * n → slice_index_or symbols (a * (2 * n) + b) Star ≡ kept (entry m a b)
    symbol a b p q =
        let size = h.octagon.whole.size in
        let x : a < 2 * m.vars = omega (arith, p, h.vars) in
        let y : b < 2 * m.vars = omega (arith, q, h.vars) in
        ap (λ (s : List Symbol). slice_index_or s (a * (2 * n) + b) Star) h.told
        ∙ ap (λ (k : ℕ). slice_index_or (map kept m.cells) (a * (2 * k) + b) Star) (sym h.vars)
        ∙ kept_at m.cells (a * (2 * m.vars) + b) (place_in (2 * m.vars) m.cells a b size x y)
        ∙ ap kept (sym (cell_in (2 * m.vars) m.cells a b x y))

    is : (a b : ℕ) → a < 2 * n → b < 2 * n → bound_of symbols (2 * n) a b ≡ entry m a b
    is a b p q = ap number_of (symbol a b p q) ∙ number_kept (entry m a b)

pub octagon_told : (n : ℕ) (symbols : List Symbol) (m : Octagon) → length symbols ≡ 2 * n * (2 * n) → ((i j : ℕ) → i < 2 * n → j < 2 * n → IsBound symbols (2 * n) i j) → IsOctagon m
    → HasEntries n (bound_of symbols (2 * n)) m → AreBoundsOf n symbols m
octagon_told n symbols m size each made has = record {
  vars = has.vars;
  octagon = made;
  told = ext_get_or Star symbols (map kept m.cells) (size ∙ sym (length-map m.cells kept ∙ cells_size)) (λ k p. at k (subst (λ c. k < c) size p));
}
  where
    cells_size : length m.cells ≡ 2 * n * (2 * n)
    cells_size = made.whole.size ∙ ap (λ k. 2 * k * (2 * k)) has.vars

    some_places : (d k : ℕ) → k < d * d → 0 < d
    some_places zero k p = absurd (omega arith)
    some_places (suc c) k p = omega arith

    at : (k : ℕ) → k < 2 * n * (2 * n) → get_or symbols k Star ≡ get_or (map kept m.cells) k Star
    at k p =
        let d : ℕ = 2 * n in
        let some : 0 < d = some_places (2 * n) k p in
        let i = k / (2 * n) in
        let j = k % (2 * n) in
        let id : i < d = (div-lt_iff_lt-mul {k = d} {x = k} {y = d} some).1 p in
        let jd : j < d = mod-lt k some in
        let split : i * (2 * n) + j ≡ k = omega (arith, div-add-mod k (2 * n)) in
        let x : i < 2 * m.vars = omega (arith, id, has.vars) in
        let y : j < 2 * m.vars = omega (arith, jd, has.vars) in
        ap (λ c. get_or symbols c Star) (sym split) ∙ (each i j id jd).known
        ∙ ap kept (sym (has.each i j id jd) ∙ cell_in (2 * m.vars) m.cells i j x y ∙ ap (λ c. get_or m.cells (i * (2 * c) + j) None) has.vars ∙ ap (λ c. get_or m.cells c None) split)
        ∙ sym (kept_at m.cells k (subst (λ c. k < c) (sym cells_size) p))
