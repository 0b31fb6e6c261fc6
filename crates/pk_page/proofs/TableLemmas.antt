-- The table of marks has at each byte what the operations there say.
use Rattle.std.proofs.Common.{◌≡◌, ◌≢◌, ℕ, ◌+◌, ◌-◌, ◌<◌, ◌==◌, List, [], ◌∷◌, length, refl, sym, ap, ◌∙◌, cond, Bool, true, false, ◌&&◌, arith, Option, Some, None, nat_lt, get_or}
use Rattle.std.specs.Prelude.{fold, replicate}
use Rattle.std.proofs.lemmas.Bool.{eq-eqb, eqb-true, eqb-false, ltb-true, ltb-false, ne_eqb}
use Rattle.std.proofs.lemmas.List.{get_or-set_same, get_or-set_other, length-set, get_or-map, length-map, get_or-replicate, length-replicate}
use Rattle.pk_findings.specs.Operations.{OperationOf}
use Rattle.pk_findings.specs.Words.{verdict_of}
use Rattle.pk_page.specs.declared.marks.Mark.{Mark}
use Rattle.pk_page.specs.Source.{mark_of, joined_with, is_at, line_in}
use Rattle.pk_page.specs.Marks.{marked, marked_in, marked_by, blank, marks_of, AreMarks}

abbrev pub at : List (List (Option Mark)) → ℕ → ℕ → Option Mark
at rows k j = get_or (get_or rows k []) j None

-- a mark that is put at a byte stands there, and nowhere else
row_has : (row : List (Option Mark)) (c : ℕ) (m : Mark) (j : ℕ) (same : Bool) → same ≡ (j == c) → j < length row →
    get_or (marked row c m) j None ≡ cond same (Some (joined_with (get_or row j None) m)) (get_or row j None)
unfolding marked
row_has row c m j true e h =
    let is : c ≡ j = sym (eqb-true j c (sym e)) in
    rw is (get_or-set_same row j (Some (joined_with (get_or row j None) m)) None h)
row_has row c m j false e h =
    let isnt : j ≢ c = eqb-false j c (sym e) in
    get_or-set_other row c j (Some (joined_with (get_or row c None) m)) None isnt

table_has : (rows : List (List (Option Mark))) (l c : ℕ) (m : Mark) (k j : ℕ) (same : Bool) → same ≡ (k == l) → k < length rows → j < length (get_or rows k []) →
    at (marked_in rows l c m) k j ≡ cond (same && (j == c)) (Some (joined_with (at rows k j) m)) (at rows k j)
unfolding marked_in
table_has rows l c m k j true e hk hj =
    let is : l ≡ k = sym (eqb-true k l (sym e)) in
    rw (is, get_or-set_same rows k (marked (get_or rows k []) c m) [] hk) (row_has (get_or rows k []) c m j (j == c) refl hj)
table_has rows l c m k j false e hk hj =
    let isnt : k ≢ l = eqb-false k l (sym e) in
    ap (λ (row : List (Option Mark)). get_or row j None) (get_or-set_other rows l k (marked (get_or rows l []) c m) [] isnt)

suc_eq : (a b : ℕ) (same : Bool) → same ≡ (a + 1 == b + 1) → same ≡ (a == b)
suc_eq a b true e =
    let is : a ≡ b = omega (arith, eqb-true (a + 1) (b + 1) (sym e)) in
    sym (eq-eqb a b is)
suc_eq a b false e =
    let isnt = eqb-false (a + 1) (b + 1) (sym e) in
    sym (ne_eqb a b (λ is. isnt (ap (λ (n : ℕ). n + 1) is)))

put : (rows : List (List (Option Mark))) (o : OperationOf) (k j : ℕ) (has_line has_column : Bool) → has_line ≡ nat_lt 0 o.at.line → has_column ≡ nat_lt 0 o.at.column →
    k < length rows → j < length (get_or rows k []) →
    at (cond (has_line && has_column) (marked_in rows (o.at.line - 1) (o.at.column - 1) (mark_of (verdict_of o))) rows) k j ≡ cond (is_at (k + 1) (j + 1) o) (Some (joined_with (at rows k j) (mark_of (verdict_of o)))) (at rows k j)
put rows o k j true true hl hc hk hj =
    let line : o.at.line ≡ (o.at.line - 1) + 1 = omega (arith, ltb-true 0 o.at.line (sym hl)) in
    let column : o.at.column ≡ (o.at.column - 1) + 1 = omega (arith, ltb-true 0 o.at.column (sym hc)) in
    let l : (k + 1 == o.at.line) ≡ (k == o.at.line - 1) = ap (λ (n : ℕ). k + 1 == n) line ∙ suc_eq k (o.at.line - 1) (k + 1 == (o.at.line - 1) + 1) refl in
    let c : (j + 1 == o.at.column) ≡ (j == o.at.column - 1) = ap (λ (n : ℕ). j + 1 == n) column ∙ suc_eq j (o.at.column - 1) (j + 1 == (o.at.column - 1) + 1) refl in
    rw (l, c) (table_has rows (o.at.line - 1) (o.at.column - 1) (mark_of (verdict_of o)) k j (k == o.at.line - 1) refl hk hj)
put rows o k j true false hl hc hk hj =
    let none : (j + 1 == o.at.column) ≡ false = ne_eqb (j + 1) o.at.column (λ e. omega (arith, ltb-false 0 o.at.column (sym hc))) in
    rw none (elim (k + 1 == o.at.line) as (λ (b : Bool). at rows k j ≡ cond (b && false) (Some (joined_with (at rows k j) (mark_of (verdict_of o)))) (at rows k j)) [ true ↦ refl | false ↦ refl ])
put rows o k j false has_column hl hc hk hj =
    let none : (k + 1 == o.at.line) ≡ false = ne_eqb (k + 1) o.at.line (λ e. omega (arith, ltb-false 0 o.at.line (sym hl))) in
    rw none refl

put_by : (rows : List (List (Option Mark))) (o : OperationOf) (k j : ℕ) → k < length rows → j < length (get_or rows k []) →
    at (marked_by rows o) k j ≡ cond (is_at (k + 1) (j + 1) o) (Some (joined_with (at rows k j) (mark_of (verdict_of o)))) (at rows k j)
unfolding marked_by
put_by rows o k j hk hj = put rows o k j (nat_lt 0 o.at.line) (nat_lt 0 o.at.column) refl refl hk hj

-- ---- sizes

row_size : (row : List (Option Mark)) (c : ℕ) (m : Mark) → length (marked row c m) ≡ length row
unfolding marked
row_size row c m = length-set row c (Some (joined_with (get_or row c None) m))

table_size : (rows : List (List (Option Mark))) (l c : ℕ) (m : Mark) → length (marked_in rows l c m) ≡ length rows
unfolding marked_in
table_size rows l c m = length-set rows l (marked (get_or rows l []) c m)

size_by : (rows : List (List (Option Mark))) (o : OperationOf) → length (marked_by rows o) ≡ length rows
unfolding marked_by
size_by rows o =
    elim (nat_lt 0 o.at.line && nat_lt 0 o.at.column) as (λ (b : Bool). length (cond b (marked_in rows (o.at.line - 1) (o.at.column - 1) (mark_of (verdict_of o))) rows) ≡ length rows) [
      | true ↦ table_size rows (o.at.line - 1) (o.at.column - 1) (mark_of (verdict_of o))
      | false ↦ refl
    ]

row_sizes : (rows : List (List (Option Mark))) (l c : ℕ) (m : Mark) (k : ℕ) (same : Bool) → same ≡ (k == l) → k < length rows →
    length (get_or (marked_in rows l c m) k []) ≡ length (get_or rows k [])
unfolding marked_in
row_sizes rows l c m k true e hk =
    let is : l ≡ k = sym (eqb-true k l (sym e)) in
    rw (is, get_or-set_same rows k (marked (get_or rows k []) c m) [] hk) (row_size (get_or rows k []) c m)
row_sizes rows l c m k false e hk =
    let isnt : k ≢ l = eqb-false k l (sym e) in
    ap length (get_or-set_other rows l k (marked (get_or rows l []) c m) [] isnt)

sizes_by : (rows : List (List (Option Mark))) (o : OperationOf) (k : ℕ) → k < length rows → length (get_or (marked_by rows o) k []) ≡ length (get_or rows k [])
unfolding marked_by
sizes_by rows o k hk =
    elim (nat_lt 0 o.at.line && nat_lt 0 o.at.column) as (λ (b : Bool). length (get_or (cond b (marked_in rows (o.at.line - 1) (o.at.column - 1) (mark_of (verdict_of o))) rows) k []) ≡ length (get_or rows k [])) [
      | true ↦ row_sizes rows (o.at.line - 1) (o.at.column - 1) (mark_of (verdict_of o)) k (k == o.at.line - 1) refl hk
      | false ↦ refl
    ]

-- ---- all operations

pub size_of : (rows : List (List (Option Mark))) (os : List OperationOf) → length (fold marked_by rows os) ≡ length rows
size_of rows [] = refl
size_of rows (o ∷ os) = size_of (marked_by rows o) os ∙ size_by rows o

pub sizes_of : (rows : List (List (Option Mark))) (os : List OperationOf) (k : ℕ) → k < length rows → length (get_or (fold marked_by rows os) k []) ≡ length (get_or rows k [])
sizes_of rows [] k h = refl
sizes_of rows (o ∷ os) k h =
    let s = size_by rows o in
    sizes_of (marked_by rows o) os k (omega (arith, s)) ∙ sizes_by rows o k h

pub each_of : (rows : List (List (Option Mark))) (os : List OperationOf) (k j : ℕ) → k < length rows → j < length (get_or rows k []) →
    at (fold marked_by rows os) k j ≡ fold (λ seen o. cond (is_at (k + 1) (j + 1) o) (Some (joined_with seen (mark_of (verdict_of o)))) seen) (at rows k j) os
each_of rows [] k j hk hj = refl
each_of rows (o ∷ os) k j hk hj =
    let s = size_by rows o in
    let t = sizes_by rows o k hk in
    each_of (marked_by rows o) os k j (omega (arith, s)) (omega (arith, t)) ∙
    ap (λ (seen : Option Mark). fold (λ seen o. cond (is_at (k + 1) (j + 1) o) (Some (joined_with seen (mark_of (verdict_of o)))) seen) seen os) (put_by rows o k j hk hj)

-- ---- at first nothing is marked

blank_row : (lines : List (List ℕ)) (k : ℕ) → k < length lines → get_or (blank lines) k [] ≡ replicate (length (line_in lines k)) None
blank_row lines k h = get_or-map (λ (line : List ℕ). replicate {A = Option Mark} (length line) None) lines k [] [] h

pub are_marks : (lines : List (List ℕ)) (os : List OperationOf) (rows : List (List (Option Mark))) → rows ≡ marks_of lines os → AreMarks lines os rows
are_marks lines os rows e =
    let size : length (blank lines) ≡ length lines = length-map lines (λ (line : List ℕ). replicate {A = Option Mark} (length line) None) in
    let row_length = λ (k : ℕ) (h : k < length lines). ap length (blank_row lines k h) ∙ length-replicate (length (line_in lines k)) None in
    rw e (record {
      size = size_of (blank lines) os ∙ size;
      sizes = λ k h. sizes_of (blank lines) os k (omega (arith, size)) ∙ row_length k h;
      each = λ k j hk hj.
          each_of (blank lines) os k j (omega (arith, size)) (omega (arith, row_length k hk)) ∙
          ap (λ (seen : Option Mark). fold (λ seen o. cond (is_at (k + 1) (j + 1) o) (Some (joined_with seen (mark_of (verdict_of o)))) seen) seen os)
          (ap (λ (row : List (Option Mark)). get_or row j None) (blank_row lines k hk) ∙ get_or-replicate (length (line_in lines k)) j None None hj);
    })
