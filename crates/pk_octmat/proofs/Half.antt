-- Half of a matrix is the whole of it.
use Rattle.std.specs.Prelude.{◌≡◌, ◌≢◌, ℕ, zero, suc, ◌<◌, ◌≤◌, ◌+◌, ◌-◌, ◌*◌, ◌/◌, ◌%◌, ◌^◌, nat_lt, ℤ, pos, Option, Some, None, Bool, true, false, ◌⊎◌, List, length}
use Rattle.std.proofs.Common.{◌∙◌, ap, refl, sym, subst, arith, inl, inr, get_or, set, length-set}
use Rattle.std.proofs.lemmas.Bool.Decides.{nat_tests}
use Rattle.std.proofs.lemmas.Bool.{cases_eq, cases_lt}
use Rattle.std.proofs.lemmas.List.{ext_get_or, get_or_read, get_or-set_other, get_or-set_same}
use Rattle.std.proofs.lemmas.Nat.{same_from_place}
use Rattle.pk_octmat.specs.Bounds.{IsNear}
use Rattle.pk_octmat.specs.Octagon.{Octagon, bar, cell_at, written}
use Rattle.pk_octmat.specs.Half.{block, half_at, kept_at, octagon_in, row_place, spot, unfolded, IsHalf, IsKept}
use Rattle.pk_octmat.proofs.Bars.{bar_bar, bar_in, pairs_of}
use Rattle.pk_octmat.proofs.Cells.{cell_row_out, cell_column_out}
use Rattle.pk_octmat.proofs.Matrices.{matrix_from}
use Rattle.pk_octmat.proofs.Tabled.{tabled_entry, tabled_length}
use Rattle.pk_octmat.proofs.Written.{IsPlace, is_place, write_whole, written_first, written_none, written_second}

-- ---- blocks
block_more : (a : ℕ) → block (suc a) ≡ block a + 2 * (2 * a + 2)
block_more a = omega arith

block_le : (a b : ℕ) → a ≤ b → block a ≤ block b
block_le a zero h = let none : a ≡ 0 = omega arith in subst (λ k. block a ≤ block k) none (omega arith)
block_le a (suc b) h = by (λ l. block_le a b l) (cases_lt b a)
  where
    by : (a ≤ b → block a ≤ block b) → (b < a) ⊎ (a ≤ b) → block a ≤ block (suc b)
    by ih (inl l) = let same : a ≡ suc b = omega arith in subst (λ k. block a ≤ block k) same (omega arith)
    by ih (inr l) = omega (arith, ih l, block_more b)

-- a place within a block
within : (s w j : ℕ) → s < 2 → j < w → s * w + j < 2 * w
within zero w j p q = omega arith
within (suc zero) w j p q = omega arith
within (suc (suc s)) w j p q = absurd (omega arith)

-- places by block, row of the block and column
at : ℕ → ℕ → ℕ → ℕ
at a s j = block a + s * (2 * a + 2) + j

at_below : (a b s j : ℕ) → a < b → s < 2 → j < 2 * a + 2 → at a s j < block b
unfolding at
at_below a b s j l p q = omega (arith, within s (2 * a + 2) j p q, block_more a, block_le (suc a) b (omega arith))

record IsOne (a s j b t l : ℕ) : Type 0 where
  first : a ≡ b
  second : s ≡ t
  third : j ≡ l

at_one : (a s j b t l : ℕ) → s < 2 → j < 2 * a + 2 → t < 2 → l < 2 * b + 2 → at a s j ≡ at b t l → IsOne a s j b t l
unfolding at
at_one a s j b t l p q r m e = by (cases_lt a b) (cases_lt b a)
  where
    above : (a b s j t l : ℕ) → a < b → s < 2 → j < 2 * a + 2 → at a s j ≡ at b t l → ⊥
    above a b s j t l k p q e = absurd (omega (arith, at_below a b s j k p q, e))

    by : (a < b) ⊎ (b ≤ a) → (b < a) ⊎ (a ≤ b) → IsOne a s j b t l
    by (inl k) g = absurd (above a b s j t l k p q e)
    by (inr k) (inl g) = absurd (above b a t l s j g r m (sym e))
    by (inr k) (inr g) =
        let same : b ≡ a = omega arith in
        let wide : l < 2 * a + 2 = subst (λ c. l < 2 * c + 2) same m in
        let here : at a s j ≡ at a t l = subst (λ c. at a s j ≡ at c t l) same e in
        let whole : s * (2 * a + 2) + j ≡ t * (2 * a + 2) + l = omega (arith, here) in
        let both = same_from_place s j t l (2 * a + 2) q wide whole in
        record { first = sym same; second = both.0; third = both.1 }

-- ---- spots
row_at : (i j : ℕ) → row_place i j ≡ at (i / 2) (i % 2) j
unfolding at
row_at i j = refl

-- what of a bound and its coherent one is kept
record Kept (i j : ℕ) : Type 0 where
  row : ℕ
  column : ℕ
  is : spot i j ≡ at (row / 2) (row % 2) column
  low : column < 2 * (row / 2) + 2
  which : ((row ≡ i) × (column ≡ j)) ⊎ ((row ≡ bar j) × (column ≡ bar i) × (i / 2 < j / 2))

kept : (i j : ℕ) → Kept i j
kept i j = by (nat_lt (i / 2) (j / 2)) refl
  where
    by : (t : Bool) → nat_lt (i / 2) (j / 2) ≡ t → Kept i j
    by true e =
        let less : i / 2 < j / 2 = grind (arith, nat_tests) in
        record { row = bar j; column = bar i; is = rw e (row_at (bar j) (bar i)); low = omega arith; which = inr (refl, refl, less) }
    by false e =
        let no : j / 2 ≤ i / 2 = grind (arith, nat_tests) in
        record { row = i; column = j; is = rw e (row_at i j); low = omega arith; which = inl (refl, refl) }

pub inside : (n i j : ℕ) → i < 2 * n → j < 2 * n → spot i j < block n
inside n i j id jd = by (kept i j)
  where
    by : Kept i j → spot i j < block n
    by k = rw k.is (at_below (k.row / 2) n (k.row % 2) k.column (low k.which) (omega arith) k.low)
      where
        low : ((k.row ≡ i) × (k.column ≡ j)) ⊎ ((k.row ≡ bar j) × (k.column ≡ bar i) × (i / 2 < j / 2)) → k.row / 2 < n
        low (inl s) = omega (arith, s.0)
        low (inr s) = omega (arith, s.0, bar_in n j jd)

-- two bounds have one place only where they are one, or coherent
pub apart : (i j a b : ℕ) → spot i j ≡ spot a b → ((i ≡ a) × (j ≡ b)) ⊎ ((i ≡ bar b) × (j ≡ bar a) × (i ≢ j))
apart i j a b e = by (kept i j) (kept a b)
  where
    by : Kept i j → Kept a b → ((i ≡ a) × (j ≡ b)) ⊎ ((i ≡ bar b) × (j ≡ bar a) × (i ≢ j))
    by k l = of k.which l.which
      where
        one : IsOne (k.row / 2) (k.row % 2) k.column (l.row / 2) (l.row % 2) l.column
        one = at_one (k.row / 2) (k.row % 2) k.column (l.row / 2) (l.row % 2) l.column (omega arith) k.low (omega arith) l.low (sym k.is ∙ e ∙ l.is)

        rows : k.row ≡ l.row
        rows = let p = one.first in let q = one.second in omega (arith, p, q)

        columns : k.column ≡ l.column
        columns = one.third

        back : (c d : ℕ) → bar c ≡ d → c ≡ bar d
        back c d h = sym (bar_bar c) ∙ ap bar h

        of : ((k.row ≡ i) × (k.column ≡ j)) ⊎ ((k.row ≡ bar j) × (k.column ≡ bar i) × (i / 2 < j / 2)) → ((l.row ≡ a) × (l.column ≡ b)) ⊎ ((l.row ≡ bar b) × (l.column ≡ bar a) × (a / 2 < b / 2))
            → ((i ≡ a) × (j ≡ b)) ⊎ ((i ≡ bar b) × (j ≡ bar a) × (i ≢ j))
        of (inl s) (inl t) = inl (sym s.0 ∙ rows ∙ t.0, sym s.1 ∙ columns ∙ t.1)
        of (inl s) (inr t) =
            let p : i ≡ bar b = sym s.0 ∙ rows ∙ t.0 in
            let q : j ≡ bar a = sym s.1 ∙ columns ∙ t.1 in
            let less = t.2 in
            inr (p, q, λ h. absurd (omega (arith, p, q, h, less)))
        of (inr s) (inl t) = let less = s.2 in inr (back i b (sym s.1 ∙ columns ∙ t.1), back j a (sym s.0 ∙ rows ∙ t.0), λ h. absurd (omega (arith, h, less)))
        of (inr s) (inr t) = inl (back i (bar a) (sym s.1 ∙ columns ∙ t.1) ∙ bar_bar a, back j (bar b) (sym s.0 ∙ rows ∙ t.0) ∙ bar_bar b)

-- a bound and its coherent one have one place
pub shared : (i j : ℕ) → i ≢ j → spot i j ≡ spot (bar j) (bar i)
shared i j n = by (cases_lt (i / 2) (j / 2)) (cases_lt (j / 2) (i / 2))
  where
    here : (a b : ℕ) → a / 2 < b / 2 → spot a b ≡ row_place (bar b) (bar a)
    here a b l = let yes : nat_lt (a / 2) (b / 2) ≡ true = grind (arith, nat_tests) in rw yes refl

    other : (a b : ℕ) → b / 2 ≤ a / 2 → spot a b ≡ row_place a b
    other a b l = let no : nat_lt (a / 2) (b / 2) ≡ false = grind (arith, nat_tests) in rw no refl

    by : (i / 2 < j / 2) ⊎ (j / 2 ≤ i / 2) → (j / 2 < i / 2) ⊎ (i / 2 ≤ j / 2) → spot i j ≡ spot (bar j) (bar i)
    by (inl l) g = here i j l ∙ sym (other (bar j) (bar i) (omega arith))
    by (inr l) (inl g) = other i j l ∙ ap (λ k. row_place k j) (sym (bar_bar i)) ∙ ap (λ k. row_place (bar (bar i)) k) (sym (bar_bar j)) ∙ sym (here (bar j) (bar i) (omega arith))
    by (inr l) (inr g) =
        let first : bar j ≡ i = omega arith in
        let second : bar i ≡ j = omega arith in
        sym (ap (λ k. spot k (bar i)) first ∙ ap (λ k. spot i k) second)

-- ---- each place is one of a bound
pub record IsSpot (n k : ℕ) : Type 0 where
  pub row : ℕ
  pub column : ℕ
  pub row_in : row < 2 * n
  pub column_in : column < 2 * n
  pub is : spot row column ≡ k

split : (w r : ℕ) → r < 2 * w → (s : ℕ) × (j : ℕ) × (s < 2) × (j < w) × (r ≡ s * w + j)
split w r h = by (cases_lt r w)
  where
    by : (r < w) ⊎ (w ≤ r) → (s : ℕ) × (j : ℕ) × (s < 2) × (j < w) × (r ≡ s * w + j)
    by (inl l) = (0, r, omega arith, l, omega arith)
    by (inr l) = (1, r - w, omega arith, omega arith, omega arith)

pub covered : (n k : ℕ) → k < block n → IsSpot n k
covered zero k h = absurd (omega arith)
covered (suc n) k h = by (λ l. covered n k l) (cases_lt k (block n))
  where
    by : (k < block n → IsSpot n k) → (k < block n) ⊎ (block n ≤ k) → IsSpot (suc n) k
    by ih (inl l) = let s = ih l in record { row = s.row; column = s.column; row_in = omega (arith, s.row_in); column_in = omega (arith, s.column_in); is = s.is }
    by ih (inr l) = of (split (2 * n + 2) (k - block n) (omega (arith, block_more n)))
      where
        of : ((s : ℕ) × (j : ℕ) × (s < 2) × (j < 2 * n + 2) × ((k - block n) ≡ s * (2 * n + 2) + j)) → IsSpot (suc n) k
        of r =
            let i = 2 * n + r.0 in
            let small = r.2 in
            let low = r.3 in
            let half : i / 2 ≡ n = omega (arith, small) in
            let rest : i % 2 ≡ r.0 = omega (arith, small) in
            let no : nat_lt (i / 2) (r.1 / 2) ≡ false = is_false (i / 2) (r.1 / 2) (omega (arith, small, low)) in
            let whole : block n + r.0 * (2 * n + 2) + r.1 ≡ k = omega (arith, l, r.4) in
            record { row = i; column = r.1; row_in = omega (arith, small); column_in = omega (arith, low); is = rw no (rw half (rw rest whole)) }
          where
            is_false : (a b : ℕ) → b ≤ a → nat_lt a b ≡ false
            is_false a b l = grind (arith, nat_tests)

-- ---- reading and writing
half_in : (d : ℕ) (xs : List (Option ℤ)) (i j : ℕ) → i < d → j < d → half_at d xs i j ≡ get_or xs (spot i j) None
unfolding half_at
half_in d xs i j id jd =
    let a : nat_lt i d ≡ true = grind (arith, nat_tests) in
    let b : nat_lt j d ≡ true = grind (arith, nat_tests) in
    rw a (rw b refl)

pub unfolded_length : (d : ℕ) (xs : List (Option ℤ)) → length (unfolded d xs) ≡ d * d
unfolding unfolded
unfolded_length d xs = tabled_length d (half_at d xs)

pub kept_in : (d : ℕ) (xs : List (Option ℤ)) (i j : ℕ) → i < d → j < d → kept_at d xs i j ≡ get_or xs (spot i j) None
unfolding unfolded
kept_in d xs i j id jd = tabled_entry d (half_at d xs) i j id jd ∙ half_in d xs i j id jd

pub spot_in : (d i j : ℕ) (xs : List (Option ℤ)) → d % 2 ≡ 0 → length xs ≡ block (d / 2) → i < d → j < d → spot i j < length xs
spot_in d i j xs pairs size id jd =
    let two : d ≡ 2 * (d / 2) = pairs_of d pairs in
    subst (λ n. spot i j < n) (sym size) (inside (d / 2) i j (subst (λ n. i < n) two id) (subst (λ n. j < n) two jd))

pub spot_at : (d i j k : ℕ) (xs : List (Option ℤ)) → d % 2 ≡ 0 → length xs ≡ block (d / 2) → i < d → j < d → k ≡ spot i j → k < length xs
spot_at d i j k xs pairs size id jd at = subst (λ n. n < length xs) (sym at) (spot_in d i j xs pairs size id jd)

-- where no later variable's bounds are read, the place is that of the row
pub row_spot : (i j : ℕ) → j / 2 ≤ i / 2 → spot i j ≡ row_place i j
row_spot i j h = let no : nat_lt (i / 2) (j / 2) ≡ false = grind (arith, nat_tests) in rw no refl

-- what is read there
pub kept_read : (d : ℕ) (xs : List (Option ℤ)) (i j k : ℕ) (x : Option ℤ) → d % 2 ≡ 0 → length xs ≡ block (d / 2) → i < d → j < d → k ≡ spot i j → x ≡ get_or xs k x → x ≡ kept_at d xs i j
kept_read d xs i j k x pairs size id jd at e =
    let here : x ≡ get_or xs (spot i j) x = subst (λ n. x ≡ get_or xs n x) at e in
    get_or_read xs (spot i j) x (spot_in d i j xs pairs size id jd) here None ∙ sym (kept_in d xs i j id jd)

pub kept_turned : (d : ℕ) (xs : List (Option ℤ)) (i j : ℕ) → d % 2 ≡ 0 → i < d → j < d → i ≢ j → kept_at d xs i j ≡ kept_at d xs (bar j) (bar i)
kept_turned d xs i j pairs id jd n = kept_in d xs i j id jd ∙ ap (λ k. get_or xs k None) (shared i j n) ∙ sym (kept_in d xs (bar j) (bar i) (omega (arith, pairs)) (omega (arith, pairs)))

pub kept_set_same : (d : ℕ) (xs : List (Option ℤ)) (i j : ℕ) (x : Option ℤ) → d % 2 ≡ 0 → length xs ≡ block (d / 2) → i < d → j < d → kept_at d (set xs (spot i j) x) i j ≡ x
kept_set_same d xs i j x pairs size id jd = kept_in d (set xs (spot i j) x) i j id jd ∙ get_or-set_same xs (spot i j) x None (spot_in d i j xs pairs size id jd)

pub kept_set_turned : (d : ℕ) (xs : List (Option ℤ)) (i j : ℕ) (x : Option ℤ) → d % 2 ≡ 0 → length xs ≡ block (d / 2) → i < d → j < d → i ≢ j → kept_at d (set xs (spot i j) x) (bar j) (bar i) ≡ x
kept_set_turned d xs i j x pairs size id jd n = sym (kept_turned d (set xs (spot i j) x) i j pairs id jd n) ∙ kept_set_same d xs i j x pairs size id jd

-- a write elsewhere changes nothing
pub kept_set_far : (d : ℕ) (xs : List (Option ℤ)) (k a b : ℕ) (x : Option ℤ) → (a < d → b < d → spot a b ≢ k) → kept_at d (set xs k x) a b ≡ kept_at d xs a b
kept_set_far d xs k a b x ne = by (cases_lt a d) (cases_lt b d)
  where
    by : (a < d) ⊎ (d ≤ a) → (b < d) ⊎ (d ≤ b) → kept_at d (set xs k x) a b ≡ kept_at d xs a b
    by (inr g) q = cell_row_out d (unfolded d (set xs k x)) a b g ∙ sym (cell_row_out d (unfolded d xs) a b g)
    by (inl l) (inr g) = cell_column_out d (unfolded d (set xs k x)) a b g ∙ sym (cell_column_out d (unfolded d xs) a b g)
    by (inl l) (inl m) = kept_in d (set xs k x) a b l m ∙ get_or-set_other xs k (spot a b) x None (ne l m) ∙ sym (kept_in d xs a b l m)

pub kept_set_other : (d : ℕ) (xs : List (Option ℤ)) (i j a b : ℕ) (x : Option ℤ) → ((a ≡ i) → (b ≡ j) → ⊥) → ((a ≡ bar j) → (b ≡ bar i) → a ≢ b → ⊥) → kept_at d (set xs (spot i j) x) a b ≡ kept_at d xs a b
kept_set_other d xs i j a b x here there = kept_set_far d xs (spot i j) a b x (λ ad bd e. of (apart a b i j e))
  where
    of : ((a ≡ i) × (b ≡ j)) ⊎ ((a ≡ bar j) × (b ≡ bar i) × (a ≢ b)) → ⊥
    of (inl s) = here s.0 s.1
    of (inr s) = there s.0 s.1 s.2

kept_written : (d : ℕ) (xs : List (Option ℤ)) (i j : ℕ) (x : Option ℤ) → d % 2 ≡ 0 → length xs ≡ block (d / 2) → i < d → j < d → i ≢ j → (a c : ℕ) → kept_at d (set xs (spot i j) x) a c ≡ written (kept_at d xs) i j x a c
kept_written d xs i j x pairs size id jd n a c = by (is_place a c i j) (is_place a c (bar j) (bar i))
  where
    by : IsPlace a c i j ⊎ (IsPlace a c i j → ⊥) → IsPlace a c (bar j) (bar i) ⊎ (IsPlace a c (bar j) (bar i) → ⊥) → kept_at d (set xs (spot i j) x) a c ≡ written (kept_at d xs) i j x a c
    by (inl s) t = rw s.0 (rw s.1 (kept_set_same d xs i j x pairs size id jd)) ∙ sym (written_first (kept_at d xs) i j x a c s)
    by (inr k) (inl t) = rw t.0 (rw t.1 (kept_set_turned d xs i j x pairs size id jd n)) ∙ sym (written_second (kept_at d xs) i j x a c t)
    by (inr k) (inr m) = kept_set_other d xs i j a c x (λ u v. k (u, v)) (λ u v w. m (u, v)) ∙ sym (written_none (kept_at d xs) i j x a c k m)

-- one write is that of a bound and its coherent one
pub write_value : (d : ℕ) (xs : List (Option ℤ)) (i j k : ℕ) (x : Option ℤ) → d % 2 ≡ 0 → length xs ≡ block (d / 2) → i < d → j < d → i ≢ j → k ≡ spot i j → (a c : ℕ) → kept_at d (set xs k x) a c ≡ written (kept_at d xs) i j x a c
write_value d xs i j k x pairs size id jd n at a c = subst (λ q. kept_at d (set xs q x) a c ≡ written (kept_at d xs) i j x a c) (sym at) (kept_written d xs i j x pairs size id jd n a c)

pub write_half : (d : ℕ) (xs : List (Option ℤ)) (i j k : ℕ) (x : Option ℤ) → d % 2 ≡ 0 → IsHalf d xs → i < d → j < d → i ≢ j → k ≡ spot i j → IsNear (2 ^ 66) x → IsHalf d (set xs k x)
write_half d xs i j k x pairs h id jd n at near = record {
  size = length-set xs k x ∙ h.size;
  whole = write_whole d (d / 2) (unfolded d xs) (unfolded d (set xs k x)) i j x (pairs_of d pairs) h.whole (unfolded_length d (set xs k x)) n near (write_value d xs i j k x pairs h.size id jd n at);
}

-- ---- what makes kept bounds those of a matrix
pub half_from : (d : ℕ) (xs : List (Option ℤ)) → d % 2 ≡ 0 → length xs ≡ block (d / 2) → ((i : ℕ) → i < d → kept_at d xs i i ≡ Some (pos 0)) → ((i j : ℕ) → i < d → j < d → IsNear (2 ^ 66) (kept_at d xs i j)) → IsHalf d xs
half_from d xs pairs size diagonal near = record { size = size; whole = matrix_from d (d / 2) (unfolded d xs) (pairs_of d pairs) (unfolded_length d xs) diagonal turned near }
  where
    turned : (i j : ℕ) → i < d → j < d → kept_at d xs i j ≡ kept_at d xs (bar j) (bar i)
    turned i j id jd = by (cases_eq i j)
      where
        by : (i ≡ j) ⊎ (i ≢ j) → kept_at d xs i j ≡ kept_at d xs (bar j) (bar i)
        by (inl s) = rw s (diagonal j jd ∙ sym (diagonal (bar j) (omega (arith, pairs))))
        by (inr n) = kept_turned d xs i j pairs id jd n

-- two lists of kept bounds of the same octagon are one
pub unfolded_one : (d : ℕ) (xs ys : List (Option ℤ)) → d % 2 ≡ 0 → length xs ≡ block (d / 2) → length ys ≡ block (d / 2) → unfolded d xs ≡ unfolded d ys → xs ≡ ys
unfolded_one d xs ys pairs sx sy e = ext_get_or None xs ys (sx ∙ sym sy) (λ k p. at k (covered (d / 2) k (subst (λ n. k < n) sx p)))
  where
    at : (k : ℕ) → IsSpot (d / 2) k → get_or xs k None ≡ get_or ys k None
    at k s =
        let two : d ≡ 2 * (d / 2) = pairs_of d pairs in
        let id : s.row < d = subst (λ n. s.row < n) (sym two) s.row_in in
        let jd : s.column < d = subst (λ n. s.column < n) (sym two) s.column_in in
        subst (λ n. get_or xs n None ≡ get_or ys n None) s.is
        (sym (kept_in d xs s.row s.column id jd) ∙ ap (λ zs. cell_at d zs s.row s.column) e ∙ kept_in d ys s.row s.column id jd)

pub kept_one : (m n : ℕ) (xs ys : List (Option ℤ)) → m ≡ n → IsKept m xs → IsKept n ys → octagon_in m xs ≡ octagon_in n ys → xs ≡ ys
kept_one m n xs ys s h k e =
    let even : (2 * m) % 2 ≡ 0 = omega arith in
    let size : length ys ≡ block ((2 * m) / 2) = subst (λ q. length ys ≡ block ((2 * q) / 2)) (sym s) k.half.size in
    let same : unfolded (2 * m) xs ≡ unfolded (2 * m) ys = subst (λ q. unfolded (2 * m) xs ≡ unfolded (2 * q) ys) (sym s) (ap (λ (o : Octagon). o.cells) e) in
    unfolded_one (2 * m) xs ys even h.half.size size same

-- two lists of kept bounds, one place after another
pub kept_each : (d : ℕ) (xs ys zs : List (Option ℤ)) (f : Option ℤ → Option ℤ → Option ℤ) → d % 2 ≡ 0 → length xs ≡ block (d / 2) → ((k : ℕ) → k < length xs → get_or zs k None ≡ f (get_or xs k None) (get_or ys k None)) → (i j : ℕ) → i < d → j < d
    → kept_at d zs i j ≡ f (kept_at d xs i j) (kept_at d ys i j)
kept_each d xs ys zs f pairs size is i j id jd =
    kept_in d zs i j id jd ∙ is (spot i j) (spot_in d i j xs pairs size id jd) ∙ ap (λ o. f o (get_or ys (spot i j) None)) (sym (kept_in d xs i j id jd)) ∙ ap (λ o. f (kept_at d xs i j) o) (sym (kept_in d ys i j id jd))
