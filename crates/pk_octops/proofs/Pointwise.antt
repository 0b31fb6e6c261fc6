-- Matrices made of two, bound by bound.
use Rattle.std.specs.Prelude.{◌≡◌, ◌≢◌, ℕ, ◌<◌, ◌≤◌, ◌+◌, ◌*◌, ◌/◌, ◌%◌, ◌^◌, ℤ, pos, int_lt, Option, Some, None, Bool, true, false, if◌then◌else◌, List, length, ◌⊎◌}
use Rattle.std.proofs.Common.{◌∙◌, ap, refl, sym, subst, arith, inl, inr, get_or, set, length-set}
use Rattle.std.proofs.lemmas.Int.{ints}
use Rattle.std.proofs.lemmas.Bool.{cases_eq, cases_lt}
use Rattle.std.proofs.lemmas.List.{get_or-set_other, get_or-set_same, get_or_read}
use Rattle.pk_octmat.proofs.Bars.{pairs_of}
use Rattle.std.proofs.lemmas.Nat.{div_below, mod_below, div-add-mod'}
use Rattle.pk_octmat.proofs.Cells.{cell_in, place_in, cell_row_out, cell_column_out}
use Rattle.pk_octmat.proofs.Half.{IsSpot, covered, half_from, kept_each, kept_in, spot_in}
use Rattle.pk_octmat.specs.Bounds.{AtMost, IsNear, greater, is_at_most}
use Rattle.pk_octmat.specs.Octagon.{cell_at}
use Rattle.pk_octmat.specs.Half.{block, kept_at, spot, unfolded, IsHalf}
use Rattle.pk_octops.specs.Tables.{widened, narrowed}

-- a table that gives 0 at two zeros and stays near 0 makes a matrix
pub pointwise : (f : Option ℤ → Option ℤ → Option ℤ) → f (Some (pos 0)) (Some (pos 0)) ≡ Some (pos 0) → ((a b : Option ℤ) → IsNear (2 ^ 66) a → IsNear (2 ^ 66) b → IsNear (2 ^ 66) (f a b))
    → (d : ℕ) (xs ys news : List (Option ℤ)) → d % 2 ≡ 0 → IsHalf d xs → IsHalf d ys → length news ≡ block (d / 2)
    → ((i j : ℕ) → i < d → j < d → kept_at d news i j ≡ f (kept_at d xs i j) (kept_at d ys i j)) → IsHalf d news
pointwise f same near d xs ys news pairs m o size is =
    half_from d news pairs size
    (λ i id. is i i id id ∙ ap (λ s. f s (kept_at d ys i i)) (m.whole.coherent.zero i id) ∙ ap (λ s. f (Some (pos 0)) s) (o.whole.coherent.zero i id) ∙ same)
    (λ i j id jd. rw (is i j id jd) (near _ _ (m.whole.near i j) (o.whole.near i j)))

pub greater_near : (a b : Option ℤ) → IsNear (2 ^ 66) a → IsNear (2 ^ 66) b → IsNear (2 ^ 66) (greater a b)
greater_near None b p q = tt
greater_near (Some a) None p q = tt
greater_near (Some a) (Some b) p q = by (int_lt a b)
  where
    by : (t : Bool) → IsNear (2 ^ 66) (if t then Some b else Some a)
    by true = q
    by false = p

pub greater_matrix : (d : ℕ) (xs ys news : List (Option ℤ)) → d % 2 ≡ 0 → IsHalf d xs → IsHalf d ys → length news ≡ block (d / 2)
    → ((i j : ℕ) → i < d → j < d → kept_at d news i j ≡ greater (kept_at d xs i j) (kept_at d ys i j)) → IsHalf d news
greater_matrix = pointwise greater refl greater_near

pub widened_near : (a b : Option ℤ) → IsNear (2 ^ 66) a → IsNear (2 ^ 66) b → IsNear (2 ^ 66) (widened a b)
widened_near a b p q = by (is_at_most b a)
  where
    by : (t : Bool) → IsNear (2 ^ 66) (if t then a else None)
    by true = p
    by false = tt

pub narrowed_near : (a b : Option ℤ) → IsNear (2 ^ 66) a → IsNear (2 ^ 66) b → IsNear (2 ^ 66) (narrowed a b)
narrowed_near None b p q = q
narrowed_near (Some a) b p q = p

pub widened_matrix : (d : ℕ) (xs ys news : List (Option ℤ)) → d % 2 ≡ 0 → IsHalf d xs → IsHalf d ys → length news ≡ block (d / 2)
    → ((i j : ℕ) → i < d → j < d → kept_at d news i j ≡ widened (kept_at d xs i j) (kept_at d ys i j)) → IsHalf d news
widened_matrix = pointwise widened refl widened_near

pub narrowed_matrix : (d : ℕ) (xs ys news : List (Option ℤ)) → d % 2 ≡ 0 → IsHalf d xs → IsHalf d ys → length news ≡ block (d / 2)
    → ((i j : ℕ) → i < d → j < d → kept_at d news i j ≡ narrowed (kept_at d xs i j) (kept_at d ys i j)) → IsHalf d news
narrowed_matrix = pointwise narrowed refl narrowed_near

-- ---- soundness
pub at_most_from : (a b : Option ℤ) → is_at_most a b ≡ true → AtMost a b
at_most_from None None h = tt
at_most_from (Some a) None h = tt
at_most_from None (Some b) h = absurd (cc)
at_most_from (Some a) (Some b) h = omega (arith, ints)

pub not_at_most : (a b : Option ℤ) → is_at_most a b ≡ false → AtMost a b → ⊥
not_at_most None None h p = absurd (cc)
not_at_most (Some a) None h p = absurd (cc)
not_at_most None (Some b) h p = p
not_at_most (Some a) (Some b) h p = omega (arith, ints)

-- ---- a list of cells bound by bound
pub cells_below : (d : ℕ) (xs ys : List (Option ℤ)) (n : ℕ) → length xs ≡ d * d → length xs ≤ n → ((k : ℕ) → k < n → AtMost (get_or xs k None) (get_or ys k None)) → (i j : ℕ) → AtMost (cell_at d xs i j) (cell_at d ys i j)
cells_below d xs ys n size long h i j = by (cases_lt i d) (cases_lt j d)
  where
    by : (i < d) ⊎ (d ≤ i) → (j < d) ⊎ (d ≤ j) → AtMost (cell_at d xs i j) (cell_at d ys i j)
    by (inl id) (inl jd) = rw (cell_in d xs i j id jd) (rw (cell_in d ys i j id jd) (h (i * d + j) (omega (arith, place_in d xs i j size id jd))))
    by (inl id) (inr g) = rw (cell_column_out d xs i j g) (rw (cell_column_out d ys i j g) tt)
    by (inr g) q = rw (cell_row_out d xs i j g) (rw (cell_row_out d ys i j g) tt)

pub cells_at : (d : ℕ) (xs ys : List (Option ℤ)) (k : ℕ) → length xs ≡ d * d → k < length xs → ((i j : ℕ) → AtMost (cell_at d xs i j) (cell_at d ys i j)) → AtMost (get_or xs k None) (get_or ys k None)
cells_at d xs ys k size kd h = by (cases_lt 0 d)
  where
    by : (0 < d) ⊎ (d ≤ 0) → AtMost (get_or xs k None) (get_or ys k None)
    by (inr z) = let none : d ≡ 0 = omega arith in let room : d * d ≡ 0 = rw none refl in absurd (omega arith)
    by (inl p) =
        let row : k / d < d = div_below k d d p (omega (arith, size, kd)) in
        let column : k % d < d = mod_below k d p in
        let same : k / d * d + k % d ≡ k = div-add-mod' k d in
        let there : AtMost (get_or xs (k / d * d + k % d) None) (get_or ys (k / d * d + k % d) None) = rw (← cell_in d xs (k / d) (k % d) row column) (rw (← cell_in d ys (k / d) (k % d) row column) (h (k / d) (k % d))) in
        subst (λ q. AtMost (get_or xs q None) (get_or ys q None)) same there

-- ---- a list of kept bounds, one by one
-- the first k are f's of two lists
pub record InTable (k : ℕ) (f : Option ℤ → Option ℤ → Option ℤ) (xs ys cells : List (Option ℤ)) : Type 0 where
  pub size : length cells ≡ length xs
  pub done : (a : ℕ) → a < k → get_or cells a None ≡ f (get_or xs a None) (get_or ys a None)
  pub rest : (a : ℕ) → k ≤ a → get_or cells a None ≡ get_or xs a None

pub table_none : (f : Option ℤ → Option ℤ → Option ℤ) (xs ys : List (Option ℤ)) → InTable 0 f xs ys xs
table_none f xs ys = record { size = refl; done = λ a h. absurd (omega arith); rest = λ a g. refl }

pub table_more : (k : ℕ) (f : Option ℤ → Option ℤ → Option ℤ) (xs ys cells : List (Option ℤ)) (x here there : Option ℤ) → InTable k f xs ys cells → k < length xs → k < length ys → here ≡ get_or cells k here → there ≡ get_or ys k there → x ≡ f here there
    → InTable (k + 1) f xs ys (set cells k x)
table_more k f xs ys cells x here there t few few_ys at other is = record {
  size = length-set cells k x ∙ t.size;
  done = λ a h. done a (cases_eq a k) h;
  rest = λ a g. get_or-set_other cells k a x None (λ s. absurd (omega (arith, g, s))) ∙ t.rest a (omega (arith, g));
}
  where
    within : k < length cells
    within = subst (λ n. k < n) (sym t.size) few

    was : here ≡ get_or xs k None
    was = get_or_read cells k here within at None ∙ t.rest k (omega arith)

    done : (a : ℕ) → (a ≡ k) ⊎ (a ≢ k) → a < k + 1 → get_or (set cells k x) a None ≡ f (get_or xs a None) (get_or ys a None)
    done a (inl s) h = rw s (get_or-set_same cells k x None within ∙ is ∙ ap (λ o. f o there) was ∙ ap (λ o. f (get_or xs k None) o) (get_or_read ys k there few_ys other None))
    done a (inr n) h = get_or-set_other cells k a x None n ∙ t.done a (omega (arith, n, h))

pub table_all : (d k : ℕ) (f : Option ℤ → Option ℤ → Option ℤ) (xs ys cells : List (Option ℤ)) → d % 2 ≡ 0 → length xs ≡ block (d / 2) → InTable k f xs ys cells → length xs ≤ k → (i j : ℕ) → i < d → j < d → kept_at d cells i j ≡ f (kept_at d xs i j) (kept_at d ys i j)
table_all d k f xs ys cells pairs size t long = kept_each d xs ys cells f pairs size (λ a h. t.done a (omega (arith, h, long)))

pub kept_below : (d : ℕ) (xs ys : List (Option ℤ)) (n : ℕ) → d % 2 ≡ 0 → length xs ≡ block (d / 2) → length xs ≤ n → ((k : ℕ) → k < n → AtMost (get_or xs k None) (get_or ys k None)) → (i j : ℕ) → AtMost (kept_at d xs i j) (kept_at d ys i j)
kept_below d xs ys n pairs size long h i j = by (cases_lt i d) (cases_lt j d)
  where
    by : (i < d) ⊎ (d ≤ i) → (j < d) ⊎ (d ≤ j) → AtMost (kept_at d xs i j) (kept_at d ys i j)
    by (inl id) (inl jd) = let within = spot_in d i j xs pairs size id jd in rw (kept_in d xs i j id jd) (rw (kept_in d ys i j id jd) (h (spot i j) (omega (arith, within, long))))
    by (inl id) (inr g) = rw (cell_column_out d (unfolded d xs) i j g) (rw (cell_column_out d (unfolded d ys) i j g) tt)
    by (inr g) q = rw (cell_row_out d (unfolded d xs) i j g) (rw (cell_row_out d (unfolded d ys) i j g) tt)

pub kept_from : (d : ℕ) (xs ys : List (Option ℤ)) (k : ℕ) → d % 2 ≡ 0 → length xs ≡ block (d / 2) → k < length xs → ((i j : ℕ) → AtMost (kept_at d xs i j) (kept_at d ys i j)) → AtMost (get_or xs k None) (get_or ys k None)
kept_from d xs ys k pairs size kd h = by (covered (d / 2) k (subst (λ n. k < n) size kd))
  where
    by : IsSpot (d / 2) k → AtMost (get_or xs k None) (get_or ys k None)
    by s =
        let two : d ≡ 2 * (d / 2) = pairs_of d pairs in
        let row : s.row < d = subst (λ n. s.row < n) (sym two) s.row_in in
        let column : s.column < d = subst (λ n. s.column < n) (sym two) s.column_in in
        let there : AtMost (get_or xs (spot s.row s.column) None) (get_or ys (spot s.row s.column) None) = rw (← kept_in d xs s.row s.column row column) (rw (← kept_in d ys s.row s.column row column) (h s.row s.column)) in
        subst (λ q. AtMost (get_or xs q None) (get_or ys q None)) s.is there

pub other_in : (xs ys : List (Option ℤ)) (d k : ℕ) → length xs ≡ block (d / 2) → length ys ≡ block (d / 2) → k < length xs → k < length ys
other_in xs ys d k p q h = subst (λ n. k < n) (p ∙ sym q) h
