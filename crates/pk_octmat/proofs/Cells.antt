-- The cells of a matrix by row and column, and what a write changes.
use Rattle.std.specs.Prelude.{◌≡◌, ◌≢◌, ℕ, ◌<◌, ◌≤◌, ◌+◌, ◌*◌, ◌&&◌, nat_lt, if◌then◌else◌, ℤ, Option, None, Bool, true, false, List, length}
use Rattle.std.proofs.Common.{◌∙◌, refl, sym, arith, get_or, set}
use Rattle.std.proofs.lemmas.Bool.Decides.{nat_tests}
use Rattle.std.proofs.lemmas.List.{get_or-set_same, get_or-set_other, get_or_read}
use Rattle.std.proofs.lemmas.Nat.{same_from_place, mul-add-lt}
use Rattle.pk_octmat.specs.Octagon.{cell_at}

pub cell_in : (d : ℕ) (xs : List (Option ℤ)) (i j : ℕ) → i < d → j < d → cell_at d xs i j ≡ get_or xs (i * d + j) None
unfolding cell_at
cell_in d xs i j id jd =
    let a : nat_lt i d ≡ true = grind (arith, nat_tests) in
    let b : nat_lt j d ≡ true = grind (arith, nat_tests) in
    rw a (rw b refl)

pub cell_row_out : (d : ℕ) (xs : List (Option ℤ)) (i j : ℕ) → d ≤ i → cell_at d xs i j ≡ None
unfolding cell_at
cell_row_out d xs i j id = let a : nat_lt i d ≡ false = grind (arith, nat_tests) in rw a refl

pub cell_column_out : (d : ℕ) (xs : List (Option ℤ)) (i j : ℕ) → d ≤ j → cell_at d xs i j ≡ None
unfolding cell_at
cell_column_out d xs i j jd = let b : nat_lt j d ≡ false = grind (arith, nat_tests) in by (nat_lt i d) b
  where
    by : (a : Bool) → nat_lt j d ≡ false → (if a && nat_lt j d then get_or xs (i * d + j) None else None) ≡ None
    by true b = rw b refl
    by false b = refl

-- the place of a cell is one of the list's
pub place_in : (d : ℕ) (xs : List (Option ℤ)) (i j : ℕ) → length xs ≡ d * d → i < d → j < d → i * d + j < length xs
place_in d xs i j size id jd = omega (arith, mul-add-lt i d j d id jd)

-- what is read there
pub cell_read : (d : ℕ) (xs : List (Option ℤ)) (i j : ℕ) (x : Option ℤ) → length xs ≡ d * d → i < d → j < d → x ≡ get_or xs (i * d + j) x → x ≡ cell_at d xs i j
cell_read d xs i j x size id jd e = get_or_read xs (i * d + j) x (place_in d xs i j size id jd) e None ∙ sym (cell_in d xs i j id jd)

pub cell_set_same : (d : ℕ) (xs : List (Option ℤ)) (i j : ℕ) (x : Option ℤ) → length xs ≡ d * d → i < d → j < d → cell_at d (set xs (i * d + j) x) i j ≡ x
cell_set_same d xs i j x size id jd = cell_in d (set xs (i * d + j) x) i j id jd ∙ get_or-set_same xs (i * d + j) x None (place_in d xs i j size id jd)

pub cell_set_other : (d : ℕ) (xs : List (Option ℤ)) (i j a b : ℕ) (x : Option ℤ) → j < d → ((a ≡ i) → (b ≡ j) → ⊥) → cell_at d (set xs (i * d + j) x) a b ≡ cell_at d xs a b
cell_set_other d xs i j a b x jd ne = by (nat_lt a d) refl (nat_lt b d) refl
  where
    by : (p : Bool) → nat_lt a d ≡ p → (q : Bool) → nat_lt b d ≡ q → cell_at d (set xs (i * d + j) x) a b ≡ cell_at d xs a b
    by false p q e = let out : d ≤ a = grind (arith, nat_tests) in cell_row_out d (set xs (i * d + j) x) a b out ∙ sym (cell_row_out d xs a b out)
    by true p false e = let out : d ≤ b = grind (arith, nat_tests) in cell_column_out d (set xs (i * d + j) x) a b out ∙ sym (cell_column_out d xs a b out)
    by true p true e =
        let ad : a < d = grind (arith, nat_tests) in
        let bd : b < d = grind (arith, nat_tests) in
        let apart : (a * d + b) ≢ (i * d + j) = λ h. let s = same_from_place a b i j d bd jd h in ne s.0 s.1 in
        cell_in d (set xs (i * d + j) x) a b ad bd ∙ get_or-set_other xs (i * d + j) (a * d + b) x None apart ∙ sym (cell_in d xs a b ad bd)
