-- Numbers that are there, and one more.
use Rattle.std.specs.Prelude.{◌≡◌, ◌≢◌, ℕ, ◌/◌, ◌%◌, ◌==◌, ℤ, neg_ℤ, Option, Some, None, Bool, true, false, if◌then◌else◌}
use Rattle.std.proofs.Common.{ap, refl, arith}
use Rattle.std.proofs.lemmas.Bool.Decides.{nat_tests}
use Rattle.std.proofs.lemmas.Int.{ints}
use Rattle.pk_octmat.specs.Octagon.{bar}
use Rattle.pk_octpoints.specs.Parts.{opposite, part_side, signed, with_part}

opposite_back : (b : Option ℤ) → b ≡ opposite (opposite b)
opposite_back None = refl
opposite_back (Some z) = ap (λ (v : ℤ). Some v) (omega (arith, ints))

pub part_side_bar : (x : ℕ → Option ℤ) (i : ℕ) → part_side x (bar i) ≡ opposite (part_side x i)
part_side_bar x i = by ((i % 2) == 0) refl
  where
    by : (t : Bool) → ((i % 2) == 0) ≡ t → part_side x (bar i) ≡ opposite (part_side x i)
    by true e =
        let even : i % 2 ≡ 0 = grind (arith, nat_tests) in
        let rest : bar i % 2 ≡ 1 = omega arith in
        let odd : (bar i % 2 == 0) ≡ false = rw rest refl in
        let half : bar i / 2 ≡ i / 2 = omega arith in
        rw odd (rw half (rw e refl))
    by false e =
        let some : i % 2 ≢ 0 = grind (arith, nat_tests) in
        let rest : bar i % 2 ≡ 0 = omega arith in
        let even : (bar i % 2 == 0) ≡ true = rw rest refl in
        let half : bar i / 2 ≡ i / 2 = omega arith in
        rw even (rw half (rw e (opposite_back (x (i / 2)))))

-- the number that is written is V(p)
pub part_here : (x : ℕ → Option ℤ) (p : ℕ) (v : ℤ) → part_side (with_part x (p / 2) (signed p v)) p ≡ Some v
part_here x p v = let same : (p / 2 == p / 2) ≡ true = grind (arith, nat_tests) in rw same (by ((p % 2) == 0))
  where
    by : (t : Bool) → (if t then Some (if t then v else neg_ℤ v) else opposite (Some (if t then v else neg_ℤ v))) ≡ Some v
    by true = refl
    by false = ap (λ (z : ℤ). Some z) (omega (arith, ints))

pub part_other : (x : ℕ → Option ℤ) (k i : ℕ) (v : ℤ) → i / 2 ≢ k → part_side (with_part x k v) i ≡ part_side x i
part_other x k i v n = let no : (i / 2 == k) ≡ false = grind (arith, nat_tests) in rw no refl

-- V(i) is of one variable alone
pub part_same : (x y : ℕ → Option ℤ) (i : ℕ) → y (i / 2) ≡ x (i / 2) → part_side y i ≡ part_side x i
part_same x y i h = by ((i % 2) == 0)
  where
    by : (t : Bool) → (if t then y (i / 2) else opposite (y (i / 2))) ≡ (if t then x (i / 2) else opposite (x (i / 2)))
    by true = h
    by false = ap opposite h

pub part_none : (x : ℕ → Option ℤ) (i : ℕ) → x (i / 2) ≡ None → part_side x i ≡ None
part_none x i h = by ((i % 2) == 0)
  where
    by : (t : Bool) → (if t then x (i / 2) else opposite (x (i / 2))) ≡ None
    by true = h
    by false = ap opposite h
