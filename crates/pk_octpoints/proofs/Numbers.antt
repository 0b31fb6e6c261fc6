-- The numbers of a list in which all are there are a point.
use Rattle.std.specs.Prelude.{Result, Ok, Err, IfOk, ◌⊎◌, ◌≡◌, ◌≤◌, ◌↔◌, ℕ, ◌<◌, ◌*◌, ◌/◌, ◌%◌, ◌^◌, ◌==◌, if◌then◌else◌, ℤ, neg_ℤ, ◌+ℤ◌, ◌-ℤ◌, ◌≤ℤ◌, int_le, Option, Some, None, Bool, true, false, List, length, map}
use Rattle.std.proofs.Common.{◌∙◌, ap, sym, subst, arith}
use Rattle.std.proofs.lemmas.List.{length-map}
use Rattle.std.proofs.lemmas.Int.{ints}
use Rattle.std.proofs.lemmas.Bool.{cases_lt}
use Rattle.std.proofs.Common.{inl, inr, refl}
use Rattle.std.proofs.Math.ListN.{get_or-map}
use Rattle.pk_octmat.specs.Bounds.{AtMost, IsNear, is_at_most}
use Rattle.pk_octmat.specs.Octagon.{Octagon, Meets, entry, side}
use Rattle.pk_octpoints.specs.Parts.{AreApart, MeetsThere, part_side}
use Rattle.pk_octpoints.specs.Points.{AreNear, Attains, IsPoint, IsThere, Keeps, number_at, number_or_zero, numbers_of}
use Rattle.pk_octpoints.proofs.Attained.{numbers, outside, side_kept, side_there, whole_meets}
use Rattle.pk_octpoints.proofs.Placed.{some_one}

numbers_same : (qs : List (Option ℤ)) (xs : List ℤ) → xs ≡ map number_or_zero qs → (k : ℕ) → numbers_of xs k ≡ numbers (number_at qs) k
numbers_same qs xs e k = ap (λ l. numbers_of l k) e ∙ get_or-map number_or_zero qs k None

side_same : (x y : ℕ → ℤ) → ((k : ℕ) → y k ≡ x k) → (i : ℕ) → side y i ≡ side x i
side_same x y h i = by ((i % 2) == 0)
  where
    by : (t : Bool) → (if t then y (i / 2) else neg_ℤ (y (i / 2))) ≡ (if t then x (i / 2) else neg_ℤ (x (i / 2)))
    by true = h (i / 2)
    by false = ap neg_ℤ (h (i / 2))

meets_same : (e : ℕ → ℕ → Option ℤ) (x y : ℕ → ℤ) → ((k : ℕ) → y k ≡ x k) → Meets e x → Meets e y
meets_same e x y h m = record { each = λ i j. subst (λ z. AtMost (Some (z -ℤ side y i)) (e i j)) (sym (side_same x y h j)) (subst (λ z. AtMost (Some (side x j -ℤ z)) (e i j)) (sym (side_same x y h i)) (m.each i j)) }

between : (a b c : ℤ) → (a +ℤ c) ≤ℤ b → c ≤ℤ (b -ℤ a)
between a b c l = omega (arith, ints, l)

number_near : (b : Option ℤ) → IsNear (2 ^ 99) b → IsNear (2 ^ 100) (Some (number_or_zero b))
number_near None h = (omega (arith, ints), omega (arith, ints))
number_near (Some z) h = (omega (arith, ints, h.0), omega (arith, ints, h.1))

pub reached : (m : Octagon) (ps qs : List (Option ℤ)) (xs : List ℤ) (i j : ℕ) (c : ℤ) → i < 2 * m.vars → j < 2 * m.vars → AreApart i j c (number_at ps) → Keeps ps qs → length qs ≡ m.vars → AreNear (2 ^ 99) qs → MeetsThere (2 * m.vars) (entry m) (number_at qs) → ((k : ℕ) → k < m.vars → IsThere qs k)
    → xs ≡ map number_or_zero qs → IsPoint m i j c xs
reached m ps qs xs i j c id jd a kept size near meets there e = record {
  all = ap length e ∙ length-map qs number_or_zero ∙ size;
  near = λ k. rw (same k) (number_near (number_at qs k) (near k));
  meets = meets_same (entry m) (numbers (number_at qs)) (numbers_of xs) same (whole_meets m.vars (entry m) (number_at qs) meets there (outside m).0 (outside m).1);
  far = rw (from) (rw (to) (between a.from a.to c a.far));
}
  where
    same : (k : ℕ) → numbers_of xs k ≡ numbers (number_at qs) k
    same = numbers_same qs xs e

    side_is : (q : ℕ) (v : ℤ) → q < 2 * m.vars → part_side (number_at ps) q ≡ Some v → side (numbers_of xs) q ≡ v
    side_is q v qd h =
        side_same (numbers (number_at qs)) (numbers_of xs) same q
        ∙ some_one (side (numbers (number_at qs)) q) v (sym (side_there (number_at qs) q (there (q / 2) (omega arith))) ∙ side_kept (number_at ps) (number_at qs) kept q v h)

    from : side (numbers_of xs) i ≡ a.from
    from = side_is i a.from id a.first

    to : side (numbers_of xs) j ≡ a.to
    to = side_is j a.to jd a.second

-- a point that reaches a bound attains it
pub attains : (m : Octagon) (i j : ℕ) (c : ℤ) (xs : List ℤ) → entry m i j ≡ Some c → IsPoint m i j c xs → Attains m i j xs
attains m i j c xs e p = record { all = p.all; near = p.near; meets = p.meets; is = ap (λ (z : ℤ). Some z) (both (side (numbers_of xs) j -ℤ side (numbers_of xs) i) p.far (subst (λ o. AtMost (Some (side (numbers_of xs) j -ℤ side (numbers_of xs) i)) o) e (p.meets.each i j))) ∙ sym e }
  where
    both : (v : ℤ) → c ≤ℤ v → v ≤ℤ c → v ≡ c
    both v h k = omega (arith, ints, h, k)

pub if_ok : {A E : Type 0} (r : Result A E) (P Q : A → Type 0) → ((x : A) → P x → Q x) → IfOk r P → IfOk r Q
if_ok (Ok x) P Q f h = f x h
if_ok (Err e) P Q f h = tt

-- numbers that meet each bound between two places meet the matrix
pub meets_all : (m : Octagon) (x : ℕ → ℤ) (k : ℕ) → 2 * m.vars ≤ k → ((i : ℕ) → i < k → (j : ℕ) → j < 2 * m.vars → AtMost (Some (side x j -ℤ side x i)) (entry m i j)) → Meets (entry m) x
meets_all m x k l h = record { each = λ i j. each i j (cases_lt i (2 * m.vars)) (cases_lt j (2 * m.vars)) }
  where
    each : (i j : ℕ) → (i < 2 * m.vars) ⊎ (2 * m.vars ≤ i) → (j < 2 * m.vars) ⊎ (2 * m.vars ≤ j) → AtMost (Some (side x j -ℤ side x i)) (entry m i j)
    each i j (inl id) (inl jd) = h i (omega (arith, l)) j jd
    each i j (inl id) (inr g) = rw ((outside m).1 i j g) tt
    each i j (inr g) q = rw ((outside m).0 i j g) tt

-- the test of a bound
at_most_test : (a b : Option ℤ) → (is_at_most a b ≡ true) ↔ AtMost a b
at_most_test None None = (λ h. tt, λ h. refl)
at_most_test (Some a) None = (λ h. tt, λ h. refl)
at_most_test None (Some b) = (λ h. absurd (cc), λ h. absurd h)
at_most_test (Some a) (Some b) = (λ h. omega (arith, ints, h), λ h. by h (int_le a b) refl)
  where
    by : a ≤ℤ b → (t : Bool) → int_le a b ≡ t → t ≡ true
    by h true e = refl
    by h false e = absurd (omega (arith, ints, h, e))

pub met_is : (t : Bool) (a b c : Option ℤ) → t ≡ is_at_most a b → a ≡ c → (t ≡ true) ↔ AtMost c b
met_is t a b c e s = (λ h. subst (λ o. AtMost o b) s ((at_most_test a b).0 (sym e ∙ h)), λ h. e ∙ (at_most_test a b).1 (subst (λ o. AtMost o b) (sym s) h))
