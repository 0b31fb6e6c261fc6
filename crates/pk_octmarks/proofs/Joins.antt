-- Marks of joins.
use Rattle.std.specs.Prelude.{◌≡◌, ℕ, ◌<◌, ◌*◌, ◌/◌, ◌==◌, ◌||◌, if◌then◌else◌, Bool, true, false, ℤ, int_lt, Option, Some, None}
use Rattle.std.proofs.Common.{◌∙◌, ap, refl, sym, subst, arith}
use Rattle.std.proofs.lemmas.Bool.Decides.{nat_tests}
use Rattle.pk_octmat.specs.Bounds.{greater}
use Rattle.pk_octmat.specs.Octagon.{Octagon, IsOctagon, entry, top_bound, forgotten as without_variable}
use Rattle.pk_octmat.proofs.Tabled.{octagon_entries}
use Rattle.pk_octclose.specs.Places.{closing_of, IsClosedBut}
use Rattle.pk_octclose.proofs.Floyd.{closing_right}
use Rattle.pk_octclose.proofs.Stays.{closed_stay}
use Rattle.pk_octops.specs.Tables.{join_of}
use Rattle.pk_octops.proofs.Kept.{values_kept}
use Rattle.pk_octmarks.specs.declared.mark.Mark.{Mark}
use Rattle.pk_octmarks.specs.declared.mark.Mark.TheVariants.{Closed, ClosedBut, Unknown}
use Rattle.pk_octmarks.specs.Marks.{IsMarked, joined}
use Rattle.pk_octmarks.proofs.Without.{same_octagon, without, without_octagon, closed_but, but_closed, forgotten_same}

greater_itself : (b : Option ℤ) → greater b b ≡ b
greater_itself None = refl
greater_itself (Some z) = by (int_lt z z)
  where
    by : (t : Bool) → (if t then Some z else Some z) ≡ Some z
    by true = refl
    by false = refl

forgotten_greater : (e f : ℕ → ℕ → Option ℤ) (k x y : ℕ) → greater (without_variable e k x y) (without_variable f k x y) ≡ without_variable (λ i j. greater (e i j) (f i j)) k x y
forgotten_greater e f k x y = by (((x / 2) == k) || ((y / 2) == k))
  where
    by : (s : Bool) → greater (if s then top_bound x y else e x y) (if s then top_bound x y else f x y) ≡ (if s then top_bound x y else greater (e x y) (f x y))
    by true = greater_itself (top_bound x y)
    by false = refl

closed_join : (a b : Octagon) → IsOctagon a → IsOctagon b → b.vars ≡ a.vars → IsMarked Closed a → IsMarked Closed b → IsMarked Closed (join_of a b)
closed_join a b h k e f g =
    closed_stay.joined a b (join_of a b) (values_kept.join_octagon a b h k e) f g e (octagon_entries a.vars (λ i j. greater (entry a i j) (entry b i j)))

but_join : (a b : Octagon) (k : ℕ) → IsOctagon a → IsOctagon b → b.vars ≡ a.vars → k < a.vars → IsClosedBut a k → IsClosedBut b k → IsClosedBut (join_of a b) k
but_join a b k h g v p f c = subst (λ o. closing_of o ≡ Some o) same (closing_right.again both octagon (closed_join (without a k) (without b k) first second v (but_closed a k h p f) (but_closed b k g below c)))
  where
    below : k < b.vars
    below = omega (arith, v, p)

    first : IsOctagon (without a k)
    first = without_octagon a k h p

    second : IsOctagon (without b k)
    second = without_octagon b k g below

    both : Octagon
    both = join_of (without a k) (without b k)

    octagon : IsOctagon both
    octagon = values_kept.join_octagon (without a k) (without b k) first second v

    bounds : (x y : ℕ) → x < 2 * a.vars → y < 2 * a.vars → greater (entry (without a k) x y) (entry (without b k) x y) ≡ without_variable (entry (join_of a b)) k x y
    bounds x y xd yd =
        ap (λ s. greater s (entry (without b k) x y)) ((octagon_entries a.vars (without_variable (entry a) k)).each x y xd yd)
        ∙ ap (λ s. greater (without_variable (entry a) k x y) s) ((octagon_entries b.vars (without_variable (entry b) k)).each x y (omega (arith, v, xd)) (omega (arith, v, yd)))
        ∙ forgotten_greater (entry a) (entry b) k x y
        ∙ sym (forgotten_same (λ i j. greater (entry a i j) (entry b i j)) (entry (join_of a b)) k x y (λ n o. (octagon_entries a.vars (λ i j. greater (entry a i j) (entry b i j))).each x y xd yd))

    same : both ≡ without (join_of a b) k
    same = same_octagon a.vars (λ x y. greater (entry (without a k) x y) (entry (without b k) x y)) (without_variable (entry (join_of a b)) k) octagon bounds

pub join_holds : (mark other : Mark) (a b : Octagon) → IsOctagon a → IsOctagon b → b.vars ≡ a.vars → IsMarked mark a → IsMarked other b → IsMarked (joined mark other) (join_of a b)
join_holds Closed Closed a b h g v f c = closed_join a b h g v f c
join_holds Closed (ClosedBut k) a b h g v f c =
    let p : k < a.vars = omega (arith, v, c.0) in
    (p, but_join a b k h g v p (closed_but a k h p f) c.1)
join_holds Closed Unknown a b h g v f c = tt
join_holds (ClosedBut j) Closed a b h g v f c = (f.0, but_join a b j h g v f.0 f.1 (closed_but b j g (omega (arith, v, f.0)) c))
join_holds (ClosedBut j) (ClosedBut k) a b h g v f c = by (j == k) refl
  where
    by : (s : Bool) → (j == k) ≡ s → IsMarked (if s then ClosedBut j else Unknown) (join_of a b)
    by true e = let same : k ≡ j = grind (arith, nat_tests) in (f.0, but_join a b j h g v f.0 f.1 (subst (IsClosedBut b) same c.1))
    by false e = tt
join_holds (ClosedBut j) Unknown a b h g v f c = tt
join_holds Unknown other a b h g v f c = tt
