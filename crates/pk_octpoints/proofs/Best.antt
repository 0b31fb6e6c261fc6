-- No bounds that the integers of a tight matrix meet are lower.
use Rattle.std.specs.Prelude.{◌≡◌, ◌≢◌, ℕ, ◌<◌, ◌*◌, ℤ, pos, ◌+ℤ◌, ◌-ℤ◌, ◌≤ℤ◌, Option, Some, None, ◌⊎◌}
use Rattle.std.proofs.Common.{refl, sym, subst, arith, inl, inr}
use Rattle.std.proofs.lemmas.Bool.{cases_eq}
use Rattle.std.proofs.lemmas.Int.{ints}
use Rattle.pk_octmat.specs.Bounds.{AtMost}
use Rattle.pk_octmat.specs.Octagon.{Octagon, Meets, entry, side}
use Rattle.pk_octmat.proofs.Tropical.{at_most_none}
use Rattle.pk_octpoints.specs.Tight.{HasPoint, IsTight, Reaches, TightIsBest}
use Rattle.pk_octpoints.proofs.Attained.{attained, outside, some_point}

pub has_point : (m : Octagon) → IsTight m.vars (entry m) → HasPoint (entry m)
has_point m t = some_point m.vars (entry m) t (outside m)

between : (c v : ℤ) (b : Option ℤ) → c ≤ℤ v → AtMost (Some v) b → AtMost (Some c) b
between c v None h k = tt
between c v (Some b) h k = omega (arith, ints, h, k)

one_past : (v b : ℤ) → (b +ℤ pos 1) ≤ℤ v → v ≤ℤ b → ⊥
one_past v b h k = omega (arith, ints, h, k)

no_change : (z : ℤ) → pos 0 ≤ℤ (z -ℤ z)
no_change z = omega (arith, ints)

pub best : (m : Octagon) (f : ℕ → ℕ → Option ℤ) → IsTight m.vars (entry m) → ((x : ℕ → ℤ) → Meets (entry m) x → Meets f x) → (i j : ℕ) → i < 2 * m.vars → j < 2 * m.vars → AtMost (entry m i j) (f i j)
best m f t h i j id jd = by (cases_eq i j)
  where
    reach : i ≢ j → (c : ℤ) → AtMost (Some c) (entry m i j) → Reaches (entry m) i j c
    reach n c k = attained m.vars (entry m) t (outside m) i j c id jd n k

    at : i ≢ j → (a b : Option ℤ) → entry m i j ≡ a → f i j ≡ b → AtMost a b
    at n a None p q = at_most_none a
    at n (Some c) (Some b) p q =
        let k : AtMost (Some c) (entry m i j) = rw p (omega (arith, ints)) in
        let w = reach n c k in
        subst (λ o. AtMost (Some c) o) q (between c (side w.point j -ℤ side w.point i) (f i j) w.far ((h w.point w.meets).each i j))
    at n None (Some b) p q =
        let k : AtMost (Some (b +ℤ pos 1)) (entry m i j) = rw p tt in
        let w = reach n (b +ℤ pos 1) k in
        absurd (one_past (side w.point j -ℤ side w.point i) b w.far (subst (λ o. AtMost (Some (side w.point j -ℤ side w.point i)) o) q ((h w.point w.meets).each i j)))

    by : (i ≡ j) ⊎ (i ≢ j) → AtMost (entry m i j) (f i j)
    by (inr n) = at n (entry m i j) (f i j) refl refl
    by (inl s) =
        let w = has_point m t in
        let zero : entry m i i ≡ Some (pos 0) = t.zero i id in
        subst (λ k. AtMost (entry m i k) (f i k)) s (subst (λ o. AtMost o (f i i)) (sym zero) (between (pos 0) (side w.point i -ℤ side w.point i) (f i i) (no_change (side w.point i)) ((h w.point w.meets).each i i)))

pub tight_best : TightIsBest
tight_best = record {
  some = has_point;
  reached = λ m i j c t id jd n h. attained m.vars (entry m) t (outside m) i j c id jd n h;
  best = best;
}
