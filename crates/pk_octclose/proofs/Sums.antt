-- What has been reached once all places are gone through, or a number of the diagonal is negative.
use Rattle.std.specs.Prelude.{◌≡◌, ℕ, ◌<◌, ◌≤◌, ◌+◌, ◌*◌, ◌^◌, ℤ, pos, Option, Some, None, false, List, [], ◌∷◌, ◌⊎◌}
use Rattle.std.proofs.Common.{◌∙◌, ap, refl, sym, subst, arith, inl, inr}
use Rattle.std.proofs.lemmas.Bool.{cases_lt}
use Rattle.std.proofs.lemmas.Int.{ints}
use Rattle.pk_octclose.proofs.Lengths.{through_near}
use Rattle.pk_octpoints.proofs.Near.{near_more}
use Rattle.pk_octclose.proofs.Walks.{Below, EachIn, Through, below_with, reached_relaxed, through_least}
use Rattle.pk_octclose.specs.Walks.{HasLeastSums, HasNegativeCycle, IsLeast, IsNegativeAt, relaxed, walk_sum}
use Rattle.pk_octmat.proofs.Cells.{cell_column_out}
use Rattle.pk_octmat.proofs.Tropical.{at_most_none, plus_none}
use Rattle.pk_octmat.specs.Bounds.{AtMost, IsNear, is_negative}
use Rattle.pk_octmat.specs.Octagon.{cell_at}

pub negative_from : (a : Option ℤ) → is_negative a ≡ false → AtMost (Some (pos 0)) a
negative_from None h = tt
negative_from (Some z) h = omega (arith, ints)

pub room_near : (d : ℕ) (e0 e : ℕ → ℕ → Option ℤ) (k : ℕ) → Through d e0 e (Below k) → k ≤ d → d ≤ 2 ^ 32 → ((i j : ℕ) → IsNear (2 ^ 66) (e0 i j)) → (i j : ℕ) → i < d → j < d → IsNear (2 ^ 99) (e i j)
room_near d e0 e k t kd room h i j id jd = near_more (d * 2 ^ 66 + 2 ^ 66) (2 ^ 99) (e i j) (omega (arith, room)) (through_near d e0 e (Below k) (2 ^ 66) t (λ p h. omega arith) h i j id jd)

pub cycle_from : (d : ℕ) (e0 e f : ℕ → ℕ → Option ℤ) (k : ℕ) → Through d e0 e (Below k) → k < d → ((i j : ℕ) → i < d → j < d → f i j ≡ relaxed e k i j) → IsNegativeAt d f → HasNegativeCycle e0
cycle_from d e0 e f k t kd is n =
    let r = reached_relaxed d e0 e (Below k) k (Below (k + 1)) t (below_with k) kd n.at n.at n.place n.place in
    record { at = n.at; by = r.by; negative = ap is_negative (r.is ∙ sym (is n.at n.at n.place n.place)) ∙ n.negative }

-- a walk stays among the places, or has no sum
pub walk_within : (d : ℕ) (xs : List (Option ℤ)) (i j : ℕ) (vs : List ℕ) → EachIn (Below d) vs ⊎ (walk_sum (cell_at d xs) i vs j ≡ None)
walk_within d xs i j [] = inl tt
walk_within d xs i j (v ∷ vs) = by (cases_lt v d) (walk_within d xs v j vs)
  where
    by : (v < d) ⊎ (d ≤ v) → EachIn (Below d) vs ⊎ (walk_sum (cell_at d xs) v vs j ≡ None) → EachIn (Below d) (v ∷ vs) ⊎ (walk_sum (cell_at d xs) i (v ∷ vs) j ≡ None)
    by (inr g) s = inr (rw (cell_column_out d xs i v g) refl)
    by (inl l) (inl b) = inl (l, b)
    by (inl l) (inr n) = inr (rw n (plus_none (cell_at d xs i v)))

pub least_from : (d : ℕ) (xs : List (Option ℤ)) (e : ℕ → ℕ → Option ℤ) (k : ℕ) → Through d (cell_at d xs) e (Below k) → k ≤ d → d ≤ k → HasLeastSums d (cell_at d xs) e
least_from d xs e k t kd dk = record { each = each; zero = t.zero }
  where
    least : (i j : ℕ) → i < d → j < d → (vs : List ℕ) → EachIn (Below d) vs ⊎ (walk_sum (cell_at d xs) i vs j ≡ None) → AtMost (e i j) (walk_sum (cell_at d xs) i vs j)
    least i j id jd vs (inl b) = let same : d ≡ k = omega arith in through_least d (cell_at d xs) e (Below k) t (λ p h. omega arith) i j vs id jd (subst (λ q. EachIn (Below q) vs) same b)
    least i j id jd vs (inr n) = rw n (at_most_none (e i j))

    each : (i j : ℕ) → i < d → j < d → IsLeast (cell_at d xs) i j (e i j)
    each i j id jd =
        let r = t.reached i j id jd in
        record { by = r.by; reached = r.is; least = λ vs. least i j id jd vs (walk_within d xs i j vs) }
