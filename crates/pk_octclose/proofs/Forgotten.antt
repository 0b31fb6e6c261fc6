-- An octagon that is its own closing once a variable is forgotten.
use Rattle.std.specs.Prelude.{◌≡◌, ℕ, ◌<◌, ◌*◌, ℤ, Option, List, [], ◌∷◌}
use Rattle.std.proofs.Common.{◌∙◌, ap, refl, sym, subst}
use Rattle.pk_octmat.specs.Bounds.{AtMost, plus}
use Rattle.pk_octmat.specs.Octagon.{Octagon, IsOctagon, entry, forgotten, octagon_of}
use Rattle.pk_octmat.proofs.Clearing.{forgotten_all, forgotten_matrix}
use Rattle.pk_octmat.proofs.Tabled.{octagon_entries, tabled_length}
use Rattle.pk_octclose.specs.Closing.{IsClosed}
use Rattle.pk_octclose.specs.Places.{IsClosedBut}
use Rattle.pk_octclose.specs.Walks.{walk_sum}
use Rattle.pk_octclose.proofs.Floyd.{closing_right}

walk_same : (e f : ℕ → ℕ → Option ℤ) → ((i j : ℕ) → f i j ≡ e i j) → (i j : ℕ) (vs : List ℕ) → walk_sum f i vs j ≡ walk_sum e i vs j
walk_same e f h i j [] = h i j
walk_same e f h i j (v ∷ vs) = ap (λ o. plus o (walk_sum f v vs j)) (h i v) ∙ ap (λ o. plus (e i v) o) (walk_same e f h v j vs)

closed_same : (d : ℕ) (e f : ℕ → ℕ → Option ℤ) → ((i j : ℕ) → f i j ≡ e i j) → IsClosed d e → IsClosed d f
closed_same d e f h c = record {
  sums = c.sums;
  least = record {
    each = λ i j id jd.
        let l = c.least.each i j id jd in
        record { by = l.by; reached = walk_same e f h i j l.by ∙ l.reached; least = λ vs. subst (λ o. AtMost (c.sums i j) o) (sym (walk_same e f h i j vs)) (l.least vs) };
    zero = c.least.zero;
  };
  halves = c.halves;
  is = λ i j id jd. h i j ∙ c.is i j id jd;
}

pub but_closed : (m : Octagon) (k : ℕ) → IsOctagon m → k < m.vars → IsClosedBut m k → IsClosed (2 * m.vars) (forgotten (entry m) k)
but_closed m k h kn is = closed_same (2 * m.vars) (entry o) (forgotten (entry m) k) (λ i j. sym (forgotten_all (2 * m.vars) m.vars k m.cells o.cells refl kn each i j)) (closing_right.some o o octagon is)
  where
    o : Octagon
    o = octagon_of m.vars (forgotten (entry m) k)

    each : (i j : ℕ) → i < 2 * m.vars → j < 2 * m.vars → entry o i j ≡ forgotten (entry m) k i j
    each = (octagon_entries m.vars (forgotten (entry m) k)).each

    octagon : IsOctagon o
    octagon = record { few = h.few; whole = forgotten_matrix (2 * m.vars) m.vars k m.cells o.cells refl h.whole (tabled_length (2 * m.vars) (forgotten (entry m) k)) each }
