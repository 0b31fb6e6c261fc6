-- What closing a small matrix of few variables gives over integers.
use Rattle.std.specs.Prelude.{◌≡◌, ◌↔◌, ℕ, ◌<◌, ◌≤◌, ◌*◌, ℤ, Option}
use Rattle.std.proofs.Common.{refl, sym, subst}
use Rattle.pk_octmat.specs.Bounds.{AtMost}
use Rattle.pk_octmat.specs.Octagon.{Octagon, IsOctagon, Meets, cell_at, entry}
use Rattle.pk_octmat.specs.declared.shape.Shape.{Shape}
use Rattle.pk_octmat.specs.declared.shape.Shape.TheVariants.{Kept, Empty}
use Rattle.pk_octclose.specs.Closing.{IsClosing, IsSmall, KeepsPoints}
use Rattle.pk_octclose.proofs.Uncapped.{closing_tight}
use Rattle.pk_octpoints.proofs.Best.{best, has_point}
use Rattle.pk_octpoints.specs.Tight.{IsTight}

-- what closing leaves of a matrix
pub record Closes (s : Shape) (m r : Octagon) : Type 0 where
  pub whole : IsOctagon m
  pub vars : r.vars ≡ m.vars
  pub kept : s ≡ Kept → IsClosing (2 * m.vars) (entry m) (entry r)
  pub points : s ≡ Kept → KeepsPoints (entry m) (entry r)
  pub none : s ≡ Empty → (x : ℕ → ℤ) → Meets (entry m) x → ⊥

pub kept_tight : (s : Shape) (m r : Octagon) → Closes s m r → IsSmall m → m.vars ≤ 64 → s ≡ Kept → IsTight r.vars (entry r)
kept_tight s m r c small few e =
    subst (λ n. IsTight n (cell_at (2 * n) r.cells)) (sym c.vars)
    (closing_tight m.vars m.cells r.cells few c.whole.whole small (subst (λ n. IsClosing (2 * m.vars) (entry m) (cell_at (2 * n) r.cells)) c.vars (c.kept e)))

pub kept_decides : (s : Shape) (m r : Octagon) → Closes s m r → IsSmall m → m.vars ≤ 64 → (s ≡ Empty) ↔ ((x : ℕ → ℤ) → Meets (entry m) x → ⊥)
kept_decides Empty m r c small few = (c.none, λ q. refl)
kept_decides Kept m r c small few =
    let w = has_point r (kept_tight Kept m r c small few refl) in
    (λ e. absurd (cc), λ q. absurd (q w.point ((c.points refl).from w.point w.meets)))

pub kept_best : (s : Shape) (m r : Octagon) → Closes s m r → IsSmall m → m.vars ≤ 64 → s ≡ Kept → (f : ℕ → ℕ → Option ℤ) → ((x : ℕ → ℤ) → Meets (entry m) x → Meets f x) → (i j : ℕ) → i < 2 * m.vars → j < 2 * m.vars → AtMost (entry r i j) (f i j)
kept_best s m r c small few e f g i j id jd =
    best r f (kept_tight s m r c small few e) (λ x q. g x ((c.points e).from x q)) i j (subst (λ n. i < 2 * n) (sym c.vars) id) (subst (λ n. j < 2 * n) (sym c.vars) jd)
