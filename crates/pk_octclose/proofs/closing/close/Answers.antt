use Rattle.std.specs.Prelude.{◌≡◌, ◌*◌, ◌<◌, ◌≤◌, ◌↔◌, ℕ, ℤ, List, Option}
use Rattle.std.proofs.Common.{◌∙◌, ap, subst, sym}
use Rattle.std.proofs.lemmas.List.{with_items_is}
use Rattle.std.specs.Vec.{with_items}
use Rattle.pk_octmat.specs.Octagon.{Octagon, entry, top_bound, IsOctagon, Meets}
use Rattle.pk_octmat.specs.Half.{kept_at, octagon_in}
use Rattle.pk_octmat.specs.Shapes.{left_of}
use Rattle.pk_octclose.specs.Places.{closing_of}
use Rattle.pk_octclose.proofs.Floyd.{close_is}
use Rattle.pk_octmat.specs.declared.shape.Shape.TheVariants.{Kept, Empty}
use Rattle.pk_octclose.specs.Closing.{IsClosing, IsEmpty, IsClosed, IsSmall, KeepsPoints}
use Rattle.pk_octclose.proofs.Best.{Closes, kept_best, kept_decides, kept_tight}
use Rattle.pk_octmat.specs.Bounds.{AtMost}
use Rattle.pk_octpoints.specs.Tight.{IsTight}
use Rattle.pk_octclose.proofs.closing.close.Goals as goal

-- the octagon that was there
was : (c : goal.After-m-1) → (let o : Octagon = octagon_in c.m.inside.vars c.deref_mut.result.now in o ≡ c.args.m.now)
was c = ap (λ (xs : List (Option ℤ)). octagon_in c.m.inside.vars xs) c.deref_mut.ensures.value ∙ c.m.view_is

-- which is one
whole : (c : goal.After-m-1) → IsOctagon c.args.m.now
whole c = subst (λ (o : Octagon). IsOctagon o) c.m.view_is (record { few = c.m.invariant.few; whole = c.m.invariant.half.whole })

-- the bounds that are there then
made : (c : goal.After-m-1) → (with_items c.m.inside.cells c.close_cells.new.cells).items ≡ c.close_cells.new.cells
made c = with_items_is c.m.inside.cells c.close_cells.new.cells (c.close_cells.auto.cells ∙ c.deref_mut.ensures.len)

pub returns-clause-kept : goal.returns-clause-kept
returns-clause-kept c =
    subst (λ (xs : List (Option ℤ)). c.close_cells.result ≡ Kept → IsClosing (2 * c.args.m.now.vars) (entry c.args.m.now) (kept_at (2 * c.m.inside.vars) xs)) (sym (made c))
    (subst (λ (o : Octagon). c.close_cells.result ≡ Kept → IsClosing (2 * o.vars) (entry o) (kept_at (2 * c.m.inside.vars) c.close_cells.new.cells)) (was c) c.close_cells.ensures.kept)

pub returns-clause-points : goal.returns-clause-points
returns-clause-points c =
    subst (λ (xs : List (Option ℤ)). c.close_cells.result ≡ Kept → KeepsPoints (entry c.args.m.now) (kept_at (2 * c.m.inside.vars) xs)) (sym (made c))
    (subst (λ (o : Octagon). c.close_cells.result ≡ Kept → KeepsPoints (entry o) (kept_at (2 * c.m.inside.vars) c.close_cells.new.cells)) (was c) c.close_cells.ensures.points)

pub returns-clause-again : goal.returns-clause-again
returns-clause-again c =
    subst (λ (xs : List (Option ℤ)). IsClosed (2 * c.args.m.now.vars) (entry c.args.m.now) → (c.close_cells.result ≡ Kept) × ((i j : ℕ) → kept_at (2 * c.m.inside.vars) xs i j ≡ entry c.args.m.now i j)) (sym (made c))
    (subst (λ (o : Octagon). IsClosed (2 * o.vars) (entry o) → (c.close_cells.result ≡ Kept) × ((i j : ℕ) → kept_at (2 * c.m.inside.vars) c.close_cells.new.cells i j ≡ entry o i j)) (was c) c.close_cells.ensures.again)

pub returns-clause-cleared : goal.returns-clause-cleared
returns-clause-cleared c =
    subst (λ (xs : List (Option ℤ)). c.close_cells.result ≡ Empty → (i j : ℕ) → i < 2 * c.args.m.now.vars → j < 2 * c.args.m.now.vars → kept_at (2 * c.m.inside.vars) xs i j ≡ top_bound i j) (sym (made c))
    (subst (λ (o : Octagon). c.close_cells.result ≡ Empty → (i j : ℕ) → i < 2 * o.vars → j < 2 * o.vars → kept_at (2 * c.m.inside.vars) c.close_cells.new.cells i j ≡ top_bound i j) (was c) c.close_cells.ensures.cleared)

pub returns-clause-empty : goal.returns-clause-empty
returns-clause-empty c = subst (λ (o : Octagon). (c.close_cells.result ≡ Empty) ↔ IsEmpty (2 * o.vars) (entry o)) (was c) c.close_cells.ensures.empty

pub returns-clause-none : goal.returns-clause-none
returns-clause-none c = subst (λ (o : Octagon). c.close_cells.result ≡ Empty → (x : ℕ → ℤ) → Meets (entry o) x → ⊥) (was c) c.close_cells.ensures.none

pub returns-clause-value : goal.returns-clause-value
returns-clause-value c =
    let n : Octagon = octagon_in c.m.inside.vars c.close_cells.new.cells in
    subst (λ (xs : List (Option ℤ)). let o : Octagon = octagon_in c.m.inside.vars xs in left_of c.close_cells.result o ≡ closing_of c.args.m.now) (sym (made c))
    (close_is c.close_cells.result c.args.m.now n (whole c) (record { few = c.m.invariant.few; whole = c.close_cells.ensures.whole.whole })
    (ap (λ (o : Octagon). o.vars) c.m.view_is)
    (subst (λ (o : Octagon). c.close_cells.result ≡ Kept → IsClosing (2 * o.vars) (entry o) (entry n)) (was c) c.close_cells.ensures.kept)
    (subst (λ (o : Octagon). c.close_cells.result ≡ Empty → IsEmpty (2 * o.vars) (entry o)) (was c) c.close_cells.ensures.empty.0))

-- what small matrices have besides
closes : (c : goal.After-m-1) → (let n : Octagon = octagon_in c.m.inside.vars c.close_cells.new.cells in Closes c.close_cells.result c.args.m.now n)
closes c =
    let n : Octagon = octagon_in c.m.inside.vars c.close_cells.new.cells in
    record {
      whole = whole c;
      vars = ap (λ (o : Octagon). o.vars) c.m.view_is;
      kept = subst (λ (o : Octagon). c.close_cells.result ≡ Kept → IsClosing (2 * o.vars) (entry o) (entry n)) (was c) c.close_cells.ensures.kept;
      points = subst (λ (o : Octagon). c.close_cells.result ≡ Kept → KeepsPoints (entry o) (entry n)) (was c) c.close_cells.ensures.points;
      none = returns-clause-none c;
    }

pub returns-clause-tight : goal.returns-clause-tight
returns-clause-tight c =
    let n : Octagon = octagon_in c.m.inside.vars c.close_cells.new.cells in
    subst (λ (xs : List (Option ℤ)). IsSmall c.args.m.now → c.args.m.now.vars ≤ 64 → c.close_cells.result ≡ Kept → IsTight c.m.inside.vars (kept_at (2 * c.m.inside.vars) xs)) (sym (made c)) (kept_tight c.close_cells.result c.args.m.now n (closes c))

pub returns-clause-decides : goal.returns-clause-decides
returns-clause-decides c =
    let n : Octagon = octagon_in c.m.inside.vars c.close_cells.new.cells in
    kept_decides c.close_cells.result c.args.m.now n (closes c)

pub returns-clause-best : goal.returns-clause-best
returns-clause-best c =
    let n : Octagon = octagon_in c.m.inside.vars c.close_cells.new.cells in
    subst (λ (xs : List (Option ℤ)). IsSmall c.args.m.now → c.args.m.now.vars ≤ 64 → c.close_cells.result ≡ Kept → (f : ℕ → ℕ → Option ℤ) → ((x : ℕ → ℤ) → Meets (entry c.args.m.now) x → Meets f x) → (i j : ℕ) → i < 2 * c.args.m.now.vars → j < 2 * c.args.m.now.vars
    → AtMost (kept_at (2 * c.m.inside.vars) xs i j) (f i j)) (sym (made c)) (kept_best c.close_cells.result c.args.m.now n (closes c))
