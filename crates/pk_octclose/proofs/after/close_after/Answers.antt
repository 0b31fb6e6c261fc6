use Rattle.std.specs.Prelude.{◌≡◌, ◌*◌, ◌/◌, List, Option, ℤ}
use Rattle.std.proofs.Common.{◌∙◌, ap, arith, subst, sym}
use Rattle.std.proofs.lemmas.List.{with_items_is}
use Rattle.std.specs.Vec.{with_items}
use Rattle.pk_octmat.specs.Octagon.{Octagon, entry, forgotten, IsOctagon}
use Rattle.pk_octmat.specs.Half.{kept_at, octagon_in, IsKept}
use Rattle.pk_octmat.specs.Shapes.{left_of}
use Rattle.pk_octmat.specs.declared.shape.Shape.TheVariants.{Kept, Empty}
use Rattle.pk_octclose.specs.Closing.{IsClosed, IsClosing, IsEmpty, IsSmall}
use Rattle.pk_octclose.specs.Places.{closing_of}
use Rattle.pk_octclose.proofs.Floyd.{close_is}
use Rattle.pk_octclose.proofs.Forgotten.{but_closed}
use Rattle.pk_octclose.proofs.after.close_after.Given as given
use Rattle.pk_octclose.proofs.after.close_after.Goals as goal

pub close_cells_after-requires-clause-small : goal.close_cells_after-requires-clause-small
close_cells_after-requires-clause-small g c =
    let o : Octagon = octagon_in c.m.inside.vars c.deref_mut.result.now in
    let was : o ≡ c.args.m.now = ap (λ (xs : List (Option ℤ)). octagon_in c.m.inside.vars xs) c.deref_mut.ensures.value ∙ c.m.view_is in
    subst (λ (p : Octagon). IsSmall p) (sym was) c.requires.small

pub close_cells_after-requires-clause-closed : goal.close_cells_after-requires-clause-closed
close_cells_after-requires-clause-closed g c =
    let o : Octagon = octagon_in c.m.inside.vars c.deref_mut.result.now in
    let was : o ≡ c.args.m.now = ap (λ (xs : List (Option ℤ)). octagon_in c.m.inside.vars xs) c.deref_mut.ensures.value ∙ c.m.view_is in
    let half : (2 * c.args.k) / 2 ≡ c.args.k = omega arith in
    subst (λ q. IsClosed (2 * c.m.inside.vars) (forgotten (kept_at (2 * c.m.inside.vars) c.deref_mut.result.now) q)) (sym half) (subst (λ (p : Octagon). IsClosed (2 * p.vars) (forgotten (entry p) c.args.k)) (sym was) (but_closed c.args.m.now c.args.k (subst (λ (p : Octagon). IsOctagon p) c.m.view_is (record { few = c.m.invariant.few; whole = c.m.invariant.half.whole })) c.requires.variable c.requires.closed))

-- the octagon that was there
was : (g : given.Over) (c : goal.After-m-1 g) → (let o : Octagon = octagon_in c.m.inside.vars c.deref_mut.result.now in o ≡ c.args.m.now)
was g c = ap (λ (xs : List (Option ℤ)). octagon_in c.m.inside.vars xs) c.deref_mut.ensures.value ∙ c.m.view_is

-- which is one
whole : (g : given.Over) (c : goal.After-m-1 g) → IsOctagon c.args.m.now
whole g c = subst (λ (o : Octagon). IsOctagon o) c.m.view_is (record { few = c.m.invariant.few; whole = c.m.invariant.half.whole })

-- the bounds that are there then
made : (g : given.Over) (c : goal.After-m-1 g) → (with_items c.m.inside.cells c.close_cells_after.new.cells).items ≡ c.close_cells_after.new.cells
made g c = with_items_is c.m.inside.cells c.close_cells_after.new.cells (c.close_cells_after.auto.cells ∙ c.deref_mut.ensures.len)

pub invariant_of-m : goal.invariant_of-m
invariant_of-m g c = subst (λ (xs : List (Option ℤ)). IsKept c.m.inside.vars xs) (sym (made g c)) (record { few = c.m.invariant.few; half = c.close_cells_after.ensures.whole })

pub returns-clause-value : goal.returns-clause-value
returns-clause-value g c =
    let n : Octagon = octagon_in c.m.inside.vars c.close_cells_after.new.cells in
    subst (λ (xs : List (Option ℤ)). let o : Octagon = octagon_in c.m.inside.vars xs in left_of c.close_cells_after.result o ≡ closing_of c.args.m.now) (sym (made g c))
    (close_is c.close_cells_after.result c.args.m.now n (whole g c) (record { few = c.m.invariant.few; whole = c.close_cells_after.ensures.whole.whole })
    (ap (λ (o : Octagon). o.vars) c.m.view_is)
    (subst (λ (o : Octagon). c.close_cells_after.result ≡ Kept → IsClosing (2 * o.vars) (entry o) (entry n)) (was g c) c.close_cells_after.ensures.kept)
    (subst (λ (o : Octagon). c.close_cells_after.result ≡ Empty → IsEmpty (2 * o.vars) (entry o)) (was g c) c.close_cells_after.ensures.empty))
