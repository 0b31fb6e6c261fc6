use Rattle.std.proofs.Common.{◌≡◌, subst, sym, arith, ℕ, Option, Some}
use Rattle.pk_wpo.specs.Layouts.{Laid}
use Rattle.pk_wpo.proofs.Placed.{head_vertex}
use Rattle.pk_wpo.proofs.Climbing.{Climbing, climb_on, climb_ends, climb_is_out, climb_shortens}
use Rattle.pk_wpo.proofs.top.top.Goals as goal

-- the climb, at the component that comes next
at_next : (l : Laid) (u v top h : ℕ) (next : Option ℕ) → next ≡ Some h → Climbing l u v top next → Climbing l u v top (Some h)
at_next l u v top h next is climbing = subst (λ (o : Option ℕ). Climbing l u v top o) is climbing

pub holds-requires-clause-head : goal.holds-requires-clause-head
holds-requires-clause-head c = head_vertex c.args.layout.now c.in-Some.h c.args.u c.laid.ensures (at_next c.args.layout.now c.args.u c.args.v c.loop-next.top c.in-Some.h c.loop-next.next c.in-Some.is c.loop-next.invariant).0

pub exit-top-requires : goal.exit-top-requires
exit-top-requires c = head_vertex c.args.layout.now c.in-Some.h c.args.u c.laid.ensures (at_next c.args.layout.now c.args.u c.args.v c.loop-next.top c.in-Some.h c.loop-next.next c.in-Some.is c.loop-next.invariant).0

pub home-next-requires : goal.home-next-requires
home-next-requires c =
    let below = head_vertex c.args.layout.now c.in-Some.h c.args.u c.laid.ensures (at_next c.args.layout.now c.args.u c.args.v c.loop-next.top c.in-Some.h c.loop-next.next c.in-Some.is c.loop-next.invariant).0 in
    omega (arith, below)

pub returns-then-holds : goal.returns-then-holds
returns-then-holds c =
    climb_ends c.args.layout.now c.args.u c.args.v c.loop-next.top c.in-Some.h c.laid.ensures
    (at_next c.args.layout.now c.args.u c.args.v c.loop-next.top c.in-Some.h c.loop-next.next c.in-Some.is c.loop-next.invariant)
    (c.holds.ensures.0 c.if-holds.true)

pub loop-next-preserved : goal.loop-next-preserved
loop-next-preserved c =
    subst (λ (a : ℕ). Climbing c.args.layout.now c.args.u c.args.v a c.home-next.result) (sym c.exit-top.ensures)
    (climb_on c.args.layout.now c.args.u c.args.v c.loop-next.top c.in-Some.h c.home-next.result c.laid.ensures
    (at_next c.args.layout.now c.args.u c.args.v c.loop-next.top c.in-Some.h c.loop-next.next c.in-Some.is c.loop-next.invariant)
    (λ x. let told = c.holds.ensures.1 x in let told' = c.if-holds.false in absurd (cc))
    c.home-next.ensures)

pub loop-next-smaller : goal.loop-next-smaller
loop-next-smaller c =
    rw c.in-Some.is
    (climb_shortens c.args.layout.now c.in-Some.h c.args.u c.home-next.result c.laid.ensures
    (at_next c.args.layout.now c.args.u c.args.v c.loop-next.top c.in-Some.h c.loop-next.next c.in-Some.is c.loop-next.invariant).0
    c.home-next.ensures)

pub returns : goal.returns
returns c =
    climb_is_out c.args.layout.now c.args.u c.args.v c.loop-next.top
    (subst (λ (o : Option ℕ). Climbing c.args.layout.now c.args.u c.args.v c.loop-next.top o) c.in_default.is c.loop-next.invariant)
