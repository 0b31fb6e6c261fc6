use Rattle.std.proofs.Common.{◌≡◌, ◌<◌, ◌≤◌, ℕ, map, length, get_or, arith, sym, ap, ◌∙◌, refl}
use Rattle.std.specs.List.{range_with_len}
use Rattle.std.specs.Arc.{arc_value}
use Rattle.std.proofs.lemmas.List.{length-map, get_or_default}
use Rattle.std.proofs.Math.Numerals.{lt_of_le_of_ne}
use Rattle.pk_plan.specs.declared.places.Role.TheVariants.{Vertex}
use Rattle.pk_plan.specs.declared.places.Place.{Place}
use Rattle.pk_iterate.proofs.Stands.{stands_first, is_result}
use Rattle.pk_iterate.proofs.Held.{MayHold}
use Rattle.pk_iterate.proofs.Turns.{turn, turn_back, turn_over, turn_keeps, cells_long, runs_long, inputs_held, own_held, smaller}
use Rattle.pk_iterate.proofs.walk.iterate.Goals as goal

-- what is read past the last place
abbrev d : Place
d = record { element = 0; role = Vertex }

pub loop-at-init : goal.loop-at-init
loop-at-init g c = record {
  stands = stands_first (g.Y.System.meaning c.args.system.now) c.args.order.now.order c.args.order.now.elements c.args.max_runs (map arc_value c.in_ok-front.front.cells.items) c.in_ok-front.front.runs.items
      (c.in_ok-front.ensures.cells ∙ ap (λ (n : ℕ). map (g.Y.System.meaning c.args.system.now).first (range_with_len 0 n)) c.elements.ensures)
      (c.in_ok-front.ensures.runs ∙ ap (λ (n : ℕ). map (λ (u : ℕ). let none : ℕ = 0 in none) (range_with_len 0 n)) c.elements.ensures);
  times = c.in_ok-front.ensures.times;
}

pub index-requires : goal.index-requires
index-requires g c =
    let w = turn c.args.order.now.order c.args.order.now.elements c.loop-at.at c.places-places.result.now d c.places-places.ensures.places c.places-places.ensures.within c.loop-at-test.true in
    let long = runs_long c.loop-at.invariant.stands in
    omega (arith, w.below, long)

pub returns-then-index-max_runs-clause-err : goal.returns-then-index-max_runs-clause-err
returns-then-index-max_runs-clause-err g c =
    let w = turn c.args.order.now.order c.args.order.now.elements c.loop-at.at c.places-places.result.now d c.places-places.ensures.places c.places-places.ensures.within c.loop-at-test.true in
    let e : ℕ = (get_or c.places-places.result.now c.loop-at.at d).element in
    let below : e < length c.loop-at.front.runs.items = omega (arith, w.below, runs_long c.loop-at.invariant.stands) in
    let read = get_or_default c.loop-at.front.runs.items e 0 c.index.result.now below in
    (turn_over w c.loop-at.invariant.stands (read ∙ sym c.index.ensures ∙ c.if-index-max_runs.true), refl)

pub run_place-requires-clause-element : goal.run_place-requires-clause-element
run_place-requires-clause-element g c κs within =
    let w = turn c.args.order.now.order c.args.order.now.elements c.loop-at.at c.places-places.result.now d c.places-places.ensures.places c.places-places.ensures.within c.loop-at-test.true in
    let long = cells_long c.loop-at.invariant.stands in
    omega (arith, w.below, long, length-map c.loop-at.front.cells.items arc_value)

pub run_place-requires-clause-counted : goal.run_place-requires-clause-counted
run_place-requires-clause-counted g c κs within =
    omega (arith, cells_long c.loop-at.invariant.stands, runs_long c.loop-at.invariant.stands, length-map c.loop-at.front.cells.items arc_value)

pub run_place-requires-clause-reads : goal.run_place-requires-clause-reads
run_place-requires-clause-reads g c κs within =
    let w = turn c.args.order.now.order c.args.order.now.elements c.loop-at.at c.places-places.result.now d c.places-places.ensures.places c.places-places.ensures.within c.loop-at-test.true in
    let long : length c.loop-at.front.cells.items ≡ c.args.order.now.elements = sym (length-map c.loop-at.front.cells.items arc_value) ∙ cells_long c.loop-at.invariant.stands in
    rw long (c.requires.reads _ w.below)

pub run_place-requires-clause-held : goal.run_place-requires-clause-held
run_place-requires-clause-held g c κs within =
    let w = turn c.args.order.now.order c.args.order.now.elements c.loop-at.at c.places-places.result.now d c.places-places.ensures.places c.places-places.ensures.within c.loop-at-test.true in
    let laws : MayHold (g.Y.System.meaning c.args.system.now) (g.Y.System.may_hold c.args.system.now) = record { first = g.met.Y.System.first_held c.args.system.now; apply = g.met.Y.System.apply_held c.args.system.now; decide = g.met.Y.System.decide_held c.args.system.now } in
    inputs_held (g.Y.System.meaning c.args.system.now) (g.Y.System.may_hold c.args.system.now) laws c.requires.reads c.loop-at.invariant.stands _ w.below

pub run_place-requires-clause-own : goal.run_place-requires-clause-own
run_place-requires-clause-own g c κs within =
    let w = turn c.args.order.now.order c.args.order.now.elements c.loop-at.at c.places-places.result.now d c.places-places.ensures.places c.places-places.ensures.within c.loop-at-test.true in
    let laws : MayHold (g.Y.System.meaning c.args.system.now) (g.Y.System.may_hold c.args.system.now) = record { first = g.met.Y.System.first_held c.args.system.now; apply = g.met.Y.System.apply_held c.args.system.now; decide = g.met.Y.System.decide_held c.args.system.now } in
    own_held (g.Y.System.meaning c.args.system.now) (g.Y.System.may_hold c.args.system.now) laws c.loop-at.invariant.stands _ w.below

pub next_place-at-requires-clause-back : goal.next_place-at-requires-clause-back
next_place-at-requires-clause-back g c =
    let w = turn c.args.order.now.order c.args.order.now.elements c.loop-at.at c.places-places.result.now d c.places-places.ensures.places c.places-places.ensures.within c.loop-at-test.true in
    turn_back w

pub loop-at-preserved : goal.loop-at-preserved
loop-at-preserved g c =
    let w = turn c.args.order.now.order c.args.order.now.elements c.loop-at.at c.places-places.result.now d c.places-places.ensures.places c.places-places.ensures.within c.loop-at-test.true in
    let e : ℕ = (get_or c.places-places.result.now c.loop-at.at d).element in
    let below : e < length c.loop-at.front.runs.items = omega (arith, w.below, runs_long c.loop-at.invariant.stands) in
    let most : get_or c.loop-at.front.runs.items e 0 ≤ c.args.max_runs = c.loop-at.invariant.stands.within e 0 below in
    let room : get_or c.loop-at.front.runs.items e 0 < c.args.max_runs =
    let read = get_or_default c.loop-at.front.runs.items e 0 c.index.result.now below in
    lt_of_le_of_ne most (λ same. c.if-index-max_runs.false (c.index.ensures ∙ sym read ∙ same)) in
    record {
      stands = turn_keeps (map arc_value c.run_place.new.front.cells.items) c.run_place.new.front.runs.items c.next_place-at.result w c.requires.reads c.loop-at.invariant.stands room c.in_ok-again.ensures.cells c.in_ok-again.ensures.runs (rw c.in_ok-again.ensures.again at c.next_place-at.ensures);
      times = c.in_ok-again.ensures.times;
    }

pub loop-at-smaller : goal.loop-at-smaller
loop-at-smaller g c =
    let w = turn c.args.order.now.order c.args.order.now.elements c.loop-at.at c.places-places.result.now d c.places-places.ensures.places c.places-places.ensures.within c.loop-at-test.true in
    smaller (get_or c.places-places.result.now c.loop-at.at d).element c.loop-at.invariant.stands (loop-at-preserved g c).stands w.below c.in_ok-again.ensures.runs

pub returns-clause-ok : goal.returns-clause-ok
returns-clause-ok g c = rw (c.new.ensures.cells, c.new.ensures.runs) (is_result c.loop-at.invariant.stands (omega (arith, ap length c.places-places.ensures.places, c.loop-at-test.false)))
