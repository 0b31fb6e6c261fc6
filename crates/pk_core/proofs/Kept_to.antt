-- Every list of events keeps to the recursion, over a plan.
use Rattle.std.proofs.Common.{◌≤◌, List, length, arith}
use Rattle.pk_plan.specs.Order.{Level}
use Rattle.pk_plan.specs.Plans.{PlanView}
use Rattle.pk_plan.specs.Axioms.{Axioms as PlanAxioms}
use Rattle.pk_plan.specs.Shape.{shape_of}
use Rattle.pk_iterate.specs.Behaviour.{Behaviour}
use Rattle.pk_iterate.specs.Ending.{Ends, trace}
use Rattle.pk_core.specs.declared.events.Event.{Event}
use Rattle.pk_core.specs.States.{State}
use Rattle.pk_core.specs.Events.{start, AllEnabled, played}
use Rattle.pk_core.specs.Orders.{IsOrderOf}
use Rattle.pk_iterate.specs.Fits.{FitsPlan}
use Rattle.pk_core.specs.Promises.{runs_in, KeepsTo, EveryListKeeps}
use Rattle.pk_core.proofs.Plan_shapes.{plan_shape, comparable, has_of}
use Rattle.pk_core.proofs.Plays.{Agrees, every_play}

keeps_to : {C : Type 0} (b : Behaviour C) (p : PlanView) {order : Level} (ends : Ends b order) (s : State C) → Agrees b (shape_of p) (trace ends) s → KeepsTo b p ends s
keeps_to b p ends s a = record {
  cells = a.cells;
  bounded = a.bounded;
  fewer = a.fewer;
  reads = a.reads;
  apart = λ e u below i ne he hu. a.apart e u below (has_of u (b.reads e) i) ne he hu;
  goes_on = a.goes_on;
  over = λ done e below. let o = a.ends done e below in record { cell = o.0; run = o.1; status = o.2; sends = o.3 };
}

pub every_list : {C : Type 0} (b : Behaviour C) → EveryListKeeps b
every_list b = record {
  keeps = λ p order ends events axioms ordered fits all. keeps_to b p ends (played b (shape_of p) (start (shape_of p)) events) (play p order ends events axioms ordered fits all).0;
  runs = λ p order ends events axioms ordered fits all. (play p order ends events axioms ordered fits all).1;
}
  where
    play : (p : PlanView) (order : Level) (ends : Ends b order) (events : List Event) → PlanAxioms p → IsOrderOf (shape_of p) order → FitsPlan b p → AllEnabled b (shape_of p) (start (shape_of p)) events → Agrees b (shape_of p) (trace ends) (played b (shape_of p) (start (shape_of p)) events) × (runs_in events ≤ length (trace ends))
    play p order ends events axioms ordered fits all =
        every_play b (shape_of p) order ends.made (plan_shape p axioms) (comparable b p axioms fits) ordered (let n = axioms.counted in omega (arith, n)) ends.whole events all
