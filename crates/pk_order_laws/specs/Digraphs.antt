-- Every digraph has an order.
use Rattle.std.specs.Prelude.{ℕ, ◌<◌, ◌^◌, List, length}
use Rattle.pk_plan.specs.Digraphs.{IsClosed}
use Rattle.pk_plan.specs.Order.{Level}
use Rattle.pk_plan.specs.Plans.{PlanView}
use Rattle.pk_order.specs.Ordered.{IsOrdered}

-- each closed digraph with fewer than 2^31 vertices
abbrev pub EveryDigraphHasAnOrder : Type 0
EveryDigraphHasAnOrder =
    (g : List (List ℕ)) → IsClosed g → length g < 2 ^ 31 → (p : PlanView) × (order : Level) × IsOrdered g p order
