-- The lines of an order.
use Rattle.std.specs.Prelude.{◌≡◌, ℕ, ◌++◌, List, [], Bool, codes, if◌then◌else◌}
use Rattle.std.specs.Fmt.{decimal}
use Rattle.pk_plan.specs.Order.{Level}
use Rattle.pk_plan.specs.Plans.{PlanView}
use Rattle.pk_linear.specs.Texts.{order_text}
use Rattle.pk_order.specs.Ordered.{IsOrdered}
use Rattle.pk_peak.specs.Peak.{peak_of}

-- the end of the line before, and the line of a peak without its own end
abbrev pub peak_line : ℕ → List ℕ
peak_line peak = codes "\npeak " ++ decimal peak

-- an order's line, and its peak's where it is asked for, without the end of the last
abbrev pub order_lines : PlanView → Level → (with_peak : Bool) → List ℕ
order_lines plan order with_peak =
    order_text (record { elements = plan.elements; order = order })
    ++ (if with_peak then peak_line (peak_of plan order) else [])

-- a digraph has one order with one peak, and so its lines
abbrev pub OrderLinesAreDetermined : Type 0
OrderLinesAreDetermined = (g : List (List ℕ)) (p q : PlanView) (one other : Level) (with_peak : Bool) →
    IsOrdered g p one → IsOrdered g q other → order_lines p one with_peak ≡ order_lines q other with_peak
