-- Which points are kept in a state of the scheduler's core, where what is over is let go of.
use Rattle.std.specs.Prelude.{ℕ, ◌&&◌, ◌||◌, not, Bool, true, false, count_by, nat_lt}
use Rattle.std.specs.List.{range_with_len, list_any}
use Rattle.pk_plan.specs.Plans.{PlanView, end_of}
use Rattle.pk_plan.specs.Shape.{has}
use Rattle.pk_iterate.specs.Behaviour.{Behaviour}
use Rattle.pk_core.specs.declared.events.Status.{Status}
use Rattle.pk_core.specs.declared.events.Status.TheVariants.{Waiting, Open, Held, Done}
use Rattle.pk_core.specs.States.{State, run_number}
use Rattle.pk_peak.specs.Peak.{leads_from}
use Rattle.pk_items.specs.Items.{top_of}

abbrev pub is_done : Status → Bool
is_done (Waiting n) = false
is_done Open = false
is_done Held = false
is_done Done = true

abbrev pub was_run : {C : Type 0} → State C → ℕ → Bool
was_run s e = nat_lt 0 (run_number (s e))

-- whether an element's item is over: its last element is done
abbrev pub is_over : {C : Type 0} → PlanView → State C → ℕ → Bool
is_over p s e = is_done (s (top_of p e)).status

-- whether some item that isn't over reads the element's: a constraint leads from there to an element of it, END apart
abbrev pub is_read : {C : Type 0} → PlanView → State C → ℕ → Bool
is_read p s e =
    list_any (λ b. not (is_over p s b) && leads_from p (top_of p) (top_of p e) b) (range_with_len 0 (end_of p))

-- A point is kept where it was run, and its own item, or one that reads its item, isn't over.
abbrev pub is_kept : {C : Type 0} → PlanView → State C → ℕ → Bool
is_kept p s e = was_run s e && (not (is_over p s e) || is_read p s e)

abbrev pub kept_points : {C : Type 0} → PlanView → State C → ℕ
kept_points p s = count_by (is_kept p s) (range_with_len 0 p.points)

-- whether an element whose item isn't over reads the point's cell
abbrev pub is_awaited : {C : Type 0} → Behaviour C → PlanView → State C → ℕ → Bool
is_awaited b p s u = list_any (λ e. not (is_over p s e) && has u (b.reads e)) (range_with_len 0 p.elements)

-- Where the slots of an item's elements are emptied once it is over, a point that was run has a cell as long as its own item, or that
-- of an element that reads it, isn't over.
abbrev pub has_cell : {C : Type 0} → Behaviour C → PlanView → State C → ℕ → Bool
has_cell b p s u = was_run s u && (not (is_over p s u) || is_awaited b p s u)

abbrev pub cells_left : {C : Type 0} → Behaviour C → PlanView → State C → ℕ
cells_left b p s = count_by (has_cell b p s) (range_with_len 0 p.points)
