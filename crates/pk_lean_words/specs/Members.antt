-- What the last run of an item's last element makes known of the item's other elements.
use Rattle.std.specs.Prelude.{◌≡◌, ℕ, ◌≤◌, ◌∷◌}
use Rattle.atomic_table.specs.Table.{Me}
use Rattle.pk_plan.specs.Order.{Level}
use Rattle.pk_plan.specs.Plans.{PlanView}
use Rattle.pk_plan.specs.Shape.{shape_of}
use Rattle.pk_iterate.specs.Behaviour.{Behaviour}
use Rattle.pk_iterate.specs.Ending.{Ends, result_cell}
use Rattle.pk_core.specs.Orders.{IsOrderOf}
use Rattle.pk_layout.specs.Wirings.{Wiring}
use Rattle.pk_words.specs.declared.view.View.{View}
use Rattle.pk_words.specs.Tokens.{seen_run}
use Rattle.pk_words.specs.Views.{read_view}
use Rattle.pk_words.specs.Kinds.{Kind, IsCellOf}
use Rattle.pk_words.specs.Told.{IsRunValue}

-- the cell that the recursion leaves
abbrev pub IsLastCell : {C : Type 0} → Behaviour C → PlanView → (u : ℕ) → C → Type 0
IsLastCell b p u c = (order : Level) (ends : Ends b order) → IsOrderOf (shape_of p) order → c ≡ result_cell ends u

-- A slot of u is taken: it has the cell that the recursion leaves, given by a run that is no earlier than the pass has seen of u.
abbrev pub MemberTaken : {C P S : Type 0} → Behaviour C → Wiring → (S → Kind C P) → (u slot : ℕ) → Me S View → ℕ
    → Me S View → Type 0
MemberTaken {C} {P} {S} b w kind u slot me found new =
    (x : S) × (seen : ℕ) × (new ≡ (read_view slot u seen me.0, (slot, x) ∷ me.1)) × (seen_run u me.0.notes ≤ seen)
    × ((c : C) × IsCellOf kind x c × IsRunValue b w.plan u seen c × IsLastCell b w.plan u c)
