-- The elements as the code keeps them.
use Rattle.std.specs.Prelude.{◌≡◌, ℕ, zero, suc, ◌+◌, ◌==◌, List, [], ◌∷◌, length, map, slice_get, Some, if◌then◌else◌}
use Rattle.std.specs.Arc.{arc_value}
use Rattle.pk_plan.specs.declared.components.Component.{Component}
use Rattle.pk_plan.specs.Plans.{PlanView, predecessors_of, members_of, inner_count}
use Rattle.pk_iterate.specs.Behaviour.{Behaviour, ReadsWithin}
use Rattle.pk_core.specs.declared.events.Status.{Status}
use Rattle.pk_core.specs.declared.events.Status.TheVariants.{Waiting, Held}
use Rattle.pk_core.specs.declared.entries.Entry.{Entry}
use Rattle.pk_core.specs.Events.{start_status, arrived, without}
use Rattle.pk_core.specs.Shown.{Standing}

abbrev pub standing_of : {C : Type 0} → Entry C → Standing C
standing_of x = record { status = x.status; run = x.run; cell = arc_value x.cell; sends = x.sends.items }

-- an element at the start
abbrev pub first_standing : {C : Type 0} → Behaviour C → PlanView → ℕ → Standing C
first_standing b p e = record { status = start_status (predecessors_of p e); run = 0; cell = b.first e; sends = [] }

abbrev pub cells_of : {C : Type 0} → List (Standing C) → List C
cells_of xs = map (λ x. x.cell) xs

-- the element e is changed, and no other
abbrev pub changed : {C : Type 0} → List (Standing C) → ℕ → (Standing C → Standing C) → List (Standing C)
changed [] e change = []
changed (x ∷ xs) zero change = change x ∷ xs
changed (x ∷ xs) (suc e) change = x ∷ changed xs e change

abbrev pub with_new_status : {C : Type 0} → Status → Standing C → Standing C
with_new_status status x = record { status = status; run = x.run; cell = x.cell; sends = x.sends }

abbrev pub with_sends : {C : Type 0} → List ℕ → Standing C → Standing C
with_sends sends x = record { status = x.status; run = x.run; cell = x.cell; sends = sends }

abbrev pub without_send : {C : Type 0} → ℕ → Standing C → Standing C
without_send v x = with_sends (without v x.sends) x

abbrev pub with_arrival : {C : Type 0} → Standing C → Standing C
with_arrival x = with_new_status (arrived x.status) x

-- an element that was run once more
abbrev pub after_run : {C : Type 0} → Status → C → Standing C → Standing C
after_run status cell x = record { status = status; run = x.run + 1; cell = cell; sends = x.sends }

-- the status of a member of a component that is gone through again: the head is held, any other waits for its predecessors in the component
abbrev pub armed : PlanView → Component → ℕ → Status
armed p c e = if e == c.head then Held else Waiting (inner_count p c e)

-- these elements have that status
abbrev pub rearmed : {C : Type 0} → PlanView → Component → List ℕ → List (Standing C) → List (Standing C)
rearmed p c [] xs = xs
rearmed p c (e ∷ es) xs = rearmed p c es (changed xs e (with_new_status (armed p c e)))

-- after a run of its exit, which gave this cell, a component is gone through again: its exit and its members wait for one another, but the head is held
abbrev pub restarted : {C : Type 0} → PlanView → Component → C → List (Standing C) → List (Standing C)
restarted p c cell xs = rearmed p c (members_of p c)
    (changed xs c.exit (after_run (Waiting (inner_count p c c.exit)) cell))

-- so many, each with a cell that it may hold; and the elements read elements alone
pub record AreKept {C : Type 0} (b : Behaviour C) (may_hold : ℕ → C → Type 0) (elements : ℕ)
    (xs : List (Standing C)) : Type 0 where
  pub long : length xs ≡ elements
  pub held : (e : ℕ) (x : Standing C) → slice_get xs e ≡ Some x → may_hold e x.cell
  pub within : ReadsWithin b elements
