-- What a system does, as functions of its elements and their cells.
use Rattle.std.specs.Prelude.{ℕ, List, [], ◌∷◌, ◌+◌, ◌-◌, ◌<◌, ◌≤◌, All, if◌then◌else◌, Bool, true, false, slice_get}
use Rattle.std.specs.List.{filter_map}
use Rattle.pk_plan.specs.declared.places.Role.{Role}
use Rattle.pk_plan.specs.declared.places.Role.TheVariants.{Vertex, Head, Exit}
use Rattle.pk_plan.specs.declared.places.Place.{Place}
use Rattle.pk_iterate.specs.declared.systems.Decision.{Decision}
use Rattle.pk_iterate.specs.declared.systems.Decision.TheVariants.{Stable, Again}

-- which elements' cells an element reads, its first cell, the cell that it gets from what it reads, and what it decides as an exit
pub record Behaviour (C : Type 0) : Type 0 where
  pub reads : ℕ → List ℕ
  pub first : ℕ → C
  pub apply : ℕ → List C → C
  pub decide : ℕ → List C → Decision C

-- as many cells as elements, each one that its element may hold
abbrev pub HoldEach : {C : Type 0} → (ℕ → C → Type 0) → List ℕ → List C → Type 0
HoldEach may_hold [] [] = Unit {0}
HoldEach may_hold [] (c ∷ cells) = ⊥
HoldEach may_hold (e ∷ elements) [] = ⊥
HoldEach may_hold (e ∷ elements) (c ∷ cells) = may_hold e c × HoldEach may_hold elements cells

-- the cell that an exit gets
abbrev pub decided_cell : {C : Type 0} → Decision C → C
decided_cell (Stable c) = c
decided_cell (Again c) = c

-- whether the exit decides that its component is gone through again
abbrev pub is_again : {C : Type 0} → Decision C → Bool
is_again (Stable c) = false
is_again (Again c) = true

-- the cells that an element reads, where `cells` has one for each element
abbrev pub inputs_in : {C : Type 0} → Behaviour C → List C → ℕ → List C
inputs_in b cells e = filter_map (slice_get cells) (b.reads e)

-- the cell that an element in this role gets from these inputs
abbrev pub cell_in_role : {C : Type 0} → Behaviour C → ℕ → Role → List C → C
cell_in_role b e Vertex inputs = b.apply e inputs
cell_in_role b e Head inputs = b.apply e inputs
cell_in_role b e (Exit back) inputs = decided_cell (b.decide e inputs)

abbrev pub cell_made : {C : Type 0} → Behaviour C → Place → List C → C
cell_made b place inputs = cell_in_role b place.element place.role inputs

-- whether the iteration goes back from an element in this role
abbrev pub goes_back_in_role : {C : Type 0} → Behaviour C → ℕ → Role → List C → Bool
goes_back_in_role b e Vertex inputs = false
goes_back_in_role b e Head inputs = false
goes_back_in_role b e (Exit back) inputs = is_again (b.decide e inputs)

abbrev pub goes_back : {C : Type 0} → Behaviour C → Place → List C → Bool
goes_back b place inputs = goes_back_in_role b place.element place.role inputs

-- whether an element in this role gets the cell that `apply` gives
abbrev pub is_applied : Role → Bool
is_applied Vertex = true
is_applied Head = true
is_applied (Exit back) = false

-- the place after this one
abbrev pub place_after : ℕ → Role → Bool → ℕ
place_after at Vertex again = at + 1
place_after at Head again = at + 1
place_after at (Exit back) again = if again then at - back else at + 1

-- an exit's head stands among the places before it
abbrev pub LeadsBackWithin : ℕ → Role → Type 0
LeadsBackWithin at Vertex = Unit {0}
LeadsBackWithin at Head = Unit {0}
LeadsBackWithin at (Exit back) = back ≤ at

-- the elements read elements alone
abbrev pub ReadsWithin : {C : Type 0} → Behaviour C → ℕ → Type 0
ReadsWithin b elements = (e : ℕ) → e < elements → All (λ u. u < elements) (b.reads e)
