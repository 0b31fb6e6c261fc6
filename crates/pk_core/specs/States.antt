-- The states of the scheduler's core: each element has a status, the runs that it has made, and the sends that it has left.
use Rattle.std.specs.Prelude.{ℕ, List, [], ◌∷◌, map, length}
use Rattle.pk_iterate.specs.Behaviour.{Behaviour}
use Rattle.pk_core.specs.declared.events.Status.{Status}

-- a run that was made: the cells that it read, and the cell that it gave
pub record Made (C : Type 0) : Type 0 where
  pub read : List C
  pub gave : C

-- an element's status, its runs so far, the newest first, and the successors to which it has yet to send
pub record Element (C : Type 0) : Type 0 where
  pub status : Status
  pub made : List (Made C)
  pub sends : List ℕ

-- elements are named by number
abbrev pub State : Type 0 → Type 0
State C = ℕ → Element C

-- its run number
abbrev pub run_number : {C : Type 0} → Element C → ℕ
run_number x = length x.made

-- its cell: that of its newest run, and before any run its first
abbrev pub newest : {C : Type 0} → C → List (Made C) → C
newest first [] = first
newest first (r ∷ rs) = r.gave

abbrev pub cell_in : {C : Type 0} → Behaviour C → State C → ℕ → C
cell_in b s e = newest (b.first e) (s e).made

-- the cells that an element reads
abbrev pub inputs_of : {C : Type 0} → Behaviour C → State C → ℕ → List C
inputs_of b s e = map (cell_in b s) (b.reads e)
