-- The recursive iteration of a system over a bracketed order, run by run.
use Rattle.std.specs.Prelude.{ℕ, zero, suc, ◌==◌, List, [], ◌∷◌, map, count_by, Option, Some, None, if◌then◌else◌}
use Rattle.pk_plan.specs.Order.{Level, Empty, Vertex_then, Component_then}
use Rattle.pk_iterate.specs.declared.systems.Decision.{Decision}
use Rattle.pk_iterate.specs.declared.systems.Decision.TheVariants.{Stable, Again}
use Rattle.pk_iterate.specs.Behaviour.{Behaviour}

-- a run that is left to do: of an element, or of the exit of a component
pub data Task : Type 0 where
  Run : (e : ℕ) → Task
  Exit : (head exit : ℕ) → Level → Task

-- A level is gone through from left to right: a vertex is run once,
-- and of a component the head is run, then its rest is gone through, and then its exit is run.
abbrev pub to_do : Level → List Task → List Task
to_do Empty left = left
to_do (Vertex_then v more) left = Run v ∷ to_do more left
to_do (Component_then head exit rest more) left = Run head ∷ to_do rest (Exit head exit rest ∷ to_do more left)

abbrev pub element_of : Task → ℕ
element_of (Run e) = e
element_of (Exit head exit rest) = exit

abbrev pub next_element : List Task → Option ℕ
next_element [] = None
next_element (task ∷ left) = Some (element_of task)

-- The runs that were made, the newest first, each an element and the cell that it got, and what is left to do.
pub record Progress (C : Type 0) : Type 0 where
  pub runs : List (ℕ × C)
  pub left : List Task

-- how often an element was run
abbrev pub count_of : {C : Type 0} → List (ℕ × C) → ℕ → ℕ
count_of runs e = count_by (λ r. r.0 == e) runs

-- an element's cell: that of its newest run, and before any run its first
abbrev pub cell_after : {C : Type 0} → Behaviour C → List (ℕ × C) → ℕ → C
cell_after b [] e = b.first e
cell_after b (r ∷ runs) e = if r.0 == e then r.1 else cell_after b runs e

-- the cells that an element reads
abbrev pub inputs_after : {C : Type 0} → Behaviour C → List (ℕ × C) → ℕ → List C
inputs_after b runs e = map (cell_after b runs) (b.reads e)

-- the exit's run; where it decides Again, its component is gone through again
abbrev pub decided : {C : Type 0} → List (ℕ × C) → (head exit : ℕ) → Level → List Task → Decision C → Progress C
decided runs head exit rest left (Stable c) = record { runs = (exit, c) ∷ runs; left = left }
decided runs head exit rest left (Again c) =
    record { runs = (exit, c) ∷ runs; left = to_do (Component_then head exit rest Empty) left }

-- the next run, if any is left
abbrev pub next_run : {C : Type 0} → Behaviour C → List (ℕ × C) → List Task → Progress C
next_run b runs [] = record { runs = runs; left = [] }
next_run b runs (Run e ∷ left) = record { runs = (e, b.apply e (inputs_after b runs e)) ∷ runs; left = left }
next_run b runs (Exit head exit rest ∷ left) =
    decided runs head exit rest left (b.decide exit (inputs_after b runs exit))

-- the first n runs of the iteration
unfoldable pub progress : {C : Type 0} → Behaviour C → Level → ℕ → Progress C
progress b order zero = record { runs = []; left = to_do order [] }
progress b order (suc n) = next_run b (progress b order n).runs (progress b order n).left
