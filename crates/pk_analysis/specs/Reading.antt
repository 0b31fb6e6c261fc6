-- What is kept beside a graph so that it is found fast.
use Rattle.std.specs.Prelude.{◌≡◌, ℕ, ◌<◌, ◌≤◌, ℤ, List, ◌∷◌, length, Some}
use Rattle.std.specs.List.Sorted.{IsSorted}
use Rattle.std.specs.Ordering.{int_cmp}
use Rattle.pk_graph.specs.Graphs.{GraphOf, kinds_of}
use Rattle.pk_state.specs.Layouts.{Layout}
use Rattle.pk_state.specs.Facts.{Stated}
use Rattle.pk_transfer.specs.Trees.{IsOver}
use Rattle.pk_phases.specs.declared.equations.Part.{Part}
use Rattle.pk_phases.specs.declared.equations.Part.TheVariants.{Point, HeadOf, ExitOf}
use Rattle.pk_analysis.specs.declared.arrows.Arrow.{Arrow}
use Rattle.pk_analysis.specs.Arrows.{origins, row_at, AreArrows}
use Rattle.pk_analysis.specs.Parts.{part_at}
use Rattle.pk_analysis.specs.Starts.{start_facts}
use Rattle.pk_analysis.specs.Flows.{stated}

-- what an element reads, where these edges lead to each point
abbrev pub read_by : List (List Arrow) → ℕ → Part → List ℕ
read_by rows e Point = origins (row_at rows e)
read_by rows e (HeadOf exit) = exit ∷ (e ∷ origins (row_at rows e))
read_by rows e (ExitOf head) = e ∷ (head ∷ origins (row_at rows head))

pub record AreReads (rows : List (List Arrow)) (parts : List Part) (reads : List (List ℕ)) : Type 0 where
  pub size : length reads ≡ length parts
  pub each : (e : ℕ) → e < length parts → row_at reads e ≡ read_by rows e (part_at parts e)

pub record IsIndexed (g : GraphOf) (l : Layout) (thresholds : List ℤ) (parts : List Part) (rows : List (List Arrow))
    (reads : List (List ℕ)) (start : Stated) : Type 0 where
  pub over : IsOver (kinds_of g) l
  pub enough : length g.points ≤ length parts
  pub rising : IsSorted int_cmp thresholds
  pub arrows_are : AreArrows g rows
  pub reads_are : AreReads rows parts reads
  pub start_is : start ≡ stated l (Some (start_facts g l))
