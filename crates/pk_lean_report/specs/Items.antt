-- What is kept of the items of a plan.
use Rattle.std.specs.Prelude.{◌≡◌, ℕ, List, map}
use Rattle.pk_plan.specs.Plans.{PlanView}
use Rattle.pk_iterate.specs.Outcome.{Outcome}
use Rattle.pk_phases.specs.declared.equations.Cell.{Cell}
use Rattle.pk_state.specs.Facts.{Stated}
use Rattle.pk_analysis.specs.declared.analysis.Options.{Options}
use Rattle.pk_board.specs.Parts.{items_of, part_in}
use Rattle.pk_pieces.specs.Pieces.{PieceOf}
use Rattle.pk_parts.specs.Kept.{ReportingOf, part_of}
use Rattle.pk_solver.specs.Solved.{IsOutcomeOf}

-- There is a result of the recursive iteration, and these are the parts of the plan's items by it.
pub record AreOfItems (o : Options) (p : PlanView) (r : ReportingOf) (most : ℕ) (kept : List (List PieceOf)) : Type 0 where
  pub outcome : Outcome (Cell Stated)
  pub is : IsOutcomeOf o p r.flow most outcome
  pub made : kept ≡ map (part_in p (part_of r) outcome.cells) (items_of p)
