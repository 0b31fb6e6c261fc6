-- A plan, a system over it, and what the iteration leaves.
use Rattle.std.specs.Prelude.{◌≡◌, ℕ, ◌≤◌, ◌⊎◌, List, length}
use Rattle.pk_plan.specs.Plans.{PlanView, Precedes}
use Rattle.pk_iterate.specs.Fits.{FitsPlan, IsHeadOver}
use Rattle.pk_iterate.specs.Outcome.{Outcome}
use Rattle.pk_words.specs.Reads.{HasEnd}
use Rattle.pk_board_tests.specs.Summing.{summing}

-- e may read u
abbrev pub MayRead : PlanView → ℕ → ℕ → Type 0
MayRead p e u = (u ≡ e) ⊎ (Precedes p u e ⊎ IsHeadOver p e u)

-- a cell and a number of runs for each element
pub record HasEach {C : Type 0} (elements : ℕ) (it : Outcome C) : Type 0 where
  pub cells : length it.cells ≡ elements
  pub runs : length it.runs ≡ elements

-- all that a board asks
pub record IsPrepared (p : PlanView) (rows : List (List ℕ)) (it : Outcome ℕ) : Type 0 where
  pub fits : FitsPlan (summing rows) p
  pub ends : HasEnd (summing rows) p
  pub few : p.elements ≤ 131073
  pub each : HasEach p.elements it
