-- What is read, element by element.
use Rattle.std.proofs.Common.{◌≡◌, ◌<◌, ℕ, List, length}
use Rattle.pk_phases.specs.declared.equations.Part.{Part}
use Rattle.pk_analysis.specs.declared.arrows.Arrow.{Arrow}
use Rattle.pk_analysis.specs.Arrows.{row_at}
use Rattle.pk_analysis.specs.Parts.{part_at}
use Rattle.pk_analysis.specs.Reading.{read_by}

-- those of the first k elements
pub record ReadsTo (rows : List (List Arrow)) (parts : List Part) (k : ℕ) (reads : List (List ℕ)) : Type 0 where
  pub size : length reads ≡ k
  pub each : (e : ℕ) → e < k → row_at reads e ≡ read_by rows e (part_at parts e)
