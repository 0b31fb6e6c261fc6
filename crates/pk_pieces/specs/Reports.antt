-- A report so far.
use Rattle.std.specs.Prelude.{◌≡◌, ℕ, List, ◌++◌}
use Rattle.pk_pieces.specs.declared.reports.Report.{Report}
use Rattle.pk_pieces.specs.Pieces.{PieceOf, lines_in, verdicts_in}

-- it has this first line, the lines of these pieces, and their verdicts
pub record IsSoFar (first : List ℕ) (ps : List PieceOf) (r : Report) : Type 0 where
  pub bytes : r.bytes.items ≡ first ++ lines_in ps
  pub verdicts : r.verdicts.items ≡ verdicts_in ps
