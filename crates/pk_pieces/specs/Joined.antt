-- The report as the join of its pieces.
use Rattle.std.specs.Prelude.{◌≡◌, ℕ, Bool, List, ◌++◌, length, map}
use Rattle.std.specs.List.{flat_map, range_with_len, zip}
use Rattle.pk_graph.specs.declared.verdicts.Verdict.{Verdict}
use Rattle.pk_graph.specs.Accesses.{AccessOf, accesses_of}
use Rattle.pk_graph.specs.Graphs.{GraphOf}
use Rattle.pk_state.specs.Facts.{Stated}
use Rattle.pk_verdict.specs.Verdicts.{verdict_of}
use Rattle.pk_report.specs.Reports.{access_line, first_line, is_head, last_line, report_text, state_at, told_if}
use Rattle.pk_pieces.specs.Accesses.{accesses_at}
use Rattle.pk_pieces.specs.Pieces.{PieceOf, lines_in, verdicts_in}

-- the verdict on an access by a reduced state, which is that of its point
abbrev pub verdict_by : Stated → AccessOf → Verdict
verdict_by s a = verdict_of s.layout s.facts a.operation

abbrev pub verdict_at : List Stated → AccessOf → Verdict
verdict_at states a = verdict_by (state_at states a.point) a

abbrev pub verdicts_of : GraphOf → List Stated → List Verdict
verdicts_of g states = map (verdict_at states) (accesses_of g)

-- the piece of a point by its reduced state: the lines of a head, or of any point where all are told, and the verdicts
abbrev pub piece_by : (all : Bool) → GraphOf → (is_head : Bool) → Stated → ℕ → PieceOf
piece_by all g is_head s v =
    record { point = v; lines = told_if all g s is_head v; verdicts = map (verdict_by s) (accesses_at g v) }

abbrev pub piece_of : (all : Bool) → GraphOf → (heads : List ℕ) → List Stated → ℕ → PieceOf
piece_of all g heads states v = piece_by all g (is_head heads v) (state_at states v) v

-- that of each point, in order
abbrev pub pieces_of : (all : Bool) → GraphOf → (heads : List ℕ) → List Stated → List PieceOf
pieces_of all g heads states = map (piece_of all g heads states) (range_with_len 0 (length g.points))

-- the first line, the pieces' lines, the accesses with the pieces' verdicts, and the last line
abbrev pub joined : GraphOf → (elements : ℕ) → List PieceOf → List ℕ
joined g elements ps =
    first_line g elements ++ lines_in ps ++ flat_map (access_line g.paths) (zip (accesses_of g) (verdicts_in ps))
    ++ last_line (verdicts_in ps)

-- The report is the join of the pieces of all points.
pub record ReportsAreJoined : Type 0 where
  pub texts : (all : Bool) (g : GraphOf) (heads : List ℕ) (elements : ℕ) (states : List Stated) →
      joined g elements (pieces_of all g heads states)
      ≡ report_text all g heads elements states (accesses_of g) (verdicts_of g states)
  pub verdicts : (all : Bool) (g : GraphOf) (heads : List ℕ) (states : List Stated) →
      verdicts_in (pieces_of all g heads states) ≡ verdicts_of g states
