-- Where a loop of a text into which nothing jumps begins again is a head.
use Rattle.std.specs.Prelude.{ℕ, List, Contains}
use Rattle.pk_ctypes.specs.declared.places.Pos.{Pos}
use Rattle.pk_graph.specs.Graphs.{GraphOf}
use Rattle.pk_text_graph.specs.Graphs.{HasGraph}
use Rattle.pk_visits.specs.Turns.{TurnPoint, turning}
use Rattle.pk_visits.specs.Turning.{graph_turns}
use Rattle.pk_loop_heads.specs.Laws.{IsPlainLoop, IsHeadIfTurned}

-- wherever a plain loop of a path begins again
abbrev pub TurnsAreHeads : GraphOf → (IsPlain : ℕ → Pos → Type 0) → (turns : ℕ → List TurnPoint) → Type 0
TurnsAreHeads g IsPlain turns =
    (path : ℕ) (at : Pos) (t : ℕ) → IsPlain path at → Contains (turns path) (turning at t) → IsHeadIfTurned g t

-- So it is in the graph of every text.
abbrev pub TurnsOfTextsAreHeads : Type 0
TurnsOfTextsAreHeads =
    (text entry : List ℕ) (g : GraphOf) (h : HasGraph text entry g) →
    TurnsAreHeads g (IsPlainLoop h.unit h.paths) (graph_turns h.unit h.paths)
