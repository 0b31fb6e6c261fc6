-- What a check of bytes tells is true of each run of the graph of the text in their head.
use Rattle.std.specs.Prelude.{ℕ, ◌<◌, ◌≤◌, ◌^◌, List}
use Rattle.std.proofs.Common.{arith}
use Rattle.pk_transfer.specs.Graphs.{layout_of}
use Rattle.pk_text_graph.specs.Graphs.{GraphsAreWellMade}
use Rattle.pk_cert_laws.specs.Checks.{ReadCellsHoldStates}
use Rattle.pk_cert_report.specs.Checked.{reduced_states, IsValid}
use Rattle.pk_report_laws.specs.Runs.True.{AreTrueStates, CheckedCellsAreTrue}

few : (n : ℕ) → n ≤ 64 → n < 2 ^ 31
few n h = omega (arith, h)

pub valid_true : CheckedCellsAreTrue → ReadCellsHoldStates → GraphsAreWellMade → (bytes : List ℕ) (unknown : ℕ) (told : List ℕ) (x : IsValid bytes unknown told) → AreTrueStates x.graph (reduced_states (layout_of x.graph x.head.oct) x.cells)
valid_true law hold made bytes unknown told x =
    law x.graph x.head.oct x.cells (made x.head.text x.head.entry x.graph x.of_graph.has_graph) (few x.head.oct x.of_graph.begins.is.oct)
    (hold x.graph x.head bytes x.cells x.read) x.solved
