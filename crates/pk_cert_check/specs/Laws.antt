-- A check has an answer, and one.
use Rattle.std.specs.Prelude.{◌≡◌, ℕ, List, Option}
use Rattle.pk_graph.specs.Graphs.{GraphOf}
use Rattle.pk_state.specs.Layouts.{Layout}
use Rattle.pk_state.specs.Facts.{Stated}
use Rattle.pk_phases.specs.declared.equations.Cell.{Cell}
use Rattle.pk_sound.specs.Families.{IsLaidOut, AreFactsOf}
use Rattle.pk_cert_check.specs.Checked.{known_by, IsChecked}

-- Cells solve all equations, or there is one first point at which they don't, and not both.
abbrev pub OneCheck : Type 0
OneCheck =
    (g : GraphOf) (l : Layout) (cells : List (Cell Stated)) (a b : Option ℕ) → IsLaidOut g l →
    IsChecked g l cells a → IsChecked g l cells b → a ≡ b

-- Cells that hold facts of the layout at each point solve all equations, or there is a first point at which they don't.
abbrev pub EveryCheckEnds : Type 0
EveryCheckEnds =
    (g : GraphOf) (l : Layout) (cells : List (Cell Stated)) → IsLaidOut g l → AreFactsOf g l (known_by l cells) →
    (o : Option ℕ) × IsChecked g l cells o
