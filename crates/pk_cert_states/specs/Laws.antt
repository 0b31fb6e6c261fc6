-- Facts and their lines determine one another, and each line is of a state or of none.
use Rattle.std.specs.Prelude.{◌≡◌, ◌⊎◌, ℕ, Option}
use Rattle.pk_graph.specs.Graphs.{GraphOf, kinds_of}
use Rattle.pk_state.specs.Facts.{Facts, AreFactsIf}
use Rattle.pk_transfer.specs.Graphs.{layout_of}
use Rattle.pk_cert.specs.Rows.{Line, IsLine, kept_line, seen_line}
use Rattle.pk_cert_states.specs.Lines.{line_of, shape_of, IsState}

-- The line of these facts has as many numbers and bounds as the graph and the octagon, of at most 39 digits; each is kept by a reader, and no other facts have the line.
pub record IsLineOf (g : GraphOf) (n : ℕ) (f : Option Facts) : Type 0 where
  pub line : IsLine (shape_of (kinds_of g) (layout_of g n)) (line_of (kinds_of g) f)
  pub kept : seen_line (line_of (kinds_of g) f) ≡ kept_line (line_of (kinds_of g) f)
  pub only : (h : Option Facts) → AreFactsIf (layout_of g n) h → line_of (kinds_of g) f ≡ line_of (kinds_of g) h → f ≡ h

abbrev pub FactsHaveLines : Type 0
FactsHaveLines = (g : GraphOf) (n : ℕ) (f : Option Facts) → AreFactsIf (layout_of g n) f → IsLineOf g n f

-- Each line, of the graph's shape or not, is that of a state over the layout, or of none.
abbrev pub EveryLineIsSettled : Type 0
EveryLineIsSettled =
    (g : GraphOf) (n : ℕ) (line : Line) →
    IsState (kinds_of g) (layout_of g n) line ⊎ (IsState (kinds_of g) (layout_of g n) line → ⊥)
