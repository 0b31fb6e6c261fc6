-- The cells of a graph's points, and the certificate that they make.
use Rattle.std.specs.Prelude.{◌≡◌, ℕ, ◌<◌, ◌≤◌, List, map, length, take, All, Option, None}
use Rattle.pk_graph.specs.Graphs.{GraphOf, kinds_of}
use Rattle.pk_state.specs.Layouts.{Layout}
use Rattle.pk_state.specs.Facts.{Facts, Stated}
use Rattle.pk_transfer.specs.Graphs.{layout_of}
use Rattle.pk_phases.specs.declared.equations.Cell.{Cell}
use Rattle.pk_phases.specs.Equations.{value_of}
use Rattle.pk_cert.specs.Heads.{HeadOf}
use Rattle.pk_cert.specs.Certificates.{certificate_text}
use Rattle.pk_cert_states.specs.Lines.{line_of}
use Rattle.pk_cert_cells.specs.declared.failures.Unwritten.{Unwritten}
use Rattle.pk_cert_cells.specs.declared.failures.Unwritten.TheVariants.{Limit, Memory}

-- no run comes there
abbrev pub nowhere : Layout → Stated
nowhere l = record { layout = l; facts = None }

abbrev pub state_in : Layout → Cell Stated → Stated
state_in l = value_of (nowhere l)

-- what is known at each of so many points
abbrev pub facts_in : Layout → ℕ → List (Cell Stated) → List (Option Facts)
facts_in l points cells = map (λ (c : Cell Stated). (state_in l c).facts) (take points cells)

-- there is a cell for each point, and each is over the layout
pub record AreCells (l : Layout) (points : ℕ) (cells : List (Cell Stated)) : Type 0 where
  pub enough : points ≤ length cells
  pub over : All (λ (c : Cell Stated). (state_in l c).layout ≡ l) cells

abbrev pub head_of : List ℕ → ℕ → List ℕ → HeadOf
head_of text oct entry = record { text = text; oct = oct; entry = entry }

-- the certificate of what is known at each point
abbrev pub certificate_of : GraphOf → HeadOf → List (Option Facts) → List ℕ
certificate_of g h known = certificate_text h (map (line_of (kinds_of g)) known)

-- the certificate of a graph's cells
abbrev pub cells_text : GraphOf → HeadOf → List (Cell Stated) → List ℕ
cells_text g h cells = certificate_of g h (facts_in (layout_of g h.oct) (length g.points) cells)

-- how many bytes a certificate has at most
abbrev pub most_bytes : ℕ
most_bytes = 67108864

-- why this text isn't written: it has more bytes than that, or memory was wanting
abbrev pub IsUnwritten : List ℕ → Unwritten → Type 0
IsUnwritten text Limit = most_bytes < length text
IsUnwritten text Memory = Unit {0}
