-- What a check that ends well says of a graph's runs, whoever made the cells.
use Rattle.std.specs.Prelude.{◌≡◌, ◌⊎◌, ℕ, ◌<◌, ◌^◌, ℤ, List, Option, None, Contains}
use Rattle.pk_graph.specs.declared.verdicts.Verdict.TheVariants.{Unknown}
use Rattle.pk_graph.specs.Graphs.{EdgeOf, GraphOf, point_at}
use Rattle.pk_graph.specs.WellMade.{IsGraph}
use Rattle.pk_graph.specs.Steps.{Numbers, Failure, Faulted, effect}
use Rattle.pk_graph.specs.Stores.{Stored, storing}
use Rattle.pk_graph.specs.Accesses.{AccessOf, accesses_of}
use Rattle.pk_state.specs.Layouts.{Layout}
use Rattle.pk_state.specs.Facts.{Facts, Stated}
use Rattle.pk_state.specs.Reduced.{reduced}
use Rattle.pk_transfer.specs.Graphs.{layout_of}
use Rattle.pk_verdict.specs.Verdicts.{verdict_of}
use Rattle.pk_phases.specs.declared.equations.Cell.{Cell}
use Rattle.pk_sound.specs.Runs.{Reaches}
use Rattle.pk_sound.specs.Faults.{IsHidden, IsFailing}
use Rattle.pk_sound.specs.Bounds.{IsDecidedWithin}
use Rattle.pk_sound.specs.FamilyRuns.{IsHeldBy, IsRightBy, IsUnknownBy}
use Rattle.pk_cert_check.specs.Checked.{known_by, IsChecked}

-- Each store with which some run comes to a point agrees with what is known there, reduced or not. By what is known once it is reduced no run faults at an access that is safe, none evaluates one that is unreachable, and what decides one that is unknown lies between its bounds. A run that faults does so at an access that is unknown, or at an index that is no access.
pub record HoldRuns (g : GraphOf) (l : Layout) (known : ℕ → Option Facts) : Type 0 where
  pub stores : (v : ℕ) (s : Stored) → Reaches g v s → IsHeldBy g l (known v) s
  pub judged : (a : AccessOf) (s : Stored) → Contains (accesses_of g) a → Reaches g a.point s →
      IsRightBy l (known a.point) a s
  pub bounds : (a : AccessOf) (lo hi : ℤ) → Contains (accesses_of g) a →
      verdict_of l (reduced l (known a.point)) a.operation ≡ Unknown lo hi → IsDecidedWithin g a.point a.operation lo hi
  pub faults : (p : ℕ) (s : Stored) (e : EdgeOf) (chosen : Numbers) (w : Failure) → Reaches g p s →
      Contains (point_at g p).edges e → effect storing chosen e.instr s ≡ Faulted w
      → ((a : AccessOf) × IsFailing p e.instr w s a × IsUnknownBy l (known p) a) ⊎ IsHidden e.instr w.site s

abbrev pub CheckedCellsHoldRuns : Type 0
CheckedCellsHoldRuns =
    (g : GraphOf) (oct : ℕ) (cells : List (Cell Stated)) → IsGraph g → oct < 2 ^ 31 →
    IsChecked g (layout_of g oct) cells None
    → HoldRuns g (layout_of g oct) (known_by (layout_of g oct) cells)
