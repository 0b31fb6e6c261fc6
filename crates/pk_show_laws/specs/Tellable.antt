-- What can be told in a report: names that are identifiers, places and numbers in range.
use Rattle.std.specs.Prelude.{◌≡◌, ℕ, ℤ, ◌<◌, ◌^◌, true, false, List, length, All, Option, Some, None}
use Rattle.std.specs.List.{zip}
use Rattle.pk_graph.specs.declared.trees.Site.{Site}
use Rattle.pk_graph.specs.declared.verdicts.Verdict.{Verdict}
use Rattle.pk_graph.specs.Accesses.{AccessOf}
use Rattle.pk_graph.specs.Graphs.{PathOf, GraphOf, point_at, variable_at}
use Rattle.pk_octagons.specs.Packs.{is_chosen}
use Rattle.pk_octagons.specs.Values.{known_at}
use Rattle.pk_state.specs.Layouts.{Layout, is_spread}
use Rattle.pk_state.specs.Facts.{Facts, Stated}
use Rattle.pk_state.specs.Changes.{bound_in}
use Rattle.pk_report.specs.Paths.{path_at}
use Rattle.pk_report.specs.Values.{numbers_of}
use Rattle.pk_report.specs.Reports.{state_at}
use Rattle.pk_show.specs.Pieces.{is_identifier}
use Rattle.pk_show.specs.Laws.{IsNumber, IsPlace, IsVerdict, IsKnown}
use Rattle.pk_show_laws.specs.ReportRows.{known_of, verdict_of}

-- a call stands in a path before
abbrev pub IsCalledBefore : ℕ → Option Site → Type 0
IsCalledBefore k None = Unit {0}
IsCalledBefore k (Some s) = (s.path < k) × IsPlace s.at

pub record IsPathOf (k : ℕ) (p : PathOf) : Type 0 where
  pub name : is_identifier p.name ≡ true
  pub call : IsCalledBefore k p.call

-- variables without a name aren't told
abbrev pub IsName : Option (List ℕ) → Type 0
IsName None = Unit {0}
IsName (Some name) = is_identifier name ≡ true

pub record IsTellableGraph (g : GraphOf) : Type 0 where
  pub some_path : 0 < length g.paths
  pub paths : (k : ℕ) → k < length g.paths → IsPathOf k (path_at g.paths k)
  pub names : (x : ℕ) → IsName (variable_at g x).name
  pub few : length g.points < 2 ^ 64
  pub point_paths : (v : ℕ) → v < length g.points → (point_at g v).path < length g.paths
  pub point_places : (v : ℕ) → v < length g.points → IsPlace (point_at g v).at

-- of a graph that is well made: what it still needs to be told
pub record HasTellableNames (g : GraphOf) : Type 0 where
  pub paths : (k : ℕ) → k < length g.paths → IsPathOf k (path_at g.paths k)
  pub names : (x : ℕ) → IsName (variable_at g x).name
  pub point_places : (v : ℕ) → v < length g.points → IsPlace (point_at g v).at

pub record AreTellableFacts (l : Layout) (f : Facts) : Type 0 where
  pub values : (x : ℕ) → IsKnown (known_of (known_at f.values x))
  pub bounds : (i j : ℕ) (c : ℤ) → bound_in l (Some f) i j ≡ Some c → IsNumber c

abbrev pub AreTellable : Layout → Option Facts → Type 0
AreTellable l None = Unit {0}
AreTellable l (Some f) = AreTellableFacts l f

-- elements that are told have numbers in range, and no octagon is over a variable of which elements are told
pub record IsTellableLayout (g : GraphOf) (l : Layout) : Type 0 where
  pub few : (x : ℕ) → is_spread l x ≡ true → numbers_of g x < 2 ^ 64
  pub apart : (x : ℕ) → is_chosen l.packs x ≡ true → is_spread l x ≡ false

pub record IsTellableAccess (g : GraphOf) (a : AccessOf × Verdict) : Type 0 where
  pub path : a.0.site.path < length g.paths
  pub at : IsPlace a.0.site.at
  pub verdict : IsVerdict (verdict_of a.1)

pub record IsTellable (g : GraphOf) (elements : ℕ) (states : List Stated) (accesses : List AccessOf)
    (verdicts : List Verdict) : Type 0 where
  pub graph : IsTellableGraph g
  pub elements_few : elements < 2 ^ 64
  pub layouts : (v : ℕ) → IsTellableLayout g (state_at states v).layout
  pub facts : (v : ℕ) → AreTellable (state_at states v).layout (state_at states v).facts
  pub each : All (IsTellableAccess g) (zip accesses verdicts)
  pub verdicts_few : length verdicts < 2 ^ 64
