-- What a report tells: points with what is known at them, and accesses with a verdict each.
use Rattle.std.specs.Prelude.{◌≡◌, ℕ, ◌<◌, ℤ, pos, ◌+ℤ◌, ◌-ℤ◌, List, [], ◌∷◌, length, slice_get, Option, Some, None, option_map}
use Rattle.std.specs.List.{AllZip}
use Rattle.pk_graph.specs.declared.verdicts.Verdict.{Verdict}
use Rattle.pk_graph.specs.Accesses.{AccessOf, OperationOf}
use Rattle.pk_graph.specs.Graphs.{GraphOf, point_at, names_at, kinds_of}
use Rattle.pk_graph.specs.Kinds.{count_at}
use Rattle.pk_graph.specs.Steps.{number_at}
use Rattle.pk_value.specs.Known.{IsOf}
use Rattle.pk_octmat.specs.Bounds.{AtMost}
use Rattle.pk_octagons.specs.Values.{known_at}
use Rattle.pk_state.specs.Layouts.{Layout, slot_of}
use Rattle.pk_state.specs.Facts.{Facts, Stated}
use Rattle.pk_state.specs.Changes.{bound_in}
use Rattle.pk_report.specs.Values.{name_of, bounds_of}
use Rattle.pk_report.specs.Reports.{state_at}
use Rattle.pk_meaning.specs.Runs.{Known, Visit}
use Rattle.pk_visits.specs.Turns.{TurnPoint}

-- The points of a graph, of which some are heads, and what is known at each; the accesses, with the verdict on an operation at a point; and the loops of each path with the points at which they begin again.
-- Of the graph a reader of lines needs the points' paths, places and names alone.
pub record Told : Type 0 where
  pub graph : GraphOf
  pub heads : List ℕ
  pub states : List Stated
  pub accesses : List AccessOf
  pub verdict : (point : ℕ) → OperationOf → Verdict
  pub turns : (path : ℕ) → List TurnPoint

-- on an access
abbrev pub told_verdict : Told → AccessOf → Verdict
told_verdict t a = t.verdict a.point a.operation

-- ---- visits

-- What a visit knows of a name is what the lines of its variable tell: as many numbers as the variable has, one of a scalar and those of an array's elements. Each lies in the range
-- and in the class of its line: `NAME [lo,hi] mZ+r` of a scalar, `NAME[] ..` of each element of an array, and `NAME[i] ..` of element i alone where there are at most eight.
pub record IsKnownAs (g : GraphOf) (l : Layout) (f : Facts) (variable : ℕ) (k : Known) : Type 0 where
  pub name : name_of g variable ≡ k.name
  pub count : length k.numbers ≡ count_at (kinds_of g) variable
  pub numbers : (i : ℕ) → i < length k.numbers →
      IsOf (known_at f.values (slot_of l variable i)) (number_at k.numbers i)

-- name i of a visit of the point is that of variable x, which holds z alone
pub record HoldsAt (g : GraphOf) (point : ℕ) (v : Visit) (i x : ℕ) (z : ℤ) : Type 0 where
  pub in_scope : slice_get (names_at g point) i ≡ Some x
  pub holds : option_map (λ (n : Known). n.numbers) (slice_get v.known i) ≡ Some (z ∷ [])

-- The numbers a and b of variables x and y keep to the bounds of the four forms of them, `x - y <= c`, `y - x <= c`, `x + y <= c` and `-x - y <= c`.
pub record AreBounded (bound : ℕ → ℕ → Option ℤ) (x y : ℕ) (a b : ℤ) : Type 0 where
  pub minus : AtMost (Some (a -ℤ b)) (bounds_of bound x y).minus
  pub turned : AtMost (Some (b -ℤ a)) (bounds_of bound x y).turned
  pub plus : AtMost (Some (a +ℤ b)) (bounds_of bound x y).plus
  pub negated : AtMost (Some ((pos 0 -ℤ a) -ℤ b)) (bounds_of bound x y).negated

-- A visit of a point: its path and its place are the point's, its names, newest first, are those of the variables in scope there, and their numbers keep to the lines of the variables and of their pairs.
pub record IsToldAt (g : GraphOf) (l : Layout) (f : Facts) (point : ℕ) (v : Visit) : Type 0 where
  pub path : (point_at g point).path ≡ v.path
  pub place : (point_at g point).at ≡ v.at
  pub values : AllZip (IsKnownAs g l f) (names_at g point) v.known
  pub pairs : (i j x y : ℕ) (a b : ℤ) → HoldsAt g point v i x a → HoldsAt g point v j y b →
      AreBounded (bound_in l (Some f)) x y a b

-- no visit is of a point that is told as unreachable
abbrev pub IsToldIf : GraphOf → Layout → Option Facts → ℕ → Visit → Type 0
IsToldIf g l None point v = ⊥
IsToldIf g l (Some f) point v = IsToldAt g l f point v

-- a visit keeps to what is told of the point
abbrev pub IsToldOf : GraphOf → List Stated → ℕ → Visit → Type 0
IsToldOf g states point v = IsToldIf g (state_at states point).layout (state_at states point).facts point v

pub record IsToldVisit (g : GraphOf) (states : List Stated) (v : Visit) : Type 0 where
  pub point : ℕ
  pub there : point < length g.points
  pub told : IsToldOf g states point v
