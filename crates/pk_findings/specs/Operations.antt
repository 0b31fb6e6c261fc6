-- The operations of a report: the accesses of one place and kind are one operation, with a way for each call path.
use Rattle.std.specs.Prelude.{◌≡◌, ◌⊎◌, ◌<◌, ℕ, List, Option, None, map, length, AllPairs, All, IsPermutation}
use Rattle.std.specs.List.{flat_map}
use Rattle.std.specs.Option.{option_map, option_to_list}
use Rattle.pk_ctypes.specs.declared.faults.Fault.{Fault}
use Rattle.pk_ctypes.specs.declared.faults.Fault.TheVariants.{Index, DivZero, Overflow, Shift, Assert}
use Rattle.pk_ctypes.specs.declared.places.Pos.{Pos}
use Rattle.pk_ctypes.specs.Places.{Before}
use Rattle.pk_show.specs.declared.report.Row.{Row}
use Rattle.pk_show.specs.declared.report.Row.TheVariants as row
use Rattle.pk_show.specs.declared.rows.Verdict.{Verdict}
use Rattle.pk_show.specs.Paths.{PathOf, path_in}
use Rattle.pk_show.specs.Rows.{AccessOf}

-- a call path to an operation, and what was found there
pub record WayOf : Type 0 where
  pub path : PathOf
  pub verdict : Verdict

-- an operation; of an index, how many elements the array has, where that is known
pub record OperationOf : Type 0 where
  pub at : Pos
  pub fault : Fault
  pub elements : Option ℕ
  pub ways : List WayOf

-- an operation on one of its call paths
pub record CaseOf : Type 0 where
  pub at : Pos
  pub fault : Fault
  pub way : WayOf

abbrev pub case_with : AccessOf → PathOf → CaseOf
case_with a path = record { at = a.at; fault = a.fault; way = record { path = path; verdict = a.verdict } }

-- the case that a row tells: it is an access
unfoldable pub case_in : Row → Option CaseOf
case_in (row.Opening o) = None
case_in (row.Heading h) = None
case_in row.NoRun = None
case_in (row.Value v) = None
case_in (row.Bound b) = None
case_in (row.Access a) = option_map (case_with a) (path_in a.path)
case_in (row.Counts c) = None

abbrev pub cases_in : List Row → List CaseOf
cases_in = flat_map (λ r. option_to_list (case_in r))

abbrev pub cases_of : OperationOf → List CaseOf
cases_of o = map (λ w. record { at = o.at; fault = o.fault; way = w }) o.ways

-- the order of kinds at one place
abbrev pub kind_number : Fault → ℕ
kind_number Index = 0
kind_number DivZero = 1
kind_number Overflow = 2
kind_number Shift = 3
kind_number Assert = 4

-- at an earlier place, or at the same place and of an earlier kind
abbrev pub ComesBefore : OperationOf → OperationOf → Type 0
ComesBefore o p = Before o.at p.at ⊎ ((o.at ≡ p.at) × (kind_number o.fault < kind_number p.fault))

-- The operations of these cases: each case is a way of one of them, of each place and kind there is one at most, and they
-- stand in the order of their places.
pub record AreOperations (cases : List CaseOf) (operations : List OperationOf) : Type 0 where
  pub each : IsPermutation cases (flat_map cases_of operations)
  pub ordered : AllPairs ComesBefore operations
  pub some : All (λ o. 0 < length o.ways) operations
