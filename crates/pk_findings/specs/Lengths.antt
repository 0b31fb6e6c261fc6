-- How long the arrays are whose elements are accessed.
use Rattle.std.specs.Prelude.{ℕ, ◌+◌, ◌*◌, ◌^◌, map, nat_eq, Option, None}
use Rattle.std.specs.declared.hash.FoldHasher.{FoldHasher}
use Rattle.std.specs.declared.hash.BuildHasherDefault.{BuildHasherDefault}
use Rattle.std.specs.HashMap.{HashMap, get}
use Rattle.pk_ctypes.specs.declared.faults.Fault.{Fault}
use Rattle.pk_ctypes.specs.declared.faults.Fault.TheVariants.{Index, DivZero, Overflow, Shift, Assert}
use Rattle.pk_ctypes.specs.declared.places.Pos.{Pos}
use Rattle.pk_findings.specs.Operations.{OperationOf}
use Rattle.pk_findings.specs.Shown.{ShownOf}

-- lengths by places: by the numbers of the places of brackets
abbrev pub Lengths : Type 0
Lengths = HashMap ℕ ℕ (BuildHasherDefault FoldHasher)

abbrev pub place_number : Pos → ℕ
place_number at = at.line * 2 ^ 64 + at.column

abbrev pub length_for : Lengths → Pos → Fault → Option ℕ
length_for m at Index = get nat_eq m (place_number at)
length_for m at DivZero = None
length_for m at Overflow = None
length_for m at Shift = None
length_for m at Assert = None

-- an index with the length of its array
abbrev pub with_length : Lengths → OperationOf → OperationOf
with_length m o = record o { elements = length_for m o.at o.fault }

abbrev pub with_lengths : Lengths → ShownOf → ShownOf
with_lengths m s = record s { operations = map (with_length m) s.operations }
