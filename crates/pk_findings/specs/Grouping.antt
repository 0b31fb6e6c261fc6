-- Cases in the order of their places, gathered to operations.
use Rattle.std.specs.Prelude.{ℕ, ◌+◌, ◌*◌, ◌==◌, min, if◌then◌else◌, List, [], ◌∷◌, ◌++◌, Option, Some, None, fold}
use Rattle.std.specs.Option.{option_to_list}
use Rattle.pk_ctypes.specs.declared.faults.Fault.{Fault}
use Rattle.pk_ctypes.specs.declared.places.Pos.{Pos}
use Rattle.pk_findings.specs.Operations.{CaseOf, OperationOf, kind_number}

-- the greatest line and column by which cases are put in order
abbrev pub most : ℕ
most = 1073741823

-- by line, then by column, then by kind
unfoldable pub order_of : Pos → Fault → ℕ
order_of at f = (min at.line most * 1073741824 + min at.column most) * 8 + kind_number f

abbrev pub case_order : CaseOf → ℕ
case_order c = order_of c.at c.fault

abbrev pub operation_order : OperationOf → ℕ
operation_order o = order_of o.at o.fault

abbrev pub single : CaseOf → OperationOf
single c = record { at = c.at; fault = c.fault; elements = None; ways = c.way ∷ [] }

abbrev pub with_way : OperationOf → CaseOf → OperationOf
with_way o c = record o { ways = o.ways ++ c.way ∷ [] }

-- the operations that are whole, and the one that the next case may belong to
pub record Gathered : Type 0 where
  pub whole : List OperationOf
  pub open_one : Option OperationOf

abbrev pub gathered : List OperationOf → Option OperationOf → Gathered
gathered whole open_one = record { whole = whole; open_one = open_one }

-- an open operation has its next way, or is whole
abbrev pub added : List OperationOf → Option OperationOf → CaseOf → Gathered
added whole None c = gathered whole (Some (single c))
added whole (Some o) c =
    if operation_order o == case_order c then gathered whole (Some (with_way o c)) else
    gathered (whole ++ o ∷ []) (Some (single c))

abbrev pub with_case : Gathered → CaseOf → Gathered
with_case g c = added g.whole g.open_one c

abbrev pub gathered_of : List CaseOf → Gathered
gathered_of = fold with_case (gathered [] None)

abbrev pub all_of : Gathered → List OperationOf
all_of g = g.whole ++ option_to_list g.open_one
