-- What stands for a part of a unit that isn't there, and the length that a start gives.
use Rattle.std.specs.Prelude.{ℕ, [], Option, Some, None}
use Rattle.pk_ctypes.specs.declared.places.Pos.{Pos}
use Rattle.pk_ctypes.specs.declared.types.IntType.TheVariants.{Int}
use Rattle.pk_typed.specs.Trees.{no_items, LocalTree, BodyTree, FunctionTree, StartTree, scalar_start, array_start}

abbrev pub nowhere_in_text : Pos
nowhere_in_text = record { line = 0; column = 0 }

abbrev pub no_body : BodyTree
no_body = record {
  opened = nowhere_in_text;
  closed = nowhere_in_text;
  locals = [];
  visible = 0;
  labels = 0;
  calls = [];
  items = no_items;
}

abbrev pub no_function : FunctionTree
no_function = record { name = []; returns = None; parameters = []; body = None }

abbrev pub no_local : LocalTree
no_local = record { name = None; int_type = Int; length = None }

-- the length of an object's array; a scalar has none
abbrev pub length_of_start : StartTree → Option ℕ
length_of_start (scalar_start z) = None
length_of_start (array_start n zs) = Some n
