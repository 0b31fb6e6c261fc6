-- What the lowering of a function's body on a call path looks up.
use Rattle.std.specs.Prelude.{ℕ, ◌+◌, List, [], length, slice_get, slice_index_or, Option, None, option_map, unwrap_or}
use Rattle.std.specs.Option.{option_and_then}
use Rattle.pk_ctypes.specs.declared.places.Pos.{Pos}
use Rattle.pk_ctypes.specs.declared.types.IntType.{IntType}
use Rattle.pk_ctypes.specs.declared.types.IntType.TheVariants.{Int}
use Rattle.pk_typed.specs.declared.values.Variable.{Variable}
use Rattle.pk_typed.specs.declared.values.Variable.TheVariants.{File, Local}
use Rattle.pk_typed.specs.Trees.{LocalTree, FunctionTree, FileObjectTree, UnitTree}
use Rattle.pk_graph.specs.declared.trees.Site.{Site}
use Rattle.pk_graph.specs.Kinds.{count_of}
use Rattle.pk_graph.specs.Trees.{ArrayOf}
use Rattle.pk_draft.specs.declared.drafts.Size.{Size}
use Rattle.pk_draft.specs.Drafts.{DraftOf, object_number}
use Rattle.pk_typed.specs.Defaults.{no_local, length_of_start}

abbrev pub no_size : Size
no_size = record { points = 0; variables = 0 }

-- The unit, the path's number, the number of the path by its function's first call, which those by the others follow in order, the objects and the return type of its function; and the sizes of functions.
pub record Context : Type 0 where
  pub unit : UnitTree
  pub path : ℕ
  pub first : ℕ
  pub locals : List LocalTree
  pub returns : Option IntType
  pub sizes : List (Option Size)

-- the path that a call leads to
abbrev pub callee : Context → ℕ → ℕ
callee c call = c.first + call

-- the size of a function's part, where it is known
abbrev pub size_in : List (Option Size) → ℕ → Size
size_in ss f = unwrap_or (slice_index_or ss f None) no_size

abbrev pub site : Context → Pos → Site
site c at = record { path = c.path; at = at }

-- object i of the path's function, and its result
abbrev pub own : {V : Type 0} → Context → ℕ → DraftOf V → V
own c i d = d.names.object c.path i (object_number i d)

abbrev pub own_result : {V : Type 0} → Context → DraftOf V → V
own_result c d = d.names.result c.path (object_number (length c.locals) d)

abbrev pub variable_of : {V : Type 0} → Context → Variable → DraftOf V → V
variable_of c (File i) d = d.names.file i
variable_of c (Local i) d = own c i d

abbrev pub length_in_file : UnitTree → ℕ → Option ℕ
length_in_file u i = option_and_then (λ (x : FileObjectTree). length_of_start x.start) (slice_get u.objects i)

abbrev pub local_at : Context → ℕ → LocalTree
local_at c i = slice_index_or c.locals i no_local

abbrev pub length_of : Context → Variable → Option ℕ
length_of c (File i) = length_in_file c.unit i
length_of c (Local i) = (local_at c i).length

abbrev pub array_of : {V : Type 0} → Context → Variable → DraftOf V → ArrayOf V
array_of c x d = record { variable = variable_of c x d; length = count_of (length_of c x) }

abbrev pub parameters_of : UnitTree → ℕ → List IntType
parameters_of u f = unwrap_or (option_map (λ (g : FunctionTree). g.parameters) (slice_get u.functions f)) []
