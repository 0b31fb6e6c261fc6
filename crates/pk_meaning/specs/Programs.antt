-- A program: a typed unit with its call paths, and what is named in it.
use Rattle.std.specs.Prelude.{ℕ, zero, suc, ◌+◌, ◌-◌, nat_eq, Bool, false, ◌&&◌, codes, if◌then◌else◌, pos, List, [], ◌∷◌, ◌++◌, length, map, replicate, slice_get, slice_index_or, Option, Some, None, unwrap_or, option_map}
use Rattle.std.specs.Option.{option_and_then}
use Rattle.std.specs.Str.{bytes_eq}
use Rattle.pk_ctypes.specs.declared.types.IntType.{IntType}
use Rattle.pk_ctypes.specs.declared.types.IntType.TheVariants.{Int}
use Rattle.pk_typed.specs.declared.values.Variable.{Variable}
use Rattle.pk_typed.specs.declared.values.Variable.TheVariants.{File, Local}
use Rattle.pk_typed.specs.Trees.{DeclaredTree, scalar_object, array_object, static_object, hiding_constant, LocalTree, BodyTree, FunctionTree, StartTree, scalar_start, array_start, FileObjectTree, UnitTree}
use Rattle.pk_calls.specs.declared.listings.Caller.{Caller}
use Rattle.pk_calls.specs.declared.listings.CallPath.{CallPath}
use Rattle.pk_calls.specs.Calls.{body_of}
use Rattle.pk_calls.specs.Paths.{entry_path}
use Rattle.pk_graph.specs.Kinds.{count_of}
use Rattle.pk_graph.specs.Steps.{Numbers}
use Rattle.pk_meaning.specs.Objects.{Object, file, local, result, Scope, Array, Objects}
use Rattle.pk_typed.specs.Defaults.{no_body, no_function, no_local, length_of_start}

-- path 0 is the entry alone
pub record Program : Type 0 where
  pub unit : UnitTree
  pub paths : List CallPath

-- the number of a path's function, the function and its block
abbrev pub function_number : Program → (path : ℕ) → ℕ
function_number p k = (slice_index_or p.paths k (entry_path 0)).function

abbrev pub function_of : Program → (path : ℕ) → FunctionTree
function_of p k = slice_index_or p.unit.functions (function_number p k) no_function

abbrev pub block_of : Program → (path : ℕ) → BodyTree
block_of p k = unwrap_or (body_of p.unit (function_number p k)) no_body

abbrev pub local_of : Program → (path i : ℕ) → LocalTree
local_of p k i = slice_index_or (block_of p k).locals i no_local

-- the path that call n of path k leads to
abbrev pub is_by : (path n : ℕ) → Option Caller → Bool
is_by k n None = false
is_by k n (Some c) = nat_eq c.path k && nat_eq c.call n

abbrev pub number_by : (path n : ℕ) → List CallPath → ℕ
number_by k n [] = 0
number_by k n (q ∷ qs) = if is_by k n q.caller then 0 else suc (number_by k n qs)

abbrev pub callee : Program → (path n : ℕ) → ℕ
callee p k n = number_by k n p.paths

-- ---- objects

abbrev pub object_of : (path : ℕ) → Variable → Object
object_of k (File i) = file i
object_of k (Local i) = local k i

abbrev pub length_of : Program → (path : ℕ) → Variable → Option ℕ
length_of p k (File i) = option_and_then (λ (x : FileObjectTree). length_of_start x.start) (slice_get p.unit.objects i)
length_of p k (Local i) = (local_of p k i).length

abbrev pub array_of : Program → (path : ℕ) → IntType → Variable → Array
array_of p k t x = record { object = object_of k x; int_type = t; length = count_of (length_of p k x) }

-- ---- scopes (C99 6.2.1)

-- an object comes into scope, if it has a name
abbrev pub named : Option (List ℕ) → Object → Scope → Scope
named None x xs = xs
named (Some name) x xs = x ∷ xs

abbrev pub with_local : Program → (path i : ℕ) → Scope → Scope
with_local p k i xs = named (local_of p k i).name (local k i) xs

abbrev pub with_declared : Program → (path : ℕ) → DeclaredTree → Scope → Scope
with_declared p k (scalar_object i at e) xs = with_local p k i xs
with_declared p k (array_object i at es) xs = with_local p k i xs
with_declared p k (static_object n at) xs = file n ∷ xs
with_declared p k (hiding_constant x at) xs = xs

abbrev pub with_all_declared : Program → (path : ℕ) → List DeclaredTree → Scope → Scope
with_all_declared p k [] xs = xs
with_all_declared p k (d ∷ ds) xs = with_all_declared p k ds (with_declared p k d xs)

-- the first n objects of the file
abbrev pub file_scope : ℕ → Scope
file_scope zero = []
file_scope (suc n) = file n ∷ file_scope n

-- the parameters are the first objects of a path
abbrev pub with_parameters : Program → (path i : ℕ) → List IntType → Scope → Scope
with_parameters p k i [] xs = xs
with_parameters p k i (t ∷ ts) xs = with_parameters p k (i + 1) ts (with_local p k i xs)

-- between a function's braces, and outside the blocks there
abbrev pub body_scope : Program → (path : ℕ) → Scope
body_scope p k = with_parameters p k 0 (function_of p k).parameters (file_scope (block_of p k).visible)

abbrev pub name_of : Program → Object → List ℕ
name_of p (file i) = unwrap_or (option_map (λ (x : FileObjectTree). x.name) (slice_get p.unit.objects i)) []
name_of p (local k i) = unwrap_or (local_of p k i).name []
name_of p (result k) = []

-- ---- the main function (C99 5.1.2.2.1)

abbrev pub is_main : Program → (path : ℕ) → Bool
is_main p k = bytes_eq (function_of p k).name (codes "main")

-- ---- before the first step: the file's objects hold their initialisers, and 0 behind them (C99 6.7.8); all others 0

abbrev pub start_of : StartTree → Numbers
start_of (scalar_start z) = z ∷ []
start_of (array_start n zs) = zs ++ replicate (n - length zs) (pos 0)

abbrev pub zeros_of : LocalTree → Numbers
zeros_of x = replicate (count_of x.length) (pos 0)

abbrev pub first_objects : Program → Objects
first_objects p = record {
  files = map (λ (x : FileObjectTree). start_of x.start) p.unit.objects;
  locals = map (λ (q : CallPath). map zeros_of (unwrap_or (body_of p.unit q.function) no_body).locals) p.paths;
  results = map (λ (q : CallPath). pos 0 ∷ []) p.paths;
}
