-- The objects of a run, and what they hold (C99 6.2.4).
use Rattle.std.specs.Prelude.{ℕ, nat_eq, Bool, false, ◌&&◌, ◌||◌, ℤ, List, [], ◌∷◌, slice_index_or, slice_set}
use Rattle.pk_ctypes.specs.declared.types.IntType.{IntType}
use Rattle.pk_graph.specs.Steps.{Numbers, number_at}

-- an object that all calls share: of the file, or static in a function; one of a call path, by its number in the path's function, parameters first; what the function of a path returns
pub data Object : Type 0 where
  file : ℕ → Object
  local : (path i : ℕ) → Object
  result : (path : ℕ) → Object

-- the objects whose names are in scope, newest first (C99 6.2.1)
abbrev pub Scope : Type 0
Scope = List Object

-- an array with the type and the number of its elements
pub record Array : Type 0 where
  pub object : Object
  pub int_type : IntType
  pub length : ℕ

-- What each object holds: a scalar one number, an array one for each element. Each call path has objects of its own.
pub record Objects : Type 0 where
  pub files : List Numbers
  pub locals : List (List Numbers)
  pub results : List Numbers

abbrev pub locals_of : Objects → (path : ℕ) → List Numbers
locals_of s k = slice_index_or s.locals k []

abbrev pub numbers_of : Object → Objects → Numbers
numbers_of (file i) s = slice_index_or s.files i []
numbers_of (local k i) s = slice_index_or (locals_of s k) i []
numbers_of (result k) s = slice_index_or s.results k []

abbrev pub with_numbers : Object → Numbers → Objects → Objects
with_numbers (file i) zs s = record s { files = slice_set s.files i zs }
with_numbers (local k i) zs s = record s { locals = slice_set s.locals k (slice_set (locals_of s k) i zs) }
with_numbers (result k) zs s = record s { results = slice_set s.results k zs }

-- a scalar's number
abbrev pub number_of : Object → Objects → ℤ
number_of x s = number_at (numbers_of x s) 0

abbrev pub is_same : Object → Object → Bool
is_same (file i) (file j) = nat_eq i j
is_same (local k i) (local m j) = nat_eq k m && nat_eq i j
is_same (result k) (result m) = nat_eq k m
is_same x y = false

abbrev pub is_in_scope : Object → Scope → Bool
is_in_scope x [] = false
is_in_scope x (y ∷ ys) = is_same x y || is_in_scope x ys
