-- The functions of a typed unit and their calls.
use Rattle.std.specs.Prelude.{◌≡◌, ℕ, ◌<◌, List, [], length, map, Option, IsSome, option_map, unwrap_or, slice_get}
use Rattle.std.specs.Option.{option_and_then}
use Rattle.pk_typed.specs.declared.units.CallSite.{CallSite}
use Rattle.pk_typed.specs.Trees.{UnitTree, FunctionTree, BodyTree}

-- the body of the function with a number, where it has one
unfoldable pub body_of : UnitTree → ℕ → Option BodyTree
body_of u f = option_and_then (λ (g : FunctionTree). g.body) (slice_get u.functions f)

abbrev pub HasBody : UnitTree → ℕ → Type 0
HasBody u f = IsSome (body_of u f)

unfoldable pub name_of : UnitTree → ℕ → List ℕ
name_of u f = unwrap_or (option_map (λ (g : FunctionTree). g.name) (slice_get u.functions f)) []

-- a function's calls, in order of their names in the text
unfoldable pub calls_of : UnitTree → ℕ → List CallSite
calls_of u f = unwrap_or (option_map (λ (b : BodyTree). b.calls) (body_of u f)) []

-- how many objects a function has, its parameters among them
unfoldable pub locals_of : UnitTree → ℕ → ℕ
locals_of u f = unwrap_or (option_map (λ (b : BodyTree). length b.locals) (body_of u f)) 0

-- the functions that a function calls, call by call
abbrev pub callees : UnitTree → ℕ → List ℕ
callees u f = map (λ (c : CallSite). c.function) (calls_of u f)

-- a function of this name with a body
abbrev pub IsNamed : UnitTree → List ℕ → ℕ → Type 0
IsNamed u name f = HasBody u f × (name_of u f ≡ name)

-- the first of them is the entry
abbrev pub IsEntry : UnitTree → List ℕ → ℕ → Type 0
IsEntry u name f = IsNamed u name f × ((g : ℕ) → g < f → IsNamed u name g → ⊥)
