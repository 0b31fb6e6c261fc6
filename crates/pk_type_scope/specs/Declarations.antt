-- What the names in scope stand for, as expressions ask for it.
use Rattle.std.specs.Prelude.{◌≡◌, ℕ, ℤ, Bool, true, false, not, Option, Some, None, List, [], ◌∷◌}
use Rattle.pk_ctypes.specs.declared.places.Pos.{Pos}
use Rattle.pk_ctypes.specs.declared.types.IntType.{IntType}
use Rattle.pk_ast.specs.declared.expressions.Identifier.{Identifier}
use Rattle.pk_typed.specs.declared.units.CallSite.{CallSite}
use Rattle.pk_type_scope.specs.declared.declarations.Callee.{Callee}
use Rattle.pk_type_scope.specs.declared.declarations.Callee.TheVariants.{Ordinary, Any, Assume, Assert, Abort}
use Rattle.pk_type_scope.specs.declared.declarations.Declaration.{Declaration}
use Rattle.pk_type_scope.specs.declared.declarations.Declaration.TheVariants as declared
use Rattle.pk_type_scope.specs.declared.declarations.Typing.{Typing}
use Rattle.pk_type_scope.specs.declared.declarations.Typing.TheVariants.{Void, Integer, Unknown}

-- the declaration in scope of each name; an expression declares nothing, so it is one for all of its parts
abbrev pub Names : Type 0
Names = Identifier → Option Declaration

abbrev pub is_void : Typing → Bool
is_void Void = true
is_void (Integer t) = false
is_void Unknown = false

abbrev pub is_unknown : Typing → Bool
is_unknown Void = false
is_unknown (Integer t) = false
is_unknown Unknown = true

abbrev pub typing_of : Option IntType → Typing
typing_of (Some t) = Integer t
typing_of None = Unknown

-- where an object is needed, an enumerator counts as one
abbrev pub is_object : Option Declaration → Bool
is_object (Some (declared.Object o)) = true
is_object (Some (declared.Enumerator n)) = true
is_object d = false

abbrev pub is_function : Option Declaration → Bool
is_function (Some (declared.Function f)) = true
is_function d = false

abbrev pub is_array : Option Declaration → Bool
is_array (Some (declared.Object o)) = o.is_array
is_array d = false

abbrev pub is_enumerator : Option Declaration → Bool
is_enumerator (Some (declared.Enumerator n)) = true
is_enumerator d = false

abbrev pub is_type_name : Option Declaration → Bool
is_type_name (Some (declared.TypeName t)) = true
is_type_name d = false

-- the type that a name stands for (C99 6.7.7); unknown where it stands for none
abbrev pub type_meant : Option Declaration → Typing
type_meant (Some (declared.TypeName t)) = t.typing
type_meant d = Unknown

-- whether it is the type of const objects (C99 6.7.3)
abbrev pub const_meant : Option Declaration → Bool
const_meant (Some (declared.TypeName t)) = t.is_const
const_meant d = false

-- where an object is needed: one without elements, as an enumerator is
abbrev pub is_scalar : Option Declaration → Bool
is_scalar (Some (declared.Object o)) = not o.is_array
is_scalar (Some (declared.Enumerator n)) = true
is_scalar d = false

-- what a call gives
abbrev pub returned_by : Callee → Typing
returned_by (Ordinary returns n) = returns
returned_by (Any t) = Integer t
returned_by callee = Void

-- how many arguments a call has
abbrev pub arguments_of : Callee → ℕ
arguments_of (Ordinary returns n) = n
arguments_of (Any t) = 0
arguments_of Assume = 1
arguments_of Assert = 1
arguments_of Abort = 0

-- the call itself, where it is numbered
abbrev pub site_of : ℕ → Pos → Callee → List CallSite
site_of f at (Ordinary returns n) = record { function = f; at = at } ∷ []
site_of f at callee = []

abbrev pub own_site : Pos → Option Declaration → List CallSite
own_site at (Some (declared.Function f)) = site_of f.number at f.callee
own_site at d = []

-- a declaration that failed no rule, as far as expressions see it: it has its type, an enumerator its value
abbrev pub HasTypes : Option Declaration → Type 0
HasTypes None = Unit {0}
HasTypes (Some (declared.Object o)) = (t : IntType) × (o.int_type ≡ Some t)
HasTypes (Some (declared.Function f)) = is_unknown (returned_by f.callee) ≡ false
HasTypes (Some (declared.Enumerator v)) = (n : ℤ) × (v ≡ Some n)
HasTypes (Some (declared.TypeName t)) = is_unknown t.typing ≡ false
