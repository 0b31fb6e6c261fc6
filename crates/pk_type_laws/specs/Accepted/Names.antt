-- Names in scope that stand for objects and functions of the typed unit, for numbers of type int, or for types.
use Rattle.std.specs.Prelude.{◌≡◌, ℕ, ℤ, Bool, true, false, Option, Some, None, slice_get}
use Rattle.pk_ctypes.specs.declared.types.IntType.{IntType}
use Rattle.pk_ctypes.specs.declared.types.IntType.TheVariants.{Int}
use Rattle.pk_ctypes.specs.Types.{InType}
use Rattle.pk_ast.specs.declared.expressions.Identifier.{Identifier}
use Rattle.pk_typed.specs.declared.values.Variable.{Variable}
use Rattle.pk_type_scope.specs.declared.declarations.Callee.{Callee}
use Rattle.pk_type_scope.specs.declared.declarations.Callee.TheVariants.{Ordinary, Any, Assume, Assert, Abort}
use Rattle.pk_type_scope.specs.declared.declarations.Declaration.{Declaration}
use Rattle.pk_type_scope.specs.declared.declarations.Declaration.TheVariants as declared
use Rattle.pk_type_scope.specs.declared.declarations.Typing.TheVariants.{Void, Integer, Unknown}
use Rattle.pk_type_scope.specs.Declarations.{Names, is_unknown}
use Rattle.pk_welltyped.specs.WellTyped.{Around, IsObject, IsArray, Takes}
use Rattle.pk_graph.specs.Kinds.{scalar_kind}

abbrev pub ObjectIs : Around → Bool → Option IntType → Variable → Type 0
ObjectIs a is_array None x = ⊥
ObjectIs a false (Some t) x = IsObject a (scalar_kind t) x
ObjectIs a true (Some t) x = IsArray a t x

abbrev pub EnumeratorIs : Option ℤ → Type 0
EnumeratorIs None = ⊥
EnumeratorIs (Some n) = InType Int n

-- a special name is no function of the unit
abbrev pub CalleeIs : Around → ℕ → Callee → Type 0
CalleeIs a f (Ordinary Void n) = Takes n None (slice_get a.unit.functions f)
CalleeIs a f (Ordinary (Integer t) n) = Takes n (Some t) (slice_get a.unit.functions f)
CalleeIs a f (Ordinary Unknown n) = ⊥
CalleeIs a f (Any t) = Unit {0}
CalleeIs a f Assume = Unit {0}
CalleeIs a f Assert = Unit {0}
CalleeIs a f Abort = Unit {0}

abbrev pub DeclarationIs : Around → Option Declaration → Type 0
DeclarationIs a None = Unit {0}
DeclarationIs a (Some (declared.Object o)) = ObjectIs a o.is_array o.int_type o.variable
DeclarationIs a (Some (declared.Function f)) = CalleeIs a f.number f.callee
DeclarationIs a (Some (declared.Enumerator n)) = EnumeratorIs n
DeclarationIs a (Some (declared.TypeName t)) = is_unknown t.typing ≡ false

abbrev pub NamesAre : Around → Names → Type 0
NamesAre a d = (x : Identifier) → DeclarationIs a (d x)
