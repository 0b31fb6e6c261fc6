-- The rules of functions and of objects of the file, by what stands there (C99 6.7.5.3, 6.2.7, 6.8.6). A type that a failure leaves out differs from none.
use Rattle.std.specs.Prelude.{ℕ, Bool, true, false, not, ◌&&◌, ◌||◌, nat_eq, is_some, Option, Some, None, List, [], ◌∷◌, ◌++◌, length, slice_get}
use Rattle.std.specs.List.{list_all, list_any, zip}
use Rattle.pk_ctypes.specs.declared.places.Pos.{Pos}
use Rattle.pk_ctypes.specs.declared.types.IntType.{IntType}
use Rattle.pk_ctypes.specs.declared.types.IntType.TheVariants.{Char, SChar, UChar, Short, UShort, Int, UInt, Long, ULong, LLong, ULLong}
use Rattle.pk_ctypes.specs.declared.words.Rule.{Rule}
use Rattle.pk_ctypes.specs.declared.words.Rule.TheVariants as rule
use Rattle.pk_ast.specs.declared.expressions.Identifier.{Identifier}
use Rattle.pk_ast.specs.declared.units.Storage.{Storage}
use Rattle.pk_ast.specs.declared.units.StorageWord.TheVariants.{Static, Extern}
use Rattle.pk_ast.specs.Trees.{ParameterTree, FunctionTree, ItemTrees}
use Rattle.pk_type_scope.specs.declared.declarations.Callee.{Callee}
use Rattle.pk_type_scope.specs.declared.declarations.Callee.TheVariants.{Ordinary, Any, Assume, Assert, Abort}
use Rattle.pk_type_scope.specs.declared.declarations.Declaration.{Declaration}
use Rattle.pk_type_scope.specs.declared.declarations.Declaration.TheVariants as declared
use Rattle.pk_type_scope.specs.declared.declarations.Typing.{Typing}
use Rattle.pk_type_scope.specs.declared.declarations.Typing.TheVariants.{Void, Integer, Unknown}
use Rattle.pk_type_scope.specs.declared.failures.Failure.{Failure}
use Rattle.pk_type_scope.specs.Declarations.{Names, is_void}
use Rattle.pk_type_scope.specs.Failures.{fails_if, noted}
use Rattle.pk_type_scope.specs.Scopes.{Scoping, names_in, spelled}
use Rattle.pk_type_scope.specs.Specifiers.{word_failures}
use Rattle.pk_type_declaration.specs.Rules.{Adding, redeclared, void_object, special_object}
use Rattle.pk_type_declaration.specs.Specials.{special}
use Rattle.pk_type_jump.specs.Jumps.{Jumped, jumps_of}
use Rattle.pk_type_jump.specs.Labels.{Listed, labels_of}
use Rattle.pk_type_statement.specs.Rules as statements
use Rattle.pk_type.specs.Files.{EntryTree, UnitChecks}
use Rattle.pk_type.specs.Signatures.{SignatureTree, signature_of}

abbrev pub is_extern : Option Storage → Bool
is_extern None = false
is_extern (Some storage) = elim storage.word [ Static ↦ false | Extern ↦ true ]

-- extern: an object is declared extern; at the name
abbrev pub extern_object : Option Storage → Identifier → List Failure
extern_object storage x = fails_if (is_extern storage) rule.Extern x.at

-- the rows at the name of an object
abbrev pub object_failures : Option Storage → Scoping → Typing → Identifier → List Failure
object_failures storage s t x = redeclared s x ++ extern_object storage x ++ void_object t x.at ++ special_object s x

-- Signatures.

abbrev pub number_of : IntType → ℕ
number_of Char = 0
number_of SChar = 1
number_of UChar = 2
number_of Short = 3
number_of UShort = 4
number_of Int = 5
number_of UInt = 6
number_of Long = 7
number_of ULong = 8
number_of LLong = 9
number_of ULLong = 10

abbrev pub differ : Typing → Typing → Bool
differ Unknown u = false
differ Void Unknown = false
differ Void Void = false
differ Void (Integer u) = true
differ (Integer t) Unknown = false
differ (Integer t) Void = true
differ (Integer t) (Integer u) = not (nat_eq (number_of t) (number_of u))

-- in number, or somewhere
abbrev pub all_differ : List Typing → List Typing → Bool
all_differ ts us = not (nat_eq (length ts) (length us)) || list_any (λ p. differ p.0 p.1) (zip ts us)

abbrev pub is_integer : Typing → Bool
is_integer Void = false
is_integer (Integer t) = true
is_integer Unknown = false

-- A function has a type only where each of its parameters has one: else nothing is compared.
abbrev pub are_integers : List Typing → Bool
are_integers = list_all is_integer

abbrev pub differs : SignatureTree → SignatureTree → Bool
differs s t =
    (are_integers s.parameters && are_integers t.parameters)
    && (differ s.returns t.returns || all_differ s.parameters t.parameters)

-- what a special name has to be declared as
abbrev pub returned : Callee → Typing
returned (Ordinary returns n) = Unknown
returned (Any t) = Integer t
returned Assume = Void
returned Assert = Void
returned Abort = Void

abbrev pub taken : Callee → List Typing
taken (Ordinary returns n) = []
taken (Any t) = []
taken Assume = Integer Int ∷ []
taken Assert = Integer Int ∷ []
taken Abort = []

-- special: a special name has other types
abbrev pub is_wrong : SignatureTree → Callee → Bool
is_wrong s callee =
    are_integers s.parameters && (differ s.returns (returned callee) || all_differ s.parameters (taken callee))

-- What is declared again.

abbrev pub changes : SignatureTree → Bool → Option EntryTree → Bool
changes s has_body None = false
changes s has_body (Some e) = differs s e.signature || (has_body && e.is_defined)

-- redeclared: as no function, with other types, or defined twice; at the name
abbrev pub is_redeclared : List EntryTree → SignatureTree → Bool → Option Declaration → Bool
is_redeclared entries s has_body None = false
is_redeclared entries s has_body (Some (declared.Object o)) = true
is_redeclared entries s has_body (Some (declared.Enumerator n)) = true
is_redeclared entries s has_body (Some (declared.TypeName t)) = true
is_redeclared entries s has_body (Some (declared.Function f)) = changes s has_body (slice_get entries f.number)

-- special: a special name has other types; at the name
abbrev pub is_misused : SignatureTree → Option Callee → Bool
is_misused s None = false
is_misused s (Some callee) = is_wrong s callee

-- the rows at a function: its words, and its name
abbrev pub head_failures : List EntryTree → Scoping → FunctionTree → List Failure
head_failures entries s f =
    let d = names_in s in
    let t = signature_of d f in
    word_failures d f.specifiers
    ++ fails_if (is_redeclared entries t (is_some f.body) (d f.name)) rule.Redeclared f.name.at
    ++ fails_if (is_misused t (special (spelled s.text f.name))) rule.Special f.name.at

-- Bodies.

abbrev pub each_at : Rule → List Pos → List Failure
each_at r [] = []
each_at r (at ∷ places) = record { rule = r; at = at } ∷ each_at r places

-- label: goto without a label, or a second label; jump: a jump, a case or a default out of place
abbrev pub about_jumps : Listed → Jumped → List Failure
about_jumps labels jumps =
    each_at rule.Label labels.repeated ++ each_at rule.Label jumps.unknown ++ each_at rule.Jump jumps.misplaced

abbrev pub jump_failures : List ℕ → ItemTrees → List Failure
jump_failures text items =
    let labels = labels_of text items in about_jumps labels (jumps_of text labels.labels items)

-- the place of a name; or this one, where there is none
abbrev pub place_of_name : Option Identifier → Pos → Pos
place_of_name None at = at
place_of_name (Some x) at = x.at

-- array: a parameter with brackets; at its name, or at the first word of one without a name
abbrev pub parameter_failures : Names → ParameterTree → List Failure
parameter_failures d p =
    word_failures d p.specifiers
    ++ fails_if (is_some p.brackets) rule.Array (place_of_name p.name p.specifiers.first.at)

-- The failures at each form are added. void: a parameter of type void; at its name, or at the first word of one without a name.
abbrev pub adding : {F : Type 0} → Adding F → UnitChecks F
adding add = record {
  statements = statements.adding add;
  object = λ storage s t x found. add found (object_failures storage s t x);
  head = λ entries s f found. add found (head_failures entries s f);
  words = λ d p found. add found (parameter_failures d p);
  parameter = λ t at found. add found (fails_if (is_void t) rule.Void at);
  jumps = λ text items found. add found (jump_failures text items);
}

-- the failure that is answered, of those found
abbrev pub noting : UnitChecks (Option Failure)
noting = adding noted
