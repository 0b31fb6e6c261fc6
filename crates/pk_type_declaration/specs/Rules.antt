-- The rules of declarations, by what stands there. What a record of checks makes of them adds the failures at each form to what was found before: as a list of all of them, or as the failure that
-- is answered.
use Rattle.std.specs.Prelude.{ℕ, zero, suc, ℤ, Bool, true, false, not, ◌||◌, is_some, Option, Some, None, List, [], ◌∷◌, ◌++◌}
use Rattle.pk_ctypes.specs.declared.places.Pos.{Pos}
use Rattle.pk_ctypes.specs.declared.types.IntType.TheVariants.{Int}
use Rattle.pk_ctypes.specs.declared.words.Rule.TheVariants as rule
use Rattle.pk_ctypes.specs.Types.{is_in_type}
use Rattle.pk_ast.specs.declared.expressions.Identifier.{Identifier}
use Rattle.pk_ast.specs.Places.{first_place_of}
use Rattle.pk_ast.specs.Trees.{InitializerItemTree, item_value, item_row, InitializerTree, single, braced}
use Rattle.pk_type_scope.specs.declared.declarations.Typing.{Typing}
use Rattle.pk_type_scope.specs.declared.failures.Failure.{Failure}
use Rattle.pk_type_scope.specs.Declarations.{is_void}
use Rattle.pk_type_scope.specs.Failures.{fails_if, noted}
use Rattle.pk_type_scope.specs.Scopes.{Scoping, declared_here, spelled}
use Rattle.pk_type_scope.specs.Specifiers.{word_failures}
use Rattle.pk_type_expression.specs.Rules.{failures, used_failures, failures_used}
use Rattle.pk_type_declaration.specs.declared.constants.Evaluated.{Evaluated}
use Rattle.pk_type_declaration.specs.Checks.{DeclarationChecks}
use Rattle.pk_type_declaration.specs.Constants.{is_refused, is_refused_length, number_in}
use Rattle.pk_type_declaration.specs.Specials.{special}
use Rattle.pk_type_declaration.specs.Walks.{Walked}

-- redeclared: a second declaration in one scope; at the name
abbrev pub redeclared : Scoping → Identifier → List Failure
redeclared s x = fails_if (is_some (declared_here s x)) rule.Redeclared x.at

-- void: an object of type void; at the name
abbrev pub void_object : Typing → Pos → List Failure
void_object t at = fails_if (is_void t) rule.Void at

-- special: a special name has other types; an object has. At the name
abbrev pub special_object : Scoping → Identifier → List Failure
special_object s x = fails_if (is_some (special (spelled s.text x))) rule.Special x.at

-- the rows at the name of a declared object
abbrev pub at_name : Scoping → Typing → Identifier → List Failure
at_name s t x = redeclared s x ++ void_object t x.at ++ special_object s x

-- array: braces on a scalar, no braces on an array; at the name
abbrev pub braces : Bool → Option InitializerTree → Pos → List Failure
braces is_array None at = []
braces is_array (Some (single e)) at = fails_if is_array rule.Array at
braces is_array (Some (braced brace is)) at = fails_if (not is_array) rule.Array at

-- the first item that doesn't fit in n elements of one dimension: a row, at its `{`, or a value too many, at its first token
abbrev pub first_misfit : ℕ → List InitializerItemTree → Option Pos
first_misfit n [] = None
first_misfit n (item_row at e es ∷ is) = Some at
first_misfit zero (item_value e ∷ is) = Some (first_place_of e)
first_misfit (suc n) (item_value e ∷ is) = first_misfit n is

abbrev pub misfit_at : Option Pos → List Failure
misfit_at None = []
misfit_at (Some at) = fails_if true rule.Initialiser at

-- initialiser: a row, since arrays have one dimension, or more items than the length; at the first of these
abbrev pub misfit : Option ℕ → Option InitializerTree → List Failure
misfit None first = []
misfit (Some n) None = []
misfit (Some n) (Some (single e)) = []
misfit (Some n) (Some (braced brace is)) = misfit_at (first_misfit n (is.first ∷ is.more))

-- constant: the number of an enumerator isn't an int
abbrev pub is_beyond : Option ℤ → Bool
is_beyond None = false
is_beyond (Some n) = not (is_in_type Int n)

-- constant: the value of an enumerator isn't a constant expression, has a fault, or isn't an int
abbrev pub is_refused_enumerator : Evaluated → Bool
is_refused_enumerator v = is_refused v || is_beyond (number_in v)

-- what is found after a list of failures
abbrev pub Adding : Type 0 → Type 0
Adding F = F → List Failure → F

-- some failures
abbrev pub failing : {F : Type 0} → Adding F → List Failure → Walked F → Walked F
failing add fs w = record {
  scoping = w.scoping;
  found = add w.found fs;
  calls = w.calls;
  locals = w.locals;
  statics = w.statics;
}

-- The failures at each form are added. constant: an expression has to be one, at its first token, and an enumerator without one is an int, at its name. array: an array has rows and columns, at
-- its name.
abbrev pub adding : {F : Type 0} → Adding F → DeclarationChecks F
adding add = record {
  value = λ d e found. add found (used_failures d e);
  effect = λ d e found. add found (failures d e);
  values = λ d es found. add found (failures_used d es);
  constant = λ v e found. add found (fails_if (is_refused v) rule.Constant (first_place_of e));
  length = λ v e found. add found (fails_if (is_refused_length v) rule.Constant (first_place_of e));
  enumerator = λ v e found. add found (fails_if (is_refused_enumerator v) rule.Constant (first_place_of e));
  counted = λ n x found. add found (fails_if (is_beyond n) rule.Constant x.at);
  words = λ d words found. add found (word_failures d words);
  tag = λ s x found. add found (redeclared s x);
  name = λ s x found. add found (redeclared s x ++ special_object s x);
  object = λ s t x found. add found (at_name s t x);
  columns = λ at found. add found (fails_if true rule.Array at);
  start = λ n d found. add found (braces (is_some d.dimensions) d.initializer d.name.at ++ misfit n d.initializer);
}

-- the failure that is answered, of those found
abbrev pub noting : DeclarationChecks (Option Failure)
noting = adding noted
