-- Texts (C99 6.9).
use Rattle.std.specs.Prelude.{ℕ, ◌+◌, Bool, true, false, is_some, List, [], ◌∷◌, ◌++◌, length, map, if◌then◌else◌}
use Rattle.std.specs.Str.{bytes_eq}
use Rattle.pk_ast.specs.Trees.{ExternalTree, function, objects, type_names}
use Rattle.pk_typed.specs.Trees as typed
use Rattle.pk_typed.specs.Trees.{UnitTree}
use Rattle.pk_type_scope.specs.Scopes.{spelled, file_scope}
use Rattle.pk_type_declaration.specs.Declarations.{integer_in, type_or_int}
use Rattle.pk_type.specs.Files.{EntryTree, Filed, UnitChecks, on, without_calls, after_declaration}
use Rattle.pk_type.specs.Functions.{after_function}
use Rattle.pk_type.specs.TypeNames.{after_typedef}

abbrev pub no_name : List ℕ → Bool
no_name q = false

abbrev pub with_name : (List ℕ → Bool) → List ℕ → List ℕ → Bool
with_name has name q = if bytes_eq name q then true else has q

abbrev pub and_defined : List ℕ → ExternalTree → (List ℕ → Bool) → List ℕ → Bool
and_defined text (function f) has = if is_some f.body then with_name has (spelled text f.name) else has
and_defined text (objects storage d) has = has
and_defined text (type_names d) has = has

-- whether a function of that spelling has a body
unfoldable pub defined_in : List ℕ → List ExternalTree → (List ℕ → Bool) → List ℕ → Bool
defined_in text [] has = has
defined_in text (x ∷ xs) has = defined_in text xs (and_defined text x has)

abbrev pub after_external : {F : Type 0} → UnitChecks F → (List ℕ → Bool) → ExternalTree → Filed F → Filed F
after_external c defined (function g) f = after_function c defined g f
after_external c defined (objects storage d) f = after_declaration c storage d f
after_external c defined (type_names d) f = without_calls (on (after_typedef c.statements.declarations d) f)

unfoldable pub after_externals : {F : Type 0} → UnitChecks F → (List ℕ → Bool) → List ExternalTree → Filed F → Filed F
after_externals c defined [] f = f
after_externals c defined (x ∷ xs) f = after_externals c defined xs (after_external c defined x f)

abbrev pub objects_of : ExternalTree → ℕ
objects_of (function f) = 0
objects_of (objects storage d) = length d.declarators
objects_of (type_names d) = 0

-- how many objects a text declares outside of functions
unfoldable pub objects_in : List ExternalTree → ℕ
objects_in [] = 0
objects_in (x ∷ xs) = objects_of x + objects_in xs

-- before a text that declares so many objects
abbrev pub nothing_filed : {F : Type 0} → F → List ℕ → ℕ → Filed F
nothing_filed found text n =
    record {
      walked = record {
        scoping = file_scope text;
        found = found;
        calls = [];
        locals = [];
        statics = record { first = n; made = [] };
      };
      objects = [];
      functions = [];
    }

-- a text from its beginning to its end, where nothing was found before
abbrev pub checked : {F : Type 0} → UnitChecks F → F → List ℕ → List ExternalTree → Filed F
checked c found text trees =
    after_externals c (defined_in text trees no_name) trees (nothing_filed found text (objects_in trees))

abbrev pub function_of : EntryTree → typed.FunctionTree
function_of e =
    record {
      name = e.name;
      returns = integer_in e.signature.returns;
      parameters = map type_or_int e.signature.parameters;
      body = e.body;
    }

-- the typed tree: behind the objects of the file stand the static ones of functions
abbrev pub unit_of : {F : Type 0} → Filed F → UnitTree
unit_of f = record { objects = f.objects ++ f.walked.statics.made; functions = map function_of f.functions }
