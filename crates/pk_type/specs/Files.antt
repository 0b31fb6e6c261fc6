-- Objects of the file scope (C99 6.9.2, 6.7.8). What stands before a place of it: its scope, the objects and the functions; and what is checked outside of functions' bodies.
use Rattle.std.specs.Prelude.{ℕ, Bool, is_some, Option, List, [], ◌∷◌, ◌++◌, length}
use Rattle.pk_ctypes.specs.declared.places.Pos.{Pos}
use Rattle.pk_ast.specs.declared.expressions.Identifier.{Identifier}
use Rattle.pk_ast.specs.declared.units.Storage.{Storage}
use Rattle.pk_ast.specs.Trees.{DeclaratorTree, DeclarationTree, ParameterTree, FunctionTree, ItemTrees}
use Rattle.pk_typed.specs.declared.values.Variable.TheVariants.{File}
use Rattle.pk_typed.specs.Trees.{BodyTree, FileObjectTree}
use Rattle.pk_type_scope.specs.declared.declarations.Declaration.{Declaration}
use Rattle.pk_type_scope.specs.declared.declarations.Declaration.TheVariants as declared
use Rattle.pk_type_scope.specs.declared.declarations.Typing.{Typing}
use Rattle.pk_type_scope.specs.Declarations.{Names}
use Rattle.pk_type_scope.specs.Scopes.{Scoping}
use Rattle.pk_type_declaration.specs.declared.words.Words.{Words}
use Rattle.pk_type_declaration.specs.Declarations.{type_or_int, object_of, text_of, length_at, after_dimensions, length_or_1}
use Rattle.pk_type_declaration.specs.Enumerations.{words_at, after_words}
use Rattle.pk_type_declaration.specs.Initializers.{given}
use Rattle.pk_type_declaration.specs.Starts.{after_numbers, start_at}
use Rattle.pk_type_declaration.specs.Walks.{Walked, here, finding, after_name}
use Rattle.pk_type_statement.specs.Checks as statements
use Rattle.pk_type_statement.specs.Checks.{StatementChecks}
use Rattle.pk_type.specs.Signatures.{SignatureTree}

-- a function that was declared: whether it was defined, and its body, where that has a tree
pub record EntryTree : Type 0 where
  pub name : List ℕ
  pub signature : SignatureTree
  pub is_defined : Bool
  pub body : Option BodyTree

pub record Filed (F : Type 0) : Type 0 where
  pub walked : Walked F
  pub objects : List FileObjectTree
  pub functions : List EntryTree

-- What is found at each form, after what was found before.
pub record UnitChecks (F : Type 0) : Type 0 where
  pub statements : StatementChecks F
  -- the name of an object of the file, of a type, in these scopes
  pub object : Option Storage → Scoping → Typing → Identifier → F → F
  -- a function, declared or defined, behind others in these scopes
  pub head : List EntryTree → Scoping → FunctionTree → F → F
  -- the words of a parameter and its brackets, among these names
  pub words : Names → ParameterTree → F → F
  -- a parameter of a type without a name, whose words begin at a place
  pub parameter : Typing → Pos → F → F
  -- the labels and the jumps of a body, in a text
  pub jumps : List ℕ → ItemTrees → F → F

-- nothing is checked: what was found stays
abbrev pub unchecked : UnitChecks (Unit {0})
unchecked = record {
  statements = statements.unchecked;
  object = λ storage s t x found. found;
  head = λ entries s f found. found;
  words = λ d p found. found;
  parameter = λ t at found. found;
  jumps = λ text items found. found;
}

abbrev pub file_object : {F : Type 0} → Words → Bool → Filed F → Declaration
file_object words is_array f = declared.Object (object_of words is_array (File (length f.objects)))

-- a declarator as far as what its name begins with
abbrev pub after_head : {F : Type 0} → UnitChecks F → Option Storage → Words → DeclaratorTree → Filed F → Walked F
after_head c storage words d f =
    let w = after_dimensions c.statements.declarations d.name.at d.dimensions f.walked in
    finding (c.statements.declarations.start (length_at f.walked d.dimensions) d)
    (after_name d.name (file_object words (is_some d.dimensions) f)
    (finding (c.object storage w.scoping words.typing d.name) w))

unfoldable pub after_object : {F : Type 0} → UnitChecks F → Option Storage → Words → DeclaratorTree → Filed F → Filed F
after_object c storage words d f =
    let w = after_head c storage words d f in
    let t = type_or_int words.typing in
    let n = length_or_1 (is_some d.dimensions) (length_at f.walked d.dimensions) in
    record {
      walked = after_numbers c.statements.declarations (given d.initializer) w;
      objects = f.objects ++ record {
        name = text_of f.walked.scoping d.name;
        int_type = t;
        start = start_at c.statements.declarations t n d.initializer w;
      } ∷ [];
      functions = f.functions;
    }

unfoldable pub after_objects : {F : Type 0} → UnitChecks F → Option Storage → Words → List DeclaratorTree → Filed F →
    Filed F
after_objects c storage words [] f = f
after_objects c storage words (d ∷ ds) f = after_objects c storage words ds (after_object c storage words d f)

-- calls outside of functions stand where a rule fails, and count for no function
abbrev pub without_calls : {F : Type 0} → Filed F → Filed F
without_calls f = record {
  walked = record {
    scoping = f.walked.scoping;
    found = f.walked.found;
    calls = [];
    locals = f.walked.locals;
    statics = f.walked.statics;
  };
  objects = f.objects;
  functions = f.functions;
}

abbrev pub on : {F : Type 0} → (Walked F → Walked F) → Filed F → Filed F
on g f = record { walked = g f.walked; objects = f.objects; functions = f.functions }

unfoldable pub after_declaration : {F : Type 0} → UnitChecks F → Option Storage → DeclarationTree → Filed F → Filed F
after_declaration c storage d f =
    without_calls (after_objects c storage (words_at (here f.walked) d.specifiers d.enumeration) d.declarators
    (on (after_words c.statements.declarations d.specifiers d.enumeration) f))
