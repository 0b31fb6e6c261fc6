-- Declared objects of a function (C99 6.7, 6.7.8).
use Rattle.std.specs.Prelude.{ℕ, Bool, true, false, is_some, Option, Some, None, option_map, List, [], ◌∷◌, length, if◌then◌else◌}
use Rattle.std.specs.Str.Lossy.{utf8_lossy}
use Rattle.pk_ctypes.specs.declared.places.Pos.{Pos}
use Rattle.pk_ctypes.specs.declared.types.IntType.{IntType}
use Rattle.pk_ctypes.specs.declared.types.IntType.TheVariants.{Int}
use Rattle.pk_ast.specs.declared.declarations.Specifier.{Specifier}
use Rattle.pk_ast.specs.declared.expressions.Identifier.{Identifier}
use Rattle.pk_ast.specs.Trees.{OneOrMore, ExpressionTree, InitializerTree, single, braced, DimensionsTree, DeclaratorTree}
use Rattle.pk_typed.specs.declared.values.Variable.{Variable}
use Rattle.pk_typed.specs.declared.values.Variable.TheVariants.{Local}
use Rattle.pk_typed.specs.Trees as tree
use Rattle.pk_typed.specs.Trees.{LocalTree, DeclaredTree}
use Rattle.pk_type_scope.specs.declared.declarations.Declaration.{Declaration}
use Rattle.pk_type_scope.specs.declared.declarations.Declaration.TheVariants as declared
use Rattle.pk_type_scope.specs.declared.declarations.Object.{Object}
use Rattle.pk_type_scope.specs.declared.declarations.Typing.{Typing}
use Rattle.pk_type_scope.specs.declared.declarations.Typing.TheVariants.{Void, Integer, Unknown}
use Rattle.pk_type_scope.specs.Declarations.{Names}
use Rattle.pk_type_scope.specs.Scopes.{Scoping, spelled}
use Rattle.pk_type_scope.specs.Specifiers.{type_named, names_const}
use Rattle.pk_type_expression.specs.Typed.{of_both}
use Rattle.pk_type_declaration.specs.declared.words.Words.{Words}
use Rattle.pk_type_declaration.specs.Constants.{evaluated, length_in, after_length}
use Rattle.pk_type_declaration.specs.Checks.{DeclarationChecks}
use Rattle.pk_type_declaration.specs.Initializers.{braced_values}
use Rattle.pk_type_declaration.specs.Walks.{Walked, finding, after_value, after_values, after_name, with_local, value_at, values_at}

-- the words of a declaration, as far as its names ask for them
abbrev pub words_of : Names → OneOrMore Specifier → Words
words_of d words = record { typing = type_named d words; is_const = names_const d words }

abbrev pub integer_in : Typing → Option IntType
integer_in Void = None
integer_in (Integer t) = Some t
integer_in Unknown = None

-- In the tables an int stands for a type that a failure leaves out, and 1 for a length.
abbrev pub type_or_int : Typing → IntType
type_or_int Void = Int
type_or_int (Integer t) = t
type_or_int Unknown = Int

abbrev pub object_of : Words → Bool → Variable → Object
object_of words is_array x =
    record { variable = x; int_type = integer_in words.typing; is_array = is_array; is_const = words.is_const }

-- an object that is the next of its function
abbrev pub object_at : {F : Type 0} → Words → Bool → Walked F → Declaration
object_at words is_array w = declared.Object (object_of words is_array (Local (length w.locals)))

-- the text of a name
abbrev pub text_of : Scoping → Identifier → List ℕ
text_of s x = utf8_lossy (spelled s.text x)

abbrev pub after_initializer : {F : Type 0} → DeclarationChecks F → Option InitializerTree → Walked F → Walked F
after_initializer c None w = w
after_initializer c (Some (single e)) w = after_value c e w
after_initializer c (Some (braced brace is)) w = after_values c (braced_values is) w

-- the length of an array, where it has one; a scalar has none
abbrev pub length_at : {F : Type 0} → Walked F → Option DimensionsTree → Option ℕ
length_at w None = None
length_at w (Some d) = length_in (evaluated w d.length)

-- an array may have rows and columns, for which there are no typed trees
abbrev pub after_columns : {F : Type 0} → DeclarationChecks F → Pos → Option ExpressionTree → Walked F → Walked F
after_columns c at None w = w
after_columns c at (Some e) w = finding (c.columns at) (after_length c e w)

-- the dimensions of an object whose name stands at a place
abbrev pub after_dimensions : {F : Type 0} → DeclarationChecks F → Pos → Option DimensionsTree → Walked F → Walked F
after_dimensions c at None w = w
after_dimensions c at (Some d) w = after_columns c at d.columns (after_length c d.length w)

abbrev pub length_or_1 : Bool → Option ℕ → Option ℕ
length_or_1 false n = None
length_or_1 true None = Some 1
length_or_1 true (Some n) = Some n

abbrev pub local_of : Typing → Scoping → Bool → Option ℕ → Identifier → LocalTree
local_of t s is_array n x =
    record { name = Some (text_of s x); int_type = type_or_int t; length = length_or_1 is_array n }

-- the name of an object, in its scope
abbrev pub after_object_name : {F : Type 0} → DeclarationChecks F → Typing → Declaration → Identifier → Walked F →
    Walked F
after_object_name c t d x w = after_name x d (finding (c.object w.scoping t x) w)

-- a declared object
abbrev pub after_object : {F : Type 0} → DeclarationChecks F → Words → Bool → Option ℕ → Identifier → Walked F →
    Walked F
after_object c words is_array n x w =
    with_local (local_of words.typing w.scoping is_array n x)
    (after_object_name c words.typing (object_at words is_array w) x w)

-- a declarator as far as what its name begins with: its dimensions stand outside its scope
abbrev pub after_head : {F : Type 0} → DeclarationChecks F → Words → DeclaratorTree → Walked F → Walked F
after_head c words d w =
    let n = length_at w d.dimensions in
    finding (c.start n d)
    (after_object c words (is_some d.dimensions) n d.name (after_dimensions c d.name.at d.dimensions w))

-- what it begins with stands inside its scope
unfoldable pub after_declarator : {F : Type 0} → DeclarationChecks F → Words → DeclaratorTree → Walked F → Walked F
after_declarator c words d w = after_initializer c d.initializer (after_head c words d w)

unfoldable pub after_declarators : {F : Type 0} → DeclarationChecks F → Words → List DeclaratorTree → Walked F →
    Walked F
after_declarators c words [] w = w
after_declarators c words (d ∷ ds) w = after_declarators c words ds (after_declarator c words d w)

-- The typed tree of a declared object, by its number.

abbrev pub scalar_tree : {F : Type 0} → ℕ → Pos → Option InitializerTree → Walked F → Option DeclaredTree
scalar_tree n at None w = Some (tree.scalar_object n at None)
scalar_tree n at (Some (single e)) w = option_map (λ v. tree.scalar_object n at (Some v)) (value_at w e)
scalar_tree n at (Some (braced brace is)) w = None

abbrev pub array_tree : {F : Type 0} → ℕ → Pos → Option InitializerTree → Walked F → Option DeclaredTree
array_tree n at None w = Some (tree.array_object n at None)
array_tree n at (Some (single e)) w = None
array_tree n at (Some (braced brace is)) w =
    option_map (λ vs. tree.array_object n at (Some vs)) (values_at w (braced_values is))

abbrev pub object_tree : {F : Type 0} → Bool → ℕ → Pos → Option InitializerTree → Walked F → Option DeclaredTree
object_tree is_array n at first w = if is_array then array_tree n at first w else scalar_tree n at first w

unfoldable pub declarator_tree_at : {F : Type 0} → DeclarationChecks F → Words → DeclaratorTree → Walked F →
    Option DeclaredTree
declarator_tree_at c words d w =
    object_tree (is_some d.dimensions) (length w.locals) d.name.at d.initializer (after_head c words d w)

unfoldable pub declarator_trees_at : {F : Type 0} → DeclarationChecks F → Words → List DeclaratorTree → Walked F →
    Option (List DeclaredTree)
declarator_trees_at c words [] w = Some []
declarator_trees_at c words (d ∷ ds) w =
    of_both (λ t ts. t ∷ ts) (declarator_tree_at c words d w)
    (declarator_trees_at c words ds (after_declarator c words d w))
