-- Objects that functions declare static (C99 6.2.4, 6.7.8): each is one for all calls, and holds what it begins with when a run begins. Declarations of blocks, static or not.
use Rattle.std.specs.Prelude.{ℕ, ◌+◌, Bool, is_some, Option, Some, None, option_map, List, [], ◌∷◌, ◌++◌, length}
use Rattle.pk_ctypes.specs.declared.places.Pos.{Pos}
use Rattle.pk_ast.specs.Trees.{DeclaratorTree, DeclarationTree}
use Rattle.pk_typed.specs.declared.values.Variable.TheVariants.{File}
use Rattle.pk_typed.specs.Trees.{FileObjectTree, DeclaredTree, static_object}
use Rattle.pk_type_scope.specs.declared.declarations.Declaration.{Declaration}
use Rattle.pk_type_scope.specs.declared.declarations.Declaration.TheVariants as declared
use Rattle.pk_type_declaration.specs.declared.words.Words.{Words}
use Rattle.pk_type_declaration.specs.Checks.{DeclarationChecks}
use Rattle.pk_type_declaration.specs.Declarations.{type_or_int, object_of, text_of, length_at, after_dimensions, length_or_1, after_object_name, after_declarators, declarator_trees_at}
use Rattle.pk_type_declaration.specs.Enumerations.{words_at, after_words, word_trees_at}
use Rattle.pk_type_declaration.specs.Initializers.{given}
use Rattle.pk_type_declaration.specs.Starts.{after_numbers, start_at}
use Rattle.pk_type_declaration.specs.Walks.{Walked, here, finding, with_static}

-- the number of the next among the unit's objects
abbrev pub next_static : {F : Type 0} → Walked F → ℕ
next_static w = w.statics.first + length w.statics.made

abbrev pub static_at : {F : Type 0} → Words → Bool → Walked F → Declaration
static_at words is_array w = declared.Object (object_of words is_array (File (next_static w)))

-- a declarator as far as what its name begins with
abbrev pub after_static_head : {F : Type 0} → DeclarationChecks F → Words → DeclaratorTree → Walked F → Walked F
after_static_head c words d w =
    finding (c.start (length_at w d.dimensions) d)
    (after_object_name c words.typing (static_at words (is_some d.dimensions) w) d.name
    (after_dimensions c d.name.at d.dimensions w))

abbrev pub static_of : {F : Type 0} → DeclarationChecks F → Words → DeclaratorTree → Walked F → FileObjectTree
static_of c words d w =
    record {
      name = text_of w.scoping d.name;
      int_type = type_or_int words.typing;
      start = start_at c (type_or_int words.typing) (length_or_1 (is_some d.dimensions) (length_at w d.dimensions))
          d.initializer (after_static_head c words d w);
    }

-- what it begins with stands inside its scope
unfoldable pub after_static : {F : Type 0} → DeclarationChecks F → Words → DeclaratorTree → Walked F → Walked F
after_static c words d w =
    with_static (static_of c words d w) (after_numbers c (given d.initializer) (after_static_head c words d w))

unfoldable pub after_statics : {F : Type 0} → DeclarationChecks F → Words → List DeclaratorTree → Walked F → Walked F
after_statics c words [] w = w
after_statics c words (d ∷ ds) w = after_statics c words ds (after_static c words d w)

-- their typed trees

abbrev pub static_tree_at : {F : Type 0} → DeclaratorTree → Walked F → DeclaredTree
static_tree_at d w = static_object (next_static w) d.name.at

unfoldable pub static_trees_at : {F : Type 0} → DeclarationChecks F → Words → List DeclaratorTree → Walked F →
    List DeclaredTree
static_trees_at c words [] w = []
static_trees_at c words (d ∷ ds) w =
    static_tree_at d w ∷ static_trees_at c words ds (after_static c words d w)

-- Declarations of blocks. One of static objects has trees in any case.

unfoldable pub after_declaration : {F : Type 0} → DeclarationChecks F → DeclarationTree → Walked F → Walked F
after_declaration c d w =
    after_declarators c (words_at (here w) d.specifiers d.enumeration) d.declarators
    (after_words c d.specifiers d.enumeration w)

unfoldable pub declaration_trees_at : {F : Type 0} → DeclarationChecks F → DeclarationTree → Walked F →
    Option (List DeclaredTree)
declaration_trees_at c d w =
    option_map (λ ts. word_trees_at c d.specifiers d.enumeration w ++ ts)
    (declarator_trees_at c (words_at (here w) d.specifiers d.enumeration) d.declarators
    (after_words c d.specifiers d.enumeration w))

unfoldable pub after_static_declaration : {F : Type 0} → DeclarationChecks F → DeclarationTree → Walked F → Walked F
after_static_declaration c d w =
    after_statics c (words_at (here w) d.specifiers d.enumeration) d.declarators
    (after_words c d.specifiers d.enumeration w)

unfoldable pub static_declaration_at : {F : Type 0} → DeclarationChecks F → DeclarationTree → Walked F →
    List DeclaredTree
static_declaration_at c d w =
    word_trees_at c d.specifiers d.enumeration w
    ++ static_trees_at c (words_at (here w) d.specifiers d.enumeration) d.declarators
    (after_words c d.specifiers d.enumeration w)

-- a declaration of a block, which may have `static` at a place

abbrev pub after_block_declaration : {F : Type 0} → DeclarationChecks F → Option Pos → DeclarationTree → Walked F →
    Walked F
after_block_declaration c None d w = after_declaration c d w
after_block_declaration c (Some at) d w = after_static_declaration c d w

abbrev pub block_declaration_at : {F : Type 0} → DeclarationChecks F → Option Pos → DeclarationTree → Walked F →
    Option (List DeclaredTree)
block_declaration_at c None d w = declaration_trees_at c d w
block_declaration_at c (Some at) d w = Some (static_declaration_at c d w)
