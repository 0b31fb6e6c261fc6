-- The first failure so far is that of the list so far: after static objects, and declarations of blocks.
use Rattle.std.proofs.Common.{◌≡◌, ℤ, List, [], ◌∷◌, ◌++◌, Option, Some, None, refl, ap, ◌∙◌}
use Rattle.std.specs.Prelude.{ℕ, is_some}
use Rattle.pk_ctypes.specs.declared.places.Pos.{Pos}
use Rattle.pk_ctypes.specs.declared.types.IntType.{IntType}
use Rattle.pk_ast.specs.Trees.{ExpressionTrees, no_expressions, expression_then, DeclaratorTree, DeclarationTree}
use Rattle.pk_typed.specs.Trees.{FileObjectTree, DeclaredTree}
use Rattle.pk_type_scope.specs.Failures.{noted}
use Rattle.pk_type_declaration.specs.declared.words.Words.{Words}
use Rattle.pk_type_declaration.specs.Constants.{after_constant}
use Rattle.pk_type_declaration.specs.Declarations.{type_or_int, text_of, length_at, after_dimensions, length_or_1, after_object_name}
use Rattle.pk_type_declaration.specs.Enumerations.{words_at, after_words, word_trees_at}
use Rattle.pk_type_declaration.specs.Initializers.{given}
use Rattle.pk_type_declaration.specs.Starts.{number_at, after_numbers, numbers_at, start_of}
use Rattle.pk_type_declaration.specs.Statics.{static_at, after_static_head, after_static, after_statics, after_static_declaration, static_tree_at, static_trees_at, static_declaration_at, after_block_declaration, block_declaration_at}
use Rattle.pk_type_declaration.specs.Walks.{here, after_name, with_static}
use Rattle.pk_type_declaration.specs.Rules as declarations
use Rattle.pk_type_declaration.specs.Rules.{at_name, braces, misfit, failing}
use Rattle.pk_type_laws.specs.Answered.Failures.{appended}
use Rattle.pk_type_laws.proofs.Answered.Walks.{L, W, first, failing_first, constant_first, dimensions_first, length_at_first, words_first, word_trees_same, declaration_first, declaration_same}

pub numbers_first : (es : ExpressionTrees) (w : L) → after_numbers declarations.noting es (first w) ≡ first (after_numbers (declarations.adding appended) es w)
unfolding after_numbers
numbers_first no_expressions w = refl
numbers_first (expression_then e es) w = ap (after_numbers declarations.noting es) (constant_first e w) ∙ numbers_first es (after_constant (declarations.adding appended) e w)

pub numbers_same : (t : IntType) (es : ExpressionTrees) (w : L) → numbers_at declarations.noting t es (first w) ≡ numbers_at (declarations.adding appended) t es w
unfolding numbers_at
numbers_same t no_expressions w = refl
numbers_same t (expression_then e es) w =
    ap (λ (ns : List ℤ). number_at t w e ∷ ns) (ap (numbers_at declarations.noting t es) (constant_first e w) ∙ numbers_same t es (after_constant (declarations.adding appended) e w))

static_head_first : (words : Words) (d : DeclaratorTree) (w : L) → after_static_head declarations.noting words d (first w) ≡ first (after_static_head (declarations.adding appended) words d w)
static_head_first words d w =
    let o = static_at words (is_some d.dimensions) w in
    let v = after_dimensions (declarations.adding appended) d.name.at d.dimensions w in
    let fs = braces (is_some d.dimensions) d.initializer d.name.at ++ misfit (length_at w d.dimensions) d.initializer in
    let begun : W → W = λ (z : W). after_object_name declarations.noting words.typing o d.name z in
    let same : after_static_head declarations.noting words d (first w) ≡ failing noted fs (begun (after_dimensions declarations.noting d.name.at d.dimensions (first w))) =
    ap (λ (m : Option ℕ). failing noted (braces (is_some d.dimensions) d.initializer d.name.at ++ misfit m d.initializer) (begun (after_dimensions declarations.noting d.name.at d.dimensions (first w)))) (length_at_first d.dimensions w) in
    same ∙ (ap (λ (z : W). failing noted fs (begun z)) (dimensions_first d.name.at d.dimensions w)
    ∙ (ap (λ (z : W). failing noted fs (after_name d.name o z)) (failing_first (at_name v.scoping words.typing d.name) v) ∙ failing_first fs (after_object_name (declarations.adding appended) words.typing o d.name v)))

static_first : (words : Words) (d : DeclaratorTree) (w : L) → after_static declarations.noting words d (first w) ≡ first (after_static (declarations.adding appended) words d w)
unfolding after_static
static_first words d w =
    let t = type_or_int words.typing in
    let es = given d.initializer in
    let v = after_static_head declarations.noting words d (first w) in
    let x = after_static_head (declarations.adding appended) words d w in
    let y = after_numbers (declarations.adding appended) es x in
    let object : Option ℕ → List ℤ → FileObjectTree = λ (n : Option ℕ). λ (ns : List ℤ). record { name = text_of w.scoping d.name; int_type = t; start = start_of (length_or_1 (is_some d.dimensions) n) ns } in
    let same : v ≡ first x = static_head_first words d w in
    let walk : after_numbers declarations.noting es v ≡ first y = ap (after_numbers declarations.noting es) same ∙ numbers_first es x in
    let numbers : numbers_at declarations.noting t es v ≡ numbers_at (declarations.adding appended) t es x = ap (numbers_at declarations.noting t es) same ∙ numbers_same t es x in
    ap (λ (z : W). with_static (object (length_at (first w) d.dimensions) (numbers_at declarations.noting t es v)) z) walk
    ∙ (ap (λ (n : Option ℕ). with_static (object n (numbers_at declarations.noting t es v)) (first y)) (length_at_first d.dimensions w) ∙ ap (λ (ns : List ℤ). with_static (object (length_at w d.dimensions) ns) (first y)) numbers)

statics_first : (words : Words) (ds : List DeclaratorTree) (w : L) → after_statics declarations.noting words ds (first w) ≡ first (after_statics (declarations.adding appended) words ds w)
unfolding after_statics
statics_first words [] w = refl
statics_first words (d ∷ ds) w = ap (after_statics declarations.noting words ds) (static_first words d w) ∙ statics_first words ds (after_static (declarations.adding appended) words d w)

static_declaration_first : (d : DeclarationTree) (w : L) → after_static_declaration declarations.noting d (first w) ≡ first (after_static_declaration (declarations.adding appended) d w)
unfolding after_static_declaration
static_declaration_first d w =
    let words = words_at (here w) d.specifiers d.enumeration in
    ap (after_statics declarations.noting words d.declarators) (words_first d.specifiers d.enumeration w) ∙ statics_first words d.declarators (after_words (declarations.adding appended) d.specifiers d.enumeration w)

pub block_declaration_first : (s : Option Pos) (d : DeclarationTree) (w : L) → after_block_declaration declarations.noting s d (first w) ≡ first (after_block_declaration (declarations.adding appended) s d w)
block_declaration_first None d w = declaration_first d w
block_declaration_first (Some at) d w = static_declaration_first d w

-- ---- their typed trees

static_trees_same : (words : Words) (ds : List DeclaratorTree) (w : L) → static_trees_at declarations.noting words ds (first w) ≡ static_trees_at (declarations.adding appended) words ds w
unfolding static_trees_at
static_trees_same words [] w = refl
static_trees_same words (d ∷ ds) w =
    ap (λ (ts : List DeclaredTree). static_tree_at d w ∷ ts) (ap (static_trees_at declarations.noting words ds) (static_first words d w) ∙ static_trees_same words ds (after_static (declarations.adding appended) words d w))

static_declaration_same : (d : DeclarationTree) (w : L) → static_declaration_at declarations.noting d (first w) ≡ static_declaration_at (declarations.adding appended) d w
unfolding static_declaration_at
static_declaration_same d w =
    let words = words_at (here w) d.specifiers d.enumeration in
    let hs = word_trees_at (declarations.adding appended) d.specifiers d.enumeration w in
    ap (λ (ts : List DeclaredTree). ts ++ static_trees_at declarations.noting words d.declarators (after_words declarations.noting d.specifiers d.enumeration (first w))) (word_trees_same d.specifiers d.enumeration w)
    ∙ ap (λ (ts : List DeclaredTree). hs ++ ts)
    (ap (static_trees_at declarations.noting words d.declarators) (words_first d.specifiers d.enumeration w) ∙ static_trees_same words d.declarators (after_words (declarations.adding appended) d.specifiers d.enumeration w))

pub block_declaration_same : (s : Option Pos) (d : DeclarationTree) (w : L) → block_declaration_at declarations.noting s d (first w) ≡ block_declaration_at (declarations.adding appended) s d w
block_declaration_same None d w = declaration_same d w
block_declaration_same (Some at) d w = ap Some (static_declaration_same d w)
