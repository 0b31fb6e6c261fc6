-- The first failure so far is that of the list so far: after expressions and declarations.
use Rattle.std.proofs.Common.{◌≡◌, ℕ, ℤ, pos, Bool, true, false, List, [], ◌∷◌, ◌++◌, Option, Some, None, refl, ap, sym, ◌∙◌, length}
use Rattle.std.specs.Prelude.{is_some}
use Rattle.std.specs.Option.{option_map}
use Rattle.pk_ctypes.specs.declared.places.Pos.{Pos}
use Rattle.pk_ctypes.specs.declared.words.Rule.TheVariants as rule
use Rattle.pk_ast.specs.declared.declarations.Specifier.{Specifier}
use Rattle.pk_ast.specs.declared.expressions.Identifier.{Identifier}
use Rattle.pk_ast.specs.Places.{first_place_of}
use Rattle.pk_ast.specs.Trees.{OneOrMore, ExpressionTree, ExpressionTrees, InitializerTree, single, braced, DimensionsTree, DeclaratorTree, EnumeratorTree, EnumerationTree, DeclarationTree}
use Rattle.pk_typed.specs.Trees.{DeclaredTree}
use Rattle.pk_type_scope.specs.declared.failures.Failure.{Failure}
use Rattle.pk_type_scope.specs.Failures.{noted, fails_if}
use Rattle.pk_type_scope.specs.declared.declarations.Declaration.TheVariants as declared
use Rattle.pk_type_scope.specs.Specifiers.{type_name_among, word_failures}
use Rattle.pk_type_scope.proofs.FailureLemmas.{noted_append}
use Rattle.pk_type_expression.specs.Rules.{failures, used_failures, failures_used}
use Rattle.pk_type_expression.specs.Typed.{of_both}
use Rattle.pk_type_declaration.specs.declared.words.Words.{Words}
use Rattle.pk_type_declaration.specs.Constants.{evaluated, is_refused, is_refused_length, after_constant, after_length}
use Rattle.pk_type_declaration.specs.Declarations.{object_at, local_of, after_initializer, length_at, after_columns, after_dimensions, after_object, after_head, after_declarator, after_declarators, scalar_tree, array_tree, object_tree, declarator_tree_at, declarator_trees_at}
use Rattle.pk_type_declaration.specs.Enumerations.{words_at, int_named, after_tag, next_number, enumerator_value, after_enumerator_value, after_enumerator_name, after_enumerator, after_enumerators, after_words, hidden, hidden_by, word_trees_at}
use Rattle.pk_type_declaration.specs.Statics.{after_declaration, declaration_trees_at}
use Rattle.pk_type_declaration.specs.Initializers.{braced_values}
use Rattle.pk_type_declaration.specs.Walks.{Walked, here, after_value, after_effect, after_values, after_name, with_local}
use Rattle.pk_type_declaration.specs.Rules as declarations
use Rattle.pk_type_declaration.specs.Rules.{redeclared, special_object, at_name, braces, misfit, is_beyond, is_refused_enumerator, failing}
use Rattle.pk_type_laws.specs.Answered.Failures.{appended}

abbrev pub L : Type 0
L = Walked (List Failure)

abbrev pub W : Type 0
W = Walked (Option Failure)

-- with another note of what was found
abbrev pub finding : L → Option Failure → W
finding w f = record { scoping = w.scoping; found = f; calls = w.calls; locals = w.locals; statics = w.statics }

-- with the first failure alone
abbrev pub first : L → W
first w = finding w (noted None w.found)

pub failing_first : (fs : List Failure) (w : L) → failing noted fs (first w) ≡ first (failing appended fs w)
failing_first fs w = ap (finding w) (sym (noted_append None w.found fs))

pub value_first : (e : ExpressionTree) (w : L) → after_value declarations.noting e (first w) ≡ first (after_value (declarations.adding appended) e w)
value_first e w = ap (finding (after_value (declarations.adding appended) e w)) (sym (noted_append None w.found (used_failures (here w) e)))

pub effect_first : (e : ExpressionTree) (w : L) → after_effect declarations.noting e (first w) ≡ first (after_effect (declarations.adding appended) e w)
effect_first e w = ap (finding (after_effect (declarations.adding appended) e w)) (sym (noted_append None w.found (failures (here w) e)))

pub values_first : (es : ExpressionTrees) (w : L) → after_values declarations.noting es (first w) ≡ first (after_values (declarations.adding appended) es w)
values_first es w = ap (finding (after_values (declarations.adding appended) es w)) (sym (noted_append None w.found (failures_used (here w) es)))

pub constant_first : (e : ExpressionTree) (w : L) → after_constant declarations.noting e (first w) ≡ first (after_constant (declarations.adding appended) e w)
constant_first e w =
    let fs = fails_if (is_refused (evaluated w e)) rule.Constant (first_place_of e) in
    ap (failing noted fs) (value_first e w) ∙ failing_first fs (after_value (declarations.adding appended) e w)

pub length_first : (e : ExpressionTree) (w : L) → after_length declarations.noting e (first w) ≡ first (after_length (declarations.adding appended) e w)
length_first e w =
    let fs = fails_if (is_refused_length (evaluated w e)) rule.Constant (first_place_of e) in
    ap (failing noted fs) (value_first e w) ∙ failing_first fs (after_value (declarations.adding appended) e w)

columns_first : (at : Pos) (e : Option ExpressionTree) (w : L) → after_columns declarations.noting at e (first w) ≡ first (after_columns (declarations.adding appended) at e w)
columns_first at None w = refl
columns_first at (Some e) w =
    let fs = fails_if true rule.Array at in
    ap (failing noted fs) (length_first e w) ∙ failing_first fs (after_length (declarations.adding appended) e w)

pub dimensions_first : (at : Pos) (d : Option DimensionsTree) (w : L) → after_dimensions declarations.noting at d (first w) ≡ first (after_dimensions (declarations.adding appended) at d w)
dimensions_first at None w = refl
dimensions_first at (Some d) w = ap (after_columns declarations.noting at d.columns) (length_first d.length w) ∙ columns_first at d.columns (after_length (declarations.adding appended) d.length w)

pub initializer_first : (i : Option InitializerTree) (w : L) → after_initializer declarations.noting i (first w) ≡ first (after_initializer (declarations.adding appended) i w)
initializer_first None w = refl
initializer_first (Some (single e)) w = value_first e w
initializer_first (Some (braced at is)) w = values_first (braced_values is) w

pub length_at_first : (d : Option DimensionsTree) (w : L) → length_at (first w) d ≡ length_at w d
length_at_first None w = refl
length_at_first (Some d) w = refl

-- ---- declared objects

pub object_first : (words : Words) (is_array : Bool) (n : Option ℕ) (x : Identifier) (w : L) → after_object declarations.noting words is_array n x (first w) ≡ first (after_object (declarations.adding appended) words is_array n x w)
object_first words is_array n x w =
    ap (λ (v : W). with_local (local_of words.typing w.scoping is_array n x) (after_name x (object_at words is_array w) v)) (failing_first (at_name w.scoping words.typing x) w)

pub head_first : (words : Words) (d : DeclaratorTree) (w : L) → after_head declarations.noting words d (first w) ≡ first (after_head (declarations.adding appended) words d w)
head_first words d w =
    let n = length_at w d.dimensions in
    let fs = braces (is_some d.dimensions) d.initializer d.name.at ++ misfit n d.initializer in
    let v = after_dimensions (declarations.adding appended) d.name.at d.dimensions w in
    let u = after_object (declarations.adding appended) words (is_some d.dimensions) n d.name v in
    let same : after_head declarations.noting words d (first w) ≡ failing noted fs (after_object declarations.noting words (is_some d.dimensions) n d.name (after_dimensions declarations.noting d.name.at d.dimensions (first w))) =
    ap (λ (m : Option ℕ). failing noted (braces (is_some d.dimensions) d.initializer d.name.at ++ misfit m d.initializer) (after_object declarations.noting words (is_some d.dimensions) m d.name (after_dimensions declarations.noting d.name.at d.dimensions (first w)))) (length_at_first d.dimensions w) in
    same ∙ (ap (λ (z : W). failing noted fs (after_object declarations.noting words (is_some d.dimensions) n d.name z)) (dimensions_first d.name.at d.dimensions w)
    ∙ (ap (failing noted fs) (object_first words (is_some d.dimensions) n d.name v) ∙ failing_first fs u))

pub declarator_first : (words : Words) (d : DeclaratorTree) (w : L) → after_declarator declarations.noting words d (first w) ≡ first (after_declarator (declarations.adding appended) words d w)
unfolding after_declarator
declarator_first words d w = ap (after_initializer declarations.noting d.initializer) (head_first words d w) ∙ initializer_first d.initializer (after_head (declarations.adding appended) words d w)

pub declarators_first : (words : Words) (ds : List DeclaratorTree) (w : L) → after_declarators declarations.noting words ds (first w) ≡ first (after_declarators (declarations.adding appended) words ds w)
unfolding after_declarators
declarators_first words [] w = refl
declarators_first words (d ∷ ds) w = ap (after_declarators declarations.noting words ds) (declarator_first words d w) ∙ declarators_first words ds (after_declarator (declarations.adding appended) words d w)

-- ---- the words of a declaration, and enumerations

tag_first : (x : Option Identifier) (w : L) → after_tag declarations.noting x (first w) ≡ first (after_tag (declarations.adding appended) x w)
tag_first None w = refl
tag_first (Some x) w = ap (λ (v : W). after_name x (declared.TypeName int_named) v) (failing_first (redeclared w.scoping x) w)

value_same : (next : Option ℤ) (e : Option ExpressionTree) (w : L) → enumerator_value (first w) next e ≡ enumerator_value w next e
value_same next None w = refl
value_same next (Some e) w = refl

enumerator_value_first : (next : Option ℤ) (x : Identifier) (e : Option ExpressionTree) (w : L) → after_enumerator_value declarations.noting next x e (first w) ≡ first (after_enumerator_value (declarations.adding appended) next x e w)
enumerator_value_first next x None w = failing_first (fails_if (is_beyond next) rule.Constant x.at) w
enumerator_value_first next x (Some e) w =
    let fs = fails_if (is_refused_enumerator (evaluated w e)) rule.Constant (first_place_of e) in
    ap (failing noted fs) (value_first e w) ∙ failing_first fs (after_value (declarations.adding appended) e w)

enumerator_name_first : (v : Option ℤ) (x : Identifier) (w : L) → after_enumerator_name declarations.noting v x (first w) ≡ first (after_enumerator_name (declarations.adding appended) v x w)
enumerator_name_first v x w = ap (λ (u : W). after_name x (declared.Enumerator v) u) (failing_first (redeclared w.scoping x ++ special_object w.scoping x) w)

enumerator_first : (next : Option ℤ) (x : EnumeratorTree) (w : L) → after_enumerator declarations.noting next x (first w) ≡ first (after_enumerator (declarations.adding appended) next x w)
unfolding after_enumerator
enumerator_first next x w =
    let v = enumerator_value w next x.value in
    ap (λ (u : Option ℤ). after_enumerator_name declarations.noting u x.name (after_enumerator_value declarations.noting next x.name x.value (first w))) (value_same next x.value w)
    ∙ (ap (after_enumerator_name declarations.noting v x.name) (enumerator_value_first next x.name x.value w) ∙ enumerator_name_first v x.name (after_enumerator_value (declarations.adding appended) next x.name x.value w))

enumerators_first : (next : Option ℤ) (xs : List EnumeratorTree) (w : L) → after_enumerators declarations.noting next xs (first w) ≡ first (after_enumerators (declarations.adding appended) next xs w)
unfolding after_enumerators
enumerators_first next [] w = refl
enumerators_first next (x ∷ xs) w =
    let n = next_number (enumerator_value w next x.value) in
    ap (λ (u : Option ℤ). after_enumerators declarations.noting (next_number u) xs (after_enumerator declarations.noting next x (first w))) (value_same next x.value w)
    ∙ (ap (after_enumerators declarations.noting n xs) (enumerator_first next x w) ∙ enumerators_first n xs (after_enumerator (declarations.adding appended) next x w))

pub words_first : (words : OneOrMore Specifier) (e : Option EnumerationTree) (w : L) → after_words declarations.noting words e (first w) ≡ first (after_words (declarations.adding appended) words e w)
unfolding after_words
words_first words None w = failing_first (word_failures (here w) words) w
words_first words (Some e) w =
    let xs = e.enumerators.first ∷ e.enumerators.more in
    ap (after_enumerators declarations.noting (Some (pos 0)) xs) (tag_first (type_name_among words) w) ∙ enumerators_first (Some (pos 0)) xs (after_tag (declarations.adding appended) (type_name_among words) w)

pub declaration_first : (d : DeclarationTree) (w : L) → after_declaration declarations.noting d (first w) ≡ first (after_declaration (declarations.adding appended) d w)
unfolding after_declaration
declaration_first d w =
    let words = words_at (here w) d.specifiers d.enumeration in
    ap (after_declarators declarations.noting words d.declarators) (words_first d.specifiers d.enumeration w) ∙ declarators_first words d.declarators (after_words (declarations.adding appended) d.specifiers d.enumeration w)

-- ---- their typed trees

scalar_same : (n : ℕ) (at : Pos) (i : Option InitializerTree) (w : L) → scalar_tree n at i (first w) ≡ scalar_tree n at i w
scalar_same n at None w = refl
scalar_same n at (Some (single e)) w = refl
scalar_same n at (Some (braced brace is)) w = refl

array_same : (n : ℕ) (at : Pos) (i : Option InitializerTree) (w : L) → array_tree n at i (first w) ≡ array_tree n at i w
array_same n at None w = refl
array_same n at (Some (single e)) w = refl
array_same n at (Some (braced brace is)) w = refl

object_same : (is_array : Bool) (n : ℕ) (at : Pos) (i : Option InitializerTree) (w : L) → object_tree is_array n at i (first w) ≡ object_tree is_array n at i w
object_same true n at i w = array_same n at i w
object_same false n at i w = scalar_same n at i w

declarator_same : (words : Words) (d : DeclaratorTree) (w : L) → declarator_tree_at declarations.noting words d (first w) ≡ declarator_tree_at (declarations.adding appended) words d w
unfolding declarator_tree_at
declarator_same words d w =
    ap (object_tree (is_some d.dimensions) (length w.locals) d.name.at d.initializer) (head_first words d w)
    ∙ object_same (is_some d.dimensions) (length w.locals) d.name.at d.initializer (after_head (declarations.adding appended) words d w)

declarators_same : (words : Words) (ds : List DeclaratorTree) (w : L) → declarator_trees_at declarations.noting words ds (first w) ≡ declarator_trees_at (declarations.adding appended) words ds w
unfolding declarator_trees_at
declarators_same words [] w = refl
declarators_same words (d ∷ ds) w =
    ap (λ (t : Option DeclaredTree). of_both (λ t ts. t ∷ ts) t (declarator_trees_at declarations.noting words ds (after_declarator declarations.noting words d (first w)))) (declarator_same words d w)
    ∙ ap (λ (ts : Option (List DeclaredTree)). of_both (λ t ts. t ∷ ts) (declarator_tree_at (declarations.adding appended) words d w) ts)
    (ap (declarator_trees_at declarations.noting words ds) (declarator_first words d w) ∙ declarators_same words ds (after_declarator (declarations.adding appended) words d w))

hidden_same : (next : Option ℤ) (xs : List EnumeratorTree) (w : L) → hidden_by declarations.noting next xs (first w) ≡ hidden_by (declarations.adding appended) next xs w
unfolding hidden_by
hidden_same next [] w = refl
hidden_same next (x ∷ xs) w =
    let n = next_number (enumerator_value w next x.value) in
    ap (λ (ts : List DeclaredTree). hidden (here w x.name) x.name.at ++ ts)
    (ap (λ (u : Option ℤ). hidden_by declarations.noting (next_number u) xs (after_enumerator declarations.noting next x (first w))) (value_same next x.value w)
    ∙ (ap (hidden_by declarations.noting n xs) (enumerator_first next x w) ∙ hidden_same n xs (after_enumerator (declarations.adding appended) next x w)))

pub word_trees_same : (words : OneOrMore Specifier) (e : Option EnumerationTree) (w : L) → word_trees_at declarations.noting words e (first w) ≡ word_trees_at (declarations.adding appended) words e w
unfolding word_trees_at
word_trees_same words None w = refl
word_trees_same words (Some e) w =
    let xs = e.enumerators.first ∷ e.enumerators.more in
    ap (hidden_by declarations.noting (Some (pos 0)) xs) (tag_first (type_name_among words) w) ∙ hidden_same (Some (pos 0)) xs (after_tag (declarations.adding appended) (type_name_among words) w)

pub declaration_same : (d : DeclarationTree) (w : L) → declaration_trees_at declarations.noting d (first w) ≡ declaration_trees_at (declarations.adding appended) d w
unfolding declaration_trees_at
declaration_same d w =
    let words = words_at (here w) d.specifiers d.enumeration in
    let ts = declarator_trees_at declarations.noting words d.declarators (after_words declarations.noting d.specifiers d.enumeration (first w)) in
    ap (λ (hs : List DeclaredTree). option_map (λ ds. hs ++ ds) ts) (word_trees_same d.specifiers d.enumeration w)
    ∙ ap (option_map (λ ds. word_trees_at (declarations.adding appended) d.specifiers d.enumeration w ++ ds))
    (ap (declarator_trees_at declarations.noting words d.declarators) (words_first d.specifiers d.enumeration w) ∙ declarators_same words d.declarators (after_words (declarations.adding appended) d.specifiers d.enumeration w))
