-- Scopes, calls, objects and typed trees are the same whatever is checked: a walk, without what it finds, is the walk that checks nothing.
use Rattle.std.proofs.Common.{◌≡◌, ℕ, ℤ, pos, Bool, true, false, List, [], ◌∷◌, ◌++◌, Option, Some, None, option_map, length, is_some, refl, ap, ◌∙◌}
use Rattle.pk_ctypes.specs.declared.places.Pos.{Pos}
use Rattle.pk_ctypes.specs.declared.types.IntType.{IntType}
use Rattle.pk_ast.specs.declared.declarations.Specifier.{Specifier}
use Rattle.pk_ast.specs.declared.expressions.Identifier.{Identifier}
use Rattle.pk_ast.specs.Trees.{OneOrMore, ExpressionTree, ExpressionTrees, no_expressions, expression_then, InitializerTree, single, braced, DimensionsTree, DeclaratorTree, EnumeratorTree, EnumerationTree, DeclarationTree}
use Rattle.pk_type_scope.specs.Specifiers.{type_name_among}
use Rattle.pk_type_expression.specs.Typed.{of_both}
use Rattle.pk_type_declaration.specs.declared.words.Words.{Words}
use Rattle.pk_type_declaration.specs.Checks.{DeclarationChecks, unchecked}
use Rattle.pk_type_declaration.specs.Constants.{after_constant, after_length}
use Rattle.pk_type_declaration.specs.Declarations.{type_or_int, text_of, after_initializer, length_at, after_columns, after_dimensions, length_or_1, after_object_name, after_object, after_head, after_declarator, after_declarators, object_tree, declarator_tree_at, declarator_trees_at}
use Rattle.pk_type_declaration.specs.Enumerations.{words_at, after_tag, next_number, enumerator_value, after_enumerator_value, after_enumerator_name, after_enumerator, after_enumerators, after_words, hidden, hidden_by, word_trees_at}
use Rattle.pk_type_declaration.specs.Initializers.{given}
use Rattle.pk_type_declaration.specs.Starts.{number_at, after_numbers, numbers_at, start_of, start_at}
use Rattle.pk_type_declaration.specs.Statics.{static_at, after_static_head, static_of, after_static, after_statics, static_tree_at, static_trees_at, after_declaration, declaration_trees_at, after_static_declaration, static_declaration_at, after_block_declaration, block_declaration_at}
use Rattle.pk_type_declaration.specs.Walks.{Walked, here, with_static}

abbrev pub Bare : Type 0
Bare = Walked (Unit {0})

-- without what was found
abbrev pub bare : {F : Type 0} → Walked F → Bare
bare w = record { scoping = w.scoping; found = tt; calls = w.calls; locals = w.locals; statics = w.statics }

-- ---- declared objects

pub bare_length : {F : Type 0} (w : Walked F) (d : Option DimensionsTree) → length_at w d ≡ length_at (bare w) d
bare_length w None = refl
bare_length w (Some d) = refl

bare_columns : {F : Type 0} (c : DeclarationChecks F) (at : Pos) (e : Option ExpressionTree) (w : Walked F) → bare (after_columns c at e w) ≡ after_columns unchecked at e (bare w)
bare_columns c at None w = refl
bare_columns c at (Some e) w = refl

pub bare_dimensions : {F : Type 0} (c : DeclarationChecks F) (at : Pos) (d : Option DimensionsTree) (w : Walked F) → bare (after_dimensions c at d w) ≡ after_dimensions unchecked at d (bare w)
bare_dimensions c at None w = refl
bare_dimensions c at (Some d) w = bare_columns c at d.columns (after_length c d.length w)

bare_initializer : {F : Type 0} (c : DeclarationChecks F) (i : Option InitializerTree) (w : Walked F) → bare (after_initializer c i w) ≡ after_initializer unchecked i (bare w)
bare_initializer c None w = refl
bare_initializer c (Some (single e)) w = refl
bare_initializer c (Some (braced at is)) w = refl

bare_head : {F : Type 0} (c : DeclarationChecks F) (words : Words) (d : DeclaratorTree) (w : Walked F) → bare (after_head c words d w) ≡ after_head unchecked words d (bare w)
bare_head c words d w =
    ap (λ n. after_object unchecked words (is_some d.dimensions) n d.name (bare (after_dimensions c d.name.at d.dimensions w))) (bare_length w d.dimensions)
    ∙ ap (after_object unchecked words (is_some d.dimensions) (length_at (bare w) d.dimensions) d.name) (bare_dimensions c d.name.at d.dimensions w)

pub bare_declarator : {F : Type 0} (c : DeclarationChecks F) (words : Words) (d : DeclaratorTree) (w : Walked F) → bare (after_declarator c words d w) ≡ after_declarator unchecked words d (bare w)
unfolding after_declarator
bare_declarator c words d w = bare_initializer c d.initializer (after_head c words d w) ∙ ap (after_initializer unchecked d.initializer) (bare_head c words d w)

pub bare_declarators : {F : Type 0} (c : DeclarationChecks F) (words : Words) (ds : List DeclaratorTree) (w : Walked F) → bare (after_declarators c words ds w) ≡ after_declarators unchecked words ds (bare w)
unfolding after_declarators
bare_declarators c words [] w = refl
bare_declarators c words (d ∷ ds) w = bare_declarators c words ds (after_declarator c words d w) ∙ ap (after_declarators unchecked words ds) (bare_declarator c words d w)

bare_object_tree : {F : Type 0} (is_array : Bool) (n : ℕ) (at : Pos) (i : Option InitializerTree) (w : Walked F) → object_tree is_array n at i w ≡ object_tree is_array n at i (bare w)
bare_object_tree true n at None w = refl
bare_object_tree true n at (Some (single e)) w = refl
bare_object_tree true n at (Some (braced brace is)) w = refl
bare_object_tree false n at None w = refl
bare_object_tree false n at (Some (single e)) w = refl
bare_object_tree false n at (Some (braced brace is)) w = refl

bare_declarator_tree : {F : Type 0} (c : DeclarationChecks F) (words : Words) (d : DeclaratorTree) (w : Walked F) → declarator_tree_at c words d w ≡ declarator_tree_at unchecked words d (bare w)
unfolding declarator_tree_at
bare_declarator_tree c words d w =
    bare_object_tree (is_some d.dimensions) (length w.locals) d.name.at d.initializer (after_head c words d w)
    ∙ ap (object_tree (is_some d.dimensions) (length w.locals) d.name.at d.initializer) (bare_head c words d w)

pub bare_declarator_trees : {F : Type 0} (c : DeclarationChecks F) (words : Words) (ds : List DeclaratorTree) (w : Walked F) → declarator_trees_at c words ds w ≡ declarator_trees_at unchecked words ds (bare w)
unfolding declarator_trees_at
bare_declarator_trees c words [] w = refl
bare_declarator_trees c words (d ∷ ds) w =
    ap (λ x. of_both (λ t ts. t ∷ ts) x (declarator_trees_at c words ds (after_declarator c words d w))) (bare_declarator_tree c words d w)
    ∙ ap (of_both (λ t ts. t ∷ ts) (declarator_tree_at unchecked words d (bare w))) (bare_declarator_trees c words ds (after_declarator c words d w) ∙ ap (declarator_trees_at unchecked words ds) (bare_declarator c words d w))

-- ---- enumerations

bare_tag : {F : Type 0} (c : DeclarationChecks F) (tag : Option Identifier) (w : Walked F) → bare (after_tag c tag w) ≡ after_tag unchecked tag (bare w)
bare_tag c None w = refl
bare_tag c (Some x) w = refl

bare_number : {F : Type 0} (next : Option ℤ) (e : Option ExpressionTree) (w : Walked F) → enumerator_value w next e ≡ enumerator_value (bare w) next e
bare_number next None w = refl
bare_number next (Some e) w = refl

bare_value : {F : Type 0} (c : DeclarationChecks F) (next : Option ℤ) (x : Identifier) (e : Option ExpressionTree) (w : Walked F) → bare (after_enumerator_value c next x e w) ≡ after_enumerator_value unchecked next x e (bare w)
bare_value c next x None w = refl
bare_value c next x (Some e) w = refl

bare_enumerator : {F : Type 0} (c : DeclarationChecks F) (next : Option ℤ) (x : EnumeratorTree) (w : Walked F) → bare (after_enumerator c next x w) ≡ after_enumerator unchecked next x (bare w)
unfolding after_enumerator
bare_enumerator c next x w =
    ap (λ n. after_enumerator_name unchecked n x.name (bare (after_enumerator_value c next x.name x.value w))) (bare_number next x.value w)
    ∙ ap (after_enumerator_name unchecked (enumerator_value (bare w) next x.value) x.name) (bare_value c next x.name x.value w)

bare_enumerators : {F : Type 0} (c : DeclarationChecks F) (next : Option ℤ) (xs : List EnumeratorTree) (w : Walked F) → bare (after_enumerators c next xs w) ≡ after_enumerators unchecked next xs (bare w)
unfolding after_enumerators
bare_enumerators c next [] w = refl
bare_enumerators c next (x ∷ xs) w =
    bare_enumerators c (next_number (enumerator_value w next x.value)) xs (after_enumerator c next x w)
    ∙ (ap (after_enumerators unchecked (next_number (enumerator_value w next x.value)) xs) (bare_enumerator c next x w)
    ∙ ap (λ n. after_enumerators unchecked (next_number n) xs (after_enumerator unchecked next x (bare w))) (bare_number next x.value w))

pub bare_words : {F : Type 0} (c : DeclarationChecks F) (words : OneOrMore Specifier) (e : Option EnumerationTree) (w : Walked F) → bare (after_words c words e w) ≡ after_words unchecked words e (bare w)
unfolding after_words
bare_words c words None w = refl
bare_words c words (Some e) w =
    bare_enumerators c (Some (pos 0)) (e.enumerators.first ∷ e.enumerators.more) (after_tag c (type_name_among words) w)
    ∙ ap (after_enumerators unchecked (Some (pos 0)) (e.enumerators.first ∷ e.enumerators.more)) (bare_tag c (type_name_among words) w)

bare_hidden : {F : Type 0} (c : DeclarationChecks F) (next : Option ℤ) (xs : List EnumeratorTree) (w : Walked F) → hidden_by c next xs w ≡ hidden_by unchecked next xs (bare w)
unfolding hidden_by
bare_hidden c next [] w = refl
bare_hidden c next (x ∷ xs) w =
    ap (λ ts. hidden (here w x.name) x.name.at ++ ts)
    (bare_hidden c (next_number (enumerator_value w next x.value)) xs (after_enumerator c next x w)
    ∙ (ap (hidden_by unchecked (next_number (enumerator_value w next x.value)) xs) (bare_enumerator c next x w)
    ∙ ap (λ n. hidden_by unchecked (next_number n) xs (after_enumerator unchecked next x (bare w))) (bare_number next x.value w)))

pub bare_word_trees : {F : Type 0} (c : DeclarationChecks F) (words : OneOrMore Specifier) (e : Option EnumerationTree) (w : Walked F) → word_trees_at c words e w ≡ word_trees_at unchecked words e (bare w)
unfolding word_trees_at
bare_word_trees c words None w = refl
bare_word_trees c words (Some e) w =
    bare_hidden c (Some (pos 0)) (e.enumerators.first ∷ e.enumerators.more) (after_tag c (type_name_among words) w)
    ∙ ap (hidden_by unchecked (Some (pos 0)) (e.enumerators.first ∷ e.enumerators.more)) (bare_tag c (type_name_among words) w)

-- ---- what objects begin with

pub bare_numbers : {F : Type 0} (c : DeclarationChecks F) (es : ExpressionTrees) (w : Walked F) → bare (after_numbers c es w) ≡ after_numbers unchecked es (bare w)
unfolding after_numbers
bare_numbers c no_expressions w = refl
bare_numbers c (expression_then e es) w = bare_numbers c es (after_constant c e w)

bare_numbers_at : {F : Type 0} (c : DeclarationChecks F) (t : IntType) (es : ExpressionTrees) (w : Walked F) → numbers_at c t es w ≡ numbers_at unchecked t es (bare w)
unfolding numbers_at
bare_numbers_at c t no_expressions w = refl
bare_numbers_at c t (expression_then e es) w = ap (λ ns. number_at t w e ∷ ns) (bare_numbers_at c t es (after_constant c e w))

pub bare_start : {F : Type 0} (c : DeclarationChecks F) (t : IntType) (n : Option ℕ) (i : Option InitializerTree) (w : Walked F) → start_at c t n i w ≡ start_at unchecked t n i (bare w)
bare_start c t n i w = ap (start_of n) (bare_numbers_at c t (given i) w)

-- ---- static objects

bare_static_head : {F : Type 0} (c : DeclarationChecks F) (words : Words) (d : DeclaratorTree) (w : Walked F) → bare (after_static_head c words d w) ≡ after_static_head unchecked words d (bare w)
bare_static_head c words d w = ap (after_object_name unchecked words.typing (static_at words (is_some d.dimensions) w) d.name) (bare_dimensions c d.name.at d.dimensions w)

bare_static_of : {F : Type 0} (c : DeclarationChecks F) (words : Words) (d : DeclaratorTree) (w : Walked F) → static_of c words d w ≡ static_of unchecked words d (bare w)
bare_static_of c words d w =
    let t = type_or_int words.typing in
    let n = length_or_1 (is_some d.dimensions) (length_at w d.dimensions) in
    ap (λ s. record { name = text_of w.scoping d.name; int_type = t; start = s })
    (bare_start c t n d.initializer (after_static_head c words d w)
    ∙ (ap (start_at unchecked t n d.initializer) (bare_static_head c words d w)
    ∙ ap (λ l. start_at unchecked t (length_or_1 (is_some d.dimensions) l) d.initializer (after_static_head unchecked words d (bare w))) (bare_length w d.dimensions)))

bare_static : {F : Type 0} (c : DeclarationChecks F) (words : Words) (d : DeclaratorTree) (w : Walked F) → bare (after_static c words d w) ≡ after_static unchecked words d (bare w)
unfolding after_static
bare_static c words d w =
    ap (with_static (static_of c words d w)) (bare_numbers c (given d.initializer) (after_static_head c words d w) ∙ ap (after_numbers unchecked (given d.initializer)) (bare_static_head c words d w))
    ∙ ap (λ o. with_static o (after_numbers unchecked (given d.initializer) (after_static_head unchecked words d (bare w)))) (bare_static_of c words d w)

bare_statics : {F : Type 0} (c : DeclarationChecks F) (words : Words) (ds : List DeclaratorTree) (w : Walked F) → bare (after_statics c words ds w) ≡ after_statics unchecked words ds (bare w)
unfolding after_statics
bare_statics c words [] w = refl
bare_statics c words (d ∷ ds) w = bare_statics c words ds (after_static c words d w) ∙ ap (after_statics unchecked words ds) (bare_static c words d w)

bare_static_trees : {F : Type 0} (c : DeclarationChecks F) (words : Words) (ds : List DeclaratorTree) (w : Walked F) → static_trees_at c words ds w ≡ static_trees_at unchecked words ds (bare w)
unfolding static_trees_at
bare_static_trees c words [] w = refl
bare_static_trees c words (d ∷ ds) w =
    ap (λ ts. static_tree_at d w ∷ ts) (bare_static_trees c words ds (after_static c words d w) ∙ ap (static_trees_at unchecked words ds) (bare_static c words d w))

-- ---- declarations

pub bare_declaration : {F : Type 0} (c : DeclarationChecks F) (d : DeclarationTree) (w : Walked F) → bare (after_declaration c d w) ≡ after_declaration unchecked d (bare w)
unfolding after_declaration
bare_declaration c d w =
    let words = words_at (here w) d.specifiers d.enumeration in
    bare_declarators c words d.declarators (after_words c d.specifiers d.enumeration w) ∙ ap (after_declarators unchecked words d.declarators) (bare_words c d.specifiers d.enumeration w)

pub bare_declaration_trees : {F : Type 0} (c : DeclarationChecks F) (d : DeclarationTree) (w : Walked F) → declaration_trees_at c d w ≡ declaration_trees_at unchecked d (bare w)
unfolding declaration_trees_at
bare_declaration_trees c d w =
    let words = words_at (here w) d.specifiers d.enumeration in
    let v = after_words c d.specifiers d.enumeration w in
    ap (λ hs. option_map (λ ts. hs ++ ts) (declarator_trees_at c words d.declarators v)) (bare_word_trees c d.specifiers d.enumeration w)
    ∙ ap (option_map (λ ts. word_trees_at unchecked d.specifiers d.enumeration (bare w) ++ ts))
    (bare_declarator_trees c words d.declarators v ∙ ap (declarator_trees_at unchecked words d.declarators) (bare_words c d.specifiers d.enumeration w))

bare_static_declaration : {F : Type 0} (c : DeclarationChecks F) (d : DeclarationTree) (w : Walked F) → bare (after_static_declaration c d w) ≡ after_static_declaration unchecked d (bare w)
unfolding after_static_declaration
bare_static_declaration c d w =
    let words = words_at (here w) d.specifiers d.enumeration in
    bare_statics c words d.declarators (after_words c d.specifiers d.enumeration w) ∙ ap (after_statics unchecked words d.declarators) (bare_words c d.specifiers d.enumeration w)

bare_static_declaration_trees : {F : Type 0} (c : DeclarationChecks F) (d : DeclarationTree) (w : Walked F) → static_declaration_at c d w ≡ static_declaration_at unchecked d (bare w)
unfolding static_declaration_at
bare_static_declaration_trees c d w =
    let words = words_at (here w) d.specifiers d.enumeration in
    let v = after_words c d.specifiers d.enumeration w in
    ap (λ hs. hs ++ static_trees_at c words d.declarators v) (bare_word_trees c d.specifiers d.enumeration w)
    ∙ ap (λ ts. word_trees_at unchecked d.specifiers d.enumeration (bare w) ++ ts)
    (bare_static_trees c words d.declarators v ∙ ap (static_trees_at unchecked words d.declarators) (bare_words c d.specifiers d.enumeration w))

pub bare_block_declaration : {F : Type 0} (c : DeclarationChecks F) (x : Option Pos) (d : DeclarationTree) (w : Walked F) → bare (after_block_declaration c x d w) ≡ after_block_declaration unchecked x d (bare w)
bare_block_declaration c None d w = bare_declaration c d w
bare_block_declaration c (Some at) d w = bare_static_declaration c d w

pub bare_block_declaration_trees : {F : Type 0} (c : DeclarationChecks F) (x : Option Pos) (d : DeclarationTree) (w : Walked F) → block_declaration_at c x d w ≡ block_declaration_at unchecked x d (bare w)
bare_block_declaration_trees c None d w = bare_declaration_trees c d w
bare_block_declaration_trees c (Some at) d w = ap Some (bare_static_declaration_trees c d w)
