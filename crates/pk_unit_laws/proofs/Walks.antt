-- The places of what declarations declare, and of the calls so far, are those of the declarations.
use Rattle.std.proofs.Common.{ℕ, Bool, true, false, List, [], ◌∷◌, ◌++◌, Option, Some, None, length}
use Rattle.std.specs.Prelude.{ℤ, pos, All, IfSome, is_some}
use Rattle.std.proofs.lemmas.List.Elements.{All-nil, All-cons, All-append}
use Rattle.pk_ctypes.specs.declared.places.Pos.{Pos}
use Rattle.pk_ast.specs.declared.declarations.Specifier.{Specifier}
use Rattle.pk_ast.specs.declared.expressions.Identifier.{Identifier}
use Rattle.pk_ast.specs.Trees.{OneOrMore, ExpressionTree, ExpressionTrees, no_expressions, expression_then, InitializerItemTree, item_value, item_row, InitializerTree, single, braced, DimensionsTree, DeclaratorTree, EnumeratorTree, EnumerationTree, DeclarationTree}
use Rattle.pk_typed.specs.Trees as tree
use Rattle.pk_typed.specs.declared.units.CallSite.{CallSite}
use Rattle.pk_type_scope.specs.declared.declarations.Declaration.{Declaration}
use Rattle.pk_type_scope.specs.declared.declarations.Declaration.TheVariants.{Object, Function, Enumerator, TypeName}
use Rattle.pk_type_scope.specs.Specifiers.{type_name_among}
use Rattle.pk_type_expression.specs.Typed.{calls, calls_in_all}
use Rattle.pk_type_declaration.specs.declared.words.Words.{Words}
use Rattle.pk_type_declaration.specs.Checks.{DeclarationChecks}
use Rattle.pk_type_declaration.specs.Constants.{after_constant, after_length}
use Rattle.pk_type_declaration.specs.Declarations.{after_columns, after_dimensions, after_initializer, after_head, after_declarator, after_declarators, scalar_tree, array_tree, object_tree, declarator_tree_at, declarator_trees_at}
use Rattle.pk_type_declaration.specs.Enumerations.{words_at, after_tag, next_number, enumerator_value, after_enumerator_value, after_enumerator, after_enumerators, after_words, hidden, hidden_by, word_trees_at}
use Rattle.pk_type_declaration.specs.Initializers.{followed_by, item_values, items_values, braced_values, given}
use Rattle.pk_type_declaration.specs.Starts.{after_numbers}
use Rattle.pk_type_declaration.specs.Statics.{after_static_head, after_static, after_statics, static_tree_at, static_trees_at, after_declaration, declaration_trees_at, after_static_declaration, static_declaration_at, after_block_declaration, block_declaration_at}
use Rattle.pk_type_declaration.specs.Walks.{Walked, here, after_value, after_values, value_at, effect_at, values_at}
use Rattle.pk_places_laws.specs.Places.{OfPlaces, InValue, InEffect, InValues, InDeclared}
use Rattle.pk_unit_laws.specs.Trees.{InExpression, InExpressions, InOptional, InInitializerItem, InInitializerItems, InInitializer, InDimensions, InDeclarator, InDeclarators, InEnumerator, InEnumerators, InEnumeration, InDeclaration}
use Rattle.pk_unit_laws.proofs.Parts.{mapped, both}
use Rattle.pk_unit_laws.proofs.Expressions.{AtCalls, values_are, effects_are, lists_are, calls_at, all_calls_at}

-- the calls so far are at such places
abbrev pub Sited : {F : Type 0} → OfPlaces → Walked F → Type 0
Sited P w = AtCalls P w.calls

-- ---- expressions

pub value_sited : {F : Type 0} (P : OfPlaces) (c : DeclarationChecks F) (e : ExpressionTree) (w : Walked F) → InExpression P e → Sited P w → Sited P (after_value c e w)
value_sited P c e w h z = All-append (λ (s : CallSite). P s.at) w.calls (calls (here w) e) z (calls_at P (here w) e h)

pub values_sited : {F : Type 0} (P : OfPlaces) (c : DeclarationChecks F) (es : ExpressionTrees) (w : Walked F) → InExpressions P es → Sited P w → Sited P (after_values c es w)
values_sited P c es w h z = All-append (λ (s : CallSite). P s.at) w.calls (calls_in_all (here w) es) z (all_calls_at P (here w) es h)

pub value_there : {F : Type 0} (P : OfPlaces) (w : Walked F) (e : ExpressionTree) → InExpression P e → IfSome (value_at w e) (InValue P)
value_there P w e h = values_are P (here w) (length w.calls) e h

pub effect_there : {F : Type 0} (P : OfPlaces) (w : Walked F) (e : ExpressionTree) → InExpression P e → IfSome (effect_at w e) (InEffect P)
effect_there P w e h = effects_are P (here w) (length w.calls) e h

values_there : {F : Type 0} (P : OfPlaces) (w : Walked F) (es : ExpressionTrees) → InExpressions P es → IfSome (values_at w es) (InValues P)
values_there P w es h = lists_are P (here w) (length w.calls) es h

-- ---- declared objects

columns_sited : {F : Type 0} (P : OfPlaces) (c : DeclarationChecks F) (at : Pos) (e : Option ExpressionTree) (w : Walked F) → InOptional P e → Sited P w → Sited P (after_columns c at e w)
columns_sited P c at None w h z = z
columns_sited P c at (Some e) w h z = value_sited P c e w h z

dimensions_sited : {F : Type 0} (P : OfPlaces) (c : DeclarationChecks F) (at : Pos) (d : Option DimensionsTree) (w : Walked F) → InDimensions P d → Sited P w → Sited P (after_dimensions c at d w)
dimensions_sited P c at None w h z = z
dimensions_sited P c at (Some d) w h z = columns_sited P c at d.columns (after_length c d.length w) h.1 (value_sited P c d.length w h.0 z)

-- the values of items
followed_in : (P : OfPlaces) (es fs : ExpressionTrees) → InExpressions P es → InExpressions P fs → InExpressions P (followed_by es fs)
unfolding InExpressions
followed_in P no_expressions fs h k = k
followed_in P (expression_then e es) fs h k = (h.0, followed_in P es fs h.1 k)

item_in : (P : OfPlaces) (i : InitializerItemTree) → InInitializerItem P i → InExpressions P (item_values i)
unfolding InExpressions
item_in P (item_value e) h = (h, tt)
item_in P (item_row at e es) h = (h.1, h.2)

items_in : (P : OfPlaces) (is : List InitializerItemTree) → InInitializerItems P is → InExpressions P (items_values is)
unfolding InExpressions
items_in P [] h = tt
items_in P (i ∷ is) h = followed_in P (item_values i) (items_values is) (item_in P i h.0) (items_in P is h.1)

braced_in : (P : OfPlaces) (is : OneOrMore InitializerItemTree) → InInitializerItem P is.first → InInitializerItems P is.more → InExpressions P (braced_values is)
braced_in P is h k = followed_in P (item_values is.first) (items_values is.more) (item_in P is.first h) (items_in P is.more k)

initializer_sited : {F : Type 0} (P : OfPlaces) (c : DeclarationChecks F) (i : Option InitializerTree) (w : Walked F) → InInitializer P i → Sited P w → Sited P (after_initializer c i w)
initializer_sited P c None w h z = z
initializer_sited P c (Some (single e)) w h z = value_sited P c e w h z
initializer_sited P c (Some (braced at is)) w h z = values_sited P c (braced_values is) w (braced_in P is h.1 h.2) z

declarator_sited : {F : Type 0} (P : OfPlaces) (c : DeclarationChecks F) (words : Words) (d : DeclaratorTree) (w : Walked F) → InDeclarator P d → Sited P w → Sited P (after_declarator c words d w)
unfolding after_declarator
declarator_sited P c words d w h z = initializer_sited P c d.initializer (after_head c words d w) h.2 (dimensions_sited P c d.name.at d.dimensions w h.1 z)

declarators_sited : {F : Type 0} (P : OfPlaces) (c : DeclarationChecks F) (words : Words) (ds : List DeclaratorTree) (w : Walked F) → InDeclarators P ds → Sited P w → Sited P (after_declarators c words ds w)
unfolding after_declarators
declarators_sited P c words [] w h z = z
declarators_sited P c words (d ∷ ds) w h z = declarators_sited P c words ds (after_declarator c words d w) h.1 (declarator_sited P c words d w h.0 z)

scalar_there : {F : Type 0} (P : OfPlaces) (n : ℕ) (at : Pos) (i : Option InitializerTree) (w : Walked F) → P at → InInitializer P i → IfSome (scalar_tree n at i w) (InDeclared P)
scalar_there P n at None w p h = (p, tt)
scalar_there P n at (Some (single e)) w p h = mapped (λ v. tree.scalar_object n at (Some v)) (InValue P) (InDeclared P) (λ v k. (p, k)) (value_at w e) (value_there P w e h)
scalar_there P n at (Some (braced brace is)) w p h = tt

array_there : {F : Type 0} (P : OfPlaces) (n : ℕ) (at : Pos) (i : Option InitializerTree) (w : Walked F) → P at → InInitializer P i → IfSome (array_tree n at i w) (InDeclared P)
array_there P n at None w p h = (p, tt)
array_there P n at (Some (single e)) w p h = tt
array_there P n at (Some (braced brace is)) w p h =
    mapped (λ vs. tree.array_object n at (Some vs)) (InValues P) (InDeclared P) (λ vs k. (p, k)) (values_at w (braced_values is)) (values_there P w (braced_values is) (braced_in P is h.1 h.2))

object_there : {F : Type 0} (P : OfPlaces) (b : Bool) (n : ℕ) (at : Pos) (i : Option InitializerTree) (w : Walked F) → P at → InInitializer P i → IfSome (object_tree b n at i w) (InDeclared P)
object_there P true n at i w p h = array_there P n at i w p h
object_there P false n at i w p h = scalar_there P n at i w p h

declarator_there : {F : Type 0} (P : OfPlaces) (c : DeclarationChecks F) (words : Words) (d : DeclaratorTree) (w : Walked F) → InDeclarator P d → IfSome (declarator_tree_at c words d w) (InDeclared P)
unfolding declarator_tree_at
declarator_there P c words d w h = object_there P (is_some d.dimensions) (length w.locals) d.name.at d.initializer (after_head c words d w) h.0 h.2

declarators_there : {F : Type 0} (P : OfPlaces) (c : DeclarationChecks F) (words : Words) (ds : List DeclaratorTree) (w : Walked F) → InDeclarators P ds → IfSome (declarator_trees_at c words ds w) (All (InDeclared P))
unfolding declarator_trees_at
declarators_there P c words [] w h = All-nil (InDeclared P)
declarators_there P c words (d ∷ ds) w h =
    let v = after_declarator c words d w in
    both (λ t ts. t ∷ ts) (InDeclared P) (All (InDeclared P)) (All (InDeclared P)) (All-cons (InDeclared P)) (declarator_tree_at c words d w) (declarator_trees_at c words ds v) (declarator_there P c words d w h.0)
    (declarators_there P c words ds v h.1)

-- ---- enumerations

tag_sited : {F : Type 0} (P : OfPlaces) (c : DeclarationChecks F) (x : Option Identifier) (w : Walked F) → Sited P w → Sited P (after_tag c x w)
tag_sited P c None w z = z
tag_sited P c (Some x) w z = z

enumerator_value_sited : {F : Type 0} (P : OfPlaces) (c : DeclarationChecks F) (next : Option ℤ) (x : Identifier) (e : Option ExpressionTree) (w : Walked F) → InOptional P e → Sited P w → Sited P (after_enumerator_value c next x e w)
enumerator_value_sited P c next x None w h z = z
enumerator_value_sited P c next x (Some e) w h z = value_sited P c e w h z

enumerator_sited : {F : Type 0} (P : OfPlaces) (c : DeclarationChecks F) (next : Option ℤ) (x : EnumeratorTree) (w : Walked F) → InEnumerator P x → Sited P w → Sited P (after_enumerator c next x w)
unfolding after_enumerator
enumerator_sited P c next x w h z = enumerator_value_sited P c next x.name x.value w h.1 z

enumerators_sited : {F : Type 0} (P : OfPlaces) (c : DeclarationChecks F) (next : Option ℤ) (xs : List EnumeratorTree) (w : Walked F) → InEnumerators P xs → Sited P w → Sited P (after_enumerators c next xs w)
unfolding after_enumerators
enumerators_sited P c next [] w h z = z
enumerators_sited P c next (x ∷ xs) w h z =
    enumerators_sited P c (next_number (enumerator_value w next x.value)) xs (after_enumerator c next x w) h.1 (enumerator_sited P c next x w h.0 z)

words_sited : {F : Type 0} (P : OfPlaces) (c : DeclarationChecks F) (words : OneOrMore Specifier) (e : Option EnumerationTree) (w : Walked F) → InEnumeration P e → Sited P w → Sited P (after_words c words e w)
unfolding after_words
words_sited P c words None w h z = z
words_sited P c words (Some e) w h z =
    enumerators_sited P c (Some (pos 0)) (e.enumerators.first ∷ e.enumerators.more) (after_tag c (type_name_among words) w) h (tag_sited P c (type_name_among words) w z)

hidden_there : (P : OfPlaces) (d : Option Declaration) (at : Pos) → P at → All (InDeclared P) (hidden d at)
hidden_there P None at p = All-nil (InDeclared P)
hidden_there P (Some (Object o)) at p = All-cons (InDeclared P) (tree.hiding_constant o.variable at) [] p (All-nil (InDeclared P))
hidden_there P (Some (Function f)) at p = All-nil (InDeclared P)
hidden_there P (Some (Enumerator n)) at p = All-nil (InDeclared P)
hidden_there P (Some (TypeName t)) at p = All-nil (InDeclared P)

all_hidden_there : {F : Type 0} (P : OfPlaces) (c : DeclarationChecks F) (next : Option ℤ) (xs : List EnumeratorTree) (w : Walked F) → InEnumerators P xs → All (InDeclared P) (hidden_by c next xs w)
unfolding hidden_by
all_hidden_there P c next [] w h = All-nil (InDeclared P)
all_hidden_there P c next (x ∷ xs) w h =
    let m = next_number (enumerator_value w next x.value) in
    let v = after_enumerator c next x w in
    All-append (InDeclared P) (hidden (here w x.name) x.name.at) (hidden_by c m xs v) (hidden_there P (here w x.name) x.name.at h.0.0) (all_hidden_there P c m xs v h.1)

words_there : {F : Type 0} (P : OfPlaces) (c : DeclarationChecks F) (words : OneOrMore Specifier) (e : Option EnumerationTree) (w : Walked F) → InEnumeration P e → All (InDeclared P) (word_trees_at c words e w)
unfolding word_trees_at
words_there P c words None w h = All-nil (InDeclared P)
words_there P c words (Some e) w h = all_hidden_there P c (Some (pos 0)) (e.enumerators.first ∷ e.enumerators.more) (after_tag c (type_name_among words) w) h

-- ---- static objects

numbers_sited : {F : Type 0} (P : OfPlaces) (c : DeclarationChecks F) (es : ExpressionTrees) (w : Walked F) → InExpressions P es → Sited P w → Sited P (after_numbers c es w)
unfolding after_numbers InExpressions
numbers_sited P c no_expressions w h z = z
numbers_sited P c (expression_then e es) w h z = numbers_sited P c es (after_constant c e w) h.1 (value_sited P c e w h.0 z)

given_in : (P : OfPlaces) (i : Option InitializerTree) → InInitializer P i → InExpressions P (given i)
unfolding InExpressions
given_in P None h = tt
given_in P (Some (single e)) h = (h, tt)
given_in P (Some (braced at is)) h = braced_in P is h.1 h.2

static_sited : {F : Type 0} (P : OfPlaces) (c : DeclarationChecks F) (words : Words) (d : DeclaratorTree) (w : Walked F) → InDeclarator P d → Sited P w → Sited P (after_static c words d w)
unfolding after_static
static_sited P c words d w h z = numbers_sited P c (given d.initializer) (after_static_head c words d w) (given_in P d.initializer h.2) (dimensions_sited P c d.name.at d.dimensions w h.1 z)

statics_sited : {F : Type 0} (P : OfPlaces) (c : DeclarationChecks F) (words : Words) (ds : List DeclaratorTree) (w : Walked F) → InDeclarators P ds → Sited P w → Sited P (after_statics c words ds w)
unfolding after_statics
statics_sited P c words [] w h z = z
statics_sited P c words (d ∷ ds) w h z = statics_sited P c words ds (after_static c words d w) h.1 (static_sited P c words d w h.0 z)

statics_there : {F : Type 0} (P : OfPlaces) (c : DeclarationChecks F) (words : Words) (ds : List DeclaratorTree) (w : Walked F) → InDeclarators P ds → All (InDeclared P) (static_trees_at c words ds w)
unfolding static_trees_at
statics_there P c words [] w h = All-nil (InDeclared P)
statics_there P c words (d ∷ ds) w h =
    let v = after_static c words d w in
    All-cons (InDeclared P) (static_tree_at d w) (static_trees_at c words ds v) h.0.0 (statics_there P c words ds v h.1)

-- ---- declarations

pub declaration_sited : {F : Type 0} (P : OfPlaces) (c : DeclarationChecks F) (d : DeclarationTree) (w : Walked F) → InDeclaration P d → Sited P w → Sited P (after_declaration c d w)
unfolding after_declaration
declaration_sited P c d w h z =
    declarators_sited P c (words_at (here w) d.specifiers d.enumeration) d.declarators (after_words c d.specifiers d.enumeration w) h.1 (words_sited P c d.specifiers d.enumeration w h.0 z)

pub declaration_there : {F : Type 0} (P : OfPlaces) (c : DeclarationChecks F) (d : DeclarationTree) (w : Walked F) → InDeclaration P d → IfSome (declaration_trees_at c d w) (All (InDeclared P))
unfolding declaration_trees_at
declaration_there P c d w h =
    let ws = word_trees_at c d.specifiers d.enumeration w in
    let words = words_at (here w) d.specifiers d.enumeration in
    let v = after_words c d.specifiers d.enumeration w in
    mapped (λ ts. ws ++ ts) (All (InDeclared P)) (All (InDeclared P)) (λ ts k. All-append (InDeclared P) ws ts (words_there P c d.specifiers d.enumeration w h.0) k) (declarator_trees_at c words d.declarators v)
    (declarators_there P c words d.declarators v h.1)

pub block_declaration_sited : {F : Type 0} (P : OfPlaces) (c : DeclarationChecks F) (at : Option Pos) (d : DeclarationTree) (w : Walked F) → InDeclaration P d → Sited P w → Sited P (after_block_declaration c at d w)
unfolding after_static_declaration
block_declaration_sited P c None d w h z = declaration_sited P c d w h z
block_declaration_sited P c (Some at) d w h z =
    statics_sited P c (words_at (here w) d.specifiers d.enumeration) d.declarators (after_words c d.specifiers d.enumeration w) h.1 (words_sited P c d.specifiers d.enumeration w h.0 z)

pub block_declaration_there : {F : Type 0} (P : OfPlaces) (c : DeclarationChecks F) (at : Option Pos) (d : DeclarationTree) (w : Walked F) → InDeclaration P d → IfSome (block_declaration_at c at d w) (All (InDeclared P))
unfolding static_declaration_at
block_declaration_there P c None d w h = declaration_there P c d w h
block_declaration_there P c (Some at) d w h =
    let words = words_at (here w) d.specifiers d.enumeration in
    let v = after_words c d.specifiers d.enumeration w in
    All-append (InDeclared P) (word_trees_at c d.specifiers d.enumeration w) (static_trees_at c words d.declarators v) (words_there P c d.specifiers d.enumeration w h.0) (statics_there P c words d.declarators v h.1)
