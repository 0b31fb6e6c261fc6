-- The operators of what declarations declare count no more than those of the declarations.
use Rattle.std.proofs.Common.{◌≡◌, ℕ, ◌+◌, ◌≤◌, Bool, true, false, List, [], ◌∷◌, ◌++◌, Option, Some, None, length, arith}
use Rattle.std.specs.Prelude.{ℤ, pos, is_some}
use Rattle.pk_ctypes.specs.declared.places.Pos.{Pos}
use Rattle.pk_ast.specs.declared.declarations.Specifier.{Specifier}
use Rattle.pk_ast.specs.Trees.{OneOrMore, ExpressionTree, ExpressionTrees, InitializerTree, single, braced, DeclaratorTree, EnumeratorTree, EnumerationTree, DeclarationTree}
use Rattle.pk_typed.specs.Trees as tree
use Rattle.pk_typed.specs.Trees.{DeclaredTree}
use Rattle.pk_type_scope.specs.declared.declarations.Declaration.{Declaration}
use Rattle.pk_type_scope.specs.declared.declarations.Declaration.TheVariants.{Object, Function, Enumerator, TypeName}
use Rattle.pk_type_scope.specs.Specifiers.{type_name_among}
use Rattle.pk_type_declaration.specs.declared.words.Words.{Words}
use Rattle.pk_type_declaration.specs.Checks.{DeclarationChecks}
use Rattle.pk_type_declaration.specs.Declarations.{after_head, after_declarator, scalar_tree, array_tree, object_tree, declarator_tree_at, declarator_trees_at}
use Rattle.pk_type_declaration.specs.Enumerations.{words_at, after_tag, next_number, enumerator_value, after_enumerator, after_words, hidden, hidden_by, word_trees_at}
use Rattle.pk_type_declaration.specs.Initializers.{braced_values}
use Rattle.pk_type_declaration.specs.Statics.{after_static, static_trees_at, declaration_trees_at, static_declaration_at, block_declaration_at}
use Rattle.pk_type_declaration.specs.Walks.{Walked, here, value_at, effect_at, values_at}
use Rattle.pk_access_laws.specs.Operators.{Counting, in_value, in_effect, in_values, in_declared, in_all_declared, if_some}
use Rattle.pk_operator_laws.specs.Trees.{in_expression, in_expressions, in_initializer, in_declarators, in_declaration}
use Rattle.pk_operator_laws.proofs.Parts.{mapped, both}
use Rattle.pk_operator_laws.proofs.Calls.{braced_counts}
use Rattle.pk_operator_laws.proofs.Expressions.{values_are, effects_are, lists_are}

-- ---- expressions

pub value_there : {F : Type 0} (q : Counting) (w : Walked F) (e : ExpressionTree) → if_some (in_value q) (value_at w e) ≤ in_expression q e
value_there q w e = values_are q (here w) (length w.calls) e

pub effect_there : {F : Type 0} (q : Counting) (w : Walked F) (e : ExpressionTree) → if_some (in_effect q) (effect_at w e) ≤ in_expression q e
effect_there q w e = effects_are q (here w) (length w.calls) e

values_there : {F : Type 0} (q : Counting) (w : Walked F) (es : ExpressionTrees) → if_some (in_values q) (values_at w es) ≤ in_expressions q es
values_there q w es = lists_are q (here w) (length w.calls) es

-- ---- declared objects

scalar_there : {F : Type 0} (q : Counting) (n : ℕ) (at : Pos) (i : Option InitializerTree) (w : Walked F) → if_some (in_declared q) (scalar_tree n at i w) ≤ in_initializer q i
scalar_there q n at None w = omega arith
scalar_there q n at (Some (single e)) w =
    omega (arith, mapped (λ v. tree.scalar_object n at (Some v)) (in_value q) (in_declared q) (λ v. omega arith) (value_at w e), value_there q w e)
scalar_there q n at (Some (braced brace is)) w = omega arith

array_there : {F : Type 0} (q : Counting) (n : ℕ) (at : Pos) (i : Option InitializerTree) (w : Walked F) → if_some (in_declared q) (array_tree n at i w) ≤ in_initializer q i
array_there q n at None w = omega arith
array_there q n at (Some (single e)) w = omega arith
array_there q n at (Some (braced brace is)) w =
    omega (arith, braced_counts q brace is, values_there q w (braced_values is), mapped (λ vs. tree.array_object n at (Some vs)) (in_values q) (in_declared q) (λ vs. omega arith) (values_at w (braced_values is)))

object_there : {F : Type 0} (q : Counting) (b : Bool) (n : ℕ) (at : Pos) (i : Option InitializerTree) (w : Walked F) → if_some (in_declared q) (object_tree b n at i w) ≤ in_initializer q i
object_there q true n at i w = array_there q n at i w
object_there q false n at i w = scalar_there q n at i w

declarator_there : {F : Type 0} (q : Counting) (c : DeclarationChecks F) (words : Words) (d : DeclaratorTree) (w : Walked F) → if_some (in_declared q) (declarator_tree_at c words d w) ≤ in_initializer q d.initializer
unfolding declarator_tree_at
declarator_there q c words d w = object_there q (is_some d.dimensions) (length w.locals) d.name.at d.initializer (after_head c words d w)

declarators_there : {F : Type 0} (q : Counting) (c : DeclarationChecks F) (words : Words) (ds : List DeclaratorTree) (w : Walked F) → if_some (in_all_declared q) (declarator_trees_at c words ds w) ≤ in_declarators q ds
unfolding declarator_trees_at
declarators_there q c words [] w = omega arith
declarators_there q c words (d ∷ ds) w =
    let v = after_declarator c words d w in
    omega (arith, both (λ t ts. t ∷ ts) (in_declared q) (in_all_declared q) (in_all_declared q) (λ t ts. omega arith) (declarator_tree_at c words d w) (declarator_trees_at c words ds v), declarator_there q c words d w, declarators_there q c words ds v)

-- ---- enumerations and static objects count nothing

pub all_append : (q : Counting) (xs ys : List DeclaredTree) → in_all_declared q (xs ++ ys) ≡ in_all_declared q xs + in_all_declared q ys
all_append q [] ys = omega arith
all_append q (x ∷ xs) ys = omega (arith, all_append q xs ys)

hidden_there : (q : Counting) (d : Option Declaration) (at : Pos) → in_all_declared q (hidden d at) ≤ 0
hidden_there q None at = omega arith
hidden_there q (Some (Object o)) at = omega arith
hidden_there q (Some (Function f)) at = omega arith
hidden_there q (Some (Enumerator n)) at = omega arith
hidden_there q (Some (TypeName t)) at = omega arith

all_hidden_there : {F : Type 0} (q : Counting) (c : DeclarationChecks F) (next : Option ℤ) (xs : List EnumeratorTree) (w : Walked F) → in_all_declared q (hidden_by c next xs w) ≤ 0
unfolding hidden_by
all_hidden_there q c next [] w = omega arith
all_hidden_there q c next (x ∷ xs) w =
    let m = next_number (enumerator_value w next x.value) in
    let v = after_enumerator c next x w in
    omega (arith, all_append q (hidden (here w x.name) x.name.at) (hidden_by c m xs v), hidden_there q (here w x.name) x.name.at, all_hidden_there q c m xs v)

words_there : {F : Type 0} (q : Counting) (c : DeclarationChecks F) (words : OneOrMore Specifier) (e : Option EnumerationTree) (w : Walked F) → in_all_declared q (word_trees_at c words e w) ≤ 0
unfolding word_trees_at
words_there q c words None w = omega arith
words_there q c words (Some e) w = all_hidden_there q c (Some (pos 0)) (e.enumerators.first ∷ e.enumerators.more) (after_tag c (type_name_among words) w)

statics_there : {F : Type 0} (q : Counting) (c : DeclarationChecks F) (words : Words) (ds : List DeclaratorTree) (w : Walked F) → in_all_declared q (static_trees_at c words ds w) ≤ 0
unfolding static_trees_at
statics_there q c words [] w = omega arith
statics_there q c words (d ∷ ds) w = omega (arith, statics_there q c words ds (after_static c words d w))

-- ---- declarations

pub declaration_there : {F : Type 0} (q : Counting) (c : DeclarationChecks F) (d : DeclarationTree) (w : Walked F) → if_some (in_all_declared q) (declaration_trees_at c d w) ≤ in_declaration q d
unfolding declaration_trees_at
declaration_there q c d w =
    let ws = word_trees_at c d.specifiers d.enumeration w in
    let words = words_at (here w) d.specifiers d.enumeration in
    let v = after_words c d.specifiers d.enumeration w in
    let none = words_there q c d.specifiers d.enumeration w in
    omega (arith, mapped (λ ts. ws ++ ts) (in_all_declared q) (in_all_declared q) (λ ts. omega (arith, all_append q ws ts, none)) (declarator_trees_at c words d.declarators v), declarators_there q c words d.declarators v)

pub block_declaration_there : {F : Type 0} (q : Counting) (c : DeclarationChecks F) (at : Option Pos) (d : DeclarationTree) (w : Walked F) → if_some (in_all_declared q) (block_declaration_at c at d w) ≤ in_declaration q d
unfolding static_declaration_at
block_declaration_there q c None d w = declaration_there q c d w
block_declaration_there q c (Some at) d w =
    let words = words_at (here w) d.specifiers d.enumeration in
    let v = after_words c d.specifiers d.enumeration w in
    omega (arith, all_append q (word_trees_at c d.specifiers d.enumeration w) (static_trees_at c words d.declarators v), words_there q c d.specifiers d.enumeration w, statics_there q c words d.declarators v)
