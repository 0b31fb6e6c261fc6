-- Expressions and declarations in which no rule fails have typed trees.
use Rattle.std.proofs.Common.{◌≡◌, ℕ, Bool, true, false, List, [], ◌∷◌, ◌++◌, Option, Some, None, length, refl, sym, subst}
use Rattle.std.proofs.lemmas.Bool.{false≢true}
use Rattle.std.specs.Prelude.{is_some}
use Rattle.std.specs.Option.{option_map}
use Rattle.pk_ctypes.specs.declared.places.Pos.{Pos}
use Rattle.pk_ctypes.specs.declared.types.IntType.{IntType}
use Rattle.pk_ast.specs.declared.expressions.Identifier.{Identifier}
use Rattle.pk_ast.specs.Trees.{ExpressionTree, ExpressionTrees, no_expressions, expression_then, InitializerTree, single, braced, DimensionsTree, DeclaratorTree, DeclarationTree}
use Rattle.pk_typed.specs.Trees as tree
use Rattle.pk_typed.specs.Trees.{value_before}
use Rattle.pk_type_scope.specs.declared.declarations.Declaration.{Declaration}
use Rattle.pk_type_scope.specs.declared.declarations.Typing.{Typing}
use Rattle.pk_type_scope.specs.declared.declarations.Typing.TheVariants.{Void, Integer, Unknown}
use Rattle.pk_type_scope.specs.Declarations.{Names, HasTypes, is_void, is_unknown}
use Rattle.pk_type_scope.specs.Scopes.{Scoping, names_in, opened, declaring, key_of}
use Rattle.pk_type_expression.specs.Laws.{IsTreeOf}
use Rattle.pk_type_expression.specs.Rules.{void, failures, used_failures, failures_used}
use Rattle.pk_type_expression.specs.Typed.{EvaluatedTree, value, effect, value_of, effect_of, of_both, typed, typed_all, calls_after}
use Rattle.pk_type_expression.specs.Types.{type_of}
use Rattle.pk_type_expression.proofs.TreeLemmas.{accepted_expressions_have_trees, none_before, none_after}
use Rattle.pk_type_declaration.specs.declared.words.Words.{Words}
use Rattle.pk_type_declaration.specs.Constants.{after_length}
use Rattle.pk_type_declaration.specs.Declarations.{integer_in, object_at, after_initializer, length_at, after_columns, after_dimensions, after_object_name, after_object, after_head, after_declarator, after_declarators, object_tree, declarator_tree_at, declarator_trees_at}
use Rattle.pk_type_declaration.specs.Enumerations.{words_at, after_words, word_trees_at}
use Rattle.pk_type_declaration.specs.Initializers.{braced_values, given}
use Rattle.pk_type_declaration.specs.Statics.{static_at, after_static_head, after_static, after_statics, after_declaration, declaration_trees_at, after_static_declaration, after_block_declaration, block_declaration_at}
use Rattle.pk_type_declaration.specs.Walks.{here, after_value, after_effect, value_at, effect_at, values_at}
use Rattle.pk_type_declaration.specs.Rules as declarations
use Rattle.pk_type_declaration.specs.Rules.{at_name, braces, misfit}
use Rattle.pk_type_laws.proofs.Accepted.Declarations.{all_declaring, not_void, later_declarators, found_last, is_used}
use Rattle.pk_type_laws.proofs.Accepted.Enumerations.{words_names, words_known, holds_types}
use Rattle.pk_type_laws.proofs.Accepted.Starts.{later_numbers, same_scope}
use Rattle.pk_type_laws.proofs.Accepted.Statics.{later_statics, name_not_void}
use Rattle.pk_type_laws.proofs.Accepted.Walks.{W, none_found}

-- ---- options that have something

pub mapped_there : {A B : Type 0} (f : A → B) (o : Option A) → is_some o ≡ true → is_some (option_map f o) ≡ true
mapped_there f None h = absurd (false≢true h)
mapped_there f (Some x) h = refl

pub both_there : {A B C : Type 0} (f : A → B → C) (a : Option A) (b : Option B) → is_some a ≡ true → is_some b ≡ true → is_some (of_both f a b) ≡ true
both_there f None b h k = absurd (false≢true h)
both_there f (Some x) None h k = absurd (false≢true k)
both_there f (Some x) (Some y) h k = refl

-- ---- names in scope have types

abbrev pub Known : Scoping → Type 0
Known s = (x : Identifier) → HasTypes (names_in s x)

pub known_declaring : (s : Scoping) (x : Identifier) (o : Declaration) → Known s → HasTypes (Some o) → Known (declaring s x o)
known_declaring = all_declaring HasTypes

pub known_opened : (s : Scoping) → Known s → Known (opened s)
unfolding names_in
known_opened s h y = subst HasTypes (sym (found_last s.outer s.inner (key_of s.text y) None)) (h y)

-- ---- expressions

value_there : (t : Typing) (e : Option EvaluatedTree) → IsTreeOf t e → is_void t ≡ false → is_some (value_of e) ≡ true
value_there t None h v = absurd h
value_there Void (Some (value v)) h p = absurd h
value_there Void (Some (effect e)) h p = absurd (false≢true (sym p))
value_there (Integer t) (Some (value v)) h p = refl
value_there (Integer t) (Some (effect e)) h p = absurd h
value_there Unknown (Some e) h p = absurd h

effect_there : (t : Typing) (e : Option EvaluatedTree) → IsTreeOf t e → is_some (effect_of e) ≡ true
effect_there t None h = absurd h
effect_there t (Some e) h = refl

-- what is known of the type of an expression whose value is used
pub used_integer : (w : W) (e : ExpressionTree) → Known w.scoping → (after_value declarations.noting e w).found ≡ None → (t : IntType) × (type_of (here w) e ≡ Integer t)
used_integer w e k h =
    let d = here w in
    let f : used_failures d e ≡ [] = (none_found w.found (used_failures d e) h).1 in
    of_tree (type_of d e) (typed d (length w.calls) e) (accepted_expressions_have_trees d k (length w.calls) e (none_before (failures d e) (void d e) f)) (is_used d e (none_after (failures d e) (void d e) f))
  where
    of_tree : (t : Typing) (e : Option EvaluatedTree) → IsTreeOf t e → is_void t ≡ false → (u : IntType) × (t ≡ Integer u)
    of_tree t None h v = absurd h
    of_tree Void (Some x) h v = absurd (false≢true (sym v))
    of_tree (Integer t) (Some x) h v = (t, refl)
    of_tree Unknown (Some x) h v = absurd h

used_there : (d : Names) (n : ℕ) (e : ExpressionTree) → ((x : Identifier) → HasTypes (d x)) → used_failures d e ≡ [] → is_some (value_of (typed d n e)) ≡ true
used_there d n e k f = value_there (type_of d e) (typed d n e) (accepted_expressions_have_trees d k n e (none_before (failures d e) (void d e) f)) (is_used d e (none_after (failures d e) (void d e) f))

pub value_is : (w : W) (e : ExpressionTree) → Known w.scoping → (after_value declarations.noting e w).found ≡ None → is_some (value_at w e) ≡ true
value_is w e k h = used_there (here w) (length w.calls) e k (none_found w.found (used_failures (here w) e) h).1

pub effect_is : (w : W) (e : ExpressionTree) → Known w.scoping → (after_effect declarations.noting e w).found ≡ None → is_some (effect_at w e) ≡ true
effect_is w e k h =
    let d = here w in
    effect_there (type_of d e) (typed d (length w.calls) e) (accepted_expressions_have_trees d k (length w.calls) e (none_found w.found (failures d e) h).1)

all_there : (d : Names) (n : ℕ) (es : ExpressionTrees) → ((x : Identifier) → HasTypes (d x)) → failures_used d es ≡ [] → is_some (typed_all d n es) ≡ true
unfolding failures_used typed_all
all_there d n no_expressions k f = refl
all_there d n (expression_then e es) k f =
    both_there value_before (value_of (typed d n e)) (typed_all d (calls_after d n e) es)
    (used_there d n e k (none_before (failures d e ++ void d e) (failures_used d es) f))
    (all_there d (calls_after d n e) es k (none_after (failures d e ++ void d e) (failures_used d es) f))

-- ---- declared objects

integer_has : (t : Typing) → is_unknown t ≡ false → is_void t ≡ false → (u : IntType) × (integer_in t ≡ Some u)
integer_has Void u v = absurd (false≢true (sym v))
integer_has (Integer t) u v = (t, refl)
integer_has Unknown u v = absurd (false≢true (sym u))

pub object_known : (words : Words) (b : Bool) (n : Option ℕ) (x : Identifier) (w : W) → is_unknown words.typing ≡ false → Known w.scoping → (after_object declarations.noting words b n x w).found ≡ None
    → Known (after_object declarations.noting words b n x w).scoping
object_known words b n x w u k h = known_declaring w.scoping x (object_at words b w) k (integer_has words.typing u (not_void words b n x w h))

columns_scope : (at : Pos) (e : Option ExpressionTree) (w : W) → (after_columns declarations.noting at e w).scoping ≡ w.scoping
columns_scope at None w = refl
columns_scope at (Some e) w = refl

pub dimensions_scope : (at : Pos) (d : Option DimensionsTree) (w : W) → (after_dimensions declarations.noting at d w).scoping ≡ w.scoping
dimensions_scope at None w = refl
dimensions_scope at (Some d) w = columns_scope at d.columns (after_length declarations.noting d.length w)

initializer_scope : (i : Option InitializerTree) (w : W) → (after_initializer declarations.noting i w).scoping ≡ w.scoping
initializer_scope None w = refl
initializer_scope (Some (single e)) w = refl
initializer_scope (Some (braced at is)) w = refl

initializer_before : (i : Option InitializerTree) (w : W) → (after_initializer declarations.noting i w).found ≡ None → w.found ≡ None
initializer_before None w h = h
initializer_before (Some (single e)) w h = (none_found w.found (used_failures (here w) e) h).0
initializer_before (Some (braced at is)) w h = (none_found w.found (failures_used (here w) (braced_values is)) h).0

initial_there : (b : Bool) (n : ℕ) (at place : Pos) (i : Option InitializerTree) (w : W) → Known w.scoping → braces b i place ≡ [] → (after_initializer declarations.noting i w).found ≡ None
    → is_some (object_tree b n at i w) ≡ true
initial_there true n at place None w k r h = refl
initial_there true n at place (Some (single e)) w k r h = absurd (cc)
initial_there true n at place (Some (braced o is)) w k r h =
    let es = braced_values is in
    mapped_there (λ vs. tree.array_object n at (Some vs)) (values_at w es) (all_there (here w) (length w.calls) es k (none_found w.found (failures_used (here w) es) h).1)
initial_there false n at place None w k r h = refl
initial_there false n at place (Some (single e)) w k r h = mapped_there (λ v. tree.scalar_object n at (Some v)) (value_at w e) (value_is w e k h)
initial_there false n at place (Some (braced o is)) w k r h = absurd (cc)

declarator_there : (words : Words) (d : DeclaratorTree) (w : W) → is_unknown words.typing ≡ false → Known w.scoping → (after_declarator declarations.noting words d w).found ≡ None
    → (is_some (declarator_tree_at declarations.noting words d w) ≡ true) × Known (after_declarator declarations.noting words d w).scoping
unfolding after_declarator declarator_tree_at
declarator_there words d w u k h =
    let n = length_at w d.dimensions in
    let v = after_dimensions declarations.noting d.name.at d.dimensions w in
    let o = after_object declarations.noting words (is_some d.dimensions) n d.name v in
    let x = after_head declarations.noting words d w in
    let hx : x.found ≡ None = initializer_before d.initializer x h in
    let rows = none_found o.found (braces (is_some d.dimensions) d.initializer d.name.at ++ misfit n d.initializer) hx in
    let kv : Known v.scoping = subst Known (sym (dimensions_scope d.name.at d.dimensions w)) k in
    let kx : Known x.scoping = object_known words (is_some d.dimensions) n d.name v u kv rows.0 in (
      initial_there (is_some d.dimensions) (length w.locals) d.name.at d.name.at d.initializer x kx (none_before (braces (is_some d.dimensions) d.initializer d.name.at) (misfit n d.initializer) rows.1) h,
      subst Known (sym (initializer_scope d.initializer x)) kx,
    )

declarators_there : (words : Words) (ds : List DeclaratorTree) (w : W) → is_unknown words.typing ≡ false → Known w.scoping → (after_declarators declarations.noting words ds w).found ≡ None
    → (is_some (declarator_trees_at declarations.noting words ds w) ≡ true) × Known (after_declarators declarations.noting words ds w).scoping
unfolding after_declarators declarator_trees_at
declarators_there words [] w u k h = (refl, k)
declarators_there words (d ∷ ds) w u k h =
    let v = after_declarator declarations.noting words d w in
    let one = declarator_there words d w u k ((later_declarators words ds v).found h) in
    let more = declarators_there words ds v u one.1 h in
    (both_there (λ t ts. t ∷ ts) (declarator_tree_at declarations.noting words d w) (declarator_trees_at declarations.noting words ds v) one.0 more.0, more.1)

pub declaration_there : (d : DeclarationTree) (w : W) → Known w.scoping → (after_declaration declarations.noting d w).found ≡ None
    → (is_some (declaration_trees_at declarations.noting d w) ≡ true) × Known (after_declaration declarations.noting d w).scoping
unfolding after_declaration declaration_trees_at
declaration_there d w k h =
    let words = words_at (here w) d.specifiers d.enumeration in
    let v = after_words declarations.noting d.specifiers d.enumeration w in
    let f : v.found ≡ None = (later_declarators words d.declarators v).found h in
    let all = declarators_there words d.declarators v (words_known d.specifiers d.enumeration w k f) (words_names HasTypes holds_types d.specifiers d.enumeration w k f) h in
    (mapped_there (λ ts. word_trees_at declarations.noting d.specifiers d.enumeration w ++ ts) (declarator_trees_at declarations.noting words d.declarators v) all.0, all.1)

-- ---- static objects

pub static_known : (words : Words) (d : DeclaratorTree) (w : W) → is_unknown words.typing ≡ false → Known w.scoping → (after_static declarations.noting words d w).found ≡ None → Known (after_static declarations.noting words d w).scoping
unfolding after_static
static_known words d w u k h =
    let v = after_dimensions declarations.noting d.name.at d.dimensions w in
    let o = static_at words (is_some d.dimensions) w in
    let y = after_object_name declarations.noting words.typing o d.name v in
    let q = after_static_head declarations.noting words d w in
    let hq : q.found ≡ None = (later_numbers (given d.initializer) q).found h in
    let hy = none_found y.found (braces (is_some d.dimensions) d.initializer d.name.at ++ misfit (length_at w d.dimensions) d.initializer) hq in
    let void = name_not_void v.scoping words.typing d.name (none_found v.found (at_name v.scoping words.typing d.name) hy.0).1 in
    let kv : Known v.scoping = subst Known (sym (dimensions_scope d.name.at d.dimensions w)) k in
    subst Known (sym (same_scope (given d.initializer) q)) (known_declaring v.scoping d.name o kv (integer_has words.typing u void))

statics_known : (words : Words) (ds : List DeclaratorTree) (w : W) → is_unknown words.typing ≡ false → Known w.scoping → (after_statics declarations.noting words ds w).found ≡ None → Known (after_statics declarations.noting words ds w).scoping
unfolding after_statics
statics_known words [] w u k h = k
statics_known words (d ∷ ds) w u k h =
    let v = after_static declarations.noting words d w in
    statics_known words ds v u (static_known words d w u k ((later_statics words ds v).found h)) h

static_declaration_known : (d : DeclarationTree) (w : W) → Known w.scoping → (after_static_declaration declarations.noting d w).found ≡ None → Known (after_static_declaration declarations.noting d w).scoping
unfolding after_static_declaration
static_declaration_known d w k h =
    let words = words_at (here w) d.specifiers d.enumeration in
    let v = after_words declarations.noting d.specifiers d.enumeration w in
    let f : v.found ≡ None = (later_statics words d.declarators v).found h in
    statics_known words d.declarators v (words_known d.specifiers d.enumeration w k f) (words_names HasTypes holds_types d.specifiers d.enumeration w k f) h

pub block_declaration_there : (s : Option Pos) (d : DeclarationTree) (w : W) → Known w.scoping → (after_block_declaration declarations.noting s d w).found ≡ None
    → (is_some (block_declaration_at declarations.noting s d w) ≡ true) × Known (after_block_declaration declarations.noting s d w).scoping
block_declaration_there None d w k h = declaration_there d w k h
block_declaration_there (Some at) d w k h = (refl, static_declaration_known d w k h)
