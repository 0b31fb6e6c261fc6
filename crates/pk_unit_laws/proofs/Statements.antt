-- The places of typed statements, and of the calls so far, are those of the statements.
use Rattle.std.proofs.Common.{List, [], ◌∷◌, Option, Some, None, length}
use Rattle.std.specs.Prelude.{All, IfSome}
use Rattle.std.proofs.lemmas.List.Elements.{All-head, All-tail}
use Rattle.pk_ctypes.specs.declared.places.Pos.{Pos}
use Rattle.pk_ast.specs.Places.{first_place_of}
use Rattle.pk_ast.specs.Trees as ast
use Rattle.pk_ast.specs.Trees.{ExpressionTree, ForStartTree, declaration, expression, StatementTree, ItemTrees, no_items, declaration_then, statement_then}
use Rattle.pk_typed.specs.Trees as tree
use Rattle.pk_typed.specs.Trees.{ValueTree, EffectTree, DeclaredTree}
use Rattle.pk_type_scope.specs.declared.declarations.Typing.{Typing}
use Rattle.pk_type_expression.specs.Types.{type_of}
use Rattle.pk_type_declaration.specs.Checks.{DeclarationChecks}
use Rattle.pk_type_declaration.specs.Statics.{declaration_trees_at, after_block_declaration, block_declaration_at}
use Rattle.pk_type_declaration.specs.Walks.{Walked, here, after_value, value_at, effect_at}
use Rattle.pk_type_statement.specs.Checks.{StatementChecks}
use Rattle.pk_type_statement.specs.Statements.{Passed, after, after_items, on, inside, with_case, with_default, in_switch, after_start, after_optional_value, after_optional_effect, after_head, after_return}
use Rattle.pk_type_statement.specs.Trees.{Labels, label_at, ended, switch_of, optional_value_at, optional_effect_at, start_at, HeadTree, a_head, head_at, for_tree, declared_all, typed, typed_items}
use Rattle.pk_places_laws.specs.Places as made
use Rattle.pk_places_laws.specs.Places.{OfPlaces, InValue, InEffect, InDeclared}
use Rattle.pk_unit_laws.specs.Trees as source
use Rattle.pk_unit_laws.specs.Trees.{InOptional}
use Rattle.pk_unit_laws.proofs.Parts.{always, mapped, both, three}
use Rattle.pk_unit_laws.proofs.Expressions.{first_place}
use Rattle.pk_unit_laws.proofs.Walks.{Sited, value_sited, value_there, effect_there, declaration_sited, declaration_there, block_declaration_sited, block_declaration_there}

-- ---- parts that may be none

optional_value_sited : {F : Type 0} (P : OfPlaces) (c : DeclarationChecks F) (e : Option ExpressionTree) (w : Walked F) → InOptional P e → Sited P w → Sited P (after_optional_value c e w)
optional_value_sited P c None w h z = z
optional_value_sited P c (Some e) w h z = value_sited P c e w h z

optional_effect_sited : {F : Type 0} (P : OfPlaces) (c : DeclarationChecks F) (e : Option ExpressionTree) (w : Walked F) → InOptional P e → Sited P w → Sited P (after_optional_effect c e w)
optional_effect_sited P c None w h z = z
optional_effect_sited P c (Some e) w h z = value_sited P c e w h z

return_sited : {F : Type 0} (P : OfPlaces) (c : StatementChecks F) (r : Typing) (at : Pos) (e : Option ExpressionTree) (w : Walked F) → InOptional P e → Sited P w → Sited P (after_return c r at e w)
return_sited P c r at None w h z = z
return_sited P c r at (Some e) w h z = value_sited P c.declarations e w h z

abbrev IfValue : OfPlaces → Option ValueTree → Type 0
IfValue P v = IfSome v (InValue P)

abbrev IfEffect : OfPlaces → Option EffectTree → Type 0
IfEffect P e = IfSome e (InEffect P)

optional_value_there : {F : Type 0} (P : OfPlaces) (w : Walked F) (e : Option ExpressionTree) → InOptional P e → IfSome (optional_value_at w e) (IfValue P)
optional_value_there P w None h = tt
optional_value_there P w (Some e) h = mapped Some (InValue P) (IfValue P) (λ v k. k) (value_at w e) (value_there P w e h)

optional_effect_there : {F : Type 0} (P : OfPlaces) (w : Walked F) (e : Option ExpressionTree) → InOptional P e → IfSome (optional_effect_at w e) (IfEffect P)
optional_effect_there P w None h = tt
optional_effect_there P w (Some e) h = mapped Some (InEffect P) (IfEffect P) (λ v k. k) (effect_at w e) (effect_there P w e h)

-- ---- the parentheses of a `for`

start_sited : {F : Type 0} (P : OfPlaces) (c : DeclarationChecks F) (s : ForStartTree) (w : Walked F) → source.InStart P s → Sited P w → Sited P (after_start c s w)
start_sited P c (declaration d) w h z = declaration_sited P c d w h z
start_sited P c (expression e) w h z = optional_effect_sited P c e w h z

start_there : {F : Type 0} (P : OfPlaces) (c : DeclarationChecks F) (s : ForStartTree) (w : Walked F) → source.InStart P s → IfSome (start_at c s w) (made.InStart P)
start_there P c (declaration d) w h = mapped tree.declarations (All (InDeclared P)) (made.InStart P) (λ ts k. k) (declaration_trees_at c d w) (declaration_there P c d w h)
start_there P c (expression e) w h = mapped tree.expression (IfEffect P) (made.InStart P) (λ x k. k) (optional_effect_at w e) (optional_effect_there P w e h)

head_sited : {F : Type 0} (P : OfPlaces) (c : DeclarationChecks F) (s : ForStartTree) (test step : Option ExpressionTree) (w : Walked F) → source.InStart P s → InOptional P test → InOptional P step → Sited P w →
    Sited P (after_head c s test step w)
head_sited P c s test step w h k l z =
    let v = after_start c s w in
    optional_effect_sited P c step (after_optional_value c test v) l (optional_value_sited P c test v k (start_sited P c s w h z))

abbrev InHead : OfPlaces → HeadTree → Type 0
InHead P h = made.InStart P h.start × IfValue P h.test × IfEffect P h.step

head_there : {F : Type 0} (P : OfPlaces) (c : DeclarationChecks F) (s : ForStartTree) (test step : Option ExpressionTree) (w : Walked F) → source.InStart P s → InOptional P test → InOptional P step →
    IfSome (head_at c s test step w) (InHead P)
head_there P c s test step w h k l =
    let v = after_start c s w in
    let x = after_optional_value c test v in
    three a_head (made.InStart P) (IfValue P) (IfEffect P) (InHead P) (λ a b c f g i. (f, g, i)) (start_at c s w) (optional_value_at v test) (optional_effect_at x step) (start_there P c s w h)
    (optional_value_there P v test k) (optional_effect_there P x step l)

-- ---- statements

declared_in : (P : OfPlaces) (ds : List DeclaredTree) (is : tree.ItemTrees) → All (InDeclared P) ds → made.InItems P is → made.InItems P (declared_all ds is)
unfolding made.InItems
declared_in P [] is h k = k
declared_in P (d ∷ ds) is h k = (All-head (InDeclared P) d ds h, declared_in P ds is (All-tail (InDeclared P) d ds h) k)

mutual
  unfolding after after_items source.InStatement source.InItems

  statement_sited : {F : Type 0} (P : OfPlaces) (c : StatementChecks F) (r : Typing) (p : Passed F) (s : StatementTree) → source.InStatement P s → Sited P p.walked → Sited P (after c r p s).walked
  statement_sited P c r p (ast.block opened is closed) h z = items_sited P c r (inside p) is h.1 z
  statement_sited P c r p (ast.empty at) h z = z
  statement_sited P c r p (ast.expression_statement e) h z = value_sited P c.declarations e p.walked h z
  statement_sited P c r p (ast.label x s) h z = statement_sited P c r p s h.1 z
  statement_sited P c r p (ast.case at e s) h z = statement_sited P c r (with_case c.declarations at e p) s h.2 (value_sited P c.declarations e p.walked h.1 z)
  statement_sited P c r p (ast.default at s) h z = statement_sited P c r (with_default p) s h.1 z
  statement_sited P c r p (ast.if_then at e s) h z = statement_sited P c r (on (after_value c.declarations e) p) s h.2 (value_sited P c.declarations e p.walked h.1 z)
  statement_sited P c r p (ast.if_else at e s t) h z =
      let q = on (after_value c.declarations e) p in statement_sited P c r (after c r q s) t h.3 (statement_sited P c r q s h.2 (value_sited P c.declarations e p.walked h.1 z))
  statement_sited P c r p (ast.switch at e s) h z = statement_sited P c r (in_switch (on (after_value c.declarations e) p)) s h.2 (value_sited P c.declarations e p.walked h.1 z)
  statement_sited P c r p (ast.while at e s) h z = statement_sited P c r (on (after_value c.declarations e) p) s h.2 (value_sited P c.declarations e p.walked h.1 z)
  statement_sited P c r p (ast.do_while at s e) h z = value_sited P c.declarations e (after c r p s).walked h.2 (statement_sited P c r p s h.1 z)
  statement_sited P c r p (ast.for_loop at start test step s) h z =
      statement_sited P c r (on (after_head c.declarations start test step) (inside p)) s h.4 (head_sited P c.declarations start test step (inside p).walked h.1 h.2 h.3 z)
  statement_sited P c r p (ast.goto at x) h z = z
  statement_sited P c r p (ast.continue at) h z = z
  statement_sited P c r p (ast.break at) h z = z
  statement_sited P c r p (ast.return at e) h z = return_sited P c r at e p.walked h.1 z

  pub items_sited : {F : Type 0} (P : OfPlaces) (c : StatementChecks F) (r : Typing) (p : Passed F) (is : ItemTrees) → source.InItems P is → Sited P p.walked → Sited P (after_items c r p is).walked
  items_sited P c r p no_items h z = z
  items_sited P c r p (declaration_then s d is) h z = items_sited P c r (on (after_block_declaration c.declarations s d) p) is h.1 (block_declaration_sited P c.declarations s d p.walked h.0 z)
  items_sited P c r p (statement_then s is) h z = items_sited P c r (after c r p s) is h.1 (statement_sited P c r p s h.0 z)

mutual
  unfolding typed typed_items source.InStatement source.InItems made.InStatement made.InItems

  statement_there : {F : Type 0} (P : OfPlaces) (c : StatementChecks F) (r : Typing) (l : Labels) (p : Passed F) (s : StatementTree) → source.InStatement P s → IfSome (typed c r l p s) (made.InStatement P)
  statement_there P c r l p (ast.block opened is closed) h =
      mapped (tree.block opened) (made.InItems P) (made.InStatement P) (λ x k. (h.0, k)) (typed_items c r l (inside p) is) (items_there P c r l (inside p) is h.1)
  statement_there P c r l p (ast.empty at) h = h
  statement_there P c r l p (ast.expression_statement e) h =
      mapped (tree.effect (first_place_of e)) (InEffect P) (made.InStatement P) (λ x k. (first_place P e h, k)) (effect_at p.walked e) (effect_there P p.walked e h)
  statement_there P c r l p (ast.label x s) h =
      both (tree.label x.at) (λ n. Unit {0}) (made.InStatement P) (made.InStatement P) (λ n t j k. (h.0, k)) (label_at l p.walked x) (typed c r l p s) (always (label_at l p.walked x)) (statement_there P c r l p s h.1)
  statement_there P c r l p (ast.case at e s) h =
      let q = with_case c.declarations at e p in mapped (tree.case at (length p.cases)) (made.InStatement P) (made.InStatement P) (λ t k. (h.0, k)) (typed c r l q s) (statement_there P c r l q s h.2)
  statement_there P c r l p (ast.default at s) h =
      let q = with_default p in mapped (tree.default at) (made.InStatement P) (made.InStatement P) (λ t k. (h.0, k)) (typed c r l q s) (statement_there P c r l q s h.1)
  statement_there P c r l p (ast.if_then at e s) h =
      let q = on (after_value c.declarations e) p in
      both (tree.if_then at) (InValue P) (made.InStatement P) (made.InStatement P) (λ v t j k. (h.0, j, k)) (value_at p.walked e) (typed c r l q s) (value_there P p.walked e h.1) (statement_there P c r l q s h.2)
  statement_there P c r l p (ast.if_else at e s t) h =
      let q = on (after_value c.declarations e) p in
      let m = after c r q s in
      three (tree.if_else at) (InValue P) (made.InStatement P) (made.InStatement P) (made.InStatement P) (λ v x y i j k. (h.0, i, j, k)) (value_at p.walked e) (typed c r l q s) (typed c r l m t)
      (value_there P p.walked e h.1) (statement_there P c r l q s h.2) (statement_there P c r l m t h.3)
  statement_there P c r l p (ast.switch at e s) h =
      let q = in_switch (on (after_value c.declarations e) p) in
      let end = ended (type_of (here p.walked) e) (after c r q s) in
      three (switch_of at) (InValue P) (λ x. Unit {0}) (made.InStatement P) (made.InStatement P) (λ v x y i j k. (h.0, i, k)) (value_at p.walked e) end (typed c r l q s)
      (value_there P p.walked e h.1) (always end) (statement_there P c r l q s h.2)
  statement_there P c r l p (ast.while at e s) h =
      let q = on (after_value c.declarations e) p in
      both (tree.while at) (InValue P) (made.InStatement P) (made.InStatement P) (λ v t j k. (h.0, j, k)) (value_at p.walked e) (typed c r l q s) (value_there P p.walked e h.1) (statement_there P c r l q s h.2)
  statement_there P c r l p (ast.do_while at s e) h =
      let w = (after c r p s).walked in
      both (tree.do_while at) (made.InStatement P) (InValue P) (made.InStatement P) (λ t v j k. (h.0, j, k)) (typed c r l p s) (value_at w e) (statement_there P c r l p s h.1) (value_there P w e h.2)
  statement_there P c r l p (ast.for_loop at start test step s) h =
      let q = inside p in
      let m = on (after_head c.declarations start test step) q in
      both (for_tree at) (InHead P) (made.InStatement P) (made.InStatement P) (λ x t j k. (h.0, j.0, j.1, j.2, k)) (head_at c.declarations start test step q.walked) (typed c r l m s)
      (head_there P c.declarations start test step q.walked h.1 h.2 h.3) (statement_there P c r l m s h.4)
  statement_there P c r l p (ast.goto at x) h = mapped (tree.goto at) (λ n. Unit {0}) (made.InStatement P) (λ n k. h) (label_at l p.walked x) (always (label_at l p.walked x))
  statement_there P c r l p (ast.continue at) h = h
  statement_there P c r l p (ast.break at) h = h
  statement_there P c r l p (ast.return at e) h = mapped (tree.return at) (IfValue P) (made.InStatement P) (λ v k. (h.0, k)) (optional_value_at p.walked e) (optional_value_there P p.walked e h.1)

  pub items_there : {F : Type 0} (P : OfPlaces) (c : StatementChecks F) (r : Typing) (l : Labels) (p : Passed F) (is : ItemTrees) → source.InItems P is → IfSome (typed_items c r l p is) (made.InItems P)
  items_there P c r l p no_items h = tt
  items_there P c r l p (declaration_then s d is) h =
      let q = on (after_block_declaration c.declarations s d) p in
      both declared_all (All (InDeclared P)) (made.InItems P) (made.InItems P) (declared_in P) (block_declaration_at c.declarations s d p.walked) (typed_items c r l q is) (block_declaration_there P c.declarations s d p.walked h.0) (items_there P c r l q is h.1)
  items_there P c r l p (statement_then s is) h =
      let q = after c r p s in
      both tree.statement_before (made.InStatement P) (made.InItems P) (made.InItems P) (λ t ts j k. (j, k)) (typed c r l p s) (typed_items c r l q is) (statement_there P c r l p s h.0) (items_there P c r l q is h.1)
