-- What stands after statements, and their typed trees, are the same whatever is checked: a walk, without what it finds, is the walk that checks nothing.
use Rattle.std.proofs.Common.{◌≡◌, Option, Some, None, option_map, length, refl, ap, ◌∙◌}
use Rattle.pk_ctypes.specs.declared.places.Pos.{Pos}
use Rattle.pk_ast.specs.Trees.{ExpressionTree, ForStartTree, declaration, expression, StatementTree, block, empty, expression_statement, label, case, default, if_then, if_else, switch, while, do_while, for_loop, goto, continue, break, return, ItemTrees, no_items, declaration_then, statement_then}
use Rattle.pk_typed.specs.Trees as tree
use Rattle.pk_type_scope.specs.declared.declarations.Typing.{Typing}
use Rattle.pk_type_scope.specs.declared.declarations.Typing.TheVariants.{Void, Integer, Unknown}
use Rattle.pk_type_expression.specs.Typed.{of_both}
use Rattle.pk_type_expression.specs.Types.{type_of}
use Rattle.pk_type_declaration.specs.Checks as declarations
use Rattle.pk_type_declaration.specs.Checks.{DeclarationChecks}
use Rattle.pk_type_declaration.specs.Statics.{after_block_declaration, block_declaration_at}
use Rattle.pk_type_declaration.specs.Walks.{Walked, here, after_value, value_at}
use Rattle.pk_type_declaration.proofs.BareLemmas.{bare, bare_declaration, bare_declaration_trees, bare_block_declaration, bare_block_declaration_trees}
use Rattle.pk_type_statement.specs.Checks.{StatementChecks, unchecked}
use Rattle.pk_type_statement.specs.Statements.{Passed, on, inside, outside, after_optional_value, after_optional_effect, after_return, with_case, with_default, in_switch, after_switch, after_start, after_head, after, after_items}
use Rattle.pk_type_statement.specs.Trees.{Labels, label_at, of_three, ended, switch_of, optional_value_at, optional_effect_at, start_at, a_head, head_at, for_tree, declared_all, typed, typed_items}

-- without what was found
abbrev pub bare_passed : {F : Type 0} → Passed F → Passed (Unit {0})
bare_passed p = record { walked = bare p.walked; cases = p.cases; has_default = p.has_default }

bare_optional_value : {F : Type 0} (c : DeclarationChecks F) (e : Option ExpressionTree) (w : Walked F) → bare (after_optional_value c e w) ≡ after_optional_value declarations.unchecked e (bare w)
bare_optional_value c None w = refl
bare_optional_value c (Some e) w = refl

bare_optional_effect : {F : Type 0} (c : DeclarationChecks F) (e : Option ExpressionTree) (w : Walked F) → bare (after_optional_effect c e w) ≡ after_optional_effect declarations.unchecked e (bare w)
bare_optional_effect c None w = refl
bare_optional_effect c (Some e) w = refl

bare_return : {F : Type 0} (c : StatementChecks F) (returns : Typing) (at : Pos) (e : Option ExpressionTree) (w : Walked F) → bare (after_return c returns at e w) ≡ after_return unchecked returns at e (bare w)
bare_return c returns at None w = refl
bare_return c returns at (Some e) w = refl

bare_start : {F : Type 0} (c : DeclarationChecks F) (start : ForStartTree) (w : Walked F) → bare (after_start c start w) ≡ after_start declarations.unchecked start (bare w)
bare_start c (declaration d) w = bare_declaration c d w
bare_start c (expression e) w = bare_optional_effect c e w

bare_head : {F : Type 0} (c : DeclarationChecks F) (start : ForStartTree) (test step : Option ExpressionTree) (w : Walked F) → bare (after_head c start test step w) ≡ after_head declarations.unchecked start test step (bare w)
bare_head c start test step w =
    bare_optional_effect c step (after_optional_value c test (after_start c start w))
    ∙ ap (after_optional_effect declarations.unchecked step) (bare_optional_value c test (after_start c start w) ∙ ap (after_optional_value declarations.unchecked test) (bare_start c start w))

mutual
  unfolding after after_items

  pub bare_after : {F : Type 0} (c : StatementChecks F) (r : Typing) (p : Passed F) (s : StatementTree) → bare_passed (after c r p s) ≡ after unchecked r (bare_passed p) s
  bare_after c r p (block opened items closed) = ap (outside (bare_passed p)) (bare_items c r (inside p) items)
  bare_after c r p (empty at) = refl
  bare_after c r p (expression_statement e) = refl
  bare_after c r p (label x s) = bare_after c r p s
  bare_after c r p (case at e s) = bare_after c r (with_case c.declarations at e p) s
  bare_after c r p (default at s) = bare_after c r (with_default p) s
  bare_after c r p (if_then at e s) = bare_after c r (on (after_value c.declarations e) p) s
  bare_after c r p (if_else at e s t) =
      let q = on (after_value c.declarations e) p in bare_after c r (after c r q s) t ∙ ap (λ x. after unchecked r x t) (bare_after c r q s)
  bare_after c r p (switch at e s) =
      ap (after_switch unchecked (type_of (here p.walked) e) p.cases p.has_default) (bare_after c r (in_switch (on (after_value c.declarations e) p)) s)
  bare_after c r p (while at e s) = bare_after c r (on (after_value c.declarations e) p) s
  bare_after c r p (do_while at s e) = ap (on (after_value declarations.unchecked e)) (bare_after c r p s)
  bare_after c r p (for_loop at start test step s) =
      let q = inside p in
      ap (outside (bare_passed p))
      (bare_after c r (on (after_head c.declarations start test step) q) s
      ∙ ap (λ v. after unchecked r (record { walked = v; cases = p.cases; has_default = p.has_default }) s) (bare_head c.declarations start test step q.walked))
  bare_after c r p (goto at x) = refl
  bare_after c r p (continue at) = refl
  bare_after c r p (break at) = refl
  bare_after c r p (return at e) = ap (λ v. record { walked = v; cases = p.cases; has_default = p.has_default }) (bare_return c r at e p.walked)

  pub bare_items : {F : Type 0} (c : StatementChecks F) (r : Typing) (p : Passed F) (items : ItemTrees) → bare_passed (after_items c r p items) ≡ after_items unchecked r (bare_passed p) items
  bare_items c r p no_items = refl
  bare_items c r p (declaration_then x d items) =
      bare_items c r (on (after_block_declaration c.declarations x d) p) items
      ∙ ap (λ v. after_items unchecked r (record { walked = v; cases = p.cases; has_default = p.has_default }) items) (bare_block_declaration c.declarations x d p.walked)
  bare_items c r p (statement_then s items) = bare_items c r (after c r p s) items ∙ ap (λ q. after_items unchecked r q items) (bare_after c r p s)

-- ---- typed trees

bare_value_at : {F : Type 0} (w : Walked F) (e : Option ExpressionTree) → optional_value_at w e ≡ optional_value_at (bare w) e
bare_value_at w None = refl
bare_value_at w (Some e) = refl

bare_effect_at : {F : Type 0} (w : Walked F) (e : Option ExpressionTree) → optional_effect_at w e ≡ optional_effect_at (bare w) e
bare_effect_at w None = refl
bare_effect_at w (Some e) = refl

bare_ended : {F : Type 0} (t : Typing) (p : Passed F) → ended t p ≡ ended t (bare_passed p)
bare_ended Void p = refl
bare_ended (Integer t) p = refl
bare_ended Unknown p = refl

bare_start_at : {F : Type 0} (c : DeclarationChecks F) (start : ForStartTree) (w : Walked F) → start_at c start w ≡ start_at declarations.unchecked start (bare w)
bare_start_at c (declaration d) w = ap (option_map tree.declarations) (bare_declaration_trees c d w)
bare_start_at c (expression e) w = ap (option_map tree.expression) (bare_effect_at w e)

bare_head_at : {F : Type 0} (c : DeclarationChecks F) (start : ForStartTree) (test step : Option ExpressionTree) (w : Walked F) → head_at c start test step w ≡ head_at declarations.unchecked start test step (bare w)
bare_head_at c start test step w =
    let v = after_start c start w in
    let u = after_start declarations.unchecked start (bare w) in
    ap (λ x. of_three a_head x (optional_value_at v test) (optional_effect_at (after_optional_value c test v) step)) (bare_start_at c start w)
    ∙ (ap (λ x. of_three a_head (start_at declarations.unchecked start (bare w)) x (optional_effect_at (after_optional_value c test v) step)) (bare_value_at v test ∙ ap (λ y. optional_value_at y test) (bare_start c start w))
    ∙ ap (of_three a_head (start_at declarations.unchecked start (bare w)) (optional_value_at u test))
    (bare_effect_at (after_optional_value c test v) step
    ∙ ap (λ y. optional_effect_at y step) (bare_optional_value c test v ∙ ap (after_optional_value declarations.unchecked test) (bare_start c start w))))

mutual
  unfolding typed typed_items

  pub bare_typed : {F : Type 0} (c : StatementChecks F) (r : Typing) (l : Labels) (p : Passed F) (s : StatementTree) → typed c r l p s ≡ typed unchecked r l (bare_passed p) s
  bare_typed c r l p (block opened items closed) = ap (option_map (tree.block opened)) (bare_typed_items c r l (inside p) items)
  bare_typed c r l p (empty at) = refl
  bare_typed c r l p (expression_statement e) = refl
  bare_typed c r l p (label x s) = ap (of_both (tree.label x.at) (label_at l p.walked x)) (bare_typed c r l p s)
  bare_typed c r l p (case at e s) = ap (option_map (tree.case at (length p.cases))) (bare_typed c r l (with_case c.declarations at e p) s)
  bare_typed c r l p (default at s) = ap (option_map (tree.default at)) (bare_typed c r l (with_default p) s)
  bare_typed c r l p (if_then at e s) = ap (of_both (tree.if_then at) (value_at p.walked e)) (bare_typed c r l (on (after_value c.declarations e) p) s)
  bare_typed c r l p (if_else at e s t) =
      let q = on (after_value c.declarations e) p in
      ap (λ x. of_three (tree.if_else at) (value_at p.walked e) x (typed c r l (after c r q s) t)) (bare_typed c r l q s)
      ∙ ap (of_three (tree.if_else at) (value_at p.walked e) (typed unchecked r l (bare_passed q) s))
      (bare_typed c r l (after c r q s) t ∙ ap (λ x. typed unchecked r l x t) (bare_after c r q s))
  bare_typed c r l p (switch at e s) =
      let q = in_switch (on (after_value c.declarations e) p) in
      let t = type_of (here p.walked) e in
      ap (λ x. of_three (switch_of at) (value_at p.walked e) x (typed c r l q s)) (bare_ended t (after c r q s) ∙ ap (ended t) (bare_after c r q s))
      ∙ ap (of_three (switch_of at) (value_at p.walked e) (ended t (after unchecked r (bare_passed q) s))) (bare_typed c r l q s)
  bare_typed c r l p (while at e s) = ap (of_both (tree.while at) (value_at p.walked e)) (bare_typed c r l (on (after_value c.declarations e) p) s)
  bare_typed c r l p (do_while at s e) =
      ap (λ x. of_both (tree.do_while at) x (value_at (after c r p s).walked e)) (bare_typed c r l p s)
      ∙ ap (λ q. of_both (tree.do_while at) (typed unchecked r l (bare_passed p) s) (value_at q.walked e)) (bare_after c r p s)
  bare_typed c r l p (for_loop at start test step s) =
      let q = inside p in
      ap (λ h. of_both (for_tree at) h (typed c r l (on (after_head c.declarations start test step) q) s)) (bare_head_at c.declarations start test step q.walked)
      ∙ ap (of_both (for_tree at) (head_at declarations.unchecked start test step (bare q.walked)))
      (bare_typed c r l (on (after_head c.declarations start test step) q) s
      ∙ ap (λ v. typed unchecked r l (record { walked = v; cases = p.cases; has_default = p.has_default }) s) (bare_head c.declarations start test step q.walked))
  bare_typed c r l p (goto at x) = refl
  bare_typed c r l p (continue at) = refl
  bare_typed c r l p (break at) = refl
  bare_typed c r l p (return at e) = ap (option_map (tree.return at)) (bare_value_at p.walked e)

  pub bare_typed_items : {F : Type 0} (c : StatementChecks F) (r : Typing) (l : Labels) (p : Passed F) (items : ItemTrees) → typed_items c r l p items ≡ typed_items unchecked r l (bare_passed p) items
  bare_typed_items c r l p no_items = refl
  bare_typed_items c r l p (declaration_then x d items) =
      let q = on (after_block_declaration c.declarations x d) p in
      ap (λ ts. of_both declared_all ts (typed_items c r l q items)) (bare_block_declaration_trees c.declarations x d p.walked)
      ∙ ap (of_both declared_all (block_declaration_at declarations.unchecked x d (bare p.walked)))
      (bare_typed_items c r l q items
      ∙ ap (λ v. typed_items unchecked r l (record { walked = v; cases = p.cases; has_default = p.has_default }) items) (bare_block_declaration c.declarations x d p.walked))
  bare_typed_items c r l p (statement_then s items) =
      ap (λ t. of_both tree.statement_before t (typed_items c r l (after c r p s) items)) (bare_typed c r l p s)
      ∙ ap (of_both tree.statement_before (typed unchecked r l (bare_passed p) s)) (bare_typed_items c r l (after c r p s) items ∙ ap (λ q. typed_items unchecked r l q items) (bare_after c r p s))
