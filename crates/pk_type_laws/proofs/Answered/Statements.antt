-- The first failure so far is that of the list so far: after statements, whose typed trees are the same.
use Rattle.std.proofs.Common.{◌≡◌, List, Option, Some, None, refl, ap, ◌∙◌, length}
use Rattle.std.specs.Prelude.{is_some}
use Rattle.std.specs.Option.{option_map}
use Rattle.pk_ctypes.specs.declared.places.Pos.{Pos}
use Rattle.pk_ctypes.specs.declared.words.Rule.TheVariants as rule
use Rattle.pk_ast.specs.Trees as ast
use Rattle.pk_ast.specs.Trees.{ExpressionTree, ForStartTree, declaration, expression, no_items, declaration_then, statement_then}
use Rattle.pk_typed.specs.Trees as tree
use Rattle.pk_type_scope.specs.declared.declarations.Typing.{Typing}
use Rattle.pk_type_scope.specs.declared.declarations.Typing.TheVariants.{Void, Integer, Unknown}
use Rattle.pk_type_scope.specs.declared.failures.Failure.{Failure}
use Rattle.pk_type_scope.specs.Failures.{fails_if}
use Rattle.pk_type_expression.specs.Typed.{of_both}
use Rattle.pk_type_expression.specs.Types.{type_of}
use Rattle.pk_type_declaration.specs.Statics.{after_block_declaration, block_declaration_at}
use Rattle.pk_type_declaration.specs.Walks.{here, after_value, value_at}
use Rattle.pk_type_declaration.specs.Rules as declarations
use Rattle.pk_type_declaration.specs.Rules.{failing}
use Rattle.pk_type_statement.specs.Statements.{Passed, on, inside, outside, after, after_items, with_case, with_default, in_switch, after_switch, after_start, after_optional_value, after_optional_effect, after_head, after_return}
use Rattle.pk_type_statement.specs.Trees.{Labels, label_at, of_three, ended, switch_of, optional_value_at, optional_effect_at, start_at, head_at, a_head, for_tree, declared_all, typed, typed_items}
use Rattle.pk_type_statement.specs.Rules as statements
use Rattle.pk_type_statement.specs.Rules.{returns_otherwise, repeated_cases}
use Rattle.pk_type_laws.specs.Answered.Failures.{appended}
use Rattle.pk_type_laws.proofs.Answered.Walks.{L, W, first, failing_first, value_first, effect_first, constant_first, declaration_first, declaration_same}
use Rattle.pk_type_laws.proofs.Answered.Statics.{block_declaration_first, block_declaration_same}

abbrev pub P : Type 0
P = Passed (List Failure)

abbrev pub Q : Type 0
Q = Passed (Option Failure)

abbrev with_walked : P → W → Q
with_walked p w = record { walked = w; cases = p.cases; has_default = p.has_default }

-- with the first failure alone
abbrev pub passed_first : P → Q
passed_first p = with_walked p (first p.walked)

optional_value_first : (e : Option ExpressionTree) (w : L) → after_optional_value declarations.noting e (first w) ≡ first (after_optional_value (declarations.adding appended) e w)
optional_value_first None w = refl
optional_value_first (Some e) w = value_first e w

optional_effect_first : (e : Option ExpressionTree) (w : L) → after_optional_effect declarations.noting e (first w) ≡ first (after_optional_effect (declarations.adding appended) e w)
optional_effect_first None w = refl
optional_effect_first (Some e) w = effect_first e w

return_first : (r : Typing) (at : Pos) (e : Option ExpressionTree) (w : L) → after_return statements.noting r at e (first w) ≡ first (after_return (statements.adding appended) r at e w)
return_first r at e w =
    let fs = fails_if (returns_otherwise r (is_some e)) rule.Return at in
    ap (after_optional_value declarations.noting e) (failing_first fs w) ∙ optional_value_first e (failing appended fs w)

start_first : (s : ForStartTree) (w : L) → after_start declarations.noting s (first w) ≡ first (after_start (declarations.adding appended) s w)
start_first (declaration d) w = declaration_first d w
start_first (expression e) w = optional_effect_first e w

head_first : (s : ForStartTree) (test step : Option ExpressionTree) (w : L) → after_head declarations.noting s test step (first w) ≡ first (after_head (declarations.adding appended) s test step w)
head_first s test step w =
    let v = after_start (declarations.adding appended) s w in
    ap (λ (x : W). after_optional_effect declarations.noting step (after_optional_value declarations.noting test x)) (start_first s w)
    ∙ (ap (after_optional_effect declarations.noting step) (optional_value_first test v) ∙ optional_effect_first step (after_optional_value (declarations.adding appended) test v))

case_first : (at : Pos) (e : ExpressionTree) (p : P) → with_case declarations.noting at e (passed_first p) ≡ passed_first (with_case (declarations.adding appended) at e p)
case_first at e p = ap (with_walked (with_case (declarations.adding appended) at e p)) (constant_first e p.walked)

on_value : (e : ExpressionTree) (p : P) → on (after_value declarations.noting e) (passed_first p) ≡ passed_first (on (after_value (declarations.adding appended) e) p)
on_value e p = ap (with_walked p) (value_first e p.walked)

switch_first : (t : Typing) (p q : P) → after_switch statements.noting t p.cases p.has_default (passed_first q) ≡ passed_first (after_switch (statements.adding appended) t p.cases p.has_default q)
switch_first t p q = ap (with_walked p) (failing_first (repeated_cases t q.cases) q.walked)

mutual
  unfolding after after_items

  pub statement_first : (r : Typing) (p : P) (s : ast.StatementTree) → after statements.noting r (passed_first p) s ≡ passed_first (after (statements.adding appended) r p s)
  statement_first r p (ast.block opened items closed) = ap (outside (passed_first p)) (items_first r (inside p) items)
  statement_first r p (ast.empty at) = refl
  statement_first r p (ast.expression_statement e) = ap (with_walked p) (effect_first e p.walked)
  statement_first r p (ast.label x s) = statement_first r p s
  statement_first r p (ast.case at e s) = ap (λ (q : Q). after statements.noting r q s) (case_first at e p) ∙ statement_first r (with_case (declarations.adding appended) at e p) s
  statement_first r p (ast.default at s) = statement_first r (with_default p) s
  statement_first r p (ast.if_then at e s) = ap (λ (q : Q). after statements.noting r q s) (on_value e p) ∙ statement_first r (on (after_value (declarations.adding appended) e) p) s
  statement_first r p (ast.if_else at e s t) =
      let q = on (after_value (declarations.adding appended) e) p in
      ap (λ (x : Q). after statements.noting r (after statements.noting r x s) t) (on_value e p) ∙ (ap (λ (x : Q). after statements.noting r x t) (statement_first r q s) ∙ statement_first r (after (statements.adding appended) r q s) t)
  statement_first r p (ast.switch at e s) =
      let q = in_switch (on (after_value (declarations.adding appended) e) p) in
      ap (λ (x : Q). after_switch statements.noting (type_of (here p.walked) e) p.cases p.has_default (after statements.noting r (in_switch x) s)) (on_value e p)
      ∙ (ap (after_switch statements.noting (type_of (here p.walked) e) p.cases p.has_default) (statement_first r q s) ∙ switch_first (type_of (here p.walked) e) p (after (statements.adding appended) r q s))
  statement_first r p (ast.while at e s) = ap (λ (q : Q). after statements.noting r q s) (on_value e p) ∙ statement_first r (on (after_value (declarations.adding appended) e) p) s
  statement_first r p (ast.do_while at s e) = ap (on (after_value declarations.noting e)) (statement_first r p s) ∙ on_value e (after (statements.adding appended) r p s)
  statement_first r p (ast.for_loop at start test step s) =
      let q = on (after_head (declarations.adding appended) start test step) (inside p) in
      ap (λ (w : W). outside (passed_first p) (after statements.noting r (with_walked p w) s)) (head_first start test step (inside p).walked) ∙ ap (outside (passed_first p)) (statement_first r q s)
  statement_first r p (ast.goto at x) = refl
  statement_first r p (ast.continue at) = refl
  statement_first r p (ast.break at) = refl
  statement_first r p (ast.return at e) = ap (with_walked p) (return_first r at e p.walked)

  pub items_first : (r : Typing) (p : P) (items : ast.ItemTrees) → after_items statements.noting r (passed_first p) items ≡ passed_first (after_items (statements.adding appended) r p items)
  items_first r p no_items = refl
  items_first r p (declaration_then x d items) =
      ap (λ (w : W). after_items statements.noting r (with_walked p w) items) (block_declaration_first x d p.walked) ∙ items_first r (on (after_block_declaration (declarations.adding appended) x d) p) items
  items_first r p (statement_then s items) = ap (λ (q : Q). after_items statements.noting r q items) (statement_first r p s) ∙ items_first r (after (statements.adding appended) r p s) items

-- ---- typed trees

optional_value_same : (e : Option ExpressionTree) (w : L) → optional_value_at (first w) e ≡ optional_value_at w e
optional_value_same None w = refl
optional_value_same (Some e) w = refl

optional_effect_same : (e : Option ExpressionTree) (w : L) → optional_effect_at (first w) e ≡ optional_effect_at w e
optional_effect_same None w = refl
optional_effect_same (Some e) w = refl

start_same : (s : ForStartTree) (w : L) → start_at declarations.noting s (first w) ≡ start_at (declarations.adding appended) s w
start_same (declaration d) w = ap (option_map tree.declarations) (declaration_same d w)
start_same (expression e) w = ap (option_map tree.expression) (optional_effect_same e w)

three_same : {A B C D : Type 0} (f : A → B → C → D) (a b : Option A) (c d : Option B) (x y : Option C) → a ≡ b → c ≡ d → x ≡ y → of_three f a c x ≡ of_three f b d y
three_same f a b c d x y p q r = ap (λ (z : Option _). of_three f z c x) p ∙ (ap (λ (z : Option _). of_three f b z x) q ∙ ap (λ (z : Option _). of_three f b d z) r)

both_same : {A B C : Type 0} (f : A → B → C) (a b : Option A) (c d : Option B) → a ≡ b → c ≡ d → of_both f a c ≡ of_both f b d
both_same f a b c d p q = ap (λ (z : Option _). of_both f z c) p ∙ ap (λ (z : Option _). of_both f b z) q

head_same : (s : ForStartTree) (test step : Option ExpressionTree) (w : L) → head_at declarations.noting s test step (first w) ≡ head_at (declarations.adding appended) s test step w
head_same s test step w =
    let v = after_start (declarations.adding appended) s w in
    three_same a_head (start_at declarations.noting s (first w)) (start_at (declarations.adding appended) s w) (optional_value_at (after_start declarations.noting s (first w)) test) (optional_value_at v test)
    (optional_effect_at (after_optional_value declarations.noting test (after_start declarations.noting s (first w))) step) (optional_effect_at (after_optional_value (declarations.adding appended) test v) step)
    (start_same s w)
    (ap (λ (x : W). optional_value_at x test) (start_first s w) ∙ optional_value_same test v)
    (ap (λ (x : W). optional_effect_at (after_optional_value declarations.noting test x) step) (start_first s w)
    ∙ (ap (λ (x : W). optional_effect_at x step) (optional_value_first test v) ∙ optional_effect_same step (after_optional_value (declarations.adding appended) test v)))

ended_same : (t : Typing) (p : P) → ended t (passed_first p) ≡ ended t p
ended_same Void p = refl
ended_same (Integer t) p = refl
ended_same Unknown p = refl

mutual
  unfolding typed typed_items

  pub statement_same : (r : Typing) (ls : Labels) (p : P) (s : ast.StatementTree) → typed statements.noting r ls (passed_first p) s ≡ typed (statements.adding appended) r ls p s
  statement_same r ls p (ast.block opened items closed) = ap (option_map (tree.block opened)) (items_same r ls (inside p) items)
  statement_same r ls p (ast.empty at) = refl
  statement_same r ls p (ast.expression_statement e) = refl
  statement_same r ls p (ast.label x s) = ap (of_both (tree.label x.at) (label_at ls p.walked x)) (statement_same r ls p s)
  statement_same r ls p (ast.case at e s) =
      ap (option_map (tree.case at (length p.cases))) (ap (λ (q : Q). typed statements.noting r ls q s) (case_first at e p) ∙ statement_same r ls (with_case (declarations.adding appended) at e p) s)
  statement_same r ls p (ast.default at s) = ap (option_map (tree.default at)) (statement_same r ls (with_default p) s)
  statement_same r ls p (ast.if_then at e s) =
      ap (of_both (tree.if_then at) (value_at p.walked e)) (ap (λ (q : Q). typed statements.noting r ls q s) (on_value e p) ∙ statement_same r ls (on (after_value (declarations.adding appended) e) p) s)
  statement_same r ls p (ast.if_else at e s t) =
      let q = on (after_value (declarations.adding appended) e) p in let n = on (after_value declarations.noting e) (passed_first p) in
      three_same (tree.if_else at) (value_at p.walked e) (value_at p.walked e) (typed statements.noting r ls n s) (typed (statements.adding appended) r ls q s) (typed statements.noting r ls (after statements.noting r n s) t) (typed (statements.adding appended) r ls (after (statements.adding appended) r q s) t)
      refl
      (ap (λ (x : Q). typed statements.noting r ls x s) (on_value e p) ∙ statement_same r ls q s)
      (ap (λ (x : Q). typed statements.noting r ls (after statements.noting r x s) t) (on_value e p) ∙ (ap (λ (x : Q). typed statements.noting r ls x t) (statement_first r q s) ∙ statement_same r ls (after (statements.adding appended) r q s) t))
  statement_same r ls p (ast.switch at e s) =
      let q = in_switch (on (after_value (declarations.adding appended) e) p) in let n = in_switch (on (after_value declarations.noting e) (passed_first p)) in let t = type_of (here p.walked) e in
      let same : n ≡ passed_first q = ap in_switch (on_value e p) in
      three_same (switch_of at) (value_at p.walked e) (value_at p.walked e) (ended t (after statements.noting r n s)) (ended t (after (statements.adding appended) r q s)) (typed statements.noting r ls n s) (typed (statements.adding appended) r ls q s)
      refl
      (ap (λ (x : Q). ended t (after statements.noting r x s)) same ∙ (ap (ended t) (statement_first r q s) ∙ ended_same t (after (statements.adding appended) r q s)))
      (ap (λ (x : Q). typed statements.noting r ls x s) same ∙ statement_same r ls q s)
  statement_same r ls p (ast.while at e s) =
      ap (of_both (tree.while at) (value_at p.walked e)) (ap (λ (q : Q). typed statements.noting r ls q s) (on_value e p) ∙ statement_same r ls (on (after_value (declarations.adding appended) e) p) s)
  statement_same r ls p (ast.do_while at s e) =
      both_same (tree.do_while at) (typed statements.noting r ls (passed_first p) s) (typed (statements.adding appended) r ls p s) (value_at (after statements.noting r (passed_first p) s).walked e) (value_at (after (statements.adding appended) r p s).walked e)
      (statement_same r ls p s) (ap (λ (x : Q). value_at x.walked e) (statement_first r p s))
  statement_same r ls p (ast.for_loop at start test step s) =
      let q = inside p in
      both_same (for_tree at) (head_at declarations.noting start test step (first q.walked)) (head_at (declarations.adding appended) start test step q.walked)
      (typed statements.noting r ls (on (after_head declarations.noting start test step) (passed_first q)) s) (typed (statements.adding appended) r ls (on (after_head (declarations.adding appended) start test step) q) s)
      (head_same start test step q.walked)
      (ap (λ (w : W). typed statements.noting r ls (with_walked q w) s) (head_first start test step q.walked) ∙ statement_same r ls (on (after_head (declarations.adding appended) start test step) q) s)
  statement_same r ls p (ast.goto at x) = refl
  statement_same r ls p (ast.continue at) = refl
  statement_same r ls p (ast.break at) = refl
  statement_same r ls p (ast.return at e) = ap (option_map (tree.return at)) (optional_value_same e p.walked)

  pub items_same : (r : Typing) (ls : Labels) (p : P) (items : ast.ItemTrees) → typed_items statements.noting r ls (passed_first p) items ≡ typed_items (statements.adding appended) r ls p items
  items_same r ls p no_items = refl
  items_same r ls p (declaration_then x d items) =
      both_same declared_all (block_declaration_at declarations.noting x d (first p.walked)) (block_declaration_at (declarations.adding appended) x d p.walked)
      (typed_items statements.noting r ls (on (after_block_declaration declarations.noting x d) (passed_first p)) items) (typed_items (statements.adding appended) r ls (on (after_block_declaration (declarations.adding appended) x d) p) items)
      (block_declaration_same x d p.walked)
      (ap (λ (w : W). typed_items statements.noting r ls (with_walked p w) items) (block_declaration_first x d p.walked) ∙ items_same r ls (on (after_block_declaration (declarations.adding appended) x d) p) items)
  items_same r ls p (statement_then s items) =
      both_same tree.statement_before (typed statements.noting r ls (passed_first p) s) (typed (statements.adding appended) r ls p s) (typed_items statements.noting r ls (after statements.noting r (passed_first p) s) items) (typed_items (statements.adding appended) r ls (after (statements.adding appended) r p s) items)
      (statement_same r ls p s)
      (ap (λ (x : Q). typed_items statements.noting r ls x items) (statement_first r p s) ∙ items_same r ls (after (statements.adding appended) r p s) items)
