-- What is answered from a statement on that has statements in it.
use Rattle.std.proofs.Common.{◌≡◌, ◌≢◌, ℕ, ◌+◌, ◌<◌, ◌≤◌, List, [], ◌∷◌, ◌++◌, length, Option, Some, Result, MatchResult, Bool, true, false, refl, sym, ap, subst, ◌∙◌, arith}
use Rattle.std.specs.Prelude.{if◌then◌else◌}
use Rattle.std.proofs.lemmas.Result.{MatchResult-weaker}
use Rattle.pk_ctypes.specs.declared.places.Pos.{Pos}
use Rattle.pk_lex.specs.declared.token.Token.{Token}
use Rattle.pk_lex.specs.declared.token.Kind.{Kind}
use Rattle.pk_ast.specs.declared.expressions.Identifier.{Identifier}
use Rattle.pk_ast.specs.declared.expressions.Expression.{Expression}
use Rattle.pk_ast.specs.declared.expressions.Expression.TheVariants.{Name}
use Rattle.pk_ast.specs.declared.statements.BlockItem.{BlockItem}
use Rattle.pk_ast.specs.Trees.{ExpressionTree, name, ForStartTree, StatementTree, block, label, case, default, if_then, if_else, switch, while, do_while, for_loop, expression_statement, ItemTrees, no_items, declaration_then, statement_then}
use Rattle.pk_ast.specs.Lists.{append_items}
use Rattle.pk_ast.specs.Views.{expression_tree, item_trees}
use Rattle.pk_ast.proofs.ListLemmas.{append_items-none, append_items_assoc, item_trees-push}
use Rattle.pk_grammar.specs.declared.failure.ParseError.{ParseError}
use Rattle.pk_grammar.specs.declared.failure.ParseError.TheVariants.{Syntax, Nesting}
use Rattle.pk_grammar.specs.declared.states.Testing.{Testing}
use Rattle.pk_grammar.specs.declared.states.Testing.TheVariants as testing
use Rattle.pk_grammar.specs.declared.signs.Fixed.TheVariants as fixed
use Rattle.pk_grammar.specs.declared.signs.OperandStart.{OperandStart}
use Rattle.pk_grammar.specs.declared.signs.OperandStart.TheVariants as start
use Rattle.pk_grammar.specs.declared.signs.Operator.{Operator}
use Rattle.pk_grammar.specs.declared.signs.Operator.TheVariants as operator
use Rattle.pk_grammar.specs.declared.signs.StatementStart.{StatementStart}
use Rattle.pk_grammar.specs.declared.signs.StatementStart.TheVariants as first
use Rattle.pk_grammar.specs.Machine.Signs.{is_fixed, operand_start, operator_of, specifier_in, statement_start}
use Rattle.pk_grammar.specs.Machine.States.{Context, OpenBlock, function_block, inner_block, Outer, in_block, in_label, in_case, in_default, in_if, in_else, in_switch, in_while, in_do, in_for, Purpose, as_statement, as_label, as_test, as_last_test, as_whole, State, block_item, at_statement, after_statement, test_open, do_open, for_open, for_first, default_colon, statement_end, operand, complete}
use Rattle.pk_grammar.specs.Machine.Steps.{taken, refused, wanted, reduced, go_on, begin_operand, labelled, tested, one_more_statement, block_nesting, with_statement, begin_statement, declaration_or_statement, end_block, resume, step}
use Rattle.pk_grammar.specs.Machine.Running.{first_of_all, run, Fails}
use Rattle.pk_parse_expression.specs.Parsing.{Begins, follows, EndsAt, UpTo, Reads, Refuses}
use Rattle.pk_grammar.proofs.CompleteSigns.{strength_least}
use Rattle.pk_grammar.proofs.CompleteOperands.{same_false, same_true}
use Rattle.pk_grammar.proofs.SpellsSigns.{is_this}
use Rattle.pk_parse_expression.proofs.RunLemmas.{run_takes, run_deep, run_refused, run_alike, first_is, fails_as, fails_syntax, fails_nesting}
use Rattle.pk_parse.specs.Parts.{IsTest, with_items, BeginsNoDeclaration, IsNewBlock, after_function, after_block}
use Rattle.pk_parse.proofs.RunStatements.{run_wanted, deep_wanted, fails_wanted, step_ends}

no_other_test : (k : Testing) → k ≢ testing.If → k ≢ testing.Switch → k ≡ testing.While
no_other_test testing.If f g = absurd (f refl)
no_other_test testing.Switch f g = absurd (g refl)
no_other_test testing.While f g = refl

-- Where a statement ends that is part of another one

module _ (end : Token) (n : ℕ) (o : Outer) (s : StatementTree) (ts : List Token) (whole : StatementTree) where
  alike : (made : StatementTree) (q : State) → whole ≡ made → step q (first_of_all end ts) ≡ resume made o (first_of_all end ts) → run end q ts ≡ run end (after_statement whole o) ts
  alike made q w e = run_alike end q (after_statement whole o) ts (e ∙ ap (λ r. resume r o (first_of_all end ts)) (sym w))

  pub after_label : (id : Identifier) → whole ≡ label id s → run end (after_statement s (in_label n id o)) ts ≡ run end (after_statement whole o) ts
  unfolding resume
  after_label id w = alike (label id s) (after_statement s (in_label n id o)) w refl

  module _ (at : Pos) where
    pub after_case : (e : ExpressionTree) → whole ≡ case at e s → run end (after_statement s (in_case n at e o)) ts ≡ run end (after_statement whole o) ts
    unfolding resume
    after_case e w = alike (case at e s) (after_statement s (in_case n at e o)) w refl

    pub after_default : whole ≡ default at s → run end (after_statement s (in_default n at o)) ts ≡ run end (after_statement whole o) ts
    unfolding resume
    after_default w = alike (default at s) (after_statement s (in_default n at o)) w refl

    pub after_if : (e : ExpressionTree) → whole ≡ if_then at e s → is_fixed fixed.Else (first_of_all end ts).kind ≡ false → run end (after_statement s (in_if n at e o)) ts ≡ run end (after_statement whole o) ts
    unfolding resume
    after_if e w f = alike (if_then at e s) (after_statement s (in_if n at e o)) w (same_false (is_fixed fixed.Else (first_of_all end ts).kind) _ _ f)

    pub after_else : (e : ExpressionTree) (r : StatementTree) → whole ≡ if_else at e r s → run end (after_statement s (in_else n at e r o)) ts ≡ run end (after_statement whole o) ts
    unfolding resume
    after_else e r w = alike (if_else at e r s) (after_statement s (in_else n at e r o)) w refl

    after_switch : (e : ExpressionTree) → whole ≡ switch at e s → run end (after_statement s (in_switch n at e o)) ts ≡ run end (after_statement whole o) ts
    unfolding resume
    after_switch e w = alike (switch at e s) (after_statement s (in_switch n at e o)) w refl

    after_while : (e : ExpressionTree) → whole ≡ while at e s → run end (after_statement s (in_while n at e o)) ts ≡ run end (after_statement whole o) ts
    unfolding resume
    after_while e w = alike (while at e s) (after_statement s (in_while n at e o)) w refl

    module _ (k : Testing) (e : ExpressionTree) where
      pub after_test_switch : k ≡ testing.Switch → whole ≡ switch at e s → run end (after_statement s (tested k n at e o)) ts ≡ run end (after_statement whole o) ts
      after_test_switch f w = ap (λ q. run end (after_statement s (tested q n at e o)) ts) f ∙ after_switch e w

      pub after_test_while : k ≢ testing.If → k ≢ testing.Switch → whole ≡ while at e s → run end (after_statement s (tested k n at e o)) ts ≡ run end (after_statement whole o) ts
      after_test_while f g w = ap (λ q. run end (after_statement s (tested q n at e o)) ts) (no_other_test k f g) ∙ after_while e w

    pub after_for : (f : ForStartTree) (second third : Option ExpressionTree) → whole ≡ for_loop at f second third s →
        run end (after_statement s (in_for n at f second third o)) ts ≡ run end (after_statement whole o) ts
    unfolding resume
    after_for f second third w = alike (for_loop at f second third s) (after_statement s (in_for n at f second third o)) w refl

-- and where more of that other one follows
module _ (end : Token) (n : ℕ) (o : Outer) (s : StatementTree) (ts : List Token) (at : Pos) where
  step_while : step (after_statement s (in_do n at o)) (first_of_all end ts) ≡ wanted fixed.While (first_of_all end ts) (taken (n + 1) (do_open n at s o))
  unfolding resume
  step_while = refl

  pub run_while : (t : Token) (rest : List Token) → Begins fixed.While ts t rest → n + 1 ≤ 128 → run end (after_statement s (in_do n at o)) ts ≡ run end (do_open n at s o) rest
  run_while t rest b h = run_wanted end (after_statement s (in_do n at o)) ts fixed.While (n + 1) (λ t. do_open n at s o) t rest b step_while h

  pub no_while : (x : ParseError) → (is_fixed fixed.While (first_of_all end ts).kind ≡ false) × (x ≡ Syntax (first_of_all end ts).at) → Fails (run end (after_statement s (in_do n at o)) ts) x
  no_while x g = fails_wanted end (after_statement s (in_do n at o)) ts fixed.While (n + 1) (λ t. do_open n at s o) x step_while g

  step_else : (e : ExpressionTree) (t : Token) → is_fixed fixed.Else t.kind ≡ true → step (after_statement s (in_if n at e o)) t ≡ taken (n + 2) (at_statement (n + 2) (in_else n at e s o))
  unfolding resume
  step_else e t f = same_true (is_fixed fixed.Else t.kind) _ _ f

  module _ (e : ExpressionTree) (t : Token) (rest : List Token) (b : Begins fixed.Else ts t rest) (inside : ℕ) (i : inside ≡ n + 1) where
    pub run_else : (branch : ℕ) → (branch ≡ inside + 1) × (branch ≤ 128) → run end (after_statement s (in_if n at e o)) ts ≡ run end (at_statement branch (in_else n at e s o)) rest
    run_else branch h =
        let same : n + 2 ≡ branch = omega arith in
        run_takes end (after_statement s (in_if n at e o)) ts t rest (n + 2) _ b.cut (step_else e t b.is) (omega arith)
        ∙ ap (λ q. run end (at_statement q (in_else n at e s o)) rest) same

    pub deep_else : (x : ParseError) → (x ≡ Nesting t.at) × (128 < inside + 1) → Fails (run end (after_statement s (in_if n at e o)) ts) x
    deep_else x h = fails_nesting _ x t.at h.0 (run_deep end (after_statement s (in_if n at e o)) ts t rest (n + 2) _ b.cut (step_else e t b.is) (omega arith))

-- Tests

module _ (n : ℕ) (at : Pos) (o : Outer) (inside : ℕ) (i : inside ≡ n + 1) where
  test_of : (k : Testing) → IsTest (test_open k n at o) (as_test k n at o) inside (λ e. at_statement inside (tested k n at e o))
  test_of k =
      let same : n + 2 ≡ inside + 1 = omega arith in
      record {
        level = refl;
        opens = λ t. ap (λ q. wanted fixed.OpenParenthesis t (taken q (operand q (as_whole (as_test k n at o))))) same;
        closes = λ e t. ap (λ q. wanted fixed.CloseParenthesis t (taken q (at_statement q (tested k n at e o)))) (sym i);
      }

  last_test_of : (s : StatementTree) → IsTest (do_open n at s o) (as_last_test n at s o) inside (λ e. statement_end n (do_while at s e) o)
  last_test_of s =
      let same : n + 2 ≡ inside + 1 = omega arith in
      record {
        level = refl;
        opens = λ t. ap (λ q. wanted fixed.OpenParenthesis t (taken q (operand q (as_whole (as_last_test n at s o))))) same;
        closes = λ e t. ap (λ q. wanted fixed.CloseParenthesis t (taken q (statement_end n (do_while at s e) o))) (sym i);
      }

module _ (end : Token) (n : ℕ) (at : Pos) (o : Outer) (inside : ℕ) (i : inside ≡ n + 1) (k : Testing) (ts : List Token) where
  pub run_test : (e : ExpressionTree) (rest : List Token) → ((s : State) (p : Purpose) (next : ExpressionTree → State) → IsTest s p inside next → run end s ts ≡ run end (next e) rest) →
      run end (test_open k n at o) ts ≡ run end (at_statement inside (tested k n at e o)) rest
  run_test e rest r = r (test_open k n at o) (as_test k n at o) (λ e. at_statement inside (tested k n at e o)) (test_of n at o inside i k)

  pub no_test : (x : ParseError) → ((s : State) (p : Purpose) (next : ExpressionTree → State) → IsTest s p inside next → Fails (run end s ts) x) → Fails (run end (test_open k n at o) ts) x
  no_test x r = r (test_open k n at o) (as_test k n at o) (λ e. at_statement inside (tested k n at e o)) (test_of n at o inside i k)

module _ (end : Token) (n : ℕ) (at : Pos) (o : Outer) (inside : ℕ) (i : inside ≡ n + 1) (s : StatementTree) (ts : List Token) where
  pub run_last_test : (e : ExpressionTree) (rest : List Token) → ((s : State) (p : Purpose) (next : ExpressionTree → State) → IsTest s p inside next → run end s ts ≡ run end (next e) rest) →
      run end (do_open n at s o) ts ≡ run end (statement_end n (do_while at s e) o) rest
  run_last_test e rest r = r (do_open n at s o) (as_last_test n at s o) (λ e. statement_end n (do_while at s e) o) (last_test_of n at o inside i s)

  pub no_last_test : (x : ParseError) → ((s : State) (p : Purpose) (next : ExpressionTree → State) → IsTest s p inside next → Fails (run end s ts) x) → Fails (run end (do_open n at s o) ts) x
  no_last_test x r = r (do_open n at s o) (as_last_test n at s o) (λ e. statement_end n (do_while at s e) o) (last_test_of n at o inside i s)

-- Heads of statements

module _ (end : Token) (n : ℕ) (at : Pos) (o : Outer) (ts : List Token) (inside : ℕ) (i : inside ≡ n + 1) where
  step_default : step (default_colon n at o) (first_of_all end ts) ≡ wanted fixed.Colon (first_of_all end ts) (taken inside (at_statement inside (in_default n at o)))
  step_default = ap (λ q. wanted fixed.Colon (first_of_all end ts) (taken q (at_statement q (in_default n at o)))) (sym i)

  pub run_default : (t : Token) (rest : List Token) → Begins fixed.Colon ts t rest → inside ≤ 128 → run end (default_colon n at o) ts ≡ run end (at_statement inside (in_default n at o)) rest
  run_default t rest b h = run_wanted end (default_colon n at o) ts fixed.Colon inside (λ t. at_statement inside (in_default n at o)) t rest b step_default h

  pub no_default : (x : ParseError) → (is_fixed fixed.Colon (first_of_all end ts).kind ≡ false) × (x ≡ Syntax (first_of_all end ts).at) → Fails (run end (default_colon n at o) ts) x
  no_default x g = fails_wanted end (default_colon n at o) ts fixed.Colon inside (λ t. at_statement inside (in_default n at o)) x step_default g

  pub run_for_open : (t : Token) (rest : List Token) (head : ℕ) → Begins fixed.OpenParenthesis ts t rest → (head ≡ inside + 1) × (head ≤ 128) → run end (for_open n at o) ts ≡ run end (for_first n at o) rest
  run_for_open t rest head b h = run_wanted end (for_open n at o) ts fixed.OpenParenthesis (n + 2) (λ t. for_first n at o) t rest b refl (omega arith)

  pub no_for_open : (x : ParseError) → (is_fixed fixed.OpenParenthesis (first_of_all end ts).kind ≡ false) × (x ≡ Syntax (first_of_all end ts).at) → Fails (run end (for_open n at o) ts) x
  no_for_open x g = fails_wanted end (for_open n at o) ts fixed.OpenParenthesis (n + 2) (λ t. for_first n at o) x refl g

  pub deep_for_open : (t : Token) (rest : List Token) (x : ParseError) → Begins fixed.OpenParenthesis ts t rest → (x ≡ Nesting t.at) × (128 < inside + 1) → Fails (run end (for_open n at o) ts) x
  deep_for_open t rest x b h = deep_wanted end (for_open n at o) ts fixed.OpenParenthesis (n + 2) (λ t. for_first n at o) t rest x b refl (omega arith) h.0

-- A case's value, and its `:`

colon_is_other : (k : Kind) → is_fixed fixed.Colon k ≡ true → operator_of k ≡ operator.Other
colon_is_other k f = ap operator_of (is_this fixed.Colon k f)

both_refused : (b : Bool) → (if b then refused else refused) ≡ refused
both_refused true = refl
both_refused false = refl

module _ (m n : ℕ) (at : Pos) (o : Outer) (e : ExpressionTree) (t : Token) where
  case_refused : (f : Operator) → follows f ≤ 2 → is_fixed fixed.Colon t.kind ≡ false → go_on m e (as_whole (as_label n at o)) t f ≡ refused
  unfolding reduced
  case_refused (operator.Step p) h g = absurd (omega arith)
  case_refused (operator.Binary p) h g = absurd (omega (arith, strength_least p))
  case_refused operator.Question h g = absurd (omega arith)
  case_refused (operator.Assignment p) h g = both_refused _
  case_refused operator.Comma h g = refl
  case_refused operator.Other h g = same_false (is_fixed fixed.Colon t.kind) _ _ g

  case_taken : is_fixed fixed.Colon t.kind ≡ true → step (complete m e (as_whole (as_label n at o))) t ≡ taken (n + 1) (at_statement (n + 1) (in_case n at e o))
  unfolding reduced
  case_taken f = ap (λ q. go_on m e (as_whole (as_label n at o)) t q) (colon_is_other t.kind f) ∙ same_true (is_fixed fixed.Colon t.kind) _ _ f

module _ (end : Token) (n : ℕ) (at : Pos) (o : Outer) (inside : ℕ) (i : inside ≡ n + 1) (ts : List Token) (e : ExpressionTree) (rest : List Token) (r : Reads end (UpTo 2) (λ c. operand inside c) inside ts e rest) where
  pub run_case : (t : Token) (last : List Token) → Begins fixed.Colon rest t last → inside ≤ 128 →
      run end (operand inside (as_whole (as_label n at o))) ts ≡ run end (at_statement inside (in_case n at e o)) last
  run_case t last b h =
      r (as_whole (as_label n at o)) (omega arith)
      ∙ run_takes end (complete inside e (as_whole (as_label n at o))) rest t last (n + 1) _ b.cut (case_taken inside n at o e t b.is) (omega arith)
      ∙ ap (λ q. run end (at_statement q (in_case n at e o)) last) (sym i)

  pub no_case : (x : ParseError) → EndsAt end 2 rest → (is_fixed fixed.Colon (first_of_all end rest).kind ≡ false) × (x ≡ Syntax (first_of_all end rest).at) →
      Fails (run end (operand inside (as_whole (as_label n at o))) ts) x
  no_case x ends g =
      fails_syntax _ x _ g.1
      (r (as_whole (as_label n at o)) (omega arith) ∙ run_refused end (complete inside e (as_whole (as_label n at o))) rest (case_refused inside n at o e (first_of_all end rest) _ ends g.0))

-- A statement that an expression begins

operand_takes : (n : ℕ) (c : Context) (t : Token) (f : OperandStart) → f ≢ start.Other → (m : ℕ) × (s : State) × (n ≤ m) × (begin_operand n c t f ≡ taken m s)
operand_takes n c t start.Name h = (n, _, omega arith, refl)
operand_takes n c t (start.Constant ty v) h = (n, _, omega arith, refl)
operand_takes n c t (start.Character v) h = (n, _, omega arith, refl)
operand_takes n c t start.Parenthesis h = (n + 1, _, omega arith, refl)
operand_takes n c t (start.Step o) h = (n + 1, _, omega arith, refl)
operand_takes n c t (start.Unary o) h = (n + 1, _, omega arith, refl)
operand_takes n c t start.Other h = absurd (h refl)

no_name_labels : (n : ℕ) (e : Expression) (o : Outer) (t : Token) → ((id : Identifier) → e ≢ Name id) → labelled n (expression_tree e) o t ≡ refused
unfolding expression_tree
no_name_labels n (Name id) o t h = absurd (h id refl)
no_name_labels n _ o t h = refl

tree_of_name : (id : Identifier) → expression_tree (Name id) ≡ name id
unfolding expression_tree
tree_of_name id = refl

-- where no word of a statement comes first
module _ (end : Token) (n : ℕ) (o : Outer) (ts : List Token) (other : statement_start (first_of_all end ts).kind ≡ first.Other) where
  pub no_operand_begins : (x : ParseError) → operand_start (first_of_all end ts).kind ≡ start.Other → x ≡ Syntax (first_of_all end ts).at → Fails (run end (at_statement n o) ts) x
  no_operand_begins x none e =
      let t = first_of_all end ts in
      fails_syntax _ x t.at e
      (run_refused end (at_statement n o) ts (ap (λ f. begin_statement n o t f) other ∙ ap (λ f. begin_operand (n + 1) (as_whole (as_statement n o)) t f) none))

  run_operand : (inside : ℕ) → inside ≡ n + 1 → run end (at_statement n o) ts ≡ run end (operand inside (as_whole (as_statement n o))) ts
  run_operand inside i =
      let t = first_of_all end ts in
      run_alike end (at_statement n o) (operand inside (as_whole (as_statement n o))) ts
      (ap (λ f. begin_statement n o t f) other ∙ ap (λ q. step (operand q (as_whole (as_statement n o))) t) (sym i))

  pub deep_operand : operand_start (first_of_all end ts).kind ≢ start.Other → (x : ParseError) → (x ≡ Nesting (first_of_all end ts).at) × (128 < n + 1) → Fails (run end (at_statement n o) ts) x
  deep_operand some x g = fails_as _ _ x (run_operand (n + 1) refl) (by_tokens ts some x g)
    where
      by_tokens : (us : List Token) → operand_start (first_of_all end us).kind ≢ start.Other → (x : ParseError) → (x ≡ Nesting (first_of_all end us).at) × (128 < n + 1) →
          Fails (run end (operand (n + 1) (as_whole (as_statement n o))) us) x
      by_tokens [] some x g = absurd (some refl)
      by_tokens (t ∷ us) some x g =
          let p = operand_takes (n + 1) (as_whole (as_statement n o)) t (operand_start t.kind) some in
          fails_nesting _ x t.at g.0 (run_deep end (operand (n + 1) (as_whole (as_statement n o))) (t ∷ us) t us p.0 p.1 refl p.3 (let l = p.2 in omega arith))

  module _ (inside : ℕ) (i : (inside ≡ n + 1) × (inside ≤ 128)) where
    pub fails_expression : (x : ParseError) → Refuses end (UpTo 0) (λ c. operand inside c) ts x → Fails (run end (at_statement n o) ts) x
    fails_expression x r = fails_as _ _ x (run_operand inside i.0) (r (as_whole (as_statement n o)) (omega arith))

    -- and an expression is read
    module _ (e : Expression) (rest : List Token) (r : Reads end (UpTo 0) (λ c. operand inside c) inside ts (expression_tree e) rest) (ends : EndsAt end 0 rest) where
      reads_expression : run end (at_statement n o) ts ≡ run end (complete inside (expression_tree e) (as_whole (as_statement n o))) rest
      reads_expression = run_operand inside i.0 ∙ r (as_whole (as_statement n o)) (omega arith)

      pub run_expression : (t : Token) (last : List Token) (whole : StatementTree) → Begins fixed.Semicolon rest t last → whole ≡ expression_statement (expression_tree e) →
          run end (at_statement n o) ts ≡ run end (after_statement whole o) last
      run_expression t last whole b w =
          let P : Token → Type 0 = λ q. follows (operator_of q.kind) ≤ 0 in
          reads_expression
          ∙ run_takes end (complete inside (expression_tree e) (as_whole (as_statement n o))) rest t last n _ b.cut
          (step_ends inside (expression_tree e) (as_statement n o) t (subst P (first_is end rest t last b.cut) ends) ∙ same_true (is_fixed fixed.Semicolon t.kind) _ _ b.is) (omega arith)
          ∙ ap (λ q. run end (after_statement q o) last) (sym w)

      module _ (no_semicolon : is_fixed fixed.Semicolon (first_of_all end rest).kind ≡ false) where
        step_label : (d : ExpressionTree) → step (complete inside d (as_whole (as_statement n o))) (first_of_all end rest) ≡ labelled n d o (first_of_all end rest)
        step_label d = step_ends inside d (as_statement n o) _ ends ∙ same_false (is_fixed fixed.Semicolon (first_of_all end rest).kind) _ _ no_semicolon

        pub no_label_name : (x : ParseError) → ((id : Identifier) → e ≢ Name id) → x ≡ Syntax (first_of_all end rest).at → Fails (run end (at_statement n o) ts) x
        no_label_name x h f = fails_syntax _ x _ f (reads_expression ∙ run_refused end _ rest (step_label (expression_tree e) ∙ no_name_labels n e o _ h))

        -- of a name alone
        module _ (id : Identifier) (is : e ≡ Name id) where
          reads_name : run end (at_statement n o) ts ≡ run end (complete inside (name id) (as_whole (as_statement n o))) rest
          reads_name = reads_expression ∙ ap (λ d. run end (complete inside d (as_whole (as_statement n o))) rest) (ap expression_tree is ∙ tree_of_name id)

          step_colon : step (complete inside (name id) (as_whole (as_statement n o))) (first_of_all end rest) ≡ wanted fixed.Colon (first_of_all end rest) (taken inside (at_statement inside (in_label n id o)))
          step_colon = step_label (name id) ∙ ap (λ q. wanted fixed.Colon (first_of_all end rest) (taken q (at_statement q (in_label n id o)))) (sym i.0)

          pub run_label : (t : Token) (last : List Token) → Begins fixed.Colon rest t last → run end (at_statement n o) ts ≡ run end (at_statement inside (in_label n id o)) last
          run_label t last b = reads_name ∙ run_wanted end (complete inside (name id) (as_whole (as_statement n o))) rest fixed.Colon inside (λ t. at_statement inside (in_label n id o)) t last b step_colon i.1

          pub no_label_colon : (x : ParseError) → (is_fixed fixed.Colon (first_of_all end rest).kind ≡ false) × (x ≡ Syntax (first_of_all end rest).at) → Fails (run end (at_statement n o) ts) x
          no_label_colon x g = fails_as _ _ x reads_name (fails_wanted end (complete inside (name id) (as_whole (as_statement n o))) rest fixed.Colon inside (λ t. at_statement inside (in_label n id o)) x step_colon g)

-- The first word of a statement

start_takes : (n : ℕ) (o : Outer) (t : Token) (f : StatementStart) → f ≢ first.Other → (s : State) × (begin_statement n o t f ≡ taken (n + 1) s)
start_takes n o t first.Block h = (_, refl)
start_takes n o t first.Empty h = (_, refl)
start_takes n o t first.Case h = (_, refl)
start_takes n o t first.Default h = (_, refl)
start_takes n o t (first.Test k) h = (_, refl)
start_takes n o t first.Do h = (_, refl)
start_takes n o t first.For h = (_, refl)
start_takes n o t first.Goto h = (_, refl)
start_takes n o t first.Continue h = (_, refl)
start_takes n o t first.Break h = (_, refl)
start_takes n o t first.Return h = (_, refl)
start_takes n o t first.Other h = absurd (h refl)

module _ (end : Token) (n : ℕ) (ts : List Token) (t : Token) (rest : List Token) (cut : ts ≡ t ∷ rest) where
  module _ (f : StatementStart) (is : statement_start (first_of_all end ts).kind ≡ f) (o : Outer) where
    step_start : step (at_statement n o) t ≡ begin_statement n o t f
    step_start = ap (λ q. begin_statement n o t q) (ap (λ q. statement_start q.kind) (sym (first_is end ts t rest cut)) ∙ is)

    pub run_start : (s : ℕ → State) (inside : ℕ) → begin_statement n o t f ≡ taken (n + 1) (s (n + 1)) → (inside ≡ n + 1) × (inside ≤ 128) → run end (at_statement n o) ts ≡ run end (s inside) rest
    run_start s inside e h = run_takes end (at_statement n o) ts t rest (n + 1) (s (n + 1)) cut (step_start ∙ e) (omega arith) ∙ ap (λ q. run end (s q) rest) (sym h.0)

    pub deep_start : f ≢ first.Other → (x : ParseError) → (x ≡ Nesting t.at) × (128 < n + 1) → Fails (run end (at_statement n o) ts) x
    deep_start other x g = let p = start_takes n o t f other in fails_nesting _ x t.at g.0 (run_deep end (at_statement n o) ts t rest (n + 1) p.0 cut (step_start ∙ p.1) g.1)

  -- what a function answers that reads the statement from its first word on
  pub goes_on : {X : Type 0} (r : Result X ParseError) (tree_of : X → StatementTree) (left : X → List Token) (s : ℕ → Outer → State) (P : ℕ → Type 0) → P n → ((o : Outer) → run end (at_statement n o) ts ≡ run end (s n o) rest) →
      MatchResult r (λ x. ((m : ℕ) (o : Outer) → P m → run end (s m o) rest ≡ run end (after_statement (tree_of x) o) (left x)) × (length (left x) ≤ length rest)) (λ e. (m : ℕ) (o : Outer) → P m → Fails (run end (s m o) rest) e) →
      MatchResult r (λ x. ((o : Outer) → run end (at_statement n o) ts ≡ run end (after_statement (tree_of x) o) (left x)) × (length (left x) < length ts)) (λ e. (o : Outer) → Fails (run end (at_statement n o) ts) e)
  goes_on r tree_of left s P p begins m =
      MatchResult-weaker r m (λ x k. (λ o. begins o ∙ k.0 n o p, let g = k.1 in omega (arith, ap length cut))) (λ e k o. fails_as _ _ e (begins o) (k n o p))

-- Blocks

one_more_statement_is : (list : ItemTrees) (s : StatementTree) → one_more_statement list s ≡ append_items list (statement_then s no_items)
one_more_statement_is no_items s = refl
one_more_statement_is (declaration_then p d list) s = ap (declaration_then p d) (one_more_statement_is list s)
one_more_statement_is (statement_then r list) s = ap (statement_then r) (one_more_statement_is list s)

pub nesting_with_items : (b : OpenBlock) (list : ItemTrees) → block_nesting (with_items b list) ≡ block_nesting b
nesting_with_items (function_block h ps at items) list = refl
nesting_with_items (inner_block n at items o) list = refl

pub no_items_more : (b : OpenBlock) → with_items b no_items ≡ b
no_items_more (function_block h ps at items) = ap (λ q. function_block h ps at q) (append_items-none items)
no_items_more (inner_block n at items o) = ap (λ q. inner_block n at q o) (append_items-none items)

with_one_statement : (b : OpenBlock) (list : ItemTrees) (s : StatementTree) → with_statement (with_items b list) s ≡ with_items b (append_items list (statement_then s no_items))
with_one_statement (function_block h ps at items) list s = ap (λ q. function_block h ps at q) (one_more_statement_is (append_items items list) s ∙ append_items_assoc items list (statement_then s no_items))
with_one_statement (inner_block n at items o) list s = ap (λ q. inner_block n at q o) (one_more_statement_is (append_items items list) s ∙ append_items_assoc items list (statement_then s no_items))

with_more_items : (b : OpenBlock) (list more : ItemTrees) → with_items (with_items b list) more ≡ with_items b (append_items list more)
with_more_items (function_block h ps at items) list more = ap (λ q. function_block h ps at q) (append_items_assoc items list more)
with_more_items (inner_block n at items o) list more = ap (λ q. inner_block n at q o) (append_items_assoc items list more)

after_item : (end : Token) (s : StatementTree) (b : OpenBlock) (ts : List Token) → run end (after_statement s (in_block b)) ts ≡ run end (block_item (with_statement b s)) ts
unfolding resume
after_item end s b ts = run_alike end (after_statement s (in_block b)) (block_item (with_statement b s)) ts refl

-- one more item of a block, to which these were read
module _ (end : Token) (b : OpenBlock) (items : List BlockItem) (ts : List Token) where
  module _ (inside : ℕ) (n : block_nesting b ≡ inside) where
    pub run_item_statement : BeginsNoDeclaration end ts → is_fixed fixed.CloseBrace (first_of_all end ts).kind ≡ false →
        run end (block_item (with_items b (item_trees items))) ts ≡ run end (at_statement inside (in_block (with_items b (item_trees items)))) ts
    run_item_statement w f =
        let t = first_of_all end ts in
        let c = with_items b (item_trees items) in
        run_alike end (block_item c) (at_statement inside (in_block c)) ts
        (ap (λ q. declaration_or_statement c t q) w.0 ∙ same_false (is_fixed fixed.CloseBrace t.kind) _ _ f ∙ same_false (is_fixed fixed.Static t.kind) _ _ w.1
        ∙ ap (λ q. step (at_statement q (in_block c)) t) (nesting_with_items b (item_trees items) ∙ n))

  module _ (item : BlockItem) (more : List BlockItem) (grown : more ≡ items ++ item ∷ []) where
    pub after_item_statement : (s : StatementTree) → item_trees (item ∷ []) ≡ statement_then s no_items →
        run end (after_statement s (in_block (with_items b (item_trees items)))) ts ≡ run end (block_item (with_items b (item_trees more))) ts
    after_item_statement s e =
        after_item end s (with_items b (item_trees items)) ts
        ∙ ap (λ q. run end (block_item q) ts)
        (with_one_statement b (item_trees items) s ∙ ap (λ q. with_items b q) (ap (λ q. append_items (item_trees items) q) (sym e) ∙ sym (item_trees-push items item) ∙ ap item_trees (sym grown)))

    pub after_item_declaration : run end (block_item (with_items (with_items b (item_trees items)) (item_trees (item ∷ [])))) ts ≡ run end (block_item (with_items b (item_trees more))) ts
    after_item_declaration =
        ap (λ q. run end (block_item q) ts) (with_more_items b (item_trees items) (item_trees (item ∷ [])) ∙ ap (λ q. with_items b q) (sym (item_trees-push items item) ∙ ap item_trees (sym grown)))

pub new_block_nesting : (b : OpenBlock) (place : Pos) (n : ℕ) → IsNewBlock b place n → block_nesting b ≡ n
new_block_nesting (function_block h ps at items) place n is = is.2
new_block_nesting (inner_block m at items o) place n is = is.2

step_close : (b : OpenBlock) (t : Token) → is_fixed fixed.CloseBrace t.kind ≡ true → step (block_item b) t ≡ end_block b t
step_close b t f = ap (λ k. declaration_or_statement b t (specifier_in k t.start t.end)) (is_this fixed.CloseBrace t.kind f) ∙ same_true (is_fixed fixed.CloseBrace t.kind) _ _ f

pub run_block_end : (end : Token) (b : OpenBlock) (place : Pos) (n : ℕ) (list : ItemTrees) (ts : List Token) (t : Token) (rest : List Token) → IsNewBlock b place n → n ≤ 128 → Begins fixed.CloseBrace ts t rest →
    run end (block_item (with_items b list)) ts ≡ run end (after_block b (record { opened = place; items = list; closed = t.at })) rest
run_block_end end (function_block h ps at items) place n list ts t rest is l b =
    run_takes end (block_item (function_block h ps at (append_items items list))) ts t rest 0 _ b.cut (step_close (function_block h ps at (append_items items list)) t b.is) (omega arith)
    ∙ ap (λ q. run end (after_function h ps (Some (record { opened = q; items = append_items items list; closed = t.at }))) rest) is.0
    ∙ ap (λ q. run end (after_function h ps (Some (record { opened = place; items = append_items q list; closed = t.at }))) rest) is.1
run_block_end end (inner_block m at items o) place n list ts t rest is l b =
    run_takes end (block_item (inner_block m at (append_items items list) o)) ts t rest m _ b.cut (step_close (inner_block m at (append_items items list) o) t b.is) (let e = is.2 in omega arith)
    ∙ ap (λ q. run end (after_statement (block q (append_items items list) t.at) o) rest) is.0
    ∙ ap (λ q. run end (after_statement (block place (append_items q list) t.at) o) rest) is.1
