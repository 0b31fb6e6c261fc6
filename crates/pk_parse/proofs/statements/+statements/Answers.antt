use Rattle.std.proofs.Common.{◌≡◌, ◌≢◌, ◌+◌, ◌≤◌, length, option_map, inl, inr, refl, ap, sym, ◌∙◌, arith, rules}
use Rattle.pk_ast.specs.Trees.{case, if_then, if_else, switch, while, no_items, do_while, continue, break, empty}
use Rattle.pk_ast.specs.Views.{expression_tree, for_start_tree, statement_tree, item_trees}
use Rattle.pk_grammar.specs.declared.failure.ParseError.TheVariants.{Syntax, Nesting}
use Rattle.pk_grammar.specs.declared.states.Testing.TheVariants as testing
use Rattle.pk_grammar.specs.declared.signs.Fixed.TheVariants as fixed
use Rattle.pk_grammar.specs.declared.signs.OperandStart.TheVariants as start
use Rattle.pk_grammar.specs.declared.signs.StatementStart.TheVariants as first
use Rattle.pk_grammar.specs.Machine.Signs.{is_fixed, operand_start, statement_start}
use Rattle.pk_grammar.specs.Machine.States.{inner_block, in_block, in_label, in_case, in_default, in_if, in_else, in_do, in_for, as_label, as_whole, block_item, at_statement, after_statement, test_open, for_open, default_colon, goto_name, returning, statement_end, operand}
use Rattle.pk_grammar.specs.Machine.Steps.{tested}
use Rattle.pk_grammar.specs.Machine.Running.{run}
use Rattle.pk_parse_expression.proofs.RunLemmas.{passed, fails_as}
use Rattle.pk_parse.specs.Parts.{with_items, after_block}
use Rattle.pk_parse_expression.proofs.KeptLemmas.{made, not_made}
use Rattle.pk_parse.proofs.RunStatements.{run_statement_end, no_statement_end}
use Rattle.pk_parse.proofs.ItemLemmas.{found, not_found}
use Rattle.pk_parse.proofs.StatementLemmas.{after_label, after_case, after_default, after_if, after_else, after_test_switch, after_test_while, after_for, run_else, deep_else, run_test, no_test, run_default, no_default, run_case, no_case, no_operand_begins, deep_operand, fails_expression, run_expression, no_label_name, run_label, no_label_colon, run_start, deep_start, goes_on, nesting_with_items, no_items_more, run_item_statement, after_item_statement, after_item_declaration, new_block_nesting, run_block_end}
use Rattle.pk_parse.proofs.statements.+statements.Goals as goal
use Rattle.pk_parse.proofs.statements.+statements.Goals.{tested-in-Switch+in_ok-whole-in-Switch, tested-in_default+in_ok-whole-in_default}

pub labelled-returns-then-eq : goal.labelled-returns-then-eq
labelled-returns-then-eq t c =
    let e : c.operand_start.result ≡ start.Other = search rules in
    λ o. no_operand_begins c.args.parser.end c.args.outside o c.args.tokens.now c.requires.other (Syntax c.place-at.result) (ap operand_start (sym c.kind.ensures) ∙ sym c.operand_start.ensures ∙ e) (ap Syntax c.place-at.ensures)

pub labelled-returns-in_err-inside : goal.labelled-returns-in_err-inside
labelled-returns-in_err-inside t c =
    let e : c.operand_start.result ≢ start.Other = search rules in
    let g = c.in_err-inside.ensures in
    passed _ _ c.from_residual.result _ c.from_residual.ensures.1
    (λ o. deep_operand c.args.parser.end c.args.outside o c.args.tokens.now c.requires.other (λ f. e (c.operand_start.ensures ∙ ap operand_start c.kind.ensures ∙ f)) _ (g.0 ∙ ap Nesting c.place-at.ensures, g.1))

pub labelled-returns-in_err-whole : goal.labelled-returns-in_err-whole
labelled-returns-in_err-whole t c =
    passed _ _ c.from_residual-in_err-whole.result _ c.from_residual-in_err-whole.ensures.1
    (λ o. fails_expression c.args.parser.end c.args.outside o c.args.tokens.now c.requires.other c.in_ok-inside.inside c.in_ok-inside.ensures _ c.in_err-whole.ensures)

pub labelled-returns-in-Some : goal.labelled-returns-in-Some
labelled-returns-in-Some t c =
    let w = c.in_ok-whole.ensures in (
      λ o. run_expression c.args.parser.end c.args.outside o c.args.tokens.now c.requires.other c.in_ok-inside.inside c.in_ok-inside.ensures c.in_ok-whole.whole c.in_ok-whole.rest.now w.0 w.1 _ _ _ c.in-Some.ensures c.expression-in-Some.ensures,
      let h = w.2 in omega (arith, ap length c.in-Some.ensures.cut),
    )

pub labelled-returns-in_default-name : goal.labelled-returns-in_default-name
labelled-returns-in_default-name t c =
    let w = c.in_ok-whole.ensures in
    λ o. no_label_name c.args.parser.end c.args.outside o c.args.tokens.now c.requires.other c.in_ok-inside.inside c.in_ok-inside.ensures c.in_ok-whole.whole c.in_ok-whole.rest.now w.0 w.1 c.in_default.ensures (Syntax c.place.result) c.in_default-name.ensures (ap Syntax c.place.ensures)

pub labelled-returns-in_err-after : goal.labelled-returns-in_err-after
labelled-returns-in_err-after t c =
    let w = c.in_ok-whole.ensures in
    passed _ _ c.from_residual-in_err-after.result _ c.from_residual-in_err-after.ensures.1
    (λ o. no_label_colon c.args.parser.end c.args.outside o c.args.tokens.now c.requires.other c.in_ok-inside.inside c.in_ok-inside.ensures c.in_ok-whole.whole c.in_ok-whole.rest.now w.0 w.1 c.in_default.ensures c.in-Some-name.label c.in-Some-name.ensures _ c.in_err-after.ensures)

pub labelled-returns-in_err-body : goal.labelled-returns-in_err-body
labelled-returns-in_err-body t c =
    let w = c.in_ok-whole.ensures in
    passed _ _ c.from_residual-in_err-body.result _ c.from_residual-in_err-body.ensures.1
    (λ o. fails_as _ _ _
    (run_label c.args.parser.end c.args.outside o c.args.tokens.now c.requires.other c.in_ok-inside.inside c.in_ok-inside.ensures c.in_ok-whole.whole c.in_ok-whole.rest.now w.0 w.1 c.in_default.ensures c.in-Some-name.label c.in-Some-name.ensures _ _ c.in_ok-after.ensures)
    (c.in_err-body.ensures (in_label c.args.outside c.in-Some-name.label o)))

pub labelled-returns : goal.labelled-returns
labelled-returns t c =
    let w = c.in_ok-whole.ensures in (
      λ o.
          run_label c.args.parser.end c.args.outside o c.args.tokens.now c.requires.other c.in_ok-inside.inside c.in_ok-inside.ensures c.in_ok-whole.whole c.in_ok-whole.rest.now w.0 w.1 c.in_default.ensures c.in-Some-name.label c.in-Some-name.ensures _ _ c.in_ok-after.ensures
          ∙ c.in_ok-body.ensures.0 (in_label c.args.outside c.in-Some-name.label o)
          ∙ after_label c.args.parser.end c.args.outside o (statement_tree c.in_ok-body.body) c.in_ok-body.last.now _ c.in-Some-name.label c.in_ok-whole-2.ensures,
      let h = w.2 in let g = c.in_ok-body.ensures.1 in omega (arith, ap length c.in_ok-after.ensures.cut),
    )

pub case-returns-in_err-after : goal.case-returns-in_err-after
case-returns-in_err-after t c =
    let v = c.in_ok-value.ensures in
    passed _ _ c.from_residual-in_err-after.result _ c.from_residual-in_err-after.ensures.1
    (λ n o i. no_case c.args.parser.end n c.args.at o c.args.inside i c.args.tokens.now (expression_tree c.in_ok-value.value) c.in_ok-value.rest.now v.0 _ v.1 (not_made _ _ _ _ c.expect.ensures c.in_err-after.ensures))

pub case-returns-in_err-body : goal.case-returns-in_err-body
case-returns-in_err-body t c =
    let v = c.in_ok-value.ensures in
    passed _ _ c.from_residual-in_err-body.result _ c.from_residual-in_err-body.ensures.1
    (λ n o i. fails_as _ _ _
    (run_case c.args.parser.end n c.args.at o c.args.inside i c.args.tokens.now (expression_tree c.in_ok-value.value) c.in_ok-value.rest.now v.0 _ _ (made _ _ _ _ c.expect.ensures c.in_ok-after.ensures.0) c.requires)
    (not_made _ _ _ _ c.statement.ensures c.in_err-body.ensures (in_case n c.args.at (expression_tree c.in_ok-value.value) o)))

pub case-returns : goal.case-returns
case-returns t c =
    let v = c.in_ok-value.ensures in
    let colon = made _ _ _ _ c.expect.ensures c.in_ok-after.ensures.0 in
    let b = made _ _ _ _ c.statement.ensures c.in_ok-body.ensures.0 in (
      λ n o i.
          run_case c.args.parser.end n c.args.at o c.args.inside i c.args.tokens.now (expression_tree c.in_ok-value.value) c.in_ok-value.rest.now v.0 _ _ colon c.requires
          ∙ b.0 (in_case n c.args.at (expression_tree c.in_ok-value.value) o)
          ∙ after_case c.args.parser.end n o (statement_tree c.in_ok-body.body) c.in_ok-body.last.now _ c.args.at (expression_tree c.in_ok-value.value) (c.in_ok-whole.ensures ∙ ap (λ e. case c.args.at (expression_tree e) (statement_tree c.in_ok-body.body)) (c.in_ok-body.ensures.1 ∙ c.in_ok-after.ensures.1)),
      let h = v.3 in let g = b.1 in omega (arith, ap length colon.cut),
    )

pub default-returns-in_err-after : goal.default-returns-in_err-after
default-returns-in_err-after t c =
    passed _ _ c.from_residual.result _ c.from_residual.ensures.1
    (λ n o i. no_default c.args.parser.end n c.args.at o c.args.tokens.now c.args.inside i _ c.in_err-after.ensures)

pub default-returns-in_err-body : goal.default-returns-in_err-body
default-returns-in_err-body t c =
    passed _ _ c.from_residual-in_err-body.result _ c.from_residual-in_err-body.ensures.1
    (λ n o i. fails_as _ _ _ (run_default c.args.parser.end n c.args.at o c.args.tokens.now c.args.inside i _ _ c.in_ok-after.ensures c.requires) (c.in_err-body.ensures (in_default n c.args.at o)))

pub default-returns : goal.default-returns
default-returns t c = (
  λ n o i.
      run_default c.args.parser.end n c.args.at o c.args.tokens.now c.args.inside i _ _ c.in_ok-after.ensures c.requires
      ∙ c.in_ok-body.ensures.0 (in_default n c.args.at o)
      ∙ after_default c.args.parser.end n o (statement_tree c.in_ok-body.body) c.in_ok-body.last.now _ c.args.at c.in_ok-whole.ensures,
  let g = c.in_ok-body.ensures.1 in omega (arith, ap length c.in_ok-after.ensures.cut),
)

pub choice-returns-in_err-test : goal.choice-returns-in_err-test
choice-returns-in_err-test t c =
    passed _ _ c.from_residual.result _ c.from_residual.ensures.1
    (λ n o i. no_test c.args.parser.end n c.args.at o c.args.inside i testing.If c.args.tokens.now _ c.in_err-test.ensures)

pub choice-returns-in_err-yes : goal.choice-returns-in_err-yes
choice-returns-in_err-yes t c =
    passed _ _ c.from_residual-in_err-yes.result _ c.from_residual-in_err-yes.ensures.1
    (λ n o i. fails_as _ _ _
    (run_test c.args.parser.end n c.args.at o c.args.inside i testing.If c.args.tokens.now (expression_tree c.in_ok-test.test) _ c.in_ok-test.ensures.0)
    (not_made _ _ _ _ c.statement.ensures c.in_err-yes.ensures (in_if n c.args.at (expression_tree c.in_ok-test.test) o)))

pub choice-returns-in_default : goal.choice-returns-in_default
choice-returns-in_default t c =
    let y = made _ _ _ _ c.statement.ensures c.in_ok-yes.ensures.0 in (
      λ n o i.
          run_test c.args.parser.end n c.args.at o c.args.inside i testing.If c.args.tokens.now (expression_tree c.in_ok-test.test) _ c.in_ok-test.ensures.0
          ∙ y.0 (in_if n c.args.at (expression_tree c.in_ok-test.test) o)
          ∙ after_if c.args.parser.end n o (statement_tree c.in_ok-yes.yes) c.in_ok-yes.rest.now _ c.args.at (expression_tree c.in_ok-test.test)
          (c.in_ok-whole.ensures ∙ ap (λ e. if_then c.args.at (expression_tree e) (statement_tree c.in_ok-yes.yes)) c.in_ok-yes.ensures.1) c.in_default.ensures,
      let g = c.in_ok-test.ensures.1 in let h = y.1 in omega arith,
    )

pub choice-returns-in_err-branch : goal.choice-returns-in_err-branch
choice-returns-in_err-branch t c =
    passed _ _ c.from_residual-in_err-branch.result _ c.from_residual-in_err-branch.ensures.1
    (λ n o i. fails_as _ _ _
    (run_test c.args.parser.end n c.args.at o c.args.inside i testing.If c.args.tokens.now (expression_tree c.in_ok-test.test) _ c.in_ok-test.ensures.0
    ∙ (made _ _ _ _ c.statement.ensures c.in_ok-yes.ensures.0).0 (in_if n c.args.at (expression_tree c.in_ok-test.test) o))
    (deep_else c.args.parser.end n o (statement_tree c.in_ok-yes.yes) c.in_ok-yes.rest.now c.args.at (expression_tree c.in_ok-test.test) _ _ c.in-Some.ensures c.args.inside i _ (not_made _ _ _ _ c.nested.ensures c.in_err-branch.ensures)))

pub choice-returns-in_err-no : goal.choice-returns-in_err-no
choice-returns-in_err-no t c =
    passed _ _ c.from_residual-in_err-no.result _ c.from_residual-in_err-no.ensures.1
    (λ n o i. fails_as _ _ _
    (run_test c.args.parser.end n c.args.at o c.args.inside i testing.If c.args.tokens.now (expression_tree c.in_ok-test.test) _ c.in_ok-test.ensures.0
    ∙ (made _ _ _ _ c.statement.ensures c.in_ok-yes.ensures.0).0 (in_if n c.args.at (expression_tree c.in_ok-test.test) o)
    ∙ run_else c.args.parser.end n o (statement_tree c.in_ok-yes.yes) c.in_ok-yes.rest.now c.args.at (expression_tree c.in_ok-test.test) _ _ c.in-Some.ensures c.args.inside i c.in_ok-branch.branch (made _ _ _ _ c.nested.ensures c.in_ok-branch.ensures.0))
    (not_made _ _ _ _ c.statement-2.ensures c.in_err-no.ensures (in_else n c.args.at (expression_tree c.in_ok-test.test) (statement_tree c.in_ok-yes.yes) o)))

pub choice-returns : goal.choice-returns
choice-returns t c =
    let y = made _ _ _ _ c.statement.ensures c.in_ok-yes.ensures.0 in
    let f = made _ _ _ _ c.statement-2.ensures c.in_ok-no.ensures.0 in
    let boxed = made _ _ _ _ c.new.ensures.ok c.in_ok-yes-2.ensures.0 in
    let held = c.in_ok-no.ensures.1 ∙ c.in_ok-branch.ensures.1 in (
      λ n o i.
          run_test c.args.parser.end n c.args.at o c.args.inside i testing.If c.args.tokens.now (expression_tree c.in_ok-test.test) _ c.in_ok-test.ensures.0
          ∙ y.0 (in_if n c.args.at (expression_tree c.in_ok-test.test) o)
          ∙ run_else c.args.parser.end n o (statement_tree c.in_ok-yes.yes) c.in_ok-yes.rest.now c.args.at (expression_tree c.in_ok-test.test) _ _ c.in-Some.ensures c.args.inside i c.in_ok-branch.branch (made _ _ _ _ c.nested.ensures c.in_ok-branch.ensures.0)
          ∙ f.0 (in_else n c.args.at (expression_tree c.in_ok-test.test) (statement_tree c.in_ok-yes.yes) o)
          ∙ after_else c.args.parser.end n o (statement_tree c.in_ok-no.no) c.in_ok-no.last.now _ c.args.at (expression_tree c.in_ok-test.test) (statement_tree c.in_ok-yes.yes)
          (c.in_ok-whole-2.ensures
          ∙ ap (λ q. if_else c.args.at (expression_tree q.0) (statement_tree q.1.value) (statement_tree c.in_ok-no.no)) held
          ∙ ap (λ e. if_else c.args.at (expression_tree e) (statement_tree c.in_ok-yes-2.yes.value) (statement_tree c.in_ok-no.no)) (c.in_ok-yes-2.ensures.1 ∙ c.in_ok-yes.ensures.1)
          ∙ ap (λ y. if_else c.args.at (expression_tree c.in_ok-test.test) (statement_tree y) (statement_tree c.in_ok-no.no)) boxed),
      let g = c.in_ok-test.ensures.1 in let h = y.1 in let k = f.1 in omega (arith, ap length c.in-Some.ensures.cut),
    )

pub tested-returns-in_err-test : goal.tested-returns-in_err-test
tested-returns-in_err-test t c =
    let k = c.args.testing in
    passed _ _ c.from_residual.result _ c.from_residual.ensures.1
    (λ n o i. no_test c.args.parser.end n c.args.at o c.args.inside i k c.args.tokens.now _ c.in_err-test.ensures)

pub tested-returns-in_err-body : goal.tested-returns-in_err-body
tested-returns-in_err-body t c =
    let k = c.args.testing in
    passed _ _ c.from_residual-in_err-body.result _ c.from_residual-in_err-body.ensures.1
    (λ n o i. fails_as _ _ _
    (run_test c.args.parser.end n c.args.at o c.args.inside i k c.args.tokens.now (expression_tree c.in_ok-test.test) _ c.in_ok-test.ensures.0)
    (not_made _ _ _ _ c.statement.ensures c.in_err-body.ensures (tested k n c.args.at (expression_tree c.in_ok-test.test) o)))

pub tested-returns : goal.tested-returns
tested-returns t c =
    let k = c.args.testing in
    let b = made _ _ _ _ c.statement.ensures c.in_ok-body.ensures.0 in (
      λ n o i.
          run_test c.args.parser.end n c.args.at o c.args.inside i k c.args.tokens.now (expression_tree c.in_ok-test.test) _ c.in_ok-test.ensures.0
          ∙ b.0 (tested k n c.args.at (expression_tree c.in_ok-test.test) o)
          ∙ elim c.match-testing.branch [
            | tested-in-Switch+in_ok-whole-in-Switch w ↦
                after_test_switch c.args.parser.end n o (statement_tree c.in_ok-body.body) c.in_ok-body.last.now _ c.args.at k (expression_tree c.in_ok-test.test) w.in-Switch.is (ap statement_tree w.whole-is ∙ w.in_ok-whole-in-Switch.ensures ∙ ap (λ e. switch c.args.at (expression_tree e) (statement_tree c.in_ok-body.body)) c.in_ok-body.ensures.1)
            | tested-in_default+in_ok-whole-in_default w ↦
                after_test_while c.args.parser.end n o (statement_tree c.in_ok-body.body) c.in_ok-body.last.now _ c.args.at k (expression_tree c.in_ok-test.test) c.requires.no_if w.in_default.not-Switch (ap statement_tree w.whole-is ∙ w.in_ok-whole-in_default.ensures ∙ ap (λ e. while c.args.at (expression_tree e) (statement_tree c.in_ok-body.body)) c.in_ok-body.ensures.1)
          ],
      let g = c.in_ok-test.ensures.1 in let h = b.1 in omega arith,
    )

pub repeated-returns-in_err-body : goal.repeated-returns-in_err-body
repeated-returns-in_err-body t c =
    passed _ _ c.from_residual.result _ c.from_residual.ensures.1 (λ n o i. c.in_err-body.ensures (in_do n c.args.at o))

pub repeated-returns-in_err-test : goal.repeated-returns-in_err-test
repeated-returns-in_err-test t c =
    passed _ _ c.from_residual-in_err-test.result _ c.from_residual-in_err-test.ensures.1
    (λ n o i. fails_as _ _ _ (c.in_ok-body.ensures.0 (in_do n c.args.at o)) (not_made _ _ _ _ c.until.ensures c.in_err-test.ensures n c.args.at (statement_tree c.in_ok-body.body) o i))

pub repeated-returns : goal.repeated-returns
repeated-returns t c =
    let ended = made _ _ _ _ c.until.ensures c.in_ok-test.ensures.0 in (
      λ n o i.
          c.in_ok-body.ensures.0 (in_do n c.args.at o)
          ∙ ended.0 n c.args.at (statement_tree c.in_ok-body.body) o i
          ∙ ap (λ q. run c.args.parser.end (after_statement q o) c.in_ok-test.last.now) (ap (λ b. do_while c.args.at (statement_tree b) (expression_tree c.in_ok-test.test)) (sym c.in_ok-test.ensures.1) ∙ sym c.in_ok-whole.ensures),
      let g = c.in_ok-body.ensures.1 in let h = ended.1 in omega arith,
    )

pub for_loop-returns-in_err-head : goal.for_loop-returns-in_err-head
for_loop-returns-in_err-head t c =
    passed _ _ c.from_residual.result _ c.from_residual.ensures.1 (λ n o i. c.in_err-head.ensures n c.args.at o i)

pub for_loop-returns-in_err-body : goal.for_loop-returns-in_err-body
for_loop-returns-in_err-body t c =
    let h = c.in_ok-head in
    passed _ _ c.from_residual-in_err-body.result _ c.from_residual-in_err-body.ensures.1
    (λ n o i. fails_as _ _ _ (h.ensures.0 n c.args.at o i) (c.in_err-body.ensures (in_for n c.args.at (for_start_tree h.head.value.start) (option_map expression_tree h.head.value.condition) (option_map expression_tree h.head.value.step) o)))

pub for_loop-returns : goal.for_loop-returns
for_loop-returns t c =
    let h = c.in_ok-head in (
      λ n o i.
          h.ensures.0 n c.args.at o i
          ∙ c.in_ok-body.ensures.0 (in_for n c.args.at (for_start_tree h.head.value.start) (option_map expression_tree h.head.value.condition) (option_map expression_tree h.head.value.step) o)
          ∙ after_for c.args.parser.end n o (statement_tree c.in_ok-body.body) c.in_ok-body.last.now _ c.args.at (for_start_tree h.head.value.start) (option_map expression_tree h.head.value.condition) (option_map expression_tree h.head.value.step) c.in_ok-whole.ensures,
      let f = h.ensures.1 in let g = c.in_ok-body.ensures.1 in omega arith,
    )

pub block_items-loop-parser-init : goal.block_items-loop-parser-init
block_items-loop-parser-init t c = (
  λ b n. ap (λ q. run c.args.parser.end (block_item q) c.args.tokens.now) (sym (ap (λ q. with_items b (item_trees q)) c.new-list.ensures.items ∙ no_items_more b)),
  omega arith,
)

pub block_items-returns-in_err-item : goal.block_items-returns-in_err-item
block_items-returns-in_err-item t c =
    let list = c.loop-parser.list.items in
    passed _ _ c.from_residual.result _ c.from_residual.ensures.1
    (λ b n. fails_as _ _ _ (c.loop-parser.invariant.0 b n) (c.in_err-item.ensures (with_items b (item_trees list)) (nesting_with_items b (item_trees list) ∙ n)))

pub block_items-loop-parser-preserved-in-Some : goal.block_items-loop-parser-preserved-in-Some
block_items-loop-parser-preserved-in-Some t c =
    let list = c.loop-parser.list.items in
    let r = found _ _ _ _ c.in_ok-item.ensures c.in-Some.is in (
      λ b n.
          c.loop-parser.invariant.0 b n
          ∙ r.0 (with_items b (item_trees list)) (nesting_with_items b (item_trees list) ∙ n)
          ∙ after_item_declaration c.args.parser.end b list c.in-Some.next.now c.in-Some.item _ c.in_ok-push.ensures.items,
      let g = c.loop-parser.invariant.1 in let h = r.1 in omega arith,
    )

pub block_items-returns-in_err-statement : goal.block_items-returns-in_err-statement
block_items-returns-in_err-statement t c =
    let list = c.loop-parser.list.items in
    passed _ _ c.from_residual-in_err-statement.result _ c.from_residual-in_err-statement.ensures.1
    (λ b n. fails_as _ _ _
    (c.loop-parser.invariant.0 b n
    ∙ run_item_statement c.args.parser.end b list c.loop-parser.rest.now c.args.inside n (not_found _ _ _ c.in_ok-item.ensures c.in_default.is)
    (ap (λ k. is_fixed fixed.CloseBrace k) (sym c.kind.ensures) ∙ sym c.is.ensures ∙ c.if-is.false))
    (c.in_err-statement.ensures (in_block (with_items b (item_trees list)))))

pub block_items-loop-parser-preserved : goal.block_items-loop-parser-preserved
block_items-loop-parser-preserved t c =
    let list = c.loop-parser.list.items in (
      λ b n.
          c.loop-parser.invariant.0 b n
          ∙ run_item_statement c.args.parser.end b list c.loop-parser.rest.now c.args.inside n (not_found _ _ _ c.in_ok-item.ensures c.in_default.is)
          (ap (λ k. is_fixed fixed.CloseBrace k) (sym c.kind.ensures) ∙ sym c.is.ensures ∙ c.if-is.false)
          ∙ c.in_ok-statement.ensures.0 (in_block (with_items b (item_trees list)))
          ∙ after_item_statement c.args.parser.end b list c.in_ok-statement.next.now c.statement-in_default.result _ c.in_ok-push-2.ensures.items _ c.statement-in_default.ensures,
      let g = c.loop-parser.invariant.1 in let h = c.in_ok-statement.ensures.1 in omega arith,
    )

pub block-returns : goal.block-returns
block-returns t c =
    let w = c.in_ok-items.ensures in
    let closed = made _ _ _ _ c.expect.ensures c.in_ok-close.ensures.0 in (
      λ b new.
          w.0 b (new_block_nesting b c.args.brace c.args.inside new)
          ∙ run_block_end c.args.parser.end b c.args.brace c.args.inside (item_trees c.in_ok-items.items.items) c.in_ok-items.rest.now _ _ new c.requires closed
          ∙ ap (λ q. run c.args.parser.end (after_block b q) c.in_ok-close.last.now) (ap (λ v. record { opened = c.args.brace; items = item_trees v.items; closed = c.in_ok-close.close.at }) (sym c.in_ok-close.ensures.1) ∙ sym c.new.ensures),
      let h = w.2 in omega (arith, ap length closed.cut),
    )

pub statement-returns-in_err-inside : goal.statement-returns-in_err-inside
statement-returns-in_err-inside t c =
    let e : c.statement_start-start.result ≢ first.Other = search rules in
    passed _ _ c.from_residual-in_err-inside.result _ c.from_residual-in_err-inside.ensures.1
    (λ o. deep_start c.args.parser.end c.args.outside c.args.tokens.now _ _ c.in_ok-token.ensures c.statement_start-start.result (ap statement_start (sym c.kind.ensures) ∙ sym c.statement_start-start.ensures) o e _ c.in_err-inside.ensures)

pub statement-returns-in_err-block-in-Block : goal.statement-returns-in_err-block-in-Block
statement-returns-in_err-block-in-Block t c =
    let n = c.args.outside in
    let i = c.in_ok-inside.ensures in
    passed _ _ c.from_residual-in_err-block-in-Block.result _ c.from_residual-in_err-block-in-Block.ensures.1
    (λ o. fails_as _ _ _
    (run_start c.args.parser.end n c.args.tokens.now _ _ c.in_ok-token.ensures first.Block (ap statement_start (sym c.kind.ensures) ∙ sym c.statement_start-start.ensures ∙ c.in-Block.is) o
    (λ q. block_item (inner_block n c.in_ok-token.token.at no_items o)) c.in_ok-inside.inside refl i)
    (c.in_err-block-in-Block.ensures (inner_block n c.in_ok-token.token.at no_items o) (refl, refl, sym i.0)))

pub statement-returns-in_ok-block-in-Block : goal.statement-returns-in_ok-block-in-Block
statement-returns-in_ok-block-in-Block t c =
    let n = c.args.outside in
    let i = c.in_ok-inside.ensures in (
      λ o.
          run_start c.args.parser.end n c.args.tokens.now _ _ c.in_ok-token.ensures first.Block (ap statement_start (sym c.kind.ensures) ∙ sym c.statement_start-start.ensures ∙ c.in-Block.is) o
          (λ q. block_item (inner_block n c.in_ok-token.token.at no_items o)) c.in_ok-inside.inside refl i
          ∙ c.in_ok-block-in-Block.ensures.0 (inner_block n c.in_ok-token.token.at no_items o) (refl, refl, sym i.0)
          ∙ ap (λ q. run c.args.parser.end (after_statement q o) c.in_ok-block-in-Block.last.now) (sym c.block-in-Block.ensures),
      let h = c.in_ok-block-in-Block.ensures.1 in omega (arith, ap length c.in_ok-token.ensures),
    )

pub statement-returns-in-Case : goal.statement-returns-in-Case
statement-returns-in-Case t c =
    let n = c.args.outside in
    let i = c.in_ok-inside.ensures in
    goes_on c.args.parser.end n c.args.tokens.now _ _ c.in_ok-token.ensures c.case.result (λ r. statement_tree r.0) (λ r. r.1.now)
    (λ m o. operand c.in_ok-inside.inside (as_whole (as_label m c.in_ok-token.token.at o))) (λ m. c.in_ok-inside.inside ≡ m + 1) i.0
    (λ o. run_start c.args.parser.end n c.args.tokens.now _ _ c.in_ok-token.ensures first.Case (ap statement_start (sym c.kind.ensures) ∙ sym c.statement_start-start.ensures ∙ c.in-Case.is) o (λ q. operand q (as_whole (as_label n c.in_ok-token.token.at o))) c.in_ok-inside.inside refl i)
    c.case.ensures

pub statement-returns-in-Default : goal.statement-returns-in-Default
statement-returns-in-Default t c =
    let n = c.args.outside in
    let i = c.in_ok-inside.ensures in
    goes_on c.args.parser.end n c.args.tokens.now _ _ c.in_ok-token.ensures c.default.result (λ r. statement_tree r.0) (λ r. r.1.now)
    (λ m o. default_colon m c.in_ok-token.token.at o) (λ m. c.in_ok-inside.inside ≡ m + 1) i.0
    (λ o. run_start c.args.parser.end n c.args.tokens.now _ _ c.in_ok-token.ensures first.Default (ap statement_start (sym c.kind.ensures) ∙ sym c.statement_start-start.ensures ∙ c.in-Default.is) o (λ q. default_colon n c.in_ok-token.token.at o) c.in_ok-inside.inside refl i)
    c.default.ensures

pub statement-returns-in-Do : goal.statement-returns-in-Do
statement-returns-in-Do t c =
    let n = c.args.outside in
    let i = c.in_ok-inside.ensures in
    goes_on c.args.parser.end n c.args.tokens.now _ _ c.in_ok-token.ensures c.repeated.result (λ r. statement_tree r.0) (λ r. r.1.now)
    (λ m o. at_statement c.in_ok-inside.inside (in_do m c.in_ok-token.token.at o)) (λ m. c.in_ok-inside.inside ≡ m + 1) i.0
    (λ o. run_start c.args.parser.end n c.args.tokens.now _ _ c.in_ok-token.ensures first.Do (ap statement_start (sym c.kind.ensures) ∙ sym c.statement_start-start.ensures ∙ c.in-Do.is) o (λ q. at_statement q (in_do n c.in_ok-token.token.at o)) c.in_ok-inside.inside refl i)
    c.repeated.ensures

pub statement-returns-in-For : goal.statement-returns-in-For
statement-returns-in-For t c =
    let n = c.args.outside in
    let i = c.in_ok-inside.ensures in
    goes_on c.args.parser.end n c.args.tokens.now _ _ c.in_ok-token.ensures c.for_loop.result (λ r. statement_tree r.0) (λ r. r.1.now)
    (λ m o. for_open m c.in_ok-token.token.at o) (λ m. c.in_ok-inside.inside ≡ m + 1) i.0
    (λ o. run_start c.args.parser.end n c.args.tokens.now _ _ c.in_ok-token.ensures first.For (ap statement_start (sym c.kind.ensures) ∙ sym c.statement_start-start.ensures ∙ c.in-For.is) o (λ q. for_open n c.in_ok-token.token.at o) c.in_ok-inside.inside refl i)
    c.for_loop.ensures

pub statement-returns-in-Return : goal.statement-returns-in-Return
statement-returns-in-Return t c =
    let n = c.args.outside in
    let i = c.in_ok-inside.ensures in
    goes_on c.args.parser.end n c.args.tokens.now _ _ c.in_ok-token.ensures c.returning.result (λ r. statement_tree r.0) (λ r. r.1.now)
    (λ m o. returning m c.in_ok-token.token.at o) (λ m. c.in_ok-inside.inside ≡ m + 1) i.0
    (λ o. run_start c.args.parser.end n c.args.tokens.now _ _ c.in_ok-token.ensures first.Return (ap statement_start (sym c.kind.ensures) ∙ sym c.statement_start-start.ensures ∙ c.in-Return.is) o (λ q. returning n c.in_ok-token.token.at o) c.in_ok-inside.inside refl i)
    c.returning.ensures

pub statement-returns-in-Test-If : goal.statement-returns-in-Test-If
statement-returns-in-Test-If t c =
    let n = c.args.outside in
    let i = c.in_ok-inside.ensures in
    let f : c.in-Test-If.field-0 ≡ testing.If = search rules in
    goes_on c.args.parser.end n c.args.tokens.now _ _ c.in_ok-token.ensures c.choice.result (λ r. statement_tree r.0) (λ r. r.1.now)
    (λ m o. test_open testing.If m c.in_ok-token.token.at o) (λ m. c.in_ok-inside.inside ≡ m + 1) i.0
    (λ o. run_start c.args.parser.end n c.args.tokens.now _ _ c.in_ok-token.ensures (first.Test testing.If) (ap statement_start (sym c.kind.ensures) ∙ sym c.statement_start-start.ensures ∙ c.in-Test-If.is ∙ ap (λ k. first.Test k) f) o (λ q. test_open testing.If n c.in_ok-token.token.at o) c.in_ok-inside.inside refl i)
    c.choice.ensures

pub statement-returns-in-Test : goal.statement-returns-in-Test
statement-returns-in-Test t c =
    let n = c.args.outside in
    let i = c.in_ok-inside.ensures in
    let k = c.in-Test.testing in
    goes_on c.args.parser.end n c.args.tokens.now _ _ c.in_ok-token.ensures c.tested.result (λ r. statement_tree r.0) (λ r. r.1.now)
    (λ m o. test_open k m c.in_ok-token.token.at o) (λ m. c.in_ok-inside.inside ≡ m + 1) i.0
    (λ o. run_start c.args.parser.end n c.args.tokens.now _ _ c.in_ok-token.ensures (first.Test k) (ap statement_start (sym c.kind.ensures) ∙ sym c.statement_start-start.ensures ∙ c.in-Test.is) o (λ q. test_open k n c.in_ok-token.token.at o) c.in_ok-inside.inside refl i)
    c.tested.ensures

pub statement-returns-in-Goto : goal.statement-returns-in-Goto
statement-returns-in-Goto t c =
    let n = c.args.outside in
    let i = c.in_ok-inside.ensures in
    goes_on c.args.parser.end n c.args.tokens.now _ _ c.in_ok-token.ensures c.goto.result (λ r. statement_tree r.0) (λ r. r.1.now)
    (λ m o. goto_name m c.in_ok-token.token.at o) (λ m. m + 1 ≤ 128) (omega arith)
    (λ o. run_start c.args.parser.end n c.args.tokens.now _ _ c.in_ok-token.ensures first.Goto (ap statement_start (sym c.kind.ensures) ∙ sym c.statement_start-start.ensures ∙ c.in-Goto.is) o (λ q. goto_name n c.in_ok-token.token.at o) c.in_ok-inside.inside refl i)
    c.goto.ensures

pub statement-returns-in_err-last-in-Continue : goal.statement-returns-in_err-last-in-Continue
statement-returns-in_err-last-in-Continue t c =
    let n = c.args.outside in
    passed _ _ c.from_residual-in_err-last-in-Continue.result _ c.from_residual-in_err-last-in-Continue.ensures.1
    (λ o. fails_as _ _ _
    (run_start c.args.parser.end n c.args.tokens.now _ _ c.in_ok-token.ensures first.Continue (ap statement_start (sym c.kind.ensures) ∙ sym c.statement_start-start.ensures ∙ c.in-Continue.is) o (λ q. statement_end n (continue c.in_ok-token.token.at) o) c.in_ok-inside.inside refl c.in_ok-inside.ensures)
    (no_statement_end c.args.parser.end n (continue c.in_ok-token.token.at) o c.in_ok-token.rest.now _ c.in_err-last-in-Continue.ensures))

pub statement-returns-in_ok-last-in-Continue : goal.statement-returns-in_ok-last-in-Continue
statement-returns-in_ok-last-in-Continue t c =
    let n = c.args.outside in (
      λ o.
          run_start c.args.parser.end n c.args.tokens.now _ _ c.in_ok-token.ensures first.Continue (ap statement_start (sym c.kind.ensures) ∙ sym c.statement_start-start.ensures ∙ c.in-Continue.is) o (λ q. statement_end n (continue c.in_ok-token.token.at) o) c.in_ok-inside.inside refl c.in_ok-inside.ensures
          ∙ run_statement_end c.args.parser.end n (continue c.in_ok-token.token.at) o c.in_ok-token.rest.now _ _ c.in_ok-last-in-Continue.ensures c.requires
          ∙ ap (λ q. run c.args.parser.end (after_statement q o) c.in_ok-last-in-Continue.last.now) (sym c.continue_statement.ensures),
      omega (arith, ap length c.in_ok-token.ensures, ap length c.in_ok-last-in-Continue.ensures.cut),
    )

pub statement-returns-in_err-last-in-Break : goal.statement-returns-in_err-last-in-Break
statement-returns-in_err-last-in-Break t c =
    let n = c.args.outside in
    passed _ _ c.from_residual-in_err-last-in-Break.result _ c.from_residual-in_err-last-in-Break.ensures.1
    (λ o. fails_as _ _ _
    (run_start c.args.parser.end n c.args.tokens.now _ _ c.in_ok-token.ensures first.Break (ap statement_start (sym c.kind.ensures) ∙ sym c.statement_start-start.ensures ∙ c.in-Break.is) o (λ q. statement_end n (break c.in_ok-token.token.at) o) c.in_ok-inside.inside refl c.in_ok-inside.ensures)
    (no_statement_end c.args.parser.end n (break c.in_ok-token.token.at) o c.in_ok-token.rest.now _ c.in_err-last-in-Break.ensures))

pub statement-returns-in_ok-last-in-Break : goal.statement-returns-in_ok-last-in-Break
statement-returns-in_ok-last-in-Break t c =
    let n = c.args.outside in (
      λ o.
          run_start c.args.parser.end n c.args.tokens.now _ _ c.in_ok-token.ensures first.Break (ap statement_start (sym c.kind.ensures) ∙ sym c.statement_start-start.ensures ∙ c.in-Break.is) o (λ q. statement_end n (break c.in_ok-token.token.at) o) c.in_ok-inside.inside refl c.in_ok-inside.ensures
          ∙ run_statement_end c.args.parser.end n (break c.in_ok-token.token.at) o c.in_ok-token.rest.now _ _ c.in_ok-last-in-Break.ensures c.requires
          ∙ ap (λ q. run c.args.parser.end (after_statement q o) c.in_ok-last-in-Break.last.now) (sym c.break_statement.ensures),
      omega (arith, ap length c.in_ok-token.ensures, ap length c.in_ok-last-in-Break.ensures.cut),
    )

pub statement-returns-in-Empty : goal.statement-returns-in-Empty
statement-returns-in-Empty t c =
    let n = c.args.outside in
    let other : c.statement_start-start.result ≢ first.Other = search rules in
    let is : c.statement_start-start.result ≡ first.Empty = elim c.in-Empty.is [ inl e ↦ e | inr e ↦ absurd (other e) ] in (
      λ o.
          run_start c.args.parser.end n c.args.tokens.now _ _ c.in_ok-token.ensures first.Empty (ap statement_start (sym c.kind.ensures) ∙ sym c.statement_start-start.ensures ∙ is) o (λ q. after_statement (empty c.in_ok-token.token.at) o) c.in_ok-inside.inside refl c.in_ok-inside.ensures
          ∙ ap (λ q. run c.args.parser.end (after_statement q o) c.in_ok-token.rest.now) (sym c.empty.ensures),
      omega (arith, ap length c.in_ok-token.ensures),
    )
