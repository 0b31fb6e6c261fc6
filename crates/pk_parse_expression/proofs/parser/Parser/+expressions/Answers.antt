use Rattle.std.proofs.Common.{◌+◌, ◌<◌, ◌≤◌, SFits, w8, length, refl, sym, ap, subst, ◌∙◌, arith, rules}
use Rattle.std.proofs.lemmas.Int.{to_z-of_z}
use Rattle.pk_ast.specs.Trees.{call, element, character, parenthesized, binary, conditional, assignment, comma}
use Rattle.pk_ast.specs.Lists.{one}
use Rattle.pk_ast.specs.Views.{expression_tree, expression_trees, specifiers_tree}
use Rattle.pk_grammar.specs.Grammar.{operators_in, postfixes_in, commas_in}
use Rattle.pk_grammar.specs.Machine.States.{Context, in_call, in_index, in_column, in_parentheses, in_cast, in_choice, in_alternative, in_assignment, in_comma, named, indexed, operand, complete}
use Rattle.pk_grammar.specs.Machine.Steps.{operand_level}
use Rattle.pk_grammar.specs.Machine.Running.{run}
use Rattle.pk_parse_expression.proofs.RunLemmas.{passed, handed, fails_as, fails_syntax, fails_nesting, no_more, below, outside_below, one_below}
use Rattle.pk_parse_expression.proofs.KeptLemmas.{made, not_made}
use Rattle.pk_parse_expression.proofs.WordLemmas.{no_longer}
use Rattle.pk_parse_expression.proofs.RunOperators.{follows_weaker, deep_question, deep_assignment, no_assignment}
use Rattle.pk_parse_expression.proofs.RunOperands.{run_no_arguments, run_arguments, run_called, run_argument, run_name_alone, run_call, deep_call, deep_index, run_indexed, run_element, run_no_column, deep_column, run_inner, run_parenthesized, run_cast, no_cast, run_name, run_constant, run_character, run_open, deep_open, deep_prefix, deep_unary, no_operand, operand_at_end, deep_comma}
use Rattle.pk_parse_expression.proofs.RunEnds.{no_parenthesis, no_bracket, no_column_bracket, no_colon, no_argument_end}
use Rattle.pk_parse_expression.proofs.ExpressionLemmas.{trees_push, le_more, counts, ends_within, ends_binary, indexes, indexes_column, reads_prefix, fails_prefix, reads_unary, fails_unary, reads_binary, fails_binary, sinks_binary, asks, chooses, reads_conditional, assigns, reads_assignment, joins_comma, reads_comma, no_cast_words, closes_cast, unclosed_cast, reads_cast}
use Rattle.pk_parse_expression.proofs.parser.Parser.+expressions.Goals as goal

-- A call's arguments

pub arguments-returns-in-Some : goal.arguments-returns-in-Some
arguments-returns-in-Some t c = (
  λ id k h.
      run_no_arguments c.args.self.end c.args.outside id k c.args.tokens.now _ _ c.in-Some.ensures (outside_below _ c.requires)
      ∙ ap (λ q. run c.args.self.end (complete c.args.outside (call id (expression_trees q)) k) c.in-Some.after.now) (sym c.new-list.ensures.items),
  omega (arith, ap length c.in-Some.ensures.cut),
)

pub arguments-loop-list-init : goal.arguments-loop-list-init
arguments-loop-list-init t c = (
  λ id k.
      run_arguments c.args.self.end c.args.outside id k c.args.tokens.now c.in_default.ensures
      ∙ ap (λ q. run c.args.self.end (operand (c.args.outside + 1) (in_call c.args.outside id (expression_trees q) k)) c.args.tokens.now) (sym c.new-list.ensures.items),
  no_more _,
)

pub arguments-returns-in_err-argument : goal.arguments-returns-in_err-argument
arguments-returns-in_err-argument t c =
    let i = c.loop-list.invariant in
    passed _ _ c.from_residual.result _ c.from_residual.ensures.1
    (λ id k h. fails_as _ _ _ (i.0 id k) (c.in_err-argument.ensures (in_call c.args.outside id (expression_trees c.loop-list.list.items) k) (no_more _)))

pub arguments-returns-in-Some-take : goal.arguments-returns-in-Some-take
arguments-returns-in-Some-take t c =
    let i = c.loop-list.invariant in
    let a = c.in_ok-argument.ensures in
    let es = expression_trees c.loop-list.list.items in
    let e = expression_tree c.in_ok-argument.argument in (
      λ id k h.
          i.0 id k
          ∙ a.0 (in_call c.args.outside id es k) (no_more _)
          ∙ run_called c.args.self.end c.args.outside (c.args.outside + 1) c.args.self.end.at e k _ _ _ id es c.in-Some-take.ensures (outside_below _ c.requires)
          ∙ ap (λ q. run c.args.self.end (complete c.args.outside (call id q) k) c.in-Some-take.last.now) (sym (ap expression_trees c.in_ok-push.ensures.items ∙ trees_push c.loop-list.list.items c.in_ok-argument.argument)),
      (let p = a.3 in let q = i.1 in omega (arith, ap length c.in-Some-take.ensures.cut)),
    )

pub arguments-returns-in_err-next : goal.arguments-returns-in_err-next
arguments-returns-in_err-next t c =
    let i = c.loop-list.invariant in
    let a = c.in_ok-argument.ensures in
    let n = c.in_err-next.ensures in
    let es = expression_trees c.loop-list.list.items in
    passed _ _ c.from_residual-in_err-next.result _ c.from_residual-in_err-next.ensures.1
    (λ id k h. fails_syntax _ _ _ n.1
    (i.0 id k
    ∙ a.0 (in_call c.args.outside id es k) (no_more _)
    ∙ no_argument_end c.args.self.end c.args.outside (c.args.outside + 1) c.args.self.end.at (expression_tree c.in_ok-argument.argument) k _ id es a.1 c.in_default-take.ensures n.0))

pub arguments-loop-list-preserved : goal.arguments-loop-list-preserved
arguments-loop-list-preserved t c =
    let i = c.loop-list.invariant in
    let a = c.in_ok-argument.ensures in
    let es = expression_trees c.loop-list.list.items in
    let e = expression_tree c.in_ok-argument.argument in (
      λ id k.
          i.0 id k
          ∙ a.0 (in_call c.args.outside id es k) (no_more _)
          ∙ run_argument c.args.self.end c.args.outside (c.args.outside + 1) c.args.self.end.at e k _ _ _ id es c.in_ok-next.ensures (below _ c.requires)
          ∙ ap (λ q. run c.args.self.end (operand (c.args.outside + 1) (in_call c.args.outside id q k)) c.in_ok-next.next.now) (sym (ap expression_trees c.in_ok-push.ensures.items ∙ trees_push c.loop-list.list.items c.in_ok-argument.argument)),
      (let p = a.3 in let q = i.1 in omega (arith, ap length c.in_ok-next.ensures.cut)),
    )

-- A name, a call or an element

pub named-returns : goal.named-returns
named-returns t c =
    let w = c.name.ensures in (
      λ k h.
          run_name_alone c.args.self.end c.args.outside c.args.name k c.args.tokens.now c.in_default.ensures c.in_default-take.ensures
          ∙ ap (λ q. run c.args.self.end (complete c.args.outside q k) c.args.tokens.now) (sym w),
      record { postfixes = ap postfixes_in w; operators = ap operators_in w; commas = ap commas_in w },
      no_more _,
    )

pub named-returns-in_err-nested : goal.named-returns-in_err-nested
named-returns-in_err-nested t c =
    let n = c.in_err-nested.ensures in
    passed _ _ c.from_residual.result _ c.from_residual.ensures.1
    (λ k h. fails_nesting _ _ _ n.0 (deep_call c.args.self.end c.args.outside c.args.name k c.args.tokens.now _ _ c.in-Some.ensures n.1))

pub named-returns-in_err-arguments : goal.named-returns-in_err-arguments
named-returns-in_err-arguments t c =
    let n = c.in_ok-nested.ensures in
    passed _ _ c.from_residual-in_err-arguments.result _ c.from_residual-in_err-arguments.ensures.1
    (λ k h. fails_as _ _ _ (run_call c.args.self.end c.args.outside c.args.name k c.args.tokens.now _ _ c.in-Some.ensures (one_below _ _ n.0 n.1)) (c.in_err-arguments.ensures c.args.name k tt))

pub named-returns-in-Some : goal.named-returns-in-Some
named-returns-in-Some t c =
    let n = c.in_ok-nested.ensures in
    let a = c.in_ok-arguments.ensures in
    let w = c.call.ensures in (
      λ k h.
          run_call c.args.self.end c.args.outside c.args.name k c.args.tokens.now _ _ c.in-Some.ensures (one_below _ _ n.0 n.1)
          ∙ a.0 c.args.name k tt
          ∙ ap (λ q. run c.args.self.end (complete c.args.outside q k) c.in_ok-arguments.rest.now) (sym w),
      record { postfixes = ap postfixes_in w; operators = ap operators_in w; commas = ap commas_in w },
      (let p = a.1 in omega (arith, ap length c.in-Some.ensures.cut)),
    )

pub named-returns-in_err-inside : goal.named-returns-in_err-inside
named-returns-in_err-inside t c =
    let n = c.in_err-inside.ensures in
    passed _ _ c.from_residual-in_err-inside.result _ c.from_residual-in_err-inside.ensures.1
    (λ k h. fails_nesting _ _ _ n.0 (deep_index c.args.self.end c.args.outside c.args.name k c.args.tokens.now _ _ c.in-Some-take.ensures n.1))

pub named-returns-in_err-index : goal.named-returns-in_err-index
named-returns-in_err-index t c =
    let n = c.in_ok-inside.ensures in
    passed _ _ c.from_residual-in_err-index.result _ c.from_residual-in_err-index.ensures.1
    (λ k h. fails_as _ _ _
    (indexes c.args.self.end c.args.outside c.args.name k c.args.tokens.now c.in-Some-take.open c.in-Some-take.after.now _ c.in-Some-take.ensures n.0 n.1)
    (c.in_err-index.ensures (in_index c.args.outside c.args.name c.in-Some-take.open.at k) (no_more _)))

pub named-returns-in_err-last : goal.named-returns-in_err-last
named-returns-in_err-last t c =
    let n = c.in_ok-inside.ensures in
    let x = c.in_ok-index.ensures in
    let f = not_made _ _ _ _ c.expect.ensures c.in_err-last.ensures in
    passed _ _ c.from_residual-in_err-last.result _ c.from_residual-in_err-last.ensures.1
    (λ k h. fails_syntax _ _ _ f.1
    (indexes c.args.self.end c.args.outside c.args.name k c.args.tokens.now c.in-Some-take.open c.in-Some-take.after.now _ c.in-Some-take.ensures n.0 n.1
    ∙ x.0 (in_index c.args.outside c.args.name c.in-Some-take.open.at k) (no_more _)
    ∙ no_bracket c.args.self.end c.args.outside c.in_ok-inside.inside c.in-Some-take.open.at (expression_tree c.in_ok-index.index) k _ c.args.name x.1 f.0))

pub named-returns-in-Some-take : goal.named-returns-in-Some-take
named-returns-in-Some-take t c =
    let n = c.in_ok-inside.ensures in
    let x = c.in_ok-index.ensures in
    let closed = made _ _ _ _ c.expect.ensures c.in_ok-last.ensures.0 in
    let at = c.in-Some-take.open.at in
    let begins = λ (k : Context).
    indexes c.args.self.end c.args.outside c.args.name k c.args.tokens.now c.in-Some-take.open c.in-Some-take.after.now _ c.in-Some-take.ensures n.0 n.1
    ∙ x.0 (in_index c.args.outside c.args.name at k) (no_more _)
    ∙ run_indexed c.args.self.end c.args.outside c.in_ok-inside.inside at (expression_tree c.in_ok-index.index) k _ _ _ c.args.name closed c.requires
    ∙ ap (λ e. run c.args.self.end (indexed c.args.outside c.args.name at (expression_tree e) k) c.in_ok-last.last.now) (sym c.in_ok-last.ensures.1) in
    handed _ _ _ _ c.indexed.result c.indexed.ensures
    (λ r e. (λ k h. begins k ∙ e.0 k tt, e.1, (let p = e.2 in let q = x.2 in omega (arith, ap length c.in-Some-take.ensures.cut, ap length closed.cut))))
    (λ y e k h. fails_as _ _ _ (begins k) (e k tt))

-- An element

pub indexed-returns-in_default : goal.indexed-returns-in_default
indexed-returns-in_default t c =
    let w = c.in_ok-element.ensures in (
      λ k h.
          run_no_column c.args.self.end c.args.outside c.args.name c.args.at (expression_tree c.args.index) k c.args.tokens.now c.in_default.ensures
          ∙ ap (λ q. run c.args.self.end (complete c.args.outside q k) c.args.tokens.now) (sym w),
      record { postfixes = ap postfixes_in w; operators = ap operators_in w; commas = ap commas_in w },
      no_more _,
    )

pub indexed-returns-in_err-inside : goal.indexed-returns-in_err-inside
indexed-returns-in_err-inside t c =
    let f = not_made _ _ _ _ c.nested.ensures c.in_err-inside.ensures in
    passed _ _ c.from_residual-in_err-inside.result _ c.from_residual-in_err-inside.ensures.1
    (λ k h. fails_nesting _ _ _ f.0 (deep_column c.args.self.end c.args.outside c.args.name c.args.at (expression_tree c.args.index) k c.args.tokens.now _ _ c.in-Some.ensures f.1))

pub indexed-returns-in_err-column : goal.indexed-returns-in_err-column
indexed-returns-in_err-column t c =
    let n = made _ _ _ _ c.nested.ensures c.in_ok-inside.ensures.0 in
    let row = expression_tree c.args.index in
    passed _ _ c.from_residual-in_err-column.result _ c.from_residual-in_err-column.ensures.1
    (λ k h. fails_as _ _ _
    (indexes_column c.args.self.end c.args.outside c.args.name c.args.at row k c.args.tokens.now c.in-Some.open c.in-Some.after.now _ c.in-Some.ensures n.0 n.1)
    (not_made _ _ _ _ c.expression.ensures c.in_err-column.ensures (in_column c.args.outside c.args.name c.args.at row c.in-Some.open.at k) (no_more _)))

pub indexed-returns-in_err-last : goal.indexed-returns-in_err-last
indexed-returns-in_err-last t c =
    let n = made _ _ _ _ c.nested.ensures c.in_ok-inside.ensures.0 in
    let x = made _ _ _ _ c.expression.ensures c.in_ok-column.ensures.0 in
    let f = not_made _ _ _ _ c.expect.ensures c.in_err-last.ensures in
    let row = expression_tree c.args.index in
    passed _ _ c.from_residual-in_err-last.result _ c.from_residual-in_err-last.ensures.1
    (λ k h. fails_syntax _ _ _ f.1
    (indexes_column c.args.self.end c.args.outside c.args.name c.args.at row k c.args.tokens.now c.in-Some.open c.in-Some.after.now _ c.in-Some.ensures n.0 n.1
    ∙ x.0 (in_column c.args.outside c.args.name c.args.at row c.in-Some.open.at k) (no_more _)
    ∙ no_column_bracket c.args.self.end c.args.outside c.in_ok-inside.inside c.args.at (expression_tree c.in_ok-column.column) k _ c.args.name row c.in-Some.open.at x.1 f.0))

pub indexed-returns : goal.indexed-returns
indexed-returns t c =
    let n = made _ _ _ _ c.nested.ensures c.in_ok-inside.ensures.0 in
    let x = made _ _ _ _ c.expression.ensures c.in_ok-column.ensures.0 in
    let closed = made _ _ _ _ c.expect.ensures c.in_ok-last.ensures.0 in
    let row = expression_tree c.args.index in
    let column_at = c.in-Some.open.at in
    let w =
    c.in_ok-element-2.ensures
    ∙ ap (λ q. element c.args.name c.args.at (expression_tree q.0) column_at (expression_tree q.1)) c.in_ok-last.ensures.1
    ∙ ap (λ e. element c.args.name c.args.at (expression_tree e) column_at (expression_tree c.in_ok-column.column)) (c.in_ok-column.ensures.1 ∙ c.in_ok-inside.ensures.1) in (
      λ k h.
          indexes_column c.args.self.end c.args.outside c.args.name c.args.at row k c.args.tokens.now c.in-Some.open c.in-Some.after.now _ c.in-Some.ensures n.0 n.1
          ∙ x.0 (in_column c.args.outside c.args.name c.args.at row column_at k) (no_more _)
          ∙ run_element c.args.self.end c.args.outside c.in_ok-inside.inside c.args.at (expression_tree c.in_ok-column.column) k _ _ _ c.args.name row column_at closed c.requires
          ∙ ap (λ q. run c.args.self.end (complete c.args.outside q k) c.in_ok-last.last.now) (sym w),
      record { postfixes = ap postfixes_in w; operators = ap operators_in w; commas = ap commas_in w },
      (let p = x.2 in omega (arith, ap length c.in-Some.ensures.cut, ap length closed.cut)),
    )

-- A cast

pub cast-returns-in_err-words : goal.cast-returns-in_err-words
cast-returns-in_err-words t c =
    passed _ _ c.from_residual.result _ c.from_residual.ensures.1 (no_cast_words c.args.self.end c.args.outside c.args.at c.args.first c.args.tokens.now _ c.in_err-words.ensures (below _ c.requires))

pub cast-returns-in_err-after : goal.cast-returns-in_err-after
cast-returns-in_err-after t c =
    let f = c.in_err-after.ensures in
    passed _ _ c.from_residual-in_err-after.result _ c.from_residual-in_err-after.ensures.1
    (unclosed_cast c.args.self.end c.args.outside c.args.at c.args.first c.args.tokens.now _ c.in_ok-words.rest.now c.in_ok-words.ensures _ f.0 f.1 (below _ c.requires))

pub cast-returns-in_err-operand : goal.cast-returns-in_err-operand
cast-returns-in_err-operand t c =
    passed _ _ c.from_residual-in_err-operand.result _ c.from_residual-in_err-operand.ensures.1
    (λ k h. fails_as _ _ _
    (closes_cast c.args.self.end c.args.outside c.args.at c.args.first c.args.tokens.now _ c.in_ok-words.rest.now c.in_ok-words.ensures _ _ c.in_ok-after.ensures (below _ c.requires) k)
    (c.in_err-operand.ensures (in_cast c.args.outside c.args.at (specifiers_tree c.in_ok-words.words) k) refl))

pub cast-returns : goal.cast-returns
cast-returns t c =
    let s = c.in_ok-words.ensures in
    let o = c.in_ok-operand.ensures in
    let w = c.in_ok-whole.ensures in (
      reads_cast c.args.self.end c.args.outside c.args.at c.args.first c.args.tokens.now (specifiers_tree c.in_ok-words.words) c.in_ok-words.rest.now s _ _ _ (expression_tree c.in_ok-operand.operand) _
          c.in_ok-after.ensures (below _ c.requires) o.0 o.1.ends w,
      record { operators = ap operators_in w; commas = ap commas_in w; ends = o.1.ends },
      (let p = o.2 in omega (arith, no_longer c.args.tokens.now (one c.args.first), ap length s.0.past, ap length c.in_ok-after.ensures.cut)),
    )

-- What begins with a `(`

pub opened-returns-then-casts : goal.opened-returns-then-casts
opened-returns-then-casts t c =
    let b = c.in-Some.ensures in
    let opens = λ (k : Context) (h : _).
    run_cast c.args.self.end c.args.outside c.args.at k c.args.tokens.now c.in-Some.first c.in-Some.after.now b (h ∙ c.if-casts.true) (below _ c.requires) in
    handed _ _ _ _ c.cast.result c.cast.ensures (λ r e. (λ k h. opens k h ∙ e.0 k tt, e.1, (let p = e.2 in omega (arith, ap length b.cut)))) (λ x e k h. fails_as _ _ _ (opens k h) (e k tt))

pub opened-returns-in-Some : goal.opened-returns-in-Some
opened-returns-in-Some t c = λ k h. no_cast c.args.self.end c.args.outside c.args.at k c.args.tokens.now c.in-Some.first c.in-Some.after.now c.in-Some.ensures (h ∙ c.if-casts.false)

pub opened-returns-in_err-inner : goal.opened-returns-in_err-inner
opened-returns-in_err-inner t c =
    passed _ _ c.from_residual.result _ c.from_residual.ensures.1
    (λ k h. fails_as _ _ _ (run_inner c.args.self.end c.args.outside c.args.at k c.args.tokens.now c.in_default.ensures) (c.in_err-inner.ensures (in_parentheses c.args.outside c.args.at k) (no_more _)))

pub opened-returns-in_err-after : goal.opened-returns-in_err-after
opened-returns-in_err-after t c =
    let x = c.in_ok-inner.ensures in
    let f = not_made _ _ _ _ c.expect.ensures c.in_err-after.ensures in
    passed _ _ c.from_residual-in_err-after.result _ c.from_residual-in_err-after.ensures.1
    (λ k h. fails_syntax _ _ _ f.1
    (run_inner c.args.self.end c.args.outside c.args.at k c.args.tokens.now c.in_default.ensures
    ∙ x.0 (in_parentheses c.args.outside c.args.at k) (no_more _)
    ∙ no_parenthesis c.args.self.end c.args.outside (c.args.outside + 1) c.args.at (expression_tree c.in_ok-inner.inner) k _ x.1 f.0))

pub opened-returns : goal.opened-returns
opened-returns t c =
    let x = c.in_ok-inner.ensures in
    let closed = made _ _ _ _ c.expect.ensures c.in_ok-after.ensures.0 in
    let w = c.in_ok-whole.ensures ∙ ap (λ e. parenthesized c.args.at (expression_tree e)) c.in_ok-after.ensures.1 in
    let closes = λ (k : Context).
    run_inner c.args.self.end c.args.outside c.args.at k c.args.tokens.now c.in_default.ensures
    ∙ x.0 (in_parentheses c.args.outside c.args.at k) (no_more _)
    ∙ run_parenthesized c.args.self.end c.args.outside (c.args.outside + 1) c.args.at (expression_tree c.in_ok-inner.inner) k _ _ _ closed (outside_below _ c.requires)
    ∙ ap (λ q. run c.args.self.end (complete c.args.outside q k) c.in_ok-after.after.now) (sym w) in
    handed _ _ _ _ c.postfixes.result c.postfixes.ensures
    (λ r e. (λ k h. closes k ∙ e.0 k tt, e.1, (let p = e.2 in let q = x.2 in omega (arith, ap length closed.cut))))
    (λ y e k h. fails_as _ _ _ (closes k) (e k tt))

-- An operand

pub operand-returns-in_err-token : goal.operand-returns-in_err-token
operand-returns-in_err-token t c =
    let f = c.in_err-token.ensures in
    passed _ _ c.from_residual.result _ c.from_residual.ensures.1 (λ k h. fails_syntax _ _ _ f.1 (operand_at_end c.args.self.end c.args.outside k c.args.tokens.now f.0))

pub operand-returns-in-Other : goal.operand-returns-in-Other
operand-returns-in-Other t c = λ k h. no_operand c.args.self.end c.args.outside k c.args.tokens.now _ _ c.in_ok-token.ensures (sym c.operand_start.ensures ∙ c.in-Other.is)

pub operand-returns-in-Character : goal.operand-returns-in-Character
operand-returns-in-Character t c =
    let cut = c.in_ok-token.ensures in
    let fits : SFits w8 c.in-Character.value = search rules in
    let same = ap (λ v. character c.in_ok-token.token.at v) (to_z-of_z w8 c.in-Character.value fits) in
    let begins = λ (k : Context).
    run_character c.args.self.end c.args.outside k c.args.tokens.now _ _ cut c.in-Character.value (sym c.operand_start.ensures ∙ c.in-Character.is) c.requires
    ∙ ap (λ q. run c.args.self.end (complete c.args.outside q k) c.in_ok-token.rest.now) (sym (c.character.ensures ∙ same)) in
    handed _ _ _ _ c.postfixes-in-Character.result c.postfixes-in-Character.ensures
    (λ r e. (λ k h. begins k ∙ e.0 k tt, e.1, (let p = e.2 in omega (arith, ap length cut))))
    (λ y e k h. fails_as _ _ _ (begins k) (e k tt))

pub operand-returns-in-Constant : goal.operand-returns-in-Constant
operand-returns-in-Constant t c =
    let cut = c.in_ok-token.ensures in
    let begins = λ (k : Context).
    run_constant c.args.self.end c.args.outside k c.args.tokens.now _ _ cut c.in-Constant.ty c.in-Constant.value (sym c.operand_start.ensures ∙ c.in-Constant.is) c.requires
    ∙ ap (λ q. run c.args.self.end (complete c.args.outside q k) c.in_ok-token.rest.now) (sym c.constant.ensures) in
    handed _ _ _ _ c.postfixes-in-Constant.result c.postfixes-in-Constant.ensures
    (λ r e. (λ k h. begins k ∙ e.0 k tt, e.1, (let p = e.2 in omega (arith, ap length cut))))
    (λ y e k h. fails_as _ _ _ (begins k) (e k tt))

pub operand-returns-in_err-nested-in-Parenthesis : goal.operand-returns-in_err-nested-in-Parenthesis
operand-returns-in_err-nested-in-Parenthesis t c =
    let f = c.in_err-nested-in-Parenthesis.ensures in
    passed _ _ c.from_residual-in_err-nested-in-Parenthesis.result _ c.from_residual-in_err-nested-in-Parenthesis.ensures.1
    (λ k h. fails_nesting _ _ _ f.0 (deep_open c.args.self.end c.args.outside k c.args.tokens.now _ _ c.in_ok-token.ensures (sym c.operand_start.ensures ∙ c.in-Parenthesis.is) f.1))

pub operand-returns-in_ok-nested-in-Parenthesis : goal.operand-returns-in_ok-nested-in-Parenthesis
operand-returns-in_ok-nested-in-Parenthesis t c =
    let cut = c.in_ok-token.ensures in
    let n = c.in_ok-nested-in-Parenthesis.ensures in
    let begins = λ (k : Context).
    run_open c.args.self.end c.args.outside k c.args.tokens.now c.in_ok-token.token c.in_ok-token.rest.now c.in_ok-token.ensures (sym c.operand_start.ensures ∙ c.in-Parenthesis.is) (one_below _ _ n.0 n.1) in
    handed _ _ _ _ c.opened.result c.opened.ensures
    (λ r e. (λ k h. begins k ∙ e.0 k h, e.1, (let p = e.2 in omega (arith, ap length cut))))
    (λ y e k h. fails_as _ _ _ (begins k) (e k h))

pub operand-returns-in_err-whole-in-Name : goal.operand-returns-in_err-whole-in-Name
operand-returns-in_err-whole-in-Name t c =
    passed _ _ c.from_residual-in_err-whole-in-Name.result _ c.from_residual-in_err-whole-in-Name.ensures.1
    (λ k h. fails_as _ _ _
    (run_name c.args.self.end c.args.outside k c.args.tokens.now _ _ c.in_ok-token.ensures (sym c.operand_start.ensures ∙ c.in-Name.is) c.requires
    ∙ ap (λ q. run c.args.self.end (named c.args.outside q k) c.in_ok-token.rest.now) (sym c.identifier.ensures))
    (c.in_err-whole-in-Name.ensures k tt))

pub operand-returns-in_ok-whole-in-Name : goal.operand-returns-in_ok-whole-in-Name
operand-returns-in_ok-whole-in-Name t c =
    let cut = c.in_ok-token.ensures in
    let a = c.in_ok-whole-in-Name.ensures in
    let begins = λ (k : Context).
    run_name c.args.self.end c.args.outside k c.args.tokens.now _ _ cut (sym c.operand_start.ensures ∙ c.in-Name.is) c.requires
    ∙ ap (λ q. run c.args.self.end (named c.args.outside q k) c.in_ok-token.rest.now) (sym c.identifier.ensures)
    ∙ a.0 k tt in
    handed _ _ _ _ c.postfixes.result c.postfixes.ensures
    (λ r e. (λ k h. begins k ∙ e.0 k tt, e.1, (let p = e.2 in let q = a.2 in omega (arith, ap length cut))))
    (λ y e k h. fails_as _ _ _ (begins k) (e k tt))

pub operand-returns-in_err-inside-in-Step : goal.operand-returns-in_err-inside-in-Step
operand-returns-in_err-inside-in-Step t c =
    let f = c.in_err-inside-in-Step.ensures in
    passed _ _ c.from_residual-in_err-inside-in-Step.result _ c.from_residual-in_err-inside-in-Step.ensures.1
    (λ k h. fails_nesting _ _ _ f.0 (deep_prefix c.args.self.end c.args.outside k c.args.tokens.now _ _ c.in_ok-token.ensures c.in-Step.op (sym c.operand_start.ensures ∙ c.in-Step.is) f.1))

pub operand-returns-in_err-inside-in-Unary : goal.operand-returns-in_err-inside-in-Unary
operand-returns-in_err-inside-in-Unary t c =
    let f = c.in_err-inside-in-Unary.ensures in
    passed _ _ c.from_residual-in_err-inside-in-Unary.result _ c.from_residual-in_err-inside-in-Unary.ensures.1
    (λ k h. fails_nesting _ _ _ f.0 (deep_unary c.args.self.end c.args.outside k c.args.tokens.now _ _ c.in_ok-token.ensures c.in-Unary.op (sym c.operand_start.ensures ∙ c.in-Unary.is) f.1))

pub operand-returns-in_err-operand-in-Step : goal.operand-returns-in_err-operand-in-Step
operand-returns-in_err-operand-in-Step t c =
    let n = c.in_ok-inside-in-Step.ensures in
    passed _ _ c.from_residual-in_err-operand-in-Step.result _ c.from_residual-in_err-operand-in-Step.ensures.1
    (fails_prefix c.args.self.end c.args.outside c.args.tokens.now _ _ c.in_ok-token.rest.now c.in-Step.op _ _ c.in_ok-token.ensures (sym c.operand_start.ensures ∙ c.in-Step.is) n.0 n.1 c.in_err-operand-in-Step.ensures)

pub operand-returns-in_err-operand-in-Unary : goal.operand-returns-in_err-operand-in-Unary
operand-returns-in_err-operand-in-Unary t c =
    let n = c.in_ok-inside-in-Unary.ensures in
    passed _ _ c.from_residual-in_err-operand-in-Unary.result _ c.from_residual-in_err-operand-in-Unary.ensures.1
    (fails_unary c.args.self.end c.args.outside c.args.tokens.now _ _ c.in_ok-token.rest.now c.in-Unary.op _ _ c.in_ok-token.ensures (sym c.operand_start.ensures ∙ c.in-Unary.is) n.0 n.1 c.in_err-operand-in-Unary.ensures)

pub operand-returns-in_ok-whole-in-Step : goal.operand-returns-in_ok-whole-in-Step
operand-returns-in_ok-whole-in-Step t c =
    let cut = c.in_ok-token.ensures in
    let n = c.in_ok-inside-in-Step.ensures in
    let o = c.in_ok-operand-in-Step.ensures in
    let w = c.in_ok-whole-in-Step.ensures in (
      reads_prefix c.args.self.end c.args.outside c.args.tokens.now _ c.in_ok-token.token c.in_ok-token.rest.now c.in_ok-operand-in-Step.last.now c.in-Step.op c.in_ok-inside-in-Step.inside
          (expression_tree c.in_ok-operand-in-Step.operand) (expression_tree c.in_ok-whole-in-Step.whole) cut (sym c.operand_start.ensures ∙ c.in-Step.is) n.0 n.1 o.0 o.1.ends w,
      record { operators = ap operators_in w; commas = ap commas_in w; ends = o.1.ends },
      (let p = o.2 in omega (arith, ap length cut)),
    )

pub operand-returns-in_ok-whole-in-Unary : goal.operand-returns-in_ok-whole-in-Unary
operand-returns-in_ok-whole-in-Unary t c =
    let cut = c.in_ok-token.ensures in
    let n = c.in_ok-inside-in-Unary.ensures in
    let o = c.in_ok-operand-in-Unary.ensures in
    let w = c.in_ok-whole-in-Unary.ensures in (
      reads_unary c.args.self.end c.args.outside c.args.tokens.now _ c.in_ok-token.token c.in_ok-token.rest.now c.in_ok-operand-in-Unary.last.now c.in-Unary.op c.in_ok-inside-in-Unary.inside
          (expression_tree c.in_ok-operand-in-Unary.operand) (expression_tree c.in_ok-whole-in-Unary.whole) cut (sym c.operand_start.ensures ∙ c.in-Unary.is) n.0 n.1 o.0 o.1.ends w,
      record { operators = ap operators_in w; commas = ap commas_in w; ends = o.1.ends },
      (let p = o.2 in omega (arith, ap length cut)),
    )

-- Operands with binary operators between them

pub binary-returns-in_err-inside : goal.binary-returns-in_err-inside
binary-returns-in_err-inside t c =
    let i = c.loop-op.invariant in
    let f = not_made _ _ _ _ c.nested.ensures c.in_err-inside.ensures in
    let b = c.in-Some.ensures in
    passed _ _ c.from_residual-in_err-inside.result _ c.from_residual-in_err-inside.ensures.1
    (sinks_binary c.args.self.end c.args.outside c.args.tokens.now c.args.level (expression_tree c.loop-op.left) c.loop-op.rest.now _ _ _ c.loop-op.count _ b.1 i.0 i.3 b.0 f.1 f.0)

pub binary-returns-in_err-right : goal.binary-returns-in_err-right
binary-returns-in_err-right t c =
    let i = c.loop-op.invariant in
    let n = made _ _ _ _ c.nested.ensures c.in_ok-inside.ensures.0 in
    let b = c.in-Some.ensures in
    passed _ _ c.from_residual-in_err-right.result _ c.from_residual-in_err-right.ensures.1
    (fails_binary c.args.self.end c.args.outside c.args.tokens.now c.args.level (expression_tree c.loop-op.left) c.loop-op.rest.now c.in-Some.after.now c.in-Some.op c.in-Some.at c.loop-op.count c.in_ok-inside.inside _ b.1 i.0 i.3 b.0 n.0 n.1
    (λ k h. not_made _ _ _ _ c.binary.ensures c.in_err-right.ensures k (subst (λ s. operand_level k ≤ s) (sym c.right_of.ensures) h)))

pub binary-loop-op-preserved : goal.binary-loop-op-preserved
binary-loop-op-preserved t c =
    let i = c.loop-op.invariant in
    let n = made _ _ _ _ c.nested.ensures c.in_ok-inside.ensures.0 in
    let b = c.in-Some.ensures in
    let r = made _ _ _ _ c.binary.ensures c.in_ok-right.ensures.0 in
    let w = c.in_ok-left-2.ensures ∙ ap (λ e. binary c.in-Some.op c.in-Some.at (expression_tree e) (expression_tree c.in_ok-right.right)) (c.in_ok-right.ensures.1 ∙ c.in_ok-inside.ensures.1) in
    let s = c.right_of.ensures in (
      reads_binary c.args.self.end c.args.outside c.args.tokens.now c.args.level (expression_tree c.loop-op.left) (expression_tree c.in_ok-right.right) (expression_tree c.in_ok-left-2.left) c.loop-op.rest.now c.in-Some.after.now c.in_ok-right.next.now
          c.in-Some.op c.in-Some.at c.loop-op.count c.in_ok-inside.inside b.1 i.0 i.3 b.0 n.0 n.1
          (λ k h. r.0 k (subst (λ q. operand_level k ≤ q) (sym s) h)) (ends_within c.args.self.end c.in_ok-right.next.now _ _ s r.1) w,
      ends_binary c.args.self.end c.in_ok-right.next.now c.in-Some.op _ s r.1,
      ap commas_in w,
      ap operators_in w ∙ counts _ _ _ _ i.3 r.3,
      (let p = n.0 in let q = r.4 in omega arith),
      (let p = r.5 in let q = i.5 in omega (arith, ap length b.0.cut)),
    )

pub binary-returns-in_default : goal.binary-returns-in_default
binary-returns-in_default t c =
    let i = c.loop-op.invariant in (
      i.0,
      follows_weaker c.args.level _ c.requires.weakest i.1 c.in_default.ensures,
      i.2,
      i.3,
      i.4,
      i.5,
    )

-- A conditional

pub conditional-returns-in_err-inside : goal.conditional-returns-in_err-inside
conditional-returns-in_err-inside t c =
    let f = not_made _ _ _ _ c.nested.ensures c.in_err-inside.ensures in
    passed _ _ c.from_residual-in_err-inside.result _ c.from_residual-in_err-inside.ensures.1
    (λ k h. fails_nesting _ _ _ f.0 (c.in_ok-test.ensures.0 k (le_more 2 h) ∙ deep_question c.args.self.end c.args.outside (expression_tree c.in_ok-test.test) k c.in_ok-test.rest.now c.in-Some.at c.in-Some.after.now c.in-Some.ensures h f.1))

pub conditional-returns-in_err-yes : goal.conditional-returns-in_err-yes
conditional-returns-in_err-yes t c =
    let n = made _ _ _ _ c.nested.ensures c.in_ok-inside.ensures.0 in
    passed _ _ c.from_residual-in_err-yes.result _ c.from_residual-in_err-yes.ensures.1
    (λ k h. fails_as _ _ _
    (asks c.args.self.end c.args.outside c.args.tokens.now (expression_tree c.in_ok-test.test) c.in_ok-test.rest.now c.in-Some.after.now c.in-Some.at c.in_ok-inside.inside c.in_ok-test.ensures.0 c.in-Some.ensures n.0 n.1 k h)
    (not_made _ _ _ _ c.expression.ensures c.in_err-yes.ensures (in_choice c.args.outside c.in-Some.at (expression_tree c.in_ok-test.test) k) (no_more _)))

pub conditional-returns-in_err-after_colon : goal.conditional-returns-in_err-after_colon
conditional-returns-in_err-after_colon t c =
    let n = made _ _ _ _ c.nested.ensures c.in_ok-inside.ensures.0 in
    let f = not_made _ _ _ _ c.expect.ensures c.in_err-after_colon.ensures in
    let y = made _ _ _ _ c.expression.ensures c.in_ok-yes.ensures.0 in
    let test = expression_tree c.in_ok-test.test in
    passed _ _ c.from_residual-in_err-after_colon.result _ c.from_residual-in_err-after_colon.ensures.1
    (λ k h. fails_syntax _ _ _ f.1
    (asks c.args.self.end c.args.outside c.args.tokens.now test c.in_ok-test.rest.now c.in-Some.after.now c.in-Some.at c.in_ok-inside.inside c.in_ok-test.ensures.0 c.in-Some.ensures n.0 n.1 k h
    ∙ y.0 (in_choice c.args.outside c.in-Some.at test k) (no_more _)
    ∙ no_colon c.args.self.end c.args.outside c.in_ok-inside.inside c.in-Some.at (expression_tree c.in_ok-yes.yes) k _ test y.1 f.0))

pub conditional-returns-in_err-no : goal.conditional-returns-in_err-no
conditional-returns-in_err-no t c =
    let n = made _ _ _ _ c.nested.ensures c.in_ok-inside.ensures.0 in
    let test = expression_tree c.in_ok-test.test in
    let chosen = expression_tree c.in_ok-yes.yes in
    passed _ _ c.from_residual-in_err-no.result _ c.from_residual-in_err-no.ensures.1
    (λ k h. fails_as _ _ _
    (chooses c.args.self.end c.args.outside c.args.tokens.now test chosen c.in_ok-test.rest.now c.in-Some.after.now c.in_ok-yes.before_colon.now c.in_ok-after_colon.after_colon.now c.in-Some.at _ c.in_ok-inside.inside
    c.in_ok-test.ensures.0 c.in-Some.ensures n.0 n.1 (made _ _ _ _ c.expression.ensures c.in_ok-yes.ensures.0).0 (made _ _ _ _ c.expect.ensures c.in_ok-after_colon.ensures.0) k h)
    (not_made _ _ _ _ c.conditional.ensures c.in_err-no.ensures (in_alternative c.args.outside c.in-Some.at test chosen k) (no_more _)))

pub conditional-returns : goal.conditional-returns
conditional-returns t c =
    let n = made _ _ _ _ c.nested.ensures c.in_ok-inside.ensures.0 in
    let e = c.in_ok-test.ensures in
    let y = made _ _ _ _ c.expression.ensures c.in_ok-yes.ensures.0 in
    let colon = made _ _ _ _ c.expect.ensures c.in_ok-after_colon.ensures.0 in
    let o = made _ _ _ _ c.conditional.ensures c.in_ok-no.ensures.0 in
    let w =
    c.in_ok-whole.ensures
    ∙ ap (λ q. conditional c.in-Some.at (expression_tree q.0) (expression_tree q.1) (expression_tree c.in_ok-no.no)) (c.in_ok-no.ensures.1 ∙ c.in_ok-after_colon.ensures.1)
    ∙ ap (λ e. conditional c.in-Some.at (expression_tree e) (expression_tree c.in_ok-yes.yes) (expression_tree c.in_ok-no.no)) (c.in_ok-yes.ensures.1 ∙ c.in_ok-inside.ensures.1) in (
      reads_conditional c.args.self.end c.args.outside c.args.tokens.now (expression_tree c.in_ok-test.test) (expression_tree c.in_ok-yes.yes) (expression_tree c.in_ok-no.no) (expression_tree c.in_ok-whole.whole)
          c.in_ok-test.rest.now c.in-Some.after.now c.in_ok-yes.before_colon.now c.in_ok-after_colon.after_colon.now c.in_ok-no.last.now c.in-Some.at _ c.in_ok-inside.inside
          e.0 c.in-Some.ensures n.0 n.1 y.0 colon o.0 o.1 w,
      o.1,
      ap commas_in w,
      (let p = e.5 in let q = y.2 in let r = o.3 in omega (arith, ap length c.in-Some.ensures.cut, ap length colon.cut)),
    )

-- An assignment

pub assignment-returns-then-not-is_unary : goal.assignment-returns-then-not-is_unary
assignment-returns-then-not-is_unary t c = λ k h.
    c.in_ok-left.ensures.0 k (le_more 1 h) ∙ no_assignment c.args.self.end c.args.outside (expression_tree c.in_ok-left.left) k c.in_ok-left.rest.now c.in-Some.at c.in-Some.after.now c.in-Some.op c.in-Some.ensures h (sym c.is_unary.ensures ∙ c.if-not-is_unary.true)

pub assignment-returns-in_err-inside : goal.assignment-returns-in_err-inside
assignment-returns-in_err-inside t c =
    let f = not_made _ _ _ _ c.nested.ensures c.in_err-inside.ensures in
    passed _ _ c.from_residual-in_err-inside.result _ c.from_residual-in_err-inside.ensures.1
    (λ k h. fails_nesting _ _ _ f.0
    (c.in_ok-left.ensures.0 k (le_more 1 h)
    ∙ deep_assignment c.args.self.end c.args.outside (expression_tree c.in_ok-left.left) k c.in_ok-left.rest.now c.in-Some.at c.in-Some.after.now c.in-Some.op c.in-Some.ensures h (sym c.is_unary.ensures ∙ c.if-not-is_unary.false) f.1))

pub assignment-returns-in_err-right : goal.assignment-returns-in_err-right
assignment-returns-in_err-right t c =
    let n = made _ _ _ _ c.nested.ensures c.in_ok-inside.ensures.0 in
    let left = expression_tree c.in_ok-left.left in
    passed _ _ c.from_residual-in_err-right.result _ c.from_residual-in_err-right.ensures.1
    (λ k h. fails_as _ _ _
    (assigns c.args.self.end c.args.outside c.args.tokens.now left c.in_ok-left.rest.now c.in-Some.after.now c.in-Some.op c.in-Some.at c.in_ok-inside.inside c.in_ok-left.ensures.0 c.in-Some.ensures (sym c.is_unary.ensures ∙ c.if-not-is_unary.false) n.0 n.1 k h)
    (not_made _ _ _ _ c.assignment.ensures c.in_err-right.ensures (in_assignment c.args.outside c.in-Some.op c.in-Some.at left k) (no_more _)))

pub assignment-returns : goal.assignment-returns
assignment-returns t c =
    let n = made _ _ _ _ c.nested.ensures c.in_ok-inside.ensures.0 in
    let l = c.in_ok-left.ensures in
    let r = made _ _ _ _ c.assignment.ensures c.in_ok-right.ensures.0 in
    let w = c.in_ok-whole.ensures ∙ ap (λ e. assignment c.in-Some.op c.in-Some.at (expression_tree e) (expression_tree c.in_ok-right.right)) (c.in_ok-right.ensures.1 ∙ c.in_ok-inside.ensures.1) in (
      reads_assignment c.args.self.end c.args.outside c.args.tokens.now (expression_tree c.in_ok-left.left) (expression_tree c.in_ok-right.right) (expression_tree c.in_ok-whole.whole)
          c.in_ok-left.rest.now c.in-Some.after.now c.in_ok-right.last.now c.in-Some.op c.in-Some.at c.in_ok-inside.inside l.0 c.in-Some.ensures (sym c.is_unary.ensures ∙ c.if-not-is_unary.false) n.0 n.1 r.0 r.1 w,
      r.1,
      ap commas_in w,
      (let p = l.3 in let q = r.3 in omega (arith, ap length c.in-Some.ensures.cut)),
    )

-- An expression with commas

pub expression-returns-in_err-inside : goal.expression-returns-in_err-inside
expression-returns-in_err-inside t c =
    let i = c.loop-comma.invariant in
    let f = not_made _ _ _ _ c.nested.ensures c.in_err-inside.ensures in
    passed _ _ c.from_residual-in_err-inside.result _ c.from_residual-in_err-inside.ensures.1
    (λ k h. fails_nesting _ _ _ f.0
    (i.0 k h
    ∙ deep_comma c.args.self.end c.args.outside c.args.outside c.in-Some.comma.at (expression_tree c.loop-comma.left) k c.loop-comma.rest.now c.in-Some.comma c.in-Some.after.now c.in-Some.ensures h
    (subst (λ m. 128 < c.args.outside + (m + 1)) (sym i.2) f.1)))

pub expression-returns-in_err-right : goal.expression-returns-in_err-right
expression-returns-in_err-right t c =
    let i = c.loop-comma.invariant in
    let n = made _ _ _ _ c.nested.ensures c.in_ok-inside.ensures.0 in
    let left = expression_tree c.loop-comma.left in
    passed _ _ c.from_residual-in_err-right.result _ c.from_residual-in_err-right.ensures.1
    (λ k h. fails_as _ _ _
    (joins_comma c.args.self.end c.args.outside c.args.tokens.now left c.loop-comma.rest.now c.in-Some.after.now c.in-Some.comma c.loop-comma.count c.in_ok-inside.inside i.0 i.2 c.in-Some.ensures n.0 n.1 k h)
    (not_made _ _ _ _ c.assignment-in-loop-comma.ensures c.in_err-right.ensures (in_comma c.args.outside c.in-Some.comma.at left k) (no_more _)))

pub expression-loop-comma-preserved : goal.expression-loop-comma-preserved
expression-loop-comma-preserved t c =
    let i = c.loop-comma.invariant in
    let n = made _ _ _ _ c.nested.ensures c.in_ok-inside.ensures.0 in
    let r = made _ _ _ _ c.assignment-in-loop-comma.ensures c.in_ok-right.ensures.0 in
    let w = c.in_ok-left-2.ensures ∙ ap (λ e. comma c.in-Some.comma.at (expression_tree e) (expression_tree c.in_ok-right.right)) (c.in_ok-right.ensures.1 ∙ c.in_ok-inside.ensures.1) in (
      reads_comma c.args.self.end c.args.outside c.args.tokens.now (expression_tree c.loop-comma.left) (expression_tree c.in_ok-right.right) (expression_tree c.in_ok-left-2.left) c.loop-comma.rest.now c.in-Some.after.now c.in_ok-right.next.now
          c.in-Some.comma c.loop-comma.count c.in_ok-inside.inside i.0 i.2 c.in-Some.ensures n.0 n.1 r.0 r.1 w,
      r.1,
      ap commas_in w ∙ ap (λ m. m + 1) i.2,
      (let p = n.0 in let q = n.1 in omega arith),
      (let p = r.3 in let q = i.4 in omega (arith, ap length c.in-Some.ensures.cut)),
    )
