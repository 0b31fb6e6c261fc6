-- Each form of expression by the lemmas on it, and arguments one by one.
use Rattle.std.proofs.lemmas.Result.{IfOk-weaker, on_ok_weaker}
use Rattle.std.proofs.Common.{ap, ◌++◌, length, refl}
use Rattle.pk_ast.specs.Trees as ast
use Rattle.pk_ast.specs.Views.{expression_tree, expression_trees}
use Rattle.pk_type_expression.specs.Mentions.{mentions_of_each}
use Rattle.pk_type_scope.specs.Declarations.{Names}
use Rattle.pk_type_scope.specs.Scopes.{names_in, scoping_of}
use Rattle.pk_type_scope.specs.Notes.{noted_in}
use Rattle.pk_type_expression.specs.Views.{known_of}
use Rattle.pk_type_expression.proofs.ArmLemmas as arm
use Rattle.pk_type_expression.proofs.PartLemmas.{one_part, two_parts, three_parts, element_parts, cast_parts, call_parts}
use Rattle.pk_type_expression.proofs.ResultLemmas.{whatever}
use Rattle.pk_type_expression.proofs.WalkLemmas.{next, next_notes, next_mentions, next_values, at_end, end_notes, end_mentions, end_values, begin_values}
use Rattle.pk_type_expression.proofs.expressions.+expressions.Goals as goal

pub expression-returns-in-Name-clause-notes : goal.expression-returns-in-Name-clause-notes
unfolding expression_tree
expression-returns-in-Name-clause-notes t c =
    on_ok_weaker c.name.result (arm.name_notes (names_in (scoping_of c.args.scope.now)) _ _ _ _ _ (ap expression_tree c.in-Name.is) c.lookup.ensures) c.name.ensures.notes

pub expression-returns-in-Name-clause-known : goal.expression-returns-in-Name-clause-known
unfolding expression_tree
expression-returns-in-Name-clause-known t c =
    IfOk-weaker c.name.result _ _ (λ v h. arm.name_known (names_in (scoping_of c.args.scope.now)) _ _ _ _ _ (ap expression_tree c.in-Name.is) c.lookup.ensures h) c.name.ensures.known

pub expression-returns-in_ok-all-in-Call-clause-notes : goal.expression-returns-in_ok-all-in-Call-clause-notes
expression-returns-in_ok-all-in-Call-clause-notes t c =
    on_ok_weaker c.call-in-Call.result (arm.call_notes (names_in (scoping_of c.args.scope.now)) _ _ _ _ _ _ _ _ _ (call_parts c.args.e.now _ _ _ c.in-Call.is c.as_slice.ensures.value) c.lookup-declared.ensures c.in_ok-call-in-Call.ensures c.in_ok-all-in-Call.ensures.notes c.in_ok-all-in-Call.ensures.mentions) c.call-in-Call.ensures.notes

pub expression-returns-in_ok-all-in-Call-clause-known : goal.expression-returns-in_ok-all-in-Call-clause-known
expression-returns-in_ok-all-in-Call-clause-known t c =
    IfOk-weaker c.call-in-Call.result _ _ (λ v h. arm.call_known' (names_in (scoping_of c.args.scope.now)) _ _ _ _ _ _ _ _ _ _ (call_parts c.args.e.now _ _ _ c.in-Call.is c.as_slice.ensures.value) c.lookup-declared.ensures c.in_ok-call-in-Call.ensures c.in_ok-all-in-Call.ensures.mentions c.in_ok-all-in-Call.ensures.values c.count-site.ensures h) c.call-in-Call.ensures.known

pub expression-returns-in_ok-index-in-Index-clause-notes : goal.expression-returns-in_ok-index-in-Index-clause-notes
unfolding expression_tree
expression-returns-in_ok-index-in-Index-clause-notes t c =
    on_ok_weaker c.element.result (arm.element_notes (names_in (scoping_of c.args.scope.now)) _ _ _ _ _ _ _ _ (one_part (ast.index c.in-Index.x c.in-Index.at) _ _ _ (ap expression_tree c.in-Index.is) c.deref.ensures) c.lookup-in-Index.ensures c.in_ok-index-in-Index.ensures.notes) c.element.ensures.notes

pub expression-returns-in_ok-index-in-Index-clause-known : goal.expression-returns-in_ok-index-in-Index-clause-known
unfolding expression_tree
expression-returns-in_ok-index-in-Index-clause-known t c =
    IfOk-weaker c.element.result _ _ (λ v h. arm.element_known (names_in (scoping_of c.args.scope.now)) _ _ _ _ _ _ _ _ (one_part (ast.index c.in-Index.x c.in-Index.at) _ _ _ (ap expression_tree c.in-Index.is) c.deref.ensures) c.lookup-in-Index.ensures c.in_ok-index-in-Index.ensures.known h) c.element.ensures.known

pub expression-returns-in_ok-second-in-Element-clause-notes : goal.expression-returns-in_ok-second-in-Element-clause-notes
unfolding expression_tree
expression-returns-in_ok-second-in-Element-clause-notes t c =
    on_ok_weaker c.row_element.result (arm.row_element_notes (names_in (scoping_of c.args.scope.now)) _ _ _ _ _ _ _ _ _ _ _ (element_parts _ _ _ _ _ _ _ (ap expression_tree c.in-Element.is) c.deref-in-Element.ensures c.deref-in-Element-2.ensures c.deref-in-Element-3.ensures) c.lookup-in-Element.ensures c.in_ok-first-in-Element.ensures.notes c.in_ok-second-in-Element.ensures.notes) c.row_element.ensures.notes

pub expression-returns-in_ok-second-in-Element-clause-known : goal.expression-returns-in_ok-second-in-Element-clause-known
unfolding expression_tree
expression-returns-in_ok-second-in-Element-clause-known t c =
    IfOk-weaker c.row_element.result _ _ (λ v h. arm.row_element_known (names_in (scoping_of c.args.scope.now)) _ _ _ _ _ _ _ _ _ (known_of v) _ _ (element_parts _ _ _ _ _ _ _ (ap expression_tree c.in-Element.is) c.deref-in-Element.ensures c.deref-in-Element-2.ensures c.deref-in-Element-3.ensures) c.lookup-in-Element.ensures c.in_ok-first-in-Element.ensures.known c.in_ok-second-in-Element.ensures.known h) c.row_element.ensures.known

pub expression-returns-in-Constant-clause-notes : goal.expression-returns-in-Constant-clause-notes
unfolding expression_tree
expression-returns-in-Constant-clause-notes t c =
    whatever c.constant.result (arm.constant_notes (names_in (scoping_of c.args.scope.now)) _ _ _ _ _ (ap expression_tree c.in-Constant.is))

pub expression-returns-in-Constant-clause-known : goal.expression-returns-in-Constant-clause-known
unfolding expression_tree
expression-returns-in-Constant-clause-known t c =
    IfOk-weaker c.constant.result _ _ (λ v h. arm.constant_known (names_in (scoping_of c.args.scope.now)) _ _ _ _ _ _ (ap expression_tree c.in-Constant.is) h) c.constant.ensures

pub expression-returns-in-Character-clause-notes : goal.expression-returns-in-Character-clause-notes
unfolding expression_tree
expression-returns-in-Character-clause-notes t c =
    whatever c.character.result (arm.character_notes (names_in (scoping_of c.args.scope.now)) _ _ _ _ (ap expression_tree c.in-Character.is))

pub expression-returns-in-Character-clause-known : goal.expression-returns-in-Character-clause-known
unfolding expression_tree
expression-returns-in-Character-clause-known t c =
    IfOk-weaker c.character.result _ _ (λ v h. arm.character_known (names_in (scoping_of c.args.scope.now)) _ _ _ _ _ (ap expression_tree c.in-Character.is) h) c.character.ensures

pub expression-returns-in-Parenthesized-clause-notes : goal.expression-returns-in-Parenthesized-clause-notes
unfolding expression_tree
expression-returns-in-Parenthesized-clause-notes t c =
    on_ok_weaker c.expression.result (arm.parenthesized_notes (names_in (scoping_of c.args.scope.now)) _ _ _ _ _ (one_part (ast.parenthesized c.in-Parenthesized.field-0) _ _ _ (ap expression_tree c.in-Parenthesized.is) c.deref-in-Parenthesized.ensures)) c.expression.ensures.notes

pub expression-returns-in-Parenthesized-clause-known : goal.expression-returns-in-Parenthesized-clause-known
unfolding expression_tree
expression-returns-in-Parenthesized-clause-known t c =
    IfOk-weaker c.expression.result _ _ (λ v h. arm.parenthesized_known (names_in (scoping_of c.args.scope.now)) _ _ _ _ _ (one_part (ast.parenthesized c.in-Parenthesized.field-0) _ _ _ (ap expression_tree c.in-Parenthesized.is) c.deref-in-Parenthesized.ensures) h) c.expression.ensures.known

pub expression-returns-in_ok-operand-in-Postfix-clause-notes : goal.expression-returns-in_ok-operand-in-Postfix-clause-notes
unfolding expression_tree
expression-returns-in_ok-operand-in-Postfix-clause-notes t c =
    on_ok_weaker c.step.result (arm.postfix_notes (names_in (scoping_of c.args.scope.now)) _ _ _ _ _ _ _ _ _ (one_part (ast.postfix c.in-Postfix.op c.in-Postfix.at) _ _ _ (ap expression_tree c.in-Postfix.is) c.deref-in-Postfix.ensures) c.in_ok-operand-in-Postfix.ensures.notes c.in_ok-operand-in-Postfix.ensures.known) c.step.ensures.notes

pub expression-returns-in_ok-operand-in-Postfix-clause-known : goal.expression-returns-in_ok-operand-in-Postfix-clause-known
unfolding expression_tree
expression-returns-in_ok-operand-in-Postfix-clause-known t c =
    IfOk-weaker c.step.result _ _ (λ v h. arm.postfix_known (names_in (scoping_of c.args.scope.now)) _ _ _ _ _ _ _ (one_part (ast.postfix c.in-Postfix.op c.in-Postfix.at) _ _ _ (ap expression_tree c.in-Postfix.is) c.deref-in-Postfix.ensures) c.in_ok-operand-in-Postfix.ensures.known h) c.step.ensures.known

pub expression-returns-in_ok-operand-in-Prefix-clause-notes : goal.expression-returns-in_ok-operand-in-Prefix-clause-notes
unfolding expression_tree
expression-returns-in_ok-operand-in-Prefix-clause-notes t c =
    on_ok_weaker c.step-in-Prefix.result (arm.prefix_notes (names_in (scoping_of c.args.scope.now)) _ _ _ _ _ _ _ _ _ (one_part (ast.prefix c.in-Prefix.op c.in-Prefix.at) _ _ _ (ap expression_tree c.in-Prefix.is) c.deref-in-Prefix.ensures) c.in_ok-operand-in-Prefix.ensures.notes c.in_ok-operand-in-Prefix.ensures.known) c.step-in-Prefix.ensures.notes

pub expression-returns-in_ok-operand-in-Prefix-clause-known : goal.expression-returns-in_ok-operand-in-Prefix-clause-known
unfolding expression_tree
expression-returns-in_ok-operand-in-Prefix-clause-known t c =
    IfOk-weaker c.step-in-Prefix.result _ _ (λ v h. arm.prefix_known (names_in (scoping_of c.args.scope.now)) _ _ _ _ _ _ _ (one_part (ast.prefix c.in-Prefix.op c.in-Prefix.at) _ _ _ (ap expression_tree c.in-Prefix.is) c.deref-in-Prefix.ensures) c.in_ok-operand-in-Prefix.ensures.known h) c.step-in-Prefix.ensures.known

pub expression-returns-in_ok-operand-in-Unary-clause-notes : goal.expression-returns-in_ok-operand-in-Unary-clause-notes
unfolding expression_tree
expression-returns-in_ok-operand-in-Unary-clause-notes t c =
    whatever c.unary.result (arm.unary_notes (names_in (scoping_of c.args.scope.now)) _ _ _ _ _ _ (one_part (ast.unary c.in-Unary.op c.in-Unary.at) _ _ _ (ap expression_tree c.in-Unary.is) c.deref-in-Unary.ensures) c.in_ok-operand-in-Unary.ensures.notes)

pub expression-returns-in_ok-operand-in-Unary-clause-known : goal.expression-returns-in_ok-operand-in-Unary-clause-known
unfolding expression_tree
expression-returns-in_ok-operand-in-Unary-clause-known t c =
    IfOk-weaker c.unary.result _ _ (λ v h. arm.unary_known (names_in (scoping_of c.args.scope.now)) _ _ _ _ _ _ _ (one_part (ast.unary c.in-Unary.op c.in-Unary.at) _ _ _ (ap expression_tree c.in-Unary.is) c.deref-in-Unary.ensures) c.in_ok-operand-in-Unary.ensures.known h) c.unary.ensures

pub expression-returns-in_ok-operand-in-Cast-clause-notes : goal.expression-returns-in_ok-operand-in-Cast-clause-notes
unfolding expression_tree
expression-returns-in_ok-operand-in-Cast-clause-notes t c =
    whatever c.cast.result (arm.cast_notes' (names_in (scoping_of c.args.scope.now)) _ _ _ _ _ _ _ _ _ _ _ _ (cast_parts _ _ _ _ _ _ (ap expression_tree c.in-Cast.is) c.deref-words.ensures c.deref-inner.ensures) c.note_specifiers.ensures c.type_named-to.ensures c.in_ok-operand-in-Cast.ensures.notes c.in_ok-operand-in-Cast.ensures.known c.is_void.ensures c.note_void.ensures)

pub expression-returns-in_ok-operand-in-Cast-clause-known : goal.expression-returns-in_ok-operand-in-Cast-clause-known
unfolding expression_tree
expression-returns-in_ok-operand-in-Cast-clause-known t c =
    IfOk-weaker c.cast.result _ _ (λ v h. arm.cast_known' (names_in (scoping_of c.args.scope.now)) _ _ _ _ _ (known_of v) _ _ _ (cast_parts _ _ _ _ _ _ (ap expression_tree c.in-Cast.is) c.deref-words.ensures c.deref-inner.ensures) c.note_specifiers.ensures c.type_named-to.ensures c.in_ok-operand-in-Cast.ensures.known h) c.cast.ensures

pub expression-returns-in_ok-second-in-Binary-clause-notes : goal.expression-returns-in_ok-second-in-Binary-clause-notes
unfolding expression_tree
expression-returns-in_ok-second-in-Binary-clause-notes t c =
    on_ok_weaker c.binary.result (arm.binary_notes (names_in (scoping_of c.args.scope.now)) _ _ _ _ _ _ _ _ _ _ _ _ _ (two_parts (ast.binary c.in-Binary.op c.in-Binary.at) _ _ _ _ _ (ap expression_tree c.in-Binary.is) c.deref-in-Binary.ensures c.deref-in-Binary-2.ensures) c.in_ok-first-in-Binary.ensures.notes c.in_ok-first-in-Binary.ensures.known c.in_ok-second-in-Binary.ensures.notes c.in_ok-second-in-Binary.ensures.known) c.binary.ensures.notes

pub expression-returns-in_ok-second-in-Binary-clause-known : goal.expression-returns-in_ok-second-in-Binary-clause-known
unfolding expression_tree
expression-returns-in_ok-second-in-Binary-clause-known t c =
    IfOk-weaker c.binary.result _ _ (λ v h. arm.binary_known (names_in (scoping_of c.args.scope.now)) _ _ _ _ _ (known_of v) _ _ _ _ (two_parts (ast.binary c.in-Binary.op c.in-Binary.at) _ _ _ _ _ (ap expression_tree c.in-Binary.is) c.deref-in-Binary.ensures c.deref-in-Binary-2.ensures) c.in_ok-first-in-Binary.ensures.notes c.in_ok-first-in-Binary.ensures.known c.in_ok-second-in-Binary.ensures.known h) c.binary.ensures.known

pub expression-returns-in_ok-third-in-Conditional-clause-notes : goal.expression-returns-in_ok-third-in-Conditional-clause-notes
unfolding expression_tree
expression-returns-in_ok-third-in-Conditional-clause-notes t c =
    whatever c.conditional.result (arm.conditional_notes (names_in (scoping_of c.args.scope.now)) _ _ _ _ _ _ _ _ _ (three_parts (ast.conditional c.in-Conditional.at) _ _ _ _ _ _ _ (ap expression_tree c.in-Conditional.is) c.deref-in-Conditional.ensures c.deref-in-Conditional-2.ensures c.deref-in-Conditional-3.ensures) c.in_ok-first-in-Conditional.ensures.notes c.in_ok-second-in-Conditional.ensures.notes c.in_ok-third-in-Conditional.ensures.notes)

pub expression-returns-in_ok-third-in-Conditional-clause-known : goal.expression-returns-in_ok-third-in-Conditional-clause-known
unfolding expression_tree
expression-returns-in_ok-third-in-Conditional-clause-known t c =
    IfOk-weaker c.conditional.result _ _ (λ v h. arm.conditional_known (names_in (scoping_of c.args.scope.now)) _ _ _ _ _ (known_of v) _ _ _ _ _ _ (three_parts (ast.conditional c.in-Conditional.at) _ _ _ _ _ _ _ (ap expression_tree c.in-Conditional.is) c.deref-in-Conditional.ensures c.deref-in-Conditional-2.ensures c.deref-in-Conditional-3.ensures) c.in_ok-first-in-Conditional.ensures.notes c.in_ok-first-in-Conditional.ensures.known c.in_ok-second-in-Conditional.ensures.notes c.in_ok-second-in-Conditional.ensures.known c.in_ok-third-in-Conditional.ensures.known h) c.conditional.ensures

pub expression-returns-in_ok-second-in-Assignment-clause-notes : goal.expression-returns-in_ok-second-in-Assignment-clause-notes
unfolding expression_tree
expression-returns-in_ok-second-in-Assignment-clause-notes t c =
    on_ok_weaker c.assignment.result (arm.assignment_notes' (names_in (scoping_of c.args.scope.now)) _ _ _ _ _ _ _ _ _ _ _ _ _ _ _ _ (two_parts (ast.assignment c.in-Assignment.op c.in-Assignment.at) _ _ _ _ _ (ap expression_tree c.in-Assignment.is) c.deref-left.ensures c.deref-in-Assignment.ensures) c.in_ok-first-in-Assignment.ensures.notes c.in_ok-first-in-Assignment.ensures.known c.number_operator.ensures c.is_some.ensures c.note_void-in-Assignment.ensures c.in_ok-second-in-Assignment.ensures.notes c.in_ok-second-in-Assignment.ensures.known) c.assignment.ensures.notes

pub expression-returns-in_ok-second-in-Assignment-clause-known : goal.expression-returns-in_ok-second-in-Assignment-clause-known
unfolding expression_tree
expression-returns-in_ok-second-in-Assignment-clause-known t c =
    IfOk-weaker c.assignment.result _ _ (λ v h. arm.assignment_known' (names_in (scoping_of c.args.scope.now)) _ _ _ _ _ (known_of v) _ _ _ _ (noted_in c.note_void-in-Assignment.new.notes) (two_parts (ast.assignment c.in-Assignment.op c.in-Assignment.at) _ _ _ _ _ (ap expression_tree c.in-Assignment.is) c.deref-left.ensures c.deref-in-Assignment.ensures) c.in_ok-first-in-Assignment.ensures.notes c.in_ok-first-in-Assignment.ensures.known (ap (λ u. length u.calls) c.note_void-in-Assignment.ensures) c.in_ok-second-in-Assignment.ensures.known h) c.assignment.ensures.known

pub expression-returns-in_ok-second-in-Comma-clause-notes : goal.expression-returns-in_ok-second-in-Comma-clause-notes
unfolding expression_tree
expression-returns-in_ok-second-in-Comma-clause-notes t c =
    whatever c.comma.result (arm.comma_notes (names_in (scoping_of c.args.scope.now)) _ _ _ _ _ _ _ (two_parts (ast.comma c.in-Comma.at) _ _ _ _ _ (ap expression_tree c.in-Comma.is) c.deref-in-Comma.ensures c.deref-in-Comma-2.ensures) c.in_ok-first-in-Comma.ensures.notes c.in_ok-second-in-Comma.ensures.notes)

pub expression-returns-in_ok-second-in-Comma-clause-known : goal.expression-returns-in_ok-second-in-Comma-clause-known
unfolding expression_tree
expression-returns-in_ok-second-in-Comma-clause-known t c =
    IfOk-weaker c.comma.result _ _ (λ v h. arm.comma_known (names_in (scoping_of c.args.scope.now)) _ _ _ _ (known_of v) _ _ _ _ (two_parts (ast.comma c.in-Comma.at) _ _ _ _ _ (ap expression_tree c.in-Comma.is) c.deref-in-Comma.ensures c.deref-in-Comma-2.ensures) c.in_ok-first-in-Comma.ensures.notes c.in_ok-first-in-Comma.ensures.known c.in_ok-second-in-Comma.ensures.known h) c.comma.ensures

pub used-returns-clause-notes : goal.used-returns-clause-notes
used-returns-clause-notes t c =
    arm.used_notes (names_in (scoping_of c.args.scope.now)) _ _ _ _ _ _ c.in_ok-checked.ensures.notes c.in_ok-checked.ensures.known c.note_void.ensures

pub used-returns-clause-known : goal.used-returns-clause-known
used-returns-clause-known t c =
    c.in_ok-checked.ensures.known

pub arguments-loop-e-init : goal.arguments-loop-e-init
arguments-loop-e-init t c =
    record {
      notes = refl;
      mentions = ap (λ ms. ms ++ mentions_of_each (names_in (scoping_of c.args.scope.now)) (expression_trees c.args.list.now)) c.none-all.ensures.mentions;
      values = begin_values _ _ c.none-all.ensures.values;
    }

pub arguments-loop-e-preserved : goal.arguments-loop-e-preserved
arguments-loop-e-preserved t c =
    let d : Names = names_in (scoping_of c.args.scope.now) in
    let i = c.loop-e.invariant in
    let a = c.in_ok-argument.ensures in
    let b = c.in_ok-all.ensures in
    let now = next c.args.list.now c.loop-e.e-index c.e-item.result c.loop-e-test.true c.e-item.is in
    record {
      notes = next_notes d _ _ _ _ _ _ now i.notes a.notes;
      mentions = next_mentions d _ _ _ _ _ _ _ _ now i.mentions a.known b.mentions;
      values = next_values d _ _ _ _ _ _ _ _ _ now i.values a.notes a.known b.values;
    }

pub arguments-returns-clause-notes : goal.arguments-returns-clause-notes
arguments-returns-clause-notes t c =
    end_notes (names_in (scoping_of c.args.scope.now)) _ _ _ (at_end c.args.list.now c.loop-e.e-index c.loop-e-test.false) c.loop-e.invariant.notes

pub arguments-returns-clause-mentions : goal.arguments-returns-clause-mentions
arguments-returns-clause-mentions t c =
    end_mentions (names_in (scoping_of c.args.scope.now)) _ _ _ (at_end c.args.list.now c.loop-e.e-index c.loop-e-test.false) c.loop-e.invariant.mentions

pub arguments-returns-clause-values : goal.arguments-returns-clause-values
arguments-returns-clause-values t c =
    end_values (names_in (scoping_of c.args.scope.now)) _ _ _ _ (at_end c.args.list.now c.loop-e.e-index c.loop-e-test.false) c.loop-e.invariant.values
