-- What the steps of an expression leave.
use Rattle.std.proofs.Common.{◌≡◌, ℕ, suc, ◌+◌, ◌≤◌, List, Bool, true, false, Option, Some, None, refl, arith}
use Rattle.std.specs.Prelude.{if◌then◌else◌, nat_le}
use Rattle.pk_ctypes.specs.declared.places.Pos.{Pos}
use Rattle.pk_lex.specs.declared.token.Token.{Token}
use Rattle.pk_lex.specs.declared.token.Kind.TheVariants as kind
use Rattle.pk_lex.specs.declared.token.Punctuator.TheVariants as mark
use Rattle.pk_ast.specs.declared.declarations.SpecifierWord.{SpecifierWord}
use Rattle.pk_ast.specs.declared.declarations.Specifier.{Specifier}
use Rattle.pk_ast.specs.declared.expressions.Identifier.{Identifier}
use Rattle.pk_ast.specs.declared.operators.BinaryOperator.{BinaryOperator}
use Rattle.pk_ast.specs.declared.operators.BinaryOperator.TheVariants as op
use Rattle.pk_ast.specs.declared.operators.AssignmentOperator.{AssignmentOperator}
use Rattle.pk_ast.specs.Trees.{OneOrMore, ExpressionTree, name, call, index, element, constant, character, parenthesized, postfix, prefix, unary, cast, binary, conditional, assignment, comma, no_expressions}
use Rattle.pk_grammar.specs.declared.signs.Fixed.TheVariants as fixed
use Rattle.pk_grammar.specs.declared.signs.OperandStart.{OperandStart}
use Rattle.pk_grammar.specs.declared.signs.OperandStart.TheVariants as start
use Rattle.pk_grammar.specs.declared.signs.Operator.{Operator}
use Rattle.pk_grammar.specs.declared.signs.Operator.TheVariants as operator
use Rattle.pk_grammar.specs.Languages.{Marked, Identified, ◌⊙◌, Inside}
use Rattle.pk_grammar.specs.Grammar.{any_expression, assignment_expression, conditional_expression, strength, weakest_operator, cast_expression, unary_expression, postfix_expression, Fits, spelled, punctuator, punctuator_at}
use Rattle.pk_grammar.specs.Machine.Signs.{operand_start, operator_of, specifier_word}
use Rattle.pk_grammar.specs.Machine.States.{Purpose, as_statement, as_label, as_test, as_last_test, as_first, as_second, as_third, as_result, as_length, as_columns, as_value, as_item, as_row_item, as_enumerator, as_parameter_length, as_parameter_columns, Context, as_whole, in_parentheses, in_index, in_column, in_call, in_prefix, in_unary, in_cast, in_binary, in_choice, in_alternative, in_assignment, in_comma}
use Rattle.pk_grammar.specs.Machine.Steps.{refused, Reduced, reduced, purpose_level, operand_level, begin_operand, at_operand, end_expression, comma_after, join_comma, join_binary, join_question, is_unary, join_assignment, go_on, at_complete, at_named, at_indexed, at_arguments, open_cast, at_opened, more_cast, next_word, end_in_enum}
use Rattle.pk_grammar.proofs.SpellsSigns.{IsOperand, is_operand, IsOperator, is_operator, IsSpecifier, is_specifier, IsNext, is_next}
use Rattle.pk_grammar.proofs.SpellsWords.{◌▹◌, push, none_more, gather, last_as, moved, assoc, then_as}
use Rattle.pk_grammar.proofs.SpellsLists.{expressions_end, expressions_comma, all_fit, one_more_word, first_word, whole_words}
use Rattle.pk_grammar.proofs.SpellsStates.{bare, open_words, to_operand, operand_nesting}
use Rattle.pk_grammar.proofs.SpellsGood.{Good, if_good, fixed_good, wanted_good, le_true, le_false}
use Rattle.pk_grammar.proofs.SpellsPurposes.{end_purpose_good, comma_purpose_good}

-- Levels

strength_most : (o : BinaryOperator) → strength o ≤ 12
strength_most op.LogicalOr = omega arith
strength_most op.LogicalAnd = omega arith
strength_most op.Or = omega arith
strength_most op.ExclusiveOr = omega arith
strength_most op.And = omega arith
strength_most op.Equal = omega arith
strength_most op.NotEqual = omega arith
strength_most op.Less = omega arith
strength_most op.Greater = omega arith
strength_most op.LessOrEqual = omega arith
strength_most op.GreaterOrEqual = omega arith
strength_most op.ShiftLeft = omega arith
strength_most op.ShiftRight = omega arith
strength_most op.Add = omega arith
strength_most op.Subtract = omega arith
strength_most op.Multiply = omega arith
strength_most op.Divide = omega arith
strength_most op.Remainder = omega arith

strength_least : (o : BinaryOperator) → 3 ≤ strength o
strength_least op.LogicalOr = omega arith
strength_least op.LogicalAnd = omega arith
strength_least op.Or = omega arith
strength_least op.ExclusiveOr = omega arith
strength_least op.And = omega arith
strength_least op.Equal = omega arith
strength_least op.NotEqual = omega arith
strength_least op.Less = omega arith
strength_least op.Greater = omega arith
strength_least op.LessOrEqual = omega arith
strength_least op.GreaterOrEqual = omega arith
strength_least op.ShiftLeft = omega arith
strength_least op.ShiftRight = omega arith
strength_least op.Add = omega arith
strength_least op.Subtract = omega arith
strength_least op.Multiply = omega arith
strength_least op.Divide = omega arith
strength_least op.Remainder = omega arith

purpose_most : (p : Purpose) → purpose_level p ≤ 2
purpose_most (as_statement n o) = omega arith
purpose_most (as_label n at o) = omega arith
purpose_most (as_test k n at o) = omega arith
purpose_most (as_last_test n at s o) = omega arith
purpose_most (as_first n at o) = omega arith
purpose_most (as_second n at f o) = omega arith
purpose_most (as_third n at f second o) = omega arith
purpose_most (as_result n at o) = omega arith
purpose_most (as_length d id) = omega arith
purpose_most (as_columns d id e) = omega arith
purpose_most (as_value d) = omega arith
purpose_most (as_item d) = omega arith
purpose_most (as_row_item d at es) = omega arith
purpose_most (as_enumerator d id) = omega arith
purpose_most (as_parameter_length d) = omega arith
purpose_most (as_parameter_columns d l) = omega arith

operand_most : (c : Context) → operand_level c ≤ 14
operand_most (as_whole p) = let h = purpose_most p in omega arith
operand_most (in_parentheses n at c) = omega arith
operand_most (in_index n id at c) = omega arith
operand_most (in_column n id at e column_at c) = omega arith
operand_most (in_call n id es c) = omega arith
operand_most (in_prefix n o at c) = omega arith
operand_most (in_unary n o at c) = omega arith
operand_most (in_cast n at specs c) = omega arith
operand_most (in_binary n o at a c) = let h = strength_most o in omega arith
operand_most (in_choice n at e c) = omega arith
operand_most (in_alternative n at e a c) = omega arith
operand_most (in_assignment n o at a c) = omega arith
operand_most (in_comma n at a c) = omega arith

-- an expression of a form is of every weaker one
fits_weaker : (e : ExpressionTree) (l m : ℕ) → l ≤ m → Fits m e → Fits l e
fits_weaker (name id) l m h f = f
fits_weaker (call id es) l m h f = f
fits_weaker (index id at e) l m h f = f
fits_weaker (element id at e column_at c) l m h f = f
fits_weaker (constant at t v) l m h f = f
fits_weaker (character at v) l m h f = f
fits_weaker (parenthesized at e) l m h f = f
fits_weaker (postfix o at e) l m h f = (let g = f.0 in omega arith, f.1)
fits_weaker (prefix o at e) l m h f = (let g = f.0 in omega arith, f.1)
fits_weaker (unary o at e) l m h f = (let g = f.0 in omega arith, f.1)
fits_weaker (cast at specs e) l m h f = (let g = f.0 in omega arith, f.1)
fits_weaker (binary o at a b) l m h f = (let g = f.0 in omega arith, f.1, f.2)
fits_weaker (conditional at c a b) l m h f = (let g = f.0 in omega arith, f.1, f.2, f.3)
fits_weaker (assignment o at a b) l m h f = (let g = f.0 in omega arith, f.1, f.2)
fits_weaker (comma at a b) l m h f = (let g = f.0 in omega arith, f.1, f.2)

-- An operand begins

begin_operand_good : (n : ℕ) (c : Context) (t : Token) (ms : List Marked) (s : OperandStart) → IsOperand s t.kind → n ≡ operand_nesting c → to_operand c ms → Good (begin_operand n c t s) t ms
unfolding spelled
begin_operand_good n c t ms start.Name k en h = (en, push ms t h (k, refl))
begin_operand_good n c t ms (start.Constant ty v) k en h = ((en, tt), push ms t h (k, refl))
begin_operand_good n c t ms (start.Character v) k en h = ((en, tt), push ms t h (k, refl))
begin_operand_good n c t ms start.Parenthesis k en h = (en, push ms t h (k, refl))
begin_operand_good n c t ms (start.Step o) k en h = (refl, (en, push ms t h (k, refl)))
begin_operand_good n c t ms (start.Unary o) k en h = (refl, (en, push ms t h (k, refl)))
begin_operand_good n c t ms start.Other k en h = tt

pub at_operand_good : (n : ℕ) (c : Context) (t : Token) (ms : List Marked) → n ≡ operand_nesting c → to_operand c ms → Good (at_operand n c t) t ms
at_operand_good n c t ms en h = begin_operand_good n c t ms (operand_start t.kind) (is_operand t.kind) en h

-- What ends at an operator

record Stands (level : ℕ) (r : Reduced) (ms : List Marked) : Type 0 where
  nesting : r.nesting ≡ operand_nesting r.context
  fits : Fits level r.tree
  there : Fits (operand_level r.context) r.tree
  is : (to_operand r.context ▹ spelled r.tree r.nesting) ms

abbrev here : ℕ → ExpressionTree → Context → Reduced
here n e c = record { nesting = n; tree = e; context = c }

if_stands : (b : Bool) (level : ℕ) (r q : Reduced) (ms : List Marked) → (b ≡ true → Stands level r ms) → Stands level q ms → Stands level (if b then r else q) ms
if_stands true level r q ms g h = g refl
if_stands false level r q ms g h = h

reduced_stands : (level : ℕ) (c : Context) (n : ℕ) (e : ExpressionTree) (ms : List Marked) → level ≤ unary_expression → Stands level (here n e c) ms → Stands level (reduced level n e c) ms
unfolding reduced spelled
reduced_stands level (as_whole p) n e ms le s = s
reduced_stands level (in_parentheses m at c) n e ms le s = s
reduced_stands level (in_index m id at c) n e ms le s = s
reduced_stands level (in_column m id at d column_at c) n e ms le s = s
reduced_stands level (in_call m id es c) n e ms le s = s
reduced_stands level (in_prefix m o at c) n e ms le s = reduced_stands level c m (prefix o at e) ms le (record {
  nesting = s.is.first.0;
  fits = (le, s.there);
  there = (operand_most c, s.there);
  is = gather (bare (moved (spelled e) s.nesting s.is));
})
reduced_stands level (in_unary m o at c) n e ms le s = reduced_stands level c m (unary o at e) ms le (record {
  nesting = s.is.first.0;
  fits = (le, s.there);
  there = (operand_most c, s.there);
  is = gather (bare (moved (spelled e) s.nesting s.is));
})
reduced_stands level (in_cast m at specs c) n e ms le s = if_stands (nat_le level cast_expression) level _ _ ms
    (λ b. reduced_stands level c m (cast at specs e) ms le (record {
      nesting = s.is.first.0.0;
      fits = (le_true level cast_expression b, s.there);
      there = (s.is.first.0.1, s.there);
      is = gather (gather (gather (bare (moved (spelled e) s.nesting s.is))));
    })) s
reduced_stands level (in_binary m o at a c) n e ms le s = if_stands (nat_le level (strength o)) level _ _ ms
    (λ b. reduced_stands level c m (binary o at a e) ms le (record {
      nesting = s.is.first.0.0;
      fits = (le_true level (strength o) b, s.is.first.0.2, s.there);
      there = (s.is.first.0.1, s.is.first.0.2, s.there);
      is = gather (gather (bare (moved (spelled e) s.nesting s.is)));
    })) s
reduced_stands level (in_choice m at d c) n e ms le s = s
reduced_stands level (in_alternative m at d a c) n e ms le s = if_stands (nat_le level conditional_expression) level _ _ ms
    (λ b. reduced_stands level c m (conditional at d a e) ms le (record {
      nesting = s.is.first.0.0;
      fits = (le_true level conditional_expression b, s.is.first.0.2, s.is.first.0.3, s.there);
      there = (s.is.first.0.1, s.is.first.0.2, s.is.first.0.3, s.there);
      is = gather (gather (gather (bare (moved (spelled e) s.nesting s.is))));
    })) s
reduced_stands level (in_assignment m o at a c) n e ms le s = if_stands (nat_le level assignment_expression) level _ _ ms
    (λ b. reduced_stands level c m (assignment o at a e) ms le (record {
      nesting = s.is.first.0.0;
      fits = (le_true level assignment_expression b, s.is.first.0.2, s.there);
      there = (s.is.first.0.1, s.is.first.0.2, s.there);
      is = gather (gather (bare (moved (spelled e) s.nesting s.is)));
    })) s
reduced_stands level (in_comma m at a c) n e ms le s = if_stands (nat_le level any_expression) level _ _ ms
    (λ b. reduced_stands level c m (comma at a e) ms le (record {
      nesting = s.is.first.0.0;
      fits = (le_true level any_expression b, s.is.first.0.2, s.there);
      there = (s.is.first.0.1, s.is.first.0.2, s.there);
      is = gather (gather (bare (moved (spelled e) s.nesting s.is)));
    })) s

-- The level that is asked for where an expression that ends stands

if_level : (b : Bool) (r q : Reduced) (m : ℕ) → (b ≡ true → operand_level r.context ≤ m) → (b ≡ false → operand_level q.context ≤ m) → operand_level ((if b then r else q)).context ≤ m
if_level true r q m g h = g refl
if_level false r q m g h = h refl

-- m is enough there, if it is enough for a whole expression and for each operator and cast that this level leaves open
reduced_level : (level : ℕ) (m : ℕ) (c : Context) (n : ℕ) (e : ExpressionTree) → 2 ≤ m → ((o : BinaryOperator) → suc (strength o) ≤ level → strength o + 1 ≤ m) →
    (suc cast_expression ≤ level → cast_expression ≤ m) → operand_level (reduced level n e c).context ≤ m
unfolding reduced
reduced_level level m (as_whole p) n e low joins casts = let h = purpose_most p in omega arith
reduced_level level m (in_parentheses k at c) n e low joins casts = omega arith
reduced_level level m (in_index k id at c) n e low joins casts = omega arith
reduced_level level m (in_column k id at d column_at c) n e low joins casts = omega arith
reduced_level level m (in_call k id es c) n e low joins casts = omega arith
reduced_level level m (in_prefix k o at c) n e low joins casts = reduced_level level m c k (prefix o at e) low joins casts
reduced_level level m (in_unary k o at c) n e low joins casts = reduced_level level m c k (unary o at e) low joins casts
reduced_level level m (in_cast k at specs c) n e low joins casts = if_level (nat_le level cast_expression) _ _ m
    (λ b. reduced_level level m c k (cast at specs e) low joins casts) (λ b. casts (le_false level cast_expression b))
reduced_level level m (in_binary k o at a c) n e low joins casts = if_level (nat_le level (strength o)) _ _ m
    (λ b. reduced_level level m c k _ low joins casts) (λ b. joins o (le_false level (strength o) b))
reduced_level level m (in_choice k at d c) n e low joins casts = omega arith
reduced_level level m (in_alternative k at d a c) n e low joins casts = if_level (nat_le level conditional_expression) _ _ m
    (λ b. reduced_level level m c k (conditional at d a e) low joins casts) (λ b. low)
reduced_level level m (in_assignment k o at a c) n e low joins casts = if_level (nat_le level assignment_expression) _ _ m
    (λ b. reduced_level level m c k (assignment o at a e) low joins casts) (λ b. omega arith)
reduced_level level m (in_comma k at a c) n e low joins casts = if_level (nat_le level any_expression) _ _ m
    (λ b. reduced_level level m c k (comma at a e) low joins casts) (λ b. omega arith)

-- Where an expression ends

-- an index, and that of a column behind it
element_ends : (id : Identifier) (at : Pos) (e : ExpressionTree) (column_at : Pos) (d : ExpressionTree) (n : ℕ) (ts : List Marked) →
    (spelled (index id at e) ⊙ (Inside (punctuator_at mark.OpenBracket column_at ⊙ spelled d) ⊙ punctuator mark.CloseBracket)) n ts → spelled (element id at e column_at d) n ts
unfolding spelled
element_ends id at e column_at d n ts h = then_as (λ us g. assoc g) (assoc h)

end_expression_good : (c : Context) (n : ℕ) (e : ExpressionTree) (t : Token) (ms : List Marked) → Stands any_expression (here n e c) ms → Good (end_expression e c t) t ms
unfolding spelled
end_expression_good (as_whole p) n e t ms s = end_purpose_good p n e t ms s.nesting s.fits s.there s.is
end_expression_good (in_parentheses m at c) n e t ms s = wanted_good fixed.CloseParenthesis _ t ms (λ k.
    ((s.is.first.0, s.fits), gather (push ms t (gather (bare (moved (spelled e) s.nesting s.is))) k)))
end_expression_good (in_index m id at c) n e t ms s = wanted_good fixed.CloseBracket _ t ms (λ k.
    ((s.is.first.0, s.fits), gather (gather (push ms t (gather (bare (moved (spelled e) s.nesting s.is))) k))))
end_expression_good (in_column m id at d column_at c) n e t ms s = wanted_good fixed.CloseBracket _ t ms (λ k. (
  (s.is.first.0.0, (s.is.first.0.1, s.fits)),
  last_as (λ ts g. element_ends id at d column_at e m ts g) (gather (gather (push ms t (gather (bare (moved (spelled e) s.nesting s.is))) k))),
))
end_expression_good (in_call m id es c) n e t ms s = wanted_good fixed.CloseParenthesis _ t ms (λ k. (
  (s.is.first.0.0, all_fit es e s.is.first.0.1 s.there),
  gather (gather (push ms t (gather (last_as (λ ts g. expressions_end es e _ ts g) (gather (bare (moved (spelled e) s.nesting s.is))))) k)),
))
end_expression_good (in_prefix m o at c) n e t ms s = tt
end_expression_good (in_unary m o at c) n e t ms s = tt
end_expression_good (in_cast m at specs c) n e t ms s = tt
end_expression_good (in_binary m o at a c) n e t ms s = tt
end_expression_good (in_choice m at d c) n e t ms s = wanted_good fixed.Colon _ t ms (λ k.
    (refl, ((s.is.first.0.0, s.is.first.0.1, s.is.first.0.2, s.fits), push ms t (gather (bare (moved (spelled e) s.nesting s.is))) k)))
end_expression_good (in_alternative m at d a c) n e t ms s = tt
end_expression_good (in_assignment m o at a c) n e t ms s = tt
end_expression_good (in_comma m at a c) n e t ms s = tt

join_comma_good : (c : Context) (n : ℕ) (e : ExpressionTree) (t : Token) (ms : List Marked) → t.kind ≡ kind.Punctuator mark.Comma → operand_level c ≤ any_expression →
    Stands any_expression (here n e c) ms → Good (join_comma n e c t) t ms
join_comma_good c n e t ms k l s = (refl, ((s.nesting, l, s.fits), push ms t s.is (k, refl)))

comma_after_good : (c : Context) (n : ℕ) (e : ExpressionTree) (t : Token) (ms : List Marked) → t.kind ≡ kind.Punctuator mark.Comma → Stands any_expression (here n e c) ms →
    Good (comma_after n e c t) t ms
comma_after_good (as_whole p) n e t ms k s = comma_purpose_good p n e t ms k s.nesting s.fits s.there s.is
comma_after_good (in_parentheses m at c) n e t ms k s = join_comma_good (in_parentheses m at c) n e t ms k (omega arith) s
comma_after_good (in_index m id at c) n e t ms k s = join_comma_good (in_index m id at c) n e t ms k (omega arith) s
comma_after_good (in_column m id at d column_at c) n e t ms k s = join_comma_good (in_column m id at d column_at c) n e t ms k (omega arith) s
comma_after_good (in_call m id es c) n e t ms k s = (
  refl,
  (
    (s.is.first.0.0, all_fit es e s.is.first.0.1 s.there),
    last_as (λ ts g. expressions_comma es e _ ts g) (gather (push ms t (last_as (λ ts g. expressions_end es e _ ts g) (gather (bare (moved (spelled e) s.nesting s.is)))) k)),
  ),
)
comma_after_good (in_prefix m o at c) n e t ms k s = tt
comma_after_good (in_unary m o at c) n e t ms k s = tt
comma_after_good (in_cast m at specs c) n e t ms k s = tt
comma_after_good (in_binary m o at a c) n e t ms k s = tt
comma_after_good (in_choice m at d c) n e t ms k s = join_comma_good (in_choice m at d c) n e t ms k (omega arith) s
comma_after_good (in_alternative m at d a c) n e t ms k s = tt
comma_after_good (in_assignment m o at a c) n e t ms k s = tt
comma_after_good (in_comma m at a c) n e t ms k s = tt

-- An operand is complete

join_binary_good : (o : BinaryOperator) (r : Reduced) (t : Token) (ms : List Marked) → IsOperator (operator.Binary o) t.kind → operand_level r.context ≤ strength o →
    Stands (strength o) r ms → Good (join_binary o r t) t ms
join_binary_good o r t ms k l s = (refl, ((s.nesting, l, s.fits), push ms t s.is (k, refl)))

join_question_good : (r : Reduced) (t : Token) (ms : List Marked) → IsOperator operator.Question t.kind → operand_level r.context ≤ conditional_expression →
    Stands weakest_operator r ms → Good (join_question r t) t ms
join_question_good r t ms k l s = (refl, ((s.nesting, l, s.fits), push ms t s.is (k, refl)))

-- an operand of a cast that may be assigned to is a unary expression
unary_fits : (e : ExpressionTree) → is_unary e ≡ true → Fits cast_expression e → Fits unary_expression e
unary_fits (name id) b f = f
unary_fits (call id es) b f = f
unary_fits (index id at e) b f = f
unary_fits (element id at e column_at c) b f = f
unary_fits (constant at t v) b f = f
unary_fits (character at v) b f = f
unary_fits (parenthesized at e) b f = f
unary_fits (postfix o at e) b f = (omega arith, f.1)
unary_fits (prefix o at e) b f = (omega arith, f.1)
unary_fits (unary o at e) b f = (omega arith, f.1)
unary_fits (cast at specs e) b f = cc
unary_fits (binary o at x y) b f = cc
unary_fits (conditional at d x y) b f = cc
unary_fits (assignment o at x y) b f = cc
unary_fits (comma at x y) b f = cc

join_assignment_good : (o : AssignmentOperator) (r : Reduced) (t : Token) (ms : List Marked) → IsOperator (operator.Assignment o) t.kind → Stands cast_expression r ms →
    Good (join_assignment o r t) t ms
join_assignment_good o r t ms k s = if_good (is_unary r.tree) _ refused t ms
    (λ a. if_good (nat_le (operand_level r.context) assignment_expression) _ refused t ms
    (λ b. (refl, ((s.nesting, le_true _ _ b, unary_fits r.tree a s.fits), push ms t s.is (k, refl)))) (λ b. tt))
    (λ a. tt)

complete_stands : (level : ℕ) (n : ℕ) (e : ExpressionTree) (c : Context) (ms : List Marked) → level ≤ unary_expression → n ≡ operand_nesting c → Fits postfix_expression e →
    (to_operand c ▹ spelled e n) ms → Stands level (reduced level n e c) ms
complete_stands level n e c ms l en f h = reduced_stands level c n e ms l (record {
  nesting = en;
  fits = fits_weaker e level 15 (omega arith) f;
  there = fits_weaker e (operand_level c) 15 (let g = operand_most c in omega arith) f;
  is = h;
})

go_on_good : (n : ℕ) (e : ExpressionTree) (c : Context) (t : Token) (ms : List Marked) (o : Operator) → IsOperator o t.kind → n ≡ operand_nesting c → Fits postfix_expression e →
    (to_operand c ▹ spelled e n) ms → Good (go_on n e c t o) t ms
unfolding spelled
go_on_good n e c t ms (operator.Step o) k en f h = ((en, (omega arith, f)), gather (push ms t h (k, refl)))
go_on_good n e c t ms (operator.Binary o) k en f h =
    join_binary_good o (reduced (strength o) n e c) t ms k
    (reduced_level (strength o) (strength o) c n e (let g = strength_least o in omega arith) (λ p g. omega arith) (λ g. omega arith))
    (complete_stands (strength o) n e c ms (let g = strength_most o in omega arith) en f h)
go_on_good n e c t ms operator.Question k en f h =
    join_question_good (reduced weakest_operator n e c) t ms k
    (reduced_level weakest_operator conditional_expression c n e (omega arith) (λ p g. absurd (let l = strength_least p in omega arith)) (λ g. absurd (omega arith)))
    (complete_stands weakest_operator n e c ms (omega arith) en f h)
go_on_good n e c t ms (operator.Assignment o) k en f h =
    join_assignment_good o (reduced cast_expression n e c) t ms k (complete_stands cast_expression n e c ms (omega arith) en f h)
go_on_good n e c t ms operator.Comma k en f h =
    let r : Reduced = reduced any_expression n e c in
    comma_after_good r.context r.nesting r.tree t ms k (complete_stands any_expression n e c ms (omega arith) en f h)
go_on_good n e c t ms operator.Other k en f h =
    let r : Reduced = reduced any_expression n e c in
    end_expression_good r.context r.nesting r.tree t ms (complete_stands any_expression n e c ms (omega arith) en f h)

pub at_complete_good : (n : ℕ) (e : ExpressionTree) (c : Context) (t : Token) (ms : List Marked) → n ≡ operand_nesting c → Fits postfix_expression e →
    (to_operand c ▹ spelled e n) ms → Good (at_complete n e c t) t ms
at_complete_good n e c t ms en f h = go_on_good n e c t ms (operator_of t.kind) (is_operator t.kind) en f h

-- Operands of more than one token

pub at_named_good : (n : ℕ) (id : Identifier) (c : Context) (t : Token) (ms : List Marked) → n ≡ operand_nesting c → (to_operand c ▹ Identified id n) ms → Good (at_named n id c t) t ms
unfolding spelled
at_named_good n id c t ms en h =
    let g : Good (at_complete n (name id) c t) t ms = at_complete_good n (name id) c t ms en tt h in
    fixed_good fixed.OpenParenthesis _ _ t ms (λ k. (en, push ms t h k))
    (fixed_good fixed.OpenBracket _ _ t ms (λ k. (refl, (en, push ms t h (k, refl)))) g)

pub at_indexed_good : (n : ℕ) (id : Identifier) (at : Pos) (e : ExpressionTree) (c : Context) (t : Token) (ms : List Marked) → n ≡ operand_nesting c → Fits any_expression e →
    (to_operand c ▹ spelled (index id at e) n) ms → Good (at_indexed n id at e c t) t ms
at_indexed_good n id at e c t ms en f h =
    fixed_good fixed.OpenBracket _ _ t ms (λ k. (refl, ((en, f), push ms t h (k, refl)))) (at_complete_good n (index id at e) c t ms en f h)

pub at_arguments_good : (n : ℕ) (id : Identifier) (c : Context) (t : Token) (ms : List Marked) → n ≡ operand_nesting c →
    (to_operand c ▹ Identified id n ▹ punctuator mark.OpenParenthesis (n + 1)) ms → Good (at_arguments n id c t) t ms
unfolding spelled
at_arguments_good n id c t ms en h =
    fixed_good fixed.CloseParenthesis _ _ t ms (λ k. ((en, tt), gather (gather (push ms t (gather (none_more (n + 1) h)) k))))
    (at_operand_good (n + 1) (in_call n id no_expressions c) t ms refl ((en, tt), none_more (n + 1) h))

open_cast_good : (n : ℕ) (at : Pos) (c : Context) (t : Token) (ms : List Marked) (w : Option SpecifierWord) → IsSpecifier w t → n ≡ operand_nesting c →
    (to_operand c ▹ punctuator_at mark.OpenParenthesis at (n + 1)) ms → Good (open_cast n at c t w) t ms
open_cast_good n at c t ms (Some w) k en h = if_good (nat_le (operand_level c) cast_expression) _ refused t ms
    (λ b. ((en, le_true _ _ b), first_word w t (n + 1) ms k h)) (λ b. tt)
open_cast_good n at c t ms None k en h = at_operand_good (n + 1) (in_parentheses n at c) t ms refl (en, h)

pub at_opened_good : (n : ℕ) (at : Pos) (c : Context) (t : Token) (ms : List Marked) → n ≡ operand_nesting c →
    (to_operand c ▹ punctuator_at mark.OpenParenthesis at (n + 1)) ms → Good (at_opened n at c t) t ms
at_opened_good n at c t ms en h = open_cast_good n at c t ms (specifier_word t) (is_specifier t) en h

more_cast_as : (n : ℕ) (at : Pos) (ss : OneOrMore Specifier) (c : Context) (t : Token) (ms : List Marked) (w : Option SpecifierWord) → IsNext ss w t → n ≡ operand_nesting c →
    operand_level c ≤ cast_expression → (to_operand c ▹ punctuator_at mark.OpenParenthesis at (n + 1) ▹ open_words ss (n + 1)) ms → Good (more_cast n at ss c t w) t ms
more_cast_as n at ss c t ms (Some w) k en l h = ((en, l), one_more_word ss w t (n + 1) ms k h)
more_cast_as n at ss c t ms None k en l h = if_good (end_in_enum ss) refused _ t ms (λ b. tt)
    (λ b. wanted_good fixed.CloseParenthesis _ t ms (λ k. (refl, ((en, l), push ms t (whole_words ss (n + 1) ms b h) k))))

pub more_cast_good : (n : ℕ) (at : Pos) (ss : OneOrMore Specifier) (c : Context) (t : Token) (ms : List Marked) → n ≡ operand_nesting c →
    operand_level c ≤ cast_expression → (to_operand c ▹ punctuator_at mark.OpenParenthesis at (n + 1) ▹ open_words ss (n + 1)) ms → Good (more_cast n at ss c t (next_word ss t)) t ms
more_cast_good n at ss c t ms en l h = more_cast_as n at ss c t ms (next_word ss t) (is_next ss t) en l h
