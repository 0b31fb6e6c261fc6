-- What an operand's end completes: operators that stand before it, as many as the next token lets be.
use Rattle.std.proofs.Common.{◌≡◌, ℕ, ◌≤◌, ◌⊎◌, refl, ap, arith, le-leb}
use Rattle.std.proofs.lemmas.Bool.{lt-leb}
use Rattle.pk_ctypes.specs.declared.places.Pos.{Pos}
use Rattle.pk_lex.specs.declared.token.Token.{Token}
use Rattle.pk_ast.specs.declared.operators.BinaryOperator.{BinaryOperator}
use Rattle.pk_ast.specs.Trees.{ExpressionTree, prefix, unary, cast, binary, conditional, assignment, comma}
use Rattle.pk_grammar.specs.declared.signs.Operator.{Operator}
use Rattle.pk_grammar.specs.declared.signs.Operator.TheVariants as operator
use Rattle.pk_grammar.specs.Grammar.{strength, any_expression, assignment_expression, conditional_expression}
use Rattle.pk_grammar.specs.Machine.Signs.{operator_of}
use Rattle.pk_grammar.specs.Machine.States.{Context, as_whole, in_parentheses, in_index, in_column, in_call, in_prefix, in_unary, in_cast, in_binary, in_choice, in_alternative, in_assignment, in_comma, complete}
use Rattle.pk_grammar.specs.Machine.Steps.{Reduced, reduced, operand_level, join_binary, join_question, join_assignment, comma_after, end_expression, go_on, step}
use Rattle.pk_grammar.proofs.CompleteSigns.{takes}

-- nothing is completed where the operator before takes an operand as strong as this one
pub kept : (l n : ℕ) (e : ExpressionTree) (c : Context) → operand_level c ≤ l → operand_level c ≤ 12 → ((operand_level c ≡ 0) ⊎ (3 ≤ l)) →
    reduced l n e c ≡ record { nesting = n; tree = e; context = c }
unfolding reduced
kept l n e (as_whole p) h g f = refl
kept l n e (in_parentheses m at c) h g f = refl
kept l n e (in_index m id at c) h g f = refl
kept l n e (in_column m id at d column_at c) h g f = refl
kept l n e (in_call m id es c) h g f = refl
kept l n e (in_prefix m o at c) h g f = absurd (omega arith)
kept l n e (in_unary m o at c) h g f = absurd (omega arith)
kept l n e (in_cast m at specs c) h g f = absurd (omega arith)
kept l n e (in_binary m o at a c) h g f = rw (lt-leb l (strength o) (omega arith))
kept l n e (in_choice m at d c) h g f = refl
kept l n e (in_alternative m at d a c) h g f = rw (lt-leb l conditional_expression (omega arith))
kept l n e (in_assignment m o at a c) h g f = rw (lt-leb l assignment_expression (omega arith))
kept l n e (in_comma m at a c) h g f = rw (lt-leb l any_expression (omega arith))

module _ (l n m : ℕ) (at : Pos) (e : ExpressionTree) (c : Context) where
  pub reduced_prefix : (o : _) → reduced l n e (in_prefix m o at c) ≡ reduced l m (prefix o at e) c
  unfolding reduced
  reduced_prefix o = refl

  pub reduced_unary : (o : _) → reduced l n e (in_unary m o at c) ≡ reduced l m (unary o at e) c
  unfolding reduced
  reduced_unary o = refl

  pub reduced_cast : (specs : _) → l ≤ 13 → reduced l n e (in_cast m at specs c) ≡ reduced l m (cast at specs e) c
  unfolding reduced
  reduced_cast specs h = rw (le-leb l 13 h)

  pub reduced_binary : (o : BinaryOperator) (a : ExpressionTree) → l ≤ strength o → reduced l n e (in_binary m o at a c) ≡ reduced l m (binary o at a e) c
  unfolding reduced
  reduced_binary o a h = rw (le-leb l (strength o) h)

  pub reduced_alternative : (d a : ExpressionTree) → l ≤ 2 → reduced l n e (in_alternative m at d a c) ≡ reduced l m (conditional at d a e) c
  unfolding reduced
  reduced_alternative d a h = rw (le-leb l 2 h)

  pub reduced_assignment : (o : _) (a : ExpressionTree) → l ≤ 1 → reduced l n e (in_assignment m o at a c) ≡ reduced l m (assignment o at a e) c
  unfolding reduced
  reduced_assignment o a h = rw (le-leb l 1 h)

  pub reduced_comma : (a : ExpressionTree) → l ≤ 0 → reduced l n e (in_comma m at a c) ≡ reduced l m (comma at a e) c
  unfolding reduced
  reduced_comma a h = rw (le-leb l 0 h)

-- what the next token does depends on what it completes
go_on_same : (m n : ℕ) (b e : ExpressionTree) (k c : Context) (t : Token) (o : Operator) → takes o ≤ 14 → reduced (takes o) m b k ≡ reduced (takes o) n e c →
    go_on m b k t o ≡ go_on n e c t o
go_on_same m n b e k c t (operator.Step o) h g = absurd (omega arith)
go_on_same m n b e k c t (operator.Binary o) h g = ap (λ (r : Reduced). join_binary o r t) g
go_on_same m n b e k c t operator.Question h g = ap (λ (r : Reduced). join_question r t) g
go_on_same m n b e k c t (operator.Assignment o) h g = ap (λ (r : Reduced). join_assignment o r t) g
go_on_same m n b e k c t operator.Comma h g = ap (λ (r : Reduced). comma_after r.nesting r.tree r.context t) g
go_on_same m n b e k c t operator.Other h g = ap (λ (r : Reduced). end_expression r.tree r.context t) g

pub complete_same : (m n : ℕ) (b e : ExpressionTree) (k c : Context) (t : Token) → takes (operator_of t.kind) ≤ 14 →
    reduced (takes (operator_of t.kind)) m b k ≡ reduced (takes (operator_of t.kind)) n e c → step (complete m b k) t ≡ step (complete n e c) t
complete_same m n b e k c t h g = go_on_same m n b e k c t (operator_of t.kind) h g
