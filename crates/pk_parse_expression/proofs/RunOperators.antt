-- What is answered where an operator follows an operand.
use Rattle.std.proofs.Common.{◌≡◌, ◌≢◌, ℕ, ◌+◌, ◌<◌, ◌≤◌, ◌⊎◌, inl, inr, List, true, false, refl, sym, ap, subst, ◌∙◌, le-leb, arith}
use Rattle.pk_ctypes.specs.declared.places.Pos.{Pos}
use Rattle.pk_lex.specs.declared.token.Token.{Token}
use Rattle.pk_lex.specs.declared.token.Kind.{Kind}
use Rattle.pk_lex.specs.declared.token.Kind.TheVariants as kind
use Rattle.pk_lex.specs.declared.token.Punctuator.TheVariants as mark
use Rattle.pk_ast.specs.declared.operators.BinaryOperator.{BinaryOperator}
use Rattle.pk_ast.specs.declared.operators.StepOperator.{StepOperator}
use Rattle.pk_ast.specs.declared.operators.AssignmentOperator.{AssignmentOperator}
use Rattle.pk_ast.specs.Trees.{ExpressionTree, postfix}
use Rattle.pk_grammar.specs.declared.signs.Fixed.TheVariants as fixed
use Rattle.pk_grammar.specs.declared.signs.Operator.{Operator}
use Rattle.pk_grammar.specs.declared.signs.Operator.TheVariants as operator
use Rattle.pk_grammar.specs.Grammar.{strength, operators_in, postfixes_in}
use Rattle.pk_grammar.specs.Machine.Signs.{is_fixed, operator_of}
use Rattle.pk_grammar.specs.Machine.States.{Context, in_binary, in_choice, in_assignment, operand, complete}
use Rattle.pk_grammar.specs.Machine.Steps.{taken, operand_level, go_on, join_assignment, is_unary, step}
use Rattle.pk_grammar.specs.Machine.Running.{syntax, deep, run}
use Rattle.pk_parse_expression.specs.Parsing.{BeginsWith, follows}
use Rattle.pk_grammar.proofs.CompleteSigns.{strength_least, strength_most}
use Rattle.pk_grammar.proofs.CompleteReduced.{kept}
use Rattle.pk_grammar.proofs.CompleteOperands.{step_binary, step_postfix, step_question}
use Rattle.pk_grammar.proofs.SpellsSigns.{is_operator, IsOperator}
use Rattle.pk_parse_expression.proofs.RunLemmas.{run_takes, run_deep, run_refused, first_is}

-- What a token is

pub operator_kind : (o : Operator) (k : Kind) → operator_of k ≡ o → IsOperator o k
operator_kind o k e = subst (λ q. IsOperator q k) e (is_operator k)

pub ends_other : (o : Operator) → follows o ≤ 0 → o ≡ operator.Other
ends_other (operator.Step o) h = absurd (omega arith)
ends_other (operator.Binary o) h = absurd (omega arith)
ends_other operator.Question h = absurd (omega arith)
ends_other (operator.Assignment o) h = absurd (omega arith)
ends_other operator.Comma h = absurd (omega arith)
ends_other operator.Other h = refl

-- no postfix operator
pub follows_no_step : (o : Operator) → ((p : StepOperator) → o ≢ operator.Step p) → follows o ≤ 14
follows_no_step (operator.Step o) h = absurd (h o refl)
follows_no_step (operator.Binary o) h = omega (arith, strength_most o)
follows_no_step operator.Question h = omega arith
follows_no_step (operator.Assignment o) h = omega arith
follows_no_step operator.Comma h = omega arith
follows_no_step operator.Other h = omega arith

-- no binary operator so strong
pub follows_weaker : (level : ℕ) (o : Operator) → 3 ≤ level → follows o ≤ 14 → ((p : BinaryOperator) → o ≡ operator.Binary p → strength p < level) → follows o ≤ level
follows_weaker level (operator.Step o) l h f = absurd (omega arith)
follows_weaker level (operator.Binary o) l h f = let g = f o refl in omega arith
follows_weaker level operator.Question l h f = omega arith
follows_weaker level (operator.Assignment o) l h f = omega arith
follows_weaker level operator.Comma l h f = omega arith
follows_weaker level operator.Other l h f = omega arith

pub follows_no_question : (o : Operator) → follows o ≤ 3 → o ≢ operator.Question → follows o ≤ 2
follows_no_question (operator.Step o) h f = absurd (omega arith)
follows_no_question (operator.Binary o) h f = absurd (omega (arith, strength_least o))
follows_no_question operator.Question h f = absurd (f refl)
follows_no_question (operator.Assignment o) h f = omega arith
follows_no_question operator.Comma h f = omega arith
follows_no_question operator.Other h f = omega arith

pub follows_no_assignment : (o : Operator) → follows o ≤ 2 → ((p : AssignmentOperator) → o ≢ operator.Assignment p) → follows o ≤ 1
follows_no_assignment (operator.Step o) h f = absurd (omega arith)
follows_no_assignment (operator.Binary o) h f = absurd (omega (arith, strength_least o))
follows_no_assignment operator.Question h f = absurd (omega arith)
follows_no_assignment (operator.Assignment o) h f = absurd (f o refl)
follows_no_assignment operator.Comma h f = omega arith
follows_no_assignment operator.Other h f = omega arith

no_comma : (k : Kind) (o : Operator) → operator_of k ≡ o → is_fixed fixed.Comma k ≡ false → follows o ≤ 1 → follows o ≤ 0
no_comma k (operator.Step o) e f h = absurd (omega arith)
no_comma k (operator.Binary o) e f h = absurd (omega (arith, strength_least o))
no_comma k operator.Question e f h = absurd (omega arith)
no_comma k (operator.Assignment o) e f h = absurd (omega arith)
no_comma k operator.Comma e f h = let g : k ≡ kind.Punctuator mark.Comma = operator_kind operator.Comma k e in let c : true ≡ false = sym (ap (is_fixed fixed.Comma) g) ∙ f in absurd (cc)
no_comma k operator.Other e f h = omega arith

pub follows_no_comma : (k : Kind) → is_fixed fixed.Comma k ≡ false → follows (operator_of k) ≤ 1 → follows (operator_of k) ≤ 0
follows_no_comma k f h = no_comma k (operator_of k) refl f h

-- where a comma follows or no operator
comma_or_other : (o : Operator) → follows o ≤ 1 → (o ≡ operator.Comma) ⊎ (o ≡ operator.Other)
comma_or_other (operator.Step o) h = absurd (omega arith)
comma_or_other (operator.Binary o) h = absurd (omega (arith, strength_least o))
comma_or_other operator.Question h = absurd (omega arith)
comma_or_other (operator.Assignment o) h = absurd (omega arith)
comma_or_other operator.Comma h = inl refl
comma_or_other operator.Other h = inr refl

-- Operators after an operand

module _ (end : Token) (n : ℕ) (e : ExpressionTree) (c : Context) (ts : List Token) (at : Pos) (rest : List Token) where
  pub run_postfix : (o : StepOperator) → BeginsWith (operator.Step o) ts at rest → n + (postfixes_in e + 1) ≤ 128 → run end (complete n e c) ts ≡ run end (complete n (postfix o at e) c) rest
  run_postfix o b h = run_takes end (complete n e c) ts b.token rest _ (complete n (postfix o at e) c) b.cut (step_postfix n o at e c b.token (operator_kind _ _ b.is, b.place)) h

  pub deep_postfix : (o : StepOperator) → BeginsWith (operator.Step o) ts at rest → 128 < n + (postfixes_in e + 1) → run end (complete n e c) ts ≡ deep at
  deep_postfix o b h = run_deep end (complete n e c) ts b.token rest _ _ b.cut (step_postfix n o at e c b.token (operator_kind _ _ b.is, b.place)) h ∙ ap deep b.place

  pub run_binary : (o : BinaryOperator) → BeginsWith (operator.Binary o) ts at rest → operand_level c ≤ strength o → n + (operators_in e + 1) ≤ 128 →
      run end (complete n e c) ts ≡ run end (operand (n + (operators_in e + 1)) (in_binary n o at e c)) rest
  run_binary o b l h = run_takes end (complete n e c) ts b.token rest _ (operand (n + (operators_in e + 1)) (in_binary n o at e c)) b.cut (step_binary n o at e c b.token (operator_kind _ _ b.is, b.place) l) h

  pub deep_binary : (o : BinaryOperator) → BeginsWith (operator.Binary o) ts at rest → operand_level c ≤ strength o → 128 < n + (operators_in e + 1) → run end (complete n e c) ts ≡ deep at
  deep_binary o b l h = run_deep end (complete n e c) ts b.token rest _ _ b.cut (step_binary n o at e c b.token (operator_kind _ _ b.is, b.place) l) h ∙ ap deep b.place

  pub run_question : BeginsWith operator.Question ts at rest → operand_level c ≤ 2 → n + 1 ≤ 128 → run end (complete n e c) ts ≡ run end (operand (n + 1) (in_choice n at e c)) rest
  run_question b l h = run_takes end (complete n e c) ts b.token rest _ (operand (n + 1) (in_choice n at e c)) b.cut (step_question n at e c b.token (operator_kind _ _ b.is, b.place) l) h

  pub deep_question : BeginsWith operator.Question ts at rest → operand_level c ≤ 2 → 128 < n + 1 → run end (complete n e c) ts ≡ deep at
  deep_question b l h = run_deep end (complete n e c) ts b.token rest _ _ b.cut (step_question n at e c b.token (operator_kind _ _ b.is, b.place) l) h ∙ ap deep b.place

  pub joins : (o : AssignmentOperator) (t : Token) → operator_of t.kind ≡ operator.Assignment o → operand_level c ≤ 12 → step (complete n e c) t ≡ join_assignment o (record { nesting = n; tree = e; context = c }) t
  joins o t k l = ap (λ q. go_on n e c t q) k ∙ ap (λ r. join_assignment o r t) (kept 13 n e c (omega arith) l (inr (omega arith)))

  steps_assignment : (o : AssignmentOperator) (b : BeginsWith (operator.Assignment o) ts at rest) → operand_level c ≤ 1 → is_unary e ≡ true →
      step (complete n e c) b.token ≡ taken (n + 1) (operand (n + 1) (in_assignment n o at e c))
  steps_assignment o b l u = joins o b.token b.is (omega arith) ∙ rw (u, le-leb (operand_level c) 1 l) (ap (λ p. taken (n + 1) (operand (n + 1) (in_assignment n o p e c))) b.place)

  pub run_assignment : (o : AssignmentOperator) → BeginsWith (operator.Assignment o) ts at rest → operand_level c ≤ 1 → is_unary e ≡ true → n + 1 ≤ 128 →
      run end (complete n e c) ts ≡ run end (operand (n + 1) (in_assignment n o at e c)) rest
  run_assignment o b l u h = run_takes end (complete n e c) ts b.token rest _ (operand (n + 1) (in_assignment n o at e c)) b.cut (steps_assignment o b l u) h

  pub deep_assignment : (o : AssignmentOperator) → BeginsWith (operator.Assignment o) ts at rest → operand_level c ≤ 1 → is_unary e ≡ true → 128 < n + 1 → run end (complete n e c) ts ≡ deep at
  deep_assignment o b l u h = run_deep end (complete n e c) ts b.token rest _ _ b.cut (steps_assignment o b l u) h ∙ ap deep b.place

  pub no_assignment : (o : AssignmentOperator) → BeginsWith (operator.Assignment o) ts at rest → operand_level c ≤ 1 → is_unary e ≡ false → run end (complete n e c) ts ≡ syntax at
  no_assignment o b l u =
      let f = first_is end ts b.token rest b.cut in
      run_refused end _ ts (ap (λ t. step (complete n e c) t) f ∙ joins o b.token b.is (omega arith) ∙ rw u) ∙ ap (λ t. syntax t.at) f ∙ ap syntax b.place
