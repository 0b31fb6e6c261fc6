-- What is answered where an operand ends.
use Rattle.std.proofs.Common.{◌≡◌, ℕ, ◌+◌, ◌≤◌, ◌⊎◌, inl, inr, List, Bool, true, false, refl, sym, ap, ◌∙◌, arith}
use Rattle.std.proofs.lemmas.Bool.{lt-leb}
use Rattle.std.specs.Prelude.{nat_le, if◌then◌else◌}
use Rattle.pk_ctypes.specs.declared.places.Pos.{Pos}
use Rattle.pk_lex.specs.declared.token.Token.{Token}
use Rattle.pk_ast.specs.declared.declarations.Specifier.{Specifier}
use Rattle.pk_ast.specs.declared.expressions.Identifier.{Identifier}
use Rattle.pk_ast.specs.declared.operators.BinaryOperator.{BinaryOperator}
use Rattle.pk_ast.specs.declared.operators.UnaryOperator.{UnaryOperator}
use Rattle.pk_ast.specs.declared.operators.StepOperator.{StepOperator}
use Rattle.pk_ast.specs.declared.operators.AssignmentOperator.{AssignmentOperator}
use Rattle.pk_ast.specs.Trees.{ExpressionTree, prefix, unary, cast, binary, conditional, assignment, comma, ExpressionTrees, OneOrMore}
use Rattle.pk_grammar.specs.declared.signs.Fixed.TheVariants as fixed
use Rattle.pk_grammar.specs.declared.signs.Operator.{Operator}
use Rattle.pk_grammar.specs.declared.signs.Operator.TheVariants as operator
use Rattle.pk_grammar.specs.Grammar.{strength}
use Rattle.pk_grammar.specs.Machine.Signs.{is_fixed, operator_of}
use Rattle.pk_grammar.specs.Machine.States.{Context, in_parentheses, in_index, in_column, in_call, in_prefix, in_unary, in_cast, in_binary, in_choice, in_alternative, in_assignment, in_comma, complete}
use Rattle.pk_grammar.specs.Machine.Steps.{Verdict, refused, reduced, operand_level, go_on, join_assignment, is_unary, step}
use Rattle.pk_grammar.specs.Machine.Running.{syntax, first_of_all, run}
use Rattle.pk_parse_expression.specs.Parsing.{follows, EndsAt}
use Rattle.pk_grammar.proofs.CompleteSigns.{takes, strength_least, strength_most}
use Rattle.pk_grammar.proofs.CompleteReduced.{complete_same, reduced_prefix, reduced_unary, reduced_cast, reduced_binary, reduced_alternative, reduced_assignment, reduced_comma}
use Rattle.pk_grammar.proofs.CompleteOperands.{same_false}
use Rattle.pk_parse_expression.proofs.RunOperators.{ends_other, follows_no_comma, joins}
use Rattle.pk_parse_expression.proofs.RunLemmas.{run_refused, run_alike}

-- What an operand's end completes

takes_most : (o : Operator) → follows o ≤ 14 → takes o ≤ 13
takes_most (operator.Step o) h = absurd (omega arith)
takes_most (operator.Binary o) h = omega (arith, strength_most o)
takes_most operator.Question h = omega arith
takes_most (operator.Assignment o) h = omega arith
takes_most operator.Comma h = omega arith
takes_most operator.Other h = omega arith

-- an assignment operator, or one that takes no more than an expression of this level on its left
split_binary : (o : Operator) (l : ℕ) → 3 ≤ l → l ≤ 12 → follows o ≤ l + 1 → ((p : AssignmentOperator) × (o ≡ operator.Assignment p)) ⊎ (takes o ≤ l)
split_binary (operator.Step o) l a b h = absurd (omega arith)
split_binary (operator.Binary o) l a b h = inr (omega arith)
split_binary operator.Question l a b h = inr (omega arith)
split_binary (operator.Assignment o) l a b h = inl (o, refl)
split_binary operator.Comma l a b h = inr (omega arith)
split_binary operator.Other l a b h = inr (omega arith)

split_conditional : (o : Operator) → follows o ≤ 2 → ((p : AssignmentOperator) × (o ≡ operator.Assignment p)) ⊎ (takes o ≤ 0)
split_conditional (operator.Step o) h = absurd (omega arith)
split_conditional (operator.Binary o) h = absurd (omega (arith, strength_least o))
split_conditional operator.Question h = absurd (omega arith)
split_conditional (operator.Assignment o) h = inl (o, refl)
split_conditional operator.Comma h = inr (omega arith)
split_conditional operator.Other h = inr (omega arith)

takes_none : (o : Operator) → follows o ≤ 1 → takes o ≤ 0
takes_none (operator.Step o) h = absurd (omega arith)
takes_none (operator.Binary o) h = absurd (omega (arith, strength_least o))
takes_none operator.Question h = absurd (omega arith)
takes_none (operator.Assignment o) h = absurd (omega arith)
takes_none operator.Comma h = omega arith
takes_none operator.Other h = omega arith

refused_if : (b : Bool) (l : ℕ) (v : Verdict) → 2 ≤ l → (if b then (if nat_le l 1 then v else refused) else refused) ≡ refused
refused_if true l v h = rw (lt-leb l 1 h)
refused_if false l v h = refl

stays_binary : (n m : ℕ) (o : BinaryOperator) (at : Pos) (a e : ExpressionTree) (c : Context) → reduced 13 m e (in_binary n o at a c) ≡ record { nesting = m; tree = e; context = in_binary n o at a c }
unfolding reduced
stays_binary n m o at a e c = rw (lt-leb 13 (strength o) (omega (arith, strength_most o)))

stays_alternative : (n m : ℕ) (at : Pos) (d a e : ExpressionTree) (c : Context) → reduced 13 m e (in_alternative n at d a c) ≡ record { nesting = m; tree = e; context = in_alternative n at d a c }
unfolding reduced
stays_alternative n m at d a e c = refl

module _ (end : Token) (n m : ℕ) (at : Pos) (e : ExpressionTree) (c : Context) (rest : List Token) where
  pub run_prefix_end : (o : StepOperator) → EndsAt end 14 rest → run end (complete m e (in_prefix n o at c)) rest ≡ run end (complete n (prefix o at e) c) rest
  run_prefix_end o h =
      let g = takes_most _ h in
      run_alike end _ _ rest (complete_same m n e (prefix o at e) (in_prefix n o at c) c (first_of_all end rest) (omega arith) (reduced_prefix _ m n at e c o))

  pub run_unary_end : (o : UnaryOperator) → EndsAt end 14 rest → run end (complete m e (in_unary n o at c)) rest ≡ run end (complete n (unary o at e) c) rest
  run_unary_end o h =
      let g = takes_most _ h in
      run_alike end _ _ rest (complete_same m n e (unary o at e) (in_unary n o at c) c (first_of_all end rest) (omega arith) (reduced_unary _ m n at e c o))

  pub run_cast_end : (specs : OneOrMore Specifier) → EndsAt end 14 rest → run end (complete m e (in_cast n at specs c)) rest ≡ run end (complete n (cast at specs e) c) rest
  run_cast_end specs h =
      let g = takes_most _ h in
      run_alike end _ _ rest (complete_same m n e (cast at specs e) (in_cast n at specs c) c (first_of_all end rest) (omega arith) (reduced_cast _ m n at e c specs g))

  -- an assignment operator is refused after both
  both_refused : (t : Token) (o : AssignmentOperator) (k : Context) (whole : ExpressionTree) → operator_of t.kind ≡ operator.Assignment o →
      reduced 13 m e k ≡ record { nesting = m; tree = e; context = k } → 2 ≤ operand_level k → operand_level c ≤ 12 → is_unary whole ≡ false → step (complete m e k) t ≡ step (complete n whole c) t
  both_refused t o k whole is stays b d u =
      ap (λ q. go_on m e k t q) is ∙ ap (λ r. join_assignment o r t) stays ∙ refused_if (is_unary e) (operand_level k) _ b
      ∙ sym (joins end n whole c rest at rest o t is d ∙ rw u)

  pub run_binary_end : (o : BinaryOperator) (a : ExpressionTree) → EndsAt end (strength o + 1) rest → operand_level c ≤ strength o →
      run end (complete m e (in_binary n o at a c)) rest ≡ run end (complete n (binary o at a e) c) rest
  run_binary_end o a h l =
      let t = first_of_all end rest in
      let least = strength_least o in
      let most = strength_most o in
      elim (split_binary (operator_of t.kind) (strength o) least most h) [
        | inl p ↦ run_alike end _ _ rest (both_refused t p.0 (in_binary n o at a c) (binary o at a e) p.1 (stays_binary n m o at a e c) (omega arith) (omega arith) refl)
        | inr g ↦ run_alike end _ _ rest (complete_same m n e (binary o at a e) (in_binary n o at a c) c t (omega arith) (reduced_binary _ m n at e c o a g))
      ]

  pub run_conditional_end : (d a : ExpressionTree) → EndsAt end 2 rest → operand_level c ≤ 2 → run end (complete m e (in_alternative n at d a c)) rest ≡ run end (complete n (conditional at d a e) c) rest
  run_conditional_end d a h l =
      let t = first_of_all end rest in
      elim (split_conditional (operator_of t.kind) h) [
        | inl p ↦ run_alike end _ _ rest (both_refused t p.0 (in_alternative n at d a c) (conditional at d a e) p.1 (stays_alternative n m at d a e c) (omega arith) (omega arith) refl)
        | inr g ↦ run_alike end _ _ rest (complete_same m n e (conditional at d a e) (in_alternative n at d a c) c t (omega arith) (reduced_alternative _ m n at e c d a (omega arith)))
      ]

  pub run_assignment_end : (o : AssignmentOperator) (a : ExpressionTree) → EndsAt end 1 rest → run end (complete m e (in_assignment n o at a c)) rest ≡ run end (complete n (assignment o at a e) c) rest
  run_assignment_end o a h =
      let g = takes_none _ h in
      run_alike end _ _ rest (complete_same m n e (assignment o at a e) (in_assignment n o at a c) c (first_of_all end rest) (omega arith) (reduced_assignment _ m n at e c o a (omega arith)))

  pub run_comma_end : (a : ExpressionTree) → EndsAt end 1 rest → run end (complete m e (in_comma n at a c)) rest ≡ run end (complete n (comma at a e) c) rest
  run_comma_end a h =
      let g = takes_none _ h in
      run_alike end _ _ rest (complete_same m n e (comma at a e) (in_comma n at a c) c (first_of_all end rest) (omega arith) (reduced_comma _ m n at e c a g))

  -- no `)` or `]` or `:`
  pub no_parenthesis : EndsAt end 0 rest → is_fixed fixed.CloseParenthesis (first_of_all end rest).kind ≡ false → run end (complete m e (in_parentheses n at c)) rest ≡ syntax (first_of_all end rest).at
  unfolding reduced
  no_parenthesis h f =
      let t = first_of_all end rest in
      run_refused end _ rest (ap (λ q. go_on m e (in_parentheses n at c) t q) (ends_other _ h) ∙ same_false (is_fixed fixed.CloseParenthesis t.kind) _ _ f)

  pub no_bracket : (id : Identifier) → EndsAt end 0 rest → is_fixed fixed.CloseBracket (first_of_all end rest).kind ≡ false → run end (complete m e (in_index n id at c)) rest ≡ syntax (first_of_all end rest).at
  unfolding reduced
  no_bracket id h f =
      let t = first_of_all end rest in
      run_refused end _ rest (ap (λ q. go_on m e (in_index n id at c) t q) (ends_other _ h) ∙ same_false (is_fixed fixed.CloseBracket t.kind) _ _ f)

  pub no_column_bracket : (id : Identifier) (d : ExpressionTree) (column_at : Pos) → EndsAt end 0 rest → is_fixed fixed.CloseBracket (first_of_all end rest).kind ≡ false →
      run end (complete m e (in_column n id at d column_at c)) rest ≡ syntax (first_of_all end rest).at
  unfolding reduced
  no_column_bracket id d column_at h f =
      let t = first_of_all end rest in
      run_refused end _ rest (ap (λ q. go_on m e (in_column n id at d column_at c) t q) (ends_other _ h) ∙ same_false (is_fixed fixed.CloseBracket t.kind) _ _ f)

  pub no_colon : (d : ExpressionTree) → EndsAt end 0 rest → is_fixed fixed.Colon (first_of_all end rest).kind ≡ false → run end (complete m e (in_choice n at d c)) rest ≡ syntax (first_of_all end rest).at
  unfolding reduced
  no_colon d h f =
      let t = first_of_all end rest in
      run_refused end _ rest (ap (λ q. go_on m e (in_choice n at d c) t q) (ends_other _ h) ∙ same_false (is_fixed fixed.Colon t.kind) _ _ f)

  pub no_argument_end : (id : Identifier) (es : ExpressionTrees) → EndsAt end 1 rest → is_fixed fixed.CloseParenthesis (first_of_all end rest).kind ≡ false →
      is_fixed fixed.Comma (first_of_all end rest).kind ≡ false → run end (complete m e (in_call n id es c)) rest ≡ syntax (first_of_all end rest).at
  unfolding reduced
  no_argument_end id es h f g =
      let t = first_of_all end rest in
      run_refused end _ rest (ap (λ q. go_on m e (in_call n id es c) t q) (ends_other _ (follows_no_comma t.kind g h)) ∙ same_false (is_fixed fixed.CloseParenthesis t.kind) _ _ f)
