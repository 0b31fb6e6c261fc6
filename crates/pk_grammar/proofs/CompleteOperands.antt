-- What the parser does at each token of an expression.
use Rattle.std.proofs.Common.{◌≡◌, ℕ, ◌+◌, ◌≤◌, ◌⊎◌, inl, inr, Some, None, Bool, true, false, if◌then◌else◌, refl, sym, ap, subst, ◌∙◌, arith, le-leb}
use Rattle.pk_ctypes.specs.declared.places.Pos.{Pos}
use Rattle.pk_lex.specs.declared.token.Token.{Token}
use Rattle.pk_lex.specs.declared.token.Kind.{Kind}
use Rattle.pk_lex.specs.declared.token.Kind.TheVariants as kind
use Rattle.pk_lex.specs.declared.token.Punctuator.{Punctuator}
use Rattle.pk_lex.specs.declared.token.Punctuator.TheVariants as mark
use Rattle.pk_ast.specs.declared.declarations.Specifier.{Specifier}
use Rattle.pk_ast.specs.declared.declarations.SpecifierWord.{SpecifierWord}
use Rattle.pk_ast.specs.declared.expressions.Identifier.{Identifier}
use Rattle.pk_ast.specs.declared.operators.BinaryOperator.{BinaryOperator}
use Rattle.pk_ast.specs.declared.operators.UnaryOperator.{UnaryOperator}
use Rattle.pk_ast.specs.declared.operators.StepOperator.{StepOperator}
use Rattle.pk_ast.specs.declared.operators.AssignmentOperator.{AssignmentOperator}
use Rattle.pk_ast.specs.Trees.{OneOrMore, ExpressionTree, name, call, index, element, constant, character, parenthesized, postfix, cast, binary, conditional, assignment, comma, ExpressionTrees, no_expressions}
use Rattle.pk_ast.specs.Lists.{one, with_last}
use Rattle.pk_grammar.specs.declared.signs.Fixed.TheVariants as fixed
use Rattle.pk_grammar.specs.declared.signs.Operator.{Operator}
use Rattle.pk_grammar.specs.Languages.{identifier_of}
use Rattle.pk_grammar.specs.Grammar.{binary_sign, unary_sign, step_sign, assignment_sign, strength, Fits, operators_in, postfixes_in, commas_in}
use Rattle.pk_grammar.specs.Machine.Signs.{is_fixed, operand_start, operator_of, specifier_word}
use Rattle.pk_grammar.specs.Machine.States.{as_statement, as_label, as_test, as_last_test, as_first, as_second, as_third, as_result, as_length, as_columns, as_value, as_item, as_row_item, as_enumerator, as_parameter_length, as_parameter_columns, Context, as_whole, in_parentheses, in_index, in_column, in_call, in_prefix, in_unary, in_cast, in_binary, in_choice, in_alternative, in_assignment, in_comma, operand, named, indexed, arguments, opened, cast_specifiers, complete}
use Rattle.pk_grammar.specs.Machine.Steps.{taken, refused, Reduced, reduced, operand_level, begin_operand, go_on, join_binary, join_question, join_assignment, join_comma, is_unary, comma_after, open_cast, more_cast, specifier_at, one_more, step, next_word, end_in_enum}
use Rattle.pk_grammar.proofs.CompleteSigns.{takes, strength_least, strength_most, Sign, sign_binary, sign_step, sign_assignment, unary_start, step_start, Begins}
use Rattle.pk_grammar.proofs.CompleteReduced.{kept}
use Rattle.pk_grammar.proofs.WordLemmas.{no_sign}

-- A token that ends an expression of this level, or takes it as its left operand
pub record Ends (level : ℕ) (c : Context) (k : Kind) : Type 0 where
  pub weak : takes (operator_of k) ≤ level
  pub no_call : is_fixed fixed.OpenParenthesis k ≡ false
  pub no_index : is_fixed fixed.OpenBracket k ≡ false

abbrev pub IsAt : Punctuator → Pos → Token → Type 0
IsAt p at t = (t.kind ≡ kind.Punctuator p) × (t.at ≡ at)

pub ends_at_sign : {level : ℕ} {c : Context} (k : Kind) (o : Operator) (t : Token) → Sign k o → t.kind ≡ k → takes o ≤ level → Ends level c t.kind
ends_at_sign {level} {c} k o t s e h = subst (λ k. Ends level c k) (sym e) (record {
  weak = subst (λ o. takes o ≤ level) (sym s.is) h;
  no_call = s.follows.no_call;
  no_index = s.follows.no_index;
})

pub ends_at_colon : {level : ℕ} {c : Context} (t : Token) → t.kind ≡ kind.Punctuator mark.Colon → Ends level c t.kind
ends_at_colon {level} {c} t e = subst (λ k. Ends level c k) (sym e) (record { weak = omega arith; no_call = refl; no_index = refl })

-- Operands

pub step_name : (n : ℕ) (id : Identifier) (c : Context) (t : Token) → (t.kind ≡ kind.Name) × (identifier_of t ≡ id) → step (operand n c) t ≡ taken n (named n id c)
step_name n id c t e = ap (λ k. begin_operand n c t (operand_start k)) e.0 ∙ ap (λ i. taken n (named n i c)) e.1

pub step_constant : (n : ℕ) (c : Context) (t : Token) (at : Pos) (ty : _) (v : ℕ) → (t.kind ≡ kind.Constant ty v) × (t.at ≡ at) → step (operand n c) t ≡ taken n (complete n (constant at ty v) c)
step_constant n c t at ty v e = ap (λ k. begin_operand n c t (operand_start k)) e.0 ∙ ap (λ p. taken n (complete n (constant p ty v) c)) e.1

pub step_character : (n : ℕ) (c : Context) (t : Token) (at : Pos) (v : _) → (t.kind ≡ kind.Character v) × (t.at ≡ at) → step (operand n c) t ≡ taken n (complete n (character at v) c)
step_character n c t at v e = ap (λ k. begin_operand n c t (operand_start k)) e.0 ∙ ap (λ p. taken n (complete n (character p v) c)) e.1

pub step_open : (n : ℕ) (c : Context) (t : Token) (at : Pos) → IsAt mark.OpenParenthesis at t → step (operand n c) t ≡ taken (n + 1) (opened n at c)
step_open n c t at e = ap (λ k. begin_operand n c t (operand_start k)) e.0 ∙ ap (λ p. taken (n + 1) (opened n p c)) e.1

pub step_prefix : (n : ℕ) (c : Context) (t : Token) (o : StepOperator) (at : Pos) → IsAt (step_sign o) at t → step (operand n c) t ≡ taken (n + 1) (operand (n + 1) (in_prefix n o at c))
step_prefix n c t o at e = ap (λ q. begin_operand n c t q) (ap operand_start e.0 ∙ step_start o) ∙ ap (λ p. taken (n + 1) (operand (n + 1) (in_prefix n o p c))) e.1

pub step_unary : (n : ℕ) (c : Context) (t : Token) (o : UnaryOperator) (at : Pos) → IsAt (unary_sign o) at t → step (operand n c) t ≡ taken (n + 1) (operand (n + 1) (in_unary n o at c))
step_unary n c t o at e = ap (λ q. begin_operand n c t q) (ap operand_start e.0 ∙ unary_start o) ∙ ap (λ p. taken (n + 1) (operand (n + 1) (in_unary n o p c))) e.1

-- Names

pub same_false : {A : Type 0} (b : Bool) (x y : A) → b ≡ false → (if b then x else y) ≡ y
same_false b x y e = ap (λ b. if b then x else y) e

pub same_true : {A : Type 0} (b : Bool) (x y : A) → b ≡ true → (if b then x else y) ≡ x
same_true b x y e = ap (λ b. if b then x else y) e

pub step_named : {level : ℕ} (n : ℕ) (id : Identifier) (c : Context) (t : Token) → Ends level c t.kind → step (named n id c) t ≡ step (complete n (name id) c) t
step_named n id c t h =
    same_false (is_fixed fixed.OpenParenthesis t.kind) _ _ h.no_call
    ∙ same_false (is_fixed fixed.OpenBracket t.kind) _ _ h.no_index

pub step_call : (n : ℕ) (id : Identifier) (c : Context) (t : Token) → t.kind ≡ kind.Punctuator mark.OpenParenthesis → step (named n id c) t ≡ taken (n + 1) (arguments n id c)
step_call n id c t e = rw e

pub step_index : (n : ℕ) (id : Identifier) (at : Pos) (c : Context) (t : Token) → IsAt mark.OpenBracket at t → step (named n id c) t ≡ taken (n + 1) (operand (n + 1) (in_index n id at c))
step_index n id at c t e = rw (e.0, e.1)

-- behind an index

pub step_no_column : {level : ℕ} (n : ℕ) (id : Identifier) (at : Pos) (e : ExpressionTree) (c : Context) (t : Token) → Ends level c t.kind → step (indexed n id at e c) t ≡ step (complete n (index id at e) c) t
step_no_column n id at e c t h = same_false (is_fixed fixed.OpenBracket t.kind) _ _ h.no_index

pub step_column : (n : ℕ) (id : Identifier) (at : Pos) (e : ExpressionTree) (column_at : Pos) (c : Context) (t : Token) → IsAt mark.OpenBracket column_at t →
    step (indexed n id at e c) t ≡ taken (n + 1) (operand (n + 1) (in_column n id at e column_at c))
step_column n id at e column_at c t is = rw (is.0, is.1)

pub step_no_arguments : (n : ℕ) (id : Identifier) (c : Context) (t : Token) → t.kind ≡ kind.Punctuator mark.CloseParenthesis →
    step (arguments n id c) t ≡ taken n (complete n (call id no_expressions) c)
step_no_arguments n id c t e = rw e

-- An operand begins behind `(`

pub step_arguments : (n : ℕ) (id : Identifier) (c : Context) (t : Token) → Begins t.kind → step (arguments n id c) t ≡ step (operand (n + 1) (in_call n id no_expressions c)) t
step_arguments n id c t b = same_false (is_fixed fixed.CloseParenthesis t.kind) _ _ b.no_close

pub step_opened : (n : ℕ) (at : Pos) (c : Context) (t : Token) → Begins t.kind → step (opened n at c) t ≡ step (operand (n + 1) (in_parentheses n at c)) t
step_opened n at c t b = ap (λ w. open_cast n at c t w) (b.no_specifier t.start t.end)

-- Casts

pub step_cast : (n : ℕ) (at : Pos) (c : Context) (t : Token) (w : SpecifierWord) → operand_level c ≤ 13 → specifier_word t ≡ Some w →
    step (opened n at c) t ≡ taken (n + 1) (cast_specifiers n at (one (specifier_at t w)) c)
step_cast n at c t w h e = ap (λ w. open_cast n at c t w) e ∙ rw (le-leb (operand_level c) 13 h)

pub step_more_cast : (n : ℕ) (at : Pos) (specs : OneOrMore Specifier) (c : Context) (t : Token) (w : SpecifierWord) → next_word specs t ≡ Some w →
    step (cast_specifiers n at specs c) t ≡ taken (n + 1) (cast_specifiers n at (with_last specs (specifier_at t w)) c)
step_more_cast n at specs c t w e = ap (λ w. more_cast n at specs c t w) e

pub step_cast_end : (n : ℕ) (at : Pos) (specs : OneOrMore Specifier) (c : Context) (t : Token) → end_in_enum specs ≡ false → t.kind ≡ kind.Punctuator mark.CloseParenthesis →
    step (cast_specifiers n at specs c) t ≡ taken (n + 1) (operand (n + 1) (in_cast n at specs c))
step_cast_end n at specs c t h e = ap (λ w. more_cast n at specs c t w) (no_sign specs t mark.CloseParenthesis e) ∙ same_false (end_in_enum specs) _ _ h ∙ rw e

-- a tag has to stand behind `enum`
pub step_no_cast : (n : ℕ) (at : Pos) (specs : OneOrMore Specifier) (c : Context) (t : Token) → next_word specs t ≡ None → end_in_enum specs ≡ true →
    step (cast_specifiers n at specs c) t ≡ refused
step_no_cast n at specs c t e h = ap (λ w. more_cast n at specs c t w) e ∙ same_true (end_in_enum specs) _ _ h

-- Operators

at_least_3 : (o : BinaryOperator) {n : ℕ} → (n ≡ 0) ⊎ (3 ≤ strength o)
at_least_3 o = inr (strength_least o)

pub step_binary : (n : ℕ) (o : BinaryOperator) (at : Pos) (a : ExpressionTree) (c : Context) (t : Token) → IsAt (binary_sign o) at t → operand_level c ≤ strength o →
    step (complete n a c) t ≡ taken (n + (operators_in a + 1)) (operand (n + (operators_in a + 1)) (in_binary n o at a c))
step_binary n o at a c t e h =
    ap (λ q. go_on n a c t q) (ap operator_of e.0 ∙ (sign_binary o).is)
    ∙ ap (λ r. join_binary o r t) (kept (strength o) n a c h (omega (arith, strength_most o)) (at_least_3 o))
    ∙ ap (λ p. taken (n + (operators_in a + 1)) (operand (n + (operators_in a + 1)) (in_binary n o p a c))) e.1

pub step_postfix : (n : ℕ) (o : StepOperator) (at : Pos) (e : ExpressionTree) (c : Context) (t : Token) → IsAt (step_sign o) at t →
    step (complete n e c) t ≡ taken (n + (postfixes_in e + 1)) (complete n (postfix o at e) c)
step_postfix n o at e c t is =
    ap (λ q. go_on n e c t q) (ap operator_of is.0 ∙ (sign_step o).is)
    ∙ ap (λ p. taken (n + (postfixes_in e + 1)) (complete n (postfix o p e) c)) is.1

pub step_question : (n : ℕ) (at : Pos) (e : ExpressionTree) (c : Context) (t : Token) → IsAt mark.Question at t → operand_level c ≤ 2 →
    step (complete n e c) t ≡ taken (n + 1) (operand (n + 1) (in_choice n at e c))
step_question n at e c t is h =
    ap (λ q. go_on n e c t q) (ap operator_of is.0)
    ∙ ap (λ r. join_question r t) (kept 3 n e c (omega arith) (omega arith) (inr (omega arith)))
    ∙ ap (λ p. taken (n + 1) (operand (n + 1) (in_choice n p e c))) is.1

pub step_colon : (n m : ℕ) (at : Pos) (d a : ExpressionTree) (c : Context) (t : Token) → t.kind ≡ kind.Punctuator mark.Colon →
    step (complete m a (in_choice n at d c)) t ≡ taken (n + 1) (operand (n + 1) (in_alternative n at d a c))
unfolding reduced
step_colon n m at d a c t e = rw e

fits_is_unary : (e : ExpressionTree) → Fits 14 e → is_unary e ≡ true
fits_is_unary (cast at specs e) h = absurd (omega (arith, h.0))
fits_is_unary (binary o at a b) h = absurd (omega (arith, h.0, strength_most o))
fits_is_unary (conditional at d a b) h = absurd (omega (arith, h.0))
fits_is_unary (assignment o at a b) h = absurd (omega (arith, h.0))
fits_is_unary (comma at a b) h = absurd (omega (arith, h.0))
fits_is_unary _ h = refl

pub step_assignment : (n : ℕ) (o : AssignmentOperator) (at : Pos) (a : ExpressionTree) (c : Context) (t : Token) → IsAt (assignment_sign o) at t → operand_level c ≤ 1 → Fits 14 a →
    step (complete n a c) t ≡ taken (n + 1) (operand (n + 1) (in_assignment n o at a c))
step_assignment n o at a c t e h f =
    ap (λ q. go_on n a c t q) (ap operator_of e.0 ∙ (sign_assignment o).is)
    ∙ ap (λ r. join_assignment o r t) (kept 13 n a c (omega arith) (omega arith) (inr (omega arith)))
    ∙ rw (fits_is_unary a f, le-leb (operand_level c) 1 h, e.1)

comma_joins : (n : ℕ) (e : ExpressionTree) (c : Context) (t : Token) → operand_level c ≤ 0 → comma_after n e c t ≡ join_comma n e c t
comma_joins n e (as_whole (as_statement m o)) t h = refl
comma_joins n e (as_whole (as_label m at o)) t h = absurd (omega arith)
comma_joins n e (as_whole (as_test k m at o)) t h = refl
comma_joins n e (as_whole (as_last_test m at s o)) t h = refl
comma_joins n e (as_whole (as_first m at o)) t h = refl
comma_joins n e (as_whole (as_second m at f o)) t h = refl
comma_joins n e (as_whole (as_third m at f d o)) t h = refl
comma_joins n e (as_whole (as_result m at o)) t h = refl
comma_joins n e (as_whole (as_length d id)) t h = absurd (omega arith)
comma_joins n e (as_whole (as_columns d id l)) t h = absurd (omega arith)
comma_joins n e (as_whole (as_value d)) t h = absurd (omega arith)
comma_joins n e (as_whole (as_item d)) t h = absurd (omega arith)
comma_joins n e (as_whole (as_row_item d at es)) t h = absurd (omega arith)
comma_joins n e (as_whole (as_enumerator d id)) t h = absurd (omega arith)
comma_joins n e (as_whole (as_parameter_length d)) t h = absurd (omega arith)
comma_joins n e (as_whole (as_parameter_columns d l)) t h = absurd (omega arith)
comma_joins n e (in_parentheses m at c) t h = refl
comma_joins n e (in_index m id at c) t h = refl
comma_joins n e (in_column m id at d column_at c) t h = refl
comma_joins n e (in_call m id es c) t h = absurd (omega arith)
comma_joins n e (in_prefix m o at c) t h = absurd (omega arith)
comma_joins n e (in_unary m o at c) t h = absurd (omega arith)
comma_joins n e (in_cast m at specs c) t h = absurd (omega arith)
comma_joins n e (in_binary m o at a c) t h = absurd (omega arith)
comma_joins n e (in_choice m at d c) t h = refl
comma_joins n e (in_alternative m at d a c) t h = absurd (omega arith)
comma_joins n e (in_assignment m o at a c) t h = absurd (omega arith)
comma_joins n e (in_comma m at a c) t h = absurd (omega arith)

pub step_comma : (n : ℕ) (at : Pos) (a : ExpressionTree) (c : Context) (t : Token) → IsAt mark.Comma at t → operand_level c ≤ 0 →
    step (complete n a c) t ≡ taken (n + (commas_in a + 1)) (operand (n + (commas_in a + 1)) (in_comma n at a c))
step_comma n at a c t e h =
    ap (λ q. go_on n a c t q) (ap operator_of e.0)
    ∙ ap (λ (r : Reduced). comma_after r.nesting r.tree r.context t) (kept 0 n a c h (omega arith) (inl (omega arith)))
    ∙ comma_joins n a c t h
    ∙ ap (λ p. taken (n + (commas_in a + 1)) (operand (n + (commas_in a + 1)) (in_comma n p a c))) e.1

-- Ends

pub step_parenthesized : (n m : ℕ) (at : Pos) (e : ExpressionTree) (c : Context) (t : Token) → t.kind ≡ kind.Punctuator mark.CloseParenthesis →
    step (complete m e (in_parentheses n at c)) t ≡ taken n (complete n (parenthesized at e) c)
unfolding reduced
step_parenthesized n m at e c t is = rw is

pub step_indexed : (n m : ℕ) (id : Identifier) (at : Pos) (e : ExpressionTree) (c : Context) (t : Token) → t.kind ≡ kind.Punctuator mark.CloseBracket →
    step (complete m e (in_index n id at c)) t ≡ taken n (indexed n id at e c)
unfolding reduced
step_indexed n m id at e c t is = rw is

pub step_element : (n m : ℕ) (id : Identifier) (at : Pos) (d : ExpressionTree) (column_at : Pos) (e : ExpressionTree) (c : Context) (t : Token) → t.kind ≡ kind.Punctuator mark.CloseBracket →
    step (complete m e (in_column n id at d column_at c)) t ≡ taken n (complete n (element id at d column_at e) c)
unfolding reduced
step_element n m id at d column_at e c t is = rw is

pub step_called : (n m : ℕ) (id : Identifier) (es : ExpressionTrees) (e : ExpressionTree) (c : Context) (t : Token) → t.kind ≡ kind.Punctuator mark.CloseParenthesis →
    step (complete m e (in_call n id es c)) t ≡ taken n (complete n (call id (one_more es e)) c)
unfolding reduced
step_called n m id es e c t is = rw is

pub step_argument : (n m : ℕ) (id : Identifier) (es : ExpressionTrees) (e : ExpressionTree) (c : Context) (t : Token) → t.kind ≡ kind.Punctuator mark.Comma →
    step (complete m e (in_call n id es c)) t ≡ taken (n + 1) (operand (n + 1) (in_call n id (one_more es e) c))
unfolding reduced
step_argument n m id es e c t is = rw is
