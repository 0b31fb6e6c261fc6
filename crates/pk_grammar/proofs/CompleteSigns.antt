-- What the kinds of the grammar's tokens tell the parser.
use Rattle.std.proofs.Common.{◌≡◌, ◌≢◌, ℕ, ◌≤◌, Some, None, false, refl, ap, ◌∙◌, arith}
use Rattle.pk_lex.specs.declared.token.Token.{Token}
use Rattle.pk_lex.specs.declared.token.Kind.{Kind}
use Rattle.pk_lex.specs.declared.token.Kind.TheVariants as kind
use Rattle.pk_lex.specs.declared.token.Keyword.{Keyword}
use Rattle.pk_lex.specs.declared.token.Keyword.TheVariants as key
use Rattle.pk_lex.specs.declared.token.Punctuator.{Punctuator}
use Rattle.pk_lex.specs.declared.token.Punctuator.TheVariants as mark
use Rattle.pk_ast.specs.declared.declarations.SpecifierWord.{SpecifierWord}
use Rattle.pk_ast.specs.declared.declarations.SpecifierWord.TheVariants as word
use Rattle.pk_ast.specs.declared.units.StorageWord.{StorageWord}
use Rattle.pk_ast.specs.declared.units.StorageWord.TheVariants as storage
use Rattle.pk_ast.specs.declared.operators.BinaryOperator.{BinaryOperator}
use Rattle.pk_ast.specs.declared.operators.BinaryOperator.TheVariants as op
use Rattle.pk_ast.specs.declared.operators.UnaryOperator.{UnaryOperator}
use Rattle.pk_ast.specs.declared.operators.UnaryOperator.TheVariants as un
use Rattle.pk_ast.specs.declared.operators.StepOperator.{StepOperator}
use Rattle.pk_ast.specs.declared.operators.StepOperator.TheVariants as step
use Rattle.pk_ast.specs.declared.operators.AssignmentOperator.{AssignmentOperator}
use Rattle.pk_ast.specs.declared.operators.AssignmentOperator.TheVariants as asg
use Rattle.pk_grammar.specs.declared.signs.Fixed.TheVariants as fixed
use Rattle.pk_grammar.specs.declared.signs.OperandStart.TheVariants as start
use Rattle.pk_grammar.specs.declared.signs.Operator.{Operator}
use Rattle.pk_grammar.specs.declared.signs.Operator.TheVariants as operator
use Rattle.pk_grammar.specs.declared.signs.StatementStart.TheVariants as first
use Rattle.pk_grammar.specs.Grammar.{binary_sign, unary_sign, step_sign, assignment_sign, IsWord, IsTag, storage_keyword, strength, any_expression, weakest_operator, cast_expression, postfix_expression}
use Rattle.pk_grammar.specs.Machine.Signs.{is_fixed, operand_start, operator_of, specifier_in, specifier_word, storage_word, statement_start}

-- the level of the left operand that an operator takes
abbrev pub takes : Operator → ℕ
takes (operator.Step o) = postfix_expression
takes (operator.Binary o) = strength o
takes operator.Question = weakest_operator
takes (operator.Assignment o) = cast_expression
takes operator.Comma = any_expression
takes operator.Other = any_expression

pub strength_least : (o : BinaryOperator) → 3 ≤ strength o
strength_least op.LogicalOr = omega arith
strength_least op.LogicalAnd = omega arith
strength_least _ = omega arith

pub strength_most : (o : BinaryOperator) → strength o ≤ 12
strength_most op.LogicalOr = omega arith
strength_most op.LogicalAnd = omega arith
strength_most _ = omega arith

-- no operator takes a unary expression that is no cast expression
pub takes_no_unary : (o : Operator) → takes o ≤ 14 → takes o ≤ 13
takes_no_unary (operator.Step o) h = absurd (omega arith)
takes_no_unary (operator.Binary o) h = omega (arith, strength_most o)
takes_no_unary operator.Question h = omega arith
takes_no_unary (operator.Assignment o) h = omega arith
takes_no_unary operator.Comma h = omega arith
takes_no_unary operator.Other h = omega arith

-- a token that goes on with no name
pub record AfterName (k : Kind) : Type 0 where
  pub no_call : is_fixed fixed.OpenParenthesis k ≡ false
  pub no_index : is_fixed fixed.OpenBracket k ≡ false

pub record Sign (k : Kind) (o : Operator) : Type 0 where
  pub is : operator_of k ≡ o
  pub follows : AfterName k

pub sign_binary : (o : BinaryOperator) → Sign (kind.Punctuator (binary_sign o)) (operator.Binary o)
sign_binary op.LogicalOr = record { is = refl; follows = record { no_call = refl; no_index = refl } }
sign_binary _ = record { is = refl; follows = record { no_call = refl; no_index = refl } }

pub sign_step : (o : StepOperator) → Sign (kind.Punctuator (step_sign o)) (operator.Step o)
sign_step step.Increment = record { is = refl; follows = record { no_call = refl; no_index = refl } }
sign_step step.Decrement = record { is = refl; follows = record { no_call = refl; no_index = refl } }

pub sign_assignment : (o : AssignmentOperator) → Sign (kind.Punctuator (assignment_sign o)) (operator.Assignment o)
sign_assignment asg.Assign = record { is = refl; follows = record { no_call = refl; no_index = refl } }
sign_assignment _ = record { is = refl; follows = record { no_call = refl; no_index = refl } }

pub sign_close : Sign (kind.Punctuator mark.CloseParenthesis) operator.Other
sign_close = record { is = refl; follows = record { no_call = refl; no_index = refl } }

pub sign_close_bracket : Sign (kind.Punctuator mark.CloseBracket) operator.Other
sign_close_bracket = record { is = refl; follows = record { no_call = refl; no_index = refl } }

pub sign_close_brace : Sign (kind.Punctuator mark.CloseBrace) operator.Other
sign_close_brace = record { is = refl; follows = record { no_call = refl; no_index = refl } }

pub sign_semicolon : Sign (kind.Punctuator mark.Semicolon) operator.Other
sign_semicolon = record { is = refl; follows = record { no_call = refl; no_index = refl } }

pub sign_comma : Sign (kind.Punctuator mark.Comma) operator.Comma
sign_comma = record { is = refl; follows = record { no_call = refl; no_index = refl } }

pub sign_question : Sign (kind.Punctuator mark.Question) operator.Question
sign_question = record { is = refl; follows = record { no_call = refl; no_index = refl } }

pub unary_start : (o : UnaryOperator) → operand_start (kind.Punctuator (unary_sign o)) ≡ start.Unary o
unary_start un.Plus = refl
unary_start un.Minus = refl
unary_start un.Complement = refl
unary_start un.Not = refl

pub step_start : (o : StepOperator) → operand_start (kind.Punctuator (step_sign o)) ≡ start.Step o
step_start step.Increment = refl
step_start step.Decrement = refl

-- a tag is a name, and so a word of a type behind `enum` alone
pub word_is : (w : SpecifierWord) (t : Token) → ¬ IsTag w → IsWord w t → specifier_word t ≡ Some w
word_is word.Void t n h = ap (λ k. specifier_in k t.start t.end) h
word_is word.Char t n h = ap (λ k. specifier_in k t.start t.end) h
word_is word.Short t n h = ap (λ k. specifier_in k t.start t.end) h
word_is word.Int t n h = ap (λ k. specifier_in k t.start t.end) h
word_is word.Long t n h = ap (λ k. specifier_in k t.start t.end) h
word_is word.Signed t n h = ap (λ k. specifier_in k t.start t.end) h
word_is word.Unsigned t n h = ap (λ k. specifier_in k t.start t.end) h
word_is word.Const t n h = ap (λ k. specifier_in k t.start t.end) h
word_is word.Enum t n h = ap (λ k. specifier_in k t.start t.end) h
word_is (word.Tag from to) t n h = absurd (n tt)
word_is (word.TypeName from to) t n h =
    ap (λ k. specifier_in k t.start t.end) h.0 ∙ (ap (λ n. Some (word.TypeName n t.end)) h.1 ∙ ap (λ n. Some (word.TypeName from n)) h.2)

pub storage_is : (w : StorageWord) → storage_word (kind.Keyword (storage_keyword w)) ≡ Some w
storage_is storage.Static = refl
storage_is storage.Extern = refl

pub specifier_no_else : (w : SpecifierWord) (t : Token) → IsWord w t → is_fixed fixed.Else t.kind ≡ false
specifier_no_else word.Void t h = ap (λ k. is_fixed fixed.Else k) h
specifier_no_else word.Char t h = ap (λ k. is_fixed fixed.Else k) h
specifier_no_else word.Short t h = ap (λ k. is_fixed fixed.Else k) h
specifier_no_else word.Int t h = ap (λ k. is_fixed fixed.Else k) h
specifier_no_else word.Long t h = ap (λ k. is_fixed fixed.Else k) h
specifier_no_else word.Signed t h = ap (λ k. is_fixed fixed.Else k) h
specifier_no_else word.Unsigned t h = ap (λ k. is_fixed fixed.Else k) h
specifier_no_else word.Const t h = ap (λ k. is_fixed fixed.Else k) h
specifier_no_else (word.TypeName from to) t h = ap (λ k. is_fixed fixed.Else k) h.0
specifier_no_else word.Enum t h = ap (λ k. is_fixed fixed.Else k) h
specifier_no_else (word.Tag from to) t h = ap (λ k. is_fixed fixed.Else k) h.0

-- a token with which an operand begins is nothing else
pub record Begins (k : Kind) : Type 0 where
  pub no_close : is_fixed fixed.CloseParenthesis k ≡ false
  pub no_semicolon : is_fixed fixed.Semicolon k ≡ false
  pub no_open_brace : is_fixed fixed.OpenBrace k ≡ false
  pub no_close_brace : is_fixed fixed.CloseBrace k ≡ false
  pub no_close_bracket : is_fixed fixed.CloseBracket k ≡ false
  pub no_else : is_fixed fixed.Else k ≡ false
  pub no_static : is_fixed fixed.Static k ≡ false
  pub no_specifier : (from to : ℕ) → specifier_in k from to ≡ None
  pub no_statement : statement_start k ≡ first.Other

begins_punctuator : (p : Punctuator) → operand_start (kind.Punctuator p) ≢ start.Other → Begins (kind.Punctuator p)
begins_punctuator mark.OpenParenthesis h = record { no_close = refl; no_semicolon = refl; no_open_brace = refl; no_close_brace = refl; no_close_bracket = refl; no_else = refl; no_static = refl; no_specifier = λ from to. refl; no_statement = refl }
begins_punctuator mark.Increment h = record { no_close = refl; no_semicolon = refl; no_open_brace = refl; no_close_brace = refl; no_close_bracket = refl; no_else = refl; no_static = refl; no_specifier = λ from to. refl; no_statement = refl }
begins_punctuator mark.Decrement h = record { no_close = refl; no_semicolon = refl; no_open_brace = refl; no_close_brace = refl; no_close_bracket = refl; no_else = refl; no_static = refl; no_specifier = λ from to. refl; no_statement = refl }
begins_punctuator mark.Plus h = record { no_close = refl; no_semicolon = refl; no_open_brace = refl; no_close_brace = refl; no_close_bracket = refl; no_else = refl; no_static = refl; no_specifier = λ from to. refl; no_statement = refl }
begins_punctuator mark.Minus h = record { no_close = refl; no_semicolon = refl; no_open_brace = refl; no_close_brace = refl; no_close_bracket = refl; no_else = refl; no_static = refl; no_specifier = λ from to. refl; no_statement = refl }
begins_punctuator mark.Tilde h = record { no_close = refl; no_semicolon = refl; no_open_brace = refl; no_close_brace = refl; no_close_bracket = refl; no_else = refl; no_static = refl; no_specifier = λ from to. refl; no_statement = refl }
begins_punctuator mark.Exclamation h = record { no_close = refl; no_semicolon = refl; no_open_brace = refl; no_close_brace = refl; no_close_bracket = refl; no_else = refl; no_static = refl; no_specifier = λ from to. refl; no_statement = refl }
begins_punctuator _ h = absurd (h refl)

pub begins : (k : Kind) → operand_start k ≢ start.Other → Begins k
begins kind.Name h = record { no_close = refl; no_semicolon = refl; no_open_brace = refl; no_close_brace = refl; no_close_bracket = refl; no_else = refl; no_static = refl; no_specifier = λ from to. refl; no_statement = refl }
begins (kind.Constant ty v) h = record { no_close = refl; no_semicolon = refl; no_open_brace = refl; no_close_brace = refl; no_close_bracket = refl; no_else = refl; no_static = refl; no_specifier = λ from to. refl; no_statement = refl }
begins (kind.Character v) h = record { no_close = refl; no_semicolon = refl; no_open_brace = refl; no_close_brace = refl; no_close_bracket = refl; no_else = refl; no_static = refl; no_specifier = λ from to. refl; no_statement = refl }
begins (kind.Punctuator p) h = begins_punctuator p h
begins _ h = absurd (h refl)

-- a word of a type is nothing else
pub record IsSpecifier (k : Kind) : Type 0 where
  pub no_storage : storage_word k ≡ None
  pub no_end : is_fixed fixed.End k ≡ false
  pub no_close : is_fixed fixed.CloseParenthesis k ≡ false
  pub no_typedef : is_fixed fixed.Typedef k ≡ false

specifier_keyword_alone : (k : Keyword) (from to : ℕ) (w : SpecifierWord) → specifier_in (kind.Keyword k) from to ≡ Some w → IsSpecifier (kind.Keyword k)
specifier_keyword_alone key.Static from to w h = absurd (cc)
specifier_keyword_alone key.Extern from to w h = absurd (cc)
specifier_keyword_alone key.Else from to w h = absurd (cc)
specifier_keyword_alone key.While from to w h = absurd (cc)
specifier_keyword_alone key.Typedef from to w h = absurd (cc)
specifier_keyword_alone _ from to w h = record { no_storage = refl; no_end = refl; no_close = refl; no_typedef = refl }

pub specifier_alone : (k : Kind) (from to : ℕ) (w : SpecifierWord) → specifier_in k from to ≡ Some w → IsSpecifier k
specifier_alone (kind.Keyword k) from to w h = specifier_keyword_alone k from to w h
specifier_alone kind.TypeName from to w h = record { no_storage = refl; no_end = refl; no_close = refl; no_typedef = refl }
specifier_alone _ from to w h = absurd (cc)
