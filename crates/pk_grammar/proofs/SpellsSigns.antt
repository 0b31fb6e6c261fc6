-- What a token's kind is, by what it tells the parser.
use Rattle.std.proofs.Common.{◌≡◌, ℕ, [], ◌∷◌, get_or, Bool, true, false, if◌then◌else◌, Option, Some, None, refl, sym, ap, subst, ◌∙◌, arith}
use Rattle.std.specs.Prelude.{◌==◌}
use Rattle.pk_lex.specs.declared.token.Token.{Token}
use Rattle.pk_lex.specs.declared.token.Kind.{Kind}
use Rattle.pk_lex.specs.declared.token.Kind.TheVariants as kind
use Rattle.pk_lex.specs.declared.token.Keyword.{Keyword}
use Rattle.pk_lex.specs.declared.token.Keyword.TheVariants as key
use Rattle.pk_lex.specs.declared.token.Punctuator.TheVariants as mark
use Rattle.pk_ast.specs.declared.declarations.Specifier.{Specifier}
use Rattle.pk_ast.specs.declared.declarations.SpecifierWord.{SpecifierWord}
use Rattle.pk_ast.specs.declared.declarations.SpecifierWord.TheVariants as word
use Rattle.pk_ast.specs.declared.units.StorageWord.{StorageWord}
use Rattle.pk_ast.specs.Trees.{OneOrMore}
use Rattle.pk_grammar.specs.declared.states.Testing.{Testing}
use Rattle.pk_grammar.specs.declared.states.Testing.TheVariants as testing
use Rattle.pk_grammar.specs.declared.signs.Fixed.{Fixed}
use Rattle.pk_grammar.specs.declared.signs.Fixed.TheVariants as fixed
use Rattle.pk_grammar.specs.declared.signs.Shape.TheVariants as shape
use Rattle.pk_grammar.specs.declared.signs.OperandStart.{OperandStart}
use Rattle.pk_grammar.specs.declared.signs.OperandStart.TheVariants as start
use Rattle.pk_grammar.specs.declared.signs.Operator.{Operator}
use Rattle.pk_grammar.specs.declared.signs.Operator.TheVariants as operator
use Rattle.pk_grammar.specs.declared.signs.StatementStart.{StatementStart}
use Rattle.pk_grammar.specs.declared.signs.StatementStart.TheVariants as first
use Rattle.pk_grammar.specs.Grammar.{binary_sign, unary_sign, step_sign, assignment_sign, IsWord, all_of, storage_keyword}
use Rattle.pk_grammar.specs.Machine.Signs.{fixed_number, fixed_of, is_fixed, specifier_in, specifier_word, wants_tag, follows, where_it_follows, tag_word, shape_of, storage_word, operand_start, operator_of, statement_start}
use Rattle.pk_grammar.specs.Machine.Steps.{may_follow, next_word}

-- the kinds of which each table gives this answer

abbrev pub IsFixed : Fixed → Kind → Type 0
IsFixed fixed.Name k = k ≡ kind.Name
IsFixed fixed.OpenParenthesis k = k ≡ kind.Punctuator mark.OpenParenthesis
IsFixed fixed.CloseParenthesis k = k ≡ kind.Punctuator mark.CloseParenthesis
IsFixed fixed.OpenBracket k = k ≡ kind.Punctuator mark.OpenBracket
IsFixed fixed.CloseBracket k = k ≡ kind.Punctuator mark.CloseBracket
IsFixed fixed.OpenBrace k = k ≡ kind.Punctuator mark.OpenBrace
IsFixed fixed.CloseBrace k = k ≡ kind.Punctuator mark.CloseBrace
IsFixed fixed.Semicolon k = k ≡ kind.Punctuator mark.Semicolon
IsFixed fixed.Colon k = k ≡ kind.Punctuator mark.Colon
IsFixed fixed.Comma k = k ≡ kind.Punctuator mark.Comma
IsFixed fixed.Assign k = k ≡ kind.Punctuator mark.Assign
IsFixed fixed.Else k = k ≡ kind.Keyword key.Else
IsFixed fixed.While k = k ≡ kind.Keyword key.While
IsFixed fixed.End k = k ≡ kind.End
IsFixed fixed.Other k = Unit {0}
IsFixed fixed.Typedef k = k ≡ kind.Keyword key.Typedef
IsFixed fixed.Static k = k ≡ kind.Keyword key.Static
IsFixed fixed.Const k = k ≡ kind.Keyword key.Const

abbrev pub IsOperand : OperandStart → Kind → Type 0
IsOperand start.Name k = k ≡ kind.Name
IsOperand (start.Constant ty v) k = k ≡ kind.Constant ty v
IsOperand (start.Character v) k = k ≡ kind.Character v
IsOperand start.Parenthesis k = k ≡ kind.Punctuator mark.OpenParenthesis
IsOperand (start.Step o) k = k ≡ kind.Punctuator (step_sign o)
IsOperand (start.Unary o) k = k ≡ kind.Punctuator (unary_sign o)
IsOperand start.Other k = Unit {0}

abbrev pub IsOperator : Operator → Kind → Type 0
IsOperator (operator.Step o) k = k ≡ kind.Punctuator (step_sign o)
IsOperator (operator.Binary o) k = k ≡ kind.Punctuator (binary_sign o)
IsOperator operator.Question k = k ≡ kind.Punctuator mark.Question
IsOperator (operator.Assignment o) k = k ≡ kind.Punctuator (assignment_sign o)
IsOperator operator.Comma k = k ≡ kind.Punctuator mark.Comma
IsOperator operator.Other k = Unit {0}

abbrev pub testing_keyword : Testing → Keyword
testing_keyword testing.If = key.If
testing_keyword testing.Switch = key.Switch
testing_keyword testing.While = key.While

abbrev pub IsStatement : StatementStart → Kind → Type 0
IsStatement first.Block k = k ≡ kind.Punctuator mark.OpenBrace
IsStatement first.Empty k = k ≡ kind.Punctuator mark.Semicolon
IsStatement first.Case k = k ≡ kind.Keyword key.Case
IsStatement first.Default k = k ≡ kind.Keyword key.Default
IsStatement (first.Test w) k = k ≡ kind.Keyword (testing_keyword w)
IsStatement first.Do k = k ≡ kind.Keyword key.Do
IsStatement first.For k = k ≡ kind.Keyword key.For
IsStatement first.Goto k = k ≡ kind.Keyword key.Goto
IsStatement first.Continue k = k ≡ kind.Keyword key.Continue
IsStatement first.Break k = k ≡ kind.Keyword key.Break
IsStatement first.Return k = k ≡ kind.Keyword key.Return
IsStatement first.Other k = Unit {0}

-- a word that stands first
abbrev pub IsSpecifier : Option SpecifierWord → Token → Type 0
IsSpecifier None t = Unit {0}
IsSpecifier (Some w) t = IsWord w t × (follows shape.Consts w ≡ true)

abbrev pub IsStorage : Option StorageWord → Kind → Type 0
IsStorage None k = Unit {0}
IsStorage (Some w) k = k ≡ kind.Keyword (storage_keyword w)

-- each kind is one of what it tells

pub is_operator : (k : Kind) → IsOperator (operator_of k) k
is_operator (kind.Punctuator mark.Increment) = refl
is_operator (kind.Punctuator mark.Decrement) = refl
is_operator (kind.Punctuator mark.LogicalOr) = refl
is_operator (kind.Punctuator mark.LogicalAnd) = refl
is_operator (kind.Punctuator mark.Bar) = refl
is_operator (kind.Punctuator mark.Caret) = refl
is_operator (kind.Punctuator mark.Ampersand) = refl
is_operator (kind.Punctuator mark.Equal) = refl
is_operator (kind.Punctuator mark.NotEqual) = refl
is_operator (kind.Punctuator mark.Less) = refl
is_operator (kind.Punctuator mark.Greater) = refl
is_operator (kind.Punctuator mark.LessOrEqual) = refl
is_operator (kind.Punctuator mark.GreaterOrEqual) = refl
is_operator (kind.Punctuator mark.ShiftLeft) = refl
is_operator (kind.Punctuator mark.ShiftRight) = refl
is_operator (kind.Punctuator mark.Plus) = refl
is_operator (kind.Punctuator mark.Minus) = refl
is_operator (kind.Punctuator mark.Star) = refl
is_operator (kind.Punctuator mark.Slash) = refl
is_operator (kind.Punctuator mark.Percent) = refl
is_operator (kind.Punctuator mark.Question) = refl
is_operator (kind.Punctuator mark.Assign) = refl
is_operator (kind.Punctuator mark.StarAssign) = refl
is_operator (kind.Punctuator mark.SlashAssign) = refl
is_operator (kind.Punctuator mark.PercentAssign) = refl
is_operator (kind.Punctuator mark.PlusAssign) = refl
is_operator (kind.Punctuator mark.MinusAssign) = refl
is_operator (kind.Punctuator mark.ShiftLeftAssign) = refl
is_operator (kind.Punctuator mark.ShiftRightAssign) = refl
is_operator (kind.Punctuator mark.AmpersandAssign) = refl
is_operator (kind.Punctuator mark.CaretAssign) = refl
is_operator (kind.Punctuator mark.BarAssign) = refl
is_operator (kind.Punctuator mark.Comma) = refl
is_operator _ = tt

pub is_operand : (k : Kind) → IsOperand (operand_start k) k
is_operand kind.Name = refl
is_operand (kind.Constant ty v) = refl
is_operand (kind.Character v) = refl
is_operand (kind.Punctuator mark.OpenParenthesis) = refl
is_operand (kind.Punctuator mark.Increment) = refl
is_operand (kind.Punctuator mark.Decrement) = refl
is_operand (kind.Punctuator mark.Plus) = refl
is_operand (kind.Punctuator mark.Minus) = refl
is_operand (kind.Punctuator mark.Tilde) = refl
is_operand (kind.Punctuator mark.Exclamation) = refl
is_operand _ = tt

pub is_statement : (k : Kind) → IsStatement (statement_start k) k
is_statement (kind.Punctuator mark.OpenBrace) = refl
is_statement (kind.Punctuator mark.Semicolon) = refl
is_statement (kind.Keyword key.Case) = refl
is_statement (kind.Keyword key.Default) = refl
is_statement (kind.Keyword key.If) = refl
is_statement (kind.Keyword key.Switch) = refl
is_statement (kind.Keyword key.While) = refl
is_statement (kind.Keyword key.Do) = refl
is_statement (kind.Keyword key.For) = refl
is_statement (kind.Keyword key.Goto) = refl
is_statement (kind.Keyword key.Continue) = refl
is_statement (kind.Keyword key.Break) = refl
is_statement (kind.Keyword key.Return) = refl
is_statement _ = tt

specifier_kind : (k : Kind) (from to : ℕ) (t : Token) → t.kind ≡ k → t.start ≡ from → t.end ≡ to → IsSpecifier (specifier_in k from to) t
specifier_kind (kind.Keyword key.Void) from to t e f g = (e, refl)
specifier_kind (kind.Keyword key.Char) from to t e f g = (e, refl)
specifier_kind (kind.Keyword key.Short) from to t e f g = (e, refl)
specifier_kind (kind.Keyword key.Int) from to t e f g = (e, refl)
specifier_kind (kind.Keyword key.Long) from to t e f g = (e, refl)
specifier_kind (kind.Keyword key.Signed) from to t e f g = (e, refl)
specifier_kind (kind.Keyword key.Unsigned) from to t e f g = (e, refl)
specifier_kind (kind.Keyword key.Const) from to t e f g = (e, refl)
specifier_kind (kind.Keyword key.Enum) from to t e f g = (e, refl)
specifier_kind kind.TypeName from to t e f g = ((e, f, g), refl)
specifier_kind _ from to t e f g = tt

pub is_specifier : (t : Token) → IsSpecifier (specifier_word t) t
is_specifier t = specifier_kind t.kind t.start t.end t refl refl refl

pub is_storage : (k : Kind) → IsStorage (storage_word k) k
is_storage (kind.Keyword key.Static) = refl
is_storage (kind.Keyword key.Extern) = refl
is_storage _ = tt

fixed_self : (k : Kind) → IsFixed (fixed_of k) k
fixed_self kind.Name = refl
fixed_self (kind.Keyword key.Else) = refl
fixed_self (kind.Keyword key.While) = refl
fixed_self (kind.Keyword key.Typedef) = refl
fixed_self (kind.Keyword key.Static) = refl
fixed_self (kind.Keyword key.Const) = refl
fixed_self (kind.Punctuator mark.OpenParenthesis) = refl
fixed_self (kind.Punctuator mark.CloseParenthesis) = refl
fixed_self (kind.Punctuator mark.OpenBracket) = refl
fixed_self (kind.Punctuator mark.CloseBracket) = refl
fixed_self (kind.Punctuator mark.OpenBrace) = refl
fixed_self (kind.Punctuator mark.CloseBrace) = refl
fixed_self (kind.Punctuator mark.Semicolon) = refl
fixed_self (kind.Punctuator mark.Colon) = refl
fixed_self (kind.Punctuator mark.Comma) = refl
fixed_self (kind.Punctuator mark.Assign) = refl
fixed_self kind.End = refl
fixed_self _ = tt

fixed_at : ℕ → Fixed
fixed_at n = get_or (fixed.Name ∷ fixed.OpenParenthesis ∷ fixed.CloseParenthesis ∷ fixed.OpenBracket ∷ fixed.CloseBracket ∷ fixed.OpenBrace ∷ fixed.CloseBrace ∷ fixed.Semicolon ∷ fixed.Colon ∷ fixed.Comma ∷ fixed.Assign ∷ fixed.Else ∷ fixed.While ∷ fixed.End ∷ fixed.Other ∷ fixed.Typedef ∷ fixed.Static ∷ fixed.Const ∷ []) n fixed.Other

fixed_back : (f : Fixed) → fixed_at (fixed_number f) ≡ f
unfolding fixed_at
fixed_back fixed.Name = refl
fixed_back fixed.OpenParenthesis = refl
fixed_back fixed.CloseParenthesis = refl
fixed_back fixed.OpenBracket = refl
fixed_back fixed.CloseBracket = refl
fixed_back fixed.OpenBrace = refl
fixed_back fixed.CloseBrace = refl
fixed_back fixed.Semicolon = refl
fixed_back fixed.Colon = refl
fixed_back fixed.Comma = refl
fixed_back fixed.Assign = refl
fixed_back fixed.Else = refl
fixed_back fixed.While = refl
fixed_back fixed.End = refl
fixed_back fixed.Other = refl
fixed_back fixed.Typedef = refl
fixed_back fixed.Static = refl
fixed_back fixed.Const = refl

same_number : (a b : ℕ) → (a == b) ≡ true → a ≡ b
same_number a b e = grind arith

fixed_is : (f : Fixed) (k : Kind) → is_fixed f k ≡ true → fixed_of k ≡ f
fixed_is f k e = sym (fixed_back (fixed_of k)) ∙ ap fixed_at (same_number (fixed_number (fixed_of k)) (fixed_number f) e) ∙ fixed_back f

pub is_this : (f : Fixed) (k : Kind) → is_fixed f k ≡ true → IsFixed f k
is_this f k e = subst (λ f. IsFixed f k) (fixed_is f k e) (fixed_self k)

-- a word that comes next may follow those before it
abbrev pub IsNext : OneOrMore Specifier → Option SpecifierWord → Token → Type 0
IsNext done None t = Unit {0}
IsNext done (Some w) t = IsWord w t × (may_follow done w ≡ true)

pub is_next : (done : OneOrMore Specifier) (t : Token) → IsNext done (next_word done t) t
is_next done t = by_shape (wants_tag (shape_of (all_of done))) refl
  where
    by_test : (w : SpecifierWord) → IsWord w t → (b : Bool) → may_follow done w ≡ b → IsNext done (if b then Some w else None) t
    by_test w k true e = (k, e)
    by_test w k false e = tt

    by_word : (o : Option SpecifierWord) → IsSpecifier o t → IsNext done (where_it_follows (shape_of (all_of done)) o) t
    by_word None k = tt
    by_word (Some w) k = by_test w k.0 (may_follow done w) refl

    by_name : (b : Bool) → is_fixed fixed.Name t.kind ≡ b → wants_tag (shape_of (all_of done)) ≡ true → IsNext done (if b then Some (word.Tag t.start t.end) else None) t
    by_name true n e = ((is_this fixed.Name t.kind n, refl, refl), e)
    by_name false n e = tt

    by_shape : (b : Bool) → wants_tag (shape_of (all_of done)) ≡ b → IsNext done (if b then tag_word t else where_it_follows (shape_of (all_of done)) (specifier_word t)) t
    by_shape true e = by_name (is_fixed fixed.Name t.kind) refl e
    by_shape false e = by_word (specifier_word t) (is_specifier t)
