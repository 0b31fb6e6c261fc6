-- What a token's kind tells the parser.
use Rattle.std.specs.Prelude.{ℕ, ◌==◌, if◌then◌else◌, List, [], ◌∷◌, Option, Some, None, Bool, true, false}
use Rattle.pk_lex.specs.declared.token.Token.{Token}
use Rattle.pk_lex.specs.declared.token.Kind.{Kind}
use Rattle.pk_lex.specs.declared.token.Kind.TheVariants as kind
use Rattle.pk_lex.specs.declared.token.Keyword.{Keyword}
use Rattle.pk_lex.specs.declared.token.Keyword.TheVariants as key
use Rattle.pk_lex.specs.declared.token.Punctuator.{Punctuator}
use Rattle.pk_lex.specs.declared.token.Punctuator.TheVariants as mark
use Rattle.pk_ast.specs.declared.declarations.Specifier.{Specifier}
use Rattle.pk_ast.specs.declared.declarations.SpecifierWord.{SpecifierWord}
use Rattle.pk_ast.specs.declared.declarations.SpecifierWord.TheVariants as word
use Rattle.pk_ast.specs.declared.units.StorageWord.{StorageWord}
use Rattle.pk_ast.specs.declared.units.StorageWord.TheVariants as storage
use Rattle.pk_ast.specs.declared.operators.BinaryOperator.TheVariants as op
use Rattle.pk_ast.specs.declared.operators.UnaryOperator.TheVariants as un
use Rattle.pk_ast.specs.declared.operators.StepOperator.TheVariants as step
use Rattle.pk_ast.specs.declared.operators.AssignmentOperator.TheVariants as asg
use Rattle.pk_grammar.specs.declared.states.Testing.TheVariants as testing
use Rattle.pk_grammar.specs.declared.signs.Fixed.{Fixed}
use Rattle.pk_grammar.specs.declared.signs.Fixed.TheVariants as fixed
use Rattle.pk_grammar.specs.declared.signs.Shape.{Shape}
use Rattle.pk_grammar.specs.declared.signs.Shape.TheVariants as shape
use Rattle.pk_grammar.specs.declared.signs.OperandStart.{OperandStart}
use Rattle.pk_grammar.specs.declared.signs.OperandStart.TheVariants as start
use Rattle.pk_grammar.specs.declared.signs.Operator.{Operator}
use Rattle.pk_grammar.specs.declared.signs.Operator.TheVariants as operator
use Rattle.pk_grammar.specs.declared.signs.StatementStart.{StatementStart}
use Rattle.pk_grammar.specs.declared.signs.StatementStart.TheVariants as first

abbrev pub fixed_number : Fixed → ℕ
fixed_number fixed.Name = 0
fixed_number fixed.OpenParenthesis = 1
fixed_number fixed.CloseParenthesis = 2
fixed_number fixed.OpenBracket = 3
fixed_number fixed.CloseBracket = 4
fixed_number fixed.OpenBrace = 5
fixed_number fixed.CloseBrace = 6
fixed_number fixed.Semicolon = 7
fixed_number fixed.Colon = 8
fixed_number fixed.Comma = 9
fixed_number fixed.Assign = 10
fixed_number fixed.Else = 11
fixed_number fixed.While = 12
fixed_number fixed.End = 13
fixed_number fixed.Other = 14
fixed_number fixed.Typedef = 15
fixed_number fixed.Static = 16
fixed_number fixed.Const = 17

-- What a punctuator is: the token of a construct; what begins an operand; what comes after one; what begins a statement
pub record PunctuatorSigns : Type 0 where
  pub fixed : Fixed
  pub operand : OperandStart
  pub operator : Operator
  pub statement : StatementStart

abbrev pub signs : Fixed → OperandStart → Operator → StatementStart → PunctuatorSigns
signs f s o t = record { fixed = f; operand = s; operator = o; statement = t }

abbrev pub punctuator_signs : Punctuator → PunctuatorSigns
punctuator_signs mark.OpenParenthesis = signs fixed.OpenParenthesis start.Parenthesis operator.Other first.Other
punctuator_signs mark.CloseParenthesis = signs fixed.CloseParenthesis start.Other operator.Other first.Other
punctuator_signs mark.OpenBracket = signs fixed.OpenBracket start.Other operator.Other first.Other
punctuator_signs mark.CloseBracket = signs fixed.CloseBracket start.Other operator.Other first.Other
punctuator_signs mark.OpenBrace = signs fixed.OpenBrace start.Other operator.Other first.Block
punctuator_signs mark.CloseBrace = signs fixed.CloseBrace start.Other operator.Other first.Other
punctuator_signs mark.Semicolon = signs fixed.Semicolon start.Other operator.Other first.Empty
punctuator_signs mark.Colon = signs fixed.Colon start.Other operator.Other first.Other
punctuator_signs mark.Comma = signs fixed.Comma start.Other operator.Comma first.Other
punctuator_signs mark.Question = signs fixed.Other start.Other operator.Question first.Other
punctuator_signs mark.Tilde = signs fixed.Other (start.Unary un.Complement) operator.Other first.Other
punctuator_signs mark.Plus = signs fixed.Other (start.Unary un.Plus) (operator.Binary op.Add) first.Other
punctuator_signs mark.Minus = signs fixed.Other (start.Unary un.Minus) (operator.Binary op.Subtract) first.Other
punctuator_signs mark.Star = signs fixed.Other start.Other (operator.Binary op.Multiply) first.Other
punctuator_signs mark.Slash = signs fixed.Other start.Other (operator.Binary op.Divide) first.Other
punctuator_signs mark.Percent = signs fixed.Other start.Other (operator.Binary op.Remainder) first.Other
punctuator_signs mark.Ampersand = signs fixed.Other start.Other (operator.Binary op.And) first.Other
punctuator_signs mark.Caret = signs fixed.Other start.Other (operator.Binary op.ExclusiveOr) first.Other
punctuator_signs mark.Bar = signs fixed.Other start.Other (operator.Binary op.Or) first.Other
punctuator_signs mark.Exclamation = signs fixed.Other (start.Unary un.Not) operator.Other first.Other
punctuator_signs mark.Assign = signs fixed.Assign start.Other (operator.Assignment asg.Assign) first.Other
punctuator_signs mark.Less = signs fixed.Other start.Other (operator.Binary op.Less) first.Other
punctuator_signs mark.Greater = signs fixed.Other start.Other (operator.Binary op.Greater) first.Other
punctuator_signs mark.Increment =
    signs fixed.Other (start.Step step.Increment) (operator.Step step.Increment) first.Other
punctuator_signs mark.Decrement =
    signs fixed.Other (start.Step step.Decrement) (operator.Step step.Decrement) first.Other
punctuator_signs mark.ShiftLeft = signs fixed.Other start.Other (operator.Binary op.ShiftLeft) first.Other
punctuator_signs mark.ShiftRight = signs fixed.Other start.Other (operator.Binary op.ShiftRight) first.Other
punctuator_signs mark.LessOrEqual = signs fixed.Other start.Other (operator.Binary op.LessOrEqual) first.Other
punctuator_signs mark.GreaterOrEqual = signs fixed.Other start.Other (operator.Binary op.GreaterOrEqual) first.Other
punctuator_signs mark.Equal = signs fixed.Other start.Other (operator.Binary op.Equal) first.Other
punctuator_signs mark.NotEqual = signs fixed.Other start.Other (operator.Binary op.NotEqual) first.Other
punctuator_signs mark.LogicalAnd = signs fixed.Other start.Other (operator.Binary op.LogicalAnd) first.Other
punctuator_signs mark.LogicalOr = signs fixed.Other start.Other (operator.Binary op.LogicalOr) first.Other
punctuator_signs mark.PlusAssign = signs fixed.Other start.Other (operator.Assignment asg.Add) first.Other
punctuator_signs mark.MinusAssign = signs fixed.Other start.Other (operator.Assignment asg.Subtract) first.Other
punctuator_signs mark.StarAssign = signs fixed.Other start.Other (operator.Assignment asg.Multiply) first.Other
punctuator_signs mark.SlashAssign = signs fixed.Other start.Other (operator.Assignment asg.Divide) first.Other
punctuator_signs mark.PercentAssign = signs fixed.Other start.Other (operator.Assignment asg.Remainder) first.Other
punctuator_signs mark.ShiftLeftAssign = signs fixed.Other start.Other (operator.Assignment asg.ShiftLeft) first.Other
punctuator_signs mark.ShiftRightAssign = signs fixed.Other start.Other (operator.Assignment asg.ShiftRight) first.Other
punctuator_signs mark.AmpersandAssign = signs fixed.Other start.Other (operator.Assignment asg.And) first.Other
punctuator_signs mark.CaretAssign = signs fixed.Other start.Other (operator.Assignment asg.ExclusiveOr) first.Other
punctuator_signs mark.BarAssign = signs fixed.Other start.Other (operator.Assignment asg.Or) first.Other
punctuator_signs mark.Dot = signs fixed.Other start.Other operator.Other first.Other
punctuator_signs mark.Ellipsis = signs fixed.Other start.Other operator.Other first.Other
punctuator_signs mark.Arrow = signs fixed.Other start.Other operator.Other first.Other

-- What a keyword is: the token of a construct; a word of a type; a storage word; what begins a statement
pub record KeywordSigns : Type 0 where
  pub fixed : Fixed
  pub specifier : Option SpecifierWord
  pub storage : Option StorageWord
  pub statement : StatementStart

abbrev pub word_signs : Fixed → Option SpecifierWord → Option StorageWord → StatementStart → KeywordSigns
word_signs f s o t = record { fixed = f; specifier = s; storage = o; statement = t }

abbrev pub keyword_signs : Keyword → KeywordSigns
keyword_signs key.Auto = word_signs fixed.Other None None first.Other
keyword_signs key.Break = word_signs fixed.Other None None first.Break
keyword_signs key.Case = word_signs fixed.Other None None first.Case
keyword_signs key.Char = word_signs fixed.Other (Some word.Char) None first.Other
keyword_signs key.Const = word_signs fixed.Const (Some word.Const) None first.Other
keyword_signs key.Continue = word_signs fixed.Other None None first.Continue
keyword_signs key.Default = word_signs fixed.Other None None first.Default
keyword_signs key.Do = word_signs fixed.Other None None first.Do
keyword_signs key.Double = word_signs fixed.Other None None first.Other
keyword_signs key.Else = word_signs fixed.Else None None first.Other
keyword_signs key.Enum = word_signs fixed.Other (Some word.Enum) None first.Other
keyword_signs key.Extern = word_signs fixed.Other None (Some storage.Extern) first.Other
keyword_signs key.Float = word_signs fixed.Other None None first.Other
keyword_signs key.For = word_signs fixed.Other None None first.For
keyword_signs key.Goto = word_signs fixed.Other None None first.Goto
keyword_signs key.If = word_signs fixed.Other None None (first.Test testing.If)
keyword_signs key.Inline = word_signs fixed.Other None None first.Other
keyword_signs key.Int = word_signs fixed.Other (Some word.Int) None first.Other
keyword_signs key.Long = word_signs fixed.Other (Some word.Long) None first.Other
keyword_signs key.Register = word_signs fixed.Other None None first.Other
keyword_signs key.Restrict = word_signs fixed.Other None None first.Other
keyword_signs key.Return = word_signs fixed.Other None None first.Return
keyword_signs key.Short = word_signs fixed.Other (Some word.Short) None first.Other
keyword_signs key.Signed = word_signs fixed.Other (Some word.Signed) None first.Other
keyword_signs key.Sizeof = word_signs fixed.Other None None first.Other
keyword_signs key.Static = word_signs fixed.Static None (Some storage.Static) first.Other
keyword_signs key.Struct = word_signs fixed.Other None None first.Other
keyword_signs key.Switch = word_signs fixed.Other None None (first.Test testing.Switch)
keyword_signs key.Typedef = word_signs fixed.Typedef None None first.Other
keyword_signs key.Union = word_signs fixed.Other None None first.Other
keyword_signs key.Unsigned = word_signs fixed.Other (Some word.Unsigned) None first.Other
keyword_signs key.Void = word_signs fixed.Other (Some word.Void) None first.Other
keyword_signs key.Volatile = word_signs fixed.Other None None first.Other
keyword_signs key.While = word_signs fixed.While None None (first.Test testing.While)
keyword_signs key.Bool = word_signs fixed.Other None None first.Other
keyword_signs key.Complex = word_signs fixed.Other None None first.Other
keyword_signs key.Imaginary = word_signs fixed.Other None None first.Other
keyword_signs key.Asm = word_signs fixed.Other None None first.Other
keyword_signs key.GnuAsm = word_signs fixed.Other None None first.Other
keyword_signs key.GnuAttribute = word_signs fixed.Other None None first.Other
keyword_signs key.GnuExtension = word_signs fixed.Other None None first.Other
keyword_signs key.GnuInline = word_signs fixed.Other None None first.Other
keyword_signs key.GnuRestrict = word_signs fixed.Other None None first.Other

abbrev pub fixed_of : Kind → Fixed
fixed_of kind.Name = fixed.Name
fixed_of kind.TypeName = fixed.Other
fixed_of (kind.Keyword k) = (keyword_signs k).fixed
fixed_of (kind.Constant ty v) = fixed.Other
fixed_of (kind.Character v) = fixed.Other
fixed_of kind.StringLiteral = fixed.Other
fixed_of kind.Floating = fixed.Other
fixed_of kind.Directive = fixed.Other
fixed_of (kind.Punctuator p) = (punctuator_signs p).fixed
fixed_of kind.End = fixed.End

-- the token is of this kind
abbrev pub is_fixed : Fixed → Kind → Bool
is_fixed f k = fixed_number (fixed_of k) == fixed_number f

-- the word of a type that a token of this kind and span is
abbrev pub specifier_in : Kind → ℕ → ℕ → Option SpecifierWord
specifier_in kind.Name from to = None
specifier_in kind.TypeName from to = Some (word.TypeName from to)
specifier_in (kind.Keyword k) from to = (keyword_signs k).specifier
specifier_in (kind.Constant ty v) from to = None
specifier_in (kind.Character v) from to = None
specifier_in kind.StringLiteral from to = None
specifier_in kind.Floating from to = None
specifier_in kind.Directive from to = None
specifier_in (kind.Punctuator p) from to = None
specifier_in kind.End from to = None

abbrev pub specifier_word : Token → Option SpecifierWord
specifier_word t = specifier_in t.kind t.start t.end

-- words after which a keyword may stand, or any `const`; words that are all `const`
abbrev pub takes_keyword : Shape → Bool
takes_keyword shape.Consts = true
takes_keyword shape.Keywords = true
takes_keyword shape.Enum = false
takes_keyword shape.Tagged = false
takes_keyword shape.Named = false

abbrev pub takes_const : Shape → Bool
takes_const shape.Consts = true
takes_const shape.Keywords = true
takes_const shape.Enum = false
takes_const shape.Tagged = true
takes_const shape.Named = true

abbrev pub is_consts : Shape → Bool
is_consts shape.Consts = true
is_consts shape.Keywords = false
is_consts shape.Enum = false
is_consts shape.Tagged = false
is_consts shape.Named = false

-- words behind which a tag has to stand, or the braces of an enumeration
abbrev pub wants_tag : Shape → Bool
wants_tag shape.Consts = false
wants_tag shape.Keywords = false
wants_tag shape.Enum = true
wants_tag shape.Tagged = false
wants_tag shape.Named = false

-- words behind which the braces of an enumeration may stand
abbrev pub takes_braces : Shape → Bool
takes_braces shape.Consts = false
takes_braces shape.Keywords = false
takes_braces shape.Enum = true
takes_braces shape.Tagged = true
takes_braces shape.Named = false

-- a word may follow words of this shape
abbrev pub follows : Shape → SpecifierWord → Bool
follows s word.Void = takes_keyword s
follows s word.Char = takes_keyword s
follows s word.Short = takes_keyword s
follows s word.Int = takes_keyword s
follows s word.Long = takes_keyword s
follows s word.Signed = takes_keyword s
follows s word.Unsigned = takes_keyword s
follows s word.Const = takes_const s
follows s (word.TypeName from to) = is_consts s
follows s word.Enum = is_consts s
follows s (word.Tag from to) = wants_tag s

-- what words are with one more
abbrev pub after_consts : SpecifierWord → Shape
after_consts word.Void = shape.Keywords
after_consts word.Char = shape.Keywords
after_consts word.Short = shape.Keywords
after_consts word.Int = shape.Keywords
after_consts word.Long = shape.Keywords
after_consts word.Signed = shape.Keywords
after_consts word.Unsigned = shape.Keywords
after_consts word.Const = shape.Consts
after_consts (word.TypeName from to) = shape.Named
after_consts word.Enum = shape.Enum
after_consts (word.Tag from to) = shape.Named

abbrev pub with_word : Shape → SpecifierWord → Shape
with_word shape.Consts w = after_consts w
with_word shape.Keywords w = shape.Keywords
with_word shape.Enum w = shape.Tagged
with_word shape.Tagged w = shape.Named
with_word shape.Named w = shape.Named

abbrev pub with_words : Shape → List Specifier → Shape
with_words s [] = s
with_words s (w ∷ more) = with_words (with_word s w.word) more

-- what these words are
abbrev pub shape_of : List Specifier → Shape
shape_of words = with_words shape.Consts words

abbrev pub where_it_follows : Shape → Option SpecifierWord → Option SpecifierWord
where_it_follows s None = None
where_it_follows s (Some w) = if follows s w then Some w else None

-- the tag that a token is behind `enum`
abbrev pub tag_word : Token → Option SpecifierWord
tag_word t = if is_fixed fixed.Name t.kind then Some (word.Tag t.start t.end) else None

-- the word of a type that a token is, where it may follow words of this shape
abbrev pub following_word : Shape → Token → Option SpecifierWord
following_word s t = if wants_tag s then tag_word t else where_it_follows s (specifier_word t)

abbrev pub is_void_word : SpecifierWord → Bool
is_void_word word.Void = true
is_void_word word.Char = false
is_void_word word.Short = false
is_void_word word.Int = false
is_void_word word.Long = false
is_void_word word.Signed = false
is_void_word word.Unsigned = false
is_void_word word.Const = false
is_void_word (word.TypeName from to) = false
is_void_word word.Enum = false
is_void_word (word.Tag from to) = false

abbrev pub storage_word : Kind → Option StorageWord
storage_word kind.Name = None
storage_word kind.TypeName = None
storage_word (kind.Keyword k) = (keyword_signs k).storage
storage_word (kind.Constant ty v) = None
storage_word (kind.Character v) = None
storage_word kind.StringLiteral = None
storage_word kind.Floating = None
storage_word kind.Directive = None
storage_word (kind.Punctuator p) = None
storage_word kind.End = None

abbrev pub operand_start : Kind → OperandStart
operand_start kind.Name = start.Name
operand_start kind.TypeName = start.Other
operand_start (kind.Keyword k) = start.Other
operand_start (kind.Constant ty v) = start.Constant ty v
operand_start (kind.Character v) = start.Character v
operand_start kind.StringLiteral = start.Other
operand_start kind.Floating = start.Other
operand_start kind.Directive = start.Other
operand_start (kind.Punctuator p) = (punctuator_signs p).operand
operand_start kind.End = start.Other

abbrev pub operator_sign : Punctuator → Operator
operator_sign p = (punctuator_signs p).operator

abbrev pub operator_of : Kind → Operator
operator_of kind.Name = operator.Other
operator_of kind.TypeName = operator.Other
operator_of (kind.Keyword k) = operator.Other
operator_of (kind.Constant ty v) = operator.Other
operator_of (kind.Character v) = operator.Other
operator_of kind.StringLiteral = operator.Other
operator_of kind.Floating = operator.Other
operator_of kind.Directive = operator.Other
operator_of (kind.Punctuator p) = operator_sign p
operator_of kind.End = operator.Other

abbrev pub statement_start : Kind → StatementStart
statement_start kind.Name = first.Other
statement_start kind.TypeName = first.Other
statement_start (kind.Keyword k) = (keyword_signs k).statement
statement_start (kind.Constant ty v) = first.Other
statement_start (kind.Character v) = first.Other
statement_start kind.StringLiteral = first.Other
statement_start kind.Floating = first.Other
statement_start kind.Directive = first.Other
statement_start (kind.Punctuator p) = (punctuator_signs p).statement
statement_start kind.End = first.Other
