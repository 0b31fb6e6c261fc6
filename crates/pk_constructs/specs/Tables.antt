-- What a token shows by its kind and by what stands before it, as the code looks it up.
use Rattle.std.specs.Prelude.{Option, Some, None, Bool, if◌then◌else◌}
use Rattle.pk_ctypes.specs.declared.words.Construct.{Construct}
use Rattle.pk_ctypes.specs.declared.words.Construct.TheVariants as construct
use Rattle.pk_lex.specs.declared.token.Kind.{Kind}
use Rattle.pk_lex.specs.declared.token.Kind.TheVariants as kind
use Rattle.pk_lex.specs.declared.token.Keyword.{Keyword}
use Rattle.pk_lex.specs.declared.token.Keyword.TheVariants as key
use Rattle.pk_lex.specs.declared.token.Punctuator.{Punctuator}
use Rattle.pk_lex.specs.declared.token.Punctuator.TheVariants as mark
use Rattle.pk_constructs.specs.declared.constructs.Before.{Before}
use Rattle.pk_constructs.specs.declared.constructs.Before.TheVariants as before

abbrev pub word_shows : Keyword → Bool → Option Construct
word_shows key.Auto in_braces = Some construct.Auto
word_shows key.Break in_braces = None
word_shows key.Case in_braces = None
word_shows key.Char in_braces = None
word_shows key.Const in_braces = None
word_shows key.Continue in_braces = None
word_shows key.Default in_braces = None
word_shows key.Do in_braces = None
word_shows key.Double in_braces = Some construct.Double
word_shows key.Else in_braces = None
word_shows key.Enum in_braces = None
word_shows key.Extern in_braces = None
word_shows key.Float in_braces = Some construct.Float
word_shows key.For in_braces = None
word_shows key.Goto in_braces = None
word_shows key.If in_braces = None
word_shows key.Inline in_braces = Some construct.Inline
word_shows key.Int in_braces = None
word_shows key.Long in_braces = None
word_shows key.Register in_braces = Some construct.Register
word_shows key.Restrict in_braces = Some construct.Restrict
word_shows key.Return in_braces = None
word_shows key.Short in_braces = None
word_shows key.Signed in_braces = None
word_shows key.Sizeof in_braces = Some construct.Sizeof
word_shows key.Static in_braces = None
word_shows key.Struct in_braces = Some construct.Struct
word_shows key.Switch in_braces = None
word_shows key.Typedef in_braces = if in_braces then Some construct.Typedef else None
word_shows key.Union in_braces = Some construct.Union
word_shows key.Unsigned in_braces = None
word_shows key.Void in_braces = None
word_shows key.Volatile in_braces = Some construct.Volatile
word_shows key.While in_braces = None
word_shows key.Bool in_braces = Some construct.Bool
word_shows key.Complex in_braces = Some construct.Complex
word_shows key.Imaginary in_braces = Some construct.Imaginary
word_shows key.Asm in_braces = Some construct.Asm
word_shows key.GnuAsm in_braces = Some construct.GnuAsm
word_shows key.GnuAttribute in_braces = Some construct.GnuAttribute
word_shows key.GnuExtension in_braces = Some construct.GnuExtension
word_shows key.GnuInline in_braces = Some construct.GnuInline
word_shows key.GnuRestrict in_braces = Some construct.GnuRestrict

abbrev pub before_punctuator : Punctuator → Before
before_punctuator mark.OpenParenthesis = before.Other
before_punctuator mark.CloseParenthesis = before.Operand
before_punctuator mark.OpenBracket = before.OpenBracket
before_punctuator mark.CloseBracket = before.CloseBracket
before_punctuator mark.OpenBrace = before.List
before_punctuator mark.CloseBrace = before.Other
before_punctuator mark.Semicolon = before.Other
before_punctuator mark.Colon = before.Other
before_punctuator mark.Comma = before.List
before_punctuator mark.Question = before.Other
before_punctuator mark.Tilde = before.Other
before_punctuator mark.Plus = before.Other
before_punctuator mark.Minus = before.Other
before_punctuator mark.Star = before.Other
before_punctuator mark.Slash = before.Other
before_punctuator mark.Percent = before.Other
before_punctuator mark.Ampersand = before.Other
before_punctuator mark.Caret = before.Other
before_punctuator mark.Bar = before.Other
before_punctuator mark.Exclamation = before.Other
before_punctuator mark.Assign = before.Other
before_punctuator mark.Less = before.Other
before_punctuator mark.Greater = before.Other
before_punctuator mark.Increment = before.Operand
before_punctuator mark.Decrement = before.Operand
before_punctuator mark.ShiftLeft = before.Other
before_punctuator mark.ShiftRight = before.Other
before_punctuator mark.LessOrEqual = before.Other
before_punctuator mark.GreaterOrEqual = before.Other
before_punctuator mark.Equal = before.Other
before_punctuator mark.NotEqual = before.Other
before_punctuator mark.LogicalAnd = before.Other
before_punctuator mark.LogicalOr = before.Other
before_punctuator mark.PlusAssign = before.Other
before_punctuator mark.MinusAssign = before.Other
before_punctuator mark.StarAssign = before.Other
before_punctuator mark.SlashAssign = before.Other
before_punctuator mark.PercentAssign = before.Other
before_punctuator mark.ShiftLeftAssign = before.Other
before_punctuator mark.ShiftRightAssign = before.Other
before_punctuator mark.AmpersandAssign = before.Other
before_punctuator mark.CaretAssign = before.Other
before_punctuator mark.BarAssign = before.Other
before_punctuator mark.Dot = before.Other
before_punctuator mark.Ellipsis = before.Other
before_punctuator mark.Arrow = before.Other

-- what a kind is to the `*`, `&`, `[` or `]` behind it
abbrev pub before_of : Kind → Before
before_of (kind.Keyword k) = before.Other
before_of kind.Name = before.Operand
before_of kind.TypeName = before.Operand
before_of (kind.Constant t v) = before.Operand
before_of (kind.Character v) = before.Operand
before_of kind.StringLiteral = before.Other
before_of kind.Floating = before.Other
before_of kind.Directive = before.Other
before_of (kind.Punctuator p) = before_punctuator p
before_of kind.End = before.Other

abbrev pub before_next : Option Kind → Before
before_next None = before.Other
before_next (Some k) = before_of k

abbrev pub star_shows : Before → Option Construct
star_shows before.Operand = None
star_shows before.OpenBracket = Some construct.Pointer
star_shows before.CloseBracket = None
star_shows before.List = Some construct.Pointer
star_shows before.Other = Some construct.Pointer

abbrev pub opening_shows : Before → Option Construct
opening_shows before.Operand = None
opening_shows before.OpenBracket = None
opening_shows before.CloseBracket = Some construct.Arrays
opening_shows before.List = Some construct.Designator
opening_shows before.Other = None

abbrev pub closing_shows : Before → Option Construct
closing_shows before.Operand = None
closing_shows before.OpenBracket = Some construct.Brackets
closing_shows before.CloseBracket = None
closing_shows before.List = None
closing_shows before.Other = None

abbrev pub punctuator_shows : Punctuator → Before → Option Construct
punctuator_shows mark.OpenParenthesis b = None
punctuator_shows mark.CloseParenthesis b = None
punctuator_shows mark.OpenBracket b = opening_shows b
punctuator_shows mark.CloseBracket b = closing_shows b
punctuator_shows mark.OpenBrace b = None
punctuator_shows mark.CloseBrace b = None
punctuator_shows mark.Semicolon b = None
punctuator_shows mark.Colon b = None
punctuator_shows mark.Comma b = None
punctuator_shows mark.Question b = None
punctuator_shows mark.Tilde b = None
punctuator_shows mark.Plus b = None
punctuator_shows mark.Minus b = None
punctuator_shows mark.Star b = star_shows b
punctuator_shows mark.Slash b = None
punctuator_shows mark.Percent b = None
punctuator_shows mark.Ampersand b = star_shows b
punctuator_shows mark.Caret b = None
punctuator_shows mark.Bar b = None
punctuator_shows mark.Exclamation b = None
punctuator_shows mark.Assign b = None
punctuator_shows mark.Less b = None
punctuator_shows mark.Greater b = None
punctuator_shows mark.Increment b = None
punctuator_shows mark.Decrement b = None
punctuator_shows mark.ShiftLeft b = None
punctuator_shows mark.ShiftRight b = None
punctuator_shows mark.LessOrEqual b = None
punctuator_shows mark.GreaterOrEqual b = None
punctuator_shows mark.Equal b = None
punctuator_shows mark.NotEqual b = None
punctuator_shows mark.LogicalAnd b = None
punctuator_shows mark.LogicalOr b = None
punctuator_shows mark.PlusAssign b = None
punctuator_shows mark.MinusAssign b = None
punctuator_shows mark.StarAssign b = None
punctuator_shows mark.SlashAssign b = None
punctuator_shows mark.PercentAssign b = None
punctuator_shows mark.ShiftLeftAssign b = None
punctuator_shows mark.ShiftRightAssign b = None
punctuator_shows mark.AmpersandAssign b = None
punctuator_shows mark.CaretAssign b = None
punctuator_shows mark.BarAssign b = None
punctuator_shows mark.Dot b = Some construct.Dot
punctuator_shows mark.Ellipsis b = Some construct.Ellipsis
punctuator_shows mark.Arrow b = Some construct.Arrow

abbrev pub kind_shows : Before → Bool → Kind → Option Construct
kind_shows b in_braces (kind.Keyword k) = word_shows k in_braces
kind_shows b in_braces kind.Name = None
kind_shows b in_braces kind.TypeName = None
kind_shows b in_braces (kind.Constant t v) = None
kind_shows b in_braces (kind.Character v) = None
kind_shows b in_braces kind.StringLiteral = Some construct.StringLiteral
kind_shows b in_braces kind.Floating = Some construct.Floating
kind_shows b in_braces kind.Directive = Some construct.Directive
kind_shows b in_braces (kind.Punctuator p) = punctuator_shows p b
kind_shows b in_braces kind.End = None
