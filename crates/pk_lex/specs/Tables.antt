-- The keywords and the punctuators.
use Rattle.std.specs.Prelude.{ℕ, List, [], ◌∷◌, ◌++◌, codes, Option}
use Rattle.pk_ctypes.specs.Spellings.{lookup}
use Rattle.pk_lex.specs.declared.token.Keyword.{Keyword}
use Rattle.pk_lex.specs.declared.token.Keyword.TheVariants as keyword
use Rattle.pk_lex.specs.declared.token.Punctuator.{Punctuator}
use Rattle.pk_lex.specs.declared.token.Punctuator.TheVariants as punctuator

-- C99 6.4.1, and GNU's
abbrev pub keywords : List (List ℕ × Keyword)
keywords =
    (codes "auto", keyword.Auto) ∷ (codes "break", keyword.Break) ∷ (codes "case", keyword.Case)
    ∷ (codes "char", keyword.Char)
    ∷ (codes "const", keyword.Const) ∷ (codes "continue", keyword.Continue) ∷ (codes "default", keyword.Default)
    ∷ (codes "do", keyword.Do)
    ∷ (codes "double", keyword.Double) ∷ (codes "else", keyword.Else) ∷ (codes "enum", keyword.Enum)
    ∷ (codes "extern", keyword.Extern)
    ∷ (codes "float", keyword.Float) ∷ (codes "for", keyword.For) ∷ (codes "goto", keyword.Goto)
    ∷ (codes "if", keyword.If)
    ∷ (codes "inline", keyword.Inline) ∷ (codes "int", keyword.Int) ∷ (codes "long", keyword.Long)
    ∷ (codes "register", keyword.Register)
    ∷ (codes "restrict", keyword.Restrict) ∷ (codes "return", keyword.Return) ∷ (codes "short", keyword.Short)
    ∷ (codes "signed", keyword.Signed)
    ∷ (codes "sizeof", keyword.Sizeof) ∷ (codes "static", keyword.Static) ∷ (codes "struct", keyword.Struct)
    ∷ (codes "switch", keyword.Switch)
    ∷ (codes "typedef", keyword.Typedef) ∷ (codes "union", keyword.Union) ∷ (codes "unsigned", keyword.Unsigned)
    ∷ (codes "void", keyword.Void)
    ∷ (codes "volatile", keyword.Volatile) ∷ (codes "while", keyword.While) ∷ (codes "_Bool", keyword.Bool)
    ∷ (codes "_Complex", keyword.Complex)
    ∷ (codes "_Imaginary", keyword.Imaginary) ∷ (codes "asm", keyword.Asm) ∷ (codes "__asm__", keyword.GnuAsm)
    ∷ (codes "__attribute__", keyword.GnuAttribute) ∷ (codes "__extension__", keyword.GnuExtension)
    ∷ (codes "__inline", keyword.GnuInline)
    ∷ (codes "__restrict", keyword.GnuRestrict) ∷ []

-- C99 6.4.6, without digraphs and without `#` and `##`
abbrev pub punctuators_of_one : List (List ℕ × Punctuator)
punctuators_of_one =
    (codes "(", punctuator.OpenParenthesis) ∷ (codes ")", punctuator.CloseParenthesis)
    ∷ (codes "[", punctuator.OpenBracket) ∷ (codes "]", punctuator.CloseBracket)
    ∷ (codes "{", punctuator.OpenBrace) ∷ (codes "}", punctuator.CloseBrace) ∷ (codes ";", punctuator.Semicolon)
    ∷ (codes ":", punctuator.Colon)
    ∷ (codes ",", punctuator.Comma) ∷ (codes "?", punctuator.Question) ∷ (codes "~", punctuator.Tilde)
    ∷ (codes "+", punctuator.Plus)
    ∷ (codes "-", punctuator.Minus) ∷ (codes "*", punctuator.Star) ∷ (codes "/", punctuator.Slash)
    ∷ (codes "%", punctuator.Percent)
    ∷ (codes "&", punctuator.Ampersand) ∷ (codes "^", punctuator.Caret) ∷ (codes "|", punctuator.Bar)
    ∷ (codes "!", punctuator.Exclamation)
    ∷ (codes "=", punctuator.Assign) ∷ (codes "<", punctuator.Less) ∷ (codes ">", punctuator.Greater)
    ∷ (codes ".", punctuator.Dot) ∷ []

abbrev pub punctuators_of_two : List (List ℕ × Punctuator)
punctuators_of_two =
    (codes "++", punctuator.Increment) ∷ (codes "--", punctuator.Decrement) ∷ (codes "<<", punctuator.ShiftLeft)
    ∷ (codes ">>", punctuator.ShiftRight)
    ∷ (codes "<=", punctuator.LessOrEqual) ∷ (codes ">=", punctuator.GreaterOrEqual) ∷ (codes "==", punctuator.Equal)
    ∷ (codes "!=", punctuator.NotEqual)
    ∷ (codes "&&", punctuator.LogicalAnd) ∷ (codes "||", punctuator.LogicalOr) ∷ (codes "+=", punctuator.PlusAssign)
    ∷ (codes "-=", punctuator.MinusAssign)
    ∷ (codes "*=", punctuator.StarAssign) ∷ (codes "/=", punctuator.SlashAssign)
    ∷ (codes "%=", punctuator.PercentAssign) ∷ (codes "&=", punctuator.AmpersandAssign)
    ∷ (codes "^=", punctuator.CaretAssign) ∷ (codes "|=", punctuator.BarAssign) ∷ (codes "->", punctuator.Arrow) ∷ []

abbrev pub punctuators_of_three : List (List ℕ × Punctuator)
punctuators_of_three =
    (codes "<<=", punctuator.ShiftLeftAssign) ∷ (codes ">>=", punctuator.ShiftRightAssign)
    ∷ (codes "...", punctuator.Ellipsis) ∷ []

unfoldable pub keyword_of : List ℕ → Option Keyword
keyword_of word = lookup keywords word

unfoldable pub punctuator_of : List ℕ → Option Punctuator
punctuator_of word = lookup (punctuators_of_one ++ punctuators_of_two ++ punctuators_of_three) word
