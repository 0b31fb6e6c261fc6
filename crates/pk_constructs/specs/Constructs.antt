-- The constructs of C that aren't analysed, each by the token that shows it.
use Rattle.std.specs.Prelude.{◌≡◌, ◌≢◌, ℕ, ◌+◌, ◌-◌, ◌<◌, ◌⊎◌, List, [], ◌∷◌, ◌++◌, Option, Some, None}
use Rattle.pk_ctypes.specs.declared.places.Pos.{Pos}
use Rattle.pk_ctypes.specs.declared.words.Construct.{Construct}
use Rattle.pk_ctypes.specs.declared.words.Construct.TheVariants as construct
use Rattle.pk_lex.specs.declared.token.Token.{Token}
use Rattle.pk_lex.specs.declared.token.Kind.{Kind}
use Rattle.pk_lex.specs.declared.token.Kind.TheVariants as kind
use Rattle.pk_lex.specs.declared.token.Keyword.TheVariants as key
use Rattle.pk_lex.specs.declared.token.Punctuator.TheVariants as mark

-- a brace opens or closes, where so many are open before it; one that closes none changes nothing
abbrev pub BraceStep : Kind → ℕ → ℕ → Type 0
BraceStep k n after =
    ((k ≡ kind.Punctuator mark.OpenBrace) × (after ≡ n + 1))
    ⊎ ((k ≡ kind.Punctuator mark.CloseBrace) × (after ≡ n - 1))
    ⊎ ((k ≢ kind.Punctuator mark.OpenBrace) × (k ≢ kind.Punctuator mark.CloseBrace) × (after ≡ n))

-- how many braces are open after these tokens, where so many are open before them
abbrev pub BracesAfter : List Token → ℕ → ℕ → Type 0
BracesAfter [] n after = n ≡ after
BracesAfter (t ∷ ts) n after = (m : ℕ) × BraceStep t.kind n m × BracesAfter ts m after

abbrev pub IsInBraces : List Token → Type 0
IsInBraces front = (n : ℕ) × BracesAfter front 0 n × (0 < n)

abbrev pub last_kind : List Token → Option Kind
last_kind [] = None
last_kind (t ∷ []) = Some t.kind
last_kind (t ∷ u ∷ ts) = last_kind (u ∷ ts)

abbrev pub Is : (Kind → Type 0) → Option Kind → Type 0
Is P None = ⊥
Is P (Some k) = P k

-- an operand may end with it, so that `*` and `&` behind it are binary operators
abbrev pub EndsOperand : Kind → Type 0
EndsOperand kind.Name = Unit {0}
EndsOperand kind.TypeName = Unit {0}
EndsOperand (kind.Constant t v) = Unit {0}
EndsOperand (kind.Character v) = Unit {0}
EndsOperand (kind.Punctuator p) =
    (p ≡ mark.CloseParenthesis) ⊎ (p ≡ mark.CloseBracket) ⊎ (p ≡ mark.Increment) ⊎ (p ≡ mark.Decrement)
EndsOperand k = ⊥

-- The construct is shown by a token of kind k, where the token before it is of the kind `before`, if there is one, and some brace is open
-- or none.
abbrev pub Shows : Option Kind → Type 0 → Kind → Construct → Type 0
Shows before in_braces k construct.Float = k ≡ kind.Keyword key.Float
Shows before in_braces k construct.Double = k ≡ kind.Keyword key.Double
Shows before in_braces k construct.Bool = k ≡ kind.Keyword key.Bool
Shows before in_braces k construct.Complex = k ≡ kind.Keyword key.Complex
Shows before in_braces k construct.Imaginary = k ≡ kind.Keyword key.Imaginary
Shows before in_braces k construct.Struct = k ≡ kind.Keyword key.Struct
Shows before in_braces k construct.Union = k ≡ kind.Keyword key.Union
Shows before in_braces k construct.Enum = ⊥
Shows before in_braces k construct.Typedef = (k ≡ kind.Keyword key.Typedef) × in_braces
Shows before in_braces k construct.Volatile = k ≡ kind.Keyword key.Volatile
Shows before in_braces k construct.Restrict = k ≡ kind.Keyword key.Restrict
Shows before in_braces k construct.Inline = k ≡ kind.Keyword key.Inline
Shows before in_braces k construct.Register = k ≡ kind.Keyword key.Register
Shows before in_braces k construct.Auto = k ≡ kind.Keyword key.Auto
Shows before in_braces k construct.Sizeof = k ≡ kind.Keyword key.Sizeof
Shows before in_braces k construct.Asm = k ≡ kind.Keyword key.Asm
Shows before in_braces k construct.GnuAsm = k ≡ kind.Keyword key.GnuAsm
Shows before in_braces k construct.GnuAttribute = k ≡ kind.Keyword key.GnuAttribute
Shows before in_braces k construct.GnuExtension = k ≡ kind.Keyword key.GnuExtension
Shows before in_braces k construct.GnuInline = k ≡ kind.Keyword key.GnuInline
Shows before in_braces k construct.GnuRestrict = k ≡ kind.Keyword key.GnuRestrict
Shows before in_braces k construct.Static = ⊥
Shows before in_braces k construct.Dot = k ≡ kind.Punctuator mark.Dot
Shows before in_braces k construct.Ellipsis = k ≡ kind.Punctuator mark.Ellipsis
Shows before in_braces k construct.Arrow = k ≡ kind.Punctuator mark.Arrow
Shows before in_braces k construct.StringLiteral = k ≡ kind.StringLiteral
Shows before in_braces k construct.Floating = k ≡ kind.Floating
Shows before in_braces k construct.Directive = k ≡ kind.Directive
Shows before in_braces k construct.Pointer =
    ((k ≡ kind.Punctuator mark.Star) ⊎ (k ≡ kind.Punctuator mark.Ampersand)) × ¬ Is EndsOperand before
Shows before in_braces k construct.Brackets =
    (k ≡ kind.Punctuator mark.CloseBracket) × Is (λ b. b ≡ kind.Punctuator mark.OpenBracket) before
Shows before in_braces k construct.Arrays =
    (k ≡ kind.Punctuator mark.OpenBracket) × Is (λ b. b ≡ kind.Punctuator mark.CloseBracket) before
Shows before in_braces k construct.Designator =
    (k ≡ kind.Punctuator mark.OpenBracket)
    × Is (λ b. (b ≡ kind.Punctuator mark.OpenBrace) ⊎ (b ≡ kind.Punctuator mark.Comma)) before
Shows before in_braces k construct.Later = ⊥

-- the construct is shown by a token behind these
abbrev pub IsUnsupported : List Token → Token → Construct → Type 0
IsUnsupported front t c = Shows (last_kind front) (IsInBraces front) t.kind c

-- none of the tokens, which stand behind others, shows a construct
abbrev pub AreSupported : List Token → List Token → Type 0
AreSupported front [] = Unit {0}
AreSupported front (t ∷ ts) = ((c : Construct) → ¬ IsUnsupported front t c) × AreSupported (front ++ t ∷ []) ts

abbrev pub IsSupported : List Token → Type 0
IsSupported tokens = AreSupported [] tokens

-- the first token that shows a construct, its place and the construct
pub record FirstUnsupported (tokens : List Token) (c : Construct) (at : Pos) : Type 0 where
  pub front : List Token
  pub found : Token
  pub rest : List Token
  pub cut : tokens ≡ front ++ found ∷ rest
  pub place : found.at ≡ at
  pub before : IsSupported front
  pub shows : IsUnsupported front found c

-- A text has one first construct at most, and then isn't supported.
pub record FirstIsDetermined : Type 0 where
  pub one : (tokens : List Token) (c d : Construct) (at there : Pos) → FirstUnsupported tokens c at →
      FirstUnsupported tokens d there → (c ≡ d) × (at ≡ there)
  pub none : (tokens : List Token) (c : Construct) (at : Pos) → FirstUnsupported tokens c at → IsSupported tokens → ⊥
