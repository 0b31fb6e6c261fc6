-- What each parsing function reads.
use Rattle.std.specs.Prelude.{◌≡◌, ◌⊎◌, ℕ, ◌+◌, ◌≤◌, List, [], ◌∷◌, Bool, true, nat_le, Option, Some, None}
use Rattle.pk_ctypes.specs.declared.places.Pos.{Pos}
use Rattle.pk_lex.specs.declared.token.Token.{Token}
use Rattle.pk_ast.specs.declared.declarations.Specifier.{Specifier}
use Rattle.pk_ast.specs.declared.declarations.SpecifierWord.{SpecifierWord}
use Rattle.pk_ast.specs.Lists.{one, with_last}
use Rattle.pk_ast.specs.Trees.{OneOrMore, ExpressionTree}
use Rattle.pk_grammar.specs.declared.failure.ParseError.{ParseError}
use Rattle.pk_grammar.specs.declared.failure.ParseError.TheVariants.{Syntax, Memory}
use Rattle.pk_grammar.specs.declared.signs.Fixed.{Fixed}
use Rattle.pk_grammar.specs.declared.signs.Operator.{Operator}
use Rattle.pk_grammar.specs.declared.signs.Operator.TheVariants as operator
use Rattle.pk_grammar.specs.Grammar.{strength, operators_in, postfixes_in, commas_in, cast_expression, unary_expression}
use Rattle.pk_grammar.specs.Machine.Signs.{is_fixed, operator_of}
use Rattle.pk_grammar.specs.Machine.States.{Context, State, complete}
use Rattle.pk_grammar.specs.Machine.Steps.{specifier_at, next_word, end_in_enum, operand_level}
use Rattle.pk_grammar.specs.Machine.Running.{first_of_all, run, Fails}

-- these tokens begin with one of this kind
pub record Begins (f : Fixed) (ts : List Token) (t : Token) (rest : List Token) : Type 0 where
  pub cut : ts ≡ t ∷ rest
  pub is : is_fixed f t.kind ≡ true

pub record BeginsWith (o : Operator) (ts : List Token) (at : Pos) (rest : List Token) : Type 0 where
  pub token : Token
  pub cut : ts ≡ token ∷ rest
  pub is : operator_of token.kind ≡ o
  pub place : token.at ≡ at

-- these tokens begin with one that this function has for this word of a type
pub record BeginsWithWord (word_of : Token → Option SpecifierWord) (ts : List Token) (s : Specifier)
    (rest : List Token) : Type 0 where
  pub token : Token
  pub word : SpecifierWord
  pub cut : ts ≡ token ∷ rest
  pub is : word_of token ≡ Some word
  pub specifier : s ≡ specifier_at token word

abbrev pub TypeWords : Type 0
TypeWords = OneOrMore Specifier × List Token

abbrev pub words_then : OneOrMore Specifier → Token → List Token → Option SpecifierWord →
    (OneOrMore Specifier → TypeWords) → TypeWords
words_then done t ts None go = (done, t ∷ ts)
words_then done t ts (Some w) go = go (with_last done (specifier_at t w))

-- behind words of a type: these and the words that follow them, and the tokens after those
unfoldable pub words : OneOrMore Specifier → List Token → TypeWords
words done [] = (done, [])
words done (t ∷ ts) = words_then done t ts (next_word done t) (λ all. words all ts)

-- the words of a type of which the first was read
abbrev pub specifiers_from : Specifier → List Token → OneOrMore Specifier
specifiers_from first ts = (words (one first) ts).0

abbrev pub past_words : Specifier → List Token → List Token
past_words first ts = (words (one first) ts).1

-- the words of a type of which the first was read are these, and the tokens after them
pub record AreWords (first : Specifier) (ts : List Token) (specs : OneOrMore Specifier)
    (rest : List Token) : Type 0 where
  pub are : specs ≡ specifiers_from first ts
  pub past : rest ≡ past_words first ts

-- they end in `enum`, which is told at the token after them; or memory is wanted
abbrev pub AreNoType : Token → Specifier → List Token → ParseError → Type 0
AreNoType end first ts x =
    (x ≡ Memory)
    ⊎ ((end_in_enum (specifiers_from first ts) ≡ true) × (x ≡ Syntax (first_of_all end (past_words first ts)).at))

-- An expression of this level is followed by operators of at most this number
abbrev pub follows : Operator → ℕ
follows (operator.Step o) = 16
follows (operator.Binary o) = strength o + 1
follows operator.Question = 3
follows (operator.Assignment o) = 2
follows operator.Comma = 1
follows operator.Other = 0

abbrev pub EndsAt : Token → ℕ → List Token → Type 0
EndsAt end level ts = follows (operator_of (first_of_all end ts).kind) ≤ level

-- An operand without an operator of its own on the outside
pub record IsPrimary (e : ExpressionTree) : Type 0 where
  pub postfixes : postfixes_in e ≡ 0
  pub operators : operators_in e ≡ 0
  pub commas : commas_in e ≡ 0

-- An operand that is whole: no `++` or `--` follows
pub record IsOperand (end : Token) (e : ExpressionTree) (rest : List Token) : Type 0 where
  pub operators : operators_in e ≡ 0
  pub commas : commas_in e ≡ 0
  pub ends : EndsAt end unary_expression rest

-- whether a cast may stand there
abbrev pub CastsIf : Bool → Context → Type 0
CastsIf casts c = nat_le (operand_level c) cast_expression ≡ casts

abbrev pub Anywhere : Context → Type 0
Anywhere c = Unit {0}

abbrev pub UpTo : ℕ → Context → Type 0
UpTo level c = operand_level c ≤ level

-- from a state within each of these contexts the tokens are read as an operand there
abbrev pub Reads : Token → (Context → Type 0) → (Context → State) → ℕ → List Token → ExpressionTree → List Token →
    Type 0
Reads end P s n ts e rest = (c : Context) → P c → run end (s c) ts ≡ run end (complete n e c) rest

-- and this is the answer
abbrev pub Refuses : Token → (Context → Type 0) → (Context → State) → List Token → ParseError → Type 0
Refuses end P s ts x = (c : Context) → P c → Fails (run end (s c) ts) x
