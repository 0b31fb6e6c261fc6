-- The way of a text from its bytes to its call paths, and what it is refused for on the way.
use Rattle.std.specs.Prelude.{◌≡◌, ℕ, List, [], Option, Some, None, Ok, Err}
use Rattle.pk_ctypes.specs.declared.places.Pos.{Pos}
use Rattle.pk_ctypes.specs.declared.words.Rule.{Rule}
use Rattle.pk_ctypes.specs.declared.words.Quantity.{Quantity}
use Rattle.pk_ctypes.specs.declared.words.Quantity.TheVariants as quantity
use Rattle.pk_lex.specs.declared.token.Token.{Token}
use Rattle.pk_lex.specs.declared.token.LexError.TheVariants as lexing
use Rattle.pk_lex.specs.Tokens.{IsLexed}
use Rattle.pk_lex.specs.Failures as tokens
use Rattle.pk_typenames.specs.TypeNames.{AreMarked}
use Rattle.pk_ast.specs.Trees.{ExternalTree}
use Rattle.pk_grammar.specs.declared.failure.ParseError.{ParseError}
use Rattle.pk_grammar.specs.declared.failure.ParseError.TheVariants as parsing
use Rattle.pk_parse.specs.Refusals as trees
use Rattle.pk_typed.specs.Trees.{UnitTree}
use Rattle.pk_type_scope.specs.declared.failures.Failure.{Failure}
use Rattle.pk_type.specs.Rules.{noting}
use Rattle.pk_type.specs.Units.{checked, unit_of}
use Rattle.pk_calls.specs.declared.listings.CallPath.{CallPath}
use Rattle.pk_calls.specs.declared.failures.CallError.{CallError}
use Rattle.pk_calls.specs.declared.failures.CallError.TheVariants as calling
use Rattle.pk_calls.specs.Answers as calls
use Rattle.pk_front.specs.declared.failures.TextError.{TextError}
use Rattle.pk_front.specs.declared.failures.TextError.TheVariants.{Refused, Limit, Memory}
use Rattle.pk_front.specs.declared.failures.Refusal.{Refusal}
use Rattle.pk_front.specs.declared.failures.Refusal.TheVariants.{Lexical, Unsupported, Syntax, Typing, NoEntry, Recursion, UndefinedCall}

-- the failure of a typing rule that is told of the trees of a text, if there is one
abbrev pub failure_in : List ℕ → List ExternalTree → Option Failure
failure_in text ts = (checked noting None text ts).walked.found

abbrev pub failure : Rule → Pos → Failure
failure rule at = record { rule = rule; at = at }

-- ---- the way

-- the text is these tokens, with its type names marked
pub record HasTokens (text : List ℕ) (tokens : List Token) : Type 0 where
  pub words : List Token
  pub lexed : IsLexed text words
  pub marked : AreMarked text [] words tokens

-- the text has these trees: they are parsed from its tokens
pub record HasTrees (text : List ℕ) (ts : List ExternalTree) : Type 0 where
  pub tokens : List Token
  pub read : HasTokens text tokens
  pub parsed : trees.IsAccepted tokens ts

-- the text has this typed tree: no rule fails in its trees
pub record HasUnit (text : List ℕ) (u : UnitTree) : Type 0 where
  pub all : List ExternalTree
  pub parsed : HasTrees text all
  pub accepted : failure_in text all ≡ None
  pub unit : u ≡ unit_of (checked noting None text all)

-- the text's typed tree, and its call paths from an entry
pub record HasPaths (text entry : List ℕ) (u : UnitTree) (paths : List CallPath) : Type 0 where
  pub typed : HasUnit text u
  pub called : calls.IsAnswer u entry (Ok paths)

-- ---- refusals

-- its tokens are refused so
pub record FailsAsTokens (text : List ℕ) (why : ParseError) : Type 0 where
  pub tokens : List Token
  pub read : HasTokens text tokens
  pub refused : trees.IsRefused tokens why

-- this rule fails first
pub record FailsAsTrees (text : List ℕ) (rule : Rule) (at : Pos) : Type 0 where
  pub all : List ExternalTree
  pub parsed : HasTrees text all
  pub found : failure_in text all ≡ Some (failure rule at)

-- the walk of its calls is refused so
pub record FailsAsUnit (text entry : List ℕ) (why : CallError) : Type 0 where
  pub unit : UnitTree
  pub typed : HasUnit text unit
  pub refused : calls.IsAnswer unit entry (Err why)

abbrev pub IsRefusedFor : (text entry : List ℕ) → Refusal → Type 0
IsRefusedFor text entry (Lexical kind at) = tokens.IsRefused text (lexing.Lexical kind at)
IsRefusedFor text entry (Unsupported construct at) = FailsAsTokens text (parsing.Unsupported construct at)
IsRefusedFor text entry (Syntax at) = FailsAsTokens text (parsing.Syntax at)
IsRefusedFor text entry (Typing rule at) = FailsAsTrees text rule at
IsRefusedFor text entry (NoEntry name) = FailsAsUnit text entry (calling.NoEntry name)
IsRefusedFor text entry (Recursion cycle) = FailsAsUnit text entry (calling.Recursion cycle)
IsRefusedFor text entry (UndefinedCall name at) = FailsAsUnit text entry (calling.UndefinedCall name at)

-- what is nested too deep, and too many call paths or variables
abbrev pub PassesLimit : (text entry : List ℕ) → Quantity → ℕ → Type 0
PassesLimit text entry quantity.Nesting n = (n ≡ 128) × ((at : Pos) × FailsAsTokens text (parsing.Nesting at))
PassesLimit text entry quantity.Paths n = FailsAsUnit text entry (calling.Limit quantity.Paths n)
PassesLimit text entry quantity.Variables n = FailsAsUnit text entry (calling.Limit quantity.Variables n)
PassesLimit text entry what n = ⊥

-- a text is left before its call paths are known only so, or for want of memory
abbrev pub IsLeft : (text entry : List ℕ) → TextError → Type 0
IsLeft text entry (Refused refusal) = IsRefusedFor text entry refusal
IsLeft text entry (Limit what number) = PassesLimit text entry what number
IsLeft text entry Memory = Unit {0}
