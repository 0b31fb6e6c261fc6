-- Texts as programs: tokens, trees, the typed unit and its call paths. Of a program no rule fails and no limit is passed, so that none need be named here.
use Rattle.std.specs.Prelude.{◌≡◌, ℕ, List}
use Rattle.pk_lex.specs.declared.token.Token.{Token}
use Rattle.pk_ast.specs.Trees.{ExternalTree}
use Rattle.pk_grammar.specs.Grammar as grammar
use Rattle.pk_grammar.specs.Languages.{Marked}
use Rattle.pk_grammar.specs.Outcomes.{unmarked}
use Rattle.pk_typed.specs.Trees.{UnitTree}
use Rattle.pk_type.specs.Files.{unchecked}
use Rattle.pk_type.specs.Units.{checked, unit_of}
use Rattle.pk_calls.specs.declared.listings.CallPath.{CallPath}
use Rattle.pk_calls.specs.Calls.{IsEntry}
use Rattle.pk_calls.specs.Paths.{IsListing}
use Rattle.pk_front.specs.Texts.{HasTokens, HasPaths}

-- the unit of a text with these trees
abbrev pub unit_in : List ℕ → List ExternalTree → UnitTree
unit_in text all = unit_of (checked unchecked tt text all)

-- the text is a program with this typed unit and, from an entry of this name, these call paths
pub record IsProgram (text entry : List ℕ) (u : UnitTree) (paths : List CallPath) : Type 0 where
  pub tokens : List Token
  pub read : HasTokens text tokens
  pub all : List ExternalTree
  pub marked : List Marked
  pub tokens_are : unmarked marked ≡ tokens
  pub derived : grammar.text all 0 marked
  pub unit : u ≡ unit_in text all
  pub first : ℕ
  pub is_entry : IsEntry u entry first
  pub listed : IsListing u first paths

-- A text and an entry are one program at most.
pub record ProgramIsDetermined : Type 0 where
  pub unit : (text entry : List ℕ) (u v : UnitTree) (ps qs : List CallPath) → IsProgram text entry u ps →
      IsProgram text entry v qs → u ≡ v
  pub paths : (text entry : List ℕ) (u v : UnitTree) (ps qs : List CallPath) → IsProgram text entry u ps →
      IsProgram text entry v qs → ps ≡ qs

-- A text that has a typed unit by all rules, and call paths, is that program.
abbrev pub AcceptedArePrograms : Type 0
AcceptedArePrograms = (text entry : List ℕ) (u : UnitTree) (paths : List CallPath) → HasPaths text entry u paths →
    IsProgram text entry u paths
