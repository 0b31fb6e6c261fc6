-- Tokens that end have trees, or are refused.
use Rattle.std.proofs.Common.{◌≡◌, List, [], ◌∷◌, ◌++◌, refl, ap}
use Rattle.pk_lex.specs.declared.token.Token.{Token}
use Rattle.pk_constructs.specs.Constructs.{IsSupported}
use Rattle.pk_grammar.specs.declared.failure.ParseError.TheVariants.{Unsupported, Syntax, Nesting}
use Rattle.pk_grammar.specs.Machine.States.{top}
use Rattle.pk_grammar.specs.Machine.Running.{Answer, trees, syntax, deep, run}
use Rattle.pk_grammar.specs.Outcomes.{IsEnded}
use Rattle.pk_grammar.proofs.OutcomeLemmas.{parsed_so, syntax_so, nesting_so}
use Rattle.pk_text_laws.specs.Total.Parsing.{IsAcceptedOrRefused, accepted, refused, EndedAreAcceptedOrRefused}
use Rattle.pk_text_laws.proofs.Total.Constructs.{Shown, none, first, shown_first}

-- what stands before the last token, and it
record IsSplit (tokens : List Token) : Type 0 where
  front : List Token
  end : Token
  cut : tokens ≡ front ++ end ∷ []

split : (tokens : List Token) → IsEnded tokens → IsSplit tokens
split [] h = absurd h
split (t ∷ []) h = record { front = []; end = t; cut = refl }
split (t ∷ u ∷ ts) h = let r = split (u ∷ ts) h.1 in record { front = t ∷ r.front; end = r.end; cut = ap (λ q. t ∷ q) r.cut }

module _ (front : List Token) (end : Token) (tokens : List Token) (cut : tokens ≡ front ++ end ∷ []) (ended : IsEnded tokens) (supported : IsSupported tokens) where
  by_answer : (a : Answer) → run end (top []) front ≡ a → IsAcceptedOrRefused tokens
  by_answer (trees u) e = accepted u (record { supported = supported; parsed = parsed_so front end tokens cut ended u e })
  by_answer (syntax at) e = refused (Syntax at) (supported, syntax_so front end tokens cut ended at e)
  by_answer (deep at) e = refused (Nesting at) (supported, nesting_so front end tokens cut ended at e)

by_constructs : (tokens : List Token) → IsEnded tokens → Shown tokens → IsAcceptedOrRefused tokens
by_constructs tokens ended (first c at f) = refused (Unsupported c at) f
by_constructs tokens ended (none supported) =
    let s = split tokens ended in by_answer s.front s.end tokens s.cut ended supported (run s.end (top []) s.front) refl

pub ended_are_accepted_or_refused : EndedAreAcceptedOrRefused
ended_are_accepted_or_refused tokens ended = by_constructs tokens ended (shown_first tokens)
