-- Every text and entry has an end.
use Rattle.std.proofs.Common.{refl, ℕ, List, []}
use Rattle.pk_ctypes.specs.declared.words.Quantity.TheVariants as quantity
use Rattle.pk_lex.specs.declared.token.Token.{Token}
use Rattle.pk_typenames.proofs.LawLemmas.{some_marking}
use Rattle.pk_grammar.specs.declared.failure.ParseError.{ParseError}
use Rattle.pk_grammar.specs.declared.failure.ParseError.TheVariants as parse_error
use Rattle.pk_parse.specs.Refusals.{IsRefused}
use Rattle.pk_parse.proofs.LexedLemmas.{lexed_is_ended}
use Rattle.pk_front.specs.declared.failures.TextError.TheVariants.{Refused, Limit}
use Rattle.pk_front.specs.declared.failures.Refusal.TheVariants.{Lexical, Unsupported, Syntax}
use Rattle.pk_front.specs.Laws.{HasEnd, is_left, TreesLeadOn}
use Rattle.pk_front.specs.Texts.{HasTokens}
use Rattle.pk_front.proofs.MarkLemmas.{marked_is_ended}
use Rattle.pk_text_laws.specs.Total.Lexing.{IsLexedOrFails, lexed, fails}
use Rattle.pk_text_laws.specs.Total.Parsing.{IsAcceptedOrRefused, accepted, refused}
use Rattle.pk_text_laws.specs.Total.Ends.{EveryTextEnds}
use Rattle.pk_text_laws.proofs.Total.Lexing.{every_text_is_lexed_or_fails}
use Rattle.pk_text_laws.proofs.Total.Parsing.{ended_are_accepted_or_refused}

by_refusal : (text entry : List ℕ) (tokens : List Token) → HasTokens text tokens → (why : ParseError) → IsRefused tokens why → HasEnd text entry
by_refusal text entry tokens l (parse_error.Unsupported c at) r = is_left {s = Refused (Unsupported c at)} (λ e. cc) (record { tokens = tokens; read = l; refused = r })
by_refusal text entry tokens l (parse_error.Syntax at) r = is_left {s = Refused (Syntax at)} (λ e. cc) (record { tokens = tokens; read = l; refused = r })
by_refusal text entry tokens l (parse_error.Nesting at) r = is_left {s = Limit quantity.Nesting 128} (λ e. cc) (refl, (at, record { tokens = tokens; read = l; refused = r }))
by_refusal text entry tokens l parse_error.Memory r = absurd r

module _ (lead_on : TreesLeadOn) where
  by_trees : (text entry : List ℕ) (tokens : List Token) → HasTokens text tokens → IsAcceptedOrRefused tokens → HasEnd text entry
  by_trees text entry tokens l (accepted ts a) = lead_on text entry ts (record { tokens = tokens; read = l; parsed = a })
  by_trees text entry tokens l (refused why r) = by_refusal text entry tokens l why r

  by_tokens : (text entry : List ℕ) → IsLexedOrFails text → HasEnd text entry
  by_tokens text entry (lexed {tokens = words} l) =
      let marks = some_marking text words in
      by_trees text entry marks.0 (record { words = words; lexed = l; marked = marks.1 })
      (ended_are_accepted_or_refused marks.0 (marked_is_ended text [] words marks.0 marks.1 (lexed_is_ended text words l)))
  by_tokens text entry (fails {wrong = wrong} {at = at} f) = is_left {s = Refused (Lexical wrong at)} (λ e. cc) f

  pub every_text_ends : EveryTextEnds
  every_text_ends text entry = by_tokens text entry (every_text_is_lexed_or_fails text)
