-- Every text has tokens, or a place where none begins.
use Rattle.std.proofs.Common.{◌≡◌, ℕ, zero, suc, ◌≤◌, List, [], ◌∷◌, ◌++◌, length, take, drop, refl, sym, ap, subst, ◌∙◌, arith, append_assoc, append-nil, length-append, length-drop, take-append-drop}
use Rattle.pk_ctypes.specs.Places.{start_of_text, after_bytes}
use Rattle.pk_lex.specs.declared.token.Kind.TheVariants as kind
use Rattle.pk_lex.specs.declared.token.Token.{Token}
use Rattle.pk_lex.specs.WhiteSpace.{IsWhite}
use Rattle.pk_lex.specs.Tokens.{Reads, nothing, past_white, past_token, token_of}
use Rattle.pk_lex.specs.Failures.{lexical_kind}
use Rattle.pk_lex.proofs.ReadLemmas.{reads_then}
use Rattle.pk_lex.proofs.StepLemmas.{token_positive}
use Rattle.pk_text_laws.specs.Total.Lexing.{IsLexedOrFails, lexed, fails, EveryTextIsLexedOrFails}
use Rattle.pk_text_laws.proofs.Total.Places.{Place, white, token, stuck, place, white_not_empty}

-- less is left behind white space
less_white : (front rest piece after : List ℕ) (fuel : ℕ) → rest ≡ piece ++ after → IsWhite front piece after → length rest ≤ suc fuel → length after ≤ fuel
less_white front rest [] after fuel e w le = absurd (white_not_empty w)
less_white front rest (b ∷ piece) after fuel e w le =
    let l = ap length e in
    let k = length-append piece after in
    omega (arith, l, k, le)

less_token : (front rest : List ℕ) (n fuel : ℕ) → 1 ≤ n → length rest ≤ suc fuel → length (drop n rest) ≤ fuel
less_token front rest n fuel some le = let l = length-drop n rest in omega (arith, l, some, le)

-- what the reading of a text from a place on comes to
abbrev Goes : List ℕ → ℕ → Type 0
Goes text fuel = (front rest : List ℕ) (tokens : List Token) → length rest ≤ fuel → front ++ rest ≡ text → Reads [] text tokens front rest → IsLexedOrFails text

at_place : (text : List ℕ) (fuel : ℕ) → Goes text fuel → (front : List ℕ) (b : ℕ) (bytes : List ℕ) (tokens : List Token) → length (b ∷ bytes) ≤ suc fuel → front ++ b ∷ bytes ≡ text →
    Reads [] text tokens front (b ∷ bytes) → Place front (b ∷ bytes) → IsLexedOrFails text
at_place text fuel on front b bytes tokens le cut r (white piece after e w) =
    on (front ++ piece) after tokens (less_white front (b ∷ bytes) piece after fuel e w le)
    (append_assoc front piece after ∙ ap (λ q. front ++ q) (sym e) ∙ cut)
    (subst (λ q. Reads [] text q (front ++ piece) after) (append-nil tokens) (reads_then r (past_white e w nothing)))
at_place text fuel on front b bytes tokens le cut r (token n k t) =
    on (front ++ take n (b ∷ bytes)) (drop n (b ∷ bytes)) (tokens ++ token_of front (take n (b ∷ bytes)) k ∷ [])
    (less_token front (b ∷ bytes) n fuel (token_positive front (b ∷ bytes) n k t) le)
    (append_assoc front (take n (b ∷ bytes)) (drop n (b ∷ bytes)) ∙ ap (λ q. front ++ q) (take-append-drop n (b ∷ bytes)) ∙ cut)
    (reads_then r (past_token (sym (take-append-drop n (b ∷ bytes))) t.is nothing))
at_place text fuel on front b bytes tokens le cut r (stuck no_white no_token) =
    fails {wrong = lexical_kind (b ∷ bytes)} {at = after_bytes start_of_text front} (record {
      tokens = tokens;
      front = front;
      back = b ∷ bytes;
      read = r;
      stuck = record { more = omega arith; no_white = no_white; no_token = no_token };
      is = refl;
      place = refl;
    })

goes : (text : List ℕ) (fuel : ℕ) → Goes text fuel
goes text fuel front [] tokens le cut r =
    lexed {tokens = tokens ++ token_of text [] kind.End ∷ []}
    (tokens, (refl, subst (λ q. Reads [] text tokens q []) (sym (append-nil front) ∙ cut) r))
goes text zero front (b ∷ bytes) tokens le cut r = absurd (omega (arith, le))
goes text (suc fuel) front (b ∷ bytes) tokens le cut r = at_place text fuel (goes text fuel) front b bytes tokens le cut r (place front b bytes)

pub every_text_is_lexed_or_fails : EveryTextIsLexedOrFails
every_text_is_lexed_or_fails text = goes text (length text) [] text [] (omega arith) refl nothing
