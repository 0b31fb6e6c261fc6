-- The spans of a text's tokens.
use Rattle.std.proofs.Common.{ℕ, ◌+◌, ◌≤◌, List, [], ◌∷◌, ◌++◌, length, ap, subst, sym, arith, length-append}
use Rattle.pk_lex.specs.declared.token.Kind.TheVariants as kind
use Rattle.pk_lex.specs.declared.token.Token.{Token}
use Rattle.pk_lex.specs.Tokens.{Reads, nothing, past_white, past_token, token_of, IsLexed}
use Rattle.pk_lex.specs.Laws.{FollowOneAnother}

-- what reading gives comes before what follows the place that it comes to
follow : {front rest end back : List ℕ} {ts : List Token} → Reads front rest ts end back → (n size : ℕ) (more : List Token) → n ≤ length front → length front + length rest ≤ size →
    ((m : ℕ) → m ≤ length end → FollowOneAnother m size more) → FollowOneAnother n size (ts ++ more)
follow nothing n size more le fits h = h n le
follow (past_white {front = front} {piece = piece} {after = after} e w r) n size more le fits h =
    let l = length-append front piece in
    let k = length-append piece after in
    let m = ap length e in
    follow r n size more (omega (arith, l, le)) (omega (arith, l, k, m, fits)) h
follow (past_token {front = front} {word = word} {after = after} e t r) n size more le fits h =
    let l = length-append front word in
    let k = length-append word after in
    let m = ap length e in
    (le, omega arith, omega (arith, k, m, fits), follow r (length front + length word) size more (omega (arith, l)) (omega (arith, l, k, m, fits)) h)

pub spans : (text : List ℕ) (tokens : List Token) → IsLexed text tokens → FollowOneAnother 0 (length text) tokens
spans text tokens (words, (e, r)) =
    subst (FollowOneAnother 0 (length text)) (sym e)
    (follow r 0 (length text) (token_of text [] kind.End ∷ []) (omega arith) (omega arith) (λ m le. (le, omega arith, omega arith, tt)))
