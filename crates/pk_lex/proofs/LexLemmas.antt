-- How far a text was read.
use Rattle.std.proofs.Common.{◌≡◌, ℕ, ◌+◌, ◌<◌, ◌≤◌, List, [], ◌∷◌, ◌++◌, length, take, drop, refl, sym, ap, ◌∙◌, subst, arith, append-nil, length-drop, length-append}
use Rattle.std.proofs.lemmas.List.{take_at, length-take-le, drop-drop, take-append-drop, append_assoc}
use Rattle.pk_ctypes.specs.declared.places.Pos.{Pos}
use Rattle.pk_ctypes.specs.Places.{start_of_text, after_byte, after_bytes}
use Rattle.pk_lex.specs.declared.token.Kind.{Kind}
use Rattle.pk_lex.specs.declared.token.Token.{Token}
use Rattle.pk_lex.specs.declared.token.LexicalKind.{LexicalKind}
use Rattle.pk_lex.specs.Tokens.{token_of, Reads, nothing, past_white, past_token}
use Rattle.pk_lex.specs.Steps.{NoWhite, NoToken, IsFirstWhite, IsFirstToken}
use Rattle.pk_lex.specs.Failures.{lexical_kind, FailsAt}
use Rattle.pk_lex.proofs.ReadLemmas.{reads_then}

after_bytes-append : (at : Pos) (a b : List ℕ) → after_bytes at (a ++ b) ≡ after_bytes (after_bytes at a) b
after_bytes-append at [] b = refl
after_bytes-append at (x ∷ a) b = after_bytes-append (after_byte at x) a b

-- the first bytes of a text, and some more
take_on : (text : List ℕ) (start n : ℕ) → start + n ≤ length text → take start text ++ take n (drop start text) ≡ take (start + n) text
take_on text start n le =
    let whole : text ≡ take start text ++ take n (drop start text) ++ drop n (drop start text) =
    sym (take-append-drop start text) ∙ ap (λ r. take start text ++ r) (sym (take-append-drop n (drop start text))) ∙ sym (append_assoc (take start text) (take n (drop start text)) (drop n (drop start text))) in
    let low : start ≤ length text = omega arith in
    let rest : n ≤ length (drop start text) = let l = length-drop start text in omega (arith, l) in
    let size : length (take start text ++ take n (drop start text)) ≡ start + n = two_sizes (take start text) (take n (drop start text)) (length-take-le start text low) (length-take-le n (drop start text) rest) in
    sym (ap (take (start + n)) whole ∙ take_at (take start text ++ take n (drop start text)) (drop n (drop start text)) (start + n) size)
  where
    two_sizes : (a b : List ℕ) → length a ≡ start → length b ≡ n → length (a ++ b) ≡ start + n
    two_sizes a b e f = let l = length-append a b in omega (arith, l, e, f)

-- the tokens of the first bytes, and the place after them
pub record IsReached (text : List ℕ) (tokens : List Token) (start : ℕ) (at : Pos) : Type 0 where
  pub reads : Reads [] text tokens (take start text) (drop start text)
  pub place : at ≡ after_bytes start_of_text (take start text)

pub reached_start : (text : List ℕ) → IsReached text [] 0 start_of_text
reached_start text = record { reads = nothing; place = refl }

module _ (text front rest : List ℕ) (tokens : List Token) (start : ℕ) (at : Pos) (low : start ≤ length text) (is_front : front ≡ take start text) (is_rest : rest ≡ drop start text) (r : IsReached text tokens start at) where
  fits : (n : ℕ) → n ≤ length rest → start + n ≤ length text
  fits n le = let l = length-drop start text in let e = ap length is_rest in omega (arith, le, l, e)

  next_front : (n : ℕ) → n ≤ length rest → front ++ take n rest ≡ take (start + n) text
  next_front n le = ap (λ x. x ++ take n rest) is_front ∙ ap (λ x. take start text ++ take n x) is_rest ∙ take_on text start n (fits n le)

  next_rest : (n : ℕ) → drop n rest ≡ drop (start + n) text
  next_rest n = ap (drop n) is_rest ∙ drop-drop n start text

  so_far : Reads [] text tokens front rest
  so_far = subst (λ x. Reads [] text tokens x rest) (sym is_front) (subst (λ x. Reads [] text tokens (take start text) x) (sym is_rest) r.reads)

  next_place : (n : ℕ) (bytes : List ℕ) (next : Pos) → n ≤ length rest → bytes ≡ take n rest → next ≡ after_bytes at bytes → next ≡ after_bytes start_of_text (take (start + n) text)
  next_place n bytes next le e f =
      f ∙ ap (after_bytes at) e ∙ ap (λ p. after_bytes p (take n rest)) (r.place ∙ ap (after_bytes start_of_text) (sym is_front))
      ∙ sym (after_bytes-append start_of_text front (take n rest)) ∙ ap (after_bytes start_of_text) (next_front n le)

  moved_on : (n : ℕ) (all : List Token) → n ≤ length rest → Reads [] text all (front ++ take n rest) (drop n rest) → Reads [] text all (take (start + n) text) (drop (start + n) text)
  moved_on n all le h = subst (λ x. Reads [] text all x (drop (start + n) text)) (next_front n le) (subst (λ x. Reads [] text all (front ++ take n rest) x) (next_rest n) h)

  pub reached_white : (n : ℕ) (bytes : List ℕ) (next : Pos) → IsFirstWhite front rest n → bytes ≡ take n rest → next ≡ after_bytes at bytes → IsReached text tokens (start + n) next
  reached_white n bytes next w e f = record {
    reads = moved_on n tokens w.fits (subst (λ l. Reads [] text l (front ++ take n rest) (drop n rest)) (append-nil tokens) (reads_then so_far (past_white (sym (take-append-drop n rest)) w.is nothing)));
    place = next_place n bytes next w.fits e f;
  }

  -- the token that the code makes
  token_is : (n : ℕ) (k : Kind) → n ≤ length rest → token_of front (take n rest) k ≡ record { kind = k; start = start; end = start + n; at = at }
  token_is n k le =
      let made : ℕ → ℕ → Pos → Token = λ s e p. record { kind = k; start = s; end = e; at = p } in
      let l : length front ≡ start = ap length is_front ∙ length-take-le start text low in
      ap (λ s. made s (s + length (take n rest)) (after_bytes start_of_text front)) l
      ∙ ap (λ m. made start (start + m) (after_bytes start_of_text front)) (length-take-le n rest le)
      ∙ ap (made start (start + n)) (ap (after_bytes start_of_text) is_front ∙ sym r.place)

  pub reached_token : (n : ℕ) (k : Kind) (bytes : List ℕ) (next : Pos) → IsFirstToken front rest n k → bytes ≡ take n rest → next ≡ after_bytes at bytes →
      IsReached text (tokens ++ record { kind = k; start = start; end = start + n; at = at } ∷ []) (start + n) next
  reached_token n k bytes next t e f = record {
    reads =
        moved_on n _ t.fits
        (subst (λ x. Reads [] text (tokens ++ x ∷ []) (front ++ take n rest) (drop n rest)) (token_is n k t.fits)
        (reads_then so_far (past_token (sym (take-append-drop n rest)) t.is nothing)));
    place = next_place n bytes next t.fits e f;
  }

  pub fails_here : start < length text → NoWhite front rest → NoToken front rest → (wrong : LexicalKind) → wrong ≡ lexical_kind rest → FailsAt text wrong at
  fails_here lt white token wrong e = record {
    tokens = tokens;
    front = front;
    back = rest;
    read = so_far;
    stuck = record { more = let l = length-drop start text in let m = ap length is_rest in omega (arith, lt, l, m); no_white = white; no_token = token };
    is = e;
    place = r.place ∙ ap (after_bytes start_of_text) (sym is_front);
  }
