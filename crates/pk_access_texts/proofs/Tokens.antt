-- No two tokens of a text share a place.
use Rattle.std.proofs.Common.{◌≡◌, ◌≢◌, ℕ, ◌+◌, ◌<◌, ◌≤◌, ◌⊎◌, inl, inr, nat_eq, Bool, true, false, ◌&&◌, if◌then◌else◌, ◌==◌, List, [], ◌∷◌, ◌++◌, refl, ap, sym, subst, ◌∙◌, arith}
use Rattle.std.proofs.lemmas.Bool.Decides.{eqb_tells}
use Rattle.pk_ctypes.specs.declared.places.Pos.{Pos}
use Rattle.pk_ctypes.specs.Places.{Before, start_of_text, after_byte, after_bytes}
use Rattle.pk_lex.specs.declared.token.Kind.{Kind}
use Rattle.pk_lex.specs.declared.token.Kind.TheVariants as kind
use Rattle.pk_lex.specs.declared.token.Token.{Token}
use Rattle.pk_lex.specs.Tokens.{Reads, nothing, past_white, past_token, token_of, IsLexed}
use Rattle.pk_lex.proofs.StepLemmas.{token_positive}
use Rattle.pk_typenames.specs.TypeNames.{IsMarked, AreMarked}
use Rattle.pk_access_laws.specs.Operators.{Counting}
use Rattle.pk_access_laws.specs.Laws.{one_at}
use Rattle.pk_operator_laws.specs.Trees.{in_tokens}
use Rattle.pk_access_texts.specs.Laws.{TokensAreApart}

-- ---- places behind others

forward : (p : Pos) (b : Bool) → Before p (if b then record { line = p.line + 1; column = 1 } else record { line = p.line; column = p.column + 1 })
forward p true = inl (omega arith)
forward p false = inr (refl, omega arith)

before_all : (p q r : Pos) → Before p q → Before q r → Before p r
before_all p q r (inl h) (inl k) = inl (omega (arith, h, k))
before_all p q r (inl h) (inr k) = inl (omega (arith, h, k.0))
before_all p q r (inr h) (inl k) = inl (omega (arith, h.0, k))
before_all p q r (inr h) (inr k) = inr (h.0 ∙ k.0, omega (arith, h.1, k.1))

further : (at p : Pos) (bs : List ℕ) → Before at p → Before at (after_bytes p bs)
further at p [] h = h
further at p (b ∷ bs) h = further at (after_byte p b) bs (before_all at p (after_byte p b) h (forward p (b == 10)))

behind : (p : Pos) (b : ℕ) (bs : List ℕ) → Before p (after_bytes p (b ∷ bs))
behind p b bs = further p (after_byte p b) bs (forward p (b == 10))

-- the place behind more bytes
joined : (p : Pos) (front more : List ℕ) → after_bytes p (front ++ more) ≡ after_bytes (after_bytes p front) more
joined p [] more = refl
joined p (b ∷ front) more = joined (after_byte p b) front more

still_behind : (at : Pos) (front more : List ℕ) → Before at (after_bytes start_of_text front) → Before at (after_bytes start_of_text (front ++ more))
still_behind at front more h = subst (Before at) (sym (joined start_of_text front more)) (further at (after_bytes start_of_text front) more h)

-- ---- what a place counts

abbrev one_if : Bool → ℕ
one_if b = if b then 1 else 0

counts_if : (a b : Bool) → one_if (a && b) ≤ 1
counts_if true true = omega arith
counts_if true false = omega arith
counts_if false b = omega arith

at_most_one : (at p : Pos) → one_at at p ≤ 1
at_most_one at p = counts_if (nat_eq p.line at.line) (nat_eq p.column at.column)

other_line : (a b : Bool) → a ≡ false → one_if (a && b) ≡ 0
other_line true b h = absurd (cc h)
other_line false b h = refl

other_column : (a b : Bool) → b ≡ false → one_if (a && b) ≡ 0
other_column true true h = absurd (cc h)
other_column true false h = refl
other_column false b h = refl

differs : (m n : ℕ) → n < m → nat_eq m n ≡ false
differs m n h = by (eqb_tells m n)
  where
    by : ((nat_eq m n ≡ true) × (m ≡ n)) ⊎ ((nat_eq m n ≡ false) × (m ≢ n)) → nat_eq m n ≡ false
    by (inl e) = absurd (omega (arith, e.1, h))
    by (inr e) = e.0

not_behind : (at p : Pos) → Before at p → one_at at p ≡ 0
not_behind at p (inl h) = other_line (nat_eq p.line at.line) (nat_eq p.column at.column) (differs p.line at.line h)
not_behind at p (inr h) = other_column (nat_eq p.line at.line) (nat_eq p.column at.column) (differs p.column at.column h.1)

record IsHere (at p : Pos) : Type 0 where
  pub line : p.line ≡ at.line
  pub column : p.column ≡ at.column

-- a place is the one that counts, or counts nothing
here_or_not : (at p : Pos) → IsHere at p ⊎ (one_at at p ≡ 0)
here_or_not at p = by (eqb_tells p.line at.line) (eqb_tells p.column at.column)
  where
    by : ((nat_eq p.line at.line ≡ true) × (p.line ≡ at.line)) ⊎ ((nat_eq p.line at.line ≡ false) × (p.line ≢ at.line)) → ((nat_eq p.column at.column ≡ true) × (p.column ≡ at.column)) ⊎ ((nat_eq p.column at.column ≡ false) × (p.column ≢ at.column))
        → IsHere at p ⊎ (one_at at p ≡ 0)
    by (inl e) (inl f) = inl (record { line = e.1; column = f.1 })
    by (inl e) (inr f) = inr (other_column (nat_eq p.line at.line) (nat_eq p.column at.column) f.0)
    by (inr e) f = inr (other_line (nat_eq p.line at.line) (nat_eq p.column at.column) e.0)

here_before : (at p q : Pos) → IsHere at p → Before p q → Before at q
here_before at p q h (inl k) = inl (omega (arith, h.line, k))
here_before at p q h (inr k) = inr (sym h.line ∙ k.0, omega (arith, h.column, k.1))

-- ---- tokens that are read on

-- these tokens and the place to which they lead
record Apart (at : Pos) (front end : List ℕ) (ts : List Token) : Type 0 where
  pub once : in_tokens (one_at at) ts + one_at at (after_bytes start_of_text end) ≤ 1
  pub none : Before at (after_bytes start_of_text front) → in_tokens (one_at at) ts + one_at at (after_bytes start_of_text end) ≡ 0

one_more : (at : Pos) (front word end : List ℕ) (k : Kind) (ts : List Token) → Before (after_bytes start_of_text front) (after_bytes start_of_text (front ++ word)) → Apart at (front ++ word) end ts → Apart at front end (token_of front word k ∷ ts)
one_more at front word end k ts f h = record {
  once = by (here_or_not at (after_bytes start_of_text front));
  none = λ g. omega (arith, not_behind at (after_bytes start_of_text front) g, h.none (before_all at (after_bytes start_of_text front) (after_bytes start_of_text (front ++ word)) g f));
}
  where
    by : IsHere at (after_bytes start_of_text front) ⊎ (one_at at (after_bytes start_of_text front) ≡ 0) → in_tokens (one_at at) (token_of front word k ∷ ts) + one_at at (after_bytes start_of_text end) ≤ 1
    by (inl g) = omega (arith, at_most_one at (after_bytes start_of_text front), h.none (here_before at (after_bytes start_of_text front) (after_bytes start_of_text (front ++ word)) g f))
    by (inr g) = omega (arith, g, h.once)

read_apart : (at : Pos) {front rest end back : List ℕ} {ts : List Token} → Reads front rest ts end back → Apart at front end ts
read_apart at (nothing {front = front}) = record { once = omega (arith, at_most_one at (after_bytes start_of_text front)); none = λ g. omega (arith, not_behind at (after_bytes start_of_text front) g) }
read_apart at (past_white {front = front} {piece = piece} c w r) =
    let h = read_apart at r in
    record { once = h.once; none = λ g. h.none (still_behind at front piece g) }
read_apart at (past_token {front = front} {word = []} {after = after} {k = k} c t r) =
    absurd (omega (arith, token_positive front after 0 k (record { fits = omega arith; is = t })))
read_apart at (past_token {front = front} {word = b ∷ word} {end = end} {k = k} {tokens = ts} c t r) =
    one_more at front (b ∷ word) end k ts (subst (Before (after_bytes start_of_text front)) (sym (joined start_of_text front (b ∷ word))) (behind (after_bytes start_of_text front) b word)) (read_apart at r)

-- ---- texts

tokens_append : (q : Counting) (xs ys : List Token) → in_tokens q (xs ++ ys) ≡ in_tokens q xs + in_tokens q ys
tokens_append q [] ys = omega arith
tokens_append q (x ∷ xs) ys = omega (arith, tokens_append q xs ys)

lexed_apart : (text : List ℕ) (words : List Token) → IsLexed text words → (at : Pos) → in_tokens (one_at at) words ≤ 1
lexed_apart text words h at =
    let a = read_apart at h.1.1 in
    subst (λ (ts : List Token). in_tokens (one_at at) ts ≤ 1) (sym h.1.0) (omega (arith, tokens_append (one_at at) h.0 (token_of text [] kind.End ∷ []), a.once))

marked_place : (q : Counting) (text : List ℕ) (front : List Token) (t m : Token) → IsMarked text front t m → q m.at ≡ q t.at
marked_place q text front t m (inl h) = ap (λ (u : Token). q u.at) h.1
marked_place q text front t m (inr h) = ap (λ (u : Token). q u.at) h.1

marked_count : (q : Counting) (text : List ℕ) (front ts ms : List Token) → AreMarked text front ts ms → in_tokens q ms ≡ in_tokens q ts
marked_count q text front [] [] h = refl
marked_count q text front [] (m ∷ ms) h = absurd h
marked_count q text front (t ∷ ts) [] h = absurd h
marked_count q text front (t ∷ ts) (m ∷ ms) h = omega (arith, marked_place q text front t m h.0, marked_count q text (front ++ t ∷ []) ts ms h.1)

pub tokens_are_apart : TokensAreApart
tokens_are_apart text tokens h at =
    omega (arith, marked_count (one_at at) text [] h.words tokens h.marked, lexed_apart text h.words h.lexed at)
