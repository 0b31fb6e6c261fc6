-- Reading on from place to place: in one way only.
use Rattle.std.proofs.Common.{◌≡◌, ℕ, ◌==◌, true, false, ◌||◌, List, [], ◌∷◌, ◌++◌, length, refl, sym, ap, ◌∙◌, subst, arith}
use Rattle.std.proofs.lemmas.Bool.{or_parts, and_parts, both_ways, eqb-true}
use Rattle.std.proofs.lemmas.List.{take_at}
use Rattle.std.proofs.lemmas.Option.{same_Some}
use Rattle.pk_ctypes.specs.declared.places.Pos.{Pos}
use Rattle.pk_ctypes.specs.Places.{after_bytes, start_of_text}
use Rattle.pk_lex.specs.declared.token.Kind.{Kind}
use Rattle.pk_lex.specs.declared.token.Kind.TheVariants as kind
use Rattle.pk_lex.specs.declared.token.Token.{Token}
use Rattle.pk_lex.specs.declared.token.LexicalKind.{LexicalKind}
use Rattle.pk_lex.specs.Bytes.{is_white, begins_with}
use Rattle.pk_lex.specs.Lines.{line_of, begins_line, opens_directive, is_skipped}
use Rattle.pk_lex.specs.WhiteSpace.{opens_block, opens_line, begins_with_both, IsWhite}
use Rattle.pk_lex.specs.Words.{is_word, IsLongest}
use Rattle.pk_lex.specs.Kinds.{kind_of}
use Rattle.pk_lex.specs.Tokens.{IsToken, longest, directive, token_of, Reads, nothing, past_white, past_token, IsLexed}
use Rattle.pk_lex.specs.Steps.{NoWhite, NoToken}
use Rattle.pk_lex.specs.Failures.{lexical_kind, IsStuck, FailsAt}
use Rattle.pk_lex.proofs.WordLemmas.{empty_is_no_word, word_not_white, word_not_hash}
use Rattle.pk_lex.proofs.WhiteLemmas.{same_cut, one_white, Opens, white_first, block_first, line_first, hash_first, opens}

pub word_is_first : (word after : List ℕ) → IsLongest is_word (word ++ after) (length word) → is_word word ≡ true
word_is_first word after l = ap is_word (sym (take_at word after (length word) refl)) ∙ l.is

-- a word has a first byte, which is neither white nor a `#`
record Starts (t : List ℕ) : Type 0 where
  first : ℕ
  others : List ℕ
  is : t ≡ first ∷ others
  not_white : is_white first ≡ false
  not_hash : (first == 35) ≡ true → ⊥

starts : (word after : List ℕ) → is_word word ≡ true → Starts (word ++ after)
starts [] after h = absurd (both_ways (is_word []) empty_is_no_word h)
starts (b ∷ word) after h = record { first = b; others = word ++ after; is = refl; not_white = word_not_white b word h; not_hash = word_not_hash b word h }

same_first : (b c : ℕ) (bytes others : List ℕ) → b ∷ bytes ≡ c ∷ others → b ≡ c
same_first b c bytes others e = cc

-- a directive's first byte
hash : (front t : List ℕ) → opens_directive front t ≡ true → begins_with 35 t ≡ true
hash front t h = (and_parts (begins_with 35 t) (begins_line front) h).0

word_no_directive : (front word after : List ℕ) → is_word word ≡ true → opens_directive front (word ++ after) ≡ true → ⊥
word_no_directive front word after h d =
    let s = starts word after h in
    s.not_hash (ap (begins_with 35) (sym s.is) ∙ hash front (word ++ after) d)

-- white space begins no token
white_no_word : (front t piece word after : List ℕ) → t ≡ word ++ after → is_word word ≡ true → (opens_block t || opens_line t) ≡ false → Opens front t piece → ⊥
white_no_word front t piece word after e h o (white_first b bytes f w) =
    let s = starts word after h in
    both_ways (is_white b) (ap is_white (same_first b s.first bytes s.others (sym f ∙ e ∙ s.is)) ∙ s.not_white) w
white_no_word front t piece word after e h o (block_first f c) = both_ways (opens_block t) (or_parts (opens_block t) (opens_line t) o).0 f
white_no_word front t piece word after e h o (line_first f) = both_ways (opens_line t) (or_parts (opens_block t) (opens_line t) o).1 f
white_no_word front t piece word after e h o (hash_first f l s) = word_no_directive front word after h (ap (opens_directive front) (sym e) ∙ f)

hash_no_both : (d : ℕ) (t : List ℕ) → begins_with 35 t ≡ true → begins_with_both 47 d t ≡ true → ⊥
hash_no_both d [] h k = cc
hash_no_both d (b ∷ bytes) h k =
    let e = eqb-true b 35 h in
    let f = eqb-true b 47 (and_parts (b == 47) (begins_with d bytes) k).0 in
    omega (arith, e, f)

hash_not_white : (t bytes : List ℕ) (b : ℕ) → t ≡ b ∷ bytes → begins_with 35 t ≡ true → is_white b ≡ true → ⊥
hash_not_white t bytes b e h w = both_ways (is_white b) (ap is_white (eqb-true b 35 (ap (begins_with 35) (sym e) ∙ h))) w

white_no_directive : (front t piece word : List ℕ) → opens_directive front t ≡ true → word ≡ line_of t → is_skipped word ≡ false → Opens front t piece → ⊥
white_no_directive front t piece word d l n (white_first b bytes f w) = hash_not_white t bytes b f (hash front t d) w
white_no_directive front t piece word d l n (block_first f c) = hash_no_both 42 t (hash front t d) f
white_no_directive front t piece word d l n (line_first f) = hash_no_both 47 t (hash front t d) f
white_no_directive front t piece word d l n (hash_first f m s) = both_ways (is_skipped word) n (ap is_skipped (l ∙ sym m) ∙ s)

no_both : {front rest p a w b : List ℕ} {k : Kind} → rest ≡ p ++ a → IsWhite front p a → rest ≡ w ++ b → IsToken front w b k → ⊥
no_both {front} {rest} {p} {a} {w} {b} e v f (longest k o l s) =
    white_no_word front (p ++ a) p w b (sym e ∙ f) (word_is_first w b l) (ap (λ t. opens_block t || opens_line t) (sym e ∙ f) ∙ o) (opens v)
no_both {front} {rest} {p} {a} {w} {b} e v f (directive d l n) =
    white_no_directive front (p ++ a) p w (ap (opens_directive front) (sym e ∙ f) ∙ d) (l ∙ ap line_of (sym f ∙ e)) n (opens v)

pub longest_is_one : (text : List ℕ) (m n : ℕ) → IsLongest is_word text m → IsLongest is_word text n → m ≡ n
longest_is_one text m n l k =
    let a = k.most m l.fits l.is in
    let b = l.most n k.fits k.is in
    omega (arith, a, b)

pub record SameToken (w x a b : List ℕ) (k l : Kind) : Type 0 where
  pub word : w ≡ x
  pub after : a ≡ b
  pub kind : k ≡ l

-- one token begins at a place
pub one_token : {front rest w a x b : List ℕ} {k l : Kind} → rest ≡ w ++ a → IsToken front w a k → rest ≡ x ++ b → IsToken front x b l → SameToken w x a b k l
one_token {front} {rest} {w} {a} {x} {b} e (longest k o m s) f (longest l p n t) =
    let g = sym e ∙ f in
    let c = same_cut w a x b g (longest_is_one (w ++ a) (length w) (length x) m (rw (← g) at n)) in
    record { word = c.0; after = c.1; kind = same_Some k l (sym s ∙ ap kind_of c.0 ∙ t) }
one_token {front} {rest} {w} {a} {x} {b} e (longest k o m s) f (directive d l n) =
    absurd (word_no_directive front w a (word_is_first w a m) (ap (opens_directive front) (sym e ∙ f) ∙ d))
one_token {front} {rest} {w} {a} {x} {b} e (directive d l n) f (longest k o m s) =
    absurd (word_no_directive front x b (word_is_first x b m) (ap (opens_directive front) (sym f ∙ e) ∙ d))
one_token {front} {rest} {w} {a} {x} {b} e (directive d l n) f (directive d' l' n') =
    let g = sym e ∙ f in
    let c = same_cut w a x b g (ap length (l ∙ ap line_of g ∙ sym l')) in
    record { word = c.0; after = c.1; kind = refl }

-- at a place where reading stops
pub record IsStop (front rest : List ℕ) : Type 0 where
  pub no_white : NoWhite front rest
  pub no_token : NoToken front rest

pub record SameEnd (ts us : List Token) (end back end' back' : List ℕ) : Type 0 where
  pub tokens : ts ≡ us
  pub end_is : end ≡ end'
  pub back_is : back ≡ back'

moved : (front : List ℕ) {p q a b end back : List ℕ} {ts : List Token} → p ≡ q → a ≡ b → Reads (front ++ q) b ts end back → Reads (front ++ p) a ts end back
moved front {p} {q} {a} {b} {end} {back} {ts} e f r = subst (λ x. Reads (front ++ x) a ts end back) (sym e) (subst (λ x. Reads (front ++ q) x ts end back) (sym f) r)

one_more : (front : List ℕ) {w x a b end back end' back' : List ℕ} {k l : Kind} {ts us : List Token} → SameToken w x a b k l → SameEnd ts us end back end' back' →
    SameEnd (token_of front w k ∷ ts) (token_of front x l ∷ us) end back end' back'
one_more front {w} {x} {k = k} {l = l} {ts = ts} {us = us} s e = record {
  tokens = ap (λ y. token_of front y k ∷ ts) s.word ∙ ap (λ y. token_of front x y ∷ ts) s.kind ∙ ap (λ y. token_of front x l ∷ y) e.tokens;
  end_is = e.end_is;
  back_is = e.back_is;
}

-- from one place on, reading comes to one stop, with one list of tokens
pub one_reading : {front rest end back end' back' : List ℕ} {ts us : List Token} → Reads front rest ts end back → Reads front rest us end' back' →
    IsStop end back → IsStop end' back' → SameEnd ts us end back end' back'
one_reading nothing nothing s t = record { tokens = refl; end_is = refl; back_is = refl }
one_reading nothing (past_white e w r) s t = absurd (s.no_white _ _ e w)
one_reading nothing (past_token e w r) s t = absurd (s.no_token _ _ _ e w)
one_reading (past_white e w r) nothing s t = absurd (t.no_white _ _ e w)
one_reading {front = front} (past_white e w r) (past_white f v q) s t =
    let c = one_white w v (sym e ∙ f) in
    one_reading r (moved front c.0 c.1 q) s t
one_reading (past_white e w r) (past_token f v q) s t = absurd (no_both e w f v)
one_reading (past_token e w r) nothing s t = absurd (t.no_token _ _ _ e w)
one_reading (past_token e w r) (past_white f v q) s t = absurd (no_both f v e w)
one_reading {front = front} (past_token e w r) (past_token f v q) s t =
    let c = one_token e w f v in
    one_more front c (one_reading r (moved front c.word c.after q) s t)

-- nothing begins at the end of a text
no_bytes : (piece after : List ℕ) → [] ≡ piece ++ after → (piece ≡ []) × (after ≡ [])
no_bytes [] after e = (refl, sym e)
no_bytes (b ∷ piece) after e = cc

pub opens_nothing : {front piece : List ℕ} → Opens front [] piece → ⊥
opens_nothing (white_first b bytes e h) = cc
opens_nothing (block_first e h) = cc
opens_nothing (line_first e) = cc
opens_nothing (hash_first e l s) = cc

pub stops_at_end : (text : List ℕ) → IsStop text []
stops_at_end text = record {
  no_white = λ piece after e w. opens_nothing (subst (λ t. Opens text t piece) (sym e) (opens w));
  no_token = λ word after k e t. no_token word after e t;
}
  where
    no_token : {k : Kind} (word after : List ℕ) → [] ≡ word ++ after → IsToken text word after k → ⊥
    no_token word after e (longest k o l s) = let h = starts word after (word_is_first word after l) in let f = e ∙ h.is in cc
    no_token word after e (directive d l n) = let h = ap (begins_with 35) e ∙ hash text (word ++ after) d in cc

pub stuck_stops : {front rest : List ℕ} → IsStuck front rest → IsStop front rest
stuck_stops s = record { no_white = s.no_white; no_token = s.no_token }

-- reading on after reading
pub reads_then : {front rest end back end' back' : List ℕ} {ts us : List Token} → Reads front rest ts end back → Reads end back us end' back' → Reads front rest (ts ++ us) end' back'
reads_then nothing q = q
reads_then (past_white e w r) q = past_white e w (reads_then r q)
reads_then (past_token e w r) q = past_token e w (reads_then r q)

-- the laws
pub one_list : (text : List ℕ) (a b : List Token) → IsLexed text a → IsLexed text b → a ≡ b
one_list text a b (ts, (e, r)) (us, (f, q)) =
    let s = one_reading r q (stops_at_end text) (stops_at_end text) in
    e ∙ ap (λ l. l ++ token_of text [] kind.End ∷ []) s.tokens ∙ sym f

same_failure : {text : List ℕ} {k l : LexicalKind} {p q : Pos} → FailsAt text k p → FailsAt text l q → (k ≡ l) × (p ≡ q)
same_failure f g =
    let s = one_reading f.read g.read (stuck_stops f.stuck) (stuck_stops g.stuck) in
    (f.is ∙ ap lexical_kind s.back_is ∙ sym g.is, f.place ∙ ap (after_bytes start_of_text) s.end_is ∙ sym g.place)

pub one_kind : (text : List ℕ) (k l : LexicalKind) (p q : Pos) → FailsAt text k p → FailsAt text l q → k ≡ l
one_kind text k l p q f g = (same_failure f g).0

pub one_place : (text : List ℕ) (k l : LexicalKind) (p q : Pos) → FailsAt text k p → FailsAt text l q → p ≡ q
one_place text k l p q f g = (same_failure f g).1

pub not_both : (text : List ℕ) (a : List Token) (k : LexicalKind) (p : Pos) → IsLexed text a → FailsAt text k p → ⊥
not_both text a k p (ts, (e, r)) f =
    let s = one_reading r f.read (stops_at_end text) (stuck_stops f.stuck) in
    let l = ap length s.back_is in
    let m = f.stuck.more in
    omega (arith, l, m)
