-- What begins at a place.
use Rattle.std.proofs.Common.{◌≡◌, ℕ, zero, suc, ◌+◌, ◌≤◌, ◌==◌, true, false, cond, not, ◌&&◌, ◌||◌, Some, None, List, [], ◌∷◌, ◌++◌, length, take, drop, refl, sym, ap, ◌∙◌, arith, length-append, take-append-drop}
use Rattle.std.specs.List.{take_while}
use Rattle.std.proofs.lemmas.Bool.{or_parts, or_from, and_parts, and_from, both_ways, eqb-true, false_from_ne_true}
use Rattle.std.proofs.lemmas.List.{take_at, length-take-le}
use Rattle.std.proofs.lemmas.List.Folds.{length-prefix_len}
use Rattle.std.proofs.lemmas.List.Sums.{prefix_len-le-length, take_while-cons}
use Rattle.pk_lex.specs.declared.token.Kind.{Kind}
use Rattle.pk_lex.specs.declared.token.Kind.TheVariants as kind
use Rattle.pk_lex.specs.Bytes.{is_white, is_newline, begins_with}
use Rattle.pk_lex.specs.Lines.{line_of, begins_line, opens_directive, is_skipped}
use Rattle.pk_lex.specs.WhiteSpace.{opens_block, opens_line, has_close, white_byte, block_comment, line_comment, skipped_line}
use Rattle.pk_lex.specs.Words.{is_word, IsLongest, BeginsNone}
use Rattle.pk_lex.specs.Kinds.{kind_of}
use Rattle.pk_lex.specs.Tokens.{IsToken, longest, directive}
use Rattle.pk_lex.specs.Steps.{IsFirstClose, NoWhite, NoToken, IsFirstWhite, IsFirstToken}
use Rattle.pk_lex.proofs.WhiteLemmas.{Opens, white_first, block_first, line_first, hash_first, opens}
use Rattle.pk_lex.proofs.ReadLemmas.{word_is_first, longest_is_one}
use Rattle.pk_lex.proofs.WordLemmas.{empty_is_no_word}

-- none of the ways in which white space begins
record OpensNone (front text : List ℕ) : Type 0 where
  white : (b : ℕ) (bytes : List ℕ) → text ≡ b ∷ bytes → is_white b ≡ true → ⊥
  block : opens_block text ≡ true → has_close (drop 2 text) ≡ true → ⊥
  line : opens_line text ≡ true → ⊥
  skipped : opens_directive front text ≡ true → is_skipped (line_of text) ≡ true → ⊥

no_white : (front text : List ℕ) → OpensNone front text → NoWhite front text
no_white front text none piece after e w = by_way (opens w)
  where
    by_way : Opens front (piece ++ after) piece → ⊥
    by_way (white_first b bytes f h) = none.white b bytes (e ∙ f) h
    by_way (block_first f c) = none.block (ap opens_block e ∙ f) (ap (λ t. has_close (drop 2 t)) e ∙ c)
    by_way (line_first f) = none.line (ap opens_line e ∙ f)
    by_way (hash_first f l s) = none.skipped (ap (opens_directive front) e ∙ f) (ap is_skipped (ap line_of e ∙ sym l) ∙ s)

same_head : (b c : ℕ) (rest bytes : List ℕ) → b ∷ rest ≡ c ∷ bytes → b ≡ c
same_head b c rest bytes e = cc

no_white_first : (text : List ℕ) (b : ℕ) (rest : List ℕ) → text ≡ b ∷ rest → is_white b ≡ false → (c : ℕ) (bytes : List ℕ) → text ≡ c ∷ bytes → is_white c ≡ true → ⊥
no_white_first text b rest e n c bytes f h = both_ways (is_white b) n (ap is_white (same_head b c rest bytes (sym e ∙ f)) ∙ h)

block_cut : (text : List ℕ) → opens_block text ≡ true → text ≡ 47 ∷ 42 ∷ drop 2 text
block_cut [] h = cc
block_cut (b ∷ []) h = absurd (let e = and_parts (b == 47) false h in both_ways false refl e.1)
block_cut (b ∷ c ∷ bytes) h =
    let e = and_parts (b == 47) (c == 42) h in
    let f = eqb-true b 47 e.0 in
    let g = eqb-true c 42 e.1 in
    ap (λ x. x ∷ c ∷ bytes) f ∙ ap (λ x. 47 ∷ x ∷ bytes) g

pub unclosed : (front text : List ℕ) (b : ℕ) (rest : List ℕ) → text ≡ b ∷ rest → is_white b ≡ false → opens_block text ≡ true → has_close (drop 2 text) ≡ false → NoWhite front text
unclosed front text b rest e n o c = no_white front text (record {
  white = no_white_first text b rest e n;
  block = λ f h. both_ways (has_close (drop 2 text)) c h;
  line = λ f. let g : opens_line (47 ∷ 42 ∷ drop 2 text) ≡ true = ap opens_line (sym (block_cut text o)) ∙ f in cc;
  skipped = λ f s. let g : begins_with 35 (47 ∷ 42 ∷ drop 2 text) ≡ true = ap (begins_with 35) (sym (block_cut text o)) ∙ (and_parts (begins_with 35 text) (begins_line front) f).0 in cc;
})

pub white_none : (front text : List ℕ) (b : ℕ) (rest : List ℕ) → text ≡ b ∷ rest → is_white b ≡ false → opens_block text ≡ false → opens_line text ≡ false →
    (opens_directive front text && is_skipped (line_of text)) ≡ false → NoWhite front text
white_none front text b rest e n o l s = no_white front text (record {
  white = no_white_first text b rest e n;
  block = λ f h. both_ways (opens_block text) o f;
  line = λ f. both_ways (opens_line text) l f;
  skipped = λ f g. both_ways (opens_directive front text && is_skipped (line_of text)) s (and_from (opens_directive front text) (is_skipped (line_of text)) f g);
})

pub first_byte : (front text : List ℕ) (b : ℕ) (rest : List ℕ) → text ≡ b ∷ rest → is_white b ≡ true → IsFirstWhite front text 1
first_byte front text b rest e h = record {
  fits = let l = ap length e in omega (arith, l);
  is = white_byte b (ap (take 1) e) h;
}

pub first_block : (front text body : List ℕ) (n : ℕ) → opens_block text ≡ true → body ≡ drop 2 text → IsFirstClose body n → IsFirstWhite front text (n + 4)
first_block front text body n o e c = record {
  fits = let l = ap length cut in let f = c.fits in omega (arith, l, f);
  is = block_comment (take n body) (ap (take (n + 4)) whole ∙ take_at (47 ∷ 42 ∷ take n body ++ 42 ∷ 47 ∷ []) (drop (n + 2) body) (n + 4) size) c.before;
}
  where
    cut : text ≡ 47 ∷ 42 ∷ body
    cut = block_cut text o ∙ ap (λ x. 47 ∷ 42 ∷ x) (sym e)

    whole : text ≡ 47 ∷ 42 ∷ take n body ++ 42 ∷ 47 ∷ [] ++ drop (n + 2) body
    whole = cut ∙ ap (λ x. 47 ∷ 42 ∷ x) c.cut

    size : length (47 ∷ 42 ∷ take n body ++ 42 ∷ 47 ∷ []) ≡ n + 4
    size =
        let l = length-append (take n body) (42 ∷ 47 ∷ []) in
        let f : n ≤ length body = let g = c.fits in omega (arith, g) in
        let k = length-take-le n body f in
        omega (arith, l, k)

line_fits : (text : List ℕ) → length (line_of text) ≤ length text
line_fits text = let e = length-prefix_len (λ b. not (is_newline b)) text in let f = prefix_len-le-length (λ b. not (is_newline b)) text in omega (arith, e, f)

line_at : (text : List ℕ) (n : ℕ) → n ≡ length (line_of text) → take n text ≡ line_of text
line_at text n e = ap (λ k. take k text) (e ∙ length-prefix_len (λ b. not (is_newline b)) text)

-- the line at a place, with what comes after it
line_whole : (text : List ℕ) (n : ℕ) → n ≡ length (line_of text) → take n text ≡ line_of (take n text ++ drop n text)
line_whole text n e = line_at text n e ∙ ap line_of (sym (take-append-drop n text))

pub first_line : (front text : List ℕ) (n : ℕ) → n ≡ length (line_of text) → opens_line text ≡ true → IsFirstWhite front text n
first_line front text n e h = record {
  fits = let f = line_fits text in omega (arith, e, f);
  is = line_comment (ap opens_line (take-append-drop n text) ∙ h) (line_whole text n e);
}

pub first_skipped : (front text : List ℕ) (n : ℕ) → n ≡ length (line_of text) → (opens_directive front text && is_skipped (line_of text)) ≡ true → IsFirstWhite front text n
first_skipped front text n e h =
    let p = and_parts (opens_directive front text) (is_skipped (line_of text)) h in
    record {
      fits = let f = line_fits text in omega (arith, e, f);
      is = skipped_line (ap (opens_directive front) (take-append-drop n text) ∙ p.0) (line_whole text n e) (ap is_skipped (line_at text n e) ∙ p.1);
    }

-- tokens
pub first_directive : (front text : List ℕ) (n : ℕ) → n ≡ length (line_of text) → opens_directive front text ≡ true → NoWhite front text → IsFirstToken front text n kind.Directive
first_directive front text n e h none = record {
  fits = let f = line_fits text in omega (arith, e, f);
  is = directive (ap (opens_directive front) (take-append-drop n text) ∙ h) (line_whole text n e) (ap is_skipped (line_at text n e) ∙ not_skipped);
}
  where
    not_skipped : is_skipped (line_of text) ≡ false
    not_skipped =
        false_from_ne_true (is_skipped (line_of text))
        (λ s. let w = first_skipped front text n e (and_from (opens_directive front text) (is_skipped (line_of text)) h s) in none (take n text) (drop n text) (sym (take-append-drop n text)) w.is)

no_comment : (front text : List ℕ) → opens_block text ≡ false → NoWhite front text → (opens_block text || opens_line text) ≡ false
no_comment front text o none =
    or_from (opens_block text) (opens_line text) o
    (false_from_ne_true (opens_line text)
    (λ h. let w = first_line front text (length (line_of text)) refl h in none (take (length (line_of text)) text) (drop (length (line_of text)) text) (sym (take-append-drop (length (line_of text)) text)) w.is))

pub first_word : (front text word : List ℕ) (n : ℕ) (k : Kind) → opens_block text ≡ false → NoWhite front text → IsLongest is_word text n → word ≡ take n text → kind_of word ≡ Some k →
    IsFirstToken front text n k
first_word front text word n k o none l e s = record {
  fits = l.fits;
  is = longest k (ap (λ t. opens_block t || opens_line t) (take-append-drop n text) ∙ no_comment front text o none)
      (rw (take-append-drop n text, length-take-le n text l.fits) l) (ap kind_of (sym e) ∙ s);
}

-- no directive and no word
no_token : (front text : List ℕ) → opens_directive front text ≡ false →
    ((word after : List ℕ) (k : Kind) → text ≡ word ++ after → opens_block text ≡ false → IsLongest is_word text (length word) → kind_of word ≡ Some k → ⊥) → NoToken front text
no_token front text d none word after k e (longest k' o l s) =
    none word after k' e (ap opens_block e ∙ (or_parts (opens_block (word ++ after)) (opens_line (word ++ after)) o).0) (rw e l) s
no_token front text d none word after k e (directive h l n) = both_ways (opens_directive front text) d (ap (opens_directive front) e ∙ h)

pub no_token_in_comment : (front text : List ℕ) → opens_directive front text ≡ false → opens_block text ≡ true → NoToken front text
no_token_in_comment front text d o = no_token front text d (λ word after k e n l s. both_ways (opens_block text) n o)

pub no_token_without_word : (front text : List ℕ) → opens_directive front text ≡ false → BeginsNone is_word text → NoToken front text
no_token_without_word front text d none = no_token front text d (λ word after k e n l s. none (length word) l.fits l.is)

pub no_token_without_kind : (front text word : List ℕ) (n : ℕ) → opens_directive front text ≡ false → IsLongest is_word text n → word ≡ take n text → kind_of word ≡ None → NoToken front text
no_token_without_kind front text word n d l e none =
    no_token front text d
    (λ other after k f o m s.
    let size = longest_is_one text n (length other) l m in
    let same : word ≡ other = e ∙ ap (λ i. take i text) size ∙ ap (take (length other)) f ∙ take_at other after (length other) refl in
    let both : None ≡ Some k = sym none ∙ ap kind_of same ∙ s in cc)

-- a line that begins with a byte other than a newline isn't empty
line_not_empty : (b : ℕ) (bytes : List ℕ) → is_newline b ≡ false → [] ≡ line_of (b ∷ bytes) → ⊥
line_not_empty b bytes n e =
    let f : line_of (b ∷ bytes) ≡ b ∷ take_while (λ x. not (is_newline x)) bytes = take_while-cons (λ x. not (is_newline x)) b bytes ∙ ap (λ t. cond (not t) (b ∷ take_while (λ x. not (is_newline x)) bytes) []) n in
    let g = e ∙ f in cc

hash_line : (text : List ℕ) → begins_with 35 text ≡ true → [] ≡ line_of text → ⊥
hash_line [] h e = cc
hash_line (b ∷ bytes) h e = line_not_empty b bytes (ap is_newline (eqb-true b 35 h)) e

token_not_empty : {front after : List ℕ} {k : Kind} → IsToken front [] after k → ⊥
token_not_empty {front} {after} (longest k o l s) = both_ways (is_word []) empty_is_no_word (word_is_first [] after l)
token_not_empty {front} {after} (directive h l n) = hash_line after (and_parts (begins_with 35 after) (begins_line front) h).0 l

pub token_positive : (front rest : List ℕ) (n : ℕ) (k : Kind) → IsFirstToken front rest n k → 1 ≤ n
token_positive front rest zero k t = absurd (token_not_empty t.is)
token_positive front rest (suc n) k t = omega arith
