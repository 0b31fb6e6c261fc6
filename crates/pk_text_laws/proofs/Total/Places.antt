-- At each place of a text white space begins, or a token, or neither.
use Rattle.std.proofs.Common.{◌≡◌, ℕ, zero, suc, ◌<◌, ◌≤◌, ◌==◌, ◌⊎◌, inl, inr, Bool, true, false, cond, not, ◌&&◌, ◌||◌, Option, Some, None, List, [], ◌∷◌, ◌++◌, length, take, drop, refl, sym, ap, ◌∙◌, arith, append_assoc, eq-or-lt_of_le, take-append-drop}
use Rattle.std.specs.List.{take_while}
use Rattle.std.proofs.lemmas.Bool.{and_parts, and_right, or_cases, or_from, both_ways, eqb-true}
use Rattle.std.proofs.lemmas.List.Sums.{take_while-cons}
use Rattle.pk_lex.specs.declared.token.Kind.{Kind}
use Rattle.pk_lex.specs.declared.token.Kind.TheVariants as kind
use Rattle.pk_lex.specs.Bytes.{is_white, is_newline, begins_with}
use Rattle.pk_lex.specs.Lines.{line_of, opens_directive, is_skipped}
use Rattle.pk_lex.specs.WhiteSpace.{begins_with_both, opens_block, opens_line, has_close, IsWhite, white_byte, block_comment, line_comment, skipped_line}
use Rattle.pk_lex.specs.Words.{is_word, IsLongest, BeginsNone}
use Rattle.pk_lex.specs.Kinds.{kind_of}
use Rattle.pk_lex.specs.Steps.{NoWhite, NoToken, IsFirstWhite, IsFirstToken}
use Rattle.pk_lex.proofs.StepLemmas.{first_byte, first_line, first_skipped, first_directive, first_word, unclosed, white_none, no_token_in_comment, no_token_without_word, no_token_without_kind}

-- ---- the longest word

-- of the first bytes that pass a test, up to a bound, n are the most
record IsMost (test : List ℕ → Bool) (text : List ℕ) (bound n : ℕ) : Type 0 where
  fits : n ≤ bound
  is : test (take n text) ≡ true
  most : (m : ℕ) → m ≤ bound → test (take m text) ≡ true → m ≤ n

abbrev PassesNone : (List ℕ → Bool) → List ℕ → ℕ → Type 0
PassesNone test text bound = (m : ℕ) → m ≤ bound → test (take m text) ≡ true → ⊥

abbrev Most : (List ℕ → Bool) → List ℕ → ℕ → Type 0
Most test text bound = ((n : ℕ) × IsMost test text bound n) ⊎ PassesNone test text bound

module _ (test : List ℕ → Bool) (text : List ℕ) where
  -- what doesn't pass at the bound
  other : (m b : ℕ) → test (take b text) ≡ false → m ≡ b → test (take m text) ≡ true → ⊥
  other m b e f h = both_ways (test (take b text)) e (ap (λ k. test (take k text)) (sym f) ∙ h)

  most_up_to : (bound : ℕ) → Most test text bound
  most_up_to zero = at_zero (test (take 0 text)) refl
    where
      at_zero : (t : Bool) → test (take 0 text) ≡ t → Most test text 0
      at_zero true e = inl (0, record { fits = omega arith; is = e; most = λ m le h. le })
      at_zero false e = inr (λ m le h. other m 0 e (omega (arith, le)) h)
  most_up_to (suc b) = at_more (most_up_to b) (test (take (suc b) text)) refl
    where
      lower : (m : ℕ) → m < suc b → m ≤ b
      lower m l = omega (arith, l)

      at_more : Most test text b → (t : Bool) → test (take (suc b) text) ≡ t → Most test text (suc b)
      at_more r true e = inl (suc b, record { fits = omega arith; is = e; most = λ m le h. le })
      at_more (inl p) false e =
          inl (
            p.0,
            record {
              fits = let f = p.1.fits in omega (arith, f);
              is = p.1.is;
              most = λ m le h. elim (eq-or-lt_of_le le) [ inl f ↦ absurd (other m (suc b) e f h) | inr l ↦ p.1.most m (lower m l) h ];
            },
          )
      at_more (inr none) false e = inr (λ m le h. elim (eq-or-lt_of_le le) [ inl f ↦ other m (suc b) e f h | inr l ↦ none m (lower m l) h ])

longest_word : (text : List ℕ) → ((n : ℕ) × IsLongest is_word text n) ⊎ BeginsNone is_word text
longest_word text = elim (most_up_to is_word text (length text)) [
  | inl p ↦ inl (p.0, record { fits = p.1.fits; is = p.1.is; most = p.1.most })
  | inr none ↦ inr none
]

-- ---- the end of a comment

record IsClosed (text : List ℕ) : Type 0 where
  inside : List ℕ
  after : List ℕ
  is : text ≡ inside ++ 42 ∷ 47 ∷ after
  none : has_close inside ≡ false

closed : (text : List ℕ) → has_close text ≡ true → IsClosed text
closed [] h = absurd (both_ways false refl h)
closed (b ∷ []) h = absurd (both_ways (begins_with_both 42 47 (b ∷ []) || false) (or_from (b == 42 && false) false (and_right (b == 42) false refl) refl) h)
closed (b ∷ c ∷ bytes) h = by_first (λ k. closed (c ∷ bytes) k) (begins_with_both 42 47 (b ∷ c ∷ bytes)) refl
  where
    not_first : (inside rest after : List ℕ) → begins_with_both 42 47 (b ∷ rest) ≡ false → rest ≡ inside ++ after → begins_with_both 42 47 (b ∷ inside) ≡ false
    not_first [] rest after f e = and_right (b == 42) false refl
    not_first (d ∷ inside) rest after f e = ap (λ q. b == 42 && begins_with 47 q) (sym e) ∙ f

    later : begins_with_both 42 47 (b ∷ c ∷ bytes) ≡ false → has_close (c ∷ bytes) ≡ true
    later f = elim (or_cases (begins_with_both 42 47 (b ∷ c ∷ bytes)) (has_close (c ∷ bytes)) h) [
      | inl e ↦ absurd (both_ways (begins_with_both 42 47 (b ∷ c ∷ bytes)) f e)
      | inr e ↦ e
    ]

    by_first : (has_close (c ∷ bytes) ≡ true → IsClosed (c ∷ bytes)) → (t : Bool) → begins_with_both 42 47 (b ∷ c ∷ bytes) ≡ t → IsClosed (b ∷ c ∷ bytes)
    by_first on true e =
        let p = and_parts (b == 42) (c == 47) e in
        record {
          inside = [];
          after = bytes;
          is = ap (λ x. x ∷ c ∷ bytes) (eqb-true b 42 p.0) ∙ ap (λ x. 42 ∷ x ∷ bytes) (eqb-true c 47 p.1);
          none = refl;
        }
    by_first on false e =
        let r = on (later e) in
        record {
          inside = b ∷ r.inside;
          after = r.after;
          is = ap (λ q. b ∷ q) r.is;
          none = or_from (begins_with_both 42 47 (b ∷ r.inside)) (has_close r.inside) (not_first r.inside (c ∷ bytes) (42 ∷ 47 ∷ r.after) e r.is) r.none;
        }

block_cut : (text : List ℕ) → opens_block text ≡ true → text ≡ 47 ∷ 42 ∷ drop 2 text
block_cut [] h = absurd (both_ways false refl h)
block_cut (b ∷ []) h = absurd (both_ways (b == 47 && false) (and_right (b == 47) false refl) h)
block_cut (b ∷ c ∷ bytes) h =
    let p = and_parts (b == 47) (c == 42) h in
    ap (λ x. x ∷ c ∷ bytes) (eqb-true b 47 p.0) ∙ ap (λ x. 47 ∷ x ∷ bytes) (eqb-true c 42 p.1)

-- ---- a place

pub data Place (front rest : List ℕ) : Type 0 where
  white : (piece after : List ℕ) → rest ≡ piece ++ after → IsWhite front piece after → Place front rest
  token : (n : ℕ) (k : Kind) → IsFirstToken front rest n k → Place front rest
  stuck : NoWhite front rest → NoToken front rest → Place front rest

first_white : (front rest : List ℕ) (n : ℕ) → IsFirstWhite front rest n → Place front rest
first_white front rest n w = white (take n rest) (drop n rest) (sym (take-append-drop n rest)) w.is

first_comment : (front rest : List ℕ) → opens_block rest ≡ true → IsClosed (drop 2 rest) → Place front rest
first_comment front rest o c =
    white (47 ∷ 42 ∷ c.inside ++ 42 ∷ 47 ∷ []) c.after
    (block_cut rest o ∙ ap (λ q. 47 ∷ 42 ∷ q) (c.is ∙ sym (append_assoc c.inside (42 ∷ 47 ∷ []) c.after)))
    (block_comment c.inside refl c.none)

module _ (front rest : List ℕ) where
  no_white_here : NoWhite front rest → Place front rest
  no_white_here none = by_directive (opens_directive front rest) refl
    where
      by_kind : opens_directive front rest ≡ false → opens_block rest ≡ false → (n : ℕ) → IsLongest is_word rest n → (k : Option Kind) → kind_of (take n rest) ≡ k → Place front rest
      by_kind d o n l None e = stuck none (no_token_without_kind front rest (take n rest) n d l refl e)
      by_kind d o n l (Some k) e = token n k (first_word front rest (take n rest) n k o none l refl e)

      by_word : opens_directive front rest ≡ false → opens_block rest ≡ false → ((n : ℕ) × IsLongest is_word rest n) ⊎ BeginsNone is_word rest → Place front rest
      by_word d o (inl l) = by_kind d o l.0 l.1 (kind_of (take l.0 rest)) refl
      by_word d o (inr no_word) = stuck none (no_token_without_word front rest d no_word)

      by_block : opens_directive front rest ≡ false → (t : Bool) → opens_block rest ≡ t → Place front rest
      by_block d true o = stuck none (no_token_in_comment front rest d o)
      by_block d false o = by_word d o (longest_word rest)

      by_directive : (t : Bool) → opens_directive front rest ≡ t → Place front rest
      by_directive true d = token (length (line_of rest)) kind.Directive (first_directive front rest (length (line_of rest)) refl d none)
      by_directive false d = by_block d (opens_block rest) refl

  module _ (b : ℕ) (bytes : List ℕ) (is : rest ≡ b ∷ bytes) where
    by_close : is_white b ≡ false → opens_block rest ≡ true → (t : Bool) → has_close (drop 2 rest) ≡ t → Place front rest
    by_close n o true h = first_comment front rest o (closed (drop 2 rest) h)
    by_close n o false h = no_white_here (unclosed front rest b bytes is n o h)

    by_skipped : is_white b ≡ false → opens_block rest ≡ false → opens_line rest ≡ false → (t : Bool) → (opens_directive front rest && is_skipped (line_of rest)) ≡ t → Place front rest
    by_skipped n o l true s = first_white front rest (length (line_of rest)) (first_skipped front rest (length (line_of rest)) refl s)
    by_skipped n o l false s = no_white_here (white_none front rest b bytes is n o l s)

    by_line : is_white b ≡ false → opens_block rest ≡ false → (t : Bool) → opens_line rest ≡ t → Place front rest
    by_line n o true l = first_white front rest (length (line_of rest)) (first_line front rest (length (line_of rest)) refl l)
    by_line n o false l = by_skipped n o l (opens_directive front rest && is_skipped (line_of rest)) refl

    by_block : is_white b ≡ false → (t : Bool) → opens_block rest ≡ t → Place front rest
    by_block n true o = by_close n o (has_close (drop 2 rest)) refl
    by_block n false o = by_line n o (opens_line rest) refl

    by_white : (t : Bool) → is_white b ≡ t → Place front rest
    by_white true w = first_white front rest 1 (first_byte front rest b bytes is w)
    by_white false n = by_block n (opens_block rest) refl

pub place : (front : List ℕ) (b : ℕ) (bytes : List ℕ) → Place front (b ∷ bytes)
place front b bytes = by_white front (b ∷ bytes) b bytes refl (is_white b) refl

-- ---- white space has bytes

line_not_empty : (text : List ℕ) → opens_line text ≡ true → [] ≡ line_of text → ⊥
line_not_empty [] h e = both_ways false refl h
line_not_empty (b ∷ bytes) h e =
    let first : b ≡ 47 = eqb-true b 47 (and_parts (b == 47) (begins_with 47 bytes) h).0 in
    let line : line_of (b ∷ bytes) ≡ b ∷ take_while (λ x. not (is_newline x)) bytes =
    take_while-cons (λ x. not (is_newline x)) b bytes ∙ ap (λ x. cond (not (is_newline x)) (b ∷ take_while (λ y. not (is_newline y)) bytes) []) first in
    let both = e ∙ line in cc

pub white_not_empty : {front after : List ℕ} → IsWhite front [] after → ⊥
white_not_empty (white_byte b e h) = cc
white_not_empty (block_comment inside e h) = cc
white_not_empty {front} {after} (line_comment h e) = line_not_empty after h e
white_not_empty (skipped_line h e s) = both_ways false refl s
