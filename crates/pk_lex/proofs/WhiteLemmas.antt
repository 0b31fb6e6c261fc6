-- How long a piece of white space is.
use Rattle.std.proofs.Common.{◌≡◌, ℕ, suc, ◌+◌, ◌==◌, Bool, true, false, cond, ◌&&◌, ◌||◌, List, [], ◌∷◌, ◌++◌, length, take, drop, refl, sym, ap, ◌∙◌, arith, length-append, append_assoc}
use Rattle.std.proofs.lemmas.Bool.{or_parts, and_parts, and_right, eqb-true}
use Rattle.std.proofs.lemmas.List.{take_at, drop_at}
use Rattle.pk_lex.specs.Bytes.{is_white, begins_with}
use Rattle.pk_lex.specs.Lines.{line_of, begins_line, opens_directive, is_skipped}
use Rattle.pk_lex.specs.WhiteSpace.{opens_block, opens_line, begins_with_both, has_close, IsWhite, white_byte, block_comment, line_comment, skipped_line}

-- how many bytes stand before the first `*/`
abbrev close_at : List ℕ → ℕ
close_at [] = 0
close_at (b ∷ bytes) = cond (begins_with_both 42 47 (b ∷ bytes)) 0 (suc (close_at bytes))

close_after : (inside rest : List ℕ) → has_close inside ≡ false → close_at (inside ++ 42 ∷ 47 ∷ rest) ≡ length inside
close_after [] rest h = refl
close_after (b ∷ []) rest h =
    ap (λ t. cond t 0 (suc (close_at (42 ∷ 47 ∷ rest)))) (and_right (b == 42) false refl)
close_after (b ∷ c ∷ inside) rest h =
    let e = or_parts (begins_with_both 42 47 (b ∷ c ∷ inside)) (has_close (c ∷ inside)) h in
    ap (λ t. cond t 0 (suc (close_at (c ∷ inside ++ 42 ∷ 47 ∷ rest)))) e.0 ∙ ap suc (close_after (c ∷ inside) rest e.1)

-- that length, by the first bytes
abbrev white_length : List ℕ → ℕ
white_length [] = 0
white_length (b ∷ bytes) = cond (is_white b) 1 (cond (opens_block (b ∷ bytes)) (4 + close_at (drop 1 bytes)) (length (line_of (b ∷ bytes))))

-- what the first two bytes say of the first
first_of_both : (c d b : ℕ) (bytes : List ℕ) → begins_with_both c d (b ∷ bytes) ≡ true → b ≡ c
first_of_both c d b bytes h = eqb-true b c (and_parts (b == c) (begins_with d bytes) h).0

not_white : (b c : ℕ) → b ≡ c → is_white c ≡ false → is_white b ≡ false
not_white b c e h = ap is_white e ∙ h

not_block : (b c d : ℕ) (bytes : List ℕ) → begins_with_both c d (b ∷ bytes) ≡ true → (d == 42) ≡ false → opens_block (b ∷ bytes) ≡ false
not_block b c d [] h n = and_right (b == 47) false refl
not_block b c d (x ∷ bytes) h n =
    let e = eqb-true x d (and_parts (b == c) (x == d) h).1 in
    and_right (b == 47) (x == 42) (ap (λ y. y == 42) e ∙ n)

abbrev begins_hash : List ℕ → Bool
begins_hash text = begins_with 35 text

line_length : (t : List ℕ) → opens_line t ≡ true → white_length t ≡ length (line_of t)
line_length [] h = refl
line_length (b ∷ bytes) h =
    ap (λ s. cond s 1 (cond (opens_block (b ∷ bytes)) (4 + close_at (drop 1 bytes)) (length (line_of (b ∷ bytes))))) (not_white b 47 (first_of_both 47 47 b bytes h) refl)
    ∙ ap (λ s. cond s (4 + close_at (drop 1 bytes)) (length (line_of (b ∷ bytes)))) (not_block b 47 47 bytes h refl)

hash_length : (t : List ℕ) → begins_hash t ≡ true → white_length t ≡ length (line_of t)
hash_length [] h = refl
hash_length (b ∷ bytes) h =
    let e = eqb-true b 35 h in
    ap (λ s. cond s 1 (cond (opens_block (b ∷ bytes)) (4 + close_at (drop 1 bytes)) (length (line_of (b ∷ bytes))))) (not_white b 35 e refl)
    ∙ ap (λ s. cond s (4 + close_at (drop 1 bytes)) (length (line_of (b ∷ bytes)))) (ap (λ x. x == 47 && begins_with 42 bytes) e)

byte_length : (b : ℕ) (bytes : List ℕ) → is_white b ≡ true → white_length (b ∷ bytes) ≡ 1
byte_length b bytes h = ap (λ s. cond s 1 (cond (opens_block (b ∷ bytes)) (4 + close_at (drop 1 bytes)) (length (line_of (b ∷ bytes))))) h

block_length : (inside after : List ℕ) → has_close inside ≡ false → white_length (47 ∷ 42 ∷ inside ++ 42 ∷ 47 ∷ after) ≡ 4 + length inside
block_length inside after h = ap (λ n. 4 + n) (close_after inside after h)

-- a block comment with what comes after it
pub block_is : (piece inside after : List ℕ) → piece ≡ 47 ∷ 42 ∷ inside ++ 42 ∷ 47 ∷ [] → piece ++ after ≡ 47 ∷ 42 ∷ inside ++ 42 ∷ 47 ∷ after
block_is piece inside after e = ap (λ p. p ++ after) e ∙ append_assoc (47 ∷ 42 ∷ inside) (42 ∷ 47 ∷ []) after

length_of_white : (front piece after : List ℕ) → IsWhite front piece after → white_length (piece ++ after) ≡ length piece
length_of_white front piece after (white_byte b e h) = rw e (byte_length b after h)
length_of_white front piece after (block_comment inside e h) =
    let l = length-append (47 ∷ 42 ∷ inside) (42 ∷ 47 ∷ []) in
    let k = ap length e in
    let n = block_length inside after h in
    let m = ap white_length (block_is piece inside after e) in
    omega (arith, l, k, n, m)
length_of_white front piece after (line_comment h e) = line_length (piece ++ after) h ∙ ap length (sym e)
length_of_white front piece after (skipped_line h e s) = hash_length (piece ++ after) (and_parts (begins_with 35 (piece ++ after)) (begins_line front) h).0 ∙ ap length (sym e)

-- two ways to cut a list at one length are one
pub same_cut : (a b c d : List ℕ) → a ++ b ≡ c ++ d → length a ≡ length c → (a ≡ c) × (b ≡ d)
same_cut a b c d e l = (
  sym (take_at a b (length a) refl) ∙ ap (take (length a)) e ∙ take_at c d (length a) (sym l),
  sym (drop_at a b (length a) refl) ∙ ap (drop (length a)) e ∙ drop_at c d (length a) (sym l),
)

pub one_white : {front p a q b : List ℕ} → IsWhite front p a → IsWhite front q b → p ++ a ≡ q ++ b → (p ≡ q) × (a ≡ b)
one_white {front} {p} {a} {q} {b} w v e =
    same_cut p a q b e (sym (length_of_white front p a w) ∙ ap white_length e ∙ length_of_white front q b v)

-- what a piece of white space begins with
pub data Opens (front t piece : List ℕ) : Type 0 where
  white_first : (b : ℕ) (bytes : List ℕ) → t ≡ b ∷ bytes → is_white b ≡ true → Opens front t piece
  block_first : opens_block t ≡ true → has_close (drop 2 t) ≡ true → Opens front t piece
  line_first : opens_line t ≡ true → Opens front t piece
  hash_first : opens_directive front t ≡ true → piece ≡ line_of t → is_skipped piece ≡ true → Opens front t piece

has_close-append : (inside rest : List ℕ) → has_close (inside ++ 42 ∷ 47 ∷ rest) ≡ true
has_close-append [] rest = refl
has_close-append (b ∷ inside) rest = or_true (begins_with_both 42 47 (b ∷ inside ++ 42 ∷ 47 ∷ rest)) _ (has_close-append inside rest)
  where
    or_true : (x y : Bool) → y ≡ true → (x || y) ≡ true
    or_true true y e = refl
    or_true false y e = e

pub opens : {front piece after : List ℕ} → IsWhite front piece after → Opens front (piece ++ after) piece
opens {front} {piece} {after} (white_byte b e h) = white_first b after (ap (λ p. p ++ after) e) h
opens {front} {piece} {after} (block_comment inside e h) =
    let m = block_is piece inside after e in
    block_first (ap opens_block m) (ap (λ t. has_close (drop 2 t)) m ∙ has_close-append inside after)
opens {front} {piece} {after} (line_comment h e) = line_first h
opens {front} {piece} {after} (skipped_line h e s) = hash_first h e s
