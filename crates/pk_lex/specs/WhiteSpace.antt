-- White space: white bytes, comments (C99 6.4.9) and skipped lines.
use Rattle.std.specs.Prelude.{◌≡◌, ℕ, ◌==◌, List, [], ◌∷◌, ◌++◌, codes, Bool, false, ◌&&◌, ◌||◌, IsTrue, IsFalse}
use Rattle.pk_lex.specs.Bytes.{is_white, begins_with}
use Rattle.pk_lex.specs.Lines.{line_of, opens_directive, is_skipped}

-- whether these are the first two bytes
abbrev pub begins_with_both : ℕ → ℕ → List ℕ → Bool
begins_with_both c d [] = false
begins_with_both c d (b ∷ bytes) = b == c && begins_with d bytes

-- `/*`
abbrev pub opens_block : List ℕ → Bool
opens_block text = begins_with_both 47 42 text

-- `//`
abbrev pub opens_line : List ℕ → Bool
opens_line text = begins_with_both 47 47 text

-- `*/` stands somewhere in the bytes
abbrev pub has_close : List ℕ → Bool
has_close [] = false
has_close (b ∷ bytes) = begins_with_both 42 47 (b ∷ bytes) || has_close bytes

-- a piece of white space, between what stands before it and after it
pub data IsWhite (front piece after : List ℕ) : Type 0 where
  white_byte : (b : ℕ) → piece ≡ b ∷ [] → IsTrue (is_white b) → IsWhite front piece after
  -- to the first `*/`: comments don't nest
  block_comment : (inside : List ℕ) → piece ≡ codes "/*" ++ inside ++ codes "*/" → IsFalse (has_close inside) →
      IsWhite front piece after
  -- to the end of the line, whose newline isn't part of it
  line_comment : IsTrue (opens_line (piece ++ after)) → piece ≡ line_of (piece ++ after) → IsWhite front piece after
  skipped_line : IsTrue (opens_directive front (piece ++ after)) → piece ≡ line_of (piece ++ after) →
      IsTrue (is_skipped piece) → IsWhite front piece after
