-- Lines, and those that a compiler's preprocessor leaves or would have read (C99 6.10).
use Rattle.std.specs.Prelude.{ℕ, List, [], ◌∷◌, reverse, length, drop, codes, Bool, false, not, ◌&&◌, ◌||◌}
use Rattle.std.specs.List.{list_all, take_while}
use Rattle.pk_lex.specs.Bytes.{is_blank, is_newline, is_digit, is_part, begins_with, same}

-- the bytes up to the end of the line
abbrev pub line_of : List ℕ → List ℕ
line_of text = take_while (λ b. not (is_newline b)) text

-- before a place, there are only blanks on its line
abbrev pub begins_line : List ℕ → Bool
begins_line front = list_all is_blank (line_of (reverse front))

-- the place's line has a `#` as its first byte that isn't a blank
abbrev pub opens_directive : List ℕ → List ℕ → Bool
opens_directive front text = begins_with 35 text && begins_line front

abbrev pub after_blanks : List ℕ → List ℕ
after_blanks text = drop (length (take_while is_blank text)) text

abbrev pub begins_with_digit : List ℕ → Bool
begins_with_digit [] = false
begins_with_digit (b ∷ bytes) = is_digit b

-- after the `#` and blanks, a number (a line marker of GNU's preprocessor) or the word `pragma`
abbrev pub is_skipped : List ℕ → Bool
is_skipped [] = false
is_skipped (b ∷ bytes) =
    let text = after_blanks bytes in
    begins_with_digit text || same (take_while is_part text) (codes "pragma")
