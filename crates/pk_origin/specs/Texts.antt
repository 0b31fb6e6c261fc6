-- The lines of a text, and the comments that are open where they begin (C99 5.1.1.2, 6.4.9).
use Rattle.std.specs.Prelude.{ℕ, ◌==◌, List, [], fold, take, Bool, true, false, ◌||◌, if◌then◌else◌, slice_index_or}
use Rattle.std.specs.List.{slice_split}
use Rattle.pk_lex.specs.Bytes.{begins_with}
use Rattle.pk_lex.specs.Lines.{after_blanks}
use Rattle.pk_origin.specs.declared.comments.Within.{Within}
use Rattle.pk_origin.specs.declared.comments.Within.TheVariants.{Code, Slash, Comment, Star, LineComment, Literal, Escape}

-- what stands between newlines, before the first and behind the last
abbrev pub lines_of : List ℕ → List (List ℕ)
lines_of text = slice_split (λ b. b == 10) text

abbrev pub line_at : List (List ℕ) → ℕ → List ℕ
line_at lines k = slice_index_or lines k []

-- ---- byte by byte: code, comments, and what quotes enclose

abbrev pub after_code : ℕ → Within
after_code b = if b == 47 then Slash else (if b == 34 || b == 39 then Literal b else Code)

abbrev pub within_after : Within → ℕ → Within
within_after Code b = after_code b
within_after Slash b = if b == 42 then Comment else (if b == 47 then LineComment else after_code b)
within_after Comment b = if b == 42 then Star else Comment
within_after Star b = if b == 47 then Code else (if b == 42 then Star else Comment)
within_after LineComment b = LineComment
within_after (Literal quote) b = if b == quote then Code else (if b == 92 then Escape quote else Literal quote)
within_after (Escape quote) b = Literal quote

abbrev pub is_in_comment : Within → Bool
is_in_comment Code = false
is_in_comment Slash = false
is_in_comment Comment = true
is_in_comment Star = true
is_in_comment LineComment = false
is_in_comment (Literal quote) = false
is_in_comment (Escape quote) = false

-- ---- line by line

-- the first byte that isn't a blank is a `#`
abbrev pub is_directive : List ℕ → Bool
is_directive line = begins_with 35 (after_blanks line)

-- Whether a comment is open behind a line, by whether one is open before it. A directive opens none.
abbrev pub open_behind : (is_open : Bool) → List ℕ → Bool
open_behind true line = is_in_comment (fold within_after Comment line)
open_behind false line = if is_directive line then false else is_in_comment (fold within_after Code line)

-- whether a comment is open where line k begins
abbrev pub is_open_at : List (List ℕ) → ℕ → Bool
is_open_at lines k = fold open_behind false (take k lines)
