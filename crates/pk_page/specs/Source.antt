-- The source of a text on a page: its lines by the files that they come from, with operations marked.
use Rattle.std.specs.Prelude.{ℕ, zero, suc, ◌+◌, ◌==◌, List, [], ◌∷◌, ◌++◌, length, fold, Bool, true, false, not, ◌&&◌, ◌||◌, if◌then◌else◌, Option, Some, None, slice_index_or}
use Rattle.pk_lex.specs.Bytes.{is_part, same}
use Rattle.pk_origin.specs.Origins.{first_origin}
use Rattle.pk_show.specs.declared.rows.Verdict.{Verdict}
use Rattle.pk_show.specs.declared.rows.Verdict.TheVariants as verdict
use Rattle.pk_findings.specs.Texts.{TextOf, file_of}
use Rattle.pk_findings.specs.Operations.{OperationOf}
use Rattle.pk_findings.specs.Words.{verdict_of}
use Rattle.pk_html.specs.declared.parts.Part.{Part}
use Rattle.pk_html.specs.declared.parts.Part.TheVariants.{Tag, Text, Count}
use Rattle.pk_html.specs.declared.tags.Tag.{Tag as TagOf}
use Rattle.pk_html.specs.declared.tags.Tag.TheVariants as tag
use Rattle.pk_page.specs.declared.marks.Mark.{Mark}
use Rattle.pk_page.specs.declared.marks.Mark.TheVariants.{Safe, Unknown, Unreachable}
use Rattle.pk_page.specs.declared.lines.Opened.{Opened}

-- ---- which bytes are marked

abbrev pub mark_of : Verdict → Mark
mark_of verdict.Safe = Safe
mark_of (verdict.Unknown lo hi) = Unknown
mark_of verdict.Unreachable = Unreachable

-- of two operations at one place: unknown where one is, else safe where one is
abbrev pub joined_to_safe : Mark → Mark
joined_to_safe Safe = Safe
joined_to_safe Unknown = Unknown
joined_to_safe Unreachable = Safe

abbrev pub joined : Mark → Mark → Mark
joined Safe m = joined_to_safe m
joined Unknown m = Unknown
joined Unreachable m = m

abbrev pub joined_with : Option Mark → Mark → Mark
joined_with None m = m
joined_with (Some seen) m = joined seen m

abbrev pub is_at : ℕ → ℕ → OperationOf → Bool
is_at line column o = line == o.at.line && column == o.at.column

-- the mark of a place, where operations stand there
abbrev pub mark_at : List OperationOf → (line column : ℕ) → Option Mark
mark_at os line column =
    fold (λ seen o. if is_at line column o then Some (joined_with seen (mark_of (verdict_of o))) else seen) None os

-- ---- a line: a mark goes as far as the word or the operator does that begins with the marked byte

abbrev pub goes_on : (first : ℕ) → ℕ → Bool
goes_on first b = if is_part first then is_part b else (b == first || b == 61)

abbrev pub open_tag : Mark → TagOf
open_tag Safe = tag.SafeOpen
open_tag Unknown = tag.UnknownOpen
open_tag Unreachable = tag.UnreachableOpen

abbrev pub end_tag : Mark → TagOf
end_tag Safe = tag.SafeEnd
end_tag Unknown = tag.UnknownEnd
end_tag Unreachable = tag.UnreachableEnd

abbrev pub close : Option Opened → List Part
close None = []
close (Some o) = Tag (end_tag o.mark) ∷ []

-- whether a byte goes on what a mark was opened for
abbrev pub is_within : Option Opened → ℕ → Bool
is_within None b = false
is_within (Some o) b = goes_on o.first b

abbrev pub opening : Option Mark → List Part
opening None = []
opening (Some m) = Tag (open_tag m) ∷ []

abbrev pub opened_by : Option Mark → ℕ → Option Opened
opened_by None b = None
opened_by (Some m) b = Some (record { mark = m; first = b })

-- a byte, where this mark is open and its place has that one
abbrev pub byte_parts : Option Opened → Option Mark → ℕ → List Part
byte_parts under m b =
    if is_within under b then Text (b ∷ []) ∷ [] else (close under ++ (opening m ++ (Text (b ∷ []) ∷ [])))

abbrev pub open_after : Option Opened → Option Mark → ℕ → Option Opened
open_after under m b = if is_within under b then under else opened_by m b

-- the bytes of a line from a column on
abbrev pub bytes_parts : (marks : ℕ → Option Mark) → (column : ℕ) → Option Opened → List ℕ → List Part
bytes_parts marks column under [] = close under
bytes_parts marks column under (b ∷ text) =
    byte_parts under (marks column) b ++ bytes_parts marks (column + 1) (open_after under (marks column) b) text

-- ---- lines

abbrev pub line_in : List (List ℕ) → ℕ → List ℕ
line_in lines k = slice_index_or lines k []

-- line k, counted from 0, comes from this line of this file
abbrev pub number_at : TextOf → ℕ → ℕ
number_at t k = (slice_index_or t.origins k first_origin).line

abbrev pub file_at : TextOf → ℕ → List ℕ
file_at t k = file_of t (slice_index_or t.origins k first_origin)

abbrev pub is_marker_of : Option ℕ → ℕ → Bool
is_marker_of None k = false
is_marker_of (Some j) k = j == k

-- line k is a line marker: the line behind it comes from where it says
abbrev pub is_marker : TextOf → ℕ → Bool
is_marker t k = is_marker_of (slice_index_or t.origins (k + 1) first_origin).marker k

-- line k comes from another file than the line before it
abbrev pub is_elsewhere : TextOf → ℕ → Bool
is_elsewhere t zero = true
is_elsewhere t (suc k) = not (same (file_at t (suc k)) (file_at t k))

unfoldable pub origin_parts : TextOf → ℕ → List Part
origin_parts t k =
    if is_elsewhere t k then Tag tag.OriginOpen ∷ Text (file_at t k) ∷ Tag tag.OriginEnd ∷ [] else []

abbrev pub number_parts : ℕ → TextOf → ℕ → List Part
number_parts i t k =
    Tag tag.LineOpen ∷ Count i ∷ Tag tag.LinkLine ∷ Count (k + 1) ∷ Tag tag.LineNumber ∷ Count (number_at t k) ∷
    Tag tag.LineText ∷ []

unfoldable pub shown_line : ℕ → TextOf → List OperationOf → ℕ → List Part
shown_line i t os k =
    number_parts i t k ++ (bytes_parts (mark_at os (k + 1)) 1 None (line_in t.lines k) ++ (Tag tag.LineEnd ∷ []))

unfoldable pub line_parts : ℕ → TextOf → List OperationOf → ℕ → List Part
line_parts i t os k = if is_marker t k then [] else (origin_parts t k ++ shown_line i t os k)

-- so many lines, from the first one on
abbrev pub lines_parts : ℕ → TextOf → List OperationOf → ℕ → List Part
lines_parts i t os zero = []
lines_parts i t os (suc k) = lines_parts i t os k ++ line_parts i t os k

unfoldable pub source_parts : ℕ → TextOf → List OperationOf → List Part
source_parts i t os = (Tag tag.SourceOpen ∷ []) ++ lines_parts i t os (length t.lines)
