-- A report is read back from the lines of its rows.
use Rattle.std.proofs.Common.{◌≡◌, ℕ, suc, ◌+◌, ◌-◌, ◌<◌, ◌==◌, List, [], ◌∷◌, ◌++◌, length, map, take, drop, refl, sym, ap, ◌∙◌, Bool, true, false, cond, arith, Option, Some, None, append_assoc, drop-cons}
use Rattle.std.specs.Prelude.{codes, slice_index_or, All}
use Rattle.std.specs.List.{join_with_byte}
use Rattle.std.specs.Cmp.Lexicographic.{same_text}
use Rattle.std.proofs.Math.Seq.{take-append_seam, drop-length}
use Rattle.std.proofs.lemmas.List.{get_or_at, length-append, take-append-drop}
use Rattle.std.proofs.lemmas.List.Elements.{All-head, All-tail}
use Rattle.std.proofs.lemmas.List.Splits.{slice_split_at, join_with_byte-slice_split, length-slice_split}
use Rattle.pk_lex.specs.Bytes.{same}
use Rattle.pk_origin.specs.Texts.{lines_of}
use Rattle.pk_show.specs.declared.report.Row.{Row}
use Rattle.pk_show.specs.declared.report.Kind.{Kind}
use Rattle.pk_show.specs.Pieces.{lacks}
use Rattle.pk_show.specs.Reports.{kind_of, may_stand, is_end, fits, next_in, row_in, rows_in, ended_lines, behind_lines, report_in, lines_read, first_wrong}
use Rattle.pk_show.specs.Laws.{row_text, rows_text, IsRow, FollowEachOther, AreRows}
use Rattle.pk_show.proofs.PathLemmas.{none_of}
use Rattle.pk_show.proofs.RowLemmas.{row_read, row_has_path, row_whole}
use Rattle.pk_show.proofs.RowsToldLemmas.{mapped, row_told}
use Rattle.pk_show.proofs.ToldLemmas.{steps, passed}

-- ---- row by row

pub next_read : (before : Option Kind) (r : Row) → IsRow r → may_stand before (kind_of r) ≡ true → next_in before (row_text r) ≡ Some r
unfolding next_in fits
next_read before r h m = rw (row_read r h, m, row_has_path r h) refl

rows_read : (rows : List Row) (before : Option Kind) → All IsRow rows → FollowEachOther before rows →
    rows_in (map row_text rows) before ≡ Some rows
rows_read [] before all end = rw end refl
rows_read (r ∷ rows) before all order =
    rw (
      next_read before r (All-head IsRow r rows all) order.0,
      rows_read rows (Some (kind_of r)) (All-tail IsRow r rows all) order.1,
    )
    refl

-- ---- lines

-- the lines of a text that begins with a line
pub line_first : (line rest : List ℕ) → lacks 10 line ≡ true → lines_of ((line ++ codes "\n") ++ rest) ≡ line ∷ lines_of rest
line_first line rest h =
    ap lines_of (append_assoc line (codes "\n") rest) ∙ slice_split_at (λ b. b == 10) line 10 rest (none_of 10 line h) refl

pub lines_are : (rows : List Row) → All IsRow rows → lines_of (rows_text rows) ≡ map row_text rows ++ ([] ∷ [])
lines_are [] all = refl
lines_are (r ∷ rows) all =
    line_first (row_text r) (rows_text rows) (row_whole r (All-head IsRow r rows all))
    ∙ ap (λ (lines : List (List ℕ)). row_text r ∷ lines) (lines_are rows (All-tail IsRow r rows all))

abbrev pub ended_of : List (List ℕ) → List (List ℕ)
ended_of pieces = take (length pieces - 1) pieces

abbrev pub behind_of : List (List ℕ) → List ℕ
behind_of pieces = slice_index_or pieces (length pieces - 1) []

pub ended_read : (lines : List (List ℕ)) → ended_of (lines ++ ([] ∷ [])) ≡ lines
ended_read lines =
    let size : length (lines ++ ([] ∷ [])) ≡ length lines + 1 = length-append lines ([] ∷ []) in
    let less : length (lines ++ ([] ∷ [])) - 1 ≡ length lines = omega (arith, size) in
    ap (λ (n : ℕ). take n (lines ++ ([] ∷ []))) less ∙ take-append_seam lines ([] ∷ [])

pub behind_read : (lines : List (List ℕ)) → behind_of (lines ++ ([] ∷ [])) ≡ []
behind_read lines =
    let size : length (lines ++ ([] ∷ [])) ≡ length lines + 1 = length-append lines ([] ∷ []) in
    let less : length lines ≡ length (lines ++ ([] ∷ [])) - 1 = omega (arith, size) in
    get_or_at lines [] [] [] (length (lines ++ ([] ∷ [])) - 1) less

pub report_read : (rows : List Row) → AreRows rows → report_in (rows_text rows) ≡ Some rows
unfolding report_in
report_read rows h =
    let lines = map row_text rows in
    rw (lines_are rows h.each, behind_read lines, ended_read lines) (rows_read rows None h.each h.order)

-- ---- what is read as rows is their text

pub next_told : (before : Option Kind) (line : List ℕ) (r : Row) → next_in before line ≡ Some r → line ≡ row_text r
unfolding next_in
next_told before line r e =
    let s = steps (row_in line) _ r e in
    let both = passed (fits before s.first) s.first r s.then_gave in
    row_told line s.first s.gave ∙ ap row_text both.1

pub rows_told : (lines : List (List ℕ)) (before : Option Kind) (rows : List Row) → rows_in lines before ≡ Some rows → lines ≡ map row_text rows
rows_told [] before rows e = let both = passed (is_end before) [] rows e in ap (map row_text) both.1
rows_told (line ∷ lines) before rows e =
    let s = steps (next_in before line) _ rows e in
    let rest = mapped (λ rows. s.first ∷ rows) (rows_in lines (Some (kind_of s.first))) rows s.then_gave in
    ap (λ (l : List ℕ). l ∷ lines) (next_told before line s.first s.gave)
    ∙ ap (λ (ls : List (List ℕ)). row_text s.first ∷ ls) (rows_told lines (Some (kind_of s.first)) rest.value rest.is)
    ∙ ap (map row_text) rest.made

pub joined : (rows : List Row) → join_with_byte 10 (map row_text rows ++ ([] ∷ [])) ≡ rows_text rows
joined [] = refl
joined (r ∷ []) = sym (append_assoc (row_text r) (codes "\n") [])
joined (r ∷ s ∷ rows) =
    ap (λ (l : List ℕ). row_text r ++ (10 ∷ l)) (joined (s ∷ rows)) ∙ sym (append_assoc (row_text r) (codes "\n") (rows_text (s ∷ rows)))

pub pieces_are : (pieces : List (List ℕ)) → 0 < length pieces → pieces ≡ ended_of pieces ++ (behind_of pieces ∷ [])
pieces_are pieces h =
    let last : suc (length pieces - 1) ≡ length pieces = omega arith in
    sym (take-append-drop (length pieces - 1) pieces)
    ∙ ap (λ (l : List (List ℕ)). ended_of pieces ++ l) (
    drop-cons pieces (length pieces - 1) [] (omega arith)
    ∙ ap (λ (l : List (List ℕ)). behind_of pieces ∷ l) (ap (λ (n : ℕ). drop n pieces) last ∙ drop-length pieces))

pub some_pieces : (text : List ℕ) → 0 < length (lines_of text)
some_pieces text = let size = length-slice_split (λ b. b == 10) text in omega (arith, size)

pub report_told : (text : List ℕ) (rows : List Row) → report_in text ≡ Some rows → text ≡ rows_text rows
unfolding report_in
report_told text rows e = by_end (same (behind_lines text) []) refl e
  where
    by_end : (t : Bool) → t ≡ same (behind_lines text) [] → cond t (rows_in (ended_lines text) None) None ≡ Some rows → text ≡ rows_text rows
    by_end false s f = absurd (cc f)
    by_end true s f =
        let end : behind_lines text ≡ [] = same_text (behind_lines text) [] s in
        sym (join_with_byte-slice_split 10 text)
        ∙ ap (join_with_byte 10) (
        pieces_are (lines_of text) (some_pieces text)
        ∙ ap (λ (l : List ℕ). ended_lines text ++ (l ∷ [])) end
        ∙ ap (λ (ls : List (List ℕ)). ls ++ ([] ∷ [])) (rows_told (ended_lines text) None rows f))
        ∙ joined rows

-- ---- lines that are all read, and something behind them

all_read : (lines : List (List ℕ)) (before : Option Kind) (rows : List Row) → rows_in lines before ≡ Some rows → lines_read lines before ≡ length lines
all_read [] before rows e = refl
all_read (line ∷ lines) before rows e =
    let s = steps (next_in before line) _ rows e in
    let rest = mapped (λ rows. s.first ∷ rows) (rows_in lines (Some (kind_of s.first))) rows s.then_gave in
    rw s.gave (ap suc (all_read lines (Some (kind_of s.first)) rest.value rest.is))

pub refused_behind : (text : List ℕ) (pieces ended : List (List ℕ)) (behind : List ℕ) (n : ℕ) (rows : List Row) →
    pieces ≡ lines_of text → n ≡ length pieces - 1 → ended ≡ take n pieces → length ended ≡ n → rows_in ended None ≡ Some rows →
    behind ≡ behind_of pieces → same behind [] ≡ false → (report_in text ≡ None) × (n ≡ first_wrong text)
unfolding report_in first_wrong
refused_behind text pieces ended behind n rows are count front size read last some =
    let lines : ended ≡ ended_lines text = front ∙ ap (λ (m : ℕ). take m pieces) count ∙ ap ended_of are in
    let more : same (behind_lines text) [] ≡ false = ap (λ (l : List ℕ). same l []) (sym (last ∙ ap behind_of are)) ∙ some in
    (rw more refl, sym size ∙ sym (all_read ended None rows read) ∙ ap (λ (ls : List (List ℕ)). lines_read ls None) lines)
