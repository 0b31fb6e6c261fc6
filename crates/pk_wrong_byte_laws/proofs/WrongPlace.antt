-- The bytes before the first wrong one begin a report, and those with it begin none.
use Rattle.std.proofs.Common.{◌≡◌, ◌⊎◌, inl, inr, ℕ, suc, ◌+◌, ◌≤◌, ◌<◌, ◌==◌, List, [], ◌∷◌, ◌++◌, length, map, take, drop, refl, sym, ap, subst, ◌∙◌, Bool, true, false, not, cond, arith, Option, Some, None, append_assoc, append-nil, length-append, take-append-drop, length-take-le}
use Rattle.std.specs.Prelude.{codes, All}
use Rattle.std.specs.List.{flat_map, onto_first, join_with_byte}
use Rattle.std.proofs.Math.Seq.{take-append-add}
use Rattle.std.proofs.lemmas.Bool.{cases_lt, and_parts, and_from, eqb-true, eq-eqb}
use Rattle.std.proofs.lemmas.List.Elements.{All-nil, All-cons}
use Rattle.std.proofs.lemmas.List.Folds.{list_all-append}
use Rattle.std.proofs.lemmas.List.{take-append-le}
use Rattle.std.proofs.lemmas.List.Splits.{join_with_byte-slice_split}
use Rattle.pk_lex.specs.Bytes.{same}
use Rattle.pk_origin.specs.Texts.{lines_of}
use Rattle.pk_show.specs.declared.report.Row.{Row}
use Rattle.pk_show.specs.declared.report.Row.TheVariants as row
use Rattle.pk_show.specs.declared.report.Kind.{Kind}
use Rattle.pk_show.specs.declared.report.Kind.TheVariants as kind
use Rattle.pk_show.specs.declared.rows.Counts.{Counts}
use Rattle.pk_show.specs.Pieces.{lacks, is_identifier}
use Rattle.pk_show.specs.Rows.{OpeningOf}
use Rattle.pk_show.specs.Reports.{kind_of, next_in, rows_in, ended_lines, behind_lines, report_in, one_more, lines_read, first_wrong}
use Rattle.pk_show.specs.Laws.{row_text, rows_text, IsRow, IsOpening, AreCounts, FollowEachOther}
use Rattle.pk_show.proofs.ToldLemmas.{steps}
use Rattle.pk_show.proofs.RowLemmas.{row_whole}
use Rattle.pk_show.proofs.RowsToldLemmas.{mapped}
use Rattle.pk_show.proofs.ReportLemmas.{report_read, report_told, rows_told, next_told, line_first, pieces_are, some_pieces}
use Rattle.pk_wrong_byte.specs.Wrong.{least_left, right_bytes, by_row, in_first, first_wrong_byte}
use Rattle.pk_wrong_byte_laws.specs.Laws.{BeginsReport, place_of, wrong_place}
use Rattle.pk_wrong_byte_laws.proofs.Alike.{longer_of, cancelled}
use Rattle.pk_wrong_byte_laws.proofs.Least.{Leaves}
use Rattle.pk_wrong_byte_laws.proofs.RowsAre.{next_is_row}
use Rattle.pk_wrong_byte_laws.proofs.KindLeaves.{NextText, next_leaves}

-- ---- rows that end a report, whatever stands before them

pub record Ending (before : Option Kind) : Type 0 where
  pub rows : List Row
  pub each : All IsRow rows
  pub order : FollowEachOther before rows

no_counts : Counts
no_counts = record { safe = 0; unknown = 0; unreachable = 0 }

no_points : OpeningOf
no_points = record { entry = codes "main"; points = 0; elements = 0 }

counts_are : AreCounts no_counts
unfolding no_counts
counts_are = record { safe = omega arith; unknown = omega arith; unreachable = omega arith }

opening_is : IsOpening no_points
unfolding no_points is_identifier
opening_is = record { entry = refl; points = omega arith; elements = omega arith }

abbrev last_row : Row
last_row = row.Counts no_counts

one_last : All IsRow (last_row ∷ [])
one_last = All-cons IsRow last_row [] counts_are (All-nil IsRow)

ending : (before : Option Kind) → Ending before
ending None = record {
  rows = row.Opening no_points ∷ last_row ∷ [];
  each = All-cons IsRow (row.Opening no_points) (last_row ∷ []) opening_is one_last;
  order = (refl, (refl, refl));
}
ending (Some kind.Opening) = record { rows = last_row ∷ []; each = one_last; order = (refl, refl) }
ending (Some kind.Heading) = record { rows = last_row ∷ []; each = one_last; order = (refl, refl) }
ending (Some kind.NoRun) = record { rows = last_row ∷ []; each = one_last; order = (refl, refl) }
ending (Some kind.Value) = record { rows = last_row ∷ []; each = one_last; order = (refl, refl) }
ending (Some kind.Bound) = record { rows = last_row ∷ []; each = one_last; order = (refl, refl) }
ending (Some kind.Access) = record { rows = last_row ∷ []; each = one_last; order = (refl, refl) }
ending (Some kind.Counts) = record { rows = []; each = All-nil IsRow; order = refl }

-- ---- the text of lines

abbrev ended : List ℕ → List ℕ
ended line = line ++ codes "\n"

abbrev text_of : List (List ℕ) → (last : List ℕ) → List ℕ
text_of lines last = flat_map ended lines ++ last

abbrev place : List (List ℕ) → (last : List ℕ) → Option Kind → ℕ
place lines last before = place_of lines (lines_read lines before) (in_first lines last before)

-- ---- some report begins with what stands before the place

pub record Begun (before : Option Kind) (front : List ℕ) : Type 0 where
  pub rows : List Row
  pub more : List ℕ
  pub each : All IsRow rows
  pub order : FollowEachOther before rows
  pub text : rows_text rows ≡ front ++ more

pub record Upto (before : Option Kind) (text : List ℕ) (n : ℕ) : Type 0 where
  pub within : n ≤ length text
  pub begun : Begun before (take n text)

-- one line, and what stands behind it
line_begun : (before : Option Kind) (line : List ℕ) → Begun before (take (right_bytes before line) line)
line_begun before line = by_size (cases_lt (least_left before line) (length line))
  where
    l : Leaves (NextText before) line (least_left before line)
    l = next_leaves before line

    with_row : (more : List ℕ) (r : Row) → next_in before (take (right_bytes before line) line ++ more) ≡ Some r → Begun before (take (right_bytes before line) line)
    with_row more r e =
        let front = take (right_bytes before line) line in
        let both = next_is_row before (front ++ more) r e in
        let end = ending (Some (kind_of r)) in
        record {
          rows = r ∷ end.rows;
          more = more ++ (codes "\n" ++ rows_text end.rows);
          each = All-cons IsRow r end.rows both.1 end.each;
          order = (both.0, end.order);
          text = ap (λ (t : List ℕ). (t ++ codes "\n") ++ rows_text end.rows) (sym (next_told before (front ++ more) r e))
              ∙ append_assoc (front ++ more) (codes "\n") (rows_text end.rows)
              ∙ append_assoc front more (codes "\n" ++ rows_text end.rows);
        }

    by_size : (least_left before line < length line) ⊎ (length line ≤ least_left before line) → Begun before (take (right_bytes before line) line)
    by_size (inl some) = let b = l.begins some in with_row b.more b.whole.0 b.whole.1
    by_size (inr none) =
        let nothing : 0 ≡ right_bytes before line = omega (arith, none) in
        let end = ending before in
        subst (λ (n : ℕ). Begun before (take n line)) nothing
        (record { rows = end.rows; more = rows_text end.rows; each = end.each; order = end.order; text = refl })

in_line : (before : Option Kind) (line rest : List ℕ) → Upto before (line ++ rest) (right_bytes before line)
in_line before line rest = record {
  within = omega (arith, length-append line rest);
  begun = subst (Begun before) (sym (take-append-le (right_bytes before line) line rest (omega arith))) (line_begun before line);
}

pub upto : (lines : List (List ℕ)) (last : List ℕ) (before : Option Kind) → Upto before (text_of lines last) (place lines last before)
upto [] last before =
    let here : right_bytes before last ≡ 0 + right_bytes before last = omega arith in
    subst (Upto before last) here (subst (λ (t : List ℕ). Upto before t (right_bytes before last)) (append-nil last) (in_line before last []))
upto (line ∷ lines) last before = by_next (next_in before line) refl (λ r. upto lines last (Some (kind_of r)))
  where
    behind : List ℕ
    behind = text_of lines last

    regroup : (ended line ++ flat_map ended lines) ++ last ≡ ended line ++ text_of lines last
    regroup = append_assoc (ended line) (flat_map ended lines) last

    at_none : Upto before ((ended line ++ flat_map ended lines) ++ last) (right_bytes before line)
    at_none =
        subst (λ (t : List ℕ). Upto before t (right_bytes before line)) (sym (append_assoc line (codes "\n") (text_of lines last)) ∙ sym regroup)
        (in_line before line (codes "\n" ++ text_of lines last))

    at_some : (r : Row) → next_in before line ≡ Some r → (n : ℕ) → Upto (Some (kind_of r)) (text_of lines last) n →
        Upto before ((ended line ++ flat_map ended lines) ++ last) (length (ended line) + n)
    at_some r e n u =
        let both = next_is_row before line r e in
        let b = u.begun in
        subst (λ (t : List ℕ). Upto before t (length (ended line) + n)) (sym regroup) (record {
          within = omega (arith, u.within, length-append (ended line) (text_of lines last));
          begun = subst (Begun before) (sym (take-append-add (ended line) (text_of lines last) n)) (record {
            rows = r ∷ b.rows;
            more = b.more;
            each = All-cons IsRow r b.rows both.1 b.each;
            order = (both.0, b.order);
            text = ap (λ (t : List ℕ). ended t ++ rows_text b.rows) (sym (next_told before line r e))
                ∙ ap (λ (t : List ℕ). ended line ++ t) b.text
                ∙ sym (append_assoc (ended line) (take n (text_of lines last)) b.more);
          });
        })

    by_next : (o : Option Row) → next_in before line ≡ o →
        ((r : Row) → Upto (Some (kind_of r)) (text_of lines last) (place lines last (Some (kind_of r)))) →
        Upto before ((ended line ++ flat_map ended lines) ++ last)
        (place_of (line ∷ lines) (one_more o (λ r. lines_read lines (Some (kind_of r)))) (by_row o (right_bytes before line) (λ r. in_first lines last (Some (kind_of r)))))
    by_next None e rest =
        let here : right_bytes before line ≡ 0 + right_bytes before line = omega arith in
        subst (Upto before ((ended line ++ flat_map ended lines) ++ last)) here at_none
    by_next (Some r) e rest =
        let k = lines_read lines (Some (kind_of r)) in
        let n = in_first lines last (Some (kind_of r)) in
        let size : length (ended line) + place_of lines k n ≡ place_of (line ∷ lines) (suc k) n =
        omega (arith, length-append (ended line) (flat_map ended (take k lines))) in
        subst (Upto before ((ended line ++ flat_map ended lines) ++ last)) size (at_some r e (place_of lines k n) (rest r))

-- ---- no report begins with one byte more

-- no line has a newline
abbrev AreWhole : List (List ℕ) → Type 0
AreWhole [] = Unit {0}
AreWhole (line ∷ lines) = (lacks 10 line ≡ true) × AreWhole lines

-- two lines with a newline behind them are the same, where texts are that begin with them
same_first : (a b x y : List ℕ) → lacks 10 a ≡ true → lacks 10 b ≡ true → ended a ++ x ≡ ended b ++ y → a ≡ b
same_first a b x y h k e =
    let both : a ∷ lines_of x ≡ b ∷ lines_of y = sym (line_first a x h) ∙ ap lines_of e ∙ line_first b y k in
    cc both

front_lacks : (xs ys : List ℕ) → lacks 10 (xs ++ ys) ≡ true → lacks 10 xs ≡ true
front_lacks xs ys h = (and_parts (lacks 10 xs) (lacks 10 ys) (sym (list_all-append (λ b. not (10 == b)) xs ys) ∙ h)).0

-- a text without a newline that begins lines begins the first of them
within_first : (line rest front more : List ℕ) → lacks 10 front ≡ true → ended line ++ rest ≡ front ++ more →
    (length line < length front) ⊎ (length front ≤ length line) → (behind : List ℕ) × (line ≡ front ++ behind)
within_first line rest front more h e (inr n) =
    let l = longer_of front more line (codes "\n" ++ rest) (sym e ∙ append_assoc line (codes "\n") rest) n in
    (l.more, l.longer)
within_first line rest front more h e (inl n) =
    let l = longer_of line (codes "\n" ++ rest) front more (sym (append_assoc line (codes "\n") rest) ∙ e) (omega (arith, n)) in
    by_more l.more l.longer l.rest
  where
    newline_in : (xs ys : List ℕ) → lacks 10 (xs ++ 10 ∷ ys) ≡ true → ⊥
    newline_in [] ys k = absurd (cc k)
    newline_in (b ∷ xs) ys k = newline_in xs ys (and_parts (not (10 == b)) (lacks 10 (xs ++ 10 ∷ ys)) k).1

    by_more : (s : List ℕ) → front ≡ line ++ s → codes "\n" ++ rest ≡ s ++ more → (behind : List ℕ) × (line ≡ front ++ behind)
    by_more [] is back = absurd (omega (arith, n, ap length is, length-append line []))
    by_more (b ∷ s) is back =
        let newline : b ≡ 10 = cc back in
        let there : front ≡ line ++ 10 ∷ s = is ∙ ap (λ (c : ℕ). line ++ c ∷ s) newline in
        absurd (newline_in line s (sym (ap (lacks 10) there) ∙ h))

-- the rows of a report, from a line on
abbrev AreRead : Option Kind → List Row → Type 0
AreRead before rows = rows_in (map row_text rows) before ≡ Some rows

-- the first row of some
pub record First (before : Option Kind) (r : Row) (rows : List Row) : Type 0 where
  pub row : next_in before (row_text r) ≡ Some r
  pub rest : AreRead (Some (kind_of r)) rows

first_of_rows : (before : Option Kind) (r : Row) (rows : List Row) → AreRead before (r ∷ rows) → First before r rows
first_of_rows before r rows e =
    let s = steps (next_in before (row_text r)) _ (r ∷ rows) e in
    let m = mapped (λ rows. s.first ∷ rows) (rows_in (map row_text rows) (Some (kind_of s.first))) (r ∷ rows) s.then_gave in
    let one : s.first ≡ r = cc m.made in
    let more : m.value ≡ rows = cc m.made in
    record {
      row = s.gave ∙ ap (λ (t : Row). Some t) one;
      rest = ap (λ (t : Row). rows_in (map row_text rows) (Some (kind_of t))) (sym one) ∙ m.is ∙ ap (λ (t : List Row). Some t) more;
    }

-- a line of which more is told than may stand there
too_long : (before : Option Kind) (line front y : List ℕ) (r : Row) (rest more : List ℕ) → lacks 10 line ≡ true → next_in before (row_text r) ≡ Some r →
    ended (row_text r) ++ rest ≡ front ++ more → line ≡ front ++ y → length front ≡ right_bytes before line + 1 → ⊥
too_long before line front y r rest more whole row e is size =
    let l = next_leaves before line in
    let w = within_first (row_text r) rest front more (front_lacks front y (sym (ap (lacks 10) is) ∙ whole)) e (cases_lt (length (row_text r)) (length front)) in
    let far = l.furthest (row_text r) w.0 y front (r, row) w.1 is in
    omega (arith, far, size, l.within)

abbrev IsNone : List (List ℕ) → (last : List ℕ) → Option Kind → Type 0
IsNone lines last before =
    (rows : List Row) (front more back : List ℕ) → AreRead before rows → rows_text rows ≡ front ++ more → text_of lines last ≡ front ++ back →
    length front ≡ place lines last before + 1 → ⊥

no_rows : (front more : List ℕ) (n : ℕ) → rows_text [] ≡ front ++ more → length front ≡ n + 1 → ⊥
no_rows front more n e size = omega (arith, size, ap length e, length-append front more)

at_last : (last : List ℕ) (before : Option Kind) → lacks 10 last ≡ true → IsNone [] last before
at_last last before whole [] front more back read e is size = no_rows front more (place [] last before) e size
at_last last before whole (r ∷ rows) front more back read e is size =
    too_long before last front back r (rows_text rows) more whole (first_of_rows before r rows read).row e is (omega (arith, size))

-- the line is none that may stand there
at_none : (line : List ℕ) (lines : List (List ℕ)) (last : List ℕ) (before : Option Kind) → lacks 10 line ≡ true → next_in before line ≡ None →
    (rows : List Row) (front more back : List ℕ) → AreRead before rows → rows_text rows ≡ front ++ more → ended line ++ text_of lines last ≡ front ++ back →
    length front ≡ right_bytes before line + 1 → ⊥
at_none line lines last before whole none [] front more back read e is size = no_rows front more (right_bytes before line) e size
at_none line lines last before whole none (r ∷ rows) front more back read e is size = by_size (cases_lt (length line) (length front))
  where
    first : First before r rows
    first = first_of_rows before r rows read

    row_lacks : lacks 10 (row_text r) ≡ true
    row_lacks = row_whole r (next_is_row before (row_text r) r first.row).1

    by_size : (length line < length front) ⊎ (length front ≤ length line) → ⊥
    by_size (inr n) =
        let l = longer_of front back line (codes "\n" ++ text_of lines last) (sym is ∙ append_assoc line (codes "\n") (text_of lines last)) n in
        too_long before line front l.more r (rows_text rows) more whole first.row e l.longer size
    by_size (inl n) =
        let l = longer_of (ended line) (text_of lines last) front back is (omega (arith, n, length-append line (codes "\n"))) in
        let told : ended (row_text r) ++ rows_text rows ≡ ended line ++ (l.more ++ more) =
        e ∙ ap (λ (t : List ℕ). t ++ more) l.longer ∙ append_assoc (ended line) l.more more in
        let equal : row_text r ≡ line = same_first (row_text r) line (rows_text rows) (l.more ++ more) row_lacks whole told in
        let both : Some r ≡ None = sym first.row ∙ ap (next_in before) equal ∙ none in
        absurd (cc both)

at_some : (line : List ℕ) (lines : List (List ℕ)) (last : List ℕ) (before : Option Kind) (s : Row) (n : ℕ) → lacks 10 line ≡ true → next_in before line ≡ Some s →
    ((rows : List Row) (front more back : List ℕ) → AreRead (Some (kind_of s)) rows → rows_text rows ≡ front ++ more → text_of lines last ≡ front ++ back →
    length front ≡ n + 1 → ⊥) →
    (rows : List Row) (front more back : List ℕ) → AreRead before rows → rows_text rows ≡ front ++ more → ended line ++ text_of lines last ≡ front ++ back →
    length front ≡ length (ended line) + n + 1 → ⊥
at_some line lines last before s n whole next behind [] front more back read e is size = no_rows front more (length (ended line) + n) e size
at_some line lines last before s n whole next behind (r ∷ rows) front more back read e is size =
    let first = first_of_rows before r rows read in
    let row_lacks = row_whole r (next_is_row before (row_text r) r first.row).1 in
    let l = longer_of (ended line) (text_of lines last) front back is (omega (arith, size)) in
    let told : ended (row_text r) ++ rows_text rows ≡ ended line ++ (l.more ++ more) =
    e ∙ ap (λ (t : List ℕ). t ++ more) l.longer ∙ append_assoc (ended line) l.more more in
    let equal : row_text r ≡ line = same_first (row_text r) line (rows_text rows) (l.more ++ more) row_lacks whole told in
    let both : Some r ≡ Some s = sym first.row ∙ ap (next_in before) equal ∙ next in
    let one : r ≡ s = cc both in
    let rest : rows_text rows ≡ l.more ++ more = cancelled (ended line) (rows_text rows) (l.more ++ more) (ap (λ (t : List ℕ). ended t ++ rows_text rows) (sym equal) ∙ told) in
    behind rows l.more more back (subst (λ (t : Row). AreRead (Some (kind_of t)) rows) one first.rest) rest l.rest
    (omega (arith, size, ap length l.longer, length-append (ended line) l.more))

pub none_there : (lines : List (List ℕ)) (last : List ℕ) (before : Option Kind) → AreWhole lines → lacks 10 last ≡ true → IsNone lines last before
none_there [] last before whole last_whole = at_last last before last_whole
none_there (line ∷ lines) last before whole last_whole = by_next (next_in before line) refl (λ r. none_there lines last (Some (kind_of r)) whole.1 last_whole)
  where
    regroup : (ended line ++ flat_map ended lines) ++ last ≡ ended line ++ text_of lines last
    regroup = append_assoc (ended line) (flat_map ended lines) last

    by_next : (o : Option Row) → next_in before line ≡ o → ((r : Row) → IsNone lines last (Some (kind_of r))) →
        (rows : List Row) (front more back : List ℕ) → AreRead before rows → rows_text rows ≡ front ++ more → text_of (line ∷ lines) last ≡ front ++ back →
        length front ≡ place_of (line ∷ lines) (one_more o (λ r. lines_read lines (Some (kind_of r)))) (by_row o (right_bytes before line) (λ r. in_first lines last (Some (kind_of r)))) + 1 → ⊥
    by_next None e rest rows front more back read f is size =
        at_none line lines last before whole.0 e rows front more back read f (sym regroup ∙ is) (omega (arith, size))
    by_next (Some r) e rest rows front more back read f is size =
        at_some line lines last before r (place lines last (Some (kind_of r))) whole.0 e (rest r) rows front more back read f (sym regroup ∙ is)
        (omega (arith, size, length-append (ended line) (flat_map ended (take (lines_read lines (Some (kind_of r))) lines))))

-- ---- a text and its lines

joined_lines : (lines : List (List ℕ)) (last : List ℕ) → join_with_byte 10 (lines ++ (last ∷ [])) ≡ text_of lines last
joined_lines [] last = refl
joined_lines (line ∷ []) last = sym (append_assoc (ended line) [] last ∙ append_assoc line (codes "\n") last)
joined_lines (line ∷ next ∷ lines) last =
    ap (λ (t : List ℕ). line ++ (10 ∷ t)) (joined_lines (next ∷ lines) last)
    ∙ sym (append_assoc (ended line) (flat_map ended (next ∷ lines)) last ∙ append_assoc line (codes "\n") (text_of (next ∷ lines) last))

text_is : (text : List ℕ) → text ≡ text_of (ended_lines text) (behind_lines text)
text_is text =
    sym (join_with_byte-slice_split 10 text)
    ∙ ap (join_with_byte 10) (pieces_are (lines_of text) (some_pieces text))
    ∙ joined_lines (ended_lines text) (behind_lines text)

turned : (b : ℕ) → (b == 10) ≡ false → not (10 == b) ≡ true
turned b e = by_test (10 == b) refl
  where
    by_test : (t : Bool) → t ≡ (10 == b) → not t ≡ true
    by_test true f =
        let equal : 10 ≡ b = eqb-true 10 b (sym f) in
        let same : (b == 10) ≡ true = eq-eqb b 10 (sym equal) in
        let both : true ≡ false = sym same ∙ e in
        absurd (cc both)
    by_test false f = refl

lines_whole : (text : List ℕ) → AreWhole (lines_of text)
lines_whole [] = (refl, tt)
lines_whole (b ∷ text) = by_test (b == 10) refl (lines_of text) (lines_whole text)
  where
    onto : not (10 == b) ≡ true → (parts : List (List ℕ)) → AreWhole parts → AreWhole (onto_first b parts)
    onto other [] whole = (and_from (not (10 == b)) true other refl, tt)
    onto other (part ∷ parts) whole = (and_from (not (10 == b)) (lacks 10 part) other whole.0, whole.1)

    by_test : (t : Bool) → (b == 10) ≡ t → (parts : List (List ℕ)) → AreWhole parts → AreWhole (cond t ([] ∷ parts) (onto_first b parts))
    by_test true e parts whole = (refl, whole)
    by_test false e parts whole = onto (turned b e) parts whole

both_whole : (lines : List (List ℕ)) (last : List ℕ) → AreWhole (lines ++ (last ∷ [])) → AreWhole lines × (lacks 10 last ≡ true)
both_whole [] last whole = (tt, whole.0)
both_whole (line ∷ lines) last whole =
    let rest = both_whole lines last whole.1 in
    ((whole.0, rest.0), rest.1)

text_whole : (text : List ℕ) → AreWhole (ended_lines text) × (lacks 10 (behind_lines text) ≡ true)
text_whole text =
    both_whole (ended_lines text) (behind_lines text) (subst AreWhole (pieces_are (lines_of text) (some_pieces text)) (lines_whole text))

rows_read_back : (text : List ℕ) (rows : List Row) → report_in text ≡ Some rows → AreRead None rows
unfolding report_in
rows_read_back text rows e = by_end (same (behind_lines text) []) e
  where
    by_end : (t : Bool) → cond t (rows_in (ended_lines text) None) None ≡ Some rows → AreRead None rows
    by_end false f = absurd (cc f)
    by_end true f = ap (λ (lines : List (List ℕ)). rows_in lines None) (sym (rows_told (ended_lines text) None rows f)) ∙ f

-- ---- the law

abbrev all_of : List ℕ → List ℕ
all_of text = text_of (ended_lines text) (behind_lines text)

here : (text : List ℕ) → Upto None (all_of text) (wrong_place text)
unfolding wrong_place first_wrong first_wrong_byte
here text = upto (ended_lines text) (behind_lines text) None

pub within : (text : List ℕ) → wrong_place text ≤ length text
within text =
    let size = ap length (text_is text) in
    let u = (here text).within in
    omega (arith, size, u)

pub before : (text : List ℕ) → BeginsReport (take (wrong_place text) text)
before text =
    let b = (here text).begun in
    let front : take (wrong_place text) (all_of text) ++ b.more ≡ take (wrong_place text) text ++ b.more =
    ap (λ (t : List ℕ). take (wrong_place text) t ++ b.more) (sym (text_is text)) in (
      b.more,
      b.rows,
      ap report_in (sym (b.text ∙ front)) ∙ report_read b.rows (record { each = b.each; order = b.order }),
    )

none_more : (text : List ℕ) → IsNone (ended_lines text) (behind_lines text) None
none_more text = let whole = text_whole text in none_there (ended_lines text) (behind_lines text) None whole.0 whole.1

pub there : (text : List ℕ) → wrong_place text < length text → BeginsReport (take (wrong_place text + 1) text) → ⊥
unfolding wrong_place first_wrong first_wrong_byte
there text h begins =
    let n = wrong_place text in
    none_more text begins.1 (take (n + 1) text) begins.0 (drop (n + 1) text) (rows_read_back (take (n + 1) text ++ begins.0) begins.1 begins.2)
    (sym (report_told (take (n + 1) text ++ begins.0) begins.1 begins.2))
    (sym (text_is text) ∙ sym (take-append-drop (n + 1) text))
    (length-take-le (n + 1) text (omega (arith, h)))
