-- Each row of a report is read back from its line, and has no newline in it.
use Rattle.std.proofs.Common.{◌≡◌, ℕ, ◌<◌, ◌^◌, List, ◌∷◌, ◌++◌, take, refl, sym, ap, ◌∙◌, Bool, true, false, arith, Option, Some, None, lit≤}
use Rattle.std.specs.Prelude.{ℤ, codes, is_some}
use Rattle.std.specs.Fmt.{decimal, signed_decimal}
use Rattle.std.specs.Cmp.Lexicographic.{same_text}
use Rattle.std.proofs.Math.Seq.{take-append_seam, drop-append_seam}
use Rattle.pk_ctypes.specs.declared.places.Pos.{Pos}
use Rattle.pk_ctypes.specs.Places.{pos_text}
use Rattle.pk_ctypes.specs.Words.{fault_text}
use Rattle.pk_ctypes.specs.declared.faults.Fault.{Fault}
use Rattle.pk_ctypes.specs.declared.faults.Fault.TheVariants as fault
use Rattle.pk_lex.specs.Bytes.{same}
use Rattle.pk_show.specs.declared.report.Row.{Row}
use Rattle.pk_show.specs.declared.report.Row.TheVariants as row
use Rattle.pk_show.specs.declared.rows.Form.{Form}
use Rattle.pk_show.specs.declared.rows.Form.TheVariants.{Difference, Sum, NegatedSum}
use Rattle.pk_show.specs.declared.rows.Counts.{Counts}
use Rattle.pk_show.specs.declared.rows.Known.{Known}
use Rattle.pk_show.specs.declared.rows.Verdict.{Verdict}
use Rattle.pk_show.specs.declared.rows.Verdict.TheVariants.{Safe, Unknown, Unreachable}
use Rattle.pk_show.specs.Pieces.{strip, field_of, cut, lacks, is_identifier}
use Rattle.pk_show.specs.Paths.{path_in}
use Rattle.pk_show.specs.Rows.{OpeningOf, HeadingOf, ValueOf, BoundOf, AccessOf, opening_text, heading_text, no_run_text, value_text, bound_text, access_text, counts_text, verdict_text, head_word, mark_of, front_of, sign_of, known_text}
use Rattle.pk_show.specs.Reading.{opening_in, heading_in, value_in, bound_in, access_in, counts_in}
use Rattle.pk_show.specs.Reports.{point_row_in, row_in, has_path}
use Rattle.pk_show.specs.Laws.{IsNumber, IsOpening, IsHeading, IsValue, IsBound, IsAccess, AreCounts, IsKnown, IsVerdict, IsPlace, TellsPath, row_text, IsRow}
use Rattle.pk_show.proofs.PieceLemmas.{strip_read, field_length, decimal_lacks, signed_lacks}
use Rattle.pk_show.proofs.AccessLemmas.{access_read}
use Rattle.pk_show.proofs.LineLemmas.{name_lacks, mark_lacks, front_lacks, opening_read, heading_read, value_read, bound_read, counts_read}
use Rattle.pk_show.proofs.PathLemmas.{both_lack, place_lacks, path_read, path_lacks}

-- ---- which kind a line is

no_opening : (is_head : Bool) (rest : List ℕ) → opening_in (head_word is_head ++ rest) ≡ None
unfolding opening_in strip
no_opening true rest = refl
no_opening false rest = refl

no_head : (is_head : Bool) (rest : List ℕ) → is_head ≡ false → heading_in true (head_word is_head ++ rest) ≡ None
unfolding heading_in strip
no_head true rest e = absurd (cc e)
no_head false rest e = refl

heading_row : (is_head : Bool) (line : List ℕ) (h : HeadingOf) → opening_in line ≡ None → (is_head ≡ false → heading_in true line ≡ None) →
    heading_in is_head line ≡ Some h → row_in line ≡ Some (row.Heading h)
unfolding row_in point_row_in
heading_row true line h none other read = rw (none, read) refl
heading_row false line h none other read = rw (none, other refl, read) refl

-- the lines of variables begin with two blanks
blank_opening : (rest : List ℕ) → opening_in (codes "  " ++ rest) ≡ None
unfolding opening_in strip
blank_opening rest = refl

blank_heading : (is_head : Bool) (rest : List ℕ) → heading_in is_head (codes "  " ++ rest) ≡ None
unfolding heading_in strip
blank_heading true rest = refl
blank_heading false rest = refl

no_run_row : row_in no_run_text ≡ Some row.NoRun
unfolding row_in point_row_in opening_in heading_in strip
no_run_row = refl

no_run_value : value_in no_run_text ≡ None
unfolding value_in strip cut
no_run_value = refl

no_run_bound : bound_in no_run_text ≡ None
unfolding bound_in strip cut
no_run_bound = refl

-- a line that is read otherwise isn't `  unreachable`
isnt_no_run : {A : Type 0} (read : List ℕ → Option A) (line : List ℕ) (a : A) (t : Bool) → t ≡ same line no_run_text →
    read no_run_text ≡ None → read line ≡ Some a → t ≡ false
isnt_no_run read line a false e none some = refl
isnt_no_run read line a true e none some =
    let equal : line ≡ no_run_text = same_text line no_run_text e in
    let both : None ≡ Some a = sym none ∙ ap read (sym equal) ∙ some in
    absurd (cc both)

value_by_line : (line : List ℕ) (v : ValueOf) → opening_in line ≡ None → heading_in true line ≡ None → heading_in false line ≡ None →
    same line no_run_text ≡ false → value_in line ≡ Some v → row_in line ≡ Some (row.Value v)
unfolding row_in point_row_in
value_by_line line v a b c d e = rw (a, b, c, d, e) refl

value_row : (rest : List ℕ) (v : ValueOf) → value_in (codes "  " ++ rest) ≡ Some v → row_in (codes "  " ++ rest) ≡ Some (row.Value v)
value_row rest v read =
    value_by_line (codes "  " ++ rest) v (blank_opening rest) (blank_heading true rest) (blank_heading false rest)
    (isnt_no_run value_in (codes "  " ++ rest) v _ refl no_run_value read) read

bound_by_line : (line : List ℕ) (b : BoundOf) → opening_in line ≡ None → heading_in true line ≡ None → heading_in false line ≡ None →
    same line no_run_text ≡ false → value_in line ≡ None → bound_in line ≡ Some b → row_in line ≡ Some (row.Bound b)
unfolding row_in point_row_in
bound_by_line line b1 a b c d e f = rw (a, b, c, d, e, f) refl

bound_row : (rest : List ℕ) (b : BoundOf) → value_in (codes "  " ++ rest) ≡ None → bound_in (codes "  " ++ rest) ≡ Some b →
    row_in (codes "  " ++ rest) ≡ Some (row.Bound b)
bound_row rest b none read =
    bound_by_line (codes "  " ++ rest) b (blank_opening rest) (blank_heading true rest) (blank_heading false rest)
    (isnt_no_run bound_in (codes "  " ++ rest) b _ refl no_run_bound read) none read

access_opening : (rest : List ℕ) → opening_in (codes "access " ++ rest) ≡ None
unfolding opening_in strip
access_opening rest = refl

access_point : (rest : List ℕ) → point_row_in (codes "access " ++ rest) ≡ None
unfolding point_row_in heading_in value_in bound_in strip
access_point rest = refl

access_by_line : (line : List ℕ) (a : AccessOf) → opening_in line ≡ None → point_row_in line ≡ None → access_in line ≡ Some a →
    row_in line ≡ Some (row.Access a)
unfolding row_in
access_by_line line a none other read = rw (none, other, read) refl

access_row : (rest : List ℕ) (a : AccessOf) → access_in (codes "access " ++ rest) ≡ Some a → row_in (codes "access " ++ rest) ≡ Some (row.Access a)
access_row rest a read = access_by_line (codes "access " ++ rest) a (access_opening rest) (access_point rest) read

counts_opening : (rest : List ℕ) → opening_in (codes "result safe " ++ rest) ≡ None
unfolding opening_in strip
counts_opening rest = refl

counts_point : (rest : List ℕ) → point_row_in (codes "result safe " ++ rest) ≡ None
unfolding point_row_in heading_in value_in bound_in strip
counts_point rest = refl

counts_access : (rest : List ℕ) → access_in (codes "result safe " ++ rest) ≡ None
unfolding access_in strip
counts_access rest = refl

counts_by_line : (line : List ℕ) (c : Counts) → opening_in line ≡ None → point_row_in line ≡ None → access_in line ≡ None →
    counts_in line ≡ Some c → row_in line ≡ Some (row.Counts c)
unfolding row_in
counts_by_line line c none other access read = rw (none, other, access, read) refl

counts_row : (rest : List ℕ) (c : Counts) → counts_in (codes "result safe " ++ rest) ≡ Some c → row_in (codes "result safe " ++ rest) ≡ Some (row.Counts c)
counts_row rest c read = counts_by_line (codes "result safe " ++ rest) c (counts_opening rest) (counts_point rest) (counts_access rest) read

opening_row : (line : List ℕ) (o : OpeningOf) → opening_in line ≡ Some o → row_in line ≡ Some (row.Opening o)
unfolding row_in
opening_row line o read = rw read refl

-- ---- two variables are no value: a sign stands where a bracket would

sign_no_bracket : (form : Form) (rest : List ℕ) → strip (codes " [") (codes " " ++ (sign_of form ++ rest)) ≡ None
unfolding strip
sign_no_bracket Difference rest = refl
sign_no_bracket Sum rest = refl
sign_no_bracket NegatedSum rest = refl

uncut : (c : ℕ) (l field rest : List ℕ) → lacks c field ≡ true → strip (c ∷ l) (c ∷ rest) ≡ None → cut (c ∷ l) (field ++ (c ∷ rest)) ≡ None
unfolding cut
uncut c l field rest h none =
    let whole : field_of (c ∷ l) (field ++ (c ∷ rest)) ≡ field =
    ap (λ (n : ℕ). take n (field ++ (c ∷ rest))) (field_length c l field rest h) ∙ take-append_seam field (c ∷ rest) in
    rw (whole, drop-append_seam field (c ∷ rest), none) refl

no_value : (b : BoundOf) → IsBound b → value_in (bound_text b) ≡ None
unfolding value_in
no_value b h =
    let behind = codes " " ++ (b.right ++ (codes " <= " ++ signed_decimal b.most)) in
    let left = front_of b.form ++ b.left in
    rw (
      strip_read (codes "  ") (left ++ (codes " " ++ (sign_of b.form ++ behind))),
      uncut 32 (codes "[") left (sign_of b.form ++ behind) (front_lacks b.form b.left h.left) (sign_no_bracket b.form behind),
    )
    refl

-- ---- each row

pub row_read : (r : Row) → IsRow r → row_in (row_text r) ≡ Some r
row_read (row.Opening o) h = opening_row (opening_text o) o (opening_read o h)
row_read (row.Heading o) h =
    let rest = decimal o.point ++ (codes " " ++ (o.path ++ (codes " " ++ pos_text o.at))) in
    heading_row o.is_head (heading_text o) o (no_opening o.is_head rest) (no_head o.is_head rest) (heading_read o h.0)
row_read row.NoRun h = no_run_row
row_read (row.Value v) h = value_row _ v (value_read v h)
row_read (row.Bound b) h = bound_row _ b (no_value b h) (bound_read b h)
row_read (row.Access a) h = access_row _ a (access_read a h.0)
row_read (row.Counts c) h = counts_row _ c (counts_read c h)

path_told : (text : List ℕ) → TellsPath text → is_some (path_in text) ≡ true
path_told text h = ap is_some (ap path_in h.2 ∙ path_read h.0 h.1)

pub row_has_path : (r : Row) → IsRow r → has_path r ≡ true
unfolding has_path
row_has_path (row.Opening o) h = refl
row_has_path (row.Heading o) h = path_told o.path h.1
row_has_path row.NoRun h = refl
row_has_path (row.Value v) h = refl
row_has_path (row.Bound b) h = refl
row_has_path (row.Access a) h = path_told a.path h.1
row_has_path (row.Counts c) h = refl

-- ---- no newline

record IsWhole (text : List ℕ) : Type 0 where
  is : lacks 10 text ≡ true

joined : {xs ys : List ℕ} → IsWhole xs → IsWhole ys → IsWhole (xs ++ ys)
joined {xs} {ys} h k = record { is = both_lack 10 xs ys h.is k.is }

word : (text : List ℕ) → lacks 10 text ≡ true → IsWhole text
word text h = record { is = h }

count : (n : ℕ) → n < 2 ^ 64 → IsWhole (decimal n)
count n h = record { is = decimal_lacks 10 n (lit≤ tt) (omega arith) }

number : (z : ℤ) → IsNumber z → IsWhole (signed_decimal z)
number z h = record { is = signed_lacks 10 z (lit≤ tt) refl h }

name : (text : List ℕ) → is_identifier text ≡ true → IsWhole text
name text h = record { is = name_lacks 10 text refl h }

path : (text : List ℕ) → TellsPath text → IsWhole text
path text h = record { is = ap (lacks 10) h.2 ∙ path_lacks 10 h.0 refl (lit≤ tt) refl refl refl h.1 }

place : (at : Pos) → IsPlace at → IsWhole (pos_text at)
place at h = record { is = place_lacks 10 at (lit≤ tt) refl h }

opening_whole : (o : OpeningOf) → IsOpening o → IsWhole (opening_text o)
opening_whole o h =
    joined (word (codes "pikos 1 entry ") refl)
    (joined (name o.entry h.entry)
    (joined (word (codes " points ") refl)
    (joined (count o.points h.points) (joined (word (codes " elements ") refl) (count o.elements h.elements)))))

head_word_whole : (is_head : Bool) → lacks 10 (head_word is_head) ≡ true
head_word_whole true = refl
head_word_whole false = refl

heading_whole : (o : HeadingOf) → IsHeading o → TellsPath o.path → IsWhole (heading_text o)
heading_whole o h p =
    joined (word (head_word o.is_head) (head_word_whole o.is_head))
    (joined (count o.point h.point)
    (joined (word (codes " ") refl) (joined (path o.path p) (joined (word (codes " ") refl) (place o.at h.at)))))

known_whole : (k : Known) → IsKnown k → IsWhole (known_text k)
known_whole k h =
    joined (number k.lo h.lo)
    (joined (word (codes ",") refl)
    (joined (number k.hi h.hi)
    (joined (word (codes "] ") refl)
    (joined (number k.modulus h.modulus) (joined (word (codes "Z+") refl) (number k.rest h.rest))))))

value_whole : (v : ValueOf) → IsValue v → IsWhole (value_text v)
value_whole v h =
    joined (word (codes "  ") refl)
    (joined (joined (name v.name h.name) (word (mark_of v.subject) (mark_lacks 10 v.subject (lit≤ tt) refl h.subject)))
    (joined (word (codes " [") refl) (known_whole v.known h.known)))

front_whole : (form : Form) → lacks 10 (front_of form) ≡ true
front_whole Difference = refl
front_whole Sum = refl
front_whole NegatedSum = refl

sign_whole : (form : Form) → lacks 10 (sign_of form) ≡ true
sign_whole Difference = refl
sign_whole Sum = refl
sign_whole NegatedSum = refl

bound_whole : (b : BoundOf) → IsBound b → IsWhole (bound_text b)
bound_whole b h =
    joined (word (codes "  ") refl)
    (joined (joined (word (front_of b.form) (front_whole b.form)) (name b.left h.left))
    (joined (word (codes " ") refl)
    (joined (word (sign_of b.form) (sign_whole b.form))
    (joined (word (codes " ") refl)
    (joined (name b.right h.right) (joined (word (codes " <= ") refl) (number b.most h.most)))))))

fault_whole : (f : Fault) → lacks 10 (fault_text f) ≡ true
fault_whole fault.Index = refl
fault_whole fault.DivZero = refl
fault_whole fault.Overflow = refl
fault_whole fault.Shift = refl
fault_whole fault.Assert = refl

verdict_whole : (v : Verdict) → IsVerdict v → IsWhole (verdict_text v)
verdict_whole Safe h = word (codes "safe") refl
verdict_whole (Unknown lo hi) h =
    joined (word (codes "unknown [") refl)
    (joined (number lo h.0) (joined (word (codes ",") refl) (joined (number hi h.1) (word (codes "]") refl))))
verdict_whole Unreachable h = word (codes "unreachable") refl

access_whole : (a : AccessOf) → IsAccess a → TellsPath a.path → IsWhole (access_text a)
access_whole a h p =
    joined (word (codes "access ") refl)
    (joined (path a.path p)
    (joined (word (codes " ") refl)
    (joined (place a.at h.at)
    (joined (word (codes " ") refl)
    (joined (word (fault_text a.fault) (fault_whole a.fault))
    (joined (word (codes " ") refl) (verdict_whole a.verdict h.verdict)))))))

counts_whole : (c : Counts) → AreCounts c → IsWhole (counts_text c)
counts_whole c h =
    joined (word (codes "result safe ") refl)
    (joined (count c.safe h.safe)
    (joined (word (codes " unknown ") refl)
    (joined (count c.unknown h.unknown) (joined (word (codes " unreachable ") refl) (count c.unreachable h.unreachable)))))

-- a row's text is one line
pub row_whole : (r : Row) → IsRow r → lacks 10 (row_text r) ≡ true
row_whole (row.Opening o) h = (opening_whole o h).is
row_whole (row.Heading o) h = (heading_whole o h.0 h.1).is
row_whole row.NoRun h = refl
row_whole (row.Value v) h = (value_whole v h).is
row_whole (row.Bound b) h = (bound_whole b h).is
row_whole (row.Access a) h = (access_whole a h.0 h.1).is
row_whole (row.Counts c) h = (counts_whole c h).is
