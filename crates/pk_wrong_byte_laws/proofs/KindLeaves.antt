-- What is left of a line as the lines of each kind, and as those that may stand there.
use Rattle.std.proofs.Common.{◌≡◌, inl, inr, ℕ, List, [], length, refl, sym, ap, subst, ◌∙◌, Bool, true, false, cond, Option, Some}
use Rattle.std.specs.Prelude.{codes}
use Rattle.pk_ctypes.specs.declared.faults.Fault.{Fault}
use Rattle.pk_ctypes.specs.declared.faults.Fault.TheVariants.{Index, DivZero, Overflow, Shift, Assert}
use Rattle.pk_show.specs.declared.rows.Form.{Form}
use Rattle.pk_show.specs.declared.rows.Form.TheVariants.{Difference, Sum, NegatedSum}
use Rattle.pk_show.specs.declared.rows.Verdict.{Verdict}
use Rattle.pk_show.specs.declared.rows.Verdict.TheVariants.{Safe, Unknown, Unreachable}
use Rattle.pk_show.specs.declared.rows.Subject.{Subject}
use Rattle.pk_show.specs.declared.rows.Subject.TheVariants.{Scalar, EachElement, Element}
use Rattle.pk_show.specs.declared.report.Row.{Row}
use Rattle.pk_show.specs.declared.report.Row.TheVariants as row
use Rattle.pk_show.specs.declared.report.Kind.{Kind}
use Rattle.pk_show.specs.declared.report.Kind.TheVariants as kind
use Rattle.pk_show.specs.Rows.{no_run_text}
use Rattle.pk_show.specs.Reports.{kind_of, may_stand, next_in}
use Rattle.pk_show.specs.Laws.{row_text, IsRow}
use Rattle.pk_show.proofs.ReportLemmas.{next_read, next_told}
use Rattle.pk_wrong_byte.specs.Pieces.{reached, literal}
use Rattle.pk_wrong_byte.specs.Lines as lines
use Rattle.pk_wrong_byte.specs.Wrong.{left_if, least_left}
use Rattle.pk_wrong_byte_laws.proofs.Goes.{nothing}
use Rattle.pk_wrong_byte_laws.proofs.PieceGoes.{Is, literal_piece}
use Rattle.pk_wrong_byte_laws.proofs.LineGoes.{OpeningText, opening_piece, CountsText, counts_piece, HeadingText, heading_piece, ValueText, IsScalar, IsEachElement, IsElement, scalar_piece, each_piece, element_piece, BoundText, bound_piece, AccessText, access_piece, IsSafe, IsUnknown, IsUnreachable, safe_piece, unknown_piece, unreachable_piece}
use Rattle.pk_wrong_byte_laws.proofs.Least.{Leaves, Or, piece_leaves, either_leaves, retold_leaves, none_leaves}
use Rattle.pk_wrong_byte_laws.proofs.RowsAre.{next_is_row}

-- a row of a kind, as its text
abbrev pub RowText : Kind → List ℕ → Type 0
RowText k u = (r : Row) × (kind_of r ≡ k) × IsRow r × (u ≡ row_text r)

opening_leaves : (line : List ℕ) → Leaves (RowText kind.Opening) line (lines.kind_left kind.Opening (reached line true))
opening_leaves line =
    retold_leaves OpeningText (RowText kind.Opening) line _ (λ u h. (row.Opening h.0, refl, h.1, h.2)) (λ u h. back u h.0 h.1 h.2 h.3)
    (piece_leaves OpeningText _ lines.opening opening_piece line)
  where
    back : (u : List ℕ) (r : Row) → kind_of r ≡ kind.Opening → IsRow r → u ≡ row_text r → OpeningText u
    back u (row.Opening o) k is e = (o, is, e)
    back u (row.Heading h) k is e = absurd (cc k)
    back u row.NoRun k is e = absurd (cc k)
    back u (row.Value v) k is e = absurd (cc k)
    back u (row.Bound b) k is e = absurd (cc k)
    back u (row.Access a) k is e = absurd (cc k)
    back u (row.Counts c) k is e = absurd (cc k)

counts_leaves : (line : List ℕ) → Leaves (RowText kind.Counts) line (lines.kind_left kind.Counts (reached line true))
counts_leaves line =
    retold_leaves CountsText (RowText kind.Counts) line _ (λ u h. (row.Counts h.0, refl, h.1, h.2)) (λ u h. back u h.0 h.1 h.2 h.3)
    (piece_leaves CountsText _ lines.counts counts_piece line)
  where
    back : (u : List ℕ) (r : Row) → kind_of r ≡ kind.Counts → IsRow r → u ≡ row_text r → CountsText u
    back u (row.Opening o) k is e = absurd (cc k)
    back u (row.Heading h) k is e = absurd (cc k)
    back u row.NoRun k is e = absurd (cc k)
    back u (row.Value v) k is e = absurd (cc k)
    back u (row.Bound b) k is e = absurd (cc k)
    back u (row.Access a) k is e = absurd (cc k)
    back u (row.Counts c) k is e = (c, is, e)

no_run_leaves : (line : List ℕ) → Leaves (RowText kind.NoRun) line (lines.kind_left kind.NoRun (reached line true))
no_run_leaves line =
    retold_leaves (Is no_run_text) (RowText kind.NoRun) line _ (λ u h. (row.NoRun, refl, tt, h)) (λ u h. back u h.0 h.1 h.2 h.3)
    (piece_leaves (Is no_run_text) _ (literal no_run_text) (literal_piece no_run_text nothing) line)
  where
    back : (u : List ℕ) (r : Row) → kind_of r ≡ kind.NoRun → IsRow r → u ≡ row_text r → Is no_run_text u
    back u (row.Opening o) k is e = absurd (cc k)
    back u (row.Heading h) k is e = absurd (cc k)
    back u row.NoRun k is e = e
    back u (row.Value v) k is e = absurd (cc k)
    back u (row.Bound b) k is e = absurd (cc k)
    back u (row.Access a) k is e = absurd (cc k)
    back u (row.Counts c) k is e = absurd (cc k)

heading_leaves : (line : List ℕ) → Leaves (RowText kind.Heading) line (lines.kind_left kind.Heading (reached line true))
heading_leaves line =
    retold_leaves (Or (HeadingText true) (HeadingText false)) (RowText kind.Heading) line _ there (λ u h. back u h.0 h.1 h.2 h.3)
    (either_leaves (HeadingText true) (HeadingText false) line _ _ (piece_leaves (HeadingText true) _ (lines.heading true) (heading_piece true) line)
    (piece_leaves (HeadingText false) _ (lines.heading false) (heading_piece false) line))
  where
    there : (u : List ℕ) → Or (HeadingText true) (HeadingText false) u → RowText kind.Heading u
    there u (inl h) = (row.Heading h.0, refl, h.1, h.3)
    there u (inr h) = (row.Heading h.0, refl, h.1, h.3)

    back : (u : List ℕ) (r : Row) → kind_of r ≡ kind.Heading → IsRow r → u ≡ row_text r → Or (HeadingText true) (HeadingText false) u
    back u (row.Opening o) k is e = absurd (cc k)
    back u (row.Heading h) k is e = by_word h.is_head refl
      where
        by_word : (t : Bool) → h.is_head ≡ t → Or (HeadingText true) (HeadingText false) u
        by_word true w = inl (h, is, w, e)
        by_word false w = inr (h, is, w, e)
    back u row.NoRun k is e = absurd (cc k)
    back u (row.Value v) k is e = absurd (cc k)
    back u (row.Bound b) k is e = absurd (cc k)
    back u (row.Access a) k is e = absurd (cc k)
    back u (row.Counts c) k is e = absurd (cc k)

abbrev ValueTexts : List ℕ → Type 0
ValueTexts = Or (ValueText IsScalar) (Or (ValueText IsEachElement) (ValueText IsElement))

value_leaves : (line : List ℕ) → Leaves (RowText kind.Value) line (lines.kind_left kind.Value (reached line true))
value_leaves line =
    retold_leaves ValueTexts (RowText kind.Value) line _ there (λ u h. back u h.0 h.1 h.2 h.3)
    (either_leaves (ValueText IsScalar) (Or (ValueText IsEachElement) (ValueText IsElement)) line _ _
    (piece_leaves (ValueText IsScalar) _ (lines.value []) scalar_piece line)
    (either_leaves (ValueText IsEachElement) (ValueText IsElement) line _ _
    (piece_leaves (ValueText IsEachElement) _ (lines.value (codes "[]")) each_piece line)
    (piece_leaves (ValueText IsElement) _ lines.element element_piece line)))
  where
    there : (u : List ℕ) → ValueTexts u → RowText kind.Value u
    there u (inl h) = (row.Value h.0, refl, h.1, h.3)
    there u (inr (inl h)) = (row.Value h.0, refl, h.1, h.3)
    there u (inr (inr h)) = (row.Value h.0, refl, h.1, h.3)

    back : (u : List ℕ) (r : Row) → kind_of r ≡ kind.Value → IsRow r → u ≡ row_text r → ValueTexts u
    back u (row.Opening o) k is e = absurd (cc k)
    back u (row.Heading h) k is e = absurd (cc k)
    back u row.NoRun k is e = absurd (cc k)
    back u (row.Value v) k is e = by_subject v.subject refl
      where
        by_subject : (s : Subject) → v.subject ≡ s → ValueTexts u
        by_subject Scalar w = inl (v, is, subst IsScalar (sym w) tt, e)
        by_subject EachElement w = inr (inl (v, is, subst IsEachElement (sym w) tt, e))
        by_subject (Element i) w = inr (inr (v, is, subst IsElement (sym w) tt, e))
    back u (row.Bound b) k is e = absurd (cc k)
    back u (row.Access a) k is e = absurd (cc k)
    back u (row.Counts c) k is e = absurd (cc k)

abbrev BoundTexts : List ℕ → Type 0
BoundTexts = Or (BoundText Difference) (Or (BoundText Sum) (BoundText NegatedSum))

bound_leaves : (line : List ℕ) → Leaves (RowText kind.Bound) line (lines.kind_left kind.Bound (reached line true))
bound_leaves line =
    retold_leaves BoundTexts (RowText kind.Bound) line _ there (λ u h. back u h.0 h.1 h.2 h.3)
    (either_leaves (BoundText Difference) (Or (BoundText Sum) (BoundText NegatedSum)) line _ _ (form_leaves Difference)
    (either_leaves (BoundText Sum) (BoundText NegatedSum) line _ _ (form_leaves Sum) (form_leaves NegatedSum)))
  where
    form_leaves : (f : Form) → Leaves (BoundText f) line (lines.left (lines.bound f (reached line true)))
    form_leaves f = piece_leaves (BoundText f) _ (lines.bound f) (bound_piece f) line

    there : (u : List ℕ) → BoundTexts u → RowText kind.Bound u
    there u (inl h) = (row.Bound h.0, refl, h.1, h.3)
    there u (inr (inl h)) = (row.Bound h.0, refl, h.1, h.3)
    there u (inr (inr h)) = (row.Bound h.0, refl, h.1, h.3)

    back : (u : List ℕ) (r : Row) → kind_of r ≡ kind.Bound → IsRow r → u ≡ row_text r → BoundTexts u
    back u (row.Opening o) k is e = absurd (cc k)
    back u (row.Heading h) k is e = absurd (cc k)
    back u row.NoRun k is e = absurd (cc k)
    back u (row.Value v) k is e = absurd (cc k)
    back u (row.Bound b) k is e = by_form b.form refl
      where
        by_form : (f : Form) → b.form ≡ f → BoundTexts u
        by_form Difference w = inl (b, is, w, e)
        by_form Sum w = inr (inl (b, is, w, e))
        by_form NegatedSum w = inr (inr (b, is, w, e))
    back u (row.Access a) k is e = absurd (cc k)
    back u (row.Counts c) k is e = absurd (cc k)

-- ---- accesses

abbrev FaultTexts : Fault → List ℕ → Type 0
FaultTexts f = Or (AccessText f IsSafe) (Or (AccessText f IsUnreachable) (AccessText f IsUnknown))

fault_leaves : (f : Fault) (line : List ℕ) → Leaves (FaultTexts f) line (lines.fault_left f (lines.access (reached line true)))
fault_leaves f line =
    either_leaves (AccessText f IsSafe) (Or (AccessText f IsUnreachable) (AccessText f IsUnknown)) line _ _
    (piece_leaves (AccessText f IsSafe) _ _ (access_piece f IsSafe nothing (literal (codes "safe")) safe_piece) line)
    (either_leaves (AccessText f IsUnreachable) (AccessText f IsUnknown) line _ _
    (piece_leaves (AccessText f IsUnreachable) _ _ (access_piece f IsUnreachable nothing (literal (codes "unreachable")) unreachable_piece) line)
    (piece_leaves (AccessText f IsUnknown) _ _ (access_piece f IsUnknown nothing lines.unknown unknown_piece) line))

fault_there : (f : Fault) (u : List ℕ) → FaultTexts f u → RowText kind.Access u
fault_there f u (inl h) = (row.Access h.0, refl, h.1, h.3)
fault_there f u (inr (inl h)) = (row.Access h.0, refl, h.1, h.3)
fault_there f u (inr (inr h)) = (row.Access h.0, refl, h.1, h.3)

fault_back : (f : Fault) (u : List ℕ) (a : _) → IsRow (row.Access a) → a.fault ≡ f → u ≡ row_text (row.Access a) → FaultTexts f u
fault_back f u a is w e = by_verdict a.verdict refl
  where
    by_verdict : (v : Verdict) → a.verdict ≡ v → FaultTexts f u
    by_verdict Safe s = inl (a, is, (w, subst IsSafe (sym s) tt), e)
    by_verdict (Unknown lo hi) s = inr (inr (a, is, (w, subst IsUnknown (sym s) tt), e))
    by_verdict Unreachable s = inr (inl (a, is, (w, subst IsUnreachable (sym s) tt), e))

abbrev AccessTexts : List ℕ → Type 0
AccessTexts = Or (FaultTexts Index) (Or (FaultTexts DivZero) (Or (FaultTexts Overflow) (Or (FaultTexts Shift) (FaultTexts Assert))))

access_leaves : (line : List ℕ) → Leaves (RowText kind.Access) line (lines.kind_left kind.Access (reached line true))
access_leaves line =
    retold_leaves AccessTexts (RowText kind.Access) line _ there (λ u h. back u h.0 h.1 h.2 h.3)
    (either_leaves (FaultTexts Index) _ line _ _ (fault_leaves Index line)
    (either_leaves (FaultTexts DivZero) _ line _ _ (fault_leaves DivZero line)
    (either_leaves (FaultTexts Overflow) _ line _ _ (fault_leaves Overflow line)
    (either_leaves (FaultTexts Shift) (FaultTexts Assert) line _ _ (fault_leaves Shift line) (fault_leaves Assert line)))))
  where
    there : (u : List ℕ) → AccessTexts u → RowText kind.Access u
    there u (inl h) = fault_there Index u h
    there u (inr (inl h)) = fault_there DivZero u h
    there u (inr (inr (inl h))) = fault_there Overflow u h
    there u (inr (inr (inr (inl h)))) = fault_there Shift u h
    there u (inr (inr (inr (inr h)))) = fault_there Assert u h

    back : (u : List ℕ) (r : Row) → kind_of r ≡ kind.Access → IsRow r → u ≡ row_text r → AccessTexts u
    back u (row.Opening o) k is e = absurd (cc k)
    back u (row.Heading h) k is e = absurd (cc k)
    back u row.NoRun k is e = absurd (cc k)
    back u (row.Value v) k is e = absurd (cc k)
    back u (row.Bound b) k is e = absurd (cc k)
    back u (row.Access a) k is e = by_fault a.fault refl
      where
        by_fault : (f : Fault) → a.fault ≡ f → AccessTexts u
        by_fault Index w = inl (fault_back Index u a is w e)
        by_fault DivZero w = inr (inl (fault_back DivZero u a is w e))
        by_fault Overflow w = inr (inr (inl (fault_back Overflow u a is w e)))
        by_fault Shift w = inr (inr (inr (inl (fault_back Shift u a is w e))))
        by_fault Assert w = inr (inr (inr (inr (fault_back Assert u a is w e))))
    back u (row.Counts c) k is e = absurd (cc k)

-- ---- each kind, and all that may stand there

kind_leaves : (k : Kind) (line : List ℕ) → Leaves (RowText k) line (lines.kind_left k (reached line true))
kind_leaves kind.Opening line = opening_leaves line
kind_leaves kind.Heading line = heading_leaves line
kind_leaves kind.NoRun line = no_run_leaves line
kind_leaves kind.Value line = value_leaves line
kind_leaves kind.Bound line = bound_leaves line
kind_leaves kind.Access line = access_leaves line
kind_leaves kind.Counts line = counts_leaves line

abbrev StandingText : Option Kind → Kind → List ℕ → Type 0
StandingText before k u = (may_stand before k ≡ true) × RowText k u

if_leaves : (before : Option Kind) (k : Kind) (line : List ℕ) → Leaves (StandingText before k) line (left_if before k line)
if_leaves before k line = by_test (may_stand before k) refl
  where
    by_test : (t : Bool) → t ≡ may_stand before k → Leaves (StandingText before k) line (cond t (lines.kind_left k (reached line true)) (length line))
    by_test true e = retold_leaves (RowText k) (StandingText before k) line _ (λ u h. (sym e, h)) (λ u h. h.1) (kind_leaves k line)
    by_test false e = none_leaves (StandingText before k) (λ u h. let both : true ≡ false = sym h.0 ∙ sym e in absurd (cc both)) line

-- a line that may stand there
abbrev pub NextText : Option Kind → List ℕ → Type 0
NextText before u = (r : Row) × (next_in before u ≡ Some r)

abbrev StandingTexts : Option Kind → List ℕ → Type 0
StandingTexts before =
    Or (StandingText before kind.Opening) (Or (StandingText before kind.Heading) (Or (StandingText before kind.NoRun)
    (Or (StandingText before kind.Value) (Or (StandingText before kind.Bound) (Or (StandingText before kind.Access)
    (StandingText before kind.Counts))))))

standing_next : (before : Option Kind) (k : Kind) (u : List ℕ) → StandingText before k u → NextText before u
standing_next before k u h =
    let r = h.1.0 in
    (r, ap (next_in before) h.1.3 ∙ next_read before r h.1.2 (ap (may_stand before) h.1.1 ∙ h.0))

next_standing : (before : Option Kind) (u : List ℕ) (r : Row) → next_in before u ≡ Some r → StandingTexts before u
next_standing before u r e = by_kind (kind_of r) refl
  where
    here : (k : Kind) → kind_of r ≡ k → StandingText before k u
    here k w =
        let both = next_is_row before u r e in
        (ap (may_stand before) (sym w) ∙ both.0, (r, w, both.1, next_told before u r e))

    by_kind : (k : Kind) → kind_of r ≡ k → StandingTexts before u
    by_kind kind.Opening w = inl (here kind.Opening w)
    by_kind kind.Heading w = inr (inl (here kind.Heading w))
    by_kind kind.NoRun w = inr (inr (inl (here kind.NoRun w)))
    by_kind kind.Value w = inr (inr (inr (inl (here kind.Value w))))
    by_kind kind.Bound w = inr (inr (inr (inr (inl (here kind.Bound w)))))
    by_kind kind.Access w = inr (inr (inr (inr (inr (inl (here kind.Access w))))))
    by_kind kind.Counts w = inr (inr (inr (inr (inr (inr (here kind.Counts w))))))

pub next_leaves : (before : Option Kind) (line : List ℕ) → Leaves (NextText before) line (least_left before line)
next_leaves before line =
    retold_leaves (StandingTexts before) (NextText before) line _ there (λ u h. next_standing before u h.0 h.1)
    (either_leaves (StandingText before kind.Opening) _ line _ _ (if_leaves before kind.Opening line)
    (either_leaves (StandingText before kind.Heading) _ line _ _ (if_leaves before kind.Heading line)
    (either_leaves (StandingText before kind.NoRun) _ line _ _ (if_leaves before kind.NoRun line)
    (either_leaves (StandingText before kind.Value) _ line _ _ (if_leaves before kind.Value line)
    (either_leaves (StandingText before kind.Bound) _ line _ _ (if_leaves before kind.Bound line)
    (either_leaves (StandingText before kind.Access) (StandingText before kind.Counts) line _ _ (if_leaves before kind.Access line)
    (if_leaves before kind.Counts line)))))))
  where
    there : (u : List ℕ) → StandingTexts before u → NextText before u
    there u (inl h) = standing_next before kind.Opening u h
    there u (inr (inl h)) = standing_next before kind.Heading u h
    there u (inr (inr (inl h))) = standing_next before kind.NoRun u h
    there u (inr (inr (inr (inl h)))) = standing_next before kind.Value u h
    there u (inr (inr (inr (inr (inl h))))) = standing_next before kind.Bound u h
    there u (inr (inr (inr (inr (inr (inl h)))))) = standing_next before kind.Access u h
    there u (inr (inr (inr (inr (inr (inr h)))))) = standing_next before kind.Counts u h
