-- Each line of a report but an access is read back from its text.
use Rattle.std.proofs.Common.{◌≡◌, ℕ, ◌<◌, ◌≤◌, ◌^◌, ◌==◌, List, [], ◌∷◌, ◌++◌, length, refl, sym, ap, ◌∙◌, Bool, true, false, not, ◌&&◌, ◌||◌, arith, Some, append_assoc, lit≤}
use Rattle.std.specs.Prelude.{ℤ, codes}
use Rattle.std.specs.Fmt.{decimal, signed_decimal}
use Rattle.std.specs.List.{list_all}
use Rattle.std.specs.Char.{digit_value}
use Rattle.std.specs.Cmp.Lexicographic.{same_text}
use Rattle.std.proofs.lemmas.Bool.{and_from, and_parts, eqb-true}
use Rattle.std.proofs.lemmas.List.{append-nil, length_push}
use Rattle.std.proofs.lemmas.Fmt.{decimal_nonempty}
use Rattle.std.proofs.lemmas.List.Folds.{list_all-append}
use Rattle.pk_lex.specs.Bytes.{is_letter, is_digit, is_part, begins_with, same}
use Rattle.pk_show.specs.declared.rows.Form.{Form}
use Rattle.pk_show.specs.declared.rows.Form.TheVariants.{Difference, Sum, NegatedSum}
use Rattle.pk_show.specs.declared.rows.Counts.{Counts}
use Rattle.pk_show.specs.declared.rows.Known.{Known}
use Rattle.pk_show.specs.declared.rows.Subject.{Subject}
use Rattle.pk_show.specs.declared.rows.Subject.TheVariants.{Scalar, EachElement, Element}
use Rattle.pk_show.specs.Pieces.{lacks, is_identifier}
use Rattle.pk_show.specs.Rows.{OpeningOf, HeadingOf, ValueOf, BoundOf, opening_text, heading_text, value_text, bound_text, counts_text, head_word, mark_of, front_of, sign_of, known_text, class_text}
use Rattle.pk_show.specs.Reading.{opening_in, heading_in, element_in, elements_in, array_in, subject_in, class_in, known_in, value_in, form_in, bound_in, others_in, counts_in}
use Rattle.pk_show.specs.Laws.{IsNumber, IsOpening, IsHeading, IsSubject, IsValue, IsBound, AreCounts, IsKnown}
use Rattle.pk_show.proofs.AccessLemmas.{place_read}
use Rattle.pk_show.proofs.PieceLemmas.{strip_read, cut_read, count_read, signed_read, no_minus, decimal_lacks, signed_lacks}

-- ---- identifiers

not_part : (c b : ℕ) (t : Bool) → t ≡ (c == b) → is_part c ≡ false → is_part b ≡ true → not t ≡ true
not_part c b true e apart part =
    let equal : c ≡ b = eqb-true c b (sym e) in
    let both : false ≡ true = sym apart ∙ ap is_part equal ∙ part in
    absurd (cc both)
not_part c b false e apart part = refl

parts_lack : (c : ℕ) (text : List ℕ) → is_part c ≡ false → list_all is_part text ≡ true → lacks c text ≡ true
parts_lack c [] apart all = refl
parts_lack c (b ∷ text) apart all =
    let both = and_parts (is_part b) (list_all is_part text) all in
    and_from (not (c == b)) (lacks c text) (not_part c b (c == b) refl apart both.0) (parts_lack c text apart both.1)

letter_part : (a b : Bool) → a ≡ true → (a || b) ≡ true
letter_part true b e = refl
letter_part false b e = absurd (cc e)

pub name_lacks : (c : ℕ) (name : List ℕ) → is_part c ≡ false → is_identifier name ≡ true → lacks c name ≡ true
unfolding is_identifier
name_lacks c [] apart e = refl
name_lacks c (b ∷ text) apart e =
    let both = and_parts (is_letter b) (list_all is_part text) e in
    parts_lack c (b ∷ text) apart (and_from (is_part b) (list_all is_part text) (letter_part (is_letter b) (is_digit b) both.0) both.1)

-- ---- the first line, and the last

pub opening_read : (o : OpeningOf) → IsOpening o → opening_in (opening_text o) ≡ Some o
unfolding opening_in
opening_read o h =
    let behind = codes " elements " ++ decimal o.elements in
    let points = codes " points " ++ (decimal o.points ++ behind) in
    rw (
      strip_read (codes "pikos 1 entry ") (o.entry ++ points),
      cut_read 32 (codes "points ") o.entry (decimal o.points ++ behind) (name_lacks 32 o.entry refl h.entry),
      cut_read 32 (codes "elements ") (decimal o.points) (decimal o.elements) (decimal_lacks 32 o.points (lit≤ tt) (let h' = h.points in omega arith)),
      h.entry,
      count_read o.points h.points,
      count_read o.elements h.elements,
    )
    refl

others_read : (unknown unreachable : ℕ) → unknown < 2 ^ 64 → unreachable < 2 ^ 64 →
    others_in (decimal unknown ++ (codes " unreachable " ++ decimal unreachable)) ≡ Some (unknown, unreachable)
unfolding others_in
others_read unknown unreachable h k =
    rw (
      cut_read 32 (codes "unreachable ") (decimal unknown) (decimal unreachable) (decimal_lacks 32 unknown (lit≤ tt) (omega arith)),
      count_read unknown h,
      count_read unreachable k,
    )
    refl

pub counts_read : (c : Counts) → AreCounts c → counts_in (counts_text c) ≡ Some c
unfolding counts_in
counts_read c h =
    let others = decimal c.unknown ++ (codes " unreachable " ++ decimal c.unreachable) in
    rw (
      strip_read (codes "result safe ") (decimal c.safe ++ (codes " unknown " ++ others)),
      cut_read 32 (codes "unknown ") (decimal c.safe) others (decimal_lacks 32 c.safe (lit≤ tt) (let h' = h.safe in omega arith)),
      count_read c.safe h.safe,
      others_read c.unknown c.unreachable h.unknown h.unreachable,
    )
    refl

-- ---- points

pub heading_read : (o : HeadingOf) → IsHeading o → heading_in o.is_head (heading_text o) ≡ Some o
unfolding heading_in
heading_read o h =
    let place = append_assoc (decimal o.at.line) (codes ":") (decimal o.at.column) in
    let behind = decimal o.at.line ++ (codes ":" ++ decimal o.at.column) in
    rw (
      place,
      strip_read (head_word o.is_head) (decimal o.point ++ (codes " " ++ (o.path ++ (codes " " ++ behind)))),
      cut_read 32 [] (decimal o.point) (o.path ++ (codes " " ++ behind)) (decimal_lacks 32 o.point (lit≤ tt) (let h' = h.point in omega arith)),
      cut_read 32 [] o.path behind h.path,
      cut_read 58 [] (decimal o.at.line) (decimal o.at.column) (decimal_lacks 58 o.at.line (lit≤ tt) (let h' = h.at.line in omega arith)),
      count_read o.point h.point,
      place_read o.at h.at,
    )
    refl

-- ---- values

class_read : (k : Known) → IsKnown k → class_in (class_text k) ≡ Some (k.modulus, k.rest)
unfolding class_in
class_read k h =
    rw (
      cut_read 90 (codes "+") (signed_decimal k.modulus) (signed_decimal k.rest) (signed_lacks 90 k.modulus (lit≤ tt) refl h.modulus),
      signed_read k.modulus h.modulus,
      signed_read k.rest h.rest,
    )
    refl

known_read : (k : Known) → IsKnown k → known_in (known_text k) ≡ Some k
unfolding known_in
known_read k h =
    rw (
      cut_read 44 [] (signed_decimal k.lo) (signed_decimal k.hi ++ (codes "] " ++ class_text k)) (signed_lacks 44 k.lo (lit≤ tt) refl h.lo),
      cut_read 93 (codes " ") (signed_decimal k.hi) (class_text k) (signed_lacks 93 k.hi (lit≤ tt) refl h.hi),
      signed_read k.lo h.lo,
      signed_read k.hi h.hi,
      class_read k h,
    )
    refl

-- ---- variables

brackets_none : (b : ℕ) (text rest : List ℕ) → is_identifier ((b ∷ text) ++ (codes "[" ++ rest)) ≡ false
unfolding is_identifier
brackets_none b text rest =
    ap (λ (t : Bool). is_letter b && t) (list_all-append is_part text (codes "[" ++ rest) ∙ and_no (list_all is_part text)) ∙ and_no (is_letter b)
  where
    and_no : (t : Bool) → (t && false) ≡ false
    and_no true = refl
    and_no false = refl

no_empty_name : is_identifier [] ≡ true → ⊥
unfolding is_identifier
no_empty_name e = cc e

element_read : (i : ℕ) → i < 2 ^ 64 → element_in (decimal i ++ codes "]") ≡ Some (Element i)
unfolding element_in
element_read i h = rw (cut_read 93 [] (decimal i) [] (decimal_lacks 93 i (lit≤ tt) (omega arith)), count_read i h) refl

not_each : (i : ℕ) → i < 2 ^ 64 → (t : Bool) → t ≡ same (decimal i ++ codes "]") (codes "]") → t ≡ false
not_each i h false is = refl
not_each i h true is =
    let one : length (decimal i ++ codes "]") ≡ 1 = ap length (same_text (decimal i ++ codes "]") (codes "]") is) in
    absurd (omega (arith, one, length_push (decimal i) 93, decimal_nonempty i h))

elements_read : (i : ℕ) → i < 2 ^ 64 → elements_in (decimal i ++ codes "]") ≡ Some (Element i)
unfolding elements_in
elements_read i h = rw (not_each i h (same (decimal i ++ codes "]") (codes "]")) refl, element_read i h) refl

array_read : (name rest : List ℕ) (s : Subject) → is_identifier name ≡ true → elements_in rest ≡ Some s → array_in (name ++ (codes "[" ++ rest)) ≡ Some (name, s)
unfolding array_in
array_read name rest s h e = rw (cut_read 91 [] name rest (name_lacks 91 name refl h), h, e) refl

behind_name : (b : ℕ) (text rest : List ℕ) (s : Subject) → is_identifier (b ∷ text) ≡ true → elements_in rest ≡ Some s →
    subject_in ((b ∷ text) ++ (codes "[" ++ rest)) ≡ Some (b ∷ text, s)
unfolding subject_in
behind_name b text rest s h e = rw (brackets_none b text rest, array_read (b ∷ text) rest s h e) refl

alone : (name : List ℕ) → is_identifier name ≡ true → subject_in (name ++ []) ≡ Some (name, Scalar)
unfolding subject_in
alone name h = rw (append-nil name, h) refl

each_read : elements_in (codes "]") ≡ Some EachElement
unfolding elements_in
each_read = refl

name_read : (name : List ℕ) (s : Subject) → is_identifier name ≡ true → IsSubject s → subject_in (name ++ mark_of s) ≡ Some (name, s)
name_read name Scalar h k = alone name h
name_read [] EachElement h k = absurd (no_empty_name h)
name_read [] (Element i) h k = absurd (no_empty_name h)
name_read (b ∷ text) EachElement h k = behind_name b text (codes "]") EachElement h each_read
name_read (b ∷ text) (Element i) h k = behind_name b text (decimal i ++ codes "]") (Element i) h (elements_read i k)

marked_lacks : (c : ℕ) (name : List ℕ) (s : Subject) → is_part c ≡ false → lacks c (mark_of s) ≡ true → is_identifier name ≡ true →
    lacks c (name ++ mark_of s) ≡ true
marked_lacks c name s apart mark h =
    list_all-append (λ (b : ℕ). not (c == b)) name (mark_of s)
    ∙ and_from (lacks c name) (lacks c (mark_of s)) (name_lacks c name apart h) mark

pub mark_lacks : (c : ℕ) (s : Subject) → 10 ≤ digit_value c → lacks c (codes "[]") ≡ true → IsSubject s → lacks c (mark_of s) ≡ true
mark_lacks c Scalar high apart h = refl
mark_lacks c EachElement high apart h = apart
mark_lacks c (Element i) high apart h =
    let few : i < 2 ^ 64 = h in
    let both = and_parts (not (c == 91)) (lacks c (codes "]")) apart in
    and_from (not (c == 91)) (lacks c (decimal i ++ codes "]")) both.0
    (list_all-append (λ (b : ℕ). not (c == b)) (decimal i) (codes "]")
    ∙ and_from (lacks c (decimal i)) (lacks c (codes "]")) (decimal_lacks c i high (omega (arith, few))) both.1)

pub value_read : (v : ValueOf) → IsValue v → value_in (value_text v) ≡ Some v
unfolding value_in
value_read v h =
    let name = v.name ++ mark_of v.subject in
    rw (
      strip_read (codes "  ") (name ++ (codes " [" ++ known_text v.known)),
      cut_read 32 (codes "[") name (known_text v.known) (marked_lacks 32 v.name v.subject refl (mark_lacks 32 v.subject (lit≤ tt) refl h.subject) h.name),
      name_read v.name v.subject h.name h.subject,
      known_read v.known h.known,
    )
    refl

-- ---- two variables

not_signed : (name : List ℕ) → is_identifier name ≡ true → begins_with 45 name ≡ false
not_signed name h = no_minus name (name_lacks 45 name refl h)

bound_with : (front left sign right : List ℕ) (form : Form) (most : ℤ) → lacks 32 (front ++ left) ≡ true → lacks 32 sign ≡ true →
    is_identifier left ≡ true → is_identifier right ≡ true → IsNumber most → form_in (front ++ left) sign ≡ Some (form, left) →
    bound_in (codes "  " ++ ((front ++ left) ++ (codes " " ++ (sign ++ (codes " " ++ (right ++ (codes " <= " ++ signed_decimal most))))))) ≡
    Some (record { form = form; left = left; right = right; most = most })
unfolding bound_in
bound_with front left sign right form most hl hs l r m formed =
    let last = right ++ (codes " <= " ++ signed_decimal most) in
    let behind = sign ++ (codes " " ++ last) in
    rw (
      strip_read (codes "  ") ((front ++ left) ++ (codes " " ++ behind)),
      cut_read 32 [] (front ++ left) behind hl,
      cut_read 32 [] sign last hs,
      cut_read 32 (codes "<= ") right (signed_decimal most) (name_lacks 32 right refl r),
      formed,
      l,
      r,
      signed_read most m,
    )
    refl

form_read : (form : Form) (left : List ℕ) → is_identifier left ≡ true → form_in (front_of form ++ left) (sign_of form) ≡ Some (form, left)
unfolding form_in
form_read Difference left h = rw (not_signed left h) refl
form_read Sum left h = rw (not_signed left h) refl
form_read NegatedSum left h = refl

pub front_lacks : (form : Form) (left : List ℕ) → is_identifier left ≡ true → lacks 32 (front_of form ++ left) ≡ true
front_lacks Difference left h = name_lacks 32 left refl h
front_lacks Sum left h = name_lacks 32 left refl h
front_lacks NegatedSum left h = name_lacks 32 left refl h

sign_lacks : (form : Form) → lacks 32 (sign_of form) ≡ true
sign_lacks Difference = refl
sign_lacks Sum = refl
sign_lacks NegatedSum = refl

pub bound_read : (b : BoundOf) → IsBound b → bound_in (bound_text b) ≡ Some b
bound_read b h =
    bound_with (front_of b.form) b.left (sign_of b.form) b.right b.form b.most (front_lacks b.form b.left h.left) (sign_lacks b.form)
    h.left h.right h.most (form_read b.form b.left h.left)
