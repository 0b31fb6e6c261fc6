-- What is read of each other line of a report is what the line says.
use Rattle.std.proofs.Common.{◌≡◌, ℕ, List, [], ◌++◌, drop, refl, sym, ap, ◌∙◌, Bool, true, false, cond, Option, Some, None, append_assoc}
use Rattle.std.specs.Prelude.{ℤ, codes}
use Rattle.std.specs.Option.{option_map}
use Rattle.std.specs.Fmt.{decimal, signed_decimal}
use Rattle.std.specs.Cmp.Lexicographic.{same_text}
use Rattle.std.proofs.lemmas.List.{append-nil}
use Rattle.pk_ctypes.specs.declared.places.Pos.{Pos}
use Rattle.pk_lex.specs.Bytes.{begins_with, same}
use Rattle.pk_show.specs.declared.report.Row.{Row}
use Rattle.pk_show.specs.declared.report.Row.TheVariants as row
use Rattle.pk_show.specs.declared.rows.Form.{Form}
use Rattle.pk_show.specs.declared.rows.Form.TheVariants.{Difference, Sum, NegatedSum}
use Rattle.pk_show.specs.declared.rows.Counts.{Counts}
use Rattle.pk_show.specs.declared.rows.Known.{Known}
use Rattle.pk_show.specs.declared.rows.Subject.{Subject}
use Rattle.pk_show.specs.declared.rows.Subject.TheVariants.{Scalar, EachElement, Element}
use Rattle.pk_show.specs.Pieces.{if_true, strip, cut, count_in, signed_in, is_identifier, identifier_in, place_in}
use Rattle.pk_show.specs.Rows.{OpeningOf, HeadingOf, ValueOf, BoundOf, opening_text, heading_text, no_run_text, value_text, bound_text, counts_text, head_word, mark_of, front_of, sign_of, known_text}
use Rattle.pk_show.specs.Reading.{opening, heading, known, class_of, named, value, formed, bound, counts, pair, opening_in, heading_in, element_in, elements_in, array_in, subject_in, class_in, known_in, value_in, form_in, bound_in, access_in, others_in, counts_in}
use Rattle.pk_show.specs.Reports.{or_else, point_row_in, row_in}
use Rattle.pk_show.specs.Laws.{row_text}
use Rattle.pk_show.proofs.PieceLemmas.{strip_told}
use Rattle.pk_show.proofs.ToldLemmas.{steps, some_same, passed, cut_told, count_told, minus_told, signed_told, place_told, access_told}

-- ---- the first line, and the last

opening_joined : (line text behind entry n m : List ℕ) (points elements : ℕ) →
    line ≡ codes "pikos 1 entry " ++ text → text ≡ entry ++ (codes " points " ++ behind) → behind ≡ n ++ (codes " elements " ++ m) →
    n ≡ decimal points → m ≡ decimal elements →
    line ≡ codes "pikos 1 entry " ++ (entry ++ (codes " points " ++ (decimal points ++ (codes " elements " ++ decimal elements))))
opening_joined line text behind entry n m points elements e1 e2 e3 e4 e5 = rw (e1, e2, e3, e4, e5) refl

pub opening_told : (line : List ℕ) (o : OpeningOf) → opening_in line ≡ Some o → line ≡ opening_text o
unfolding opening_in
opening_told line o e =
    let t = steps (strip (codes "pikos 1 entry ") line) _ o e in
    let n = steps (cut (codes " points ") t.first) _ o t.then_gave in
    let p = steps (cut (codes " elements ") n.first.1) _ o n.then_gave in
    let entry = steps (identifier_in n.first.0) _ o p.then_gave in
    let points = steps (count_in p.first.0) _ o entry.then_gave in
    let elements = steps (count_in p.first.1) _ o points.then_gave in
    let made : OpeningOf = opening entry.first points.first elements.first in
    let same_opening : made ≡ o = some_same made o elements.then_gave in
    let name = passed (is_identifier n.first.0) n.first.0 entry.first entry.gave in
    opening_joined line t.first n.first.1 entry.first p.first.0 p.first.1 points.first elements.first
    (strip_told (codes "pikos 1 entry ") line t.first t.gave)
    (cut_told (codes " points ") t.first n.first n.gave ∙ ap (λ (l : List ℕ). l ++ (codes " points " ++ n.first.1)) name.1)
    (cut_told (codes " elements ") n.first.1 p.first p.gave)
    (count_told p.first.0 points.first points.gave)
    (count_told p.first.1 elements.first elements.gave)
    ∙ ap opening_text same_opening

others_told : (text : List ℕ) (p : ℕ × ℕ) → others_in text ≡ Some p → text ≡ decimal p.0 ++ (codes " unreachable " ++ decimal p.1)
unfolding others_in
others_told text p e =
    let u = steps (cut (codes " unreachable ") text) _ p e in
    let unknown = steps (count_in u.first.0) _ p u.then_gave in
    let unreachable = steps (count_in u.first.1) _ p unknown.then_gave in
    let equal = some_same (pair unknown.first unreachable.first) p unreachable.then_gave in
    cut_told (codes " unreachable ") text u.first u.gave
    ∙ ap (λ (l : List ℕ). l ++ (codes " unreachable " ++ u.first.1)) (count_told u.first.0 unknown.first unknown.gave)
    ∙ ap (λ (l : List ℕ). decimal unknown.first ++ (codes " unreachable " ++ l)) (count_told u.first.1 unreachable.first unreachable.gave)
    ∙ ap (λ (q : ℕ × ℕ). decimal q.0 ++ (codes " unreachable " ++ decimal q.1)) equal

pub counts_told : (line : List ℕ) (c : Counts) → counts_in line ≡ Some c → line ≡ counts_text c
unfolding counts_in
counts_told line c e =
    let t = steps (strip (codes "result safe ") line) _ c e in
    let s = steps (cut (codes " unknown ") t.first) _ c t.then_gave in
    let safe = steps (count_in s.first.0) _ c s.then_gave in
    let others = steps (others_in s.first.1) _ c safe.then_gave in
    let made : Counts = counts safe.first others.first in
    let equal : made ≡ c = some_same made c others.then_gave in
    strip_told (codes "result safe ") line t.first t.gave
    ∙ ap (λ (l : List ℕ). codes "result safe " ++ l) (
    cut_told (codes " unknown ") t.first s.first s.gave
    ∙ ap (λ (l : List ℕ). l ++ (codes " unknown " ++ s.first.1)) (count_told s.first.0 safe.first safe.gave)
    ∙ ap (λ (l : List ℕ). decimal safe.first ++ (codes " unknown " ++ l)) (others_told s.first.1 others.first others.gave))
    ∙ ap counts_text equal

-- ---- points

heading_joined : (word line text behind place n path l c : List ℕ) (point : ℕ) (at : Pos) →
    line ≡ word ++ text → text ≡ n ++ (codes " " ++ behind) → behind ≡ path ++ (codes " " ++ place) → place ≡ l ++ (codes ":" ++ c) →
    n ≡ decimal point → l ≡ decimal at.line → c ≡ decimal at.column →
    line ≡ word ++ (decimal point ++ (codes " " ++ (path ++ (codes " " ++ (decimal at.line ++ (codes ":" ++ decimal at.column))))))
heading_joined word line text behind place n path l c point at e1 e2 e3 e4 e5 e6 e7 = rw (e1, e2, e3, e4, e5, e6, e7) refl

pub heading_told : (is_head : Bool) (line : List ℕ) (h : HeadingOf) → heading_in is_head line ≡ Some h → line ≡ heading_text h
unfolding heading_in
heading_told is_head line h e =
    let t = steps (strip (head_word is_head) line) _ h e in
    let n = steps (cut (codes " ") t.first) _ h t.then_gave in
    let path = steps (cut (codes " ") n.first.1) _ h n.then_gave in
    let place = steps (cut (codes ":") path.first.1) _ h path.then_gave in
    let point = steps (count_in n.first.0) _ h place.then_gave in
    let at = steps (place_in place.first.0 place.first.1) _ h point.then_gave in
    let made : HeadingOf = heading is_head point.first path.first.0 at.first in
    let equal : made ≡ h = some_same made h at.then_gave in
    let placed = place_told place.first.0 place.first.1 at.first at.gave in
    heading_joined (head_word is_head) line t.first n.first.1 path.first.1 n.first.0 path.first.0 place.first.0 place.first.1 point.first at.first
    (strip_told (head_word is_head) line t.first t.gave)
    (cut_told (codes " ") t.first n.first n.gave)
    (cut_told (codes " ") n.first.1 path.first path.gave)
    (cut_told (codes ":") path.first.1 place.first place.gave)
    (count_told n.first.0 point.first point.gave)
    placed.0 placed.1
    ∙ ap (λ (l : List ℕ). head_word is_head ++ (decimal point.first ++ (codes " " ++ (path.first.0 ++ (codes " " ++ l)))))
    (sym (append_assoc (decimal at.first.line) (codes ":") (decimal at.first.column)))
    ∙ ap heading_text equal

-- ---- variables

class_told : (text : List ℕ) (k : ℤ × ℤ) → class_in text ≡ Some k → text ≡ signed_decimal k.0 ++ (codes "Z+" ++ signed_decimal k.1)
unfolding class_in
class_told text k e =
    let m = steps (cut (codes "Z+") text) _ k e in
    let modulus = steps (signed_in m.first.0) _ k m.then_gave in
    let rest = steps (signed_in m.first.1) _ k modulus.then_gave in
    let equal = some_same (class_of modulus.first rest.first) k rest.then_gave in
    cut_told (codes "Z+") text m.first m.gave
    ∙ ap (λ (l : List ℕ). l ++ (codes "Z+" ++ m.first.1)) (signed_told m.first.0 modulus.first modulus.gave)
    ∙ ap (λ (l : List ℕ). signed_decimal modulus.first ++ (codes "Z+" ++ l)) (signed_told m.first.1 rest.first rest.gave)
    ∙ ap (λ (q : ℤ × ℤ). signed_decimal q.0 ++ (codes "Z+" ++ signed_decimal q.1)) equal

known_told : (text : List ℕ) (k : Known) → known_in text ≡ Some k → text ≡ known_text k
unfolding known_in
known_told text k e =
    let l = steps (cut (codes ",") text) _ k e in
    let h = steps (cut (codes "] ") l.first.1) _ k l.then_gave in
    let lo = steps (signed_in l.first.0) _ k h.then_gave in
    let hi = steps (signed_in h.first.0) _ k lo.then_gave in
    let class = steps (class_in h.first.1) _ k hi.then_gave in
    let made : Known = known lo.first hi.first class.first in
    let equal : made ≡ k = some_same made k class.then_gave in
    cut_told (codes ",") text l.first l.gave
    ∙ ap (λ (t : List ℕ). t ++ (codes "," ++ l.first.1)) (signed_told l.first.0 lo.first lo.gave)
    ∙ ap (λ (t : List ℕ). signed_decimal lo.first ++ (codes "," ++ t)) (
    cut_told (codes "] ") l.first.1 h.first h.gave
    ∙ ap (λ (t : List ℕ). t ++ (codes "] " ++ h.first.1)) (signed_told h.first.0 hi.first hi.gave)
    ∙ ap (λ (t : List ℕ). signed_decimal hi.first ++ (codes "] " ++ t)) (class_told h.first.1 class.first class.gave))
    ∙ ap known_text equal

element_told : (text : List ℕ) (s : Subject) → element_in text ≡ Some s → codes "[" ++ text ≡ mark_of s
unfolding element_in
element_told text s e =
    let i = steps (cut (codes "]") text) _ s e in
    let number = steps (count_in i.first.0) _ s i.then_gave in
    let end = passed (same i.first.1 []) (Element number.first) s number.then_gave in
    ap (λ (l : List ℕ). codes "[" ++ l) (
    cut_told (codes "]") text i.first i.gave
    ∙ ap (λ (l : List ℕ). l ++ (codes "]" ++ i.first.1)) (count_told i.first.0 number.first number.gave)
    ∙ ap (λ (l : List ℕ). decimal number.first ++ (codes "]" ++ l)) (same_text i.first.1 [] (sym end.0)))
    ∙ ap mark_of end.1

elements_told : (text : List ℕ) (s : Subject) → elements_in text ≡ Some s → codes "[" ++ text ≡ mark_of s
unfolding elements_in
elements_told text s e = by_end (same text (codes "]")) refl e
  where
    by_end : (t : Bool) → t ≡ same text (codes "]") → cond t (Some EachElement) (element_in text) ≡ Some s → codes "[" ++ text ≡ mark_of s
    by_end true is f =
        let equal : EachElement ≡ s = cc f in
        ap (λ (l : List ℕ). codes "[" ++ l) (same_text text (codes "]") is) ∙ ap mark_of equal
    by_end false is f = element_told text s f

array_told : (text : List ℕ) (p : List ℕ × Subject) → array_in text ≡ Some p → text ≡ p.0 ++ mark_of p.1
unfolding array_in
array_told text p e =
    let n = steps (cut (codes "[") text) _ p e in
    let name = steps (identifier_in n.first.0) _ p n.then_gave in
    let s = steps (elements_in n.first.1) _ p name.then_gave in
    let is = passed (is_identifier n.first.0) n.first.0 name.first name.gave in
    cut_told (codes "[") text n.first n.gave
    ∙ ap (λ (l : List ℕ). l ++ (codes "[" ++ n.first.1)) is.1
    ∙ ap (λ (l : List ℕ). name.first ++ l) (elements_told n.first.1 s.first s.gave)
    ∙ ap (λ (q : List ℕ × Subject). q.0 ++ mark_of q.1) (some_same (named name.first s.first) p s.then_gave)

subject_told : (text : List ℕ) (p : List ℕ × Subject) → subject_in text ≡ Some p → text ≡ p.0 ++ mark_of p.1
unfolding subject_in
subject_told text p e = by_name (is_identifier text) e
  where
    by_name : (t : Bool) → cond t (Some (named text Scalar)) (array_in text) ≡ Some p → text ≡ p.0 ++ mark_of p.1
    by_name true f = sym (append-nil text) ∙ ap (λ (q : List ℕ × Subject). q.0 ++ mark_of q.1) (some_same (named text Scalar) p f)
    by_name false f = array_told text p f

pub value_told : (line : List ℕ) (v : ValueOf) → value_in line ≡ Some v → line ≡ value_text v
unfolding value_in
value_told line v e =
    let t = steps (strip (codes "  ") line) _ v e in
    let n = steps (cut (codes " [") t.first) _ v t.then_gave in
    let name = steps (subject_in n.first.0) _ v n.then_gave in
    let k = steps (known_in n.first.1) _ v name.then_gave in
    let made : ValueOf = value name.first k.first in
    let equal : made ≡ v = some_same made v k.then_gave in
    strip_told (codes "  ") line t.first t.gave
    ∙ ap (λ (l : List ℕ). codes "  " ++ l) (
    cut_told (codes " [") t.first n.first n.gave
    ∙ ap (λ (l : List ℕ). l ++ (codes " [" ++ n.first.1)) (subject_told n.first.0 name.first name.gave)
    ∙ ap (λ (l : List ℕ). (name.first.0 ++ mark_of name.first.1) ++ (codes " [" ++ l)) (known_told n.first.1 k.first k.gave))
    ∙ ap value_text equal

-- ---- two variables

form_told : (left sign : List ℕ) (q : Form × List ℕ) → form_in left sign ≡ Some q → (left ≡ front_of q.0 ++ q.1) × (sign ≡ sign_of q.0)
unfolding form_in
form_told left sign q e = by_front (begins_with 45 left) refl e
  where
    plain : (f : Form) (l : List ℕ) (t : Bool) → t ≡ same sign (sign_of f) → t ≡ true → formed f l ≡ q → left ≡ front_of f ++ l →
        (left ≡ front_of q.0 ++ q.1) × (sign ≡ sign_of q.0)
    plain f l t s is equal front = (
      front ∙ ap (λ (p : Form × List ℕ). front_of p.0 ++ p.1) equal,
      same_text sign (sign_of f) (sym is ∙ s) ∙ ap (λ (p : Form × List ℕ). sign_of p.0) equal,
    )

    by_sum : (t : Bool) → t ≡ same sign (codes "+") → if_true t (formed Sum left) ≡ Some q → (left ≡ front_of q.0 ++ q.1) × (sign ≡ sign_of q.0)
    by_sum true s f = plain Sum left true s refl (some_same (formed Sum left) q f) refl
    by_sum false s f = absurd (cc f)

    by_sign : (t : Bool) → t ≡ same sign (codes "-") →
        cond t (Some (formed Difference left)) (if_true (same sign (codes "+")) (formed Sum left)) ≡ Some q → (left ≡ front_of q.0 ++ q.1) × (sign ≡ sign_of q.0)
    by_sign true s f = plain Difference left true s refl (some_same (formed Difference left) q f) refl
    by_sign false s f = by_sum (same sign (codes "+")) refl f

    negated : (t : Bool) → t ≡ same sign (codes "-") → begins_with 45 left ≡ true → if_true t (formed NegatedSum (drop 1 left)) ≡ Some q →
        (left ≡ front_of q.0 ++ q.1) × (sign ≡ sign_of q.0)
    negated true s m f = plain NegatedSum (drop 1 left) true s refl (some_same (formed NegatedSum (drop 1 left)) q f) (minus_told left m)
    negated false s m f = absurd (cc f)

    by_front : (t : Bool) → t ≡ begins_with 45 left →
        cond t (if_true (same sign (codes "-")) (formed NegatedSum (drop 1 left)))
        (cond (same sign (codes "-")) (Some (formed Difference left)) (if_true (same sign (codes "+")) (formed Sum left))) ≡ Some q →
        (left ≡ front_of q.0 ++ q.1) × (sign ≡ sign_of q.0)
    by_front true m f = negated (same sign (codes "-")) refl (sym m) f
    by_front false m f = by_sign (same sign (codes "-")) refl f

bound_joined : (line text behind last left sign name n : List ℕ) (form : Form) (l : List ℕ) (most : ℤ) →
    line ≡ codes "  " ++ text → text ≡ left ++ (codes " " ++ behind) → behind ≡ sign ++ (codes " " ++ last) → last ≡ name ++ (codes " <= " ++ n) →
    left ≡ front_of form ++ l → sign ≡ sign_of form → n ≡ signed_decimal most →
    line ≡ codes "  " ++ ((front_of form ++ l) ++ (codes " " ++ (sign_of form ++ (codes " " ++ (name ++ (codes " <= " ++ signed_decimal most))))))
bound_joined line text behind last left sign name n form l most e1 e2 e3 e4 e5 e6 e7 = rw (e1, e2, e3, e4, e5, e6, e7) refl

pub bound_told : (line : List ℕ) (b : BoundOf) → bound_in line ≡ Some b → line ≡ bound_text b
unfolding bound_in
bound_told line b e =
    let t = steps (strip (codes "  ") line) _ b e in
    let l = steps (cut (codes " ") t.first) _ b t.then_gave in
    let s = steps (cut (codes " ") l.first.1) _ b l.then_gave in
    let r = steps (cut (codes " <= ") s.first.1) _ b s.then_gave in
    let form = steps (form_in l.first.0 s.first.0) _ b r.then_gave in
    let left = steps (identifier_in form.first.1) _ b form.then_gave in
    let right = steps (identifier_in r.first.0) _ b left.then_gave in
    let most = steps (signed_in r.first.1) _ b right.then_gave in
    let made : BoundOf = bound form.first.0 left.first right.first most.first in
    let equal : made ≡ b = some_same made b most.then_gave in
    let told = form_told l.first.0 s.first.0 form.first form.gave in
    let left_name = passed (is_identifier form.first.1) form.first.1 left.first left.gave in
    let right_name = passed (is_identifier r.first.0) r.first.0 right.first right.gave in
    bound_joined line t.first l.first.1 s.first.1 l.first.0 s.first.0 right.first r.first.1 form.first.0 left.first most.first
    (strip_told (codes "  ") line t.first t.gave)
    (cut_told (codes " ") t.first l.first l.gave)
    (cut_told (codes " ") l.first.1 s.first s.gave)
    (cut_told (codes " <= ") s.first.1 r.first r.gave ∙ ap (λ (n : List ℕ). n ++ (codes " <= " ++ r.first.1)) right_name.1)
    (told.0 ∙ ap (λ (n : List ℕ). front_of form.first.0 ++ n) left_name.1)
    told.1
    (signed_told r.first.1 most.first most.gave)
    ∙ ap bound_text equal

-- ---- each row

pub record Mapped {A B : Type 0} (f : A → B) (o : Option A) (b : B) : Type 0 where
  pub value : A
  pub is : o ≡ Some value
  pub made : f value ≡ b

pub mapped : {A B : Type 0} (f : A → B) (o : Option A) (b : B) → option_map f o ≡ Some b → Mapped f o b
mapped f None b e = absurd (cc e)
mapped f (Some a) b e = record { value = a; is = refl; made = cc e }

-- of two readings the one that gave something
pub either : (o p : Option Row) (r : Row) (A : Type 0) → or_else o p ≡ Some r → (o ≡ Some r → A) → (p ≡ Some r → A) → A
either None p r A e first second = second e
either (Some s) p r A e first second = first e

told_by : {A : Type 0} (f : A → Row) (o : Option A) (r : Row) (line : List ℕ) → option_map f o ≡ Some r →
    ((a : A) → o ≡ Some a → line ≡ row_text (f a)) → line ≡ row_text r
told_by f o r line e each = let m = mapped f o r e in each m.value m.is ∙ ap row_text m.made

no_run_told : (line : List ℕ) (r : Row) → if_true (same line no_run_text) row.NoRun ≡ Some r → line ≡ row_text r
no_run_told line r e =
    let both = passed (same line no_run_text) row.NoRun r e in
    same_text line no_run_text (sym both.0) ∙ ap row_text both.1

point_row_told : (line : List ℕ) (r : Row) → point_row_in line ≡ Some r → line ≡ row_text r
unfolding point_row_in
point_row_told line r e =
    either (option_map row.Heading (heading_in true line)) _ r (line ≡ row_text r) e
    (λ f. told_by row.Heading (heading_in true line) r line f (heading_told true line))
    (λ f. either (option_map row.Heading (heading_in false line)) _ r (line ≡ row_text r) f
    (λ g. told_by row.Heading (heading_in false line) r line g (heading_told false line))
    (λ g. either (if_true (same line no_run_text) row.NoRun) _ r (line ≡ row_text r) g (no_run_told line r)
    (λ h. either (option_map row.Value (value_in line)) (option_map row.Bound (bound_in line)) r (line ≡ row_text r) h
    (λ i. told_by row.Value (value_in line) r line i (value_told line))
    (λ i. told_by row.Bound (bound_in line) r line i (bound_told line)))))

pub row_told : (line : List ℕ) (r : Row) → row_in line ≡ Some r → line ≡ row_text r
unfolding row_in
row_told line r e =
    either (option_map row.Opening (opening_in line)) _ r (line ≡ row_text r) e
    (λ f. told_by row.Opening (opening_in line) r line f (opening_told line))
    (λ f. either (point_row_in line) _ r (line ≡ row_text r) f (point_row_told line r)
    (λ g. either (option_map row.Access (access_in line)) (option_map row.Counts (counts_in line)) r (line ≡ row_text r) g
    (λ h. told_by row.Access (access_in line) r line h (access_told line))
    (λ h. told_by row.Counts (counts_in line) r line h (counts_told line))))
