-- What is read as a row meets what rows have to: names that are identifiers, numbers in range, paths.
use Rattle.std.proofs.Common.{◌≡◌, ℕ, ◌<◌, ◌^◌, List, [], ◌∷◌, ◌++◌, map, refl, sym, ap, subst, ◌∙◌, Bool, true, false, cond, Option, Some, append_assoc, append-nil}
use Rattle.std.specs.Prelude.{ℤ, codes, All, is_some}
use Rattle.std.specs.Option.{option_map}
use Rattle.std.specs.List.{flat_map, join_with_byte}
use Rattle.std.specs.Fmt.{decimal}
use Rattle.std.proofs.lemmas.Bool.{and_parts}
use Rattle.std.proofs.lemmas.List.Elements.{All-nil, All-cons}
use Rattle.std.proofs.lemmas.List.Splits.{join_with_byte-slice_split}
use Rattle.pk_ctypes.specs.declared.places.Pos.{Pos}
use Rattle.pk_ctypes.specs.Places.{pos_text}
use Rattle.pk_lex.specs.Bytes.{same}
use Rattle.pk_show.specs.declared.report.Row.{Row}
use Rattle.pk_show.specs.declared.report.Row.TheVariants as row
use Rattle.pk_show.specs.declared.report.Kind.{Kind}
use Rattle.pk_show.specs.declared.rows.Verdict.{Verdict}
use Rattle.pk_show.specs.declared.rows.Verdict.TheVariants.{Safe, Unknown, Unreachable}
use Rattle.pk_show.specs.declared.rows.Counts.{Counts}
use Rattle.pk_show.specs.declared.rows.Known.{Known}
use Rattle.pk_show.specs.declared.rows.Subject.{Subject}
use Rattle.pk_show.specs.declared.rows.Subject.TheVariants.{Scalar, EachElement, Element}
use Rattle.pk_show.specs.Pieces.{if_true, strip, cut, count_in, signed_in, is_identifier, identifier_in, place_in, fault_in, with_column}
use Rattle.pk_show.specs.Paths.{CallOf, PathOf, call_text, path_text, called, call_in, calls_in, parts_of, path_of, whole_in, path_in}
use Rattle.pk_show.specs.Rows.{OpeningOf, HeadingOf, ValueOf, BoundOf, AccessOf, head_word, no_run_text}
use Rattle.pk_show.specs.Reading.{opening, heading, known, class_of, value, bound, access, counts, pair, named, opening_in, heading_in, element_in, elements_in, array_in, subject_in, class_in, known_in, value_in, form_in, bound_in, unknown_in, verdict_in, access_in, others_in, counts_in}
use Rattle.pk_show.specs.Reports.{kind_of, may_stand, point_row_in, row_in, has_path, fits, next_in}
use Rattle.pk_show.specs.Laws.{IsNumber, IsPlace, IsVerdict, IsOpening, IsKnown, IsSubject, IsValue, IsBound, AreCounts, IsCall, IsPath, TellsPath, IsRow}
use Rattle.pk_show.proofs.ToldLemmas.{steps, some_same, passed, cut_told, place_told}
use Rattle.pk_show.proofs.RowsToldLemmas.{mapped, either}
use Rattle.pk_wrong_byte_laws.proofs.PathGoes.{no_blank_in}
use Rattle.pk_wrong_byte_laws.proofs.PieceGoes.{count_small, signed_small, given}

place_small : (line column : List ℕ) (at : Pos) → place_in line column ≡ Some at → IsPlace at
unfolding place_in
place_small line column at e =
    let l = steps (count_in line) _ at e in
    let c = steps (count_in column) _ at l.then_gave in
    subst IsPlace (some_same (with_column l.first c.first) at c.then_gave)
    (record { line = count_small line l.first l.gave; column = count_small column c.first c.gave })

-- ---- paths

abbrev part_text : CallOf → List ℕ
part_text c = c.name ++ (codes "@" ++ pos_text c.at)

abbrev IsPart : List ℕ → CallOf → Type 0
IsPart part c = IsCall c × (part ≡ part_text c)

call_is : (part : List ℕ) (c : CallOf) → call_in part ≡ Some c → IsPart part c
unfolding call_in
call_is part c e =
    let n = steps (cut (codes "@") part) _ c e in
    let l = steps (cut (codes ":") n.first.1) _ c n.then_gave in
    let name = steps (identifier_in n.first.0) _ c l.then_gave in
    let at = steps (place_in l.first.0 l.first.1) _ c name.then_gave in
    let identifier = passed (is_identifier n.first.0) n.first.0 name.first name.gave in
    let placed = place_told l.first.0 l.first.1 at.first at.gave in
    let made : IsPart part (called name.first at.first) = (
      record { name = ap is_identifier (sym identifier.1) ∙ identifier.0; at = place_small l.first.0 l.first.1 at.first at.gave },
      cut_told (codes "@") part n.first n.gave
          ∙ ap (λ (t : List ℕ). t ++ (codes "@" ++ n.first.1)) identifier.1
          ∙ ap (λ (t : List ℕ). name.first ++ (codes "@" ++ t)) (
          cut_told (codes ":") n.first.1 l.first l.gave
          ∙ ap (λ (t : List ℕ). t ++ (codes ":" ++ l.first.1)) placed.0
          ∙ ap (λ (t : List ℕ). decimal at.first.line ++ (codes ":" ++ t)) placed.1
          ∙ sym (append_assoc (decimal at.first.line) (codes ":") (decimal at.first.column))),
    ) in
    subst (IsPart part) (some_same (called name.first at.first) c at.then_gave) made

abbrev AreParts : List (List ℕ) → List CallOf → Type 0
AreParts parts calls = All IsCall calls × (parts ≡ map part_text calls)

calls_are : (parts : List (List ℕ)) (calls : List CallOf) → calls_in parts ≡ Some calls → AreParts parts calls
calls_are [] calls e =
    let none : List CallOf = [] in
    subst (AreParts []) (some_same none calls e) (All-nil IsCall, refl)
calls_are (part ∷ parts) calls e =
    let c = steps (call_in part) _ calls e in
    let cs = mapped (λ calls. c.first ∷ calls) (calls_in parts) calls c.then_gave in
    let one = call_is part c.first c.gave in
    let more = calls_are parts cs.value cs.is in
    subst (AreParts (part ∷ parts)) cs.made (
      All-cons IsCall c.first cs.value one.0 more.0,
      ap (λ (p : List ℕ). p ∷ parts) one.1 ∙ ap (λ (ps : List (List ℕ)). part_text c.first ∷ ps) more.1,
    )

joined_calls : (front : List ℕ) (calls : List CallOf) → join_with_byte 62 (front ∷ map part_text calls) ≡ front ++ flat_map call_text calls
joined_calls front [] = sym (append-nil front)
joined_calls front (c ∷ calls) = ap (λ (t : List ℕ). front ++ (62 ∷ t)) (joined_calls (part_text c) calls)

whole_is : (parts : List (List ℕ)) (p : PathOf) → whole_in parts ≡ Some p → IsPath p × (join_with_byte 62 parts ≡ path_text p)
whole_is [] p e = absurd (cc e)
whole_is (part ∷ parts) p e =
    let entry = steps (identifier_in part) _ p e in
    let calls = mapped (path_of entry.first) (calls_in parts) p entry.then_gave in
    let identifier = passed (is_identifier part) part entry.first entry.gave in
    let are = calls_are parts calls.value calls.is in
    subst (λ (q : PathOf). IsPath q × (join_with_byte 62 (part ∷ parts) ≡ path_text q)) calls.made (
      record { entry = ap is_identifier (sym identifier.1) ∙ identifier.0; calls = are.0 },
      ap (λ (ps : List (List ℕ)). join_with_byte 62 (part ∷ ps)) are.1
          ∙ joined_calls part calls.value
          ∙ ap (λ (t : List ℕ). t ++ flat_map call_text calls.value) identifier.1,
    )

tells_path : (text : List ℕ) → is_some (path_in text) ≡ true → TellsPath text
tells_path text e =
    let p = given (path_in text) e in
    let is = whole_is (parts_of text) p.0 p.1 in
    (p.0, is.0, sym (join_with_byte-slice_split 62 text) ∙ is.1)

-- ---- lines

opening_is : (line : List ℕ) (o : OpeningOf) → opening_in line ≡ Some o → IsOpening o
unfolding opening_in
opening_is line o e =
    let t = steps (strip (codes "pikos 1 entry ") line) _ o e in
    let n = steps (cut (codes " points ") t.first) _ o t.then_gave in
    let p = steps (cut (codes " elements ") n.first.1) _ o n.then_gave in
    let entry = steps (identifier_in n.first.0) _ o p.then_gave in
    let points = steps (count_in p.first.0) _ o entry.then_gave in
    let elements = steps (count_in p.first.1) _ o points.then_gave in
    let identifier = passed (is_identifier n.first.0) n.first.0 entry.first entry.gave in
    subst IsOpening (some_same (opening entry.first points.first elements.first) o elements.then_gave) (record {
      entry = ap is_identifier (sym identifier.1) ∙ identifier.0;
      points = count_small p.first.0 points.first points.gave;
      elements = count_small p.first.1 elements.first elements.gave;
    })

abbrev AreOthers : ℕ × ℕ → Type 0
AreOthers p = (p.0 < 2 ^ 64) × (p.1 < 2 ^ 64)

others_are : (text : List ℕ) (p : ℕ × ℕ) → others_in text ≡ Some p → AreOthers p
unfolding others_in
others_are text p e =
    let u = steps (cut (codes " unreachable ") text) _ p e in
    let unknown = steps (count_in u.first.0) _ p u.then_gave in
    let unreachable = steps (count_in u.first.1) _ p unknown.then_gave in
    subst AreOthers (some_same (pair unknown.first unreachable.first) p unreachable.then_gave)
    (count_small u.first.0 unknown.first unknown.gave, count_small u.first.1 unreachable.first unreachable.gave)

counts_are : (line : List ℕ) (c : Counts) → counts_in line ≡ Some c → AreCounts c
unfolding counts_in
counts_are line c e =
    let t = steps (strip (codes "result safe ") line) _ c e in
    let s = steps (cut (codes " unknown ") t.first) _ c t.then_gave in
    let safe = steps (count_in s.first.0) _ c s.then_gave in
    let others = steps (others_in s.first.1) _ c safe.then_gave in
    let are = others_are s.first.1 others.first others.gave in
    subst AreCounts (some_same (counts safe.first others.first) c others.then_gave)
    (record { safe = count_small s.first.0 safe.first safe.gave; unknown = are.0; unreachable = are.1 })

abbrev IsPoint : HeadingOf → Type 0
IsPoint h = (h.point < 2 ^ 64) × IsPlace h.at

heading_is : (is_head : Bool) (line : List ℕ) (h : HeadingOf) → heading_in is_head line ≡ Some h → IsPoint h
unfolding heading_in
heading_is is_head line h e =
    let t = steps (strip (head_word is_head) line) _ h e in
    let n = steps (cut (codes " ") t.first) _ h t.then_gave in
    let path = steps (cut (codes " ") n.first.1) _ h n.then_gave in
    let place = steps (cut (codes ":") path.first.1) _ h path.then_gave in
    let point = steps (count_in n.first.0) _ h place.then_gave in
    let at = steps (place_in place.first.0 place.first.1) _ h point.then_gave in
    subst IsPoint (some_same (heading is_head point.first path.first.0 at.first) h at.then_gave)
    (count_small n.first.0 point.first point.gave, place_small place.first.0 place.first.1 at.first at.gave)

abbrev IsClass : ℤ × ℤ → Type 0
IsClass k = IsNumber k.0 × IsNumber k.1

class_is : (text : List ℕ) (k : ℤ × ℤ) → class_in text ≡ Some k → IsClass k
unfolding class_in
class_is text k e =
    let m = steps (cut (codes "Z+") text) _ k e in
    let modulus = steps (signed_in m.first.0) _ k m.then_gave in
    let rest = steps (signed_in m.first.1) _ k modulus.then_gave in
    subst IsClass (some_same (class_of modulus.first rest.first) k rest.then_gave)
    (signed_small m.first.0 modulus.first modulus.gave, signed_small m.first.1 rest.first rest.gave)

known_is : (text : List ℕ) (k : Known) → known_in text ≡ Some k → IsKnown k
unfolding known_in
known_is text k e =
    let l = steps (cut (codes ",") text) _ k e in
    let h = steps (cut (codes "] ") l.first.1) _ k l.then_gave in
    let lo = steps (signed_in l.first.0) _ k h.then_gave in
    let hi = steps (signed_in h.first.0) _ k lo.then_gave in
    let class = steps (class_in h.first.1) _ k hi.then_gave in
    let is = class_is h.first.1 class.first class.gave in
    subst IsKnown (some_same (known lo.first hi.first class.first) k class.then_gave) (record {
      lo = signed_small l.first.0 lo.first lo.gave;
      hi = signed_small h.first.0 hi.first hi.gave;
      modulus = is.0;
      rest = is.1;
    })

element_is : (text : List ℕ) (s : Subject) → element_in text ≡ Some s → IsSubject s
unfolding element_in
element_is text s e =
    let i = steps (cut (codes "]") text) _ s e in
    let number = steps (count_in i.first.0) _ s i.then_gave in
    subst IsSubject (passed (same i.first.1 []) (Element number.first) s number.then_gave).1 (count_small i.first.0 number.first number.gave)

elements_are : (text : List ℕ) (s : Subject) → elements_in text ≡ Some s → IsSubject s
unfolding elements_in
elements_are text s e = by_end (same text (codes "]")) e
  where
    by_end : (t : Bool) → cond t (Some EachElement) (element_in text) ≡ Some s → IsSubject s
    by_end true f = subst IsSubject (some_same EachElement s f) tt
    by_end false f = element_is text s f

abbrev IsNamed : List ℕ × Subject → Type 0
IsNamed p = (is_identifier p.0 ≡ true) × IsSubject p.1

array_is : (text : List ℕ) (p : List ℕ × Subject) → array_in text ≡ Some p → IsNamed p
unfolding array_in
array_is text p e =
    let n = steps (cut (codes "[") text) _ p e in
    let name = steps (identifier_in n.first.0) _ p n.then_gave in
    let s = steps (elements_in n.first.1) _ p name.then_gave in
    let is = passed (is_identifier n.first.0) n.first.0 name.first name.gave in
    subst IsNamed (some_same (named name.first s.first) p s.then_gave) (ap is_identifier (sym is.1) ∙ is.0, elements_are n.first.1 s.first s.gave)

subject_is : (text : List ℕ) (p : List ℕ × Subject) → subject_in text ≡ Some p → IsNamed p
unfolding subject_in
subject_is text p e = by_name (is_identifier text) refl e
  where
    by_name : (t : Bool) → t ≡ is_identifier text → cond t (Some (named text Scalar)) (array_in text) ≡ Some p → IsNamed p
    by_name true is f = subst IsNamed (some_same (named text Scalar) p f) (sym is, tt)
    by_name false is f = array_is text p f

value_is : (line : List ℕ) (v : ValueOf) → value_in line ≡ Some v → IsValue v
unfolding value_in
value_is line v e =
    let t = steps (strip (codes "  ") line) _ v e in
    let n = steps (cut (codes " [") t.first) _ v t.then_gave in
    let name = steps (subject_in n.first.0) _ v n.then_gave in
    let k = steps (known_in n.first.1) _ v name.then_gave in
    let is = subject_is n.first.0 name.first name.gave in
    subst IsValue (some_same (value name.first k.first) v k.then_gave)
    (record { name = is.0; subject = is.1; known = known_is n.first.1 k.first k.gave })

bound_is : (line : List ℕ) (b : BoundOf) → bound_in line ≡ Some b → IsBound b
unfolding bound_in
bound_is line b e =
    let t = steps (strip (codes "  ") line) _ b e in
    let l = steps (cut (codes " ") t.first) _ b t.then_gave in
    let s = steps (cut (codes " ") l.first.1) _ b l.then_gave in
    let r = steps (cut (codes " <= ") s.first.1) _ b s.then_gave in
    let form = steps (form_in l.first.0 s.first.0) _ b r.then_gave in
    let left = steps (identifier_in form.first.1) _ b form.then_gave in
    let right = steps (identifier_in r.first.0) _ b left.then_gave in
    let most = steps (signed_in r.first.1) _ b right.then_gave in
    let left_name = passed (is_identifier form.first.1) form.first.1 left.first left.gave in
    let right_name = passed (is_identifier r.first.0) r.first.0 right.first right.gave in
    subst IsBound (some_same (bound form.first.0 left.first right.first most.first) b most.then_gave) (record {
      left = ap is_identifier (sym left_name.1) ∙ left_name.0;
      right = ap is_identifier (sym right_name.1) ∙ right_name.0;
      most = signed_small r.first.1 most.first most.gave;
    })

unknown_is : (text : List ℕ) (v : Verdict) → unknown_in text ≡ Some v → IsVerdict v
unfolding unknown_in
unknown_is text v e =
    let range = steps (strip (codes "unknown [") text) _ v e in
    let l = steps (cut (codes ",") range.first) _ v range.then_gave in
    let h = steps (cut (codes "]") l.first.1) _ v l.then_gave in
    let lo = steps (signed_in l.first.0) _ v h.then_gave in
    let hi = steps (signed_in h.first.0) _ v lo.then_gave in
    let both = passed (same h.first.1 []) (Unknown lo.first hi.first) v hi.then_gave in
    subst IsVerdict both.1 (signed_small l.first.0 lo.first lo.gave, signed_small h.first.0 hi.first hi.gave)

verdict_is : (text : List ℕ) (v : Verdict) → verdict_in text ≡ Some v → IsVerdict v
unfolding verdict_in
verdict_is text v e = by_safe (same text (codes "safe")) (same text (codes "unreachable")) e
  where
    by_safe : (t s : Bool) → cond t (Some Safe) (cond s (Some Unreachable) (unknown_in text)) ≡ Some v → IsVerdict v
    by_safe true s f = subst IsVerdict (some_same Safe v f) tt
    by_safe false true f = subst IsVerdict (some_same Unreachable v f) tt
    by_safe false false f = unknown_is text v f

abbrev IsFound : AccessOf → Type 0
IsFound a = IsPlace a.at × IsVerdict a.verdict

access_is : (line : List ℕ) (a : AccessOf) → access_in line ≡ Some a → IsFound a
unfolding access_in
access_is line a e =
    let t = steps (strip (codes "access ") line) _ a e in
    let path = steps (cut (codes " ") t.first) _ a t.then_gave in
    let l = steps (cut (codes ":") path.first.1) _ a path.then_gave in
    let c = steps (cut (codes " ") l.first.1) _ a l.then_gave in
    let kind = steps (cut (codes " ") c.first.1) _ a c.then_gave in
    let at = steps (place_in l.first.0 c.first.0) _ a kind.then_gave in
    let fault = steps (fault_in kind.first.0) _ a at.then_gave in
    let verdict = steps (verdict_in kind.first.1) _ a fault.then_gave in
    subst IsFound (some_same (access path.first.0 at.first fault.first verdict.first) a verdict.then_gave)
    (place_small l.first.0 c.first.0 at.first at.gave, verdict_is kind.first.1 verdict.first verdict.gave)

-- ---- each row

-- a row whose path is one is a row as it has to be
abbrev IsRead : Row → Type 0
IsRead r = has_path r ≡ true → IsRow r

by_row : {A : Type 0} (f : A → Row) (o : Option A) (r : Row) → option_map f o ≡ Some r → ((a : A) → o ≡ Some a → IsRead (f a)) → IsRead r
by_row f o r e each = let m = mapped f o r e in subst IsRead m.made (each m.value m.is)

heading_read : (is_head : Bool) (line : List ℕ) (h : HeadingOf) → heading_in is_head line ≡ Some h → IsRead (row.Heading h)
unfolding has_path
heading_read is_head line h e has =
    let path = tells_path h.path has in
    let is = heading_is is_head line h e in
    (record { point = is.0; path = no_blank_in h.path path; at = is.1 }, path)

access_read : (line : List ℕ) (a : AccessOf) → access_in line ≡ Some a → IsRead (row.Access a)
unfolding has_path
access_read line a e has =
    let path = tells_path a.path has in
    let is = access_is line a e in
    (record { path = no_blank_in a.path path; at = is.0; verdict = is.1 }, path)

point_row_is : (line : List ℕ) (r : Row) → point_row_in line ≡ Some r → IsRead r
unfolding point_row_in
point_row_is line r e =
    either (option_map row.Heading (heading_in true line)) _ r (IsRead r) e
    (λ f. by_row row.Heading (heading_in true line) r f (heading_read true line))
    (λ f. either (option_map row.Heading (heading_in false line)) _ r (IsRead r) f
    (λ g. by_row row.Heading (heading_in false line) r g (heading_read false line))
    (λ g. either (if_true (same line no_run_text) row.NoRun) _ r (IsRead r) g
    (λ h has. subst IsRow (passed (same line no_run_text) row.NoRun r h).1 tt)
    (λ h. either (option_map row.Value (value_in line)) (option_map row.Bound (bound_in line)) r (IsRead r) h
    (λ i. by_row row.Value (value_in line) r i (λ v w has. value_is line v w))
    (λ i. by_row row.Bound (bound_in line) r i (λ b w has. bound_is line b w)))))

row_is : (line : List ℕ) (r : Row) → row_in line ≡ Some r → IsRead r
unfolding row_in
row_is line r e =
    either (option_map row.Opening (opening_in line)) _ r (IsRead r) e
    (λ f. by_row row.Opening (opening_in line) r f (λ o w has. opening_is line o w))
    (λ f. either (point_row_in line) _ r (IsRead r) f (point_row_is line r)
    (λ g. either (option_map row.Access (access_in line)) (option_map row.Counts (counts_in line)) r (IsRead r) g
    (λ h. by_row row.Access (access_in line) r h (access_read line))
    (λ h. by_row row.Counts (counts_in line) r h (λ c w has. counts_are line c w))))

pub next_is_row : (before : Option Kind) (line : List ℕ) (r : Row) → next_in before line ≡ Some r → (may_stand before (kind_of r) ≡ true) × IsRow r
unfolding next_in fits
next_is_row before line r e =
    let s = steps (row_in line) _ r e in
    let both = passed (fits before s.first) s.first r s.then_gave in
    let fit = and_parts (may_stand before (kind_of s.first)) (has_path s.first) both.0 in (
      ap (λ (t : Row). may_stand before (kind_of t)) (sym both.1) ∙ fit.0,
      subst IsRow both.1 (row_is line s.first s.gave fit.1),
    )
