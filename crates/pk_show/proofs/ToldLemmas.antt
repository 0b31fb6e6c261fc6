-- What is read of a line is what the line says.
use Rattle.std.proofs.Common.{◌≡◌, ℕ, zero, suc, ◌^◌, List, [], ◌∷◌, ◌++◌, length, take, drop, refl, sym, ap, ◌∙◌, Bool, true, false, not, cond, ◌&&◌, Option, Some, None, nat_lt, take-append-drop}
use Rattle.std.specs.Prelude.{ℤ, pos, negsuc, codes}
use Rattle.std.specs.Option.{option_map, option_and_then}
use Rattle.std.specs.Fmt.{decimal, signed_decimal}
use Rattle.std.specs.Str.Parse.{digits_value}
use Rattle.std.specs.Cmp.Lexicographic.{same_text}
use Rattle.std.proofs.lemmas.Bool.{and_parts, eqb-true}
use Rattle.std.proofs.lemmas.List.{length-take-le}
use Rattle.std.proofs.lemmas.List.Sums.{prefix_len-le-length}
use Rattle.pk_ctypes.specs.declared.faults.Fault.{Fault}
use Rattle.pk_ctypes.specs.declared.faults.Fault.TheVariants.{Index, DivZero, Overflow, Shift, Assert}
use Rattle.pk_ctypes.specs.declared.places.Pos.{Pos}
use Rattle.pk_ctypes.specs.Places.{pos_text}
use Rattle.pk_ctypes.specs.Words.{fault_text}
use Rattle.pk_lex.specs.Bytes.{begins_with, same}
use Rattle.pk_show.specs.declared.rows.Verdict.{Verdict}
use Rattle.pk_show.specs.declared.rows.Verdict.TheVariants.{Safe, Unknown, Unreachable}
use Rattle.pk_show.specs.Pieces.{if_true, strip, field_of, cut, magnitude_in, count_in, negated, signed_in, place_in, fault_in}
use Rattle.pk_show.specs.Rows.{AccessOf, verdict_text, access_text}
use Rattle.pk_show.specs.Reading.{unknown_in, verdict_in, access, access_in}
use Rattle.pk_show.proofs.PieceLemmas.{strip_told, place_onto}

-- both steps of a reading have given something
pub record Steps {A B : Type 0} (o : Option A) (f : A → Option B) (b : B) : Type 0 where
  pub first : A
  pub gave : o ≡ Some first
  pub then_gave : f first ≡ Some b

pub steps : {A B : Type 0} (o : Option A) (f : A → Option B) (b : B) → option_and_then f o ≡ Some b → Steps o f b
steps None f b e = absurd (cc e)
steps (Some a) f b e = record { first = a; gave = refl; then_gave = e }

pub some_same : {A : Type 0} (a b : A) → Some a ≡ Some b → a ≡ b
some_same a b e = cc e

pub passed : {A : Type 0} (t : Bool) (a b : A) → if_true t a ≡ Some b → (t ≡ true) × (a ≡ b)
passed true a b e = (refl, cc e)
passed false a b e = absurd (cc e)

-- ---- pieces

pub cut_told : (literal text : List ℕ) (p : List ℕ × List ℕ) → cut literal text ≡ Some p → text ≡ p.0 ++ (literal ++ p.1)
unfolding cut
cut_told literal text p e = told (strip literal (drop (length field) text)) refl e
  where
    field : List ℕ
    field = field_of literal text

    front : take (length field) text ≡ field
    front = ap (λ (n : ℕ). take n text) (length-take-le _ text (prefix_len-le-length (λ b. not (begins_with b literal)) text))

    told : (o : Option (List ℕ)) → o ≡ strip literal (drop (length field) text) →
        option_map (λ rest. let q : List ℕ × List ℕ = (field, rest) in q) o ≡ Some p → text ≡ p.0 ++ (literal ++ p.1)
    told None s f = absurd (cc f)
    told (Some rest) s f =
        let q : List ℕ × List ℕ = (field, rest) in
        let same : q ≡ p = cc f in
        let behind = strip_told literal (drop (length field) text) rest (sym s) in
        sym (take-append-drop (length field) text)
        ∙ ap (λ (l : List ℕ). l ++ drop (length field) text) front
        ∙ ap (λ (l : List ℕ). field ++ l) behind
        ∙ ap (λ (r : List ℕ × List ℕ). r.0 ++ (literal ++ r.1)) same

magnitude_told : (text : List ℕ) (n : ℕ) → magnitude_in text ≡ Some n → text ≡ decimal n
unfolding magnitude_in
magnitude_told text n e =
    let k = digits_value 10 text in
    let both = passed (same (decimal k) text && nat_lt k (2 ^ 127)) k n e in
    let written = and_parts (same (decimal k) text) (nat_lt k (2 ^ 127)) both.0 in
    sym (same_text (decimal k) text (sym written.0)) ∙ ap decimal both.1

pub count_told : (text : List ℕ) (n : ℕ) → count_in text ≡ Some n → text ≡ decimal n
unfolding count_in
count_told text n e =
    let s = steps (magnitude_in text) _ n e in
    let both = passed (nat_lt s.first (2 ^ 64)) s.first n s.then_gave in
    magnitude_told text s.first s.gave ∙ ap decimal both.1

pub minus_told : (text : List ℕ) → begins_with 45 text ≡ true → text ≡ 45 ∷ drop 1 text
minus_told [] h = absurd (cc h)
minus_told (b ∷ text) h = ap (λ (c : ℕ). c ∷ text) (eqb-true b 45 h)

negated_told : (n : ℕ) (z : ℤ) → negated n ≡ Some z → 45 ∷ decimal n ≡ signed_decimal z
negated_told zero z e = absurd (cc e)
negated_told (suc n) z e = let same : negsuc n ≡ z = cc e in ap signed_decimal same

pub signed_told : (text : List ℕ) (z : ℤ) → signed_in text ≡ Some z → text ≡ signed_decimal z
unfolding signed_in
signed_told text z e = by_sign (begins_with 45 text) refl e
  where
    plain : (o : Option ℕ) → o ≡ magnitude_in text → option_map pos o ≡ Some z → text ≡ signed_decimal z
    plain None m f = absurd (cc f)
    plain (Some n) m f = let same : pos n ≡ z = cc f in magnitude_told text n (sym m) ∙ ap signed_decimal same

    by_sign : (is_minus : Bool) → is_minus ≡ begins_with 45 text →
        cond is_minus (option_and_then negated (magnitude_in (drop 1 text))) (option_map pos (magnitude_in text)) ≡ Some z → text ≡ signed_decimal z
    by_sign true m f =
        let s = steps (magnitude_in (drop 1 text)) negated z f in
        minus_told text (sym m) ∙ ap (λ (l : List ℕ). 45 ∷ l) (magnitude_told (drop 1 text) s.first s.gave) ∙ negated_told s.first z s.then_gave
    by_sign false m f = plain (magnitude_in text) refl f

pub place_told : (line column : List ℕ) (at : Pos) → place_in line column ≡ Some at → (line ≡ decimal at.line) × (column ≡ decimal at.column)
unfolding place_in
place_told line column at e =
    let l = steps (count_in line) _ at e in
    let c = steps (count_in column) _ at l.then_gave in
    let place : Pos = record { line = l.first; column = c.first } in
    let same : place ≡ at = some_same place at c.then_gave in
    (count_told line l.first l.gave ∙ ap (λ (p : Pos). decimal p.line) same, count_told column c.first c.gave ∙ ap (λ (p : Pos). decimal p.column) same)

fault_told : (text : List ℕ) (f : Fault) → fault_in text ≡ Some f → text ≡ fault_text f
unfolding fault_in
fault_told text f e =
    first (same text (fault_text Index)) Index _ refl (λ e1.
    first (same text (fault_text DivZero)) DivZero _ refl (λ e2.
    first (same text (fault_text Overflow)) Overflow _ refl (λ e3.
    first (same text (fault_text Shift)) Shift _ refl (λ e4.
    first (same text (fault_text Assert)) Assert None refl (λ e5. absurd (cc e5)) e4) e3) e2) e1) e
  where
    first : (t : Bool) (g : Fault) (rest : Option Fault) → t ≡ same text (fault_text g) → (rest ≡ Some f → text ≡ fault_text f) →
        cond t (Some g) rest ≡ Some f → text ≡ fault_text f
    first true g rest s more h = let equal : g ≡ f = cc h in same_text text (fault_text g) s ∙ ap fault_text equal
    first false g rest s more h = more h

-- ---- an access

unknown_told : (text : List ℕ) (v : Verdict) → unknown_in text ≡ Some v → text ≡ verdict_text v
unfolding unknown_in
unknown_told text v e =
    let r = steps (strip (codes "unknown [") text) _ v e in
    let l = steps (cut (codes ",") r.first) _ v r.then_gave in
    let h = steps (cut (codes "]") l.first.1) _ v l.then_gave in
    let lo = steps (signed_in l.first.0) _ v h.then_gave in
    let hi = steps (signed_in h.first.0) _ v lo.then_gave in
    let end = passed (same h.first.1 []) (Unknown lo.first hi.first) v hi.then_gave in
    let low = signed_told l.first.0 lo.first lo.gave in
    let high = signed_told h.first.0 hi.first hi.gave in
    let last : h.first.1 ≡ [] = same_text h.first.1 [] (sym end.0) in
    strip_told (codes "unknown [") text r.first r.gave
    ∙ ap (λ (t : List ℕ). codes "unknown [" ++ t) (
    cut_told (codes ",") r.first l.first l.gave
    ∙ ap (λ (t : List ℕ). l.first.0 ++ (codes "," ++ t)) (
    cut_told (codes "]") l.first.1 h.first h.gave ∙ ap (λ (t : List ℕ). h.first.0 ++ (codes "]" ++ t)) last
    ∙ ap (λ (t : List ℕ). t ++ codes "]") high)
    ∙ ap (λ (t : List ℕ). t ++ (codes "," ++ (signed_decimal hi.first ++ codes "]"))) low)
    ∙ ap verdict_text end.1

verdict_told : (text : List ℕ) (v : Verdict) → verdict_in text ≡ Some v → text ≡ verdict_text v
unfolding verdict_in
verdict_told text v e = by_safe (same text (codes "safe")) refl e
  where
    by_end : (t : Bool) → t ≡ same text (codes "unreachable") → cond t (Some Unreachable) (unknown_in text) ≡ Some v → text ≡ verdict_text v
    by_end true s f = let equal : Unreachable ≡ v = cc f in same_text text (codes "unreachable") s ∙ ap verdict_text equal
    by_end false s f = unknown_told text v f

    by_safe : (t : Bool) → t ≡ same text (codes "safe") →
        cond t (Some Safe) (cond (same text (codes "unreachable")) (Some Unreachable) (unknown_in text)) ≡ Some v → text ≡ verdict_text v
    by_safe true s f = let equal : Safe ≡ v = cc f in same_text text (codes "safe") s ∙ ap verdict_text equal
    by_safe false s f = by_end (same text (codes "unreachable")) refl f

joined : (line text front back behind last path l c kind : List ℕ) (at : Pos) (f : Fault) (verdict : List ℕ) →
    line ≡ codes "access " ++ text → text ≡ path ++ (codes " " ++ front) → front ≡ l ++ (codes ":" ++ back) → back ≡ c ++ (codes " " ++ behind) →
    behind ≡ kind ++ (codes " " ++ last) → l ≡ decimal at.line → c ≡ decimal at.column → kind ≡ fault_text f → last ≡ verdict →
    line ≡ codes "access " ++ (path ++ (codes " " ++ (pos_text at ++ (codes " " ++ (fault_text f ++ (codes " " ++ verdict))))))
joined line text front back behind last path l c kind at f verdict e1 e2 e3 e4 e5 e6 e7 e8 e9 =
    let place = place_onto at (codes " " ++ (fault_text f ++ (codes " " ++ verdict))) in
    rw (e1, e2, e3, e4, e5, e6, e7, e8, e9, place) refl

pub access_told : (line : List ℕ) (a : AccessOf) → access_in line ≡ Some a → line ≡ access_text a
unfolding access_in
access_told line a e =
    let t = steps (strip (codes "access ") line) _ a e in
    let p = steps (cut (codes " ") t.first) _ a t.then_gave in
    let l = steps (cut (codes ":") p.first.1) _ a p.then_gave in
    let c = steps (cut (codes " ") l.first.1) _ a l.then_gave in
    let k = steps (cut (codes " ") c.first.1) _ a c.then_gave in
    let at = steps (place_in l.first.0 c.first.0) _ a k.then_gave in
    let f = steps (fault_in k.first.0) _ a at.then_gave in
    let v = steps (verdict_in k.first.1) _ a f.then_gave in
    let made : AccessOf = access p.first.0 at.first f.first v.first in
    let same : made ≡ a = some_same made a v.then_gave in
    let placed = place_told l.first.0 c.first.0 at.first at.gave in
    joined line t.first p.first.1 l.first.1 c.first.1 k.first.1 p.first.0 l.first.0 c.first.0 k.first.0 at.first f.first (verdict_text v.first)
    (strip_told (codes "access ") line t.first t.gave)
    (cut_told (codes " ") t.first p.first p.gave)
    (cut_told (codes ":") p.first.1 l.first l.gave)
    (cut_told (codes " ") l.first.1 c.first c.gave)
    (cut_told (codes " ") c.first.1 k.first k.gave)
    placed.0 placed.1
    (fault_told k.first.0 f.first f.gave)
    (verdict_told k.first.1 v.first v.gave)
    ∙ ap access_text same
