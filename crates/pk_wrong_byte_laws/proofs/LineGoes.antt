-- How far a text goes as each line of a report.
use Rattle.std.proofs.Common.{◌≡◌, ℕ, ◌<◌, ◌^◌, List, [], ◌∷◌, ◌++◌, refl, sym, ap, subst, ◌∙◌, Bool, false, append_assoc}
use Rattle.std.specs.Prelude.{ℤ, codes}
use Rattle.std.specs.Fmt.{decimal, signed_decimal}
use Rattle.pk_ctypes.specs.declared.faults.Fault.{Fault}
use Rattle.pk_ctypes.specs.Places.{pos_text}
use Rattle.pk_ctypes.specs.Words.{fault_text}
use Rattle.pk_lex.specs.Bytes.{is_part}
use Rattle.pk_show.specs.declared.rows.Form.{Form}
use Rattle.pk_show.specs.declared.rows.Verdict.{Verdict}
use Rattle.pk_show.specs.declared.rows.Verdict.TheVariants.{Safe, Unknown, Unreachable}
use Rattle.pk_show.specs.declared.rows.Counts.{Counts}
use Rattle.pk_show.specs.declared.rows.Known.{Known}
use Rattle.pk_show.specs.declared.rows.Subject.{Subject}
use Rattle.pk_show.specs.declared.rows.Subject.TheVariants.{Scalar, EachElement, Element}
use Rattle.pk_show.specs.Rows.{OpeningOf, HeadingOf, ValueOf, BoundOf, AccessOf, opening_text, heading_text, value_text, known_text, class_text, bound_text, access_text, verdict_text, counts_text, head_word, mark_of, front_of, sign_of}
use Rattle.pk_show.specs.Laws.{IsNumber, IsVerdict, IsOpening, IsHeading, IsKnown, IsSubject, IsValue, IsBound, IsAccess, AreCounts, TellsPath}
use Rattle.pk_wrong_byte.specs.Pieces.{ReachedOf, literal, name, count, number, place, path}
use Rattle.pk_wrong_byte.specs.Lines.{opening, heading, known, value, element, bound, unknown, access, counts}
use Rattle.pk_wrong_byte_laws.proofs.Alike.{Apart}
use Rattle.pk_wrong_byte_laws.proofs.Numerals.{is_decimal}
use Rattle.pk_wrong_byte_laws.proofs.Goes.{Then, then_is, IsPiece, seq, retold_piece, HasBehind, nothing, after_literal, literal_next, literal_last}
use Rattle.pk_wrong_byte_laws.proofs.PieceGoes.{Is, IsNameText, IsCountText, IsNumberText, literal_piece, name_piece, count_piece, number_piece}
use Rattle.pk_wrong_byte_laws.proofs.PathGoes.{IsPlaceText, place_piece, is_no_blank, path_piece, no_blank_in}

after_lit : (l : List ℕ) (Q : List ℕ → Type 0) (behind : ℕ → Bool) (g : ReachedOf → ReachedOf) → IsPiece Q behind g →
    IsPiece (Then (Is l) Q) behind (λ r. g (literal l r))
after_lit l Q behind g q = seq (Is l) Q nothing behind (literal l) g (literal_piece l nothing) q (after_literal Q behind)

then_lit : (P : List ℕ → Type 0) (test : ℕ → Bool) (f : ReachedOf → ReachedOf) (c : ℕ) (l : List ℕ) (Q : List ℕ → Type 0) (behind : ℕ → Bool)
    (g : ReachedOf → ReachedOf) → IsPiece P test f → test c ≡ false → IsPiece Q behind g →
    IsPiece (Then P (Then (Is (c ∷ l)) Q)) behind (λ r. g (literal (c ∷ l) (f r)))
then_lit P test f c l Q behind g p e q =
    seq P (Then (Is (c ∷ l)) Q) test behind f (λ r. g (literal (c ∷ l) r)) p (after_lit (c ∷ l) Q behind g q) (literal_next test c l Q behind e)

-- ---- the first line, and the last

abbrev pub OpeningText : List ℕ → Type 0
OpeningText u = (o : OpeningOf) × IsOpening o × (u ≡ opening_text o)

abbrev OpeningParts : List ℕ → Type 0
OpeningParts = Then (Is (codes "pikos 1 entry ")) (Then IsNameText (Then (Is (codes " points ")) (Then IsCountText (Then (Is (codes " elements ")) IsCountText))))

opening_there : (u : List ℕ) → OpeningParts u → OpeningText u
opening_there u h =
    let e = h.is_second in
    let p = e.is_second in
    let n = p.is_second in
    let l = n.is_second in
    let points = n.is_first in
    let elements = l.is_second in (
      record { entry = e.first; points = points.number; elements = elements.number },
      record { entry = e.is_first; points = points.small; elements = elements.small },
      then_is u h (codes "pikos 1 entry ") _ h.is_first (then_is _ e e.first _ refl (then_is _ p (codes " points ") _ p.is_first
          (then_is _ n (decimal points.number) _ points.is (then_is _ l (codes " elements ") (decimal elements.number) l.is_first elements.is)))),
    )

opening_back : (u : List ℕ) → OpeningText u → OpeningParts u
opening_back u h = record {
  first = codes "pikos 1 entry ";
  second = h.0.entry ++ (codes " points " ++ (decimal h.0.points ++ (codes " elements " ++ decimal h.0.elements)));
  is_first = refl;
  is_second = record {
    first = h.0.entry;
    second = codes " points " ++ (decimal h.0.points ++ (codes " elements " ++ decimal h.0.elements));
    is_first = h.1.entry;
    is_second = record {
      first = codes " points ";
      second = decimal h.0.points ++ (codes " elements " ++ decimal h.0.elements);
      is_first = refl;
      is_second = record {
        first = decimal h.0.points;
        second = codes " elements " ++ decimal h.0.elements;
        is_first = record { number = h.0.points; small = h.1.points; is = refl };
        is_second = record {
          first = codes " elements ";
          second = decimal h.0.elements;
          is_first = refl;
          is_second = record { number = h.0.elements; small = h.1.elements; is = refl };
          joined = refl;
        };
        joined = refl;
      };
      joined = refl;
    };
    joined = refl;
  };
  joined = h.2;
}

pub opening_piece : IsPiece OpeningText is_decimal opening
unfolding opening
opening_piece =
    retold_piece OpeningParts OpeningText is_decimal opening opening_there opening_back
    (after_lit (codes "pikos 1 entry ") _ is_decimal _
    (then_lit IsNameText is_part name 32 (codes "points ") _ is_decimal _ name_piece refl
    (then_lit IsCountText is_decimal count 32 (codes "elements ") IsCountText is_decimal count count_piece refl count_piece)))

abbrev pub CountsText : List ℕ → Type 0
CountsText u = (c : Counts) × AreCounts c × (u ≡ counts_text c)

abbrev CountsParts : List ℕ → Type 0
CountsParts = Then (Is (codes "result safe ")) (Then IsCountText (Then (Is (codes " unknown ")) (Then IsCountText (Then (Is (codes " unreachable ")) IsCountText))))

counts_there : (u : List ℕ) → CountsParts u → CountsText u
counts_there u h =
    let s = h.is_second in
    let p = s.is_second in
    let n = p.is_second in
    let l = n.is_second in
    let safe = s.is_first in
    let unknown = n.is_first in
    let unreachable = l.is_second in (
      record { safe = safe.number; unknown = unknown.number; unreachable = unreachable.number },
      record { safe = safe.small; unknown = unknown.small; unreachable = unreachable.small },
      then_is u h (codes "result safe ") _ h.is_first (then_is _ s (decimal safe.number) _ safe.is (then_is _ p (codes " unknown ") _ p.is_first
          (then_is _ n (decimal unknown.number) _ unknown.is (then_is _ l (codes " unreachable ") (decimal unreachable.number) l.is_first unreachable.is)))),
    )

counts_back : (u : List ℕ) → CountsText u → CountsParts u
counts_back u h = record {
  first = codes "result safe ";
  second = decimal h.0.safe ++ (codes " unknown " ++ (decimal h.0.unknown ++ (codes " unreachable " ++ decimal h.0.unreachable)));
  is_first = refl;
  is_second = record {
    first = decimal h.0.safe;
    second = codes " unknown " ++ (decimal h.0.unknown ++ (codes " unreachable " ++ decimal h.0.unreachable));
    is_first = record { number = h.0.safe; small = h.1.safe; is = refl };
    is_second = record {
      first = codes " unknown ";
      second = decimal h.0.unknown ++ (codes " unreachable " ++ decimal h.0.unreachable);
      is_first = refl;
      is_second = record {
        first = decimal h.0.unknown;
        second = codes " unreachable " ++ decimal h.0.unreachable;
        is_first = record { number = h.0.unknown; small = h.1.unknown; is = refl };
        is_second = record {
          first = codes " unreachable ";
          second = decimal h.0.unreachable;
          is_first = refl;
          is_second = record { number = h.0.unreachable; small = h.1.unreachable; is = refl };
          joined = refl;
        };
        joined = refl;
      };
      joined = refl;
    };
    joined = refl;
  };
  joined = h.2;
}

pub counts_piece : IsPiece CountsText is_decimal counts
unfolding counts
counts_piece =
    retold_piece CountsParts CountsText is_decimal counts counts_there counts_back
    (after_lit (codes "result safe ") _ is_decimal _
    (then_lit IsCountText is_decimal count 32 (codes "unknown ") _ is_decimal _ count_piece refl
    (then_lit IsCountText is_decimal count 32 (codes "unreachable ") IsCountText is_decimal count count_piece refl count_piece)))

-- ---- points

abbrev pub HeadingText : Bool → List ℕ → Type 0
HeadingText is_head u = (h : HeadingOf) × (IsHeading h × TellsPath h.path) × (h.is_head ≡ is_head) × (u ≡ heading_text h)

abbrev HeadingParts : Bool → List ℕ → Type 0
HeadingParts is_head = Then (Is (head_word is_head)) (Then IsCountText (Then (Is (codes " ")) (Then TellsPath (Then (Is (codes " ")) IsPlaceText))))

heading_there : (is_head : Bool) (u : List ℕ) → HeadingParts is_head u → HeadingText is_head u
heading_there is_head u h =
    let n = h.is_second in
    let b = n.is_second in
    let p = b.is_second in
    let l = p.is_second in
    let point = n.is_first in
    let at = l.is_second in (
      record { is_head = is_head; point = point.number; path = p.first; at = at.at },
      (record { point = point.small; path = no_blank_in p.first p.is_first; at = at.small }, p.is_first),
      refl,
      then_is u h (head_word is_head) _ h.is_first (then_is _ n (decimal point.number) _ point.is (then_is _ b (codes " ") _ b.is_first
          (then_is _ p p.first _ refl (then_is _ l (codes " ") (pos_text at.at) l.is_first at.is)))),
    )

heading_back : (is_head : Bool) (u : List ℕ) → HeadingText is_head u → HeadingParts is_head u
heading_back is_head u h = record {
  first = head_word h.0.is_head;
  second = decimal h.0.point ++ (codes " " ++ (h.0.path ++ (codes " " ++ pos_text h.0.at)));
  is_first = ap head_word h.2;
  is_second = record {
    first = decimal h.0.point;
    second = codes " " ++ (h.0.path ++ (codes " " ++ pos_text h.0.at));
    is_first = record { number = h.0.point; small = h.1.0.point; is = refl };
    is_second = record {
      first = codes " ";
      second = h.0.path ++ (codes " " ++ pos_text h.0.at);
      is_first = refl;
      is_second = record {
        first = h.0.path;
        second = codes " " ++ pos_text h.0.at;
        is_first = h.1.1;
        is_second = record {
          first = codes " ";
          second = pos_text h.0.at;
          is_first = refl;
          is_second = record { at = h.0.at; small = h.1.0.at; is = refl };
          joined = refl;
        };
        joined = refl;
      };
      joined = refl;
    };
    joined = refl;
  };
  joined = h.3;
}

pub heading_piece : (is_head : Bool) → IsPiece (HeadingText is_head) is_decimal (heading is_head)
unfolding heading
heading_piece is_head =
    retold_piece (HeadingParts is_head) (HeadingText is_head) is_decimal (heading is_head) (heading_there is_head) (heading_back is_head)
    (after_lit (head_word is_head) _ is_decimal _
    (then_lit IsCountText is_decimal count 32 [] _ is_decimal _ count_piece refl
    (then_lit TellsPath is_no_blank path 32 [] IsPlaceText is_decimal place path_piece refl place_piece)))

-- ---- variables

abbrev KnownText : List ℕ → Type 0
KnownText u = (k : Known) × IsKnown k × (u ≡ known_text k)

abbrev KnownParts : List ℕ → Type 0
KnownParts = Then IsNumberText (Then (Is (codes ",")) (Then IsNumberText (Then (Is (codes "] ")) (Then IsNumberText (Then (Is (codes "Z+")) IsNumberText)))))

known_there : (u : List ℕ) → KnownParts u → KnownText u
known_there u h =
    let c = h.is_second in
    let n = c.is_second in
    let d = n.is_second in
    let m = d.is_second in
    let z = m.is_second in
    let lo = h.is_first in
    let hi = n.is_first in
    let modulus = m.is_first in
    let rest = z.is_second in (
      record { lo = lo.number; hi = hi.number; modulus = modulus.number; rest = rest.number },
      record { lo = lo.small; hi = hi.small; modulus = modulus.small; rest = rest.small },
      then_is u h (signed_decimal lo.number) _ lo.is (then_is _ c (codes ",") _ c.is_first (then_is _ n (signed_decimal hi.number) _ hi.is
          (then_is _ d (codes "] ") _ d.is_first (then_is _ m (signed_decimal modulus.number) _ modulus.is
          (then_is _ z (codes "Z+") (signed_decimal rest.number) z.is_first rest.is))))),
    )

known_back : (u : List ℕ) → KnownText u → KnownParts u
known_back u h = record {
  first = signed_decimal h.0.lo;
  second = codes "," ++ (signed_decimal h.0.hi ++ (codes "] " ++ class_text h.0));
  is_first = record { number = h.0.lo; small = h.1.lo; is = refl };
  is_second = record {
    first = codes ",";
    second = signed_decimal h.0.hi ++ (codes "] " ++ class_text h.0);
    is_first = refl;
    is_second = record {
      first = signed_decimal h.0.hi;
      second = codes "] " ++ class_text h.0;
      is_first = record { number = h.0.hi; small = h.1.hi; is = refl };
      is_second = record {
        first = codes "] ";
        second = class_text h.0;
        is_first = refl;
        is_second = record {
          first = signed_decimal h.0.modulus;
          second = codes "Z+" ++ signed_decimal h.0.rest;
          is_first = record { number = h.0.modulus; small = h.1.modulus; is = refl };
          is_second = record {
            first = codes "Z+";
            second = signed_decimal h.0.rest;
            is_first = refl;
            is_second = record { number = h.0.rest; small = h.1.rest; is = refl };
            joined = refl;
          };
          joined = refl;
        };
        joined = refl;
      };
      joined = refl;
    };
    joined = refl;
  };
  joined = h.2;
}

known_piece : IsPiece KnownText is_decimal known
unfolding known
known_piece =
    retold_piece KnownParts KnownText is_decimal known known_there known_back
    (then_lit IsNumberText is_decimal number 44 [] _ is_decimal _ number_piece refl
    (then_lit IsNumberText is_decimal number 93 (codes " ") _ is_decimal _ number_piece refl
    (then_lit IsNumberText is_decimal number 90 (codes "+") IsNumberText is_decimal number number_piece refl number_piece)))

-- a line of values about such subjects
abbrev pub ValueText : (Subject → Type 0) → List ℕ → Type 0
ValueText S u = (v : ValueOf) × IsValue v × S v.subject × (u ≡ value_text v)

abbrev pub IsScalar : Subject → Type 0
IsScalar Scalar = Unit {0}
IsScalar EachElement = ⊥
IsScalar (Element i) = ⊥

abbrev pub IsEachElement : Subject → Type 0
IsEachElement Scalar = ⊥
IsEachElement EachElement = Unit {0}
IsEachElement (Element i) = ⊥

abbrev pub IsElement : Subject → Type 0
IsElement Scalar = ⊥
IsElement EachElement = ⊥
IsElement (Element i) = Unit {0}

abbrev BehindMark : List ℕ → Type 0
BehindMark = Then (Is (codes " [")) KnownText

abbrev ValueParts : (mark : List ℕ) → List ℕ → Type 0
ValueParts mark = Then (Is (codes "  ")) (Then IsNameText (Then (Is mark) BehindMark))

value_text_is : (u mark : List ℕ) (h : ValueParts mark u) → u ≡ codes "  " ++ ((h.is_second.first ++ mark) ++ (codes " [" ++ known_text h.is_second.is_second.is_second.is_second.0))
value_text_is u mark h =
    let n = h.is_second in
    let m = n.is_second in
    let b = m.is_second in
    let k = b.is_second in
    then_is u h (codes "  ") _ h.is_first
    (then_is _ n n.first (mark ++ (codes " [" ++ known_text k.0)) refl (then_is _ m mark _ m.is_first (then_is _ b (codes " [") (known_text k.0) b.is_first k.2))
    ∙ sym (append_assoc n.first mark (codes " [" ++ known_text k.0)))

value_there : (S : Subject → Type 0) (s : Subject) → S s → IsSubject s → (u : List ℕ) → ValueParts (mark_of s) u → ValueText S u
value_there S s is small u h =
    let n = h.is_second in
    let k = n.is_second.is_second.is_second in (
      record { name = n.first; subject = s; known = k.0 },
      record { name = n.is_first; subject = small; known = k.1 },
      is,
      value_text_is u (mark_of s) h,
    )

value_parts : (v : ValueOf) (mark u : List ℕ) → IsValue v → mark_of v.subject ≡ mark → u ≡ value_text v → ValueParts mark u
value_parts v mark u h is e = record {
  first = codes "  ";
  second = (v.name ++ mark_of v.subject) ++ (codes " [" ++ known_text v.known);
  is_first = refl;
  is_second = record {
    first = v.name;
    second = mark_of v.subject ++ (codes " [" ++ known_text v.known);
    is_first = h.name;
    is_second = record {
      first = mark_of v.subject;
      second = codes " [" ++ known_text v.known;
      is_first = is;
      is_second = record {
        first = codes " [";
        second = known_text v.known;
        is_first = refl;
        is_second = (v.known, h.known, refl);
        joined = refl;
      };
      joined = refl;
    };
    joined = append_assoc v.name (mark_of v.subject) (codes " [" ++ known_text v.known);
  };
  joined = e;
}

is_scalar : (s : Subject) → IsScalar s → mark_of s ≡ []
is_scalar Scalar is = refl
is_scalar EachElement is = absurd is
is_scalar (Element i) is = absurd is

is_each : (s : Subject) → IsEachElement s → mark_of s ≡ codes "[]"
is_each Scalar is = absurd is
is_each EachElement is = refl
is_each (Element i) is = absurd is

scalar_behind : HasBehind is_part (Then (Is []) BehindMark) is_decimal
scalar_behind b w h a =
    let k = h.is_second in
    subst (λ (t : List ℕ). Apart is_part (t ++ w)) (sym (then_is b h [] (codes " [" ++ k.second) h.is_first (then_is h.second k (codes " [") k.second k.is_first refl))) refl

marked_piece : (mark : List ℕ) → HasBehind is_part (Then (Is mark) BehindMark) is_decimal → IsPiece (ValueParts mark) is_decimal (value mark)
unfolding value
marked_piece mark behind =
    after_lit (codes "  ") _ is_decimal _
    (seq IsNameText (Then (Is mark) BehindMark) is_part is_decimal name _ name_piece
    (after_lit mark _ is_decimal _ (after_lit (codes " [") KnownText is_decimal known known_piece)) behind)

pub scalar_piece : IsPiece (ValueText IsScalar) is_decimal (value [])
scalar_piece =
    retold_piece (ValueParts []) (ValueText IsScalar) is_decimal (value []) (value_there IsScalar Scalar tt tt)
    (λ u h. value_parts h.0 [] u h.1 (is_scalar h.0.subject h.2) h.3) (marked_piece [] scalar_behind)

pub each_piece : IsPiece (ValueText IsEachElement) is_decimal (value (codes "[]"))
each_piece =
    retold_piece (ValueParts (codes "[]")) (ValueText IsEachElement) is_decimal (value (codes "[]")) (value_there IsEachElement EachElement tt tt)
    (λ u h. value_parts h.0 (codes "[]") u h.1 (is_each h.0.subject h.2) h.3)
    (marked_piece (codes "[]") (literal_next is_part 91 (codes "]") BehindMark is_decimal refl))

-- ---- an element

abbrev NumberedParts : List ℕ → Type 0
NumberedParts = Then (Is (codes "[")) (Then IsCountText (Then (Is (codes "] [")) KnownText))

abbrev ElementParts : List ℕ → Type 0
ElementParts = Then (Is (codes "  ")) (Then IsNameText NumberedParts)

element_joined : (name number known : List ℕ) → name ++ (codes "[" ++ (number ++ (codes "] [" ++ known))) ≡ (name ++ (codes "[" ++ (number ++ codes "]"))) ++ (codes " [" ++ known)
element_joined name number known =
    ap (λ (l : List ℕ). name ++ (codes "[" ++ l)) (sym (append_assoc number (codes "]") (codes " [" ++ known)))
    ∙ sym (append_assoc name (codes "[" ++ (number ++ codes "]")) (codes " [" ++ known))

element_there : (u : List ℕ) → ElementParts u → ValueText IsElement u
element_there u h =
    let n = h.is_second in
    let m = n.is_second in
    let i = m.is_second in
    let b = i.is_second in
    let k = b.is_second in
    let number = i.is_first in (
      record { name = n.first; subject = Element number.number; known = k.0 },
      record { name = n.is_first; subject = number.small; known = k.1 },
      tt,
      then_is u h (codes "  ") _ h.is_first
          (then_is _ n n.first _ refl (then_is _ m (codes "[") _ m.is_first (then_is _ i (decimal number.number) _ number.is (then_is _ b (codes "] [") (known_text k.0) b.is_first k.2)))
          ∙ element_joined n.first (decimal number.number) (known_text k.0)),
    )

element_parts : (name : List ℕ) (i : ℕ) (k : Known) (u : List ℕ) → IsNameText name → i < 2 ^ 64 → IsKnown k →
    u ≡ value_text (record { name = name; subject = Element i; known = k }) → ElementParts u
element_parts name i k u is small known e = record {
  first = codes "  ";
  second = (name ++ (codes "[" ++ (decimal i ++ codes "]"))) ++ (codes " [" ++ known_text k);
  is_first = refl;
  is_second = record {
    first = name;
    second = codes "[" ++ (decimal i ++ (codes "] [" ++ known_text k));
    is_first = is;
    is_second = record {
      first = codes "[";
      second = decimal i ++ (codes "] [" ++ known_text k);
      is_first = refl;
      is_second = record {
        first = decimal i;
        second = codes "] [" ++ known_text k;
        is_first = record { number = i; small = small; is = refl };
        is_second = record {
          first = codes "] [";
          second = known_text k;
          is_first = refl;
          is_second = (k, known, refl);
          joined = refl;
        };
        joined = refl;
      };
      joined = refl;
    };
    joined = sym (element_joined name (decimal i) (known_text k));
  };
  joined = e;
}

element_back : (u : List ℕ) → ValueText IsElement u → ElementParts u
element_back u h = by_subject h.0.subject h.2 h.1.subject h.3
  where
    by_subject : (s : Subject) → IsElement s → IsSubject s → u ≡ value_text (record { name = h.0.name; subject = s; known = h.0.known }) → ElementParts u
    by_subject Scalar is small e = absurd is
    by_subject EachElement is small e = absurd is
    by_subject (Element i) is small e = element_parts h.0.name i h.0.known u h.1.name small h.1.known e

pub element_piece : IsPiece (ValueText IsElement) is_decimal element
unfolding element
element_piece =
    retold_piece ElementParts (ValueText IsElement) is_decimal element element_there element_back
    (after_lit (codes "  ") _ is_decimal _
    (then_lit IsNameText is_part name 91 [] _ is_decimal _ name_piece refl
    (then_lit IsCountText is_decimal count 93 (codes " [") KnownText is_decimal known count_piece refl known_piece)))

-- ---- two variables

abbrev pub BoundText : Form → List ℕ → Type 0
BoundText f u = (b : BoundOf) × IsBound b × (b.form ≡ f) × (u ≡ bound_text b)

abbrev SignedParts : Form → List ℕ → Type 0
SignedParts f = Then (Is (sign_of f)) (Then (Is (codes " ")) (Then IsNameText (Then (Is (codes " <= ")) IsNumberText)))

abbrev BoundParts : Form → List ℕ → Type 0
BoundParts f = Then (Is (codes "  ")) (Then (Is (front_of f)) (Then IsNameText (Then (Is (codes " ")) (SignedParts f))))

bound_there : (f : Form) (u : List ℕ) → BoundParts f u → BoundText f u
bound_there f u h =
    let m = h.is_second in
    let x = m.is_second in
    let b = x.is_second in
    let s = b.is_second in
    let c = s.is_second in
    let y = c.is_second in
    let l = y.is_second in
    let most = l.is_second in
    let behind = codes " " ++ (sign_of f ++ (codes " " ++ (y.first ++ (codes " <= " ++ signed_decimal most.number)))) in (
      record { form = f; left = x.first; right = y.first; most = most.number },
      record { left = x.is_first; right = y.is_first; most = most.small },
      refl,
      then_is u h (codes "  ") _ h.is_first
          (then_is _ m (front_of f) (x.first ++ behind) m.is_first (then_is _ x x.first behind refl (then_is _ b (codes " ") _ b.is_first
          (then_is _ s (sign_of f) _ s.is_first (then_is _ c (codes " ") _ c.is_first (then_is _ y y.first _ refl
          (then_is _ l (codes " <= ") (signed_decimal most.number) l.is_first most.is))))))
          ∙ sym (append_assoc (front_of f) x.first behind)),
    )

bound_back : (f : Form) (u : List ℕ) → BoundText f u → BoundParts f u
bound_back f u h =
    let last = codes " <= " ++ signed_decimal h.0.most in
    let behind = sign_of h.0.form ++ (codes " " ++ (h.0.right ++ last)) in
    record {
      first = codes "  ";
      second = (front_of h.0.form ++ h.0.left) ++ (codes " " ++ behind);
      is_first = refl;
      is_second = record {
        first = front_of h.0.form;
        second = h.0.left ++ (codes " " ++ behind);
        is_first = ap front_of h.2;
        is_second = record {
          first = h.0.left;
          second = codes " " ++ behind;
          is_first = h.1.left;
          is_second = record {
            first = codes " ";
            second = behind;
            is_first = refl;
            is_second = record {
              first = sign_of h.0.form;
              second = codes " " ++ (h.0.right ++ last);
              is_first = ap sign_of h.2;
              is_second = record {
                first = codes " ";
                second = h.0.right ++ last;
                is_first = refl;
                is_second = record {
                  first = h.0.right;
                  second = last;
                  is_first = h.1.right;
                  is_second = record {
                    first = codes " <= ";
                    second = signed_decimal h.0.most;
                    is_first = refl;
                    is_second = record { number = h.0.most; small = h.1.most; is = refl };
                    joined = refl;
                  };
                  joined = refl;
                };
                joined = refl;
              };
              joined = refl;
            };
            joined = refl;
          };
          joined = refl;
        };
        joined = append_assoc (front_of h.0.form) h.0.left (codes " " ++ behind);
      };
      joined = h.3;
    }

pub bound_piece : (f : Form) → IsPiece (BoundText f) is_decimal (bound f)
unfolding bound
bound_piece f =
    retold_piece (BoundParts f) (BoundText f) is_decimal (bound f) (bound_there f) (bound_back f)
    (after_lit (codes "  ") _ is_decimal _
    (after_lit (front_of f) _ is_decimal _
    (then_lit IsNameText is_part name 32 [] (SignedParts f) is_decimal _ name_piece refl
    (after_lit (sign_of f) _ is_decimal _
    (after_lit (codes " ") _ is_decimal _
    (then_lit IsNameText is_part name 32 (codes "<= ") IsNumberText is_decimal number name_piece refl number_piece))))))

-- ---- accesses

abbrev pub VerdictText : (Verdict → Type 0) → List ℕ → Type 0
VerdictText S u = (v : Verdict) × (IsVerdict v × S v) × (u ≡ verdict_text v)

abbrev pub IsSafe : Verdict → Type 0
IsSafe Safe = Unit {0}
IsSafe (Unknown lo hi) = ⊥
IsSafe Unreachable = ⊥

abbrev pub IsUnknown : Verdict → Type 0
IsUnknown Safe = ⊥
IsUnknown (Unknown lo hi) = Unit {0}
IsUnknown Unreachable = ⊥

abbrev pub IsUnreachable : Verdict → Type 0
IsUnreachable Safe = ⊥
IsUnreachable (Unknown lo hi) = ⊥
IsUnreachable Unreachable = Unit {0}

safe_back : (u : List ℕ) → VerdictText IsSafe u → u ≡ codes "safe"
safe_back u h = by_verdict h.0 h.1.1 h.2
  where
    by_verdict : (v : Verdict) → IsSafe v → u ≡ verdict_text v → u ≡ codes "safe"
    by_verdict Safe s e = e
    by_verdict (Unknown lo hi) s e = absurd s
    by_verdict Unreachable s e = absurd s

pub safe_piece : IsPiece (VerdictText IsSafe) nothing (literal (codes "safe"))
safe_piece =
    retold_piece (Is (codes "safe")) (VerdictText IsSafe) nothing (literal (codes "safe")) (λ u e. (Safe, (tt, tt), e)) safe_back
    (literal_piece (codes "safe") nothing)

unreachable_back : (u : List ℕ) → VerdictText IsUnreachable u → u ≡ codes "unreachable"
unreachable_back u h = by_verdict h.0 h.1.1 h.2
  where
    by_verdict : (v : Verdict) → IsUnreachable v → u ≡ verdict_text v → u ≡ codes "unreachable"
    by_verdict Safe s e = absurd s
    by_verdict (Unknown lo hi) s e = absurd s
    by_verdict Unreachable s e = e

pub unreachable_piece : IsPiece (VerdictText IsUnreachable) nothing (literal (codes "unreachable"))
unreachable_piece =
    retold_piece (Is (codes "unreachable")) (VerdictText IsUnreachable) nothing (literal (codes "unreachable")) (λ u e. (Unreachable, (tt, tt), e))
    unreachable_back (literal_piece (codes "unreachable") nothing)

abbrev UnknownParts : List ℕ → Type 0
UnknownParts = Then (Is (codes "unknown [")) (Then IsNumberText (Then (Is (codes ",")) (Then IsNumberText (Is (codes "]")))))

unknown_there : (u : List ℕ) → UnknownParts u → VerdictText IsUnknown u
unknown_there u h =
    let l = h.is_second in
    let c = l.is_second in
    let m = c.is_second in
    let lo = l.is_first in
    let hi = m.is_first in (
      Unknown lo.number hi.number,
      ((lo.small, hi.small), tt),
      then_is u h (codes "unknown [") _ h.is_first (then_is _ l (signed_decimal lo.number) _ lo.is (then_is _ c (codes ",") _ c.is_first
          (then_is _ m (signed_decimal hi.number) (codes "]") hi.is m.is_second))),
    )

unknown_parts : (u : List ℕ) (lo hi : ℤ) → IsNumber lo → IsNumber hi → u ≡ verdict_text (Unknown lo hi) → UnknownParts u
unknown_parts u lo hi h k e = record {
  first = codes "unknown [";
  second = signed_decimal lo ++ (codes "," ++ (signed_decimal hi ++ codes "]"));
  is_first = refl;
  is_second = record {
    first = signed_decimal lo;
    second = codes "," ++ (signed_decimal hi ++ codes "]");
    is_first = record { number = lo; small = h; is = refl };
    is_second = record {
      first = codes ",";
      second = signed_decimal hi ++ codes "]";
      is_first = refl;
      is_second = record {
        first = signed_decimal hi;
        second = codes "]";
        is_first = record { number = hi; small = k; is = refl };
        is_second = refl;
        joined = refl;
      };
      joined = refl;
    };
    joined = refl;
  };
  joined = e;
}

unknown_back : (u : List ℕ) → VerdictText IsUnknown u → UnknownParts u
unknown_back u h = by_verdict h.0 h.1.0 h.1.1 h.2
  where
    by_verdict : (v : Verdict) → IsVerdict v → IsUnknown v → u ≡ verdict_text v → UnknownParts u
    by_verdict Safe n s e = absurd s
    by_verdict (Unknown lo hi) n s e = unknown_parts u lo hi n.0 n.1 e
    by_verdict Unreachable n s e = absurd s

pub unknown_piece : IsPiece (VerdictText IsUnknown) nothing unknown
unfolding unknown
unknown_piece =
    retold_piece UnknownParts (VerdictText IsUnknown) nothing unknown unknown_there unknown_back
    (after_lit (codes "unknown [") _ nothing _
    (then_lit IsNumberText is_decimal number 44 [] _ nothing _ number_piece refl
    (seq IsNumberText (Is (codes "]")) is_decimal nothing number (literal (codes "]")) number_piece (literal_piece (codes "]") nothing)
    (literal_last is_decimal 93 [] nothing refl))))

abbrev pub AccessText : Fault → (Verdict → Type 0) → List ℕ → Type 0
AccessText f S u = (a : AccessOf) × (IsAccess a × TellsPath a.path) × ((a.fault ≡ f) × S a.verdict) × (u ≡ access_text a)

abbrev FaultParts : Fault → (Verdict → Type 0) → List ℕ → Type 0
FaultParts f S = Then (Is (fault_text f)) (Then (Is (codes " ")) (VerdictText S))

abbrev AccessParts : Fault → (Verdict → Type 0) → List ℕ → Type 0
AccessParts f S = Then (Is (codes "access ")) (Then TellsPath (Then (Is (codes " ")) (Then IsPlaceText (Then (Is (codes " ")) (FaultParts f S)))))

access_there : (f : Fault) (S : Verdict → Type 0) (u : List ℕ) → AccessParts f S u → AccessText f S u
access_there f S u h =
    let p = h.is_second in
    let b = p.is_second in
    let n = b.is_second in
    let c = n.is_second in
    let k = c.is_second in
    let d = k.is_second in
    let at = n.is_first in
    let v = d.is_second in (
      record { path = p.first; at = at.at; fault = f; verdict = v.0 },
      (record { path = no_blank_in p.first p.is_first; at = at.small; verdict = v.1.0 }, p.is_first),
      (refl, v.1.1),
      then_is u h (codes "access ") _ h.is_first (then_is _ p p.first _ refl (then_is _ b (codes " ") _ b.is_first
          (then_is _ n (pos_text at.at) _ at.is (then_is _ c (codes " ") _ c.is_first (then_is _ k (fault_text f) _ k.is_first
          (then_is _ d (codes " ") (verdict_text v.0) d.is_first v.2)))))),
    )

access_back : (f : Fault) (S : Verdict → Type 0) (u : List ℕ) → AccessText f S u → AccessParts f S u
access_back f S u h =
    let last = codes " " ++ verdict_text h.0.verdict in
    let behind = codes " " ++ (fault_text h.0.fault ++ last) in
    record {
      first = codes "access ";
      second = h.0.path ++ (codes " " ++ (pos_text h.0.at ++ behind));
      is_first = refl;
      is_second = record {
        first = h.0.path;
        second = codes " " ++ (pos_text h.0.at ++ behind);
        is_first = h.1.1;
        is_second = record {
          first = codes " ";
          second = pos_text h.0.at ++ behind;
          is_first = refl;
          is_second = record {
            first = pos_text h.0.at;
            second = behind;
            is_first = record { at = h.0.at; small = h.1.0.at; is = refl };
            is_second = record {
              first = codes " ";
              second = fault_text h.0.fault ++ last;
              is_first = refl;
              is_second = record {
                first = fault_text h.0.fault;
                second = last;
                is_first = ap fault_text h.2.0;
                is_second = record {
                  first = codes " ";
                  second = verdict_text h.0.verdict;
                  is_first = refl;
                  is_second = (h.0.verdict, (h.1.0.verdict, h.2.1), refl);
                  joined = refl;
                };
                joined = refl;
              };
              joined = refl;
            };
            joined = refl;
          };
          joined = refl;
        };
        joined = refl;
      };
      joined = h.3;
    }

pub access_piece : (f : Fault) (S : Verdict → Type 0) (test : ℕ → Bool) (v : ReachedOf → ReachedOf) → IsPiece (VerdictText S) test v →
    IsPiece (AccessText f S) test (λ r. v (literal (codes " ") (literal (fault_text f) (access r))))
unfolding access
access_piece f S test v p =
    retold_piece (AccessParts f S) (AccessText f S) test (λ r. v (literal (codes " ") (literal (fault_text f) (access r)))) (access_there f S) (access_back f S)
    (after_lit (codes "access ") _ test _
    (then_lit TellsPath is_no_blank path 32 [] _ test _ path_piece refl
    (then_lit IsPlaceText is_decimal place 32 [] (FaultParts f S) test _ place_piece refl
    (after_lit (fault_text f) _ test _ (after_lit (codes " ") (VerdictText S) test v p)))))
