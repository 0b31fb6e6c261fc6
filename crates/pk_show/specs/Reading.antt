-- The lines of a report, as they are read.
use Rattle.std.specs.Prelude.{ℕ, ℤ, Bool, List, [], drop, codes, if◌then◌else◌, Option, Some}
use Rattle.pk_ctypes.specs.declared.faults.Fault.{Fault}
use Rattle.pk_ctypes.specs.declared.places.Pos.{Pos}
use Rattle.pk_lex.specs.Bytes.{begins_with, same}
use Rattle.pk_show.specs.declared.rows.Form.{Form}
use Rattle.pk_show.specs.declared.rows.Form.TheVariants.{Difference, Sum, NegatedSum}
use Rattle.pk_show.specs.declared.rows.Verdict.{Verdict}
use Rattle.pk_show.specs.declared.rows.Verdict.TheVariants.{Safe, Unknown, Unreachable}
use Rattle.pk_show.specs.declared.rows.Counts.{Counts}
use Rattle.pk_show.specs.declared.rows.Known.{Known}
use Rattle.pk_show.specs.declared.rows.Subject.{Subject}
use Rattle.pk_show.specs.declared.rows.Subject.TheVariants.{Scalar, EachElement, Element}
use Rattle.pk_show.specs.Pieces.{◌>>=◌, if_true, strip, cut, count_in, signed_in, is_identifier, identifier_in, place_in, fault_in}
use Rattle.pk_show.specs.Rows.{OpeningOf, HeadingOf, ValueOf, BoundOf, AccessOf, head_word}

abbrev pub opening : List ℕ → ℕ → ℕ → OpeningOf
opening entry points elements = record { entry = entry; points = points; elements = elements }

unfoldable pub opening_in : List ℕ → Option OpeningOf
opening_in line = do
  text ← strip (codes "pikos 1 entry ") line
  e ← cut (codes " points ") text
  p ← cut (codes " elements ") e.1
  entry ← identifier_in e.0
  points ← count_in p.0
  elements ← count_in p.1
  Some (opening entry points elements)

abbrev pub heading : Bool → ℕ → List ℕ → Pos → HeadingOf
heading is_head point path at = record { is_head = is_head; point = point; path = path; at = at }

unfoldable pub heading_in : (is_head : Bool) → List ℕ → Option HeadingOf
heading_in is_head line = do
  text ← strip (head_word is_head) line
  n ← cut (codes " ") text
  path ← cut (codes " ") n.1
  place ← cut (codes ":") path.1
  point ← count_in n.0
  at ← place_in place.0 place.1
  Some (heading is_head point path.0 at)

-- the element whose number stands in the brackets
unfoldable pub element_in : List ℕ → Option Subject
element_in text = do
  i ← cut (codes "]") text
  number ← count_in i.0
  if_true (same i.1 []) (Element number)

-- what stands behind a bracket
unfoldable pub elements_in : List ℕ → Option Subject
elements_in text = if same text (codes "]") then Some EachElement else element_in text

abbrev pub named : List ℕ → Subject → List ℕ × Subject
named name subject = (name, subject)

unfoldable pub array_in : List ℕ → Option (List ℕ × Subject)
array_in text = do
  n ← cut (codes "[") text
  name ← identifier_in n.0
  subject ← elements_in n.1
  Some (named name subject)

-- a name, or that of an array with its mark
unfoldable pub subject_in : List ℕ → Option (List ℕ × Subject)
subject_in text = if is_identifier text then Some (named text Scalar) else array_in text

-- what is known of a number: its range, and its class
abbrev pub known : ℤ → ℤ → ℤ × ℤ → Known
known lo hi class = record { lo = lo; hi = hi; modulus = class.0; rest = class.1 }

abbrev pub class_of : ℤ → ℤ → ℤ × ℤ
class_of modulus rest = (modulus, rest)

unfoldable pub class_in : List ℕ → Option (ℤ × ℤ)
class_in text = do
  m ← cut (codes "Z+") text
  modulus ← signed_in m.0
  rest ← signed_in m.1
  Some (class_of modulus rest)

unfoldable pub known_in : List ℕ → Option Known
known_in text = do
  l ← cut (codes ",") text
  h ← cut (codes "] ") l.1
  lo ← signed_in l.0
  hi ← signed_in h.0
  class ← class_in h.1
  Some (known lo hi class)

abbrev pub value : List ℕ × Subject → Known → ValueOf
value name known = record { name = name.0; subject = name.1; known = known }

unfoldable pub value_in : List ℕ → Option ValueOf
value_in line = do
  text ← strip (codes "  ") line
  n ← cut (codes " [") text
  name ← subject_in n.0
  known ← known_in n.1
  Some (value name known)

abbrev pub formed : Form → List ℕ → Form × List ℕ
formed form left = (form, left)

-- the form, and the name without its sign
unfoldable pub form_in : List ℕ → List ℕ → Option (Form × List ℕ)
form_in left sign =
    if begins_with 45 left then if_true (same sign (codes "-")) (formed NegatedSum (drop 1 left)) else
    (if same sign (codes "-") then Some (formed Difference left) else if_true (same sign (codes "+")) (formed Sum left))

abbrev pub bound : Form → List ℕ → List ℕ → ℤ → BoundOf
bound form left right most = record { form = form; left = left; right = right; most = most }

unfoldable pub bound_in : List ℕ → Option BoundOf
bound_in line = do
  text ← strip (codes "  ") line
  l ← cut (codes " ") text
  s ← cut (codes " ") l.1
  r ← cut (codes " <= ") s.1
  form ← form_in l.0 s.0
  left ← identifier_in form.1
  right ← identifier_in r.0
  most ← signed_in r.1
  Some (bound form.0 left right most)

unfoldable pub unknown_in : List ℕ → Option Verdict
unknown_in text = do
  range ← strip (codes "unknown [") text
  l ← cut (codes ",") range
  h ← cut (codes "]") l.1
  lo ← signed_in l.0
  hi ← signed_in h.0
  if_true (same h.1 []) (Unknown lo hi)

unfoldable pub verdict_in : List ℕ → Option Verdict
verdict_in text =
    if same text (codes "safe") then Some Safe else
    (if same text (codes "unreachable") then Some Unreachable else unknown_in text)

abbrev pub access : List ℕ → Pos → Fault → Verdict → AccessOf
access path at fault verdict = record { path = path; at = at; fault = fault; verdict = verdict }

unfoldable pub access_in : List ℕ → Option AccessOf
access_in line = do
  text ← strip (codes "access ") line
  path ← cut (codes " ") text
  l ← cut (codes ":") path.1
  c ← cut (codes " ") l.1
  kind ← cut (codes " ") c.1
  at ← place_in l.0 c.0
  fault ← fault_in kind.0
  verdict ← verdict_in kind.1
  Some (access path.0 at fault verdict)

abbrev pub pair : ℕ → ℕ → ℕ × ℕ
pair unknown unreachable = (unknown, unreachable)

unfoldable pub others_in : List ℕ → Option (ℕ × ℕ)
others_in text = do
  u ← cut (codes " unreachable ") text
  unknown ← count_in u.0
  unreachable ← count_in u.1
  Some (pair unknown unreachable)

abbrev pub counts : ℕ → ℕ × ℕ → Counts
counts safe others = record { safe = safe; unknown = others.0; unreachable = others.1 }

unfoldable pub counts_in : List ℕ → Option Counts
counts_in line = do
  text ← strip (codes "result safe ") line
  s ← cut (codes " unknown ") text
  safe ← count_in s.0
  others ← others_in s.1
  Some (counts safe others)
