-- The lines of a report, as values and as texts.
use Rattle.std.specs.Prelude.{ℕ, ℤ, Bool, true, false, List, [], ◌++◌, codes}
use Rattle.std.specs.Fmt.{decimal, signed_decimal}
use Rattle.pk_ctypes.specs.declared.faults.Fault.{Fault}
use Rattle.pk_ctypes.specs.declared.places.Pos.{Pos}
use Rattle.pk_ctypes.specs.Places.{pos_text}
use Rattle.pk_ctypes.specs.Words.{fault_text}
use Rattle.pk_show.specs.declared.rows.Form.{Form}
use Rattle.pk_show.specs.declared.rows.Form.TheVariants.{Difference, Sum, NegatedSum}
use Rattle.pk_show.specs.declared.rows.Verdict.{Verdict}
use Rattle.pk_show.specs.declared.rows.Verdict.TheVariants.{Safe, Unknown, Unreachable}
use Rattle.pk_show.specs.declared.rows.Counts.{Counts}
use Rattle.pk_show.specs.declared.rows.Known.{Known}
use Rattle.pk_show.specs.declared.rows.Subject.{Subject}
use Rattle.pk_show.specs.declared.rows.Subject.TheVariants.{Scalar, EachElement, Element}

-- the first line
pub record OpeningOf : Type 0 where
  pub entry : List ℕ
  pub points : ℕ
  pub elements : ℕ

-- a loop's head or another point
pub record HeadingOf : Type 0 where
  pub is_head : Bool
  pub point : ℕ
  pub path : List ℕ
  pub at : Pos

-- what is known of a variable, of each element of an array, or of one element
pub record ValueOf : Type 0 where
  pub name : List ℕ
  pub subject : Subject
  pub known : Known

-- what is known of two variables
pub record BoundOf : Type 0 where
  pub form : Form
  pub left : List ℕ
  pub right : List ℕ
  pub most : ℤ

-- an operation that can fault
pub record AccessOf : Type 0 where
  pub path : List ℕ
  pub at : Pos
  pub fault : Fault
  pub verdict : Verdict

-- ---- as texts

abbrev pub opening_text : OpeningOf → List ℕ
opening_text o =
    codes "pikos 1 entry " ++ (o.entry ++ (codes " points " ++ (decimal o.points ++ (codes " elements " ++
    decimal o.elements))))

abbrev pub head_word : (is_head : Bool) → List ℕ
head_word true = codes "head "
head_word false = codes "point "

abbrev pub heading_text : HeadingOf → List ℕ
heading_text h = head_word h.is_head ++ (decimal h.point ++ (codes " " ++ (h.path ++ (codes " " ++ pos_text h.at))))

-- what stands behind a name
abbrev pub mark_of : Subject → List ℕ
mark_of Scalar = []
mark_of EachElement = codes "[]"
mark_of (Element i) = codes "[" ++ (decimal i ++ codes "]")

abbrev pub class_text : Known → List ℕ
class_text k = signed_decimal k.modulus ++ (codes "Z+" ++ signed_decimal k.rest)

abbrev pub known_text : Known → List ℕ
known_text k = signed_decimal k.lo ++ (codes "," ++ (signed_decimal k.hi ++ (codes "] " ++ class_text k)))

abbrev pub value_text : ValueOf → List ℕ
value_text v = codes "  " ++ ((v.name ++ mark_of v.subject) ++ (codes " [" ++ known_text v.known))

abbrev pub front_of : Form → List ℕ
front_of Difference = []
front_of Sum = []
front_of NegatedSum = codes "-"

abbrev pub sign_of : Form → List ℕ
sign_of Difference = codes "-"
sign_of Sum = codes "+"
sign_of NegatedSum = codes "-"

abbrev pub bound_text : BoundOf → List ℕ
bound_text b =
    codes "  " ++ ((front_of b.form ++ b.left) ++ (codes " " ++ (sign_of b.form ++ (codes " " ++
    (b.right ++ (codes " <= " ++ signed_decimal b.most))))))

abbrev pub no_run_text : List ℕ
no_run_text = codes "  unreachable"

abbrev pub verdict_text : Verdict → List ℕ
verdict_text Safe = codes "safe"
verdict_text (Unknown lo hi) =
    codes "unknown [" ++ (signed_decimal lo ++ (codes "," ++ (signed_decimal hi ++ codes "]")))
verdict_text Unreachable = codes "unreachable"

abbrev pub access_text : AccessOf → List ℕ
access_text a =
    codes "access " ++ (a.path ++ (codes " " ++ (pos_text a.at ++ (codes " " ++
    (fault_text a.fault ++ (codes " " ++ verdict_text a.verdict))))))

abbrev pub counts_text : Counts → List ℕ
counts_text c =
    codes "result safe " ++ (decimal c.safe ++ (codes " unknown " ++ (decimal c.unknown ++
    (codes " unreachable " ++ decimal c.unreachable))))
