-- How far a text goes as each line of a report.
use Rattle.std.specs.Prelude.{ℕ, min, Bool, true, false, List, [], codes, length}
use Rattle.pk_ctypes.specs.declared.faults.Fault.{Fault}
use Rattle.pk_ctypes.specs.declared.faults.Fault.TheVariants.{Index, DivZero, Overflow, Shift, Assert}
use Rattle.pk_ctypes.specs.Words.{fault_text}
use Rattle.pk_show.specs.declared.rows.Form.{Form}
use Rattle.pk_show.specs.declared.rows.Form.TheVariants.{Difference, Sum, NegatedSum}
use Rattle.pk_show.specs.declared.report.Kind.{Kind}
use Rattle.pk_show.specs.declared.report.Kind.TheVariants as kind
use Rattle.pk_show.specs.Rows.{head_word, front_of, sign_of}
use Rattle.pk_wrong_byte.specs.Pieces.{ReachedOf, literal, name, count, number, place, path}

-- how many bytes are left
abbrev pub left : ReachedOf → ℕ
left r = length r.rest

unfoldable pub opening : ReachedOf → ReachedOf
opening r =
    count (literal (codes " elements ") (count (literal (codes " points ")
    (name (literal (codes "pikos 1 entry ") r)))))

unfoldable pub heading : (is_head : Bool) → ReachedOf → ReachedOf
heading is_head r = place (literal (codes " ") (path (literal (codes " ") (count (literal (head_word is_head) r)))))

-- a range and a class
unfoldable pub known : ReachedOf → ReachedOf
known r = number (literal (codes "Z+") (number (literal (codes "] ") (number (literal (codes ",") (number r))))))

-- of a variable, or of each element of an array, as the mark behind its name says
unfoldable pub value : (mark : List ℕ) → ReachedOf → ReachedOf
value mark r = known (literal (codes " [") (literal mark (name (literal (codes "  ") r))))

-- of one element
unfoldable pub element : ReachedOf → ReachedOf
element r = known (literal (codes "] [") (count (literal (codes "[") (name (literal (codes "  ") r)))))

unfoldable pub bound : Form → ReachedOf → ReachedOf
bound f r =
    number (literal (codes " <= ") (name (literal (codes " ") (literal (sign_of f) (literal (codes " ")
    (name (literal (front_of f) (literal (codes "  ") r))))))))

unfoldable pub unknown : ReachedOf → ReachedOf
unknown r = literal (codes "]") (number (literal (codes ",") (number (literal (codes "unknown [") r))))

-- of what may stand there, what leaves the least
abbrev pub verdict_left : ReachedOf → ℕ
verdict_left r = min (left (literal (codes "safe") r)) (min (left (literal (codes "unreachable") r)) (left (unknown r)))

abbrev pub fault_left : Fault → ReachedOf → ℕ
fault_left f r = verdict_left (literal (codes " ") (literal (fault_text f) r))

abbrev pub faults_left : ReachedOf → ℕ
faults_left r =
    min (fault_left Index r) (min (fault_left DivZero r) (min (fault_left Overflow r)
    (min (fault_left Shift r) (fault_left Assert r))))

unfoldable pub access : ReachedOf → ReachedOf
access r = literal (codes " ") (place (literal (codes " ") (path (literal (codes "access ") r))))

unfoldable pub counts : ReachedOf → ReachedOf
counts r =
    count (literal (codes " unreachable ") (count (literal (codes " unknown ")
    (count (literal (codes "result safe ") r)))))

-- of the lines of a kind, what the one leaves that goes furthest
abbrev pub kind_left : Kind → ReachedOf → ℕ
kind_left kind.Opening r = left (opening r)
kind_left kind.Heading r = min (left (heading true r)) (left (heading false r))
kind_left kind.NoRun r = left (literal (codes "  unreachable") r)
kind_left kind.Value r = min (left (value [] r)) (min (left (value (codes "[]") r)) (left (element r)))
kind_left kind.Bound r = min (left (bound Difference r)) (min (left (bound Sum r)) (left (bound NegatedSum r)))
kind_left kind.Access r = faults_left (access r)
kind_left kind.Counts r = left (counts r)
