-- What holds of lines and of reports, whatever they say.
use Rattle.std.specs.Prelude.{◌≡◌, ℕ, suc, ◌<◌, ◌^◌, ℤ, pos, negsuc, true, List, [], ◌∷◌, ◌++◌, codes, Option, Some, None, All}
use Rattle.std.specs.List.{flat_map}
use Rattle.pk_ctypes.specs.declared.places.Pos.{Pos}
use Rattle.pk_show.specs.declared.rows.Verdict.{Verdict}
use Rattle.pk_show.specs.declared.rows.Verdict.TheVariants.{Safe, Unknown, Unreachable}
use Rattle.pk_show.specs.declared.rows.Counts.{Counts}
use Rattle.pk_show.specs.declared.rows.Known.{Known}
use Rattle.pk_show.specs.declared.rows.Subject.{Subject}
use Rattle.pk_show.specs.declared.rows.Subject.TheVariants.{Scalar, EachElement, Element}
use Rattle.pk_show.specs.declared.report.Row.{Row}
use Rattle.pk_show.specs.declared.report.Row.TheVariants as row
use Rattle.pk_show.specs.declared.report.Kind.{Kind}
use Rattle.pk_show.specs.Pieces.{lacks, is_identifier}
use Rattle.pk_show.specs.Paths.{CallOf, PathOf, path_text, path_in}
use Rattle.pk_show.specs.Rows.{OpeningOf, HeadingOf, ValueOf, BoundOf, AccessOf, opening_text, heading_text, no_run_text, value_text, bound_text, access_text, counts_text}
use Rattle.pk_show.specs.Reading.{opening_in, heading_in, value_in, bound_in, access_in, counts_in}
use Rattle.pk_show.specs.Reports.{kind_of, may_stand, is_end, report_in}

-- less than 2^127 from 0
abbrev pub IsNumber : ℤ → Type 0
IsNumber (pos n) = n < 2 ^ 127
IsNumber (negsuc n) = suc n < 2 ^ 127

pub record IsPlace (at : Pos) : Type 0 where
  pub line : at.line < 2 ^ 64
  pub column : at.column < 2 ^ 64

abbrev pub IsVerdict : Verdict → Type 0
IsVerdict Safe = Unit {0}
IsVerdict (Unknown lo hi) = IsNumber lo × IsNumber hi
IsVerdict Unreachable = Unit {0}

-- no blank in the path, numbers in range
pub record IsAccess (a : AccessOf) : Type 0 where
  pub path : lacks 32 a.path ≡ true
  pub at : IsPlace a.at
  pub verdict : IsVerdict a.verdict

-- a name that is an identifier, numbers in range
pub record IsOpening (o : OpeningOf) : Type 0 where
  pub entry : is_identifier o.entry ≡ true
  pub points : o.points < 2 ^ 64
  pub elements : o.elements < 2 ^ 64

pub record IsHeading (h : HeadingOf) : Type 0 where
  pub point : h.point < 2 ^ 64
  pub path : lacks 32 h.path ≡ true
  pub at : IsPlace h.at

pub record IsKnown (k : Known) : Type 0 where
  pub lo : IsNumber k.lo
  pub hi : IsNumber k.hi
  pub modulus : IsNumber k.modulus
  pub rest : IsNumber k.rest

abbrev pub IsSubject : Subject → Type 0
IsSubject Scalar = Unit {0}
IsSubject EachElement = Unit {0}
IsSubject (Element i) = i < 2 ^ 64

pub record IsValue (v : ValueOf) : Type 0 where
  pub name : is_identifier v.name ≡ true
  pub subject : IsSubject v.subject
  pub known : IsKnown v.known

pub record IsBound (b : BoundOf) : Type 0 where
  pub left : is_identifier b.left ≡ true
  pub right : is_identifier b.right ≡ true
  pub most : IsNumber b.most

pub record AreCounts (c : Counts) : Type 0 where
  pub safe : c.safe < 2 ^ 64
  pub unknown : c.unknown < 2 ^ 64
  pub unreachable : c.unreachable < 2 ^ 64

-- identifiers, at places in range
pub record IsCall (c : CallOf) : Type 0 where
  pub name : is_identifier c.name ≡ true
  pub at : IsPlace c.at

pub record IsPath (p : PathOf) : Type 0 where
  pub entry : is_identifier p.entry ≡ true
  pub calls : All IsCall p.calls

-- ---- lines

-- the text of an access is read, and gives back the access; and a line that is read as an access is its text
pub record AccessesAreRead : Type 0 where
  pub read : (a : AccessOf) → IsAccess a → access_in (access_text a) ≡ Some a
  pub told : (line : List ℕ) (a : AccessOf) → access_in line ≡ Some a → line ≡ access_text a

-- the text of a call path, which has no blank, and of each other line, is read and gives it back
pub record LinesAreRead : Type 0 where
  pub path : (p : PathOf) → IsPath p → path_in (path_text p) ≡ Some p
  pub one_word : (p : PathOf) → IsPath p → lacks 32 (path_text p) ≡ true
  pub opening : (o : OpeningOf) → IsOpening o → opening_in (opening_text o) ≡ Some o
  pub heading : (h : HeadingOf) → IsHeading h → heading_in h.is_head (heading_text h) ≡ Some h
  pub value : (v : ValueOf) → IsValue v → value_in (value_text v) ≡ Some v
  pub bound : (b : BoundOf) → IsBound b → bound_in (bound_text b) ≡ Some b
  pub counts : (c : Counts) → AreCounts c → counts_in (counts_text c) ≡ Some c

-- ---- reports

abbrev pub row_text : Row → List ℕ
row_text (row.Opening o) = opening_text o
row_text (row.Heading h) = heading_text h
row_text row.NoRun = no_run_text
row_text (row.Value v) = value_text v
row_text (row.Bound b) = bound_text b
row_text (row.Access a) = access_text a
row_text (row.Counts c) = counts_text c

-- each row is a line
abbrev pub rows_text : List Row → List ℕ
rows_text = flat_map (λ r. row_text r ++ codes "\n")

abbrev pub TellsPath : List ℕ → Type 0
TellsPath text = (p : PathOf) × IsPath p × (text ≡ path_text p)

abbrev pub IsRow : Row → Type 0
IsRow (row.Opening o) = IsOpening o
IsRow (row.Heading h) = IsHeading h × TellsPath h.path
IsRow row.NoRun = Unit {0}
IsRow (row.Value v) = IsValue v
IsRow (row.Bound b) = IsBound b
IsRow (row.Access a) = IsAccess a × TellsPath a.path
IsRow (row.Counts c) = AreCounts c

-- each row may stand behind the one before it, and the last tells the counts
abbrev pub FollowEachOther : (before : Option Kind) → List Row → Type 0
FollowEachOther before [] = is_end before ≡ true
FollowEachOther before (r ∷ rows) = (may_stand before (kind_of r) ≡ true) × FollowEachOther (Some (kind_of r)) rows

pub record AreRows (rows : List Row) : Type 0 where
  pub each : All IsRow rows
  pub order : FollowEachOther None rows

-- the text of a report's rows is read, and gives back the rows; and what is read as rows is their text
pub record ReportsAreRead : Type 0 where
  pub read : (rows : List Row) → AreRows rows → report_in (rows_text rows) ≡ Some rows
  pub told : (text : List ℕ) (rows : List Row) → report_in text ≡ Some rows → text ≡ rows_text rows
