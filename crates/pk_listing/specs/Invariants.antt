-- What holds at the heads of loops, and at other points that a report tells.
use Rattle.std.specs.Prelude.{ℕ, ℤ, pos, int_lt, Bool, true, false, if◌then◌else◌, List, [], ◌++◌, codes, Option, Some, None}
use Rattle.std.specs.List.{flat_map}
use Rattle.std.specs.Fmt.{signed_decimal}
use Rattle.pk_show.specs.declared.report.Row.{Row}
use Rattle.pk_show.specs.declared.report.Row.TheVariants as row
use Rattle.pk_show.specs.declared.rows.Form.{Form}
use Rattle.pk_show.specs.declared.rows.Form.TheVariants.{Difference, Sum, NegatedSum}
use Rattle.pk_show.specs.declared.rows.Known.{Known}
use Rattle.pk_show.specs.Paths.{PathOf, path_in}
use Rattle.pk_show.specs.Rows.{HeadingOf, ValueOf, BoundOf, mark_of, front_of}
use Rattle.pk_findings.specs.Texts.{TextOf}
use Rattle.pk_findings.specs.Messages.{range_text}
use Rattle.pk_listing.specs.Places.{place_text, path_text}

abbrev pub heading_words : (is_head : Bool) → List ℕ
heading_words true = codes ": loop: in every run, whenever it is at its head:\n"
heading_words false = codes ": point: in every run, whenever it is here:\n"

abbrev pub way_to : TextOf → Option PathOf → List ℕ
way_to t None = []
way_to t (Some p) = path_text t p ++ codes "\n"

unfoldable pub heading_text : TextOf → HeadingOf → List ℕ
heading_text t h = place_text t h.at ++ (heading_words h.is_head ++ way_to t (path_in h.path))

abbrev pub times_text : (rest : ℤ) → List ℕ
times_text rest = codes "k + " ++ signed_decimal rest

abbrev pub form_text : (modulus rest : ℤ) → List ℕ
form_text modulus rest = codes ", of the form " ++ (signed_decimal modulus ++ times_text rest)

-- of a number that is divided by more than 1, what is left
abbrev pub class_text : Known → List ℕ
class_text k = if int_lt (pos 1) k.modulus then form_text k.modulus k.rest else []

abbrev pub class_end : Known → List ℕ
class_end k = class_text k ++ codes "\n"

unfoldable pub known_text : Known → List ℕ
known_text k = codes " in " ++ (range_text k.lo k.hi ++ class_end k)

abbrev pub name_text : ValueOf → List ℕ
name_text v = v.name ++ mark_of v.subject

unfoldable pub value_text : ValueOf → List ℕ
value_text v = codes "    " ++ (name_text v ++ known_text v.known)

abbrev pub most_text : ℤ → List ℕ
most_text most = codes " <= " ++ (signed_decimal most ++ codes "\n")

abbrev pub sign_text : Form → List ℕ
sign_text Difference = codes " - "
sign_text Sum = codes " + "
sign_text NegatedSum = codes " - "

abbrev pub left_text : BoundOf → List ℕ
left_text b = front_of b.form ++ b.left

abbrev pub right_text : BoundOf → List ℕ
right_text b = sign_text b.form ++ (b.right ++ most_text b.most)

unfoldable pub bound_text : BoundOf → List ℕ
bound_text b = codes "    " ++ (left_text b ++ right_text b)

unfoldable pub fact_text : TextOf → Row → List ℕ
fact_text t (row.Opening o) = []
fact_text t (row.Heading h) = heading_text t h
fact_text t row.NoRun = codes "    no run comes here\n"
fact_text t (row.Value v) = value_text v
fact_text t (row.Bound b) = bound_text b
fact_text t (row.Access a) = []
fact_text t (row.Counts c) = []

abbrev pub facts_text : TextOf → List Row → List ℕ
facts_text t = flat_map (fact_text t)

-- where they are asked for
abbrev pub invariants_text : (is_asked : Bool) → TextOf → List Row → List ℕ
invariants_text true t rows = facts_text t rows
invariants_text false t rows = []
