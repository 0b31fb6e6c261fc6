-- What holds at the heads of loops, and at other points that a report tells.
use Rattle.std.specs.Prelude.{ℕ, pos, int_lt, List, [], ◌∷◌, ◌++◌, Bool, true, false, if◌then◌else◌, Option, Some, None}
use Rattle.std.specs.List.{flat_map}
use Rattle.pk_show.specs.declared.report.Row.{Row}
use Rattle.pk_show.specs.declared.report.Row.TheVariants as row
use Rattle.pk_show.specs.declared.rows.Form.{Form}
use Rattle.pk_show.specs.declared.rows.Form.TheVariants as form
use Rattle.pk_show.specs.declared.rows.Known.{Known}
use Rattle.pk_show.specs.declared.rows.Subject.{Subject}
use Rattle.pk_show.specs.declared.rows.Subject.TheVariants.{Scalar, EachElement, Element}
use Rattle.pk_show.specs.Paths.{PathOf, path_in}
use Rattle.pk_show.specs.Rows.{HeadingOf, ValueOf, BoundOf}
use Rattle.pk_findings.specs.Texts.{TextOf}
use Rattle.pk_html.specs.declared.parts.Part.{Part}
use Rattle.pk_html.specs.declared.parts.Part.TheVariants.{Tag, Text, Count, Number}
use Rattle.pk_html.specs.declared.tags.Tag.{Tag as TagOf}
use Rattle.pk_html.specs.declared.tags.Tag.TheVariants as tag
use Rattle.pk_page.specs.Places.{place_parts, path_parts}

abbrev pub heading_open : (is_head : Bool) → TagOf
heading_open true = tag.LoopOpen
heading_open false = tag.PointOpen

abbrev pub way_to : ℕ → TextOf → Option PathOf → List Part
way_to i t None = Tag tag.CodeEnd ∷ []
way_to i t (Some p) = path_parts i t p

unfoldable pub heading_parts : ℕ → TextOf → HeadingOf → List Part
heading_parts i t h =
    (Tag (heading_open h.is_head) ∷ []) ++ (place_parts i t h.at ++
    ((Tag tag.LoopIn ∷ []) ++ (way_to i t (path_in h.path) ++ (Tag tag.HeadingEnd ∷ []))))

-- what stands behind a name
abbrev pub mark_parts : Subject → List Part
mark_parts Scalar = []
mark_parts EachElement = Tag tag.ArrayMark ∷ []
mark_parts (Element i) = Tag tag.ElementOpen ∷ Count i ∷ Tag tag.ElementEnd ∷ []

abbrev pub range_parts : Known → List Part
range_parts k = Tag tag.In ∷ Number k.lo ∷ Tag tag.Comma ∷ Number k.hi ∷ Tag tag.InEnd ∷ []

-- of a number that is divided by more than 1, what is left
abbrev pub class_parts : Known → List Part
class_parts k =
    if int_lt (pos 1) k.modulus then
    (Tag tag.Class ∷ Number k.modulus ∷ Tag tag.Times ∷ Number k.rest ∷ []) else []

unfoldable pub value_parts : ValueOf → List Part
value_parts v =
    (Tag tag.FactOpen ∷ Text v.name ∷ []) ++ (mark_parts v.subject ++
    (range_parts v.known ++ (class_parts v.known ++ (Tag tag.FactEnd ∷ []))))

abbrev pub front_parts : Form → List Part
front_parts form.Difference = []
front_parts form.Sum = []
front_parts form.NegatedSum = Tag tag.Minus ∷ []

abbrev pub sign_of : Form → TagOf
sign_of form.Difference = tag.Difference
sign_of form.Sum = tag.Sum
sign_of form.NegatedSum = tag.Difference

abbrev pub sides_parts : BoundOf → List Part
sides_parts b =
    Text b.left ∷ Tag (sign_of b.form) ∷ Text b.right ∷ Tag tag.AtMost ∷ Number b.most ∷ Tag tag.FactEnd ∷ []

unfoldable pub bound_parts : BoundOf → List Part
bound_parts b = (Tag tag.FactOpen ∷ []) ++ (front_parts b.form ++ sides_parts b)

unfoldable pub fact_parts : ℕ → TextOf → Row → List Part
fact_parts i t (row.Opening o) = []
fact_parts i t (row.Heading h) = heading_parts i t h
fact_parts i t row.NoRun = Tag tag.NoRun ∷ []
fact_parts i t (row.Value v) = value_parts v
fact_parts i t (row.Bound b) = bound_parts b
fact_parts i t (row.Access a) = []
fact_parts i t (row.Counts c) = []

unfoldable pub loops_parts : ℕ → TextOf → List Row → List Part
loops_parts i t rows = (Tag tag.LoopsOpen ∷ []) ++ flat_map (fact_parts i t) rows
