-- The rows of the report on a graph.
use Rattle.std.specs.Prelude.{ℕ, pos, ◌+ℤ◌, ◌-ℤ◌, ℤ, int_lt, Bool, ◌||◌, if◌then◌else◌, List, [], ◌∷◌, ◌++◌, length, map, count_by, Option, Some, None}
use Rattle.std.specs.List.{flat_map, range_with_len, zip}
use Rattle.pk_graph.specs.declared.verdicts.Verdict.{Verdict}
use Rattle.pk_graph.specs.declared.verdicts.Verdict.TheVariants.{Safe, Unknown, Unreachable}
use Rattle.pk_graph.specs.Accesses.{AccessOf, fault_of}
use Rattle.pk_graph.specs.Graphs.{PathOf, GraphOf, point_at, variable_at}
use Rattle.pk_graph.specs.Visible.{visible_at}
use Rattle.pk_value.specs.Known.{Known}
use Rattle.pk_octagons.specs.Values.{known_at}
use Rattle.pk_state.specs.Layouts.{Layout, is_spread, slot_of}
use Rattle.pk_state.specs.Facts.{Facts, Stated}
use Rattle.pk_state.specs.Changes.{bound_in}
use Rattle.pk_report.specs.Paths.{path_text}
use Rattle.pk_report.specs.Values.{name_of, numbers_of, related, bounds_of}
use Rattle.pk_report.specs.Reports.{is_head, state_at, is_safe, is_unknown, is_unreachable}
use Rattle.pk_show.specs.declared.report.Row.{Row}
use Rattle.pk_show.specs.declared.report.Row.TheVariants as row
use Rattle.pk_show.specs.declared.rows.Form.{Form}
use Rattle.pk_show.specs.declared.rows.Form.TheVariants.{Difference, Sum, NegatedSum}
use Rattle.pk_show.specs.declared.rows.Counts.{Counts}
use Rattle.pk_show.specs.declared.rows.Known.{Known as KnownRow}
use Rattle.pk_show.specs.declared.rows.Subject.{Subject}
use Rattle.pk_show.specs.declared.rows.Subject.TheVariants.{Scalar, EachElement, Element}
use Rattle.pk_show.specs.declared.rows.Verdict.{Verdict as VerdictRow}
use Rattle.pk_show.specs.declared.rows.Verdict.TheVariants as told
use Rattle.pk_show.specs.Rows.{OpeningOf, HeadingOf, ValueOf, BoundOf, AccessOf as AccessRow}

-- ---- points

abbrev pub heading_of : GraphOf → (is_head : Bool) → ℕ → HeadingOf
heading_of g is_head v =
    record { is_head = is_head; point = v; path = path_text g.paths (point_at g v).path; at = (point_at g v).at }

abbrev pub known_of : Known → KnownRow
known_of k = record { lo = k.range.lo; hi = k.range.hi; modulus = k.class.m; rest = k.class.r }

abbrev pub value_of : (name : List ℕ) → Subject → Known → ValueOf
value_of name s k = record { name = name; subject = s; known = known_of k }

abbrev pub subject_of : (length : Option ℕ) → Subject
subject_of None = Scalar
subject_of (Some n) = EachElement

abbrev pub whole_value : GraphOf → Facts → ℕ → ValueOf
whole_value g f x = value_of (name_of g x) (subject_of (variable_at g x).kind.length) (known_at f.values x)

abbrev pub element_value : GraphOf → Layout → Facts → ℕ → ℕ → ValueOf
element_value g l f x i = value_of (name_of g x) (Element i) (known_at f.values (slot_of l x i))

-- one for each number of a variable, if each has a slot, else one for the variable
abbrev pub values_of : GraphOf → Layout → Facts → ℕ → List ValueOf
values_of g l f x =
    if is_spread l x then map (element_value g l f x) (range_with_len 0 (numbers_of g x))
    else whole_value g f x ∷ []

abbrev pub bound_of : Form → (left right : List ℕ) → ℤ → BoundOf
bound_of form left right c = record { form = form; left = left; right = right; most = c }

-- a bound, where it is less than what the ranges give
abbrev pub bounds_if : Form → (left right : List ℕ) → (limit : ℤ) → Option ℤ → List BoundOf
bounds_if form left right limit None = []
bounds_if form left right limit (Some c) = if int_lt c limit then bound_of form left right c ∷ [] else []

-- The four forms of the variables x and y: x - y, y - x, x + y and -x - y. What bounds each comes last.
abbrev pub bounds_told : (x y : List ℕ) → (kx ky : Known) → (minus turned plus negated : Option ℤ) → List BoundOf
bounds_told x y kx ky minus turned plus negated =
    bounds_if Difference x y (kx.range.hi -ℤ ky.range.lo) minus
    ++ bounds_if Difference y x (ky.range.hi -ℤ kx.range.lo) turned
    ++ bounds_if Sum x y (kx.range.hi +ℤ ky.range.hi) plus
    ++ bounds_if NegatedSum x y ((pos 0 -ℤ kx.range.lo) -ℤ ky.range.lo) negated

-- of the variables x and y
abbrev pub pair_bounds : GraphOf → Layout → Facts → (x y : ℕ) → List BoundOf
pair_bounds g l f x y =
    bounds_told (name_of g x) (name_of g y) (known_at f.values x) (known_at f.values y)
    (bounds_of (bound_in l (Some f)) x y).minus (bounds_of (bound_in l (Some f)) x y).turned
    (bounds_of (bound_in l (Some f)) x y).plus (bounds_of (bound_in l (Some f)) x y).negated

-- each pair, the one before the other in the list
abbrev pub of_pairs : {A : Type 0} → List A → (A → A → List BoundOf) → List BoundOf
of_pairs [] bounds = []
of_pairs (p ∷ ps) bounds = flat_map (bounds p) ps ++ of_pairs ps bounds

abbrev pub bounds_at : GraphOf → Layout → Facts → List ℕ → List BoundOf
bounds_at g l f xs = of_pairs (related l xs) (pair_bounds g l f)

abbrev pub values_at : GraphOf → Layout → Facts → List ℕ → List ValueOf
values_at g l f = flat_map (values_of g l f)

abbrev pub values_rows : GraphOf → Layout → Facts → List ℕ → List Row
values_rows g l f xs = map row.Value (values_at g l f xs)

abbrev pub bounds_rows : GraphOf → Layout → Facts → List ℕ → List Row
bounds_rows g l f xs = map row.Bound (bounds_at g l f xs)

abbrev pub facts_rows : GraphOf → Layout → Option Facts → List ℕ → List Row
facts_rows g l None xs = row.NoRun ∷ []
facts_rows g l (Some f) xs = values_rows g l f xs ++ bounds_rows g l f xs

abbrev pub point_rows : GraphOf → Stated → (is_head : Bool) → ℕ → List Row
point_rows g s is_head v = row.Heading (heading_of g is_head v) ∷ facts_rows g s.layout s.facts (visible_at g v)

-- a head, or any point where all are told
abbrev pub told_if : (all : Bool) → GraphOf → Stated → (is_head : Bool) → ℕ → List Row
told_if all g s is_head v = if is_head || all then point_rows g s is_head v else []

abbrev pub told_rows : (all : Bool) → GraphOf → (heads : List ℕ) → List Stated → ℕ → List Row
told_rows all g heads states v = told_if all g (state_at states v) (is_head heads v) v

-- ---- accesses, the first and the last row

abbrev pub verdict_of : Verdict → VerdictRow
verdict_of Safe = told.Safe
verdict_of (Unknown lo hi) = told.Unknown lo hi
verdict_of Unreachable = told.Unreachable

abbrev pub access_of : List PathOf → AccessOf × Verdict → AccessRow
access_of ps a = record {
  path = path_text ps a.0.site.path;
  at = a.0.site.at;
  fault = fault_of a.0.operation;
  verdict = verdict_of a.1;
}

abbrev pub opening_of : GraphOf → (elements : ℕ) → OpeningOf
opening_of g elements = record { entry = path_text g.paths 0; points = length g.points; elements = elements }

abbrev pub counts_of : List Verdict → Counts
counts_of vs = record {
  safe = count_by is_safe vs;
  unknown = count_by is_unknown vs;
  unreachable = count_by is_unreachable vs;
}

-- ---- the whole

abbrev pub accesses_rows : List PathOf → List (AccessOf × Verdict) → List Row
accesses_rows ps = map (λ a. row.Access (access_of ps a))

abbrev pub report_rows : (all : Bool) → GraphOf → (heads : List ℕ) → (elements : ℕ) → List Stated → List AccessOf →
    List Verdict → List Row
report_rows all g heads elements states accesses verdicts =
    row.Opening (opening_of g elements)
    ∷ (flat_map (told_rows all g heads states) (range_with_len 0 (length g.points))
    ++ (accesses_rows g.paths (zip accesses verdicts) ++ row.Counts (counts_of verdicts) ∷ []))
