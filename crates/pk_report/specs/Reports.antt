-- The text of a report.
use Rattle.std.specs.Prelude.{◌≡◌, ℕ, ◌<◌, nat_eq, Bool, true, false, ◌||◌, if◌then◌else◌, List, [], ◌++◌, codes, length, slice_index_or, count_by, None}
use Rattle.std.specs.Fmt.{decimal, signed_decimal}
use Rattle.std.specs.List.{flat_map, list_any, range_with_len, zip}
use Rattle.pk_ctypes.specs.declared.faults.Fault.{Fault}
use Rattle.pk_ctypes.specs.declared.places.Pos.{Pos}
use Rattle.pk_ctypes.specs.Places.{pos_text}
use Rattle.pk_ctypes.specs.Words.{fault_text}
use Rattle.pk_graph.specs.declared.verdicts.Verdict.{Verdict}
use Rattle.pk_graph.specs.declared.verdicts.Verdict.TheVariants.{Safe, Unknown, Unreachable}
use Rattle.pk_graph.specs.Accesses.{AccessOf, fault_of}
use Rattle.pk_graph.specs.Graphs.{PathOf, GraphOf, point_at}
use Rattle.pk_graph.specs.Visible.{visible_at}
use Rattle.pk_state.specs.Facts.{Stated}
use Rattle.pk_report.specs.Paths.{path_text}
use Rattle.pk_report.specs.Values.{facts_lines}

-- ---- points

abbrev pub point_word : (is_head : Bool) → List ℕ
point_word true = codes "head "
point_word false = codes "point "

-- no run comes to a point without a state
abbrev pub no_state : Stated
no_state = record { layout = record { types = []; packs = []; further = [] }; facts = None }

abbrev pub state_at : List Stated → ℕ → Stated
state_at states v = slice_index_or states v no_state

abbrev pub place_end : Pos → List ℕ
place_end at = codes " " ++ pos_text at ++ codes "\n"

abbrev pub heading : GraphOf → (is_head : Bool) → ℕ → List ℕ
heading g is_head v =
    (point_word is_head ++ decimal v ++ codes " ") ++ path_text g.paths (point_at g v).path
    ++ place_end (point_at g v).at

-- `head N PATH L:C`, or `point N PATH L:C` where the point is no head, and what is known there
abbrev pub point_lines : GraphOf → Stated → (is_head : Bool) → ℕ → List ℕ
point_lines g s is_head v = heading g is_head v ++ facts_lines g s.layout s.facts (visible_at g v)

abbrev pub is_head : List ℕ → ℕ → Bool
is_head heads v = list_any (nat_eq v) heads

-- a head, or any point where all are told
abbrev pub told_if : (all : Bool) → GraphOf → Stated → (is_head : Bool) → ℕ → List ℕ
told_if all g s is_head v = if is_head || all then point_lines g s is_head v else []

abbrev pub told_lines : (all : Bool) → GraphOf → (heads : List ℕ) → List Stated → ℕ → List ℕ
told_lines all g heads states v = told_if all g (state_at states v) (is_head heads v) v

-- for each of n points whether it is a head
pub record AreHeads (n : ℕ) (heads : List ℕ) (marks : List Bool) : Type 0 where
  pub size : length marks ≡ n
  pub each : (v : ℕ) → v < n → slice_index_or marks v false ≡ is_head heads v

-- ---- accesses

abbrev pub verdict_text : Verdict → List ℕ
verdict_text Safe = codes "safe"
verdict_text (Unknown lo hi) = codes "unknown [" ++ signed_decimal lo ++ codes "," ++ signed_decimal hi ++ codes "]"
verdict_text Unreachable = codes "unreachable"

abbrev pub place_and_kind : Pos → Fault → List ℕ
place_and_kind at f = codes " " ++ pos_text at ++ codes " " ++ fault_text f ++ codes " "

-- `access PATH L:C KIND VERDICT`
abbrev pub access_line : List PathOf → AccessOf × Verdict → List ℕ
access_line ps a =
    codes "access " ++ path_text ps a.0.site.path ++ place_and_kind a.0.site.at (fault_of a.0.operation)
    ++ verdict_text a.1 ++ codes "\n"

abbrev pub is_safe : Verdict → Bool
is_safe Safe = true
is_safe (Unknown lo hi) = false
is_safe Unreachable = false

abbrev pub is_unknown : Verdict → Bool
is_unknown Safe = false
is_unknown (Unknown lo hi) = true
is_unknown Unreachable = false

abbrev pub is_unreachable : Verdict → Bool
is_unreachable Safe = false
is_unreachable (Unknown lo hi) = false
is_unreachable Unreachable = true

-- ---- the whole

abbrev pub counted : List ℕ → ℕ → List ℕ
counted label n = label ++ decimal n

-- path 0 is the entry's
abbrev pub first_line : GraphOf → (elements : ℕ) → List ℕ
first_line g elements =
    (codes "pikos 1 entry " ++ path_text g.paths 0) ++ counted (codes " points ") (length g.points)
    ++ counted (codes " elements ") elements ++ codes "\n"

abbrev pub last_line : List Verdict → List ℕ
last_line vs =
    counted (codes "result safe ") (count_by is_safe vs) ++ counted (codes " unknown ") (count_by is_unknown vs)
    ++ counted (codes " unreachable ") (count_by is_unreachable vs) ++ codes "\n"

-- the report on a graph, given the heads of its components, how many elements its plan has, the reduced state of each point, and the verdict on each access
abbrev pub report_text : (all : Bool) → GraphOf → (heads : List ℕ) → (elements : ℕ) → List Stated → List AccessOf →
    List Verdict → List ℕ
report_text all g heads elements states accesses verdicts =
    first_line g elements ++ flat_map (told_lines all g heads states) (range_with_len 0 (length g.points))
    ++ flat_map (access_line g.paths) (zip accesses verdicts) ++ last_line verdicts

-- ---- of a made text

-- `gen seed S size N bytes B`, then the first and the last line of its report
abbrev pub summary_text : (seed size bytes : ℕ) → GraphOf → (elements : ℕ) → List Verdict → List ℕ
summary_text seed size bytes g elements vs =
    (counted (codes "gen seed ") seed ++ counted (codes " size ") size ++ counted (codes " bytes ") bytes
    ++ codes "\n") ++ first_line g elements ++ last_line vs

-- ---- of states that were checked

-- `valid points P`
abbrev pub valid_line : GraphOf → List ℕ
valid_line g = counted (codes "valid points ") (length g.points) ++ codes "\n"

-- that line, the accesses and the last line
abbrev pub checked_text : GraphOf → List AccessOf → List Verdict → List ℕ
checked_text g accesses verdicts =
    valid_line g ++ flat_map (access_line g.paths) (zip accesses verdicts) ++ last_line verdicts

abbrev pub unknown_in : List Verdict → ℕ
unknown_in = count_by is_unknown
