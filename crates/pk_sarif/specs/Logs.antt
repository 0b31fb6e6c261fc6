-- A log (3.13): one run of the tool over all texts.
use Rattle.std.specs.Prelude.{ℕ, List, [], ◌∷◌, codes, map, Bool, true, false, Option, Some, None}
use Rattle.std.specs.List.{flat_map}
use Rattle.pk_ctypes.specs.declared.places.Pos.{Pos}
use Rattle.pk_show.specs.declared.rows.Counts.{Counts}
use Rattle.pk_findings.specs.Texts.{TextOf}
use Rattle.pk_findings.specs.Shown.{ShownOf}
use Rattle.pk_findings.specs.Refused.{RefusedOf}
use Rattle.pk_findings.specs.Words.{counts_of}
use Rattle.serde_json.specs.Data.{Data, boolean, number, unsigned, string, array, object, item, no_items, member, no_members}
use Rattle.serde_json.specs.View.{items_of}
use Rattle.pk_sarif.specs.Objects.{message, artifact_location, location}
use Rattle.pk_sarif.specs.Rules.{tool}
use Rattle.pk_sarif.specs.Results.{place, results}

-- how many operations of a text have each verdict, as properties (3.8)
abbrev pub properties : Counts → Data
properties c =
    object (member (codes "safe") (number (unsigned c.safe))
    (member (codes "unknown") (number (unsigned c.unknown))
    (member (codes "unreachable") (number (unsigned c.unreachable)) no_members)))

-- a text that was analysed (3.24)
abbrev pub artifact : ShownOf → Data
artifact s =
    object (member (codes "location") (artifact_location s.text.name)
    (member (codes "properties") (properties (counts_of s.operations)) no_members))

-- where a text was refused: the place that was named, or the file alone
abbrev pub refused_at : TextOf → Option Pos → Data
refused_at t None = object (member (codes "artifactLocation") (artifact_location t.name) no_members)
refused_at t (Some at) = place t at

-- a text that was refused (3.58)
abbrev pub notification : RefusedOf → Data
notification r =
    object (member (codes "level") (string (codes "error"))
    (member (codes "locations") (array (item (location (refused_at r.text r.at)) no_items))
    (member (codes "message") (message r.said) no_members)))

abbrev pub is_none_refused : List RefusedOf → Bool
is_none_refused [] = true
is_none_refused (r ∷ refused) = false

-- how the tool ran (3.20)
abbrev pub invocation : List RefusedOf → Data
invocation refused =
    object (member (codes "executionSuccessful") (boolean (is_none_refused refused))
    (member (codes "toolExecutionNotifications") (array (items_of (map notification refused))) no_members))

-- the results of all texts, in the order of the texts
abbrev pub all_results : List ShownOf → List Data
all_results = flat_map (λ s. results s.text s.operations)

-- the run (3.14)
abbrev pub run : List ShownOf → List RefusedOf → Data
run shown refused =
    object (member (codes "artifacts") (array (items_of (map artifact shown)))
    (member (codes "invocations") (array (item (invocation refused) no_items))
    (member (codes "results") (array (items_of (all_results shown)))
    (member (codes "tool") tool no_members))))

abbrev pub schema : List ℕ
schema = codes "https://json.schemastore.org/sarif-2.1.0.json"

abbrev pub log : List ShownOf → List RefusedOf → Data
log shown refused =
    object (member (codes "$schema") (string schema)
    (member (codes "runs") (array (item (run shown refused) no_items))
    (member (codes "version") (string (codes "2.1.0")) no_members)))
