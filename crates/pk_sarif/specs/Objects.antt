-- The objects of SARIF 2.1.0 that a log is made of (OASIS Standard, 27 March 2020), as JSON; members stand in the order
-- of their names.
use Rattle.std.specs.Prelude.{ℕ, List, max, codes}
use Rattle.std.specs.Str.Lossy.{utf8_lossy}
use Rattle.percent_encoding.specs.Percent.{percent_encode}
use Rattle.serde_json.specs.Data.{Data, number, unsigned, string, object, member, no_members}
use Rattle.pk_sarif.specs.declared.objects.TheConstants.{OUTSIDE_PATHS}

-- bytes as text: what is no UTF-8 becomes U+FFFD
abbrev pub readable : List ℕ → Data
readable bytes = string (utf8_lossy bytes)

-- a message (3.11)
abbrev pub message : List ℕ → Data
message bytes = object (member (codes "text") (readable bytes) no_members)

-- where a file is (3.4): its path, with what may stand in no path of a URI as `%XX`
abbrev pub artifact_location : List ℕ → Data
artifact_location file = object (member (codes "uri") (string (percent_encode OUTSIDE_PATHS file)) no_members)

-- lines and columns are counted from 1
abbrev pub count : ℕ → Data
count n = number (unsigned (max n 1))

-- a place in a file (3.30)
abbrev pub region : (line column : ℕ) → Data
region line column =
    object (member (codes "startColumn") (count column)
    (member (codes "startLine") (count line) no_members))

-- a place (3.29)
abbrev pub physical_location : List ℕ → (line column : ℕ) → Data
physical_location file line column =
    object (member (codes "artifactLocation") (artifact_location file)
    (member (codes "region") (region line column) no_members))

-- a place of a result (3.28)
abbrev pub location : Data → Data
location place = object (member (codes "physicalLocation") place no_members)

-- a place on a way, with what happens there (3.38)
abbrev pub step : Data → List ℕ → Data
step place said =
    object (member (codes "location")
    (object (member (codes "message") (message said)
    (member (codes "physicalLocation") place no_members))) no_members)
