-- The functions of a text on a page, with how many of their operations have each verdict. Operations stand in the order
-- of their places, so those of a function stand side by side.
use Rattle.std.specs.Prelude.{ℕ, ◌+◌, ◌<◌, List, [], ◌∷◌, ◌++◌, if◌then◌else◌}
use Rattle.pk_lex.specs.Bytes.{same}
use Rattle.pk_show.specs.declared.rows.Counts.{Counts}
use Rattle.pk_show.specs.declared.rows.Verdict.{Verdict}
use Rattle.pk_show.specs.declared.rows.Verdict.TheVariants.{Safe, Unknown, Unreachable}
use Rattle.pk_show.specs.Paths.{CallOf}
use Rattle.pk_findings.specs.Operations.{WayOf, OperationOf}
use Rattle.pk_findings.specs.Words.{verdict_of}
use Rattle.pk_html.specs.declared.parts.Part.{Part}
use Rattle.pk_html.specs.declared.parts.Part.TheVariants.{Tag, Text, Count}
use Rattle.pk_html.specs.declared.tags.Tag.TheVariants as tag

-- the function that the last call of a path calls, or the one that runs begin with
abbrev pub last_called : List ℕ → List CallOf → List ℕ
last_called name [] = name
last_called name (c ∷ calls) = last_called c.name calls

-- the function that an operation stands in, as each of its ways tells
abbrev pub function_in : List WayOf → List ℕ
function_in [] = []
function_in (w ∷ ways) = last_called w.path.entry w.path.calls

abbrev pub function_of : OperationOf → List ℕ
function_of o = function_in o.ways

abbrev pub none : Counts
none = record { safe = 0; unknown = 0; unreachable = 0 }

-- a limit on all three
abbrev pub AreBelow : ℕ → Counts → Type 0
AreBelow most c = (c.safe < most) × (c.unknown < most) × (c.unreachable < most)

-- one more of this verdict
abbrev pub counted : Counts → Verdict → Counts
counted c Safe = record c { safe = c.safe + 1 }
counted c (Unknown lo hi) = record c { unknown = c.unknown + 1 }
counted c Unreachable = record c { unreachable = c.unreachable + 1 }

unfoldable pub row_parts : List ℕ → Counts → List Part
row_parts name c =
    Tag tag.TableRow ∷ Text name ∷ Tag tag.TableFirst ∷ Count c.safe ∷ Tag tag.TableNext ∷ Count c.unknown ∷
    Tag tag.TableNext ∷ Count c.unreachable ∷ Tag tag.TableRowEnd ∷ []

-- the rows from a function on of which so many operations were counted
abbrev pub rows_from : List ℕ → Counts → List OperationOf → List Part
rows_from name c [] = row_parts name c
rows_from name c (o ∷ os) =
    if same (function_of o) name then rows_from name (counted c (verdict_of o)) os else
    (row_parts name c ++ rows_from (function_of o) (counted none (verdict_of o)) os)

abbrev pub rows_of : List OperationOf → List Part
rows_of [] = []
rows_of (o ∷ os) = rows_from (function_of o) none (o ∷ os)

unfoldable pub table_parts : List OperationOf → List Part
table_parts os =
    (Tag tag.TableOpen ∷ Tag tag.TableColumns ∷ []) ++ (rows_of os ++ (Tag tag.TableEnd ∷ []))
