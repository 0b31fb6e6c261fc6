-- The findings of a text on a page: its operations that are unknown.
use Rattle.std.specs.Prelude.{ℕ, ℤ, List, [], ◌∷◌, ◌++◌}
use Rattle.std.specs.List.{flat_map}
use Rattle.pk_show.specs.declared.rows.Verdict.{Verdict}
use Rattle.pk_show.specs.declared.rows.Verdict.TheVariants.{Safe, Unknown, Unreachable}
use Rattle.pk_findings.specs.Texts.{TextOf}
use Rattle.pk_findings.specs.Operations.{WayOf, OperationOf}
use Rattle.pk_findings.specs.Words.{verdict_of}
use Rattle.pk_findings.specs.Messages.{message, range_text}
use Rattle.pk_html.specs.declared.parts.Part.{Part}
use Rattle.pk_html.specs.declared.parts.Part.TheVariants.{Tag, Text}
use Rattle.pk_html.specs.declared.tags.Tag.TheVariants as tag
use Rattle.pk_page.specs.Places.{place_parts, path_parts}

abbrev pub range_parts : (lo hi : ℤ) → List Part
range_parts lo hi = Tag tag.WayRange ∷ Text (range_text lo hi) ∷ Tag tag.WayEnd ∷ []

-- a way that is unknown: its path, and the range that was found on it
unfoldable pub way_with : ℕ → TextOf → WayOf → (lo hi : ℤ) → List Part
way_with i t w lo hi = (Tag tag.WayOpen ∷ []) ++ (path_parts i t w.path ++ range_parts lo hi)

abbrev pub way_by : ℕ → TextOf → WayOf → Verdict → List Part
way_by i t w Safe = []
way_by i t w (Unknown lo hi) = way_with i t w lo hi
way_by i t w Unreachable = []

abbrev pub ways_parts : ℕ → TextOf → List WayOf → List Part
ways_parts i t = flat_map (λ w. way_by i t w w.verdict)

abbrev pub said_parts : TextOf → OperationOf → (lo hi : ℤ) → List Part
said_parts t o lo hi = Tag tag.FindingSaid ∷ Text (message t o lo hi) ∷ Tag tag.WaysOpen ∷ []

-- what may happen, and the ways that lead there
abbrev pub told_parts : ℕ → TextOf → OperationOf → (lo hi : ℤ) → List Part
told_parts i t o lo hi = said_parts t o lo hi ++ (ways_parts i t o.ways ++ (Tag tag.FindingEnd ∷ []))

-- an operation that is unknown: its place, and what is told of it
unfoldable pub finding_with : ℕ → TextOf → OperationOf → (lo hi : ℤ) → List Part
finding_with i t o lo hi = (Tag tag.FindingOpen ∷ []) ++ (place_parts i t o.at ++ told_parts i t o lo hi)

abbrev pub finding_by : ℕ → TextOf → OperationOf → Verdict → List Part
finding_by i t o Safe = []
finding_by i t o (Unknown lo hi) = finding_with i t o lo hi
finding_by i t o Unreachable = []

abbrev pub each_finding : ℕ → TextOf → List OperationOf → List Part
each_finding i t = flat_map (λ o. finding_by i t o (verdict_of o))

unfoldable pub findings_parts : ℕ → TextOf → List OperationOf → List Part
findings_parts i t os = (Tag tag.FindingsOpen ∷ []) ++ (each_finding i t os ++ (Tag tag.FindingsEnd ∷ []))
