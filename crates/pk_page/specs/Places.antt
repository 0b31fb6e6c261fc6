-- Places and call paths on a page. Each text has a number there, and each of its lines a name: both numbers.
use Rattle.std.specs.Prelude.{ℕ, List, [], ◌∷◌, ◌++◌}
use Rattle.std.specs.List.{flat_map}
use Rattle.pk_ctypes.specs.declared.places.Pos.{Pos}
use Rattle.pk_show.specs.Paths.{CallOf, PathOf}
use Rattle.pk_findings.specs.Texts.{TextOf, origin_at, file_of}
use Rattle.pk_html.specs.declared.parts.Part.{Part}
use Rattle.pk_html.specs.declared.parts.Part.TheVariants.{Tag, Text, Count}
use Rattle.pk_html.specs.declared.tags.Tag.TheVariants as tag

-- FILE:LINE:COLUMN of where a place comes from
unfoldable pub origin_parts : TextOf → Pos → List Part
origin_parts t at =
    Text (file_of t (origin_at t at)) ∷ Tag tag.Colon ∷ Count (origin_at t at).line ∷ Tag tag.Colon ∷
    Count at.column ∷ []

-- a link to a line
abbrev pub link_open : ℕ → ℕ → List Part
link_open i line = Tag tag.LinkOpen ∷ Count i ∷ Tag tag.LinkLine ∷ Count line ∷ Tag tag.Quoted ∷ []

-- FILE:LINE:COLUMN as a link to the line
unfoldable pub place_parts : ℕ → TextOf → Pos → List Part
place_parts i t at = link_open i at.line ++ (origin_parts t at ++ (Tag tag.LinkEnd ∷ []))

unfoldable pub call_parts : ℕ → TextOf → CallOf → List Part
call_parts i t c = (Tag tag.CallOpen ∷ Text c.name ∷ Tag tag.CallAt ∷ []) ++ place_parts i t c.at

-- the function that runs begin with, and the calls that lead from it
unfoldable pub path_parts : ℕ → TextOf → PathOf → List Part
path_parts i t p = (Text p.entry ∷ Tag tag.CodeEnd ∷ []) ++ flat_map (call_parts i t) p.calls
