-- A page, part by part: tags, which are the page's own, and text and numbers, which are told.
use Rattle.std.specs.Prelude.{ℕ, List, Bool, true, false}
use Rattle.std.specs.List.{flat_map, filter}
use Rattle.std.specs.Fmt.{decimal, signed_decimal}
use Rattle.pk_html.specs.declared.parts.Part.{Part}
use Rattle.pk_html.specs.declared.parts.Part.TheVariants as part
use Rattle.pk_html.specs.Escapes.{escaped}
use Rattle.pk_html.specs.Tags.{tag_text}

abbrev pub part_text : Part → List ℕ
part_text (part.Tag t) = tag_text t
part_text (part.Text s) = escaped s
part_text (part.Count n) = decimal n
part_text (part.Number z) = signed_decimal z

-- the bytes of a page
abbrev pub parts_text : List Part → List ℕ
parts_text = flat_map part_text

abbrev pub is_tag : Part → Bool
is_tag (part.Tag t) = true
is_tag (part.Text s) = false
is_tag (part.Count n) = false
is_tag (part.Number z) = false

-- the tags alone
abbrev pub tags_of : List Part → List Part
tags_of = filter is_tag
