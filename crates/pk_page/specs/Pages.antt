-- A page: all texts, and those that were refused.
use Rattle.std.specs.Prelude.{ℕ, ◌+◌, List, [], ◌∷◌, ◌++◌, Option, Some, None}
use Rattle.std.specs.List.{flat_map}
use Rattle.pk_ctypes.specs.declared.places.Pos.{Pos}
use Rattle.pk_show.specs.declared.rows.Counts.{Counts}
use Rattle.pk_findings.specs.Texts.{TextOf}
use Rattle.pk_findings.specs.Shown.{ShownOf}
use Rattle.pk_findings.specs.Refused.{RefusedOf}
use Rattle.pk_findings.specs.Words.{counts_of}
use Rattle.pk_html.specs.declared.parts.Part.{Part}
use Rattle.pk_html.specs.declared.parts.Part.TheVariants.{Tag, Text, Count}
use Rattle.pk_html.specs.declared.tags.Tag.TheVariants as tag
use Rattle.pk_page.specs.Places.{origin_parts}
use Rattle.pk_page.specs.Findings.{findings_parts}
use Rattle.pk_page.specs.Functions.{table_parts}
use Rattle.pk_page.specs.Loops.{loops_parts}
use Rattle.pk_page.specs.Source.{source_parts}

-- a link to a text
unfoldable pub link_parts : ℕ → ShownOf → List Part
link_parts i s =
    Tag tag.FileLink ∷ Count i ∷ Tag tag.Quoted ∷ Text s.text.name ∷ Tag tag.FileCount ∷
    Count (counts_of s.operations).unknown ∷ Tag tag.FileEnd ∷ []

abbrev pub links_from : ℕ → List ShownOf → List Part
links_from i [] = []
links_from i (s ∷ shown) = link_parts i s ++ links_from (i + 1) shown

unfoldable pub title_parts : ℕ → List ℕ → Counts → List Part
title_parts i name c =
    Tag tag.SectionOpen ∷ Count i ∷ Tag tag.Quoted ∷ Text name ∷ Tag tag.SectionCounts ∷ Count c.safe ∷ Tag tag.Safe ∷
    Count c.unknown ∷ Tag tag.Unknown ∷ Count c.unreachable ∷ Tag tag.Unreachable ∷ []

unfoldable pub section_parts : ℕ → ShownOf → List Part
section_parts i s =
    title_parts i s.text.name (counts_of s.operations) ++ (findings_parts i s.text s.operations ++
    (table_parts s.operations ++ (loops_parts i s.text s.rows ++
    (source_parts i s.text s.operations ++ (Tag tag.SectionEnd ∷ [])))))

abbrev pub sections_from : ℕ → List ShownOf → List Part
sections_from i [] = []
sections_from i (s ∷ shown) = section_parts i s ++ sections_from (i + 1) shown

abbrev pub refused_at : TextOf → Option Pos → List Part
refused_at t None = Text t.name ∷ []
refused_at t (Some at) = origin_parts t at

abbrev pub said_parts : List ℕ → List Part
said_parts said = Tag tag.RefusedSaid ∷ Text said ∷ Tag tag.RefusedEnd ∷ []

unfoldable pub refused_parts : RefusedOf → List Part
refused_parts r = (Tag tag.RefusedOpen ∷ []) ++ (refused_at r.text r.at ++ said_parts r.said)

abbrev pub head_parts : List Part
head_parts =
    Tag tag.PageOpen ∷ Tag tag.Viewport ∷ Tag tag.LightColours ∷ Tag tag.DarkColours ∷ Tag tag.BodyStyle ∷
    Tag tag.InkStyle ∷ Tag tag.HeadingStyle ∷ Tag tag.CodeStyle ∷ Tag tag.TableStyle ∷ Tag tag.LineStyle ∷
    Tag tag.SafeStyle ∷ Tag tag.UnknownStyle ∷ Tag tag.UnreachableStyle ∷ Tag tag.PrintStyle ∷ Tag tag.BodyOpen ∷
    Tag tag.SafeLegend ∷ Tag tag.UnknownLegend ∷ Tag tag.FilesOpen ∷ []

-- what stands before the texts
abbrev pub front_parts : List ShownOf → List Part
front_parts shown = head_parts ++ (links_from 0 shown ++ (Tag tag.FilesEnd ∷ []))

-- the texts, and those that were refused
abbrev pub main_parts : List ShownOf → List RefusedOf → List Part
main_parts shown refused =
    sections_from 0 shown ++ (flat_map refused_parts refused ++ (Tag tag.PageEnd ∷ []))

unfoldable pub page_parts : List ShownOf → List RefusedOf → List Part
page_parts shown refused = front_parts shown ++ main_parts shown refused
