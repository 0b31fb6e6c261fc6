use Rattle.std.proofs.Common.{◌≡◌, ◌++◌, drop}
use Rattle.std.specs.List.{flat_map}
use Rattle.pk_html.specs.Parts.{parts_text}
use Rattle.pk_page.specs.Pages.{refused_parts}
use Rattle.pk_page.proofs.pages.write_all_refused.Given as goal

-- what is written so far stands before what is left
abbrev pub invariant-loop-k : goal.invariant-loop-k
invariant-loop-k l =
    l.bytes.items ++ parts_text (flat_map refused_parts (drop l.k l.refused)) ≡ l.initial.bytes.items ++ parts_text (flat_map refused_parts l.refused)
