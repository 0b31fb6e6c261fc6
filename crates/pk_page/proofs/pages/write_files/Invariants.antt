use Rattle.std.proofs.Common.{◌≡◌, ◌++◌, drop}
use Rattle.pk_html.specs.Parts.{parts_text}
use Rattle.pk_page.specs.Pages.{links_from}
use Rattle.pk_page.proofs.pages.write_files.Given as goal

-- what is written so far stands before what is left
abbrev pub invariant-loop-k : goal.invariant-loop-k
invariant-loop-k l =
    l.bytes.items ++ parts_text (links_from l.k (drop l.k l.shown)) ≡ l.initial.bytes.items ++ parts_text (links_from 0 l.shown)
