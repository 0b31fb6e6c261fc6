-- What holds of every page.
use Rattle.std.specs.Prelude.{◌≡◌, ℤ, List, ◌∷◌, ◌++◌, length}
use Rattle.pk_show.specs.declared.rows.Verdict.TheVariants.{Unknown}
use Rattle.pk_findings.specs.Operations.{OperationOf}
use Rattle.pk_findings.specs.Shown.{ShownOf}
use Rattle.pk_findings.specs.Refused.{RefusedOf}
use Rattle.pk_findings.specs.Words.{verdict_of}
use Rattle.pk_html.specs.declared.parts.Part.{Part}
use Rattle.pk_page.specs.Findings.{finding_with}
use Rattle.pk_page.specs.Pages.{page_parts}

-- some parts stand side by side on a page
abbrev pub Stand : List Part → List Part → Type 0
Stand parts page = (before : List Part) × (after : List Part) × (page ≡ before ++ (parts ++ after))

-- each operation of a text that is unknown stands on the page, with its place and its ways
abbrev pub FindingsStand : Type 0
FindingsStand =
    (before after : List ShownOf) (s : ShownOf) (refused : List RefusedOf) (front back : List OperationOf)
    (o : OperationOf) (lo hi : ℤ) → s.operations ≡ front ++ o ∷ back → verdict_of o ≡ Unknown lo hi →
    Stand (finding_with (length before) s.text o lo hi) (page_parts (before ++ s ∷ after) refused)
