-- Each finding stands on the page.
use Rattle.std.proofs.Common.{◌≡◌, ℕ, suc, ◌+◌, List, [], ◌∷◌, ◌++◌, length, sym, ap, ◌∙◌, arith, append_assoc}
use Rattle.std.specs.Prelude.{ℤ}
use Rattle.std.specs.List.{flat_map}
use Rattle.std.proofs.lemmas.List.Concat.{flat_map-append}
use Rattle.pk_show.specs.declared.rows.Verdict.TheVariants.{Unknown}
use Rattle.pk_findings.specs.Operations.{OperationOf}
use Rattle.pk_findings.specs.Shown.{ShownOf}
use Rattle.pk_findings.specs.Texts.{TextOf}
use Rattle.pk_findings.specs.Words.{verdict_of, counts_of}
use Rattle.pk_html.specs.declared.parts.Part.{Part}
use Rattle.pk_html.specs.declared.parts.Part.TheVariants.{Tag}
use Rattle.pk_html.specs.declared.tags.Tag.TheVariants as tag
use Rattle.pk_page.specs.Findings.{finding_by, finding_with, each_finding, findings_parts}
use Rattle.pk_page.specs.Functions.{table_parts}
use Rattle.pk_page.specs.Loops.{loops_parts}
use Rattle.pk_page.specs.Source.{source_parts}
use Rattle.pk_page.specs.Pages.{front_parts, title_parts, section_parts, sections_from, refused_parts, page_parts}
use Rattle.pk_page.specs.Laws.{Stand, FindingsStand}

-- what stands in a part of a page stands on the page
within : (parts inner front back : List Part) → Stand parts inner → Stand parts (front ++ (inner ++ back))
within parts inner front back (before, after, e) = (
  front ++ before,
  after ++ back,
  ap (λ (l : List Part). front ++ (l ++ back)) e ∙
      ap (λ (l : List Part). front ++ l) (append_assoc before (parts ++ after) back ∙ ap (λ (l : List Part). before ++ l) (append_assoc parts after back)) ∙
      sym (append_assoc front before (parts ++ (after ++ back))),
)

behind : (parts inner front : List Part) → Stand parts inner → Stand parts (front ++ inner)
behind parts inner front (before, after, e) = (front ++ before, after, ap (λ (l : List Part). front ++ l) e ∙ sym (append_assoc front before (parts ++ after)))

among : (i : ℕ) (t : TextOf) (front back : List OperationOf) (o : OperationOf) (lo hi : ℤ) → verdict_of o ≡ Unknown lo hi →
    Stand (finding_with i t o lo hi) (each_finding i t (front ++ o ∷ back))
among i t front back o lo hi unknown = (
  each_finding i t front,
  each_finding i t back,
  flat_map-append (λ o. finding_by i t o (verdict_of o)) front (o ∷ back) ∙
      ap (λ v. each_finding i t front ++ (finding_by i t o v ++ each_finding i t back)) unknown,
)

in_findings : (i : ℕ) (t : TextOf) (front back : List OperationOf) (o : OperationOf) (lo hi : ℤ) → verdict_of o ≡ Unknown lo hi →
    Stand (finding_with i t o lo hi) (findings_parts i t (front ++ o ∷ back))
unfolding findings_parts
in_findings i t front back o lo hi unknown = within _ _ (Tag tag.FindingsOpen ∷ []) (Tag tag.FindingsEnd ∷ []) (among i t front back o lo hi unknown)

in_section : (i : ℕ) (s : ShownOf) (front back : List OperationOf) (o : OperationOf) (lo hi : ℤ) → s.operations ≡ front ++ o ∷ back → verdict_of o ≡ Unknown lo hi →
    Stand (finding_with i s.text o lo hi) (section_parts i s)
unfolding section_parts
in_section i s front back o lo hi all unknown =
    let told : Stand (finding_with i s.text o lo hi) (findings_parts i s.text s.operations) = rw all (in_findings i s.text front back o lo hi unknown) in
    within _ _ (title_parts i s.text.name (counts_of s.operations)) (table_parts s.operations ++ (loops_parts i s.text s.rows ++ (source_parts i s.text s.operations ++ (Tag tag.SectionEnd ∷ [])))) told

sections_split : (i : ℕ) (before after : List ShownOf) (s : ShownOf) →
    sections_from i (before ++ s ∷ after) ≡ sections_from i before ++ (section_parts (i + length before) s ++ sections_from (i + length before + 1) after)
sections_split i [] after s =
    let e : i + 0 ≡ i = omega arith in
    ap (λ (n : ℕ). section_parts n s ++ sections_from (n + 1) after) (sym e)
sections_split i (b ∷ before) after s =
    let e : (i + 1) + length before ≡ i + suc (length before) = omega arith in
    ap (λ (l : List Part). section_parts i b ++ l) (sections_split (i + 1) before after s) ∙
    ap (λ (n : ℕ). section_parts i b ++ (sections_from (i + 1) before ++ (section_parts n s ++ sections_from (n + 1) after))) e ∙
    sym (append_assoc (section_parts i b) (sections_from (i + 1) before) (section_parts (i + suc (length before)) s ++ sections_from (i + suc (length before) + 1) after))

pub findings_stand : FindingsStand
unfolding page_parts
findings_stand before after s refused front back o lo hi all unknown =
    let i = length before in
    let e : 0 + i ≡ i = omega arith in
    let split : sections_from 0 (before ++ s ∷ after) ≡ sections_from 0 before ++ (section_parts i s ++ sections_from (i + 1) after) =
    sections_split 0 before after s ∙ ap (λ (n : ℕ). sections_from 0 before ++ (section_parts n s ++ sections_from (n + 1) after)) e in
    let told : Stand (finding_with i s.text o lo hi) (sections_from 0 (before ++ s ∷ after)) =
    rw split (within _ _ (sections_from 0 before) (sections_from (i + 1) after) (in_section i s front back o lo hi all unknown)) in
    let rest = flat_map refused_parts refused ++ (Tag tag.PageEnd ∷ []) in
    behind _ _ (front_parts (before ++ s ∷ after)) (within _ _ [] rest told)
