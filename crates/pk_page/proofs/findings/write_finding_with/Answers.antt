use Rattle.std.proofs.Common.{◌≡◌, [], ◌∷◌, ◌++◌, rules}
use Rattle.pk_html.specs.declared.parts.Part.TheVariants.{Tag}
use Rattle.pk_html.specs.declared.tags.Tag.TheVariants as tag
use Rattle.pk_html.specs.Parts.{parts_text}
use Rattle.pk_page.specs.Places.{place_parts}
use Rattle.pk_page.specs.Findings.{told_parts, finding_with}
use Rattle.pk_page.proofs.PieceLemmas.{three_pieces}
use Rattle.pk_page.proofs.findings.write_finding_with.Goals as goal

pub returns : goal.returns
unfolding finding_with
returns c =
    let i = c.args.number in
    let t = c.args.text.now in
    let o = c.args.operation.now in
    let first : c.write.new.bytes.items ≡ c.args.bytes.now.items ++ parts_text (Tag tag.FindingOpen ∷ []) = search rules in
    let second : c.write_place.new.bytes.items ≡ c.write.new.bytes.items ++ parts_text (place_parts i t o.at) = search rules in
    let third : c.write_told.new.bytes.items ≡ c.write_place.new.bytes.items ++ parts_text (told_parts i t o c.args.lo c.args.hi) = search rules in
    three_pieces (Tag tag.FindingOpen ∷ []) (place_parts i t o.at) (told_parts i t o c.args.lo c.args.hi)
    c.args.bytes.now.items c.write.new.bytes.items c.write_place.new.bytes.items c.write_told.new.bytes.items
    first second third
