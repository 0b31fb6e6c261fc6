use Rattle.std.proofs.Common.{◌≡◌, [], ◌∷◌, ◌++◌, rules}
use Rattle.pk_html.specs.declared.parts.Part.TheVariants.{Tag}
use Rattle.pk_html.specs.declared.tags.Tag.TheVariants as tag
use Rattle.pk_html.specs.Parts.{parts_text}
use Rattle.pk_page.specs.Findings.{said_parts, ways_parts}
use Rattle.pk_page.proofs.PieceLemmas.{three_pieces}
use Rattle.pk_page.proofs.findings.write_told.Goals as goal

pub returns : goal.returns
returns c =
    let i = c.args.number in
    let t = c.args.text.now in
    let o = c.args.operation.now in
    let first : c.write_said.new.bytes.items ≡ c.args.bytes.now.items ++ parts_text (said_parts t o c.args.lo c.args.hi) = search rules in
    let second : c.write_ways.new.bytes.items ≡ c.write_said.new.bytes.items ++ parts_text (ways_parts i t o.ways) = search rules in
    let third : c.write.new.bytes.items ≡ c.write_ways.new.bytes.items ++ parts_text (Tag tag.FindingEnd ∷ []) = search rules in
    three_pieces (said_parts t o c.args.lo c.args.hi) (ways_parts i t o.ways) (Tag tag.FindingEnd ∷ [])
    c.args.bytes.now.items c.write_said.new.bytes.items c.write_ways.new.bytes.items c.write.new.bytes.items
    first second third
