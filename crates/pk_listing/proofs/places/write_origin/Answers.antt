use Rattle.std.specs.Prelude.{codes}
use Rattle.std.specs.Fmt.{decimal}
use Rattle.pk_findings.specs.Texts.{file_of}
use Rattle.pk_listing.proofs.PieceLemmas.{five_pieces}
use Rattle.pk_listing.proofs.places.write_origin.Goals as goal

pub returns : goal.returns
returns c =
    five_pieces (file_of c.args.text.now c.args.origin) (codes ":") (decimal c.args.origin.line) (codes ":") (decimal c.args.column)
    c.args.bytes.now.items c.write_file.new.bytes.items c.write.new.bytes.items c.write_count.new.bytes.items c.write-2.new.bytes.items c.write_count-2.new.bytes.items
    c.in_ok-write_file.ensures c.in_ok-write.ensures c.in_ok-write_count.ensures c.in_ok-write-2.ensures c.in_ok-write_count-2.ensures
