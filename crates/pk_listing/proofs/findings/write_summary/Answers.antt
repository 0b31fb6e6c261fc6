use Rattle.std.specs.Prelude.{codes}
use Rattle.std.specs.Fmt.{decimal}
use Rattle.pk_listing.specs.Listing.{counts_text, summary_line}
use Rattle.pk_listing.proofs.PieceLemmas.{five_pieces}
use Rattle.pk_listing.proofs.findings.write_summary.Goals as goal

pub returns : goal.returns
unfolding summary_line
returns c =
    five_pieces c.args.name.now (codes ": ") (decimal c.args.operations) (codes " operations: ") (counts_text c.args.counts)
    c.args.bytes.now.items c.write.new.bytes.items c.write-2.new.bytes.items c.write_count.new.bytes.items c.write-3.new.bytes.items c.write_counts.new.bytes.items
    c.in_ok-write.ensures c.in_ok-write-2.ensures c.in_ok-write_count.ensures c.in_ok-write-3.ensures c.in_ok-write_counts.ensures
