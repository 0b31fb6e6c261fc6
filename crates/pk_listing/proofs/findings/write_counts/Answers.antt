use Rattle.std.specs.Prelude.{codes}
use Rattle.std.specs.Fmt.{decimal}
use Rattle.pk_listing.specs.Listing.{unreachable_text, counts_text}
use Rattle.pk_listing.proofs.PieceLemmas.{five_pieces}
use Rattle.pk_listing.proofs.findings.write_counts.Goals as goal

pub returns : goal.returns
unfolding counts_text
returns c =
    five_pieces (decimal c.args.counts.safe) (codes " safe, ") (decimal c.args.counts.unknown) (codes " unknown, ") (unreachable_text c.args.counts.unreachable)
    c.args.bytes.now.items c.write_count.new.bytes.items c.write.new.bytes.items c.write_count-2.new.bytes.items c.write-2.new.bytes.items c.write_unreachable.new.bytes.items
    c.in_ok-write_count.ensures c.in_ok-write.ensures c.in_ok-write_count-2.ensures c.in_ok-write-2.ensures c.in_ok-write_unreachable.ensures
