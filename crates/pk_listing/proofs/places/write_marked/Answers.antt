use Rattle.std.proofs.Common.{List, ℕ, ◌++◌, ◌∙◌, ap, map}
use Rattle.std.specs.Prelude.{codes}
use Rattle.pk_listing.specs.Places.{blank_for, blanks_before}
use Rattle.pk_listing.proofs.PieceLemmas.{five_pieces}
use Rattle.pk_listing.proofs.places.write_marked.Goals as goal

pub returns : goal.returns
returns c =
    five_pieces (codes "    ") c.args.line.now (codes "\n    ") (blanks_before c.args.line.now c.args.column) (codes "^\n")
    c.args.bytes.now.items c.write.new.bytes.items c.write-2.new.bytes.items c.write-3.new.bytes.items c.write_blanks.new.bytes.items c.write-4.new.bytes.items
    c.in_ok-write.ensures c.in_ok-write-2.ensures c.in_ok-write-3.ensures (c.in_ok-write_blanks.ensures ∙ ap (λ (f : List ℕ). c.write-3.new.bytes.items ++ map blank_for f) c.front_of.ensures) c.in_ok-write-4.ensures
