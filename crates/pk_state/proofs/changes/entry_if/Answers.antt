use Rattle.std.proofs.Common.{sym, subst, arith}
use Rattle.pk_octagons.proofs.Overs.{place_width}
use Rattle.pk_state.specs.Facts.{AreFacts, AreFactsIf}
use Rattle.pk_state.proofs.changes.entry_if.Goals as goal

pub bound-requires-clause-row : goal.bound-requires-clause-row
bound-requires-clause-row c =
    let l = c.args.frame.now in
    let own : AreFacts l c.in-Some.facts = subst (AreFactsIf l) c.in-Some.is c.requires.facts in
    let f : AreFacts l (record { values = c.facts.inside.values; octagons = c.facts.inside.octagons }) = subst (AreFacts l) (sym c.facts.view_is) own in
    omega (arith, c.requires.row, (place_width l.packs c.facts.inside.octagons c.args.p f.octagons.widths c.requires.pack).1)

pub bound-requires-clause-column : goal.bound-requires-clause-column
bound-requires-clause-column c =
    let l = c.args.frame.now in
    let own : AreFacts l c.in-Some.facts = subst (AreFactsIf l) c.in-Some.is c.requires.facts in
    let f : AreFacts l (record { values = c.facts.inside.values; octagons = c.facts.inside.octagons }) = subst (AreFacts l) (sym c.facts.view_is) own in
    omega (arith, c.requires.column, (place_width l.packs c.facts.inside.octagons c.args.p f.octagons.widths c.requires.pack).1)
