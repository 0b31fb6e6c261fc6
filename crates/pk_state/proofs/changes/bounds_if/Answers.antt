use Rattle.std.proofs.Common.{sym, subst, arith}
use Rattle.pk_octagons.proofs.Overs.{same_count}
use Rattle.pk_state.specs.Facts.{AreFacts, AreFactsIf}
use Rattle.pk_state.proofs.changes.bounds_if.Goals as goal

pub with_octagon-requires : goal.with_octagon-requires
with_octagon-requires c =
    let l = c.args.frame.now in
    let own : AreFacts l c.in-Some.facts = subst (AreFactsIf l) c.in-Some.is c.requires.facts in
    let f : AreFacts l (record { values = c.facts.inside.values; octagons = c.facts.inside.octagons }) = subst (AreFacts l) (sym c.facts.view_is) own in
    omega (arith, c.requires.pack, same_count l.packs c.facts.inside.octagons f.octagons.widths)
