use Rattle.std.proofs.Common.{ap, subst, sym, ◌∙◌}
use Rattle.pk_graph.specs.Views.{instr_view}
use Rattle.pk_state.specs.Facts.{Stated, AreFactsIf}
use Rattle.pk_state.specs.Reduced.{reduced}
use Rattle.pk_transfer.specs.Transfers.{applied, IsKept}
use Rattle.pk_transfer.proofs.Keeping.{transferred_keeps, facts_have}
use Rattle.pk_transfer.proofs.transfers.transfer.Goals as goal

pub returns-clause-sound : goal.returns-clause-sound
returns-clause-sound c =
    let y = c.args.state.now.layout in
    let f = c.args.state.now.facts in
    let i = instr_view c.args.instr.now in
    let after = c.in_ok-after.after in
    let is = c.in_ok-after.ensures ∙ ap (λ (b : Stated). record { layout = b.layout; facts = applied b.layout b.facts i }) c.in_ok-before.ensures in
    let facts = subst (λ (a : Stated). AreFactsIf a.layout a.facts) is c.is_stated-2.ensures.facts in
    facts_have c.into_reduced.result after.layout (reduced after.layout after.facts) (IsKept y f i) c.into_reduced.ensures
    (subst (λ (a : Stated). IsKept y f i (reduced a.layout a.facts)) (sym is) (transferred_keeps y f i c.is_stated.ensures.layout c.is_stated.ensures.facts facts))
