use Rattle.std.proofs.Common.{sym, subst, refl}
use Rattle.pk_state.specs.Layouts.{Layout}
use Rattle.pk_state.specs.Facts.{AreFactsIf}
use Rattle.pk_cert_lines.proofs.Telling.{facts_same}
use Rattle.pk_cert_lines.proofs.lines.tell_bounds.Goals as goal

pub returns-then-are_same-clause-state : goal.returns-then-are_same-clause-state
returns-then-are_same-clause-state c =
    let l = c.args.frame.now in
    let told = subst (λ (y : Layout). AreFactsIf y c.args.told.now.state.facts) c.requires.told.told.layout c.is_stated-2.ensures.facts in
    let now = subst (λ (y : Layout). AreFactsIf y c.args.state.now.facts) c.requires.state c.is_stated.ensures.facts in
    facts_same l c.args.told.now.state.facts c.args.state.now.facts _ c.octagons_are_entries.ensures c.requires.told.told.one told now c.requires.told.some c.requires.some (sym c.octagon_size.ensures.value) c.requires.values (c.if-are_same.ensures refl)
