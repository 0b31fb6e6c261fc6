use Rattle.std.proofs.Common.{◌≡◌, None, ap, sym, subst, ◌∙◌}
use Rattle.std.proofs.lemmas.Bool.Decides.{same_from_decides}
use Rattle.pk_state.specs.Layouts.{Layout}
use Rattle.pk_state.specs.Facts.{Stated, AreFactsIf}
use Rattle.pk_phases.specs.declared.equations.Cell.{Cell}
use Rattle.pk_phases.specs.Equations.{value_of}
use Rattle.pk_analysis.specs.Orders.{is_below}
use Rattle.pk_analysis.specs.Flows.{stated}
use Rattle.pk_analysis.proofs.OrderLemmas.{below_decides}
use Rattle.pk_cert_check.proofs.checks.is_within.Goals as goal

pub returns-in-Value-given-clause-below : goal.returns-in-Value-given-clause-below
returns-in-Value-given-clause-below c = λ l.
    let y = c.requires.0 in
    let new : c.in-Value-given.new.layout ≡ c.requires.0 = ap (λ (x : Cell Stated). (value_of (stated c.requires.0 None) x).layout) (sym c.in-Value-given.is ∙ c.requires.1.1) in
    let old : c.in-Value.old.layout ≡ c.requires.0 = ap (λ (x : Cell Stated). (value_of (stated c.requires.0 None) x).layout) (sym c.in-Value.is ∙ c.requires.2.1) in
    let f = subst (λ (z : Layout). AreFactsIf z c.in-Value-given.new.facts) new c.is_stated-in-Value-given.ensures.facts in
    let k = subst (λ (z : Layout). AreFactsIf z c.in-Value.old.facts) old c.is_stated.ensures.facts in
    same_from_decides c.leq.result (is_below c.in-Value-given.new.facts c.in-Value.old.facts) c.leq.ensures (below_decides y c.in-Value-given.new.facts c.in-Value.old.facts f k)
    ∙ sym (ap (λ (x : Cell Stated). is_below (value_of (stated l None) x).facts (value_of (stated l None) c.args.known.now).facts) c.in-Value-given.is
    ∙ ap (λ (x : Cell Stated). is_below c.in-Value-given.new.facts (value_of (stated l None) x).facts) c.in-Value.is)
