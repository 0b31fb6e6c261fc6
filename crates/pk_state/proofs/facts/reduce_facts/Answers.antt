use Rattle.std.proofs.Common.{ap, sym, ◌∙◌, ◌≡◌, subst}
use Rattle.std.specs.Prelude.{IfOk}
use Rattle.pk_octagons.specs.Reduced.{kept_if, AreResting, closed_octagons}
use Rattle.pk_octagons.proofs.Stay.{octagons_stay}
use Rattle.pk_state.specs.Facts.{Facts, AreFacts}
use Rattle.pk_state.specs.Reduced.{red_all, reduced_facts}
use Rattle.pk_state.proofs.Settled.{resting_reduction}
use Rattle.pk_state.proofs.facts.reduce_facts.Goals as goal

pub returns-then-rest-clause-value : goal.returns-then-rest-clause-value
returns-then-rest-clause-value c =
    let l = c.args.frame.now in
    let own : Facts = record { values = c.f.inside.values; octagons = c.f.inside.octagons } in
    let f : AreFacts l own = subst (AreFacts l) (sym c.f.view_is) c.requires in
    let rest = subst (λ packs. AreResting packs c.reduce_values.new.values c.f.inside.octagons) c.packs.ensures (c.rest.ensures c.if-rest.true) in
    let is = resting_reduction l own c.reduce_values.new.values (subst (λ b. kept_if b c.reduce_values.new.values ≡ red_all c.f.inside.values) c.if-not-branch.false c.in_ok-reduce_values.ensures.value) f.octagons rest in
    subst (λ o. IfOk c.with_octagons.result (λ r. r.0 ≡ o)) (is ∙ ap (reduced_facts l) c.f.view_is) c.with_octagons.ensures.value

pub with_octagons-requires-in-Some-clause-octagons : goal.with_octagons-requires-in-Some-clause-octagons
with_octagons-requires-in-Some-clause-octagons c =
    let l = c.args.frame.now in
    let vs = c.reduce_values.new.values in
    let f : AreFacts l (record { values = c.f.inside.values; octagons = c.f.inside.octagons }) = subst (AreFacts l) (sym c.f.view_is) c.requires in
    octagons_stay.closed l.packs vs c.f.inside.octagons c.in-Some.octagons f.octagons
    (ap (λ packs. closed_octagons packs vs c.f.inside.octagons) (sym c.packs-2.ensures) ∙ sym c.in_ok-closed.ensures ∙ c.in-Some.is)
