use Rattle.std.proofs.Common.{sym, subst, ◌∙◌}
use Rattle.pk_octagons.specs.Values.{AreValues}
use Rattle.pk_state.specs.Facts.{Facts, AreFacts}
use Rattle.pk_state.proofs.Loose.{marked_either}
use Rattle.pk_state.proofs.facts.join_facts.Goals as goal

pub join-requires : goal.join-requires
join-requires c =
    let l = c.args.frame.now in
    let f : AreFacts l (record { values = c.a.inside.values; octagons = c.a.inside.octagons }) = subst (AreFacts l) (sym c.a.view_is) c.requires.left in
    let g : AreFacts l (record { values = c.b.inside.values; octagons = c.b.inside.octagons }) = subst (AreFacts l) (sym c.b.view_is) c.requires.right in
    g.octagons.widths ∙ sym f.octagons.widths

pub invariant_of-result : goal.invariant_of-result
invariant_of-result c =
    let types = c.args.frame.now.types in
    rw c.in_ok-join_values.ensures
    (marked_either types c.a.inside.values c.b.inside.values c.a.inside.loose.items c.b.inside.loose.items c.deref.result.now c.deref-2.result.now c.in_ok-either.field-0.items c.len.result c.len.ensures c.deref.ensures.value c.deref-2.ensures.value c.in_ok-either.ensures
    (subst (λ (f : Facts). AreValues types f.values) (sym c.a.view_is) c.requires.left.values) (subst (λ (f : Facts). AreValues types f.values) (sym c.b.view_is) c.requires.right.values) c.a.invariant c.b.invariant)
