use Rattle.std.proofs.Common.{◌≡◌, ap, sym, subst, ◌∙◌, arith, length}
use Rattle.pk_value.specs.Known.{widened}
use Rattle.pk_blocks.proofs.Merging.{merged_length}
use Rattle.pk_octagons.specs.Values.{type_at, AreValues}
use Rattle.pk_state.specs.Facts.{Facts, AreFacts}
use Rattle.pk_state.proofs.Loose.{marked_in}
use Rattle.pk_state.proofs.facts.widen_facts.Goals as goal

pub widen-requires : goal.widen-requires
widen-requires c =
    let l = c.args.frame.now in
    let held : AreFacts l (record { values = c.held.inside.values; octagons = c.held.inside.octagons }) = subst (AreFacts l) (sym c.held.view_is) c.requires.held in
    let next : AreFacts l (record { values = c.next.inside.values; octagons = c.next.inside.octagons }) = subst (AreFacts l) (sym c.next.view_is) c.requires.next in
    next.octagons.widths ∙ sym held.octagons.widths

pub invariant_of-result : goal.invariant_of-result
invariant_of-result c =
    let types = c.args.frame.now.types in
    let held : AreValues types c.held.inside.values = subst (λ (f : Facts). AreValues types f.values) (sym c.held.view_is) c.requires.held.values in
    let next : AreValues types c.next.inside.values = subst (λ (f : Facts). AreValues types f.values) (sym c.next.view_is) c.requires.next.values in
    let size : length c.in_ok-widen_values.field-0 ≡ length types = ap length c.in_ok-widen_values.ensures.value ∙ merged_length (λ x. widened (type_at types x) c.args.thresholds.now) 0 c.held.inside.values c.next.inside.values (held.size ∙ sym next.size) ∙ held.size in
    marked_in c.in_ok-widen_values.field-0 c.widen_values.new.loose.items c.in_ok-at_most.field-0.items (λ y p e. c.in_ok-at_most.ensures y (omega (arith, p, size, c.len.ensures)) e) c.in_ok-widen_values.ensures.marked
