use Rattle.std.proofs.Common.{◌≡◌, ◌∙◌, ap, sym, subst, to_z, of_z}
use Rattle.std.specs.Prelude.{false}
use Rattle.std.specs.Int.{w128}
use Rattle.pk_octagons.specs.Packs.{is_chosen}
use Rattle.pk_state.specs.Facts.{Stated}
use Rattle.pk_state.specs.Changes.{assigned_in}
use Rattle.pk_state.proofs.Changed.{changes_stay, assigned_apart}
use Rattle.pk_state.proofs.state.State.with_assignment.Goals as goal

pub returns-then-not-is_chosen : goal.returns-then-not-is_chosen
returns-then-not-is_chosen c =
    let s = c.self.inside in
    let l = s.frame.now in
    let free : is_chosen l.packs c.args.x ≡ false = subst (λ ps. is_chosen ps c.args.x ≡ false) c.packs.ensures (sym c.is_chosen.ensures.value ∙ c.if-not-is_chosen.true) in
    subst (λ (t : Stated). t ≡ record { layout = t.layout; facts = assigned_in t.layout t.facts c.args.x c.args.term c.args.c c.args.over.now }) c.self.view_is
    (ap (λ o. record { layout = l; facts = o }) (sym (assigned_apart l s.facts c.args.x c.args.term c.args.c c.args.over.now c.self.invariant.1 free)))

pub invariant_of-result : goal.invariant_of-result
invariant_of-result c =
    let l = c.self.inside.frame.now in
    (c.self.invariant.0, rw c.in_ok-facts.ensures (changes_stay.assigned l c.self.inside.facts c.args.x c.args.term (to_z w128 (of_z w128 c.args.c)) c.args.over.now c.self.invariant.1), λ e. absurd (cc))
