use Rattle.std.proofs.Common.{◌-◌, ℕ, List, take, drop, ap, ◌∙◌}
use Rattle.pk_plan.proofs.plans.Plan.members.Goals as goal

pub returns : goal.returns
returns c =
    let it = c.args.component.now in
    ap (λ (xs : List ℕ). take (it.end - it.first) (drop it.first xs)) (c.deref.ensures.value ∙ ap (λ p. p.listing) c.self.view_is)
