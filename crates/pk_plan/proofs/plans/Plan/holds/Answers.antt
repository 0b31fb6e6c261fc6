use Rattle.std.proofs.Common.{◌≡◌, Bool, IsTrue, ◌↔◌, ◌&&◌, nat_lt, nat_le, ℕ, ap, ◌∙◌, sym, subst}
use Rattle.pk_plan.specs.Plans.{is_inside, Inside}
use Rattle.pk_plan.proofs.PlanLemmas.{is_inside_tells}
use Rattle.pk_plan.proofs.plans.Plan.holds.Goals as goal

pub returns-clause-holds : goal.returns-clause-holds
returns-clause-holds c = λ of.
    let p = c.args.self.now in
    let it = c.args.component.now in
    let is : c.lies_within.result ≡ is_inside p it c.args.e =
    c.lies_within.ensures.test ∙ ap (λ (n : ℕ). nat_le it.first n && nat_lt n it.end) c.place.ensures in
    subst (λ (b : Bool). IsTrue b ↔ Inside p it c.args.e) (sym is) (is_inside_tells p it c.args.e c.axioms.ensures.axioms of c.requires)
