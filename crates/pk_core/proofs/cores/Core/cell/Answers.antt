use Rattle.std.proofs.Common.{◌≡◌, ◌∙◌, ◌<◌, ap, map, length, refl, rules, subst, arith}
use Rattle.std.specs.Arc.{arc_value}
use Rattle.pk_core.specs.Entries.{standing_of}
use Rattle.pk_core.proofs.Asked.{as_long, read_at}
use Rattle.pk_core.proofs.cores.Core.cell.Goals as goal

pub returns-clause-cell : goal.returns-clause-cell
returns-clause-cell g c = λ s shown.
    let elements : map standing_of c.self.inside.entries.items ≡ c.args.self.now.elements = ap (λ v. v.elements) c.self.view_is in
    let long : length c.self.inside.entries.items ≡ c.args.self.now.plan.elements = as_long c.self.inside.entries.items c.args.self.now.elements elements ∙ shown.long in
    (shown.each c.args.e (standing_of c.index.result.now) (read_at c.self.inside.entries.items c.args.self.now.elements c.args.e c.index.result.now elements (search (rules, long)) c.index.ensures)).cell

pub returns-clause-held : goal.returns-clause-held
returns-clause-held g c =
    let items = c.self.inside.entries.items in
    let plan : c.self.inside.plan.now.elements ≡ c.args.self.now.plan.elements = ap (λ v. v.plan.elements) c.self.view_is in
    let long : length items ≡ c.self.inside.plan.now.elements = as_long items (map standing_of items) refl ∙ c.self.invariant.long in
    let below : c.args.e < length items = omega (arith, c.requires, plan, long) in
    subst (λ v. g.Y.System.may_hold v.system c.args.e (arc_value c.index.result.now.cell)) c.self.view_is
    (c.self.invariant.held c.args.e (standing_of c.index.result.now) (read_at items (map standing_of items) c.args.e c.index.result.now refl below c.index.ensures))
