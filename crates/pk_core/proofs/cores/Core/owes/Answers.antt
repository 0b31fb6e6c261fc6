use Rattle.std.proofs.Common.{◌≡◌, ◌∙◌, ap, map, length, rules}
use Rattle.pk_core.specs.Entries.{standing_of}
use Rattle.pk_core.proofs.Asked.{as_long, read_at, sends_tell}
use Rattle.pk_core.proofs.cores.Core.owes.Goals as goal

pub returns : goal.returns
returns g c = λ s shown.
    let elements : map standing_of c.self.inside.entries.items ≡ c.args.self.now.elements = ap (λ v. v.elements) c.self.view_is in
    let long : length c.self.inside.entries.items ≡ c.args.self.now.plan.elements = as_long c.self.inside.entries.items c.args.self.now.elements elements ∙ shown.long in
    sends_tell (g.Y.System.meaning c.args.self.now.system) c.args.self.now c.args.u c.args.v (standing_of c.index.result.now) c.contains.result s
    (read_at c.self.inside.entries.items c.args.self.now.elements c.args.u c.index.result.now elements (search rules) c.index.ensures) (search (rules, long)) (search rules) shown
