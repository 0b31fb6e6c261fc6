use Rattle.std.proofs.Common.{◌≡◌, ◌∙◌, ap, map, length, rules}
use Rattle.pk_core.specs.Entries.{standing_of}
use Rattle.pk_core.proofs.Asked.{as_long, read_at}
use Rattle.pk_core.proofs.cores.Core.run.Goals as goal

pub returns : goal.returns
returns g c = λ s shown.
    let elements : map standing_of c.self.inside.entries.items ≡ c.args.self.now.elements = ap (λ v. v.elements) c.self.view_is in
    let long : length c.self.inside.entries.items ≡ c.args.self.now.plan.elements = as_long c.self.inside.entries.items c.args.self.now.elements elements ∙ shown.long in
    (shown.each c.args.e (standing_of c.index.result.now) (read_at c.self.inside.entries.items c.args.self.now.elements c.args.e c.index.result.now elements (search (rules, long)) c.index.ensures)).run
