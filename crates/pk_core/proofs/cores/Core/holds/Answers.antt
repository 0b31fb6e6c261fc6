use Rattle.std.proofs.Common.{◌≡◌, ap, map, rules}
use Rattle.pk_core.specs.declared.events.Status.TheVariants.{Held}
use Rattle.pk_core.specs.Entries.{standing_of}
use Rattle.pk_core.proofs.Asked.{read_at, status_tells}
use Rattle.pk_core.proofs.cores.Core.holds.Goals as goal

pub returns-clause-held : goal.returns-clause-held
returns-clause-held g c = λ s shown.
    let elements : map standing_of c.self.inside.entries.items ≡ c.args.self.now.elements = ap (λ v. v.elements) c.self.view_is in
    status_tells (g.Y.System.meaning c.args.self.now.system) c.args.self.now c.args.e (standing_of c.index.result.now) c.is_held.result Held s
    (read_at c.self.inside.entries.items c.args.self.now.elements c.args.e c.index.result.now elements (search rules) c.index.ensures) c.is_held.ensures shown
