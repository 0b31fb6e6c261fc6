use Rattle.std.proofs.Common.{ap, sym, ◌∙◌, set}
use Rattle.pk_octagons.specs.Octagons.{octagon_at}
use Rattle.pk_octagons.specs.Changes.{or_else}
use Rattle.pk_octagons.proofs.Overs.{set_octagon}
use Rattle.pk_octagons.proofs.changes.put_if.Goals as goal

pub returns-in-None : goal.returns-in-None
returns-in-None c =
    let ms = c.args.all.now.items in
    let p = c.args.p in
    sym (ap (λ o. set ms p (or_else (octagon_at ms p) o)) c.in-None.is ∙ set_octagon ms p)
