use Rattle.std.proofs.Common.{◌∙◌, ap, sym}
use Rattle.pk_octagons.specs.Octagons.{widths}
use Rattle.pk_octagons.proofs.Zips.{same_lengths}
use Rattle.pk_state.specs.Facts.{Facts}
use Rattle.pk_state.proofs.facts.same_facts.Goals as goal

pub equals-requires : goal.equals-requires
equals-requires c =
    same_lengths c.a.inside.octagons c.b.inside.octagons
    (ap (λ (f : Facts). widths f.octagons) c.b.view_is ∙ c.requires.widths ∙ sym (ap (λ (f : Facts). widths f.octagons) c.a.view_is))
