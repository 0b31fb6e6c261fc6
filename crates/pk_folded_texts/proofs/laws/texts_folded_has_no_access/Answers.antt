use Rattle.std.proofs.Common.{sym, subst}
use Rattle.pk_folded_laws.specs.Folded.{BeginsFolded}
use Rattle.pk_folded_texts.proofs.laws.texts_folded_has_no_access.Goals as goal

pub returns : goal.returns
returns c = λ text entry g h.
    subst (BeginsFolded (record { unit = h.unit; paths = h.paths })) (sym h.graph)
    (c.folded_has_no_access.ensures h.unit h.paths (c.operators_are_apart.ensures text h.unit h.called.typed))
