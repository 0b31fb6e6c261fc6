use Rattle.std.proofs.Common.{sym, subst}
use Rattle.pk_welltyped.specs.Marks.{AreMarked}
use Rattle.pk_computed_laws.specs.Evaluated.{OperationsAreEvaluated}
use Rattle.pk_computed_texts.proofs.laws.texts_computed_is_evaluated.Goals as goal

pub returns : goal.returns
returns c = λ text entry g h.
    let typed = h.called.typed in
    let unit = c.texts_are_well_typed.ensures text h.unit typed in
    let marked = subst AreMarked (sym typed.unit) (c.units_are_marked.ensures text typed.all typed.accepted) in
    subst (OperationsAreEvaluated (record { unit = h.unit; paths = h.paths })) (sym h.graph) (c.computed_is_evaluated.ensures h.unit entry h.paths unit marked h.called.called.0 h.few)
