use Rattle.std.proofs.Common.{sym, subst, ap, ◌∙◌}
use Rattle.pk_graph.specs.declared.trees.Site.{Site}
use Rattle.pk_graph.specs.Accesses.{accesses_of}
use Rattle.pk_welltyped.specs.Marks.{AreMarked}
use Rattle.pk_folded_laws.specs.Folded.{AccessesAreEvaluated}
use Rattle.pk_folded_texts.proofs.Texts.{one_access}
use Rattle.pk_folded_texts.proofs.laws.texts_computed_accesses_are_evaluated.Goals as goal

pub returns : goal.returns
returns c = λ text entry g h choice first last visits at operation fault starts runs computes can a listed here kind.
    let typed = h.called.typed in
    let unit = c.texts_are_well_typed.ensures text h.unit typed in
    let marked = subst AreMarked (sym typed.unit) (c.units_are_marked.ensures text typed.all typed.accepted) in
    let apart = c.operators_are_apart.ensures text h.unit typed in
    let law = subst (AccessesAreEvaluated (record { unit = h.unit; paths = h.paths })) (sym h.graph) (c.computed_accesses_are_evaluated.ensures h.unit entry h.paths unit marked h.called.called.0 h.few apart) in
    let e = law choice first last visits at operation fault starts runs computes can a listed here kind in
    let site = e.at ∙ sym here in (
      e,
      one_access (accesses_of g) e.access a (c.accesses_are_apart.ensures text entry g h) e.listed listed
          (record { path = ap (λ (s : Site). s.path) site; at = ap (λ (s : Site). s.at) site; fault = e.kind ∙ sym kind }),
    )
