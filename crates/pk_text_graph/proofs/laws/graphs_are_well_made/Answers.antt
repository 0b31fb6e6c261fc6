use Rattle.std.proofs.Common.{sym, subst, map, length}
use Rattle.std.proofs.lemmas.List.{length-map}
use Rattle.pk_graph.specs.WellMade.{IsGraph}
use Rattle.pk_draft.specs.Drafts.{by_number}
use Rattle.pk_lower.specs.Parts.{program_draft}
use Rattle.pk_lower.specs.Paths.{path_of}
use Rattle.pk_number.specs.Typed.{IsTypedDraft}
use Rattle.pk_text_graph.proofs.laws.graphs_are_well_made.Goals as goal

pub returns : goal.returns
returns c = λ text entry g h.
    let list = map (path_of h.unit h.paths) h.paths in
    let draft = program_draft by_number h.unit h.paths in
    let typed = c.drafts_of_texts_are_typed.ensures text entry h.unit h.paths h.called h.few in
    subst IsGraph (sym h.graph) (c.numbered_law.ensures list draft (subst (λ n. IsTypedDraft n draft) (sym (length-map h.paths (path_of h.unit h.paths))) typed)).is_graph
