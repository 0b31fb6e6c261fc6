use Rattle.pk_typed.specs.Views.{unit_tree}
use Rattle.pk_draft.specs.Shown.{drafted}
use Rattle.pk_text_graph.proofs.Typing.{typed_of}
use Rattle.pk_text_graph.proofs.graphs.graph_of_text.Goals as goal

pub number-requires : goal.number-requires
number-requires c =
    typed_of c.args.text.now c.args.entry.now (unit_tree c.in_ok-unit.unit) c.in_ok-unit.paths (drafted c.in-Ok.draft) c.in_ok-list.list.items c.drafts_of_texts_are_typed.ensures c.in_ok-unit.ensures.paths c.in-Ok.ensures.0 c.in-Ok.ensures.1 c.in_ok-list.ensures
