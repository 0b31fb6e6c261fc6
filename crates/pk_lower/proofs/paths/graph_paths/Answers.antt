use Rattle.std.proofs.Common.{◌∙◌, ap, map, List}
use Rattle.std.proofs.lemmas.Option.{get_or_from_slice_get, slice_get_within}
use Rattle.pk_typed.specs.Views.{unit_tree}
use Rattle.pk_graph.specs.declared.graphs.Path.{Path}
use Rattle.pk_graph.specs.Graphs.{path_view}
use Rattle.pk_lower.specs.Paths.{path_of}
use Rattle.pk_lower.proofs.ProgramLemmas.{mapped_more}
use Rattle.pk_lower.proofs.paths.graph_paths.Goals as goal

pub loop-number-preserved : goal.loop-number-preserved
loop-number-preserved c =
    let ps = c.args.paths.now in
    let p = c.path.result in
    ap (λ (xs : List Path). map path_view xs) c.in_ok-push.ensures.items
    ∙ mapped_more path_view (path_of (unit_tree c.args.unit.now) ps) c.loop-number.list.items ps c.loop-number.number c.in_ok-path_of.field-0 p p
    (slice_get_within ps c.loop-number.number p c.path.ensures) (get_or_from_slice_get ps c.loop-number.number p p c.path.ensures) c.loop-number.invariant c.in_ok-path_of.ensures
