-- The analysis of a graph may be shared among threads, since each of its parts may.
use denote.Param.Send.{IsSync, sendable, view_sync, enum_sync, shr_sync}
use denote.Enum.Declared as E
use denote.Param.SendFields.{as_row_sync, declared_sync}
use Rattle.std.proofs.alloc.Global.TheSendSync as heap
use Rattle.std.proofs.Crossing.{frees}
use Rattle.std.proofs.vec.Vec.TheSendSync as vec
use Rattle.std.proofs.boxed.Box.TheSendSync as boxed
use Rattle.pk_ctypes.proofs.types.IntType.TheSendSync as int_type
use Rattle.pk_ctypes.proofs.types.Op.TheSendSync as op
use Rattle.pk_ctypes.proofs.places.Pos.TheSendSync as pos
use Rattle.pk_graph.proofs.trees.Tree.TheLaws.TheKnot as knot
use Rattle.pk_graph.proofs.trees.Site.TheSendSync as site
use Rattle.pk_graph.proofs.instructions.Array.TheSendSync as array
use Rattle.pk_graph.proofs.graphs.Path.TheSendSync as path
use Rattle.pk_graph.proofs.graphs.Variable.TheSendSync as variable
use Rattle.pk_graph.proofs.graphs.Scope.TheSendSync as scope
use Rattle.pk_graph.specs.contracts.trees.Tree as tree
use Rattle.pk_graph.specs.contracts.instructions.Instr as instr
use Rattle.pk_graph.specs.contracts.graphs.Edge as edge
use Rattle.pk_graph.specs.contracts.graphs.Point as point
use Rattle.pk_graph.specs.contracts.graphs.Graph as graph
use denote.Ref.{NamedLft}
use denote.Struct.Field.{shr_ref_field}
use Rattle.std.proofs.Crossing.{crosses}
use Rattle.pk_state.specs.contracts.frame.Frame as lent
use Rattle.pk_state.proofs.frame.Frame.TheSendSync as frame
use Rattle.pk_state.proofs.state.State.TheSendSync as state
use Rattle.pk_phases.proofs.equations.Part.TheSendSync as part
use Rattle.pk_phases.proofs.phased.Phased.TheSendSync as phased
use Rattle.pk_analysis.proofs.arrows.Arrow.TheSendSync as arrow
use Rattle.pk_analysis.specs.contracts.analysis.Analysis as analysis
use Rattle.pk_analysis.specs.contracts.analysis.Analysis.TheInside as within
use Rattle.pk_analysis.specs.contracts.flow.Flow as flow
use Rattle.pk_analysis.specs.contracts.flow.Flow.TheInside as inside

pub tree_sync : IsSync (tree.the_field).row
tree_sync =
    knot.both_sync-Tree int_type.the_field_send int_type.the_field_sync (search sendable) (search sendable) (search sendable) (search sendable)
    (λ h s y. search (boxed.the_send, heap.the_send, heap.the_sync, frees, sendable)) (λ h s y. search (boxed.the_sync, heap.the_send, heap.the_sync, frees, sendable)) op.the_field_send op.the_field_sync
    site.the_field_send site.the_field_sync

pub instr_sync : IsSync (instr.the_field).row
instr_sync = enum_sync (E.shape instr.the_type) (search (sendable, tree_sync, array.the_field_sync, site.the_field_sync, int_type.the_field_sync) depth 12 fits 4000)

pub edge_sync : IsSync edge.the_row
edge_sync = declared_sync edge.the_type (as_row_sync instr.the_field instr_sync, (search (sendable, as_row_sync), tt))

pub point_sync : IsSync point.the_row
point_sync = declared_sync point.the_type (search (sendable, as_row_sync, pos.the_field_sync, pos.the_sync), (search (sendable, as_row_sync), (search (sendable, as_row_sync), (search (sendable, as_row_sync, vec.the_sync, edge_sync, heap.the_sync) depth 8, tt))))

pub graph_sync : IsSync graph.the_row
graph_sync = declared_sync graph.the_type (search (as_row_sync, vec.the_sync, path.the_sync, heap.the_sync), (search (as_row_sync, vec.the_sync, variable.the_sync, heap.the_sync), (search (as_row_sync, vec.the_sync, scope.the_sync, heap.the_sync), (search (as_row_sync, vec.the_sync, point_sync, heap.the_sync), tt))))

pub flow_sync : (a : NamedLft) → IsSync (flow.the_row a)
flow_sync a =
    view_sync _ _ _ _ _ (declared_sync (inside.the_type a) (
      as_row_sync (shr_ref_field a graph.the_row tt) (shr_sync _ _ graph.the_row graph_sync),
      (
        as_row_sync (shr_ref_field a lent.the_row tt) (shr_sync _ _ lent.the_row frame.the_sync),
        (
          search (as_row_sync, crosses, sendable) depth 8,
          (
            search (as_row_sync, crosses, part.the_sync, sendable) depth 8,
            (
              search (as_row_sync, crosses, arrow.the_sync, sendable) depth 8,
              (
                search (as_row_sync, crosses, sendable) depth 8,
                (
                  search (as_row_sync, state.the_sync, sendable) depth 8,
                  (search (as_row_sync, sendable), (search (as_row_sync, sendable), tt)),
                ),
              ),
            ),
          ),
        ),
      ),
    ))

pub analysis_sync : (a : NamedLft) → IsSync (analysis.the_row a)
analysis_sync a = view_sync _ _ _ _ _ (declared_sync (within.the_type a) (search (as_row_sync, phased.the_field_sync, phased.the_sync, flow_sync, sendable) depth 8, tt))
