-- A report of a graph may be shared among threads, and what is kept of an item may go from one to another.
use denote.Param.Send.{IsSend, IsSync, sendable, view_sync, enum_sync, shr_sync}
use denote.Enum.Declared as E
use denote.Param.SendFields.{as_row_sync, declared_sync}
use denote.Ref.{NamedLft}
use denote.Struct.Field.{shr_ref_field}
use Rattle.std.proofs.alloc.Global.TheSendSync as heap
use Rattle.std.proofs.vec.Vec.TheSendSync as vec
use Rattle.std.proofs.Crossing.{crosses}
use Rattle.pk_ctypes.proofs.types.IntType.TheSendSync as int_type
use Rattle.pk_ctypes.proofs.types.Op.TheSendSync as op
use Rattle.pk_graph.proofs.trees.Site.TheSendSync as site
use Rattle.pk_graph.specs.contracts.operations.Operation as operation
use Rattle.pk_graph.specs.contracts.operations.Access as access
use Rattle.pk_graph.specs.contracts.graphs.Graph as graph
use Rattle.pk_state.specs.contracts.frame.Frame as lent
use Rattle.pk_state.proofs.frame.Frame.TheSendSync as frame
use Rattle.pk_analysis.proofs.Shared.{tree_sync, graph_sync, analysis_sync}
use Rattle.pk_parts.proofs.kept.Kept.TheSendSync as kept_crosses
use Rattle.pk_parts.specs.contracts.kept.Kept as kept
use Rattle.pk_parts.specs.contracts.reporting.Reporting as reporting
use Rattle.pk_parts.specs.contracts.reporting.Reporting.TheInside as inside

pub operation_sync : (a : NamedLft) → IsSync (operation.the_field a).row
operation_sync a = enum_sync (E.shape (operation.the_type a)) (search (sendable, tree_sync, int_type.the_field_sync, op.the_field_sync) depth 12 fits 4000)

pub access_sync : (a : NamedLft) → IsSync (access.the_row a)
access_sync a =
    declared_sync (access.the_type a) (
      search (as_row_sync, sendable),
      (
        site.the_sync,
        (as_row_sync (operation.the_field a) (operation_sync a), tt),
      ),
    )

pub reporting_sync : (a : NamedLft) → IsSync (reporting.the_row a)
reporting_sync a =
    view_sync _ _ _ _ _ (declared_sync (inside.the_type a) (
      analysis_sync a,
      (
        as_row_sync (shr_ref_field a graph.the_row tt) (shr_sync _ _ graph.the_row graph_sync),
        (
          as_row_sync (shr_ref_field a lent.the_row tt) (shr_sync _ _ lent.the_row frame.the_sync),
          (
            search (as_row_sync, vec.the_sync, access_sync, heap.the_sync) depth 8,
            (
              search (as_row_sync, crosses, sendable) depth 8,
              (
                search (as_row_sync, crosses, sendable) depth 8,
                (search (as_row_sync, sendable), tt),
              ),
            ),
          ),
        ),
      ),
    ))

pub kept_send : IsSend kept.the_row
kept_send = kept_crosses.the_send

pub kept_sync : IsSync kept.the_row
kept_sync = kept_crosses.the_sync
