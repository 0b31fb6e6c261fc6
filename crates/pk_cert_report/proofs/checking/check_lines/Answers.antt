use Rattle.std.proofs.Common.{◌≡◌, ◌<◌, ◌≤◌, ◌^◌, ℕ, List, length, arith, subst}
use Rattle.pk_graph.specs.Graphs.{GraphOf}
use Rattle.pk_graph.specs.Shown.{graph_view}
use Rattle.pk_cert.specs.Heads.{HeadOf, head_view}
use Rattle.pk_cert_cells.specs.declared.failures.Unfit.{Unfit}
use Rattle.pk_cert_cells.specs.declared.failures.Unfit.TheVariants.{State}
use Rattle.pk_cert_cells.specs.Reading.{IsUnfit}
use Rattle.pk_cert_report.proofs.checking.check_lines.Goals as goal

small_point : (g : GraphOf) (h : HeadOf) (bytes : List ℕ) (why : Unfit) → IsUnfit g h bytes why → length g.points ≤ 65536 → (v : ℕ) → why ≡ State v → v < 2 ^ 32
small_point g h bytes why unfit few v is =
    let there = (subst (IsUnfit g h bytes) is unfit).point in omega (arith, there, few)

pub unfit_status-requires : goal.unfit_status-requires
unfit_status-requires c =
    let g = graph_view c.args.graph.now in
    small_point g (head_view c.args.head.now) c.args.bytes.now c.in-Err.why c.in-Err.ensures (c.graphs_are_few.ensures c.args.head.now.text.now c.args.head.now.entry.now g c.requires.of_text)
