use Rattle.std.proofs.Common.{None}
use Rattle.pk_graph.specs.Shown.{graph_view}
use Rattle.pk_phases.specs.Equations.{value_of}
use Rattle.pk_analysis.specs.Arrows.{instr_of}
use Rattle.pk_analysis.specs.Flows.{stated}
use Rattle.pk_analysis.proofs.NowhereLemmas.{stays_nowhere}
use Rattle.pk_analysis.proofs.flow.arrive.Goals as goal

pub returns-in-None : goal.returns-in-None
returns-in-None c =
    let l = c.args.flow.now.layout in
    stays_nowhere l c.args.state (value_of (stated l None) c.args.cell.now).facts (instr_of (graph_view c.args.flow.now.graph) c.args.arrow) c.requires.layout (c.in-None.ensures l)
