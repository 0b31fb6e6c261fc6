use Rattle.std.proofs.Common.{inr, refl}
use Rattle.pk_graph.specs.Shown.{graph_view}
use Rattle.pk_cert_report.proofs.Reducing.{overlong_so}
use Rattle.pk_cert_report.proofs.writing.written.Goals as goal

pub returns-in-Err-Limit-clause-err : goal.returns-in-Err-Limit-clause-err
returns-in-Err-Limit-clause-err c =
    inr (
      overlong_so (graph_view c.args.graph.now) c.args.text.now c.args.entry.now c.as_bytes.result.now c.args.iteration.now.analysis c.args.iteration.now.max_runs c.args.cells.now.cells
          c.as_bytes.ensures.value c.requires.one_octagon c.requires.of_text c.requires.cells (rw c.in-Err-Limit.field-0-is at c.in-Err-Limit.ensures),
      refl,
    )
