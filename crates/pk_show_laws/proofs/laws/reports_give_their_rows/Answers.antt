use Rattle.std.proofs.Common.{ap, ◌∙◌}
use Rattle.pk_show.specs.Reports.{report_in}
use Rattle.pk_show_laws.specs.ReportRows.{report_rows}
use Rattle.pk_show_laws.proofs.TextLemmas.{text_is}
use Rattle.pk_show_laws.proofs.RowLemmas.{rows_all}
use Rattle.pk_show_laws.proofs.OrderLemmas.{rows_follow}
use Rattle.pk_show_laws.proofs.laws.reports_give_their_rows.Goals as goal

pub returns : goal.returns
returns c = λ all g heads elements states accesses verdicts h.
    ap report_in (text_is all g heads elements states accesses verdicts)
    ∙ c.reports_are_read.ensures.read (report_rows all g heads elements states accesses verdicts)
    (record {
      each = rows_all c.lines_are_read.ensures all g heads elements states accesses verdicts h;
      order = rows_follow all g heads elements states accesses verdicts h.layouts;
    })
