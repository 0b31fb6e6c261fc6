use Rattle.std.specs.Prelude.{codes}
use Rattle.pk_report.specs.Reports.{counted}
use Rattle.pk_report.proofs.WriteLemmas.{four}
use Rattle.pk_report.proofs.reports.write_generated.Goals as goal

pub returns : goal.returns
returns c =
    four c.args.bytes.now.items (counted (codes "gen seed ") c.args.seed) (counted (codes " size ") c.args.size) (counted (codes " bytes ") c.args.text_length) (codes "\n")
    c.write_counted.new.bytes.items c.write_counted-2.new.bytes.items c.write_counted-3.new.bytes.items c.write_text.new.bytes.items
    c.in_ok-write_counted.ensures c.in_ok-write_counted-2.ensures c.in_ok-write_counted-3.ensures c.in_ok-write_text.ensures
