use Rattle.std.proofs.Common.{ap, ◌∙◌, ℕ, ◌++◌}
use Rattle.std.specs.Prelude.{codes, count_by}
use Rattle.pk_report.specs.Reports.{is_safe, is_unknown, is_unreachable, counted}
use Rattle.pk_report.proofs.WriteLemmas.{four}
use Rattle.pk_report.proofs.reports.write_last.Goals as goal

pub returns : goal.returns
returns c =
    let vs = c.args.verdicts.now in
    four c.args.bytes.now.items (counted (codes "result safe ") (count_by is_safe vs)) (counted (codes " unknown ") (count_by is_unknown vs)) (counted (codes " unreachable ") (count_by is_unreachable vs)) (codes "\n")
    c.write_counted.new.bytes.items c.write_counted-2.new.bytes.items c.write_counted-3.new.bytes.items c.write_text.new.bytes.items
    (c.in_ok-write_counted.ensures ∙ ap (λ (n : ℕ). c.args.bytes.now.items ++ counted (codes "result safe ") n) c.safe_count.ensures)
    (c.in_ok-write_counted-2.ensures ∙ ap (λ (n : ℕ). c.write_counted.new.bytes.items ++ counted (codes " unknown ") n) c.unknown_count.ensures)
    (c.in_ok-write_counted-3.ensures ∙ ap (λ (n : ℕ). c.write_counted-2.new.bytes.items ++ counted (codes " unreachable ") n) c.unreachable_count.ensures)
    c.in_ok-write_text.ensures
