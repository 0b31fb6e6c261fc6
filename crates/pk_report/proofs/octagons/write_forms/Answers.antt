use Rattle.std.proofs.Common.{ap, ◌∙◌, ◌++◌}
use Rattle.std.specs.Prelude.{ℤ, pos, ◌+ℤ◌, ◌-ℤ◌, codes}
use Rattle.pk_report.specs.Values.{bound_text}
use Rattle.pk_report.proofs.OctagonLemmas.{limit_is}
use Rattle.pk_report.proofs.WriteLemmas.{four}
use Rattle.pk_report.proofs.octagons.write_forms.Goals as goal

pub returns : goal.returns
returns c =
    let x = c.args.x.now in
    let y = c.args.y.now in
    four c.args.bytes.now.items
    (bound_text (x ++ codes " - " ++ y) (c.args.kx.range.hi -ℤ c.args.ky.range.lo) c.args.bounds.minus)
    (bound_text (y ++ codes " - " ++ x) (c.args.ky.range.hi -ℤ c.args.kx.range.lo) c.args.bounds.turned)
    (bound_text (x ++ codes " + " ++ y) (c.args.kx.range.hi +ℤ c.args.ky.range.hi) c.args.bounds.plus)
    (bound_text (codes "-" ++ x ++ codes " - " ++ y) ((pos 0 -ℤ c.args.kx.range.lo) -ℤ c.args.ky.range.lo) c.args.bounds.negated)
    c.write_form.new.bytes.items c.write_form-2.new.bytes.items c.write_form-3.new.bytes.items c.write_form-4.new.bytes.items
    (c.in_ok-write_form.ensures ∙ ap (λ (z : ℤ). c.args.bytes.now.items ++ bound_text (x ++ codes " - " ++ y) z c.args.bounds.minus) (limit_is _ _ (record { sfits = c.difference_limit-limit.type_inv }) c.difference_limit-limit.ensures))
    (c.in_ok-write_form-2.ensures ∙ ap (λ (z : ℤ). c.write_form.new.bytes.items ++ bound_text (y ++ codes " - " ++ x) z c.args.bounds.turned) (limit_is _ _ (record { sfits = c.difference_limit-limit-2.type_inv }) c.difference_limit-limit-2.ensures))
    (c.in_ok-write_form-3.ensures ∙ ap (λ (z : ℤ). c.write_form-2.new.bytes.items ++ bound_text (x ++ codes " + " ++ y) z c.args.bounds.plus) (limit_is _ _ (record { sfits = c.sum_limit-limit.type_inv }) c.sum_limit-limit.ensures))
    (c.in_ok-write_form-4.ensures ∙ ap (λ (z : ℤ). c.write_form-3.new.bytes.items ++ bound_text (codes "-" ++ x ++ codes " - " ++ y) z c.args.bounds.negated) (limit_is _ _ (record { sfits = c.negated_limit-limit.type_inv }) c.negated_limit-limit.ensures))
