use Rattle.std.proofs.Common.{◌∙◌, ap, sym, []}
use Rattle.std.specs.Prelude.{None}
use Rattle.std.proofs.lemmas.List.Sums.{fold_push}
use Rattle.pk_findings.specs.Grouping.{Gathered, gathered, with_case}
use Rattle.pk_findings.proofs.grouping.gather.Goals as goal

pub loop-case-preserved : goal.loop-case-preserved
loop-case-preserved c =
    c.in_ok-add_case.ensures ∙ ap (λ (g : Gathered). with_case g c.in-Some.case) c.loop-case.invariant
    ∙ sym (fold_push with_case (gathered [] None) c.loop-case.yielded c.in-Some.case)
