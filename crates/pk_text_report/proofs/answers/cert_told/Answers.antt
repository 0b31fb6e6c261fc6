use Rattle.std.proofs.Common.{ap, refl}
use Rattle.pk_analysis.specs.declared.analysis.Options.{Options}
use Rattle.pk_text_report.specs.Answers.{certified_options}
use Rattle.pk_text_report.proofs.Ending.{certified_so, uncertified_so}
use Rattle.pk_text_report.proofs.answers.cert_told.Goals as goal

pub certificate_of_text-requires-clause-one_octagon : goal.certificate_of_text-requires-clause-one_octagon
certificate_of_text-requires-clause-one_octagon g c κs within = ap (λ (o : Options). o.packs) c.certified_iteration-iteration.ensures.analysis

pub returns-in-Ok-clause-told : goal.returns-in-Ok-clause-told
returns-in-Ok-clause-told g c = (
  certified_so c.args.text.now c.as_str-entry.result.now c.args.options.now.entry c.certified_iteration-iteration.result.analysis (certified_options c.args.options.now) c.certified_iteration-iteration.result.max_runs c.args.options.now.max_runs _
      c.as_str-entry.ensures c.certified_iteration-iteration.ensures.analysis c.certified_iteration-iteration.ensures.runs c.in-Ok.ensures.ok,
  refl,
)

pub returns-in-Err-clause-stopped : goal.returns-in-Err-clause-stopped
returns-in-Err-clause-stopped g c =
    uncertified_so c.args.text.now c.as_str-entry.result.now c.args.options.now.entry c.certified_iteration-iteration.result.analysis (certified_options c.args.options.now) c.certified_iteration-iteration.result.max_runs c.args.options.now.max_runs _
    c.as_str-entry.ensures c.certified_iteration-iteration.ensures.analysis c.certified_iteration-iteration.ensures.runs c.in-Err.ensures.err
