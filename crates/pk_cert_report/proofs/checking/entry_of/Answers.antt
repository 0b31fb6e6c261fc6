use Rattle.std.proofs.lemmas.Result.{IfOk-weaker}
use Rattle.pk_cert_report.proofs.Reducing.{name_text}
use Rattle.pk_cert_report.proofs.checking.entry_of.Goals as goal

pub returns : goal.returns
returns c = IfOk-weaker c.new.result _ _ (λ name same. same (name_text c.args.head.now.entry.now c.requires.is.entry)) c.new.ensures.exact
