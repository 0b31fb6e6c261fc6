use Rattle.std.proofs.Common.{◌∙◌, sym}
use Rattle.pk_sarif.proofs.TextLemmas.{written, log_is}
use Rattle.pk_sarif.proofs.logs.sarif.Goals as goal

pub returns : goal.returns
returns c =
    written _ _ _ _ _ _ _ _ _ _ _ _ _ _ _ _ _ _ c.in_ok-bytes.ensures.items c.in_ok-write_artifacts.ensures c.in_ok-write.ensures
    c.in_ok-write_invocation.ensures c.in_ok-write-2.ensures c.in_ok-write_all_results.ensures c.in_ok-write-3.ensures
    c.in_ok-write_tool.ensures c.in_ok-write-4.ensures
    ∙ sym (log_is c.args.shown.now c.args.refused.now)
