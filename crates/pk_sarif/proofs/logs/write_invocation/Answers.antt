use Rattle.std.proofs.Common.{ap, ◌∙◌}
use Rattle.serde_json.specs.Written.{has_float}
use Rattle.pk_sarif.proofs.FloatLemmas.{of_invocation}
use Rattle.pk_sarif.proofs.logs.write_invocation.Goals as goal

pub write_value-requires : goal.write_value-requires
write_value-requires c = ap has_float c.in_ok-invocation.ensures ∙ of_invocation c.args.refused.now
