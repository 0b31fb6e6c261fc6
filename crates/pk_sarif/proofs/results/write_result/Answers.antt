use Rattle.std.proofs.Common.{ap, ◌∙◌}
use Rattle.serde_json.specs.Written.{has_float}
use Rattle.pk_sarif.proofs.FloatLemmas.{of_result}
use Rattle.pk_sarif.proofs.results.write_result.Goals as goal

pub write_item-requires : goal.write_item-requires
write_item-requires c =
    ap has_float c.in_ok-result-in-Unknown.ensures ∙ of_result c.args.text.now c.args.operation.now c.in-Unknown.lo c.in-Unknown.hi
