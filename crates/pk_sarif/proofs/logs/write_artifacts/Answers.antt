use Rattle.std.proofs.Common.{ap, ◌∙◌}
use Rattle.serde_json.proofs.Views.{view-Array}
use Rattle.serde_json.specs.Written.{has_float}
use Rattle.pk_sarif.proofs.FloatLemmas.{have_float, of_artifacts}
use Rattle.pk_sarif.proofs.logs.write_artifacts.Goals as goal

pub write_value-requires : goal.write_value-requires
write_value-requires c =
    ap has_float (view-Array c.in_ok-artifacts.field-0) ∙ ap have_float c.in_ok-artifacts.ensures ∙ of_artifacts c.args.shown.now
