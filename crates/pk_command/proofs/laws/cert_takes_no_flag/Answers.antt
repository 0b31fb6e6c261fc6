use Rattle.std.proofs.Common.{refl}
use Rattle.clap.proofs.OnLiterals.{clap_on_literals}
use Rattle.pk_command.specs.CommandLine.{is_taken}
use Rattle.pk_command.proofs.laws.cert_takes_no_flag.Goals as goal

pub returns : goal.returns
unfolding clap_on_literals is_taken
returns c = (refl, refl, refl)
