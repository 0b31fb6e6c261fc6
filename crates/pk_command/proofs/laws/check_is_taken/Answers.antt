use Rattle.std.proofs.Common.{refl}
use Rattle.clap.proofs.OnLiterals.{clap_on_literals}
use Rattle.pk_command.specs.CommandLine.{is_taken}
use Rattle.pk_command.specs.Given.{AsksFor}
use Rattle.pk_command.proofs.laws.check_is_taken.Goals as goal

pub returns : goal.returns
unfolding clap_on_literals is_taken AsksFor
returns c = (refl, (_, refl))
