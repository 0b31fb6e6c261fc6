use Rattle.clap.specs.Words.{found_of}
use Rattle.pk_command.proofs.Taken.{flag_read}
use Rattle.pk_command.proofs.reading.is_given.Goals as goal

pub returns : goal.returns
returns c = flag_read c.args.name.now (found_of c.args.found.now) c.get_flag.result c.requires c.get_flag.ensures.none c.get_flag.ensures.value c.get_flag.ensures.other
