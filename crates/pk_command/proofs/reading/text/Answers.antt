use Rattle.std.proofs.Common.{◌≡◌}
use Rattle.std.specs.Option.{option_map_or}
use Rattle.clap.specs.Words.{found_of, rows_of}
use Rattle.pk_command.specs.Given.{text_of}
use Rattle.pk_command.proofs.Taken.{text_read}
use Rattle.pk_command.proofs.reading.text.Goals as goal

pub returns-in-Some : goal.returns-in-Some
returns-in-Some c =
    let is : option_map_or (λ s. s.now) c.get_str.result c.args.default.now ≡ text_of c.args.name.now c.args.default.now (rows_of (found_of c.args.found.now)) =
    text_read c.args.name.now c.args.default.now (found_of c.args.found.now) c.get_str.result c.get_str.ensures in
    rw c.in-Some.is at is

pub returns-in-None : goal.returns-in-None
returns-in-None c =
    let is : option_map_or (λ s. s.now) c.get_str.result c.args.default.now ≡ text_of c.args.name.now c.args.default.now (rows_of (found_of c.args.found.now)) =
    text_read c.args.name.now c.args.default.now (found_of c.args.found.now) c.get_str.result c.get_str.ensures in
    rw c.in-None.is at is
