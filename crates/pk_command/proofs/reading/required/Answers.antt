use Rattle.std.proofs.Common.{◌≡◌, ◌∙◌, sym}
use Rattle.std.specs.Str.Parse.{ExplainsUnsignedError, HasUnsignedDigitsIfOk, ParsesUnsigned}
use Rattle.pk_command.specs.Given.{number_given}
use Rattle.clap.specs.Words.{found_of, rows_of}
use Rattle.pk_command.proofs.Taken.{not_missing, number_read}
use Rattle.pk_command.proofs.reading.required.Goals as goal

pub returns : goal.returns
returns c =
    let is : c.get_one.result ≡ number_given c.args.name.now (rows_of (found_of c.args.found.now)) =
    number_read _ (λ bs r. ParsesUnsigned 64 10 bs r × ExplainsUnsignedError 10 bs r × HasUnsignedDigitsIfOk bs r) c.args.name.now (found_of c.args.found.now) c.get_one.result
    (λ u x g. g.0) c.requires.number c.get_one.ensures.none c.get_one.ensures.value in
    sym is ∙ c.in-Some.is

pub unreachable-requires : goal.unreachable-requires
unreachable-requires c =
    let is : c.get_one.result ≡ number_given c.args.name.now (rows_of (found_of c.args.found.now)) =
    number_read _ (λ bs r. ParsesUnsigned 64 10 bs r × ExplainsUnsignedError 10 bs r × HasUnsignedDigitsIfOk bs r) c.args.name.now (found_of c.args.found.now) c.get_one.result
    (λ u x g. g.0) c.requires.number c.get_one.ensures.none c.get_one.ensures.value in
    not_missing c.args.name.now (rows_of (found_of c.args.found.now)) c.requires.given (sym is ∙ c.in-None.is)
