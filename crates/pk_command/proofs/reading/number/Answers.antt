use Rattle.std.proofs.Common.{◌≡◌, ◌∙◌, ap, sym, unwrap_or}
use Rattle.std.specs.Str.Parse.{ExplainsUnsignedError, HasUnsignedDigitsIfOk, ParsesUnsigned}
use Rattle.pk_command.specs.Given.{number_given}
use Rattle.clap.specs.Words.{found_of, rows_of}
use Rattle.pk_command.proofs.Taken.{number_read}
use Rattle.pk_command.proofs.reading.number.Goals as goal

pub returns-in-Some : goal.returns-in-Some
returns-in-Some c =
    let is : c.get_one.result ≡ number_given c.args.name.now (rows_of (found_of c.args.found.now)) =
    number_read _ (λ bs r. ParsesUnsigned 64 10 bs r × ExplainsUnsignedError 10 bs r × HasUnsignedDigitsIfOk bs r) c.args.name.now (found_of c.args.found.now) c.get_one.result
    (λ u x g. g.0) c.requires c.get_one.ensures.none c.get_one.ensures.value in
    ap (λ o. unwrap_or o c.args.default) (sym c.in-Some.is ∙ is)

pub returns-in-None : goal.returns-in-None
returns-in-None c =
    let is : c.get_one.result ≡ number_given c.args.name.now (rows_of (found_of c.args.found.now)) =
    number_read _ (λ bs r. ParsesUnsigned 64 10 bs r × ExplainsUnsignedError 10 bs r × HasUnsignedDigitsIfOk bs r) c.args.name.now (found_of c.args.found.now) c.get_one.result
    (λ u x g. g.0) c.requires c.get_one.ensures.none c.get_one.ensures.value in
    ap (λ o. unwrap_or o c.args.default) (sym c.in-None.is ∙ is)
