use Rattle.std.specs.Prelude.{Option}
use Rattle.std.proofs.Common.{ap, sym, ◌∙◌}
use Rattle.pk_value.specs.Known.{Known}
use Rattle.pk_value.specs.Values.{converted}
use Rattle.pk_transfer.specs.Trees.{known_with}
use Rattle.pk_transfer.specs.Told.{Told}
use Rattle.pk_transfer.proofs.Told.{value_from}
use Rattle.pk_transfer.proofs.Operands.{told_value, not_low}
use Rattle.pk_transfer.proofs.telling.converted_known.Goals as goal

pub convert-requires : goal.convert-requires
convert-requires c = not_low c.d.inside.int_type c.in-Some.known.range (told_value c.d.inside.int_type c.d.inside.known c.in-Some.known c.d.invariant c.in-Some.is).inside

pub returns-in-Some-clause-inside : goal.returns-in-Some-clause-inside
returns-in-Some-clause-inside c = value_from c.args.t c.convert.result c.convert.ensures.inside c.convert.ensures.class c.convert.ensures.some

pub returns-in-Some-clause-value : goal.returns-in-Some-clause-value
returns-in-Some-clause-value c =
    let same = sym c.in-Some.is ∙ ap (λ (d : Told). d.known) c.d.view_is in
    c.convert.ensures.value ∙ ap (λ (o : Option Known). known_with o (converted c.args.t)) same
