use Rattle.std.proofs.Common.{◌∙◌, ap}
use Rattle.std.specs.Option.{is_some}
use Rattle.pk_type_declaration.specs.Specials.{special}
use Rattle.pk_type.proofs.TypeNameLemmas.{name_step}
use Rattle.pk_type.proofs.type_names.type_name.Goals as goal

pub returns : goal.returns
returns c =
    name_step c.args.named c.args.name _ _ _ _ _ _ c.in_ok-is_again.ensures.again (c.is_some-is_special.ensures ∙ (ap is_some c.special.ensures ∙ ap (λ q. is_some (special q)) c.spelling.ensures)) c.in_ok-is_again.ensures.walked c.fail_if.ensures c.fail_if-2.ensures
