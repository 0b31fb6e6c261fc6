use Rattle.std.proofs.Common.{◌∙◌, sym}
use Rattle.std.proofs.lemmas.Result.{on_ok_weaker}
use Rattle.pk_lower_row.specs.Views.{context_in}
use Rattle.pk_lower.proofs.PartLemmas.{unnamed_parameter, named_parameter}
use Rattle.pk_lower.proofs.parameters.introduce_entry_parameter.Goals as goal

pub returns-in-None : goal.returns-in-None
unfolding context_in
returns-in-None c =
    on_ok_weaker c.object_is.result
    (λ h. h ∙ unnamed_parameter (context_in c.args.context.now) c.args.object _ _ _ _ (sym c.in-None.is ∙ c.in_ok-name.ensures) c.type_of_local-int_type.ensures c.length_of_local-length.ensures c.entry_parameter.ensures)
    c.object_is.ensures

pub returns-in_ok-object_is-in-Some : goal.returns-in_ok-object_is-in-Some
unfolding context_in
returns-in_ok-object_is-in-Some c =
    on_ok_weaker c.name.result
    (λ h. h ∙ named_parameter (context_in c.args.context.now) c.args.object _ _ _ _ _ _ _ (sym c.in-Some.is ∙ c.in_ok-name.ensures) c.type_of_local-int_type.ensures c.length_of_local-length.ensures c.entry_parameter-parameter.ensures c.variables-number.ensures c.in_ok-object_is-in-Some.ensures)
    c.name.ensures
