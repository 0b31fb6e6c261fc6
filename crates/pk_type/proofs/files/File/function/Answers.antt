use Rattle.std.proofs.Common.{◌∙◌, ap}
use Rattle.pk_ast.specs.Views.{function_tree, parameter_trees}
use Rattle.pk_type.specs.Files.{on}
use Rattle.pk_type.specs.Functions.{after_parameters}
use Rattle.pk_type.specs.Views.{defined_names, filed_in}
use Rattle.pk_type.specs.Rules.{noting}
use Rattle.pk_type.proofs.FunctionLemmas.{ends, ends_positive, function_step}
use Rattle.pk_type.proofs.files.File.function.Goals as goal

pub leave-requires : goal.leave-requires
leave-requires c =
    ends_positive (filed_in c.named.new.self) (filed_in c.optional_body.new.self) (ends _ _ _ _ (filed_in c.named.new.self) _ _ _ c.in_ok-enter.ensures c.in_ok-parameters.ensures c.in_ok-optional_body.ensures)

pub returns : goal.returns
unfolding function_tree
returns c =
    let l = ends _ _ _ _ (filed_in c.named.new.self) _ _ (filed_in c.optional_body.new.self) c.in_ok-enter.ensures c.in_ok-parameters.ensures c.in_ok-optional_body.ensures in
    function_step (defined_names c.args.defined.now) (function_tree c.args.f.now) _ _ (filed_in c.args.self.now) _ _ _ _ _ c.in_ok-number.ensures.filed c.in_ok-number.ensures.number c.type_named-returns.ensures c.in_ok-enter.ensures
    (c.in_ok-parameters.ensures ∙ ap (λ ps. on (after_parameters noting (parameter_trees ps)) (filed_in c.enter.new.self)) c.deref.ensures.value) c.in_ok-optional_body.ensures (c.leave.ensures (filed_in c.named.new.self) l.outer l.text)
