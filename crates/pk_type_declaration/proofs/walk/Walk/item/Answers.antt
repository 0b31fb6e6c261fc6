use Rattle.std.proofs.Common.{ap}
use Rattle.std.proofs.lemmas.Result.{IfOk-weaker}
use Rattle.pk_ast.specs.Views.{initializer_item_tree}
use Rattle.pk_type_expression.proofs.ResultLemmas.{whatever}
use Rattle.pk_type_declaration.specs.Views.{walked_in}
use Rattle.pk_type_declaration.proofs.InitializerLemmas.{value_walked, value_typed}
use Rattle.pk_type_declaration.proofs.walk.Walk.item.Goals as goal

pub returns-in_ok-value-in-Value-clause-walked : goal.returns-in_ok-value-in-Value-clause-walked
unfolding initializer_item_tree
returns-in_ok-value-in-Value-clause-walked c = whatever c.alone.result (value_walked _ _ _ _ (ap initializer_item_tree c.in-Value.is) c.in_ok-value-in-Value.ensures.walked)

pub returns-in_ok-value-in-Value-clause-values : goal.returns-in_ok-value-in-Value-clause-values
unfolding initializer_item_tree
returns-in_ok-value-in-Value-clause-values c =
    IfOk-weaker c.alone.result _ _ (λ vs h. value_typed _ _ (walked_in c.args.self.now) c.in_ok-value-in-Value.value vs (ap initializer_item_tree c.in-Value.is) c.in_ok-value-in-Value.ensures.value h) c.alone.ensures
