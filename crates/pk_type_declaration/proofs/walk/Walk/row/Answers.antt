use Rattle.std.proofs.lemmas.Result.{IfOk-weaker}
use Rattle.pk_type_expression.proofs.ResultLemmas.{whatever}
use Rattle.pk_type_declaration.proofs.InitializerLemmas.{walked_row, row_typed}
use Rattle.pk_type_declaration.proofs.walk.Walk.row.Goals as goal

pub returns-clause-walked : goal.returns-clause-walked
returns-clause-walked c = whatever c.together.result (walked_row _ _ _ _ _ c.in_ok-first.ensures.walked c.in_ok-more.ensures.walked)

pub returns-clause-values : goal.returns-clause-values
returns-clause-values c =
    IfOk-weaker c.together.result _ _ (λ vs h. row_typed _ _ _ _ c.in_ok-first.first c.in_ok-first-2.first c.in_ok-more.more vs c.in_ok-first.ensures.walked c.in_ok-first.ensures.value c.in_ok-first-2.ensures c.in_ok-more.ensures.values h) c.together.ensures
