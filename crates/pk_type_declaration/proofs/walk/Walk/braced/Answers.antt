use Rattle.std.proofs.lemmas.Result.{IfOk-weaker}
use Rattle.pk_type_expression.proofs.ResultLemmas.{whatever}
use Rattle.pk_type_declaration.proofs.InitializerLemmas.{trees_together, all_walked, all_typed}
use Rattle.pk_type_declaration.proofs.walk.Walk.braced.Goals as goal

pub returns-clause-walked : goal.returns-clause-walked
returns-clause-walked c = whatever c.together.result (all_walked _ _ _ _ _ c.in_ok-first.ensures.walked c.in_ok-more.ensures.walked)

pub returns-clause-values : goal.returns-clause-values
returns-clause-values c =
    IfOk-weaker c.together.result _ _ (λ vs h. all_typed _ _ _ _ _ _ _ c.in_ok-first.ensures.walked c.in_ok-first.ensures.values c.in_ok-more.ensures.values (trees_together vs _ _ h)) c.together.ensures
