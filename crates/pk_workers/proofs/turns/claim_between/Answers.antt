use Rattle.std.proofs.Common.{◌∙◌, refl}
use Rattle.pk_workers.proofs.turns.claim_between.Goals as goal

pub loop-e-init : goal.loop-e-init
loop-e-init g c = record { of_board = refl; tokens = c.requires.tokens }

pub loop-e-preserved : goal.loop-e-preserved
loop-e-preserved g c =
    let e = c.in_default.ensures in
    record { of_board = e.of_board ∙ c.loop-e.invariant.of_board; tokens = e.tokens }

pub returns : goal.returns
returns g c = record { of_board = c.loop-e.invariant.of_board; tokens = c.loop-e.invariant.tokens; runnable = tt }

pub returns-in-Some : goal.returns-in-Some
returns-in-Some g c =
    let e = c.in-Some.ensures in
    record { of_board = e.of_board ∙ c.loop-e.invariant.of_board; tokens = e.tokens; runnable = e.runnable }
