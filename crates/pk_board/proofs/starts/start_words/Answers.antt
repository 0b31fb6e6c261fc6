use Rattle.std.proofs.Common.{ℕ, ◌+◌, [], ◌∷◌, ◌++◌, List, sym, ap, subst, ◌∙◌, arith}
use Rattle.pk_plan.specs.Plans.{predecessors_of}
use Rattle.pk_core.specs.Events.{start_status}
use Rattle.pk_words.specs.Board.{low}
use Rattle.pk_board.proofs.Starting.{AreWords, words_none, words_more}
use Rattle.pk_board.proofs.starts.start_words.Goals as goal

pub loop-e-init : goal.loop-e-init
loop-e-init c =
    subst (AreWords (λ u. low (start_status (predecessors_of c.args.plan.now u))) 0) (sym (c.in_ok-push-2.ensures.items ∙ ap (λ (xs : List ℕ). xs ++ 0 ∷ []) (c.in_ok-push.ensures.items ∙ ap (λ (xs : List ℕ). xs ++ 0 ∷ []) c.new-words.ensures.items)))
    (words_none (λ u. low (start_status (predecessors_of c.args.plan.now u))))

pub loop-e-preserved : goal.loop-e-preserved
loop-e-preserved c =
    words_more (λ u. low (start_status (predecessors_of c.args.plan.now u))) c.loop-e.e c.start_word.result c.loop-e.words.items c.push-in-loop-e.new.self.items c.loop-e.invariant c.in_ok-push-3.ensures.items c.start_word.ensures

pub returns-clause-long : goal.returns-clause-long
returns-clause-long c = c.loop-e.invariant.long ∙ ap (λ (n : ℕ). n + 2) (omega (arith, c.loop-e-test.false, c.loop-e.auto.e-end, c.elements-e-end.ensures))

pub returns-clause-going : goal.returns-clause-going
returns-clause-going c = c.loop-e.invariant.going

pub returns-clause-each : goal.returns-clause-each
returns-clause-each c = λ e below. c.loop-e.invariant.each e (omega (arith, below, c.loop-e-test.false, c.elements-e-end.ensures))
