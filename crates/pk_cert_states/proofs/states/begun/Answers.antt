use Rattle.std.proofs.Common.{subst, sym}
use Rattle.std.proofs.lemmas.Result.{IfOk-weaker}
use Rattle.pk_cert_states.specs.Parts.{HasFacts}
use Rattle.pk_cert_states.proofs.Writing.{top_filled, state_filled, not_bottom}
use Rattle.pk_cert_states.proofs.states.begun.Goals as goal

pub returns-then-is_bottom : goal.returns-then-is_bottom
returns-then-is_bottom c =
    IfOk-weaker c.top.result _ _ (λ s is. top_filled c.args.frame.now s c.requires.one is) c.top.ensures

pub returns : goal.returns
returns c =
    IfOk-weaker c.copy.result _ _ (λ s is. subst (HasFacts c.args.frame.now) (sym is) (state_filled c.args.frame.now c.args.beside.now c.requires.one c.requires.beside c.is_stated.ensures.facts (not_bottom c.args.beside.now.facts c.is_bottom.result c.is_bottom.ensures c.if-is_bottom.false))) c.copy.ensures
