use Rattle.std.proofs.Common.{◌∙◌, ℕ, ap}
use Rattle.pk_state.specs.Changes.{with_known}
use Rattle.pk_transfer.proofs.EachLemmas.{each_next, each_end}
use Rattle.pk_transfer.proofs.transfers.known_each.Goals as goal

pub loop-i-preserved : goal.loop-i-preserved
loop-i-preserved c =
    each_next c.args.state c.loop-i.state c.in_ok-state-2.state c.args.x c.loop-i.i c.args.n c.args.known c.loop-i.auto.i c.loop-i-test.true c.loop-i.invariant
    (c.in_ok-state-2.ensures ∙ ap (λ (j : ℕ). record { layout = c.loop-i.state.layout; facts = with_known c.loop-i.state.facts j c.args.known }) c.slot-j.ensures)

pub returns : goal.returns
returns c = each_end c.args.state c.loop-i.state c.args.x c.loop-i.i c.args.n c.args.known c.loop-i.auto.i c.loop-i.auto.i-end c.loop-i-test.false c.loop-i.invariant
