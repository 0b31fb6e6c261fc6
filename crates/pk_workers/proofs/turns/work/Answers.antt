use Rattle.std.proofs.Common.{◌≡◌, ℕ, ◌<◌, ◌≤◌, ◌∙◌, ap, arith}
use Rattle.std.specs.Prelude.{None}
use Rattle.pk_workers.specs.Working.{HasSame}
use Rattle.pk_workers.proofs.Spending.{same_again, just_same}
use Rattle.pk_workers.proofs.turns.work.Goals as goal

least : (n : ℕ) → 0 ≤ n
least n = omega arith

within_plan : (m e n : ℕ) → m ≡ e → e < n → m ≤ n
within_plan m e n is below = omega (arith, is, below)

pub loop-init : goal.loop-init
loop-init g c = record { of_board = c.requires.of_board; tokens = c.requires.tokens; runnable = tt; from = least c.args.board.now.subject.wiring.plan.elements }

pub next_hold-requires-clause-tokens : goal.next_hold-requires-clause-tokens
next_hold-requires-clause-tokens g c κs within =
    let going = c.in_default.ensures.going in
    let old = c.loop.pass.view in
    let mid = c.stopped.new.pass.view in
    let new = c.look_at_end.new.pass.view in
    let first : HasSame old mid = record { holds = ap (λ v. v.holds) going.view; sends = ap (λ v. v.sends) going.view; resets = ap (λ v. v.resets) going.view } in
    just_same old new c.loop.kept None None (same_again old mid new first c.look_at_end.ensures.tokens) c.loop.invariant.tokens

pub loop-preserved-in_default-next_hold : goal.loop-preserved-in_default-next_hold
loop-preserved-in_default-next_hold g c =
    record {
      of_board = c.next_hold.ensures.of_board ∙ c.look_at_end.ensures.of_board ∙ c.stopped.ensures.of_board ∙ c.loop.invariant.of_board;
      tokens = c.in_default-next_hold.ensures.tokens;
      runnable = tt;
      from = c.loop.invariant.from;
    }

pub run_one-requires-clause-tokens : goal.run_one-requires-clause-tokens
run_one-requires-clause-tokens g c κs within = c.in-Some-next_hold.ensures.tokens

pub run_one-requires-clause-runnable : goal.run_one-requires-clause-runnable
run_one-requires-clause-runnable g c κs within = c.in-Some-next_hold.ensures.runnable

pub loop-preserved : goal.loop-preserved
loop-preserved g c =
    let e = c.in-Ok.ensures in
    record {
      of_board = e.of_board ∙ c.next_hold.ensures.of_board ∙ c.look_at_end.ensures.of_board ∙ c.stopped.ensures.of_board ∙ c.loop.invariant.of_board;
      tokens = e.tokens;
      runnable = e.runnable;
      from = within_plan c.element-from.result c.in-Some-next_hold.hold.element c.args.board.now.subject.wiring.plan.elements c.element-from.ensures c.in-Some-next_hold.ensures.runnable.element;
    }
