use Rattle.std.proofs.Common.{rules, ◌≡◌, ap, ◌∙◌, refl}
use Rattle.std.specs.Prelude.{IfOk}
use Rattle.std.proofs.lemmas.Int.{to_z-of_z}
use mir.Syntax.{w128}
use mir.Val.{SFits, to_z, of_z}
use Rattle.pk_meaning.specs.Objects.{number_of}
use Rattle.pk_graph.specs.Steps.{Numbers}
use Rattle.pk_meaning.specs.Programs.{Program}
use Rattle.pk_meaning.specs.Work.{Work}
use Rattle.pk_meaning.specs.Steps.{Config, Next, on}
use Rattle.pk_runner_frame.specs.Frames.{work_in, object_in}
use Rattle.pk_runner_state.specs.Shown.{program_in, objects_in, shown, Told, outcome}
use Rattle.pk_runner.proofs.StepLemmas.{by_work}
use Rattle.pk_runner.proofs.steps.step_state.Goals as goal

pub returns-in-Go-clause-told : goal.returns-in-Go-clause-told
unfolding shown work_in
returns-in-Go-clause-told c = λ s agrees.
    let p : Program = program_in c.args.program.now in
    let ch : Numbers = c.args.chosen.now in
    by_work (λ (n : Next). IfOk c.proceed.result (λ r. Told s c.args.state.now c.proceed.new.state r n)) p ch s c.args.state.now _ c.in-Go.is (c.proceed.ensures.told s agrees)

pub returns-in-Do-clause-told : goal.returns-in-Do-clause-told
unfolding shown work_in
returns-in-Do-clause-told c = λ s agrees.
    let p : Program = program_in c.args.program.now in
    let ch : Numbers = c.args.chosen.now in
    by_work (λ (n : Next). IfOk c.execute.result (λ r. Told s c.args.state.now c.execute.new.state r n)) p ch s c.args.state.now _ c.in-Do.is (c.execute.ensures.told s agrees)

pub returns-in-Declare-clause-told : goal.returns-in-Declare-clause-told
unfolding shown work_in
returns-in-Declare-clause-told c = λ s agrees.
    let p : Program = program_in c.args.program.now in
    let ch : Numbers = c.args.chosen.now in
    by_work (λ (n : Next). IfOk c.declare_all.result (λ r. Told s c.args.state.now c.declare_all.new.state r n)) p ch s c.args.state.now _ c.in-Declare.is (c.declare_all.ensures.told s agrees)

pub returns-in_ok-next-in-Perform-clause-told : goal.returns-in_ok-next-in-Perform-clause-told
unfolding shown work_in
returns-in_ok-next-in-Perform-clause-told c = λ s agrees.
    let p : Program = program_in c.args.program.now in
    let ch : Numbers = c.args.chosen.now in
    let old : Config = shown s c.args.state.now in
    by_work (λ (n : Next). Told s c.args.state.now c.go_on.new.state c.go_on.result n) p ch s c.args.state.now _ c.in-Perform.is (c.go_on.ensures s
    ∙ ap (λ (v : Work). outcome (on old v old.values) old) (c.in_ok-next-in-Perform.ensures s))

pub returns-in-Evaluate-clause-told : goal.returns-in-Evaluate-clause-told
unfolding shown work_in
returns-in-Evaluate-clause-told c = λ s agrees.
    let p : Program = program_in c.args.program.now in
    let ch : Numbers = c.args.chosen.now in
    by_work (λ (n : Next). IfOk c.evaluate.result (λ r. Told s c.args.state.now c.evaluate.new.state r n)) p ch s c.args.state.now _ c.in-Evaluate.is (c.evaluate.ensures s)

pub returns-in_ok-next-in-Test-clause-told : goal.returns-in_ok-next-in-Test-clause-told
unfolding shown work_in
returns-in_ok-next-in-Test-clause-told c = λ s agrees.
    let p : Program = program_in c.args.program.now in
    let ch : Numbers = c.args.chosen.now in
    let old : Config = shown s c.args.state.now in
    by_work (λ (n : Next). Told s c.args.state.now c.go_on-in-Test.new.state c.go_on-in-Test.result n) p ch s c.args.state.now _ c.in-Test.is (c.go_on-in-Test.ensures s
    ∙ ap (λ (v : Work). outcome (on old v old.values) old) (c.in_ok-next-in-Test.ensures s))

pub returns-in-Keep-clause-told : goal.returns-in-Keep-clause-told
unfolding shown work_in
returns-in-Keep-clause-told c = λ s agrees.
    let p : Program = program_in c.args.program.now in
    let ch : Numbers = c.args.chosen.now in
    by_work (λ (n : Next). Told s c.args.state.now c.resume.new.state c.resume.result n) p ch s c.args.state.now _ c.in-Keep.is (c.resume.ensures s)

pub returns-in-Branch-clause-told : goal.returns-in-Branch-clause-told
unfolding shown work_in
returns-in-Branch-clause-told c = λ s agrees.
    let p : Program = program_in c.args.program.now in
    let ch : Numbers = c.args.chosen.now in
    by_work (λ (n : Next). Told s c.args.state.now c.branch-state.new.state c.branch-state.result n) p ch s c.args.state.now _ c.in-Branch.is (c.branch-state.ensures s p ch)

pub returns-in-Apply-clause-told : goal.returns-in-Apply-clause-told
unfolding shown work_in
returns-in-Apply-clause-told c = λ s agrees.
    let p : Program = program_in c.args.program.now in
    let ch : Numbers = c.args.chosen.now in
    by_work (λ (n : Next). IfOk c.apply.result (λ r. Told s c.args.state.now c.apply.new.state r n)) p ch s c.args.state.now _ c.in-Apply.is (c.apply.ensures s p ch)

pub returns-in-Operate-clause-told : goal.returns-in-Operate-clause-told
unfolding shown work_in
returns-in-Operate-clause-told c = λ s agrees.
    let p : Program = program_in c.args.program.now in
    let ch : Numbers = c.args.chosen.now in
    by_work (λ (n : Next). IfOk c.operate.result (λ r. Told s c.args.state.now c.operate.new.state r n)) p ch s c.args.state.now _ c.in-Operate.is (c.operate.ensures s p ch)

pub returns-in-Convert-clause-told : goal.returns-in-Convert-clause-told
unfolding shown work_in
returns-in-Convert-clause-told c = λ s agrees.
    let p : Program = program_in c.args.program.now in
    let ch : Numbers = c.args.chosen.now in
    by_work (λ (n : Next). IfOk c.converted.result (λ r. Told s c.args.state.now c.converted.new.state r n)) p ch s c.args.state.now _ c.in-Convert.is (c.converted.ensures s p ch)

pub returns-in-Settle-clause-told : goal.returns-in-Settle-clause-told
unfolding shown work_in
returns-in-Settle-clause-told c = λ s agrees.
    let p : Program = program_in c.args.program.now in
    let ch : Numbers = c.args.chosen.now in
    by_work (λ (n : Next). IfOk c.converted-in-Settle.result (λ r. Told s c.args.state.now c.converted-in-Settle.new.state r n)) p ch s c.args.state.now _ c.in-Settle.is (c.converted-in-Settle.ensures s p ch)

pub returns-in-Truth-clause-told : goal.returns-in-Truth-clause-told
unfolding shown work_in
returns-in-Truth-clause-told c = λ s agrees.
    let p : Program = program_in c.args.program.now in
    let ch : Numbers = c.args.chosen.now in
    by_work (λ (n : Next). IfOk c.give.result (λ r. Told s c.args.state.now c.give.new.state r n)) p ch s c.args.state.now _ c.in-Truth.is
    (let fv : SFits w128 c.in-Truth.value = search rules in rw (to_z-of_z w128 c.in-Truth.value fv) at c.give.ensures s)

pub returns-in-Discard-clause-told : goal.returns-in-Discard-clause-told
unfolding shown work_in
returns-in-Discard-clause-told c = λ s agrees.
    let p : Program = program_in c.args.program.now in
    let ch : Numbers = c.args.chosen.now in
    by_work (λ (n : Next). Told s c.args.state.now c.discard.new.state c.discard.result n) p ch s c.args.state.now _ c.in-Discard.is (c.discard.ensures s p ch)

pub returns-in-Assign-clause-told : goal.returns-in-Assign-clause-told
unfolding shown work_in
returns-in-Assign-clause-told c = λ s agrees.
    let p : Program = program_in c.args.program.now in
    let ch : Numbers = c.args.chosen.now in
    by_work (λ (n : Next). IfOk c.assign.result (λ r. Told s c.args.state.now c.assign.new.state r n)) p ch s c.args.state.now _ c.in-Assign.is (c.assign.ensures s p ch)

pub returns-in-Put-clause-told : goal.returns-in-Put-clause-told
unfolding shown work_in
returns-in-Put-clause-told c = λ s agrees.
    let p : Program = program_in c.args.program.now in
    let ch : Numbers = c.args.chosen.now in
    by_work (λ (n : Next). IfOk c.put.result (λ r. Told s c.args.state.now c.put.new.state r n)) p ch s c.args.state.now _ c.in-Put.is (c.put.ensures s p ch)

pub returns-in-Update-clause-told : goal.returns-in-Update-clause-told
unfolding shown work_in
returns-in-Update-clause-told c = λ s agrees.
    let p : Program = program_in c.args.program.now in
    let ch : Numbers = c.args.chosen.now in
    by_work (λ (n : Next). IfOk c.update.result (λ r. Told s c.args.state.now c.update.new.state r n)) p ch s c.args.state.now _ c.in-Update.is (c.update.ensures s p ch)

pub returns-in-Advance-clause-told : goal.returns-in-Advance-clause-told
unfolding shown work_in
returns-in-Advance-clause-told c = λ s agrees.
    let p : Program = program_in c.args.program.now in
    let ch : Numbers = c.args.chosen.now in
    by_work (λ (n : Next). IfOk c.advance.result (λ r. Told s c.args.state.now c.advance.new.state r n)) p ch s c.args.state.now _ c.in-Advance.is (c.advance.ensures s p ch)

pub returns-in-Fetch-clause-told : goal.returns-in-Fetch-clause-told
unfolding shown work_in
returns-in-Fetch-clause-told c = λ s agrees.
    let p : Program = program_in c.args.program.now in
    let ch : Numbers = c.args.chosen.now in
    by_work (λ (n : Next). IfOk c.give-in-Fetch.result (λ r. Told s c.args.state.now c.give-in-Fetch.new.state r n)) p ch s c.args.state.now _ c.in-Fetch.is (let value : to_z w128
    (of_z w128 c.number-value.result) ≡ number_of (object_in c.in-Fetch.object) (objects_in c.args.state.now.objects) = to_z-of_z w128 c.number-value.result
    (record { sfits = c.number-value.type_inv }) ∙ c.number-value.ensures in rw value at (c.give-in-Fetch.ensures s))

pub returns-in-Load-clause-told : goal.returns-in-Load-clause-told
unfolding shown work_in
returns-in-Load-clause-told c = λ s agrees.
    let p : Program = program_in c.args.program.now in
    let ch : Numbers = c.args.chosen.now in
    by_work (λ (n : Next). IfOk c.load.result (λ r. Told s c.args.state.now c.load.new.state r n)) p ch s c.args.state.now _ c.in-Load.is (c.load.ensures s p ch)

pub returns-in-Reload-clause-told : goal.returns-in-Reload-clause-told
unfolding shown work_in
returns-in-Reload-clause-told c = λ s agrees.
    let p : Program = program_in c.args.program.now in
    let ch : Numbers = c.args.chosen.now in
    by_work (λ (n : Next). IfOk c.reload.result (λ r. Told s c.args.state.now c.reload.new.state r n)) p ch s c.args.state.now _ c.in-Reload.is (c.reload.ensures s p ch)

pub returns-in-Store-clause-told : goal.returns-in-Store-clause-told
unfolding shown work_in
returns-in-Store-clause-told c = λ s agrees.
    let p : Program = program_in c.args.program.now in
    let ch : Numbers = c.args.chosen.now in
    by_work (λ (n : Next). Told s c.args.state.now c.store.new.state c.store.result n) p ch s c.args.state.now _ c.in-Store.is (c.store.ensures s p ch)

pub returns-in-StoreKept-clause-told : goal.returns-in-StoreKept-clause-told
unfolding shown work_in
returns-in-StoreKept-clause-told c = λ s agrees.
    let p : Program = program_in c.args.program.now in
    let ch : Numbers = c.args.chosen.now in
    by_work (λ (n : Next). IfOk c.store_kept.result (λ r. Told s c.args.state.now c.store_kept.new.state r n)) p ch s c.args.state.now _ c.in-StoreKept.is (c.store_kept.ensures s p ch)

pub returns-in-Renew-clause-told : goal.returns-in-Renew-clause-told
unfolding shown work_in
returns-in-Renew-clause-told c = λ s agrees.
    let p : Program = program_in c.args.program.now in
    let ch : Numbers = c.args.chosen.now in
    by_work (λ (n : Next). Told s c.args.state.now c.renew.new.state c.renew.result n) p ch s c.args.state.now _ c.in-Renew.is (c.renew.ensures s p ch)

pub returns-in-Renewed-clause-told : goal.returns-in-Renewed-clause-told
unfolding shown work_in
returns-in-Renewed-clause-told c = λ s agrees.
    let p : Program = program_in c.args.program.now in
    let ch : Numbers = c.args.chosen.now in
    by_work (λ (n : Next). IfOk c.renewed.result (λ r. Told s c.args.state.now c.renewed.new.state r n)) p ch s c.args.state.now _ c.in-Renewed.is (c.renewed.ensures s p ch)

pub returns-in-Replace-clause-told : goal.returns-in-Replace-clause-told
unfolding shown work_in
returns-in-Replace-clause-told c = λ s agrees.
    let p : Program = program_in c.args.program.now in
    let ch : Numbers = c.args.chosen.now in
    by_work (λ (n : Next). IfOk c.replace.result (λ r. Told s c.args.state.now c.replace.new.state r n)) p ch s c.args.state.now _ c.in-Replace.is (c.replace.ensures s p ch)

pub returns-in_ok-next-in-Fill-clause-told : goal.returns-in_ok-next-in-Fill-clause-told
unfolding shown work_in
returns-in_ok-next-in-Fill-clause-told c = λ s agrees.
    let p : Program = program_in c.args.program.now in
    let ch : Numbers = c.args.chosen.now in
    let old : Config = shown s c.args.state.now in
    by_work (λ (n : Next). Told s c.args.state.now c.go_on-in-Fill.new.state c.go_on-in-Fill.result n) p ch s c.args.state.now _ c.in-Fill.is (c.go_on-in-Fill.ensures s
    ∙ ap (λ (v : Work). outcome (on old v old.values) old) (c.in_ok-next-in-Fill.ensures s))

pub returns-in-Item-clause-told : goal.returns-in-Item-clause-told
unfolding shown work_in
returns-in-Item-clause-told c = λ s agrees.
    let p : Program = program_in c.args.program.now in
    let ch : Numbers = c.args.chosen.now in
    by_work (λ (n : Next). Told s c.args.state.now c.item.new.state c.item.result n) p ch s c.args.state.now _ c.in-Item.is (c.item.ensures s p ch)

pub returns-in-Claim-clause-told : goal.returns-in-Claim-clause-told
unfolding shown work_in
returns-in-Claim-clause-told c = λ s agrees.
    let p : Program = program_in c.args.program.now in
    let ch : Numbers = c.args.chosen.now in
    by_work (λ (n : Next). Told s c.args.state.now c.claim.new.state c.claim.result n) p ch s c.args.state.now _ c.in-Claim.is (c.claim.ensures s p ch)

pub returns-in_ok-next-in-Pass-clause-told : goal.returns-in_ok-next-in-Pass-clause-told
unfolding shown work_in
returns-in_ok-next-in-Pass-clause-told c = λ s agrees.
    let p : Program = program_in c.args.program.now in
    let ch : Numbers = c.args.chosen.now in
    let old : Config = shown s c.args.state.now in
    by_work (λ (n : Next). Told s c.args.state.now c.go_on-in-Pass.new.state c.go_on-in-Pass.result n) p ch s c.args.state.now _ c.in-Pass.is (c.go_on-in-Pass.ensures s
    ∙ ap (λ (v : Work). outcome (on old v old.values) old) (c.in_ok-next-in-Pass.ensures s))

pub returns-in-Bind-clause-told : goal.returns-in-Bind-clause-told
unfolding shown work_in
returns-in-Bind-clause-told c = λ s agrees.
    let p : Program = program_in c.args.program.now in
    let ch : Numbers = c.args.chosen.now in
    by_work (λ (n : Next). IfOk c.bind.result (λ r. Told s c.args.state.now c.bind.new.state r n)) p ch s c.args.state.now _ c.in-Bind.is (c.bind.ensures s)

pub returns-in-Enter-clause-told : goal.returns-in-Enter-clause-told
unfolding shown work_in
returns-in-Enter-clause-told c = λ s agrees.
    let p : Program = program_in c.args.program.now in
    let ch : Numbers = c.args.chosen.now in
    by_work (λ (n : Next). IfOk c.enter.result (λ r. Told s c.args.state.now c.enter.new.state r n)) p ch s c.args.state.now _ c.in-Enter.is (c.enter.ensures.told s agrees)

pub returns-in-Leave-clause-told : goal.returns-in-Leave-clause-told
unfolding shown work_in
returns-in-Leave-clause-told c = λ s agrees.
    let p : Program = program_in c.args.program.now in
    let ch : Numbers = c.args.chosen.now in
    by_work (λ (n : Next). IfOk c.leave.result (λ r. Told s c.args.state.now c.leave.new.state r n)) p ch s c.args.state.now _ c.in-Leave.is (c.leave.ensures.told s agrees)

pub returns-in-Return-clause-told : goal.returns-in-Return-clause-told
unfolding shown work_in
returns-in-Return-clause-told c = λ s agrees.
    let p : Program = program_in c.args.program.now in
    let ch : Numbers = c.args.chosen.now in
    by_work (λ (n : Next). Told s c.args.state.now c.go_back.new.state c.go_back.result n) p ch s c.args.state.now _ c.in-Return.is (c.go_back.ensures s)

pub returns-in-Turn-clause-told : goal.returns-in-Turn-clause-told
unfolding shown work_in
returns-in-Turn-clause-told c = λ s agrees.
    let p : Program = program_in c.args.program.now in
    let ch : Numbers = c.args.chosen.now in
    by_work (λ (n : Next). Told s c.args.state.now c.turn_loop.new.state c.turn_loop.result n) p ch s c.args.state.now _ c.in-Turn.is (c.turn_loop.ensures s p ch refl)

pub returns-in-Back-clause-told : goal.returns-in-Back-clause-told
unfolding shown work_in
returns-in-Back-clause-told c = λ s agrees.
    let p : Program = program_in c.args.program.now in
    let ch : Numbers = c.args.chosen.now in
    by_work (λ (n : Next). Told s c.args.state.now c.go_back_to_loop.new.state c.go_back_to_loop.result n) p ch s c.args.state.now _ c.in-Back.is (c.go_back_to_loop.ensures s p ch refl)

pub returns-in-Choose-clause-told : goal.returns-in-Choose-clause-told
unfolding shown work_in
returns-in-Choose-clause-told c = λ s agrees.
    let p : Program = program_in c.args.program.now in
    let ch : Numbers = c.args.chosen.now in
    by_work (λ (n : Next). IfOk c.choose.result (λ r. Told s c.args.state.now c.choose.new.state r n)) p ch s c.args.state.now _ c.in-Choose.is (c.choose.ensures.told s agrees)
