use Rattle.std.proofs.Common.{◌≡◌, ℕ, refl, ap, ◌∙◌, sym, subst, arith, List, take, Option, IfOk}
use Rattle.pk_typed.specs.Views.{statement_tree, item_trees}
use Rattle.pk_graph.specs.Steps.{Numbers}
use Rattle.pk_meaning.specs.Programs.{Program}
use Rattle.pk_meaning.specs.Work as work
use Rattle.pk_meaning.specs.Work.{Work, Ahead, Loop, Place}
use Rattle.pk_meaning.specs.Steps as steps
use Rattle.pk_meaning.specs.Steps.{Config, on, comes, place}
use Rattle.pk_runner_frame.specs.declared.works.Frame.{Frame}
use Rattle.pk_runner_frame.specs.declared.works.Frame.TheVariants as frames
use Rattle.pk_runner_frame.specs.declared.works.Ahead.TheVariants as aheads
use Rattle.pk_runner_frame.specs.Frames.{nothing}
use Rattle.pk_runner_frame.proofs.FrameLemmas.{taken_ahead, not_ahead, no_ahead, seen_past, take_stays}
use Rattle.pk_runner_frame.specs.Frames.{Held, held, ahead_at, ahead_of, scope_in, place_in, caller_in, loop_in, loop_of, again_of, work_in, ahead_in}
use Rattle.pk_runner_state.specs.Shown.{program_in, shown, Told, outcome}
use Rattle.pk_runner_jump.specs.Marks.{again}
use Rattle.pk_runner_statement.proofs.statements.proceed.Goals.{then-next-number, else-next-number}
use Rattle.pk_runner_statement.proofs.statements.proceed.Goals as goal

pub returns-after-next-number-clause-told : goal.returns-after-next-number-clause-told
unfolding shown work_in ahead_in
returns-after-next-number-clause-told c = λ s agrees.
    let old : Config = shown s c.args.state.now in
    let fs : List Frame = c.args.state.now.frames.items in
    let hs : List Held = held s fs in
    let p : Program = program_in c.args.program.now in
    let ch : Numbers = c.args.chosen.now in
    let n : ℕ = c.args.number in
    let under : List Held = held s (take n fs) in
    let at : work.Rest (scope_in s c.in-Rest.scope) (item_trees c.in-Rest.items.now) (ahead_at under c.in-Rest.next)
    ≡ ahead_at hs n = taken_ahead s fs (take n fs) n c.index-frame.result.now (aheads.Rest c.in-Rest.scope c.in-Rest.items c.in-Rest.next) (omega arith) c.index-frame.ensures
    (c.in-Ahead.is ∙ ap frames.Ahead c.in-Rest.is) refl in
    let next : ahead_at hs c.if-next-number.next ≡ ahead_at under c.in-Rest.next =
    elim c.if-next-number.branch [
      | then-next-number w ↦ ap (λ (i : ℕ). ahead_at hs i) w.next-is ∙ sym (ap ahead_of (take_stays s fs n c.in-Rest.next nothing (omega arith) (omega arith)))
      | else-next-number w ↦ ap (λ (i : ℕ). ahead_at hs i) w.next-is ∙ (sym (no_ahead s fs w.len-next.result (omega arith)) ∙ sym (seen_past s fs n c.in-Rest.next (omega arith)))
    ] in
    subst (λ (b : Ahead). IfOk c.rest.result (λ r. Told s c.args.state.now c.rest.new.state r (steps.goes p ch old b))) at
    (subst (λ (b : Ahead). IfOk c.rest.result (λ r. Told s c.args.state.now c.rest.new.state r (steps.rest p ch old (scope_in s c.in-Rest.scope) (item_trees c.in-Rest.items.now) b))) next (c.rest.ensures.told s agrees))

pub returns-in-Join-clause-told : goal.returns-in-Join-clause-told
unfolding shown work_in ahead_in
returns-in-Join-clause-told c = λ s agrees.
    let old : Config = shown s c.args.state.now in
    let fs : List Frame = c.args.state.now.frames.items in
    let hs : List Held = held s fs in
    let p : Program = program_in c.args.program.now in
    let ch : Numbers = c.args.chosen.now in
    let n : ℕ = c.args.number in
    let under : List Held = held s (take n fs) in
    let at : work.Join (place_in s c.in-Join.here) (ahead_at under c.in-Join.next)
    ≡ ahead_at hs n = taken_ahead s fs (take n fs) n c.index-frame.result.now (aheads.Join c.in-Join.here c.in-Join.next) (omega arith) c.index-frame.ensures (c.in-Ahead.is
    ∙ ap frames.Ahead c.in-Join.is) refl in
    c.come.ensures s
    ∙ (ap (λ (gs : List Frame). outcome (comes old (place_in s c.in-Join.here) (work.Go (ahead_at (held s gs) c.in-Join.next)) old.values) old) c.truncate.ensures.items
    ∙ ap (λ (b : Ahead). outcome (steps.goes p ch old b) old) at)

pub returns-in-Close-clause-told : goal.returns-in-Close-clause-told
unfolding shown work_in ahead_in
returns-in-Close-clause-told c = λ s agrees.
    let old : Config = shown s c.args.state.now in
    let fs : List Frame = c.args.state.now.frames.items in
    let hs : List Held = held s fs in
    let p : Program = program_in c.args.program.now in
    let ch : Numbers = c.args.chosen.now in
    let n : ℕ = c.args.number in
    let under : List Held = held s (take n fs) in
    let at : work.Close (place_in s c.in-Close.here) (ahead_at under c.in-Close.next)
    ≡ ahead_at hs n = taken_ahead s fs (take n fs) n c.index-frame.result.now (aheads.Close c.in-Close.here c.in-Close.next) (omega arith) c.index-frame.ensures (c.in-Ahead.is
    ∙ ap frames.Ahead c.in-Close.is) refl in
    c.come-in-Close.ensures s
    ∙ (ap (λ (gs : List Frame). outcome (comes old (place_in s c.in-Close.here) (work.Go (ahead_at (held s gs) c.in-Close.next)) old.values) old) c.truncate-in-Close.ensures.items
    ∙ ap (λ (b : Ahead). outcome (steps.goes p ch old b) old) at)

pub returns-in-Some-clause-told : goal.returns-in-Some-clause-told
unfolding shown work_in ahead_in
returns-in-Some-clause-told c = λ s agrees.
    let old : Config = shown s c.args.state.now in
    let fs : List Frame = c.args.state.now.frames.items in
    let hs : List Held = held s fs in
    let p : Program = program_in c.args.program.now in
    let ch : Numbers = c.args.chosen.now in
    let n : ℕ = c.args.number in
    let under : List Held = held s (take n fs) in
    let h : Place = place_in s c.in-Again.field-0 in
    let e : Place = place_in s c.in-Again.field-2 in
    let a : Ahead = ahead_at under c.in-Again.field-3 in
    let seen_at : again_of (loop_of (statement_tree c.in-Again.statement.now)) h e a
    ≡ ahead_at hs n = taken_ahead s fs (take n fs) n c.index-frame.result.now (aheads.Again c.in-Again.field-0 c.in-Again.statement c.in-Again.field-2 c.in-Again.field-3)
    (omega arith) c.index-frame.ensures (c.in-Ahead.is ∙ ap frames.Ahead c.in-Again.is) refl in
    let l : Loop = loop_in c.in-Some.field-0 in
    let at : work.Again h l e a ≡ ahead_at hs n = ap (λ (o : Option Loop). again_of o h e a) c.in-Some.ensures ∙ seen_at in
    subst (λ (b : Ahead). IfOk c.loop_again.result (λ r. Told s c.args.state.now c.loop_again.new.state r (steps.goes p ch old b))) at
    (subst (λ (b : Ahead). IfOk c.loop_again.result (λ r. Told s c.args.state.now c.loop_again.new.state r (steps.takes old (again b) old.values))) (sym at) (c.loop_again.ensures s))

pub returns-in-None-clause-told : goal.returns-in-None-clause-told
unfolding shown work_in ahead_in
returns-in-None-clause-told c = λ s agrees.
    let old : Config = shown s c.args.state.now in
    let fs : List Frame = c.args.state.now.frames.items in
    let hs : List Held = held s fs in
    let p : Program = program_in c.args.program.now in
    let ch : Numbers = c.args.chosen.now in
    let n : ℕ = c.args.number in
    let under : List Held = held s (take n fs) in
    let h : Place = place_in s c.in-Again.field-0 in
    let e : Place = place_in s c.in-Again.field-2 in
    let a : Ahead = ahead_at under c.in-Again.field-3 in
    let seen_at : again_of (loop_of (statement_tree c.in-Again.statement.now)) h e a
    ≡ ahead_at hs n = taken_ahead s fs (take n fs) n c.index-frame.result.now (aheads.Again c.in-Again.field-0 c.in-Again.statement c.in-Again.field-2 c.in-Again.field-3)
    (omega arith) c.index-frame.ensures (c.in-Ahead.is ∙ ap frames.Ahead c.in-Again.is) refl in
    let at : work.End work.Nobody ≡ ahead_at hs n = ap (λ (o : Option Loop). again_of o h e a) c.in-None.ensures ∙ seen_at in
    subst (λ (b : Ahead). IfOk c.fall.result (λ r. Told s c.args.state.now c.fall.new.state r (steps.goes p ch old b))) at (c.fall.ensures.told s agrees)

pub returns-in-End-clause-told : goal.returns-in-End-clause-told
unfolding shown work_in ahead_in
returns-in-End-clause-told c = λ s agrees.
    let old : Config = shown s c.args.state.now in
    let fs : List Frame = c.args.state.now.frames.items in
    let hs : List Held = held s fs in
    let p : Program = program_in c.args.program.now in
    let ch : Numbers = c.args.chosen.now in
    let n : ℕ = c.args.number in
    let under : List Held = held s (take n fs) in
    let at : work.End (caller_in s under c.in-End.caller) ≡ ahead_at hs n = taken_ahead s fs (take n fs) n c.index-frame.result.now (aheads.End c.in-End.caller)
    (omega arith) c.index-frame.ensures (c.in-Ahead.is ∙ ap frames.Ahead c.in-End.is) refl in
    subst (λ (b : Ahead). IfOk c.fall-in-End.result (λ r. Told s c.args.state.now c.fall-in-End.new.state r (steps.goes p ch old b))) at (c.fall-in-End.ensures.told s agrees)

pub returns-in-Work-clause-told : goal.returns-in-Work-clause-told
unfolding shown work_in ahead_in
returns-in-Work-clause-told c = λ s agrees.
    let old : Config = shown s c.args.state.now in
    let fs : List Frame = c.args.state.now.frames.items in
    let hs : List Held = held s fs in
    let p : Program = program_in c.args.program.now in
    let ch : Numbers = c.args.chosen.now in
    let n : ℕ = c.args.number in
    let under : List Held = held s (take n fs) in
    let at : work.End work.Nobody ≡ ahead_at hs n = not_ahead s fs n c.index-frame.result.now _ (omega arith) c.index-frame.ensures c.in-Work.is in
    subst (λ (b : Ahead). IfOk c.fall-in-Work.result (λ r. Told s c.args.state.now c.fall-in-Work.new.state r (steps.goes p ch old b))) at (c.fall-in-Work.ensures.told s agrees)

pub returns-else-number-len-clause-told : goal.returns-else-number-len-clause-told
unfolding shown work_in ahead_in
returns-else-number-len-clause-told c = λ s agrees.
    let old : Config = shown s c.args.state.now in
    let fs : List Frame = c.args.state.now.frames.items in
    let hs : List Held = held s fs in
    let p : Program = program_in c.args.program.now in
    let ch : Numbers = c.args.chosen.now in
    let n : ℕ = c.args.number in
    let under : List Held = held s (take n fs) in
    let at : work.End work.Nobody ≡ ahead_at hs n = no_ahead s fs n (omega arith) in
    subst (λ (b : Ahead). IfOk c.fall-else-number-len.result (λ r. Told s c.args.state.now c.fall-else-number-len.new.state r (steps.goes p ch old b))) at (c.fall-else-number-len.ensures.told s agrees)
