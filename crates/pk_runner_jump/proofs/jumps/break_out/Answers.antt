use Rattle.std.proofs.Common.{◌≡◌, ℕ, List, take, sym, subst, ◌∙◌, ap}
use Rattle.pk_meaning.specs.Work.{Way, Close, Go}
use Rattle.pk_meaning.specs.Steps.{takes, comes, broken}
use Rattle.pk_runner_frame.specs.declared.works.Frame.{Frame}
use Rattle.pk_runner_frame.specs.Frames.{held, place_in, work_in, ahead_at}
use Rattle.pk_runner_state.specs.Shown.{shown, outcome}
use Rattle.pk_runner_jump.specs.Marks.{past}
use Rattle.pk_runner_jump.proofs.jumps.break_out.Goals as goal

pub returns-in-Some : goal.returns-in-Some
unfolding work_in shown
returns-in-Some c = λ s.
    let fs : List Frame = c.args.state.now.frames.items in
    let n : ℕ = c.innermost-number.result in
    let d = shown s c.args.state.now in
    let same : ahead_at (held s fs) n ≡ Close (place_in s c.in-Some.here) (ahead_at (held s (take n fs)) c.in-Some.next) =
    subst (λ (gs : List Frame). ahead_at (held s gs) n ≡ Close (place_in s c.in-Some.here) (ahead_at (held s (take n gs)) c.in-Some.next)) c.deref-2.ensures.value (c.in-Some.ensures s) in
    let there : past (ahead_at (held s fs) n) ≡ broken (ahead_at (held s fs) c.args.ahead) =
    subst (λ (gs : List Frame). past (ahead_at (held s gs) n) ≡ broken (ahead_at (held s gs) c.args.ahead)) c.deref.ensures.value (c.innermost-number.ensures s) in
    c.come.ensures s
    ∙ (ap (λ (gs : List Frame). outcome (comes d (place_in s c.in-Some.here) (Go (ahead_at (held s gs) c.in-Some.next)) d.values) d) c.truncate.ensures.items
    ∙ ap (λ (w : Way). outcome (takes d w d.values) d) (sym (ap past same) ∙ there))
