use Rattle.std.proofs.Common.{◌≡◌, ◌<◌, ◌+◌, ℕ, List, length, take, subst, ◌∙◌, ap}
use Rattle.std.specs.Prelude.{option_map, Some, None}
use Rattle.pk_typed.specs.Views.{value_tree, effect_tree}
use Rattle.pk_meaning.specs.Work as work
use Rattle.pk_meaning.specs.Work.{Place, Ahead, Work}
use Rattle.pk_meaning.specs.Steps.{comes}
use Rattle.pk_runner_frame.specs.declared.works.Frame.{Frame}
use Rattle.pk_runner_frame.specs.Frames.{held, place_in, loop_in, expression_in, task_in, work_in, ahead_at, head, behind, turn, back}
use Rattle.pk_runner_state.specs.Shown.{shown, outcome}
use Rattle.pk_runner_jump.proofs.JumpLemmas.{kept_at, comes_again, while_is, do_is, for_is}
use Rattle.pk_runner_jump.proofs.jumps.loop_again.Goals as goal

pub returns-in-While : goal.returns-in-While
unfolding work_in shown loop_in expression_in task_in
returns-in-While c = λ s.
    let fs : List Frame = c.args.state.now.frames.items in
    let n : ℕ = c.args.number in
    let e = c.in-Some.end in
    let d = shown s c.args.state.now in
    let h : Place = place_in s e.here in
    let x : Ahead = ahead_at (held s (take n fs)) e.ahead in
    let lt : n < length fs = subst (λ (gs : List Frame). n < length gs) c.deref.ensures.value c.in-Some.ensures.0 in
    let same : ahead_at (held s fs) n ≡ work.Again h (loop_in e.kind) (place_in s e.end) x =
    subst (λ (gs : List Frame). ahead_at (held s gs) n ≡ work.Again h (loop_in e.kind) (place_in s e.end) (ahead_at (held s (take n gs)) e.ahead)) c.deref.ensures.value (c.in-Some.ensures.1 s) in
    let a : Ahead = ahead_at (held s (take (n + 1) fs)) n in
    c.come.ensures s
    ∙ (ap (λ (gs : List Frame). outcome (comes d h (turn (ahead_at (held s gs) n)) d.values) d) c.truncate.ensures.items
    ∙ comes_again d h (place_in s e.end) (loop_in e.kind) x (ahead_at (held s fs) n) (turn a) d.values same
    (while_is h (place_in s e.end) (loop_in e.kind) x a _ _ (ap loop_in c.in-While.is) (kept_at s fs n lt ∙ same)))

pub returns-in-DoWhile : goal.returns-in-DoWhile
unfolding work_in shown loop_in expression_in task_in
returns-in-DoWhile c = λ s.
    let fs : List Frame = c.args.state.now.frames.items in
    let n : ℕ = c.args.number in
    let e = c.in-Some.end in
    let d = shown s c.args.state.now in
    let h : Place = place_in s e.here in
    let x : Ahead = ahead_at (held s (take n fs)) e.ahead in
    let lt : n < length fs = subst (λ (gs : List Frame). n < length gs) c.deref.ensures.value c.in-Some.ensures.0 in
    let same : ahead_at (held s fs) n ≡ work.Again h (loop_in e.kind) (place_in s e.end) x =
    subst (λ (gs : List Frame). ahead_at (held s gs) n ≡ work.Again h (loop_in e.kind) (place_in s e.end) (ahead_at (held s (take n gs)) e.ahead)) c.deref.ensures.value (c.in-Some.ensures.1 s) in
    let a : Ahead = ahead_at (held s (take (n + 1) fs)) n in
    c.come-in-DoWhile.ensures s
    ∙ (ap (λ (gs : List Frame). outcome (comes d h (work.Test (value_tree c.in-DoWhile.test.now) (head (ahead_at (held s gs) n)) (behind (ahead_at (held s gs) n))) d.values) d) c.truncate.ensures.items
    ∙ comes_again d h (place_in s e.end) (loop_in e.kind) x (ahead_at (held s fs) n) (work.Test (value_tree c.in-DoWhile.test.now) (head a) (behind a)) d.values same
    (do_is h (place_in s e.end) (loop_in e.kind) x a (value_tree c.in-DoWhile.test.now) _ (ap loop_in c.in-DoWhile.is) (kept_at s fs n lt ∙ same)))

pub returns-in-None-third : goal.returns-in-None-third
unfolding work_in shown loop_in expression_in task_in
returns-in-None-third c = λ s.
    let fs : List Frame = c.args.state.now.frames.items in
    let n : ℕ = c.args.number in
    let e = c.in-Some.end in
    let d = shown s c.args.state.now in
    let h : Place = place_in s e.here in
    let x : Ahead = ahead_at (held s (take n fs)) e.ahead in
    let lt : n < length fs = subst (λ (gs : List Frame). n < length gs) c.deref.ensures.value c.in-Some.ensures.0 in
    let same : ahead_at (held s fs) n ≡ work.Again h (loop_in e.kind) (place_in s e.end) x =
    subst (λ (gs : List Frame). ahead_at (held s gs) n ≡ work.Again h (loop_in e.kind) (place_in s e.end) (ahead_at (held s (take n gs)) e.ahead)) c.deref.ensures.value (c.in-Some.ensures.1 s) in
    let a : Ahead = ahead_at (held s (take (n + 1) fs)) n in
    c.come-in-None-third.ensures s
    ∙ (ap (λ (gs : List Frame). outcome (comes d h (back (ahead_at (held s gs) n)) d.values) d) c.truncate.ensures.items
    ∙ comes_again d h (place_in s e.end) (loop_in e.kind) x (ahead_at (held s fs) n) (back a) d.values same
    (for_is h (place_in s e.end) (loop_in e.kind) x a _ _ None _ (ap loop_in c.in-For.is) (ap (option_map effect_tree) c.in-None-third.is) (kept_at s fs n lt ∙ same)))

pub returns-in_ok-back-in-Some-third : goal.returns-in_ok-back-in-Some-third
unfolding work_in shown loop_in expression_in task_in
returns-in_ok-back-in-Some-third c = λ s.
    let fs : List Frame = c.args.state.now.frames.items in
    let n : ℕ = c.args.number in
    let e = c.in-Some.end in
    let d = shown s c.args.state.now in
    let h : Place = place_in s e.here in
    let x : Ahead = ahead_at (held s (take n fs)) e.ahead in
    let lt : n < length fs = subst (λ (gs : List Frame). n < length gs) c.deref.ensures.value c.in-Some.ensures.0 in
    let same : ahead_at (held s fs) n ≡ work.Again h (loop_in e.kind) (place_in s e.end) x =
    subst (λ (gs : List Frame). ahead_at (held s gs) n ≡ work.Again h (loop_in e.kind) (place_in s e.end) (ahead_at (held s (take n gs)) e.ahead)) c.deref.ensures.value (c.in-Some.ensures.1 s) in
    let a : Ahead = ahead_at (held s (take (n + 1) fs)) n in
    c.come-in-Some-third.ensures s
    ∙ (ap (λ (v : Work). outcome (comes d h (work.Perform (effect_tree c.in-Some-third.effect) v) d.values) d) (c.in_ok-back-in-Some-third.ensures.work s)
    ∙ (ap (λ (gs : List Frame). outcome (comes d h (work.Perform (effect_tree c.in-Some-third.effect) (back (ahead_at (held s gs) n))) d.values) d) c.truncate.ensures.items
    ∙ comes_again d h (place_in s e.end) (loop_in e.kind) x (ahead_at (held s fs) n) (work.Perform (effect_tree c.in-Some-third.effect) (back a)) d.values same
    (for_is h (place_in s e.end) (loop_in e.kind) x a _ _ (Some (effect_tree c.in-Some-third.effect)) _ (ap loop_in c.in-For.is) (ap (option_map effect_tree) c.in-Some-third.is) (kept_at s fs n lt ∙ same))))
