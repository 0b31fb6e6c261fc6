use Rattle.std.proofs.Common.{◌≡◌, take, sym, ◌∙◌, ap, subst, refl}
use Rattle.pk_runner_frame.specs.Frames.{Reading, held, ahead_at, ahead_of, ahead_in, nothing}
use Rattle.pk_runner_frame.specs.Ends.{NoLoop}
use Rattle.pk_runner_frame.proofs.FrameLemmas.{frame_is, no_ahead, match_map}
use Rattle.pk_runner_frame.proofs.frames.loop_at.Goals as goal

pub returns-then-number-frames : goal.returns-then-number-frames
returns-then-number-frames c =
    let same : (s : Reading) → ahead_at (held s c.args.frames.now) c.args.number ≡ ahead_in s (held s (take c.args.number c.args.frames.now)) c.ahead_in_frame-ahead.result =
    λ s. ap ahead_of (frame_is s c.args.frames.now c.args.number c.index-frames-number.result nothing c.if-number-frames.true c.index-frames-number.is)
    ∙ sym (c.ahead_in_frame-ahead.ensures s (held s (take c.args.number c.args.frames.now))) in
    match_map c.loop_in_ahead.result _ _ _ _ (λ p s. subst NoLoop (sym (same s)) (p s (held s (take c.args.number c.args.frames.now))))
    (λ x q. (c.if-number-frames.true, λ s. same s ∙ q s (held s (take c.args.number c.args.frames.now)))) c.loop_in_ahead.ensures

pub returns-else-number-frames : goal.returns-else-number-frames
returns-else-number-frames c = λ s. subst NoLoop (no_ahead s c.args.frames.now c.args.number c.if-number-frames.false) (record { no_into = refl; no_head = refl; no_behind = refl; no_turn = refl; no_back = refl })
