use Rattle.std.proofs.Common.{◌≡◌, take, sym, ◌∙◌, ap, subst, refl}
use Rattle.pk_meaning.specs.Work.{Ahead}
use Rattle.pk_runner_frame.specs.Frames.{Reading, held, ahead_at, ahead_of, ahead_in, nothing, behind}
use Rattle.pk_runner_frame.proofs.FrameLemmas.{frame_is, no_ahead, match_map}
use Rattle.pk_runner_jump.specs.Marks.{past}
use Rattle.pk_runner_jump.proofs.jumps.switch_at.Goals as goal

pub returns-then-number-frames : goal.returns-then-number-frames
returns-then-number-frames c =
    let same : (s : Reading) → ahead_at (held s c.args.frames.now) c.args.number ≡ ahead_in s (held s (take c.args.number c.args.frames.now)) c.ahead_in_frame.result =
    λ s. ap ahead_of (frame_is s c.args.frames.now c.args.number c.index-frames-number.result nothing c.if-number-frames.true c.index-frames-number.is)
    ∙ sym (c.ahead_in_frame.ensures s (held s (take c.args.number c.args.frames.now))) in
    match_map c.switch_in_ahead.result _ _ _ _ (λ p s. subst (λ (a : Ahead). past a ≡ behind a) (sym (same s)) (p s (held s (take c.args.number c.args.frames.now))))
    (λ x q s. same s ∙ q s (held s (take c.args.number c.args.frames.now))) c.switch_in_ahead.ensures

pub returns-else-number-frames : goal.returns-else-number-frames
returns-else-number-frames c = λ s. subst (λ (a : Ahead). past a ≡ behind a) (no_ahead s c.args.frames.now c.args.number c.if-number-frames.false) refl
