use Rattle.std.proofs.Common.{ap, ◌∙◌, List, [], ◌∷◌, get_or}
use Rattle.pk_runner_frame.specs.declared.works.Frame.{Frame}
use Rattle.pk_runner_frame.specs.declared.works.Frame.TheVariants as frames
use Rattle.pk_runner_frame.specs.Frames.{nothing}
use Rattle.pk_runner_frame.specs.Frames.{held}
use Rattle.pk_runner_frame.proofs.FrameLemmas.{laid_work, below_stays}
use Rattle.pk_runner_statement.proofs.steps.then_over.Goals as goal

pub returns-clause-work : goal.returns-clause-work
returns-clause-work c = λ s. laid_work s c.args.frames.now.items c.push.new.self.items c.args.work c.len-number.result c.in_ok-push.ensures.items (c.len-number.ensures ∙ c.args.frames.now.ok.0)

pub returns-clause-below : goal.returns-clause-below
returns-clause-below c = λ s i h.
    ap (λ (fs : List Frame). get_or (held s fs) i nothing) c.in_ok-push.ensures.items ∙ below_stays s c.args.frames.now.items (frames.Work c.args.work ∷ []) i nothing h
