use Rattle.std.proofs.Common.{◌∙◌, ap, arith, List}
use Rattle.pk_typed.specs.Views.{value_tree}
use Rattle.pk_meaning.specs.Work as works
use Rattle.pk_meaning.specs.Work.{Work, Way}
use Rattle.pk_runner_frame.specs.declared.works.Frame.{Frame}
use Rattle.pk_runner_frame.specs.Frames.{held, work_in, way_in, place_in, expression_in}
use Rattle.pk_runner_frame.proofs.FrameLemmas.{laid_work}
use Rattle.pk_runner_expression.proofs.expressions.both.Goals as goal

pub returns : goal.returns
unfolding work_in expression_in
returns c = λ s.
    ap (λ (w : Work). works.Test (value_tree c.args.left.now) (works.Onward (place_in s c.args.here) w) (way_in s (held s c.push.new.self.items) c.in_ok-no.no))
    (laid_work s c.known_way.new.frames.items c.push.new.self.items _ c.len-second.result c.in_ok-push.ensures.items (omega arith)
    ∙ (ap (λ (y : Way). works.Test (value_tree c.args.right.now) y (way_in s (held s c.known_way.new.frames.items) c.in_ok-no.no)) (c.in_ok-no.ensures.same s c.args.yes)
    ∙ ap (works.Test (value_tree c.args.right.now) (way_in s (held s c.args.frames.now.items) c.args.yes)) (c.in_ok-no.ensures.way s)))
    ∙ ap (works.Test (value_tree c.args.left.now) (works.Onward (place_in s c.args.here) (works.Test (value_tree c.args.right.now) (way_in s (held s c.args.frames.now.items) c.args.yes)
    (way_in s (held s c.args.frames.now.items) c.args.no)))) (ap (λ (fs : List Frame). way_in s (held s fs) c.in_ok-no.no) c.in_ok-push.ensures.items ∙ (c.in_ok-no.ensures.stays s _
    ∙ c.in_ok-no.ensures.way s))
