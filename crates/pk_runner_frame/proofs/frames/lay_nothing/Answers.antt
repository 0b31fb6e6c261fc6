use Rattle.std.proofs.Common.{slice_index_or}
use Rattle.pk_runner_frame.specs.declared.works.Frame.{Frame}
use Rattle.pk_runner_frame.specs.Frames.{nothing, held, work_in}
use Rattle.std.proofs.Common.{◌∙◌, ap, refl, List}
use Rattle.pk_runner_frame.proofs.FrameLemmas.{if_both, on_map, top_is, nothing_more}
use Rattle.pk_runner_frame.proofs.frames.lay_nothing.Goals as goal

pub returns-clause-same : goal.returns-clause-same
unfolding work_in
returns-clause-same c = λ s i. on_map c.lay.result _ _ (λ e. ap (λ (xs : List Frame). slice_index_or (held s xs) i nothing) e ∙ nothing_more s c.args.frames.now.items _ i refl) c.lay.ensures.frames

pub returns-clause-empty : goal.returns-clause-empty
unfolding work_in
returns-clause-empty c = λ s. if_both c.lay.result _ _ _ (λ n e f. ap (λ (xs : List Frame). slice_index_or (held s xs) n nothing) e
    ∙ top_is s c.args.frames.now.items _ n nothing f) c.lay.ensures.frames c.lay.ensures.number
