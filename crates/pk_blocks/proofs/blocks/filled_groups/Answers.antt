use Rattle.std.proofs.Common.{◌∙◌, ap, ◌++◌, ◌∷◌, []}
use Rattle.std.specs.Prelude.{replicate}
use Rattle.std.proofs.Math.Nat.{le_antisymm}
use Rattle.std.proofs.lemmas.List.{replicate_more}
use Rattle.pk_blocks.proofs.blocks.filled_groups.Goals as goal

pub loop-preserved : goal.loop-preserved
loop-preserved g c = c.in_ok-push.ensures.items ∙ ap (λ x. c.loop.out.items ++ x ∷ []) c.in_ok-share.ensures ∙ ap (λ xs. xs ++ c.args.group.now ∷ []) c.loop.invariant ∙ replicate_more c.loop.counter c.args.group.now

pub returns : goal.returns
returns g c = c.loop.invariant ∙ ap (λ n. replicate n c.args.group.now) (le_antisymm c.loop.auto.counter-end c.loop-test.false)
