use Rattle.std.proofs.Common.{◌∙◌, ap, ◌++◌, ◌∷◌, [], length}
use Rattle.std.specs.Prelude.{replicate}
use Rattle.std.proofs.Math.Nat.{le_antisymm}
use Rattle.std.proofs.lemmas.List.{length-replicate, replicate_more}
use Rattle.std.proofs.lemmas.Result.{IfOk-weaker}
use Rattle.pk_blocks.proofs.block.Block.filled.Goals as goal

pub loop-preserved : goal.loop-preserved
loop-preserved g c = c.in_ok-push.ensures.items ∙ ap (λ xs. xs ++ c.args.item ∷ []) c.loop.invariant ∙ replicate_more c.loop.counter c.args.item

pub made-requires : goal.made-requires
made-requires g c = ap length c.loop.invariant ∙ length-replicate c.loop.counter c.args.item ∙ le_antisymm c.loop.auto.counter-end c.loop-test.false

pub returns : goal.returns
returns g c = IfOk-weaker c.made.result _ _ (λ b h. h ∙ c.loop.invariant ∙ ap (λ n. replicate n c.args.item) (le_antisymm c.loop.auto.counter-end c.loop-test.false)) c.made.ensures
