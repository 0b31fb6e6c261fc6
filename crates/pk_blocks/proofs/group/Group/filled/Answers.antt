use Rattle.std.proofs.Common.{◌∙◌, ap, sym, subst, ◌++◌, ◌∷◌, []}
use Rattle.std.specs.Prelude.{replicate}
use Rattle.std.proofs.Math.Nat.{le_antisymm}
use Rattle.std.proofs.lemmas.List.{replicate_more}
use Rattle.std.proofs.lemmas.Result.{IfOk-weaker}
use Rattle.pk_blocks.specs.Rows.{flat, AreRows}
use Rattle.pk_blocks.proofs.Flat.{rows_filled}
use Rattle.pk_blocks.proofs.group.Group.filled.Goals as goal

pub loop-preserved : goal.loop-preserved
loop-preserved g c = c.in_ok-push.ensures.items ∙ ap (λ x. c.loop.blocks.items ++ x ∷ []) c.in_ok-share.ensures ∙ ap (λ xs. xs ++ c.args.block.now ∷ []) c.loop.invariant ∙ replicate_more c.loop.counter c.args.block.now

pub made-requires : goal.made-requires
made-requires g c = subst (AreRows 16) (sym c.loop.invariant) (rows_filled 16 c.loop.counter c.args.block.now c.requires)

pub returns : goal.returns
returns g c = IfOk-weaker c.made.result _ _ (λ b h. h ∙ ap flat c.loop.invariant ∙ ap (λ n. flat (replicate n c.args.block.now)) (le_antisymm c.loop.auto.counter-end c.loop-test.false)) c.made.ensures
