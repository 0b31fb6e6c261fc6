use Rattle.std.proofs.Common.{◌≡◌, ◌<◌, ◌+◌, suc, ◌∙◌, ap, arith, length, set}
use Rattle.std.specs.Prelude.{slice_index_or}
use Rattle.pk_ctypes.specs.declared.types.IntType.TheVariants.{Int}
use Rattle.pk_value.specs.Known.{any_of}
use Rattle.pk_state.proofs.Tops.{top_set}
use Rattle.pk_state.proofs.facts.top_values.Goals as goal

pub loop-x-preserved : goal.loop-x-preserved
loop-x-preserved c =
    let x = c.loop-x.x in
    let ts = c.args.frame.now.types in
    let n : x + 1 ≡ suc x = omega arith in
    let place : x < length ts = omega (arith, c.loop-x-test.true, c.len-x-end.ensures) in
    rw n (c.in_ok-set.ensures.ok ∙ ap (λ v. set c.loop-x.values x v) (c.any-in-loop-x.ensures ∙ ap any_of c.int_type.ensures) ∙ ap (λ vs. set vs x (any_of (slice_index_or ts x Int))) c.loop-x.invariant ∙ top_set ts x place)
