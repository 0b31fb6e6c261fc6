use Rattle.std.proofs.Common.{◌∙◌, ◌+◌, ◌*◌, ◌/◌, ap, sym, subst, arith, take, length, ◌≡◌}
use Rattle.std.specs.Prelude.{replicate}
use Rattle.std.proofs.lemmas.List.{length-replicate}
use Rattle.pk_blocks.specs.Rows.{flat, AreRows, group_size}
use Rattle.pk_blocks.proofs.Flat.{flat-replicate, replicate_taken, rows_filled, enough}
use Rattle.pk_blocks.proofs.blocks.Blocks.filled.Goals as goal

pub invariant_of-result : goal.invariant_of-result
invariant_of-result g c =
    let n = c.args.count in
    let m = n / 512 + 1 in
    let k = c.group_blocks.result in
    let is = c.in_ok-group.ensures ∙ ap (λ b. flat (replicate k b)) c.in_ok-block.ensures ∙ flat-replicate k 16 c.args.item ∙ ap (λ j. replicate j c.args.item) c.group_blocks.ensures.value in
    let long : length c.in_ok-group.group ≡ group_size n = ap length is ∙ length-replicate (group_size n) c.args.item in
    rw c.in_ok-new.ensures.ok (
      subst (AreRows (group_size n)) (sym c.in_ok-groups.ensures) (rows_filled (group_size n) m c.in_ok-group.group long),
      ap length c.in_ok-groups.ensures ∙ length-replicate m c.in_ok-group.group,
      omega (arith, c.if-count.false),
    )

pub returns : goal.returns
returns g c =
    let n = c.args.count in
    let m = n / 512 + 1 in
    let k = c.group_blocks.result in
    rw c.in_ok-new.ensures.ok
    (ap (λ gs. take n (flat gs)) c.in_ok-groups.ensures
    ∙ ap (λ x. take n (flat (replicate m x))) (c.in_ok-group.ensures ∙ ap (λ b. flat (replicate k b)) c.in_ok-block.ensures ∙ flat-replicate k 16 c.args.item ∙ ap (λ j. replicate j c.args.item) c.group_blocks.ensures.value)
    ∙ ap (take n) (flat-replicate m (group_size n) c.args.item) ∙ replicate_taken n (m * group_size n) c.args.item (enough n))
