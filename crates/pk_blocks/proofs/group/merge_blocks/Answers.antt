use Rattle.std.proofs.Common.{◌∙◌, ◌≡◌, ◌+◌, ◌*◌, ◌%◌, ◌^◌, ◌<◌, ◌≤◌, ℕ, length, sym, subst, arith, refl}
use Rattle.std.proofs.lemmas.List.{take_all}
use Rattle.pk_blocks.specs.Rows.{below}
use Rattle.pk_blocks.proofs.Merging.{never}
use Rattle.pk_blocks.proofs.Flat.{row_long, merged_row, kept_row, merged_none, merged_all}
use Rattle.pk_blocks.proofs.group.merge_blocks.Goals as goal
use Rattle.pk_blocks.proofs.group.merge_blocks.Goals.{then-same, else-same}

pub merge_block-requires-clause-left : goal.merge_block-requires-clause-left
merge_block-requires-clause-left g c = row_long 16 c.args.a.now c.loop-k.k c.index-a-k.result c.requires.rows c.loop-k-test.true c.index-a-k.is

pub merge_block-requires-clause-right : goal.merge_block-requires-clause-right
merge_block-requires-clause-right g c = row_long 16 c.args.b.now c.loop-k.k c.index-b-k.result c.requires.others (subst (λ n. c.loop-k.k < n) c.requires.count c.loop-k-test.true) c.index-b-k.is

pub loop-k-preserved : goal.loop-k-preserved
loop-k-preserved g c =
    let k = c.loop-k.k in
    let here : k < length c.args.a.now = c.loop-k-test.true in
    let there : k < length c.args.b.now = subst (λ n. k < n) c.requires.count here in
    rw c.in_ok-push.ensures.items (
      merged_row 16 (below c.args.limit (g.M.Merge.merged c.args.by.now)) c.args.from (c.args.from + k * 16) k c.loop-k.out.items c.args.a.now c.args.b.now c.index-a-k.result c.index-b-k.result c.in_ok-pair.pair.0 c.loop-k.invariant.0 c.requires.rows c.requires.others here there c.index-a-k.is c.index-b-k.is refl c.in_ok-pair.ensures.value,
      λ e. elim c.if-same.branch [
        | then-same w ↦ kept_row k c.loop-k.out.items c.args.a.now c.index-a-k.result c.in_ok-pair.pair.0 (c.loop-k.invariant.1 w.if-same.true) here c.index-a-k.is (c.in_ok-pair.ensures.same (sym w.same-is ∙ e))
        | else-same w ↦ absurd (never c.loop-k.same w.if-same.false (sym w.same-is ∙ e))
      ],
    )

room_of : (from k n : ℕ) → k < n → from + n * 16 < 2 ^ 62 → from + k * 16 + 16 < 2 ^ 62
room_of from k n h r = omega arith

place_of : (from k : ℕ) → from % 16 ≡ 0 → (from + k * 16) % 16 ≡ 0
place_of from k h = omega arith

pub loop-k-init : goal.loop-k-init
loop-k-init g c = rw c.in_ok-out.ensures.items (merged_none 16 (below c.args.limit (g.M.Merge.merged c.args.by.now)) c.args.from c.args.a.now c.args.b.now, λ e. refl)

pub merge_block-requires-clause-room : goal.merge_block-requires-clause-room
merge_block-requires-clause-room g c = room_of c.args.from c.loop-k.k (length c.args.a.now) c.loop-k-test.true c.requires.room

pub merge_block-requires-clause-place : goal.merge_block-requires-clause-place
merge_block-requires-clause-place g c = place_of c.args.from c.loop-k.k c.requires.place

pub returns-clause-value : goal.returns-clause-value
returns-clause-value g c =
    let k = c.loop-k.k in
    merged_all 16 (below c.args.limit (g.M.Merge.merged c.args.by.now)) c.args.from k c.loop-k.out.items c.args.a.now c.args.b.now c.loop-k.invariant.0 c.loop-k-test.false (subst (λ n. n ≤ k) c.requires.count c.loop-k-test.false)

pub returns-clause-rows : goal.returns-clause-rows
returns-clause-rows g c = c.loop-k.invariant.0.rows

pub returns-clause-same : goal.returns-clause-same
returns-clause-same g c = λ e. c.loop-k.invariant.1 e ∙ take_all c.loop-k.k c.args.a.now c.loop-k-test.false
