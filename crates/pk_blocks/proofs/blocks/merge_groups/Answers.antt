use Rattle.std.proofs.Common.{◌≡◌, ◌∙◌, ◌*◌, ◌/◌, ◌%◌, ◌^◌, ◌+◌, ◌<◌, ◌≤◌, ℕ, length, arith, sym, subst}
use Rattle.std.proofs.Math.Nat.{le_antisymm}
use Rattle.pk_blocks.specs.Rows.{below, group_size}
use Rattle.pk_blocks.proofs.Flat.{merged_row, merged_none, merged_all, row_long, begins, most}
use Rattle.pk_blocks.proofs.blocks.merge_groups.Goals as goal

room_of : (n k l : ℕ) → k < n / 512 + 1 → n < 2 ^ 60 → l ≤ 512 → k * 512 + l < 2 ^ 62
room_of n k l p q r = omega arith

place_of : (k : ℕ) → k * 512 % 16 ≡ 0
place_of k = omega arith

pub loop-k-init : goal.loop-k-init
loop-k-init g c = rw c.in_ok-out.ensures.items (merged_none (group_size c.args.size) (below c.args.limit (g.M.Merge.merged c.args.by.now)) 0 c.args.a.now c.args.b.now)

pub merge-requires-clause-count : goal.merge-requires-clause-count
merge-requires-clause-count g c =
    let k = c.loop-k.k in
    let there : k < length c.args.b.now = subst (λ m. k < m) (c.requires.count ∙ sym c.requires.counted) c.loop-k-test.true in
    row_long (group_size c.args.size) c.args.a.now k c.index-a-k.result c.requires.rows c.loop-k-test.true c.index-a-k.is
    ∙ sym (row_long (group_size c.args.size) c.args.b.now k c.index-b-k.result c.requires.others there c.index-b-k.is)

pub merge-requires-clause-room : goal.merge-requires-clause-room
merge-requires-clause-room g c =
    let k = c.loop-k.k in
    let long = row_long (group_size c.args.size) c.args.a.now k c.index-a-k.result c.requires.rows c.loop-k-test.true c.index-a-k.is in
    room_of c.args.size k (length c.index-a-k.result) (subst (λ m. k < m) c.requires.count c.loop-k-test.true) c.requires.room (subst (λ m. m ≤ 512) (sym long) (most c.args.size))

pub merge-requires-clause-place : goal.merge-requires-clause-place
merge-requires-clause-place g c = place_of c.loop-k.k

pub loop-k-preserved : goal.loop-k-preserved
loop-k-preserved g c =
    let k = c.loop-k.k in
    let here : k < length c.args.a.now = c.loop-k-test.true in
    let there : k < length c.args.b.now = subst (λ m. k < m) (c.requires.count ∙ sym c.requires.counted) here in
    let group : k < c.args.size / 512 + 1 = subst (λ m. k < m) c.requires.count here in
    rw c.in_ok-push.ensures.items
    (merged_row (group_size c.args.size) (below c.args.limit (g.M.Merge.merged c.args.by.now)) 0 (k * 512) k c.loop-k.out.items c.args.a.now c.args.b.now c.index-a-k.result c.index-b-k.result c.in_ok-pair.pair.0 c.loop-k.invariant c.requires.rows c.requires.others here there c.index-a-k.is c.index-b-k.is (begins c.args.size k group) c.in_ok-pair.ensures.value)

pub returns-clause-value : goal.returns-clause-value
returns-clause-value g c =
    let k = c.loop-k.k in
    merged_all (group_size c.args.size) (below c.args.limit (g.M.Merge.merged c.args.by.now)) 0 k c.loop-k.out.items c.args.a.now c.args.b.now c.loop-k.invariant c.loop-k-test.false (subst (λ m. m ≤ k) (c.requires.count ∙ sym c.requires.counted) c.loop-k-test.false)

pub returns-clause-rows : goal.returns-clause-rows
returns-clause-rows g c = c.loop-k.invariant.rows

pub returns-clause-count : goal.returns-clause-count
returns-clause-count g c = c.loop-k.invariant.count ∙ le_antisymm c.loop-k.auto.k-end c.loop-k-test.false
