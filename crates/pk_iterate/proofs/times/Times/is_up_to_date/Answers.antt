use Rattle.std.proofs.Common.{◌≡◌, ℕ, ◌<◌, ◌∙◌, get_or, length, sym, arith}
use Rattle.std.proofs.lemmas.List.{take_all, get_or_default}
use Rattle.std.proofs.lemmas.List.Elements.{All-more, All-same, All-get_or}
use Rattle.pk_iterate.proofs.times.Times.is_up_to_date.Goals as goal

pub loop-u-preserved : goal.loop-u-preserved
loop-u-preserved c =
    let changed = c.args.self.now.changed.items in
    let u : ℕ = get_or c.args.reads.now c.loop-u.u-index 0 in
    let below = All-get_or (λ (v : ℕ). v < length changed) c.args.reads.now c.loop-u.u-index 0 c.loop-u-test.true c.requires.reads in
    record {
      some = c.loop-u.invariant.some;
      before = All-more (λ (v : ℕ). get_or changed v 0 < c.index-made.result.now) c.args.reads.now c.loop-u.u-index 0 c.loop-u-test.true c.loop-u.invariant.before (omega (arith, get_or_default changed u 0 c.index.result.now below, c.index.ensures, c.if-index-made.false));
    }

pub returns : goal.returns
returns c =
    let made_is : get_or c.args.self.now.made.items c.args.e 0 ≡ c.index-made.result.now = get_or_default c.args.self.now.made.items c.args.e 0 c.index-made.result.now c.requires.element ∙ sym c.index-made.ensures in
    let all = take_all c.loop-u.u-index c.args.reads.now c.loop-u-test.false in
    λ is. rw made_is (c.loop-u.invariant.some, All-same (λ (v : ℕ). get_or c.args.self.now.changed.items v 0 < c.index-made.result.now) c.args.reads.now _ (sym all) c.loop-u.invariant.before)
