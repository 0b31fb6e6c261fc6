use Rattle.pk_octmat.specs.Half.{kept_at}
use Rattle.std.specs.Prelude.{◌≡◌, ◌+◌, ◌/◌}
use Rattle.std.proofs.Common.{◌∙◌, arith, refl, sym}
use Rattle.pk_octclose.specs.Walks.{relaxed}
use Rattle.pk_octmat.proofs.Pair.{pair_more, pair_none}
use Rattle.pk_octclose.proofs.Rows.{joined, kept_more, kept_none}
use Rattle.pk_octclose.proofs.Twice.{near_from}
use Rattle.pk_octclose.proofs.paths.join_rows.Goals as goal

pub loop-j-init : goal.loop-j-init
loop-j-init g c = record {
  there = c.cell-there.ensures;
  back = c.cell-back.ensures;
  rows = pair_none c.args.d c.args.p (relaxed (kept_at c.args.d c.args.cells.now) (c.args.p + 1) c.args.p) (relaxed (kept_at c.args.d c.args.cells.now) c.args.p (c.args.p + 1)) c.args.cells.now c.requires.size;
  first = kept_none c.args.d (relaxed (kept_at c.args.d c.args.cells.now) (c.args.p + 1) c.args.p) c.args.first.now c.requires.own;
  second = kept_none c.args.d (relaxed (kept_at c.args.d c.args.cells.now) c.args.p (c.args.p + 1)) c.args.second.now c.requires.own_two;
  steps = omega arith;
}

pub plus-requires-clause-left : goal.plus-requires-clause-left
plus-requires-clause-left g c = near_from _ _ c.loop-j.invariant.there (c.requires.near c.args.p (c.args.p + 1) (omega arith) c.requires.place)

pub plus-requires-clause-right : goal.plus-requires-clause-right
plus-requires-clause-right g c =
    let next : (c.args.p + 1) / 2 ≡ c.args.p / 2 = omega (arith, c.requires.even) in
    near_from _ _ (c.cell-from_other.ensures ∙ c.loop-j.invariant.rows.own (c.args.p + 1) c.loop-j.j next (omega arith)) (c.requires.near (c.args.p + 1) c.loop-j.j c.requires.place c.loop-j-test.true)

pub plus-requires-in-loop-j-clause-left : goal.plus-requires-in-loop-j-clause-left
plus-requires-in-loop-j-clause-left g c = near_from _ _ c.loop-j.invariant.back (c.requires.near (c.args.p + 1) c.args.p c.requires.place (omega arith))

pub plus-requires-in-loop-j-clause-right : goal.plus-requires-in-loop-j-clause-right
plus-requires-in-loop-j-clause-right g c =
    near_from _ _ (c.cell-from.ensures ∙ c.loop-j.invariant.rows.own c.args.p c.loop-j.j refl (omega arith)) (c.requires.near c.args.p c.loop-j.j (omega arith) c.loop-j-test.true)

pub loop-j-preserved : goal.loop-j-preserved
loop-j-preserved g c =
    let next : (c.args.p + 1) / 2 ≡ c.args.p / 2 = omega (arith, c.requires.even) in
    let first = c.cell-from.ensures ∙ c.loop-j.invariant.rows.own c.args.p c.loop-j.j refl (omega arith) in
    let second = c.cell-from_other.ensures ∙ c.loop-j.invariant.rows.own (c.args.p + 1) c.loop-j.j next (omega arith) in
    let lowered = joined _ _ _ _ _ _ _ _ c.lower_to-lowered.ensures.value c.plus.ensures first c.loop-j.invariant.there second in
    let other = joined _ _ _ _ _ _ _ _ c.lower_to-other.ensures.value c.plus-in-loop-j.ensures second c.loop-j.invariant.back first in
    record {
      there = c.loop-j.invariant.there;
      back = c.loop-j.invariant.back;
      rows =
          pair_more c.args.d c.args.p c.loop-j.j _ _ c.args.cells.now c.loop-j.cells c.write_pair.new.cells c.loop-j.invariant.rows c.write_pair.ensures.kept
          (c.write_pair.ensures.first ∙ lowered)
          (c.write_pair.ensures.second ∙ other) c.requires.even c.write_pair.ensures.own c.write_pair.ensures.others;
      first = kept_more _ _ _ _ _ _ c.loop-j.invariant.first c.keep.ensures.own c.keep.ensures.here c.keep.ensures.others lowered;
      second = kept_more _ _ _ _ _ _ c.loop-j.invariant.second c.keep-in-loop-j.ensures.own c.keep-in-loop-j.ensures.here c.keep-in-loop-j.ensures.others other;
      steps = omega (arith, c.loop-j.invariant.steps, c.lower_to-lowered.ensures.steps, c.lower_to-other.ensures.steps);
    }

pub returns-clause-copied : goal.returns-clause-copied
returns-clause-copied g c = λ few b bd. c.loop-j.invariant.first.done few b (omega (arith, bd, c.loop-j-test.false)) ∙ sym (c.loop-j.invariant.rows.first b (omega (arith, bd, c.loop-j-test.false)) bd)

pub returns-clause-copied_two : goal.returns-clause-copied_two
returns-clause-copied_two g c = λ few b bd. c.loop-j.invariant.second.done few b (omega (arith, bd, c.loop-j-test.false)) ∙ sym (c.loop-j.invariant.rows.second b (omega (arith, bd, c.loop-j-test.false)) bd)
