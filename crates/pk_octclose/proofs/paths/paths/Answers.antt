use Rattle.std.specs.Prelude.{◌≡◌, ◌+◌, ◌*◌, ◌^◌}
use Rattle.std.proofs.Common.{arith, refl, subst}
use Rattle.pk_octmat.specs.Half.{kept_at, unfolded}
use Rattle.pk_octclose.proofs.Walks.{Below, Through, below_with, through_none}
use Rattle.pk_octclose.proofs.Sums.{least_from, room_near}
use Rattle.pk_octpoints.proofs.Near.{near_more}
use Rattle.pk_octclose.proofs.Twice.{short_cycle, through_pair}
use Rattle.pk_octclose.proofs.paths.paths.Goals as goal

pub loop-k-init : goal.loop-k-init
loop-k-init g c = record {
  size = c.requires.size;
  first = refl;
  second = refl;
  through = through_none c.args.d (kept_at c.args.d c.args.cells.now) (Below (2 * 0)) (λ p h. omega arith) c.requires.zero;
}

pub pivot-requires-clause-near : goal.pivot-requires-clause-near
pivot-requires-clause-near g c = room_near _ _ _ _ c.loop-k.invariant.through (omega arith) c.requires.room c.requires.near

pub returns-then-not-pivot-clause-cycle : goal.returns-then-not-pivot-clause-cycle
returns-then-not-pivot-clause-cycle g c = λ e. short_cycle _ _ _ _ _ _ c.loop-k.invariant.through (below_with (2 * c.loop-k.k)) (omega arith) (c.if-not-pivot.ensures.no refl)

pub loop-k-preserved : goal.loop-k-preserved
loop-k-preserved g c =
    let next : 2 * c.loop-k.k + 1 + 1 ≡ 2 * (c.loop-k.k + 1) = omega arith in
    record {
      size = c.pivot.ensures.kept;
      first = c.pivot.ensures.own;
      second = c.pivot.ensures.own_two;
      through =
          subst (λ n. Through c.args.d (kept_at c.args.d c.args.cells.now) (kept_at c.args.d c.pivot.new.cells) (Below n)) next
          (through_pair _ _ _ _ _ _ _ _ c.loop-k.invariant.through (below_with (2 * c.loop-k.k)) (below_with (2 * c.loop-k.k + 1)) (omega arith) (c.if-not-pivot.ensures.lowered refl) (c.if-not-pivot.ensures.yes refl));
    }

pub returns-clause-least : goal.returns-clause-least
returns-clause-least g c = λ e. least_from c.args.d (unfolded c.args.d c.args.cells.now) (kept_at c.args.d c.loop-k.cells) (2 * c.loop-k.k) c.loop-k.invariant.through (omega arith) (omega arith)

pub returns-clause-near : goal.returns-clause-near
returns-clause-near g c = λ e i j id jd.
    near_more (2 ^ 99) (2 ^ 100) _ (omega arith) (room_near _ _ _ _ c.loop-k.invariant.through (omega arith) c.requires.room c.requires.near i j id jd)
