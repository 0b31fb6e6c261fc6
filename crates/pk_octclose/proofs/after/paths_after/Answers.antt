use Rattle.std.specs.Prelude.{◌*◌, ◌+◌, ◌/◌, ◌^◌}
use Rattle.std.proofs.Common.{arith, refl}
use Rattle.pk_octmat.specs.Half.{kept_at, unfolded}
use Rattle.pk_octpoints.proofs.Near.{near_more}
use Rattle.pk_octclose.proofs.Lengths.{through_near}
use Rattle.pk_octclose.proofs.Lined.{Beside, With, all_through, lined_from, with_place}
use Rattle.pk_octclose.proofs.Sums.{least_from}
use Rattle.pk_octclose.proofs.Twice.{short_cycle}
use Rattle.pk_octclose.proofs.Walks.{Below}
use Rattle.pk_octclose.proofs.after.paths_after.Goals as goal

pub pivot-requires-clause-zero : goal.pivot-requires-clause-zero
pivot-requires-clause-zero g c = (lined_from c.args.d (c.args.p / 2) (unfolded c.args.d c.args.cells.now) (unfolded c.args.d c.lower_pair.new.cells) c.requires.whole.whole c.requires.pairs c.requires.closed c.requires.small (c.if-not-lower_pair.ensures.diagonal refl) (c.if-not-lower_pair.ensures.lowered refl)).zero

pub pivot-requires-clause-near : goal.pivot-requires-clause-near
pivot-requires-clause-near g c = λ i j id jd.
    near_more (c.args.d * 2 ^ 58 + 2 ^ 58) (2 ^ 99) (kept_at c.args.d c.lower_pair.new.cells i j) (omega (arith, c.requires.room))
    (through_near c.args.d (kept_at c.args.d c.args.cells.now) (kept_at c.args.d c.lower_pair.new.cells) (Beside c.args.d (c.args.p / 2)) (2 ^ 58) (lined_from c.args.d (c.args.p / 2) (unfolded c.args.d c.args.cells.now) (unfolded c.args.d c.lower_pair.new.cells) c.requires.whole.whole c.requires.pairs c.requires.closed c.requires.small (c.if-not-lower_pair.ensures.diagonal refl) (c.if-not-lower_pair.ensures.lowered refl)) (λ q b. b.0) c.requires.small i j id jd)

pub returns-clause-cycle : goal.returns-clause-cycle
returns-clause-cycle g c = λ e.
    short_cycle c.args.d (kept_at c.args.d c.args.cells.now) (kept_at c.args.d c.lower_pair.new.cells) c.args.p (Beside c.args.d (c.args.p / 2)) (With (Beside c.args.d (c.args.p / 2)) c.args.p) (lined_from c.args.d (c.args.p / 2) (unfolded c.args.d c.args.cells.now) (unfolded c.args.d c.lower_pair.new.cells) c.requires.whole.whole c.requires.pairs c.requires.closed c.requires.small (c.if-not-lower_pair.ensures.diagonal refl) (c.if-not-lower_pair.ensures.lowered refl)) (with_place (Beside c.args.d (c.args.p / 2)) c.args.p) c.requires.place (c.pivot.ensures.no e)

pub returns-clause-least : goal.returns-clause-least
returns-clause-least g c = λ e.
    let u = all_through c.args.d c.args.p (kept_at c.args.d c.args.cells.now) (kept_at c.args.d c.lower_pair.new.cells) (kept_at c.args.d c.pivot.new.cells) c.requires.even c.requires.place (lined_from c.args.d (c.args.p / 2) (unfolded c.args.d c.args.cells.now) (unfolded c.args.d c.lower_pair.new.cells) c.requires.whole.whole c.requires.pairs c.requires.closed c.requires.small (c.if-not-lower_pair.ensures.diagonal refl) (c.if-not-lower_pair.ensures.lowered refl)) (c.pivot.ensures.lowered e) (c.pivot.ensures.yes e) in
    least_from c.args.d (unfolded c.args.d c.args.cells.now) (kept_at c.args.d c.pivot.new.cells) c.args.d u (omega arith) (omega arith)

pub returns-clause-near : goal.returns-clause-near
returns-clause-near g c = λ e i j id jd.
    let u = all_through c.args.d c.args.p (kept_at c.args.d c.args.cells.now) (kept_at c.args.d c.lower_pair.new.cells) (kept_at c.args.d c.pivot.new.cells) c.requires.even c.requires.place (lined_from c.args.d (c.args.p / 2) (unfolded c.args.d c.args.cells.now) (unfolded c.args.d c.lower_pair.new.cells) c.requires.whole.whole c.requires.pairs c.requires.closed c.requires.small (c.if-not-lower_pair.ensures.diagonal refl) (c.if-not-lower_pair.ensures.lowered refl)) (c.pivot.ensures.lowered e) (c.pivot.ensures.yes e) in
    near_more (c.args.d * 2 ^ 58 + 2 ^ 58) (2 ^ 100) (kept_at c.args.d c.pivot.new.cells i j) (omega (arith, c.requires.room))
    (through_near c.args.d (kept_at c.args.d c.args.cells.now) (kept_at c.args.d c.pivot.new.cells) (Below c.args.d) (2 ^ 58) u (λ q b. b) c.requires.small i j id jd)
