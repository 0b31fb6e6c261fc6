use Rattle.std.proofs.Common.{◌≡◌, ℕ, ◌+◌, length, ap, arith}
use Rattle.std.specs.Arc.{arc_value}
use Rattle.pk_board.specs.Copies.{CopiesView}
use Rattle.pk_board.proofs.Starting.{long_more, all_more}
use Rattle.pk_board.proofs.copies.copied.Goals as goal

pub loop-made-preserved : goal.loop-made-preserved
loop-made-preserved g c = record {
  many = long_more c.loop-made.further.items c.push.new.self.items c.in_ok-clone.field-0 c.loop-made.made c.in_ok-push.ensures.items c.loop-made.invariant.many;
  same = all_more arc_value (arc_value c.args.cell) c.loop-made.further.items c.push.new.self.items c.in_ok-clone.field-0 c.in_ok-push.ensures.items c.in_ok-clone.ensures.cases c.loop-made.invariant.same;
}

pub returns : goal.returns
returns g c =
    let many : length c.loop-made.further.items + 1 ≡ c.args.count = omega (arith, c.loop-made.invariant.many, c.loop-made-test.false, c.loop-made.auto.made-end (omega (arith, c.requires))) in
    ap (λ (n : ℕ). let v : CopiesView g.row.C.Denot = record { element = c.args.element; cell = arc_value c.args.cell; count = n } in v) many
