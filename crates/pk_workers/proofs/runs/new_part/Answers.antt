use Rattle.std.proofs.Common.{◌≡◌, ◌<◌, length, map, sym, ap, subst, ◌∙◌, arith}
use Rattle.std.specs.Arc.{arc_value}
use Rattle.pk_plan.specs.Plans.{PlanView}
use Rattle.pk_iterate.specs.Behaviour.{HoldEach}
use Rattle.pk_iterate.specs.Laws.{CellsAreHeld}
use Rattle.pk_items.specs.Items.{points_in}
use Rattle.pk_layout.specs.Wirings.{IsWired}
use Rattle.pk_workers.proofs.Spending.{same_again}
use Rattle.pk_workers.proofs.Items.{last_more, point_at, points_held, is_part}
use Rattle.pk_workers.proofs.runs.new_part.Goals as goal

pub last_cell-requires-clause-point : goal.last_cell-requires-clause-point
last_cell-requires-clause-point g c κs within =
    let p = c.args.board.now.subject.wiring.plan in
    let e = c.args.hold.now.element in
    let at = c.loop-point.point-index in
    let points = c.deref-point-items.result.now in
    let wired = subst (λ s. IsWired (g.Y.System.meaning s.system) s.wiring) c.subject-2.ensures c.wired.ensures in
    let is : points ≡ points_in p e = c.deref-point-items.ensures.value ∙ c.in_ok-points.ensures ∙ ap (λ (q : PlanView). points_in q c.element.result) (c.plan.ensures ∙ ap (λ s. s.wiring.plan) c.subject-3.ensures) ∙ ap (points_in p) c.element.ensures in
    let in_range : at < length points = omega (arith, c.loop-point-test.true, c.loop-point.auto.point-index-end) in
    (point_at p e at points wired.axioms is in_range).0

pub last_cell-requires-clause-top : goal.last_cell-requires-clause-top
last_cell-requires-clause-top g c κs within =
    let p = c.args.board.now.subject.wiring.plan in
    let e = c.args.hold.now.element in
    let at = c.loop-point.point-index in
    let points = c.deref-point-items.result.now in
    let wired = subst (λ s. IsWired (g.Y.System.meaning s.system) s.wiring) c.subject-2.ensures c.wired.ensures in
    let is : points ≡ points_in p e = c.deref-point-items.ensures.value ∙ c.in_ok-points.ensures ∙ ap (λ (q : PlanView). points_in q c.element.result) (c.plan.ensures ∙ ap (λ s. s.wiring.plan) c.subject-3.ensures) ∙ ap (points_in p) c.element.ensures in
    let in_range : at < length points = omega (arith, c.loop-point-test.true, c.loop-point.auto.point-index-end) in
    (point_at p e at points wired.axioms is in_range).1

pub loop-point-preserved : goal.loop-point-preserved
loop-point-preserved g c =
    let p = c.args.board.now.subject.wiring.plan in
    let e = c.args.hold.now.element in
    let at = c.loop-point.point-index in
    let points = c.deref-point-items.result.now in
    let wired = subst (λ s. IsWired (g.Y.System.meaning s.system) s.wiring) c.subject-2.ensures c.wired.ensures in
    let is : points ≡ points_in p e = c.deref-point-items.ensures.value ∙ c.in_ok-points.ensures ∙ ap (λ (q : PlanView). points_in q c.element.result) (c.plan.ensures ∙ ap (λ s. s.wiring.plan) c.subject-3.ensures) ∙ ap (points_in p) c.element.ensures in
    let in_range : at < length points = omega (arith, c.loop-point-test.true, c.loop-point.auto.point-index-end) in
    let i = c.loop-point.invariant in
    let l = c.in_ok-last_cell.ensures in
    record {
      of_board = l.of_board ∙ i.of_board;
      tokens = same_again c.args.pass.now.view c.loop-point.pass.view c.last_cell.new.pass.view i.tokens l.tokens;
      cells = last_more (g.Y.System.meaning c.args.board.now.subject.system) p arc_value points at c.loop-point.cells.items c.push.new.self.items c.in_ok-last_cell.field-0 in_range i.cells c.in_ok-push.ensures.items l.last;
    }

pub part-requires : goal.part-requires
part-requires g c =
    let p = c.args.board.now.subject.wiring.plan in
    let e = c.args.hold.now.element in
    let at = c.loop-point.point-index in
    let points = c.deref-point-items.result.now in
    let wired = subst (λ s. IsWired (g.Y.System.meaning s.system) s.wiring) c.subject-2.ensures c.wired.ensures in
    let is : points ≡ points_in p e = c.deref-point-items.ensures.value ∙ c.in_ok-points.ensures ∙ ap (λ (q : PlanView). points_in q c.element.result) (c.plan.ensures ∙ ap (λ s. s.wiring.plan) c.subject-3.ensures) ∙ ap (points_in p) c.element.ensures in
    let all : length points ≡ at = omega (arith, c.loop-point-test.false, c.loop-point.auto.point-index-end) in
    let system = c.args.board.now.subject.system in
    let system_is : c.system-system.result.now ≡ system = c.system-system.ensures ∙ ap (λ s. s.system) c.subject.ensures in
    let points_is : c.deref.result.now ≡ points = c.deref.ensures.value ∙ sym c.deref-point-items.ensures.value in
    let cells_is : c.deref-2.result.now ≡ c.loop-point.cells.items = c.deref-2.ensures.value in
    let held = subst (λ y. CellsAreHeld (g.Y.System.meaning y) (g.Y.System.may_hold y)) system_is c.cells_are_held.ensures in
    let ends = c.ends.ensures in
    let here = points_held (g.Y.System.meaning system) (g.Y.System.may_hold system) p points at (map arc_value c.loop-point.cells.items) held ends all c.loop-point.invariant.cells in
    subst (λ y. HoldEach (g.Y.System.may_hold y) c.deref.result.now (map arc_value c.deref-2.result.now)) (sym system_is)
    (subst (λ xs. HoldEach (g.Y.System.may_hold system) xs (map arc_value c.deref-2.result.now)) (sym points_is)
    (subst (λ cs. HoldEach (g.Y.System.may_hold system) points (map arc_value cs)) (sym cells_is) here))

pub returns-clause-part : goal.returns-clause-part
returns-clause-part g c =
    let p = c.args.board.now.subject.wiring.plan in
    let e = c.args.hold.now.element in
    let at = c.loop-point.point-index in
    let points = c.deref-point-items.result.now in
    let wired = subst (λ s. IsWired (g.Y.System.meaning s.system) s.wiring) c.subject-2.ensures c.wired.ensures in
    let is : points ≡ points_in p e = c.deref-point-items.ensures.value ∙ c.in_ok-points.ensures ∙ ap (λ (q : PlanView). points_in q c.element.result) (c.plan.ensures ∙ ap (λ s. s.wiring.plan) c.subject-3.ensures) ∙ ap (points_in p) c.element.ensures in
    let all : length points ≡ at = omega (arith, c.loop-point-test.false, c.loop-point.auto.point-index-end) in
    let system = c.args.board.now.subject.system in
    let system_is : c.system-system.result.now ≡ system = c.system-system.ensures ∙ ap (λ s. s.system) c.subject.ensures in
    let points_is : c.deref.result.now ≡ points = c.deref.ensures.value ∙ sym c.deref-point-items.ensures.value in
    let cells_is : c.deref-2.result.now ≡ c.loop-point.cells.items = c.deref-2.ensures.value in
    is_part (g.Y.System.meaning system) p (g.Y.Parted.part_of system) e at points (map arc_value c.loop-point.cells.items) _ is all c.loop-point.invariant.cells
    (c.in_ok-new.ensures.ok ∙ c.in_ok-part.ensures ∙ (λ i. g.Y.Parted.part_of (system_is i) (points_is i) (map arc_value (cells_is i))))
