use Rattle.std.proofs.Common.{◌≡◌, sym, ap, ◌∙◌}
use Rattle.pk_board.proofs.Asking.{at_board}
use Rattle.pk_board.proofs.Item_places.{exit_from, vertex_from}
use Rattle.pk_board.proofs.boards.Board.item_start.Goals as goal

pub returns-then-is_exit : goal.returns-then-is_exit
returns-then-is_exit g c =
    let p = c.args.self.now.subject.wiring.plan in
    let kept = at_board g.Y.System.meaning c.args.self.now c.self.inside.subject c.self.inside.table.shared.key c.self.inside.table.shared.table_id c.self.view_is c.self.invariant.kept in
    let plan : c.plan-plan.result.now ≡ p = c.plan-plan.ensures ∙ ap (λ b. b.subject.wiring.plan) c.self.view_is in
    exit_from p c.plan-plan.result.now c.args.last c.component_of.result.now kept.wired.axioms c.requires plan (sym c.if-is_exit.ensures) c.component_of.ensures.component

pub returns-else-is_exit : goal.returns-else-is_exit
returns-else-is_exit g c =
    let p = c.args.self.now.subject.wiring.plan in
    let kept = at_board g.Y.System.meaning c.args.self.now c.self.inside.subject c.self.inside.table.shared.key c.self.inside.table.shared.table_id c.self.view_is c.self.invariant.kept in
    let plan : c.plan-plan.result.now ≡ p = c.plan-plan.ensures ∙ ap (λ b. b.subject.wiring.plan) c.self.view_is in
    vertex_from p c.plan-plan.result.now c.args.last c.place.result kept.wired.axioms c.requires plan (sym c.if-is_exit.ensures) c.place.ensures
