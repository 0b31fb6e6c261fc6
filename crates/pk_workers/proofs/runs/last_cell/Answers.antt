use Rattle.std.proofs.Common.{◌∙◌, sym, subst}
use Rattle.pk_layout.specs.Wirings.{IsWired}
use Rattle.pk_workers.proofs.Items.{is_member}
use Rattle.pk_workers.proofs.runs.last_cell.Goals as goal

pub peek-requires-clause-member : goal.peek-requires-clause-member
peek-requires-clause-member g c κs within =
    let p = c.args.board.now.subject.wiring.plan in
    let wired = subst (λ s. IsWired (g.Y.System.meaning s.system) s.wiring) c.subject.ensures c.wired.ensures in
    is_member p c.args.hold.now.element c.args.point wired.axioms c.requires.point c.requires.top (λ q. c.if-point-element.false (q ∙ sym c.element.ensures))
