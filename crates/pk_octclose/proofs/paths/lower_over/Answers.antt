use Rattle.std.specs.Prelude.{◌≡◌, ◌+◌, ◌/◌, ◌^◌}
use Rattle.std.proofs.Common.{◌∙◌, ap, arith, subst, sym}
use Rattle.pk_octmat.specs.Bounds.{IsNear}
use Rattle.pk_octmat.specs.Half.{kept_at}
use Rattle.pk_octclose.proofs.Rows.{other_row, own_stays, row_twice}
use Rattle.pk_octclose.proofs.paths.lower_over.Goals as goal

pub lower_row-requires-2-clause-then : goal.lower_row-requires-2-clause-then
lower_row-requires-2-clause-then g c = λ b bd.
    let next : (c.args.p + 1) / 2 ≡ c.args.p / 2 = omega (arith, c.requires.even) in
    subst (λ o. IsNear (2 ^ 100) o) (sym (own_stays c.args.d c.args.p c.args.i c.args.cells.now c.lower_row.new.cells c.requires.pairs c.if-i-p.false c.lower_row.ensures.others (c.args.p + 1) b next)) (c.requires.two b bd)

pub lower_row-requires-2-clause-copied : goal.lower_row-requires-2-clause-copied
lower_row-requires-2-clause-copied g c = λ few b bd.
    let next : (c.args.p + 1) / 2 ≡ c.args.p / 2 = omega (arith, c.requires.even) in
    c.requires.copied_two few b bd ∙ sym (own_stays c.args.d c.args.p c.args.i c.args.cells.now c.lower_row.new.cells c.requires.pairs c.if-i-p.false c.lower_row.ensures.others (c.args.p + 1) b next)

pub returns-clause-lowered : goal.returns-clause-lowered
returns-clause-lowered g c = λ n.
    row_twice c.args.d c.args.p c.args.i c.args.cells.now c.lower_row.new.cells c.lower_row-2.new.cells c.row_bound-to_first.result c.row_bound-to_second.result c.requires.pairs n c.requires.even
    (c.row_bound-to_first.ensures ∙ ap (λ k. kept_at c.args.d c.args.cells.now (c.args.p + 1) k) c.bar.ensures) (c.row_bound-to_second.ensures ∙ ap (λ k. kept_at c.args.d c.args.cells.now c.args.p k) c.bar-2.ensures)
    c.lower_row.ensures.lowered c.lower_row.ensures.others c.lower_row-2.ensures.lowered

pub returns-clause-others : goal.returns-clause-others
returns-clause-others g c = λ a b low w. c.lower_row-2.ensures.others a b low (other_row a b c.args.i c.args.p c.if-i-p.false w) ∙ c.lower_row.ensures.others a b low (other_row a b c.args.i c.args.p c.if-i-p.false w)
