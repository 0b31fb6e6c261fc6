use Rattle.std.specs.Prelude.{◌+◌, ◌*◌, ◌/◌, ◌^◌}
use Rattle.std.proofs.Common.{◌∙◌, refl, subst, sym}
use Rattle.pk_octmat.specs.Bounds.{IsNear}
use Rattle.pk_octclose.proofs.Rows.{before_start, from_start, part_stays, row_apart, row_apart_others}
use Rattle.pk_octclose.proofs.paths.lower_row.Goals as goal

pub lower_part-requires-2-clause-then : goal.lower_part-requires-2-clause-then
lower_part-requires-2-clause-then g c = λ b bd.
    subst (λ o. IsNear (2 ^ 100) o)
    (sym (part_stays c.args.d c.args.p c.args.k c.args.i c.lesser_of.result c.args.cells.now c.lower_part.new.cells c.requires.pairs c.requires.even c.requires.variable c.requires.apart c.lesser_of.ensures.right (λ a b low w. c.lower_part.ensures.others a b low (from_start a c.args.i b c.lesser_of.result w)) b))
    (c.requires.then b bd)

pub lower_part-requires-2-clause-copied : goal.lower_part-requires-2-clause-copied
lower_part-requires-2-clause-copied g c = λ few b bd.
    c.requires.copied few b bd
    ∙ sym (part_stays c.args.d c.args.p c.args.k c.args.i c.lesser_of.result c.args.cells.now c.lower_part.new.cells c.requires.pairs c.requires.even c.requires.variable c.requires.apart c.lesser_of.ensures.right (λ a b low w. c.lower_part.ensures.others a b low (from_start a c.args.i b c.lesser_of.result w)) b)

pub returns-clause-lowered : goal.returns-clause-lowered
returns-clause-lowered g c =
    row_apart c.args.d c.args.p c.args.k c.args.i c.lesser_of.result (c.args.i / 2 * 2 + 2) c.args.cells.now c.lower_part.new.cells c.lower_part-2.new.cells c.args.first c.requires.pairs c.requires.even c.requires.variable c.requires.apart refl
    c.lesser_of.ensures.left c.lesser_of.ensures.right c.lesser_of.ensures.one c.lower_part.ensures.lowered (λ a b low w. c.lower_part.ensures.others a b low (from_start a c.args.i b c.lesser_of.result w)) c.lower_part-2.ensures.lowered (λ a b low w. c.lower_part-2.ensures.others a b low (before_start a c.args.i b (c.args.p + 2) (c.args.i / 2 * 2 + 2) w))

pub returns-clause-others : goal.returns-clause-others
returns-clause-others g c =
    row_apart_others c.args.d c.args.p c.args.i c.lesser_of.result (c.args.i / 2 * 2 + 2) c.args.cells.now c.lower_part.new.cells c.lower_part-2.new.cells c.requires.even c.lesser_of.ensures.right (λ a b low w. c.lower_part.ensures.others a b low (from_start a c.args.i b c.lesser_of.result w)) (λ a b low w. c.lower_part-2.ensures.others a b low (before_start a c.args.i b (c.args.p + 2) (c.args.i / 2 * 2 + 2) w))
