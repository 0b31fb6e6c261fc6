use Rattle.std.specs.Prelude.{◌^◌, ◌/◌, ◌+◌, ◌≡◌}
use Rattle.std.proofs.Common.{◌∙◌, arith, refl, subst, sym}
use Rattle.pk_octmat.specs.Bounds.{IsNear}
use Rattle.pk_octclose.proofs.Rows.{rows_more, rows_none, rows_own}
use Rattle.pk_octclose.proofs.paths.lower_rows.Goals as goal

pub loop-i-init : goal.loop-i-init
loop-i-init g c = record { rows = rows_none c.args.d c.args.p c.args.cells.now c.requires.size; steps = omega arith }

pub lower_over-requires-clause-one : goal.lower_over-requires-clause-one
lower_over-requires-clause-one g c = λ b bd. subst (λ o. IsNear (2 ^ 100) o) (sym (rows_own _ _ _ _ _ c.requires.pairs c.loop-i.invariant.rows c.args.p b refl)) (c.requires.one b bd)

pub lower_over-requires-clause-two : goal.lower_over-requires-clause-two
lower_over-requires-clause-two g c = λ b bd.
    let next : (c.args.p + 1) / 2 ≡ c.args.p / 2 = omega (arith, c.requires.even) in
    subst (λ o. IsNear (2 ^ 100) o) (sym (rows_own _ _ _ _ _ c.requires.pairs c.loop-i.invariant.rows (c.args.p + 1) b next)) (c.requires.two b bd)

pub lower_over-requires-clause-copied : goal.lower_over-requires-clause-copied
lower_over-requires-clause-copied g c = λ few b bd. c.requires.copied few b bd ∙ sym (rows_own _ _ _ _ _ c.requires.pairs c.loop-i.invariant.rows c.args.p b refl)

pub lower_over-requires-clause-copied_two : goal.lower_over-requires-clause-copied_two
lower_over-requires-clause-copied_two g c = λ few b bd.
    let next : (c.args.p + 1) / 2 ≡ c.args.p / 2 = omega (arith, c.requires.even) in
    c.requires.copied_two few b bd ∙ sym (rows_own _ _ _ _ _ c.requires.pairs c.loop-i.invariant.rows (c.args.p + 1) b next)

pub loop-i-preserved : goal.loop-i-preserved
loop-i-preserved g c = record {
  rows = rows_more _ _ _ _ _ _ c.requires.pairs c.loop-i.invariant.rows c.requires.even c.lower_over.ensures.kept c.lower_over.ensures.lowered c.lower_over.ensures.others;
  steps = omega (arith, c.loop-i.invariant.steps, c.lower_over.ensures.steps);
}

pub returns-clause-own : goal.returns-clause-own
returns-clause-own g c = rows_own _ _ _ _ _ c.requires.pairs c.loop-i.invariant.rows
