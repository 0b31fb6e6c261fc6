use Rattle.std.specs.Prelude.{◌+◌, ◌*◌, ◌^◌, ◌≤◌}
use Rattle.std.proofs.Common.{◌∙◌, arith, subst, sym}
use Rattle.pk_octmat.specs.Bounds.{IsNear}
use Rattle.pk_octmat.specs.Half.{kept_at}
use Rattle.pk_octpoints.proofs.Near.{near_more}
use Rattle.pk_octclose.specs.After.{line_through}
use Rattle.pk_octclose.proofs.Lined.{line_near, line_none}
use Rattle.pk_octclose.proofs.Lowered.{in_line}
use Rattle.pk_octclose.proofs.after.lower_lines.Goals as goal

pub loop-a-init : goal.loop-a-init
loop-a-init g c = record { line = record { size = c.requires.own; done = λ b bd. c.requires.copied b bd ∙ sym (line_none (kept_at c.args.d c.args.cells.now) c.args.r b) }; steps = omega arith }

pub lower_line-requires-clause-first : goal.lower_line-requires-clause-first
lower_line-requires-clause-first g c =
    let far : c.loop-a.a * 2 ^ 58 + 2 ^ 58 ≤ 2 ^ 100 = omega (arith, c.loop-a-test.true, c.requires.few) in
    subst (λ o. IsNear (2 ^ 100) o) (sym (c.loop-a.invariant.line.done c.loop-a.a c.loop-a-test.true))
    (near_more (c.loop-a.a * 2 ^ 58 + 2 ^ 58) (2 ^ 100) (line_through (kept_at c.args.d c.args.cells.now) c.args.r c.loop-a.a c.loop-a.a) far
    (line_near (kept_at c.args.d c.args.cells.now) c.args.r c.loop-a.a c.loop-a.a (λ i j w. c.requires.near i j)))

pub lower_line-requires-clause-then : goal.lower_line-requires-clause-then
lower_line-requires-clause-then g c = λ n b bd. near_more (2 ^ 58) (2 ^ 100) (kept_at c.args.d c.args.cells.now c.loop-a.a b) (omega arith) (c.requires.near c.loop-a.a b)

pub loop-a-preserved : goal.loop-a-preserved
loop-a-preserved g c = record {
  line = in_line _ _ _ _ _ _ c.loop-a.invariant.line c.loop-a-test.true c.lower_line.ensures.own c.lower_line.ensures.lowered c.lower_line.ensures.stays;
  steps = omega (arith, c.loop-a.invariant.steps, c.lower_line.ensures.steps);
}
