use Rattle.std.specs.Prelude.{◌/◌, ◌^◌, None}
use Rattle.std.proofs.Common.{arith, get_or, refl, subst, sym}
use Rattle.pk_octmat.specs.Bounds.{IsNear}
use Rattle.pk_octmat.specs.Half.{kept_at}
use Rattle.pk_octpoints.proofs.Near.{near_more}
use Rattle.pk_octclose.proofs.Lined.{own_none}
use Rattle.pk_octclose.proofs.Lowered.{in_own}
use Rattle.pk_octclose.proofs.after.lower_owns.Goals as goal

pub loop-a-init : goal.loop-a-init
loop-a-init g c = record { line = record { size = c.requires.own; done = λ s h. sym (own_none (kept_at c.args.d c.args.cells.now) (λ b. get_or c.args.line.now b None) (c.args.r / 2) s); rest = λ b n. refl }; steps = omega arith }

pub lower_own-requires-clause-first : goal.lower_own-requires-clause-first
lower_own-requires-clause-first g c = λ n. subst (λ o. IsNear (2 ^ 100) o) (sym (c.loop-a.invariant.line.rest c.loop-a.a n)) (c.requires.first c.loop-a.a c.loop-a-test.true)

pub lower_own-requires-clause-then : goal.lower_own-requires-clause-then
lower_own-requires-clause-then g c = λ n b bd. near_more (2 ^ 58) (2 ^ 100) (kept_at c.args.d c.args.cells.now c.loop-a.a b) (omega arith) (c.requires.near c.loop-a.a b)

pub loop-a-preserved : goal.loop-a-preserved
loop-a-preserved g c = record {
  line = in_own _ _ _ _ _ _ _ c.loop-a.invariant.line c.lower_own.ensures.own c.lower_own.ensures.lowered c.lower_own.ensures.others c.lower_own.ensures.stays;
  steps = omega (arith, c.loop-a.invariant.steps, c.lower_own.ensures.steps);
}
