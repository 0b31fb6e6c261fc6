use Rattle.std.specs.Prelude.{ℕ, ◌<◌, ◌%◌, ◌*◌}
use Rattle.std.proofs.Common.{ap, arith, ◌∙◌, ◌≡◌, to_z, of_z}
use Rattle.std.specs.Int.{w128}
use Rattle.std.proofs.lemmas.Int.{to_z-of_z}
use Rattle.pk_octmat.specs.Half.{kept_at}
use Rattle.pk_octmat.proofs.Pair.{pair_more, pair_none}
use Rattle.pk_octops.specs.Assigns.{moved}
use Rattle.pk_octops.proofs.Along.{moved_half}
use Rattle.pk_octops.proofs.Crossed.{crossed_all}
use Rattle.pk_octops.proofs.assigns.move_cells.Goals as goal
use Rattle.pk_octops.proofs.assigns.move_cells.Goals.{After-loop-j}

pub loop-j-init : goal.loop-j-init
loop-j-init c = rw c.requires.same (pair_none c.args.d (2 * c.args.k) _ _ c.args.old.now c.requires.old.size)

pub loop-j-preserved : goal.loop-j-preserved
loop-j-preserved c =
    let even : (2 * c.args.k) % 2 ≡ 0 = omega arith in
    pair_more _ _ _ _ _ _ _ _ c.loop-j.invariant c.write_pair.ensures.kept (c.write_pair.ensures.first ∙ c.moved_bound-first.ensures) (c.write_pair.ensures.second ∙ c.moved_bound.ensures) even c.write_pair.ensures.own c.write_pair.ensures.others

-- every bound at the end
bounds : (c : After-loop-j) (i j : ℕ) → i < c.args.d → j < c.args.d → kept_at c.args.d c.loop-j.cells i j ≡ moved (kept_at c.args.d c.args.old.now) c.args.k c.args.t (to_z w128 (of_z w128 c.args.c)) i j
bounds c = crossed_all _ _ _ _ _ _ _ c.loop-j.invariant c.requires.pairs c.loop-j-test.false c.requires.old.whole.near c.requires.old.whole.coherent.turned

pub returns-clause-value : goal.returns-clause-value
returns-clause-value c = λ i j id jd. bounds c i j id jd ∙ ap (λ z. moved (kept_at c.args.d c.args.old.now) c.args.k c.args.t z i j) (to_z-of_z w128 c.args.c c.ranges.c)

pub returns-clause-whole : goal.returns-clause-whole
returns-clause-whole c = moved_half _ _ _ _ c.args.old.now c.loop-j.cells c.requires.pairs c.requires.old c.loop-j.invariant.size (bounds c)
