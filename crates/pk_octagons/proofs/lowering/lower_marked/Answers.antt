use Rattle.std.proofs.Common.{◌*◌, sym, subst, refl, arith}
use Rattle.std.specs.Prelude.{neg_ℤ}
use Rattle.pk_octmarks.specs.Marks.{IsMarked}
use Rattle.pk_octagons.specs.Reduced.{at_most, by_range}
use Rattle.pk_octagons.proofs.Octs.{at_most_octagon}
use Rattle.pk_octagons.proofs.lowering.lower_marked.Goals as goal

pub returns-then-is_lowered-clause-value : goal.returns-then-is_lowered-clause-value
returns-then-is_lowered-clause-value c = sym (c.is_lowered.ensures c.if-is_lowered.true)

pub returns-clause-marked : goal.returns-clause-marked
returns-clause-marked c = λ is.
    let m = c.args.m.now in
    let k = c.args.k in
    let r = c.args.range.now in
    let half = at_most m (2 * k) r.hi in
    let first : IsMarked c.guarded.result half = c.guarded.ensures.holds m half r.hi c.is_octagon.ensures (omega (arith, c.requires.place)) is refl in
    let octagon = at_most_octagon m (2 * k) r.hi c.is_octagon.ensures (omega (arith, c.requires.place)) in
    let second : IsMarked c.guarded-2.result (by_range m k r) = c.guarded-2.ensures.holds half (by_range m k r) (neg_ℤ r.lo) octagon (omega (arith, c.requires.place)) first refl in
    subst (IsMarked c.guarded-2.result) (sym c.lower.ensures.value) second
