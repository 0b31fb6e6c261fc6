use Rattle.std.proofs.Common.{◌<◌, ap, sym, subst, ◌∙◌, arith, length, below_more}
use Rattle.std.specs.Prelude.{[]}
use Rattle.pk_octmat.specs.Octagon.{Octagon}
use Rattle.pk_octagons.specs.Packs.{IsPack, pack_at}
use Rattle.pk_octagons.specs.Reduced.{IsResting}
use Rattle.pk_octagons.proofs.Zips.{read_is}
use Rattle.pk_octagons.proofs.Overs.{same_count, place_width}
use Rattle.pk_octagons.proofs.reductions.rest_all.Goals as goal

pub pack-requires : goal.pack-requires
pack-requires c = omega (arith, c.loop-p-test.true, same_count c.args.packs.now c.args.all.now c.requires.widths)

pub rests-requires-clause-vars : goal.rests-requires-clause-vars
rests-requires-clause-vars c =
    let all = c.args.all.now in
    let p = c.loop-p.p in
    let here : p < length c.args.packs.now = omega (arith, c.loop-p-test.true, same_count c.args.packs.now all c.requires.widths) in
    ap (λ (m : Octagon). m.vars) (read_is all p c.index-all-p.result c.loop-p-test.true c.index-all-p.is) ∙ (place_width c.args.packs.now all p c.requires.widths here).1 ∙ sym (ap length c.pack.ensures.value)

pub rests-requires-clause-pack : goal.rests-requires-clause-pack
rests-requires-clause-pack c =
    let here : c.loop-p.p < length c.args.packs.now = omega (arith, c.loop-p-test.true, same_count c.args.packs.now c.args.all.now c.requires.widths) in
    subst (IsPack (length c.args.values.now)) (sym c.pack.ensures.value) (c.requires.packs c.loop-p.p [] here)

pub loop-p-preserved : goal.loop-p-preserved
loop-p-preserved c =
    let all = c.args.all.now in
    let p = c.loop-p.p in
    below_more _ _ c.loop-p.invariant
    (subst (λ (m : Octagon). IsResting (pack_at c.args.packs.now p) c.args.values.now m) (read_is all p c.index-all-p.result c.loop-p-test.true c.index-all-p.is)
    (subst (λ l. IsResting l c.args.values.now c.index-all-p.result) c.pack.ensures.value (c.rests.ensures c.if-not-rests.false)))

pub returns : goal.returns
returns c = λ yes p h. c.loop-p.invariant p (omega (arith, h, c.loop-p-test.false))
