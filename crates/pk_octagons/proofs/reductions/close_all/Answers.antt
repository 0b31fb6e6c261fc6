use Rattle.std.proofs.Common.{◌<◌, ap, sym, subst, ◌∙◌, arith, length}
use Rattle.std.specs.Prelude.{[]}
use Rattle.pk_octmat.specs.Octagon.{Octagon}
use Rattle.pk_octagons.specs.Packs.{IsPack}
use Rattle.pk_octagons.proofs.Zips.{read_is}
use Rattle.pk_octagons.proofs.Overs.{same_count, place_width}
use Rattle.pk_octagons.proofs.Closed.{closed_more, closed_stop, closed_end}
use Rattle.pk_octagons.proofs.reductions.close_all.Goals as goal

pub pack-requires : goal.pack-requires
pack-requires c = omega (arith, c.loop-p-test.true, same_count c.args.packs.now c.args.all.now c.requires.widths)

pub closed-requires-clause-vars : goal.closed-requires-clause-vars
closed-requires-clause-vars c =
    let all = c.args.all.now in
    let p = c.loop-p.p in
    let here : p < length c.args.packs.now = omega (arith, c.loop-p-test.true, same_count c.args.packs.now all c.requires.widths) in
    ap (λ (m : Octagon). m.vars) (read_is all p c.index-all-p.result c.loop-p-test.true c.index-all-p.is) ∙ (place_width c.args.packs.now all p c.requires.widths here).1 ∙ sym (ap length c.pack.ensures.value)

pub closed-requires-clause-pack : goal.closed-requires-clause-pack
closed-requires-clause-pack c =
    let here : c.loop-p.p < length c.args.packs.now = omega (arith, c.loop-p-test.true, same_count c.args.packs.now c.args.all.now c.requires.widths) in
    subst (IsPack (length c.args.values.now)) (sym c.pack.ensures.value) (c.requires.packs c.loop-p.p [] here)

pub loop-p-preserved : goal.loop-p-preserved
loop-p-preserved c =
    let all = c.args.all.now in
    let p = c.loop-p.p in
    let here : p < length c.args.packs.now = omega (arith, c.loop-p-test.true, same_count c.args.packs.now all c.requires.widths) in
    closed_more c.args.packs.now c.args.values.now all c.loop-p.out.items c.push.new.self.items p c.pack.result.now c.index-all-p.result c.in-Some.octagon c.loop-p.invariant here c.loop-p-test.true c.pack.ensures.value
    (read_is all p c.index-all-p.result c.loop-p-test.true c.index-all-p.is) (sym c.in-Some.is ∙ c.in_ok-closed.ensures) c.in_ok-push-in-Some.ensures.items

pub returns-in-None : goal.returns-in-None
returns-in-None c =
    let all = c.args.all.now in
    let p = c.loop-p.p in
    let here : p < length c.args.packs.now = omega (arith, c.loop-p-test.true, same_count c.args.packs.now all c.requires.widths) in
    closed_stop c.args.packs.now c.args.values.now all c.loop-p.out.items p c.pack.result.now c.index-all-p.result c.loop-p.invariant here c.loop-p-test.true c.pack.ensures.value
    (read_is all p c.index-all-p.result c.loop-p-test.true c.index-all-p.is) (sym c.in-None.is ∙ c.in_ok-closed.ensures)

pub returns : goal.returns
returns c =
    closed_end c.args.packs.now c.args.values.now c.args.all.now c.loop-p.out.items c.loop-p.p c.loop-p.invariant (omega (arith, c.loop-p-test.false, same_count c.args.packs.now c.args.all.now c.requires.widths))
