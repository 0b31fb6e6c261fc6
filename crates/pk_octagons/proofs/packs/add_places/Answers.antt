use Rattle.std.specs.Prelude.{◌≡◌, ◌<◌, length}
use Rattle.std.proofs.Common.{ap, set, ◌++◌, ◌∷◌, [], List, arith, sym, subst, ◌∙◌}
use Rattle.pk_octagons.specs.declared.packs.Place.{Place}
use Rattle.pk_octagons.proofs.Placing.{read_places, AllAdded, added_none, added_more, added_all}
use Rattle.pk_octagons.proofs.packs.add_places.Goals as goal

pub loop-k-init : goal.loop-k-init
loop-k-init c = added_none c.args.pack.now c.args.p c.args.table.now.items

pub loop-k-preserved : goal.loop-k-preserved
loop-k-preserved c =
    let here : c.loop-k.k < length c.args.pack.now = omega (arith, c.loop-k-test.true, c.len-k-end.ensures) in
    let place : c.variable-x.result < length c.loop-k.table.items = omega (arith, c.variable-x.ensures, c.requires.there c.loop-k.k here, c.loop-k.invariant.0) in
    added_more c.args.pack.now c.args.p c.loop-k.k c.variable-x.result c.args.table.now.items c.loop-k.table.items _ c.requires here c.variable-x.ensures c.loop-k.invariant
    (ap (set c.loop-k.table.items c.variable-x.result) (c.in_ok-push.ensures ∙ ap (λ (ls : List Place). ls ++ record { pack = c.args.p; place = c.loop-k.k } ∷ []) (sym (read_places c.loop-k.table.items c.variable-x.result c.index_mut.result.now place c.index_mut.ensures.value))))

pub returns-clause-value : goal.returns-clause-value
returns-clause-value c = λ x h.
    let all : c.loop-k.k ≡ length c.args.pack.now = omega (arith, c.loop-k-test.false, c.loop-k.auto.k-end, c.len-k-end.ensures) in
    added_all c.args.pack.now c.args.p c.args.table.now.items c.loop-k.table.items x (subst (λ k. AllAdded c.args.pack.now c.args.p k c.args.table.now.items c.loop-k.table.items) all c.loop-k.invariant) h
