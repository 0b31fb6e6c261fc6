use Rattle.std.proofs.Common.{◌≡◌, ◌<◌, ◌∙◌, ℕ, ap, sym, subst, List, length, arith}
use Rattle.std.proofs.lemmas.Result.{IfOk-weaker}
use Rattle.std.proofs.lemmas.List.{get_or_read}
use Rattle.pk_ctypes.specs.declared.types.IntType.TheVariants.{Int}
use Rattle.pk_octagons.specs.Values.{type_at, IsValue, known_at}
use Rattle.pk_state.specs.Layouts.{Layout}
use Rattle.pk_value.specs.Known.{Known, any_of}
use Rattle.pk_cert_states.specs.Lines.{own_pack}
use Rattle.pk_cert_states.proofs.Writing.{written_none, written_on, written_all}
use Rattle.pk_cert_states.proofs.states.with_facts.Goals as goal

pub loop-x-init : goal.loop-x-init
loop-x-init c =
    written_none c.args.frame.now c.args.values.now c.in_ok-state.state c.requires.size c.in_ok-state.ensures

pub with_value-requires-clause-value : goal.with_value-requires-clause-value
with_value-requires-clause-value c =
    let x = c.loop-x.x in
    let v = c.index-values-x.result in
    let read : v ≡ known_at c.args.values.now x = get_or_read c.args.values.now x v c.loop-x-test.true c.index-values-x.is (any_of Int) in
    subst (λ (l : Layout). IsValue (type_at l.types x) v) (sym c.loop-x.invariant.layout) (subst (λ (k : Known). IsValue (type_at c.args.frame.now.types x) k) (sym read) (c.requires.values x c.loop-x-test.true))

pub loop-x-preserved : goal.loop-x-preserved
loop-x-preserved c =
    let x = c.loop-x.x in
    let v = c.index-values-x.result in
    let read : v ≡ known_at c.args.values.now x = get_or_read c.args.values.now x v c.loop-x-test.true c.index-values-x.is (any_of Int) in
    written_on c.args.frame.now c.args.values.now x c.loop-x.state c.in_ok-state-2.state v c.loop-x.invariant c.loop-x-test.true read c.in_ok-state-2.ensures

pub with_bounds-requires-clause-pack : goal.with_bounds-requires-clause-pack
with_bounds-requires-clause-pack c =
    subst (λ (l : Layout). 0 < length l.packs) (sym c.loop-x.invariant.layout) (subst (λ (packs : List (List ℕ)). 0 < length packs) (sym c.requires.one) (omega arith))

pub with_bounds-requires-clause-vars : goal.with_bounds-requires-clause-vars
with_bounds-requires-clause-vars c = c.requires.octagon ∙ ap (λ (l : Layout). length (own_pack l)) (sym c.loop-x.invariant.layout)

pub returns : goal.returns
returns c =
    IfOk-weaker c.with_bounds.result _ _
    (λ t is. written_all c.args.frame.now c.args.values.now c.loop-x.x c.loop-x.state t c.args.octagon c.loop-x.invariant (omega (arith, c.loop-x-test.false, c.loop-x.auto.x-end)) is) c.with_bounds.ensures
