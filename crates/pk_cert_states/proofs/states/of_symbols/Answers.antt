use Rattle.std.proofs.Common.{sym, subst, ℕ, ◌<◌, List, length}
use Rattle.pk_octmat.specs.Octagon.{Octagon}
use Rattle.pk_value.specs.Known.{Known}
use Rattle.pk_octagons.specs.Values.{type_at, known_at, IsValue}
use Rattle.pk_cert_states.specs.Lines.{own_octagon, own_pack}
use Rattle.pk_cert_states.specs.Parts.{AreBoundsOf, IsBounded}
use Rattle.pk_cert_states.proofs.Reading.{facts_first, in_types, bounds_left, read_whole, none_of, some_of}
use Rattle.pk_cert_states.proofs.states.of_symbols.Goals as goal

pub returns-in-None : goal.returns-in-None
returns-in-None c = λ f h told. c.in-None.ensures f.values (facts_first c.args.frame.now c.args.order.now c.args.symbols.now f h told)

pub bounded-requires-clause-values : goal.bounded-requires-clause-values
bounded-requires-clause-values c =
    let l = c.args.frame.now in
    subst (λ (ws : List Known). (x : ℕ) → x < length ws → IsValue (type_at l.types x) (known_at ws x)) (sym c.deref.ensures.value) (in_types l c.fill.new.values.items c.in-Some.ensures.values)

pub returns-in-None-found : goal.returns-in-None-found
returns-in-None-found c =
    let l = c.args.frame.now in
    λ f h told.
    none_of c.in_ok-found-in-Some.found ((m : Octagon) → AreBoundsOf (length (own_pack l)) c.in-Some.rest.now m → ⊥) (IsBounded l c.deref.result.now c.in-Some.rest.now) c.in_ok-found-in-Some.ensures c.in-None-found.is (own_octagon f)
    (bounds_left l c.args.order.now c.args.symbols.now c.in-Some.rest.now c.fill.new.values.items f c.requires.one c.in-Some.ensures h told)

pub returns : goal.returns
returns c =
    let l = c.args.frame.now in
    let is = some_of c.in_ok-found-in-Some.found ((m : Octagon) → AreBoundsOf (length (own_pack l)) c.in-Some.rest.now m → ⊥) (IsBounded l c.deref.result.now c.in-Some.rest.now) c.in-Some-found.state c.in_ok-found-in-Some.ensures c.in-Some-found.is in
    read_whole l c.args.order.now c.args.symbols.now c.in-Some.rest.now c.fill.new.values.items c.in-Some-found.state c.in-Some.ensures
    (subst (λ (ws : List Known). IsBounded l ws c.in-Some.rest.now c.in-Some-found.state) c.deref.ensures.value is)
