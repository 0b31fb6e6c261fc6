use Rattle.std.proofs.Common.{◌≡◌, ◌<◌, ℕ, List, length, get_or, arith, ap, subst, ◌∙◌}
use Rattle.std.proofs.lemmas.List.{get_or_default}
use Rattle.pk_plan.specs.Plans.{predecessors_of}
use Rattle.pk_plan.proofs.PlanLemmas.{predecessor_within}
use Rattle.pk_linear.proofs.StepLemmas.{last_within}
use Rattle.pk_linear.proofs.WaitLemmas.{read_further, read_past, read_all, waits_at}
use Rattle.pk_linear.proofs.waits.next_wait.Goals as goal

pub read_on-next-requires-clause-inputs : goal.read_on-next-requires-clause-inputs
read_on-next-requires-clause-inputs c = λ k d in_range.
    let p = c.args.plan.now in
    let e : ℕ = get_or c.listing.result.now c.loop-place.place 0 in
    let inputs : List ℕ = c.predecessors-inputs.result.now in
    let is : inputs ≡ predecessors_of p e = c.predecessors-inputs.ensures in
    let below : get_or (predecessors_of p e) k 0 < p.elements = predecessor_within p e k c.axioms.ensures.axioms (subst (λ (xs : List ℕ). k < length xs) is in_range) in
    let at : get_or inputs k d ≡ get_or (predecessors_of p e) k 0 = get_or_default inputs k d 0 in_range ∙ ap (λ (xs : List ℕ). get_or xs k 0) is in
    omega (arith, at, below)

pub returns-then-next-inputs-clause-reading : goal.returns-then-next-inputs-clause-reading
returns-then-next-inputs-clause-reading c =
    let p = c.args.plan.now in
    let is = c.predecessors-inputs.ensures ∙ ap (λ (xs : List ℕ). predecessors_of p (get_or xs c.loop-place.place 0)) c.listing.ensures in
    read_further p c.args.placed.now c.args.item c.loop-place.place c.loop-place.read c.read_on-next.result c.predecessors-inputs.result.now is
    (λ k from before in_range lower. c.read_on-next.ensures.passed k from before in_range (omega (arith, lower, c.place-first.ensures))) c.loop-place.invariant

pub returns-then-next-inputs-clause-waits : goal.returns-then-next-inputs-clause-waits
returns-then-next-inputs-clause-waits c =
    let p = c.args.plan.now in
    let is = c.predecessors-inputs.ensures ∙ ap (λ (xs : List ℕ). predecessors_of p (get_or xs c.loop-place.place 0)) c.listing.ensures in
    let stops = c.read_on-next.ensures.stops c.if-next-inputs.true in
    waits_at p c.args.lasts.now c.args.item c.loop-place.place c.read_on-next.result c.predecessors-inputs.result.now c.axioms.ensures.axioms c.requires.lasts c.requires.item is
    c.loop-place.invariant.from c.loop-place-test.true c.if-next-inputs.true (omega (arith, stops, c.place-first.ensures))

pub loop-place-preserved : goal.loop-place-preserved
loop-place-preserved c =
    let p = c.args.plan.now in
    let is = c.predecessors-inputs.ensures ∙ ap (λ (xs : List ℕ). predecessors_of p (get_or xs c.loop-place.place 0)) c.listing.ensures in
    read_past p c.args.placed.now c.args.item c.loop-place.place c.read_on-next.result c.predecessors-inputs.result.now is c.if-next-inputs.false
    (read_further p c.args.placed.now c.args.item c.loop-place.place c.loop-place.read c.read_on-next.result c.predecessors-inputs.result.now is
    (λ k from before in_range lower. c.read_on-next.ensures.passed k from before in_range (omega (arith, lower, c.place-first.ensures))) c.loop-place.invariant)

pub overflow_add-place : goal.overflow_add-place
overflow_add-place c =
    let last = last_within c.args.plan.now c.args.lasts.now c.args.item c.axioms.ensures.axioms c.requires.lasts c.requires.item in
    let few = c.axioms.ensures.few in
    omega (arith, last, few, c.loop-place-test.true)

pub returns-clause-ready : goal.returns-clause-ready
returns-clause-ready c =
    read_all c.args.plan.now c.args.lasts.now c.args.placed.now c.args.item c.loop-place.place c.loop-place.read c.axioms.ensures.axioms c.loop-place-test.false c.loop-place.invariant
