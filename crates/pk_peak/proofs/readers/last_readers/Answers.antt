use Rattle.std.proofs.Common.{◌≡◌, ◌∙◌, ◌<◌, ◌≤◌, ℕ, ◌-◌, List, length, get_or, max, take, ap, subst, arith}
use Rattle.std.proofs.lemmas.Grind.{get_or_default_zero}
use Rattle.pk_plan.specs.Plans.{predecessors_of}
use Rattle.pk_plan.proofs.PlanLemmas.{predecessor_within}
use Rattle.pk_peak.proofs.Reading.{AreLastWithin, none_within, one_within, all_within, own_last, are_last}
use Rattle.pk_peak.proofs.readers.last_readers.Goals as goal

pub index-read-requires : goal.index-read-requires
index-read-requires c =
    let p = c.args.plan.now in
    let in_range : c.loop-a.a-index < length (predecessors_of p c.loop-b.b) = subst (λ (xs : List ℕ). c.loop-a.a-index < length xs) c.predecessors-a-items.ensures c.loop-a-test.true in
    let low = predecessor_within p c.loop-b.b c.loop-a.a-index c.axioms.ensures.axioms in_range in
    let at = ap (λ (xs : List ℕ). get_or xs c.loop-a.a-index 0) c.predecessors-a-items.ensures in
    omega (arith, low, at, c.requires.long)

pub index-requires : goal.index-requires
index-requires c =
    let p = c.args.plan.now in
    let of = c.args.items.now.of.items in
    let a = get_or c.predecessors-a-items.result.now c.loop-a.a-index 0 in
    let in_range : c.loop-a.a-index < length (predecessors_of p c.loop-b.b) = subst (λ (xs : List ℕ). c.loop-a.a-index < length xs) c.predecessors-a-items.ensures c.loop-a-test.true in
    let at = ap (λ (xs : List ℕ). get_or xs c.loop-a.a-index 0) c.predecessors-a-items.ensures in
    let low : a < p.elements = (let l = predecessor_within p c.loop-b.b c.loop-a.a-index c.axioms.ensures.axioms in_range in omega (arith, l, at)) in
    let found = get_or_default_zero of a c.index-read.result.now (omega (arith, low, c.requires.long)) in
    omega (arith, c.index-read.ensures, found, c.requires.within a low, c.loop-a.invariant.long)

pub index_mut-requires : goal.index_mut-requires
index_mut-requires c =
    let p = c.args.plan.now in
    let of = c.args.items.now.of.items in
    let a = get_or c.predecessors-a-items.result.now c.loop-a.a-index 0 in
    let in_range : c.loop-a.a-index < length (predecessors_of p c.loop-b.b) = subst (λ (xs : List ℕ). c.loop-a.a-index < length xs) c.predecessors-a-items.ensures c.loop-a-test.true in
    let at = ap (λ (xs : List ℕ). get_or xs c.loop-a.a-index 0) c.predecessors-a-items.ensures in
    let low : a < p.elements = (let l = predecessor_within p c.loop-b.b c.loop-a.a-index c.axioms.ensures.axioms in_range in omega (arith, l, at)) in
    let found = get_or_default_zero of a c.index-read.result.now (omega (arith, low, c.requires.long)) in
    omega (arith, c.index-read.ensures, found, c.requires.within a low, c.loop-a.invariant.long)

pub loop-a-preserved : goal.loop-a-preserved
loop-a-preserved c =
    let p = c.args.plan.now in
    let of = c.args.items.now.of.items in
    let b = c.loop-b.b in
    let k = c.loop-a.a-index in
    let last = c.loop-a.last.items in
    let read = c.index-read.result.now in
    let reader = c.index-reader.result.now in
    let a = get_or c.predecessors-a-items.result.now k 0 in
    let in_range : k < length (predecessors_of p b) = subst (λ (xs : List ℕ). k < length xs) c.predecessors-a-items.ensures c.loop-a-test.true in
    let at : a ≡ get_or (predecessors_of p b) k 0 = ap (λ (xs : List ℕ). get_or xs k 0) c.predecessors-a-items.ensures in
    let low : a < p.elements = (let l = predecessor_within p b k c.axioms.ensures.axioms in_range in omega (arith, l, at)) in
    let read_is : read ≡ get_or of a 0 = c.index-read.ensures ∙ get_or_default_zero of a read (omega (arith, low, c.requires.long)) in
    let b_low : b < p.elements = omega (arith, c.loop-b-test.true, c.elements-b-end.ensures) in
    let reader_is : reader ≡ get_or of b 0 = c.index-reader.ensures ∙ get_or_default_zero of b reader (omega (arith, b_low, c.requires.long)) in
    let from_low : read < c.args.items.now.count = omega (arith, read_is, c.requires.within a low) in
    let high : reader < c.args.items.now.count = omega (arith, reader_is, c.requires.within b b_low) in
    let long = c.loop-a.invariant.long in
    let old_is : c.index.result.now ≡ get_or last read 0 = c.index.ensures ∙ get_or_default_zero last read c.index.result.now (omega (arith, from_low, long)) in
    let new_is : c.max.result ≡ max (get_or last read 0) reader = c.max.ensures ∙ ap (λ (n : ℕ). max n reader) old_is in
    one_within p (λ e. get_or of e 0) c.args.items.now.count b reader k read c.max.result (predecessors_of p b) last in_range (read_is ∙ ap (λ (n : ℕ). get_or of n 0) at) from_low high new_is c.loop-a.invariant

pub loop-b-preserved : goal.loop-b-preserved
loop-b-preserved c =
    let p = c.args.plan.now in
    let of = c.args.items.now.of.items in
    let b = c.loop-b.b in
    let k = c.loop-a.a-index in
    let reader = c.index-reader.result.now in
    let b_low : b < p.elements = omega (arith, c.loop-b-test.true, c.elements-b-end.ensures) in
    let reader_is : reader ≡ get_or of b 0 = c.index-reader.ensures ∙ get_or_default_zero of b reader (omega (arith, b_low, c.requires.long)) in
    let all : length (predecessors_of p b) ≤ k = subst (λ (xs : List ℕ). length xs ≤ k) c.predecessors-a-items.ensures c.loop-a-test.false in
    all_within p (λ e. get_or of e 0) c.args.items.now.count b k c.loop-a.last.items all
    (subst (λ (n : ℕ). AreLastWithin p (λ e. get_or of e 0) c.args.items.now.count b n (take k (predecessors_of p b)) c.loop-a.last.items) reader_is c.loop-a.invariant)

pub loop-b-init : goal.loop-b-init
loop-b-init c = own_last c.args.plan.now (λ e. get_or c.args.items.now.of.items e 0) c.args.items.now.count c.in_ok-last.last.items c.in_ok-last.ensures

pub loop-a-init : goal.loop-a-init
loop-a-init c = none_within c.args.plan.now (λ e. get_or c.args.items.now.of.items e 0) c.args.items.now.count c.loop-b.b c.index-reader.result.now c.loop-b.last.items c.loop-b.invariant

pub returns : goal.returns
returns c =
    are_last c.args.plan.now (λ e. get_or c.args.items.now.of.items e 0) c.args.items.now.count c.loop-b.b (c.elements-b-end.result - 1) c.loop-b.last.items c.axioms.ensures.axioms (ap (λ (n : ℕ). n - 1) c.elements-b-end.ensures) c.loop-b.auto.b-end c.loop-b-test.false c.loop-b.invariant
