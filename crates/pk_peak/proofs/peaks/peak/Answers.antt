use Rattle.std.proofs.Common.{◌≡◌, ◌∙◌, ◌<◌, ℕ, List, length, get_or, IfOk, ap, subst, arith}
use Rattle.std.proofs.lemmas.List.FromFn.{length-map-range_with_len}
use Rattle.pk_peak.specs.declared.stretches.Stretch.{Stretch}
use Rattle.pk_peak.specs.Items.{AreNumbered}
use Rattle.pk_peak.specs.Peak.{peak_of}
use Rattle.pk_peak.specs.Stretches.{most_covering_of}
use Rattle.pk_peak.proofs.Numbering.{numbered_low}
use Rattle.pk_peak.proofs.Peaking.{kept_stretches, stretches_rise, stretches_end, peak_is}
use Rattle.pk_peak.proofs.peaks.peak.Goals as goal

pub last_readers-requires-clause-within : goal.last_readers-requires-clause-within
last_readers-requires-clause-within c =
    λ e h. numbered_low c.args.order.now.order c.args.order.now.elements c.in_ok-items.items.of.items c.in_ok-items.items.count e c.in_ok-items.ensures (c.requires.linear.every e h)

pub kept-requires-clause-within : goal.kept-requires-clause-within
kept-requires-clause-within c =
    λ e h.
    let n = c.axioms.ensures.axioms.counted in
    let low = numbered_low c.args.order.now.order c.args.order.now.elements c.in_ok-items.items.of.items c.in_ok-items.items.count e c.in_ok-items.ensures (c.requires.linear.every e (omega (arith, h, n, c.points.ensures))) in
    let at = ap (λ (xs : List ℕ). get_or xs e 0) c.deref.ensures.value in
    omega (arith, low, at, c.deref-2.ensures.len, c.in_ok-last.ensures.long)

pub most_covering-requires-clause-few : goal.most_covering-requires-clause-few
most_covering-requires-clause-few c =
    let of = c.deref.result.now in
    let last = c.deref-2.result.now in
    let long = length-map-range_with_len (λ (e : ℕ). let s : Stretch = record { from = get_or of e 0; to = get_or last (get_or of e 0) 0 } in s) 0 c.points.result in
    let is = ap length (c.deref-3.ensures.value ∙ c.in_ok-stretches.ensures) in
    omega (arith, long, is, c.points.type_inv)

pub most_covering-requires-clause-rising : goal.most_covering-requires-clause-rising
most_covering-requires-clause-rising c =
    let p = c.args.plan.now in
    let low = λ (e : ℕ) (h : e < p.elements). numbered_low c.args.order.now.order c.args.order.now.elements c.in_ok-items.items.of.items c.in_ok-items.items.count e c.in_ok-items.ensures (c.requires.linear.every e h) in
    stretches_rise p c.in_ok-items.items.of.items c.in_ok-last.last.items c.in_ok-items.items.count c.deref-3.result.now c.axioms.ensures.axioms c.in_ok-last.ensures
    (kept_stretches c.points.result p.points c.deref.result.now c.in_ok-items.items.of.items c.deref-2.result.now c.in_ok-last.last.items c.deref-3.result.now c.points.ensures c.deref.ensures.value c.deref-2.ensures.value (c.deref-3.ensures.value ∙ c.in_ok-stretches.ensures)) low

pub most_covering-requires-clause-within : goal.most_covering-requires-clause-within
most_covering-requires-clause-within c =
    let p = c.args.plan.now in
    let low = λ (e : ℕ) (h : e < p.elements). numbered_low c.args.order.now.order c.args.order.now.elements c.in_ok-items.items.of.items c.in_ok-items.items.count e c.in_ok-items.ensures (c.requires.linear.every e h) in
    stretches_end p c.in_ok-items.items.of.items c.in_ok-last.last.items c.in_ok-items.items.count c.deref-3.result.now c.axioms.ensures.axioms c.in_ok-last.ensures
    (kept_stretches c.points.result p.points c.deref.result.now c.in_ok-items.items.of.items c.deref-2.result.now c.in_ok-last.last.items c.deref-3.result.now c.points.ensures c.deref.ensures.value c.deref-2.ensures.value (c.deref-3.ensures.value ∙ c.in_ok-stretches.ensures)) low

pub returns : goal.returns
returns c =
    let p = c.args.plan.now in
    let order = c.args.order.now.order in
    let of = c.in_ok-items.items.of.items in
    let last = c.in_ok-last.last.items in
    let count = c.in_ok-items.items.count in
    let low = λ (e : ℕ) (h : e < p.elements). numbered_low order c.args.order.now.elements of count e c.in_ok-items.ensures (c.requires.linear.every e h) in
    let kept = kept_stretches c.points.result p.points c.deref.result.now of c.deref-2.result.now last c.deref-3.result.now c.points.ensures c.deref.ensures.value c.deref-2.ensures.value (c.deref-3.ensures.value ∙ c.in_ok-stretches.ensures) in
    let is : most_covering_of c.deref-3.result.now count ≡ peak_of p order =
    peak_is p order of last count c.deref-3.result.now c.axioms.ensures.axioms c.requires.linear (subst (λ (n : ℕ). AreNumbered order n of count) c.requires.elements c.in_ok-items.ensures) c.in_ok-last.ensures kept low in
    subst (λ (n : ℕ). IfOk c.most_covering.result (λ most. most ≡ n)) is c.most_covering.ensures
