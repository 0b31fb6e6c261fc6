use Rattle.std.proofs.Common.{◌≡◌, ◌∙◌, ◌+◌, ◌<◌, ℕ, List, length, take, get_or, ap, arith, w32, length-take, sym}
use Rattle.std.proofs.Math.Facts.{Fits-of_lt}
use Rattle.std.proofs.lemmas.List.Sums.{count_by-le-length, count_by_more_yes, count_by_more_no}
use Rattle.pk_plan.specs.Plans.{predecessors_of, is_inside}
use Rattle.pk_plan.proofs.PlanLemmas.{full_within, predecessor_within}
use Rattle.pk_plan.proofs.plans.Plan.inner.Goals as goal
use Rattle.pk_plan.proofs.plans.Plan.inner.Goals.{then-holds, else-holds}

pub holds-requires : goal.holds-requires
holds-requires c =
    let in_range : c.loop-a.a-index < length (predecessors_of c.args.self.now c.args.e) = rw (sym c.predecessors-a-items.ensures) c.loop-a-test.true in
    rw c.predecessors-a-items.ensures (predecessor_within c.args.self.now c.args.e c.loop-a.a-index c.axioms.ensures.axioms in_range)

pub overflow_add-count : goal.overflow_add-count
overflow_add-count c =
    let xs = predecessors_of c.args.self.now c.args.e in
    let in_range : c.loop-a.a-index < length xs = rw (sym c.predecessors-a-items.ensures) c.loop-a-test.true in
    let few = full_within c.args.self.now c.args.e c.axioms.ensures.axioms c.requires in
    let count = count_by-le-length (is_inside c.args.self.now c.args.component.now) (take c.loop-a.a-index xs) in
    let taken = length-take c.loop-a.a-index xs in
    Fits-of_lt {w = w32} (omega (arith, in_range, few, count, taken, c.loop-a.invariant, c.axioms.ensures.few))

pub loop-a-preserved : goal.loop-a-preserved
loop-a-preserved c =
    let p = c.args.self.now in
    let it = c.args.component.now in
    let xs = predecessors_of p c.args.e in
    let i = c.loop-a.a-index in
    let read : get_or c.predecessors-a-items.result.now i 0 ≡ get_or xs i 0 = ap (λ (ys : List ℕ). get_or ys i 0) c.predecessors-a-items.ensures in
    let test : c.holds.result ≡ is_inside p it (get_or xs i 0) = c.holds.ensures.place ∙ ap (is_inside p it) read in
    let in_range : i < length xs = rw (sym c.predecessors-a-items.ensures) c.loop-a-test.true in
    elim c.if-holds.branch [
      | then-holds w ↦ w.count-is ∙ ap (λ (n : ℕ). n + 1) c.loop-a.invariant ∙ sym (count_by_more_yes (is_inside p it) xs i 0 in_range (sym test ∙ w.if-holds.true))
      | else-holds w ↦ w.count-is ∙ c.loop-a.invariant ∙ sym (count_by_more_no (is_inside p it) xs i 0 in_range (sym test ∙ w.if-holds.false))
    ]
