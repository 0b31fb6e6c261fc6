use Rattle.std.proofs.Common.{◌≡◌, ◌∙◌, ℕ, ◌<◌, List, length, get_or, min, ap, sym}
use Rattle.std.proofs.lemmas.List.Sums.{fold_more}
use Rattle.pk_plan.specs.Plans.{predecessors_of, place_of}
use Rattle.pk_plan.proofs.PlanLemmas.{predecessor_within}
use Rattle.pk_board.proofs.earliest.earliest_place.Goals as goal

pub place-requires : goal.place-requires
place-requires c =
    let in_range : c.loop-a.a-index < length (predecessors_of c.args.plan.now c.args.e) = rw (sym c.predecessors-a-items.ensures) c.loop-a-test.true in
    rw c.predecessors-a-items.ensures (predecessor_within c.args.plan.now c.args.e c.loop-a.a-index c.axioms.ensures.axioms in_range)

pub loop-a-preserved : goal.loop-a-preserved
loop-a-preserved c =
    let p = c.args.plan.now in
    let xs = predecessors_of p c.args.e in
    let i = c.loop-a.a-index in
    let read : get_or c.predecessors-a-items.result.now i 0 ≡ get_or xs i 0 = ap (λ (ys : List ℕ). get_or ys i 0) c.predecessors-a-items.ensures in
    let in_range : i < length xs = rw (sym c.predecessors-a-items.ensures) c.loop-a-test.true in
    let place : c.place.result ≡ place_of p (get_or xs i 0) = c.place.ensures ∙ ap (place_of p) read in
    c.min-least.ensures ∙ (λ k. min (c.loop-a.invariant k) (place k)) ∙ sym (fold_more (λ (least a : ℕ). min least (place_of p a)) p.elements xs i 0 in_range)
