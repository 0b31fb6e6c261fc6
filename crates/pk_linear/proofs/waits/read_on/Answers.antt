use Rattle.std.proofs.Common.{◌≡◌, ◌<◌, ℕ, inl, inr, get_or, sym, subst, arith}
use Rattle.std.proofs.lemmas.Bool.{cases_lt}
use Rattle.pk_plan.specs.Plans.{place_of}
use Rattle.pk_linear.specs.Waits.{IsPlaced}
use Rattle.pk_linear.proofs.waits.read_on.Goals as goal
use Rattle.pk_linear.proofs.waits.read_on.Goals.{else-place-first-via-then-place-first+else-not-placed-input, else-place-first-via-else-place-first}

pub loop-next-preserved : goal.loop-next-preserved
loop-next-preserved c =
    let p = c.args.plan.now in
    let inputs = c.args.inputs.now in
    let here : place_of p (get_or inputs c.loop-next.next 0) < c.args.first → IsPlaced c.args.placed.now (get_or inputs c.loop-next.next 0) =
    elim c.else-place-first.branch [
      | else-place-first-via-then-place-first+else-not-placed-input w ↦ (λ lower. w.if-not-placed-input.false)
      | else-place-first-via-else-place-first w ↦ (λ lower. absurd (omega (arith, lower, w.if-place-first.false, c.place.ensures)))
    ] in (
      omega (arith, c.loop-next.invariant.0),
      λ k from upto inside lower. elim (cases_lt k c.loop-next.next) [
        | inl earlier ↦ c.loop-next.invariant.1 k from earlier inside lower
        | inr later ↦
            let same : c.loop-next.next ≡ k = omega (arith, upto, later) in
            subst (λ (n : ℕ). IsPlaced c.args.placed.now (get_or inputs n 0)) same (here (subst (λ (n : ℕ). place_of p (get_or inputs n 0) < c.args.first) (sym same) lower))
      ],
    )

pub returns-clause-passed : goal.returns-clause-passed
returns-clause-passed c = c.loop-next.invariant.1

pub returns-then-not-placed-input-clause-passed : goal.returns-then-not-placed-input-clause-passed
returns-then-not-placed-input-clause-passed c = c.loop-next.invariant.1
