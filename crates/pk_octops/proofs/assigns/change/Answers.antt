use Rattle.std.proofs.Common.{ap, arith, rules, ◌∙◌, ◌≡◌, Some, to_z, of_z}
use Rattle.std.specs.Prelude.{◌-ℤ◌}
use Rattle.std.specs.Int.{w128}
use Rattle.std.specs.Int.RustNames.{FitsSigned}
use Rattle.std.proofs.lemmas.Int.{ints, to_z-of_z}
use Rattle.pk_octops.specs.Assigns.{gain}
use Rattle.pk_octops.proofs.assigns.change.Goals as goal
use Rattle.pk_octops.proofs.assigns.change.Goals.{After-exactly}

number : (c : After-exactly) → c.exactly.result ≡ Some (c.gain.result -ℤ c.gain-2.result)
number c =
    let first : FitsSigned w128 c.gain.result = search rules in
    let second : FitsSigned w128 c.gain-2.result = search rules in
    let both : FitsSigned w128 (c.gain.result -ℤ c.gain-2.result) = search (rules, ints, c.gain.ensures.low, c.gain.ensures.high, c.gain-2.ensures.low, c.gain-2.ensures.high) in
    c.exactly.ensures
    ∙ ap (λ z. Some z)
    (ap (λ z. to_z w128 (of_z w128 (z -ℤ to_z w128 (of_z w128 c.gain-2.result)))) (to_z-of_z w128 c.gain.result first) ∙ ap (λ z. to_z w128 (of_z w128 (c.gain.result -ℤ z))) (to_z-of_z w128 c.gain-2.result second)
    ∙ to_z-of_z w128 (c.gain.result -ℤ c.gain-2.result) both)

pub returns-clause-value : goal.returns-clause-value
returns-clause-value c =
    number c
    ∙ ap (λ z. Some (z -ℤ c.gain-2.result)) (c.gain.ensures.value ∙ ap (λ z. gain c.args.k z c.args.j) (to_z-of_z w128 c.args.c c.ranges.c))
    ∙ ap (λ z. Some (gain c.args.k c.args.c c.args.j -ℤ z)) (c.gain-2.ensures.value ∙ ap (λ z. gain c.args.k z c.args.i) (to_z-of_z w128 c.args.c c.ranges.c))

pub returns-clause-near : goal.returns-clause-near
returns-clause-near c =
    rw (number c)
    (omega (arith, ints, c.gain.ensures.low, c.gain.ensures.high, c.gain-2.ensures.low, c.gain-2.ensures.high), omega (arith, ints, c.gain.ensures.low, c.gain.ensures.high, c.gain-2.ensures.low, c.gain-2.ensures.high))
