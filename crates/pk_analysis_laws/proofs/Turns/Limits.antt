-- Which limits are passed.
use Rattle.std.proofs.Common.{◌≤◌, ◌^◌, ◌+◌, ◌*◌, ℕ, arith}
use Rattle.pk_iterate.specs.Settled.{Once}
use Rattle.pk_iterate.specs.Ending.{result_count}
use Rattle.pk_iterate.proofs.Ended.{trace_is_one}
use Rattle.pk_phases.specs.Equations.{behaviour_of}
use Rattle.pk_phases.specs.Turns.{turn_bound}
use Rattle.pk_analysis.specs.Flows.{equations_of}
use Rattle.pk_sound.proofs.Ahead.{order_once}
use Rattle.pk_analysis_laws.specs.Turns.Counted.{LimitsAreLow, depth_of, runs_within}
use Rattle.pk_analysis_laws.proofs.Turns.Ending.{analyses_end}
use Rattle.pk_analysis_laws.proofs.Turns.Counting.{runs_are_few}

pub limits_are_low : LimitsAreLow
limits_are_low g o most chain made few over bound =
    let b = behaviour_of (equations_of over.flow) in
    let turns : ℕ = turn_bound chain o.narrow o.delay in
    let within = analyses_end g o over.plan over.order over.flow chain made few over.system bound in
    let once : Once over.order = order_once over.plan over.order over.system.ordered.axioms over.system.ordered.is_linear in
    let counted = (trace_is_one b).counts over.order within.ends (over.plan.elements * most + 1) over.over.0 in
    let all : result_count within.ends over.over.0 ≤ runs_within turns over.order over.over.0 = (runs_are_few b).counts over.order turns within over.over.0 in
    let power : runs_within turns over.order over.over.0 ≤ turns ^ depth_of over.order = (runs_are_few b).power over.order turns (omega arith) once over.over.0 in
    omega (arith, over.over.2, counted, all, power)
