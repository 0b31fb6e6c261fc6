-- The table of phases: Delay joins, Up widens, Down narrows, and Last widens where a narrowed value didn't pass its test.
use Rattle.std.specs.Prelude.{◌≡◌, ℕ, ◌+◌, ◌==◌, ◌||◌, nat_lt, nat_le, Bool, true, if◌then◌else◌}
use Rattle.pk_iterate.specs.declared.systems.Decision.{Decision}
use Rattle.pk_iterate.specs.declared.systems.Decision.TheVariants.{Stable, Again}
use Rattle.pk_phases.specs.declared.phases.Phase.{Phase}
use Rattle.pk_phases.specs.declared.phases.Phase.TheVariants.{Delay, Up, Down, Last}

-- the phase in which each entry of a component begins
abbrev pub first_phase_of : (delay : ℕ) → Phase
first_phase_of delay = if nat_lt 0 delay then Delay 0 else Up

-- the new value is below the head's: narrowing begins, unless there is to be none or it would change nothing
abbrev pub narrowed_or_stable : (delay narrow : ℕ) → (settled : Bool) → Decision Phase
narrowed_or_stable delay narrow settled =
    if (narrow == 0) || settled then Stable (first_phase_of delay) else Again (Down 1)

-- What an exit decides: `below` says that the new value is below the head's, `settled` that narrowing would not change the head's.
abbrev pub decision_of : (delay narrow : ℕ) → Phase → (below settled : Bool) → Decision Phase
decision_of delay narrow (Delay j) below settled =
    if below then narrowed_or_stable delay narrow settled
    else (if nat_lt (j + 1) delay then Again (Delay (j + 1)) else Again Up)
decision_of delay narrow Up below settled = if below then narrowed_or_stable delay narrow settled else Again Up
decision_of delay narrow (Down k) below settled =
    if below then (if nat_le narrow k || settled then Stable (first_phase_of delay) else Again (Down (k + 1)))
    else Again Last
decision_of delay narrow Last below settled = if below then Stable (first_phase_of delay) else Again Last

-- an exit is stable only where the new value is below the head's, and then goes back to the first phase
abbrev pub StableIsBelow : Type 0
StableIsBelow =
    (delay narrow : ℕ) (phase next : Phase) (below settled : Bool) →
    decision_of delay narrow phase below settled ≡ Stable next → (below ≡ true) × (next ≡ first_phase_of delay)
