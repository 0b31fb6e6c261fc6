-- What the values of heads are asked for, and ranks of them.
use Rattle.std.specs.Prelude.{◌≡◌, ℕ, ◌<◌, ◌≤◌, Bool, false}
use Rattle.pk_iterate.specs.declared.systems.Decision.{Decision}
use Rattle.pk_phases.specs.declared.phases.Phase.{Phase}
use Rattle.pk_phases.specs.declared.phases.Phase.TheVariants.{Delay, Up, Down, Last}
use Rattle.pk_phases.specs.Table.{decision_of}

-- leq n h: n is below h; joining, widening and narrowing give a value of the held one and the new one
pub record Operations (V : Type 0) : Type 0 where
  pub leq : V → V → Bool
  pub join : V → V → V
  pub widen : V → V → V
  pub narrow : V → V → V
  pub same : V → V → Bool

-- the value that a run of the head gives
abbrev pub next_value : {V : Type 0} → Operations V → Phase → (held new : V) → V
next_value ops (Delay j) h n = ops.join h n
next_value ops Up h n = ops.widen h n
next_value ops (Down k) h n = ops.narrow h n
next_value ops Last h n = ops.widen h n

-- what the exit decides
abbrev pub decided_phase : {V : Type 0} → Operations V → (delay narrow : ℕ) → Phase → (held new : V) → Decision Phase
decided_phase ops delay narrow phase h n =
    decision_of delay narrow phase (ops.leq n h) (ops.same (ops.narrow h n) h)

-- A number for each value, at most `most`, that no widening step raises, and that falls where the new value isn't below.
pub record IsRank {V : Type 0} (ops : Operations V) (held : V → Type 0) (most : ℕ) (rank : V → ℕ) : Type 0 where
  pub few : (h : V) → held h → rank h ≤ most
  pub stays : (h n : V) → held h → held n → rank (ops.widen h n) ≤ rank h
  pub falls : (h n : V) → held h → held n → ops.leq n h ≡ false → rank (ops.widen h n) < rank h
