-- How often a head is run in an entry of its component.
use Rattle.std.specs.Prelude.{◌≡◌, ℕ, ◌+◌, ◌*◌}
use Rattle.pk_plan.specs.Order.{Level}
use Rattle.pk_iterate.specs.declared.systems.Decision.{Decision}
use Rattle.pk_iterate.specs.declared.systems.Decision.TheVariants.{Stable, Again}
use Rattle.pk_iterate.specs.Behaviour.{Behaviour}
use Rattle.pk_iterate.specs.Settled.{Once}
use Rattle.pk_iterate.specs.BoundedTurns.{HasComponent, with_cell, inputs_of, EndsWithin}
use Rattle.pk_phases.specs.declared.phases.Phase.{Phase}
use Rattle.pk_phases.specs.Values.{Operations, next_value, decided_phase, IsRank}

-- Values in the cells of heads and phases in those of exits; how many runs join before the first widening, and how many narrow.
pub record Phasing (V C : Type 0) : Type 0 where
  pub ops : Operations V
  pub cell : V → C
  pub value : C → V
  pub phase : C → Phase
  pub delay : ℕ
  pub narrow : ℕ

-- all cells may be held
abbrev pub Held : {C : Type 0} → (ℕ → C → Type 0) → (ℕ → C) → Type 0
Held may_hold cells = (e : ℕ) → may_hold e (cells e)

abbrev pub phase_decision : {C : Type 0} → (C → Phase) → Decision C → Decision Phase
phase_decision phase (Stable c) = Stable (phase c)
phase_decision phase (Again c) = Again (phase c)

-- A component goes by the phases. Of any cells there is a new value for its head, which doesn't hang on the exit's cell:
-- the head's run makes its value of the one that it has and the new one, by the exit's phase, and the exit decides by the same three.
pub record GoesByPhases {V C : Type 0} (p : Phasing V C) (b : Behaviour C) (may_hold : ℕ → C → Type 0)
    (head exit : ℕ) : Type 0 where
  pub new : (ℕ → C) → V
  pub new_stays : (cells : ℕ → C) (c : C) → new (with_cell cells exit c) ≡ new cells
  pub runs : (cells : ℕ → C) → Held may_hold cells → p.value (b.apply head (inputs_of b cells head))
      ≡ next_value p.ops (p.phase (cells exit)) (p.value (cells head)) (new cells)
  pub decides : (cells : ℕ → C) → Held may_hold cells →
      phase_decision p.phase (b.decide exit (inputs_of b cells exit))
      ≡ decided_phase p.ops p.delay p.narrow (p.phase (cells exit)) (p.value (cells head)) (new cells)
  -- the head may hold the value of its cell, and the new one
  pub value_held : (c : C) → may_hold head c → may_hold head (p.cell (p.value c))
  pub new_held : (cells : ℕ → C) → Held may_hold cells → may_hold head (p.cell (new cells))

-- how often an entry runs the head at most, where no chain of widening steps is longer than `chain`
abbrev pub turn_bound : (chain narrow delay : ℕ) → ℕ
turn_bound chain narrow delay = 2 * chain + narrow + 2 + delay

-- a system whose components go by the phases is gone through to its end
abbrev pub PhasesEnd : (V : Type 0) {C : Type 0} → Behaviour C → (ℕ → C → Type 0) → Type 0
PhasesEnd V {C} b may_hold =
    (p : Phasing V C) (rank : V → ℕ) (chain : ℕ) (order : Level) → Once order
    → ((head exit : ℕ) → HasComponent order head exit →
    GoesByPhases p b may_hold head exit × IsRank p.ops (λ v. may_hold head (p.cell v)) chain rank)
    → EndsWithin b order (turn_bound chain p.narrow p.delay)
