-- A system of equations on values, iterated by the phases.
use Rattle.std.specs.Prelude.{◌≡◌, ℕ, List, [], ◌∷◌, map, All}
use Rattle.pk_plan.specs.Order.{Level}
use Rattle.pk_iterate.specs.declared.systems.Decision.{Decision}
use Rattle.pk_iterate.specs.declared.systems.Decision.TheVariants.{Stable, Again}
use Rattle.pk_iterate.specs.Behaviour.{Behaviour, HoldEach}
use Rattle.pk_iterate.specs.Settled.{Once}
use Rattle.pk_iterate.specs.BoundedTurns.{HasComponent, EndsWithin}
use Rattle.pk_phases.specs.declared.phases.Phase.{Phase}
use Rattle.pk_phases.specs.declared.phases.Phase.TheVariants.{Up}
use Rattle.pk_phases.specs.declared.equations.Cell.{Cell}
use Rattle.pk_phases.specs.declared.equations.Cell.TheVariants.{Value, Exit}
use Rattle.pk_phases.specs.declared.equations.Part.{Part}
use Rattle.pk_phases.specs.declared.equations.Part.TheVariants.{Point, HeadOf, ExitOf}
use Rattle.pk_phases.specs.Table.{first_phase_of}
use Rattle.pk_phases.specs.Values.{Operations, next_value, decided_phase, IsRank}
use Rattle.pk_phases.specs.Turns.{turn_bound}

-- What each element is, whose values a point's equation reads, and what value the equation gives of them.
pub record Equations (V : Type 0) : Type 0 where
  pub ops : Operations V
  pub bottom : V
  pub part : ℕ → Part
  pub sources : ℕ → List ℕ
  pub value : ℕ → List V → V
  pub delay : ℕ
  pub narrow : ℕ

-- a cell's value, and bottom for a phase; a cell's phase, and Up for a value
abbrev pub value_of : {V : Type 0} → V → Cell V → V
value_of bottom (Value v) = v
value_of bottom (Exit p) = bottom

abbrev pub phase_of : {V : Type 0} → Cell V → Phase
phase_of (Value v) = Up
phase_of (Exit p) = p

-- the point equation's value, of the cells that it reads
abbrev pub new_value : {V : Type 0} → Equations V → ℕ → List (Cell V) → V
new_value q e cells = q.value e (map (value_of q.bottom) cells)

-- A head reads its exit's phase and its own value before the sources, an exit its own phase and its head's value before the head's sources.
abbrev pub reads_in : {V : Type 0} → Equations V → ℕ → Part → List ℕ
reads_in q e Point = q.sources e
reads_in q e (HeadOf exit) = exit ∷ (e ∷ q.sources e)
reads_in q e (ExitOf head) = e ∷ (head ∷ q.sources head)

abbrev pub first_in : {V : Type 0} → Equations V → Part → Cell V
first_in q Point = Value q.bottom
first_in q (HeadOf exit) = Value q.bottom
first_in q (ExitOf head) = Exit (first_phase_of q.delay)

-- the head's run, and nothing new where the cells are too few
abbrev pub head_run : {V : Type 0} → Equations V → ℕ → List (Cell V) → V
head_run q e [] = q.bottom
head_run q e (x ∷ []) = q.bottom
head_run q e (x ∷ (h ∷ cells)) = next_value q.ops (phase_of x) (value_of q.bottom h) (new_value q e cells)

abbrev pub apply_in : {V : Type 0} → Equations V → ℕ → Part → List (Cell V) → Cell V
apply_in q e Point cells = Value (new_value q e cells)
apply_in q e (HeadOf exit) cells = Value (head_run q e cells)
apply_in q e (ExitOf head) cells = Exit Up

abbrev pub exit_cell : {V : Type 0} → Decision Phase → Decision (Cell V)
exit_cell (Stable p) = Stable (Exit p)
exit_cell (Again p) = Again (Exit p)

abbrev pub exit_run : {V : Type 0} → Equations V → ℕ → List (Cell V) → Decision Phase
exit_run q head [] = Stable Up
exit_run q head (x ∷ []) = Stable Up
exit_run q head (x ∷ (h ∷ cells)) =
    decided_phase q.ops q.delay q.narrow (phase_of x) (value_of q.bottom h) (new_value q head cells)

-- for other elements than exits this is never asked
abbrev pub decide_in : {V : Type 0} → Equations V → Part → List (Cell V) → Decision (Cell V)
decide_in q Point cells = Stable (Value q.bottom)
decide_in q (HeadOf exit) cells = Stable (Value q.bottom)
decide_in q (ExitOf head) cells = exit_cell (exit_run q head cells)

abbrev pub behaviour_of : {V : Type 0} → Equations V → Behaviour (Cell V)
behaviour_of q = record {
  reads = λ e. reads_in q e (q.part e);
  first = λ e. first_in q (q.part e);
  apply = λ e cells. apply_in q e (q.part e) cells;
  decide = λ e cells. decide_in q (q.part e) cells;
}

-- points hold values, exits phases
abbrev pub held_in : {V : Type 0} → (ℕ → V → Type 0) → ℕ → Part → Cell V → Type 0
held_in held e Point (Value v) = held e v
held_in held e Point (Exit p) = ⊥
held_in held e (HeadOf exit) (Value v) = held e v
held_in held e (HeadOf exit) (Exit p) = ⊥
held_in held e (ExitOf head) (Value v) = ⊥
held_in held e (ExitOf head) (Exit p) = Unit {0}

abbrev pub may_hold_of : {V : Type 0} → Equations V → (ℕ → V → Type 0) → ℕ → Cell V → Type 0
may_hold_of q held e c = held_in held e (q.part e) c

abbrev pub IsExit : Part → Type 0
IsExit Point = ⊥
IsExit (HeadOf exit) = ⊥
IsExit (ExitOf head) = Unit {0}

-- two values that a point may hold
abbrev pub AreHeld : {V : Type 0} → (ℕ → V → Type 0) → V → V → Type 0
AreHeld held h n = (e : ℕ) × held e h × held e n

-- The equations keep to the values that their points may hold.
pub record KeepHeld {V : Type 0} (q : Equations V) (held : ℕ → V → Type 0) : Type 0 where
  pub bottom : (e : ℕ) → held e q.bottom
  pub value : (e : ℕ) (vs : List V) → HoldEach held (q.sources e) vs → held e (q.value e vs)
  pub next : (e : ℕ) (phase : Phase) (h n : V) → held e h → held e n → held e (next_value q.ops phase h n)

-- points read points alone
abbrev pub ReadsPoints : {V : Type 0} → Equations V → Type 0
ReadsPoints q = (e : ℕ) → All (λ u. IsExit (q.part u) → ⊥) (q.sources e)

-- the order's components are those of the equations
abbrev pub PartsAreOf : {V : Type 0} → Equations V → Level → Type 0
PartsAreOf q order =
    (head exit : ℕ) → HasComponent order head exit → (q.part head ≡ HeadOf exit) × (q.part exit ≡ ExitOf head)

-- with a rank of the values that a head may hold the recursion ends, and each entry of a component runs its head only so often
abbrev pub EquationsEnd : {V : Type 0} → Equations V → (ℕ → V → Type 0) → Type 0
EquationsEnd {V} q held =
    (order : Level) (rank : V → ℕ) (chain : ℕ) → Once order → PartsAreOf q order → ReadsPoints q
    → ((head exit : ℕ) → HasComponent order head exit → IsRank q.ops (held head) chain rank)
    → EndsWithin (behaviour_of q) order (turn_bound chain q.narrow q.delay)
