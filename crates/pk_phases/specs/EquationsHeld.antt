-- The cells of equations may be held.
use Rattle.std.proofs.Common.{◌≡◌, ℕ, List, [], ◌∷◌, map, refl}
use Rattle.pk_iterate.specs.declared.systems.Decision.{Decision}
use Rattle.pk_iterate.specs.declared.systems.Decision.TheVariants.{Stable, Again}
use Rattle.pk_iterate.specs.Behaviour.{HoldEach, decided_cell}
use Rattle.pk_iterate.proofs.Held.{MayHold}
use Rattle.pk_phases.specs.declared.phases.Phase.{Phase}
use Rattle.pk_phases.specs.declared.equations.Cell.{Cell}
use Rattle.pk_phases.specs.declared.equations.Cell.TheVariants.{Value, Exit}
use Rattle.pk_phases.specs.declared.equations.Part.{Part}
use Rattle.pk_phases.specs.declared.equations.Part.TheVariants.{Point, HeadOf, ExitOf}
use Rattle.pk_phases.specs.Equations.{Equations, value_of, phase_of, new_value, reads_in, first_in, head_run, apply_in, exit_cell, exit_run, decide_in, behaviour_of, held_in, may_hold_of, KeepHeld}

module _ {V : Type 0} (q : Equations V) (held : ℕ → V → Type 0) (k : KeepHeld q held) where
  -- the value of a cell may be held, also where that is bottom for a phase
  pub value_at : (e : ℕ) (part : Part) (c : Cell V) → held_in held e part c → held e (value_of q.bottom c)
  value_at e Point (Value v) h = h
  value_at e Point (Exit p) h = absurd h
  value_at e (HeadOf exit) (Value v) h = h
  value_at e (HeadOf exit) (Exit p) h = absurd h
  value_at e (ExitOf head) (Value v) h = absurd h
  value_at e (ExitOf head) (Exit p) h = k.bottom e

  values_of : (us : List ℕ) (cells : List (Cell V)) → HoldEach (may_hold_of q held) us cells →
      HoldEach held us (map (value_of q.bottom) cells)
  values_of [] [] h = tt
  values_of [] (c ∷ cells) h = absurd h
  values_of (u ∷ us) [] h = absurd h
  values_of (u ∷ us) (c ∷ cells) h = (value_at u (q.part u) c h.0, values_of us cells h.1)

  pub new_held : (e : ℕ) (cells : List (Cell V)) → HoldEach (may_hold_of q held) (q.sources e) cells →
      held e (new_value q e cells)
  new_held e cells h = k.value e (map (value_of q.bottom) cells) (values_of (q.sources e) cells h)

  first_held : (e : ℕ) (part : Part) → held_in held e part (first_in q part)
  first_held e Point = k.bottom e
  first_held e (HeadOf exit) = k.bottom e
  first_held e (ExitOf head) = tt

  head_held : (e exit : ℕ) (cells : List (Cell V)) → q.part e ≡ HeadOf exit →
      HoldEach (may_hold_of q held) (exit ∷ (e ∷ q.sources e)) cells → held e (head_run q e cells)
  head_held e exit [] is h = absurd h
  head_held e exit (x ∷ []) is h = absurd h.1
  head_held e exit (x ∷ (c ∷ cells)) is h =
      k.next e (phase_of x) (value_of q.bottom c) (new_value q e cells) (value_at e (q.part e) c h.1.0)
      (new_held e cells h.1.1)

  apply_held : (e : ℕ) (part : Part) (cells : List (Cell V)) → q.part e ≡ part →
      HoldEach (may_hold_of q held) (reads_in q e part) cells → held_in held e part (apply_in q e part cells)
  apply_held e Point cells is h = new_held e cells h
  apply_held e (HeadOf exit) cells is h = head_held e exit cells is h
  apply_held e (ExitOf head) cells is h = tt

  exit_held : (e head : ℕ) (d : Decision Phase) → held_in held e (ExitOf head) (decided_cell (exit_cell {V = V} d))
  exit_held e head (Stable p) = tt
  exit_held e head (Again p) = tt

  decide_held : (e : ℕ) (part : Part) (cells : List (Cell V)) →
      held_in held e part (decided_cell (decide_in q part cells))
  decide_held e Point cells = k.bottom e
  decide_held e (HeadOf exit) cells = k.bottom e
  decide_held e (ExitOf head) cells = exit_held e head (exit_run q head cells)

  pub equations_hold : MayHold (behaviour_of q) (may_hold_of q held)
  equations_hold = record {
    first = λ e. first_held e (q.part e);
    apply = λ e cells h. apply_held e (q.part e) cells refl h;
    decide = λ e cells h. decide_held e (q.part e) cells;
  }
