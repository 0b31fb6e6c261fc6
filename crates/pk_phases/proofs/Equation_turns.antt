-- Equations go by the phases.
use Rattle.std.proofs.Common.{◌≡◌, ◌≢◌, ℕ, List, [], ◌∷◌, map, ap, sym, subst, ◌∙◌, refl, All}
use Rattle.std.proofs.lemmas.Bool.{ne_eqb}
use Rattle.std.proofs.lemmas.List.Elements.{All-head, All-tail}
use Rattle.pk_iterate.specs.declared.systems.Decision.{Decision}
use Rattle.pk_iterate.specs.declared.systems.Decision.TheVariants.{Stable, Again}
use Rattle.pk_iterate.specs.BoundedTurns.{with_cell, inputs_of}
use Rattle.pk_iterate.proofs.Held.{holds_map}
use Rattle.pk_phases.specs.declared.phases.Phase.{Phase}
use Rattle.pk_phases.specs.declared.equations.Cell.{Cell}
use Rattle.pk_phases.specs.declared.equations.Cell.TheVariants.{Value}
use Rattle.pk_phases.specs.declared.equations.Part.{Part}
use Rattle.pk_phases.specs.declared.equations.Part.TheVariants.{HeadOf, ExitOf}
use Rattle.pk_phases.specs.Values.{next_value, decided_phase, IsRank}
use Rattle.pk_phases.specs.Turns.{Phasing, phase_decision, GoesByPhases}
use Rattle.pk_phases.specs.Equations.{Equations, value_of, phase_of, new_value, reads_in, exit_cell, behaviour_of, held_in, may_hold_of, IsExit, KeepHeld, ReadsPoints, EquationsEnd}
use Rattle.pk_phases.specs.EquationsHeld.{value_at, new_held, equations_hold}
use Rattle.pk_phases.proofs.Turn_ranks.{phases_end}

module _ {V : Type 0} (q : Equations V) (held : ℕ → V → Type 0) (k : KeepHeld q held) (apart : ReadsPoints q) where
  abbrev phasing : Phasing V (Cell V)
  phasing = record { ops = q.ops; cell = Value; value = value_of q.bottom; phase = phase_of; delay = q.delay; narrow = q.narrow }

  module _ (head exit : ℕ) (head_is : q.part head ≡ HeadOf exit) (exit_is : q.part exit ≡ ExitOf head) where
    abbrev new : (ℕ → Cell V) → V
    new cells = new_value q head (map cells (q.sources head))

    -- no source is the exit
    not_exit : (u : ℕ) → (IsExit (q.part u) → ⊥) → u ≢ exit
    not_exit u point same = point (subst IsExit (sym (ap q.part same ∙ exit_is)) tt)

    same_sources : (cells : ℕ → Cell V) (c : Cell V) (us : List ℕ) → All (λ u. IsExit (q.part u) → ⊥) us → map (with_cell cells exit c) us ≡ map cells us
    same_sources cells c [] points = refl
    same_sources cells c (u ∷ us) points =
        let differ : u ≢ exit = not_exit u (All-head (λ (v : ℕ). IsExit (q.part v) → ⊥) u us points) in
        let rest = same_sources cells c us (All-tail (λ (v : ℕ). IsExit (q.part v) → ⊥) u us points) in
        rw (ne_eqb exit u (λ same. differ (sym same)), rest) refl

    reads_are : (e : ℕ) (part : Part) → q.part e ≡ part → (behaviour_of q).reads e ≡ reads_in q e part
    reads_are e part is = ap (reads_in q e) is

    runs : (cells : ℕ → Cell V) → value_of q.bottom ((behaviour_of q).apply head (inputs_of (behaviour_of q) cells head)) ≡ next_value q.ops (phase_of (cells exit)) (value_of q.bottom (cells head)) (new cells)
    runs cells = rw head_is refl

    decided : (d : Decision Phase) → phase_decision phase_of (exit_cell {V = V} d) ≡ d
    decided (Stable p) = refl
    decided (Again p) = refl

    decides : (cells : ℕ → Cell V) → phase_decision phase_of ((behaviour_of q).decide exit (inputs_of (behaviour_of q) cells exit)) ≡ decided_phase q.ops q.delay q.narrow (phase_of (cells exit)) (value_of q.bottom (cells head)) (new cells)
    decides cells = rw exit_is (decided (decided_phase q.ops q.delay q.narrow (phase_of (cells exit)) (value_of q.bottom (cells head)) (new cells)))

    by_phases : GoesByPhases phasing (behaviour_of q) (may_hold_of q held) head exit
    by_phases = record {
      new = new;
      new_stays = λ cells c. ap (new_value q head) (same_sources cells c (q.sources head) (apart head));
      runs = λ cells h. runs cells;
      decides = λ cells h. decides cells;
      value_held = λ c h. subst (λ (p : Part). held_in held head p (Value (value_of q.bottom c))) (sym head_is) (value_at q held k head (q.part head) c h);
      new_held = λ cells h. subst (λ (p : Part). held_in held head p (Value (new cells))) (sym head_is) (new_held q held k head (map cells (q.sources head)) (holds_map (may_hold_of q held) cells (q.sources head) h));
    }

    value_is_held : (v : V) → may_hold_of q held head (Value v) → held head v
    value_is_held v h = value_at q held k head (q.part head) (Value v) h

    rank_of : (chain : ℕ) (rank : V → ℕ) → IsRank q.ops (held head) chain rank → IsRank q.ops (λ v. may_hold_of q held head (Value v)) chain rank
    rank_of chain rank r = record {
      few = λ h i. r.few h (value_is_held h i);
      stays = λ h n i j. r.stays h n (value_is_held h i) (value_is_held n j);
      falls = λ h n i j e. r.falls h n (value_is_held h i) (value_is_held n j) e;
    }

pub equations_end : {V : Type 0} (q : Equations V) (held : ℕ → V → Type 0) → KeepHeld q held → EquationsEnd q held
equations_end {V} q held k order rank chain once parts apart ranks =
    phases_end V (behaviour_of q) (may_hold_of q held) (equations_hold q held k) (phasing q held k apart) rank chain order once
    (λ head exit i. let is = parts head exit i in (by_phases q held k apart head exit is.0 is.1, rank_of q held k apart head exit is.0 is.1 chain rank (ranks head exit i)))
