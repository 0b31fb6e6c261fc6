-- The equations keep to states over the graph's variables.
use Rattle.std.proofs.Common.{ℕ, refl}
use Rattle.pk_state.specs.Facts.{Stated}
use Rattle.pk_phases.specs.declared.phases.Phase.{Phase}
use Rattle.pk_phases.specs.declared.phases.Phase.TheVariants.{Delay, Up, Down, Last}
use Rattle.pk_phases.specs.Values.{next_value}
use Rattle.pk_phases.specs.Equations.{KeepHeld}
use Rattle.pk_analysis.specs.Flows.{Flow, equations_of, IsOverFlow}

pub flow_keeps : (a : Flow) → KeepHeld (equations_of a) (IsOverFlow a)
flow_keeps a = record {
  bottom = λ e. refl;
  value = λ e vs h. refl;
  next = next;
}
  where
    next : (e : ℕ) (phase : Phase) (h n : Stated) → IsOverFlow a e h → IsOverFlow a e n →
        IsOverFlow a e (next_value (equations_of a).ops phase h n)
    next e (Delay k) h n i j = refl
    next e Up h n i j = refl
    next e (Down k) h n i j = refl
    next e Last h n i j = refl
