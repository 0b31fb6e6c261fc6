-- What the equations' cells are once no run is left.
use Rattle.std.specs.Prelude.{◌≡◌, ℕ, map, Contains, true}
use Rattle.pk_plan.specs.Order.{Level}
use Rattle.pk_iterate.specs.Settled.{In, Once, Ahead}
use Rattle.pk_iterate.specs.Ending.{Ends, result_cell}
use Rattle.pk_iterate.specs.BoundedTurns.{HasComponent}
use Rattle.pk_phases.specs.declared.equations.Cell.TheVariants.{Value}
use Rattle.pk_phases.specs.declared.equations.Part.TheVariants.{Point}
use Rattle.pk_phases.specs.Equations.{Equations, value_of, new_value, behaviour_of, PartsAreOf}

-- a point's sources stand to its left, and a head's to the left of its exit
pub record SourcesAhead {V : Type 0} (q : Equations V) (order : Level) : Type 0 where
  pub points : (v u : ℕ) → In order v → q.part v ≡ Point → Contains (q.sources v) u → Ahead order u v
  pub heads : (head exit u : ℕ) → HasComponent order head exit → Contains (q.sources head) u → Ahead order u exit

-- Each point has the value of its equation, and at each head that value is below the head's.
pub record AreSolved {V : Type 0} (q : Equations V) (order : Level) (ends : Ends (behaviour_of q) order) : Type 0 where
  pub points : (v : ℕ) → In order v → q.part v ≡ Point →
      result_cell ends v ≡ Value (new_value q v (map (result_cell ends) (q.sources v)))
  pub heads : (head exit : ℕ) → HasComponent order head exit →
      q.ops.leq (new_value q head (map (result_cell ends) (q.sources head)))
      (value_of q.bottom (result_cell ends head)) ≡ true

abbrev pub EndIsSolved : {V : Type 0} → Equations V → Type 0
EndIsSolved q =
    (order : Level) → Once order → PartsAreOf q order → SourcesAhead q order → (ends : Ends (behaviour_of q) order) →
    AreSolved q order ends
