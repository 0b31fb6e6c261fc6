-- The recursive iteration over the brackets, as rules (F. Bourdoncle, Efficient chaotic iteration strategies with widenings, 1993).
use Rattle.std.specs.Prelude.{◌≡◌, ℕ, List, ◌∷◌}
use Rattle.pk_plan.specs.Order.{Level, Empty, Vertex_then, Component_then}
use Rattle.pk_iterate.specs.declared.systems.Decision.TheVariants.{Stable, Again}
use Rattle.pk_iterate.specs.Behaviour.{Behaviour}
use Rattle.pk_iterate.specs.Iteration.{inputs_after}

-- an element's run
abbrev pub run_of : {C : Type 0} → Behaviour C → List (ℕ × C) → ℕ → ℕ × C
run_of b runs e = (e, b.apply e (inputs_after b runs e))

-- Goes b level runs after: after these runs, the newest first, a level is gone through from left to right, and then these runs were made.
pub data Goes {C : Type 0} (b : Behaviour C) : Level → List (ℕ × C) → List (ℕ × C) → Type 0 where
  nothing : {runs : List (ℕ × C)} → Goes b Empty runs runs
  -- a vertex is run once
  vertex : {v : ℕ} {more : Level} {runs after : List (ℕ × C)} → Goes b more (run_of b runs v ∷ runs) after →
      Goes b (Vertex_then v more) runs after
  -- of a component the head is run, then its rest is gone through, and then its exit is run; where it is stable, the component ends
  stable : {head exit : ℕ} {rest more : Level} {runs inner after : List (ℕ × C)} {c : C} →
      Goes b rest (run_of b runs head ∷ runs) inner → b.decide exit (inputs_after b inner exit) ≡ Stable c →
      Goes b more ((exit, c) ∷ inner) after → Goes b (Component_then head exit rest more) runs after
  -- else this is repeated from the head
  again : {head exit : ℕ} {rest more : Level} {runs inner after : List (ℕ × C)} {c : C} →
      Goes b rest (run_of b runs head ∷ runs) inner → b.decide exit (inputs_after b inner exit) ≡ Again c →
      Goes b (Component_then head exit rest more) ((exit, c) ∷ inner) after →
      Goes b (Component_then head exit rest more) runs after
