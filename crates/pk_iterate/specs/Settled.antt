-- What the cells are once no run is left.
use Rattle.std.specs.Prelude.{◌≡◌, ◌≢◌, ℕ, ◌<◌, ◌⊎◌, ◌==◌, List, [], ◌∷◌, if◌then◌else◌}
use Rattle.pk_plan.specs.Order.{Level, Empty, Vertex_then, Component_then}
use Rattle.pk_iterate.specs.declared.systems.Decision.TheVariants.{Stable}
use Rattle.pk_iterate.specs.Behaviour.{Behaviour}
use Rattle.pk_iterate.specs.Iteration.{count_of, cell_after, inputs_after, progress}
use Rattle.pk_iterate.specs.Runs.{runs_before}

-- e stands in the level, at any depth
abbrev pub In : Level → ℕ → Type 0
In Empty e = ⊥
In (Vertex_then v more) e = (e ≡ v) ⊎ In more e
In (Component_then head exit rest more) e = (e ≡ head) ⊎ ((e ≡ exit) ⊎ (In rest e ⊎ In more e))

-- no element stands twice
abbrev pub Once : Level → Type 0
Once Empty = Unit {0}
Once (Vertex_then v more) = (In more v → ⊥) × Once more
Once (Component_then head exit rest more) =
    (head ≢ exit) × (In rest head → ⊥) × (In more head → ⊥) × (In rest exit → ⊥) × (In more exit → ⊥)
    × ((e : ℕ) → In rest e → In more e → ⊥) × Once rest × Once more

-- u stands to the left of e
abbrev pub Ahead : Level → ℕ → ℕ → Type 0
Ahead Empty u e = ⊥
Ahead (Vertex_then v more) u e = ((u ≡ v) × In more e) ⊎ Ahead more u e
Ahead (Component_then head exit rest more) u e =
    ((u ≡ head) × (In rest e ⊎ ((e ≡ exit) ⊎ In more e)))
    ⊎ ((In rest u × ((e ≡ exit) ⊎ In more e)) ⊎ (((u ≡ exit) × In more e) ⊎ (Ahead rest u e ⊎ Ahead more u e)))

-- x is the exit of a component
abbrev pub IsExit : Level → ℕ → Type 0
IsExit Empty x = ⊥
IsExit (Vertex_then v more) x = IsExit more x
IsExit (Component_then head exit rest more) x = (x ≡ exit) ⊎ (IsExit rest x ⊎ IsExit more x)

-- the runs before e's newest
abbrev pub before_newest : {C : Type 0} → List (ℕ × C) → ℕ → List (ℕ × C)
before_newest [] e = []
before_newest (r ∷ runs) e = if r.0 == e then runs else before_newest runs e

-- what holds of these runs, and of the cells that they leave
pub record IsSettled {C : Type 0} (b : Behaviour C) (order : Level) (runs : List (ℕ × C)) : Type 0 where
  -- each element was run
  pub each : (e : ℕ) → In order e → 0 < count_of runs e
  -- what stands to the left of an element wasn't run after the element's newest run
  pub ahead : (u e : ℕ) → Ahead order u e → count_of (before_newest runs e) u ≡ count_of runs u
  -- so the element's newest run read what that has at the end
  pub read : (u e : ℕ) → Ahead order u e → cell_after b (before_newest runs e) u ≡ cell_after b runs u
  -- and that run is the one which the number of its runs names
  pub named : (e : ℕ) → In order e → runs_before runs e (count_of runs e) ≡ before_newest runs e
  -- the newest run of each exit decided that its component is stable, and gave the exit its cell
  pub ends : (x : ℕ) → IsExit order x →
      (c : C) × (b.decide x (inputs_after b (before_newest runs x) x) ≡ Stable c) × (cell_after b runs x ≡ c)

-- Where each element stands once, the runs are settled when none is left.
abbrev pub WholeIsSettled : {C : Type 0} → Behaviour C → Type 0
WholeIsSettled b =
    (order : Level) (n : ℕ) → Once order → (progress b order n).left ≡ [] →
    IsSettled b order (progress b order n).runs
