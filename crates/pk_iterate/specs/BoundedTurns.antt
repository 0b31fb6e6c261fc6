-- Why the recursion ends: a rank falls from turn to turn of each component.
use Rattle.std.specs.Prelude.{◌≡◌, ◌≢◌, ℕ, suc, ◌==◌, ◌<◌, ◌≤◌, ◌⊎◌, List, [], map, AllPairs, if◌then◌else◌}
use Rattle.pk_plan.specs.declared.places.Place.{Place}
use Rattle.pk_plan.specs.Order.{Level, Empty, Vertex_then, Component_then, places_of}
use Rattle.pk_iterate.specs.declared.systems.Decision.TheVariants.{Again}
use Rattle.pk_iterate.specs.Behaviour.{Behaviour}
use Rattle.pk_iterate.specs.Recursion.{Goes, nothing, vertex, stable, again}
use Rattle.pk_iterate.specs.Settled.{Once}
use Rattle.pk_iterate.specs.Ending.{Ends, trace}

-- the component with this head and this exit stands in the level
abbrev pub HasComponent : Level → (head exit : ℕ) → Type 0
HasComponent Empty h x = ⊥
HasComponent (Vertex_then v more) h x = HasComponent more h x
HasComponent (Component_then head exit rest more) h x =
    ((h ≡ head) × (x ≡ exit)) ⊎ (HasComponent rest h x ⊎ HasComponent more h x)

-- the cells, with another one for x
abbrev pub with_cell : {C : Type 0} → (ℕ → C) → ℕ → C → ℕ → C
with_cell cells x c e = if x == e then c else cells e

-- the cells that an element reads
abbrev pub inputs_of : {C : Type 0} → Behaviour C → (ℕ → C) → ℕ → List C
inputs_of b cells e = map cells (b.reads e)

-- Where the exit decides that its component is gone through again, the head's next run, which comes at once, brings the rank down.
-- The rank is one of the head's cell and of the exit's, and so is the same until the exit is run again.
pub record TurnsFall {C : Type 0} (b : Behaviour C) (may_hold : ℕ → C → Type 0) (most head exit : ℕ) : Type 0 where
  pub rank : C → C → ℕ
  pub below : (h x : C) → may_hold head h → may_hold exit x → rank h x < most
  pub falls : (cells : ℕ → C) (c : C) → ((e : ℕ) → may_hold e (cells e)) →
      b.decide exit (inputs_of b cells exit) ≡ Again c
      → rank (b.apply head (inputs_of b (with_cell cells exit c) head)) c < rank (cells head) (cells exit)

-- how often the head of the level's first component, if it begins with one, is run in this entry
abbrev pub entry_turns : {C : Type 0} {b : Behaviour C} {level : Level} {runs after : List (ℕ × C)} →
    Goes b level runs after → ℕ
entry_turns nothing = 0
entry_turns (vertex g) = 0
entry_turns (stable g d h) = 1
entry_turns (again g d h) = suc (entry_turns h)

-- each entry of a component, at any depth, runs its head at most so often
abbrev pub EntriesWithin : {C : Type 0} {b : Behaviour C} {level : Level} {runs after : List (ℕ × C)} → ℕ →
    Goes b level runs after → Type 0
EntriesWithin most nothing = Unit {0}
EntriesWithin most (vertex g) = EntriesWithin most g
EntriesWithin most (stable g d h) = (1 ≤ most) × EntriesWithin most g × EntriesWithin most h
EntriesWithin most (again g d h) = (entry_turns (again g d h) ≤ most) × EntriesWithin most g × EntriesWithin most h

-- the recursion ends, and each entry of a component runs its head at most so often
pub record EndsWithin {C : Type 0} (b : Behaviour C) (order : Level) (most : ℕ) : Type 0 where
  pub ends : Ends b order
  pub goes : Goes b order [] (trace ends)
  pub entries : EntriesWithin most goes

-- an order in which each element stands once, and whose components have falling turns, is gone through to its end
abbrev pub FallingTurnsEnd : {C : Type 0} → Behaviour C → (ℕ → C → Type 0) → Type 0
FallingTurnsEnd b may_hold =
    (order : Level) (most : ℕ) → Once order
    → ((head exit : ℕ) → HasComponent order head exit → TurnsFall b may_hold most head exit)
    → EndsWithin b order most

-- Where the elements of an order's places differ from one another, each stands once.
abbrev pub DifferentStandOnce : Type 0
DifferentStandOnce =
    (order : Level) → AllPairs (λ a b. a ≢ b) (map (λ (p : Place). p.element) (places_of order)) → Once order
