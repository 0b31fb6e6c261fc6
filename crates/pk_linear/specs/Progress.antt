-- What is known while the elements of a plan are placed.
use Rattle.std.specs.Prelude.{◌≡◌, ◌≢◌, ℕ, ◌+◌, ◌-◌, ◌<◌, ◌≤◌, ◌↔◌, ◌⊎◌, List, [], ◌∷◌, ◌++◌, length, reverse, slice_index, slice_index_or, Contains}
use Rattle.pk_plan.specs.declared.components.Component.{Component}
use Rattle.pk_plan.specs.declared.places.Role.{Role}
use Rattle.pk_plan.specs.declared.places.Role.TheVariants.{Vertex, Head, Exit}
use Rattle.pk_plan.specs.declared.places.Place.{Place}
use Rattle.pk_plan.specs.Plans.{PlanView, place_of}
use Rattle.pk_plan.specs.Digraphs.{lists_of}
use Rattle.pk_linear.specs.declared.waits.Reading.{Reading}
use Rattle.pk_linear.specs.declared.progress.Opened.{Opened}
use Rattle.pk_linear.specs.declared.progress.Progress.{Progress}
use Rattle.pk_linear.specs.Waits.{AreLasts, WaitsFor, WaitsNoMore, IsPlaced, IsReadTo}
use Rattle.pk_linear.specs.Steps.{Stands, IsOpen, IsFree, Follows, AreSteps}

abbrev pub reading_of : Progress → ℕ → Reading
reading_of s e = slice_index_or s.readings.items e (record { place = 0; read = 0 })

-- e was made to wait for a
abbrev pub IsWaiting : Progress → ℕ → ℕ → Type 0
IsWaiting s a e = Contains (slice_index_or (lists_of s.waiting.items) a []) e

-- e is ready at the level inside these components
pub record IsCandidate (p : PlanView) (lasts : List ℕ) (places : List Place) (around : List Component)
    (e : ℕ) : Type 0 where
  pub within : e < p.elements
  pub fresh : Stands places e → ⊥
  pub free : IsFree p lasts places e
  pub inside : (c : Component) → Contains around c → Follows p c e

-- an open component, the others around it, and what is ready around it
pub record IsOpened (p : PlanView) (lasts : List ℕ) (places : List Place) (c : Component) (around : List Component)
    (o : Opened) : Type 0 where
  pub is_open : IsOpen p places c
  pub head : (above below : List Place) (head : Place) → places ≡ above ++ head ∷ below → head.element ≡ c.head →
      length above ≡ o.head
  pub within : (d : Component) → Contains around d → (d.first < c.first) × (c.end < d.end)
  pub ready : (e : ℕ) → Contains o.ready.keys e → IsCandidate p lasts places around e
  pub outside : (e : ℕ) → Contains o.ready.keys e → c.first ≤ place_of p e → place_of p e ≤ c.end → ⊥

-- the open components, the innermost first
abbrev pub AreOpened : PlanView → List ℕ → List Place → List Component → List Opened → Type 0
AreOpened p lasts places [] [] = Unit {0}
AreOpened p lasts places [] (o ∷ os) = ⊥
AreOpened p lasts places (c ∷ cs) [] = ⊥
AreOpened p lasts places (c ∷ cs) (o ∷ os) = IsOpened p lasts places c cs o × AreOpened p lasts places cs os

-- e is ready around one of the open components
abbrev pub IsReadyAround : List Opened → ℕ → Type 0
IsReadyAround opened e = (o : Opened) × Contains opened o × Contains o.ready.keys e

-- Between two steps, where the elements in `ready` are ready at the innermost level, and those in `left` are yet to be looked at.
pub record IsKnown (p : PlanView) (s : Progress) (ready : List ℕ) (left : ℕ → Type 0) : Type 0 where
  pub lasts : AreLasts p s.lasts.items
  pub marks : length s.placed.items ≡ p.elements
  pub readings : length s.readings.items ≡ p.elements
  pub waiting : length s.waiting.items ≡ p.elements
  pub steps : AreSteps p s.lasts.items s.places.items
  pub marked : (e : ℕ) → IsPlaced s.placed.items e ↔ Stands s.places.items e
  pub read : (e : ℕ) → e < p.elements → IsReadTo p s.placed.items e (reading_of s e)
  pub waits : (a e : ℕ) → IsWaiting s a e → (Stands s.places.items a → ⊥) →
      (e < p.elements) × WaitsFor p s.lasts.items e a
  pub components : List Component
  pub opened : AreOpened p s.lasts.items s.places.items components (reverse s.opened.items)
  pub all_open : (c : Component) → IsOpen p s.places.items c → Contains components c
  pub candidates : (e : ℕ) → Contains ready e → IsCandidate p s.lasts.items s.places.items components e
  pub found : (e : ℕ) → e < p.elements → (Stands s.places.items e → ⊥)
      → Contains ready e ⊎ IsReadyAround s.opened.items e
      ⊎ ((a : ℕ) × IsWaiting s a e × (Stands s.places.items a → ⊥)) ⊎ left e

-- An item was looked at: it waits for an element that isn't placed, or it is ready.
pub record IsLookedAt (p : PlanView) (old new : Progress) (item : ℕ) : Type 0 where
  pub same : new ≡ record old { readings = new.readings; waiting = new.waiting; ready = new.ready }
  pub readings : length new.readings.items ≡ length old.readings.items
  pub waiting : length new.waiting.items ≡ length old.waiting.items
  pub read : (e : ℕ) → IsReadTo p old.placed.items e (reading_of old e) →
      IsReadTo p old.placed.items e (reading_of new e)
  pub ready_from : (e : ℕ) → Contains new.ready.keys e →
      Contains old.ready.keys e ⊎ ((e ≡ item) × WaitsNoMore p old.lasts.items old.placed.items item)
  pub ready_kept : (e : ℕ) → Contains old.ready.keys e → Contains new.ready.keys e
  pub waits_from : (a e : ℕ) → IsWaiting new a e → IsWaiting old a e ⊎ ((e ≡ item) × WaitsFor p old.lasts.items item a)
  pub waits_kept : (a e : ℕ) → IsWaiting old a e → IsWaiting new a e
  pub seen : Contains new.ready.keys item ⊎ ((a : ℕ) × IsWaiting new a item × (IsPlaced old.placed.items a → ⊥))

-- how the open components and the ready elements change where an element is placed in a role
abbrev pub Turns : PlanView → Progress → Progress → ℕ → Role → Type 0
Turns p old new e Vertex =
    (new ≡ old) × (((e < p.points) × (slice_index old.lasts.items e ≡ place_of p e)) ⊎ (e + 1 ≡ p.elements))
Turns p old new e Head =
    (new ≡ record old { opened = new.opened; ready = new.ready })
    × (e < p.points) × (slice_index old.lasts.items e ≢ place_of p e)
    × (new.opened.items ≡ old.opened.items ++ record { head = length old.places.items; ready = old.ready } ∷ [])
    × (new.ready.keys ≡ [])
Turns p old new e (Exit back) =
    (new ≡ record old { opened = new.opened; ready = new.ready })
    × (p.points ≤ e) × (e + 1 < p.elements)
    × (o : Opened) × (old.opened.items ≡ new.opened.items ++ o ∷ []) × (new.ready ≡ o.ready)
    × (back ≡ length old.places.items - o.head)
