-- What every plan meets (after S. K. Kim, A. J. Venet, A. V. Thakur, Deterministic parallel fixpoint computation, 2020).
use Rattle.std.specs.Prelude.{◌≡◌, ◌≢◌, ℕ, ◌+◌, ◌<◌, ◌⊎◌, length, map, slice_index, Contains, All}
use Rattle.std.specs.List.Sorted.{IsStrictlyIncreasing}
use Rattle.std.specs.List.{range_with_len}
use Rattle.pk_plan.specs.declared.components.Component.{Component}
use Rattle.pk_plan.specs.Plans.{PlanView, end_of, predecessors_of, Constrains, Precedes, place_of, Inside}

pub record Axioms (p : PlanView) : Type 0 where
  -- the points, an exit for each component in the order of their heads, and END
  pub counted : p.elements ≡ p.points + length p.components + 1
  pub heads : IsStrictlyIncreasing (map (λ (c : Component). c.head) p.components)
  pub points : All (λ (c : Component). c.head < p.points) p.components
  pub exits : map (λ (c : Component). c.exit) p.components ≡ range_with_len p.points (length p.components)
  -- each constraint stands once in the list of each of its ends
  pub successor_lists : length p.successors ≡ p.elements
  pub predecessor_lists : length p.predecessors ≡ p.elements
  pub to_predecessor : (a b : ℕ) → Constrains p a b → Contains (predecessors_of p b) a
  pub to_successor : (a b : ℕ) → Contains (predecessors_of p b) a → Constrains p a b
  pub within : (a b : ℕ) → Constrains p a b → b < p.elements
  pub successors_rise : All IsStrictlyIncreasing p.successors
  pub predecessors_rise : All IsStrictlyIncreasing p.predecessors
  -- the listing has each element once
  pub listed : length p.listing ≡ p.elements
  pub placed : length p.places ≡ p.elements
  pub place : (e : ℕ) → e < p.elements → place_of p e < p.elements
  pub element : (at : ℕ) → at < p.elements → slice_index p.listing at < p.elements
  pub at_place : (e : ℕ) → e < p.elements → slice_index p.listing (place_of p e) ≡ e
  pub place_at : (at : ℕ) → at < p.elements → place_of p (slice_index p.listing at) ≡ at
  -- a constraint leads to a later place of the listing; hence there is no cycle
  pub rises : (a b : ℕ) → Constrains p a b → place_of p a < place_of p b
  -- END is in no component and precedes nothing; all else precedes it
  pub end_outside : (c : Component) → Contains p.components c → Inside p c (end_of p) → ⊥
  pub end_is_last : (b : ℕ) → Constrains p (end_of p) b → ⊥
  pub before_end : (e : ℕ) → e < end_of p → Precedes p e (end_of p)
  -- a component is the stretch from its head up to its exit; components are disjoint or nested
  pub first : All (λ (c : Component). c.first ≡ place_of p c.head) p.components
  pub end : All (λ (c : Component). c.end ≡ place_of p c.exit) p.components
  pub not_empty : All (λ (c : Component). c.first < c.end) p.components
  pub nested : (c d : Component) → Contains p.components c → Contains p.components d → c.first < d.first →
      d.first < c.end → d.end < c.end
  -- the head precedes the other members, and all members precede the exit
  pub after_head : (c : Component) (e : ℕ) → Contains p.components c → Inside p c e → e ≢ c.head → Precedes p c.head e
  pub before_exit : (c : Component) (e : ℕ) → Contains p.components c → Inside p c e → Precedes p e c.exit
  -- a constraint from a member leads to a member or to the exit
  pub stays : (c : Component) (a b : ℕ) → Contains p.components c → Inside p c a → Constrains p a b →
      Inside p c b ⊎ (b ≡ c.exit)
