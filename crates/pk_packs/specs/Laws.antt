-- What holds of packs.
use Rattle.std.specs.Prelude.{◌≡◌, ℕ, ◌+◌, ◌<◌, ◌≤◌, ◌⊎◌, ◌↔◌, Bool, IsTrue, List, [], ◌∷◌, length, slice_index_or, Contains}
use Rattle.std.specs.List.Sorted.{IsStrictlyIncreasing}
use Rattle.pk_graph.specs.Graphs.{EdgeOf, GraphOf, point_at, variable_at}
use Rattle.pk_graph.specs.OctagonVariables.{is_asked_by, is_named_scalar, octagon_variables_of}
use Rattle.pk_plan.specs.declared.components.Component.{Component}
use Rattle.pk_plan.specs.Plans.{PlanView, Inside}
use Rattle.pk_plan.specs.Axioms.{Axioms}
use Rattle.pk_packs.specs.Belongs.{lies_in, belongs}
use Rattle.pk_packs.specs.Packs.{packs_of, pack_count}
use Rattle.pk_packs.specs.Chains.{IsChainBound}
use Rattle.pk_thresh.specs.Chains as chains

-- a named scalar that occurs in a guard, an assertion or an index of an edge that f takes
pub record IsAskedOver (g : GraphOf) (f : (from : ℕ) → EdgeOf → Bool) (x : ℕ) : Type 0 where
  pub there : x < length g.variables
  pub scalar : IsTrue (is_named_scalar (variable_at g x))
  pub from : ℕ
  pub edge : EdgeOf
  pub point : from < length g.points
  pub begins : Contains (point_at g from).edges edge
  pub taken : IsTrue (f from edge)
  pub asks : IsTrue (is_asked_by x edge.instr)

-- the first n numbers of which P holds, rising
pub record AreFirst (P : ℕ → Type 0) (n : ℕ) (xs : List ℕ) : Type 0 where
  pub rising : IsStrictlyIncreasing xs
  pub few : length xs ≤ n
  pub each : (x : ℕ) → Contains xs x → P x
  pub first : (x : ℕ) → P x → Contains xs x ⊎ ((length xs ≡ n) × ((y : ℕ) → Contains xs y → y < x))

-- A pack's variables are the first of those that its edges ask for.
abbrev pub PacksAreOfTheirEdges : Type 0
PacksAreOfTheirEdges =
    (g : GraphOf) (p : PlanView) (n pack : ℕ) → pack < pack_count p →
    AreFirst (IsAskedOver g (belongs p pack)) n (slice_index_or (packs_of g p n) pack [])

-- Each edge belongs to a pack, and to pack 0 exactly where it belongs to no other.
abbrev pub EdgesHavePacks : Type 0
EdgesHavePacks =
    (p : PlanView) (from : ℕ) (e : EdgeOf) →
    IsTrue (belongs p 0 from e) ↔ ((k : ℕ) → k < length p.components → IsTrue (belongs p (k + 1) from e) → ⊥)

-- An edge lies in a component where both its ends are members.
abbrev pub EdgesLieBetweenMembers : Type 0
EdgesLieBetweenMembers =
    (p : PlanView) (c : Component) (from : ℕ) (e : EdgeOf) → Axioms p → Contains p.components c →
    from < p.elements → e.to < p.elements → IsTrue (lies_in p c from e) ↔ (Inside p c from × Inside p c e.to)

-- One of a component lies in each component around it too.
abbrev pub InnerEdgesAreOuter : Type 0
InnerEdgesAreOuter =
    (p : PlanView) (outer inner : Component) (from : ℕ) (e : EdgeOf) → Axioms p →
    Contains p.components outer → Contains p.components inner → Inside p outer inner.head →
    IsTrue (lies_in p inner from e) → IsTrue (lies_in p outer from e)

-- Without components there is one pack, of the variables of the one octagon.
abbrev pub OnePackWithoutComponents : Type 0
OnePackWithoutComponents =
    (g : GraphOf) (p : PlanView) (n : ℕ) → p.components ≡ [] → packs_of g p n ≡ octagon_variables_of g n ∷ []

-- With one pack, of the variables of the one octagon, the bound on chains is that with one octagon.
abbrev pub OneOctagonBounds : Type 0
OneOctagonBounds =
    (g : GraphOf) (n bound : ℕ) → IsChainBound g (octagon_variables_of g n ∷ []) bound ↔ chains.IsChainBound g n bound
