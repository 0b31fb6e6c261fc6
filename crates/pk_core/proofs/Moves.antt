-- Events but for offers and claims are moves: runs, and sends.
use Rattle.std.specs.Prelude.{◌≡◌, ◌≢◌, ℕ, ◌<◌, ◌==◌, ◌⊎◌, List, [], ◌∷◌, count_by, if◌then◌else◌, Bool, true, false}
use Rattle.pk_plan.specs.Shape.{Shape, has, Before, ShapeAxioms}
use Rattle.pk_iterate.specs.Behaviour.{Behaviour, decided_cell, is_again}
use Rattle.pk_iterate.specs.Iteration.{inputs_after}
use Rattle.pk_core.specs.declared.events.Status.TheVariants.{Held}
use Rattle.pk_core.specs.States.{Made, Element, State, inputs_of}
use Rattle.pk_core.specs.Events.{after_run_at, after_send_at}

-- what is asked of a shape
pub record Axioms (p : Shape) : Type 0 where
  pub shape : ShapeAxioms p
  pub once : (u v : ℕ) → has u (p.preds v) ≡ true → count_by (λ w. w == u) (p.preds v) ≡ 1

-- what an element reads is itself, or comes before it, or comes after it, as a head reads its component
abbrev pub Comparable : Shape → (ℕ → List ℕ) → Type 0
Comparable p reads = (e u : ℕ) → e < p.elements → has u (reads e) ≡ true → u ≢ e → Before p u e ⊎ Before p e u

pub data Move : Type 0 where
  Run : (e : ℕ) → Move
  Tell : (u v : ℕ) → Move

-- the cell that a run gives, and whether it restarts its component
abbrev pub gives : {C : Type 0} → Behaviour C → Bool → ℕ → List C → C
gives b true e inputs = decided_cell (b.decide e inputs)
gives b false e inputs = b.apply e inputs

abbrev pub restarts : {C : Type 0} → Behaviour C → Bool → ℕ → List C → Bool
restarts b true e inputs = is_again (b.decide e inputs)
restarts b false e inputs = false

-- what a run of e with these inputs does to u
abbrev pub ran : {C : Type 0} → Behaviour C → Shape → ℕ → List C → ℕ → Element C → Element C
ran b p e inputs u x = after_run_at p e (restarts b (p.is_exit e) e inputs) (record { read = inputs; gave = gives b (p.is_exit e) e inputs }) u x

abbrev pub effect : {C : Type 0} → Behaviour C → Shape → State C → Move → ℕ → Element C → Element C
effect b p s (Run e) u x = ran b p e (inputs_of b s e) u x
effect b p s (Tell a v) u x = after_send_at a v u x

abbrev pub moved : {C : Type 0} → Behaviour C → Shape → State C → Move → State C
moved b p s m = λ u. effect b p s m u (s u)

abbrev pub CanMove : {C : Type 0} → Shape → State C → Move → Type 0
CanMove p s (Run e) = ((s e).status ≡ Held) × (e < p.elements)
CanMove p s (Tell u v) = has v (s u).sends ≡ true

-- the runs of e among these runs, each with the cells that it read and the cell that it gave
abbrev pub log_of : {C : Type 0} → Behaviour C → List (ℕ × C) → ℕ → List (Made C)
log_of b [] e = []
log_of b (r ∷ runs) e = if r.0 == e then record { read = inputs_after b runs e; gave = r.1 } ∷ log_of b runs e else log_of b runs e
