-- Each cell is one that its element may hold.
use Rattle.std.proofs.Common.{◌≡◌, ℕ, zero, suc, ◌+◌, inl, inr, List, [], ◌∷◌, map, Bool, true, false, cond, subst, refl, ◌==◌, ◌&&◌}
use Rattle.std.proofs.lemmas.Bool.{eqb-true}
use Rattle.std.proofs.lemmas.Bool.Decides.{eqb_tells}
use Rattle.pk_plan.specs.declared.places.Role.{Role}
use Rattle.pk_plan.specs.declared.places.Role.TheVariants.{Vertex, Head, Exit as AtExit}
use Rattle.pk_plan.specs.declared.places.Place.{Place}
use Rattle.pk_plan.specs.Order.{Level}
use Rattle.pk_iterate.specs.Behaviour.{Behaviour, HoldEach, decided_cell, cell_in_role, cell_made}
use Rattle.pk_iterate.specs.Iteration.{Task, Run, Exit, count_of, cell_after, inputs_after, next_run, progress}
use Rattle.pk_iterate.specs.Runs.{runs_before, run_value, values_read}
use Rattle.pk_iterate.proofs.Steps.{decided_is}
use Rattle.pk_iterate.proofs.Next.{run_at, past_end, whole_or_step}

-- the inputs are cells that their elements may hold
pub holds_map : {C : Type 0} (may_hold : ℕ → C → Type 0) (f : ℕ → C) (us : List ℕ) → ((u : ℕ) → may_hold u (f u)) → HoldEach may_hold us (map f us)
holds_map may_hold f [] h = tt
holds_map may_hold f (u ∷ us) h = (h u, holds_map may_hold f us h)

-- the laws of a system
pub record MayHold {C : Type 0} (b : Behaviour C) (may_hold : ℕ → C → Type 0) : Type 0 where
  pub first : (e : ℕ) → may_hold e (b.first e)
  pub apply : (e : ℕ) (cells : List C) → HoldEach may_hold (b.reads e) cells → may_hold e (b.apply e cells)
  pub decide : (x : ℕ) (cells : List C) → HoldEach may_hold (b.reads x) cells → may_hold x (decided_cell (b.decide x cells))

pub held_more : {C : Type 0} (b : Behaviour C) (may_hold : ℕ → C → Type 0) (runs : List (ℕ × C)) (e : ℕ) (c : C) → ((u : ℕ) → may_hold u (cell_after b runs u)) → may_hold e c → (u : ℕ) → may_hold u (cell_after b ((e, c) ∷ runs) u)
held_more {C} b may_hold runs e c before now u =
    elim (eqb_tells e u) [
      | inl same ↦ rw same.0 (subst (λ (v : ℕ). may_hold v c) same.1 now)
      | inr other ↦ rw other.0 (before u)
    ]

held_next : {C : Type 0} (b : Behaviour C) (may_hold : ℕ → C → Type 0) → MayHold b may_hold → (runs : List (ℕ × C)) (left : List Task) → ((u : ℕ) → may_hold u (cell_after b runs u)) → (u : ℕ) → may_hold u (cell_after b (next_run b runs left).runs u)
held_next b may_hold laws runs [] before u = before u
held_next b may_hold laws runs (Run e ∷ left) before u =
    held_more b may_hold runs e (b.apply e (inputs_after b runs e)) before (laws.apply e (inputs_after b runs e) (holds_map may_hold (cell_after b runs) (b.reads e) before)) u
held_next b may_hold laws runs (Exit head exit rest ∷ left) before u =
    let inputs = inputs_after b runs exit in
    rw (decided_is runs head exit rest left (b.decide exit inputs))
    (held_more b may_hold runs exit (decided_cell (b.decide exit inputs)) before (laws.decide exit inputs (holds_map may_hold (cell_after b runs) (b.reads exit) before)) u)

-- every cell of the iteration may be held
pub held : {C : Type 0} (b : Behaviour C) (may_hold : ℕ → C → Type 0) → MayHold b may_hold → (order : Level) (n u : ℕ) → may_hold u (cell_after b (progress b order n).runs u)
unfolding progress
held b may_hold laws order zero u = laws.first u
held b may_hold laws order (suc n) u = held_next b may_hold laws (progress b order n).runs (progress b order n).left (held b may_hold laws order n) u

-- and so is each run's cell, and whatever a run reads
held_made : {C : Type 0} (b : Behaviour C) (may_hold : ℕ → C → Type 0) → MayHold b may_hold → (e : ℕ) (role : Role) (inputs : List C) → HoldEach may_hold (b.reads e) inputs → may_hold e (cell_in_role b e role inputs)
held_made b may_hold laws e Vertex inputs h = laws.apply e inputs h
held_made b may_hold laws e Head inputs h = laws.apply e inputs h
held_made b may_hold laws e (AtExit back) inputs h = laws.decide e inputs h

value_by : {C : Type 0} (b : Behaviour C) (may_hold : ℕ → C → Type 0) (r : ℕ × C) (e : ℕ) (value : C) (same here : Bool) → (r.0 == e) ≡ same → may_hold r.0 r.1 → may_hold e value → may_hold e (cond (same && here) r.1 value)
value_by b may_hold r e value true true is now before = subst (λ (u : ℕ). may_hold u r.1) (eqb-true r.0 e is) now
value_by b may_hold r e value true false is now before = before
value_by b may_hold r e value false here is now before = before

value_next : {C : Type 0} (b : Behaviour C) (may_hold : ℕ → C → Type 0) → MayHold b may_hold → (order : Level) (n e k : ℕ) → may_hold e (run_value b (progress b order n).runs e k) → may_hold e (run_value b (progress b order (suc n)).runs e k)
value_next {C} b may_hold laws order n e k before =
    elim (whole_or_step b order n) [
      | inl ended ↦ rw (past_end b order n ended) before
      | inr step ↦
          let runs = (progress b order n).runs in
          let p : Place = step.place in
          let inputs = inputs_after b runs p.element in
          let now : may_hold p.element (cell_made b p inputs) = held_made b may_hold laws p.element p.role inputs (holds_map may_hold (cell_after b runs) (b.reads p.element) (held b may_hold laws order n)) in
          rw step.runs (value_by b may_hold (run_at b runs p) e (run_value b runs e k) (p.element == e) (count_of runs e + 1 == k) refl now before)
    ]

pub held_values : {C : Type 0} (b : Behaviour C) (may_hold : ℕ → C → Type 0) → MayHold b may_hold → (order : Level) (n e k : ℕ) → may_hold e (run_value b (progress b order n).runs e k)
unfolding progress
held_values b may_hold laws order zero e k = laws.first e
held_values b may_hold laws order (suc n) e k = value_next b may_hold laws order n e k (held_values b may_hold laws order n e k)

pub held_read : {C : Type 0} (b : Behaviour C) (may_hold : ℕ → C → Type 0) → MayHold b may_hold → (order : Level) (n e k : ℕ) → HoldEach may_hold (b.reads e) (values_read b (progress b order n).runs e k)
held_read b may_hold laws order n e k =
    let runs = (progress b order n).runs in
    holds_map may_hold (λ (u : ℕ). run_value b runs u (count_of (runs_before runs e k) u)) (b.reads e) (λ u. held_values b may_hold laws order n u (count_of (runs_before runs e k) u))
