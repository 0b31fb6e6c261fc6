-- The six events: where each is enabled, and the state after it.
use Rattle.std.specs.Prelude.{◌≡◌, ℕ, zero, suc, ◌<◌, ◌==◌, ◌&&◌, not, List, [], ◌∷◌, length, filter, count_by, if◌then◌else◌, Bool, true, false}
use Rattle.pk_plan.specs.Shape.{Shape, has}
use Rattle.pk_iterate.specs.Behaviour.{Behaviour, decided_cell, is_again}
use Rattle.pk_core.specs.declared.events.Status.{Status}
use Rattle.pk_core.specs.declared.events.Status.TheVariants.{Waiting, Open, Held, Done}
use Rattle.pk_core.specs.declared.events.Event.{Event}
use Rattle.pk_core.specs.declared.events.Event.TheVariants.{Offer, Claim, Finish, Send, Stable, Again}
use Rattle.pk_core.specs.States.{Made, Element, State, inputs_of}

-- at the start an element without predecessors is open, any other waits for all of them
abbrev pub start_status : List ℕ → Status
start_status [] = Open
start_status (u ∷ us) = Waiting (length (u ∷ us))

abbrev pub start : {C : Type 0} → Shape → State C
start p = λ e. record { status = start_status (p.preds e); made = []; sends = [] }

abbrev pub IsHeld : {C : Type 0} → Shape → State C → ℕ → Type 0
IsHeld p s e = ((s e).status ≡ Held) × (e < p.elements)

-- whether the exit, as it stands, decides that its component is gone through again
abbrev pub decides_again : {C : Type 0} → Behaviour C → State C → ℕ → Bool
decides_again b s x = is_again (b.decide x (inputs_of b s x))

-- the exit is held, and decides that its component is gone through again, or that it is not
abbrev pub Decides : {C : Type 0} → Behaviour C → Shape → State C → ℕ → Bool → Type 0
Decides b p s x again = IsHeld p s x × (p.is_exit x ≡ true) × (decides_again b s x ≡ again)

abbrev pub Enabled : {C : Type 0} → Behaviour C → Shape → State C → Event → Type 0
Enabled b p s (Offer e) = IsHeld p s e
Enabled b p s (Claim e) = ((s e).status ≡ Open) × (e < p.elements)
Enabled b p s (Finish e) = IsHeld p s e × (p.is_exit e ≡ false)
Enabled b p s (Send u v) = (u < p.elements) × (v < p.elements) × (has v (s u).sends ≡ true)
Enabled b p s (Stable x) = Decides b p s x false
Enabled b p s (Again x) = Decides b p s x true

abbrev pub with_status : {C : Type 0} → Status → Element C → Element C
with_status status x = record { status = status; made = x.made; sends = x.sends }

-- the run of a point, of a head or of END, and that of an exit
abbrev pub applied : {C : Type 0} → Behaviour C → State C → ℕ → Made C
applied b s e = record { read = inputs_of b s e; gave = b.apply e (inputs_of b s e) }

abbrev pub decided : {C : Type 0} → Behaviour C → State C → ℕ → Made C
decided b s x = record { read = inputs_of b s x; gave = decided_cell (b.decide x (inputs_of b s x)) }

-- how many predecessors of e lie in the component with the exit x
abbrev pub inner : Shape → ℕ → ℕ → ℕ
inner p x e = count_by (p.inside x) (p.preds e)

-- What this run of e does to u. Where it doesn't restart a component, e is done and has all its sends left. Where it does, e and the
-- elements of its component wait for those of their predecessors that lie in it, but the head is held.
abbrev pub status_after_run : Shape → ℕ → Bool → ℕ → Status → Status
status_after_run p e again u status =
    if u == e then (if again then Waiting (inner p e e) else Done)
    else (if p.inside e u && again then (if u == p.head e then Held else Waiting (inner p e u)) else status)

abbrev pub after_run_at : {C : Type 0} → Shape → ℕ → Bool → Made C → ℕ → Element C → Element C
after_run_at p e again run u x = record {
  status = status_after_run p e again u x.status;
  made = if u == e then run ∷ x.made else x.made;
  sends = if (u == e) && not again then p.succs e else x.sends;
}

-- one predecessor less to wait for; when none is left the element is held
abbrev pub arrived : Status → Status
arrived (Waiting zero) = Waiting zero
arrived (Waiting (suc zero)) = Held
arrived (Waiting (suc (suc n))) = Waiting (suc n)
arrived Open = Open
arrived Held = Held
arrived Done = Done

abbrev pub without : ℕ → List ℕ → List ℕ
without v ws = filter (λ w. not (w == v)) ws

-- what the send from a to v does to u
abbrev pub after_send_at : {C : Type 0} → (a v u : ℕ) → Element C → Element C
after_send_at a v u x = record {
  status = if u == v then arrived x.status else x.status;
  made = x.made;
  sends = if u == a then without v x.sends else x.sends;
}

abbrev pub after : {C : Type 0} → Behaviour C → Shape → State C → Event → State C
after b p s (Offer e) = λ u. if u == e then with_status Open (s u) else s u
after b p s (Claim e) = λ u. if u == e then with_status Held (s u) else s u
after b p s (Finish e) = λ u. after_run_at p e false (applied b s e) u (s u)
after b p s (Send a v) = λ u. after_send_at a v u (s u)
after b p s (Stable x) = λ u. after_run_at p x false (decided b s x) u (s u)
after b p s (Again x) = λ u. after_run_at p x true (decided b s x) u (s u)

-- each event is enabled where it comes
abbrev pub AllEnabled : {C : Type 0} → Behaviour C → Shape → State C → List Event → Type 0
AllEnabled b p s [] = Unit {0}
AllEnabled b p s (event ∷ events) = Enabled b p s event × AllEnabled b p (after b p s event) events

-- the state after all of them
abbrev pub played : {C : Type 0} → Behaviour C → Shape → State C → List Event → State C
played b p s [] = s
played b p s (event ∷ events) = played b p (after b p s event) events
