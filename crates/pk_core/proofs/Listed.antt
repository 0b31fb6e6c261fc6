-- One event more.
use Rattle.std.proofs.Common.{◌≡◌, ℕ, ◌+◌, ◌-◌, ◌^◌, ◌<◌, ◌≤◌, ◌==◌, List, [], ◌∷◌, ◌++◌, length, Bool, true, false, if◌then◌else◌, refl, arith}
use Rattle.pk_plan.specs.Shape.{Shape}
use Rattle.pk_iterate.specs.Behaviour.{Behaviour}
use Rattle.pk_core.specs.declared.events.Status.{Status}
use Rattle.pk_core.specs.declared.events.Status.TheVariants.{Open, Held}
use Rattle.pk_core.specs.declared.events.Event.{Event}
use Rattle.pk_core.specs.declared.events.Event.TheVariants.{Offer, Claim, Finish, Send, Stable, Again}
use Rattle.pk_core.specs.States.{Element, State, run_number}
use Rattle.pk_core.specs.Events.{with_status, applied, decided, Enabled, AllEnabled, after, played}
use Rattle.pk_core.specs.Steps.{HasRoom}

pub played_more : {C : Type 0} (b : Behaviour C) (p : Shape) (s : State C) (evs : List Event) (ev : Event) → played b p s (evs ++ ev ∷ []) ≡ after b p (played b p s evs) ev
played_more b p s [] ev = refl
played_more b p s (e ∷ evs) ev = played_more b p (after b p s e) evs ev

pub all_more : {C : Type 0} (b : Behaviour C) (p : Shape) (s : State C) (evs : List Event) (ev : Event) → AllEnabled b p s evs → Enabled b p (played b p s evs) ev → AllEnabled b p s (evs ++ ev ∷ [])
all_more b p s [] ev all can = (can, tt)
all_more b p s (e ∷ evs) ev all can = (all.0, all_more b p (after b p s e) evs ev all.1 can)

-- ---- an event runs an element at most once

run_more : {X : Type 0} (c : Bool) (x : X) (xs : List X) → length (if c then x ∷ xs else xs) ≤ length xs + 1
run_more true x xs = omega arith
run_more false x xs = omega arith

same_runs : {C : Type 0} (c : Bool) (status : Status) (x : Element C) → run_number (if c then with_status status x else x) ≤ run_number x + 1
same_runs true status x = omega arith
same_runs false status x = omega arith

pub one_run : {C : Type 0} (b : Behaviour C) (p : Shape) (s : State C) (ev : Event) (u : ℕ) → run_number (after b p s ev u) ≤ run_number (s u) + 1
one_run b p s (Offer e) u = same_runs (u == e) Open (s u)
one_run b p s (Claim e) u = same_runs (u == e) Held (s u)
one_run b p s (Finish e) u = run_more (u == e) (applied b s e) (s u).made
one_run b p s (Send a v) u = omega arith
one_run b p s (Stable x) u = run_more (u == x) (decided b s x) (s u).made
one_run b p s (Again x) u = run_more (u == x) (decided b s x) (s u).made

-- so that there is room for one more
pub has_room : {C : Type 0} (s : State C) (ev : Event) (most : ℕ) → most < 2 ^ 64 - 1 → ((u : ℕ) → run_number (s u) ≤ most) → HasRoom s ev
has_room s (Offer e) most few bound = tt
has_room s (Claim e) most few bound = tt
has_room s (Finish e) most few bound = omega (arith, few, bound e)
has_room s (Send u v) most few bound = tt
has_room s (Stable x) most few bound = omega (arith, few, bound x)
has_room s (Again x) most few bound = omega (arith, few, bound x)
