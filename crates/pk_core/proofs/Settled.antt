-- Offers and claims aside, an event is a move.
use Rattle.std.proofs.Common.{◌≡◌, ℕ, zero, suc, ◌==◌, List, [], ◌∷◌, length, count_by, Bool, true, false, if◌then◌else◌, not, ◌&&◌, refl, sym, ap, ◌∙◌, arith}
use Rattle.pk_iterate.specs.Behaviour.{Behaviour}
use Rattle.pk_core.specs.declared.events.Status.{Status}
use Rattle.pk_core.specs.declared.events.Status.TheVariants.{Waiting, Open, Held, Done}
use Rattle.pk_core.specs.declared.events.Event.{Event}
use Rattle.pk_core.specs.declared.events.Event.TheVariants.{Offer, Claim, Finish, Send, Stable, Again}
use Rattle.pk_plan.specs.Shape.{Shape}
use Rattle.pk_core.specs.Events.{inner, after_run_at, after_send_at, arrived, without, start, start_status, Enabled, after, applied, decided, with_status}
use Rattle.pk_core.proofs.Moves.{Move, Run, Tell, moved, CanMove, restarts, gives}
use Rattle.pk_core.specs.States.{Made, Element, State, inputs_of}
use Rattle.pk_core.specs.Promises.{is_run}
use Rattle.pk_core.proofs.Front.{weight}
use Rattle.pk_core.proofs.Basics.{same, count_cons, counted_same}
use Rattle.pk_core.proofs.Keeps.{is_done, owing, missing, Due, Kept}

abbrev pub settle : Status → Status
settle (Waiting n) = Waiting n
settle Open = Held
settle Held = Held
settle Done = Done

abbrev pub settle_one : {C : Type 0} → Element C → Element C
settle_one x = record { status = settle x.status; made = x.made; sends = x.sends }

abbrev pub settled : {C : Type 0} → State C → State C
settled s = λ u. settle_one (s u)

settle_ran : (c r d h : Bool) (k j : ℕ) (st : Status) → settle (if c then (if r then Waiting k else Done) else (if d then (if h then Held else Waiting j) else st)) ≡ (if c then (if r then Waiting k else Done) else (if d then (if h then Held else Waiting j) else settle st))
settle_ran true true d h k j st = refl
settle_ran true false d h k j st = refl
settle_ran false r true true k j st = refl
settle_ran false r true false k j st = refl
settle_ran false r false h k j st = refl

pub settled_ran : {C : Type 0} (p : Shape) (e : ℕ) (again : Bool) (run : Made C) (u : ℕ) (x : Element C) → settle_one (after_run_at p e again run u x) ≡ after_run_at p e again run u (settle_one x)
settled_ran p e again run u x = λ i. record { status = settle_ran (u == e) again (p.inside e u && again) (u == p.head e) (inner p e e) (inner p e u) x.status i; made = if u == e then run ∷ x.made else x.made; sends = if (u == e) && not again then p.succs e else x.sends }

settle_arrived : (c : Bool) (st : Status) → settle (if c then arrived st else st) ≡ (if c then arrived (settle st) else settle st)
settle_arrived true (Waiting zero) = refl
settle_arrived true (Waiting (suc zero)) = refl
settle_arrived true (Waiting (suc (suc n))) = refl
settle_arrived true Open = refl
settle_arrived true Held = refl
settle_arrived true Done = refl
settle_arrived false st = refl

pub settled_sent : {C : Type 0} (a v u : ℕ) (x : Element C) → settle_one (after_send_at a v u x) ≡ after_send_at a v u (settle_one x)
settled_sent a v u x = λ i. record { status = settle_arrived (u == v) x.status i; made = x.made; sends = if u == a then without v x.sends else x.sends }

-- moves keep a settled state settled
pub settled_moved : {C : Type 0} (b : Behaviour C) (p : Shape) (s : State C) (m : Move) → settled (moved b p s m) ≡ moved b p (settled s) m
settled_moved b p s (Run e) = λ i u. settled_ran p e (restarts b (p.is_exit e) e (inputs_of b s e)) (record { read = inputs_of b s e; gave = gives b (p.is_exit e) e (inputs_of b s e) }) u (s u) i
settled_moved b p s (Tell a v) = λ i u. settled_sent a v u (s u) i

same_status : {C : Type 0} (st : Status) (c : Bool) (x : Element C) → (c ≡ true → settle st ≡ settle x.status) → settle_one (if c then with_status st x else x) ≡ settle_one x
same_status st true x h = λ i. record { status = h refl i; made = x.made; sends = x.sends }
same_status st false x h = refl

-- an event changes nothing but an offer, or is a move
pub data Does {C : Type 0} (b : Behaviour C) (p : Shape) (s t : State C) (runs : ℕ) : Type 0 where
  nothing : settled t ≡ settled s → runs ≡ 0 → Does b p s t runs
  move : (m : Move) → CanMove p (settled s) m → settled t ≡ moved b p (settled s) m → runs ≡ weight m → Does b p s t runs

run_is : {C : Type 0} (b : Behaviour C) (p : Shape) (s : State C) (e : ℕ) (exit again : Bool) (run : Made C) → p.is_exit e ≡ exit → restarts b exit e (inputs_of b s e) ≡ again → run ≡ record { read = inputs_of b s e; gave = gives b exit e (inputs_of b s e) } → settled (λ u. after_run_at p e again run u (s u)) ≡ moved b p (settled s) (Run e)
run_is {C} b p s e exit again run x r g =
    (λ i u. settled_ran p e again run u (s u) i)
    ∙ ap (λ (y : Made C). λ u. after_run_at p e again y u (settle_one (s u))) g
    ∙ ap (λ (a : Bool). λ u. after_run_at p e a (record { read = inputs_of b s e; gave = gives b exit e (inputs_of b s e) }) u (settle_one (s u))) (sym r)
    ∙ ap (λ (c : Bool). λ u. after_run_at p e (restarts b c e (inputs_of b s e)) (record { read = inputs_of b s e; gave = gives b c e (inputs_of b s e) }) u (settle_one (s u))) (sym x)

pub does : {C : Type 0} (b : Behaviour C) (p : Shape) (s : State C) (ev : Event) → Enabled b p s ev → Does b p s (after b p s ev) (if is_run ev then 1 else 0)
does b p s (Offer e) can = nothing (λ i u. same_status Open (u == e) (s u) (λ q. sym (ap (λ (j : ℕ). settle (s j).status) (same u e q) ∙ ap settle can.0)) i) refl
does b p s (Claim e) can = nothing (λ i u. same_status Held (u == e) (s u) (λ q. sym (ap (λ (j : ℕ). settle (s j).status) (same u e q) ∙ ap settle can.0)) i) refl
does b p s (Finish e) can = move (Run e) (ap settle can.0.0, can.0.1) (run_is b p s e false false (applied b s e) can.1 refl refl) refl
does b p s (Send a v) can = move (Tell a v) can.2 (λ i u. settled_sent a v u (s u) i) refl
does b p s (Stable x) can = move (Run x) (ap settle can.0.0, can.0.1) (run_is b p s x true false (decided b s x) can.1 can.2 refl) refl
does b p s (Again x) can = move (Run x) (ap settle can.0.0, can.0.1) (run_is b p s x true true (decided b s x) can.1 can.2 refl) refl

-- the start keeps the counts
count_all : (xs : List ℕ) → count_by (λ w. true) xs ≡ length xs
count_all [] = refl
count_all (x ∷ xs) = count_cons (λ w. true) x xs ∙ omega (arith, count_all xs)

start_due : (xs : List ℕ) (n : ℕ) → n ≡ length xs → Due (settle (start_status xs)) n
start_due [] n h = h
start_due (x ∷ xs) n h = (sym h, omega (arith, h))

start_undone : (xs : List ℕ) → is_done (settle (start_status xs)) ≡ false
start_undone [] = refl
start_undone (x ∷ xs) = refl

pub kept_start : {C : Type 0} (p : Shape) → Kept {C = C} p (settled (start p))
kept_start {C} p = record {
  due = λ v. start_due (p.preds v) (missing {C = C} p (settled (start p)) v) (counted_same (owing {C = C} (settled (start p)) v) (λ w. true) (p.preds v) (λ u h. rw (start_undone (p.preds u)) refl) ∙ count_all (p.preds v));
  senders = λ u v h. absurd (cc);
  along = λ u v h. absurd (cc);
}
