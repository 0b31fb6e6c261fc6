-- What each event makes of the elements, and of a state that they show.
use Rattle.std.proofs.Common.{◌≡◌, ℕ, ◌<◌, ◌==◌, List, [], ◌∷◌, Bool, true, false, if◌then◌else◌, refl, sym, ap, subst, ◌∙◌, arith, Contains}
use Rattle.std.proofs.Math.Dec.{ltb}
use Rattle.std.proofs.lemmas.Bool.Decides.{nat_tests}
use Rattle.pk_plan.specs.declared.components.Component.{Component}
use Rattle.pk_plan.specs.Plans.{PlanView, predecessors_of, successors_of, members_of, Inside, is_inside, inner_count}
use Rattle.pk_plan.specs.Axioms.{Axioms as PlanAxioms}
use Rattle.pk_plan.specs.Shape.{Shape, has, component_of, exits, holds, shape_of}
use Rattle.pk_plan.proofs.PlanLemmas.{Of, is_inside_tells, exit_outside, constrains_from}
use Rattle.pk_iterate.specs.Behaviour.{Behaviour, decided_cell}
use Rattle.pk_core.specs.declared.events.Status.{Status}
use Rattle.pk_core.specs.declared.events.Status.TheVariants.{Waiting, Open, Held, Done}
use Rattle.pk_core.specs.declared.events.Event.{Event}
use Rattle.pk_core.specs.declared.events.Event.TheVariants.{Offer, Claim, Finish, Send, Stable, Again}
use Rattle.pk_core.specs.States.{Made, Element, State, inputs_of}
use Rattle.pk_core.specs.Events.{with_status, without, arrived, inner, after_run_at, after_send_at, applied, decided, after}
use Rattle.pk_core.specs.Shown.{Standing, CoreView, StandsAs, StandAs, Shows}
use Rattle.pk_core.specs.Steps.{IsStep}
use Rattle.pk_core.specs.Entries.{changed, with_new_status, without_send, with_arrival, with_sends, after_run, armed, rearmed, restarted}
use Rattle.pk_core.proofs.Basics.{neq, same, itself, counted_same}
use Rattle.pk_core.proofs.Keeps.{run_else}
use Rattle.pk_core.proofs.Plan_shapes.{has_of, of_has}
use Rattle.pk_core.proofs.Changed_at.{stand_changed, stand_same}
use Rattle.pk_plan.proofs.Shapes.{bool_same, of_exit, exit_is}

abbrev pub with_elements : {Y C : Type 0} → CoreView Y C → List (Standing C) → CoreView Y C
with_elements v xs = record { system = v.system; plan = v.plan; elements = xs }

-- the elements alone have changed
step_of : {Y C : Type 0} (b : Behaviour C) (v w : CoreView Y C) (event : Event) (xs : List (Standing C)) → w ≡ with_elements v xs → ((s : State C) → Shows b v s → StandAs b v.plan.elements xs (after b (shape_of v.plan) s event)) → IsStep b v event w
step_of {Y} {C} b v w event xs is shown = record {
  about = record { system = ap (λ (k : CoreView Y C). k.system) is; plan = ap (λ (k : CoreView Y C). k.plan) is };
  shown = λ s old. subst (λ (k : CoreView Y C). Shows b k (after b (shape_of v.plan) s event)) (sym is) (shown s old);
}

marked : {C : Type 0} (b : Behaviour C) (n : ℕ) (xs : List (Standing C)) (s : State C) (e : ℕ) (status : Status) → StandAs b n xs s → StandAs b n (changed xs e (with_new_status status)) (λ u. if u == e then with_status status (s u) else s u)
marked b n xs s e status all =
    stand_changed b n xs s (λ u. if u == e then with_status status (s u) else s u) e (with_new_status status) all
    (λ x one. let it = itself e in rw it (record { status = refl; run = one.run; cell = one.cell; sends = one.sends }))
    (λ u ne. let other = neq u e ne in rw other refl)

pub step_offer : {Y C : Type 0} (b : Behaviour C) (v w : CoreView Y C) (e : ℕ) → w ≡ with_elements v (changed v.elements e (with_new_status Open)) → IsStep b v (Offer e) w
step_offer b v w e is = step_of b v w (Offer e) (changed v.elements e (with_new_status Open)) is (λ s old. marked b v.plan.elements v.elements s e Open old)

pub step_claim : {Y C : Type 0} (b : Behaviour C) (v w : CoreView Y C) (e : ℕ) → w ≡ with_elements v (changed v.elements e (with_new_status Held)) → IsStep b v (Claim e) w
step_claim b v w e is = step_of b v w (Claim e) (changed v.elements e (with_new_status Held)) is (λ s old. marked b v.plan.elements v.elements s e Held old)

-- ---- a send

told : {C : Type 0} (b : Behaviour C) (n : ℕ) (xs : List (Standing C)) (s : State C) (a v : ℕ) → StandAs b n xs s → StandAs b n (changed (changed xs a (without_send v)) v with_arrival) (λ u. after_send_at a v u (s u))
told {C} b n xs s a v all =
    let mid : State C = λ u. record { status = (s u).status; made = (s u).made; sends = if u == a then without v (s u).sends else (s u).sends } in
    let first : StandAs b n (changed xs a (without_send v)) mid = stand_changed b n xs s mid a (without_send v) all
    (λ x one. record { status = one.status; run = one.run; cell = one.cell; sends = ap (without v) one.sends ∙ sym (let it = itself a in rw it refl) })
    (λ u ne. let other = neq u a ne in rw other refl) in
    stand_changed b n (changed xs a (without_send v)) mid (λ u. after_send_at a v u (s u)) v with_arrival first
    (λ x one. record { status = ap arrived one.status ∙ sym (let it = itself v in rw it refl); run = one.run; cell = one.cell; sends = one.sends })
    (λ u ne. let other = neq u v ne in rw other refl)

pub step_send : {Y C : Type 0} (b : Behaviour C) (v w : CoreView Y C) (a t : ℕ) → w ≡ with_elements v (changed (changed v.elements a (without_send t)) t with_arrival) → IsStep b v (Send a t) w
step_send b v w a t is = step_of b v w (Send a t) (changed (changed v.elements a (without_send t)) t with_arrival) is (λ s old. told b v.plan.elements v.elements s a t old)

-- ---- a run

-- an element that was run once more
ran_stands : {C : Type 0} (b : Behaviour C) (e : ℕ) (status : Status) (r : Made C) (cell : C) (x : Standing C) (y : Element C) → cell ≡ r.gave → StandsAs b e x y → StandsAs b e (after_run status cell x) (record { status = status; made = r ∷ y.made; sends = y.sends })
ran_stands b e status r cell x y gave one = record { status = refl; run = omega (arith, one.run); cell = gave; sends = one.sends }

abbrev ran_state : {C : Type 0} → State C → ℕ → Status → Made C → State C
ran_state s e status r = λ u. if u == e then record { status = status; made = r ∷ (s u).made; sends = (s u).sends } else s u

ran_once : {C : Type 0} (b : Behaviour C) (n : ℕ) (xs : List (Standing C)) (s : State C) (e : ℕ) (status : Status) (r : Made C) (cell : C) → cell ≡ r.gave → StandAs b n xs s → StandAs b n (changed xs e (after_run status cell)) (ran_state s e status r)
ran_once b n xs s e status r cell gave all =
    stand_changed b n xs s (ran_state s e status r) e (after_run status cell) all
    (λ x one. let it = itself e in rw it (ran_stands b e status r cell x (s e) gave one))
    (λ u ne. let other = neq u e ne in rw other refl)

finished : {C : Type 0} (b : Behaviour C) (p : Shape) (xs : List (Standing C)) (s : State C) (e : ℕ) (r : Made C) (cell : C) → cell ≡ r.gave → StandAs b p.elements xs s → StandAs b p.elements (changed (changed xs e (after_run Done cell)) e (with_sends (p.succs e))) (λ u. after_run_at p e false r u (s u))
finished {C} b p xs s e r cell gave all =
    stand_changed b p.elements (changed xs e (after_run Done cell)) (ran_state s e Done r) (λ u. after_run_at p e false r u (s u)) e (with_sends (p.succs e)) (ran_once b p.elements xs s e Done r cell gave all)
    (λ x one. here x (subst (λ (y : Element C). StandsAs b e x y) (let it = itself e in rw it refl) one))
    (λ u ne. run_else p s e u r (neq u e ne) ∙ sym (let other = neq u e ne in rw other refl))
  where
    here : (x : Standing C) → StandsAs b e x (record { status = Done; made = r ∷ (s e).made; sends = (s e).sends }) → StandsAs b e (with_sends (p.succs e) x) (after_run_at p e false r e (s e))
    here x one = let it = itself e in rw it (record { status = one.status; run = one.run; cell = one.cell; sends = refl })

pub step_finish : {Y C : Type 0} (b : Behaviour C) (v w : CoreView Y C) (e : ℕ) (cell : C) → ((s : State C) → Shows b v s → cell ≡ b.apply e (inputs_of b s e)) → w ≡ with_elements v (changed (changed v.elements e (after_run Done cell)) e (with_sends (successors_of v.plan e))) → IsStep b v (Finish e) w
step_finish b v w e cell gave is = step_of b v w (Finish e) (changed (changed v.elements e (after_run Done cell)) e (with_sends (successors_of v.plan e))) is (λ s old. finished b (shape_of v.plan) v.elements s e (applied b s e) cell (gave s old) old)

pub step_stable : {Y C : Type 0} (b : Behaviour C) (v w : CoreView Y C) (x : ℕ) (cell : C) → ((s : State C) → Shows b v s → cell ≡ decided_cell (b.decide x (inputs_of b s x))) → w ≡ with_elements v (changed (changed v.elements x (after_run Done cell)) x (with_sends (successors_of v.plan x))) → IsStep b v (Stable x) w
step_stable b v w x cell gave is = step_of b v w (Stable x) (changed (changed v.elements x (after_run Done cell)) x (with_sends (successors_of v.plan x))) is (λ s old. finished b (shape_of v.plan) v.elements s x (decided b s x) cell (gave s old) old)

-- ---- a restart

below_true : (a b : ℕ) → a < b → ltb a b ≡ true
below_true a b h = grind (arith, nat_tests)

pub holds_is : (p : PlanView) (x u : ℕ) → exits p x ≡ true → u < p.elements → holds p x u ≡ is_inside p (component_of p x) u
holds_is p x u exit below =
    let test = below_true u p.elements below in
    rw (exit, test) refl

pub members_are : (p : PlanView) (c : Component) (u : ℕ) → PlanAxioms p → Of p c → u < p.elements → has u (members_of p c) ≡ is_inside p c u
members_are p c u axioms of below =
    let tells = is_inside_tells p c u axioms of below in
    bool_same (has u (members_of p c)) (is_inside p c u) (λ h. tells.1 (of_has u (members_of p c) h)) (λ t. has_of u (members_of p c) (tells.0 t))

inner_is : (p : PlanView) (x u : ℕ) → PlanAxioms p → exits p x ≡ true → inner (shape_of p) x u ≡ inner_count p (component_of p x) u
inner_is p x u axioms exit = counted_same (holds p x) (is_inside p (component_of p x)) (predecessors_of p u) (λ w h. holds_is p x w exit (from w (of_has w (predecessors_of p u) h)))
  where
    from : (w : ℕ) → Contains (predecessors_of p u) w → w < p.elements
    from w h = constrains_from p w u axioms (axioms.to_successor w u h)

abbrev armed_state : {C : Type 0} → PlanView → Component → List ℕ → State C → State C
armed_state p c es s = λ u. if has u es then with_status (armed p c u) (s u) else s u

stand_rearmed : {C : Type 0} (b : Behaviour C) (n : ℕ) (p : PlanView) (c : Component) (es : List ℕ) (xs : List (Standing C)) (s : State C) → StandAs b n xs s → StandAs b n (rearmed p c es xs) (armed_state p c es s)
stand_rearmed b n p c [] xs s all = all
stand_rearmed {C} b n p c (e ∷ es) xs s all =
    let mid : State C = λ u. if u == e then with_status (armed p c e) (s u) else s u in
    stand_same b n (rearmed p c (e ∷ es) xs) (armed_state p c es mid) (armed_state p c (e ∷ es) s)
    (stand_rearmed b n p c es (changed xs e (with_new_status (armed p c e))) mid (marked b n xs s e (armed p c e) all))
    (λ u below. at u (u == e) (has u es) refl refl)
  where
    at : (u : ℕ) (d h : Bool) → (u == e) ≡ d → has u es ≡ h → armed_state p c es (λ k. if k == e then with_status (armed p c e) (s k) else s k) u ≡ armed_state p c (e ∷ es) s u
    at u true true q r =
        let is : u ≡ e = same u e q in
        rw (r, q) refl
    at u true false q r =
        let is : u ≡ e = same u e q in
        rw (r, q) (ap (λ (k : ℕ). with_status (armed p c k) (s u)) (sym is))
    at u false true q r = rw (r, q) refl
    at u false false q r = rw (r, q) refl

restart_shown : {C : Type 0} (b : Behaviour C) (p : PlanView) (xs : List (Standing C)) (s : State C) (x : ℕ) (r : Made C) (cell : C) → PlanAxioms p → exits p x ≡ true → cell ≡ r.gave → StandAs b p.elements xs s
    → StandAs b p.elements (rearmed p (component_of p x) (members_of p (component_of p x)) (changed xs x (after_run (Waiting (inner_count p (component_of p x) x)) cell))) (λ u. after_run_at (shape_of p) x true r u (s u))
restart_shown {C} b p xs s x r cell axioms exit gave all =
    let c = component_of p x in
    stand_same b p.elements (rearmed p c (members_of p c) (changed xs x (after_run (Waiting (inner_count p c x)) cell))) (armed_state p c (members_of p c) (ran_state s x (Waiting (inner_count p c x)) r)) (λ u. after_run_at (shape_of p) x true r u (s u))
    (stand_rearmed b p.elements p c (members_of p c) (changed xs x (after_run (Waiting (inner_count p c x)) cell)) (ran_state s x (Waiting (inner_count p c x)) r) (ran_once b p.elements xs s x (Waiting (inner_count p c x)) r cell gave all))
    (λ u below. at u below (u == x) (has u (members_of p c)) refl refl)
  where
    at : (u : ℕ) → u < p.elements → (d h : Bool) → (u == x) ≡ d → has u (members_of p (component_of p x)) ≡ h → armed_state p (component_of p x) (members_of p (component_of p x)) (ran_state s x (Waiting (inner_count p (component_of p x) x)) r) u ≡ after_run_at (shape_of p) x true r u (s u)
    at u below true true q k =
        let c = component_of p x in
        let is : u ≡ c.exit = same u x q ∙ sym (exit_is p x axioms exit) in
        absurd (exit_outside p c axioms (of_exit p x exit) (subst (λ (e : ℕ). Inside p c e) is (of_has u (members_of p c) k)))
    at u below true false q k =
        let count = inner_is p x x axioms exit in
        rw (k, q) (λ i. record { status = Waiting (sym count i); made = r ∷ (s u).made; sends = (s u).sends })
    at u below false true q k =
        let inside : holds p x u ≡ true = holds_is p x u exit below ∙ sym (members_are p (component_of p x) u axioms (of_exit p x exit) below) ∙ k in
        let count = inner_is p x u axioms exit in
        rw (k, q, inside) (λ i. record { status = if u == (component_of p x).head then Held else Waiting (sym count i); made = (s u).made; sends = (s u).sends })
    at u below false false q k =
        let outside : holds p x u ≡ false = holds_is p x u exit below ∙ sym (members_are p (component_of p x) u axioms (of_exit p x exit) below) ∙ k in
        rw (k, q, outside) refl

pub step_again : {Y C : Type 0} (b : Behaviour C) (v w : CoreView Y C) (x : ℕ) (cell : C) → PlanAxioms v.plan → exits v.plan x ≡ true → ((s : State C) → Shows b v s → cell ≡ decided_cell (b.decide x (inputs_of b s x)))
    → w ≡ with_elements v (restarted v.plan (component_of v.plan x) cell v.elements) → IsStep b v (Again x) w
step_again b v w x cell axioms exit gave is =
    step_of b v w (Again x) (restarted v.plan (component_of v.plan x) cell v.elements) is
    (λ s old. subst (λ (e : ℕ). StandAs b v.plan.elements (rearmed v.plan (component_of v.plan x) (members_of v.plan (component_of v.plan x)) (changed v.elements e (after_run (Waiting (inner_count v.plan (component_of v.plan x) e)) cell))) (after b (shape_of v.plan) s (Again x)))
    (sym (exit_is v.plan x axioms exit)) (restart_shown b v.plan v.elements s x (decided b s x) cell axioms exit (gave s old) old))
