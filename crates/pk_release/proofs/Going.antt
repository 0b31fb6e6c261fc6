-- A list of events that goes through the items of the linear order, one run of the recursion's order after another.
use Rattle.std.proofs.Common.{◌≡◌, ◌≢◌, ℕ, zero, suc, ◌+◌, ◌<◌, ◌≤◌, ◌==◌, ◌||◌, ◌⊎◌, inl, inr, List, [], ◌∷◌, ◌++◌, length, Bool, true, false, not, nat_lt, if◌then◌else◌, refl, ap, sym, subst, ◌∙◌, arith}
use Rattle.std.proofs.lemmas.Bool.{cases_lt}
use Rattle.std.proofs.lemmas.List.{take_all, take-append-le, length-append}
use Rattle.pk_plan.specs.Order.{Level, Empty, Component_then, places_of}
use Rattle.pk_plan.specs.Plans.{PlanView, end_of}
use Rattle.pk_plan.specs.Axioms.{Axioms as PlanAxioms}
use Rattle.pk_plan.specs.Linear.{elements_of, IsLinear}
use Rattle.pk_plan.specs.Shape.{Shape, has, holds, shape_of}
use Rattle.pk_iterate.specs.Behaviour.{Behaviour}
use Rattle.pk_iterate.specs.Ending.{Ends, trace}
use Rattle.pk_iterate.specs.Fits.{FitsPlan}
use Rattle.pk_iterate.specs.Iteration.{Task, Run, Exit, to_do, element_of}
use Rattle.pk_iterate.proofs.Jumps.{jump}
use Rattle.pk_iterate.proofs.Next.{length-to_do, task_there}
use Rattle.pk_plan.specs.declared.places.Role.TheVariants.{Vertex}
use Rattle.std.proofs.lemmas.List.Sums.{length-filter, count_by-le-length}
use Rattle.pk_core.specs.declared.events.Event.{Event}
use Rattle.pk_core.specs.declared.events.Event.TheVariants.{Claim, Finish, Send, Stable, Again}
use Rattle.pk_core.specs.declared.events.Status.{Status}
use Rattle.pk_core.specs.declared.events.Status.TheVariants.{Waiting, Open, Held, Done}
use Rattle.pk_core.specs.States.{Made, Element, State}
use Rattle.pk_core.specs.Events.{start, start_status, Enabled, AllEnabled, after, played, with_status, applied, decided, decides_again, without}
use Rattle.pk_core.specs.Orders.{elements_left, IsTask, IsOrderOf}
use Rattle.pk_core.specs.Promises.{is_run, runs_in}
use Rattle.pk_core.proofs.Basics.{cases, neq, same, itself, counted_same}
use Rattle.pk_core.proofs.Keeps.{is_done as done_there, owing, missing, Due, Kept, count_none, after_send, after_run, run_else, restart_else, restart_sends, restart_not_done, done_arrived, apart_of}
use Rattle.pk_core.proofs.Kept_to.{every_list}
use Rattle.pk_core.proofs.Listed.{played_more, all_more}
use Rattle.pk_core.proofs.Plan_shapes.{plan_shape}
use Rattle.pk_core.proofs.Sequence.{drop_short}
use Rattle.pk_core.proofs.Settled.{settle, settled, kept_start}
use Rattle.pk_items.proofs.Outermost.{holding, member_top}
use Rattle.pk_items.proofs.Over.{settle_done, done_is}
use Rattle.pk_items.proofs.Sweeping.{kept_all}
use Rattle.pk_release.specs.In_order.{item_in, IsInOrder, state_after, Line}
use Rattle.pk_release.specs.Laws.{EveryPlanHasALine}
use Rattle.pk_release.proofs.Counting.{within_peak}
use Rattle.pk_release.proofs.Naming.{has_here}
use Rattle.pk_release.proofs.Positions.{elements_to_do, level_to_do, left_from, next_item, StandsAt, same_place, next_rises, goes_in_order}
use Rattle.pk_release.proofs.Tops_of.{same_item}

-- ---- the events so far

-- so many runs lead to the state, in order
record SoFar {C : Type 0} (b : Behaviour C) (p : PlanView) (order : Level) (s : State C) (n : ℕ) : Type 0 where
  events : List Event
  enabled : AllEnabled b (shape_of p) (start (shape_of p)) events
  leads : played b (shape_of p) (start (shape_of p)) events ≡ s
  in_order : (k : ℕ) → IsInOrder p order (state_after b p events k)
  runs : runs_in events ≡ n

runs_more : (events : List Event) (event : Event) → runs_in (events ++ event ∷ []) ≡ runs_in events + (if is_run event then 1 else 0)
runs_more [] event = omega arith
runs_more (e ∷ events) event = let r = runs_more events event in omega (arith, r)

so_more : {C : Type 0} {b : Behaviour C} {p : PlanView} {order : Level} {s : State C} {n : ℕ} → SoFar b p order s n → (event : Event) → Enabled b (shape_of p) s event → IsInOrder p order (after b (shape_of p) s event) → (m : ℕ) → m ≡ n + (if is_run event then 1 else 0) → SoFar b p order (after b (shape_of p) s event) m
so_more {C} {b} {p} {order} {s} {n} so event can in_order m count =
    let q = shape_of p in
    let first : State C = start q in
    let leads : played b q first (so.events ++ event ∷ []) ≡ after b q s event = played_more b q first so.events event ∙ ap (λ (t : State C). after b q t event) so.leads in
    record {
      events = so.events ++ event ∷ [];
      enabled = all_more b q first so.events event so.enabled (subst (λ (t : State C). Enabled b q t event) (sym so.leads) can);
      leads = leads;
      in_order = λ k. elim (cases_lt (length so.events) k) [
        | inl past ↦
            let long = length-append so.events (event ∷ []) in
            let all = take_all k (so.events ++ event ∷ []) (omega (arith, past, long)) in
            subst (IsInOrder p order) (sym (ap (played b q first) all ∙ leads)) in_order
        | inr within ↦ subst (IsInOrder p order) (sym (ap (played b q first) (take-append-le k so.events (event ∷ []) (omega (arith, within))))) (so.in_order k)
      ];
      runs = (let r = runs_more so.events event in let o = so.runs in omega (arith, r, o, count));
    }

-- no more is told, and the state stands at a place of the order
record Ready {C : Type 0} (p : PlanView) (order : Level) (s : State C) (at : ℕ) : Type 0 where
  stand : StandsAt p order s (left_from order at)
  quiet : (u v : ℕ) → has v (s u).sends ≡ false

-- one run more
record Next {C : Type 0} (b : Behaviour C) (p : PlanView) (order : Level) (n : ℕ) : Type 0 where
  state : State C
  at : ℕ
  so : SoFar b p order state n
  ready : Ready p order state at

-- the element is held, and no run was made
record Taken {C : Type 0} (b : Behaviour C) (p : PlanView) (order : Level) (n at e : ℕ) : Type 0 where
  state : State C
  so : SoFar b p order state n
  ready : Ready p order state at
  held : (state e).status ≡ Held

-- ---- lists and statuses

has_append : (xs ys : List ℕ) (u : ℕ) → has u (xs ++ ys) ≡ (has u xs || has u ys)
has_append [] ys u = refl
has_append (x ∷ xs) ys u = by_test (u == x) (has_append xs ys u)
  where
    by_test : (c : Bool) → has u (xs ++ ys) ≡ (has u xs || has u ys) → (c || has u (xs ++ ys)) ≡ ((c || has u xs) || has u ys)
    by_test true ih = refl
    by_test false ih = ih

without_first : (v n : ℕ) (xs : List ℕ) → length (v ∷ xs) ≤ suc n → length (without v (v ∷ xs)) ≤ n
without_first v n xs h =
    let e : without v (v ∷ xs) ≡ without v xs = (let r = itself v in rw r refl) in
    let kept = length-filter (λ (w : ℕ). not (w == v)) xs in
    let few = count_by-le-length (λ (w : ℕ). not (w == v)) xs in
    rw e (omega (arith, kept, few, h))

-- an element that isn't done, and whose predecessors are, is open or held
open_or_held : (st : Status) (m : ℕ) → done_there st ≡ false → m ≡ 0 → Due (settle st) m → (st ≡ Open) ⊎ (st ≡ Held)
open_or_held (Waiting n) m undone z due = absurd (omega (arith, due.1, z))
open_or_held Open m undone z due = inl refl
open_or_held Held m undone z due = inr refl
open_or_held Done m undone z due = absurd (cc)

claimed : {C : Type 0} (c : Bool) (x : Element C) → (c ≡ true → x.status ≡ Open) → done_there (if c then with_status Held x else x).status ≡ done_there x.status
claimed true x opened = sym (ap done_there (opened refl))
claimed false x opened = refl

claimed_made : {C : Type 0} (c : Bool) (x : Element C) → (if c then with_status Held x else x).made ≡ x.made
claimed_made true x = refl
claimed_made false x = refl

claimed_sends : {C : Type 0} (c : Bool) (x : Element C) → (if c then with_status Held x else x).sends ≡ x.sends
claimed_sends true x = refl
claimed_sends false x = refl

run_made : {C : Type 0} (p : Shape) (s : State C) (e u : ℕ) (again : Bool) (run : Made C) → (u == e) ≡ false → (after_run p s e again run u).made ≡ (s u).made
run_made p s e u again run q = rw q refl

inside_low : (p : PlanView) → PlanAxioms p → (x u : ℕ) → holds p x u ≡ true → u < p.elements
inside_low p axioms x u h = (holding p axioms x u h).within

module _ {C : Type 0} (b : Behaviour C) (p : PlanView) (order : Level) (axioms : PlanAxioms p) (linear : IsLinear p order) (ordered : IsOrderOf (shape_of p) order) where
  kept_so : (s : State C) (n : ℕ) → SoFar b p order s n → Kept (shape_of p) (settled s)
  kept_so s n so = subst (λ (t : State C). Kept (shape_of p) (settled t)) so.leads (kept_all b (plan_shape p axioms) (start (shape_of p)) so.events (kept_start (shape_of p)) so.enabled)

  -- the next element is open or held
  up_next : (s : State C) (n at : ℕ) (t : Task) (left : List Task) → SoFar b p order s n → Ready p order s at → left_from order at ≡ t ∷ left → ((s (element_of t)).status ≡ Open) ⊎ ((s (element_of t)).status ≡ Held)
  up_next s n at t left so ready is =
      let ax = plan_shape p axioms in
      let e : ℕ = element_of t in
      let place = ordered.placed at t left is in
      let kept = kept_so s n so in
      let undone : done_there (s e).status ≡ false = ready.stand.done e place.in_range ∙ ap (λ (ts : List Task). not (has e (elements_left ts))) is ∙ ap not (has_here e (elements_left left)) in
      let none : missing (shape_of p) (settled s) e ≡ 0 = counted_same (owing (settled s) e) (λ w. false) ((shape_of p).preds e) (λ u h.
      let low : u < p.elements = ax.shape.above u e (ax.shape.dual u e ∙ h) in
      let over : done_there (settle (s u).status) ≡ true = settle_done (s u).status ∙ ready.stand.done u low ∙ ap (λ (ts : List Task). not (has u (elements_left ts))) is ∙ ap not (place.forward u h) in
      rw over (ready.quiet u e)) ∙ count_none ((shape_of p).preds e) in
      open_or_held (s e).status (missing (shape_of p) (settled s) e) undone none (kept.due e)

  take_up : (s : State C) (n at : ℕ) (t : Task) (left : List Task) → SoFar b p order s n → Ready p order s at → left_from order at ≡ t ∷ left → Taken b p order n at (element_of t)
  take_up s n at t left so ready is = elim (up_next s n at t left so ready is) [
    | inr held ↦ record { state = s; so = so; ready = ready; held = held }
    | inl opened ↦
        let e : ℕ = element_of t in
        let event : Event = Claim e in
        let s' : State C = after b (shape_of p) s event in
        let stand = same_place p order s s' (left_from order at) ready.stand (λ u. claimed (u == e) (s u) (λ q. ap (λ (k : ℕ). (s k).status) (same u e q) ∙ opened)) (λ u. claimed_made (u == e) (s u)) in
        record {
          state = s';
          so = so_more so event (opened, (ordered.placed at t left is).in_range) (goes_in_order p order axioms linear s' at stand) n (omega arith);
          ready = record { stand = stand; quiet = λ u v. ap (has v) (claimed_sends (u == e) (s u)) ∙ ready.quiet u v };
          held = (let r = itself e in rw r refl);
        }
  ]

  -- ---- its successors are told

  still_standing : (s : State C) (at e v : ℕ) → StandsAt p order s (left_from order at) → StandsAt p order (after_send s e v) (left_from order at)
  still_standing s at e v stand = same_place p order s (after_send s e v) (left_from order at) stand (λ u. done_arrived (u == v) (s u).status) (λ u. refl)

  all_told : (n at e : ℕ) (s : State C) → SoFar b p order s n → StandsAt p order s (left_from order at) → ((u v : ℕ) → u ≢ e → has v (s u).sends ≡ false) → (s e).sends ≡ [] → Next b p order n
  all_told n at e s so stand quiet none = record {
    state = s;
    at = at;
    so = so;
    ready = record {
      stand = stand;
      quiet = λ u v. elim (cases (u == e)) [
        | inl q ↦ ap (λ (k : ℕ). has v (s k).sends) (same u e q) ∙ ap (has v) none
        | inr q ↦ quiet u v (apart_of u e q)
      ];
    };
  }

  told : (fuel n at e : ℕ) (s : State C) → e < p.elements → length (s e).sends ≤ fuel → SoFar b p order s n → StandsAt p order s (left_from order at) → ((u v : ℕ) → u ≢ e → has v (s u).sends ≡ false) → Next b p order n
  told zero n at e s low short so stand quiet = by (s e).sends refl short
    where
      by : (xs : List ℕ) → (s e).sends ≡ xs → length xs ≤ 0 → Next b p order n
      by [] is l = all_told n at e s so stand quiet is
      by (v ∷ vs) is l = absurd (omega (arith, l))
  told (suc fuel) n at e s low short so stand quiet = by (s e).sends refl short (told fuel)
    where
      by : (xs : List ℕ) → (s e).sends ≡ xs → length xs ≤ suc fuel → ((n at e : ℕ) (s : State C) → e < p.elements → length (s e).sends ≤ fuel → SoFar b p order s n → StandsAt p order s (left_from order at) → ((u v : ℕ) → u ≢ e → has v (s u).sends ≡ false) → Next b p order n) → Next b p order n
      by [] is l rest = all_told n at e s so stand quiet is
      by (v ∷ vs) is l rest =
          let s' : State C = after_send s e v in
          let sent : has v (s e).sends ≡ true = ap (has v) is ∙ has_here v vs in
          let stand' = still_standing s at e v stand in
          let v_low : v < p.elements = (plan_shape p axioms).shape.below e v ((kept_so s n so).along e v sent) in
          let e_sends : (s' e).sends ≡ without v (v ∷ vs) = (let r = itself e in rw r refl) ∙ ap (without v) is in
          rest n at e s' low (rw e_sends (without_first v fuel vs l)) (so_more so (Send e v) (low, v_low, sent) (goes_in_order p order axioms linear s' at stand') n (omega arith)) stand'
          (λ u w ne. ap (λ (c : Bool). has w (if c then without v (s u).sends else (s u).sends)) (neq u e ne) ∙ quiet u w ne)

  places_short : (i : ℕ) → i < length (to_do order []) → i < length (places_of order)
  places_short i h = let e = length-to_do order in omega (arith, e, h)

  next_left : (at : ℕ) (t : Task) (left : List Task) → left_from order at ≡ t ∷ left → left_from order (at + 1) ≡ left
  next_left at t left is =
      let there = task_there order at (record { element = 0; role = Vertex }) (places_short at (drop_short at (to_do order []) t left is)) in
      let both : there.0 ∷ left_from order (at + 1) ≡ t ∷ left = sym there.1 ∙ is in
      cc

  -- ---- a run that goes on

  on_from : (s : State C) (n at : ℕ) (t : Task) (left : List Task) (run : Made C) → Ready p order s at → left_from order at ≡ t ∷ left → StandsAt p order (after_run (shape_of p) s (element_of t) false run) (left_from order (at + 1))
  on_from s n at t left run ready is =
      let e : ℕ = element_of t in
      let place = ordered.placed at t left is in
      let s' : State C = after_run (shape_of p) s e false run in
      let next : left_from order (at + 1) ≡ left = next_left at t left is in
      subst (StandsAt p order s') (sym next) (record {
        done = λ u low. elim (cases (u == e)) [
          | inl q ↦ (let gone : has u (elements_left left) ≡ false = ap (λ (k : ℕ). has k (elements_left left)) (same u e q) ∙ place.once in rw (q, gone) refl)
          | inr q ↦ ap (λ (x : Element C). done_there x.status) (run_else (shape_of p) s e u run q) ∙ ready.stand.done u low ∙ ap (λ (ts : List Task). not (has u (elements_left ts))) is ∙ ap (λ (c : Bool). not (c || has u (elements_left left))) q
        ];
        ran = λ u low was.
            let up = next_rises p order axioms linear at t left place.in_range is in
            elim (cases (u == e)) [
              | inl q ↦ (let z = ap (item_in order) (same u e q) in omega (arith, z, up))
              | inr q ↦ (
                  let before = ready.stand.ran u low (ap (λ (ms : List (Made C)). nat_lt 0 (length ms)) (sym (run_made (shape_of p) s e u false run q)) ∙ was) in
                  let z = ap (next_item order) is in omega (arith, before, z, up))
            ];
      })

  after_on : (s : State C) (n at : ℕ) (t : Task) (left : List Task) (run : Made C) → Ready p order s at → left_from order at ≡ t ∷ left → SoFar b p order (after_run (shape_of p) s (element_of t) false run) (n + 1) → Next b p order (n + 1)
  after_on s n at t left run ready is so =
      let e : ℕ = element_of t in
      let s' : State C = after_run (shape_of p) s e false run in
      told (length (s' e).sends) (n + 1) (at + 1) e s' (ordered.placed at t left is).in_range (omega arith) so (on_from s n at t left run ready is)
      (λ u v ne. ap (λ (x : Element C). has v x.sends) (run_else (shape_of p) s e u run (neq u e ne)) ∙ ready.quiet u v)

  -- ---- a run that goes back

  -- what is left then
  again_left : (head exit : ℕ) (rest : Level) (left : List Task) (u : ℕ) → IsTask (shape_of p) (Exit head exit rest) → has u (elements_left (to_do (Component_then head exit rest Empty) left)) ≡ (holds p exit u || has u (exit ∷ elements_left left))
  again_left head exit rest left u task =
      ap (has u) (ap (λ (us : List ℕ). head ∷ us) (elements_to_do rest (Exit head exit rest ∷ left)))
      ∙ has_append (head ∷ elements_of rest) (exit ∷ elements_left left) u
      ∙ ap (λ (c : Bool). c || has u (exit ∷ elements_left left)) (ap (λ (us : List ℕ). has u (head ∷ us)) (sym (level_to_do rest)) ∙ sym (task.1 u))

  after_back : (s : State C) (n at head exit : ℕ) (rest : Level) (left : List Task) (run : Made C) → Ready p order s at → left_from order at ≡ Exit head exit rest ∷ left
      → (j : ℕ) × StandsAt p order (after_run (shape_of p) s exit true run) (left_from order j)
  after_back s n at head exit rest left run ready is =
      let place = ordered.placed at (Exit head exit rest) left is in
      let s' : State C = after_run (shape_of p) s exit true run in
      let back = jump order [] at head exit rest left (places_short at (drop_short at (to_do order []) (Exit head exit rest) left is)) is in
      let head_in : holds p exit head ≡ true = place.is_task.1 head ∙ has_here head (elements_left (to_do rest [])) in
      let head_low : head < p.elements = inside_low p axioms exit head head_in in
      let item_head : item_in order head ≡ item_in order exit = same_item p order axioms linear head exit head_low place.in_range (member_top p axioms exit head head_in) in (
        back.0,
        subst (StandsAt p order s') (sym back.2) (record {
          done = λ u low. (elim (cases (holds p exit u)) [
            | inl i ↦ restart_not_done (shape_of p) s exit u run i ∙ sym (ap (λ (a : Bool). not (a || has u (exit ∷ elements_left left))) i)
            | inr out ↦ elim (cases (u == exit)) [
              | inl q ↦ rw (q, out) refl
              | inr q ↦ ap (λ (x : Element C). done_there x.status) (restart_else (shape_of p) s exit u run q out) ∙ ready.stand.done u low ∙ ap (λ (ts : List Task). not (has u (elements_left ts))) is ∙ sym (ap (λ (a : Bool). not (a || has u (exit ∷ elements_left left))) out)
            ]
          ]) ∙ sym (ap not (again_left head exit rest left u place.is_task));
          ran = λ u low was. elim (cases (u == exit)) [
            | inl q ↦ (let z = ap (item_in order) (same u exit q) in omega (arith, z, item_head))
            | inr q ↦ (
                let before = ready.stand.ran u low (ap (λ (ms : List (Made C)). nat_lt 0 (length ms)) (sym (run_made (shape_of p) s exit u true run q)) ∙ was) in
                let z = ap (next_item order) is in omega (arith, before, z, item_head))
          ];
        }),
      )

  -- ---- one run more

  by_exit : (s : State C) (n at : ℕ) (t : Task) (left : List Task) → SoFar b p order s n → Ready p order s at → left_from order at ≡ t ∷ left → (s (element_of t)).status ≡ Held → IsTask (shape_of p) t → Next b p order (n + 1)
  by_exit s n at (Run e) left so ready is held task =
      let low = (ordered.placed at (Run e) left is).in_range in
      let s' : State C = after b (shape_of p) s (Finish e) in
      let stand = on_from s n at (Run e) left (applied b s e) ready is in
      after_on s n at (Run e) left (applied b s e) ready is (so_more so (Finish e) ((held, low), task) (goes_in_order p order axioms linear s' (at + 1) stand) (n + 1) (omega arith))
  by_exit s n at (Exit head exit rest) left so ready is held task = elim (cases (decides_again b s exit)) [
    | inr goes ↦
        let s' : State C = after b (shape_of p) s (Stable exit) in
        let stand = on_from s n at (Exit head exit rest) left (decided b s exit) ready is in
        after_on s n at (Exit head exit rest) left (decided b s exit) ready is (so_more so (Stable exit) ((held, low), task.0, goes) (goes_in_order p order axioms linear s' (at + 1) stand) (n + 1) (omega arith))
    | inl again ↦
        let s' : State C = after b (shape_of p) s (Again exit) in
        let back = after_back s n at head exit rest left (decided b s exit) ready is in
        record {
          state = s';
          at = back.0;
          so = so_more so (Again exit) ((held, low), task.0, again) (goes_in_order p order axioms linear s' back.0 back.1) (n + 1) (omega arith);
          ready = record { stand = back.1; quiet = λ u v. restart_sends (shape_of p) s exit u v (decided b s exit) ∙ ready.quiet u v };
        }
  ]
    where
      low : exit < p.elements
      low = (ordered.placed at (Exit head exit rest) left is).in_range

  one_run : (s : State C) (n at : ℕ) (t : Task) (left : List Task) → SoFar b p order s n → Ready p order s at → left_from order at ≡ t ∷ left → Next b p order (n + 1)
  one_run s n at t left so ready is =
      let up = take_up s n at t left so ready is in
      by_exit up.state n at t left up.so up.ready is up.held (ordered.placed at t left is).is_task

  -- ---- all runs

  finished : (s : State C) (n at : ℕ) → SoFar b p order s n → Ready p order s at → left_from order at ≡ [] → Line b p order
  finished s n at so ready none = record {
    events = so.events;
    enabled = so.enabled;
    done =
        ap (λ (t : State C). (t (end_of p)).status) so.leads
        ∙ done_is (s (end_of p)).status (ready.stand.done (end_of p) (omega (arith, axioms.counted)) ∙ ap (λ (ts : List Task). not (has (end_of p) (elements_left ts))) none);
    in_order = so.in_order;
    within_peak = λ k. within_peak p order (state_after b p so.events k) axioms linear (so.in_order k);
  }

  all_runs : FitsPlan b p → (ends : Ends b order) → (fuel n at : ℕ) (s : State C) → n + fuel ≡ length (trace ends) → SoFar b p order s n → Ready p order s at → Line b p order
  all_runs fits ends zero n at s sum so ready = by (left_from order at) refl
    where
      by : (left : List Task) → left_from order at ≡ left → Line b p order
      by [] is = finished s n at so ready is
      by (t ∷ left) is = absurd (
          let next = one_run s n at t left so ready is in
          let most = (every_list b).runs p order ends next.so.events axioms ordered fits next.so.enabled in
          let runs = next.so.runs in
          omega (arith, most, runs, sum))
  all_runs fits ends (suc fuel) n at s sum so ready = by (left_from order at) refl (λ next. all_runs fits ends fuel (n + 1) next.at next.state (omega (arith, sum)) next.so next.ready)
    where
      by : (left : List Task) → left_from order at ≡ left → (Next b p order (n + 1) → Line b p order) → Line b p order
      by [] is rest = finished s n at so ready is
      by (t ∷ left) is rest = rest (one_run s n at t left so ready is)

  start_undone : (xs : List ℕ) → done_there (start_status xs) ≡ false
  start_undone [] = refl
  start_undone (x ∷ xs) = refl

  from_start : FitsPlan b p → Ends b order → Line b p order
  from_start fits ends = all_runs fits ends (length (trace ends)) 0 0 (start (shape_of p)) (omega arith) (record {
    events = [];
    enabled = tt;
    leads = refl;
    in_order = λ k. nothing k;
    runs = refl;
  }) (record {
    stand = record {
      done = λ u low. start_undone ((shape_of p).preds u) ∙ sym (ap not (ordered.every u low));
      ran = λ u low was. absurd (cc);
    };
    quiet = λ u v. refl;
  })
    where
      nothing : (k : ℕ) → IsInOrder p order (state_after b p [] k)
      nothing zero e u e_low u_low was less = absurd (cc)
      nothing (suc k) e u e_low u_low was less = absurd (cc)

pub every_plan_has_a_line : {C : Type 0} (b : Behaviour C) → EveryPlanHasALine b
every_plan_has_a_line b p order axioms linear ordered fits ends = from_start b p order axioms linear ordered fits ends
