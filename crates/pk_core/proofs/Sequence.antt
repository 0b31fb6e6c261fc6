-- The recursion is one way through the moves.
use Rattle.std.proofs.Common.{◌≡◌, ◌≢◌, ℕ, zero, suc, ◌+◌, ◌<◌, ◌≤◌, ◌==◌, List, [], ◌∷◌, ◌++◌, map, drop, length, Bool, true, false, if◌then◌else◌, not, ◌||◌, refl, sym, ap, subst, ◌∙◌, arith, inl, inr, append_assoc}
use Rattle.pk_plan.specs.Order.{Level, Empty, Vertex_then, Component_then}
use Rattle.pk_iterate.specs.declared.systems.Decision.{Decision}
use Rattle.pk_iterate.specs.declared.systems.Decision.TheVariants.{Stable, Again}
use Rattle.pk_iterate.specs.Behaviour.{Behaviour, decided_cell, is_again}
use Rattle.pk_iterate.specs.Iteration.{Task, Run as RunTask, Exit, to_do, element_of, inputs_after, cell_after, Progress, progress, next_run, decided}
use Rattle.pk_iterate.proofs.Jumps.{jump}
use Rattle.pk_iterate.proofs.Next.{length-to_do}
use Rattle.pk_plan.specs.Order.{places_of}
use Rattle.pk_core.specs.declared.events.Status.{Status}
use Rattle.pk_core.specs.declared.events.Status.TheVariants.{Waiting, Open, Held, Done}
use Rattle.pk_plan.specs.Shape.{Shape, has}
use Rattle.pk_core.specs.Events.{without, start, start_status}
use Rattle.pk_core.proofs.Moves.{Axioms, Move, Run, Tell, moved, CanMove, restarts, gives, log_of}
use Rattle.pk_core.specs.States.{Made, Element, State, inputs_of, cell_in, newest}
use Rattle.pk_core.specs.Orders.{elements_left, IsPlaced, IsOrderOf}
use Rattle.pk_core.proofs.Basics.{cases, neq, same, itself, counted_same}
use Rattle.pk_core.proofs.Keeps.{is_done, owing, missing, Due, Kept, kept_moved, count_none, after_send, after_run, run_else, restart_else, restart_sends, restart_not_done, done_arrived, apart_of}
use Rattle.pk_core.proofs.Settled.{settle, settled, settled_moved, kept_start}
use Rattle.pk_core.proofs.Front.{Reaches, here, onward, weight}

-- one move more at the end
pub reaches_more : {C : Type 0} {b : Behaviour C} {p : Shape} {s t : State C} {n : ℕ} → Reaches b p s n t → (m : Move) → CanMove p s m → Reaches b p (moved b p s m) (weight m + n) t
reaches_more {C} {b} {p} (here e) m can = onward m (subst (λ (x : State C). CanMove p x m) (sym e) can) refl (here (ap (λ (x : State C). moved b p x m) e))
reaches_more (onward {n} {k} l done count rest) m can =
    let both : weight m + n ≡ weight l + (weight m + k) = omega (arith, count) in
    onward l done both (reaches_more rest m can)

reaches_tell : {C : Type 0} {b : Behaviour C} {p : Shape} {s t : State C} {n : ℕ} → Reaches b p s n t → (a v : ℕ) → CanMove p s (Tell a v) → Reaches b p (moved b p s (Tell a v)) n t
reaches_tell {C} {b} {p} {s} {t} {n} r a v can =
    let e : 0 + n ≡ n = omega arith in
    subst (λ (k : ℕ). Reaches b p (moved b p s (Tell a v)) k t) e (reaches_more r (Tell a v) can)

-- a state on the way of the recursion, after these runs and with these left
pub record Sim {C : Type 0} (b : Behaviour C) (p : Shape) (s : State C) (runs : List (ℕ × C)) (left : List Task) : Type 0 where
  pub reach : Reaches b p s (length runs) (settled (start p))
  pub kept : Kept p s
  pub is_settled : settled s ≡ s
  pub done : (u : ℕ) → u < p.elements → is_done (s u).status ≡ not (has u (elements_left left))
  pub quiet : (u v : ℕ) → has v (s u).sends ≡ false
  pub made : (u : ℕ) → (s u).made ≡ log_of b runs u

swap_eq : (m n : ℕ) → (m == n) ≡ (n == m)
swap_eq m n = elim (cases (m == n)) [
  | inl h ↦ h ∙ sym (ap (λ (j : ℕ). j == m) (sym (same m n h)) ∙ itself m)
  | inr h ↦ h ∙ sym (neq n m (λ e. apart_of m n h (sym e)))
]

-- the cells are those after the runs
pub log_cell : {C : Type 0} (b : Behaviour C) (runs : List (ℕ × C)) (u : ℕ) → newest (b.first u) (log_of b runs u) ≡ cell_after b runs u
log_cell b [] u = refl
log_cell {C} b (r ∷ runs) u = by_test (r.0 == u) (log_cell b runs u)
  where
    by_test : (c : Bool) → newest (b.first u) (log_of b runs u) ≡ cell_after b runs u → newest (b.first u) (if c then record { read = inputs_after b runs u; gave = r.1 } ∷ log_of b runs u else log_of b runs u) ≡ (if c then r.1 else cell_after b runs u)
    by_test true ih = refl
    by_test false ih = ih

sim_inputs : {C : Type 0} {b : Behaviour C} {p : Shape} {s : State C} {runs : List (ℕ × C)} {left : List Task} → Sim b p s runs left → (e : ℕ) → inputs_of b s e ≡ inputs_after b runs e
sim_inputs {C} {b} {p} {s} {runs} m e =
    let cells : cell_in b s ≡ cell_after b runs = λ i u. (ap (newest (b.first u)) (m.made u) ∙ log_cell b runs u) i in
    ap (λ (f : ℕ → C). map f (b.reads e)) cells

-- an element that is not done, whose predecessors are, is held
is_ready : (st : Status) (m : ℕ) → settle st ≡ st → is_done st ≡ false → m ≡ 0 → Due st m → st ≡ Held
is_ready (Waiting n) m w u z due = absurd (omega (arith, due.1, z))
is_ready Open m w u z due = absurd (let e : Held ≡ Open = w in cc)
is_ready Held m w u z due = refl
is_ready Done m w u z due = absurd (cc)

sim_held : {C : Type 0} {b : Behaviour C} {p : Shape} {s : State C} {runs : List (ℕ × C)} {t : Task} {left : List Task} → Axioms p → Sim b p s runs (t ∷ left) → IsPlaced p t left → (s (element_of t)).status ≡ Held
sim_held {C} {b} {p} {s} {runs} {t} {left} ax m at =
    let e : ℕ = element_of t in
    let undone : is_done (s e).status ≡ false = m.done e at.in_range ∙ (let r = itself e in rw r refl) in
    let none : missing p s e ≡ 0 = counted_same (owing s e) (λ w. false) (p.preds e) (λ u h.
    let over : is_done (s u).status ≡ true = m.done u (ax.shape.above u e (ax.shape.dual u e ∙ h)) ∙ (let f = at.forward u h in rw f refl) in
    rw over (m.quiet u e)) ∙ count_none (p.preds e) in
    is_ready (s e).status (missing p s e) (ap (λ (x : State C). (x e).status) m.is_settled) undone none (m.kept.due e)

-- All sends of an element are made.

pub record Told {C : Type 0} (b : Behaviour C) (p : Shape) (k : ℕ) (s : State C) : Type 0 where
  pub end : State C
  pub reach : Reaches b p end k (settled (start p))
  pub kept : Kept p end
  pub is_settled : settled end ≡ end
  pub done : (u : ℕ) → is_done (end u).status ≡ is_done (s u).status
  pub quiet : (u v : ℕ) → has v (end u).sends ≡ false
  pub made : (u : ℕ) → (end u).made ≡ (s u).made

length_without : (v : ℕ) (xs : List ℕ) → length (without v xs) ≤ length xs
length_without v [] = omega arith
length_without v (x ∷ xs) = by_test (not (x == v)) (length_without v xs)
  where
    by_test : (c : Bool) → length (without v xs) ≤ length xs → length (if c then x ∷ without v xs else without v xs) ≤ suc (length xs)
    by_test true ih = omega arith
    by_test false ih = omega arith

without_first : (v n : ℕ) (xs : List ℕ) → length (v ∷ xs) ≤ suc n → length (without v (v ∷ xs)) ≤ n
without_first v n xs h =
    let e : without v (v ∷ xs) ≡ without v xs = (let r = itself v in rw r refl) in
    let short = length_without v xs in
    rw e (omega arith)

-- what is asked of tell_all
abbrev Tells : {C : Type 0} → Behaviour C → Shape → ℕ → ℕ → Type 0
Tells {C} b p e fuel = (k : ℕ) (s : State C) → length (s e).sends ≤ fuel → Reaches b p s k (settled (start p)) → Kept p s → settled s ≡ s → ((u v : ℕ) → u ≢ e → has v (s u).sends ≡ false) → Told b p k s

nothing_left : {C : Type 0} (b : Behaviour C) (p : Shape) (e k : ℕ) (s : State C) → (s e).sends ≡ [] → Reaches b p s k (settled (start p)) → Kept p s → settled s ≡ s → ((u v : ℕ) → u ≢ e → has v (s u).sends ≡ false) → Told b p k s
nothing_left b p e k s none reach kept is_settled quiet = record {
  end = s;
  reach = reach;
  kept = kept;
  is_settled = is_settled;
  done = λ u. refl;
  quiet = λ u v. elim (cases (u == e)) [
    | inl h ↦ ap (λ (j : ℕ). has v (s j).sends) (same u e h) ∙ ap (has v) none
    | inr h ↦ quiet u v (apart_of u e h)
  ];
  made = λ u. refl;
}

tell_one : {C : Type 0} (b : Behaviour C) (p : Shape) (e fuel : ℕ) → Axioms p → Tells b p e fuel → (k : ℕ) (s : State C) (v : ℕ) (vs : List ℕ) → (s e).sends ≡ v ∷ vs → length (v ∷ vs) ≤ suc fuel → Reaches b p s k (settled (start p)) → Kept p s → settled s ≡ s → ((u w : ℕ) → u ≢ e → has w (s u).sends ≡ false) → Told b p k s
tell_one {C} b p e fuel ax ih k s v vs is short reach kept is_settled quiet =
    let s' : State C = after_send s e v in
    let can : CanMove p s (Tell e v) = ap (has v) is ∙ (let r = itself v in rw r refl) in
    let e_sends : (s' e).sends ≡ without v (v ∷ vs) = (let r = itself e in rw r refl) ∙ ap (without v) is in
    let r = ih k s' (rw e_sends (without_first v fuel vs short)) (reaches_tell reach e v can) (kept_moved b ax kept (Tell e v) can)
    (settled_moved b p s (Tell e v) ∙ ap (λ (x : State C). moved b p x (Tell e v)) is_settled)
    (λ u w ne. ap (λ (c : Bool). has w (if c then without v (s u).sends else (s u).sends)) (neq u e ne) ∙ quiet u w ne) in
    record {
      end = r.end;
      reach = r.reach;
      kept = r.kept;
      is_settled = r.is_settled;
      done = λ u. r.done u ∙ done_arrived (u == v) (s u).status;
      quiet = r.quiet;
      made = r.made;
    }

pub tell_all : {C : Type 0} (b : Behaviour C) (p : Shape) (e : ℕ) → Axioms p → (fuel : ℕ) → Tells b p e fuel
tell_all {C} b p e ax zero k s short reach kept is_settled quiet = by_list (s e).sends refl short
  where
    by_list : (xs : List ℕ) → (s e).sends ≡ xs → length xs ≤ 0 → Told b p k s
    by_list [] is short = nothing_left b p e k s is reach kept is_settled quiet
    by_list (v ∷ vs) is short = absurd (omega arith)
tell_all {C} b p e ax (suc fuel) k s short reach kept is_settled quiet = by_list (tell_all b p e ax fuel) (s e).sends refl short
  where
    by_list : Tells b p e fuel → (xs : List ℕ) → (s e).sends ≡ xs → length xs ≤ suc fuel → Told b p k s
    by_list ih [] is short = nothing_left b p e k s is reach kept is_settled quiet
    by_list ih (v ∷ vs) is short = tell_one b p e fuel ax ih k s v vs is short reach kept is_settled quiet

-- One run more, with its sends.

one_more : {C : Type 0} {b : Behaviour C} {p : Shape} {z : State C} (runs : List (ℕ × C)) (e : ℕ) (c : C) → Reaches b p z (1 + length runs) (settled (start p)) → Reaches b p z (length ((e, c) ∷ runs)) (settled (start p))
one_more {C} {b} {p} {z} runs e c r = let q : 1 + length runs ≡ suc (length runs) = omega arith in subst (λ (k : ℕ). Reaches b p z k (settled (start p))) q r

-- the log after a run
log_more : {C : Type 0} (b : Behaviour C) (runs : List (ℕ × C)) (e u : ℕ) (inputs : List C) (c : C) (made : List (Made C)) → inputs ≡ inputs_after b runs e → made ≡ log_of b runs u → (if u == e then record { read = inputs; gave = c } ∷ made else made) ≡ log_of b ((e, c) ∷ runs) u
log_more {C} b runs e u inputs c made same_inputs is = by_test (u == e) refl
  where
    by_test : (t : Bool) → (u == e) ≡ t → (if t then record { read = inputs; gave = c } ∷ made else made) ≡ log_of b ((e, c) ∷ runs) u
    by_test true q =
        let at : inputs ≡ inputs_after b runs u = same_inputs ∙ ap (inputs_after b runs) (sym (same u e q)) in
        let t : (e == u) ≡ true = swap_eq e u ∙ q in
        rw (t, at, is) refl
    by_test false q =
        let t : (e == u) ≡ false = swap_eq e u ∙ q in
        rw (t, is) refl

run_on : {C : Type 0} {b : Behaviour C} {p : Shape} {s : State C} {runs : List (ℕ × C)} {t : Task} {left : List Task} → Axioms p → Sim b p s runs (t ∷ left) → IsPlaced p t left → (c : C) → restarts b (p.is_exit (element_of t)) (element_of t) (inputs_after b runs (element_of t)) ≡ false → gives b (p.is_exit (element_of t)) (element_of t) (inputs_after b runs (element_of t)) ≡ c → (z : State C) × Sim b p z ((element_of t, c) ∷ runs) left
run_on {C} {b} {p} {s} {runs} {t} {left} ax m at c stays is =
    let e : ℕ = element_of t in
    let held = sim_held ax m at in
    let can : CanMove p s (Run e) = (held, at.in_range) in
    let run : Made C = record { read = inputs_of b s e; gave = c } in
    let ins = sim_inputs m e in
    let again : restarts b (p.is_exit e) e (inputs_of b s e) ≡ false = ap (restarts b (p.is_exit e) e) ins ∙ stays in
    let gave : gives b (p.is_exit e) e (inputs_of b s e) ≡ c = ap (gives b (p.is_exit e) e) ins ∙ is in
    let s' : State C = after_run p s e false run in
    let step : moved b p s (Run e) ≡ s' =
    ap (λ (a : Bool). after_run p s e a (record { read = inputs_of b s e; gave = gives b (p.is_exit e) e (inputs_of b s e) })) again
    ∙ ap (λ (x : C). after_run p s e false (record { read = inputs_of b s e; gave = x })) gave in
    let r = tell_all b p e ax (length (s' e).sends) (1 + length runs) s' (omega arith)
    (subst (λ (x : State C). Reaches b p x (1 + length runs) (settled (start p))) step (reaches_more m.reach (Run e) can))
    (subst (λ (x : State C). Kept p x) step (kept_moved b ax m.kept (Run e) can))
    (ap settled (sym step) ∙ settled_moved b p s (Run e) ∙ ap (λ (x : State C). moved b p x (Run e)) m.is_settled ∙ step)
    (λ u v ne. ap (λ (x : Element C). has v x.sends) (run_else p s e u run (neq u e ne)) ∙ m.quiet u v) in (
      r.end,
      record {
        reach = one_more runs e c r.reach;
        kept = r.kept;
        is_settled = r.is_settled;
        done = λ u below. r.done u ∙ (elim (cases (u == e)) [
          | inl h ↦
              let gone : has u (elements_left left) ≡ false = ap (λ (j : ℕ). has j (elements_left left)) (same u e h) ∙ at.once in
              rw (h, gone) refl
          | inr h ↦ ap (λ (x : Element C). is_done x.status) (run_else p s e u run h) ∙ m.done u below ∙ ap (λ (a : Bool). not (a || has u (elements_left left))) h
        ]);
        quiet = r.quiet;
        made = λ u. r.made u ∙ log_more b runs e u (inputs_of b s e) c (s u).made ins (m.made u);
      },
    )

-- A restart.

not_or : (a c : Bool) → not (a || c) ≡ true → (a ≡ false) × (c ≡ false)
not_or true c h = absurd (cc)
not_or false true h = absurd (cc)
not_or false false h = (refl, refl)

run_again : {C : Type 0} {b : Behaviour C} {p : Shape} {s : State C} {runs : List (ℕ × C)} {t : Task} {left next : List Task} → Axioms p → Sim b p s runs (t ∷ left) → IsPlaced p t left → (c : C) → restarts b (p.is_exit (element_of t)) (element_of t) (inputs_after b runs (element_of t)) ≡ true → gives b (p.is_exit (element_of t)) (element_of t) (inputs_after b runs (element_of t)) ≡ c → ((u : ℕ) → has u (elements_left next) ≡ (p.inside (element_of t) u || has u (element_of t ∷ elements_left left))) → (z : State C) × Sim b p z ((element_of t, c) ∷ runs) next
run_again {C} {b} {p} {s} {runs} {t} {left} {next} ax m at c restart is next_is =
    let e : ℕ = element_of t in
    let held = sim_held ax m at in
    let can : CanMove p s (Run e) = (held, at.in_range) in
    let run : Made C = record { read = inputs_of b s e; gave = c } in
    let ins = sim_inputs m e in
    let again : restarts b (p.is_exit e) e (inputs_of b s e) ≡ true = ap (restarts b (p.is_exit e) e) ins ∙ restart in
    let gave : gives b (p.is_exit e) e (inputs_of b s e) ≡ c = ap (gives b (p.is_exit e) e) ins ∙ is in
    let s' : State C = after_run p s e true run in
    let step : moved b p s (Run e) ≡ s' =
    ap (λ (a : Bool). after_run p s e a (record { read = inputs_of b s e; gave = gives b (p.is_exit e) e (inputs_of b s e) })) again
    ∙ ap (λ (x : C). after_run p s e true (record { read = inputs_of b s e; gave = x })) gave in (
      s',
      record {
        reach = one_more runs e c (subst (λ (x : State C). Reaches b p x (1 + length runs) (settled (start p))) step (reaches_more m.reach (Run e) can));
        kept = subst (λ (x : State C). Kept p x) step (kept_moved b ax m.kept (Run e) can);
        is_settled = ap settled (sym step) ∙ settled_moved b p s (Run e) ∙ ap (λ (x : State C). moved b p x (Run e)) m.is_settled ∙ step;
        done = λ u below. (elim (cases (p.inside e u)) [
          | inl i ↦ restart_not_done p s e u run i ∙ sym (ap (λ (a : Bool). not (a || has u (e ∷ elements_left left))) i)
          | inr out ↦ elim (cases (u == e)) [
            | inl h ↦ rw (h, out) refl
            | inr h ↦ ap (λ (x : Element C). is_done x.status) (restart_else p s e u run h out) ∙ m.done u below ∙ sym (ap (λ (a : Bool). not (a || has u (e ∷ elements_left left))) out)
          ]
        ]) ∙ sym (ap not (next_is u));
        quiet = λ u v. restart_sends p s e u v run ∙ m.quiet u v;
        made = λ u. log_more b runs e u (inputs_of b s e) c (s u).made ins (m.made u);
      },
    )

-- The recursion, run by run.

has_append : (u : ℕ) (xs ys : List ℕ) → has u (xs ++ ys) ≡ (has u xs || has u ys)
has_append u [] ys = refl
has_append u (x ∷ xs) ys = by_test (u == x) (has_append u xs ys)
  where
    by_test : (c : Bool) → has u (xs ++ ys) ≡ (has u xs || has u ys) → (c || has u (xs ++ ys)) ≡ ((c || has u xs) || has u ys)
    by_test true ih = refl
    by_test false ih = ih

-- the elements of a level stand before those that are left
left-to_do : (level : Level) (left : List Task) → elements_left (to_do level left) ≡ elements_left (to_do level []) ++ elements_left left
left-to_do Empty left = refl
left-to_do (Vertex_then v more) left = ap (λ (us : List ℕ). v ∷ us) (left-to_do more left)
left-to_do (Component_then head exit rest more) left =
    let a = left-to_do rest (Exit head exit rest ∷ to_do more left) in
    let c = left-to_do rest (Exit head exit rest ∷ to_do more []) in
    let d = left-to_do more left in
    ap (λ (us : List ℕ). head ∷ us) (a ∙ ap (λ (us : List ℕ). elements_left (to_do rest []) ++ (exit ∷ us)) d
    ∙ sym (append_assoc (elements_left (to_do rest [])) (exit ∷ elements_left (to_do more [])) (elements_left left))
    ∙ ap (λ (us : List ℕ). us ++ elements_left left) (sym c))

or_assoc : (a c d : Bool) → (a || (c || d)) ≡ ((a || c) || d)
or_assoc true c d = refl
or_assoc false c d = refl

-- a component that is gone through again is what is left
again_left : (head exit : ℕ) (rest : Level) (left : List Task) (u : ℕ) → has u (elements_left (to_do (Component_then head exit rest Empty) left)) ≡ (has u (head ∷ elements_left (to_do rest [])) || has u (exit ∷ elements_left left))
again_left head exit rest left u =
    ap (λ (us : List ℕ). (u == head) || has u us) (left-to_do rest (Exit head exit rest ∷ left))
    ∙ ap (λ (c : Bool). (u == head) || c) (has_append u (elements_left (to_do rest [])) (exit ∷ elements_left left))
    ∙ or_assoc (u == head) (has u (elements_left (to_do rest []))) (has u (exit ∷ elements_left left))

-- a state on the way, and where in the order it stands
pub record Stage {C : Type 0} (b : Behaviour C) (p : Shape) (order : Level) (q : Progress C) : Type 0 where
  pub state : State C
  pub sim : Sim b p state q.runs q.left
  pub at : ℕ
  pub left_is : drop at (to_do order []) ≡ q.left

drop_more : {A : Type 0} (i : ℕ) (xs : List A) (y : A) (ys : List A) → drop i xs ≡ y ∷ ys → drop (suc i) xs ≡ ys
drop_more zero [] y ys h = absurd (cc)
drop_more zero (x ∷ xs) y ys h = (let t : xs ≡ ys = cc in t)
drop_more (suc i) [] y ys h = absurd (cc)
drop_more (suc i) (x ∷ xs) y ys h = drop_more i xs y ys h

pub drop_short : {A : Type 0} (i : ℕ) (xs : List A) (y : A) (ys : List A) → drop i xs ≡ y ∷ ys → i < length xs
drop_short zero [] y ys h = absurd (cc)
drop_short zero (x ∷ xs) y ys h = omega arith
drop_short (suc i) [] y ys h = absurd (cc)
drop_short (suc i) (x ∷ xs) y ys h =
    let r = drop_short i xs y ys h in
    omega arith

places_short : (order : Level) (i : ℕ) → i < length (to_do order []) → i < length (places_of order)
places_short order i h =
    let e = length-to_do order in
    omega (arith, e)

progress_of : {C : Type 0} → List (ℕ × C) → List Task → Progress C
progress_of runs left = record { runs = runs; left = left }

stage_run : {C : Type 0} {b : Behaviour C} {p : Shape} {order : Level} → Axioms p → IsOrderOf p order → (runs : List (ℕ × C)) (e : ℕ) (left : List Task) → Stage b p order (record { runs = runs; left = RunTask e ∷ left }) → Stage b p order (next_run b runs (RunTask e ∷ left))
stage_run {C} {b} {p} {order} ax fits runs e left g =
    let at = fits.placed g.at (RunTask e) left g.left_is in
    let plain : p.is_exit e ≡ false = at.is_task in
    let r = run_on ax g.sim at (b.apply e (inputs_after b runs e)) (ap (λ (c : Bool). restarts b c e (inputs_after b runs e)) plain) (ap (λ (c : Bool). gives b c e (inputs_after b runs e)) plain) in
    record { state = r.0; sim = r.1; at = suc g.at; left_is = drop_more g.at (to_do order []) (RunTask e) left g.left_is }

stage_exit : {C : Type 0} {b : Behaviour C} {p : Shape} {order : Level} → Axioms p → IsOrderOf p order → (runs : List (ℕ × C)) (head exit : ℕ) (rest : Level) (left : List Task) (d : Decision C) → b.decide exit (inputs_after b runs exit) ≡ d → Stage b p order (record { runs = runs; left = Exit head exit rest ∷ left }) → Stage b p order (decided runs head exit rest left d)
stage_exit {C} {b} {p} {order} ax fits runs head exit rest left (Stable c) is g =
    let at = fits.placed g.at (Exit head exit rest) left g.left_is in
    let e : p.is_exit exit ≡ true = at.is_task.0 in
    let r = run_on ax g.sim at c (ap (λ (t : Bool). restarts b t exit (inputs_after b runs exit)) e ∙ ap is_again is) (ap (λ (t : Bool). gives b t exit (inputs_after b runs exit)) e ∙ ap decided_cell is) in
    record { state = r.0; sim = r.1; at = suc g.at; left_is = drop_more g.at (to_do order []) (Exit head exit rest) left g.left_is }
stage_exit {C} {b} {p} {order} ax fits runs head exit rest left (Again c) is g =
    let at = fits.placed g.at (Exit head exit rest) left g.left_is in
    let e : p.is_exit exit ≡ true = at.is_task.0 in
    let back = jump order [] g.at head exit rest left (places_short order g.at (drop_short g.at (to_do order []) (Exit head exit rest) left g.left_is)) g.left_is in
    let r = run_again {next = to_do (Component_then head exit rest Empty) left} ax g.sim at c (ap (λ (t : Bool). restarts b t exit (inputs_after b runs exit)) e ∙ ap is_again is) (ap (λ (t : Bool). gives b t exit (inputs_after b runs exit)) e ∙ ap decided_cell is)
    (λ u. again_left head exit rest left u ∙ ap (λ (t : Bool). t || has u (exit ∷ elements_left left)) (sym (at.is_task.1 u))) in
    record { state = r.0; sim = r.1; at = back.0; left_is = back.2 }

stage_next : {C : Type 0} {b : Behaviour C} {p : Shape} {order : Level} → Axioms p → IsOrderOf p order → (runs : List (ℕ × C)) (left : List Task) → Stage b p order (record { runs = runs; left = left }) → Stage b p order (next_run b runs left)
stage_next ax fits runs [] g = g
stage_next ax fits runs (RunTask e ∷ left) g = stage_run ax fits runs e left g
stage_next {C} {b} ax fits runs (Exit head exit rest ∷ left) g = stage_exit ax fits runs head exit rest left (b.decide exit (inputs_after b runs exit)) refl g

start_undone : (xs : List ℕ) → is_done (settle (start_status xs)) ≡ false
start_undone [] = refl
start_undone (x ∷ xs) = refl

settle_twice : (st : Status) → settle (settle st) ≡ settle st
settle_twice (Waiting n) = refl
settle_twice Open = refl
settle_twice Held = refl
settle_twice Done = refl

stage_start : {C : Type 0} (b : Behaviour C) (p : Shape) (order : Level) → IsOrderOf p order → Stage b p order (record { runs = []; left = to_do order [] })
stage_start {C} b p order fits = record {
  state = settled (start p);
  sim = record {
    reach = here refl;
    kept = kept_start p;
    is_settled = λ i u. record { status = settle_twice (start_status (p.preds u)) i; made = []; sends = [] };
    done = λ u below. start_undone (p.preds u) ∙ sym (ap not (fits.every u below));
    quiet = λ u v. refl;
    made = λ u. refl;
  };
  at = 0;
  left_is = refl;
}

-- after each number of runs there is a state of the core with these runs
pub stage : {C : Type 0} (b : Behaviour C) (p : Shape) (order : Level) → Axioms p → IsOrderOf p order → (n : ℕ) → Stage b p order (progress b order n)
unfolding progress
stage b p order ax fits zero = stage_start b p order fits
stage b p order ax fits (suc n) = stage_next ax fits (progress b order n).runs (progress b order n).left (stage b p order ax fits n)
