-- What every move keeps: counts are the sends still to come.
use Rattle.std.proofs.Common.{◌≡◌, ◌≢◌, ℕ, zero, suc, ◌+◌, ◌<◌, ◌==◌, List, [], ◌∷◌, count_by, Bool, true, false, ◌&&◌, not, cond, if◌then◌else◌, refl, sym, ap, subst, ◌∙◌, arith, inl, inr, ◌⊎◌}
use Rattle.pk_iterate.specs.Behaviour.{Behaviour}
use Rattle.pk_plan.specs.Shape.{Shape, has, Before, one, more}
use Rattle.pk_core.specs.Events.{inner, arrived, without, after_run_at, after_send_at}
use Rattle.pk_core.proofs.Moves.{Axioms, Move, Run, Tell, moved, CanMove, restarts, gives}
use Rattle.pk_core.specs.States.{Made, Element, State, inputs_of}
use Rattle.pk_core.specs.declared.events.Status.{Status}
use Rattle.pk_core.specs.declared.events.Status.TheVariants.{Waiting, Open, Held, Done}
use Rattle.pk_core.proofs.Basics.{cases, not_true, neq, same, itself, none_counted, counted_same, counted_less, has_without, has_without_none, has_filter, count_cons}

abbrev pub is_done : Status → Bool
is_done (Waiting n) = false
is_done Open = false
is_done Held = false
is_done Done = true

abbrev pub is_waiting : Status → Bool
is_waiting (Waiting n) = true
is_waiting Open = false
is_waiting Held = false
is_waiting Done = false

-- u has yet to send to v
abbrev pub owing : {C : Type 0} → State C → ℕ → ℕ → Bool
owing s v u = if is_done (s u).status then has v (s u).sends else true

abbrev pub missing : {C : Type 0} → Shape → State C → ℕ → ℕ
missing p s v = count_by (owing s v) (p.preds v)

abbrev pub Due : Status → ℕ → Type 0
Due (Waiting n) m = (n ≡ m) × (0 < m)
Due Open m = m ≡ 0
Due Held m = m ≡ 0
Due Done m = m ≡ 0

pub record Kept {C : Type 0} (p : Shape) (s : State C) : Type 0 where
  pub due : (v : ℕ) → Due (s v).status (missing p s v)
  pub senders : (u v : ℕ) → has v (s u).sends ≡ true → is_done (s u).status ≡ true
  pub along : (u v : ℕ) → has v (s u).sends ≡ true → has v (p.succs u) ≡ true

due_zero : (st : Status) (m : ℕ) → Due st m → is_waiting st ≡ false → m ≡ 0
due_zero (Waiting n) m d h = absurd (cc)
due_zero Open m d h = d
due_zero Held m d h = d
due_zero Done m d h = d

pub done_not_waiting : (st : Status) → is_done st ≡ true → is_waiting st ≡ false
done_not_waiting (Waiting n) h = absurd (cc)
done_not_waiting Open h = absurd (cc)
done_not_waiting Held h = absurd (cc)
done_not_waiting Done h = refl

owing_parts : (d h : Bool) → cond d h true ≡ false → (d ≡ true) × (h ≡ false)
owing_parts true h e = (refl, e)
owing_parts false h e = absurd (cc)

-- the predecessors of an element that waits no more are done, and have sent to it
pub past : {C : Type 0} {p : Shape} {s : State C} → Kept p s → (u v : ℕ) → has u (p.preds v) ≡ true → is_waiting (s v).status ≡ false → (is_done (s u).status ≡ true) × (has v (s u).sends ≡ false)
past {C} {p} {s} k u v h w = owing_parts (is_done (s u).status) (has v (s u).sends) (none_counted (owing s v) (p.preds v) u (due_zero (s v).status (missing p s v) (k.due v) w) h)

pub before_done : {C : Type 0} {p : Shape} {s : State C} → Kept p s → (u v : ℕ) → Before p u v → is_waiting (s v).status ≡ false → is_done (s u).status ≡ true
before_done k u v (one h) w = (past k u v h w).0
before_done {C} {p} {s} k u v (more {v = m} b h) w = before_done k u m b (done_not_waiting (s m).status (past k m v h w).0)

-- what is still sent to waits
pub target_waits : {C : Type 0} {p : Shape} {s : State C} → Axioms p → Kept p s → (u v : ℕ) → has v (s u).sends ≡ true → is_waiting (s v).status ≡ true
target_waits {C} {p} {s} ax k u v h = elim (cases (is_waiting (s v).status)) [
  | inl w ↦ w
  | inr w ↦ absurd (let none = (past k u v (sym (ax.shape.dual u v) ∙ k.along u v h) w).1 in cc)
]

-- the component of an exit that is held is done
pub inside_done : {C : Type 0} {p : Shape} {s : State C} → Axioms p → Kept p s → (x u : ℕ) → (s x).status ≡ Held → p.inside x u ≡ true → is_done (s u).status ≡ true
inside_done {C} {p} {s} ax k x u held i = before_done k u x (ax.shape.before_exit x u i) (ap is_waiting held)

-- Kept by a send.

pub done_arrived : (c : Bool) (st : Status) → is_done (if c then arrived st else st) ≡ is_done st
done_arrived true (Waiting zero) = refl
done_arrived true (Waiting (suc zero)) = refl
done_arrived true (Waiting (suc (suc n))) = refl
done_arrived true Open = refl
done_arrived true Held = refl
done_arrived true Done = refl
done_arrived false st = refl

due_arrived : (st : Status) (m left : ℕ) → is_waiting st ≡ true → m ≡ left + 1 → Due st m → Due (arrived st) left
due_arrived (Waiting zero) m left w e d = absurd (omega (arith, d.0))
due_arrived (Waiting (suc zero)) m left w e d = omega (arith, d.0)
due_arrived (Waiting (suc (suc n))) m left w e d = (omega (arith, d.0), omega (arith, d.0))
due_arrived Open m left w e d = absurd (cc)
due_arrived Held m left w e d = absurd (cc)
due_arrived Done m left w e d = absurd (cc)

sends_left : (c : Bool) (v w : ℕ) (xs : List ℕ) → has w (if c then without v xs else xs) ≡ true → has w xs ≡ true
sends_left true v w xs h = has_filter w v xs h
sends_left false v w xs h = h

other_left : (c : Bool) (v w : ℕ) (xs : List ℕ) → w ≢ v → has w (if c then without v xs else xs) ≡ has w xs
other_left true v w xs ne = has_without w v xs ne
other_left false v w xs ne = refl

abbrev pub after_send : {C : Type 0} → State C → ℕ → ℕ → State C
after_send s a v = λ u. after_send_at a v u (s u)

send_owing_other : {C : Type 0} (s : State C) (a v w u : ℕ) → w ≢ v → owing (after_send s a v) w u ≡ owing s w u
send_owing_other s a v w u ne = rw (done_arrived (u == v) (s u).status, other_left (u == a) v w (s u).sends ne) refl

send_owing_else : {C : Type 0} (s : State C) (a v w u : ℕ) → (u == a) ≡ false → owing (after_send s a v) w u ≡ owing s w u
send_owing_else s a v w u ne = rw (done_arrived (u == v) (s u).status, ne) refl

send_owing_it : {C : Type 0} (s : State C) (a v : ℕ) → is_done (s a).status ≡ true → owing (after_send s a v) v a ≡ false
send_owing_it s a v d = rw (done_arrived (a == v) (s a).status, d, itself a) (has_without_none v (s a).sends)

kept_send : {C : Type 0} {p : Shape} {s : State C} → Axioms p → Kept p s → (a v : ℕ) → has v (s a).sends ≡ true → Kept p (after_send s a v)
kept_send {C} {p} {s} ax k a v h = record {
  due = λ w. elim (cases (w == v)) [
    | inl e ↦ subst (λ (j : ℕ). Due (after_send s a v j).status (missing p (after_send s a v) j)) (sym (same w v e)) at_target
    | inr ne ↦
        let apart : w ≢ v = λ q. let t : (v == v) ≡ false = ap (λ (j : ℕ). j == v) (sym q) ∙ ne in let r = itself v in absurd (cc) in
        let count : missing p (after_send s a v) w ≡ missing p s w = counted_same (owing (after_send s a v) w) (owing s w) (p.preds w) (λ u i. send_owing_other s a v w u apart) in
        subst (λ (n : ℕ). Due (after_send s a v w).status n) (sym count) (rw ne (k.due w))
  ];
  senders = λ u w i. done_arrived (u == v) (s u).status ∙ k.senders u w (sends_left (u == a) v w (s u).sends i);
  along = λ u w i. k.along u w (sends_left (u == a) v w (s u).sends i);
}
  where
    at_target : Due (after_send s a v v).status (missing p (after_send s a v) v)
    at_target =
        let d : is_done (s a).status ≡ true = k.senders a v h in
        let before : owing s v a ≡ true = rw d h in
        let pred : has a (p.preds v) ≡ true = sym (ax.shape.dual a v) ∙ k.along a v h in
        let less = counted_less (owing s v) (owing (after_send s a v) v) a (p.preds v) before (send_owing_it s a v d) (λ u ne. sym (send_owing_else s a v v u (neq u a ne))) in
        let count : missing p s v ≡ missing p (after_send s a v) v + 1 = less ∙ ap (λ (n : ℕ). missing p (after_send s a v) v + n) (ax.once a v pred) in
        rw (itself v) (due_arrived (s v).status (missing p s v) (missing p (after_send s a v) v) (target_waits ax k a v h) count (k.due v))

-- Kept by a run that restarts nothing.

and_false : (c : Bool) → (c && false) ≡ false
and_false true = refl
and_false false = refl

abbrev pub after_run : {C : Type 0} → Shape → State C → ℕ → Bool → Made C → State C
after_run p s e again run = λ u. after_run_at p e again run u (s u)

pub run_else : {C : Type 0} (p : Shape) (s : State C) (e u : ℕ) (run : Made C) → (u == e) ≡ false → after_run p s e false run u ≡ s u
run_else p s e u run ne = rw (ne, and_false (p.inside e u)) refl

due_not_waiting : (st : Status) (m : ℕ) → is_waiting st ≡ false → m ≡ 0 → Due st m
due_not_waiting (Waiting n) m w z = absurd (cc)
due_not_waiting Open m w z = z
due_not_waiting Held m w z = z
due_not_waiting Done m w z = z

pub apart_of : (u e : ℕ) → (u == e) ≡ false → u ≢ e
apart_of u e h q = absurd (let t : (u == u) ≡ false = ap (λ (j : ℕ). u == j) q ∙ h in let r = itself u in cc)

held_owing : {C : Type 0} (s : State C) (e w : ℕ) → (s e).status ≡ Held → owing s w e ≡ true
held_owing s e w held = rw held refl

kept_run : {C : Type 0} {p : Shape} {s : State C} → Axioms p → Kept p s → (e : ℕ) (run : Made C) → (s e).status ≡ Held → Kept p (after_run p s e false run)
kept_run {C} {p} {s} ax k e run held = record {
  due = λ w. subst (λ (n : ℕ). Due (after_run p s e false run w).status n) (sym (count w)) (due_at w);
  senders = λ u w i. elim (cases (u == e)) [
    | inl ue ↦ rw ue refl
    | inr ne ↦ let q = run_else p s e u run ne in ap (λ (x : Element C). is_done x.status) q ∙ k.senders u w (sym (ap (λ (x : Element C). has w x.sends) q) ∙ i)
  ];
  along = λ u w i. elim (cases (u == e)) [
    | inl ue ↦ subst (λ (j : ℕ). has w (p.succs j) ≡ true) (sym (same u e ue)) (rw ue at i)
    | inr ne ↦ k.along u w (sym (ap (λ (x : Element C). has w x.sends) (run_else p s e u run ne)) ∙ i)
  ];
}
  where
    now : (w u : ℕ) → has u (p.preds w) ≡ true → owing (after_run p s e false run) w u ≡ owing s w u
    now w u i = elim (cases (u == e)) [
      | inl ue ↦
          let q = same u e ue in
          let there : has w (p.succs e) ≡ true = ap (λ (j : ℕ). has w (p.succs j)) (sym q) ∙ ax.shape.dual u w ∙ i in
          let after : owing (after_run p s e false run) w u ≡ true = rw ue there in
          let before : owing s w u ≡ true = ap (owing s w) q ∙ held_owing s e w held in
          after ∙ sym before
      | inr ne ↦ ap (λ (x : Element C). if is_done x.status then has w x.sends else true) (run_else p s e u run ne)
    ]

    count : (w : ℕ) → missing p (after_run p s e false run) w ≡ missing p s w
    count w = counted_same (owing (after_run p s e false run) w) (owing s w) (p.preds w) (now w)

    due_at : (w : ℕ) → Due (after_run p s e false run w).status (missing p s w)
    due_at w = elim (cases (w == e)) [
      | inl we ↦ rw we (due_zero (s w).status (missing p s w) (k.due w) (ap (λ (j : ℕ). is_waiting (s j).status) (same w e we) ∙ ap is_waiting held))
      | inr ne ↦ subst (λ (x : Element C). Due x.status (missing p s w)) (sym (run_else p s e w run ne)) (k.due w)
    ]

-- Kept by a run that restarts its component.

pub before_trans : {p : Shape} {u v w : ℕ} → Before p u v → Before p v w → Before p u w
before_trans a (one h) = more a h
before_trans a (more b h) = more (before_trans a b) h

-- from a component a list of constraints leads within it, to its exit, or past its exit
leads : {p : Shape} → Axioms p → (x : ℕ) {u v : ℕ} → Before p u v → p.inside x u ≡ true → (p.inside x v ≡ true) ⊎ (v ≡ x) ⊎ Before p x v
leads {p} ax x {u} {v} (one h) i = elim (cases (v == x)) [
  | inl e ↦ inr (inl (same v x e))
  | inr ne ↦ inl (ax.shape.stays x u v i (ax.shape.dual u v ∙ h) (apart_of v x ne))
]
leads {p} ax x {u} {v} (more {v = m} b h) i = elim (leads ax x b i) [
  | inl j ↦ elim (cases (v == x)) [
    | inl e ↦ inr (inl (same v x e))
    | inr ne ↦ inl (ax.shape.stays x m v j (ax.shape.dual m v ∙ h) (apart_of v x ne))
  ]
  | inr (inl q) ↦ inr (inr (one (ap (λ (j : ℕ). has j (p.preds v)) (sym q) ∙ h)))
  | inr (inr b) ↦ inr (inr (more b h))
]

counted_pos : (f : ℕ → Bool) (xs : List ℕ) (u : ℕ) → has u xs ≡ true → f u ≡ true → 0 < count_by f xs
counted_pos f xs u h i = elim (zero_or (count_by f xs)) [
  | inl z ↦ absurd (let n = none_counted f xs u z h in cc)
  | inr pos ↦ pos
]
  where
    zero_or : (n : ℕ) → (n ≡ 0) ⊎ (0 < n)
    zero_or zero = inl refl
    zero_or (suc n) = inr (omega arith)

pub count_none : (xs : List ℕ) → count_by (λ w. false) xs ≡ 0
count_none [] = refl
count_none (x ∷ xs) = count_cons (λ w. false) x xs ∙ omega (arith, count_none xs)

-- an element that the head precedes, in its component or its exit, has a predecessor there
inner_some : {p : Shape} → Axioms p → (x u w : ℕ) → Before p u w → p.inside x u ≡ true → (Before p x w → ⊥) → 0 < inner p x w
inner_some {p} ax x u w (one h) i not_past = counted_pos (p.inside x) (p.preds w) u h i
inner_some {p} ax x u w (more {v = m} b h) i not_past = elim (leads ax x b i) [
  | inl j ↦ counted_pos (p.inside x) (p.preds w) m h j
  | inr (inl q) ↦ absurd (not_past (one (ap (λ (j : ℕ). has j (p.preds w)) (sym q) ∙ h)))
  | inr (inr c) ↦ absurd (not_past (more c h))
]

-- a head has none
inner_head : {p : Shape} → Axioms p → (x : ℕ) → inner p x (p.head x) ≡ 0
inner_head {p} ax x = counted_same (p.inside x) (λ w. false) (p.preds (p.head x)) (λ u h. not_true (p.inside x u) (λ i. elim (cases (u == p.head x)) [
  | inl e ↦ ax.shape.acyclic (p.head x) (one (ap (λ (j : ℕ). has j (p.preds (p.head x))) (sym (same u (p.head x) e)) ∙ h))
  | inr ne ↦ ax.shape.acyclic (p.head x) (more (ax.shape.head_before x u i (apart_of u (p.head x) ne)) h)
])) ∙ count_none (p.preds (p.head x))

-- a component whose exit is held has no sends left
inside_quiet : {C : Type 0} {p : Shape} {s : State C} → Axioms p → Kept p s → (e u w : ℕ) → (s e).status ≡ Held → p.inside e u ≡ true → has w (s u).sends ≡ true → ⊥
inside_quiet {C} {p} {s} ax k e u w held i h =
    let waits = target_waits ax k u w h in
    elim (cases (w == e)) [
      | inl we ↦ absurd (let q : is_waiting (s w).status ≡ false = ap (λ (j : ℕ). is_waiting (s j).status) (same w e we) ∙ ap is_waiting held in cc)
      | inr ne ↦ absurd (let q = done_not_waiting (s w).status (inside_done ax k e w held (ax.shape.stays e u w i (k.along u w h) (apart_of w e ne))) in cc)
    ]

pub restart_else : {C : Type 0} (p : Shape) (s : State C) (e u : ℕ) (run : Made C) → (u == e) ≡ false → p.inside e u ≡ false → after_run p s e true run u ≡ s u
restart_else p s e u run ne out = rw (ne, out) refl

and_not_true : (c : Bool) → (c && not true) ≡ false
and_not_true true = refl
and_not_true false = refl

pub restart_sends : {C : Type 0} (p : Shape) (s : State C) (e u w : ℕ) (run : Made C) → has w (after_run p s e true run u).sends ≡ has w (s u).sends
restart_sends p s e u w run = rw (and_not_true (u == e)) refl

-- the elements of the component, and its exit, are no longer done
pub restart_not_done : {C : Type 0} (p : Shape) (s : State C) (e u : ℕ) (run : Made C) → p.inside e u ≡ true → is_done (after_run p s e true run u).status ≡ false
restart_not_done p s e u run i = by_tests (u == e) (u == p.head e) refl refl
  where
    by_tests : (c d : Bool) → (u == e) ≡ c → (u == p.head e) ≡ d → is_done (after_run p s e true run u).status ≡ false
    by_tests true d q r = rw q refl
    by_tests false true q r = rw (q, i, r) refl
    by_tests false false q r = rw (q, i, r) refl

kept_restart : {C : Type 0} {p : Shape} {s : State C} → Axioms p → Kept p s → (e : ℕ) (run : Made C) → (s e).status ≡ Held → p.is_exit e ≡ true → Kept p (after_run p s e true run)
kept_restart {C} {p} {s} ax k e run held exit = record {
  due = λ w. due_at w;
  senders = λ u w i.
      let h : has w (s u).sends ≡ true = sym (restart_sends p s e u w run) ∙ i in
      let d = k.senders u w h in
      let ne = not_true (u == e) (λ q. absurd (let t : is_done (s u).status ≡ false = ap (λ (j : ℕ). is_done (s j).status) (same u e q) ∙ ap is_done held in cc)) in
      let out = not_true (p.inside e u) (λ q. inside_quiet ax k e u w held q h) in
      ap (λ (x : Element C). is_done x.status) (restart_else p s e u run ne out) ∙ d;
  along = λ u w i. k.along u w (sym (restart_sends p s e u w run) ∙ i);
}
  where
    after : State C
    after = after_run p s e true run

    -- an element that was owed nothing is owed what its component owes
    now_inner : (w : ℕ) → is_waiting (s w).status ≡ false → missing p (after_run p s e true run) w ≡ inner p e w
    now_inner w settled = counted_same (owing (after_run p s e true run) w) (p.inside e) (p.preds w) (λ u h. elim (cases (p.inside e u)) [
      | inl i ↦ (let d = restart_not_done p s e u run i in rw d refl) ∙ sym i
      | inr out ↦
          let gone = past k u w h settled in
          let ne = not_true (u == e) (λ q. absurd (let t : is_done (s u).status ≡ false = ap (λ (j : ℕ). is_done (s j).status) (same u e q) ∙ ap is_done held in let g = gone.0 in cc)) in
          ap (λ (x : Element C). if is_done x.status then has w x.sends else true) (restart_else p s e u run ne out) ∙ (let g0 = gone.0 in let g1 = gone.1 in rw (g0, g1) refl) ∙ sym out
    ])

    -- any other is owed what it was
    now_else : (w : ℕ) → w ≢ e → p.inside e w ≡ false → missing p (after_run p s e true run) w ≡ missing p s w
    now_else w ne out = counted_same (owing (after_run p s e true run) w) (owing s w) (p.preds w) (λ u h.
        let apart : p.inside e u ≡ false = not_true (p.inside e u) (λ i. absurd (let j = ax.shape.stays e u w i (ax.shape.dual u w ∙ h) ne in cc)) in
        elim (cases (u == e)) [
          | inl ue ↦ (rw ue refl) ∙ sym (ap (owing s w) (same u e ue) ∙ held_owing s e w held)
          | inr une ↦ ap (λ (x : Element C). if is_done x.status then has w x.sends else true) (restart_else p s e u run une apart)
        ])

    due_at : (w : ℕ) → Due (after_run p s e true run w).status (missing p (after_run p s e true run) w)
    due_at w = elim (cases (w == e)) [
      | inl we ↦
          let q = same w e we in
          let count = now_inner w (ap (λ (j : ℕ). is_waiting (s j).status) q ∙ ap is_waiting held) in
          rw we (ap (λ (j : ℕ). inner p e j) (sym q) ∙ sym count, omega (arith, sym count, inner_some ax e (p.head e) w (subst (Before p (p.head e)) (sym q) (ax.shape.before_exit e (p.head e) (ax.shape.head_inside e exit))) (ax.shape.head_inside e exit) (λ c. ax.shape.acyclic e (subst (Before p e) q c))))
      | inr ne ↦ elim (cases (p.inside e w)) [
        | inr out ↦ subst (λ (n : ℕ). Due (after_run p s e true run w).status n) (sym (now_else w (apart_of w e ne) out)) (subst (λ (x : Element C). Due x.status (missing p s w)) (sym (restart_else p s e w run ne out)) (k.due w))
        | inl i ↦
            let count = now_inner w (done_not_waiting (s w).status (inside_done ax k e w held i)) in
            elim (cases (w == p.head e)) [
              | inl wh ↦ rw (ne, i, wh) (count ∙ ap (inner p e) (same w (p.head e) wh) ∙ inner_head ax e)
              | inr nh ↦ rw (ne, i, nh) (sym count, omega (arith, sym count, inner_some ax e (p.head e) w (ax.shape.head_before e w i (apart_of w (p.head e) nh)) (ax.shape.head_inside e exit) (λ c. ax.shape.acyclic e (before_trans c (ax.shape.before_exit e w i)))))
            ]
      ]
    ]

restart_exit : {C : Type 0} (b : Behaviour C) (c : Bool) (e : ℕ) (inputs : List C) → restarts b c e inputs ≡ true → c ≡ true
restart_exit b true e inputs h = refl
restart_exit b false e inputs h = h

by_again : {C : Type 0} {p : Shape} {s : State C} → Axioms p → Kept p s → (e : ℕ) (run : Made C) (again : Bool) → (s e).status ≡ Held → (again ≡ true → p.is_exit e ≡ true) → Kept p (after_run p s e again run)
by_again ax k e run true held exit = kept_restart ax k e run held (exit refl)
by_again ax k e run false held exit = kept_run ax k e run held

pub kept_moved : {C : Type 0} {p : Shape} {s : State C} (b : Behaviour C) → Axioms p → Kept p s → (m : Move) → CanMove p s m → Kept p (moved b p s m)
kept_moved b ax k (Tell a v) can = kept_send ax k a v can
kept_moved {C} {p} {s} b ax k (Run e) can =
    by_again ax k e (record { read = inputs_of b s e; gave = gives b (p.is_exit e) e (inputs_of b s e) }) (restarts b (p.is_exit e) e (inputs_of b s e)) can.0 (restart_exit b (p.is_exit e) e (inputs_of b s e))
