-- Every list of events agrees with the trace.
use Rattle.std.proofs.Common.{◌≡◌, ◌≢◌, ℕ, suc, ◌+◌, ◌<◌, ◌≤◌, ◌==◌, List, [], ◌∷◌, ◌++◌, length, Bool, true, false, if◌then◌else◌, not, ◌&&◌, ◌||◌, refl, sym, ap, subst, ◌∙◌, arith, inl, inr, length-append, append_assoc}
use Rattle.pk_plan.specs.Order.{Level}
use Rattle.pk_iterate.specs.Behaviour.{Behaviour, is_again}
use Rattle.pk_iterate.specs.Iteration.{Task, cell_after, count_of, progress}
use Rattle.pk_core.specs.declared.events.Status.{Status}
use Rattle.pk_core.specs.declared.events.Status.TheVariants.{Waiting, Open, Held, Done}
use Rattle.pk_core.specs.declared.events.Event.{Event}
use Rattle.pk_core.specs.declared.events.Event.TheVariants.{Claim, Finish, Send, Stable, Again}
use Rattle.pk_plan.specs.Shape.{Shape, has}
use Rattle.pk_core.specs.Events.{inner, start, Enabled, after, AllEnabled, played}
use Rattle.pk_core.proofs.Moves.{Axioms, Comparable, Move, Run, Tell, moved, CanMove, restarts, gives, log_of}
use Rattle.pk_core.specs.States.{Made, State, inputs_of, cell_in, newest, run_number}
use Rattle.pk_core.specs.Orders.{elements_left, IsOrderOf}
use Rattle.pk_iterate.specs.Runs.{run_value, values_read}
use Rattle.pk_core.specs.Promises.{is_run, runs_in, IsOffer}
use Rattle.pk_core.proofs.Basics.{cases, same, itself}
use Rattle.pk_core.proofs.Keeps.{is_done, is_waiting, Kept, kept_moved, before_done, target_waits, done_not_waiting, done_arrived, apart_of}
use Rattle.pk_core.proofs.Front.{Reaches, here, onward, weight, IsFinal, first}
use Rattle.pk_core.proofs.Settled.{settle, settled, Does, nothing, move, does, kept_start}
use Rattle.pk_core.proofs.Sequence.{Sim, log_cell, stage}
use Rattle.pk_core.proofs.Logs.{log_length, value_at, read_at, read_values}

-- What a move does to the runs that an element has made.

made_moved : {C : Type 0} (b : Behaviour C) (p : Shape) (s : State C) (m : Move) (e : ℕ) → (pre : List (Made C)) × ((moved b p s m e).made ≡ pre ++ (s e).made)
made_moved b p s (Tell a v) e = ([], refl)
made_moved {C} b p s (Run f) e = by_test (e == f)
  where
    run : Made C
    run = record { read = inputs_of b s f; gave = gives b (p.is_exit f) f (inputs_of b s f) }

    by_test : (c : Bool) → (pre : List (Made C)) × ((if c then record { read = inputs_of b s f; gave = gives b (p.is_exit f) f (inputs_of b s f) } ∷ (s e).made else (s e).made) ≡ pre ++ (s e).made)
    by_test true = (record { read = inputs_of b s f; gave = gives b (p.is_exit f) f (inputs_of b s f) } ∷ [], refl)
    by_test false = ([], refl)

pub grows : {C : Type 0} {b : Behaviour C} {p : Shape} {end : State C} {n : ℕ} {s : State C} → Reaches b p end n s → (e : ℕ) → (pre : List (Made C)) × ((end e).made ≡ pre ++ (s e).made)
grows {C} (here q) e = ([], ap (λ (x : State C). (x e).made) (sym q))
grows {C} {b} {p} {end} (onward {s = s} m can count rest) e =
    let r = grows rest e in
    let o = made_moved b p s m e in
    (r.0 ++ o.0, r.1 ∙ ap (λ (xs : List (Made C)). r.0 ++ xs) o.1 ∙ sym (append_assoc r.0 o.0 (s e).made))

ran_done : (c again d h : Bool) (k j : ℕ) (st : Status) → is_done st ≡ false → is_done (if c then (if again then Waiting k else Done) else (if d then (if h then Held else Waiting j) else st)) ≡ true → c ≡ true
ran_done true again d h k j st u t = refl
ran_done false again true true k j st u t = absurd (cc)
ran_done false again true false k j st u t = absurd (cc)
ran_done false again false h k j st u t = absurd (cc)

-- what becomes done was run
done_ran : {C : Type 0} (b : Behaviour C) (p : Shape) (s : State C) (m : Move) (e : ℕ) → is_done (s e).status ≡ false → is_done (moved b p s m e).status ≡ true → length (moved b p s m e).made ≡ suc (length (s e).made)
done_ran b p s (Tell a v) e u d = absurd (let t = done_arrived (e == v) (s e).status in cc)
done_ran {C} b p s (Run f) e u d =
    let c = ran_done (e == f) (restarts b (p.is_exit f) f (inputs_of b s f)) (p.inside f e && restarts b (p.is_exit f) f (inputs_of b s f)) (e == p.head f) (inner p f f) (inner p f e) (s e).status u d in
    rw c refl

pub still_to_run : {C : Type 0} {b : Behaviour C} {p : Shape} {end : State C} {n : ℕ} {s : State C} → Reaches b p end n s → (e : ℕ) → is_done (s e).status ≡ false → is_done (end e).status ≡ true → length (s e).made < length (end e).made
still_to_run {C} (here q) e u d = absurd (let t = ap (λ (x : State C). is_done (x e).status) q in cc)
still_to_run {C} {b} {p} {end} (onward {s = s} m can count rest) e u d = elim (cases (is_done (moved b p s m e).status)) [
  | inl t ↦
      let grown = done_ran b p s m e u t in
      let g = grows rest e in
      omega (arith, ap length g.1, length-append g.0 (moved b p s m e).made, grown)
  | inr t ↦
      let r = still_to_run rest e t d in
      let o = made_moved b p s m e in
      omega (arith, r, ap length o.1, length-append o.0 (s e).made)
]

-- The end of the trace.

pub record IsEnd {C : Type 0} (b : Behaviour C) (p : Shape) (runs : List (ℕ × C)) (end : State C) : Type 0 where
  pub from_start : Reaches b p end (length runs) (settled (start p))
  pub done : (u : ℕ) → u < p.elements → is_done (end u).status ≡ true
  pub quiet : (u v : ℕ) → has v (end u).sends ≡ false
  pub made : (u : ℕ) → (end u).made ≡ log_of b runs u

end_of : {C : Type 0} {b : Behaviour C} {p : Shape} {end : State C} {runs : List (ℕ × C)} {left : List Task} → Sim b p end runs left → left ≡ [] → IsEnd b p runs end
end_of {C} {b} {p} {end} m e = record { from_start = m.reach; done = λ u h. m.done u h ∙ ap (λ (l : List Task). not (has u (elements_left l))) e; quiet = m.quiet; made = m.made }

held_undone : (st : Status) → st ≡ Held → is_done st ≡ false
held_undone st h = ap is_done h

is_final : {C : Type 0} {b : Behaviour C} {p : Shape} {runs : List (ℕ × C)} {end : State C} → IsEnd b p runs end → IsFinal p end
is_final {C} {b} {p} {runs} {end} w (Run e) can = absurd (let d = w.done e can.1 in let u = held_undone (end e).status can.0 in cc)
is_final w (Tell a v) can = absurd (let q = w.quiet a v in cc)

-- From the start to a state that events reach, and on to the end.

record Way {C : Type 0} (b : Behaviour C) (p : Shape) (end s : State C) (n : ℕ) : Type 0 where
  kept : Kept p (settled s)
  reach : Reaches b p end n (settled s)

way_on : {C : Type 0} {b : Behaviour C} {p : Shape} {end s : State C} {n : ℕ} → Axioms p → Comparable p b.reads → IsFinal p end → Way b p end s n → (m : Move) → CanMove p (settled s) m → (t : State C) → settled t ≡ moved b p (settled s) m → (k : ℕ) × (n ≡ weight m + k) × Way b p end t k
way_on {C} {b} {p} {end} {s} ax fits final w m can t is =
    let r = first ax fits final w.reach w.kept m can in
    (r.0, r.1, record { kept = subst (λ (x : State C). Kept p x) (sym is) (kept_moved b ax w.kept m can); reach = subst (λ (x : State C). Reaches b p end r.0 x) (sym is) r.2 })

way_same : {C : Type 0} {b : Behaviour C} {p : Shape} {end s : State C} {n : ℕ} → Way b p end s n → (t : State C) → settled t ≡ settled s → Way b p end t n
way_same {C} {b} {p} {end} {s} {n} w t is = record { kept = subst (λ (x : State C). Kept p x) (sym is) w.kept; reach = subst (λ (x : State C). Reaches b p end n x) (sym is) w.reach }

way_event : {C : Type 0} {b : Behaviour C} {p : Shape} {end s : State C} {n : ℕ} → Axioms p → Comparable p b.reads → IsFinal p end → Way b p end s n → (ev : Event) → Enabled b p s ev → (k : ℕ) × (n ≡ (if is_run ev then 1 else 0) + k) × Way b p end (after b p s ev) k
way_event {C} {b} {p} {end} {s} {n} ax fits final w ev can = by_does (after b p s ev) (if is_run ev then 1 else 0) (does b p s ev can)
  where
    by_does : (t : State C) (c : ℕ) → Does b p s t c → (k : ℕ) × (n ≡ c + k) × Way b p end t k
    by_does t c (nothing is z) = (n, omega arith, way_same w t is)
    by_does t c (move m can is z) =
        let r = way_on ax fits final w m can t is in
        let count : n ≡ c + r.0 = omega (arith, r.1) in
        (r.0, count, r.2)

way_all : {C : Type 0} {b : Behaviour C} {p : Shape} {end : State C} → Axioms p → Comparable p b.reads → IsFinal p end → (evs : List Event) (s : State C) (n : ℕ) → Way b p end s n → AllEnabled b p s evs → (k : ℕ) × (n ≡ runs_in evs + k) × Way b p end (played b p s evs) k
way_all ax fits final [] s n w can = (n, omega arith, w)
way_all {C} {b} {p} {end} ax fits final (ev ∷ evs) s n w can =
    let a = way_event ax fits final w ev can.0 in
    let r = way_all ax fits final evs (after b p s ev) a.0 a.2 can.1 in
    let count : n ≡ runs_in (ev ∷ evs) + r.0 = omega (arith, a.1, r.1) in
    (r.0, count, r.2)

-- What a way to the end shows of a state.

settle_done : (st : Status) → is_done (settle st) ≡ is_done st
settle_done (Waiting n) = refl
settle_done Open = refl
settle_done Held = refl
settle_done Done = refl

not_done : (st : Status) → st ≢ Done → is_done st ≡ false
not_done (Waiting n) h = refl
not_done Open h = refl
not_done Held h = refl
not_done Done h = absurd (h refl)

done_is : (st : Status) → is_done st ≡ true → st ≡ Done
done_is (Waiting n) h = absurd (cc)
done_is Open h = absurd (cc)
done_is Held h = absurd (cc)
done_is Done h = refl

log_end : {C : Type 0} {b : Behaviour C} {p : Shape} {end s : State C} {n : ℕ} {runs : List (ℕ × C)} → IsEnd b p runs end → Reaches b p end n s → (e : ℕ) → (pre : List (Made C)) × (log_of b runs e ≡ pre ++ (s e).made)
log_end w r e = let g = grows r e in (g.0, sym (w.made e) ∙ g.1)

-- some event can come, and it is no offer
run_event : {C : Type 0} (b : Behaviour C) (p : Shape) (s : State C) (e : ℕ) → (s e).status ≡ Held → e < p.elements → (ev : Event) × Enabled b p s ev × (IsOffer ev → ⊥)
run_event {C} b p s e held below = by_exit (p.is_exit e) (is_again (b.decide e (inputs_of b s e))) refl refl
  where
    by_exit : (c a : Bool) → p.is_exit e ≡ c → is_again (b.decide e (inputs_of b s e)) ≡ a → (ev : Event) × Enabled b p s ev × (IsOffer ev → ⊥)
    by_exit false a x y = (Finish e, ((held, below), x), λ o. o)
    by_exit true false x y = (Stable e, ((held, below), x, y), λ o. o)
    by_exit true true x y = (Again e, ((held, below), x, y), λ o. o)

move_event : {C : Type 0} (b : Behaviour C) (p : Shape) (s : State C) → Axioms p → Kept p (settled s) → (m : Move) → CanMove p (settled s) m → (ev : Event) × Enabled b p s ev × (IsOffer ev → ⊥)
move_event {C} b p s ax k (Tell a v) can = (Send a v, (ax.shape.above a v (k.along a v can), ax.shape.below a v (k.along a v can), can), λ o. o)
move_event {C} b p s ax k (Run e) can = by_status (s e).status refl can.0
  where
    by_status : (st : Status) → (s e).status ≡ st → settle st ≡ Held → (ev : Event) × Enabled b p s ev × (IsOffer ev → ⊥)
    by_status (Waiting n) q h = absurd (cc)
    by_status Open q h = (Claim e, (q, can.1), λ o. o)
    by_status Held q h = run_event b p s e q can.1
    by_status Done q h = absurd (cc)

no_elements : (xs : List ℕ) → ((v : ℕ) → has v xs ≡ false) → xs ≡ []
no_elements [] h = refl
no_elements (x ∷ xs) h = absurd (let t : ((x == x) || has x xs) ≡ true = (let r = itself x in rw r refl) in let u = h x in cc)

-- where the last element is done, nothing can move
all_over : {C : Type 0} {p : Shape} {s : State C} → Axioms p → Kept p s → is_done (s p.last).status ≡ true → IsFinal p s
all_over {C} {p} {s} ax k over m can = by_move m can
  where
    each : (u : ℕ) → u < p.elements → is_done (s u).status ≡ true
    each u below = elim (cases (u == p.last)) [
      | inl q ↦ ap (λ (j : ℕ). is_done (s j).status) (same u p.last q) ∙ over
      | inr ne ↦ before_done k u p.last (ax.shape.last_after u below (apart_of u p.last ne)) (done_not_waiting (s p.last).status over)
    ]

    by_move : (m : Move) → CanMove p s m → ⊥
    by_move (Run e) can = absurd (let d = each e can.1 in let u = held_undone (s e).status can.0 in cc)
    by_move (Tell a v) can = absurd (let w = target_waits ax k a v can in let d = done_not_waiting (s v).status (each v (ax.shape.below a v (k.along a v can))) in cc)

is_over : {C : Type 0} {b : Behaviour C} {p : Shape} {end s : State C} {n : ℕ} → Reaches b p end n s → IsFinal p s → s ≡ end
is_over (here q) final = q
is_over (onward m can count rest) final = absurd (final m can)

goes_on : {C : Type 0} {b : Behaviour C} {p : Shape} {end s : State C} {n : ℕ} → Axioms p → Kept p (settled s) → Reaches b p end n (settled s) → is_done (end p.last).status ≡ true → is_done (s p.last).status ≡ false → (ev : Event) × Enabled b p s ev × (IsOffer ev → ⊥)
goes_on {C} {b} {p} {end} {s} ax k (here q) d u = absurd (let t : is_done (settle (s p.last).status) ≡ true = ap (λ (x : State C). is_done (x p.last).status) q ∙ d in let r = settle_done (s p.last).status in cc)
goes_on {C} {b} {p} {end} {s} ax k (onward m can count rest) d u = move_event b p s ax k m can

-- a state, against the whole trace
pub record Agrees {C : Type 0} (b : Behaviour C) (p : Shape) (runs : List (ℕ × C)) (s : State C) : Type 0 where
  pub cells : (e : ℕ) → cell_in b s e ≡ run_value b runs e (run_number (s e))
  pub bounded : (e : ℕ) → run_number (s e) ≤ count_of runs e
  pub fewer : (e : ℕ) → e < p.elements → (s e).status ≢ Done → run_number (s e) < count_of runs e
  pub reads : (e : ℕ) → e < p.elements → (s e).status ≡ Held → inputs_of b s e ≡ values_read b runs e (run_number (s e) + 1)
  pub apart : (e u : ℕ) → e < p.elements → has u (b.reads e) ≡ true → u ≢ e → (s e).status ≡ Held → (s u).status ≡ Held → ⊥
  pub goes_on : (s p.last).status ≢ Done → (ev : Event) × Enabled b p s ev × (IsOffer ev → ⊥)
  pub ends : (s p.last).status ≡ Done → (e : ℕ) → e < p.elements → (cell_in b s e ≡ cell_after b runs e) × (run_number (s e) ≡ count_of runs e) × ((s e).status ≡ Done) × ((s e).sends ≡ [])

pub agrees : {C : Type 0} {b : Behaviour C} {p : Shape} {end s : State C} {n : ℕ} {runs : List (ℕ × C)} → Axioms p → Comparable p b.reads → IsEnd b p runs end → p.last < p.elements → Kept p (settled s) → Reaches b p end n (settled s) → Agrees b p runs s
agrees {C} {b} {p} {end} {s} {n} {runs} ax fits w last kept reach = record {
  cells = λ e. let l = log_end w reach e in value_at b runs e l.0 (s e).made l.1;
  bounded = λ e. let l = log_end w reach e in omega (arith, sym (log_length b runs e), ap length l.1, length-append l.0 (s e).made);
  fewer = λ e below ne. omega (arith, still_to_run reach e (settle_done (s e).status ∙ not_done (s e).status ne) (w.done e below), ap length (w.made e), log_length b runs e);
  reads = λ e below held.
      let r = first ax fits (is_final w) reach kept (Run e) (ap settle held, below) in
      let l = log_end w r.2 e in
      let m : Made C = record { read = inputs_of b s e; gave = gives b (p.is_exit e) e (inputs_of b s e) } in
      let is : (moved b p (settled s) (Run e) e).made ≡ m ∷ (s e).made = (let q = itself e in rw q refl) in
      read_at b runs e l.0 m (s e).made (l.1 ∙ ap (λ (xs : List (Made C)). l.0 ++ xs) is) ∙ read_values b runs e (length (s e).made + 1);
  apart = λ e u below i ne he hu. elim (fits e u below i ne) [
    | inl b ↦ absurd (let d = before_done kept u e b (ap (λ (st : Status). is_waiting (settle st)) he) in let t = ap (λ (st : Status). is_done (settle st)) hu in cc)
    | inr b ↦ absurd (let d = before_done kept e u b (ap (λ (st : Status). is_waiting (settle st)) hu) in let t = ap (λ (st : Status). is_done (settle st)) he in cc)
  ];
  goes_on = λ ne. goes_on ax kept reach (w.done p.last last) (not_done (s p.last).status ne);
  ends = λ over e below.
      let last_done : is_done (settle (s p.last).status) ≡ true = ap (λ (st : Status). is_done (settle st)) over in
      let final = all_over ax kept last_done in
      let is : settled s ≡ end = is_over reach final in
      let made : (s e).made ≡ log_of b runs e = ap (λ (x : State C). (x e).made) is ∙ w.made e in
      let done : is_done (settle (s e).status) ≡ true = ap (λ (x : State C). is_done (x e).status) is ∙ w.done e below in (
        ap (newest (b.first e)) made ∙ log_cell b runs e,
        ap length made ∙ log_length b runs e,
        done_is (s e).status (sym (settle_done (s e).status) ∙ done),
        no_elements (s e).sends (λ v. ap (λ (x : State C). has v (x e).sends) is ∙ w.quiet e v),
      );
}

-- The theorem.
pub every_play : {C : Type 0} (b : Behaviour C) (p : Shape) (order : Level) (n : ℕ) → Axioms p → Comparable p b.reads → IsOrderOf p order → p.last < p.elements → (progress b order n).left ≡ [] → (evs : List Event) → AllEnabled b p (start p) evs → Agrees b p (progress b order n).runs (played b p (start p) evs) × (runs_in evs ≤ length (progress b order n).runs)
every_play {C} b p order n ax fits ordered last whole evs can =
    let g = stage b p order ax ordered n in
    let w = end_of g.sim whole in
    let r = way_all ax fits (is_final w) evs (start p) (length (progress b order n).runs) (record { kept = kept_start p; reach = w.from_start }) can in
    (agrees ax fits w last r.2.kept r.2.reach, omega (arith, r.1))
