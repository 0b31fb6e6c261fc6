-- Where an element outside all components is done, it and what its component holds aren't run again.
use Rattle.std.proofs.Common.{◌≡◌, ℕ, ◌==◌, List, [], ◌∷◌, length, Bool, true, false, not, if◌then◌else◌, refl, sym, ap, subst, ◌∙◌, inl, inr, ◌⊎◌}
use Rattle.pk_plan.specs.Shape.{Shape, has, shape_of}
use Rattle.pk_iterate.specs.Behaviour.{Behaviour}
use Rattle.pk_iterate.specs.Iteration.{Task}
use Rattle.pk_iterate.specs.Ending.{trace}
use Rattle.pk_core.specs.declared.events.Status.{Status}
use Rattle.pk_core.specs.declared.events.Status.TheVariants.{Waiting, Open, Held, Done}
use Rattle.pk_core.specs.declared.events.Event.{Event}
use Rattle.pk_core.specs.States.{Made, Element, State, inputs_of, newest}
use Rattle.pk_core.specs.Events.{start, Enabled, after, AllEnabled, played, after_run_at}
use Rattle.pk_core.specs.Orders.{elements_left}
use Rattle.pk_core.specs.Promises.{is_run}
use Rattle.pk_core.proofs.Basics.{cases, same}
use Rattle.pk_core.proofs.Moves.{Axioms, Comparable, Move, Run, Tell, moved, CanMove, restarts, gives, log_of}
use Rattle.pk_core.proofs.Keeps.{is_done, done_not_waiting, Kept, kept_moved, before_done, done_arrived}
use Rattle.pk_core.proofs.Front.{Reaches, here, onward, IsFinal, first}
use Rattle.pk_core.proofs.Settled.{settle, settled, Does, nothing, move, does, kept_start}
use Rattle.pk_core.proofs.Sequence.{Sim, log_cell, stage}
use Rattle.pk_core.proofs.Logs.{log_length}
use Rattle.pk_core.proofs.Plan_shapes.{plan_shape, comparable}
use Rattle.pk_items.specs.Over.{DoneIsOver}

-- ---- a state that events reach leads on to the end of the recursion (as in pk_core, where it isn't public)

record OnWay {C : Type 0} (b : Behaviour C) (p : Shape) (end s : State C) : Type 0 where
  kept : Kept p (settled s)
  runs : ℕ
  reach : Reaches b p end runs (settled s)

on_way_next : {C : Type 0} {b : Behaviour C} {p : Shape} {end s : State C} → Axioms p → Comparable p b.reads → IsFinal p end → OnWay b p end s → (ev : Event) → Enabled b p s ev → OnWay b p end (after b p s ev)
on_way_next {C} {b} {p} {end} {s} ax fits final w ev can = by_does (does b p s ev can)
  where
    by_does : Does b p s (after b p s ev) (if is_run ev then 1 else 0) → OnWay b p end (after b p s ev)
    by_does (nothing is n) = record { kept = subst (Kept p) (sym is) w.kept; runs = w.runs; reach = subst (Reaches b p end w.runs) (sym is) w.reach }
    by_does (move m can_move is n) =
        let r = first ax fits final w.reach w.kept m can_move in
        record { kept = subst (Kept p) (sym is) (kept_moved b ax w.kept m can_move); runs = r.0; reach = subst (Reaches b p end r.0) (sym is) r.2 }

on_way : {C : Type 0} {b : Behaviour C} {p : Shape} {end : State C} → Axioms p → Comparable p b.reads → IsFinal p end → (s : State C) (evs : List Event) → OnWay b p end s → AllEnabled b p s evs → OnWay b p end (played b p s evs)
on_way ax fits final s [] w all = w
on_way {C} {b} {p} {end} ax fits final s (ev ∷ evs) w all = on_way ax fits final (after b p s ev) evs (on_way_next ax fits final w ev all.0) all.1

end_final : {C : Type 0} {b : Behaviour C} {p : Shape} {end : State C} {runs : List (ℕ × C)} {left : List Task} → Sim b p end runs left → left ≡ [] → IsFinal p end
end_final {C} {b} {p} {end} m none (Run e) can = absurd (
    let d : is_done (end e).status ≡ true = m.done e can.1 ∙ ap (λ (l : List Task). not (has e (elements_left l))) none in
    let u : is_done (end e).status ≡ false = ap is_done can.0 in
    cc
    )
end_final m none (Tell a v) can = absurd (let q = m.quiet a v in cc)

-- ---- no move runs what is over

held_off : (st : Status) → st ≡ Held → is_done st ≡ true → ⊥
held_off st h d = absurd (let u = ap is_done h in cc)

top_stays : {C : Type 0} (b : Behaviour C) (p : Shape) (s : State C) (m : Move) → CanMove p s m → (x : ℕ) → ((y : ℕ) → p.inside y x ≡ false) → is_done (s x).status ≡ true → is_done (moved b p s m x).status ≡ true
top_stays b p s (Tell a v) can x out d = done_arrived (x == v) (s x).status ∙ d
top_stays b p s (Run r) can x out d = elim (cases (x == r)) [
  | inl q ↦ absurd (held_off (s x).status (ap (λ (j : ℕ). (s j).status) (same x r q) ∙ can.0) d)
  | inr q ↦ let o = out r in rw (q, o) d
]

made_else : {C : Type 0} (p : Shape) (r e : ℕ) (again : Bool) (run : Made C) (x : Element C) → (e == r) ≡ false → (after_run_at p r again run e x).made ≡ x.made
made_else p r e again run x q = rw q refl

made_stays : {C : Type 0} (b : Behaviour C) (p : Shape) (s : State C) (m : Move) → CanMove p s m → (e : ℕ) → is_done (s e).status ≡ true → (moved b p s m e).made ≡ (s e).made
made_stays b p s (Tell a v) can e d = refl
made_stays b p s (Run r) can e d = elim (cases (e == r)) [
  | inl q ↦ absurd (held_off (s e).status (ap (λ (j : ℕ). (s j).status) (same e r q) ∙ can.0) d)
  | inr q ↦ made_else p r e (restarts b (p.is_exit r) r (inputs_of b s r)) (record { read = inputs_of b s r; gave = gives b (p.is_exit r) r (inputs_of b s r) }) (s e) q
]

under_done : {C : Type 0} {p : Shape} {s : State C} → Axioms p → Kept p s → (x e : ℕ) → (e ≡ x) ⊎ (p.inside x e ≡ true) → is_done (s x).status ≡ true → is_done (s e).status ≡ true
under_done {C} {p} {s} ax k x e (inl q) d = ap (λ (j : ℕ). is_done (s j).status) q ∙ d
under_done {C} {p} {s} ax k x e (inr i) d = before_done k e x (ax.shape.before_exit x e i) (done_not_waiting (s x).status d)

pub stays_over : {C : Type 0} {b : Behaviour C} {p : Shape} {end : State C} {n : ℕ} {s : State C} → Axioms p → Reaches b p end n s → Kept p s → (x e : ℕ) → ((y : ℕ) → p.inside y x ≡ false) → (e ≡ x) ⊎ (p.inside x e ≡ true) → is_done (s x).status ≡ true → (end e).made ≡ (s e).made
stays_over {C} {b} {p} {end} ax (here q) k x e out under d = ap (λ (t : State C). (t e).made) (sym q)
stays_over {C} {b} {p} {end} ax (onward {s = s} m can count rest) k x e out under d =
    stays_over ax rest (kept_moved b ax k m can) x e out under (top_stays b p s m can x out d) ∙ made_stays b p s m can e (under_done ax k x e under d)

pub settle_done : (st : Status) → is_done (settle st) ≡ is_done st
settle_done (Waiting n) = refl
settle_done Open = refl
settle_done Held = refl
settle_done Done = refl

pub done_is : (st : Status) → is_done st ≡ true → st ≡ Done
done_is (Waiting n) h = absurd (cc)
done_is Open h = absurd (cc)
done_is Held h = absurd (cc)
done_is Done h = refl

pub done_is_over : {C : Type 0} (b : Behaviour C) → DoneIsOver b
done_is_over {C} b p order ends events axioms ordered fits all x e low under done =
    let ax = plan_shape p axioms in
    let g = stage b (shape_of p) order ax ordered ends.made in
    let final = end_final g.sim ends.whole in
    let s : State C = played b (shape_of p) (start (shape_of p)) events in
    let w = on_way ax (comparable b p axioms fits) final (start (shape_of p)) events (record { kept = kept_start (shape_of p); runs = length (trace ends); reach = g.sim.reach }) all in
    let d : is_done (settle (s x).status) ≡ true = ap (λ (st : Status). is_done (settle st)) done in
    let made : (s e).made ≡ log_of b (trace ends) e = sym (stays_over ax w.reach w.kept x e under.outermost under.under d) ∙ g.sim.made e in
    record {
      run = ap length made ∙ log_length b (trace ends) e;
      cell = ap (newest (b.first e)) made ∙ log_cell b (trace ends) e;
      status = done_is (s e).status (sym (settle_done (s e).status) ∙ under_done ax w.kept x e under.under d);
    }
