-- A run that doesn't go through a component again.
use Rattle.std.proofs.Common.{◌≡◌, ◌≢◌, ℕ, ◌+◌, ◌*◌, ◌<◌, ◌≤◌, ◌==◌, List, [], ◌∷◌, length, drop, set, Bool, true, false, refl, sym, ap, subst, ◌∙◌, arith, inl, inr, ◌⊎◌}
use mathlib.Core.Option.{some}
use lib.ListN.{get_elem?}
use Rattle.atomic_table.specs.Table.{State as TableState, homes_after}
use Rattle.pk_plan.specs.Plans.{end_of, successors_of}
use Rattle.pk_plan.specs.Shape.{Shape, has, shape_of, exits}
use Rattle.pk_iterate.specs.Behaviour.{Behaviour}
use Rattle.pk_core.specs.declared.events.Event.{Event}
use Rattle.pk_core.specs.declared.events.Event.TheVariants.{Finish, Stable}
use Rattle.pk_core.specs.declared.events.Status.{Status}
use Rattle.pk_core.specs.declared.events.Status.TheVariants.{Held, Done}
use Rattle.pk_core.specs.States.{Made, Element, State, run_number, cell_in, newest, inputs_of}
use Rattle.pk_core.specs.Events.{start, Enabled, after, applied, decided, played}
use Rattle.pk_core.proofs.Basics.{cases, same, itself, neq}
use Rattle.pk_core.proofs.Keeps.{Kept, apart_of, after_run, run_else, is_done, is_waiting}
use Rattle.pk_core.proofs.Settled.{settle, settled}
use Rattle.pk_layout.specs.Layouts.{slots_of, owner_of}
use Rattle.pk_layout.specs.Wirings.{Wiring, IsWired}
use Rattle.pk_words.specs.declared.view.View.{View}
use Rattle.pk_words.specs.Tokens.{times, number_of, drop_one, heading, seen_run, one_if_held, one_if_any}
use Rattle.pk_words.specs.Views.{AllRight, slots_in, begun, done_view, IsGiven}
use Rattle.pk_words.specs.Board.{word_of, word_shown, head_of, IsRestarting, Shows, IsBoard}
use Rattle.pk_words.proofs.Lists.{times_drop, times_other, number_other, times_own, times_more, number_own, number_more, part, seen_next}
use Rattle.pk_words.proofs.Wired.{axioms_of}
use Rattle.pk_words.proofs.Stays.{armings, Changes, Moves, makes}
use Rattle.pk_words.proofs.Facts.{kept, held, one_hold, hold_armed}
use Rattle.pk_words.proofs.Restarts.{restart_else, steady}
use Rattle.pk_words.proofs.Slots.{gives_all, given_moves}

begun_times : (e : ℕ) (ts : List ℕ) (xs : List (ℕ × ℕ)) → times e (begun e ts xs) ≡ times e xs + one_if_any ts
begun_times e [] xs = omega arith
begun_times e (t ∷ ts) xs = omega (arith, times_own e 0 xs)

begun_other : (e u : ℕ) (ts : List ℕ) (xs : List (ℕ × ℕ)) → u ≢ e → times u (begun e ts xs) ≡ times u xs
begun_other e u [] xs ne = refl
begun_other e u (t ∷ ts) xs ne = times_more e u 0 xs ne

begun_number : (e : ℕ) (ts : List ℕ) (xs : List (ℕ × ℕ)) → times e xs ≡ 0 → 0 < times e (begun e ts xs) → number_of e (begun e ts xs) ≡ 0
begun_number e [] xs zero_e h = absurd (omega (arith, zero_e, h))
begun_number e (t ∷ ts) xs zero_e h = number_own e 0 xs

begun_number_other : (e u : ℕ) (ts : List ℕ) (xs : List (ℕ × ℕ)) → u ≢ e → number_of u (begun e ts xs) ≡ number_of u xs
begun_number_other e u [] xs ne = refl
begun_number_other e u (t ∷ ts) xs ne = number_more e u 0 xs ne

nothing_in : (xs : List ℕ) → ((v : ℕ) → has v xs ≡ true → ⊥) → xs ≡ []
nothing_in [] h = refl
nothing_in (x ∷ xs) h = absurd (h x (let r = itself x in rw r refl))

quiet : {C : Type 0} {p : Shape} (s : State C) → Kept p (settled s) → (e : ℕ) → (s e).status ≡ Held → (s e).sends ≡ []
quiet {C} {p} s k e is = nothing_in (s e).sends (λ v h. absurd (let d : is_done (settle (s e).status) ≡ true = k.senders e v h in let n : is_done (settle (s e).status) ≡ false = ap (λ (y : Status). is_done (settle y)) is in cc))

pub run_own : {C : Type 0} (p : Shape) (s : State C) (e : ℕ) (run : Made C) → after_run p s e false run e ≡ record { status = Done; made = run ∷ (s e).made; sends = p.succs e }
run_own p s e run = let q = itself e in rw q refl

run_changes : {C S : Type 0} {b : Behaviour C} {w : Wiring} {value : S → C → Type 0} {s : State C} {ts : TableState S View} (run : Made C) (id e n : ℕ) (v : View) → IsWired b w → Shows b w value s ts → Kept (shape_of w.plan) (settled s) → get_elem? ts.views id ≡ some v → e < w.plan.elements → 0 < times e v.holds → number_of e v.holds < w.limit
    → n ≡ (number_of e v.holds + 1) * 1048576 + 262145
    → Changes w s (after_run (shape_of w.plan) s e false run) (armings w ts) (armings w ts) e n v (done_view e n (successors_of w.plan e) v)
run_changes {C} {S} {b} {w} {value} {s} {ts} run id e n v wired sh k at below mine room n_is =
    let own = run_own (shape_of w.plan) s e run in
    let is_held = held sh id e v at below mine in
    let fewer = times_drop e v.holds mine in
    let only = one_hold sh id e v at below in
    let no_sends = quiet s k e is_held in
    let none_mine : times e v.sends ≡ 0 = omega (arith, part (λ (x : View). times e x.sends) ts.views id v at, sh.sent_once e below, ap one_if_any no_sends) in
    let t : State C = after_run (shape_of w.plan) s e false run in
    record {
      word = subst (λ (j : ℕ). n ≡ word_shown j (t e)) (sym (hold_armed wired sh id e v at below mine)) (n_is ∙ omega (arith, ap (λ (r : ℕ). (r + 1) * 1048576 + 262145) (sh.runs_are id v at e below mine)) ∙ sym (ap word_of own));
      others = λ u low_u ne. ap (word_shown (armings w ts u)) (run_else (shape_of w.plan) s e u run (neq u e ne));
      armed = λ u. refl;
      once = sh.armed_once;
      holds = λ u. elim (cases (u == e)) [
        | inl q ↦ subst (λ (j : ℕ). times j (drop_one e v.holds) + heading (head_of w.plan) j v.resets + one_if_held (s j).status ≡ times j v.holds + heading (head_of w.plan) j v.resets + one_if_held (t j).status) (sym (same u e q)) (omega (arith, fewer, ap one_if_held is_held, ap (λ (x : Element C). one_if_held x.status) own))
        | inr q ↦ omega (arith, times_other e u v.holds (apart_of u e q), ap (λ (x : Element C). one_if_held x.status) (run_else (shape_of w.plan) s e u run q))
      ];
      runs = λ u low_u some_u. elim (cases (u == e)) [
        | inl q ↦ absurd (omega (arith, fewer, only, some_u, ap (λ (j : ℕ). times j (drop_one e v.holds)) (same u e q)))
        | inr q ↦
            let ne = apart_of u e q in
            number_other e u v.holds ne ∙ sh.runs_are id v at u low_u (omega (arith, some_u, times_other e u v.holds ne)) ∙ sym (ap run_number (run_else (shape_of w.plan) s e u run q))
      ];
      runs_stay = λ u. elim (cases (u == e)) [
        | inl q ↦ inr (omega (arith, mine, ap (λ (j : ℕ). times j v.holds) (same u e q), ap (λ (j : ℕ). one_if_held (s j).status) (same u e q), ap one_if_held is_held))
        | inr q ↦ inl (ap run_number (run_else (shape_of w.plan) s e u run q))
      ];
      sends = λ u. elim (cases (u == e)) [
        | inl q ↦ subst (λ (j : ℕ). times j (begun e (successors_of w.plan e) v.sends) + one_if_any (s j).sends ≡ times j v.sends + one_if_any (t j).sends) (sym (same u e q)) (omega (arith, begun_times e (successors_of w.plan e) v.sends, ap one_if_any no_sends, ap (λ (x : Element C). one_if_any x.sends) own))
        | inr q ↦ omega (arith, begun_other e u (successors_of w.plan e) v.sends (apart_of u e q), ap (λ (x : Element C). one_if_any x.sends) (run_else (shape_of w.plan) s e u run q))
      ];
      sent = λ u low_u some_u. elim (cases (u == e)) [
        | inl q ↦ subst (λ (j : ℕ). drop (number_of j (begun e (successors_of w.plan e) v.sends)) (successors_of w.plan j) ≡ (t j).sends) (sym (same u e q)) (ap (λ (m : ℕ). drop m (successors_of w.plan e)) (begun_number e (successors_of w.plan e) v.sends none_mine (subst (λ (j : ℕ). 0 < times j (begun e (successors_of w.plan e) v.sends)) (same u e q) some_u)) ∙ sym (ap (λ (x : Element C). x.sends) own))
        | inr q ↦
            let ne = apart_of u e q in
            ap (λ (m : ℕ). drop m (successors_of w.plan u)) (begun_number_other e u (successors_of w.plan e) v.sends ne) ∙ sh.sends_are id v at u low_u (omega (arith, some_u, begun_other e u (successors_of w.plan e) v.sends ne)) ∙ sym (ap (λ (x : Element C). x.sends) (run_else (shape_of w.plan) s e u run q))
      ];
      sends_stay = λ u. elim (cases (u == e)) [
        | inl q ↦ inr (omega (arith, ap (λ (j : ℕ). one_if_any (s j).sends) (same u e q), ap one_if_any no_sends))
        | inr q ↦ inl (ap (λ (x : Element C). x.sends) (run_else (shape_of w.plan) s e u run q))
      ];
      restarts = steady t id v (done_view e n (successors_of w.plan e) v) wired sh at refl stay;
      restarts_stay = stay;
      bounded = λ u le. elim (cases (u == e)) [
        | inl q ↦ subst (λ (j : ℕ). run_number (t j) ≤ w.limit) (sym (same u e q)) (omega (arith, room, sh.runs_are id v at e below mine, ap run_number own))
        | inr q ↦ omega (arith, le, ap run_number (run_else (shape_of w.plan) s e u run q))
      ];
      grows = λ u. elim (cases (u == e)) [
        | inl q ↦ subst (λ (j : ℕ). run_number (s j) ≤ run_number (t j)) (sym (same u e q)) (omega (arith, ap run_number own))
        | inr q ↦ omega (arith, ap run_number (run_else (shape_of w.plan) s e u run q))
      ];
      notes = λ u low_u. seen_next (λ (j : ℕ). run_number (t j)) e n v.notes u (omega (arith, n_is, sh.runs_are id v at e below mine, ap run_number own)) (elim (cases (u == e)) [
        | inl q ↦ subst (λ (j : ℕ). seen_run j v.notes ≤ run_number (t j)) (sym (same u e q)) (omega (arith, sh.noted id v at e below, ap run_number own))
        | inr q ↦ omega (arith, sh.noted id v at u low_u, ap run_number (run_else (shape_of w.plan) s e u run q))
      ]);
      over_stays = λ over. elim (cases (end_of w.plan == e)) [
        | inl q ↦ subst (λ (j : ℕ). (t j).status ≡ Done) (sym (same (end_of w.plan) e q)) (ap (λ (x : Element C). x.status) own)
        | inr q ↦ ap (λ (x : Element C). x.status) (run_else (shape_of w.plan) s e (end_of w.plan) run q) ∙ over
      ];
      over = λ saw. inl saw;
      stopped = refl;
    }
  where
    stay : (x : ℕ) → IsRestarting w.plan s x → times (head_of w.plan x) v.holds ≡ 0 → IsRestarting w.plan (after_run (shape_of w.plan) s e false run) x
    stay x r free = restart_else w.plan s (after_run (shape_of w.plan) s e false run) e x (λ u ne. ap (λ (y : Element C). y.status) (run_else (shape_of w.plan) s e u run (neq u e ne)))
        (ap is_waiting (held sh id e v at below mine)) (λ q. absurd (omega (arith, mine, free, ap (λ (j : ℕ). times j v.holds) q))) r

-- what is out goes home: the element's slots with the new cell, any other as it was
pub finished_with : {C S : Type 0} (b : Behaviour C) (w : Wiring) (value : S → C → Type 0) (ts : TableState S View) (id e n : ℕ) (v : View) (xs : List (ℕ × S)) (c : C) → (board : IsBoard b w value ts) → get_elem? ts.views id ≡ some v → e < w.plan.elements → 0 < times e v.holds → number_of e v.holds < w.limit
    → n ≡ (number_of e v.holds + 1) * 1048576 + 262145
    → length ts.homes ≡ slots_of w.layout → v.out ≡ slots_in xs
    → AllRight (λ k x. ((value x c) × (owner_of w.layout k ≡ e)) ⊎ ((owner_of w.layout k ≢ e) × (value x (cell_in b (played b (shape_of w.plan) (start (shape_of w.plan)) board.events) (owner_of w.layout k))))) xs
    → ((k : ℕ) → k < slots_of w.layout → owner_of w.layout k ≡ e → has k (slots_in xs) ≡ true)
    → IsGiven b (exits w.plan e) false e (inputs_of b (played b (shape_of w.plan) (start (shape_of w.plan)) board.events) e) c
    → IsBoard b w value (record { words = set ts.words (e + 2) n; homes = homes_after ts.homes xs (gives_all (length xs)); views = set ts.views id (done_view e n (successors_of w.plan e) v) })
finished_with {C} {S} b w value ts id e n v xs c board at below mine room n_is long out all every given = by_kind (exits w.plan e) refl given
  where
    core : State C
    core = played b (shape_of w.plan) (start (shape_of w.plan)) board.events

    one_right : (run : Made C) → run.gave ≡ c → (k : ℕ) (x : S) → ((value x c) × (owner_of w.layout k ≡ e)) ⊎ ((owner_of w.layout k ≢ e) × (value x (cell_in b core (owner_of w.layout k)))) → value x (cell_in b (after_run (shape_of w.plan) core e false run) (owner_of w.layout k))
    one_right run gave k x (inl h) =
        subst (value x) (sym gave ∙ sym (ap (λ (y : Element C). newest (b.first e) y.made) (run_own (shape_of w.plan) core e run)) ∙ ap (λ (j : ℕ). cell_in b (after_run (shape_of w.plan) core e false run) j) (sym h.1)) h.0
    one_right run gave k x (inr h) =
        subst (value x) (sym (ap (λ (y : Element C). newest (b.first (owner_of w.layout k)) y.made) (run_else (shape_of w.plan) core e (owner_of w.layout k) run (neq (owner_of w.layout k) e h.0)))) h.1

    right : (run : Made C) → run.gave ≡ c → (ys : List (ℕ × S)) → AllRight (λ k x. ((value x c) × (owner_of w.layout k ≡ e)) ⊎ ((owner_of w.layout k ≢ e) × (value x (cell_in b core (owner_of w.layout k))))) ys → AllRight (λ k x. value x (cell_in b (after_run (shape_of w.plan) core e false run) (owner_of w.layout k))) ys
    right run gave [] h = tt
    right run gave (y ∷ ys) h = (one_right run gave y.0 y.1 h.0, right run gave ys h.1)

    made_by : (run : Made C) → run.gave ≡ c → (ev : Event) → Enabled b (shape_of w.plan) core ev → after b (shape_of w.plan) core ev ≡ after_run (shape_of w.plan) core e false run → IsBoard b w value (record { words = set ts.words (e + 2) n; homes = homes_after ts.homes xs (gives_all (length xs)); views = set ts.views id (done_view e n (successors_of w.plan e) v) })
    made_by run gave ev can is =
        let k = kept b (shape_of w.plan) board.events (axioms_of board.wired) board.enabled in
        makes b w value ts (armings w ts) (homes_after ts.homes xs (gives_all (length xs))) id e n v (done_view e n (successors_of w.plan e) v) ev refl below board at can
        (subst (λ (t : State C). Changes w core t (armings w ts) (armings w ts) e n v (done_view e n (successors_of w.plan e) v)) (sym is) (run_changes run id e n v board.wired board.shows k at below mine room n_is))
        (subst (λ (t : State C). Moves b w value t ts.homes (homes_after ts.homes xs (gives_all (length xs))) v (done_view e n (successors_of w.plan e) v)) (sym is)
        (given_moves (after_run (shape_of w.plan) core e false run) v (done_view e n (successors_of w.plan e) v) xs board.shows long out refl (right run gave xs all)
        (λ j in_slots q. ap (λ (x : Element C). newest (b.first (owner_of w.layout j)) x.made) (run_else (shape_of w.plan) core e (owner_of w.layout j) run (neq (owner_of w.layout j) e (λ h. absurd (let t = every j in_slots h in cc)))))))

    is_held : (core e).status ≡ Held
    is_held = held board.shows id e v at below mine

    by_kind : (exit : Bool) → exits w.plan e ≡ exit → IsGiven b exit false e (inputs_of b core e) c → IsBoard b w value (record { words = set ts.words (e + 2) n; homes = homes_after ts.homes xs (gives_all (length xs)); views = set ts.views id (done_view e n (successors_of w.plan e) v) })
    by_kind true x g = made_by (decided b core e) g.0 (Stable e) ((is_held, below), x, g.1) refl
    by_kind false x g = made_by (applied b core e) g.0 (Finish e) ((is_held, below), x) refl

pub all_own : {S : Type 0} (p q : ℕ → S → Type 0) (xs : List (ℕ × S)) → ((k : ℕ) (x : S) → p k x → q k x) → AllRight p xs → AllRight q xs
all_own p q [] h all = tt
all_own p q (x ∷ xs) h all = (h x.0 x.1 all.0, all_own p q xs h all.1)

-- what is out goes home with the new cell
pub finished : {C S : Type 0} (b : Behaviour C) (w : Wiring) (value : S → C → Type 0) (ts : TableState S View) (id e n : ℕ) (v : View) (xs : List (ℕ × S)) (c : C) → (board : IsBoard b w value ts) → get_elem? ts.views id ≡ some v → e < w.plan.elements → 0 < times e v.holds → number_of e v.holds < w.limit
    → n ≡ (number_of e v.holds + 1) * 1048576 + 262145
    → length ts.homes ≡ slots_of w.layout → v.out ≡ slots_in xs
    → AllRight (λ k x. (value x c) × (owner_of w.layout k ≡ e)) xs
    → ((k : ℕ) → k < slots_of w.layout → owner_of w.layout k ≡ e → has k (slots_in xs) ≡ true)
    → IsGiven b (exits w.plan e) false e (inputs_of b (played b (shape_of w.plan) (start (shape_of w.plan)) board.events) e) c
    → IsBoard b w value (record { words = set ts.words (e + 2) n; homes = homes_after ts.homes xs (gives_all (length xs)); views = set ts.views id (done_view e n (successors_of w.plan e) v) })
finished {C} {S} b w value ts id e n v xs c board at below mine room n_is long out all every given =
    finished_with b w value ts id e n v xs c board at below mine room n_is long out
    (all_own (λ k x. (value x c) × (owner_of w.layout k ≡ e)) (λ k x. ((value x c) × (owner_of w.layout k ≡ e)) ⊎ ((owner_of w.layout k ≢ e) × (value x (cell_in b (played b (shape_of w.plan) (start (shape_of w.plan)) board.events) (owner_of w.layout k))))) xs (λ k x h. inl h) all)
    every given
