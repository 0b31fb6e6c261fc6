-- The start, a pass more, and the end.
use Rattle.std.proofs.Common.{◌≡◌, ℕ, zero, suc, ◌+◌, ◌/◌, ◌<◌, ◌≤◌, List, [], ◌∷◌, ◌++◌, map, length, get_or, set, Bool, true, false, refl, sym, ap, subst, ◌∙◌, arith, inl, inr, ◌⊎◌, Some}
use mathlib.Core.Option.{Option, some, none}
use lib.ListN.{get_elem?}
use Rattle.atomic_table.specs.Table.{State as TableState, opening, Final, Seen, Splits}
use Rattle.pk_plan.specs.Order.{Level}
use Rattle.pk_plan.specs.Plans.{end_of, predecessors_of}
use Rattle.pk_plan.specs.Shape.{has, shape_of}
use Rattle.pk_iterate.specs.Behaviour.{Behaviour}
use Rattle.pk_iterate.specs.Ending.{Ends, result_cell, result_count}
use Rattle.pk_core.specs.declared.events.Status.TheVariants.{Done}
use Rattle.pk_core.specs.States.{State, run_number, cell_in}
use Rattle.pk_core.specs.Events.{start, start_status, played}
use Rattle.pk_core.specs.Orders.{IsOrderOf}
use Rattle.pk_layout.specs.Layouts.{slots_of, first_of, owner_of, reader_of}
use Rattle.pk_layout.specs.Wirings.{Wiring, IsWired}
use Rattle.pk_words.specs.declared.view.View.{View}
use Rattle.pk_words.specs.Tokens.{times, heading, pending, seen_run, total, one_if_held}
use Rattle.pk_words.specs.Views.{first_view, new_view, split_view, knows_stop}
use Rattle.pk_words.specs.Board.{low, word_shown, head_of, members_at, why_of, MayTouch, Shows, IsBoard}
use Rattle.pk_words.specs.Reads.{AreResult}
use Rattle.pk_words.proofs.Lists.{elem_set_same}
use Rattle.pk_words.proofs.Wired.{last_in}
use Rattle.pk_words.proofs.Stays.{armings, none_fresh, stays}
use Rattle.pk_words.proofs.Statuses.{same_changes}
use Rattle.pk_words.proofs.Numbers.{run_shown}
use Rattle.pk_words.proofs.Facts.{held, narrow}
use Rattle.pk_words.proofs.Steps.{agrees_at}

total_more : {V : Type 0} (f : V → ℕ) (xs : List V) (y : V) → total f (xs ++ y ∷ []) ≡ total f xs + f y
total_more f [] y = omega arith
total_more f (x ∷ xs) y = omega (arith, total_more f xs y)

elem_more : {A : Type 0} (xs : List A) (k : ℕ) (y x : A) → get_elem? (xs ++ y ∷ []) k ≡ some x → (get_elem? xs k ≡ some x) ⊎ (y ≡ x)
elem_more [] zero y x h = inr (cc)
elem_more [] (suc k) y x h = absurd (cc)
elem_more (z ∷ xs) zero y x h = inl h
elem_more (z ∷ xs) (suc k) y x h = elem_more xs k y x h

elem_before : {A : Type 0} (xs : List A) (k : ℕ) (y x : A) → get_elem? xs k ≡ some x → get_elem? (xs ++ y ∷ []) k ≡ some x
elem_before [] k y x h = absurd (cc)
elem_before (z ∷ xs) zero y x h = h
elem_before (z ∷ xs) (suc k) y x h = elem_before xs k y x h

pub set_word : (xs : List ℕ) (k : ℕ) → set xs k (get_or xs k 0) ≡ xs
set_word [] k = refl
set_word (x ∷ xs) zero = refl
set_word (x ∷ xs) (suc k) = ap (λ ys. x ∷ ys) (set_word xs k)

more_shown : {C S : Type 0} (b : Behaviour C) (w : Wiring) (value : S → C → Type 0) (core : State C) (s : TableState S View) (id : ℕ) (v : View) → Shows b w value core s → get_elem? s.views id ≡ some v → Shows b w value core (record { words = s.words; homes = s.homes; views = s.views ++ new_view v ∷ [] })
more_shown b w value core s id v sh at = record {
  long = sh.long;
  words_are = λ e below. sh.words_are e below ∙ ap (λ (j : ℕ). word_shown j (core e)) (sym (no_more e));
  stop_is = sh.stop_is;
  held_once = λ e below. omega (arith, total_more (λ (x : View). times e x.holds + heading (head_of w.plan) e x.resets) s.views (new_view v), sh.held_once e below);
  runs_are = λ k x here e below some_e. elim (elem_more s.views k (new_view v) x here) [
    | inl old ↦ sh.runs_are k x old e below some_e
    | inr q ↦ absurd (let z : times e x.holds ≡ 0 = ap (λ (y : View). times e y.holds) (sym q) in omega (arith, z, some_e))
  ];
  sent_once = λ e below. omega (arith, total_more (λ (x : View). times e x.sends) s.views (new_view v), sh.sent_once e below);
  sends_are = λ k x here e below some_e. elim (elem_more s.views k (new_view v) x here) [
    | inl old ↦ sh.sends_are k x old e below some_e
    | inr q ↦ absurd (let z : times e x.sends ≡ 0 = ap (λ (y : View). times e y.sends) (sym q) in omega (arith, z, some_e))
  ];
  restarts = λ k x here e some_e. elim (elem_more s.views k (new_view v) x here) [
    | inl old ↦ sh.restarts k x old e some_e
    | inr q ↦ absurd (let z : times e x.resets ≡ 0 = ap (λ (y : View). times e y.resets) (sym q) in omega (arith, z, some_e))
  ];
  armed_once = λ e. omega (arith, no_more e, sh.armed_once e);
  homes_are = sh.homes_are;
  away = λ k gone. let a = sh.away k gone in (a.0, a.1, elem_before s.views a.0 (new_view v) a.1 a.2, a.3);
  out_is = λ j x here k out_k. elim (elem_more s.views j (new_view v) x here) [
    | inl old ↦ sh.out_is j x old k out_k
    | inr q ↦ absurd (let z : has k x.out ≡ false = ap (λ (y : View). has k y.out) (sym q) in cc)
  ];
  bounded = sh.bounded;
  noted = λ j x here e below. elim (elem_more s.views j (new_view v) x here) [
    | inl old ↦ sh.noted j x old e below
    | inr q ↦ subst (λ (y : View). seen_run e y.notes ≤ run_number (core e)) q (sh.noted id v at e below)
  ];
  over = λ j x here saw. elim (elem_more s.views j (new_view v) x here) [
    | inl old ↦ sh.over j x old saw
    | inr q ↦ sh.over id v at (ap (λ (y : View). y.ended) q ∙ saw)
  ];
  told = λ j x here saw. elim (elem_more s.views j (new_view v) x here) [
    | inl old ↦ sh.told j x old saw
    | inr q ↦ sh.told id v at (ap knows_stop q ∙ saw)
  ];
}
  where
    no_more : (e : ℕ) → total (λ (x : View). pending (members_at w.plan) e x.resets) (s.views ++ new_view v ∷ []) ≡ total (λ (x : View). pending (members_at w.plan) e x.resets) s.views
    no_more e = omega (arith, total_more (λ (x : View). pending (members_at w.plan) e x.resets) s.views (new_view v))

-- the pass itself is no longer fresh
split_board : {C S : Type 0} (b : Behaviour C) (w : Wiring) (value : S → C → Type 0) (s : TableState S View) (id : ℕ) (v : View) → IsBoard b w value s → get_elem? s.views id ≡ some v
    → IsBoard b w value (record { words = s.words; homes = s.homes; views = set s.views id (split_view v) })
split_board {C} {S} b w value s id v board at =
    let e : ℕ = end_of w.plan in
    let below = last_in board.wired in
    let core : State C = played b (shape_of w.plan) (start (shape_of w.plan)) board.events in
    subst (λ (ns : List ℕ). IsBoard b w value (record { words = ns; homes = s.homes; views = set s.views id (split_view v) })) (set_word s.words (e + 2))
    (stays b w value s (armings w s) s.homes id e (get_or s.words (e + 2) 0) v (split_view v) refl below board at
    (same_changes id e (get_or s.words (e + 2) 0) v (split_view v) board.wired board.shows at (board.shows.words_are e below) refl refl refl (inl refl) refl (board.shows.noted id v at))
    (record { homes = board.shows.homes_are; away = λ k gone. by_out k gone (has k v.out) refl; out = λ k some_k. board.shows.out_is id v at k some_k }))
  where
    by_out : (k : ℕ) → get_elem? s.homes k ≡ some none → (t : Bool) → has k v.out ≡ t → (has k v.out ≡ true) ⊎ ((get_elem? s.homes k ≡ some none) × (has k v.out ≡ false))
    by_out k gone true q = inl q
    by_out k gone false q = inr (gone, q)

pub splits : {C S : Type 0} (b : Behaviour C) (w : Wiring) (value : S → C → Type 0) (id : ℕ) (v : View) → Splits (IsBoard {C = C} {S = S} b w value) id v (split_view v) (new_view v)
splits {C} {S} b w value id v s board at =
    let one = split_board b w value s id v board at in
    let views : List View = set s.views id (split_view v) in
    let here : get_elem? views id ≡ some (split_view v) = elem_set_same s.views id (split_view v) v at in
    record {
      wired = one.wired;
      events = one.events;
      enabled = one.enabled;
      shows = more_shown b w value (played b (shape_of w.plan) (start (shape_of w.plan)) one.events) (record { words = s.words; homes = s.homes; views = views }) id (split_view v) one.shows here;
      begins = λ k x at_k fresh. absurd (stale one here k x at_k fresh);
    }
  where
    stale : (one : IsBoard b w value (record { words = s.words; homes = s.homes; views = set s.views id (split_view v) })) → get_elem? (set s.views id (split_view v)) id ≡ some (split_view v)
        → (k : ℕ) (x : View) → get_elem? (set s.views id (split_view v) ++ new_view v ∷ []) k ≡ some x → x.fresh ≡ true → ⊥
    stale one here k x at_k fresh = elim (elem_more (set s.views id (split_view v)) k (new_view v) x at_k) [
      | inl old ↦ none_fresh s.views id v (split_view v) at refl (λ j y at_j f. (board.begins j y at_j f).0) k x old fresh
      | inr q ↦ absurd (let f : false ≡ true = ap (λ (y : View). y.fresh) q ∙ fresh in cc)
    ]

-- the start
pub start_low : (xs : List ℕ) → one_if_held (start_status xs) ≡ 0
start_low [] = refl
start_low (x ∷ xs) = refl

pub elem_some : {A : Type 0} (xs : List A) (k : ℕ) (y : Option A) → get_elem? (map some xs) k ≡ some y → (x : A) × (y ≡ some x) × (get_elem? xs k ≡ some x)
elem_some [] k y h = absurd (cc)
elem_some (x ∷ xs) zero y h = (x, cc, refl)
elem_some (x ∷ xs) (suc k) y h = elem_some xs k y h

pub opens : {C S : Type 0} (b : Behaviour C) (w : Wiring) (value : S → C → Type 0) (words : List ℕ) (slots : List S) → IsWired b w → length words ≡ w.plan.elements + 2 → get_or words 1 0 ≡ 0
    → ((e : ℕ) → e < w.plan.elements → get_or words (e + 2) 0 ≡ low (start_status (predecessors_of w.plan e)))
    → ((k : ℕ) (x : S) → get_elem? slots k ≡ some x → value x (b.first (owner_of w.layout k)))
    → IsBoard b w value (opening words slots first_view)
opens {C} {S} b w value words slots wired long going words_are slots_are = record {
  wired = wired;
  events = [];
  enabled = tt;
  shows = record {
    long = long;
    words_are = λ e below. words_are e below ∙ omega arith;
    stop_is = λ why is. absurd (let n : why_of w.limit 0 ≡ Some why = ap (why_of w.limit) (sym going) ∙ is in cc);
    held_once = λ e below. sym (start_low (predecessors_of w.plan e));
    runs_are = λ id v at e below some_e. absurd (let q = only id v at in let z : times e v.holds ≡ 0 = ap (λ (x : View). times e x.holds) q in omega (arith, z, some_e));
    sent_once = λ e below. refl;
    sends_are = λ id v at e below some_e. absurd (let q = only id v at in let z : times e v.sends ≡ 0 = ap (λ (x : View). times e x.sends) q in omega (arith, z, some_e));
    restarts = λ id v at e some_e. absurd (let q = only id v at in let z : times e v.resets ≡ 0 = ap (λ (x : View). times e x.resets) q in omega (arith, z, some_e));
    armed_once = λ e. omega arith;
    homes_are = λ k x at. let s = elem_some slots k (some x) at in let xs : x ≡ s.0 = cc in subst (λ (y : S). value y (b.first (owner_of w.layout k))) (sym xs) (slots_are k s.0 s.2);
    away = λ k gone. absurd (let s = elem_some slots k none gone in let q = s.1 in cc);
    out_is = λ id v at k out_k. absurd (let q = only id v at in let z : has k v.out ≡ false = ap (λ (x : View). has k x.out) q in cc);
    bounded = λ e. omega arith;
    noted = λ id v at e below. let q = only id v at in let z : seen_run e v.notes ≡ 0 = ap (λ (x : View). seen_run e x.notes) q in omega (arith, z);
    over = λ id v at saw. absurd (let q = only id v at in let z : v.ended ≡ false = ap (λ (x : View). x.ended) q in cc);
    told = λ id v at saw. absurd (let q = only id v at in let z : knows_stop v ≡ false = ap knows_stop q in cc);
  };
  begins = λ id v at fresh. (refl, refl, going);
}
  where
    only : (id : ℕ) (v : View) → get_elem? (first_view ∷ []) id ≡ some v → v ≡ first_view
    only zero v at = cc
    only (suc id) v at = absurd (cc)

elem_get : (xs : List ℕ) (i n : ℕ) → get_elem? xs i ≡ some n → get_or xs i 0 ≡ n
elem_get [] i n h = absurd (cc)
elem_get (x ∷ xs) zero n h = cc
elem_get (x ∷ xs) (suc i) n h = elem_get xs i n h

elem_for : {A : Type 0} (xs : List A) (k : ℕ) → k < length xs → (x : A) × (get_elem? xs k ≡ some x)
elem_for [] k h = absurd (omega arith)
elem_for (x ∷ xs) zero h = (x, refl)
elem_for (x ∷ xs) (suc k) h = elem_for xs k (omega arith)

-- At the end each slot is at home.
module _ {C S : Type 0} (b : Behaviour C) (w : Wiring) (value : S → C → Type 0) (id : ℕ) (v : View) (words : List ℕ) (slots : List S) (count : length slots ≡ slots_of w.layout) (saw : v.ended ≡ true) (f : Final (Seen (IsBoard b w value) id v) words slots)
    (order : Level) (ends : Ends b order) (ordered : IsOrderOf (shape_of w.plan) order) where
  abbrev core : State C
  core = played b (shape_of w.plan) (start (shape_of w.plan)) f.1.0.events

  pub over_at_end : (u : ℕ) → u < w.plan.elements → (cell_in b core u ≡ result_cell ends u) × (run_number (core u) ≡ result_count ends u) × ((core u).status ≡ Done) × ((core u).sends ≡ [])
  over_at_end = (agrees_at b w value f.0 f.1.0 order ends ordered).ends (f.1.0.shows.over id v f.1.1 saw)

  none_held : (u : ℕ) → u < w.plan.elements → (j : ℕ) (x : View) → get_elem? f.0.views j ≡ some x → 0 < times u x.holds → ⊥
  none_held u low_u j x has_x some_u = absurd (let h = held f.1.0.shows j u x has_x low_u some_u in let d = (over_at_end u low_u).2 in cc)

  none_touches : (u : ℕ) → u < w.plan.elements → (j : ℕ) (x : View) → get_elem? f.0.views j ≡ some x → MayTouch w x u → ⊥
  none_touches u low_u j x has_x may = elim may [
    | inl h ↦ none_held u low_u j x has_x h
    | inr h ↦ none_held h.0 h.1 j x has_x h.2
  ]

  nothing_away : (k : ℕ) → k < slots_of w.layout → get_elem? f.0.homes k ≡ some none → ⊥
  nothing_away k in_slots gone =
      let a = f.1.0.shows.away k gone in
      elim (f.1.0.shows.out_is a.0 a.1 a.2 k a.3) [
        | inl h ↦ none_touches (owner_of w.layout k) (f.1.0.wired.laid_out.owned k in_slots) a.0 a.1 a.2 h
        | inr h ↦ none_touches (reader_of w.layout k) (f.1.0.wired.laid_out.read k in_slots) a.0 a.1 a.2 h
      ]

  pub home_at_end : (k : ℕ) → k < slots_of w.layout → (x : S) → get_elem? slots k ≡ some x → get_elem? f.0.homes k ≡ some (some x)
  home_at_end k in_slots x at =
      let it = elem_for f.0.homes k (omega (arith, f.3, count, in_slots)) in
      by_home it.0 it.1
    where
      by_home : (y : Option S) → get_elem? f.0.homes k ≡ some y → get_elem? f.0.homes k ≡ some (some x)
      by_home none gone = absurd (nothing_away k in_slots gone)
      by_home (some y) home =
          let there = f.4 k y home in
          let yx : y ≡ x = cc in
          home ∙ ap (λ (z : S). some (some z)) yx

-- The end: what a pass that saw the last element done finds in the words and slots is the recursion's result.
pub closes : {C S : Type 0} (b : Behaviour C) (w : Wiring) (value : S → C → Type 0) (id : ℕ) (v : View) (words : List ℕ) (slots : List S) → length slots ≡ slots_of w.layout → v.ended ≡ true → Final (Seen (IsBoard b w value) id v) words slots → AreResult b w value words slots
closes {C} {S} b w value id v words slots count saw f order ends ordered e below = record {
  cell = λ x at. subst (value x) (ap (λ (u : ℕ). cell_in b core u) own.1 ∙ over.0) (board.shows.homes_are (first_of w.layout e) x (home_at_end b w value id v words slots count saw f order ends ordered (first_of w.layout e) own.0 x at));
  run = λ n at. ap (λ (j : ℕ). j / 1048576) (sym (elem_get words (e + 2) n at) ∙ ap (λ (xs : List ℕ). get_or xs (e + 2) 0) (sym f.2)) ∙ run_shown (armings w f.0 e) (core e) (get_or f.0.words (e + 2) 0) (narrow b w value f.0 board e) (sym (board.shows.words_are e below)) ∙ over.1;
  within = omega (arith, board.shows.bounded e, over.1);
}
  where
    board : IsBoard b w value f.0
    board = f.1.0

    core : State C
    core = played b (shape_of w.plan) (start (shape_of w.plan)) f.1.0.events

    over : (cell_in b core e ≡ result_cell ends e) × (run_number (core e) ≡ result_count ends e) × ((core e).status ≡ Done) × ((core e).sends ≡ [])
    over = over_at_end b w value id v words slots count saw f order ends ordered e below

    own : (first_of w.layout e < slots_of w.layout) × (owner_of w.layout (first_of w.layout e) ≡ e)
    own = f.1.0.wired.laid_out.together e (first_of w.layout e) below (omega arith) (f.1.0.wired.laid_out.rises e below)
