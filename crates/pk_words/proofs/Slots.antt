-- Slots that are taken, and given back.
use Rattle.std.proofs.Common.{◌≡◌, ℕ, zero, suc, ◌+◌, ◌<◌, ◌≤◌, ◌==◌, List, [], ◌∷◌, length, get_or, set, Bool, true, false, ◌||◌, refl, sym, ap, subst, ◌∙◌, arith, inl, inr, ◌⊎◌, length-set}
use mathlib.Core.Option.{Option, some, none}
use lib.ListN.{get_elem?}
use Rattle.atomic_table.specs.Table.{State as TableState, Act, keeps, gives, chain, put_back, rest, carried_after, homes_after, Valid}
use Rattle.pk_plan.specs.Shape.{has, shape_of}
use Rattle.pk_iterate.specs.Behaviour.{Behaviour}
use Rattle.pk_core.specs.States.{State, cell_in, run_number}
use Rattle.pk_core.specs.Events.{start, played}
use Rattle.pk_core.proofs.Basics.{cases, same, or_false, or_right}
use Rattle.pk_core.proofs.Keeps.{apart_of}
use Rattle.pk_layout.specs.Layouts.{slots_of, owner_of, reader_of}
use Rattle.pk_layout.specs.Wirings.{Wiring}
use Rattle.pk_words.specs.declared.view.View.{View}
use Rattle.pk_words.specs.Tokens.{times, seen_run}
use Rattle.pk_words.specs.Views.{AllRight, slots_in, idle, knows_stop}
use Rattle.pk_words.specs.Board.{MayTouch, Shows, IsBoard}
use Rattle.pk_words.proofs.Lists.{elem_set, elem_set_other}
use Rattle.pk_words.proofs.Stays.{armings, Moves, stays}
use Rattle.pk_words.proofs.Statuses.{same_changes}

-- the n slots that were taken last go home
abbrev pub gives_all : {S : Type 0} → ℕ → Act S
gives_all zero = keeps
gives_all (suc n) = chain gives (gives_all n)

pub valid_gives : {S : Type 0} (hs : List (Option S)) (c : List (ℕ × S)) (n : ℕ) → Valid hs c (gives_all n)
valid_gives hs c zero = tt
valid_gives hs c (suc n) = (tt, valid_gives (put_back hs c) (rest c) n)

pub carried_gives : {S : Type 0} (xs : List (ℕ × S)) → carried_after xs (gives_all (length xs)) ≡ []
carried_gives [] = refl
carried_gives (x ∷ xs) = carried_gives xs

pub gives_other : {S : Type 0} (hs : List (Option S)) (xs : List (ℕ × S)) (k : ℕ) → has k (slots_in xs) ≡ false → get_elem? (homes_after hs xs (gives_all (length xs))) k ≡ get_elem? hs k
gives_other hs [] k out = refl
gives_other {S} hs (x ∷ xs) k out =
    let o = or_false (k == x.0) (has k (slots_in xs)) out in
    gives_other (set hs x.0 (some x.1)) xs k o.1 ∙ elem_set_other hs x.0 k (some x.1) (apart_of k x.0 o.0)

elem_set_in : {A : Type 0} (hs : List A) (i : ℕ) (y : A) → i < length hs → get_elem? (set hs i y) i ≡ some y
elem_set_in [] i y h = absurd (omega arith)
elem_set_in (x ∷ hs) zero y h = refl
elem_set_in (x ∷ hs) (suc i) y h = elem_set_in hs i y (omega arith)

pub elem_below : {A : Type 0} (xs : List A) (k : ℕ) (y : A) → get_elem? xs k ≡ some y → k < length xs
elem_below [] k y h = absurd (cc)
elem_below (x ∷ xs) zero y h = omega arith
elem_below (x ∷ xs) (suc k) y h = omega (arith, elem_below xs k y h)

pub gives_home : {S : Type 0} (right : ℕ → S → Type 0) (hs : List (Option S)) (xs : List (ℕ × S)) (k : ℕ) → AllRight right xs → has k (slots_in xs) ≡ true → k < length hs → (x : S) × (get_elem? (homes_after hs xs (gives_all (length xs))) k ≡ some (some x)) × right k x
gives_home right hs [] k all out below = absurd (cc)
gives_home {S} right hs (y ∷ ys) k all out below = elim (cases (has k (slots_in ys))) [
  | inl q ↦ gives_home right (set hs y.0 (some y.1)) ys k all.1 q (omega (arith, length-set hs y.0 (some y.1), below))
  | inr q ↦ elim (cases (k == y.0)) [
    | inl e ↦
        let ky = same k y.0 e in
        let at : get_elem? (set hs y.0 (some y.1)) k ≡ some (some y.1) = subst (λ (j : ℕ). get_elem? (set hs j (some y.1)) k ≡ some (some y.1)) ky (elem_set_in hs k (some y.1) below) in
        (y.1, gives_other (set hs y.0 (some y.1)) ys k q ∙ at, subst (λ (j : ℕ). right j y.1) (sym ky) all.0)
    | inr e ↦ absurd (let h : ((k == y.0) || has k (slots_in ys)) ≡ false = rw (e, q) refl in cc)
  ]
]

-- what is out goes home
pub given_moves : {C S : Type 0} {b : Behaviour C} {w : Wiring} {value : S → C → Type 0} {s : State C} {ts : TableState S View} (t : State C) (v v' : View) (xs : List (ℕ × S)) → Shows b w value s ts → length ts.homes ≡ slots_of w.layout → v.out ≡ slots_in xs → v'.out ≡ []
    → AllRight (λ k x. value x (cell_in b t (owner_of w.layout k))) xs
    → ((k : ℕ) → k < slots_of w.layout → has k (slots_in xs) ≡ false → cell_in b t (owner_of w.layout k) ≡ cell_in b s (owner_of w.layout k))
    → Moves b w value t ts.homes (homes_after ts.homes xs (gives_all (length xs))) v v'
given_moves {C} {S} {b} {w} {value} {s} {ts} t v v' xs sh long out out' all rest_stays = record {
  homes = λ k x at. elim (cases (has k (slots_in xs))) [
    | inl q ↦
        let below : k < length ts.homes = omega (arith, elem_below (homes_after ts.homes xs (gives_all (length xs))) k (some x) at, homes_long ts.homes xs) in
        let g = gives_home (λ j y. value y (cell_in b t (owner_of w.layout j))) ts.homes xs k all q below in
        let gx : g.0 ≡ x = cc in
        subst (λ (y : S). value y (cell_in b t (owner_of w.layout k))) gx g.2
    | inr q ↦
        let was = sym (gives_other ts.homes xs k q) ∙ at in
        subst (value x) (sym (rest_stays k (omega (arith, elem_below ts.homes k (some x) was, long)) q)) (sh.homes_are k x was)
  ];
  away = λ k gone. elim (cases (has k (slots_in xs))) [
    | inl q ↦ absurd (
        let below : k < length ts.homes = omega (arith, elem_below (homes_after ts.homes xs (gives_all (length xs))) k none gone, homes_long ts.homes xs) in
        let g = gives_home (λ j y. value y (cell_in b t (owner_of w.layout j))) ts.homes xs k all q below in
        let here = g.1 in
        cc
        )
    | inr q ↦ inr (sym (gives_other ts.homes xs k q) ∙ gone, ap (has k) out ∙ q)
  ];
  out = λ k some_k. absurd (let h : false ≡ true = sym (ap (has k) out') ∙ some_k in cc);
}
  where
    homes_long : (hs : List (Option S)) (ys : List (ℕ × S)) → length (homes_after hs ys (gives_all (length ys))) ≡ length hs
    homes_long hs [] = refl
    homes_long hs (y ∷ ys) = homes_long (set hs y.0 (some y.1)) ys ∙ length-set hs y.0 (some y.1)

-- a load takes a slot that the pass may touch, and may note something that is so
pub taken_under : {C S : Type 0} (b : Behaviour C) (w : Wiring) (value : S → C → Type 0) (ts : TableState S View) (id e k : ℕ) (v v' : View) → v'.fresh ≡ false → (board : IsBoard b w value ts) → get_elem? ts.views id ≡ some v → e < w.plan.elements → MayTouch w v (owner_of w.layout k) ⊎ MayTouch w v (reader_of w.layout k)
    → v'.holds ≡ v.holds → v'.sends ≡ v.sends → v'.resets ≡ v.resets → v'.out ≡ k ∷ v.out → v'.ended ≡ v.ended → knows_stop v' ≡ knows_stop v
    → ((u : ℕ) → u < w.plan.elements → seen_run u v'.notes ≤ run_number (played b (shape_of w.plan) (start (shape_of w.plan)) board.events u))
    → IsBoard b w value (record { words = set ts.words (e + 2) (get_or ts.words (e + 2) 0); homes = set ts.homes k none; views = set ts.views id v' })
taken_under {C} {S} b w value ts id e k v v' stale board at below may same_holds same_sends same_resets out_is same_ended same_stopped notes =
    let core : State C = played b (shape_of w.plan) (start (shape_of w.plan)) board.events in
    stays b w value ts (armings w ts) (set ts.homes k none) id e (get_or ts.words (e + 2) 0) v v' stale below board at
    (same_changes id e (get_or ts.words (e + 2) 0) v v' board.wired board.shows at (board.shows.words_are e below) same_holds same_sends same_resets (inl same_ended) same_stopped notes)
    (record {
      homes = λ j x here. elim (elem_set ts.homes k j none (some x) here) [
        | inl q ↦ absurd (let r = q.1 in cc)
        | inr q ↦ board.shows.homes_are j x q.1
      ];
      away = λ j gone. elim (cases (j == k)) [
        | inl q ↦ inl (ap (has j) out_is ∙ rw q refl)
        | inr q ↦ elim (cases (has j v.out)) [
          | inl h ↦ inl (ap (has j) out_is ∙ or_right (j == k) (has j v.out) h)
          | inr h ↦ inr (sym (elem_set_other ts.homes k j none (apart_of j k q)) ∙ gone, h)
        ]
      ];
      out = λ j some_j. same_may j (out_of j (sym (ap (has j) out_is) ∙ some_j));
    })
  where
    only_rest : (c h : Bool) → c ≡ false → (c || h) ≡ true → h ≡ true
    only_rest true h q s = absurd (cc)
    only_rest false h q s = s

    out_of : (j : ℕ) → has j (k ∷ v.out) ≡ true → MayTouch w v (owner_of w.layout j) ⊎ MayTouch w v (reader_of w.layout j)
    out_of j some_j = elim (cases (j == k)) [
      | inl q ↦ subst (λ (i : ℕ). MayTouch w v (owner_of w.layout i) ⊎ MayTouch w v (reader_of w.layout i)) (sym (same j k q)) may
      | inr q ↦ board.shows.out_is id v at j (only_rest (j == k) (has j v.out) q some_j)
    ]

    touch : (u : ℕ) → MayTouch w v u → MayTouch w v' u
    touch u (inl h) = inl (subst (λ (hs : List (ℕ × ℕ)). 0 < times u hs) (sym same_holds) h)
    touch u (inr h) = inr (h.0, h.1, subst (λ (hs : List (ℕ × ℕ)). 0 < times h.0 hs) (sym same_holds) h.2, h.3)

    same_may : (j : ℕ) → MayTouch w v (owner_of w.layout j) ⊎ MayTouch w v (reader_of w.layout j) → MayTouch w v' (owner_of w.layout j) ⊎ MayTouch w v' (reader_of w.layout j)
    same_may j (inl h) = inl (touch (owner_of w.layout j) h)
    same_may j (inr h) = inr (touch (reader_of w.layout j) h)

-- a load takes a slot of a Hold's element, and may note something that is so
pub taken : {C S : Type 0} (b : Behaviour C) (w : Wiring) (value : S → C → Type 0) (ts : TableState S View) (id e k : ℕ) (v v' : View) → v'.fresh ≡ false → (board : IsBoard b w value ts) → get_elem? ts.views id ≡ some v → e < w.plan.elements → 0 < times e v.holds → (owner_of w.layout k ≡ e) ⊎ (reader_of w.layout k ≡ e)
    → v'.holds ≡ v.holds → v'.sends ≡ v.sends → v'.resets ≡ v.resets → v'.out ≡ k ∷ v.out → v'.ended ≡ v.ended → knows_stop v' ≡ knows_stop v
    → ((u : ℕ) → u < w.plan.elements → seen_run u v'.notes ≤ run_number (played b (shape_of w.plan) (start (shape_of w.plan)) board.events u))
    → IsBoard b w value (record { words = set ts.words (e + 2) (get_or ts.words (e + 2) 0); homes = set ts.homes k none; views = set ts.views id v' })
taken b w value ts id e k v v' stale board at below mine of_e = taken_under b w value ts id e k v v' stale board at below (of_one of_e)
  where
    of_one : (owner_of w.layout k ≡ e) ⊎ (reader_of w.layout k ≡ e) → MayTouch w v (owner_of w.layout k) ⊎ MayTouch w v (reader_of w.layout k)
    of_one (inl q) = inl (inl (subst (λ (u : ℕ). 0 < times u v.holds) (sym q) mine))
    of_one (inr q) = inr (inl (subst (λ (u : ℕ). 0 < times u v.holds) (sym q) mine))

-- a load gives back what is out, as it was
pub given : {C S : Type 0} (b : Behaviour C) (w : Wiring) (value : S → C → Type 0) (ts : TableState S View) (id e : ℕ) (v : View) (xs : List (ℕ × S)) → (board : IsBoard b w value ts) → get_elem? ts.views id ≡ some v → e < w.plan.elements → length ts.homes ≡ slots_of w.layout → v.out ≡ slots_in xs
    → AllRight (λ k x. value x (cell_in b (played b (shape_of w.plan) (start (shape_of w.plan)) board.events) (owner_of w.layout k))) xs
    → IsBoard b w value (record { words = set ts.words (e + 2) (get_or ts.words (e + 2) 0); homes = homes_after ts.homes xs (gives_all (length xs)); views = set ts.views id (idle v) })
given {C} {S} b w value ts id e v xs board at below long out all =
    let core : State C = played b (shape_of w.plan) (start (shape_of w.plan)) board.events in
    stays b w value ts (armings w ts) (homes_after ts.homes xs (gives_all (length xs))) id e (get_or ts.words (e + 2) 0) v (idle v) refl below board at
    (same_changes id e (get_or ts.words (e + 2) 0) v (idle v) board.wired board.shows at (board.shows.words_are e below) refl refl refl (inl refl) refl (board.shows.noted id v at))
    (given_moves core v (idle v) xs board.shows long out refl all (λ k in_slots q. refl))
