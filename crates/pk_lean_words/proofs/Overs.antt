-- Which items are over, by the words of a board.
use Rattle.std.proofs.Common.{◌≡◌, ◌≢◌, ℕ, ◌+◌, ◌*◌, ◌%◌, ◌<◌, ◌==◌, ◌&&◌, not, List, length, get_or, set, Bool, true, false, refl, sym, ap, ◌∙◌, arith, inl, inr, ◌⊎◌, Contains, get_or-set_same, get_or-set_other}
use Rattle.std.proofs.lemmas.Bool.{cases_lt}
use Rattle.std.proofs.lemmas.List.{get_or_past}
use mathlib.Core.Option.{some}
use lib.ListN.{get_elem?}
use Rattle.atomic_table.specs.Table.{State as TableState}
use Rattle.pk_plan.specs.Plans.{PlanView, end_of}
use Rattle.pk_plan.specs.Shape.{shape_of}
use Rattle.pk_iterate.specs.Behaviour.{Behaviour}
use Rattle.pk_core.specs.declared.events.Status.{Status}
use Rattle.pk_core.specs.declared.events.Status.TheVariants.{Done}
use Rattle.pk_core.specs.States.{State, run_number}
use Rattle.pk_core.specs.Events.{start, played}
use Rattle.pk_core.proofs.Basics.{cases, not_true, same}
use Rattle.pk_core.proofs.Keeps.{Kept, apart_of, before_done, done_not_waiting, is_done}
use Rattle.pk_core.proofs.Settled.{settle, settled}
use Rattle.pk_layout.specs.Layouts.{slots_of, owner_of, reader_of}
use Rattle.pk_layout.specs.Wirings.{Wiring, IsWired}
use Rattle.pk_items.specs.Items.{top_of}
use Rattle.pk_items.specs.Laws.{TopsAreOutermost}
use Rattle.pk_items.proofs.Outermost.{tops_are_outermost}
use Rattle.pk_items.proofs.Nearby.{reads_are_near}
use Rattle.pk_words.specs.declared.view.View.{View}
use Rattle.pk_words.specs.Tokens.{times}
use Rattle.pk_words.specs.Board.{low, word_shown, IsBoard}
use Rattle.pk_words.specs.Kinds.{is_over}
use Rattle.pk_words.proofs.Wired.{axioms_of, last_in}
use Rattle.pk_words.proofs.Stays.{armings}
use Rattle.pk_words.proofs.Facts.{kept, held, narrow, pending_is, hold_armed, zero_or}
use Rattle.pk_words.proofs.Numbers.{low_part, done_word}

-- ---- owners and readers

pub reader_low : {C : Type 0} {b : Behaviour C} {w : Wiring} → IsWired b w → (k : ℕ) → reader_of w.layout k < w.plan.elements
reader_low {b = b} {w = w} wired k = elim (cases_lt k (slots_of w.layout)) [
  | inl in_slots ↦ wired.laid_out.read k in_slots
  | inr past ↦
      let none : reader_of w.layout k ≡ 0 = get_or_past w.layout.readers k 0 (omega (arith, past, wired.laid_out.as_many)) in
      omega (arith, none, last_in wired)
]

-- a slot is read by its owner, or by an element that reads the owner's cell
pub read_by : {C : Type 0} {b : Behaviour C} {w : Wiring} → IsWired b w → (k : ℕ) → (reader_of w.layout k ≡ owner_of w.layout k) ⊎ Contains (b.reads (reader_of w.layout k)) (owner_of w.layout k)
read_by {b = b} {w = w} wired k = elim (cases_lt k (slots_of w.layout)) [
  | inl in_slots ↦ wired.laid_out.reads k in_slots
  | inr past ↦ inl (get_or_past w.layout.readers k 0 (omega (arith, past, wired.laid_out.as_many)) ∙ sym (get_or_past w.layout.owners k 0 past))
]

-- ---- words

pub over_parts : (a c d : Bool) → (a && (not c && d)) ≡ true → (a ≡ true) × (c ≡ false) × (d ≡ true)
over_parts false c d h = absurd (cc)
over_parts true true d h = absurd (cc)
over_parts true false d h = (refl, refl, h)

-- a word that is done exactly where the old one was changes nothing
pub over_alike : (p : PlanView) (lets : Bool) (words : List ℕ) (i n e : ℕ) → i < length words → (n % 1048576 == 262145) ≡ (get_or words i 0 % 1048576 == 262145) → is_over p lets (set words i n) e ≡ is_over p lets words e
over_alike p lets words i n e in_range alike = elim (cases (top_of p e + 2 == i)) [
  | inl q ↦
      let at = same (top_of p e + 2) i q in
      let now : get_or (set words i n) i 0 ≡ n = rw get_or-set_same refl in
      ap (λ (j : ℕ). lets && (not (e == end_of p) && (get_or (set words i n) j 0 % 1048576 == 262145))) at
      ∙ ap (λ (m : ℕ). lets && (not (e == end_of p) && (m % 1048576 == 262145))) now
      ∙ ap (λ (c : Bool). lets && (not (e == end_of p) && c)) alike
      ∙ sym (ap (λ (j : ℕ). lets && (not (e == end_of p) && (get_or words j 0 % 1048576 == 262145))) at)
  | inr q ↦
      let other : top_of p e + 2 ≢ i = apart_of (top_of p e + 2) i q in
      rw get_or-set_other refl
]

-- nor does a word that isn't of the last element of e's item
pub over_other : (p : PlanView) (lets : Bool) (words : List ℕ) (i n e : ℕ) → (e ≢ end_of p → top_of p e + 2 ≢ i) → is_over p lets (set words i n) e ≡ is_over p lets words e
over_other p lets words i n e apart = elim (cases (e == end_of p)) [
  | inl q ↦ ap (λ (c : Bool). lets && (not c && (get_or (set words i n) (top_of p e + 2) 0 % 1048576 == 262145))) q ∙ sym (ap (λ (c : Bool). lets && (not c && (get_or words (top_of p e + 2) 0 % 1048576 == 262145))) q)
  | inr q ↦
      let other : top_of p e + 2 ≢ i = apart (apart_of e (end_of p) q) in
      rw get_or-set_other refl
]

-- nor any where no cell is let go of
pub over_never : (p : PlanView) (lets : Bool) (words : List ℕ) (e : ℕ) → lets ≡ false → is_over p lets words e ≡ false
over_never p lets words e never = ap (λ (c : Bool). c && (not (e == end_of p) && (get_or words (top_of p e + 2) 0 % 1048576 == 262145))) never

-- where the last element of e's item is done e is over
pub over_now : (p : PlanView) (lets : Bool) (words : List ℕ) (e : ℕ) → lets ≡ true → e ≢ end_of p → get_or words (top_of p e + 2) 0 % 1048576 ≡ 262145 → is_over p lets words e ≡ true
over_now p lets words e goes ne done =
    ap (λ (c : Bool). c && (not (e == end_of p) && (get_or words (top_of p e + 2) 0 % 1048576 == 262145))) goes
    ∙ ap (λ (c : Bool). not c && (get_or words (top_of p e + 2) 0 % 1048576 == 262145)) (differ e (end_of p) ne)
    ∙ ap (λ (m : ℕ). m == 262145) done
  where
    differ : (m n : ℕ) → m ≢ n → (m == n) ≡ false
    differ m n ne = not_true (m == n) (λ q. absurd (ne (same m n q)))

module _ {C S : Type 0} (b : Behaviour C) (w : Wiring) (value : S → C → Type 0) (s : TableState S View) (board : IsBoard b w value s) where
  abbrev core : State C
  core = played b (shape_of w.plan) (start (shape_of w.plan)) board.events

  pub word_in : (e : ℕ) → e < w.plan.elements → e + 2 < length s.words
  word_in e below = omega (arith, board.shows.long, below)

  pub held_word : (id e : ℕ) (v : View) → get_elem? s.views id ≡ some v → e < w.plan.elements → 0 < times e v.holds → get_or s.words (e + 2) 0 % 1048576 ≡ 0
  held_word id e v at below mine =
      let none = hold_armed board.wired board.shows id e v at below mine in
      let is_held = held board.shows id e v at below mine in
      ap (λ (m : ℕ). m % 1048576) (board.shows.words_are e below)
      ∙ ap (λ (j : ℕ). word_shown j (core e) % 1048576) none
      ∙ ap (λ (st : Status). (run_number (core e) * 1048576 + low st) % 1048576) is_held
      ∙ low_part (run_number (core e)) 0 (omega arith)

  tops : TopsAreOutermost w.plan
  tops = tops_are_outermost w.plan board.wired.axioms

  kept_here : Kept (shape_of w.plan) (settled core)
  kept_here = kept b (shape_of w.plan) board.events (axioms_of board.wired) board.enabled

  -- a done word of an item's last element is right
  pub top_done : (e : ℕ) → e < w.plan.elements → get_or s.words (top_of w.plan e + 2) 0 % 1048576 ≡ 262145 → (core (top_of w.plan e)).status ≡ Done
  top_done e below done_low =
      let x = top_of w.plan e in
      let low_x = tops.within e below in
      let none : armings w s x ≡ 0 = elim (zero_or (armings w s x)) [
        | inl z ↦ z
        | inr some_x ↦ absurd (let q = pending_is board.wired board.shows x some_x in let m = q.member in let o = (tops.under e below).outermost q.exit in cc)
      ] in
      done_word (armings w s x) (core x) (get_or s.words (x + 2) 0) (narrow b w value s board x) (sym (board.shows.words_are x low_x)) none done_low

  -- then all of the item is done
  item_done : (e : ℕ) → e < w.plan.elements → (core (top_of w.plan e)).status ≡ Done → is_done (settle (core e).status) ≡ true
  item_done e below done = elim (tops.under e below).under [
    | inl q ↦ ap (λ (j : ℕ). is_done (settle (core j).status)) q ∙ ap (λ (st : Status). is_done (settle st)) done
    | inr i ↦ before_done kept_here e (top_of w.plan e) ((axioms_of board.wired).shape.before_exit (top_of w.plan e) e i) (done_not_waiting (settle (core (top_of w.plan e)).status) (ap (λ (st : Status). is_done (settle st)) done))
  ]

  -- and all that it reads
  owner_done : (k : ℕ) → (core (top_of w.plan (reader_of w.layout k))).status ≡ Done → is_done (settle (core (owner_of w.layout k)).status) ≡ true
  owner_done k done =
      let e = reader_of w.layout k in
      let u = owner_of w.layout k in
      let below = reader_low board.wired k in
      let x = top_of w.plan e in
      let x_done : is_done (settle (core x).status) ≡ true = ap (λ (st : Status). is_done (settle st)) done in
      elim (read_by board.wired k) [
        | inl own ↦ ap (λ (j : ℕ). is_done (settle (core j).status)) (sym own) ∙ item_done e below done
        | inr reads ↦ elim (reads_are_near b w.plan board.wired.axioms board.wired.fits e u below reads) [
          | inl q ↦ ap (λ (j : ℕ). is_done (settle (core j).status)) q ∙ x_done
          | inr near ↦ elim near [
            | inl i ↦ before_done kept_here u x ((axioms_of board.wired).shape.before_exit x u i) (done_not_waiting (settle (core x).status) x_done)
            | inr before ↦ before_done kept_here u e before (done_not_waiting (settle (core e).status) (item_done e below done))
          ]
        ]
      ]

  pub over_done : (lets : Bool) (e : ℕ) → e < w.plan.elements → is_over w.plan lets s.words e ≡ true → (core (top_of w.plan e)).status ≡ Done
  over_done lets e below over = top_done e below (same (get_or s.words (top_of w.plan e + 2) 0 % 1048576) 262145 (over_parts lets (e == end_of w.plan) (get_or s.words (top_of w.plan e + 2) 0 % 1048576 == 262145) over).2)

  -- no reader of a slot is over while the slot's owner isn't done
  pub reader_not_over : (lets : Bool) (k : ℕ) → is_done (settle (core (owner_of w.layout k)).status) ≡ false → is_over w.plan lets s.words (reader_of w.layout k) ≡ false
  reader_not_over lets k undone = not_true (is_over w.plan lets s.words (reader_of w.layout k)) (λ over. absurd (let d = owner_done k (over_done lets (reader_of w.layout k) (reader_low board.wired k) over) in cc))

  -- nor is an element that is held, or whose item's last element is
  pub held_not_over : (lets : Bool) (id e : ℕ) (v : View) → get_elem? s.views id ≡ some v → e < w.plan.elements → 0 < times e v.holds → is_over w.plan lets s.words e ≡ false
  held_not_over lets id e v at below mine = not_true (is_over w.plan lets s.words e) (λ over. absurd (
      let d = item_done e below (over_done lets e below over) in
      let h = ap (λ (st : Status). is_done (settle st)) (held board.shows id e v at below mine) in
      cc))

  pub item_held_not_over : (lets : Bool) (id x e : ℕ) (v : View) → get_elem? s.views id ≡ some v → x < w.plan.elements → 0 < times x v.holds → e < w.plan.elements → top_of w.plan e ≡ x → is_over w.plan lets s.words e ≡ false
  item_held_not_over lets id x e v at low_x mine below top = not_true (is_over w.plan lets s.words e) (λ over. absurd (
      let d : (core x).status ≡ Done = ap (λ (j : ℕ). (core j).status) (sym top) ∙ over_done lets e below over in
      let h = held board.shows id x v at low_x mine in
      cc))
