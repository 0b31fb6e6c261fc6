-- The start and the end under both rules.
use Rattle.std.proofs.Common.{◌≡◌, ℕ, zero, suc, ◌+◌, ◌*◌, ◌%◌, ◌<◌, List, [], ◌∷◌, map, length, get_or, Bool, true, false, refl, sym, ap, subst, ◌∙◌, arith}
use mathlib.Core.Option.{some}
use lib.ListN.{get_elem?}
use Rattle.atomic_table.specs.Table.{opening, Final, Seen}
use Rattle.pk_plan.specs.Plans.{predecessors_of}
use Rattle.pk_plan.specs.Shape.{shape_of}
use Rattle.pk_iterate.specs.Behaviour.{Behaviour}
use Rattle.pk_core.specs.declared.events.Event.{Event}
use Rattle.pk_core.specs.declared.events.Status.{Status}
use Rattle.pk_core.specs.declared.events.Status.TheVariants.{Done}
use Rattle.pk_core.specs.States.{Element, run_number}
use Rattle.pk_core.specs.Events.{start, start_status, played}
use Rattle.pk_core.proofs.Keeps.{is_done}
use Rattle.pk_core.proofs.Settled.{settle}
use Rattle.pk_layout.specs.Layouts.{slots_of, first_of, owner_of, reader_of}
use Rattle.pk_layout.specs.Wirings.{Wiring, IsWired}
use Rattle.pk_items.specs.Items.{EndsItem}
use Rattle.pk_words.specs.declared.view.View.{View}
use Rattle.pk_words.specs.Views.{first_view}
use Rattle.pk_words.specs.Board.{low, word_shown, IsBoard}
use Rattle.pk_words.specs.Kinds.{Kind, HasCell, IsGone, HasPart, IsCellOf, HasValue, Lean, is_over, IsPartOf, IsRightKind, right_in, IsLeanBoard}
use Rattle.pk_words.specs.Laws.{core_of}
use Rattle.pk_words.specs.Reads.{HasEnd, AreResult}
use Rattle.pk_words.proofs.Stays.{armings}
use Rattle.pk_words.proofs.Numbers.{low_part}
use Rattle.pk_words.proofs.Whole.{elem_some, opens, over_at_end, home_at_end, closes}
use Rattle.pk_lean_words.specs.Members.{IsLastCell}
use Rattle.pk_lean_words.proofs.Overs.{over_never, over_now, reader_not_over}
use Rattle.pk_lean_words.proofs.Lean_steps.{cell_value, right_cell, cell_of}
use Rattle.pk_lean_words.proofs.Lean_takes.{value_cell}
use Rattle.pk_lean_words.proofs.Item_ends.{first_slot}

start_undone : (xs : List ℕ) → is_done (settle (start_status xs)) ≡ false
start_undone [] = refl
start_undone (x ∷ xs) = refl

-- the word of an element that is done, armed or not
pub done_shown : {C : Type 0} (left : ℕ) (x : Element C) → x.status ≡ Done → word_shown left x % 1048576 ≡ 262145
done_shown zero x done = ap (λ (st : Status). (run_number x * 1048576 + low st) % 1048576) done ∙ low_part (run_number x) 262145 (omega arith)
done_shown (suc left) x done = low_part (run_number x) 262145 (omega arith)

module _ {C P S : Type 0} (b : Behaviour C) (w : Wiring) (lean : Lean C P) (kind : S → Kind C P) where
  -- at the start each slot has its owner's first cell
  pub lean_opens : (words : List ℕ) (slots : List S) → IsWired b w → length words ≡ w.plan.elements + 2 → get_or words 1 0 ≡ 0
      → ((e : ℕ) → e < w.plan.elements → get_or words (e + 2) 0 ≡ low (start_status (predecessors_of w.plan e)))
      → ((k : ℕ) (x : S) → get_elem? slots k ≡ some x → IsCellOf kind x (b.first (owner_of w.layout k)))
      → IsLeanBoard b w lean kind (opening words slots first_view)
  lean_opens words slots wired long going words_are slots_are = (board, record { homes = λ k x here. here_right k x here })
    where
      board : IsBoard b w (HasValue kind) (opening words slots first_view)
      board = opens b w (HasValue kind) words slots wired long going words_are (λ k x at. cell_value kind x (b.first (owner_of w.layout k)) (slots_are k x at))

      undone : (u : ℕ) → is_done (settle (core_of (opens b w (HasValue kind) words slots wired long going words_are (λ k x at. cell_value kind x (b.first (owner_of w.layout k)) (slots_are k x at))) u).status) ≡ false
      undone u = ap (λ (events : List Event). is_done (settle (played b (shape_of w.plan) (start (shape_of w.plan)) events u).status))
          ((opens b w (HasValue kind) words slots wired long going words_are (λ k x at. cell_value kind x (b.first (owner_of w.layout k)) (slots_are k x at))).begins 0 first_view refl refl).1
          ∙ start_undone (predecessors_of w.plan u)

      here_right : (k : ℕ) (x : S) → get_elem? (map some slots) k ≡ some (some x) → right_in b w lean kind words k x
      here_right k x here =
          let it = elem_some slots k (some x) here in
          let at : get_elem? slots k ≡ some x = it.2 ∙ sym it.1 in
          right_cell b w lean kind words k x (b.first (owner_of w.layout k))
          (reader_not_over b w (HasValue kind) (opening words slots first_view) (opens b w (HasValue kind) words slots wired long going words_are (λ j y at_j. cell_value kind y (b.first (owner_of w.layout j)) (slots_are j y at_j))) lean.lets_go k (undone (owner_of w.layout k)))
          (slots_are k x at)

  -- ---- the end

  module _ (id : ℕ) (v : View) (words : List ℕ) (slots : List S) (count : length slots ≡ slots_of w.layout) (saw : v.ended ≡ true) (f : Final (Seen (IsLeanBoard b w lean kind) id v) words slots) where
    pub lean_closes : AreResult b w (HasValue kind) words slots
    lean_closes = closes b w (HasValue kind) id v words slots count saw (f.0, (f.1.0.0, f.1.1), f.2, f.3, f.4)

    -- where no cell is let go of, each element's first slot has the cell that the recursion leaves
    pub lean_leaves_cells : lean.lets_go ≡ false → HasEnd b w.plan → (e : ℕ) → e < w.plan.elements → (x : S) → get_elem? slots (first_of w.layout e) ≡ some x → (c : C) × IsCellOf kind x c × IsLastCell b w.plan e c
    lean_leaves_cells never has_end e below x at =
        let first = first_slot f.1.0.0.wired e below in
        let home = home_at_end b w (HasValue kind) id v words slots count saw (f.0, (f.1.0.0, f.1.1), f.2, f.3, f.4) has_end.0 has_end.1 has_end.2 (first_of w.layout e) first.0 x at in
        let c = cell_of b w lean kind f.0.words (first_of w.layout e) x (over_never w.plan lean.lets_go f.0.words (reader_of w.layout (first_of w.layout e)) never) (f.1.0.1.homes (first_of w.layout e) x home) in
        (c.0, c.1, λ order ends ordered. value_cell kind x c.0 _ c.1 ((lean_closes order ends ordered e below).cell x at))

    -- where cells are let go of, the first slot of each item's last element has the item's part
    pub lean_leaves_parts : lean.lets_go ≡ true → HasEnd b w.plan → (j : ℕ) → EndsItem w.plan j → (x : S) → get_elem? slots (first_of w.layout j) ≡ some x → (part : P) × (kind x ≡ HasPart part) × IsPartOf b w.plan lean.part j part
    lean_leaves_parts goes has_end j item x at = by_kind (kind x) refl (subst (λ (over : Bool). IsRightKind b w lean over (first_of w.layout j) (kind x)) over (f.1.0.1.homes (first_of w.layout j) x home))
      where
        home : get_elem? f.0.homes (first_of w.layout j) ≡ some (some x)
        home = home_at_end b w (HasValue kind) id v words slots count saw (f.0, (f.1.0.0, f.1.1), f.2, f.3, f.4) has_end.0 has_end.1 has_end.2 (first_of w.layout j) (first_slot f.1.0.0.wired j item.element).0 x at

        done_word : get_or f.0.words (j + 2) 0 % 1048576 ≡ 262145
        done_word = ap (λ (n : ℕ). n % 1048576) (f.1.0.0.shows.words_are j item.element) ∙ done_shown (armings w f.0 j) (core_of f.1.0.0 j) (over_at_end b w (HasValue kind) id v words slots count saw (f.0, (f.1.0.0, f.1.1), f.2, f.3, f.4) has_end.0 has_end.1 has_end.2 j item.element).2

        over : is_over w.plan lean.lets_go f.0.words (reader_of w.layout (first_of w.layout j)) ≡ true
        over =
            let r = (first_slot f.1.0.0.wired j item.element).2 in
            ap (is_over w.plan lean.lets_go f.0.words) r ∙ over_now w.plan lean.lets_go f.0.words j goes item.not_end (ap (λ (i : ℕ). get_or f.0.words (i + 2) 0 % 1048576) item.outermost ∙ done_word)

        by_kind : (k : Kind C P) → kind x ≡ k → IsRightKind b w lean true (first_of w.layout j) (kind x) → (part : P) × (kind x ≡ HasPart part) × IsPartOf b w.plan lean.part j part
        by_kind (HasCell c) is r = absurd (let o : true ≡ false = subst (IsRightKind b w lean true (first_of w.layout j)) is r in cc)
        by_kind IsGone is r = absurd ((subst (IsRightKind b w lean true (first_of w.layout j)) is r).1 j (item, refl))
        by_kind (HasPart part) is r =
            let p = (subst (IsRightKind b w lean true (first_of w.layout j)) is r).1 in
            let same : p.0 ≡ j = sym (first_slot f.1.0.0.wired p.0 p.1.0.element).1 ∙ ap (owner_of w.layout) (sym p.1.1) ∙ (first_slot f.1.0.0.wired j item.element).1 in
            (part, is, subst (λ (i : ℕ). IsPartOf b w.plan lean.part i part) same p.2)
