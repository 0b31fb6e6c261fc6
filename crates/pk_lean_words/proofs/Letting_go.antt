-- What every board keeps of its slots.
use Rattle.std.proofs.Common.{◌≡◌, ◌≢◌, ℕ, ◌+◌, ◌%◌, ◌<◌, ◌==◌, get_or, true, false, refl, sym, ap, subst, ◌∙◌, arith}
use mathlib.Core.Option.{some}
use lib.ListN.{get_elem?}
use Rattle.atomic_table.specs.Table.{State as TableState}
use Rattle.pk_plan.specs.Plans.{end_of}
use Rattle.pk_iterate.specs.Behaviour.{Behaviour}
use Rattle.pk_core.specs.States.{cell_in}
use Rattle.pk_core.proofs.Basics.{same}
use Rattle.pk_core.proofs.Keeps.{apart_of}
use Rattle.pk_layout.specs.Layouts.{first_of, owner_of, reader_of}
use Rattle.pk_layout.specs.Wirings.{Wiring}
use Rattle.pk_items.specs.Items.{top_of, EndsItem}
use Rattle.pk_items.proofs.Outermost.{tops_are_outermost}
use Rattle.pk_items.proofs.Over.{done_is_over}
use Rattle.pk_words.specs.declared.view.View.{View}
use Rattle.pk_words.specs.Kinds.{Kind, HasCell, IsGone, HasPart, IsCellOf, HasValue, Lean, is_over, IsPartOf, IsPartSlot, IsRightKind, IsLeanBoard}
use Rattle.pk_words.specs.Laws.{core_of}
use Rattle.pk_words.proofs.Wired.{last_in}
use Rattle.pk_words.proofs.Stays.{armings}
use Rattle.pk_lean_words.specs.Laws.{IsItemOver, IsRightSlot, EveryBoardLetsGo}
use Rattle.pk_lean_words.proofs.Overs.{reader_low, over_parts, top_done, over_now}
use Rattle.pk_lean_words.proofs.Lean_takes.{value_cell}
use Rattle.pk_lean_words.proofs.Item_ends.{first_slot}
use Rattle.pk_lean_words.proofs.Lean_ends.{done_shown}

module _ {C P S : Type 0} (b : Behaviour C) (w : Wiring) (lean : Lean C P) (kind : S → Kind C P) (s : TableState S View) (both : IsLeanBoard b w lean kind s) where
  -- what is over by its word is over in the core
  over_core : (e : ℕ) → e < w.plan.elements → is_over w.plan lean.lets_go s.words e ≡ true → IsItemOver w lean (core_of both.0) e
  over_core e below over =
      let parts = over_parts lean.lets_go (e == end_of w.plan) (get_or s.words (top_of w.plan e + 2) 0 % 1048576 == 262145) over in
      record {
        lets_go = parts.0;
        not_end = apart_of e (end_of w.plan) parts.1;
        done = top_done b w (HasValue kind) s both.0 e below (same (get_or s.words (top_of w.plan e + 2) 0 % 1048576) 262145 parts.2);
      }

  -- and the other way round
  over_word : (e : ℕ) → e < w.plan.elements → IsItemOver w lean (core_of both.0) e → is_over w.plan lean.lets_go s.words e ≡ true
  over_word e below over =
      let x = top_of w.plan e in
      let low_x = (tops_are_outermost w.plan both.0.wired.axioms).within e below in
      over_now w.plan lean.lets_go s.words e over.lets_go over.not_end
      (ap (λ (n : ℕ). n % 1048576) (both.0.shows.words_are x low_x) ∙ done_shown (armings w s x) (core_of both.0 x) over.done)

  slot_right : (k : ℕ) (x : S) → get_elem? s.homes k ≡ some (some x) → IsRightSlot b w lean kind (core_of both.0) k x
  slot_right k x home = record {
    cell = λ not_over. by_cell not_over (kind x) refl (both.1.homes k x home);
    gone = λ over further. by_gone over further (kind x) refl (both.1.homes k x home);
    part = λ over first. by_part over first (kind x) refl (both.1.homes k x home);
  }
    where
      by_cell : (IsItemOver w lean (core_of both.0) (reader_of w.layout k) → ⊥) → (j : Kind C P) → kind x ≡ j → IsRightKind b w lean (is_over w.plan lean.lets_go s.words (reader_of w.layout k)) k (kind x) → IsCellOf kind x (cell_in b (core_of both.0) (owner_of w.layout k))
      by_cell not_over (HasCell c) is r = subst (IsCellOf kind x) (value_cell kind x c (cell_in b (core_of both.0) (owner_of w.layout k)) is (both.0.shows.homes_are k x home)) is
      by_cell not_over IsGone is r = absurd (not_over (over_core (reader_of w.layout k) (reader_low both.0.wired k) (subst (IsRightKind b w lean (is_over w.plan lean.lets_go s.words (reader_of w.layout k)) k) is r).0))
      by_cell not_over (HasPart part) is r = absurd (not_over (over_core (reader_of w.layout k) (reader_low both.0.wired k) (subst (IsRightKind b w lean (is_over w.plan lean.lets_go s.words (reader_of w.layout k)) k) is r).0))

      no_cell : IsItemOver w lean (core_of both.0) (reader_of w.layout k) → (c : C) → kind x ≡ HasCell c → IsRightKind b w lean (is_over w.plan lean.lets_go s.words (reader_of w.layout k)) k (kind x) → ⊥
      no_cell over c is r = absurd (
          let o : is_over w.plan lean.lets_go s.words (reader_of w.layout k) ≡ false = subst (IsRightKind b w lean (is_over w.plan lean.lets_go s.words (reader_of w.layout k)) k) is r in
          let t = over_word (reader_of w.layout k) (reader_low both.0.wired k) over in
          cc)

      -- a slot of a part is the first of the last element of its reader's item
      part_slot : (j : ℕ) → IsPartSlot w j k → j ≡ top_of w.plan (reader_of w.layout k)
      part_slot j is = sym is.0.outermost ∙ ap (top_of w.plan) (sym (ap (reader_of w.layout) is.1 ∙ (first_slot both.0.wired j is.0.element).2))

      by_gone : IsItemOver w lean (core_of both.0) (reader_of w.layout k) → k ≢ first_of w.layout (top_of w.plan (reader_of w.layout k)) → (j : Kind C P) → kind x ≡ j → IsRightKind b w lean (is_over w.plan lean.lets_go s.words (reader_of w.layout k)) k (kind x) → kind x ≡ IsGone
      by_gone over further (HasCell c) is r = absurd (no_cell over c is r)
      by_gone over further IsGone is r = is
      by_gone over further (HasPart part) is r =
          let p = (subst (IsRightKind b w lean (is_over w.plan lean.lets_go s.words (reader_of w.layout k)) k) is r).1 in
          absurd (further (p.1.1 ∙ ap (first_of w.layout) (part_slot p.0 p.1)))

      by_part : IsItemOver w lean (core_of both.0) (reader_of w.layout k) → k ≡ first_of w.layout (top_of w.plan (reader_of w.layout k)) → (j : Kind C P) → kind x ≡ j → IsRightKind b w lean (is_over w.plan lean.lets_go s.words (reader_of w.layout k)) k (kind x)
          → (part : P) × (kind x ≡ HasPart part) × IsPartOf b w.plan lean.part (top_of w.plan (reader_of w.layout k)) part
      by_part over first (HasCell c) is r = absurd (no_cell over c is r)
      by_part over first IsGone is r =
          let last : end_of w.plan + 1 ≡ w.plan.elements = omega (arith, last_in both.0.wired) in
          let item : EndsItem w.plan (top_of w.plan (reader_of w.layout k)) = (tops_are_outermost w.plan both.0.wired.axioms).ends (reader_of w.layout k) (omega (arith, reader_low both.0.wired k, over.not_end, last)) in
          absurd ((subst (IsRightKind b w lean (is_over w.plan lean.lets_go s.words (reader_of w.layout k)) k) is r).1 (top_of w.plan (reader_of w.layout k)) (item, first))
      by_part over first (HasPart part) is r =
          let p = (subst (IsRightKind b w lean (is_over w.plan lean.lets_go s.words (reader_of w.layout k)) k) is r).1 in
          (part, is, subst (λ (i : ℕ). IsPartOf b w.plan lean.part i part) (part_slot p.0 p.1) p.2)

pub every_board_lets_go : {C P S : Type 0} (b : Behaviour C) (kind : S → Kind C P) → EveryBoardLetsGo b kind
every_board_lets_go b kind = record {
  slots = λ w lean s both k x home. slot_right b w lean kind s both k x home;
  over = λ w lean s both order ends ordered e below over.
      done_is_over b w.plan order ends both.0.events both.0.wired.axioms ordered both.0.wired.fits both.0.enabled (top_of w.plan e) e below ((tops_are_outermost w.plan both.0.wired.axioms).under e below) over.done;
}
