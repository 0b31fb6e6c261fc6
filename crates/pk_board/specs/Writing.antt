-- How the slots of an element are written, one after another, from the last.
use Rattle.std.specs.Prelude.{◌≡◌, ℕ, ◌+◌, ◌<◌, ◌≤◌, true, false}
use Rattle.atomic_table.specs.Table.{Me}
use Rattle.pk_plan.specs.Shape.{has}
use Rattle.pk_layout.specs.Layouts.{first_of, owner_of}
use Rattle.pk_layout.specs.Wirings.{Wiring}
use Rattle.pk_words.specs.declared.slot.Slot.{Slot}
use Rattle.pk_words.specs.declared.view.View.{View}
use Rattle.pk_words.specs.Kinds.{HasCell, kind_of}
use Rattle.pk_words.specs.Views.{AllRight, slots_in}

-- The pass is writing e's slots, of which those from `from` on are out with the new cell; all else that it knows is as it was.
pub record IsWriting {C P : Type 0} (w : Wiring) (e : ℕ) (c : C) (from : ℕ)
    (old : View) (me : Me (Slot C P) View) : Type 0 where
  pub rest : (record me.0 { out = old.out; fresh = old.fresh }) ≡ old
  pub out : me.0.out ≡ slots_in me.1
  pub right : AllRight (λ k x. (kind_of x ≡ HasCell c) × (owner_of w.layout k ≡ e)) me.1
  pub every : (k : ℕ) → from ≤ k → k < first_of w.layout (e + 1) → has k (slots_in me.1) ≡ true
  pub none_before : (k : ℕ) → k < from → has k (slots_in me.1) ≡ false
