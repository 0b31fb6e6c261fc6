-- What the last run of an item's last element leaves in the slots that the pass has taken.
use Rattle.std.specs.Prelude.{◌≡◌, ◌≢◌, ℕ, ◌⊎◌}
use Rattle.pk_layout.specs.Layouts.{first_of, owner_of, reader_of}
use Rattle.pk_layout.specs.Wirings.{Wiring}
use Rattle.pk_items.specs.Items.{top_of}
use Rattle.pk_words.specs.Kinds.{Kind, HasCell, IsGone, HasPart}

-- in a slot of e that another item reads the new cell, in the first slot of e the part, in all others that the item reads nothing
abbrev pub IsLeft : {C P : Type 0} → Wiring → (e : ℕ) → C → P → (k : ℕ) → Kind C P → Type 0
IsLeft w e c part k kind =
    ((owner_of w.layout k ≡ e) × (top_of w.plan (reader_of w.layout k) ≢ e) × (kind ≡ HasCell c))
    ⊎ (((k ≡ first_of w.layout e) × (kind ≡ HasPart part))
    ⊎ ((k ≢ first_of w.layout e) × (top_of w.plan (reader_of w.layout k) ≡ e) × (kind ≡ IsGone)))
