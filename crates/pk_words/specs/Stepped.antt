-- A step of a seat on a word of its table.
use Rattle.std.specs.Prelude.{◌≡◌, ℕ, ◌<◌}
use Rattle.atomic_table.specs.declared.shared.Seat.{Seat}
use Rattle.atomic_table.specs.Seated.{TableId}
use Rattle.atomic_table.specs.Table.{State as TableState, Me, Allows}
use Rattle.pk_words.specs.declared.view.View.{View}

-- The seat is the table's, and may change the word so, and be told so of the word that it found.
abbrev pub MayStep : {S : Type 0} → (TableState S View → Type 0) → TableId → Seat S View → (word : ℕ)
    → (change : ℕ → ℕ) → (told : ℕ → Me S View → Type 0) → Type 0
MayStep holds table seat word change told =
    (seat.table_id ≡ table) × (word < table.words)
    × Allows holds table.slots seat.id seat.me word change told

-- It is the same seat, which was told.
abbrev pub HasStepped : {S : Type 0} → (old new : Seat S View) → (told : Me S View → Type 0) → Type 0
HasStepped old new told = (new.table_id ≡ old.table_id) × (new.id ≡ old.id) × told new.me
