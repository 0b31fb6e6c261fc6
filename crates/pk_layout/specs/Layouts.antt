-- The slots of a board: each element has one for its own cell, and one more for each read of that cell.
use Rattle.std.specs.Prelude.{◌≡◌, ◌≢◌, ℕ, ◌+◌, ◌<◌, ◌≤◌, ◌⊎◌, List, length, Some, slice_get, slice_index, Contains}
use Rattle.pk_iterate.specs.Behaviour.{Behaviour}
use Rattle.pk_layout.specs.Gathered.{owners_in, written}

pub record LayoutView : Type 0 where
  -- where each element's slots begin, and where those of the last one end
  pub first : List ℕ
  -- whose cell each slot holds, and which element reads it there
  pub owners : List ℕ
  pub readers : List ℕ
  -- the slots of what the elements read, one element after another; where each element's begin, and where those of the last one end
  pub inputs : List ℕ
  pub inputs_from : List ℕ

-- What the slots of the elements and of the reads say. A slot belongs to the element in whose stretch it lies, and is read by its owner; that of a read
-- is read by the element in whose stretch of reads that read lies.
abbrev pub laid : (first inputs inputs_from : List ℕ) → LayoutView
laid first inputs inputs_from = record {
  first = first;
  owners = owners_in first;
  readers = written (owners_in first) inputs (owners_in inputs_from) (length inputs);
  inputs = inputs;
  inputs_from = inputs_from;
}

abbrev pub slots_of : LayoutView → ℕ
slots_of l = length l.owners

-- the first slot of an element
abbrev pub first_of : LayoutView → ℕ → ℕ
first_of l e = slice_index l.first e

abbrev pub owner_of : LayoutView → ℕ → ℕ
owner_of l k = slice_index l.owners k

abbrev pub reader_of : LayoutView → ℕ → ℕ
reader_of l k = slice_index l.readers k

-- the slot of the cell that e reads at a place
abbrev pub input_of : LayoutView → (e place : ℕ) → ℕ
input_of l e place = slice_index l.inputs (slice_index l.inputs_from e + place)

-- k is a slot of the cell that e reads at a place, and e reads it there
abbrev pub IsInputSlot : {C : Type 0} → Behaviour C → LayoutView → (e place k : ℕ) → Type 0
IsInputSlot b l e place k = (k < slots_of l) × (slice_get (b.reads e) place ≡ Some (owner_of l k)) × (reader_of l k ≡ e)

-- The slots of so many elements.
pub record IsLaidOut {C : Type 0} (b : Behaviour C) (elements : ℕ) (l : LayoutView) : Type 0 where
  pub long : length l.first ≡ elements + 1
  pub as_many : length l.readers ≡ slots_of l
  -- those of an element stand together, and there is one at least
  pub begins : first_of l 0 ≡ 0
  pub rises : (e : ℕ) → e < elements → first_of l e < first_of l (e + 1)
  pub ends : first_of l elements ≡ slots_of l
  pub together : (e k : ℕ) → e < elements → first_of l e ≤ k → k < first_of l (e + 1)
      → (k < slots_of l) × (owner_of l k ≡ e)
  pub no_more : (e k : ℕ) → e < elements → k < slots_of l → owner_of l k ≡ e
      → (first_of l e ≤ k) × (k < first_of l (e + 1))
  -- owners and readers are elements; a slot is read by its owner, or by an element that reads the owner's cell
  pub owned : (k : ℕ) → k < slots_of l → owner_of l k < elements
  pub read : (k : ℕ) → k < slots_of l → reader_of l k < elements
  pub reads : (k : ℕ) → k < slots_of l
      → (reader_of l k ≡ owner_of l k) ⊎ Contains (b.reads (reader_of l k)) (owner_of l k)
  -- an element's inputs stand together, as many as it reads, each with its slot
  pub long_inputs : length l.inputs_from ≡ elements + 1
  pub within : (e : ℕ) → e < elements → slice_index l.inputs_from e + length (b.reads e) ≤ length l.inputs
  pub inputs : (e place : ℕ) → e < elements → place < length (b.reads e) → IsInputSlot b l e place (input_of l e place)
  -- there are no slots but each element's first, and those of what it reads
  pub no_other : (k : ℕ) → k < slots_of l
      → ((k ≡ first_of l (reader_of l k)) × (owner_of l k ≡ reader_of l k))
      ⊎ ((place : ℕ) × (place < length (b.reads (reader_of l k))) × (k ≡ input_of l (reader_of l k) place))
  -- and no two of these are one
  pub apart : (e i j : ℕ) → e < elements → i < j → j < length (b.reads e) → input_of l e i ≢ input_of l e j
  pub further : (e place u : ℕ) → e < elements → place < length (b.reads e) → u < elements
      → input_of l e place ≢ first_of l u
