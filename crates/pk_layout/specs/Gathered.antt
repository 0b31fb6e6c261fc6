-- Lists of the elements, one after another.
use Rattle.std.specs.Prelude.{◌≡◌, ℕ, zero, suc, ◌+◌, ◌-◌, ◌<◌, ◌≤◌, ◌==◌, List, [], ◌++◌, length, take, set, count_by, replicate, slice_index}

-- the lists of the elements below n
abbrev pub gathered : (ℕ → List ℕ) → ℕ → List ℕ
gathered lists zero = []
gathered lists (suc n) = gathered lists n ++ lists n

-- where each element's list begins, and where the last one ends
pub record AreStarts (lists : ℕ → List ℕ) (elements : ℕ) (from : List ℕ) : Type 0 where
  pub long : length from ≡ elements + 1
  pub each : (e : ℕ) → e ≤ elements → slice_index from e ≡ length (gathered lists e)

-- an element as often as its stretch is long
abbrev pub stretch : List ℕ → ℕ → List ℕ
stretch from e = replicate (slice_index from (e + 1) - slice_index from e) e

-- whose stretch each place lies in
abbrev pub owners_in : List ℕ → List ℕ
owners_in from = gathered (stretch from) (length from - 1)

-- an element once, and once more for each time that it is read
abbrev pub owned_by : List ℕ → ℕ → List ℕ
owned_by counts e = replicate (slice_index counts e + 1) e

-- how often e stands in a list
abbrev pub times : ℕ → List ℕ → ℕ
times e xs = count_by (λ x. x == e) xs

-- the slot of the j-th read: the element that is read has its first slot for itself, and the further ones for its reads in turn
abbrev pub slot_of_read : List ℕ → List ℕ → ℕ → ℕ
slot_of_read first targets j = slice_index first (slice_index targets j)
    + times (slice_index targets j) (take (j + 1) targets)

-- each of the first n reads has its slot
pub record AreGiven (first targets : List ℕ) (n : ℕ) (slots : List ℕ) : Type 0 where
  pub long : length slots ≡ n
  pub each : (j : ℕ) → j < n → slice_index slots j ≡ slot_of_read first targets j

-- a list where the j-th of these values was written at the j-th of these places, for each j below n in turn
abbrev pub written : (old places values : List ℕ) → ℕ → List ℕ
written old places values zero = old
written old places values (suc n) = set (written old places values n) (slice_index places n) (slice_index values n)
