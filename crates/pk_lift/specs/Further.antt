-- A further rule, on the slots of a table that are at home.
use Rattle.std.specs.Prelude.{◌≡◌, ℕ, List, [], ◌∷◌}
use mathlib.Core.Option.{some}
use lib.ListN.{get_elem?}
use Rattle.atomic_table.specs.Table.{State}

-- what is right in a slot, by the words of the table
abbrev pub Right : Type 0 → Type 1
Right S = List ℕ → ℕ → S → Type 0

pub record Further {S V : Type 0} (right : Right S) (s : State S V) : Type 0 where
  pub homes : (k : ℕ) (x : S) → get_elem? s.homes k ≡ some (some x) → right s.words k x

-- the table keeps the rule, and the further one
abbrev pub Both : {S V : Type 0} → (State S V → Type 0) → Right S → State S V → Type 0
Both holds right s = holds s × Further right s

-- so for each slot that is carried
abbrev pub AllRight : {S : Type 0} → (ℕ → S → Type 0) → List (ℕ × S) → Type 0
AllRight right [] = Unit {0}
AllRight right (x ∷ xs) = right x.0 x.1 × AllRight right xs
