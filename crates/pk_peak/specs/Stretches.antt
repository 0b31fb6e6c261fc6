-- Stretches of places, and how many of them cover a place.
use Rattle.std.specs.Prelude.{◌≡◌, ℕ, ◌<◌, ◌==◌, ◌&&◌, Bool, List, length, map, fold, max, count_by, nat_le, slice_index}
use Rattle.std.specs.List.{range_with_len}
use Rattle.pk_peak.specs.declared.stretches.Stretch.{Stretch}

abbrev pub covers : ℕ → Stretch → Bool
covers place stretch = nat_le stretch.from place && nat_le place stretch.to

abbrev pub covering : List Stretch → ℕ → ℕ
covering stretches place = count_by (covers place) stretches

-- how many begin at each of so many places, and how many end there
pub record AreEnds (stretches : List Stretch) (places : ℕ) (first last : List ℕ) : Type 0 where
  pub long_first : length first ≡ places
  pub long_last : length last ≡ places
  pub begins : (j : ℕ) → j < places → slice_index first j ≡ count_by (λ s. s.from == j) stretches
  pub ends : (j : ℕ) → j < places → slice_index last j ≡ count_by (λ s. s.to == j) stretches

-- the most that cover one of so many places
abbrev pub most_covering_of : List Stretch → ℕ → ℕ
most_covering_of stretches places = fold max 0 (map (covering stretches) (range_with_len 0 places))
