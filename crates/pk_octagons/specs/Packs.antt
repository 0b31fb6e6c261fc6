-- The lists of variables that octagons are over.
use Rattle.std.specs.Prelude.{◌≡◌, ℕ, suc, ◌+◌, ◌*◌, ◌/◌, ◌%◌, ◌<◌, ◌^◌, ◌==◌, if◌then◌else◌, Bool, true, false, ◌||◌, ◌&&◌, List, [], ◌∷◌, All, length, slice_index_or, Option, Some, None, is_some, option_map}
use Rattle.pk_octagons.specs.declared.packs.Place.{Place}

-- the variable of a place
abbrev pub chosen_at : List ℕ → ℕ → ℕ
chosen_at chosen k = slice_index_or chosen k 0

-- the place of a variable
abbrev pub place_in : List ℕ → ℕ → Option ℕ
place_in [] x = None
place_in (y ∷ ys) x = if y == x then Some 0 else option_map suc (place_in ys x)

-- the variables of a pack are among the first n, each once, and their places are counted in 32 bits
pub record IsPack (n : ℕ) (chosen : List ℕ) : Type 0 where
  pub few : length chosen < 2 ^ 31
  pub there : (k : ℕ) → k < length chosen → chosen_at chosen k < n
  pub once : (j k : ℕ) → j < length chosen → k < length chosen → chosen_at chosen j ≡ chosen_at chosen k → j ≡ k

abbrev pub pack_at : List (List ℕ) → ℕ → List ℕ
pack_at packs p = slice_index_or packs p []

abbrev pub ArePacks : ℕ → List (List ℕ) → Type 0
ArePacks n packs = All (IsPack n) packs

-- whether one of the packs has a variable
abbrev pub is_chosen : List (List ℕ) → ℕ → Bool
is_chosen [] x = false
is_chosen (chosen ∷ packs) x = is_some (place_in chosen x) || is_chosen packs x

-- whether a pack has each of these variables
abbrev pub is_over : List ℕ → List ℕ → Bool
is_over [] chosen = true
is_over (x ∷ over) chosen = is_some (place_in chosen x) && is_over over chosen

-- whether one of the packs does
abbrev pub is_some_over : List ℕ → List (List ℕ) → Bool
is_some_over over [] = false
is_some_over over (chosen ∷ packs) = is_over over chosen || is_some_over over packs

-- a place in pack p, before others
abbrev pub with_place : ℕ → Option ℕ → List Place → List Place
with_place p None places = places
with_place p (Some k) places = record { pack = p; place = k } ∷ places

-- the places of a variable in packs that are numbered from p on
abbrev pub places_from : ℕ → List (List ℕ) → ℕ → List Place
places_from p [] x = []
places_from p (chosen ∷ packs) x = with_place p (place_in chosen x) (places_from (p + 1) packs x)

-- its places in all packs
abbrev pub places_of : List (List ℕ) → ℕ → List Place
places_of packs x = places_from 0 packs x

-- a place that variable x has in its pack
pub record IsPlaceOf (packs : List (List ℕ)) (x : ℕ) (p : Place) : Type 0 where
  pub there : p.pack < length packs
  pub is : place_in (pack_at packs p.pack) x ≡ Some p.place
  pub few : p.place < 2 ^ 31

-- the place in an octagon of V(t), where t's variable has place k
abbrev pub side_of : ℕ → ℕ → ℕ
side_of t k = 2 * k + t % 2

-- The place in an octagon of V(t): V(2x) is variable x, V(2x + 1) its negative, and so are V(2k) and V(2k + 1) in an octagon of which it is variable k.
abbrev pub side_in : List ℕ → ℕ → Option ℕ
side_in chosen t = option_map (side_of t) (place_in chosen (t / 2))

-- that, in a pack that has each of these variables
abbrev pub side_over : List ℕ → List ℕ → ℕ → Option ℕ
side_over over chosen t = if is_over over chosen then side_in chosen t else None
