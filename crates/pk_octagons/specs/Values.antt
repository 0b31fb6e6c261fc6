-- What is known of each variable by itself.
use Rattle.std.specs.Prelude.{◌≡◌, ◌⊎◌, ℕ, ◌<◌, List, [], ◌∷◌, length, slice_index_or, ◌≤ℤ◌}
use Rattle.pk_ctypes.specs.declared.types.IntType.{IntType}
use Rattle.pk_ctypes.specs.declared.types.IntType.TheVariants.{Int}
use Rattle.pk_interval.specs.Ranges.{Range, IsIn}
use Rattle.pk_congr.specs.Classes.{IsReduced}
use Rattle.pk_value.specs.Known.{Known, any_of}
use Rattle.pk_value.specs.Laws.{IsTight}

abbrev pub type_at : List IntType → ℕ → IntType
type_at types x = slice_index_or types x Int

abbrev pub known_at : List Known → ℕ → Known
known_at vs x = slice_index_or vs x (any_of Int)

-- what may be known of a number of a type
pub record IsValue (t : IntType) (k : Known) : Type 0 where
  pub inside : IsIn t k.range
  pub some : k.range.lo ≤ℤ k.range.hi
  pub class : IsReduced k.class.m k.class.r

-- each range has a number and lies in its variable's type, and each class is reduced
pub record AreValues (types : List IntType) (vs : List Known) : Type 0 where
  pub size : length vs ≡ length types
  pub inside : (x : ℕ) → x < length vs → IsIn (type_at types x) (known_at vs x).range
  pub some : (x : ℕ) → x < length vs → (known_at vs x).range.lo ≤ℤ (known_at vs x).range.hi
  pub classes : (x : ℕ) → x < length vs → IsReduced (known_at vs x).class.m (known_at vs x).class.r

-- the range lies in a type
abbrev pub HasType : Range → Type 0
HasType r = (t : IntType) × IsIn t r

-- they are values of variables of some types
abbrev pub HaveTypes : List Known → Type 0
HaveTypes vs = (types : List IntType) × AreValues types vs

abbrev pub IsListed : List ℕ → ℕ → Type 0
IsListed [] y = ⊥
IsListed (x ∷ xs) y = (x ≡ y) ⊎ IsListed xs y

-- each value that isn't listed is tight
abbrev pub AreMarked : List Known → List ℕ → Type 0
AreMarked vs loose = (x : ℕ) → x < length vs → IsTight (known_at vs x) ⊎ IsListed loose x
