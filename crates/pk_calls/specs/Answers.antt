-- What a unit and the name of an entry are answered.
use Rattle.std.specs.Prelude.{◌≡◌, ℕ, ◌<◌, ◌≤◌, List, length, Result, Ok, Err}
use Rattle.pk_ctypes.specs.declared.words.Quantity.{Quantity}
use Rattle.pk_ctypes.specs.declared.words.Quantity.TheVariants as quantity
use Rattle.pk_typed.specs.Trees.{UnitTree}
use Rattle.pk_calls.specs.declared.listings.CallPath.{CallPath}
use Rattle.pk_calls.specs.declared.failures.CallError.{CallError}
use Rattle.pk_calls.specs.declared.failures.CallError.TheVariants as error
use Rattle.pk_calls.specs.declared.walk.Counts.{Counts}
use Rattle.pk_calls.specs.Calls.{IsNamed, IsEntry}
use Rattle.pk_calls.specs.Walk.{Outcome, walked, recursion, undefined, WalksFrom}
use Rattle.pk_calls.specs.Forests.{IsCounted}
use Rattle.pk_calls.specs.Paths.{IsListing, variables_of}

-- the walk from the entry is refused
pub record IsRefused (u : UnitTree) (name : List ℕ) (why : Outcome) : Type 0 where
  pub entry : ℕ
  pub is_entry : IsEntry u name entry
  pub walks : WalksFrom u entry why

-- the walk from the entry isn't refused, and these are its call paths
pub record HasPaths (u : UnitTree) (name : List ℕ) (paths : List CallPath) : Type 0 where
  pub entry : ℕ
  pub is_entry : IsEntry u name entry
  pub seen : List ℕ
  pub walks : WalksFrom u entry (walked seen)
  pub is_listing : IsListing u entry paths

-- the most call paths, and the most variables over all of them
abbrev pub path_limit : ℕ
path_limit = 4096

abbrev pub variable_limit : ℕ
variable_limit = 65536

-- these call paths pass the limit of a number; that of paths is looked at first
abbrev pub Passes : UnitTree → List CallPath → Quantity → ℕ → Type 0
Passes u paths quantity.Paths n = (n ≡ path_limit) × (path_limit < length paths)
Passes u paths quantity.Variables n =
    (n ≡ variable_limit) × (length paths ≤ path_limit) × (variable_limit < variables_of u paths)
Passes u paths what n = ⊥

-- The answer: all call paths where they are within the limits, or why not. Want of memory is no answer about the unit.
abbrev pub IsAnswer : UnitTree → List ℕ → Result (List CallPath) CallError → Type 0
IsAnswer u name (Ok paths) =
    HasPaths u name paths × (length paths ≤ path_limit) × (variables_of u paths ≤ variable_limit)
IsAnswer u name (Err (error.NoEntry n)) = (n ≡ name) × ((f : ℕ) → IsNamed u name f → ⊥)
IsAnswer u name (Err (error.Recursion cycle)) = IsRefused u name (recursion cycle)
IsAnswer u name (Err (error.UndefinedCall f at)) = IsRefused u name (undefined f at)
IsAnswer u name (Err (error.Limit what n)) = (paths : List CallPath) × HasPaths u name paths × Passes u paths what n
IsAnswer u name (Err error.Memory) = Unit {0}

-- what a walk from an entry is answered: the counts of its calls, or a refusal
abbrev pub IsWalk : UnitTree → ℕ → Result Counts CallError → Type 0
IsWalk u entry (Ok counts) =
    ((seen : List ℕ) × WalksFrom u entry (walked seen)) × IsCounted u entry counts.paths counts.variables
IsWalk u entry (Err (error.NoEntry n)) = ⊥
IsWalk u entry (Err (error.Recursion cycle)) = WalksFrom u entry (recursion cycle)
IsWalk u entry (Err (error.UndefinedCall f at)) = WalksFrom u entry (undefined f at)
IsWalk u entry (Err (error.Limit what n)) = ⊥
IsWalk u entry (Err error.Memory) = Unit {0}
