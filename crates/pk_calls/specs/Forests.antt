-- The calls below calls.
use Rattle.std.specs.Prelude.{◌≡◌, ℕ, ◌+◌, ◌-◌, ◌^◌, List, [], ◌∷◌}
use Rattle.std.specs.Prelude.{min}
use Rattle.pk_typed.specs.Trees.{UnitTree}
use Rattle.pk_calls.specs.Calls.{callees, locals_of}

-- a call of a function, with the calls below it, and the calls after it
pub data Forest : Type 0 where
  none : Forest
  call : ℕ → Forest → Forest → Forest

-- the calls of these functions, each with all calls below it
abbrev pub IsForest : UnitTree → List ℕ → Forest → Type 0
IsForest u [] none = Unit {0}
IsForest u (f ∷ rest) none = ⊥
IsForest u [] (call g below after) = ⊥
IsForest u (f ∷ rest) (call g below after) = (f ≡ g) × IsForest u (callees u f) below × IsForest u rest after

-- how many calls there are
abbrev pub calls_in : Forest → ℕ
calls_in none = 0
calls_in (call f below after) = 1 + calls_in below + calls_in after

-- the objects of each call's function, and one result for each call
abbrev pub variables_in : UnitTree → Forest → ℕ
variables_in u none = 0
variables_in u (call f below after) = locals_of u f + 1 + variables_in u below + variables_in u after

-- as a count that stands still at its end
abbrev pub capped : ℕ → ℕ
capped n = min n (2 ^ 64 - 1)

-- The capped counts of a call of f alone, with all calls below it.
pub record IsCounted (u : UnitTree) (f : ℕ) (paths variables : ℕ) : Type 0 where
  pub below : Forest
  pub is_forest : IsForest u (callees u f) below
  pub paths_is : paths ≡ capped (1 + calls_in below)
  pub variables_is : variables ≡ capped (locals_of u f + 1 + variables_in u below)
