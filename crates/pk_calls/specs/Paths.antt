-- Call paths by number.
use Rattle.std.specs.Prelude.{◌≡◌, ℕ, ◌+◌, ◌<◌, List, [], ◌∷◌, ◌++◌, length, map, sum, Some, None, slice_get, slice_index}
use Rattle.std.specs.Option.{option_and_then}
use Rattle.pk_typed.specs.declared.units.CallSite.{CallSite}
use Rattle.pk_typed.specs.Trees.{UnitTree}
use Rattle.pk_calls.specs.declared.listings.CallPath.{CallPath}
use Rattle.pk_calls.specs.Calls.{calls_of, locals_of}

-- the entry alone
abbrev pub entry_path : ℕ → CallPath
entry_path f = record { function = f; caller = None }

-- the path with a number and one call of its function
abbrev pub path_by : ℕ → ℕ → ℕ → CallPath
path_by path call f = record { function = f; caller = Some (record { path = path; call = call }) }

-- the paths by these calls, numbered from `number` on, of the function of a path
abbrev pub paths_by : ℕ → ℕ → List CallSite → List CallPath
paths_by path number [] = []
paths_by path number (c ∷ rest) = path_by path number c.function ∷ paths_by path (number + 1) rest

-- the paths with one call more than these, which are numbered from `number` on
abbrev pub longer : UnitTree → ℕ → List CallPath → List CallPath
longer u number [] = []
longer u number (p ∷ rest) = paths_by number 0 (calls_of u p.function) ++ longer u (number + 1) rest

-- the path with number `to` is that with number `from` and its function's call with number `call`
abbrev pub LeadsTo : List CallPath → ℕ → ℕ → ℕ → Type 0
LeadsTo paths from call to =
    option_and_then (λ (p : CallPath). p.caller) (slice_get paths to) ≡ Some (record { path = from; call = call })

-- All call paths: the entry, and then each listed path with each call of its function, in order. A path stands behind the one that leads to it.
pub record IsListing (u : UnitTree) (entry : ℕ) (paths : List CallPath) : Type 0 where
  pub in_order : paths ≡ entry_path entry ∷ longer u 0 paths
  pub behind : (from call to : ℕ) → LeadsTo paths from call to → from < to

-- objects and parameters over all call paths, one result for each, and the file's objects once
abbrev pub variables_of : UnitTree → List CallPath → ℕ
variables_of u paths = length u.objects + sum (map (λ (p : CallPath). locals_of u p.function + 1) paths)

-- each path's calls lead to paths in a row
abbrev pub AreFirsts : List CallPath → List ℕ → Type 0
AreFirsts paths firsts =
    (from call to : ℕ) → LeadsTo paths from call to → (from < length firsts) × (to ≡ slice_index firsts from + call)
