-- The walk of calls: depth first, each function's calls in order, each function entered once.
use Rattle.std.specs.Prelude.{ℕ, ◌==◌, List, [], ◌∷◌, map, reverse, if◌then◌else◌}
use Rattle.std.specs.List.{Contains}
use Rattle.pk_ctypes.specs.declared.places.Pos.{Pos}
use Rattle.pk_typed.specs.declared.units.CallSite.{CallSite}
use Rattle.pk_typed.specs.Trees.{UnitTree}
use Rattle.pk_calls.specs.Calls.{HasBody, name_of, calls_of}

-- the functions entered so far, the names of a cycle of calls, or a call of a function without a body
pub data Outcome : Type 0 where
  walked : List ℕ → Outcome
  recursion : List (List ℕ) → Outcome
  undefined : List ℕ → Pos → Outcome

abbrev pub IsRefusal : Outcome → Type 0
IsRefusal (walked seen) = ⊥
IsRefusal (recursion names) = Unit {0}
IsRefusal (undefined name at) = Unit {0}

-- a path of functions, the last first, back to f
abbrev pub back_to : ℕ → List ℕ → List ℕ
back_to f [] = []
back_to f (g ∷ path) = if g == f then g ∷ [] else g ∷ back_to f path

-- the names from f on the path to f itself
abbrev pub cycle_of : UnitTree → ℕ → List ℕ → List (List ℕ)
cycle_of u f path = reverse (map (name_of u) (f ∷ back_to f path))

-- With a path of functions, the last first, and the functions entered so far, to walk these calls of the last one comes to the outcome.
pub data Walks (u : UnitTree) : List ℕ → List ℕ → List CallSite → Outcome → Type 0 where
  at_end : {path seen : List ℕ} → Walks u path seen [] (walked seen)
  -- of a function on the path
  recursive : {path seen : List ℕ} {call : CallSite} {rest : List CallSite} → HasBody u call.function →
      Contains path call.function
      → Walks u path seen (call ∷ rest) (recursion (cycle_of u call.function path))
  -- of a function without a body
  bodiless : {path seen : List ℕ} {call : CallSite} {rest : List CallSite} → (HasBody u call.function → ⊥)
      → Walks u path seen (call ∷ rest) (undefined (name_of u call.function) call.at)
  -- of a function that was entered and left
  left : {path seen : List ℕ} {call : CallSite} {rest : List CallSite} {o : Outcome} → HasBody u call.function →
      (Contains path call.function → ⊥) → Contains seen call.function
      → Walks u path seen rest o → Walks u path seen (call ∷ rest) o
  -- of a function that is entered now
  entered : {path seen after : List ℕ} {call : CallSite} {rest : List CallSite} {o : Outcome} →
      HasBody u call.function → (Contains path call.function → ⊥) → (Contains seen call.function → ⊥)
      → Walks u (call.function ∷ path) (call.function ∷ seen) (calls_of u call.function) (walked after)
      → Walks u path after rest o → Walks u path seen (call ∷ rest) o
  -- of a function whose walk is refused
  refused : {path seen : List ℕ} {call : CallSite} {rest : List CallSite} {o : Outcome} → HasBody u call.function →
      (Contains path call.function → ⊥) → (Contains seen call.function → ⊥)
      → Walks u (call.function ∷ path) (call.function ∷ seen) (calls_of u call.function) o → IsRefusal o
      → Walks u path seen (call ∷ rest) o

-- the walk from the entry
abbrev pub WalksFrom : UnitTree → ℕ → Outcome → Type 0
WalksFrom u entry = Walks u (entry ∷ []) (entry ∷ []) (calls_of u entry)
