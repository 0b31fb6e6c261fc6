-- Call paths as functions and calls, without numbers, and as the numbers of a listing.
use Rattle.std.specs.Prelude.{◌≡◌, ℕ, List, [], ◌∷◌, Some, slice_get}
use Rattle.pk_typed.specs.declared.units.CallSite.{CallSite}
use Rattle.pk_typed.specs.Trees.{UnitTree}
use Rattle.pk_calls.specs.declared.listings.CallPath.{CallPath}
use Rattle.pk_calls.specs.Calls.{HasBody, calls_of}
use Rattle.pk_calls.specs.Paths.{entry_path, path_by}

-- A call path, by its functions and the calls between them, the last first: the entry, or a call path with one call of a function with a body in the text of its last function.
pub data IsCallPath (u : UnitTree) (entry : ℕ) : List ℕ → List ℕ → Type 0 where
  alone : IsCallPath u entry (entry ∷ []) []
  with_call : {caller : ℕ} {functions calls : List ℕ} {k : ℕ} {call : CallSite} →
      IsCallPath u entry (caller ∷ functions) calls → slice_get (calls_of u caller) k ≡ Some call →
      HasBody u call.function
      → IsCallPath u entry (call.function ∷ caller ∷ functions) (k ∷ calls)

-- The path with a number is a call path with these functions and calls.
pub data StandsFor (paths : List CallPath) : ℕ → List ℕ → List ℕ → Type 0 where
  entry_alone : {number entry : ℕ} → slice_get paths number ≡ Some (entry_path entry) →
      StandsFor paths number (entry ∷ []) []
  called : {number caller : ℕ} {functions calls : List ℕ} {k f : ℕ} → StandsFor paths caller functions calls →
      slice_get paths number ≡ Some (path_by caller k f) → StandsFor paths number (f ∷ functions) (k ∷ calls)
