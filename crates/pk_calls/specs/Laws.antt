-- What follows from the definitions alone.
use Rattle.std.specs.Prelude.{◌≡◌, ◌≢◌, ℕ, ◌<◌, List, ◌∷◌, length, Result, Err, Some, slice_get, AllPairs}
use Rattle.std.specs.List.{Contains}
use Rattle.pk_ctypes.specs.declared.places.Pos.{Pos}
use Rattle.pk_typed.specs.declared.units.CallSite.{CallSite}
use Rattle.pk_typed.specs.Trees.{UnitTree}
use Rattle.pk_calls.specs.declared.listings.CallPath.{CallPath}
use Rattle.pk_calls.specs.declared.failures.CallError.{CallError}
use Rattle.pk_calls.specs.declared.failures.CallError.TheVariants.{Memory}
use Rattle.pk_calls.specs.Calls.{HasBody, calls_of, name_of}
use Rattle.pk_calls.specs.Walk.{walked, recursion, undefined, cycle_of, WalksFrom}
use Rattle.pk_calls.specs.Paths.{IsListing, LeadsTo}
use Rattle.pk_calls.specs.CallPaths.{IsCallPath, StandsFor}
use Rattle.pk_calls.specs.Answers.{IsAnswer}

-- a unit and a name have at most one answer, want of memory aside
abbrev pub AnswerIsDetermined : Type 0
AnswerIsDetermined =
    (u : UnitTree) (name : List ℕ) (a b : Result (List CallPath) CallError) → a ≢ Err Memory → b ≢ Err Memory →
    IsAnswer u name a → IsAnswer u name b → a ≡ b

-- where the walk isn't refused no call path has a function twice
abbrev pub NoFunctionTwice : Type 0
NoFunctionTwice =
    (u : UnitTree) (entry : ℕ) (seen functions calls : List ℕ) → WalksFrom u entry (walked seen) →
    IsCallPath u entry functions calls → AllPairs (λ f g. f ≢ g) functions

-- These paths are the call paths, each once, and each call of a path's function leads on to one.
pub record AreCallPaths (u : UnitTree) (entry : ℕ) (paths : List CallPath) : Type 0 where
  pub each_is_one : (number : ℕ) → number < length paths →
      (functions calls : List ℕ) × StandsFor paths number functions calls × IsCallPath u entry functions calls
  pub all_are_there : (functions calls : List ℕ) → IsCallPath u entry functions calls →
      (number : ℕ) × StandsFor paths number functions calls
  pub none_is_twice : (m n : ℕ) (functions others calls : List ℕ) → StandsFor paths m functions calls →
      StandsFor paths n others calls → m ≡ n
  pub calls_lead_on : (number k : ℕ) (path : CallPath) (call : CallSite) → slice_get paths number ≡ Some path →
      slice_get (calls_of u path.function) k ≡ Some call → (to : ℕ) × LeadsTo paths number k to

-- where the walk isn't refused there is a listing, of all call paths
pub record PathsAreAll : Type 0 where
  pub listing : (u : UnitTree) (entry : ℕ) (seen : List ℕ) → WalksFrom u entry (walked seen) →
      (paths : List CallPath) × IsListing u entry paths
  pub all : (u : UnitTree) (entry : ℕ) (seen : List ℕ) (paths : List CallPath) → WalksFrom u entry (walked seen) →
      IsListing u entry paths → AreCallPaths u entry paths

-- Some call path ends with a function that it has before, and these are the names from that function to itself.
pub record MeetsRecursion (u : UnitTree) (entry : ℕ) (names : List (List ℕ)) : Type 0 where
  pub function : ℕ
  pub functions : List ℕ
  pub calls : List ℕ
  pub is_call_path : IsCallPath u entry (function ∷ functions) calls
  pub is_there : Contains functions function
  pub names_are : names ≡ cycle_of u function functions

-- The last function of some call path has a call of a function without a body, of this name, at this place.
pub record MeetsBodiless (u : UnitTree) (entry : ℕ) (name : List ℕ) (at : Pos) : Type 0 where
  pub caller : ℕ
  pub functions : List ℕ
  pub calls : List ℕ
  pub is_call_path : IsCallPath u entry (caller ∷ functions) calls
  pub k : ℕ
  pub call : CallSite
  pub is_call : slice_get (calls_of u caller) k ≡ Some call
  pub has_none : HasBody u call.function → ⊥
  pub name_is : name ≡ name_of u call.function
  pub place_is : at ≡ call.at

-- what the walk is refused for is met by a call path
pub record RefusalsAreMet : Type 0 where
  pub recursions : (u : UnitTree) (entry : ℕ) (names : List (List ℕ)) → WalksFrom u entry (recursion names) →
      MeetsRecursion u entry names
  pub bodiless : (u : UnitTree) (entry : ℕ) (name : List ℕ) (at : Pos) → WalksFrom u entry (undefined name at) →
      MeetsBodiless u entry name at
