-- Listed paths whose calls lead to paths behind them.
use Rattle.std.specs.Prelude.{◌≡◌, ℕ, ◌+◌, List, [], ◌∷◌, Option, Some, None, ◌<◌, slice_index_or, slice_get, ◌⊎◌}
use Rattle.pk_typed.specs.Trees.{UnitTree}
use Rattle.pk_calls.specs.declared.listings.Caller.{Caller}
use Rattle.pk_calls.specs.declared.listings.CallPath.{CallPath}
use Rattle.pk_typed.specs.declared.units.CallSite.{CallSite}
use Rattle.pk_calls.specs.Calls.{HasBody, calls_of}
use Rattle.pk_calls.specs.Paths.{IsListing}
use Rattle.pk_calls.specs.Laws.{AreCallPaths}
use Rattle.pk_draft.specs.declared.drafts.Region.{Region}
use Rattle.pk_draft.specs.Drafts.{DraftOf}
use Rattle.pk_lower_row.specs.Contexts.{size_in}
use Rattle.pk_lower.specs.Parts.{body_at, context, part, measured, sizes_of}
use Rattle.pk_lower_laws.specs.Parts.Called.{AtItems}

-- some path is of function f
abbrev pub IsListed : List CallPath → ℕ → Type 0
IsListed [] f = ⊥
IsListed (p ∷ ps) f = (f ≡ p.function) ⊎ IsListed ps f

-- Each path is of a function with a body, and each call in the body's trees is of a function of a path behind it.
abbrev pub CallsLeadBehind : UnitTree → List CallPath → Type 0
CallsLeadBehind u [] = Unit {0}
CallsLeadBehind u (p ∷ ps) =
    HasBody u p.function × AtItems (λ f n. IsListed ps f) (body_at u p.function).items × CallsLeadBehind u ps

-- The size that is known of a listed function is the one that is measured with all sizes.
abbrev pub SizesAreMeasured : Type 0
SizesAreMeasured =
    (u : UnitTree) (paths : List CallPath) → CallsLeadBehind u paths → (f : ℕ) → IsListed paths f →
    slice_index_or (sizes_of u paths) f None ≡ Some (measured u (sizes_of u paths) f)

-- Where all parts are made with these sizes, that of a listed function ends where a call has its caller go on: its size behind its region's beginning.
pub record PartsFillRegions (V : Type 0) : Type 0 where
  pub points : (u : UnitTree) (paths : List CallPath) (k n f : ℕ) (from : Option Caller) (r : Region)
      (d : DraftOf V) → CallsLeadBehind u paths → IsListed paths f
      → (part (context u (sizes_of u paths) k n f) f from r d).points ≡ r.points + (size_in (sizes_of u paths) f).points
  pub variables : (u : UnitTree) (paths : List CallPath) (k n f : ℕ) (from : Option Caller) (r : Region)
      (d : DraftOf V) → CallsLeadBehind u paths → IsListed paths f
      → (part (context u (sizes_of u paths) k n f) f from r d).variables
      ≡ r.variables + (size_in (sizes_of u paths) f).variables

-- The path of function f with some number behind i.
abbrev pub IsBehind : List CallPath → (i f : ℕ) → Type 0
IsBehind paths i f = (j : ℕ) × (q : CallPath) × (i < j) × (slice_get paths j ≡ Some q) × (f ≡ q.function)

-- The same by paths' numbers.
abbrev pub LeadBehindByNumber : UnitTree → List CallPath → Type 0
LeadBehindByNumber u paths =
    (i : ℕ) (p : CallPath) → slice_get paths i ≡ Some p →
    HasBody u p.function × AtItems (λ f n. IsBehind paths i f) (body_at u p.function).items

abbrev pub NumbersTellBehind : Type 0
NumbersTellBehind = (u : UnitTree) (paths : List CallPath) → LeadBehindByNumber u paths → CallsLeadBehind u paths

-- call n of function f is a call of function g
abbrev pub IsCallOf : UnitTree → (f g n : ℕ) → Type 0
IsCallOf u f g n = (call : CallSite) × (slice_get (calls_of u f) n ≡ Some call) × (g ≡ call.function)

-- Calls in the trees of a body have their numbers among the calls that are noted of it.
abbrev pub CallsAreNoted : UnitTree → Type 0
CallsAreNoted u = (f : ℕ) → HasBody u f → AtItems (IsCallOf u f) (body_at u f).items

-- The call paths of a unit in a listing.
abbrev pub ListingsLeadBehind : Type 0
ListingsLeadBehind =
    (u : UnitTree) (entry : ℕ) (paths : List CallPath) → HasBody u entry → IsListing u entry paths →
    AreCallPaths u entry paths → CallsAreNoted u → CallsLeadBehind u paths
