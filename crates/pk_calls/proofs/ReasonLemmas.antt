-- What refuses the walk is met by a call path.
use Rattle.std.proofs.Common.{suc, ◌≡◌, ℕ, List, [], ◌∷◌, refl, ap, subst}
use Rattle.std.specs.Prelude.{Some, slice_get}
use Rattle.std.specs.List.{Contains}
use Rattle.pk_typed.specs.declared.units.CallSite.{CallSite}
use Rattle.pk_typed.specs.Trees.{UnitTree}
use Rattle.pk_calls.specs.Calls.{calls_of}
use Rattle.pk_calls.specs.Walk.{Outcome, walked, recursion, undefined, Walks, at_end, recursive, bodiless, left, entered, refused, cycle_of}
use Rattle.pk_calls.specs.CallPaths.{IsCallPath, alone, with_call}
use Rattle.pk_calls.specs.Laws.{MeetsRecursion, MeetsBodiless, RefusalsAreMet}

-- these are calls of the function
abbrev AreCallsOf : UnitTree → ℕ → List CallSite → Type 0
AreCallsOf u f cs = (c : CallSite) (i : ℕ) → slice_get cs i ≡ Some c → (k : ℕ) × (slice_get (calls_of u f) k ≡ Some c)

abbrev Reason : UnitTree → ℕ → Outcome → Type 0
Reason u entry (walked seen) = Unit {0}
Reason u entry (recursion names) = MeetsRecursion u entry names
Reason u entry (undefined name at) = MeetsBodiless u entry name at

reason : (u : UnitTree) (entry : ℕ) {path seen : List ℕ} {cs : List CallSite} {o : Outcome} → Walks u path seen cs o
    → (caller : ℕ) (functions calls : List ℕ) → path ≡ caller ∷ functions → IsCallPath u entry (caller ∷ functions) calls → AreCallsOf u caller cs → Reason u entry o
reason u entry at_end caller functions calls is p are = tt
reason u entry (recursive {call = c} b on) caller functions calls is p are =
    let at = are c 0 refl in
    record {
      function = c.function;
      functions = caller ∷ functions;
      calls = at.0 ∷ calls;
      is_call_path = with_call p at.1 b;
      is_there = subst (λ (path : List ℕ). Contains path c.function) is on;
      names_are = ap (cycle_of u c.function) is;
    }
reason u entry (bodiless {call = c} n) caller functions calls is p are =
    let at = are c 0 refl in
    record { caller = caller; functions = functions; calls = calls; is_call_path = p; k = at.0; call = c; is_call = at.1; has_none = n; name_is = refl; place_is = refl }
reason u entry (left b off known w) caller functions calls is p are = reason u entry w caller functions calls is p (λ c i e. are c (suc i) e)
reason u entry (entered b off new w v) caller functions calls is p are = reason u entry v caller functions calls is p (λ c i e. are c (suc i) e)
reason u entry (refused {call = c} b off new w r) caller functions calls is p are =
    let at = are c 0 refl in
    reason u entry w c.function (caller ∷ functions) (at.0 ∷ calls) (ap (λ (path : List ℕ). c.function ∷ path) is) (with_call p at.1 b) (λ d i e. (i, e))

pub refusals_are_met : RefusalsAreMet
refusals_are_met = record {
  recursions = λ u entry names w. reason u entry w entry [] [] refl alone (λ d i e. (i, e));
  bodiless = λ u entry name at w. reason u entry w entry [] [] refl alone (λ d i e. (i, e));
}
