-- Forests of calls.
use Rattle.std.proofs.Common.{◌≡◌, ℕ, ◌+◌, ◌-◌, ◌^◌, List, [], ◌∷◌, ◌++◌, arith, refl, sym, ◌∙◌, ap}
use Rattle.std.specs.Prelude.{min}
use Rattle.pk_typed.specs.Trees.{UnitTree}
use Rattle.pk_calls.specs.Calls.{callees}
use Rattle.pk_calls.specs.Forests.{Forest, none, call, IsForest, calls_in, variables_in, capped}

-- the calls of one, and after them those of another
abbrev pub joined : Forest → Forest → Forest
joined none t = t
joined (call f below after) t = call f below (joined after t)

pub forest_joined : (u : UnitTree) (fs gs : List ℕ) (s t : Forest) → IsForest u fs s → IsForest u gs t → IsForest u (fs ++ gs) (joined s t)
forest_joined u [] gs none t h k = k
forest_joined u (f ∷ fs) gs none t h k = absurd h
forest_joined u [] gs (call g below after) t h k = absurd h
forest_joined u (f ∷ fs) gs (call g below after) t h k = (h.0, h.1, forest_joined u fs gs after t h.2 k)

pub calls_in-joined : (s t : Forest) → calls_in (joined s t) ≡ calls_in s + calls_in t
calls_in-joined none t = omega arith
calls_in-joined (call f below after) t =
    let e : calls_in (joined after t) ≡ calls_in after + calls_in t = calls_in-joined after t in omega arith

pub variables_in-joined : (u : UnitTree) (s t : Forest) → variables_in u (joined s t) ≡ variables_in u s + variables_in u t
variables_in-joined u none t = omega arith
variables_in-joined u (call f below after) t =
    let e : variables_in u (joined after t) ≡ variables_in u after + variables_in u t = variables_in-joined u after t in omega arith

-- a forest of one function more
pub forest_pushed : (u : UnitTree) (fs : List ℕ) (g : ℕ) (s below : Forest) → IsForest u fs s → IsForest u (callees u g) below → IsForest u (fs ++ g ∷ []) (joined s (call g below none))
forest_pushed u fs g s below h k = forest_joined u fs (g ∷ []) s (call g below none) h (refl, k, tt)

pub min_added : (x y top : ℕ) → min (min x top + min y top) top ≡ min (x + y) top
min_added x y top = omega arith

pub capped_added : (a b x y : ℕ) → a ≡ capped x → b ≡ capped y → capped (a + b) ≡ capped (x + y)
capped_added a b x y p q = ap (λ (k : ℕ). capped (k + b)) p ∙ ap (λ (k : ℕ). capped (capped x + k)) q ∙ min_added x y (2 ^ 64 - 1)

-- Functions have one forest at most.
pub forest_determined : (u : UnitTree) (fs : List ℕ) (s t : Forest) → IsForest u fs s → IsForest u fs t → s ≡ t
forest_determined u [] none none h k = refl
forest_determined u [] none (call g below after) h k = absurd k
forest_determined u [] (call g below after) t h k = absurd h
forest_determined u (f ∷ fs) none t h k = absurd h
forest_determined u (f ∷ fs) (call g below after) none h k = absurd k
forest_determined u (f ∷ fs) (call g below after) (call g' below' after') h k =
    let same : g ≡ g' = sym h.0 ∙ k.0 in
    let first : below ≡ below' = forest_determined u (callees u f) below below' h.1 k.1 in
    let rest : after ≡ after' = forest_determined u fs after after' h.2 k.2 in
    cc
