-- Where the walk isn't refused, all calls end, and are of functions with bodies.
use Rattle.std.proofs.Common.{suc, zero, ⊎_elim, ◌≡◌, ◌≢◌, ◌<◌, ℕ, List, [], ◌∷◌, map, get_or, arith, refl, sym, ◌∙◌, ap, subst}
use Rattle.std.specs.Prelude.{Option, Some, None, unwrap_or, slice_get, AllPairs}
use Rattle.std.specs.List.{Contains}
use Rattle.std.proofs.lemmas.Bool.{cases_eq}
use Rattle.std.proofs.lemmas.List.{get_or_default}
use Rattle.pk_typed.specs.declared.units.CallSite.{CallSite}
use Rattle.pk_typed.specs.Trees.{UnitTree}
use Rattle.pk_calls.specs.Calls.{HasBody, calls_of, callees}
use Rattle.pk_calls.specs.Forests.{Forest, none, call, IsForest, calls_in}
use Rattle.pk_calls.specs.Walk.{Outcome, walked, recursion, undefined, IsRefusal, Walks, at_end, recursive, bodiless, left, entered, refused, WalksFrom}
use Rattle.pk_calls.specs.CallPaths.{IsCallPath, alone, with_call}
use Rattle.pk_calls.specs.Laws.{NoFunctionTwice}
use Rattle.pk_calls.proofs.ForestLemmas.{forest_determined}
use Rattle.pk_calls.proofs.Walking.{contains_none, contains_cases}

-- each call is of a function with a body
abbrev pub AllBodies : UnitTree → Forest → Type 0
AllBodies u none = Unit {0}
AllBodies u (call f below after) = HasBody u f × AllBodies u below × AllBodies u after

-- the calls of these functions, all with bodies
abbrev pub IsSound : UnitTree → List ℕ → Type 0
IsSound u fs = (t : Forest) × IsForest u fs t × AllBodies u t

abbrev functions_of : List CallSite → List ℕ
functions_of = map (λ (c : CallSite). c.function)

-- each function that was entered and left is sound
abbrev AllSound : UnitTree → List ℕ → List ℕ → Type 0
AllSound u path seen = (g : ℕ) → Contains seen g → (Contains path g → ⊥) → IsSound u (callees u g)

abbrev Gives : UnitTree → List ℕ → List CallSite → Outcome → Type 0
Gives u path calls (walked after) = IsSound u (functions_of calls) × AllSound u path after
Gives u path calls (recursion names) = Unit {0}
Gives u path calls (undefined name at) = Unit {0}

gives_refused : (u : UnitTree) (path : List ℕ) (calls : List CallSite) (o : Outcome) → IsRefusal o → Gives u path calls o
gives_refused u path calls (walked after) h = absurd h
gives_refused u path calls (recursion names) h = tt
gives_refused u path calls (undefined name at) h = tt

-- one sound call more
gives_more : (u : UnitTree) (path : List ℕ) (c : CallSite) (rest : List CallSite) (o : Outcome) → HasBody u c.function → IsSound u (callees u c.function) → Gives u path rest o → Gives u path (c ∷ rest) o
gives_more u path c rest (walked after) body s g = ((call c.function s.0 g.0.0, (refl, s.1, g.0.1), (body, s.2, g.0.2)), g.1)
gives_more u path c rest (recursion names) body s g = tt
gives_more u path c rest (undefined name at) body s g = tt

-- of a function that is entered, those on the path aside
sound_inside : (u : UnitTree) (path seen : List ℕ) (f : ℕ) → AllSound u path seen → AllSound u (f ∷ path) (f ∷ seen)
sound_inside u path seen f h = λ g in_seen off.
    ⊎_elim
    (λ (same : f ≡ g). absurd (off (0, omega arith, same)))
    (λ (before : Contains seen g). h g before (λ (on : Contains path g). let there : Contains (f ∷ path) g = (suc on.0, omega (arith, on.1), on.2) in off there))
    (contains_cases f g seen in_seen)

sound_outside : (u : UnitTree) (path after : List ℕ) (f : ℕ) → IsSound u (callees u f) → AllSound u (f ∷ path) after → AllSound u path after
sound_outside u path after f s h = λ g in_seen off.
    ⊎_elim
    (λ (same : f ≡ g). subst (λ (k : ℕ). IsSound u (callees u k)) same s)
    (λ (other : f ≡ g → ⊥). h g in_seen (λ (on : Contains (f ∷ path) g). ⊎_elim other off (contains_cases f g path on)))
    (cases_eq f g)

pub walks_sound : (u : UnitTree) {path seen : List ℕ} {calls : List CallSite} {o : Outcome} → Walks u path seen calls o → AllSound u path seen → Gives u path calls o
walks_sound u at_end h = ((none, tt, tt), h)
walks_sound u (recursive b on) h = tt
walks_sound u (bodiless n) h = tt
walks_sound u (left {path = path} {call = c} {rest = rest} {o = o} b off known w) h = gives_more u path c rest o b (h c.function known off) (walks_sound u w h)
walks_sound u (entered {path = path} {seen = seen} {after = after} {call = c} {rest = rest} {o = o} b off new w v) h =
    let inside = walks_sound u w (sound_inside u path seen c.function h) in
    gives_more u path c rest o b inside.0 (walks_sound u v (sound_outside u path after c.function inside.0 inside.1))
walks_sound u (refused {path = path} {call = c} {rest = rest} {o = o} b off new w r) h = gives_refused u path (c ∷ rest) o r

pub entry_sound : (u : UnitTree) (entry : ℕ) (seen : List ℕ) → WalksFrom u entry (walked seen) → IsSound u (callees u entry)
entry_sound u entry seen w = (walks_sound u w (λ g in_seen off. absurd (off in_seen))).0

none_site : (c : CallSite) → None ≡ Some c → ⊥
none_site c e = cc

-- a call's own calls are fewer
pub sound_call : (u : UnitTree) (cs : List CallSite) (k : ℕ) (c : CallSite) (t : Forest) → IsForest u (functions_of cs) t → AllBodies u t → slice_get cs k ≡ Some c
    → HasBody u c.function × ((s : Forest) × IsForest u (callees u c.function) s × AllBodies u s × (calls_in s < calls_in t))
sound_call u [] k c t h b e = absurd (none_site c e)
sound_call u (d ∷ cs) k c none h b e = absurd h
sound_call u (d ∷ cs) zero c (call g below after) h b e =
    let same : d ≡ c = ap (λ (o : Option CallSite). unwrap_or o d) e in
    let f : g ≡ c.function = sym h.0 ∙ ap (λ (x : CallSite). x.function) same in
    (subst (λ (n : ℕ). HasBody u n) f b.0, (below, subst (λ (x : CallSite). IsForest u (callees u x.function) below) same h.1, b.1, omega arith))
sound_call u (d ∷ cs) (suc k) c (call g below after) h b e =
    let r = sound_call u cs k c after h.2 b.2 e in
    (r.0, (r.1.0, r.1.1, r.1.2, omega (arith, r.1.3)))

-- these functions have more than so many calls below them
abbrev Above : UnitTree → ℕ → List ℕ → Type 0
Above u n fs = (g : ℕ) → Contains fs g → (t : Forest) × IsForest u (callees u g) t × (n < calls_in t)

not_above : (u : UnitTree) (f : ℕ) (fs : List ℕ) (below : Forest) → IsForest u (callees u f) below → Above u (calls_in below) fs → Contains fs f → ⊥
not_above u f fs below is above on =
    let a : (t : Forest) × IsForest u (callees u f) t × (calls_in below < calls_in t) = above f on in
    let same : calls_in below ≡ calls_in a.0 = ap {B = ℕ} calls_in (forest_determined u (callees u f) below a.0 is a.1) in absurd (omega (arith, a.2))

-- The last function of a call path is sound, and has fewer calls below it than the others, which are not it.
pub record IsDescent (u : UnitTree) (functions : List ℕ) : Type 0 where
  pub last : ℕ
  pub before : List ℕ
  pub is : functions ≡ last ∷ before
  pub below : Forest
  pub is_forest : IsForest u (callees u last) below
  pub bodies : AllBodies u below
  pub above : Above u (calls_in below) before
  pub apart : AllPairs (λ f g. f ≢ g) functions

pairs_none : (f : ℕ) → AllPairs (λ g h. g ≢ h) (f ∷ [])
pairs_none f = λ i j d lt in_list. absurd (omega arith)

pairs_more : (f : ℕ) (fs : List ℕ) → (Contains fs f → ⊥) → AllPairs (λ g h. g ≢ h) fs → AllPairs (λ g h. g ≢ h) (f ∷ fs)
pairs_more f fs off h zero zero d lt in_list = absurd (omega arith)
pairs_more f fs off h zero (suc j) d lt in_list = λ (e : f ≡ get_or fs j d). off (j, omega arith, get_or_default fs j f d (omega arith) ∙ sym e)
pairs_more f fs off h (suc i) zero d lt in_list = absurd (omega arith)
pairs_more f fs off h (suc i) (suc j) d lt in_list = h i j d (omega arith) (omega arith)

abbrev pub head : ℕ → List ℕ → ℕ
head other [] = other
head other (x ∷ xs) = x

abbrev pub tail : List ℕ → List ℕ
tail [] = []
tail (x ∷ xs) = xs

pub descends : (u : UnitTree) (entry : ℕ) → IsSound u (callees u entry) → {functions calls : List ℕ} → IsCallPath u entry functions calls → IsDescent u functions
descends u entry s alone = record {
  last = entry;
  before = [];
  is = refl;
  below = s.0;
  is_forest = s.1;
  bodies = s.2;
  above = λ g h. absurd (contains_none g h);
  apart = pairs_none entry;
}
descends u entry s (with_call {caller = f} {functions = fs} {k = k} {call = c} path at body) =
    let d : IsDescent u (f ∷ fs) = descends u entry s path in
    let last : d.last ≡ f = sym (ap (head f) d.is) in
    let before : d.before ≡ fs = sym (ap tail d.is) in
    let is_forest : IsForest u (callees u f) d.below = subst (λ (n : ℕ). IsForest u (callees u n) d.below) last d.is_forest in
    let r = sound_call u (calls_of u f) k c d.below is_forest d.bodies at in
    let above : Above u (calls_in r.1.0) (f ∷ fs) = λ g on. ⊎_elim
    (λ (same : f ≡ g). (d.below, subst (λ (n : ℕ). IsForest u (callees u n) d.below) same is_forest, r.1.3))
    (λ (there : Contains fs g). let a = subst (λ (hs : List ℕ). Above u (calls_in d.below) hs) before d.above g there in (a.0, a.1, omega (arith, a.2, r.1.3)))
    (contains_cases f g fs on) in
    record {
      last = c.function;
      before = f ∷ fs;
      is = refl;
      below = r.1.0;
      is_forest = r.1.1;
      bodies = r.1.2;
      above = above;
      apart = pairs_more c.function (f ∷ fs) (not_above u c.function (f ∷ fs) r.1.0 r.1.1 above) d.apart;
    }

pub no_function_twice : NoFunctionTwice
no_function_twice u entry seen functions calls w p = (descends u entry (entry_sound u entry seen w) p).apart
