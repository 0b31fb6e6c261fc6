-- Which path of a list leads to which.
use Rattle.std.proofs.Common.{suc, zero, inl, inr, ⊎_elim, ◌≡◌, ◌<◌, ◌≤◌, ◌⊎◌, ℕ, ◌+◌, ◌-◌, List, [], ◌∷◌, ◌++◌, length, get_or, arith, refl, sym, ◌∙◌, ap, subst}
use Rattle.std.specs.Prelude.{Option, Some, None, unwrap_or, slice_get, slice_index}
use Rattle.std.specs.Option.{option_and_then}
use Rattle.std.proofs.lemmas.Bool.{cases_lt}
use Rattle.std.proofs.lemmas.List.{length-append, get_or_append_left}
use Rattle.std.proofs.Math.Seq.{get_or-append_seam}
use Rattle.std.proofs.lemmas.Option.{slice_get_within}
use Rattle.pk_typed.specs.declared.units.CallSite.{CallSite}
use Rattle.pk_typed.specs.Trees.{UnitTree}
use Rattle.pk_calls.specs.declared.listings.CallPath.{CallPath}
use Rattle.pk_calls.specs.declared.listings.Caller.{Caller}
use Rattle.pk_calls.specs.Calls.{calls_of}
use Rattle.pk_calls.specs.Paths.{entry_path, path_by, paths_by, longer, LeadsTo, AreFirsts}

-- elements of a list behind another

pub slice_get_left : {X : Type 0} (xs ys : List X) (i : ℕ) → i < length xs → slice_get (xs ++ ys) i ≡ slice_get xs i
slice_get_left [] ys i lt = absurd (omega arith)
slice_get_left (x ∷ xs) ys zero lt = refl
slice_get_left (x ∷ xs) ys (suc i) lt = slice_get_left xs ys i (omega arith)

pub slice_get_right : {X : Type 0} (xs ys : List X) (i : ℕ) → slice_get (xs ++ ys) (length xs + i) ≡ slice_get ys i
slice_get_right [] ys i = ap (slice_get ys) (omega arith)
slice_get_right (x ∷ xs) ys i = let e : length (x ∷ xs) + i ≡ suc (length xs + i) = omega arith in ap (slice_get (x ∷ xs ++ ys)) e ∙ slice_get_right xs ys i

abbrev no_caller : Caller
no_caller = record { path = 0; call = 0 }

none_site : (c : CallSite) → None ≡ Some c → ⊥
none_site c e = cc

none_path : (p : CallPath) → None ≡ Some p → ⊥
none_path p e = cc

some_site : (a b : CallSite) → Some a ≡ Some b → a ≡ b
some_site a b e = ap (λ (o : Option CallSite). unwrap_or o a) e

pub some_call_path : (a b : CallPath) → Some a ≡ Some b → a ≡ b
some_call_path a b e = ap (λ (o : Option CallPath). unwrap_or o a) e

some_path : (a b : Caller) → Some a ≡ Some b → a.path ≡ b.path
some_path a b e = ap (λ (o : Option Caller). (unwrap_or o no_caller).path) e

some_call : (a b : Caller) → Some a ≡ Some b → a.call ≡ b.call
some_call a b e = ap (λ (o : Option Caller). (unwrap_or o no_caller).call) e

pub leads_cases : (ps qs : List CallPath) (from call to : ℕ) → LeadsTo (ps ++ qs) from call to → LeadsTo ps from call to ⊎ ((i : ℕ) × (to ≡ length ps + i) × LeadsTo qs from call i)
leads_cases ps qs from call to h =
    ⊎_elim
    (λ lt. inl (sym (ap (option_and_then (λ (p : CallPath). p.caller)) (slice_get_left ps qs to lt)) ∙ h))
    (λ le. let e : to ≡ length ps + (to - length ps) = omega arith in
    inr (to - length ps, e, sym (ap (λ (i : ℕ). option_and_then (λ (p : CallPath). p.caller) (slice_get (ps ++ qs) i)) e ∙ ap (option_and_then (λ (p : CallPath). p.caller)) (slice_get_right ps qs (to - length ps))) ∙ h))
    (cases_lt to (length ps))

none_some : (c : Caller) → None ≡ Some c → ⊥
none_some c e = cc

-- a path whose caller is told
pub leads_by : (ps : List CallPath) (from call to f : ℕ) → slice_get ps to ≡ Some (path_by from call f) → LeadsTo ps from call to
leads_by ps from call to f e = ap (option_and_then (λ (p : CallPath). p.caller)) e

-- the paths by calls

pub leads_paths_by : (path n : ℕ) (cs : List CallSite) (from call to : ℕ) → LeadsTo (paths_by path n cs) from call to → (from ≡ path) × (call ≡ n + to)
leads_paths_by path n [] from call to h = absurd (none_some (record { path = from; call = call }) h)
leads_paths_by path n (c ∷ cs) from call zero h =
    let e : path ≡ from = some_path (record { path = path; call = n }) (record { path = from; call = call }) h in
    let k : n ≡ call = some_call (record { path = path; call = n }) (record { path = from; call = call }) h in
    (sym e, omega arith)
leads_paths_by path n (c ∷ cs) from call (suc to) h = let r = leads_paths_by path (n + 1) cs from call to h in let e : call ≡ n + 1 + to = r.1 in (r.0, omega arith)

pub paths_by_at : (path n : ℕ) (cs : List CallSite) (k : ℕ) (c : CallSite) → slice_get cs k ≡ Some c → slice_get (paths_by path n cs) k ≡ Some (path_by path (n + k) c.function)
paths_by_at path n [] k c h = absurd (none_site c h)
paths_by_at path n (d ∷ cs) zero c h = let e : n ≡ n + 0 = omega arith in ap (λ (i : ℕ). Some (path_by path i d.function)) e ∙ ap (λ (x : CallSite). Some (path_by path (n + 0) x.function)) (some_site d c h)
paths_by_at path n (d ∷ cs) (suc k) c h = let e : n + 1 + k ≡ n + suc k = omega arith in paths_by_at path (n + 1) cs k c h ∙ ap (λ (i : ℕ). Some (path_by path i c.function)) e

pub length-paths_by : (path n : ℕ) (cs : List CallSite) → length (paths_by path n cs) ≡ length cs
length-paths_by path n [] = refl
length-paths_by path n (c ∷ cs) = let e : length (paths_by path (n + 1) cs) ≡ length cs = length-paths_by path (n + 1) cs in omega arith

-- what a path by calls is
pub paths_by_is : (path n : ℕ) (cs : List CallSite) (i : ℕ) (q : CallPath) → slice_get (paths_by path n cs) i ≡ Some q → (c : CallSite) × (slice_get cs i ≡ Some c) × (q ≡ path_by path (n + i) c.function)
paths_by_is path n [] i q h = absurd (none_path q h)
paths_by_is path n (c ∷ cs) zero q h = let e : n ≡ n + 0 = omega arith in (c, refl, sym (some_call_path _ q h) ∙ ap (λ (i : ℕ). path_by path i c.function) e)
paths_by_is path n (c ∷ cs) (suc i) q h = let r = paths_by_is path (n + 1) cs i q h in let e : n + 1 + i ≡ n + suc i = omega arith in (r.0, r.1, r.2 ∙ ap (λ (k : ℕ). path_by path k (r.0).function) e)

-- the longer paths

-- a call of one of the paths is there
pub longer_at : (u : UnitTree) (n : ℕ) (ps : List CallPath) (m k : ℕ) (p : CallPath) (c : CallSite) → slice_get ps m ≡ Some p → slice_get (calls_of u p.function) k ≡ Some c → (i : ℕ) × (slice_get (longer u n ps) i ≡ Some (path_by (n + m) k c.function))
longer_at u n [] m k p c h g = absurd (none_path p h)
longer_at u n (q ∷ ps) zero k p c h g =
    let here : slice_get (calls_of u q.function) k ≡ Some c = subst (λ (r : CallPath). slice_get (calls_of u r.function) k ≡ Some c) (sym (some_call_path q p h)) g in
    let front : List CallPath = paths_by n 0 (calls_of u q.function) in
    let lt : k < length front = let e : length front ≡ length (calls_of u q.function) = length-paths_by n 0 (calls_of u q.function) in let l : k < length (calls_of u q.function) = slice_get_within (calls_of u q.function) k c here in omega arith in
    let e : n ≡ n + 0 = omega arith in
    let z : 0 + k ≡ k = omega arith in
    (k, slice_get_left front (longer u (n + 1) ps) k lt ∙ paths_by_at n 0 (calls_of u q.function) k c here ∙ ap (λ (i : ℕ). Some (path_by n i c.function)) z ∙ ap (λ (i : ℕ). Some (path_by i k c.function)) e)
longer_at u n (q ∷ ps) (suc m) k p c h g =
    let r = longer_at u (n + 1) ps m k p c h g in
    let front : List CallPath = paths_by n 0 (calls_of u q.function) in
    let e : n + 1 + m ≡ n + suc m = omega arith in
    (length front + r.0, slice_get_right front (longer u (n + 1) ps) r.0 ∙ r.1 ∙ ap (λ (i : ℕ). Some (path_by i k c.function)) e)

-- a longer path is a path with a call
pub longer_is : (u : UnitTree) (n : ℕ) (ps : List CallPath) (i : ℕ) (q : CallPath) → slice_get (longer u n ps) i ≡ Some q
    → (m k : ℕ) × (p : CallPath) × (c : CallSite) × (slice_get ps m ≡ Some p) × (slice_get (calls_of u p.function) k ≡ Some c) × (q ≡ path_by (n + m) k c.function)
longer_is u n [] i q h = absurd (none_path q h)
longer_is u n (p ∷ ps) i q h =
    let front : List CallPath = paths_by n 0 (calls_of u p.function) in
    ⊎_elim
    (λ lt. let r = paths_by_is n 0 (calls_of u p.function) i q (sym (slice_get_left front (longer u (n + 1) ps) i lt) ∙ h) in
    let e : n ≡ n + 0 = omega arith in
    let z : 0 + i ≡ i = omega arith in
    (0, i, p, r.0, refl, r.1, r.2 ∙ ap (λ (k : ℕ). path_by n k (r.0).function) z ∙ ap (λ (k : ℕ). path_by k i (r.0).function) e))
    (λ le. let at : i ≡ length front + (i - length front) = omega arith in
    let r = longer_is u (n + 1) ps (i - length front) q (sym (ap (slice_get (front ++ longer u (n + 1) ps)) at ∙ slice_get_right front (longer u (n + 1) ps) (i - length front)) ∙ h) in
    let e : n + 1 + r.0 ≡ n + suc r.0 = omega arith in
    (suc r.0, r.1, r.2, r.3, r.4, r.5, r.6 ∙ ap (λ (k : ℕ). path_by k r.1 (r.3).function) e))
    (cases_lt i (length front))

-- a longer path's caller is one of the paths
pub leads_longer : (u : UnitTree) (n : ℕ) (ps : List CallPath) (from call to : ℕ) → LeadsTo (longer u n ps) from call to → n ≤ from
leads_longer u n [] from call to h = absurd (none_some (record { path = from; call = call }) h)
leads_longer u n (p ∷ ps) from call to h =
    ⊎_elim
    (λ front. let e : from ≡ n = (leads_paths_by n 0 (calls_of u p.function) from call to front).0 in omega arith)
    (λ back. let le : n + 1 ≤ from = leads_longer u (n + 1) ps from call back.0 back.2 in omega arith)
    (leads_cases (paths_by n 0 (calls_of u p.function)) (longer u (n + 1) ps) from call to h)

-- no call leads to two of them
pub leads_once : (u : UnitTree) (n : ℕ) (ps : List CallPath) (from call i j : ℕ) → LeadsTo (longer u n ps) from call i → LeadsTo (longer u n ps) from call j → i ≡ j
leads_once u n [] from call i j g h = absurd (none_some (record { path = from; call = call }) h)
leads_once u n (p ∷ ps) from call i j g h =
    let front : List CallPath = paths_by n 0 (calls_of u p.function) in
    ⊎_elim
    (λ a. let a' : (from ≡ n) × (call ≡ 0 + i) = leads_paths_by n 0 (calls_of u p.function) from call i a in
    ⊎_elim
    (λ b. let b' : (from ≡ n) × (call ≡ 0 + j) = leads_paths_by n 0 (calls_of u p.function) from call j b in omega (arith, a'.1, b'.1))
    (λ b. let le : n + 1 ≤ from = leads_longer u (n + 1) ps from call b.0 b.2 in absurd (omega (arith, a'.0)))
    (leads_cases front (longer u (n + 1) ps) from call j h))
    (λ a. let le : n + 1 ≤ from = leads_longer u (n + 1) ps from call a.0 a.2 in
    ⊎_elim
    (λ b. let e : from ≡ n = (leads_paths_by n 0 (calls_of u p.function) from call j b).0 in absurd (omega arith))
    (λ b. let e : a.0 ≡ b.0 = leads_once u (n + 1) ps from call a.0 b.0 a.2 b.2 in omega (arith, a.1, b.1))
    (leads_cases front (longer u (n + 1) ps) from call j h))
    (leads_cases front (longer u (n + 1) ps) from call i g)

-- the paths by the calls of one path more stand in a row
pub firsts_step : (ps : List CallPath) (firsts : List ℕ) (path : ℕ) (cs : List CallSite) → length firsts ≡ path → AreFirsts ps firsts → AreFirsts (ps ++ paths_by path 0 cs) (firsts ++ length ps ∷ [])
firsts_step ps firsts path cs long h from call to leads =
    ⊎_elim
    (λ front. let r : (from < length firsts) × (to ≡ slice_index firsts from + call) = h from call to front in
    let same : get_or (firsts ++ length ps ∷ []) from 0 ≡ get_or firsts from 0 = get_or_append_left firsts (length ps ∷ []) 0 from r.0 in
    (omega (arith, length-append firsts (length ps ∷ []), r.0), r.1 ∙ ap (λ (n : ℕ). n + call) (sym same)))
    (λ back. let r : (from ≡ path) × (call ≡ 0 + back.0) = leads_paths_by path 0 cs from call back.0 back.2 in
    let at : from ≡ length firsts = r.0 ∙ sym long in
    let last : get_or (firsts ++ length ps ∷ []) from 0 ≡ length ps = ap (λ (k : ℕ). get_or (firsts ++ length ps ∷ []) k 0) at ∙ get_or-append_seam firsts (length ps) [] 0 in
    (omega (arith, length-append firsts (length ps ∷ []), at), omega (arith, back.1, r.1, last)))
    (leads_cases ps (paths_by path 0 cs) from call to leads)

-- and stand behind it
pub behind_step : (ps : List CallPath) (path : ℕ) (cs : List CallSite) → path < length ps → ((from call to : ℕ) → LeadsTo ps from call to → from < to) → (from call to : ℕ) → LeadsTo (ps ++ paths_by path 0 cs) from call to → from < to
behind_step ps path cs lt h from call to leads =
    ⊎_elim
    (h from call to)
    (λ back. let e : from ≡ path = (leads_paths_by path 0 cs from call back.0 back.2).0 in omega (arith, back.1))
    (leads_cases ps (paths_by path 0 cs) from call to leads)

-- to the entry no call leads
pub none_to_entry : (entry from call to : ℕ) → LeadsTo (entry_path entry ∷ []) from call to → ⊥
none_to_entry entry from call zero h = none_some (record { path = from; call = call }) h
none_to_entry entry from call (suc to) h = none_some (record { path = from; call = call }) h
