-- The call paths in order, as far as the loop has come.
use Rattle.std.proofs.Common.{suc, zero, ⊎_elim, ◌≡◌, ◌<◌, ◌≤◌, ℕ, ◌+◌, ◌-◌, List, [], ◌∷◌, ◌++◌, length, map, take, drop, get_or, arith, refl, sym, ◌∙◌, ap, subst, append_assoc}
use Rattle.std.specs.List.{sum_by}
use Rattle.std.proofs.lemmas.List.Sums.{sum_by_more}
use Rattle.std.proofs.lemmas.List.{drop_more, take_more, take_all, drop_all, map-append, drop-append-le, take-append-le, append-nil, length-append, length-take-le, length-drop, length-map, get_or_default}
use Rattle.std.proofs.lemmas.Bool.{cases_lt}
use Rattle.pk_typed.specs.declared.units.CallSite.{CallSite}
use Rattle.pk_typed.specs.Trees.{UnitTree}
use Rattle.pk_calls.specs.declared.listings.CallPath.{CallPath}
use Rattle.pk_calls.specs.Calls.{calls_of, callees, locals_of}
use Rattle.pk_calls.specs.Forests.{Forest, none, call, IsForest, calls_in, variables_in}
use Rattle.pk_calls.specs.Paths.{entry_path, path_by, paths_by, longer, LeadsTo, IsListing}
use Rattle.pk_calls.specs.Paths.{AreFirsts}
use Rattle.pk_calls.proofs.LeadLemmas.{behind_step, firsts_step, none_to_entry}
use Rattle.pk_calls.proofs.ForestLemmas.{joined, forest_joined, calls_in-joined, variables_in-joined}

abbrev pub functions : List CallPath → List ℕ
functions = map (λ (p : CallPath). p.function)

abbrev pub objects_of : UnitTree → List CallPath → ℕ
objects_of u paths = sum_by (λ (p : CallPath). locals_of u p.function + 1) paths

pub longer-append : (u : UnitTree) (n : ℕ) (ps qs : List CallPath) → longer u n (ps ++ qs) ≡ longer u n ps ++ longer u (n + length ps) qs
longer-append u n [] qs = ap (λ (k : ℕ). longer u k qs) (omega arith)
longer-append u n (p ∷ ps) qs =
    ap (λ (rs : List CallPath). paths_by n 0 (calls_of u p.function) ++ rs) (longer-append u (n + 1) ps qs ∙ ap (λ (k : ℕ). longer u (n + 1) ps ++ longer u k qs) (omega arith))
    ∙ sym (append_assoc (paths_by n 0 (calls_of u p.function)) (longer u (n + 1) ps) (longer u (n + length (p ∷ ps)) qs))

pub functions-paths_by : (path n : ℕ) (cs : List CallSite) → functions (paths_by path n cs) ≡ map (λ (c : CallSite). c.function) cs
functions-paths_by path n [] = refl
functions-paths_by path n (c ∷ cs) = ap (λ (fs : List ℕ). c.function ∷ fs) (functions-paths_by path (n + 1) cs)

pub paths_by-append : (path n : ℕ) (cs ds : List CallSite) → paths_by path n (cs ++ ds) ≡ paths_by path n cs ++ paths_by path (n + length cs) ds
paths_by-append path n [] ds = ap (λ (k : ℕ). paths_by path k ds) (omega arith)
paths_by-append path n (c ∷ cs) ds = ap (λ (ps : List CallPath). path_by path n c.function ∷ ps) (paths_by-append path (n + 1) cs ds ∙ ap (λ (k : ℕ). paths_by path (n + 1) cs ++ paths_by path k ds) (omega arith))

-- The call paths so far: the calls of the first `next` of them are listed, and of the others the calls are still to come.
pub record Listed (u : UnitTree) (entry count total next : ℕ) (paths : List CallPath) : Type 0 where
  pub is_part : paths ≡ entry_path entry ∷ longer u 0 (take next paths)
  pub behind : (from k to : ℕ) → LeadsTo paths from k to → from < to
  pub within : next ≤ length paths
  pub pending : Forest
  pub is_forest : IsForest u (functions (drop next paths)) pending
  pub counted : next + calls_in pending ≡ count
  pub totalled : objects_of u (take next paths) + variables_in u pending ≡ total

-- no calls
forest_empty : (u : UnitTree) (fs : List ℕ) (t : Forest) → IsForest u fs t → calls_in t ≡ 0 → (fs ≡ []) × (t ≡ none)
forest_empty u [] none h e = (refl, refl)
forest_empty u (f ∷ fs) none h e = absurd h
forest_empty u [] (call g below after) h e = absurd h
forest_empty u (f ∷ fs) (call g below after) h e = absurd (omega arith)

none_there : (u : UnitTree) (t : Forest) → IsForest u [] t → calls_in t ≡ 0
none_there u none h = refl
none_there u (call g below after) h = absurd h

-- while there are paths to come, one is there whose calls aren't listed
pub listed_more : (u : UnitTree) (entry count total next : ℕ) (paths : List CallPath) → next < count → Listed u entry count total next paths → next < length paths
listed_more u entry count total next paths lt l =
    ⊎_elim (λ h. h)
    (λ le. let empty : calls_in l.pending ≡ 0 = none_there u l.pending (subst (λ (ps : List CallPath). IsForest u (functions ps) l.pending) (drop_all next paths le) l.is_forest) in absurd (omega (arith, empty, l.counted)))
    (cases_lt next (length paths))

-- the first of the functions is taken out of the forest, and its callees are put behind
taken : (u : UnitTree) (f : ℕ) (rest : List ℕ) (t : Forest) → IsForest u (f ∷ rest) t
    → (s : Forest) × IsForest u (rest ++ callees u f) s × (1 + calls_in s ≡ calls_in t) × (locals_of u f + 1 + variables_in u s ≡ variables_in u t)
taken u f rest none h = absurd h
taken u f rest (call g below after) h = (
  joined after below,
  forest_joined u rest (callees u f) after below h.2 h.1,
  omega (arith, calls_in-joined after below),
  subst (λ (k : ℕ). locals_of u f + 1 + variables_in u (joined after below) ≡ locals_of u k + 1 + variables_in u below + variables_in u after) h.0 (omega (arith, variables_in-joined u after below)),
)

-- the calls of one path more
pub listed_step : (u : UnitTree) (entry count total next : ℕ) (paths : List CallPath) (p : CallPath) → next < length paths → p ≡ get_or paths next p → Listed u entry count total next paths
    → Listed u entry count total (next + 1) (paths ++ paths_by next 0 (calls_of u p.function))
listed_step u entry count total next paths p lt at l =
    let new : List CallPath = paths_by next 0 (calls_of u p.function) in
    let here : drop next paths ≡ p ∷ drop (next + 1) paths = drop_more paths next p lt ∙ ap (λ (q : CallPath). q ∷ drop (next + 1) paths) (sym at) in
    let got = taken u p.function (functions (drop (next + 1) paths)) l.pending (subst (λ (ps : List CallPath). IsForest u (functions ps) l.pending) here l.is_forest) in
    let front : take (next + 1) (paths ++ new) ≡ take (next + 1) paths = take-append-le (next + 1) paths new (omega arith) in
    let more : take (next + 1) paths ≡ take next paths ++ p ∷ [] = take_more paths next p lt ∙ ap (λ (q : CallPath). take next paths ++ q ∷ []) (sym at) in
    let back : functions (drop (next + 1) (paths ++ new)) ≡ functions (drop (next + 1) paths) ++ callees u p.function =
    ap functions (drop-append-le (next + 1) paths new (omega arith)) ∙ map-append (λ (q : CallPath). q.function) (drop (next + 1) paths) new ∙ ap (λ (fs : List ℕ). functions (drop (next + 1) paths) ++ fs) (functions-paths_by next 0 (calls_of u p.function)) in
    let long : length (take next paths) ≡ next = length-take-le next paths l.within in
    let grown : longer u 0 (take (next + 1) (paths ++ new)) ≡ longer u 0 (take next paths) ++ new =
    ap (longer u 0) (front ∙ more) ∙ longer-append u 0 (take next paths) (p ∷ []) ∙ ap (λ (k : ℕ). longer u 0 (take next paths) ++ (paths_by k 0 (calls_of u p.function) ++ [])) (omega (arith, long)) ∙ ap (λ (ps : List CallPath). longer u 0 (take next paths) ++ ps) (append-nil new) in
    record {
      is_part = ap (λ (ps : List CallPath). ps ++ new) l.is_part ∙ ap (λ (ps : List CallPath). entry_path entry ∷ ps) (sym grown);
      behind = behind_step paths next (calls_of u p.function) lt l.behind;
      within = omega (arith, length-append paths new);
      pending = got.0;
      is_forest = subst (λ fs. IsForest u fs got.0) (sym back) got.1;
      counted = omega (arith, got.2, l.counted);
      totalled = let s : objects_of u (take (next + 1) (paths ++ new)) ≡ objects_of u (take next paths) + (locals_of u p.function + 1) =
          ap (objects_of u) front ∙ sum_by_more (λ (q : CallPath). locals_of u q.function + 1) paths next p lt ∙ ap (λ (q : CallPath). objects_of u (take next paths) + (locals_of u q.function + 1)) (sym at) in omega (arith, s, got.3, l.totalled);
    }

-- the entry alone
pub listed_begins : (u : UnitTree) (entry : ℕ) (below : Forest) → IsForest u (callees u entry) below → Listed u entry (1 + calls_in below) (locals_of u entry + 1 + variables_in u below) 0 (entry_path entry ∷ [])
listed_begins u entry below h = record {
  is_part = refl;
  behind = λ from k to h. absurd (none_to_entry entry from k to h);
  within = omega arith;
  pending = call entry below none;
  is_forest = (refl, h, tt);
  counted = omega arith;
  totalled = omega arith;
}

-- the last path's calls are listed
pub listed_ends : (u : UnitTree) (entry count total : ℕ) (paths : List CallPath) → Listed u entry count total count paths → IsListing u entry paths × (length paths ≡ count) × (objects_of u paths ≡ total)
listed_ends u entry count total paths l =
    let empty : calls_in l.pending ≡ 0 = omega (arith, l.counted) in
    let e : (functions (drop count paths) ≡ []) × (l.pending ≡ none) = forest_empty u (functions (drop count paths)) l.pending l.is_forest empty in
    let dropped : length paths - count ≡ 0 = sym (length-drop count paths) ∙ sym (length-map (drop count paths) (λ (p : CallPath). p.function)) ∙ ap {B = ℕ} (λ (fs : List ℕ). length fs) e.0 in
    let whole : take count paths ≡ paths = take_all count paths (omega (arith, dropped)) in
    let objects : variables_in u l.pending ≡ 0 = ap (variables_in u) e.1 in (
      record { in_order = l.is_part ∙ ap (λ (ps : List CallPath). entry_path entry ∷ longer u 0 ps) whole; behind = l.behind },
      omega (arith, dropped, l.within),
      ap (objects_of u) (sym whole) ∙ omega (arith, objects, l.totalled),
    )

-- one call more
pub call_pushed : (old list new : List CallPath) (path k : ℕ) (xs : List CallSite) (site : CallSite) → k < length xs → site ≡ get_or xs k site → list ≡ old ++ paths_by path 0 (take k xs)
    → new ≡ list ++ path_by path k site.function ∷ [] → new ≡ old ++ paths_by path 0 (take (k + 1) xs)
call_pushed old list new path k xs site lt at is pushed =
    let more : take (k + 1) xs ≡ take k xs ++ site ∷ [] = take_more xs k site lt ∙ ap (λ (c : CallSite). take k xs ++ c ∷ []) (sym at) in
    let number : 0 + length (take k xs) ≡ k = omega (arith, length-take-le k xs (omega arith)) in
    let one : paths_by path 0 (take (k + 1) xs) ≡ paths_by path 0 (take k xs) ++ path_by path k site.function ∷ [] =
    ap (paths_by path 0) more ∙ paths_by-append path 0 (take k xs) (site ∷ []) ∙ ap (λ (n : ℕ). paths_by path 0 (take k xs) ++ path_by path n site.function ∷ []) number in
    pushed ∙ ap (λ (ps : List CallPath). ps ++ path_by path k site.function ∷ []) is ∙ append_assoc old (paths_by path 0 (take k xs)) (path_by path k site.function ∷ []) ∙ ap (λ (ps : List CallPath). old ++ ps) (sym one)

-- The loop so far: the calls of the paths before this one are listed, and where each path's begin is told.
pub record Listing (u : UnitTree) (entry count path : ℕ) (list : List CallPath) (firsts : List ℕ) : Type 0 where
  pub total : ℕ
  pub listed : Listed u entry count total path list
  pub long : length firsts ≡ path
  pub are_firsts : AreFirsts list firsts

pub listing_begins : (u : UnitTree) (entry count : ℕ) (below : Forest) → IsForest u (callees u entry) below → count ≡ 1 + calls_in below → Listing u entry count 0 (entry_path entry ∷ []) []
listing_begins u entry count below h e = record {
  total = locals_of u entry + 1 + variables_in u below;
  listed = subst (λ (n : ℕ). Listed u entry n (locals_of u entry + 1 + variables_in u below) 0 (entry_path entry ∷ [])) (sym e) (listed_begins u entry below h);
  long = refl;
  are_firsts = λ from k to h. absurd (none_to_entry entry from k to h);
}

pub listing_step : (u : UnitTree) (entry count path : ℕ) (ps list : List CallPath) (firsts : List ℕ) (p : CallPath) → path < length ps → p ≡ get_or ps path p → list ≡ ps ++ paths_by path 0 (calls_of u p.function) → Listing u entry count path ps firsts
    → Listing u entry count (path + 1) list (firsts ++ length ps ∷ [])
listing_step u entry count path ps list firsts p lt at is l = record {
  total = l.total;
  listed = subst (Listed u entry count l.total (path + 1)) (sym is) (listed_step u entry count l.total path ps p lt at l.listed);
  long = omega (arith, length-append firsts (length ps ∷ []), l.long);
  are_firsts = subst (λ (qs : List CallPath). AreFirsts qs (firsts ++ length ps ∷ [])) (sym is) (firsts_step ps firsts path (calls_of u p.function) l.long l.are_firsts);
}

-- the calls of one path more, as the code pushes them
pub listing_more : (u : UnitTree) (entry count path : ℕ) (ps list : List CallPath) (firsts more : List ℕ) (p : CallPath) (xs : List CallSite) (k n : ℕ) → path < count → p ≡ get_or ps path p → xs ≡ calls_of u p.function → length xs ≤ k
    → list ≡ ps ++ paths_by path 0 (take k xs) → n ≡ length ps → more ≡ firsts ++ n ∷ [] → Listing u entry count path ps firsts → Listing u entry count (path + 1) list more
listing_more u entry count path ps list firsts more p xs k n lt at calls le is long begins l =
    let there : path < length ps = listed_more u entry count l.total path ps lt l.listed in
    let pushed : list ≡ ps ++ paths_by path 0 (calls_of u p.function) = is ∙ ap (λ (ys : List CallSite). ps ++ paths_by path 0 ys) (take_all k xs le ∙ calls) in
    subst (Listing u entry count (path + 1) list) (sym (begins ∙ ap (λ (m : ℕ). firsts ++ m ∷ []) long)) (listing_step u entry count path ps list firsts p there at pushed l)

pub listing_ends : (u : UnitTree) (entry count path : ℕ) (paths : List CallPath) (firsts : List ℕ) → path ≡ count → Listing u entry count path paths firsts → IsListing u entry paths
listing_ends u entry count path paths firsts e l = (listed_ends u entry count l.total paths (subst (λ (n : ℕ). Listed u entry count l.total n paths) e l.listed)).0

-- The call paths of a counted entry can be listed.
goes_on : (u : UnitTree) (entry count total left next : ℕ) (paths : List CallPath) → next + left ≡ count → Listed u entry count total next paths → (all : List CallPath) × Listed u entry count total count all
goes_on u entry count total zero next paths e l = (paths, subst (λ (k : ℕ). Listed u entry count total k paths) (omega arith) l)
goes_on u entry count total (suc left) next paths e l =
    let lt : next < length paths = listed_more u entry count total next paths (omega arith) l in
    let p : CallPath = get_or paths next (entry_path entry) in
    goes_on u entry count total left (next + 1) (paths ++ paths_by next 0 (calls_of u p.function)) (omega arith)
    (listed_step u entry count total next paths p lt (get_or_default paths next (entry_path entry) p lt) l)

pub all_listed : (u : UnitTree) (entry : ℕ) (below : Forest) → IsForest u (callees u entry) below
    → (paths : List CallPath) × IsListing u entry paths × (length paths ≡ 1 + calls_in below) × (objects_of u paths ≡ locals_of u entry + 1 + variables_in u below)
all_listed u entry below h =
    let got = goes_on u entry (1 + calls_in below) (locals_of u entry + 1 + variables_in u below) (1 + calls_in below) 0 (entry_path entry ∷ []) (omega arith) (listed_begins u entry below h) in
    let e = listed_ends u entry (1 + calls_in below) (locals_of u entry + 1 + variables_in u below) got.0 got.1 in
    (got.0, e.0, e.1, e.2)
