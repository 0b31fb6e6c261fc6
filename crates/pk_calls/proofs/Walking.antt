-- The walk by the frames of the code, the last first.
use Rattle.std.proofs.Common.{suc, zero, ◌≡◌, ◌<◌, ◌≤◌, ◌⊎◌, ℕ, ◌+◌, ◌-◌, List, [], ◌∷◌, ◌++◌, length, take, drop, get_or, inl, inr, ⊎_elim, arith, refl, sym, ◌∙◌, ap, subst, get_or-set_same, get_or-set_other}
use Rattle.std.specs.List.{Contains}
use Rattle.std.proofs.Math.ListN.{replicate, set, length-set}
use Rattle.std.proofs.lemmas.Bool.{cases_eq, cases_lt}
use Rattle.std.proofs.lemmas.List.{get_or_past, get_or_default, get_or-replicate, length-replicate, drop_more, take_more, take_all, drop_all, length-map, get_or-map}
use Rattle.pk_typed.specs.declared.units.CallSite.{CallSite}
use Rattle.pk_typed.specs.Trees.{UnitTree}
use Rattle.pk_calls.specs.declared.walk.Counts.{Counts}
use Rattle.pk_calls.specs.declared.walk.Frame.{Frame}
use Rattle.pk_calls.specs.declared.walk.State.{State}
use Rattle.pk_calls.specs.declared.walk.State.TheVariants.{Fresh, OnPath, Left}
use Rattle.pk_calls.specs.Calls.{HasBody, calls_of, callees, locals_of, name_of}
use Rattle.pk_calls.specs.Forests.{Forest, none, call, IsForest, IsCounted, calls_in, variables_in, capped}
use Rattle.pk_calls.specs.Frames.{path_of}
use Rattle.pk_calls.specs.Walk.{Outcome, walked, recursion, undefined, IsRefusal, Walks, at_end, recursive, bodiless, left, entered, refused, WalksFrom, cycle_of}
use Rattle.pk_calls.proofs.ForestLemmas.{joined, forest_pushed, calls_in-joined, variables_in-joined, capped_added}

-- elements of a list with one element before

pub contains_here : (x : ℕ) (xs : List ℕ) → Contains (x ∷ xs) x
contains_here x xs = (0, omega arith, refl)

pub contains_there : (x y : ℕ) (xs : List ℕ) → Contains xs y → Contains (x ∷ xs) y
contains_there x y xs (k, lt, at) = (suc k, omega arith, at)

pub contains_cases : (x y : ℕ) (xs : List ℕ) → Contains (x ∷ xs) y → (x ≡ y) ⊎ Contains xs y
contains_cases x y xs (zero, lt, at) = inl at
contains_cases x y xs (suc k, lt, at) = inr (k, omega arith, at)

pub contains_none : (y : ℕ) → Contains [] y → ⊥
contains_none y (k, lt, at) = absurd (omega arith)

-- the walk

abbrev pub Grows : List ℕ → Outcome → Type 0
Grows seen (walked after) = (g : ℕ) → Contains seen g → Contains after g
Grows seen (recursion names) = Unit {0}
Grows seen (undefined name at) = Unit {0}

grows_from : (s t : List ℕ) (o : Outcome) → ((g : ℕ) → Contains s g → Contains t g) → Grows t o → Grows s o
grows_from s t (walked after) h k = λ g c. k g (h g c)
grows_from s t (recursion names) h k = tt
grows_from s t (undefined name at) h k = tt

grows_refused : (s : List ℕ) (o : Outcome) → IsRefusal o → Grows s o
grows_refused s (walked after) h = absurd h
grows_refused s (recursion names) h = tt
grows_refused s (undefined name at) h = tt

-- what was entered stays so
pub grows : (u : UnitTree) {path seen : List ℕ} {calls : List CallSite} {o : Outcome} → Walks u path seen calls o → Grows seen o
grows u at_end = λ g h. h
grows u (recursive b on) = tt
grows u (bodiless b) = tt
grows u (left b n k w) = grows u w
grows u (entered {seen = seen} {after = after} {call = c} {o = o} b n k w v) = grows_from seen after o (λ g h. grows u w g (contains_there c.function g seen h)) (grows u v)
grows u (refused {seen = seen} {o = o} b n k w r) = grows_refused seen o r

-- a call of a function that was entered and left is passed over
pub passed_over : (u : UnitTree) {path seen : List ℕ} {c : CallSite} {rest : List CallSite} {o : Outcome} → HasBody u c.function → (Contains path c.function → ⊥) → Contains seen c.function
    → Walks u path seen (c ∷ rest) o → Walks u path seen rest o
passed_over u body new known (recursive b on) = absurd (new on)
passed_over u body new known (bodiless b) = absurd (b body)
passed_over u body new known (left b n k w) = w
passed_over u body new known (entered b n k w v) = absurd (k known)
passed_over u body new known (refused b n k w r) = absurd (k known)

-- frames

-- the calls of a frame's function that are left
abbrev pub calls_left : UnitTree → Frame → List CallSite
calls_left u f = drop f.next (calls_of u f.function)

-- where what lies above these frames comes to an outcome, they come to `end`
abbrev pub After : UnitTree → List Frame → Outcome → Outcome → Type 0
After u [] o end = o ≡ end
After u (f ∷ below) (walked seen) end = (o : Outcome) × Walks u (path_of (f ∷ below)) seen (calls_left u f) o × After u below o end
After u (f ∷ below) (recursion names) end = recursion names ≡ end
After u (f ∷ below) (undefined name at) end = undefined name at ≡ end

after_refusal : (u : UnitTree) (frames : List Frame) (o end : Outcome) → IsRefusal o → o ≡ end → After u frames o end
after_refusal u [] o end r e = e
after_refusal u (f ∷ below) (walked seen) end r e = absurd r
after_refusal u (f ∷ below) (recursion names) end r e = e
after_refusal u (f ∷ below) (undefined name at) end r e = e

-- a frame: the calls before its next one are counted
pub record IsFrame (u : UnitTree) (f : Frame) : Type 0 where
  pub has_body : HasBody u f.function
  pub within : f.next ≤ length (calls_of u f.function)
  pub before : Forest
  pub is_forest : IsForest u (take f.next (callees u f.function)) before
  pub paths_is : f.counts.paths ≡ capped (1 + calls_in before)
  pub variables_is : f.counts.variables ≡ capped (locals_of u f.function + 1 + variables_in u before)

-- each is one, and no function stands on the path twice
abbrev pub AreFrames : UnitTree → List Frame → Type 0
AreFrames u [] = Unit {0}
AreFrames u (f ∷ below) = IsFrame u f × (Contains (path_of below) f.function → ⊥) × AreFrames u below

-- what the state of a function says
abbrev pub Agrees : UnitTree → List ℕ → List ℕ → ℕ → State → Type 0
Agrees u path seen g Fresh = (Contains seen g → ⊥) × (Contains path g → ⊥)
Agrees u path seen g OnPath = Contains path g × Contains seen g
Agrees u path seen g (Left c) = Contains seen g × (Contains path g → ⊥) × IsCounted u g c.paths c.variables

-- The loop so far: where the frames come to an outcome, the whole walk does.
pub record Walking (u : UnitTree) (entry : ℕ) (states : List State) (frames : List Frame) : Type 0 where
  pub seen : List ℕ
  pub goes : (end : Outcome) → After u frames (walked seen) end → WalksFrom u entry end
  pub agrees : (g : ℕ) → Agrees u (path_of frames) seen g (get_or states g Fresh)
  pub are_frames : AreFrames u frames
  pub has_entry : Contains seen entry
  pub long : length states ≡ length u.functions

-- a state that is set, at its place and at others
set_agrees : (u : UnitTree) (path seen : List ℕ) (states : List State) (f g : ℕ) (s : State) → f < length states → Agrees u path seen f s → ((f ≡ g → ⊥) → Agrees u path seen g (get_or states g Fresh)) → Agrees u path seen g (get_or (set states f s) g Fresh)
set_agrees u path seen states f g s lt here other =
    ⊎_elim
    (λ same. subst (λ h. Agrees u path seen h (get_or (set states f s) h Fresh)) same (subst (Agrees u path seen f) (sym (get_or-set_same states f s Fresh lt)) here))
    (λ ne. subst (Agrees u path seen g) (sym (get_or-set_other states f g s Fresh (λ e. ne (sym e)))) (other ne))
    (cases_eq f g)

-- agreement without f on the path, for another function
agrees_below : (u : UnitTree) (path seen : List ℕ) (f g : ℕ) (s : State) → (f ≡ g → ⊥) → Agrees u (f ∷ path) seen g s → Agrees u path seen g s
agrees_below u path seen f g Fresh ne h = (h.0, λ c. h.1 (contains_there f g path c))
agrees_below u path seen f g OnPath ne h = (⊎_elim (λ e. absurd (ne e)) (λ c. c) (contains_cases f g path h.0), h.1)
agrees_below u path seen f g (Left c) ne h = (h.0, (λ c. h.1 (contains_there f g path c)), h.2)

-- agreement with f on the path, for another function
agrees_above : (u : UnitTree) (path seen : List ℕ) (f g : ℕ) (s : State) → (f ≡ g → ⊥) → Agrees u path seen g s → Agrees u (f ∷ path) (f ∷ seen) g s
agrees_above u path seen f g Fresh ne h = ((λ c. ⊎_elim (λ e. ne e) h.0 (contains_cases f g seen c)), (λ c. ⊎_elim (λ e. ne e) h.1 (contains_cases f g path c)))
agrees_above u path seen f g OnPath ne h = (contains_there f g path h.0, contains_there f g seen h.1)
agrees_above u path seen f g (Left c) ne h = (contains_there f g seen h.0, (λ c. ⊎_elim (λ e. ne e) h.1 (contains_cases f g path c)), h.2)

seen_on_path : (u : UnitTree) (path seen : List ℕ) (g : ℕ) (s : State) → Contains path g → Agrees u path seen g s → Contains seen g
seen_on_path u path seen g Fresh on h = absurd (h.1 on)
seen_on_path u path seen g OnPath on h = h.1
seen_on_path u path seen g (Left c) on h = absurd (h.1 on)

-- the calls left, at the next one
calls_next : (u : UnitTree) (f : Frame) (c : CallSite) → f.next < length (calls_of u f.function) → c ≡ get_or (calls_of u f.function) f.next c → calls_left u f ≡ c ∷ drop (f.next + 1) (calls_of u f.function)
calls_next u f c lt at = drop_more (calls_of u f.function) f.next c lt ∙ ap (λ (d : CallSite). d ∷ drop (f.next + 1) (calls_of u f.function)) (sym at)

-- the callees so far, with the next one
callees_next : (u : UnitTree) (f : Frame) (c : CallSite) → f.next < length (calls_of u f.function) → c ≡ get_or (calls_of u f.function) f.next c → take (f.next + 1) (callees u f.function) ≡ take f.next (callees u f.function) ++ c.function ∷ []
callees_next u f c lt at =
    take_more (callees u f.function) f.next c.function (subst (λ n. f.next < n) (sym (length-map (calls_of u f.function) (λ (d : CallSite). d.function))) lt)
    ∙ ap (λ (g : ℕ). take f.next (callees u f.function) ++ g ∷ []) (get_or-map (λ (d : CallSite). d.function) (calls_of u f.function) f.next c c.function lt ∙ ap (λ (d : CallSite). d.function) (sym at))

fresh_at : (n g : ℕ) → get_or (replicate n Fresh) g Fresh ≡ Fresh
fresh_at n g = ⊎_elim (λ lt. get_or-replicate n g Fresh Fresh lt) (λ le. get_or_past (replicate n Fresh) g Fresh (subst (λ (k : ℕ). k ≤ g) (sym (length-replicate n Fresh)) le)) (cases_lt g n)

-- a function that is entered
abbrev pub first_frame : ℕ → Counts → Frame
first_frame f counts = record { function = f; next = 0; counts = counts }

first_is_frame : (u : UnitTree) (f : ℕ) (counts : Counts) → HasBody u f → counts.paths ≡ 1 → counts.variables ≡ capped (locals_of u f + 1) → IsFrame u (first_frame f counts)
first_is_frame u f counts body paths variables = record {
  has_body = body;
  within = omega arith;
  before = none;
  is_forest = tt;
  paths_is = paths;
  variables_is = variables ∙ ap (λ (k : ℕ). capped k) (omega arith);
}

-- a call as the code reads it
abbrev pub site_of : List CallSite → ℕ → CallSite
site_of xs n = get_or xs n (record { function = 0; at = record { line = 0; column = 0 } })

pub site_at : (u : UnitTree) (f n : ℕ) (xs : List CallSite) → xs ≡ calls_of u f → n < length xs → site_of xs n ≡ get_or (calls_of u f) n (site_of xs n)
site_at u f n xs e lt = get_or_default xs n (record { function = 0; at = record { line = 0; column = 0 } }) (site_of xs n) lt ∙ ap (λ (ys : List CallSite). get_or ys n (site_of xs n)) e

-- a state as the code reads it
pub state_read : (xs : List State) (i : ℕ) (r s : State) → i < length xs → r ≡ get_or xs i r → r ≡ s → get_or xs i Fresh ≡ s
state_read xs i r s lt e is = get_or_default xs i Fresh r lt ∙ sym e ∙ is

-- at the entry
pub walk_begins : (u : UnitTree) (entry n : ℕ) (counts : Counts) → n ≡ length u.functions → entry < n → HasBody u entry → counts.paths ≡ 1 → counts.variables ≡ capped (locals_of u entry + 1)
    → Walking u entry (set (replicate n Fresh) entry OnPath) (first_frame entry counts ∷ [])
walk_begins u entry n counts long lt body paths variables = record {
  seen = entry ∷ [];
  goes = λ end h. subst (WalksFrom u entry) h.2 h.1;
  agrees = λ g. set_agrees u (entry ∷ []) (entry ∷ []) (replicate n Fresh) entry g OnPath (subst (λ (k : ℕ). entry < k) (sym (length-replicate n Fresh)) lt) (contains_here entry [], contains_here entry [])
      (λ ne. subst (Agrees u (entry ∷ []) (entry ∷ []) g) (sym (fresh_at n g)) ((λ c. ⊎_elim ne (contains_none g) (contains_cases entry g [] c)), (λ c. ⊎_elim ne (contains_none g) (contains_cases entry g [] c))));
  are_frames = (first_is_frame u entry counts body paths variables, contains_none entry, tt);
  has_entry = contains_here entry [];
  long = length-set (replicate n Fresh) entry OnPath ∙ length-replicate n Fresh ∙ long;
}

-- a frame whose calls are all counted
frame_counted : (u : UnitTree) (f : Frame) → f.next ≡ length (calls_of u f.function) → IsFrame u f → IsCounted u f.function f.counts.paths f.counts.variables
frame_counted u f ended is_frame = record {
  below = is_frame.before;
  is_forest = subst (λ fs. IsForest u fs is_frame.before) (take_all f.next (callees u f.function) (subst (λ (k : ℕ). k ≤ f.next) (sym (length-map (calls_of u f.function) (λ (d : CallSite). d.function))) (omega arith))) is_frame.is_forest;
  paths_is = is_frame.paths_is;
  variables_is = is_frame.variables_is;
}

-- a function whose calls are all walked is left
pub walk_leaves : (u : UnitTree) (entry : ℕ) (states : List State) (f : Frame) (below : List Frame) → f.function < length states → f.next ≡ length (calls_of u f.function) → Walking u entry states (f ∷ below)
    → Walking u entry (set states f.function (Left f.counts)) below
walk_leaves u entry states f below lt ended w = record {
  seen = w.seen;
  goes = λ end h. w.goes end (walked w.seen, subst (λ cs. Walks u (path_of (f ∷ below)) w.seen cs (walked w.seen)) (sym (drop_all f.next (calls_of u f.function) (omega arith))) at_end, h);
  agrees = λ g. set_agrees u (path_of below) w.seen states f.function g (Left f.counts) lt
      (seen_on_path u (path_of (f ∷ below)) w.seen f.function (get_or states f.function Fresh) (contains_here f.function (path_of below)) (w.agrees f.function), w.are_frames.1, frame_counted u f ended w.are_frames.0)
      (λ ne. agrees_below u (path_of below) w.seen f.function g (get_or states g Fresh) ne (w.agrees g));
  are_frames = w.are_frames.2;
  has_entry = w.has_entry;
  long = length-set states f.function (Left f.counts) ∙ w.long;
}

-- a frame with one call more
abbrev pub next_frame : Frame → Counts → Frame
next_frame f counts = record { function = f.function; next = f.next + 1; counts = counts }

next_is_frame : (u : UnitTree) (f : Frame) (c : CallSite) (counts sum : Counts) → f.next < length (calls_of u f.function) → c ≡ get_or (calls_of u f.function) f.next c → IsFrame u f → IsCounted u c.function counts.paths counts.variables
    → sum.paths ≡ capped (f.counts.paths + counts.paths) → sum.variables ≡ capped (f.counts.variables + counts.variables) → IsFrame u (next_frame f sum)
next_is_frame u f c counts sum lt at r k paths variables =
    let t : Forest = call c.function k.below none in
    let p : capped (f.counts.paths + counts.paths) ≡ capped ((1 + calls_in r.before) + (1 + calls_in k.below)) = capped_added f.counts.paths counts.paths (1 + calls_in r.before) (1 + calls_in k.below) r.paths_is k.paths_is in
    let v : capped (f.counts.variables + counts.variables) ≡ capped ((locals_of u f.function + 1 + variables_in u r.before) + (locals_of u c.function + 1 + variables_in u k.below)) =
    capped_added f.counts.variables counts.variables (locals_of u f.function + 1 + variables_in u r.before) (locals_of u c.function + 1 + variables_in u k.below) r.variables_is k.variables_is in
    record {
      has_body = r.has_body;
      within = omega arith;
      before = joined r.before t;
      is_forest = subst (λ fs. IsForest u fs (joined r.before t)) (sym (callees_next u f c lt at)) (forest_pushed u (take f.next (callees u f.function)) c.function r.before k.below r.is_forest k.is_forest);
      paths_is = paths ∙ p ∙ ap (λ (n : ℕ). capped n) (omega (arith, calls_in-joined r.before t));
      variables_is = variables ∙ v ∙ ap (λ (n : ℕ). capped n) (omega (arith, variables_in-joined u r.before t));
    }

-- a call of a function that was left is counted
pub walk_passes : (u : UnitTree) (entry : ℕ) (states : List State) (f : Frame) (below : List Frame) (c : CallSite) (counts sum : Counts) → f.next < length (calls_of u f.function) → c ≡ get_or (calls_of u f.function) f.next c
    → HasBody u c.function → get_or states c.function Fresh ≡ Left counts
    → sum.paths ≡ capped (f.counts.paths + counts.paths) → sum.variables ≡ capped (f.counts.variables + counts.variables) → Walking u entry states (f ∷ below) → Walking u entry states (next_frame f sum ∷ below)
walk_passes u entry states f below c counts sum lt at body state paths variables w =
    let was : Agrees u (path_of (f ∷ below)) w.seen c.function (Left counts) = subst (Agrees u (path_of (f ∷ below)) w.seen c.function) state (w.agrees c.function) in
    record {
      seen = w.seen;
      goes = λ end h. w.goes end (h.0, subst (λ cs. Walks u (path_of (f ∷ below)) w.seen cs h.0) (sym (calls_next u f c lt at)) (left body was.1 was.0 h.1), h.2);
      agrees = w.agrees;
      are_frames = (next_is_frame u f c counts sum lt at w.are_frames.0 was.2 paths variables, w.are_frames.1, w.are_frames.2);
      has_entry = w.has_entry;
      long = w.long;
    }

-- what a walk of a call entered now comes to, the walk of its caller's calls does
enters_after : (u : UnitTree) (f : Frame) (below : List Frame) (seen : List ℕ) (c : CallSite) (rest : List CallSite) (end o : Outcome) → calls_left u f ≡ c ∷ rest → HasBody u c.function
    → (Contains (path_of (f ∷ below)) c.function → ⊥) → (Contains seen c.function → ⊥)
    → Walks u (c.function ∷ path_of (f ∷ below)) (c.function ∷ seen) (calls_of u c.function) o → After u (f ∷ below) o end → After u (f ∷ below) (walked seen) end
enters_after u f below seen c rest end (walked after) is body off new w (o, v, a) =
    let v' : Walks u (path_of (f ∷ below)) after rest o = passed_over u body off (grows u w c.function (contains_here c.function seen)) (subst (λ cs. Walks u (path_of (f ∷ below)) after cs o) is v) in
    (o, subst (λ cs. Walks u (path_of (f ∷ below)) seen cs o) (sym is) (entered body off new w v'), a)
enters_after u f below seen c rest end (recursion names) is body off new w a =
    (recursion names, subst (λ cs. Walks u (path_of (f ∷ below)) seen cs (recursion names)) (sym is) (refused body off new w tt), after_refusal u below (recursion names) end tt a)
enters_after u f below seen c rest end (undefined name at) is body off new w a =
    (undefined name at, subst (λ cs. Walks u (path_of (f ∷ below)) seen cs (undefined name at)) (sym is) (refused body off new w tt), after_refusal u below (undefined name at) end tt a)

-- a call of a function that is entered now
pub walk_enters : (u : UnitTree) (entry : ℕ) (states : List State) (f : Frame) (below : List Frame) (c : CallSite) (counts : Counts) → c.function < length states → f.next < length (calls_of u f.function) → c ≡ get_or (calls_of u f.function) f.next c
    → HasBody u c.function → get_or states c.function Fresh ≡ Fresh → counts.paths ≡ 1 → counts.variables ≡ capped (locals_of u c.function + 1)
    → Walking u entry states (f ∷ below) → Walking u entry (set states c.function OnPath) (first_frame c.function counts ∷ f ∷ below)
walk_enters u entry states f below c counts in_states lt at body state paths variables w =
    let path : List ℕ = path_of (f ∷ below) in
    let was : Agrees u path w.seen c.function Fresh = subst (Agrees u path w.seen c.function) state (w.agrees c.function) in
    record {
      seen = c.function ∷ w.seen;
      goes = λ end h. w.goes end (enters_after u f below w.seen c (drop (f.next + 1) (calls_of u f.function)) end h.0 (calls_next u f c lt at) body was.1 was.0 h.1 h.2);
      agrees = λ g. set_agrees u (c.function ∷ path) (c.function ∷ w.seen) states c.function g OnPath in_states (contains_here c.function path, contains_here c.function w.seen)
          (λ ne. agrees_above u path w.seen c.function g (get_or states g Fresh) ne (w.agrees g));
      are_frames = (first_is_frame u c.function counts body paths variables, was.1, w.are_frames);
      has_entry = contains_there c.function entry w.seen w.has_entry;
      long = length-set states c.function OnPath ∙ w.long;
    }

-- a call on the path, or of a function without a body, ends the walk
pub walk_recurs : (u : UnitTree) (entry : ℕ) (states : List State) (f : Frame) (below : List Frame) (c : CallSite) → f.next < length (calls_of u f.function) → c ≡ get_or (calls_of u f.function) f.next c
    → HasBody u c.function → get_or states c.function Fresh ≡ OnPath → Walking u entry states (f ∷ below) → WalksFrom u entry (recursion (cycle_of u c.function (path_of (f ∷ below))))
walk_recurs u entry states f below c lt at body state w =
    let on : Agrees u (path_of (f ∷ below)) w.seen c.function OnPath = subst (Agrees u (path_of (f ∷ below)) w.seen c.function) state (w.agrees c.function) in
    let o : Outcome = recursion (cycle_of u c.function (path_of (f ∷ below))) in
    w.goes o (o, subst (λ cs. Walks u (path_of (f ∷ below)) w.seen cs o) (sym (calls_next u f c lt at)) (recursive body on.0), after_refusal u below o o tt refl)

pub walk_undefined : (u : UnitTree) (entry : ℕ) (states : List State) (f : Frame) (below : List Frame) (c : CallSite) → f.next < length (calls_of u f.function) → c ≡ get_or (calls_of u f.function) f.next c
    → (HasBody u c.function → ⊥) → Walking u entry states (f ∷ below) → WalksFrom u entry (undefined (name_of u c.function) c.at)
walk_undefined u entry states f below c lt at bodiless_is w =
    let o : Outcome = undefined (name_of u c.function) c.at in
    w.goes o (o, subst (λ cs. Walks u (path_of (f ∷ below)) w.seen cs o) (sym (calls_next u f c lt at)) (bodiless bodiless_is), after_refusal u below o o tt refl)

-- at the end the entry was left
pub entry_left : (u : UnitTree) (entry : ℕ) (states : List State) (counts : Counts) → Walking u entry states [] → get_or states entry Fresh ≡ Left counts → IsCounted u entry counts.paths counts.variables
entry_left u entry states counts w state = (subst (Agrees u [] w.seen entry) state (w.agrees entry)).2

pub entry_not_fresh : (u : UnitTree) (entry : ℕ) (states : List State) → Walking u entry states [] → get_or states entry Fresh ≡ Fresh → ⊥
entry_not_fresh u entry states w state = (subst (Agrees u [] w.seen entry) state (w.agrees entry)).0 w.has_entry

pub entry_not_on_path : (u : UnitTree) (entry : ℕ) (states : List State) → Walking u entry states [] → get_or states entry Fresh ≡ OnPath → ⊥
entry_not_on_path u entry states w state = contains_none entry (subst (Agrees u [] w.seen entry) state (w.agrees entry)).0

-- all frames are left: the walk isn't refused, and the entry is counted
pub walk_ends : (u : UnitTree) (entry : ℕ) (states : List State) → Walking u entry states [] → (seen : List ℕ) × WalksFrom u entry (walked seen)
walk_ends u entry states w = (w.seen, w.goes (walked w.seen) refl)

-- the measure of the loop: the calls that are left, and twice each function that isn't entered yet

abbrev pub frames_left : UnitTree → List Frame → ℕ
frames_left u [] = 0
frames_left u (f ∷ below) = (length (calls_of u f.function) - f.next) + 1 + frames_left u below

abbrev pub state_weight : UnitTree → ℕ → State → ℕ
state_weight u f Fresh = length (calls_of u f) + 2
state_weight u f OnPath = 0
state_weight u f (Left c) = 0

abbrev pub states_left : UnitTree → ℕ → List State → ℕ
states_left u f [] = 0
states_left u f (s ∷ rest) = state_weight u f s + states_left u (f + 1) rest

pub states_left-set : (u : UnitTree) (n i : ℕ) (states : List State) (s : State) → i < length states → states_left u n (set states i s) + state_weight u (n + i) (get_or states i Fresh) ≡ states_left u n states + state_weight u (n + i) s
states_left-set u n i [] s lt = absurd (omega arith)
states_left-set u n zero (t ∷ rest) s lt =
    let e : n + 0 ≡ n = omega arith in
    subst (λ (k : ℕ). (state_weight u n s + states_left u (n + 1) rest) + state_weight u k t ≡ (state_weight u n t + states_left u (n + 1) rest) + state_weight u k s) (sym e) (omega arith)
states_left-set u n (suc i) (t ∷ rest) s lt =
    let e : (n + 1) + i ≡ n + suc i = omega arith in
    let more : states_left u (n + 1) (set rest i s) + state_weight u ((n + 1) + i) (get_or rest i Fresh) ≡ states_left u (n + 1) rest + state_weight u ((n + 1) + i) s = states_left-set u (n + 1) i rest s (omega arith) in
    let moved : states_left u (n + 1) (set rest i s) + state_weight u (n + suc i) (get_or rest i Fresh) ≡ states_left u (n + 1) rest + state_weight u (n + suc i) s =
    subst (λ (k : ℕ). states_left u (n + 1) (set rest i s) + state_weight u k (get_or rest i Fresh) ≡ states_left u (n + 1) rest + state_weight u k s) e more in
    omega arith

pub states_left-entered : (u : UnitTree) (states : List State) (i : ℕ) → i < length states → get_or states i Fresh ≡ Fresh → states_left u 0 (set states i OnPath) + (length (calls_of u i) + 2) ≡ states_left u 0 states
states_left-entered u states i lt state =
    let s : states_left u 0 (set states i OnPath) + state_weight u (0 + i) (get_or states i Fresh) ≡ states_left u 0 states + 0 = states_left-set u 0 i states OnPath lt in
    let t : states_left u 0 (set states i OnPath) + state_weight u (0 + i) Fresh ≡ states_left u 0 states + 0 = subst (λ (st : State). states_left u 0 (set states i OnPath) + state_weight u (0 + i) st ≡ states_left u 0 states + 0) state s in
    let e : 0 + i ≡ i = omega arith in
    let v : states_left u 0 (set states i OnPath) + state_weight u i Fresh ≡ states_left u 0 states + 0 = subst (λ (k : ℕ). states_left u 0 (set states i OnPath) + state_weight u k Fresh ≡ states_left u 0 states + 0) e t in
    omega (arith, v)

pub states_left-left : (u : UnitTree) (states : List State) (i : ℕ) (c : Counts) → i < length states → states_left u 0 (set states i (Left c)) ≤ states_left u 0 states
states_left-left u states i c lt =
    let s : states_left u 0 (set states i (Left c)) + state_weight u (0 + i) (get_or states i Fresh) ≡ states_left u 0 states + 0 = states_left-set u 0 i states (Left c) lt in omega (arith, s)
