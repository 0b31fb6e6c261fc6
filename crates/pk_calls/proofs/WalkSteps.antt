-- The steps of the walk as the code takes them: the frames of a `Vec`, the last one taken off.
use Rattle.std.proofs.Common.{◌≡◌, ◌<◌, ◌≤◌, ℕ, ◌+◌, List, [], ◌∷◌, ◌++◌, length, reverse, get_or, arith, refl, sym, ◌∙◌, ap, subst}
use Rattle.std.proofs.Math.ListN.{set}
use Rattle.std.proofs.lemmas.List.{reverse-append}
use Rattle.pk_typed.specs.declared.units.CallSite.{CallSite}
use Rattle.pk_typed.specs.declared.units.Unit as declared_unit
use Rattle.pk_typed.specs.Views.{unit_tree}
use Rattle.pk_calls.specs.declared.walk.Counts.{Counts}
use Rattle.pk_calls.specs.declared.walk.Frame.{Frame}
use Rattle.pk_calls.specs.declared.walk.State.{State}
use Rattle.pk_calls.specs.declared.walk.State.TheVariants.{Fresh, OnPath, Left}
use Rattle.pk_calls.specs.Calls.{HasBody, calls_of, locals_of, name_of}
use Rattle.pk_calls.specs.Forests.{capped}
use Rattle.pk_calls.specs.Frames.{path_of}
use Rattle.pk_calls.specs.Walk.{recursion, undefined, WalksFrom, cycle_of}
use Rattle.pk_calls.proofs.CallLemmas.{has_body_in, functions_long}
use Rattle.pk_calls.proofs.Walking.{Walking, walk_leaves, walk_passes, walk_enters, walk_recurs, walk_undefined, site_of, site_at, state_read, first_frame, next_frame, frames_left, states_left, states_left-entered, states_left-left}

-- these frames are the others and one more
abbrev pub IsPushed : List Frame → List Frame → Frame → Type 0
IsPushed frames others f = frames ≡ others ++ f ∷ []

pub reverse_pushed : (frames others : List Frame) (f : Frame) → IsPushed frames others f → reverse frames ≡ f ∷ reverse others
reverse_pushed frames others f is = ap reverse is ∙ reverse-append others (f ∷ [])

-- the invariant of the loop
abbrev pub Goes : declared_unit.Unit → ℕ → List State → List Frame → Type 0
Goes u entry states frames = Walking (unit_tree u) entry states (reverse frames)

pub pushed_goes : (u : declared_unit.Unit) (entry : ℕ) (states : List State) (frames others : List Frame) (f : Frame) → IsPushed frames others f → Walking (unit_tree u) entry states (f ∷ reverse others) → Goes u entry states frames
pushed_goes u entry states frames others f is w = subst (Walking (unit_tree u) entry states) (sym (reverse_pushed frames others f is)) w

pub goes_popped : (u : declared_unit.Unit) (entry : ℕ) (states : List State) (frames others : List Frame) (f : Frame) → IsPushed frames others f → Goes u entry states frames → Walking (unit_tree u) entry states (f ∷ reverse others)
goes_popped u entry states frames others f is w = subst (Walking (unit_tree u) entry states) (reverse_pushed frames others f is) w

-- a function with a body has a state
pub has_state : (u : declared_unit.Unit) (entry : ℕ) (states : List State) (frames : List Frame) (f : ℕ) → Walking (unit_tree u) entry states frames → HasBody (unit_tree u) f → f < length states
has_state u entry states frames f w body =
    let lt : f < length u.functions.items = has_body_in u f body in
    let long : length states ≡ length (unit_tree u).functions = w.long in
    let same : length (unit_tree u).functions ≡ length u.functions.items = functions_long u in omega arith

pub has_frame_state : (u : declared_unit.Unit) (entry : ℕ) (states : List State) (frames others : List Frame) (f : Frame) → IsPushed frames others f → Goes u entry states frames → f.function < length states
has_frame_state u entry states frames others f is w = let v = goes_popped u entry states frames others f is w in has_state u entry states (f ∷ reverse others) f.function v v.are_frames.0.has_body

-- A frame with a call left, and the calls of its function.
pub record AtCall (u : declared_unit.Unit) (entry : ℕ) (states : List State) (frames others : List Frame) (f : Frame) (xs : List CallSite) : Type 0 where
  pub is_pushed : IsPushed frames others f
  pub goes : Goes u entry states frames
  pub calls : xs ≡ calls_of (unit_tree u) f.function
  pub more : f.next ≡ length xs → ⊥

abbrev walking_of : {u : declared_unit.Unit} {entry : ℕ} {states : List State} {frames others : List Frame} {f : Frame} {xs : List CallSite} → AtCall u entry states frames others f xs → Walking (unit_tree u) entry states (f ∷ reverse others)
walking_of {u} {entry} {states} {frames} {others} {f} a = goes_popped u entry states frames others f a.is_pushed a.goes

call_within : (n k m : ℕ) → (n ≡ k → ⊥) → k ≡ m → n ≤ m → n < m
call_within n k m ne e le = omega arith

is_left : {u : declared_unit.Unit} {entry : ℕ} {states : List State} {frames others : List Frame} {f : Frame} {xs : List CallSite} → AtCall u entry states frames others f xs → f.next < length (calls_of (unit_tree u) f.function)
is_left {u} {f = f} {xs = xs} a = call_within f.next (length xs) (length (calls_of (unit_tree u) f.function)) a.more (ap {B = ℕ} length a.calls) (walking_of a).are_frames.0.within

pub is_read : {u : declared_unit.Unit} {entry : ℕ} {states : List State} {frames others : List Frame} {f : Frame} {xs : List CallSite} → AtCall u entry states frames others f xs → f.next < length xs
is_read {u} {f = f} {xs = xs} a = let lt : f.next < length (calls_of (unit_tree u) f.function) = is_left a in let e : length xs ≡ length (calls_of (unit_tree u) f.function) = ap {B = ℕ} length a.calls in omega arith

is_site : {u : declared_unit.Unit} {entry : ℕ} {states : List State} {frames others : List Frame} {f : Frame} {xs : List CallSite} → AtCall u entry states frames others f xs
    → site_of xs f.next ≡ get_or (calls_of (unit_tree u) f.function) f.next (site_of xs f.next)
is_site {u} {f = f} {xs = xs} a = site_at (unit_tree u) f.function f.next xs a.calls (is_read a)

-- the state of its next call's function
pub site_state : {u : declared_unit.Unit} {entry : ℕ} {states : List State} {frames others : List Frame} {f : Frame} {xs : List CallSite} → AtCall u entry states frames others f xs
    → HasBody (unit_tree u) (site_of xs f.next).function → (site_of xs f.next).function < length states
site_state {u} {entry} {states} {others = others} {f = f} {xs = xs} a body = has_state u entry states (f ∷ reverse others) (site_of xs f.next).function (walking_of a) body

-- the steps

pub steps_out : (u : declared_unit.Unit) (entry : ℕ) (states : List State) (frames others : List Frame) (f : Frame) (xs : List CallSite) → IsPushed frames others f → Goes u entry states frames → xs ≡ calls_of (unit_tree u) f.function → f.next ≡ length xs
    → Goes u entry (set states f.function (Left f.counts)) others
steps_out u entry states frames others f xs is w calls ended =
    walk_leaves (unit_tree u) entry states f (reverse others) (has_frame_state u entry states frames others f is w) (ended ∙ ap {B = ℕ} length calls) (goes_popped u entry states frames others f is w)

pub steps_over : {u : declared_unit.Unit} {entry : ℕ} {states : List State} {frames others : List Frame} {f : Frame} {xs : List CallSite} → AtCall u entry states frames others f xs
    → (next : List Frame) (below sum : Counts) (r : State) → HasBody (unit_tree u) (site_of xs f.next).function → r ≡ get_or states (site_of xs f.next).function r → r ≡ Left below
    → sum.paths ≡ capped (f.counts.paths + below.paths) → sum.variables ≡ capped (f.counts.variables + below.variables) → IsPushed next others (next_frame f sum) → Goes u entry states next
steps_over {u} {entry} {states} {others = others} {f = f} {xs = xs} a next below sum r body read is paths variables pushed =
    pushed_goes u entry states next others (next_frame f sum) pushed
    (walk_passes (unit_tree u) entry states f (reverse others) (site_of xs f.next) below sum (is_left a) (is_site a) body (state_read states (site_of xs f.next).function r (Left below) (site_state a body) read is) paths variables (walking_of a))

pub steps_in : {u : declared_unit.Unit} {entry : ℕ} {states : List State} {frames others : List Frame} {f : Frame} {xs : List CallSite} → AtCall u entry states frames others f xs
    → (back next : List Frame) (counts : Counts) (r : State) → HasBody (unit_tree u) (site_of xs f.next).function → r ≡ get_or states (site_of xs f.next).function r → r ≡ Fresh
    → counts.paths ≡ 1 → counts.variables ≡ capped (locals_of (unit_tree u) (site_of xs f.next).function + 1) → IsPushed back others f → IsPushed next back (first_frame (site_of xs f.next).function counts)
    → Goes u entry (set states (site_of xs f.next).function OnPath) next
steps_in {u} {entry} {states} {others = others} {f = f} {xs = xs} a back next counts r body read is paths variables pushed again =
    let g : ℕ = (site_of xs f.next).function in
    pushed_goes u entry (set states g OnPath) next back (first_frame g counts) again
    (subst (λ (fs : List Frame). Walking (unit_tree u) entry (set states g OnPath) (first_frame g counts ∷ fs)) (sym (reverse_pushed back others f pushed))
    (walk_enters (unit_tree u) entry states f (reverse others) (site_of xs f.next) counts (site_state a body) (is_left a) (is_site a) body (state_read states g r Fresh (site_state a body) read is) paths variables (walking_of a)))

pub meets_recursion : {u : declared_unit.Unit} {entry : ℕ} {states : List State} {frames others : List Frame} {f : Frame} {xs : List CallSite} → AtCall u entry states frames others f xs
    → (back : List Frame) (names : List (List ℕ)) (r : State) → HasBody (unit_tree u) (site_of xs f.next).function → r ≡ get_or states (site_of xs f.next).function r → r ≡ OnPath → IsPushed back others f
    → names ≡ cycle_of (unit_tree u) (site_of xs f.next).function (path_of (reverse back)) → WalksFrom (unit_tree u) entry (recursion names)
meets_recursion {u} {entry} {states} {others = others} {f = f} {xs = xs} a back names r body read is pushed cycle =
    let g : ℕ = (site_of xs f.next).function in
    subst (λ (n : List (List ℕ)). WalksFrom (unit_tree u) entry (recursion n)) (sym (cycle ∙ ap (λ (fs : List Frame). cycle_of (unit_tree u) g (path_of fs)) (reverse_pushed back others f pushed)))
    (walk_recurs (unit_tree u) entry states f (reverse others) (site_of xs f.next) (is_left a) (is_site a) body (state_read states g r OnPath (site_state a body) read is) (walking_of a))

pub meets_bodiless : {u : declared_unit.Unit} {entry : ℕ} {states : List State} {frames others : List Frame} {f : Frame} {xs : List CallSite} → AtCall u entry states frames others f xs
    → (name : List ℕ) → (HasBody (unit_tree u) (site_of xs f.next).function → ⊥) → name ≡ name_of (unit_tree u) (site_of xs f.next).function → WalksFrom (unit_tree u) entry (undefined name (site_of xs f.next).at)
meets_bodiless {u} {entry} {states} {others = others} {f = f} {xs = xs} a name none is =
    subst (λ (n : List ℕ). WalksFrom (unit_tree u) entry (undefined n (site_of xs f.next).at)) (sym is) (walk_undefined (unit_tree u) entry states f (reverse others) (site_of xs f.next) (is_left a) (is_site a) none (walking_of a))

-- the measure falls

abbrev pub steps_left : declared_unit.Unit → List State → List Frame → ℕ
steps_left u states frames = frames_left (unit_tree u) (reverse frames) + states_left (unit_tree u) 0 states

pub out_is_less : (u : declared_unit.Unit) (entry : ℕ) (states : List State) (frames others : List Frame) (f : Frame) → IsPushed frames others f → Goes u entry states frames → steps_left u (set states f.function (Left f.counts)) others < steps_left u states frames
out_is_less u entry states frames others f is w =
    let e : frames_left (unit_tree u) (reverse frames) ≡ frames_left (unit_tree u) (f ∷ reverse others) = ap {B = ℕ} (frames_left (unit_tree u)) (reverse_pushed frames others f is) in
    let s : states_left (unit_tree u) 0 (set states f.function (Left f.counts)) ≤ states_left (unit_tree u) 0 states = states_left-left (unit_tree u) states f.function f.counts (has_frame_state u entry states frames others f is w) in
    omega (arith, e, s)

pub over_is_less : {u : declared_unit.Unit} {entry : ℕ} {states : List State} {frames others : List Frame} {f : Frame} {xs : List CallSite} → AtCall u entry states frames others f xs → (next : List Frame) (sum : Counts) → IsPushed next others (next_frame f sum)
    → steps_left u states next < steps_left u states frames
over_is_less {u} {frames = frames} {others} {f} a next sum pushed =
    let e : frames_left (unit_tree u) (reverse frames) ≡ frames_left (unit_tree u) (f ∷ reverse others) = ap {B = ℕ} (frames_left (unit_tree u)) (reverse_pushed frames others f a.is_pushed) in
    let n : frames_left (unit_tree u) (reverse next) ≡ frames_left (unit_tree u) (next_frame f sum ∷ reverse others) = ap {B = ℕ} (frames_left (unit_tree u)) (reverse_pushed next others (next_frame f sum) pushed) in
    let lt : f.next < length (calls_of (unit_tree u) f.function) = is_left a in omega (arith, e, n, lt)

pub in_is_less : {u : declared_unit.Unit} {entry : ℕ} {states : List State} {frames others : List Frame} {f : Frame} {xs : List CallSite} → AtCall u entry states frames others f xs
    → (back next : List Frame) (counts : Counts) (r : State) → HasBody (unit_tree u) (site_of xs f.next).function → r ≡ get_or states (site_of xs f.next).function r → r ≡ Fresh
    → IsPushed back others f → IsPushed next back (first_frame (site_of xs f.next).function counts) → steps_left u (set states (site_of xs f.next).function OnPath) next < steps_left u states frames
in_is_less {u} {states = states} {frames} {others} {f} {xs} a back next counts r body read is pushed again =
    let g : ℕ = (site_of xs f.next).function in
    let e : frames_left (unit_tree u) (reverse frames) ≡ frames_left (unit_tree u) (f ∷ reverse others) = ap {B = ℕ} (frames_left (unit_tree u)) (reverse_pushed frames others f a.is_pushed) in
    let b : frames_left (unit_tree u) (reverse back) ≡ frames_left (unit_tree u) (f ∷ reverse others) = ap {B = ℕ} (frames_left (unit_tree u)) (reverse_pushed back others f pushed) in
    let n : frames_left (unit_tree u) (reverse next) ≡ frames_left (unit_tree u) (first_frame g counts ∷ reverse back) = ap {B = ℕ} (frames_left (unit_tree u)) (reverse_pushed next back (first_frame g counts) again) in
    let s : states_left (unit_tree u) 0 (set states g OnPath) + (length (calls_of (unit_tree u) g) + 2) ≡ states_left (unit_tree u) 0 states = states_left-entered (unit_tree u) states g (site_state a body) (state_read states g r Fresh (site_state a body) read is) in
    omega (arith, e, b, n, s)

-- at the end no frame is left

none_left : (frames : List Frame) → length frames ≡ 0 → reverse frames ≡ []
none_left [] e = refl
none_left (f ∷ fs) e = absurd (omega arith)

pub ends : (u : declared_unit.Unit) (entry : ℕ) (states : List State) (frames : List Frame) (n : ℕ) → length frames ≡ n → n ≡ 0 → Goes u entry states frames → Walking (unit_tree u) entry states []
ends u entry states frames n long e w = subst (Walking (unit_tree u) entry states) (none_left frames (long ∙ e)) w
