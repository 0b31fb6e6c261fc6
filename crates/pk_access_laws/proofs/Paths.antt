-- No two paths of a unit's graph are entered by one call.
use Rattle.std.specs.Prelude.{◌≡◌, ℕ, zero, suc, ◌+◌, ◌<◌, ◌≤◌, nat_eq, ◌&&◌, Bool, if◌then◌else◌, List, [], ◌∷◌, map, Option, Some, None, All, IfSome, option_map, unwrap_or, length, slice_get, slice_index_or, ◌⊎◌}
use Rattle.std.specs.Option.{option_and_then}
use Rattle.std.proofs.Common.{arith, refl, sym, ap, ◌∙◌, inl, inr, subst}
use Rattle.std.proofs.lemmas.Bool.{cases_lt, eq-eqb}
use Rattle.std.proofs.lemmas.List.Elements.{All-head, All-tail}
use Rattle.std.proofs.lemmas.Option.{slice_get-map, slice_get-get_or}
use Rattle.pk_ctypes.specs.declared.places.Pos.{Pos}
use Rattle.pk_typed.specs.declared.units.CallSite.{CallSite}
use Rattle.pk_typed.specs.Trees.{BodyTree, FunctionTree, UnitTree}
use Rattle.pk_typed.specs.Defaults.{nowhere_in_text}
use Rattle.pk_calls.specs.declared.listings.CallPath.{CallPath}
use Rattle.pk_calls.specs.Calls.{body_of, calls_of}
use Rattle.pk_calls.specs.Paths.{entry_path, path_by, longer, LeadsTo, IsListing}
use Rattle.pk_calls.proofs.LeadLemmas.{longer_is, leads_by, leads_once}
use Rattle.pk_graph.specs.declared.trees.Site.{Site}
use Rattle.pk_graph.specs.Graphs.{PathOf}
use Rattle.pk_lower.specs.Paths.{place_of, path_of}
use Rattle.pk_access_laws.specs.Laws.{one_at, in_calls, HasCallsApart, CallsAreApart, EnteredOnce, PathsAreApart, HasCalls, entered_by_none, entered_by, CallsTellPaths, PathsHaveCalls}

-- ---- calls of a function

abbrev one_if : Bool → ℕ
one_if b = if b then 1 else 0

itself : (l c : ℕ) → one_if (nat_eq l l && nat_eq c c) ≡ 1
itself l c =
    ap (λ (b : Bool). one_if (b && nat_eq c c)) (eq-eqb l l refl)
    ∙ ap (λ (b : Bool). one_if b) (eq-eqb c c refl)

call_counts : (at : Pos) (cs : List CallSite) (k : ℕ) (c : CallSite) → slice_get cs k ≡ Some c → c.at ≡ at → 1 ≤ in_calls (one_at at) cs
call_counts at [] k c h e = absurd (cc h)
call_counts at (x ∷ cs) zero c h e =
    let same : x ≡ c = cc h in
    let here : one_at at x.at ≡ 1 = ap (λ (y : CallSite). one_at at y.at) same ∙ ap (one_at at) e ∙ itself at.line at.column in
    omega (arith, here)
call_counts at (x ∷ cs) (suc k) c h e = omega (arith, call_counts at cs k c h e)

two_calls : (at : Pos) (cs : List CallSite) (i j : ℕ) (c d : CallSite) → i < j → slice_get cs i ≡ Some c → slice_get cs j ≡ Some d → c.at ≡ at → d.at ≡ at → 2 ≤ in_calls (one_at at) cs
two_calls at [] i j c d l h k e f = absurd (cc h)
two_calls at (x ∷ cs) i zero c d l h k e f = absurd (omega (arith, l))
two_calls at (x ∷ cs) zero (suc j) c d l h k e f =
    let same : x ≡ c = cc h in
    let here : one_at at x.at ≡ 1 = ap (λ (y : CallSite). one_at at y.at) same ∙ ap (one_at at) e ∙ itself at.line at.column in
    omega (arith, here, call_counts at cs j d k f)
two_calls at (x ∷ cs) (suc i) (suc j) c d l h k e f = omega (arith, two_calls at cs i j c d (omega (arith, l)) h k e f)

functions_once : (at : Pos) (fs : List FunctionTree) (f : ℕ) → All (λ (g : FunctionTree). IfSome g.body HasCallsApart) fs → in_calls (one_at at) (unwrap_or (option_map (λ (b : BodyTree). b.calls) (option_and_then (λ (g : FunctionTree). g.body) (slice_get fs f))) []) ≤ 1
functions_once at [] f h = omega arith
functions_once at (g ∷ fs) zero h = by g.body (All-head (λ (g : FunctionTree). IfSome g.body HasCallsApart) g fs h)
  where
    by : (o : Option BodyTree) → IfSome o HasCallsApart → in_calls (one_at at) (unwrap_or (option_map (λ (b : BodyTree). b.calls) o) []) ≤ 1
    by None k = omega arith
    by (Some b) k = k at
functions_once at (g ∷ fs) (suc f) h = functions_once at fs f (All-tail (λ (g : FunctionTree). IfSome g.body HasCallsApart) g fs h)

calls_once : (at : Pos) (u : UnitTree) (f : ℕ) → CallsAreApart u → in_calls (one_at at) (calls_of u f) ≤ 1
unfolding calls_of body_of
calls_once at u f h = functions_once at u.functions f h

no_later : (u : UnitTree) (f : ℕ) → CallsAreApart u → (i j : ℕ) (c d : CallSite) → slice_get (calls_of u f) i ≡ Some c → slice_get (calls_of u f) j ≡ Some d → c.at ≡ d.at → j ≤ i
no_later u f a i j c d h k e = by (cases_lt i j)
  where
    by : (i < j) ⊎ (j ≤ i) → j ≤ i
    by (inl l) = absurd (omega (arith, two_calls d.at (calls_of u f) i j c d l h k e refl, calls_once d.at u f a))
    by (inr l) = l

one_call : (u : UnitTree) (f : ℕ) → CallsAreApart u → (i j : ℕ) (c d : CallSite) → slice_get (calls_of u f) i ≡ Some c → slice_get (calls_of u f) j ≡ Some d → c.at ≡ d.at → i ≡ j
one_call u f a i j c d h k e = omega (arith, no_later u f a i j c d h k e, no_later u f a j i d c k h (sym e))

-- ---- paths

-- a path behind the entry, by the call that enters it
record IsEntered (u : UnitTree) (paths : List CallPath) (i : ℕ) (a : CallPath) : Type 0 where
  pub from : ℕ
  pub call : ℕ
  pub caller : CallPath
  pub site : CallSite
  pub its_caller : slice_get paths from ≡ Some caller
  pub its_call : slice_get (calls_of u caller.function) call ≡ Some site
  pub leads : LeadsTo (longer u 0 paths) from call i
  pub entered : (path_of u paths a).call ≡ Some (record { path = from; at = site.at })

site_is : (u : UnitTree) (paths : List CallPath) (from call f : ℕ) (p : CallPath) (c : CallSite) → slice_get paths from ≡ Some p → slice_get (calls_of u p.function) call ≡ Some c
    → (path_of u paths (path_by from call f)).call ≡ Some (record { path = from; at = c.at })
site_is u paths from call f p c h k =
    ap (λ (o : Option CallPath). Some (record { path = from; at = unwrap_or (option_map (λ (q : CallPath). place_of u q.function call) o) nowhere_in_text })) h
    ∙ ap (λ (o : Option CallSite). Some (record { path = from; at = unwrap_or (option_map (λ (s : CallSite). s.at) o) nowhere_in_text })) k

is_entered : (u : UnitTree) (paths : List CallPath) (i : ℕ) (a : CallPath) → slice_get (longer u 0 paths) i ≡ Some a → IsEntered u paths i a
is_entered u paths i a h =
    let by = longer_is u 0 paths i a h in
    let number : 0 + by.0 ≡ by.0 = omega arith in
    let e : a ≡ path_by by.0 by.1 (by.3).function = by.6 ∙ ap (λ (m : ℕ). path_by m by.1 (by.3).function) number in
    let there : slice_get (longer u 0 paths) i ≡ Some (path_by by.0 by.1 (by.3).function) = h ∙ ap (λ (p : CallPath). Some p) e in
    record {
      from = by.0;
      call = by.1;
      caller = by.2;
      site = by.3;
      its_caller = by.4;
      its_call = by.5;
      leads = leads_by (longer u 0 paths) by.0 by.1 i (by.3).function there;
      entered = ap (λ (p : CallPath). (path_of u paths p).call) e ∙ site_is u paths by.0 by.1 (by.3).function by.2 by.3 by.4 by.5;
    }

-- paths that are entered by one call are one
same_path : (u : UnitTree) (paths : List CallPath) → CallsAreApart u → (i j : ℕ) (a b : CallPath) (x : IsEntered u paths i a) (y : IsEntered u paths j b) → x.from ≡ y.from → x.site.at ≡ y.site.at → i ≡ j
same_path u paths h i j a b x y e f =
    let callers : x.caller ≡ y.caller = ap (λ (o : Option CallPath). unwrap_or o x.caller) (sym x.its_caller ∙ ap (slice_get paths) e ∙ y.its_caller) in
    let its : slice_get (calls_of u y.caller.function) x.call ≡ Some x.site = subst (λ (p : CallPath). slice_get (calls_of u p.function) x.call ≡ Some x.site) callers x.its_call in
    let calls : x.call ≡ y.call = one_call u y.caller.function h x.call y.call x.site y.site its y.its_call f in
    let leads : LeadsTo (longer u 0 paths) y.from y.call i = subst (λ (n : ℕ). LeadsTo (longer u 0 paths) n y.call i) e (subst (λ (n : ℕ). LeadsTo (longer u 0 paths) x.from n i) calls x.leads) in
    leads_once u 0 paths y.from y.call i j leads y.leads

no_site : (s : Site) → None ≡ Some s → ⊥
no_site s e = cc

-- the entry is entered by no call
entry_is : (u : UnitTree) (entry : ℕ) (paths : List CallPath) → IsListing u entry paths → (a : CallPath) → slice_get paths 0 ≡ Some a → (path_of u paths a).call ≡ None
entry_is u entry paths l a h =
    let e : entry_path entry ≡ a = ap (λ (o : Option CallPath). unwrap_or o a) (sym (ap (λ (ps : List CallPath). slice_get ps 0) l.in_order) ∙ h) in
    ap (λ (p : CallPath). (path_of u paths p).call) (sym e)

other_is : (u : UnitTree) (entry : ℕ) (paths : List CallPath) → IsListing u entry paths → (i : ℕ) (a : CallPath) → slice_get paths (suc i) ≡ Some a → IsEntered u paths i a
other_is u entry paths l i a h = is_entered u paths i a (sym (ap (λ (ps : List CallPath). slice_get ps (suc i)) l.in_order) ∙ h)

apart : (u : UnitTree) (entry : ℕ) (paths : List CallPath) → IsListing u entry paths → CallsAreApart u → (i j : ℕ) (a b : CallPath) → slice_get paths i ≡ Some a → slice_get paths j ≡ Some b
    → (path_of u paths a).call ≡ (path_of u paths b).call → i ≡ j
apart u entry paths l c zero zero a b h k e = refl
apart u entry paths l c zero (suc j) a b h k e =
    absurd (no_site _ (sym (entry_is u entry paths l a h) ∙ e ∙ (other_is u entry paths l j b k).entered))
apart u entry paths l c (suc i) zero a b h k e =
    absurd (no_site _ (sym (entry_is u entry paths l b k) ∙ sym e ∙ (other_is u entry paths l i a h).entered))
apart u entry paths l c (suc i) (suc j) a b h k e =
    let x = other_is u entry paths l i a h in
    let y = other_is u entry paths l j b k in
    let s : Site = record { path = x.from; at = x.site.at } in
    let z = sym x.entered ∙ e ∙ y.entered in
    ap (λ (n : ℕ). suc n) (same_path u paths c i j a b x y (ap (λ (o : Option Site). (unwrap_or o s).path) z) (ap (λ (o : Option Site). (unwrap_or o s).at) z))

-- where both are there
both_there : (u : UnitTree) (entry : ℕ) (paths : List CallPath) → IsListing u entry paths → CallsAreApart u → (i j : ℕ) (p q : PathOf) (o r : Option CallPath) → slice_get paths i ≡ o → slice_get paths j ≡ r
    → option_map (path_of u paths) o ≡ Some p → option_map (path_of u paths) r ≡ Some q → p.call ≡ q.call → i ≡ j
both_there u entry paths l c i j p q None r h k e f g = absurd (cc e)
both_there u entry paths l c i j p q (Some a) None h k e f g = absurd (cc f)
both_there u entry paths l c i j p q (Some a) (Some b) h k e f g =
    apart u entry paths l c i j a b h k (ap (λ (o : Option PathOf). (unwrap_or o p).call) e ∙ g ∙ ap (λ (o : Option PathOf). (unwrap_or o q).call) (sym f))

pub paths_are_apart : PathsAreApart
paths_are_apart u entry paths l c i j p q h k e =
    both_there u entry paths l c i j p q (slice_get paths i) (slice_get paths j) refl refl (sym (slice_get-map (path_of u paths) paths i) ∙ h) (sym (slice_get-map (path_of u paths) paths j) ∙ k) e

-- ---- the calls of a path

one_site : (s t : Site) → s.path ≡ t.path → s.at ≡ t.at → s ≡ t
one_site s t e f = ap (λ (n : ℕ). record { path = n; at = s.at }) e ∙ ap (λ (p : Pos). record { path = t.path; at = p }) f

calls_tell : (ps : List PathOf) → EnteredOnce ps → (i j : ℕ) (calls others : List Pos) → HasCalls ps i calls → HasCalls ps j others → calls ≡ others → i ≡ j
calls_tell ps once i j calls others (entered_by_none {p = p} h e) (entered_by_none {p = q} k f) g = once i j p q h k (e ∙ sym f)
calls_tell ps once i j calls others (entered_by_none {p = p} h e) (entered_by {p = q} k f y) g = absurd (cc g)
calls_tell ps once i j calls others (entered_by {p = p} h e x) (entered_by_none {p = q} k f) g = absurd (cc g)
calls_tell ps once i j calls others (entered_by {p = p} {s = s} {calls = cs} h e x) (entered_by {p = q} {s = t} {calls = ds} k f y) g =
    let rest : cs ≡ ds = cc g in
    let here : s.at ≡ t.at = cc g in
    let same : s ≡ t = one_site s t (calls_tell ps once s.path t.path cs ds x y rest) here in
    once i j p q h k (e ∙ ap (λ (r : Site). Some r) same ∙ sym f)

pub calls_tell_paths : CallsTellPaths
calls_tell_paths ps once i j calls x y = calls_tell ps once i j calls calls x y refl

its_path : (u : UnitTree) (paths : List CallPath) (i : ℕ) (a : CallPath) → slice_get paths i ≡ Some a → slice_get (map (path_of u paths) paths) i ≡ Some (path_of u paths a)
its_path u paths i a h = slice_get-map (path_of u paths) paths i ∙ ap (option_map (path_of u paths)) h

have_calls : (u : UnitTree) (entry : ℕ) (paths : List CallPath) → IsListing u entry paths → (bound i : ℕ) → i < bound → i < length paths → (calls : List Pos) × HasCalls (map (path_of u paths) paths) i calls
have_calls u entry paths l zero i m n = absurd (omega arith)
have_calls u entry paths l (suc bound) zero m n =
    let first : slice_get paths 0 ≡ Some (entry_path entry) = ap (λ (ps : List CallPath). slice_get ps 0) l.in_order in
    ([], entered_by_none (its_path u paths 0 (entry_path entry) first) refl)
have_calls u entry paths l (suc bound) (suc k) m n =
    let a : CallPath = slice_index_or paths (suc k) (entry_path entry) in
    let there : slice_get paths (suc k) ≡ Some a = slice_get-get_or paths (suc k) (entry_path entry) n in
    let x = other_is u entry paths l k a there in
    let leads : LeadsTo paths x.from x.call (suc k) = ap (λ (ps : List CallPath). option_and_then (λ (p : CallPath). p.caller) (slice_get ps (suc k))) l.in_order ∙ x.leads in
    let before : x.from < suc k = l.behind x.from x.call (suc k) leads in
    let up = have_calls u entry paths l bound x.from (omega (arith, before, m)) (omega (arith, before, n)) in
    (x.site.at ∷ up.0, entered_by {s = record { path = x.from; at = x.site.at }} (its_path u paths (suc k) a there) x.entered up.1)

pub paths_have_calls : PathsHaveCalls
paths_have_calls u entry paths l i n = have_calls u entry paths l (suc i) i (omega arith) n
