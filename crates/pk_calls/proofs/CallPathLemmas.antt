-- The listed paths are the call paths.
use Rattle.std.proofs.Common.{suc, zero, ◌≡◌, ◌<◌, ℕ, ◌+◌, List, [], ◌∷◌, get_or, arith, refl, sym, ◌∙◌, ap, subst}
use Rattle.std.specs.Prelude.{Option, Some, None, unwrap_or, slice_get}
use Rattle.std.specs.Option.{option_and_then}
use Rattle.std.proofs.lemmas.Option.{slice_get-get_or}
use Rattle.pk_typed.specs.declared.units.CallSite.{CallSite}
use Rattle.pk_typed.specs.Trees.{UnitTree}
use Rattle.pk_calls.specs.declared.listings.CallPath.{CallPath}
use Rattle.pk_calls.specs.declared.listings.Caller.{Caller}
use Rattle.pk_calls.specs.Calls.{HasBody, calls_of, callees}
use Rattle.pk_calls.specs.Forests.{IsForest}
use Rattle.pk_calls.specs.Paths.{entry_path, path_by, longer, LeadsTo, IsListing}
use Rattle.pk_calls.specs.CallPaths.{IsCallPath, alone, with_call, StandsFor, entry_alone, called}
use Rattle.pk_calls.specs.Laws.{PathsAreAll}
use Rattle.pk_calls.proofs.LeadLemmas.{longer_at, longer_is, leads_by, leads_once}
use Rattle.pk_calls.proofs.Listing.{all_listed}
use Rattle.pk_calls.proofs.SoundLemmas.{IsSound, sound_call, entry_sound, descends, head}

abbrev caller_at : List CallPath → ℕ → Option Caller
caller_at ps n = option_and_then (λ (p : CallPath). p.caller) (slice_get ps n)

none_some : (c : Caller) → None ≡ Some c → ⊥
none_some c e = cc

-- behind the entry stand the longer paths
listed_at : (u : UnitTree) (entry i : ℕ) (ps : List CallPath) → IsListing u entry ps → slice_get ps (suc i) ≡ slice_get (longer u 0 ps) i
listed_at u entry i ps is = ap (λ (qs : List CallPath). slice_get qs (suc i)) is.in_order

first_at : (u : UnitTree) (entry : ℕ) (ps : List CallPath) → IsListing u entry ps → slice_get ps 0 ≡ Some (entry_path entry)
first_at u entry ps is = ap (λ (qs : List CallPath). slice_get qs 0) is.in_order

-- the last function of a call path has a body where it is called
last_body : (u : UnitTree) (entry : ℕ) → IsSound u (callees u entry) → (f k : ℕ) (fs calls : List ℕ) (c : CallSite) → IsCallPath u entry (f ∷ fs) calls → slice_get (calls_of u f) k ≡ Some c → HasBody u c.function
last_body u entry s f k fs calls c path at =
    let d = descends u entry s path in
    let last : d.last ≡ f = sym (ap (head f) d.is) in
    (sound_call u (calls_of u f) k c d.below (subst (λ (n : ℕ). IsForest u (callees u n) d.below) last d.is_forest) d.bodies at).0

-- a listed path with its call path
abbrev IsOne : UnitTree → ℕ → List CallPath → ℕ → CallPath → Type 0
IsOne u entry ps number p = (fs calls : List ℕ) × StandsFor ps number (p.function ∷ fs) calls × IsCallPath u entry (p.function ∷ fs) calls

one_more : (u : UnitTree) (entry : ℕ) → IsSound u (callees u entry) → (ps : List CallPath) (m k number : ℕ) (p : CallPath) (c : CallSite) → slice_get ps number ≡ Some (path_by m k c.function) → slice_get (calls_of u p.function) k ≡ Some c
    → IsOne u entry ps m p → IsOne u entry ps number (path_by m k c.function)
one_more u entry s ps m k number p c there at one =
    (p.function ∷ one.0, k ∷ one.1, called one.2 there, with_call one.3 at (last_body u entry s p.function k one.0 one.1 c one.3 at))

is_one : (u : UnitTree) (entry : ℕ) → IsSound u (callees u entry) → (ps : List CallPath) → IsListing u entry ps → (bound number : ℕ) (q : CallPath) → number < bound → slice_get ps number ≡ Some q → IsOne u entry ps number q
is_one u entry s ps is zero number q lt at = absurd (omega arith)
is_one u entry s ps is (suc bound) zero q lt at =
    let e : entry_path entry ≡ q = ap (λ (o : Option CallPath). unwrap_or o q) (sym (first_at u entry ps is) ∙ at) in
    subst (IsOne u entry ps 0) e ([], [], entry_alone (first_at u entry ps is), alone)
is_one u entry s ps is (suc bound) (suc i) q lt at =
    let by = longer_is u 0 ps i q (sym (listed_at u entry i ps is) ∙ at) in
    let number : 0 + by.0 ≡ by.0 = omega arith in
    let e : q ≡ path_by by.0 by.1 (by.3).function = by.6 ∙ ap (λ (m : ℕ). path_by m by.1 (by.3).function) number in
    let there : slice_get ps (suc i) ≡ Some (path_by by.0 by.1 (by.3).function) = at ∙ ap (λ (p : CallPath). Some p) e in
    let before : by.0 < suc i = is.behind by.0 by.1 (suc i) (leads_by ps by.0 by.1 (suc i) (by.3).function there) in
    subst (IsOne u entry ps (suc i)) (sym e) (one_more u entry s ps by.0 by.1 (suc i) by.2 by.3 there by.5 (is_one u entry s ps is bound by.0 by.2 (omega arith) by.4))

-- the path that a number stands for
stands_at : (ps : List CallPath) {n : ℕ} {functions calls : List ℕ} → StandsFor ps n functions calls → (p : CallPath) × (slice_get ps n ≡ Some p) × (p.function ≡ head 0 functions)
stands_at ps (entry_alone {entry = f} e) = (entry_path f, e, refl)
stands_at ps (called {caller = m} {k = k} {f = f} s e) = (path_by m k f, e, refl)

is_there : (u : UnitTree) (entry : ℕ) (ps : List CallPath) → IsListing u entry ps → {functions calls : List ℕ} → IsCallPath u entry functions calls → (n : ℕ) × StandsFor ps n functions calls
is_there u entry ps is alone = (0, entry_alone (first_at u entry ps is))
is_there u entry ps is (with_call {caller = f} {k = k} {call = c} path at body) =
    let m = is_there u entry ps is path in
    let p = stands_at ps m.1 in
    let next = longer_at u 0 ps m.0 k p.0 c p.1 (subst (λ (g : ℕ). slice_get (calls_of u g) k ≡ Some c) (sym p.2) at) in
    let number : 0 + m.0 ≡ m.0 = omega arith in
    (suc next.0, called m.1 (listed_at u entry next.0 ps is ∙ next.1 ∙ ap (λ (n : ℕ). Some (path_by n k c.function)) number))

-- only the entry is led to by no call
entry_first : (u : UnitTree) (entry f : ℕ) (ps : List CallPath) → IsListing u entry ps → (n : ℕ) → slice_get ps n ≡ Some (entry_path f) → n ≡ 0
entry_first u entry f ps is zero at = refl
entry_first u entry f ps is (suc i) at =
    let by = longer_is u 0 ps i (entry_path f) (sym (listed_at u entry i ps is) ∙ at) in
    absurd (none_some (record { path = 0 + by.0; call = by.1 }) (ap (λ (p : CallPath). p.caller) by.6))

-- a call leads to one path
lead_once : (u : UnitTree) (entry : ℕ) (ps : List CallPath) → IsListing u entry ps → (from k m n : ℕ) → LeadsTo ps from k m → LeadsTo ps from k n → m ≡ n
lead_once u entry ps is from k zero n g h = absurd (none_some (record { path = from; call = k }) (sym (ap (option_and_then (λ (p : CallPath). p.caller)) (first_at u entry ps is)) ∙ g))
lead_once u entry ps is from k (suc i) zero g h = absurd (none_some (record { path = from; call = k }) (sym (ap (option_and_then (λ (p : CallPath). p.caller)) (first_at u entry ps is)) ∙ h))
lead_once u entry ps is from k (suc i) (suc j) g h =
    let e : i ≡ j = leads_once u 0 ps from k i j
    (sym (ap (option_and_then (λ (p : CallPath). p.caller)) (listed_at u entry i ps is)) ∙ g)
    (sym (ap (option_and_then (λ (p : CallPath). p.caller)) (listed_at u entry j ps is)) ∙ h) in
    ap (λ (n : ℕ). suc n) e

is_once : (u : UnitTree) (entry : ℕ) (ps : List CallPath) → IsListing u entry ps → {m n : ℕ} {functions others calls : List ℕ} → StandsFor ps m functions calls → StandsFor ps n others calls → m ≡ n
is_once u entry ps is {m = m} {n = n} (entry_alone {entry = f} e) (entry_alone {entry = g} h) = entry_first u entry f ps is m e ∙ sym (entry_first u entry g ps is n h)
is_once u entry ps is {m = m} {n = n} (called {caller = a} {k = k} {f = f} s e) (called {caller = b} {f = g} t h) =
    let same : a ≡ b = is_once u entry ps is s t in
    lead_once u entry ps is b k m n (subst (λ (c : ℕ). LeadsTo ps c k m) same (leads_by ps a k m f e)) (leads_by ps b k n g h)

leads_on : (u : UnitTree) (entry : ℕ) (ps : List CallPath) → IsListing u entry ps → (number k : ℕ) (p : CallPath) (c : CallSite) → slice_get ps number ≡ Some p → slice_get (calls_of u p.function) k ≡ Some c → (to : ℕ) × LeadsTo ps number k to
leads_on u entry ps is number k p c at called_at =
    let next = longer_at u 0 ps number k p c at called_at in
    let same : 0 + number ≡ number = omega arith in
    (suc next.0, leads_by ps number k (suc next.0) c.function (listed_at u entry next.0 ps is ∙ next.1 ∙ ap (λ (n : ℕ). Some (path_by n k c.function)) same))

pub paths_are_all : PathsAreAll
paths_are_all = record {
  listing = λ u entry seen w. let s = entry_sound u entry seen w in let all = all_listed u entry s.0 s.1 in (all.0, all.1);
  all = λ u entry seen ps w is. record {
    each_is_one = λ number lt.
        let p : CallPath = get_or ps number (entry_path entry) in
        let one = is_one u entry (entry_sound u entry seen w) ps is (suc number) number p (omega arith) (slice_get-get_or ps number (entry_path entry) lt) in (p.function ∷ one.0, one.1, one.2, one.3);
    all_are_there = λ functions calls path. is_there u entry ps is path;
    none_is_twice = λ m n functions others calls s t. is_once u entry ps is s t;
    calls_lead_on = leads_on u entry ps is;
  };
}
