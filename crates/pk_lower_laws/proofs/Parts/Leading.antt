-- In a listing each call leads to a path behind, of the function that is called.
use Rattle.std.proofs.Common.{◌≡◌, ◌<◌, ℕ, List, [], ◌∷◌, length, refl, sym, ◌∙◌, ap, subst}
use Rattle.std.proofs.lemmas.Option.{none-some, slice_get_within}
use Rattle.std.specs.Prelude.{Option, Some, None, unwrap_or, slice_get}
use Rattle.std.specs.Option.{option_and_then}
use Rattle.pk_typed.specs.declared.units.CallSite.{CallSite}
use Rattle.pk_typed.specs.Trees.{UnitTree}
use Rattle.pk_calls.specs.declared.listings.Caller.{Caller}
use Rattle.pk_calls.specs.declared.listings.CallPath.{CallPath}
use Rattle.pk_calls.specs.Calls.{HasBody, calls_of}
use Rattle.pk_calls.specs.Paths.{path_by, LeadsTo, IsListing}
use Rattle.pk_calls.specs.CallPaths.{IsCallPath, alone, with_call, StandsFor, entry_alone, called}
use Rattle.pk_calls.specs.Laws.{AreCallPaths}
use Rattle.pk_lower.specs.Parts.{body_at}
use Rattle.pk_lower_laws.specs.Parts.Listed.{IsBehind, LeadBehindByNumber, IsCallOf, CallsAreNoted, ListingsLeadBehind}
use Rattle.pk_lower_laws.proofs.Parts.Everywhere.{at_items}
use Rattle.pk_lower_laws.proofs.Parts.Behind.{some, numbers_tell_behind}

abbrev Heads : List ℕ → ℕ → Type 0
Heads [] g = ⊥
Heads (f ∷ fs) g = f ≡ g

heads : {paths : List CallPath} {i : ℕ} {fs cs : List ℕ} (p : CallPath) → StandsFor paths i fs cs → slice_get paths i ≡ Some p → Heads fs p.function
heads p (entry_alone e) h = ap (λ (x : CallPath). x.function) (some (sym e ∙ h))
heads p (called s e) h = ap (λ (x : CallPath). x.function) (some (sym e ∙ h))

abbrev HeadHasBody : UnitTree → List ℕ → Type 0
HeadHasBody u [] = ⊥
HeadHasBody u (f ∷ fs) = HasBody u f

head_body : {u : UnitTree} {entry : ℕ} {fs cs : List ℕ} → HasBody u entry → IsCallPath u entry fs cs → HeadHasBody u fs
head_body h alone = h
head_body h (with_call c e b) = b

body_of_head : (u : UnitTree) (fs : List ℕ) (g : ℕ) → Heads fs g → HeadHasBody u fs → HasBody u g
body_of_head u [] g h b = absurd h
body_of_head u (f ∷ fs) g h b = subst (HasBody u) h b

abbrev Inverted : UnitTree → List ℕ → List ℕ → Type 0
Inverted u [] cs = ⊥
Inverted u (f ∷ []) [] = Unit {0}
Inverted u (f ∷ []) (k ∷ ks) = ⊥
Inverted u (f ∷ g ∷ gs) [] = ⊥
Inverted u (f ∷ g ∷ gs) (k ∷ ks) = IsCallOf u g f k

invert : {u : UnitTree} {entry : ℕ} {fs cs : List ℕ} → IsCallPath u entry fs cs → Inverted u fs cs
invert alone = tt
invert (with_call {call = call} c e b) = (call, e, refl)

last : (u : UnitTree) (gs : List ℕ) (f k : ℕ) (ks : List ℕ) (h n : ℕ) (call : CallSite) → Heads gs h → Inverted u (f ∷ gs) (k ∷ ks) → k ≡ n → slice_get (calls_of u h) n ≡ Some call → call.function ≡ f
last u [] f k ks h n call head i nth e = absurd head
last u (g ∷ gs) f k ks h n call head i nth e =
    let same : slice_get (calls_of u g) k ≡ slice_get (calls_of u h) n = ap (λ (x : ℕ). slice_get (calls_of u x) k) head ∙ ap (slice_get (calls_of u h)) nth in
    ap (λ (x : CallSite). x.function) (some (sym e ∙ (sym same ∙ i.1))) ∙ sym i.2

reached : {u : UnitTree} {entry : ℕ} {paths : List CallPath} {to : ℕ} {fs cs : List ℕ} (i n : ℕ) (p : CallPath) (call : CallSite)
    → StandsFor paths to fs cs → IsCallPath u entry fs cs → slice_get paths i ≡ Some p → slice_get (calls_of u p.function) n ≡ Some call → LeadsTo paths i n to
    → (q : CallPath) × (slice_get paths to ≡ Some q) × (call.function ≡ q.function)
reached i n p call (entry_alone e) c hp hc l =
    absurd (none-some (record { path = i; call = n }) (sym (ap (λ (o : Option CallPath). option_and_then (λ (x : CallPath). x.caller) o) e) ∙ l))
reached {u = u} {paths = paths} i n p call (called {caller = a} {functions = gs} {calls = ks} {k = k} {f = f} s e) c hp hc l =
    let is : Some (record { path = a; call = k }) ≡ Some (record { path = i; call = n }) = sym (ap (λ (o : Option CallPath). option_and_then (λ (x : CallPath). x.caller) o) e) ∙ l in
    let none : Caller = record { path = 0; call = 0 } in
    let same : a ≡ i = ap (λ (o : Option Caller). (unwrap_or o none).path) is in
    let nth : k ≡ n = ap (λ (o : Option Caller). (unwrap_or o none).call) is in
    (path_by a k f, e, last u gs f k ks p.function n call (heads p s (ap (slice_get paths) same ∙ hp)) (invert c) nth hc)

within : (paths : List CallPath) (i n to : ℕ) (o : Option CallPath) → slice_get paths to ≡ o → option_and_then (λ (x : CallPath). x.caller) o ≡ Some (record { path = i; call = n }) → to < length paths
within paths i n to None e l = absurd (none-some (record { path = i; call = n }) l)
within paths i n to (Some q) e l = slice_get_within paths to q e

behind : (u : UnitTree) (entry : ℕ) (paths : List CallPath) → IsListing u entry paths → AreCallPaths u entry paths → (i : ℕ) (p : CallPath) → slice_get paths i ≡ Some p
    → (f n : ℕ) → IsCallOf u p.function f n → IsBehind paths i f
behind u entry paths listing are i p e f n c =
    let led = are.calls_lead_on i n p c.0 e c.1 in
    let one = are.each_is_one led.0 (within paths i n led.0 (slice_get paths led.0) refl led.1) in
    let r = reached i n p c.0 one.2 one.3 e c.1 led.1 in
    (led.0, r.0, listing.behind i n led.0 led.1, r.1, c.2 ∙ r.2)

by_number : (u : UnitTree) (entry : ℕ) (paths : List CallPath) → HasBody u entry → IsListing u entry paths → AreCallPaths u entry paths → CallsAreNoted u → LeadBehindByNumber u paths
by_number u entry paths h listing are noted i p e =
    let one = are.each_is_one i (slice_get_within paths i p e) in
    let b = body_of_head u one.0 p.function (heads p one.2 e) (head_body h one.3) in
    (b, at_items (IsCallOf u p.function) (λ f n. IsBehind paths i f) (behind u entry paths listing are i p e) (body_at u p.function).items (noted p.function b))

pub listings_lead_behind : ListingsLeadBehind
listings_lead_behind u entry paths h listing are noted = numbers_tell_behind u paths (by_number u entry paths h listing are noted)
