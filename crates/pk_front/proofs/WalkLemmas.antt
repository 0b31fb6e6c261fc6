-- A walk of calls comes to an outcome, and a unit and a name have an answer.
use Rattle.std.proofs.Common.{inl, inr, ⊎_elim, ◌≡◌, ◌≢◌, ◌<◌, ◌≤◌, ◌+◌, ◌⊎◌, ◌||◌, ℕ, zero, suc, Bool, true, false, List, [], ◌∷◌, length, Option, Some, None, IsSome, Result, Ok, Err, Contains, arith, refl, sym, subst, eqb, eqb-true, eq-eqb, bytes_eq}
use Rattle.std.proofs.lemmas.Bool.{cases_lt}
use Rattle.std.proofs.lemmas.Slice.Eq.{bytes_eq-Decides}
use Rattle.pk_ctypes.specs.declared.words.Quantity.TheVariants as quantity
use Rattle.pk_typed.specs.declared.units.CallSite.{CallSite}
use Rattle.pk_typed.specs.Trees.{BodyTree, UnitTree}
use Rattle.pk_calls.specs.declared.listings.CallPath.{CallPath}
use Rattle.pk_calls.specs.declared.failures.CallError.{CallError}
use Rattle.pk_calls.specs.declared.failures.CallError.TheVariants as call_error
use Rattle.pk_calls.specs.Calls.{HasBody, IsEntry, IsNamed, body_of, calls_of, name_of}
use Rattle.pk_calls.specs.Walk.{Outcome, walked, recursion, undefined, Walks, at_end, recursive, bodiless, left, entered, refused, WalksFrom}
use Rattle.pk_calls.specs.Paths.{variables_of}
use Rattle.pk_calls.specs.Answers.{HasPaths, IsAnswer}
use Rattle.pk_calls.proofs.CallLemmas.{has_body_within}
use Rattle.pk_calls.proofs.CallPathLemmas.{paths_are_all}
use Rattle.pk_calls.proofs.Walking.{contains_cases, contains_here, contains_none, contains_there, grows}

-- ---- elements of a list

has : List ℕ → ℕ → Bool
has [] f = false
has (g ∷ gs) f = eqb g f || has gs f

no_true : false ≡ true → ⊥
no_true e = cc

has_yes : (xs : List ℕ) (f : ℕ) → has xs f ≡ true → Contains xs f
unfolding has
has_yes [] f e = absurd (no_true e)
has_yes (g ∷ gs) f e = go (eqb g f) refl e (has_yes gs f)
  where
    go : (b : Bool) → eqb g f ≡ b → (b || has gs f) ≡ true → (has gs f ≡ true → Contains gs f) → Contains (g ∷ gs) f
    go true is e later = subst (λ (x : ℕ). Contains (g ∷ gs) x) (eqb-true g f is) (contains_here g gs)
    go false is e later = contains_there g f gs (later e)

or_true : (a b : Bool) → b ≡ true → (a || b) ≡ true
or_true true b e = refl
or_true false b e = e

true_or : (a b : Bool) → a ≡ true → (a || b) ≡ true
true_or true b e = refl
true_or false b e = cc

has_is : (xs : List ℕ) (f : ℕ) → Contains xs f → has xs f ≡ true
unfolding has
has_is [] f c = absurd (contains_none f c)
has_is (g ∷ gs) f c = ⊎_elim
    (λ (e : g ≡ f). true_or (eqb g f) (has gs f) (eq-eqb g f e))
    (λ (rest : Contains gs f). or_true (eqb g f) (has gs f) (has_is gs f rest))
    (contains_cases g f gs c)

false_true : (b : Bool) → b ≡ false → b ≡ true → ⊥
false_true b absent present = cc

has_no : (xs : List ℕ) (f : ℕ) → has xs f ≡ false → Contains xs f → ⊥
has_no xs f absent c = false_true (has xs f) absent (has_is xs f c)

-- ---- how many of the first numbers aren't in a list

abbrev one_if : Bool → ℕ
one_if true = 0
one_if false = 1

unseen : ℕ → List ℕ → ℕ
unseen zero seen = 0
unseen (suc i) seen = one_if (has seen i) + unseen i seen

abbrev Within : List ℕ → List ℕ → Type 0
Within s t = (g : ℕ) → Contains s g → Contains t g

one_less : (a b : Bool) (m k : ℕ) → (a ≡ true → b ≡ true) → m ≤ k → one_if b + m ≤ one_if a + k
one_less true true m k h le = omega (arith, le)
one_less true false m k h le = let bad : false ≡ true = h refl in cc
one_less false true m k h le = omega (arith, le)
one_less false false m k h le = omega (arith, le)

has_within : (s t : List ℕ) (g : ℕ) → Within s t → has s g ≡ true → has t g ≡ true
has_within s t g within present = has_is t g (within g (has_yes s g present))

unseen_within : (n : ℕ) (s t : List ℕ) → Within s t → unseen n t ≤ unseen n s
unfolding unseen
unseen_within zero s t within = omega arith
unseen_within (suc i) s t within = one_less (has s i) (has t i) (unseen i t) (unseen i s) (has_within s t i within) (unseen_within i s t within)

grown : (f : ℕ) (s : List ℕ) → Within s (f ∷ s)
grown f s g c = contains_there f g s c

one_fewer : (a b : Bool) (m k : ℕ) → a ≡ false → b ≡ true → m ≤ k → one_if b + m < one_if a + k
one_fewer a b m k absent present le = rw (absent, present) (omega (arith, le))

still_less : (a b : Bool) (m k : ℕ) → (a ≡ true → b ≡ true) → m < k → one_if b + m < one_if a + k
still_less true true m k h lt = omega (arith, lt)
still_less true false m k h lt = let bad : false ≡ true = h refl in cc
still_less false true m k h lt = omega (arith, lt)
still_less false false m k h lt = omega (arith, lt)

unseen_less : (n f : ℕ) (s : List ℕ) → f < n → has s f ≡ false → unseen n (f ∷ s) < unseen n s
unfolding unseen
unseen_less zero f s lt new = absurd (omega (arith, lt))
unseen_less (suc i) f s lt new = ⊎_elim
    (λ (below : f < i). still_less (has s i) (has (f ∷ s) i) (unseen i (f ∷ s)) (unseen i s) (has_within s (f ∷ s) i (grown f s)) (unseen_less i f s below new))
    (λ (above : i ≤ f).
    let same : f ≡ i = omega (arith, lt, above) in
    one_fewer (has s i) (has (f ∷ s) i) (unseen i (f ∷ s)) (unseen i s) (subst (λ (x : ℕ). has s x ≡ false) same new)
    (subst (λ (x : ℕ). has (f ∷ s) x ≡ true) same (has_is (f ∷ s) f (contains_here f s))) (unseen_within i s (f ∷ s) (grown f s)))
    (cases_lt f i)

-- ---- the walk

module _ (u : UnitTree) where
  abbrev WalkEnds : List ℕ → List ℕ → List CallSite → Type 0
  WalkEnds path seen calls = (o : Outcome) × Walks u path seen calls o

  abbrev left_over : List ℕ → ℕ
  left_over = unseen (length u.functions)

  enters : (path seen : List ℕ) (c : CallSite) (rest : List CallSite) → HasBody u c.function → (Contains path c.function → ⊥) → (Contains seen c.function → ⊥)
      → (o : Outcome) → Walks u (c.function ∷ path) (c.function ∷ seen) (calls_of u c.function) o
      → ((after : List ℕ) → Within (c.function ∷ seen) after → WalkEnds path after rest) → WalkEnds path seen (c ∷ rest)
  enters path seen c rest body off new (walked after) w later = let end = later after (grows u w) in (end.0, entered body off new w end.1)
  enters path seen c rest body off new (recursion names) w later = (recursion names, refused body off new w tt)
  enters path seen c rest body off new (undefined name at) w later = (undefined name at, refused body off new w tt)

  -- a call of a function with a body, by whether it is on the path and whether it was entered
  goes : (k : ℕ) (path seen : List ℕ) (c : CallSite) (rest : List CallSite) → HasBody u c.function → (on known : Bool) → has path c.function ≡ on → has seen c.function ≡ known
      → left_over seen ≤ k
      → ((path seen : List ℕ) (calls : List CallSite) → left_over seen < k → WalkEnds path seen calls)
      → ((after : List ℕ) → left_over after ≤ k → WalkEnds path after rest) → WalkEnds path seen (c ∷ rest)
  goes k path seen c rest body true known on_is known_is small below later = (_, recursive body (has_yes path c.function on_is))
  goes k path seen c rest body false true on_is known_is small below later =
      let end = later seen small in
      (end.0, left body (has_no path c.function on_is) (has_yes seen c.function known_is) end.1)
  goes k path seen c rest body false false on_is known_is small below later =
      let less = unseen_less (length u.functions) c.function seen (has_body_within u c.function body) known_is in
      let inner = below (c.function ∷ path) (c.function ∷ seen) (calls_of u c.function) (omega (arith, less, small)) in
      enters path seen c rest body (has_no path c.function on_is) (has_no seen c.function known_is) inner.0 inner.1
      (λ after within. later after (let le = unseen_within (length u.functions) (c.function ∷ seen) after within in omega (arith, le, less, small)))

  no_some : {X : Type 0} (o : Option X) → o ≡ None → IsSome o → ⊥
  no_some None e h = no_true h
  no_some (Some x) e h = cc

  steps : (k : ℕ) (path seen : List ℕ) (c : CallSite) (rest : List CallSite) (b : Option BodyTree) → body_of u c.function ≡ b → left_over seen ≤ k
      → ((path seen : List ℕ) (calls : List CallSite) → left_over seen < k → WalkEnds path seen calls)
      → ((after : List ℕ) → left_over after ≤ k → WalkEnds path after rest) → WalkEnds path seen (c ∷ rest)
  steps k path seen c rest None is small below later = (_, bodiless (λ h. no_some (body_of u c.function) is h))
  steps k path seen c rest (Some body) is small below later =
      goes k path seen c rest (subst (λ (o : Option BodyTree). IsSome o) (sym is) refl) (has path c.function) (has seen c.function) refl refl small below later

  over_calls : (k : ℕ) → ((path seen : List ℕ) (calls : List CallSite) → left_over seen < k → WalkEnds path seen calls)
      → (calls : List CallSite) (path seen : List ℕ) → left_over seen ≤ k → WalkEnds path seen calls
  over_calls k below [] path seen small = (walked seen, at_end)
  over_calls k below (c ∷ rest) path seen small =
      steps k path seen c rest (body_of u c.function) refl small below (λ after fewer. over_calls k below rest path after fewer)

  within_steps : (k : ℕ) (path seen : List ℕ) (calls : List CallSite) → left_over seen < k → WalkEnds path seen calls
  within_steps zero path seen calls less = absurd (omega (arith, less))
  within_steps (suc k) path seen calls less = over_calls k (within_steps k) calls path seen (omega (arith, less))

  walk_ends : (entry : ℕ) → (o : Outcome) × WalksFrom u entry o
  walk_ends entry = within_steps (suc (left_over (entry ∷ []))) (entry ∷ []) (entry ∷ []) (calls_of u entry) (omega arith)

  -- ---- the entry

  named_or_not : (name : List ℕ) (f : ℕ) (b : Option BodyTree) (same : Bool) → body_of u f ≡ b → bytes_eq (name_of u f) name ≡ same → IsNamed u name f ⊎ (IsNamed u name f → ⊥)
  named_or_not name f None same is same_is = inr (λ named. no_some (body_of u f) is named.0)
  named_or_not name f (Some body) true is same_is = inl (subst (λ (o : Option BodyTree). IsSome o) (sym is) refl, (bytes_eq-Decides (name_of u f) name).0 same_is)
  named_or_not name f (Some body) false is same_is = inr (λ named. false_true (bytes_eq (name_of u f) name) same_is ((bytes_eq-Decides (name_of u f) name).1 named.1))

  first_named : (name : List ℕ) (n : ℕ) → ((f : ℕ) × IsEntry u name f) ⊎ ((g : ℕ) → g < n → IsNamed u name g → ⊥)
  first_named name zero = inr (λ g lt named. absurd (omega (arith, lt)))
  first_named name (suc i) = ⊎_elim
      (λ (found : (f : ℕ) × IsEntry u name f). inl found)
      (λ (none : (g : ℕ) → g < i → IsNamed u name g → ⊥). ⊎_elim
      (λ (named : IsNamed u name i). inl (i, (named, none)))
      (λ (other : IsNamed u name i → ⊥). inr (λ g lt named. ⊎_elim
      (λ (below : g < i). none g below named)
      (λ (above : i ≤ g). let same : g ≡ i = omega (arith, lt, above) in other (subst (λ (x : ℕ). IsNamed u name x) same named))
      (cases_lt g i)))
      (named_or_not name i (body_of u i) (bytes_eq (name_of u i) name) refl refl))
      (first_named name i)

  -- ---- the answer

  abbrev Answered : List ℕ → Type 0
  Answered name = (r : Result (List CallPath) CallError) × (r ≢ Err call_error.Memory) × IsAnswer u name r

  within_limits : (name : List ℕ) (ps : List CallPath) → HasPaths u name ps → Answered name
  within_limits name ps paths = ⊎_elim
      (λ (many : 4096 < length ps). (Err (call_error.Limit quantity.Paths 4096), λ e. cc, (ps, paths, (refl, many))))
      (λ (few : length ps ≤ 4096). ⊎_elim
      (λ (many : 65536 < variables_of u ps). (Err (call_error.Limit quantity.Variables 65536), λ e. cc, (ps, paths, (refl, few, many))))
      (λ (small : variables_of u ps ≤ 65536). (Ok ps, λ e. cc, (paths, few, small)))
      (cases_lt 65536 (variables_of u ps)))
      (cases_lt 4096 (length ps))

  by_outcome : (name : List ℕ) (entry : ℕ) → IsEntry u name entry → (o : Outcome) → WalksFrom u entry o → Answered name
  by_outcome name entry is_entry (walked seen) walks =
      let listing = paths_are_all.listing u entry seen walks in
      within_limits name listing.0 (record { entry = entry; is_entry = is_entry; seen = seen; walks = walks; is_listing = listing.1 })
  by_outcome name entry is_entry (recursion names) walks = (Err (call_error.Recursion names), λ e. cc, record { entry = entry; is_entry = is_entry; walks = walks })
  by_outcome name entry is_entry (undefined called at) walks = (Err (call_error.UndefinedCall called at), λ e. cc, record { entry = entry; is_entry = is_entry; walks = walks })

  pub has_answer : (name : List ℕ) → Answered name
  has_answer name = ⊎_elim
      (λ (found : (f : ℕ) × IsEntry u name f). let end = walk_ends found.0 in by_outcome name found.0 found.1 end.0 end.1)
      (λ (none : (g : ℕ) → g < length u.functions → IsNamed u name g → ⊥).
      (Err (call_error.NoEntry name), λ e. cc, (refl, λ f named. none f (has_body_within u f named.0) named)))
      (first_named name (length u.functions))
