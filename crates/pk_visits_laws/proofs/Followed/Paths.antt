-- Paths of a listing: where the calls of each lead.
use Rattle.std.proofs.Common.{◌≡◌, ℕ, zero, suc, ◌+◌, ◌-◌, ◌<◌, ◌≤◌, ◌⊎◌, inl, inr, List, [], ◌∷◌, ◌++◌, length, Option, Some, None, Bool, true, false, ◌&&◌, nat_eq, if◌then◌else◌, refl, sym, ap, subst, ◌∙◌, arith, slice_index_or}
use Rattle.std.proofs.lemmas.Bool.{eq-eqb}
use Rattle.std.proofs.lemmas.Option.{none-some, slice_get_within, get_or_from_slice_get}
use Rattle.std.specs.Prelude.{slice_get, unwrap_or}
use Rattle.pk_typed.specs.declared.units.CallSite.{CallSite}
use Rattle.pk_typed.specs.Trees.{BodyTree, UnitTree}
use Rattle.pk_calls.specs.declared.listings.Caller.{Caller}
use Rattle.pk_calls.specs.declared.listings.CallPath.{CallPath}
use Rattle.pk_calls.specs.Calls.{calls_of}
use Rattle.pk_calls.specs.Paths.{entry_path, path_by, paths_by, longer, IsListing}
use Rattle.pk_welltyped.specs.Listed.{Numbered, numbered, calls_in_items}
use Rattle.pk_lower_laws.proofs.Drafts.Plans.{World, PathIs, its_body}
use Rattle.pk_lower_laws.proofs.Drafts.Wholes.{Paths}
use Rattle.pk_meaning.specs.Programs.{is_by, number_by, callee, function_number, function_of, block_of}
use Rattle.pk_visits.proofs.Slots.{Among}
use Rattle.pk_ctypes.proofs.Small.{both_true}
use Rattle.pk_visits_laws.proofs.Followed.Basics.{number_is}
use Rattle.pk_typed.specs.Defaults.{no_body, no_function}
use Rattle.pk_lower_laws.proofs.Drafts.Listings.{by_many}

-- the path that the first call of each listed path leads to
abbrev pub firsts_from : UnitTree → ℕ → List CallPath → List ℕ
firsts_from u n [] = []
firsts_from u n (p ∷ ps) = n ∷ firsts_from u (n + length (calls_of u p.function)) ps

abbrev pub first_of : UnitTree → List CallPath → ℕ → ℕ
first_of u paths k = slice_index_or (firsts_from u 1 paths) k 0

path_from : (W : World) (k n : ℕ) (ps : List CallPath) → Paths W k n ps → (i : ℕ) (p : CallPath) → slice_get ps i ≡ Some p → PathIs W (k + i) (slice_index_or (firsts_from W.unit n ps) i 0) p
path_from W k n [] h i p e = absurd (none-some p e)
path_from W k n (q ∷ ps) h zero p e = subst (λ (x : CallPath). PathIs W (k + 0) n x) (ap (λ (o : Option CallPath). unwrap_or o p) e) (subst (λ (j : ℕ). PathIs W j n q) (omega arith) h.0)
path_from W k n (q ∷ ps) h (suc i) p e =
    let at : k + 1 + i ≡ k + suc i = omega arith in
    let m = n + length (calls_of W.unit q.function) in
    subst (λ (j : ℕ). PathIs W j (slice_index_or (firsts_from W.unit m ps) i 0) p) at (path_from W (k + 1) m ps h.1 i p e)

-- each path of the list is one of its function, whose calls lead to paths in a row
pub path_is : (W : World) → Paths W 0 1 W.paths → (k : ℕ) (p : CallPath) → slice_get W.paths k ≡ Some p → PathIs W k (first_of W.unit W.paths k) p
path_is W h k p e = subst (λ (j : ℕ). PathIs W j (first_of W.unit W.paths k) p) (omega arith) (path_from W 0 1 W.paths h k p e)

-- ---- which path a call leads to

-- of the paths by one path's calls
by_caller : (a m : ℕ) (cs : List CallSite) (j : ℕ) (q : CallPath) (k c : ℕ) → slice_get (paths_by a m cs) j ≡ Some q → q.caller ≡ Some (record { path = k; call = c }) → (k ≡ a) × (c ≡ m + j)
by_caller a m [] j q k c e h = absurd (none-some q e)
by_caller a m (x ∷ cs) zero q k c e h =
    let same : Some (record { path = a; call = m }) ≡ Some (record { path = k; call = c }) = ap (λ (o : Option CallPath). (unwrap_or o q).caller) e ∙ h in
    (sym (ap (λ (o : Option Caller). (unwrap_or o (record { path = a; call = m })).path) same), sym (ap (λ (o : Option Caller). (unwrap_or o (record { path = a; call = m })).call) same) ∙ omega arith)
by_caller a m (x ∷ cs) (suc j) q k c e h = let r = by_caller a (m + 1) cs j q k c e h in let z = r.1 in (r.0, omega (z, arith))

either_list : {A : Type 0} (xs ys : List A) (j : ℕ) (q : A) → slice_get (xs ++ ys) j ≡ Some q → ((j < length xs) × (slice_get xs j ≡ Some q)) ⊎ ((i : ℕ) × (j ≡ length xs + i) × (slice_get ys i ≡ Some q))
either_list [] ys j q e = inr (j, omega arith, e)
either_list (x ∷ xs) ys zero q e = inl (omega arith, e)
either_list (x ∷ xs) ys (suc j) q e = elim (either_list xs ys j q e) [
  | inl h ↦ (let l = h.0 in inl (omega (l, arith), h.1))
  | inr h ↦ (let l = h.1 in inr (h.0, omega (l, arith), h.2))
]

-- a path by call c of path k stands c places behind the first one
longer_caller : (u : UnitTree) (a n : ℕ) (ps : List CallPath) (j : ℕ) (q : CallPath) (k c : ℕ) → slice_get (longer u a ps) j ≡ Some q → q.caller ≡ Some (record { path = k; call = c })
    → (a ≤ k) × (n + j ≡ slice_index_or (firsts_from u n ps) (k - a) 0 + c)
longer_caller u a n [] j q k c e h = absurd (none-some q e)
longer_caller u a n (p ∷ ps) j q k c e h =
    by (either_list (paths_by a 0 (calls_of u p.function)) (longer u (a + 1) ps) j q e) (λ i f. longer_caller u (a + 1) (n + length (calls_of u p.function)) ps i q k c f h) where
      m : ℕ
      m = n + length (calls_of u p.function)

      rest : ℕ → Type 0
      rest i = (a + 1 ≤ k) × (n + length (calls_of u p.function) + i ≡ slice_index_or (firsts_from u (n + length (calls_of u p.function)) ps) (k - (a + 1)) 0 + c)

      by : ((j < length (paths_by a 0 (calls_of u p.function))) × (slice_get (paths_by a 0 (calls_of u p.function)) j ≡ Some q))
          ⊎ ((i : ℕ) × (j ≡ length (paths_by a 0 (calls_of u p.function)) + i) × (slice_get (longer u (a + 1) ps) i ≡ Some q))
          → ((i : ℕ) → slice_get (longer u (a + 1) ps) i ≡ Some q → rest i) → (a ≤ k) × (n + j ≡ slice_index_or (n ∷ firsts_from u m ps) (k - a) 0 + c)
      by (inl l) f =
          let r = by_caller a 0 (calls_of u p.function) j q k c l.1 h in
          let x = r.0 in
          let y = r.1 in
          let none : 0 ≡ k - a = omega (x, arith) in
          (omega (x, arith), subst (λ (i : ℕ). n + j ≡ slice_index_or (n ∷ firsts_from u m ps) i 0 + c) none (omega (y, arith)))
      by (inr l) f =
          let r = f l.0 l.2 in
          let x = r.0 in
          let y = r.1 in
          let at = l.1 in
          let many = by_many a 0 (calls_of u p.function) in
          let one : suc (k - (a + 1)) ≡ k - a = omega (x, arith) in
          (omega (x, arith), subst (λ (i : ℕ). n + j ≡ slice_index_or (n ∷ firsts_from u m ps) i 0 + c) one (omega (y, at, many, arith)))

-- in a listing each path but the first is by a call, and stands where the calls of its caller lead
pub caller_at : (u : UnitTree) (entry : ℕ) (paths : List CallPath) → IsListing u entry paths → (j : ℕ) (q : CallPath) (k c : ℕ) → slice_get paths j ≡ Some q → q.caller ≡ Some (record { path = k; call = c }) → j ≡ first_of u paths k + c
caller_at u entry paths l j q k c e h = by j (sym (ap (λ (xs : List CallPath). slice_get xs j) l.in_order) ∙ e) where
  by : (j : ℕ) → slice_get (entry_path entry ∷ longer u 0 paths) j ≡ Some q → j ≡ first_of u paths k + c
  by zero e = absurd (none-some (record { path = k; call = c }) (ap (λ (o : Option CallPath). (unwrap_or o q).caller) e ∙ h))
  by (suc j) e =
      let r = longer_caller u 0 1 paths j q k c e h in
      let y = r.1 in
      let none : k - 0 ≡ k = omega arith in
      subst (λ (i : ℕ). suc j ≡ slice_index_or (firsts_from u 1 paths) i 0 + c) none (omega (y, arith))

-- the first path by a call, where one is
caller_is : (k c : ℕ) (o : Option Caller) → is_by k c o ≡ true → o ≡ Some (record { path = k; call = c })
caller_is k c None h = absurd (cc h)
caller_is k c (Some r) h =
    let b = both_true (nat_eq r.path k) (nat_eq r.call c) h in
    ap (λ (i : ℕ). Some (record { path = i; call = r.call })) (number_is r.path k b.0) ∙ ap (λ (i : ℕ). Some (record { path = k; call = i })) (number_is r.call c b.1)

is_caller : (k c : ℕ) (o : Option Caller) → o ≡ Some (record { path = k; call = c }) → is_by k c o ≡ true
is_caller k c o e = ap (is_by k c) e ∙ (ap (λ (b : Bool). b && nat_eq c c) (eq-eqb k k refl) ∙ eq-eqb c c refl)

first_by : (k c : ℕ) (ps : List CallPath) (j : ℕ) (p : CallPath) → slice_get ps j ≡ Some p → is_by k c p.caller ≡ true → ((i : ℕ) (q : CallPath) → slice_get ps i ≡ Some q → is_by k c q.caller ≡ true → i ≡ j) → number_by k c ps ≡ j
first_by k c [] j p e h one = absurd (none-some p e)
first_by k c (q ∷ ps) j p e h one = by (is_by k c q.caller) refl (λ i x y. first_by k c ps i p x h y) j e one where
  by : (b : Bool) → is_by k c q.caller ≡ b → ((i : ℕ) → slice_get ps i ≡ Some p → ((a : ℕ) (r : CallPath) → slice_get ps a ≡ Some r → is_by k c r.caller ≡ true → a ≡ i) → number_by k c ps ≡ i) → (j : ℕ) → slice_get (q ∷ ps) j ≡ Some p → ((i : ℕ) (r : CallPath) → slice_get (q ∷ ps) i ≡ Some r → is_by k c r.caller ≡ true → i ≡ j)
      → (if b then 0 else suc (number_by k c ps)) ≡ j
  by true is f j e one = one 0 q refl is
  by false is f zero e one = absurd (cc (is, ap (λ (o : Option CallPath). is_by k c (unwrap_or o p).caller) e ∙ h))
  by false is f (suc j) e one = ap suc (f j e (λ i r x y. let z = one (suc i) r x y in omega (z, arith)))

pub callee_is : (u : UnitTree) (entry : ℕ) (paths : List CallPath) → IsListing u entry paths → (k c : ℕ) (f : ℕ) → slice_get paths (first_of u paths k + c) ≡ Some (path_by k c f)
    → callee (record { unit = u; paths = paths }) k c ≡ first_of u paths k + c
callee_is u entry paths l k c f e =
    first_by k c paths (first_of u paths k + c) (path_by k c f) e (is_caller k c (path_by k c f).caller refl) (λ i q x y. caller_at u entry paths l i q k c x (caller_is k c q.caller y))

-- ---- the function and the block of a path

pub function_there : (W : World) (k n : ℕ) (p : CallPath) → PathIs W k n p → function_number (record { unit = W.unit; paths = W.paths }) k ≡ p.function
function_there W k n p h = ap (λ (q : CallPath). q.function) (get_or_from_slice_get W.paths k p (entry_path 0) h.path)

pub function_is : (W : World) (k n : ℕ) (p : CallPath) (h : PathIs W k n p) → function_of (record { unit = W.unit; paths = W.paths }) k ≡ h.function
function_is W k n p h =
    ap (λ (i : ℕ). slice_index_or W.unit.functions i no_function) (function_there W k n p h) ∙ get_or_from_slice_get W.unit.functions p.function h.function no_function h.there

pub block_is : (W : World) (k n : ℕ) (p : CallPath) (h : PathIs W k n p) → block_of (record { unit = W.unit; paths = W.paths }) k ≡ h.body
block_is W k n p h =
    ap (λ (i : ℕ). unwrap_or (Rattle.pk_calls.specs.Calls.body_of W.unit i) no_body) (function_there W k n p h)
    ∙ ap (λ (o : Option BodyTree). unwrap_or o no_body) (its_body W.unit p.function h.function h.body h.there h.has)

-- a call among those that are numbered from n on
pub numbered_at : (n : ℕ) (cs : List CallSite) (z : Numbered) → Among z (numbered n cs) → (i : ℕ) × (z.number ≡ n + i) × (slice_get cs i ≡ Some z.call)
numbered_at n [] z h = absurd h
numbered_at n (c ∷ cs) z (inl e) = let a = ap (λ (x : Numbered). x.number) e in (0, omega (a, arith), ap (λ (x : Numbered). Some x.call) (sym e))
numbered_at n (c ∷ cs) z (inr h) = let r = numbered_at (n + 1) cs z h in let a = r.1 in (suc r.0, omega (a, arith), r.2)

-- what is known of a call in the body of path k
pub record CallIs (u : UnitTree) (paths : List CallPath) (k : ℕ) (z : Numbered) : Type 0 where
  pub leads : slice_get paths (first_of u paths k + z.number) ≡ Some (path_by k z.number z.call.function)
  pub there : first_of u paths k + z.number < length paths
  pub behind : k < first_of u paths k + z.number

pub call_is : (W : World) → Paths W 0 1 W.paths → (k : ℕ) (p : CallPath) → slice_get W.paths k ≡ Some p → (z : Numbered) → Among z (calls_in_items (block_of (record { unit = W.unit; paths = W.paths }) k).items) → CallIs W.unit W.paths k z
call_is W h k p e z a =
    let n = first_of W.unit W.paths k in
    let i = path_is W h k p e in
    let listed : Among z (numbered 0 i.body.calls) = subst (Among z) i.is_body.calls (subst (λ (b : BodyTree). Among z (calls_in_items b.items)) (block_is W k n p i) a) in
    let r = numbered_at 0 i.body.calls z listed in
    let at : r.0 ≡ z.number = let b = r.1 in omega (b, arith) in
    let leads : slice_get W.paths (n + z.number) ≡ Some (path_by k z.number z.call.function) = subst (λ (j : ℕ). slice_get W.paths (n + j) ≡ Some (path_by k j z.call.function)) at (i.leads r.0 z.call r.2) in
    let low = i.below in
    record { leads = leads; there = slice_get_within W.paths (n + z.number) (path_by k z.number z.call.function) leads; behind = omega (low, arith) }
