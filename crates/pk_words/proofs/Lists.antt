-- Totals over views, and lists of tokens.
use Rattle.std.proofs.Common.{◌≡◌, ◌≢◌, ℕ, zero, suc, ◌+◌, ◌<◌, ◌≤◌, ◌==◌, List, [], ◌∷◌, set, take, max, ◌/◌, count_by, Bool, true, false, if◌then◌else◌, refl, sym, ap, ◌∙◌, arith, inl, inr, ◌⊎◌}
use mathlib.Core.Option.{some}
use lib.ListN.{get_elem?}
use Rattle.pk_core.specs.declared.events.Status.{Status}
use Rattle.pk_core.specs.declared.events.Status.TheVariants.{Waiting, Open, Held, Done}
use Rattle.pk_core.proofs.Basics.{same, itself, neq}
use Rattle.pk_words.specs.Tokens.{times, number_of, drop_one, heading, pending, seen_run, total, one_if_held}

-- a total after one view has changed
pub total_set : {V : Type 0} (f : V → ℕ) (views : List V) (id : ℕ) (v w : V) → get_elem? views id ≡ some v → total f (set views id w) + f v ≡ total f views + f w
total_set f [] id v w at = absurd (cc)
total_set f (x ∷ views) zero v w at =
    let e : x ≡ v = cc in
    omega (arith, ap f e)
total_set f (x ∷ views) (suc id) v w at = omega (arith, total_set f views id v w at)

pub part : {V : Type 0} (f : V → ℕ) (views : List V) (id : ℕ) (v : V) → get_elem? views id ≡ some v → f v ≤ total f views
part f [] id v at = absurd (cc)
part f (x ∷ views) zero v at =
    let e : x ≡ v = cc in
    omega (arith, ap f e)
part f (x ∷ views) (suc id) v at = omega (arith, part f views id v at)

-- two views are two parts
pub parts : {V : Type 0} (f : V → ℕ) (views : List V) (i j : ℕ) (v w : V) → get_elem? views i ≡ some v → get_elem? views j ≡ some w → i ≢ j → f v + f w ≤ total f views
parts f [] i j v w a b ne = absurd (cc)
parts f (x ∷ views) zero zero v w a b ne = absurd (ne refl)
parts f (x ∷ views) zero (suc j) v w a b ne =
    let e : x ≡ v = cc in
    omega (arith, ap f e, part f views j w b)
parts f (x ∷ views) (suc i) zero v w a b ne =
    let e : x ≡ w = cc in
    omega (arith, ap f e, part f views i v a)
parts f (x ∷ views) (suc i) (suc j) v w a b ne = omega (arith, parts f views i j v w a b (λ e. ne (ap suc e)))

pub must_be_held : (st : Status) → 0 < one_if_held st → st ≡ Held
must_be_held (Waiting m) a = absurd (omega arith)
must_be_held Open a = absurd (omega arith)
must_be_held Held a = refl
must_be_held Done a = absurd (omega arith)

pub times_drop : (e : ℕ) (hs : List (ℕ × ℕ)) → 0 < times e hs → times e (drop_one e hs) + 1 ≡ times e hs
times_drop e [] h = absurd (omega arith)
times_drop e (x ∷ hs) h = by_test (x.0 == e) refl h (times_drop e hs)
  where
    by_test : (c : Bool) → (x.0 == e) ≡ c → 0 < (if c then 1 else 0) + times e hs → (0 < times e hs → times e (drop_one e hs) + 1 ≡ times e hs) → times e (if c then hs else x ∷ drop_one e hs) + 1 ≡ (if c then 1 else 0) + times e hs
    by_test true q h ih = omega arith
    by_test false q h ih = rw q (omega (arith, ih (omega arith)))

pub times_other : (e u : ℕ) (hs : List (ℕ × ℕ)) → u ≢ e → times u (drop_one e hs) ≡ times u hs
times_other e u [] ne = refl
times_other e u (x ∷ hs) ne = by_test (x.0 == e) refl (times_other e u hs ne)
  where
    by_test : (c : Bool) → (x.0 == e) ≡ c → times u (drop_one e hs) ≡ times u hs → times u (if c then hs else x ∷ drop_one e hs) ≡ (if x.0 == u then 1 else 0) + times u hs
    by_test true q ih =
        let at : x.0 ≡ e = same x.0 e q in
        let t : (x.0 == u) ≡ false = neq x.0 u (λ xu. ne (sym xu ∙ at)) in
        rw t (omega arith)
    by_test false q ih = omega (arith, ih)

pub number_other : (e u : ℕ) (hs : List (ℕ × ℕ)) → u ≢ e → number_of u (drop_one e hs) ≡ number_of u hs
number_other e u [] ne = refl
number_other e u (x ∷ hs) ne = by_test (x.0 == e) refl (number_other e u hs ne)
  where
    by_test : (c : Bool) → (x.0 == e) ≡ c → number_of u (drop_one e hs) ≡ number_of u hs → number_of u (if c then hs else x ∷ drop_one e hs) ≡ (if x.0 == u then x.1 else number_of u hs)
    by_test true q ih =
        let at : x.0 ≡ e = same x.0 e q in
        let t : (x.0 == u) ≡ false = neq x.0 u (λ xu. ne (sym xu ∙ at)) in
        rw t refl
    by_test false q ih = ap (λ (n : ℕ). if x.0 == u then x.1 else n) ih

pub times_own : (e n : ℕ) (hs : List (ℕ × ℕ)) → times e ((e, n) ∷ hs) ≡ 1 + times e hs
times_own e n hs = let q = itself e in rw q (omega arith)

pub times_more : (e u n : ℕ) (hs : List (ℕ × ℕ)) → u ≢ e → times u ((e, n) ∷ hs) ≡ times u hs
times_more e u n hs ne = let q = neq e u (λ h. ne (sym h)) in rw q (omega arith)

pub number_own : (e n : ℕ) (hs : List (ℕ × ℕ)) → number_of e ((e, n) ∷ hs) ≡ n
number_own e n hs = let q = itself e in rw q refl

pub number_more : (e u n : ℕ) (hs : List (ℕ × ℕ)) → u ≢ e → number_of u ((e, n) ∷ hs) ≡ number_of u hs
number_more e u n hs ne = let q = neq e u (λ h. ne (sym h)) in rw q refl

pub elem_set : {V : Type 0} (views : List V) (id k : ℕ) (w x : V) → get_elem? (set views id w) k ≡ some x → ((k ≡ id) × (w ≡ x)) ⊎ ((k ≢ id) × (get_elem? views k ≡ some x))
elem_set [] id k w x h = absurd (cc)
elem_set (y ∷ views) zero zero w x h = inl (refl, cc)
elem_set (y ∷ views) zero (suc k) w x h = inr ((λ e. omega (arith, e)), h)
elem_set (y ∷ views) (suc id) zero w x h = inr ((λ e. omega (arith, e)), h)
elem_set (y ∷ views) (suc id) (suc k) w x h = elim (elem_set views id k w x h) [
  | inl p ↦ inl (ap suc p.0, p.1)
  | inr p ↦ inr ((λ e. p.0 (omega (arith, e))), p.1)
]

pub elem_set_other : {A : Type 0} (hs : List A) (i k : ℕ) (y : A) → k ≢ i → get_elem? (set hs i y) k ≡ get_elem? hs k
elem_set_other [] i k y ne = refl
elem_set_other (h ∷ hs) zero zero y ne = absurd (ne refl)
elem_set_other (h ∷ hs) zero (suc k) y ne = refl
elem_set_other (h ∷ hs) (suc i) zero y ne = refl
elem_set_other (h ∷ hs) (suc i) (suc k) y ne = elem_set_other hs i k y (λ e. ne (ap suc e))

pub elem_set_same : {A : Type 0} (hs : List A) (i : ℕ) (y z : A) → get_elem? hs i ≡ some z → get_elem? (set hs i y) i ≡ some y
elem_set_same [] i y z h = absurd (cc)
elem_set_same (x ∷ hs) zero y z h = refl
elem_set_same (x ∷ hs) (suc i) y z h = elem_set_same hs i y z h

-- Resettings by their heads, and what they still arm.

pub heading_some : (head : ℕ → ℕ) (x : ℕ) (rs : List (ℕ × ℕ)) → 0 < times x rs → 0 < heading head (head x) rs
heading_some head x [] h = absurd (omega arith)
heading_some head x (r ∷ rs) h = by_test (r.0 == x) refl h (heading_some head x rs)
  where
    by_test : (c : Bool) → (r.0 == x) ≡ c → 0 < (if c then 1 else 0) + times x rs → (0 < times x rs → 0 < heading head (head x) rs) → 0 < (if head r.0 == head x then 1 else 0) + heading head (head x) rs
    by_test true q h ih =
        let e : (head r.0 == head x) ≡ true = ap (λ (j : ℕ). head j == head x) (same r.0 x q) ∙ itself (head x) in
        rw e (omega arith)
    by_test false q h ih = omega (arith, ih (omega arith))

pub heading_drop : (head : ℕ → ℕ) (x : ℕ) (rs : List (ℕ × ℕ)) → 0 < times x rs → heading head (head x) (drop_one x rs) + 1 ≡ heading head (head x) rs
heading_drop head x [] h = absurd (omega arith)
heading_drop head x (r ∷ rs) h = by_test (r.0 == x) refl h (heading_drop head x rs)
  where
    by_test : (c : Bool) → (r.0 == x) ≡ c → 0 < (if c then 1 else 0) + times x rs → (0 < times x rs → heading head (head x) (drop_one x rs) + 1 ≡ heading head (head x) rs) → heading head (head x) (if c then rs else r ∷ drop_one x rs) + 1 ≡ (if head r.0 == head x then 1 else 0) + heading head (head x) rs
    by_test true q h ih =
        let e : (head r.0 == head x) ≡ true = ap (λ (j : ℕ). head j == head x) (same r.0 x q) ∙ itself (head x) in
        rw e (omega arith)
    by_test false q h ih = omega (arith, ih (omega arith))

pub heading_other : (head : ℕ → ℕ) (x u : ℕ) (rs : List (ℕ × ℕ)) → u ≢ head x → heading head u (drop_one x rs) ≡ heading head u rs
heading_other head x u [] ne = refl
heading_other head x u (r ∷ rs) ne = by_test (r.0 == x) refl (heading_other head x u rs ne)
  where
    by_test : (c : Bool) → (r.0 == x) ≡ c → heading head u (drop_one x rs) ≡ heading head u rs → heading head u (if c then rs else r ∷ drop_one x rs) ≡ (if head r.0 == u then 1 else 0) + heading head u rs
    by_test true q ih =
        let e : (head r.0 == u) ≡ false = neq (head r.0) u (λ h. ne (sym h ∙ ap head (same r.0 x q))) in
        rw e (omega arith)
    by_test false q ih = omega (arith, ih)

pub pending_drop : (members : ℕ → List ℕ) (x e : ℕ) (rs : List (ℕ × ℕ)) → 0 < times x rs → pending members e (drop_one x rs) + count_by (λ u. u == e) (take (number_of x rs) (members x)) ≡ pending members e rs
pending_drop members x e [] h = absurd (omega arith)
pending_drop members x e (r ∷ rs) h = by_test (r.0 == x) refl h (pending_drop members x e rs)
  where
    by_test : (c : Bool) → (r.0 == x) ≡ c → 0 < (if c then 1 else 0) + times x rs
        → (0 < times x rs → pending members e (drop_one x rs) + count_by (λ u. u == e) (take (number_of x rs) (members x)) ≡ pending members e rs)
        → pending members e (if c then rs else r ∷ drop_one x rs) + count_by (λ u. u == e) (take (if c then r.1 else number_of x rs) (members x)) ≡ count_by (λ u. u == e) (take r.1 (members r.0)) + pending members e rs
    by_test true q h ih = omega (arith, ap (λ (j : ℕ). count_by (λ u. u == e) (take r.1 (members j))) (same r.0 x q))
    by_test false q h ih = omega (arith, ih (omega arith))

-- no token of x is left after its only one is dropped
pub times_gone : (x : ℕ) (rs : List (ℕ × ℕ)) → 0 < times x rs → times x rs ≤ 1 → times x (drop_one x rs) ≡ 0
times_gone x rs h le = omega (arith, times_drop x rs h, le)

pub heading_more : (head : ℕ → ℕ) (x u n : ℕ) (rs : List (ℕ × ℕ)) → u ≢ head x → heading head u ((x, n) ∷ rs) ≡ heading head u rs
heading_more head x u n rs ne = let q = neq (head x) u (λ h. ne (sym h)) in rw q (omega arith)

pub heading_own : (head : ℕ → ℕ) (x n : ℕ) (rs : List (ℕ × ℕ)) → heading head (head x) ((x, n) ∷ rs) ≡ 1 + heading head (head x) rs
heading_own head x n rs = let q = itself (head x) in rw q (omega arith)

-- the latest run of the words that were found

pub seen_own : (e n : ℕ) (ns : List (ℕ × ℕ)) → seen_run e ((e, n) ∷ ns) ≡ max (n / 1048576) (seen_run e ns)
seen_own e n ns = let q = itself e in rw q refl

pub seen_more : (e u n : ℕ) (ns : List (ℕ × ℕ)) → u ≢ e → seen_run u ((e, n) ∷ ns) ≡ seen_run u ns
seen_more e u n ns ne = let q = neq e u (λ h. ne (sym h)) in rw q refl

-- a word that was found is no later than its element
pub seen_next : (run : ℕ → ℕ) (e n : ℕ) (ns : List (ℕ × ℕ)) (u : ℕ) → n / 1048576 ≤ run e → seen_run u ns ≤ run u → seen_run u ((e, n) ∷ ns) ≤ run u
seen_next run e n ns u here there = by_test (e == u) refl
  where
    by_test : (c : Bool) → (e == u) ≡ c → seen_run u ((e, n) ∷ ns) ≤ run u
    by_test true q = rw q (omega (arith, there, here, ap run (same e u q)))
    by_test false q = rw q there

pub heading_most : (head : ℕ → ℕ) (x : ℕ) (rs : List (ℕ × ℕ)) → times x rs ≤ heading head (head x) rs
heading_most head x [] = omega arith
heading_most head x (r ∷ rs) = by_test (r.0 == x) refl (heading_most head x rs)
  where
    by_test : (c : Bool) → (r.0 == x) ≡ c → times x rs ≤ heading head (head x) rs → (if c then 1 else 0) + times x rs ≤ (if head r.0 == head x then 1 else 0) + heading head (head x) rs
    by_test true q ih =
        let e : (head r.0 == head x) ≡ true = ap (λ (j : ℕ). head j == head x) (same r.0 x q) ∙ itself (head x) in
        rw e (omega (arith, ih))
    by_test false q ih = omega (arith, ih)
