-- There is one listing at most, and its counts are those of the walk.
use Rattle.std.proofs.Common.{suc, zero, inl, inr, ⊎_elim, ◌≡◌, ◌<◌, ◌≤◌, ◌⊎◌, ℕ, ◌+◌, List, [], ◌∷◌, ◌++◌, length, take, drop, arith, refl, sym, ◌∙◌, ap}
use Rattle.std.specs.Prelude.{Some, slice_get}
use Rattle.std.proofs.lemmas.Bool.{cases_lt}
use Rattle.std.proofs.lemmas.List.{take-append-drop, take-append-le, take_all, drop_all, append-nil, length-take-le}
use Rattle.std.proofs.lemmas.List.Sums.{sum-map}
use Rattle.pk_typed.specs.Trees.{UnitTree}
use Rattle.pk_calls.specs.declared.listings.CallPath.{CallPath}
use Rattle.pk_calls.specs.Calls.{locals_of}
use Rattle.pk_calls.specs.Forests.{IsCounted, capped}
use Rattle.pk_calls.specs.Paths.{entry_path, path_by, longer, IsListing, variables_of}
use Rattle.pk_calls.proofs.LeadLemmas.{slice_get_right, longer_is, leads_by}
use Rattle.pk_calls.proofs.Listing.{longer-append, objects_of, all_listed}

empty_or : (xs : List CallPath) → (xs ≡ []) ⊎ ((b : CallPath) × (bs : List CallPath) × (xs ≡ b ∷ bs))
empty_or [] = inl refl
empty_or (x ∷ xs) = inr (x, xs, refl)

-- the longer paths of the first n, and those of the others
longer_parts : (u : UnitTree) (n : ℕ) (ps : List CallPath) → longer u 0 ps ≡ longer u 0 (take n ps) ++ longer u (length (take n ps)) (drop n ps)
longer_parts u n ps =
    let e : 0 + length (take n ps) ≡ length (take n ps) = omega arith in
    ap (longer u 0) (sym (take-append-drop n ps)) ∙ longer-append u 0 (take n ps) (drop n ps) ∙ ap (λ (k : ℕ). longer u 0 (take n ps) ++ longer u k (drop n ps)) e

-- where the first n have fewer longer paths, the others have none
no_others : (u : UnitTree) (entry n : ℕ) (ps : List CallPath) → IsListing u entry ps → length (longer u 0 (take n ps)) < n → longer u (length (take n ps)) (drop n ps) ≡ []
no_others u entry n ps is few =
    ⊎_elim
    (λ (past : length ps < n). ap (longer u (length (take n ps))) (drop_all n ps (omega arith)))
    (λ (within : n ≤ length ps).
    ⊎_elim
    (λ (none : longer u (length (take n ps)) (drop n ps) ≡ []). none)
    (λ (some : (b : CallPath) × (bs : List CallPath) × (longer u (length (take n ps)) (drop n ps) ≡ b ∷ bs)).
    let front : List CallPath = longer u 0 (take n ps) in
    let back : List CallPath = longer u (length (take n ps)) (drop n ps) in
    let first : slice_get back 0 ≡ Some some.0 = ap (λ (qs : List CallPath). slice_get qs 0) some.2 in
    let by = longer_is u (length (take n ps)) (drop n ps) 0 some.0 first in
    let there : slice_get ps (suc (length front + 0)) ≡ Some (path_by (length (take n ps) + by.0) by.1 (by.3).function) =
    ap (λ (qs : List CallPath). slice_get qs (suc (length front + 0))) (is.in_order ∙ ap (λ (qs : List CallPath). entry_path entry ∷ qs) (longer_parts u n ps)) ∙ slice_get_right front back 0 ∙ first ∙ ap (λ (q : CallPath). Some q) by.6 in
    let lt : length (take n ps) + by.0 < suc (length front + 0) = is.behind (length (take n ps) + by.0) by.1 (suc (length front + 0)) (leads_by ps (length (take n ps) + by.0) by.1 (suc (length front + 0)) (by.3).function there) in
    absurd (omega (arith, length-take-le n ps within)))
    (empty_or (longer u (length (take n ps)) (drop n ps))))
    (cases_lt (length ps) n)

-- what is listed after the entry depends on what is before it
take_next : (u : UnitTree) (entry n : ℕ) (ps : List CallPath) → IsListing u entry ps → take (suc n) ps ≡ entry_path entry ∷ take n (longer u 0 (take n ps))
take_next u entry n ps is =
    let front : List CallPath = longer u 0 (take n ps) in
    let back : List CallPath = longer u (length (take n ps)) (drop n ps) in
    let same : take n (longer u 0 ps) ≡ take n front =
    ap (take n) (longer_parts u n ps) ∙ ⊎_elim
    (λ (few : length front < n). ap (take n) (ap (λ (qs : List CallPath). front ++ qs) (no_others u entry n ps is few) ∙ append-nil front))
    (λ (enough : n ≤ length front). take-append-le n front back enough)
    (cases_lt (length front) n) in
    ap (take (suc n)) is.in_order ∙ ap (λ (qs : List CallPath). entry_path entry ∷ qs) same

same_fronts : (u : UnitTree) (entry n : ℕ) (ps qs : List CallPath) → IsListing u entry ps → IsListing u entry qs → take n ps ≡ take n qs
same_fronts u entry zero ps qs p q = refl
same_fronts u entry (suc n) ps qs p q = take_next u entry n ps p ∙ ap (λ (rs : List CallPath). entry_path entry ∷ take n (longer u 0 rs)) (same_fronts u entry n ps qs p q) ∙ sym (take_next u entry n qs q)

-- a unit has one listing at most
pub listing_determined : (u : UnitTree) (entry : ℕ) (ps qs : List CallPath) → IsListing u entry ps → IsListing u entry qs → ps ≡ qs
listing_determined u entry ps qs p q =
    let n : ℕ = length ps + length qs in
    sym (take_all n ps (omega arith)) ∙ same_fronts u entry n ps qs p q ∙ take_all n qs (omega arith)

-- its counts
pub listing_counted : (u : UnitTree) (entry paths variables : ℕ) (ps : List CallPath) → IsCounted u entry paths variables → IsListing u entry ps → (paths ≡ capped (length ps)) × (variables ≡ capped (objects_of u ps))
listing_counted u entry paths variables ps k is =
    let all = all_listed u entry k.below k.is_forest in
    let same : all.0 ≡ ps = listing_determined u entry all.0 ps all.1 is in
    let long : length all.0 ≡ length ps = ap {B = ℕ} length same in
    let objects : objects_of u all.0 ≡ objects_of u ps = ap {B = ℕ} (objects_of u) same in
    (k.paths_is ∙ ap (λ (n : ℕ). capped n) (sym all.2 ∙ long), k.variables_is ∙ ap (λ (n : ℕ). capped n) (sym all.3 ∙ objects))

pub variables_by_objects : (u : UnitTree) (ps : List CallPath) → variables_of u ps ≡ length u.objects + objects_of u ps
variables_by_objects u ps = ap (λ (n : ℕ). length u.objects + n) (sum-map (λ (p : CallPath). locals_of u p.function + 1) ps)
