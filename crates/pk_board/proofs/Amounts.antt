-- How many members of a component constrain one of them, or its exit, where none stands before the component.
use Rattle.std.proofs.Common.{◌≡◌, ℕ, zero, suc, ◌<◌, ◌≤◌, ◌⊎◌, ◌&&◌, inl, inr, List, [], ◌∷◌, length, get_or, count_by, cond, fold, min, Bool, true, refl, sym, ap, arith}
use Rattle.std.proofs.lemmas.Bool.Decides.{nat_tests}
use Rattle.std.proofs.lemmas.List.Elements.{Contains-get_or}
use Rattle.std.proofs.lemmas.List.Sums.{sum_by-cons}
use Rattle.std.proofs.Math.Dec.{leb, ltb}
use Rattle.pk_plan.specs.declared.components.Component.{Component}
use Rattle.pk_plan.specs.Plans.{PlanView, predecessors_of, place_of, Inside, is_inside, inner_count, full_count}
use Rattle.pk_plan.specs.Axioms.{Axioms}
use Rattle.pk_plan.proofs.PlanLemmas.{Of, stands_inside, end_at}
use Rattle.pk_board.specs.Earliest.{earliest_of}

-- the least of a list
least_start : (f : ℕ → ℕ) (z : ℕ) (xs : List ℕ) → fold (λ least a. min least (f a)) z xs ≤ z
least_start f z [] = omega arith
least_start f z (x ∷ xs) = omega (arith, least_start f (min z (f x)) xs)

least_below : (f : ℕ → ℕ) (z : ℕ) (xs : List ℕ) (k : ℕ) → k < length xs → fold (λ least a. min least (f a)) z xs ≤ f (get_or xs k 0)
least_below f z [] k h = absurd (omega (arith, h))
least_below f z (x ∷ xs) zero h = omega (arith, least_start f (min z (f x)) xs)
least_below f z (x ∷ xs) (suc k) h = least_below f (min z (f x)) xs k (omega (arith, h))

count_all : (f : ℕ → Bool) (xs : List ℕ) → ((k : ℕ) → k < length xs → f (get_or xs k 0) ≡ true) → count_by f xs ≡ length xs
count_all f [] all = refl
count_all f (x ∷ xs) all =
    let here : f x ≡ true = all 0 (omega arith) in
    let later : count_by f xs ≡ length xs = count_all f xs (λ k h. all (suc k) (omega (arith, h))) in
    omega (arith, sum_by-cons (λ (y : ℕ). cond (f y) 1 0) x xs, ap {B = ℕ} (λ (c : Bool). cond c 1 0) here, later)

within_tells : (first at end : ℕ) → first ≤ at → at < end → (leb first at && ltb at end) ≡ true
within_tells first at end from before = grind (arith, nat_tests)

-- a member of a component stands before its exit, and the exit at its end
stands_by : (p : PlanView) (c : Component) (e : ℕ) → Axioms p → Of p c → Inside p c e ⊎ (e ≡ c.exit) → place_of p e ≤ c.end
stands_by p c e axioms of (inl inside) = let stands = stands_inside p c e axioms of inside in let before = stands.before in omega (arith, before)
stands_by p c e axioms of (inr exit) = let at = end_at p c axioms of in let same = ap (place_of p) exit in omega (arith, at, same)

pub inner_is_full : (p : PlanView) (c : Component) (e : ℕ) → Axioms p → Of p c → Inside p c e ⊎ (e ≡ c.exit) → c.first ≤ earliest_of p e → full_count p e ≡ inner_count p c e
inner_is_full p c e axioms of within early = sym (count_all (is_inside p c) (predecessors_of p e) here)
  where
    here : (k : ℕ) → k < length (predecessors_of p e) → is_inside p c (get_or (predecessors_of p e) k 0) ≡ true
    here k in_range =
        let a = get_or (predecessors_of p e) k 0 in
        let from = least_below (place_of p) p.elements (predecessors_of p e) k in_range in
        let before = axioms.rises a e (axioms.to_successor a e (Contains-get_or (predecessors_of p e) k 0 in_range)) in
        let last = stands_by p c e axioms of within in
        within_tells c.first (place_of p a) c.end (omega (arith, from, early)) (omega (arith, before, last))
