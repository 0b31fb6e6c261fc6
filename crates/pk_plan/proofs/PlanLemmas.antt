-- What follows from the axioms of a plan for its lists.
use Rattle.std.proofs.Common.{◌≡◌, ◌≢◌, ℕ, zero, suc, ◌<◌, ◌≤◌, ◌+◌, ◌-◌, ◌⊎◌, inl, inr, List, [], ◌∷◌, length, get_or, drop, map, arith, ap, sym, subst, ◌∙◌, add-one, Contains, IsTrue, ◌↔◌, ◌&&◌, true}
use Rattle.std.proofs.Math.Dec.{leb, ltb}
use Rattle.std.specs.List.{range_with_len, AllPairs}
use Rattle.std.specs.List.Sorted.{IsStrictlyIncreasing}
use Rattle.std.proofs.lemmas.Bool.{cases_lt}
use Rattle.std.proofs.lemmas.Bool.Decides.{eqb_tells, nat_tests}
use Rattle.std.proofs.lemmas.List.{get_or_default, get_or-map, get_or-take, get_or-drop, length-take, length-drop, length-map}
use Rattle.std.proofs.lemmas.List.FromFn.{get_or-range_with_len}
use Rattle.std.proofs.lemmas.List.Kept.{AllPairs-from_increasing}
use Rattle.std.proofs.lemmas.List.Elements.{Contains-get_or, All-contains}
use Rattle.pk_plan.specs.declared.components.Component.{Component}
use Rattle.pk_plan.specs.Plans.{PlanView, predecessors_of, Constrains, Precedes, One, More, place_of, members_of, Inside, is_inside}
use Rattle.pk_plan.specs.Axioms.{Axioms}

-- each number of a rising list is at least its place
rising_at : (xs : List ℕ) (k : ℕ) → IsStrictlyIncreasing xs → k < length xs → k ≤ get_or xs k 0
rising_at xs zero rise in_range = omega arith
rising_at xs (suc k) rise in_range =
    let before : k ≤ get_or xs k 0 = rising_at xs k rise (omega arith) in
    let step : get_or xs k 0 < get_or xs (k + 1) 0 = rise k (omega arith) in
    let at : get_or xs (k + 1) 0 ≡ get_or xs (suc k) 0 = ap (λ (n : ℕ). get_or xs n 0) (add-one k) in
    omega (arith, before, step, at)

-- a rising list is no longer than its numbers are large
pub length-rising : (xs : List ℕ) (n : ℕ) → IsStrictlyIncreasing xs → ((k : ℕ) → k < length xs → get_or xs k 0 < n) → length xs ≤ n
length-rising [] n rise below = omega arith
length-rising (x ∷ xs) n rise below =
    let at = rising_at (x ∷ xs) (length xs) rise (omega arith) in
    let last = below (length xs) (omega arith) in
    omega (arith, at, last)

-- a list that holds something stands within its lists
within_lists : (lists : List (List ℕ)) (a b : ℕ) → Contains (get_or lists a []) b → a < length lists
within_lists [] a b has = absurd (omega (arith, has.1))
within_lists (list ∷ lists) zero b has = omega arith
within_lists (list ∷ lists) (suc a) b has = let more = within_lists lists a b has in omega (arith, more)

-- both ends of a constraint are elements
pub constrains_from : (p : PlanView) (a b : ℕ) → Axioms p → Constrains p a b → a < p.elements
constrains_from p a b axioms c = let l : a < length p.successors = within_lists p.successors a b c in let e = axioms.successor_lists in omega (arith, l, e)

-- the predecessors of an element are elements
pub predecessor_within : (p : PlanView) (e k : ℕ) → Axioms p → k < length (predecessors_of p e) → get_or (predecessors_of p e) k 0 < p.elements
predecessor_within p e k axioms in_range =
    constrains_from p (get_or (predecessors_of p e) k 0) e axioms
    (axioms.to_successor (get_or (predecessors_of p e) k 0) e (Contains-get_or (predecessors_of p e) k 0 in_range))

-- an element has at most as many predecessors as there are elements
pub full_within : (p : PlanView) (e : ℕ) → Axioms p → e < p.elements → length (predecessors_of p e) ≤ p.elements
full_within p e axioms below =
    let lists : e < length p.predecessors = (let l = axioms.predecessor_lists in omega (arith, l, below)) in
    length-rising (predecessors_of p e) p.elements (axioms.predecessors_rise e [] lists) (λ k in_range. predecessor_within p e k axioms in_range)

-- the components of a plan
abbrev pub Of : PlanView → Component → Type 0
Of p c = Contains p.components c

-- the number of a component's exit
pub exit_at : (p : PlanView) (c : Component) → Axioms p → (of : Of p c) → c.exit ≡ p.points + of.0
exit_at p c axioms of =
    let k = of.0 in
    let in_range : k < length p.components = of.1 in
    let f : Component → ℕ = λ (d : Component). d.exit in
    let mapped : get_or (map f p.components) k 0 ≡ f (get_or p.components k c) = get_or-map f p.components k c 0 in_range in
    let ranged : get_or (map f p.components) k 0 ≡ get_or (range_with_len p.points (length p.components)) k 0 = ap (λ (xs : List ℕ). get_or xs k 0) axioms.exits in
    ap f (sym of.2) ∙ sym mapped ∙ ranged ∙ get_or-range_with_len p.points (length p.components) k 0 in_range

-- heads are points, and exits are elements
pub head_is_point : (p : PlanView) (c : Component) → Axioms p → Of p c → c.head < p.points
head_is_point p c axioms of = All-contains (λ (d : Component). d.head < p.points) p.components c axioms.points of

pub head_within : (p : PlanView) (c : Component) → Axioms p → Of p c → c.head < p.elements
head_within p c axioms of = let point = head_is_point p c axioms of in omega (arith, point, axioms.counted)

pub exit_within : (p : PlanView) (c : Component) → Axioms p → Of p c → c.exit < p.elements
exit_within p c axioms of = let at = exit_at p c axioms of in omega (arith, at, of.1, axioms.counted)

-- where its stretch begins and ends
pub first_at : (p : PlanView) (c : Component) → Axioms p → Of p c → c.first ≡ place_of p c.head
first_at p c axioms of = All-contains (λ (d : Component). d.first ≡ place_of p d.head) p.components c axioms.first of

pub end_at : (p : PlanView) (c : Component) → Axioms p → Of p c → c.end ≡ place_of p c.exit
end_at p c axioms of = All-contains (λ (d : Component). d.end ≡ place_of p d.exit) p.components c axioms.end of

pub first_before_end : (p : PlanView) (c : Component) → Axioms p → Of p c → c.first < c.end
first_before_end p c axioms of = All-contains (λ (d : Component). d.first < d.end) p.components c axioms.not_empty of

pub end_within : (p : PlanView) (c : Component) → Axioms p → Of p c → c.end < p.elements
end_within p c axioms of = let at = end_at p c axioms of in let below = axioms.place c.exit (exit_within p c axioms of) in omega (arith, at, below)

-- an element is a member where its place lies in the stretch
pub record Stands (p : PlanView) (c : Component) (e : ℕ) : Type 0 where
  pub within : e < p.elements
  pub from : c.first ≤ place_of p e
  pub before : place_of p e < c.end

pub stands_inside : (p : PlanView) (c : Component) (e : ℕ) → Axioms p → Of p c → Inside p c e → Stands p c e
stands_inside p c e axioms of inside =
    let k = inside.0 in
    let below_end = end_within p c axioms of in
    let long : k < c.end - c.first = (
    let taken = length-take (c.end - c.first) (drop c.first p.listing) in
    omega (arith, inside.1, taken)) in
    let dropped : length (drop c.first p.listing) ≡ length p.listing - c.first = length-drop c.first p.listing in
    let at : c.first + k < p.elements = omega (arith, long, below_end) in
    let is : get_or p.listing (c.first + k) 0 ≡ e = (
    sym (get_or_default p.listing (c.first + k) e 0 (omega (arith, at, axioms.listed)))
    ∙ sym (get_or-drop c.first p.listing k e) ∙ sym (get_or-take (c.end - c.first) (drop c.first p.listing) k e long) ∙ inside.2) in
    let place : place_of p e ≡ c.first + k = ap (place_of p) (sym is) ∙ axioms.place_at (c.first + k) at in
    record {
      within = subst (λ (x : ℕ). x < p.elements) is (axioms.element (c.first + k) at);
      from = omega (arith, place);
      before = omega (arith, place, long);
    }

pub inside_by_place : (p : PlanView) (c : Component) (e : ℕ) → Axioms p → Of p c → Stands p c e → Inside p c e
inside_by_place p c e axioms of stands =
    let k = place_of p e - c.first in
    let below_end = end_within p c axioms of in
    let long : k < c.end - c.first = (let from = stands.from in let before = stands.before in omega (arith, from, before)) in
    let at : c.first + k ≡ place_of p e = (let from = stands.from in omega (arith, from)) in
    let below : place_of p e < length p.listing = (let before = stands.before in omega (arith, before, below_end, axioms.listed)) in
    let taken = length-take (c.end - c.first) (drop c.first p.listing) in
    let dropped = length-drop c.first p.listing in
    let is : get_or (members_of p c) k e ≡ e = (
    get_or-take (c.end - c.first) (drop c.first p.listing) k e long
    ∙ get_or-drop c.first p.listing k e
    ∙ ap (λ (n : ℕ). get_or p.listing n e) at
    ∙ get_or_default p.listing (place_of p e) e 0 below
    ∙ axioms.at_place e stands.within) in
    (k, omega (arith, long, taken, dropped, below_end, axioms.listed), is)

-- a component's head is a member, and its exit isn't
pub head_inside : (p : PlanView) (c : Component) → Axioms p → Of p c → Inside p c c.head
head_inside p c axioms of =
    let first = first_at p c axioms of in
    let before = first_before_end p c axioms of in
    inside_by_place p c c.head axioms of (record { within = head_within p c axioms of; from = omega (arith, first); before = omega (arith, first, before) })

pub exit_outside : (p : PlanView) (c : Component) → Axioms p → Of p c → Inside p c c.exit → ⊥
exit_outside p c axioms of inside = let stands = stands_inside p c c.exit axioms of inside in let end = end_at p c axioms of in let before = stands.before in absurd (omega (arith, end, before))

-- elements at one place are the same
pub same_place : (p : PlanView) (a b : ℕ) → Axioms p → a < p.elements → b < p.elements → place_of p a ≡ place_of p b → a ≡ b
same_place p a b axioms a_in b_in same = sym (axioms.at_place a a_in) ∙ ap (λ (n : ℕ). get_or p.listing n 0) same ∙ axioms.at_place b b_in

-- an exit has one component, and so has a head
same_index : (p : PlanView) (c d : Component) (of_c : Of p c) (of_d : Of p d) → of_c.0 ≡ of_d.0 → c ≡ d
same_index p c d of_c of_d same =
    sym of_c.2 ∙ get_or_default p.components of_c.0 c d of_c.1 ∙ ap (λ (n : ℕ). get_or p.components n d) same ∙ of_d.2

pub same_exit : (p : PlanView) (c d : Component) → Axioms p → Of p c → Of p d → c.exit ≡ d.exit → c ≡ d
same_exit p c d axioms of_c of_d same =
    let at_c = exit_at p c axioms of_c in
    let at_d = exit_at p d axioms of_d in
    same_index p c d of_c of_d (omega (arith, at_c, at_d, same))

head_read : (p : PlanView) (c : Component) (of : Of p c) → get_or (map (λ (x : Component). x.head) p.components) of.0 0 ≡ c.head
head_read p c of = get_or-map (λ (x : Component). x.head) p.components of.0 c 0 of.1 ∙ ap (λ (x : Component). x.head) of.2

heads_apart : (p : PlanView) (c d : Component) → Axioms p → (of_c : Of p c) (of_d : Of p d) → of_c.0 < of_d.0 → c.head < d.head
heads_apart p c d axioms of_c of_d less =
    let heads = map (λ (x : Component). x.head) p.components in
    let pairs : AllPairs (λ (x y : ℕ). x < y) heads = AllPairs-from_increasing heads axioms.heads in
    let long : length heads ≡ length p.components = length-map p.components (λ (x : Component). x.head) in
    let rises : get_or heads of_c.0 0 < get_or heads of_d.0 0 = pairs of_c.0 of_d.0 0 less (omega (arith, long, of_d.1)) in
    let at_c = head_read p c of_c in
    let at_d = head_read p d of_d in
    omega (arith, rises, at_c, at_d)

pub same_head : (p : PlanView) (c d : Component) → Axioms p → Of p c → Of p d → c.head ≡ d.head → c ≡ d
same_head p c d axioms of_c of_d same = elim (eqb_tells of_c.0 of_d.0) [
  | inl equal ↦ same_index p c d of_c of_d equal.1
  | inr other ↦ elim (cases_lt of_c.0 of_d.0) [
    | inl less ↦ absurd (let apart = heads_apart p c d axioms of_c of_d less in omega (arith, apart, same))
    | inr more ↦ absurd (let apart = heads_apart p d c axioms of_d of_c (let ne = other.1 in omega (arith, more, ne)) in omega (arith, apart, same))
  ]
]

-- a component whose stretch begins inside another's ends inside it
pub exit_inside : (p : PlanView) (c d : Component) → Axioms p → Of p c → Of p d → c ≢ d → Inside p c d.head → Inside p c d.exit
exit_inside p c d axioms of_c of_d other inside =
    let stands = stands_inside p c d.head axioms of_c inside in
    let from = stands.from in
    let before = stands.before in
    let first_d = first_at p d axioms of_d in
    let first_c = first_at p c axioms of_c in
    let order_d = first_before_end p d axioms of_d in
    let apart : c.first ≢ d.first = λ same. other (same_head p c d axioms of_c of_d (same_place p c.head d.head axioms (head_within p c axioms of_c) (head_within p d axioms of_d) (sym first_c ∙ same ∙ first_d))) in
    let ends = axioms.nested c d of_c of_d (omega (arith, from, first_d, apart)) (omega (arith, before, first_d)) in
    let end_d = end_at p d axioms of_d in
    inside_by_place p c d.exit axioms of_c (record { within = exit_within p d axioms of_d; from = omega (arith, end_d, order_d, from, first_d); before = omega (arith, end_d, ends) })

-- components that share a member lie one in the other
pub nested_or_apart : (p : PlanView) (c d : Component) (e : ℕ) → Axioms p → Of p c → Of p d → Inside p c e → Inside p d e → ((u : ℕ) → Inside p d u → Inside p c u) ⊎ ((u : ℕ) → Inside p c u → Inside p d u)
nested_or_apart p c d e axioms of_c of_d in_c in_d =
    let at_c = stands_inside p c e axioms of_c in_c in
    let at_d = stands_inside p d e axioms of_d in_d in
    elim (cases_lt c.first d.first) [
      | inl less ↦ inl (contained p c d axioms of_c of_d (omega (arith, less))
          (let ends = axioms.nested c d of_c of_d less (let x = at_d.from in let y = at_c.before in omega (arith, x, y)) in omega (arith, ends)))
      | inr more ↦ elim (eqb_tells c.first d.first) [
        | inl same ↦ inl (
            let equal : c ≡ d = same_head p c d axioms of_c of_d (same_place p c.head d.head axioms (head_within p c axioms of_c) (head_within p d axioms of_d) (sym (first_at p c axioms of_c) ∙ same.1 ∙ first_at p d axioms of_d)) in
            λ u inside. subst (λ (x : Component). Inside p x u) (sym equal) inside)
        | inr other ↦ inr (contained p d c axioms of_d of_c (omega (arith, more))
            (let ends = axioms.nested d c of_d of_c (let ne = other.1 in omega (arith, more, ne)) (let x = at_c.from in let y = at_d.before in omega (arith, x, y)) in omega (arith, ends)))
      ]
    ]
  where
    contained : (p : PlanView) (c d : Component) → Axioms p → Of p c → Of p d → c.first ≤ d.first → d.end ≤ c.end → (u : ℕ) → Inside p d u → Inside p c u
    contained p c d axioms of_c of_d firsts ends u inside =
        let at = stands_inside p d u axioms of_d inside in
        inside_by_place p c u axioms of_c (record { within = at.within; from = let x = at.from in omega (arith, x, firsts); before = let x = at.before in omega (arith, x, ends) })

-- what precedes another stands at an earlier place, so nothing precedes itself
pub precedes_rises : (p : PlanView) (a b : ℕ) → Axioms p → Precedes p a b → place_of p a < place_of p b
precedes_rises p a b axioms (One c) = axioms.rises a b c
precedes_rises p a b axioms (More {b = w} before c) =
    let first = precedes_rises p a w axioms before in
    let last = axioms.rises w b c in
    omega (arith, first, last)

pub acyclic : (p : PlanView) (e : ℕ) → Axioms p → Precedes p e e → ⊥
acyclic p e axioms cycle = let rises = precedes_rises p e e axioms cycle in absurd (omega (arith, rises))

-- one list of constraints after another
pub precedes_trans : (p : PlanView) (a b c : ℕ) → Precedes p a b → Precedes p b c → Precedes p a c
precedes_trans p a b c before (One last) = More before last
precedes_trans p a b c before (More {b = w} more last) = More (precedes_trans p a b w before more) last

-- the test by places tells members
between_tells : (a b c : ℕ) → (leb a b && ltb b c) ≡ true → (a ≤ b) × (b < c)
between_tells a b c h = (grind (arith, nat_tests), grind (arith, nat_tests))

tells_between : (a b c : ℕ) → a ≤ b → b < c → (leb a b && ltb b c) ≡ true
tells_between a b c from before = grind (arith, nat_tests)

pub is_inside_tells : (p : PlanView) (c : Component) (e : ℕ) → Axioms p → Of p c → e < p.elements → IsTrue (is_inside p c e) ↔ Inside p c e
is_inside_tells p c e axioms of within = (
  (λ yes. let at = between_tells c.first (place_of p e) c.end yes in inside_by_place p c e axioms of (record { within = within; from = at.0; before = at.1 })),
  (λ inside. let at = stands_inside p c e axioms of inside in tells_between c.first (place_of p e) c.end at.from at.before),
)
