-- The plan with a component in a component meets what is asked.
use Rattle.std.proofs.Common.{◌≡◌, ◌≢◌, ℕ, zero, suc, ◌<◌, ◌==◌, ◌⊎◌, inl, inr, List, [], ◌∷◌, drop, get_or, true, false, refl, sym, subst, arith, Contains}
use Rattle.std.proofs.Math.Dec.{ltb}
use Rattle.std.proofs.lemmas.Bool.Decides.{nat_tests}
use Rattle.std.specs.List.Sorted.{IsStrictlyIncreasing}
use Rattle.std.proofs.lemmas.List.Elements.{All-from_recursion}
use Rattle.pk_plan.specs.declared.components.Component.{Component}
use Rattle.pk_plan.specs.Order.{Empty, Component_then}
use Rattle.pk_plan.specs.Plans.{predecessors_of, place_of, Constrains, Precedes, One, More, Inside}
use Rattle.pk_plan.specs.Axioms.{Axioms}
use Rattle.pk_plan.specs.Shape.{has, holds, shape_of}
use Rattle.pk_iterate.specs.Iteration.{Task, Run, Exit, to_do, progress}
use Rattle.pk_iterate.specs.Ending.{Ends}
use Rattle.pk_core.specs.Orders.{IsPlaced, IsOrderOf}
use Rattle.pk_iterate.specs.Fits.{FitsPlan, IsHeadOver}
use Rattle.pk_core.specs.Nested.{nested_plan, nested_order, nested_system, NestedMeetsAll}
use Rattle.pk_core.proofs.Basics.{neq}
use Rattle.pk_core.proofs.Sequence.{drop_short}

abbrev outer : Component
outer = record { head = 0; exit = 2; first = 0; end = 3 }

abbrev inner : Component
inner = record { head = 1; exit = 3; first = 1; end = 2 }

-- ---- lists of a few elements

is_one : {X : Type 0} (x y : X) → Contains (x ∷ []) y → x ≡ y
is_one x y (zero, in_range, is) = is
is_one x y (suc k, in_range, is) = absurd (omega (arith, in_range))

is_two : {X : Type 0} (x y z : X) → Contains (x ∷ y ∷ []) z → (x ≡ z) ⊎ (y ≡ z)
is_two x y z (zero, in_range, is) = inl is
is_two x y z (suc zero, in_range, is) = inr is
is_two x y z (suc (suc k), in_range, is) = absurd (omega (arith, in_range))

is_three : {X : Type 0} (x y z w : X) → Contains (x ∷ y ∷ z ∷ []) w → (x ≡ w) ⊎ ((y ≡ w) ⊎ (z ≡ w))
is_three x y z w (zero, in_range, is) = inl is
is_three x y z w (suc zero, in_range, is) = inr (inl is)
is_three x y z w (suc (suc zero), in_range, is) = inr (inr is)
is_three x y z w (suc (suc (suc k)), in_range, is) = absurd (omega (arith, in_range))

at_first : {X : Type 0} (x : X) (xs : List X) → Contains (x ∷ xs) x
at_first x xs = (0, omega arith, refl)

none_in : {X : Type 0} (y : X) → Contains [] y → ⊥
none_in y found = omega (arith, found.1)

rises_none : IsStrictlyIncreasing []
rises_none = λ k l. absurd (omega (arith, l))

rises_one : (x : ℕ) → IsStrictlyIncreasing (x ∷ [])
rises_one x = λ k l. absurd (omega (arith, l))

rises_two : (x y : ℕ) → x < y → IsStrictlyIncreasing (x ∷ y ∷ [])
rises_two x y less zero l = less
rises_two x y less (suc k) l = absurd (omega (arith, l))

-- ---- constraints

c01 : Constrains nested_plan 0 1
c01 = at_first 1 []

c13 : Constrains nested_plan 1 3
c13 = at_first 3 []

c32 : Constrains nested_plan 3 2
c32 = at_first 2 []

c24 : Constrains nested_plan 2 4
c24 = at_first 4 []

p01 : Precedes nested_plan 0 1
p01 = One c01

p03 : Precedes nested_plan 0 3
p03 = More p01 c13

p02 : Precedes nested_plan 0 2
p02 = More p03 c32

p04 : Precedes nested_plan 0 4
p04 = More p02 c24

p13 : Precedes nested_plan 1 3
p13 = One c13

p12 : Precedes nested_plan 1 2
p12 = More p13 c32

p14 : Precedes nested_plan 1 4
p14 = More p12 c24

p32 : Precedes nested_plan 3 2
p32 = One c32

p34 : Precedes nested_plan 3 4
p34 = More p32 c24

p24 : Precedes nested_plan 2 4
p24 = One c24

-- each constraint is one of the four
data Constraint : ℕ → ℕ → Type 0 where
  zero_one : Constraint 0 1
  one_three : Constraint 1 3
  three_two : Constraint 3 2
  two_four : Constraint 2 4

constraint : (a b : ℕ) → Constrains nested_plan a b → Constraint a b
constraint zero b found = subst (Constraint 0) (is_one 1 b found) zero_one
constraint (suc zero) b found = subst (Constraint 1) (is_one 3 b found) one_three
constraint (suc (suc zero)) b found = subst (Constraint 2) (is_one 4 b found) two_four
constraint (suc (suc (suc zero))) b found = subst (Constraint 3) (is_one 2 b found) three_two
constraint (suc (suc (suc (suc zero)))) b found = absurd (none_in b found)
constraint (suc (suc (suc (suc (suc n))))) b found = absurd (none_in b found)

predecessor : (a b : ℕ) → Contains (predecessors_of nested_plan b) a → Constraint a b
predecessor a zero found = absurd (none_in a found)
predecessor a (suc zero) found = subst (λ k. Constraint k 1) (is_one 0 a found) zero_one
predecessor a (suc (suc zero)) found = subst (λ k. Constraint k 2) (is_one 3 a found) three_two
predecessor a (suc (suc (suc zero))) found = subst (λ k. Constraint k 3) (is_one 1 a found) one_three
predecessor a (suc (suc (suc (suc zero)))) found = subst (λ k. Constraint k 4) (is_one 2 a found) two_four
predecessor a (suc (suc (suc (suc (suc n))))) found = absurd (none_in a found)

to_predecessor : (a b : ℕ) → Constraint a b → Contains (predecessors_of nested_plan b) a
to_predecessor a b zero_one = at_first 0 []
to_predecessor a b one_three = at_first 1 []
to_predecessor a b three_two = at_first 3 []
to_predecessor a b two_four = at_first 2 []

to_successor : (a b : ℕ) → Constraint a b → Constrains nested_plan a b
to_successor a b zero_one = c01
to_successor a b one_three = c13
to_successor a b three_two = c32
to_successor a b two_four = c24

within : (a b : ℕ) → Constraint a b → b < 5
within a b zero_one = omega arith
within a b one_three = omega arith
within a b three_two = omega arith
within a b two_four = omega arith

rises : (a b : ℕ) → Constraint a b → place_of nested_plan a < place_of nested_plan b
rises a b zero_one = omega arith
rises a b one_three = omega arith
rises a b three_two = omega arith
rises a b two_four = omega arith

from_end : (b : ℕ) → Constraint 4 b → ⊥
from_end b found = by 4 b refl found
  where
    by : (a c : ℕ) → a ≡ 4 → Constraint a c → ⊥
    by a c is zero_one = omega (arith, is)
    by a c is one_three = omega (arith, is)
    by a c is three_two = omega (arith, is)
    by a c is two_four = omega (arith, is)

-- ---- elements

place : (e : ℕ) → e < 5 → place_of nested_plan e < 5
place zero below = omega arith
place (suc zero) below = omega arith
place (suc (suc zero)) below = omega arith
place (suc (suc (suc zero))) below = omega arith
place (suc (suc (suc (suc zero)))) below = omega arith
place (suc (suc (suc (suc (suc n))))) below = absurd (omega (arith, below))

element : (at : ℕ) → at < 5 → get_or nested_plan.listing at 0 < 5
element zero below = omega arith
element (suc zero) below = omega arith
element (suc (suc zero)) below = omega arith
element (suc (suc (suc zero))) below = omega arith
element (suc (suc (suc (suc zero)))) below = omega arith
element (suc (suc (suc (suc (suc n))))) below = absurd (omega (arith, below))

at_place : (e : ℕ) → e < 5 → get_or nested_plan.listing (place_of nested_plan e) 0 ≡ e
at_place zero below = refl
at_place (suc zero) below = refl
at_place (suc (suc zero)) below = refl
at_place (suc (suc (suc zero))) below = refl
at_place (suc (suc (suc (suc zero)))) below = refl
at_place (suc (suc (suc (suc (suc n))))) below = absurd (omega (arith, below))

place_at : (at : ℕ) → at < 5 → place_of nested_plan (get_or nested_plan.listing at 0) ≡ at
place_at zero below = refl
place_at (suc zero) below = refl
place_at (suc (suc zero)) below = refl
place_at (suc (suc (suc zero))) below = refl
place_at (suc (suc (suc (suc zero)))) below = refl
place_at (suc (suc (suc (suc (suc n))))) below = absurd (omega (arith, below))

before_end : (e : ℕ) → e < 4 → Precedes nested_plan e 4
before_end zero below = p04
before_end (suc zero) below = p14
before_end (suc (suc zero)) below = p24
before_end (suc (suc (suc zero))) below = p34
before_end (suc (suc (suc (suc n)))) below = absurd (omega (arith, below))

-- ---- components

one_of : (c : Component) → Contains nested_plan.components c → (outer ≡ c) ⊎ (inner ≡ c)
one_of c found = is_two outer inner c found

in_outer : (e : ℕ) → Inside nested_plan outer e → (0 ≡ e) ⊎ ((1 ≡ e) ⊎ (3 ≡ e))
in_outer e found = is_three 0 1 3 e found

in_inner : (e : ℕ) → Inside nested_plan inner e → 1 ≡ e
in_inner e found = is_one 1 e found

end_outside : (c : Component) → Contains nested_plan.components c → Inside nested_plan c 4 → ⊥
end_outside c of inside = elim (one_of c of) [
  | inl is ↦ elim (in_outer 4 (subst (λ k. Inside nested_plan k 4) (sym is) inside)) [ inl q ↦ absurd (omega (arith, q)) | inr q ↦ elim q [ inl r ↦ absurd (omega (arith, r)) | inr r ↦ absurd (omega (arith, r)) ] ]
  | inr is ↦ (let q = in_inner 4 (subst (λ k. Inside nested_plan k 4) (sym is) inside) in absurd (omega (arith, q)))
]

after_outer : (e : ℕ) → Inside nested_plan outer e → e ≢ 0 → Precedes nested_plan 0 e
after_outer e inside ne = elim (in_outer e inside) [
  | inl q ↦ absurd (ne (sym q))
  | inr q ↦ elim q [ inl r ↦ subst (Precedes nested_plan 0) r p01 | inr r ↦ subst (Precedes nested_plan 0) r p03 ]
]

after_head : (c : Component) (e : ℕ) → Contains nested_plan.components c → Inside nested_plan c e → e ≢ c.head → Precedes nested_plan c.head e
after_head c e of = elim (one_of c of) [
  | inl is ↦ subst (λ (k : Component). Inside nested_plan k e → e ≢ k.head → Precedes nested_plan k.head e) is (after_outer e)
  | inr is ↦ subst (λ (k : Component). Inside nested_plan k e → e ≢ k.head → Precedes nested_plan k.head e) is (λ inside ne. absurd (ne (sym (in_inner e inside))))
]

to_exit : (e : ℕ) → Inside nested_plan outer e → Precedes nested_plan e 2
to_exit e inside = elim (in_outer e inside) [
  | inl q ↦ subst (λ k. Precedes nested_plan k 2) q p02
  | inr q ↦ elim q [ inl r ↦ subst (λ k. Precedes nested_plan k 2) r p12 | inr r ↦ subst (λ k. Precedes nested_plan k 2) r p32 ]
]

before_exit : (c : Component) (e : ℕ) → Contains nested_plan.components c → Inside nested_plan c e → Precedes nested_plan e c.exit
before_exit c e of = elim (one_of c of) [
  | inl is ↦ subst (λ (k : Component). Inside nested_plan k e → Precedes nested_plan e k.exit) is (to_exit e)
  | inr is ↦ subst (λ (k : Component). Inside nested_plan k e → Precedes nested_plan e k.exit) is (λ inside. subst (λ k. Precedes nested_plan k 3) (in_inner e inside) p13)
]

stays_outer : (a b : ℕ) → Inside nested_plan outer a → Constraint a b → Inside nested_plan outer b ⊎ (b ≡ 2)
stays_outer a b inside zero_one = inl (1, omega arith, refl)
stays_outer a b inside one_three = inl (2, omega arith, refl)
stays_outer a b inside three_two = inr refl
stays_outer a b inside two_four = elim (in_outer 2 inside) [ inl q ↦ absurd (omega (arith, q)) | inr q ↦ elim q [ inl r ↦ absurd (omega (arith, r)) | inr r ↦ absurd (omega (arith, r)) ] ]

stays_inner : (a b : ℕ) → Inside nested_plan inner a → Constraint a b → Inside nested_plan inner b ⊎ (b ≡ 3)
stays_inner a b inside zero_one = (let q = in_inner 0 inside in absurd (omega (arith, q)))
stays_inner a b inside one_three = inr refl
stays_inner a b inside three_two = (let q = in_inner 3 inside in absurd (omega (arith, q)))
stays_inner a b inside two_four = (let q = in_inner 2 inside in absurd (omega (arith, q)))

stays : (c : Component) (a b : ℕ) → Contains nested_plan.components c → Inside nested_plan c a → Constrains nested_plan a b → Inside nested_plan c b ⊎ (b ≡ c.exit)
stays c a b of inside found = elim (one_of c of) [
  | inl is ↦ subst (λ (k : Component). Inside nested_plan k a → Inside nested_plan k b ⊎ (b ≡ k.exit)) is (λ i. stays_outer a b i (constraint a b found)) inside
  | inr is ↦ subst (λ (k : Component). Inside nested_plan k a → Inside nested_plan k b ⊎ (b ≡ k.exit)) is (λ i. stays_inner a b i (constraint a b found)) inside
]

nested : (c d : Component) → Contains nested_plan.components c → Contains nested_plan.components d → c.first < d.first → d.first < c.end → d.end < c.end
nested c d of_c of_d = elim (one_of c of_c) [
  | inl q ↦ elim (one_of d of_d) [
    | inl r ↦ subst (λ (k : Component). k.first < d.first → d.first < k.end → d.end < k.end) q (subst (λ (k : Component). 0 < k.first → k.first < 3 → k.end < 3) r (λ x y. absurd (omega (arith, x))))
    | inr r ↦ subst (λ (k : Component). k.first < d.first → d.first < k.end → d.end < k.end) q (subst (λ (k : Component). 0 < k.first → k.first < 3 → k.end < 3) r (λ x y. omega arith))
  ]
  | inr q ↦ elim (one_of d of_d) [
    | inl r ↦ subst (λ (k : Component). k.first < d.first → d.first < k.end → d.end < k.end) q (subst (λ (k : Component). 1 < k.first → k.first < 2 → k.end < 2) r (λ x y. absurd (omega (arith, x))))
    | inr r ↦ subst (λ (k : Component). k.first < d.first → d.first < k.end → d.end < k.end) q (subst (λ (k : Component). 1 < k.first → k.first < 2 → k.end < 2) r (λ x y. absurd (omega (arith, x))))
  ]
]

nested_axioms : Axioms nested_plan
nested_axioms = record {
  counted = refl;
  heads = rises_two 0 1 (omega arith);
  points = All-from_recursion (λ (c : Component). c.head < 2) nested_plan.components (omega arith, (omega arith, tt));
  exits = refl;
  successor_lists = refl;
  predecessor_lists = refl;
  to_predecessor = λ a b found. to_predecessor a b (constraint a b found);
  to_successor = λ a b found. to_successor a b (predecessor a b found);
  within = λ a b found. within a b (constraint a b found);
  successors_rise = All-from_recursion IsStrictlyIncreasing nested_plan.successors (rises_one 1, (rises_one 3, (rises_one 4, (rises_one 2, (rises_none, tt)))));
  predecessors_rise = All-from_recursion IsStrictlyIncreasing nested_plan.predecessors (rises_none, (rises_one 0, (rises_one 3, (rises_one 1, (rises_one 2, tt)))));
  listed = refl;
  placed = refl;
  place = place;
  element = element;
  at_place = at_place;
  place_at = place_at;
  rises = λ a b found. rises a b (constraint a b found);
  end_outside = end_outside;
  end_is_last = λ b found. from_end b (constraint 4 b found);
  before_end = before_end;
  first = All-from_recursion (λ (c : Component). c.first ≡ place_of nested_plan c.head) nested_plan.components (refl, (refl, tt));
  end = All-from_recursion (λ (c : Component). c.end ≡ place_of nested_plan c.exit) nested_plan.components (refl, (refl, tt));
  not_empty = All-from_recursion (λ (c : Component). c.first < c.end) nested_plan.components (omega arith, (omega arith, tt));
  nested = nested;
  after_head = after_head;
  before_exit = before_exit;
  stays = stays;
}

-- ---- the order

far : (n k : ℕ) → k < 5 → (suc (suc (suc (suc (suc n)))) == k) ≡ false
far n k h = neq (suc (suc (suc (suc (suc n))))) k (λ e. absurd (omega (arith, e, h)))

past : (n : ℕ) → ltb (suc (suc (suc (suc (suc n))))) 5 ≡ false
past n = grind (arith, nat_tests)

every : (u : ℕ) → u < 5 → has u (0 ∷ 1 ∷ 3 ∷ 2 ∷ 4 ∷ []) ≡ true
every zero h = refl
every (suc zero) h = refl
every (suc (suc zero)) h = refl
every (suc (suc (suc zero))) h = refl
every (suc (suc (suc (suc zero)))) h = refl
every (suc (suc (suc (suc (suc n))))) h = absurd (omega (arith, h))

forward0 : (u : ℕ) → has u (predecessors_of nested_plan 0) ≡ true → has u (0 ∷ 1 ∷ 3 ∷ 2 ∷ 4 ∷ []) ≡ false
forward0 zero h = absurd (cc)
forward0 (suc zero) h = absurd (cc)
forward0 (suc (suc zero)) h = absurd (cc)
forward0 (suc (suc (suc zero))) h = absurd (cc)
forward0 (suc (suc (suc (suc zero)))) h = absurd (cc)
forward0 (suc (suc (suc (suc (suc n))))) h = absurd (cc)

forward1 : (u : ℕ) → has u (predecessors_of nested_plan 1) ≡ true → has u (1 ∷ 3 ∷ 2 ∷ 4 ∷ []) ≡ false
forward1 zero h = refl
forward1 (suc zero) h = absurd (cc)
forward1 (suc (suc zero)) h = absurd (cc)
forward1 (suc (suc (suc zero))) h = absurd (cc)
forward1 (suc (suc (suc (suc zero)))) h = absurd (cc)
forward1 (suc (suc (suc (suc (suc n))))) h = let f0 = far n 0 (omega arith) in absurd (cc)

forward3 : (u : ℕ) → has u (predecessors_of nested_plan 3) ≡ true → has u (3 ∷ 2 ∷ 4 ∷ []) ≡ false
forward3 zero h = absurd (cc)
forward3 (suc zero) h = refl
forward3 (suc (suc zero)) h = absurd (cc)
forward3 (suc (suc (suc zero))) h = absurd (cc)
forward3 (suc (suc (suc (suc zero)))) h = absurd (cc)
forward3 (suc (suc (suc (suc (suc n))))) h = let f0 = far n 1 (omega arith) in absurd (cc)

forward2 : (u : ℕ) → has u (predecessors_of nested_plan 2) ≡ true → has u (2 ∷ 4 ∷ []) ≡ false
forward2 zero h = absurd (cc)
forward2 (suc zero) h = absurd (cc)
forward2 (suc (suc zero)) h = absurd (cc)
forward2 (suc (suc (suc zero))) h = refl
forward2 (suc (suc (suc (suc zero)))) h = absurd (cc)
forward2 (suc (suc (suc (suc (suc n))))) h = let f0 = far n 3 (omega arith) in absurd (cc)

forward4 : (u : ℕ) → has u (predecessors_of nested_plan 4) ≡ true → has u (4 ∷ []) ≡ false
forward4 zero h = absurd (cc)
forward4 (suc zero) h = absurd (cc)
forward4 (suc (suc zero)) h = refl
forward4 (suc (suc (suc zero))) h = absurd (cc)
forward4 (suc (suc (suc (suc zero)))) h = absurd (cc)
forward4 (suc (suc (suc (suc (suc n))))) h = let f0 = far n 2 (omega arith) in absurd (cc)

inside3 : (u : ℕ) → holds nested_plan 3 u ≡ has u (1 ∷ [])
inside3 zero = refl
inside3 (suc zero) = refl
inside3 (suc (suc zero)) = refl
inside3 (suc (suc (suc zero))) = refl
inside3 (suc (suc (suc (suc zero)))) = refl
inside3 (suc (suc (suc (suc (suc n))))) = let out = past n in let f0 = far n 1 (omega arith) in rw (out, f0) refl

inside2 : (u : ℕ) → holds nested_plan 2 u ≡ has u (0 ∷ 1 ∷ 3 ∷ [])
inside2 zero = refl
inside2 (suc zero) = refl
inside2 (suc (suc zero)) = refl
inside2 (suc (suc (suc zero))) = refl
inside2 (suc (suc (suc (suc zero)))) = refl
inside2 (suc (suc (suc (suc (suc n))))) = let out = past n in let f0 = far n 0 (omega arith) in let f1 = far n 1 (omega arith) in let f2 = far n 3 (omega arith) in rw (out, f0, f1, f2) refl

placed : (i : ℕ) (t : Task) (left : List Task) → drop i (to_do nested_order []) ≡ t ∷ left → IsPlaced (shape_of nested_plan) t left
placed zero t left h =
    let a : Run 0 ≡ t = cc in
    let l : (Run 1) ∷ (Exit 1 3 Empty) ∷ (Exit 0 2 (Component_then 1 3 Empty Empty)) ∷ (Run 4) ∷ [] ≡ left = cc in
    subst (λ (x : Task). IsPlaced (shape_of nested_plan) x left) a (subst (λ (y : List Task). IsPlaced (shape_of nested_plan) (Run 0) y) l (record { in_range = omega arith; once = refl; forward = forward0; is_task = refl }))
placed (suc zero) t left h =
    let a : Run 1 ≡ t = cc in
    let l : (Exit 1 3 Empty) ∷ (Exit 0 2 (Component_then 1 3 Empty Empty)) ∷ (Run 4) ∷ [] ≡ left = cc in
    subst (λ (x : Task). IsPlaced (shape_of nested_plan) x left) a (subst (λ (y : List Task). IsPlaced (shape_of nested_plan) (Run 1) y) l (record { in_range = omega arith; once = refl; forward = forward1; is_task = refl }))
placed (suc (suc zero)) t left h =
    let a : Exit 1 3 Empty ≡ t = cc in
    let l : (Exit 0 2 (Component_then 1 3 Empty Empty)) ∷ (Run 4) ∷ [] ≡ left = cc in
    subst (λ (x : Task). IsPlaced (shape_of nested_plan) x left) a (subst (λ (y : List Task). IsPlaced (shape_of nested_plan) (Exit 1 3 Empty) y) l (record { in_range = omega arith; once = refl; forward = forward3; is_task = (refl, inside3) }))
placed (suc (suc (suc zero))) t left h =
    let a : Exit 0 2 (Component_then 1 3 Empty Empty) ≡ t = cc in
    let l : (Run 4) ∷ [] ≡ left = cc in
    subst (λ (x : Task). IsPlaced (shape_of nested_plan) x left) a (subst (λ (y : List Task). IsPlaced (shape_of nested_plan) (Exit 0 2 (Component_then 1 3 Empty Empty)) y) l (record { in_range = omega arith; once = refl; forward = forward2; is_task = (refl, inside2) }))
placed (suc (suc (suc (suc zero)))) t left h =
    let a : Run 4 ≡ t = cc in
    let l : [] ≡ left = cc in
    subst (λ (x : Task). IsPlaced (shape_of nested_plan) x left) a (subst (λ (y : List Task). IsPlaced (shape_of nested_plan) (Run 4) y) l (record { in_range = omega arith; once = refl; forward = forward4; is_task = refl }))
placed (suc (suc (suc (suc (suc n))))) t left h = absurd (omega (arith, drop_short (suc (suc (suc (suc (suc n))))) (to_do nested_order []) t left h))

nested_ordered : IsOrderOf (shape_of nested_plan) nested_order
nested_ordered = record { every = every; placed = placed }

-- ---- the system

of_outer : Contains nested_plan.components outer
of_outer = at_first outer (inner ∷ [])

of_inner : Contains nested_plan.components inner
of_inner = (1, omega arith, refl)

abbrev FitsAt : ℕ → ℕ → Type 0
FitsAt e u = (u ≡ e) ⊎ (Precedes nested_plan u e ⊎ IsHeadOver nested_plan e u)

-- what stands in a list of three fits, if each of the three does
three : (e x y z : ℕ) → FitsAt e x → FitsAt e y → FitsAt e z → (u : ℕ) → Contains (x ∷ y ∷ z ∷ []) u → FitsAt e u
three e x y z f g h u found = elim (is_three x y z u found) [
  | inl q ↦ subst (FitsAt e) q f
  | inr q ↦ elim q [ inl r ↦ subst (FitsAt e) r g | inr r ↦ subst (FitsAt e) r h ]
]

nested_fits : FitsPlan nested_system nested_plan
nested_fits zero u below found = three 0 2 0 1 (inr (inr (record { component = outer; of = of_outer; head = refl; over = inr refl }))) (inl refl) (inr (inr (record { component = outer; of = of_outer; head = refl; over = inl (1, omega arith, refl) }))) u found
nested_fits (suc zero) u below found = three 1 3 1 0 (inr (inr (record { component = inner; of = of_inner; head = refl; over = inr refl }))) (inl refl) (inr (inl p01)) u found
nested_fits (suc (suc zero)) u below found = three 2 2 0 1 (inl refl) (inr (inl p02)) (inr (inl p12)) u found
nested_fits (suc (suc (suc zero))) u below found = three 3 3 1 0 (inl refl) (inr (inl p13)) (inr (inl p03)) u found
nested_fits (suc (suc (suc (suc n)))) u below found = absurd (none_in u found)

nested_ends : Ends nested_system nested_order
unfolding progress
nested_ends = record { made = 13; whole = refl }

pub nested_meets : NestedMeetsAll
nested_meets = record { axioms = nested_axioms; is_order = nested_ordered; fits = nested_fits; ends = nested_ends }
