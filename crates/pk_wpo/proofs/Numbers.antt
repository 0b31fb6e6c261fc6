-- Heads, and the numbers of exits.
use Rattle.std.proofs.Common.{◌≡◌, ℕ, zero, suc, ◌<◌, ◌≤◌, ◌+◌, ◌-◌, ◌==◌, ◌||◌, Bool, true, false, cond, List, [], ◌∷◌, ◌++◌, ◌⊎◌, inl, inr, length, filter, sym, subst, arith, ap, refl, ◌∙◌, length-append}
use Rattle.std.specs.List.{range_with_len}
use Rattle.std.proofs.lemmas.Bool.{cases_lt}
use Rattle.std.proofs.lemmas.Bool.Decides.{eqb_tells}
use Rattle.std.proofs.lemmas.List.{map-id}
use Rattle.std.proofs.lemmas.List.FromFn.{map-range_with_len_more}
use Rattle.std.proofs.lemmas.List.Elements.{filter-append}
use Rattle.pk_plan.specs.Nests.{Items, No_items, Vertex_first, Component_first, Holds}
use Rattle.pk_wpo.specs.Constraints.{is_head, heads_below, exit_of}

-- the test tells heads
or_either : (a b : Bool) → (a || b) ≡ true → (a ≡ true) ⊎ (b ≡ true)
or_either true b h = inl refl
or_either false b h = inr h

or_left : (a b : Bool) → a ≡ true → (a || b) ≡ true
or_left true b h = refl
or_left false b h = absurd (cc)

or_right : (a b : Bool) → b ≡ true → (a || b) ≡ true
or_right true b h = refl
or_right false b h = h

same_test : (v : ℕ) → (v == v) ≡ true
same_test v = elim (eqb_tells v v) [ inl h ↦ h.0 | inr h ↦ absurd (h.1 refl) ]

test_same : (v w : ℕ) → (v == w) ≡ true → v ≡ w
test_same v w h = elim (eqb_tells v w) [ inl x ↦ x.1 | inr x ↦ absurd (let f : (v == w) ≡ false = x.0 in cc) ]

pub head_holds : (items : Items) (v : ℕ) → is_head items v ≡ true → Holds items v v
head_holds No_items v h = absurd (cc)
head_holds (Vertex_first u more) v h = head_holds more v h
head_holds (Component_first head rest more) v h = elim (or_either (v == head) (is_head rest v || is_head more v) h) [
  | inl e ↦ let same : v ≡ head = test_same v head e in inl (same, inl same)
  | inr o ↦ elim (or_either (is_head rest v) (is_head more v) o) [
    | inl r ↦ inr (inl (head_holds rest v r))
    | inr m ↦ inr (inr (head_holds more v m))
  ]
]

pub holds_head : (items : Items) (h u : ℕ) → Holds items h u → is_head items h ≡ true
holds_head No_items h u x = absurd x
holds_head (Vertex_first v more) h u x = holds_head more h u x
holds_head (Component_first head rest more) h u (inl x) = or_left (h == head) (is_head rest h || is_head more h) (subst (λ (k : ℕ). (h == k) ≡ true) x.0 (same_test h))
holds_head (Component_first head rest more) h u (inr (inl x)) = or_right (h == head) (is_head rest h || is_head more h) (or_left (is_head rest h) (is_head more h) (holds_head rest h u x))
holds_head (Component_first head rest more) h u (inr (inr x)) = or_right (h == head) (is_head rest h || is_head more h) (or_right (is_head rest h) (is_head more h) (holds_head more h u x))

-- the numbers of exits rise by one at each head
pub heads_below_more : (items : Items) (v : ℕ) → heads_below items (v + 1) ≡ heads_below items v ++ cond (is_head items v) (v ∷ []) []
heads_below_more items v =
    let ranges : range_with_len 0 (v + 1) ≡ range_with_len 0 v ++ v ∷ [] =
    sym (map-id (range_with_len 0 (v + 1))) ∙ map-range_with_len_more (λ (x : ℕ). x) 0 v v (omega arith) ∙ ap (λ (xs : List ℕ). xs ++ v ∷ []) (map-id (range_with_len 0 v)) in
    ap (filter (is_head items)) ranges ∙ filter-append (is_head items) (range_with_len 0 v) (v ∷ [])

pub exit_at_head : (g : List (List ℕ)) (items : Items) (v : ℕ) → is_head items v ≡ true → exit_of g items (v + 1) ≡ exit_of g items v + 1
exit_at_head g items v h =
    let more : heads_below items (v + 1) ≡ heads_below items v ++ v ∷ [] = heads_below_more items v ∙ ap (λ (b : Bool). heads_below items v ++ cond b (v ∷ []) []) h in
    let long = ap (λ (xs : List ℕ). length xs) more in
    let joined = length-append (heads_below items v) (v ∷ []) in
    omega (arith, long, joined)

pub exit_at_other : (g : List (List ℕ)) (items : Items) (v : ℕ) → is_head items v ≡ false → exit_of g items (v + 1) ≡ exit_of g items v
exit_at_other g items v h =
    let more : heads_below items (v + 1) ≡ heads_below items v ++ [] = heads_below_more items v ∙ ap (λ (b : Bool). heads_below items v ++ cond b (v ∷ []) []) h in
    let long = ap (λ (xs : List ℕ). length xs) more in
    let joined = length-append {A = ℕ} (heads_below items v) [] in
    omega (arith, long, joined)

bool_cases : (b : Bool) → (b ≡ true) ⊎ (b ≡ false)
bool_cases true = inl refl
bool_cases false = inr refl

exit_grows : (g : List (List ℕ)) (items : Items) (v d : ℕ) → exit_of g items v ≤ exit_of g items (v + d)
exit_grows g items v zero = let same : exit_of g items (v + 0) ≡ exit_of g items v = ap (λ (n : ℕ). exit_of g items n) (omega arith) in omega (arith, same)
exit_grows g items v (suc d) =
    let before = exit_grows g items v d in
    let same : exit_of g items (v + suc d) ≡ exit_of g items ((v + d) + 1) = ap (λ (n : ℕ). exit_of g items n) (omega arith) in
    elim (bool_cases (is_head items (v + d))) [
      | inl h ↦ let step = exit_at_head g items (v + d) h in omega (arith, before, same, step)
      | inr h ↦ let step = exit_at_other g items (v + d) h in omega (arith, before, same, step)
    ]

pub exit_rises : (g : List (List ℕ)) (items : Items) (h k : ℕ) → Holds items h h → h < k → exit_of g items h < exit_of g items k
exit_rises g items h k x less =
    let step = exit_at_head g items h (holds_head items h h x) in
    let grows = exit_grows g items (h + 1) (k - (h + 1)) in
    let same : exit_of g items ((h + 1) + (k - (h + 1))) ≡ exit_of g items k = ap (λ (n : ℕ). exit_of g items n) (omega arith) in
    omega (arith, step, grows, same)

pub exit_apart : (g : List (List ℕ)) (items : Items) (h k : ℕ) → Holds items h h → Holds items k k → exit_of g items h ≡ exit_of g items k → h ≡ k
exit_apart g items h k x y same = elim (eqb_tells h k) [
  | inl e ↦ e.1
  | inr ne ↦ elim (cases_lt h k) [
    | inl less ↦ absurd (let rises = exit_rises g items h k x less in omega (arith, rises, same))
    | inr more ↦ absurd (let other = ne.1 in let rises = exit_rises g items k h y (omega (arith, more, other)) in omega (arith, rises, same))
  ]
]
