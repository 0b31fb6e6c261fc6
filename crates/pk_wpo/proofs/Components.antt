-- The components of a laid out nest, in the order of their heads.
use Rattle.std.proofs.Common.{◌≡◌, ℕ, zero, suc, ◌<◌, ◌+◌, Bool, true, false, cond, List, [], ◌∷◌, ◌++◌, ◌⊎◌, inl, inr, length, get_or, map, sym, subst, arith, ap, refl, ◌∙◌, length-append, add-one, Contains, append-nil}
use Rattle.std.specs.List.{range_with_len}
use Rattle.std.proofs.lemmas.Bool.{cases_lt}
use Rattle.std.specs.List.Sorted.{IsStrictlyIncreasing}
use Rattle.std.proofs.lemmas.List.{get_or-map, length-map, map-id, map-append}
use Rattle.std.proofs.lemmas.List.Elements.{Contains-get_or, Contains-append_left, Contains-append_cases, Contains-push}
use Rattle.std.proofs.lemmas.List.FromFn.{get_or-range_with_len, map-range_with_len_more, length-range_with_len}
use Rattle.std.proofs.lemmas.List.Kept.{IsStrictlyIncreasing-filter}
use Rattle.pk_plan.specs.declared.components.Component.{Component}
use Rattle.pk_plan.specs.Nests.{Items}
use Rattle.pk_wpo.specs.Constraints.{is_head, heads_below}
use Rattle.pk_wpo.specs.Layouts.{Laid, IsLaid, component_at, components_in}
use Rattle.pk_wpo.proofs.Numbers.{head_holds, holds_head, heads_below_more}
use Rattle.pk_wpo.proofs.Placed.{Hold, exit_in, head_vertex}

-- what stands among the heads below a number
bool_cases : (b : Bool) → (b ≡ true) ⊎ (b ≡ false)
bool_cases true = inl refl
bool_cases false = inr refl

pub heads_are : (items : Items) (v h : ℕ) → Contains (heads_below items v) h → (is_head items h ≡ true) × (h < v)
heads_are items zero h c = absurd (omega (arith, c.1))
heads_are items (suc v) h c = elim (bool_cases (is_head items v)) [
  | inl yes' ↦
      let more : heads_below items (suc v) ≡ heads_below items v ++ v ∷ [] = ap (heads_below items) (sym (add-one v)) ∙ heads_below_more items v ∙ ap (λ (b : Bool). heads_below items v ++ cond b (v ∷ []) []) yes' in
      elim (Contains-append_cases (heads_below items v) (v ∷ []) h (subst (λ (xs : List ℕ). Contains xs h) more c)) [
        | inl old ↦ let are = heads_are items v h old in let below = are.1 in (are.0, omega (arith, below))
        | inr new ↦ let is : h ≡ v = single v h new in (subst (λ (k : ℕ). is_head items k ≡ true) (sym is) yes', omega (arith, is))
      ]
  | inr no' ↦
      let more : heads_below items (suc v) ≡ heads_below items v ++ [] = ap (heads_below items) (sym (add-one v)) ∙ heads_below_more items v ∙ ap (λ (b : Bool). heads_below items v ++ cond b (v ∷ []) []) no' in
      elim (Contains-append_cases (heads_below items v) [] h (subst (λ (xs : List ℕ). Contains xs h) more c)) [
        | inl old ↦ let are = heads_are items v h old in let below = are.1 in (are.0, omega (arith, below))
        | inr new ↦ absurd (omega (arith, new.1))
      ]
]
  where
    single : (v h : ℕ) → Contains (v ∷ []) h → h ≡ v
    single v h (zero, below, is) = sym is
    single v h (suc k, below, is) = absurd (omega (arith, below))

pub head_among : (items : Items) (v h : ℕ) → is_head items h ≡ true → h < v → Contains (heads_below items v) h
head_among items zero h head below = absurd (omega (arith, below))
head_among items (suc v) h head below =
    let more : heads_below items (suc v) ≡ heads_below items v ++ cond (is_head items v) (v ∷ []) [] = ap (heads_below items) (sym (add-one v)) ∙ heads_below_more items v in
    subst (λ (xs : List ℕ). Contains xs h) (sym more) (elim (cases h v below) [
      | inl less ↦ Contains-append_left (heads_below items v) (cond (is_head items v) (v ∷ []) []) h (head_among items v h head less)
      | inr same ↦
          let test : is_head items v ≡ true = subst (λ (k : ℕ). is_head items k ≡ true) same head in
          subst (λ (b : Bool). Contains (heads_below items v ++ cond b (v ∷ []) []) h) (sym test)
          (subst (λ (k : ℕ). Contains (heads_below items v ++ v ∷ []) k) (sym same) (Contains-push (heads_below items v) v))
    ])
  where
    cases : (h v : ℕ) → h < suc v → (h < v) ⊎ (h ≡ v)
    cases h v below = elim (cases_lt h v) [ inl less ↦ inl less | inr more ↦ inr (omega (arith, below, more)) ]

-- the components are those of the heads
pub component_is : (l : Laid) (c : Component) → Contains (components_in l) c → (c ≡ component_at l c.head) × Hold l c.head c.head × (c.head < length l.graph)
component_is l c of =
    let heads = heads_below l.items (length l.graph) in
    let long : length (components_in l) ≡ length heads = length-map heads (component_at l) in
    let below = of.1 in
    let in_range : of.0 < length heads = omega (arith, below, long) in
    let h = get_or heads of.0 0 in
    let is : c ≡ component_at l h = sym of.2 ∙ get_or-map (component_at l) heads of.0 0 c in_range in
    let same : c.head ≡ h = ap (λ (x : Component). x.head) is in
    let are = heads_are l.items (length l.graph) h (Contains-get_or heads of.0 0 in_range) in (
      is ∙ ap (component_at l) (sym same),
      subst (λ (k : ℕ). Hold l k k) (sym same) (head_holds l.items h are.0),
      subst (λ (k : ℕ). k < length l.graph) (sym same) are.1,
    )

pub component_of_head : (l : Laid) (h : ℕ) → IsLaid l → Hold l h h → Contains (components_in l) (component_at l h)
component_of_head l h laid x =
    let heads = heads_below l.items (length l.graph) in
    let among : Contains heads h = head_among l.items (length l.graph) h (holds_head l.items h h x) (head_vertex l h h laid x) in
    let long : length (components_in l) ≡ length heads = length-map heads (component_at l) in
    let below = among.1 in
    (among.0, omega (arith, below, long), get_or-map (component_at l) heads among.0 h (component_at l h) below ∙ ap (component_at l) among.2)

-- heads rise, and exits follow the points
pub components_heads : (l : Laid) (heads : List ℕ) → map (λ (c : Component). c.head) (map (component_at l) heads) ≡ heads
components_heads l [] = refl
components_heads l (h ∷ heads) = ap (λ (xs : List ℕ). h ∷ xs) (components_heads l heads)

pub components_exits : (l : Laid) (heads : List ℕ) → map (λ (c : Component). c.exit) (map (component_at l) heads) ≡ map (exit_in l) heads
components_exits l [] = refl
components_exits l (h ∷ heads) = ap (λ (xs : List ℕ). exit_in l h ∷ xs) (components_exits l heads)

pub range_rises : (n : ℕ) → IsStrictlyIncreasing (range_with_len 0 n)
range_rises n k below =
    let long = length-range_with_len 0 n in
    let one = get_or-range_with_len 0 n k 0 (omega (arith, below, long)) in
    let two = get_or-range_with_len 0 n (k + 1) 0 (omega (arith, below, long)) in
    omega (arith, one, two)

pub heads_rise : (items : Items) (n : ℕ) → IsStrictlyIncreasing (heads_below items n)
heads_rise items n = IsStrictlyIncreasing-filter (is_head items) (range_with_len 0 n) (range_rises n)

pub exits_follow : (l : Laid) (v : ℕ) → map (exit_in l) (heads_below l.items v) ≡ range_with_len (length l.graph) (length (heads_below l.items v))
exits_follow l zero = refl
exits_follow l (suc v) = elim (bool_cases (is_head l.items v)) [
  | inl yes' ↦
      let heads = heads_below l.items v in
      let n = length l.graph in
      let more : heads_below l.items (suc v) ≡ heads ++ v ∷ [] = ap (heads_below l.items) (sym (add-one v)) ∙ heads_below_more l.items v ∙ ap (λ (b : Bool). heads ++ cond b (v ∷ []) []) yes' in
      let longer : length (heads_below l.items (suc v)) ≡ length heads + 1 = ap (λ (xs : List ℕ). length xs) more ∙ length-append heads (v ∷ []) in
      let ranges : range_with_len n (length heads + 1) ≡ range_with_len n (length heads) ++ (n + length heads) ∷ [] =
      sym (map-id (range_with_len n (length heads + 1))) ∙ map-range_with_len_more (λ (x : ℕ). x) n (length heads) (n + length heads) refl ∙ ap (λ (xs : List ℕ). xs ++ (n + length heads) ∷ []) (map-id (range_with_len n (length heads))) in
      ap (map (exit_in l)) more ∙ map-append (exit_in l) heads (v ∷ []) ∙ ap (λ (xs : List ℕ). xs ++ exit_in l v ∷ []) (exits_follow l v) ∙ sym ranges ∙ ap (range_with_len n) (sym longer)
  | inr no' ↦
      let heads = heads_below l.items v in
      let more : heads_below l.items (suc v) ≡ heads ++ [] = ap (heads_below l.items) (sym (add-one v)) ∙ heads_below_more l.items v ∙ ap (λ (b : Bool). heads ++ cond b (v ∷ []) []) no' in
      let same : heads_below l.items (suc v) ≡ heads = more ∙ append-nil heads in
      ap (map (exit_in l)) same ∙ exits_follow l v ∙ ap (λ (xs : List ℕ). range_with_len (length l.graph) (length xs)) (sym same)
]

-- one head more, or none
pub components_more : (l : Laid) (h : ℕ) (old new : List Component) → is_head l.items h ≡ true → new ≡ old ++ component_at l h ∷ [] → old ≡ map (component_at l) (heads_below l.items h) → new ≡ map (component_at l) (heads_below l.items (h + 1))
components_more l h old new told is so_far =
    let heads = heads_below l.items h in
    let more : heads_below l.items (h + 1) ≡ heads ++ h ∷ [] = heads_below_more l.items h ∙ ap (λ (b : Bool). heads ++ cond b (h ∷ []) []) told in
    is ∙ ap (λ (xs : List Component). xs ++ component_at l h ∷ []) so_far ∙ sym (map-append (component_at l) heads (h ∷ [])) ∙ ap (map (component_at l)) (sym more)

pub components_same : (l : Laid) (h : ℕ) → is_head l.items h ≡ false → map (component_at l) (heads_below l.items h) ≡ map (component_at l) (heads_below l.items (h + 1))
components_same l h told =
    let heads = heads_below l.items h in
    let more : heads_below l.items (h + 1) ≡ heads ++ [] = heads_below_more l.items h ∙ ap (λ (b : Bool). heads ++ cond b (h ∷ []) []) told in
    ap (map (component_at l)) (sym (more ∙ append-nil heads))
