-- Whether a path leads from one vertex to another among those of a list.
use Rattle.std.proofs.Common.{◌≢◌, ℕ, zero, suc, ◌<◌, ◌≤◌, List, [], length, refl, sym, subst, inl, inr, arith, Contains}
use Rattle.std.proofs.lemmas.Bool.{cases_eq}
use Rattle.std.specs.List.{slice_index_or}
use Rattle.pk_linear.proofs.ListLemmas.{is_or_is_not}
use Rattle.pk_plan.specs.Digraphs.{Edge, Reach, Here, Then}
use Rattle.pk_nest.proofs.Paths.{reach_start, reach_from, reach_wider}
use Rattle.pk_order_laws.proofs.Told.{Told, any_in, told_both}
use Rattle.pk_order_laws.proofs.Picking.{Picked, picked}

-- a path to another vertex leaves its start for good by an edge
pub leaves : (g : List (List ℕ)) (S T : ℕ → Type 0) (u v : ℕ) → ((x : ℕ) → S x → x ≢ u → T x) → v ≢ u → Reach g S u v → (w : ℕ) × Edge g u w × Reach g T w v
leaves g S T u v to other (Here s) = absurd (other refl)
leaves g S T u v to other (Then {w} r e s) = elim (cases_eq w u) [
  | inl same ↦ (v, subst (λ (x : ℕ). Edge g x v) same e, Here (to v s other))
  | inr o ↦ let q : (x : ℕ) × Edge g u x × Reach g T x w = leaves g S T u w to o r in (q.0, q.1, Then q.2 e (to v s other))
]

pub edge_or_none : (g : List (List ℕ)) (u v : ℕ) → Told (Edge g u v)
edge_or_none g u v = is_or_is_not (slice_index_or g u []) v

other_or_same : (u v : ℕ) → Told (v ≢ u)
other_or_same u v = elim (cases_eq v u) [ inl e ↦ inr (λ o. o e) | inr o ↦ inl o ]

pub others_of : (xs : List ℕ) (u : ℕ) → Picked xs (λ v. v ≢ u)
others_of xs u = picked xs (λ v. v ≢ u) (other_or_same u)

pub reach_or_none : (g : List (List ℕ)) (n : ℕ) (xs : List ℕ) → length xs ≤ n → (u v : ℕ) → Told (Reach g (Contains xs) u v)
reach_or_none g zero xs short u v = inr (λ r. let i : Contains xs u = reach_start g (Contains xs) u v r in omega (arith, i.1, short))
reach_or_none g (suc n) xs short u v = elim (is_or_is_not xs u) [
  | inr never ↦ inr (λ r. never (reach_start g (Contains xs) u v r))
  | inl at ↦ elim (cases_eq v u) [
    | inl same ↦ inl (subst (λ (x : ℕ). Reach g (Contains xs) u x) (sym same) (Here at))
    | inr other ↦
        let o : Picked xs (λ x. x ≢ u) = others_of xs u in
        let fewer : length o.list < length xs = o.fewer u at (λ k. k refl) in
        elim (any_in o.list (λ w. Edge g u w × Reach g (Contains o.list) w v) (λ w i. told_both (Edge g u w) (Reach g (Contains o.list) w v) (edge_or_none g u w) (reach_or_none g n o.list (omega (arith, fewer, short)) w v))) [
          | inl q ↦ inl (reach_from g (Contains xs) u q.0 v at q.2.0 (reach_wider g (Contains o.list) (Contains xs) o.within q.0 v q.2.1))
          | inr none ↦ inr (λ r.
              let q : (w : ℕ) × Edge g u w × Reach g (Contains o.list) w v = leaves g (Contains xs) (Contains o.list) u v o.has other r in
              none q.0 (reach_start g (Contains o.list) q.0 v q.2) (q.1, q.2))
        ]
  ]
]
