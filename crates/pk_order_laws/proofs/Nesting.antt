-- A nest of the vertices of a list, by the nests of shorter ones.
use Rattle.std.proofs.Common.{◌≢◌, ◌⊎◌, ℕ, zero, suc, ◌<◌, ◌≤◌, List, [], ◌∷◌, length, refl, inl, inr, arith, Contains}
use Rattle.std.proofs.lemmas.Bool.{cases_eq}
use Rattle.pk_linear.proofs.ListLemmas.{contains_none, contains_here}
use Rattle.pk_plan.specs.Digraphs.{Edge, IsVertex, Reach, Here, Then, Mutual}
use Rattle.pk_plan.specs.Nests.{Items, No_items, Vertex_first, Component_first, IsNest}
use Rattle.pk_plan.proofs.NestPlaceLemmas.{items_then}
use Rattle.pk_nest.proofs.Paths.{reach_end, reach_start, reach_from, mutual_trans}
use Rattle.pk_nest.proofs.NestLemmas.{nest_of_nothing, nest_alike, nest_joined, nest_vertex, nest_component}
use Rattle.pk_order_laws.specs.Nests.{EveryDigraphHasANest}
use Rattle.pk_order_laws.proofs.Told.{Told, any_in}
use Rattle.pk_order_laws.proofs.Picking.{Picked, picked, least_of, below, below_has, below_only}
use Rattle.pk_nest.proofs.ComponentLemmas.{mutual_within}
use Rattle.pk_order_laws.proofs.Reaching.{leaves, edge_or_none, others_of, reach_or_none}

abbrev pub HasNest : List (List ℕ) → List ℕ → Type 0
HasNest g xs = (items : Items) × IsNest g (Contains xs) items

-- the vertices of a class
class_together : (g : List (List ℕ)) (xs : List ℕ) (r : ℕ) (class : Picked xs (λ v. Mutual g (Contains xs) r v)) (h v : ℕ) → Contains class.list h → Contains class.list v → Mutual g (Contains class.list) h v
class_together g xs r class h v i j =
    let to_h : Mutual g (Contains xs) r h = class.holds h i in
    let to_v : Mutual g (Contains xs) r v = class.holds v j in
    mutual_within g (Contains xs) (Contains class.list) h v
    (λ w m. class.has w (reach_end g (Contains xs) h w m.0) (mutual_trans g (Contains xs) r h w to_h m))
    (mutual_trans g (Contains xs) h r v (to_h.1, to_h.0) to_v)

-- the nest of a class: its least vertex alone, or a component
class_nest : (g : List (List ℕ)) (n : ℕ) (xs : List ℕ) (r : ℕ) → length xs ≤ suc n → ((ys : List ℕ) → length ys ≤ n → HasNest g ys) → Contains xs r → (class : Picked xs (λ v. Mutual g (Contains xs) r v)) → HasNest g class.list
class_nest g n xs r short smaller at class =
    let m : (h : ℕ) × Contains class.list h × ((w : ℕ) → Contains class.list w → h ≤ w) = least_of class.list r (class.has r at (Here at, Here at)) in
    let together : (v : ℕ) → Contains class.list v → Mutual g (Contains class.list) m.0 v = λ v i. class_together g xs r class m.0 v m.1 i in
    let rest : Picked class.list (λ v. v ≢ m.0) = others_of class.list m.0 in
    let fewer : length rest.list < length class.list = rest.fewer m.0 m.1 (λ o. o refl) in
    elim (any_in class.list (λ w. Edge g m.0 w) (λ w i. edge_or_none g m.0 w)) [
      | inl q ↦
          let inner : HasNest g rest.list = smaller rest.list (omega (arith, fewer, class.short, short)) in (
            Component_first m.0 inner.0 No_items,
            nest_component g (Contains class.list) (Contains rest.list) m.0 inner.0 m.1
                (λ v i. elim (cases_eq v m.0) [ inl e ↦ inl e | inr o ↦ inr (rest.has v i o) ])
                rest.within
                (λ v i. let l : m.0 ≤ v = m.2 v (rest.within v i) in let o : v ≢ m.0 = rest.holds v i in omega (arith, l, o))
                (q.0, q.2, (together q.0 q.1).1) together inner.1,
          )
      | inr none ↦ (
        Vertex_first m.0 No_items,
        nest_vertex g (Contains class.list) m.0 m.1
            (λ u i. elim (cases_eq u m.0) [
              | inl e ↦ e
              | inr o ↦ absurd (let p : (w : ℕ) × Edge g m.0 w × Reach g (Contains class.list) w u = leaves g (Contains class.list) (Contains class.list) m.0 u (λ x s k. s) o (together u i).0 in none p.0 (reach_start g (Contains class.list) p.0 u p.2) p.1)
            ])
            (λ e. none m.0 m.1 e),
      )
    ]

-- what leads to r and isn't reached from it, what is its class, and what doesn't lead to it
pub record Parts (g : List (List ℕ)) (xs : List ℕ) (r : ℕ) : Type 0 where
  pub before : Picked xs (λ v. Reach g (Contains xs) v r × (Reach g (Contains xs) r v → ⊥))
  pub class : Picked xs (λ v. Mutual g (Contains xs) r v)
  pub after : Picked xs (λ v. Reach g (Contains xs) v r → ⊥)
  pub to_or_not : (v : ℕ) → Told (Reach g (Contains xs) v r)
  pub from_or_not : (v : ℕ) → Told (Reach g (Contains xs) r v)

parts_of : (g : List (List ℕ)) (xs : List ℕ) (r : ℕ) → Parts g xs r
parts_of g xs r =
    let to : (v : ℕ) → Told (Reach g (Contains xs) v r) = λ v. reach_or_none g (length xs) xs (omega arith) v r in
    let from : (v : ℕ) → Told (Reach g (Contains xs) r v) = λ v. reach_or_none g (length xs) xs (omega arith) r v in
    record {
      before = picked xs (λ v. Reach g (Contains xs) v r × (Reach g (Contains xs) r v → ⊥)) (λ v. elim (to v) [
        | inl a ↦ elim (from v) [ inl b ↦ inr (λ p. p.1 b) | inr never ↦ inl (a, never) ]
        | inr never ↦ inr (λ p. never p.0)
      ]);
      class = picked xs (λ v. Mutual g (Contains xs) r v) (λ v. elim (to v) [
        | inl a ↦ elim (from v) [ inl b ↦ inl (b, a) | inr never ↦ inr (λ p. never p.0) ]
        | inr never ↦ inr (λ p. never p.1)
      ]);
      after = picked xs (λ v. Reach g (Contains xs) v r → ⊥) (λ v. elim (to v) [ inl a ↦ inr (λ never. never a) | inr never ↦ inl never ]);
      to_or_not = to;
      from_or_not = from;
    }

-- the nests of the three parts, joined
joined : (g : List (List ℕ)) (xs : List ℕ) (r : ℕ) (p : Parts g xs r) → HasNest g p.before.list → HasNest g p.class.list → HasNest g p.after.list → HasNest g xs
joined g xs r p a b c =
    let S : ℕ → Type 0 = Contains xs in
    let Later : ℕ → Type 0 = λ v. Contains p.class.list v ⊎ Contains p.after.list v in
    let later : IsNest g Later (items_then b.0 c.0) = nest_joined g Later (Contains p.class.list) (Contains p.after.list) b.0 c.0 (λ v k. k) (λ v k. inl k) (λ v k. inr k)
    (λ v i j. p.after.holds v j (p.class.holds v i).1)
    (λ u v i j e. p.after.holds u i (reach_from g (Contains xs) u v r (p.after.within u i) e (p.class.holds v j).1))
    b.1 c.1 in (
      items_then a.0 (items_then b.0 c.0),
      nest_joined g (Contains xs) (Contains p.before.list) Later a.0 (items_then b.0 c.0)
          (λ v s. elim (p.to_or_not v) [
            | inl to ↦ elim (p.from_or_not v) [ inl from ↦ inr (inl (p.class.has v s (from, to))) | inr never ↦ inl (p.before.has v s (to, never)) ]
            | inr never ↦ inr (inr (p.after.has v s never))
          ])
          p.before.within
          (λ v k. elim k [ inl i ↦ p.class.within v i | inr i ↦ p.after.within v i ])
          (λ v i k. elim k [ inl j ↦ (p.before.holds v i).1 (p.class.holds v j).0 | inr j ↦ p.after.holds v j (p.before.holds v i).0 ])
          (λ u v k j e. elim k [
            | inl i ↦ (p.before.holds v j).1 (Then (p.class.holds u i).0 e (p.before.within v j))
            | inr i ↦ p.after.holds u i (reach_from g (Contains xs) u v r (p.after.within u i) e (p.before.holds v j).0)
          ])
          a.1 later,
    )

pub nest_of_list : (g : List (List ℕ)) (n : ℕ) (xs : List ℕ) → length xs ≤ n → HasNest g xs
nest_of_list g n [] short = (No_items, nest_of_nothing g (Contains []) (λ v i. contains_none i))
nest_of_list g zero (r ∷ rs) short = absurd (omega (arith, short))
nest_of_list g (suc n) (r ∷ rs) short =
    let at : Contains (r ∷ rs) r = contains_here r rs in
    let p : Parts g (r ∷ rs) r = parts_of g (r ∷ rs) r in
    let first : length p.before.list < length (r ∷ rs) = p.before.fewer r at (λ k. k.1 (Here at)) in
    let last : length p.after.list < length (r ∷ rs) = p.after.fewer r at (λ k. k (Here at)) in
    joined g (r ∷ rs) r p
    (nest_of_list g n p.before.list (omega (arith, first, short)))
    (class_nest g n (r ∷ rs) r short (λ ys k. nest_of_list g n ys k) at p.class)
    (nest_of_list g n p.after.list (omega (arith, last, short)))

pub every_digraph_has_a_nest : EveryDigraphHasANest
every_digraph_has_a_nest = λ g.
    let q : HasNest g (below (length g)) = nest_of_list g (length (below (length g))) (below (length g)) (omega arith) in
    (q.0, nest_alike g (Contains (below (length g))) (IsVertex g) q.0 (below_only (length g)) (below_has (length g)) q.1)
