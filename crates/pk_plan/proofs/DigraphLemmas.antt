-- Digraphs made edge by edge.
use Rattle.std.proofs.Common.{◌≡◌, ℕ, ◌+◌, ◌<◌, ◌^◌, inl, inr, List, [], ◌∷◌, ◌++◌, length, get_or, All, ap, sym, subst, ◌∙◌, arith, get_or-set_same, get_or-set_other}
use Rattle.std.proofs.Math.ListN.{set, length-set, replicate}
use Rattle.std.specs.List.{Contains}
use Rattle.std.specs.declared.vec.Vec.{Vec}
use Rattle.std.specs.declared.alloc.Global.{Global}
use Rattle.std.proofs.lemmas.Bool.Decides.{eqb_tells}
use Rattle.std.proofs.lemmas.Bool.{cases_lt}
use Rattle.std.proofs.lemmas.List.{map-set, map-append, length-map, get_or-map, get_or-replicate, get_or_past, length-replicate, replicate-append-replicate}
use Rattle.std.proofs.Math.Seq.{map-set_same}
use Rattle.std.proofs.lemmas.List.Elements.{Contains-get_or, Contains-push_cases}
use Rattle.pk_plan.specs.Digraphs.{lists_of, Edge, IsClosed}

-- no edge leads from what is no vertex
pub edge_from_vertex : (g : List (List ℕ)) (u v : ℕ) → Edge g u v → u < length g
edge_from_vertex g u v e = elim (cases_lt u (length g)) [
  | inl within ↦ within
  | inr past ↦ absurd (let none : length (get_or g u []) ≡ 0 = ap (λ (xs : List ℕ). length xs) (get_or_past g u [] past) in omega (arith, none, e.1))
]

pub successors_within : (g : List (List ℕ)) (u : ℕ) → IsClosed g → All (λ v. v < length g) (get_or g u [])
successors_within g u closed k d h = closed u (get_or (get_or g u []) k d) (Contains-get_or (get_or g u []) k d h)

-- one edge more
pub IsClosed-add : (g : List (List ℕ)) (from to : ℕ) → from < length g → to < length g → IsClosed g → IsClosed (set g from (get_or g from [] ++ to ∷ []))
IsClosed-add g from to from_in to_in closed u v e =
    let long : length (set g from (get_or g from [] ++ to ∷ [])) ≡ length g = length-set g from (get_or g from [] ++ to ∷ []) in
    let within : v < length g = elim (eqb_tells u from) [
      | inl same ↦ elim (Contains-push_cases (get_or g from []) to v (subst (λ (xs : List ℕ). Contains xs v) (ap (λ (w : ℕ). get_or (set g from (get_or g from [] ++ to ∷ [])) w []) same.1 ∙ get_or-set_same g from (get_or g from [] ++ to ∷ []) [] from_in) e)) [
        | inl old ↦ closed from v old
        | inr last ↦ subst (λ (w : ℕ). w < length g) last to_in
      ]
      | inr other ↦ closed u v (subst (λ (xs : List ℕ). Contains xs v) (get_or-set_other g from u (get_or g from [] ++ to ∷ []) [] other.1) e)
    ] in
    omega (arith, within, long)

pub lists_of-set : (xs : List (Vec ℕ Global)) (i : ℕ) (row : Vec ℕ Global) → lists_of (set xs i row) ≡ set (lists_of xs) i row.items
lists_of-set xs i row = map-set (λ (v : Vec ℕ Global). v.items) xs i row

pub length-lists_of : (xs : List (Vec ℕ Global)) → length (lists_of xs) ≡ length xs
length-lists_of xs = length-map xs (λ (v : Vec ℕ Global). v.items)

-- no edges
pub IsClosed-none : (n : ℕ) → IsClosed (replicate n [])
IsClosed-none n u v e = elim (cases_lt u n) [
  | inl within ↦ absurd (let none : length (get_or (replicate n []) u []) ≡ 0 = ap (λ (xs : List ℕ). length xs) (get_or-replicate n u [] [] within) in omega (arith, none, e.1))
  | inr past ↦ absurd (let none : length (get_or (replicate n []) u []) ≡ 0 = ap (λ (xs : List ℕ). length xs) (get_or_past (replicate n []) u [] (omega (arith, past, length-replicate {A = List ℕ} n []))) in omega (arith, none, e.1))
]

-- the list of a vertex
pub row_items : (xs : List (Vec ℕ Global)) (i : ℕ) (row : Vec ℕ Global) → i < length xs → row ≡ get_or xs i row → row.items ≡ get_or (lists_of xs) i []
row_items xs i row within is = ap (λ (v : Vec ℕ Global). v.items) is ∙ sym (get_or-map (λ (v : Vec ℕ Global). v.items) xs i row [] within)

-- a list is replaced by one with the same items, or with one item more
pub lists_of-kept : (xs : List (Vec ℕ Global)) (i : ℕ) (old row : Vec ℕ Global) → old ≡ get_or xs i old → row.items ≡ old.items → lists_of (set xs i row) ≡ lists_of xs
lists_of-kept xs i old row is same = map-set_same (λ (v : Vec ℕ Global). v.items) xs i row old (same ∙ ap (λ (v : Vec ℕ Global). v.items) is)

pub lists_of-add : (xs : List (Vec ℕ Global)) (i to : ℕ) (old row : Vec ℕ Global) → i < length xs → old ≡ get_or xs i old → row.items ≡ old.items ++ to ∷ [] → lists_of (set xs i row) ≡ set (lists_of xs) i (get_or (lists_of xs) i [] ++ to ∷ [])
lists_of-add xs i to old row within is more = lists_of-set xs i row ∙ ap (λ (ys : List ℕ). set (lists_of xs) i ys) (more ∙ ap (λ (ys : List ℕ). ys ++ to ∷ []) (row_items xs i old within is))

-- what a digraph keeps, after the one and the other
abbrev pub IsKept : List (Vec ℕ Global) → Type 0
IsKept xs = IsClosed (lists_of xs) × (length xs < 2 ^ 32)

pub IsKept-kept : (xs : List (Vec ℕ Global)) (i : ℕ) (old row : Vec ℕ Global) → old ≡ get_or xs i old → row.items ≡ old.items → IsKept xs → IsKept (set xs i row)
IsKept-kept xs i old row is same kept =
    let long : length (set xs i row) ≡ length xs = length-set xs i row in
    (subst IsClosed (sym (lists_of-kept xs i old row is same)) kept.0, omega (arith, kept.1, long))

pub IsKept-add : (xs : List (Vec ℕ Global)) (i to : ℕ) (old row : Vec ℕ Global) → i < length xs → to < length xs → old ≡ get_or xs i old → row.items ≡ old.items ++ to ∷ [] → IsKept xs → IsKept (set xs i row)
IsKept-add xs i to old row from_in to_in is more kept =
    let long : length (lists_of xs) ≡ length xs = length-lists_of xs in
    let same : length (set xs i row) ≡ length xs = length-set xs i row in (
      subst IsClosed (sym (lists_of-add xs i to old row from_in is more)) (IsClosed-add (lists_of xs) i to (omega (arith, from_in, long)) (omega (arith, to_in, long)) kept.0),
      omega (arith, kept.1, same),
    )

-- one list more, with no items
replicate-more : (n : ℕ) → replicate {A = List ℕ} (n + 1) [] ≡ replicate n [] ++ [] ∷ []
replicate-more n = sym (replicate-append-replicate {A = List ℕ} n 1 [])

pub lists_of-more : (xs ys : List (Vec ℕ Global)) (row : Vec ℕ Global) (n : ℕ) → ys ≡ xs ++ row ∷ [] → row.items ≡ [] → lists_of xs ≡ replicate n [] → lists_of ys ≡ replicate (n + 1) []
lists_of-more xs ys row n is none so_far =
    ap lists_of is ∙ map-append (λ (v : Vec ℕ Global). v.items) xs (row ∷ [])
    ∙ ap (λ (gs : List (List ℕ)). gs ++ row.items ∷ []) so_far ∙ ap (λ (items : List ℕ). replicate n [] ++ items ∷ []) none ∙ sym (replicate-more n)

pub IsKept-none : (xs : List (Vec ℕ Global)) (n : ℕ) → lists_of xs ≡ replicate n [] → n < 2 ^ 32 → IsKept xs
IsKept-none xs n is few =
    let long : length (lists_of xs) ≡ n = ap (λ (gs : List (List ℕ)). length gs) is ∙ length-replicate {A = List ℕ} n [] in
    let same : length (lists_of xs) ≡ length xs = length-lists_of xs in
    (subst IsClosed (sym is) (IsClosed-none n), omega (arith, few, long, same))
