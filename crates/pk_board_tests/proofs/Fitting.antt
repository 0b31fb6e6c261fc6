-- What the elements of a plan may read.
use Rattle.std.proofs.Common.{◌≡◌, ℕ, zero, suc, ◌+◌, ◌<◌, inl, inr, List, [], ◌∷◌, ◌++◌, length, get_or, slice_index_or, refl, sym, subst, ap, ◌∙◌, ◌⊎◌, arith, Contains, All}
use Rattle.std.proofs.Math.ListN.{get_or-append}
use Rattle.std.proofs.Math.Seq.{get_or-append_seam}
use Rattle.std.proofs.lemmas.List.{length-map, map-append}
use Rattle.std.proofs.lemmas.List.Elements.{All-append}
use Rattle.std.specs.declared.vec.Vec.{Vec}
use Rattle.std.specs.declared.alloc.Global.{Global}
use Rattle.pk_plan.specs.Digraphs.{lists_of}
use Rattle.pk_plan.specs.declared.components.Component.{Component}
use Rattle.pk_plan.specs.Plans.{PlanView, One, predecessors_of}
use Rattle.pk_plan.specs.Axioms.{Axioms}
use Rattle.pk_board_tests.specs.Prepared.{MayRead}

-- one element more, that may be read
pub reads_more : (p : PlanView) (e u : ℕ) (us : List ℕ) → MayRead p e u → All (MayRead p e) us → All (MayRead p e) (us ++ u ∷ [])
reads_more p e u us may all = All-append (MayRead p e) us (u ∷ []) all (λ k d within. only k d within)
  where
    only : (k d : ℕ) → k < 1 → MayRead p e (slice_index_or (u ∷ []) k d)
    only zero d within = may
    only (suc k) d within = absurd (omega (arith, within))

-- a head may read its exit
pub reads_exit : (p : PlanView) (c : Component) (e : ℕ) → Contains p.components c → c.head ≡ e → MayRead p e c.exit
reads_exit p c e of head = inr (inr (record { component = c; of = of; head = head; over = inr refl }))

pub reads_before : (p : PlanView) (e u : ℕ) → Axioms p → Contains (predecessors_of p e) u → MayRead p e u
reads_before p e u axioms before = inr (inl (One (axioms.to_successor u e before)))

pub reads_itself : (p : PlanView) (e : ℕ) → MayRead p e e
reads_itself p e = inl refl

-- one row more
pub row_more : (p : PlanView) (rows : List (Vec ℕ Global)) (row : Vec ℕ Global) (n : ℕ) → length rows ≡ n → ((u : ℕ) → u < n → All (MayRead p u) (slice_index_or (lists_of rows) u [])) → All (MayRead p n) row.items
    → (u : ℕ) → u < n + 1 → All (MayRead p u) (slice_index_or (lists_of (rows ++ row ∷ [])) u [])
row_more p rows row n long each here u below =
    let xs = lists_of rows in
    let all : lists_of (rows ++ row ∷ []) ≡ xs ++ row.items ∷ [] = map-append _ rows (row ∷ []) in
    let many : length xs ≡ n = length-map rows _ ∙ long in
    subst (λ (ys : List (List ℕ)). All (MayRead p u) (slice_index_or ys u [])) (sym all) (elim (lt_or_eq u n below) [
      | inl less ↦ subst (λ (us : List ℕ). All (MayRead p u) us) (sym (get_or-append xs (row.items ∷ []) [] u (omega (arith, less, many)))) (each u less)
      | inr is ↦ subst (λ (v : ℕ). All (MayRead p v) (slice_index_or (xs ++ row.items ∷ []) v [])) (sym is) (subst (λ (us : List ℕ). All (MayRead p n) us) (sym (ap (λ (k : ℕ). get_or (xs ++ row.items ∷ []) k []) (sym many) ∙ get_or-append_seam xs row.items [] [])) here)
    ])
  where
    lt_or_eq : (u n : ℕ) → u < n + 1 → (u < n) ⊎ (u ≡ n)
    lt_or_eq u n below = grind arith
