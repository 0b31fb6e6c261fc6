-- Each move that can be made is on the way to the end, and may be made first.
use Rattle.std.proofs.Common.{◌≡◌, ◌≢◌, ℕ, zero, ◌+◌, ◌==◌, false, refl, sym, ap, subst, ◌∙◌, arith, inl, inr, ◌⊎◌}
use Rattle.pk_iterate.specs.Behaviour.{Behaviour}
use Rattle.pk_plan.specs.Shape.{Shape}
use Rattle.pk_core.proofs.Moves.{Axioms, Comparable, Move, Run, Tell, moved, CanMove}
use Rattle.pk_core.specs.States.{State}
use Rattle.pk_core.proofs.Basics.{cases, same, itself}
use Rattle.pk_core.proofs.Keeps.{Kept, kept_moved}
use Rattle.pk_core.proofs.Diamond.{still, swap}

-- runs are counted
abbrev pub weight : Move → ℕ
weight (Run e) = 1
weight (Tell a v) = 0

-- moves with so many runs lead from a state to this one
pub data Reaches {C : Type 0} (b : Behaviour C) (p : Shape) (end : State C) : ℕ → State C → Type 0 where
  here : {s : State C} → s ≡ end → Reaches b p end zero s
  onward : {n k : ℕ} {s : State C} (m : Move) → CanMove p s m → n ≡ weight m + k → Reaches b p end k (moved b p s m) → Reaches b p end n s

abbrev pub IsFinal : {C : Type 0} → Shape → State C → Type 0
IsFinal p s = (m : Move) → CanMove p s m → ⊥

same_move : (m n : Move) → (m ≡ n) ⊎ (m ≢ n)
same_move (Run e) (Run f) = elim (cases (e == f)) [
  | inl h ↦ inl (ap Run (same e f h))
  | inr h ↦ inr (λ q. let ef : e ≡ f = cc in let t : (e == e) ≡ false = ap (λ (j : ℕ). e == j) ef ∙ h in let r = itself e in cc)
]
same_move (Run e) (Tell a v) = inr (λ q. cc)
same_move (Tell a v) (Run f) = inr (λ q. cc)
same_move (Tell a v) (Tell c w) = elim (cases (a == c)) [
  | inl h ↦ elim (cases (v == w)) [
    | inl i ↦ inl (let ac = same a c h in let vw = same v w i in cc)
    | inr i ↦ inr (λ q. let vw : v ≡ w = cc in let t : (v == v) ≡ false = ap (λ (j : ℕ). v == j) vw ∙ i in let r = itself v in cc)
  ]
  | inr h ↦ inr (λ q. let ac : a ≡ c = cc in let t : (a == a) ≡ false = ap (λ (j : ℕ). a == j) ac ∙ h in let r = itself a in cc)
]

-- a move that can be made may be made first, and it is one less that is left
pub first : {C : Type 0} {b : Behaviour C} {p : Shape} {end : State C} {n : ℕ} {s : State C} → Axioms p → Comparable p b.reads → IsFinal p end → Reaches b p end n s → Kept p s → (m : Move) → CanMove p s m → (k : ℕ) × (n ≡ weight m + k) × Reaches b p end k (moved b p s m)
first {C} {b} {p} {end} ax fits final (here e) kept m can = absurd (final m (subst (λ (t : State C). CanMove p t m) e can))
first {C} {b} {p} {end} ax fits final (onward {n} {k} {s} l done count rest) kept m can = by_same (same_move m l) (λ apart. first ax fits final rest (kept_moved b ax kept l done) m (still b ax kept l m (λ e. apart (sym e)) done can))
  where
    by_same : (m ≡ l) ⊎ (m ≢ l) → (m ≢ l → (j : ℕ) × (k ≡ weight m + j) × Reaches b p end j (moved b p (moved b p s l) m)) → (j : ℕ) × (n ≡ weight m + j) × Reaches b p end j (moved b p s m)
    by_same (inl e) r = (k, count ∙ ap (λ (x : Move). weight x + k) (sym e), subst (λ (x : Move). Reaches b p end k (moved b p s x)) (sym e) rest)
    by_same (inr ne) r =
        let q = r ne in
        let over : Reaches b p end q.0 (moved b p (moved b p s m) l) = subst (λ (t : State C). Reaches b p end q.0 t) (swap b ax fits kept l m (λ e. ne (sym e)) done can) q.2 in
        let both : n ≡ weight m + (weight l + q.0) = omega (arith, count, q.1) in
        (weight l + q.0, both, onward l (still b ax kept m l ne can done) refl over)
