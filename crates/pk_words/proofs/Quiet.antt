-- Nothing is sent to a component that is to be gone through again.
use Rattle.std.proofs.Common.{◌≡◌, ◌≢◌, ℕ, ◌<◌, ◌≤◌, ◌==◌, List, [], ◌∷◌, count_by, cond, Bool, true, false, ◌||◌, refl, sym, ap, ◌∙◌, arith, inl, inr, ◌⊎◌}
use Rattle.pk_plan.specs.Shape.{Shape, has, shape_of, holds}
use Rattle.pk_iterate.specs.Behaviour.{Behaviour}
use Rattle.pk_core.specs.declared.events.Status.{Status}
use Rattle.pk_core.specs.declared.events.Status.TheVariants.{Waiting, Open, Held, Done}
use Rattle.pk_core.specs.Events.{inner}
use Rattle.pk_core.specs.States.{State}
use Rattle.pk_core.proofs.Basics.{cases, same, count_cons}
use Rattle.pk_core.proofs.Moves.{Axioms}
use Rattle.pk_core.proofs.Keeps.{Kept, apart_of, is_done, owing, missing, Due}
use Rattle.pk_core.proofs.Settled.{settle, settled}
use Rattle.pk_layout.specs.Wirings.{Wiring, IsWired}
use Rattle.pk_words.specs.Board.{head_of, IsRestarting}
use Rattle.pk_words.proofs.Wired.{axioms_of}

count_within : (f g : ℕ → Bool) (xs : List ℕ) → ((u : ℕ) → f u ≡ true → g u ≡ true) → count_by f xs ≤ count_by g xs
count_within f g [] h = omega arith
count_within f g (x ∷ xs) h = head (f x) (g x) refl refl (count_within f g xs h)
  where
    head : (a c : Bool) → f x ≡ a → g x ≡ c → count_by f xs ≤ count_by g xs → count_by f (x ∷ xs) ≤ count_by g (x ∷ xs)
    head true true p q ih = omega (arith, count_cons f x xs, count_cons g x xs, ap {B = ℕ} (λ (t : Bool). cond t 1 0) p, ap {B = ℕ} (λ (t : Bool). cond t 1 0) q, ih)
    head true false p q ih = absurd (let t = h x p in cc)
    head false true p q ih = omega (arith, count_cons f x xs, count_cons g x xs, ap {B = ℕ} (λ (t : Bool). cond t 1 0) p, ap {B = ℕ} (λ (t : Bool). cond t 1 0) q, ih)
    head false false p q ih = omega (arith, count_cons f x xs, count_cons g x xs, ap {B = ℕ} (λ (t : Bool). cond t 1 0) p, ap {B = ℕ} (λ (t : Bool). cond t 1 0) q, ih)

count_beyond : (f g : ℕ → Bool) (xs : List ℕ) (u : ℕ) → ((w : ℕ) → f w ≡ true → g w ≡ true) → f u ≡ false → g u ≡ true → has u xs ≡ true → count_by f xs < count_by g xs
count_beyond f g [] u h out own i = absurd (cc)
count_beyond f g (x ∷ xs) u h out own i = elim (cases (u == x)) [
  | inl q ↦
      let fx : f x ≡ false = ap f (sym (same u x q)) ∙ out in
      let gx : g x ≡ true = ap g (sym (same u x q)) ∙ own in
      omega (arith, count_cons f x xs, count_cons g x xs, ap {B = ℕ} (λ (t : Bool). cond t 1 0) fx, ap {B = ℕ} (λ (t : Bool). cond t 1 0) gx, count_within f g xs h)
  | inr q ↦ rest (f x) (g x) refl refl (count_beyond f g xs u h out own (only_rest (u == x) (has u xs) q i))
]
  where
    only_rest : (c t : Bool) → c ≡ false → (c || t) ≡ true → t ≡ true
    only_rest true t q s = absurd (cc)
    only_rest false t q s = s

    rest : (a c : Bool) → f x ≡ a → g x ≡ c → count_by f xs < count_by g xs → count_by f (x ∷ xs) < count_by g (x ∷ xs)
    rest true true p q ih = omega (arith, count_cons f x xs, count_cons g x xs, ap {B = ℕ} (λ (t : Bool). cond t 1 0) p, ap {B = ℕ} (λ (t : Bool). cond t 1 0) q, ih)
    rest true false p q ih = absurd (let t = h x p in cc)
    rest false true p q ih = omega (arith, count_cons f x xs, count_cons g x xs, ap {B = ℕ} (λ (t : Bool). cond t 1 0) p, ap {B = ℕ} (λ (t : Bool). cond t 1 0) q, ih)
    rest false false p q ih = omega (arith, count_cons f x xs, count_cons g x xs, ap {B = ℕ} (λ (t : Bool). cond t 1 0) p, ap {B = ℕ} (λ (t : Bool). cond t 1 0) q, ih)

-- No member of the component is done, and v, which isn't its head, waits with its inner count: then no send to v is left.
none_sent : {C : Type 0} (p : Shape) (s : State C) → Axioms p → Kept p (settled s) → (x v : ℕ) → ((u : ℕ) → p.inside x u ≡ true → is_done (s u).status ≡ false) → (s v).status ≡ Waiting (inner p x v) → (u : ℕ) → has v (s u).sends ≡ true → ⊥
none_sent {C} p s ax k x v undone waits u sends =
    let done : is_done (settle (s u).status) ≡ true = k.senders u v sends in
    let pred : has u (p.preds v) ≡ true = sym (ax.shape.dual u v) ∙ k.along u v sends in
    let due : inner p x v ≡ missing p (settled s) v = by_due (inner p x v) (missing p (settled s) v) (settle (s v).status) (ap settle waits) (k.due v) in
    let more = count_beyond (p.inside x) (owing (settled s) v) (p.preds v) u
    (λ w i. owes (is_done (settle (s w).status)) (has v (s w).sends) (not_settled (s w).status (undone w i)))
    (outside u done) (owing_done (is_done (settle (s u).status)) (has v (s u).sends) sends) pred in
    absurd (omega (arith, due, more))
  where
    by_due : (n m : ℕ) (st : Status) → st ≡ Waiting n → Due st m → n ≡ m
    by_due n m (Waiting j) q d = omega (arith, d.0, waiting_same j n q)
      where
        waiting_same : (j n : ℕ) → Waiting j ≡ Waiting n → j ≡ n
        waiting_same j n q = cc
    by_due n m Open q d = absurd (cc)
    by_due n m Held q d = absurd (cc)
    by_due n m Done q d = absurd (cc)

    not_settled : (st : Status) → is_done st ≡ false → is_done (settle st) ≡ false
    not_settled (Waiting j) h = refl
    not_settled Open h = refl
    not_settled Held h = refl
    not_settled Done h = h

    owes : (d h : Bool) → d ≡ false → cond d h true ≡ true
    owes true h q = absurd (cc)
    owes false h q = refl

    owing_done : (d h : Bool) → h ≡ true → cond d h true ≡ true
    owing_done true h q = q
    owing_done false h q = refl

    outside : (w : ℕ) → is_done (settle (s w).status) ≡ true → p.inside x w ≡ false
    outside w d = elim (cases (p.inside x w)) [
      | inr q ↦ q
      | inl q ↦ absurd (let n = not_settled (s w).status (undone w q) in cc)
    ]

pub nothing_sent : {C : Type 0} {b : Behaviour C} {w : Wiring} (s : State C) → IsWired b w → Kept (shape_of w.plan) (settled s) → (x v : ℕ) → IsRestarting w.plan s x → (v ≡ x) ⊎ ((holds w.plan x v ≡ true) × (v ≢ head_of w.plan x)) → (u : ℕ) → has v (s u).sends ≡ true → ⊥
nothing_sent {C} {b} {w} s wired k x v r which u sends = none_sent (shape_of w.plan) s (axioms_of wired) k x v undone waits u sends
  where
    undone : (m : ℕ) → holds w.plan x m ≡ true → is_done (s m).status ≡ false
    undone m inside = elim (cases (m == head_of w.plan x)) [
      | inl q ↦ ap (λ (j : ℕ). is_done (s j).status) (same m (head_of w.plan x) q) ∙ ap is_done r.head
      | inr q ↦ ap is_done (r.member_waits m inside (apart_of m (head_of w.plan x) q))
    ]

    waits : (s v).status ≡ Waiting (inner (shape_of w.plan) x v)
    waits = elim which [
      | inl q ↦ ap (λ (j : ℕ). (s j).status) q ∙ r.exit_waits ∙ ap (λ (j : ℕ). Waiting (inner (shape_of w.plan) x j)) (sym q)
      | inr m ↦ r.member_waits v m.0 m.1
    ]
