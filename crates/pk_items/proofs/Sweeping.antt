-- While an outermost element is held, no other one that is held has to do with the slots of its item.
use Rattle.std.proofs.Common.{◌≡◌, ℕ, ◌==◌, List, [], ◌∷◌, true, false, if◌then◌else◌, sym, ap, subst, ◌∙◌, inl, inr, ◌⊎◌}
use Rattle.pk_plan.specs.Shape.{Shape, has, Before, one, more, shape_of}
use Rattle.pk_iterate.specs.Behaviour.{Behaviour}
use Rattle.pk_core.specs.declared.events.Event.{Event}
use Rattle.pk_core.specs.Events.{start, Enabled, after, AllEnabled, played}
use Rattle.pk_core.specs.Promises.{is_run}
use Rattle.pk_core.specs.declared.events.Status.{Status}
use Rattle.pk_core.specs.declared.events.Status.TheVariants.{Held}
use Rattle.pk_core.specs.States.{State}
use Rattle.pk_core.proofs.Basics.{cases, not_true, same}
use Rattle.pk_core.proofs.Moves.{Axioms}
use Rattle.pk_core.proofs.Keeps.{is_done, is_waiting, done_not_waiting, Kept, kept_moved, before_done, inside_done, apart_of}
use Rattle.pk_core.proofs.Plan_shapes.{plan_shape}
use Rattle.pk_core.proofs.Settled.{settle, settled, Does, nothing, move, does, kept_start}
use Rattle.pk_items.specs.Sweeping.{OthersLeaveAlone, OthersAlwaysLeaveAlone}

-- from a component a list of constraints leads within it, to its exit, or past its exit (as in pk_core, where it isn't public)
leads : {p : Shape} → Axioms p → (x : ℕ) {u v : ℕ} → Before p u v → p.inside x u ≡ true → (p.inside x v ≡ true) ⊎ ((v ≡ x) ⊎ Before p x v)
leads {p} ax x {u} {v} (one h) i = elim (cases (v == x)) [
  | inl q ↦ inr (inl (same v x q))
  | inr ne ↦ inl (ax.shape.stays x u v i (ax.shape.dual u v ∙ h) (apart_of v x ne))
]
leads {p} ax x {u} {v} (more {v = m} b h) i = elim (leads ax x b i) [
  | inl j ↦ elim (cases (v == x)) [
    | inl q ↦ inr (inl (same v x q))
    | inr ne ↦ inl (ax.shape.stays x m v j (ax.shape.dual m v ∙ h) (apart_of v x ne))
  ]
  | inr (inl q) ↦ inr (inr (one (subst (λ (j : ℕ). has j (p.preds v) ≡ true) q h)))
  | inr (inr c) ↦ inr (inr (more c h))
]

held_waits_not : (st : Status) → st ≡ Held → is_waiting st ≡ false
held_waits_not st h = ap is_waiting h

held_done : (st : Status) → st ≡ Held → is_done st ≡ true → ⊥
held_done st h d = absurd (let n = ap is_done h in cc)

pub others_leave_alone : {C : Type 0} {p : Shape} {s : State C} → Axioms p → Kept p s → OthersLeaveAlone p s
others_leave_alone {C} {p} {s} ax k x e u h x_held under near h_held apart = record {
  reader = λ q. not_e q;
  owner = λ q. not_u q;
  no_reader_inside = not_true (p.inside h e) (λ i. e_outside i);
  no_owner_inside = not_true (p.inside h u) (λ i. u_outside i);
}
  where
    -- what lies in x's component is done
    in_done : (v : ℕ) → p.inside x v ≡ true → is_done (s v).status ≡ true
    in_done v i = inside_done ax k x v x_held i

    e_waits_not : is_waiting (s e).status ≡ false
    e_waits_not = elim under.under [
      | inl q ↦ ap (λ (j : ℕ). is_waiting (s j).status) q ∙ held_waits_not (s x).status x_held
      | inr i ↦ done_not_waiting (s e).status (in_done e i)
    ]

    not_e : h ≡ e → ⊥
    not_e q = elim under.under [
      | inl r ↦ apart (q ∙ r)
      | inr i ↦ held_done (s h).status h_held (ap (λ (j : ℕ). is_done (s j).status) q ∙ in_done e i)
    ]

    not_u : h ≡ u → ⊥
    not_u q = elim near [
      | inl r ↦ apart (q ∙ r)
      | inr (inl i) ↦ held_done (s h).status h_held (ap (λ (j : ℕ). is_done (s j).status) q ∙ in_done u i)
      | inr (inr b) ↦ held_done (s h).status h_held (ap (λ (j : ℕ). is_done (s j).status) q ∙ before_done k u e b e_waits_not)
    ]

    -- no other exit that is held has what x's component has
    inside_both : (v : ℕ) → p.inside x v ≡ true → p.inside h v ≡ true → ⊥
    inside_both v i j = elim (cases (p.inside x h)) [
      | inl c ↦ held_done (s h).status h_held (in_done h c)
      | inr c ↦ absurd (let t = ax.shape.laminar x h v i j (λ q. apart (sym q)) c in let o = under.outermost h in cc)
    ]

    e_outside : p.inside h e ≡ true → ⊥
    e_outside i = elim under.under [
      | inl r ↦ absurd (let o = under.outermost h in let t : p.inside h x ≡ true = subst (λ (j : ℕ). p.inside h j ≡ true) r i in cc)
      | inr j ↦ inside_both e j i
    ]

    u_outside : p.inside h u ≡ true → ⊥
    u_outside i = elim near [
      | inl r ↦ absurd (let o = under.outermost h in let t : p.inside h x ≡ true = subst (λ (j : ℕ). p.inside h j ≡ true) r i in cc)
      | inr (inl j) ↦ inside_both u j i
      | inr (inr b) ↦ elim (leads ax h b i) [
        | inl j ↦ e_outside j
        | inr (inl q) ↦ not_e (sym q)
        | inr (inr c) ↦ held_done (s h).status h_held (before_done k h e c e_waits_not)
      ]
    ]

-- ---- after every list of events

kept_after : {C : Type 0} (b : Behaviour C) {p : Shape} (s : State C) → Axioms p → Kept p (settled s) → (ev : Event) → Enabled b p s ev → Kept p (settled (after b p s ev))
kept_after {C} b {p} s ax kept ev can = by_does (does b p s ev can)
  where
    by_does : Does b p s (after b p s ev) (if is_run ev then 1 else 0) → Kept p (settled (after b p s ev))
    by_does (nothing is n) = subst (Kept p) (sym is) kept
    by_does (move m can_move is n) = subst (Kept p) (sym is) (kept_moved b ax kept m can_move)

pub kept_all : {C : Type 0} (b : Behaviour C) {p : Shape} → Axioms p → (s : State C) (evs : List Event) → Kept p (settled s) → AllEnabled b p s evs → Kept p (settled (played b p s evs))
kept_all b ax s [] kept all = kept
kept_all b {p} ax s (ev ∷ evs) kept all = kept_all b ax (after b p s ev) evs (kept_after b s ax kept ev all.0) all.1

-- what is held is held still where open elements count as held
settled_alone : {C : Type 0} (p : Shape) (s : State C) → OthersLeaveAlone p (settled s) → OthersLeaveAlone p s
settled_alone p s alone x e u h x_held under near h_held apart = alone x e u h (ap settle x_held) under near (ap settle h_held) apart

pub others_always_leave_alone : {C : Type 0} (b : Behaviour C) → OthersAlwaysLeaveAlone b
others_always_leave_alone b p events axioms all =
    let ax = plan_shape p axioms in
    settled_alone (shape_of p) (played b (shape_of p) (start (shape_of p)) events)
    (others_leave_alone ax (kept_all b ax (start (shape_of p)) events (kept_start (shape_of p)) all))
