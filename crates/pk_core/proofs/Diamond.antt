-- Two moves that can be made can be made in either order.
use Rattle.std.proofs.Common.{◌≡◌, ◌≢◌, ℕ, ◌==◌, List, [], ◌∷◌, map, Bool, true, false, ◌||◌, if◌then◌else◌, refl, sym, ap, ◌∙◌, inl, inr, ◌⊎◌}
use Rattle.pk_iterate.specs.Behaviour.{Behaviour}
use Rattle.pk_plan.specs.Shape.{Shape, has}
use Rattle.pk_core.specs.Events.{arrived, without, after_send_at}
use Rattle.pk_core.proofs.Moves.{Axioms, Comparable, Move, Run, Tell, ran, effect, moved, CanMove}
use Rattle.pk_core.specs.States.{Element, State, inputs_of, cell_in}
use Rattle.pk_core.specs.declared.events.Status.{Status}
use Rattle.pk_core.specs.declared.events.Status.TheVariants.{Held}
use Rattle.pk_core.proofs.Basics.{or_false, cases, not_true, same, itself, has_without, without_twice, or_right}
use Rattle.pk_core.proofs.Keeps.{is_done, is_waiting, Kept, before_done, target_waits, inside_done, done_not_waiting}

abbrev pub touched : Shape → Move → ℕ → Bool
touched p (Run e) u = (u == e) || p.inside e u
touched p (Tell a v) u = (u == a) || (u == v)

-- a move leaves alone what it does not touch
pub effect-off : {C : Type 0} (b : Behaviour C) (p : Shape) (s : State C) (m : Move) (u : ℕ) (x : Element C) → touched p m u ≡ false → effect b p s m u x ≡ x
effect-off b p s (Run e) u x off =
    let h = or_false (u == e) (p.inside e u) off in
    rw (h.0, h.1) refl
effect-off b p s (Tell a v) u x off =
    let h = or_false (u == a) (u == v) off in
    rw (h.0, h.1) refl

or_cases : (a b : Bool) → (a || b) ≡ true → (a ≡ true) ⊎ (b ≡ true)
or_cases true b h = inl refl
or_cases false b h = inr h

held_not_done : (st : Status) → st ≡ Held → is_done st ≡ true → ⊥
held_not_done st h d = absurd (let e = ap is_done h in cc)

held_not_waiting : (st : Status) → st ≡ Held → is_waiting st ≡ true → ⊥
held_not_waiting st h d = absurd (let e = ap is_waiting h in cc)

-- what a run touches is done, or the element itself
run_touches : {C : Type 0} {p : Shape} {s : State C} → Axioms p → Kept p s → (e u : ℕ) → (s e).status ≡ Held → touched p (Run e) u ≡ true → (u ≡ e) ⊎ ((p.inside e u ≡ true) × (is_done (s u).status ≡ true))
run_touches {C} {p} {s} ax k e u held t = elim (or_cases (u == e) (p.inside e u) t) [
  | inl h ↦ inl (same u e h)
  | inr h ↦ inr (h, inside_done ax k e u held h)
]

-- two runs touch nothing together
runs_apart : {C : Type 0} {p : Shape} {s : State C} → Axioms p → Kept p s → (e f u : ℕ) → e ≢ f → (s e).status ≡ Held → (s f).status ≡ Held → touched p (Run e) u ≡ true → touched p (Run f) u ≡ true → ⊥
runs_apart {C} {p} {s} ax k e f u ne he hf te tf = elim (run_touches ax k e u he te) [
  | inl ue ↦ elim (run_touches ax k f u hf tf) [
    | inl uf ↦ ne (sym ue ∙ uf)
    | inr df ↦ held_not_done (s u).status (ap (λ (i : ℕ). (s i).status) ue ∙ he) df.1
  ]
  | inr de ↦ elim (run_touches ax k f u hf tf) [
    | inl uf ↦ held_not_done (s u).status (ap (λ (i : ℕ). (s i).status) uf ∙ hf) de.1
    | inr df ↦ elim (cases (p.inside e f)) [
      | inl i ↦ held_not_done (s f).status hf (inside_done ax k e f he i)
      | inr i ↦ held_not_done (s e).status he (inside_done ax k f e hf (ax.shape.laminar e f u de.0 df.0 ne i))
    ]
  ]
]

-- nor do a run and a send
run_send_apart : {C : Type 0} {p : Shape} {s : State C} → Axioms p → Kept p s → (e a v u : ℕ) → (s e).status ≡ Held → has v (s a).sends ≡ true → touched p (Run e) u ≡ true → touched p (Tell a v) u ≡ true → ⊥
run_send_apart {C} {p} {s} ax k e a v u held h te ts =
    let w = target_waits ax k a v h in
    let d = k.senders a v h in
    elim (or_cases (u == a) (u == v) ts) [
      | inl ua ↦ elim (run_touches ax k e u held te) [
        | inl ue ↦ held_not_done (s e).status held (ap (λ (i : ℕ). is_done (s i).status) (sym ue ∙ same u a ua) ∙ d)
        | inr i ↦
            let ia : p.inside e a ≡ true = ap (λ (j : ℕ). p.inside e j) (sym (same u a ua)) ∙ i.0 in
            let apart : v ≢ e = λ ve. held_not_waiting (s e).status held (ap (λ (j : ℕ). is_waiting (s j).status) (sym ve) ∙ w) in
            let iv = ax.shape.stays e a v ia (k.along a v h) apart in
            let dv = done_not_waiting (s v).status (inside_done ax k e v held iv) in
            absurd (cc)
      ]
      | inr uv ↦ elim (run_touches ax k e u held te) [
        | inl ue ↦ held_not_waiting (s e).status held (ap (λ (i : ℕ). is_waiting (s i).status) (sym ue ∙ same u v uv) ∙ w)
        | inr i ↦
            let dv = done_not_waiting (s v).status (ap (λ (j : ℕ). is_done (s j).status) (sym (same u v uv)) ∙ i.1) in
            absurd (cc)
      ]
    ]

abbrev pub NotSends : Move → Move → Type 0
NotSends (Run e) n = Unit {0}
NotSends (Tell a v) (Run f) = Unit {0}
NotSends (Tell a v) (Tell c w) = ⊥

-- two moves of which one is a run touch nothing together
pub apart : {C : Type 0} {p : Shape} {s : State C} → Axioms p → Kept p s → (m n : Move) → NotSends m n → m ≢ n → CanMove p s m → CanMove p s n → (u : ℕ) → touched p m u ≡ true → touched p n u ≡ true → ⊥
apart ax k (Run e) (Run f) kind ne cm cn u tm tn = runs_apart ax k e f u (λ ef. ne (cc)) cm.0 cn.0 tm tn
apart ax k (Run e) (Tell a v) kind ne cm cn u tm tn = run_send_apart ax k e a v u cm.0 cn tm tn
apart ax k (Tell a v) (Run f) kind ne cm cn u tm tn = run_send_apart ax k f a v u cn.0 cm tn tm
apart ax k (Tell a v) (Tell c w) kind ne cm cn u tm tn = absurd kind

-- so what one touches stands as it was after the other
pub as_it_was : {C : Type 0} {p : Shape} {s : State C} (b : Behaviour C) → Axioms p → Kept p s → (m n : Move) → NotSends m n → m ≢ n → CanMove p s m → CanMove p s n → (u : ℕ) → touched p n u ≡ true → moved b p s m u ≡ s u
as_it_was {C} {p} {s} b ax k m n kind ne cm cn u tn = effect-off b p s m u (s u) (not_true (touched p m u) (λ tm. apart ax k m n kind ne cm cn u tm tn))

self_touched : (u : ℕ) (c : Bool) → ((u == u) || c) ≡ true
self_touched u c = rw (itself u) refl

still_sends : (a c v w : ℕ) (xs : List ℕ) → (a ≡ c → v ≢ w) → (d : Bool) → (a == c) ≡ d → has v xs ≡ true → has v (if d then without w xs else xs) ≡ true
still_sends a c v w xs ne true q h = has_without v w xs (ne (same a c q)) ∙ h
still_sends a c v w xs ne false q h = h

-- after one the other can still be made
pub still : {C : Type 0} {p : Shape} {s : State C} (b : Behaviour C) → Axioms p → Kept p s → (m n : Move) → m ≢ n → CanMove p s m → CanMove p s n → CanMove p (moved b p s m) n
still {C} {p} {s} b ax k m (Run f) ne cm cn =
    let was : moved b p s m f ≡ s f = as_it_was b ax k m (Run f) (not_sends m f) ne cm cn f (self_touched f (p.inside f f)) in
    (ap (λ (x : Element C). x.status) was ∙ cn.0, cn.1)
  where
    not_sends : (m : Move) (f : ℕ) → NotSends m (Run f)
    not_sends (Run e) f = tt
    not_sends (Tell a v) f = tt
still {C} {p} {s} b ax k (Run e) (Tell a v) ne cm cn =
    let was : moved b p s (Run e) a ≡ s a = as_it_was b ax k (Run e) (Tell a v) tt ne cm cn a (self_touched a (a == v)) in
    ap (λ (x : Element C). has v x.sends) was ∙ cn
still {C} {p} {s} b ax k (Tell c w) (Tell a v) ne cm cn = still_sends a c v w (s a).sends (λ e. λ f. ne (cc)) (a == c) refl cn

map_same : {C : Type 0} (f g : ℕ → C) (xs : List ℕ) → ((u : ℕ) → has u xs ≡ true → f u ≡ g u) → map f xs ≡ map g xs
map_same f g [] h = refl
map_same {C} f g (x ∷ xs) h =
    let here : f x ≡ g x = h x (self_touched x (has x xs)) in
    let there : map f xs ≡ map g xs = map_same f g xs (λ u i. h u (or_right (u == x) (has u xs) i)) in
    cc

-- what a run reads is the same after another move
pub inputs_same : {C : Type 0} {p : Shape} {s : State C} (b : Behaviour C) → Axioms p → Comparable p b.reads → Kept p s → (m : Move) (e : ℕ) → m ≢ Run e → CanMove p s m → CanMove p s (Run e) → inputs_of b (moved b p s m) e ≡ inputs_of b s e
inputs_same {C} {p} {s} b ax fits k (Tell a v) e ne cm ce = refl
inputs_same {C} {p} {s} b ax fits k (Run f) e ne cm ce = map_same (cell_in b (moved b p s (Run f))) (cell_in b s) (b.reads e) (λ u i.
    let other : (u == f) ≡ false = not_true (u == f) (λ uf.
    let fe : f ≢ e = λ q. ne (ap Run q) in
    let fi : has f (b.reads e) ≡ true = ap (λ (j : ℕ). has j (b.reads e)) (sym (same u f uf)) ∙ i in
    elim (fits e f ce.1 fi fe) [
      | inl fe ↦ held_not_done (s f).status cm.0 (before_done k f e fe (ap is_waiting ce.0))
      | inr ef ↦ held_not_done (s e).status ce.0 (before_done k e f ef (ap is_waiting cm.0))
    ]) in
    rw other refl)

effect_same : {C : Type 0} {p : Shape} {s : State C} (b : Behaviour C) → Axioms p → Comparable p b.reads → Kept p s → (m n : Move) → m ≢ n → CanMove p s m → CanMove p s n → (u : ℕ) (x : Element C) → effect b p (moved b p s m) n u x ≡ effect b p s n u x
effect_same b ax fits k m (Tell a v) ne cm cn u x = refl
effect_same {C} {p} {s} b ax fits k m (Run e) ne cm cn u x = ap (λ (inputs : List C). ran b p e inputs u x) (inputs_same b ax fits k m e ne cm cn)

-- effects on different elements, in either order
cross : {C : Type 0} (p : Shape) (s : State C) (b : Behaviour C) (m n : Move) (u : ℕ) (x : Element C) → (touched p m u ≡ true → touched p n u ≡ true → ⊥) → effect b p s n u (effect b p s m u x) ≡ effect b p s m u (effect b p s n u x)
cross {C} p s b m n u x clash = elim (cases (touched p m u)) [
  | inl tm ↦
      let tn = not_true (touched p n u) (clash tm) in
      effect-off b p s n u (effect b p s m u x) tn ∙ sym (ap (effect b p s m u) (effect-off b p s n u x tn))
  | inr tm ↦ ap (effect b p s n u) (effect-off b p s m u x tm) ∙ sym (effect-off b p s m u (effect b p s n u x) tm)
]

two_statuses : (c d : Bool) (st : Status) → (if d then arrived (if c then arrived st else st) else (if c then arrived st else st)) ≡ (if c then arrived (if d then arrived st else st) else (if d then arrived st else st))
two_statuses true true st = refl
two_statuses true false st = refl
two_statuses false true st = refl
two_statuses false false st = refl

two_sends : (c d : Bool) (v w : ℕ) (xs : List ℕ) → (if d then without w (if c then without v xs else xs) else (if c then without v xs else xs)) ≡ (if c then without v (if d then without w xs else xs) else (if d then without w xs else xs))
two_sends true true v w xs = without_twice w v xs
two_sends true false v w xs = refl
two_sends false true v w xs = refl
two_sends false false v w xs = refl

sends_cross : {C : Type 0} (a v c w u : ℕ) (x : Element C) → after_send_at c w u (after_send_at a v u x) ≡ after_send_at a v u (after_send_at c w u x)
sends_cross a v c w u x = λ i. record { status = two_statuses (u == v) (u == w) x.status i; made = x.made; sends = two_sends (u == a) (u == c) v w x.sends i }

-- either order leads to the same state
pub swap : {C : Type 0} {p : Shape} {s : State C} (b : Behaviour C) → Axioms p → Comparable p b.reads → Kept p s → (m n : Move) → m ≢ n → CanMove p s m → CanMove p s n → moved b p (moved b p s m) n ≡ moved b p (moved b p s n) m
swap {C} {p} {s} b ax fits k m n ne cm cn = λ i u. pointwise u i
  where
    both : (m n : Move) → m ≢ n → CanMove p s m → CanMove p s n → (u : ℕ) → effect b p s n u (effect b p s m u (s u)) ≡ effect b p s m u (effect b p s n u (s u))
    both (Tell a v) (Tell c w) ne cm cn u = sends_cross a v c w u (s u)
    both (Run e) n ne cm cn u = cross p s b (Run e) n u (s u) (apart ax k (Run e) n tt ne cm cn u)
    both (Tell a v) (Run f) ne cm cn u = cross p s b (Tell a v) (Run f) u (s u) (apart ax k (Tell a v) (Run f) tt ne cm cn u)

    pointwise : (u : ℕ) → moved b p (moved b p s m) n u ≡ moved b p (moved b p s n) m u
    pointwise u =
        effect_same b ax fits k m n ne cm cn u (effect b p s m u (s u))
        ∙ both m n ne cm cn u
        ∙ sym (effect_same b ax fits k n m (λ e. ne (sym e)) cn cm u (effect b p s n u (s u)))
