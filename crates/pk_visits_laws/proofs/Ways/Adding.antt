-- What a form of the lowering does with points: of each one it makes the edges, or leaves it to the part of a path that it calls, or to what comes later.
use Rattle.std.proofs.Common.{◌≡◌, ℕ, ◌+◌, ◌<◌, ◌⊎◌, List, [], ◌∷◌, ◌++◌, true, false, refl, sym, ◌∙◌, subst, inl, inr, arith}
use Rattle.pk_graph.specs.Trees.{TreeOf, InstrOf, Guard}
use Rattle.pk_draft.specs.declared.drafts.Region.{Region}
use Rattle.pk_draft.specs.Drafts.{EdgeFrom}
use Rattle.pk_visits.proofs.Slots.{region_at}
use Rattle.pk_visits_laws.proofs.Ways.Ways.{from, IsWay, made, other_edge, one_way, two_ways}

-- a path's region holds where its part begins, and all points of the part behind its exit, where the caller goes on
abbrev pub HoldsIn : (size : ℕ) → Region → ℕ → Type 0
HoldsIn n r x = (0 < r.points) × ((x ≡ r.at) ⊎ ((r.points < x) × (x < r.points + n)))

abbrev pub Holds : (sizes : ℕ → ℕ) → List Region → (path x : ℕ) → Type 0
Holds z rs k x = HoldsIn (z k) (region_at rs k) x

-- no path has the point that didn't have it before
abbrev pub HoldNoMore : (ℕ → ℕ) → ℕ → List Region → List Region → Type 0
HoldNoMore z x rs ts = (k : ℕ) → Holds z ts k x → Holds z rs k x

pub record Kept {V : Type 0} (z : ℕ → ℕ) (x : ℕ) (es : List (EdgeFrom V)) (rs : List Region) (fs : List (EdgeFrom V)) (ts : List Region) : Type 0 where
  pub edges : from x fs ≡ from x es
  pub held : HoldNoMore z x rs ts

-- its edges are made
pub record Made {V : Type 0} (z : ℕ → ℕ) (x : ℕ) (es : List (EdgeFrom V)) (rs : List Region) (fs : List (EdgeFrom V)) (ts : List Region) : Type 0 where
  pub way : from x es ≡ [] → IsWay (from x fs)
  pub held : HoldNoMore z x rs ts

-- it is left to one path
pub record Left {V : Type 0} (z : ℕ → ℕ) (x : ℕ) (es : List (EdgeFrom V)) (rs : List Region) (fs : List (EdgeFrom V)) (ts : List Region) : Type 0 where
  pub edges : from x fs ≡ from x es
  pub path : ℕ
  pub held : (k : ℕ) → Holds z ts k x → Holds z rs k x ⊎ (k ≡ path)

abbrev pub Spent : {V : Type 0} → (ℕ → ℕ) → ℕ → List (EdgeFrom V) → List Region → List (EdgeFrom V) → List Region → Type 0
Spent z x es rs fs ts = Made z x es rs fs ts ⊎ Left z x es rs fs ts

pub kept_then : {V : Type 0} {z : ℕ → ℕ} {x : ℕ} {es fs gs : List (EdgeFrom V)} {rs ts us : List Region} → Kept z x es rs fs ts → Kept z x fs ts gs us → Kept z x es rs gs us
kept_then a b = record { edges = b.edges ∙ a.edges; held = λ k h. a.held k (b.held k h) }

kept_spent : {V : Type 0} {z : ℕ → ℕ} {x : ℕ} {es fs gs : List (EdgeFrom V)} {rs ts us : List Region} → Kept z x es rs fs ts → Spent z x fs ts gs us → Spent z x es rs gs us
kept_spent a (inl b) = inl (record { way = λ e. b.way (a.edges ∙ e); held = λ k h. a.held k (b.held k h) })
kept_spent {z = z} {x = x} {rs = rs} {ts = ts} a (inr b) = inr (record { edges = b.edges ∙ a.edges; path = b.path; held = λ k h. by k (b.held k h) }) where
  by : (k : ℕ) → Holds z ts k x ⊎ (k ≡ b.path) → Holds z rs k x ⊎ (k ≡ b.path)
  by k (inl h) = inl (a.held k h)
  by k (inr e) = inr e

spent_kept : {V : Type 0} {z : ℕ → ℕ} {x : ℕ} {es fs gs : List (EdgeFrom V)} {rs ts us : List Region} → Spent z x es rs fs ts → Kept z x fs ts gs us → Spent z x es rs gs us
spent_kept (inl a) b = inl (record { way = λ e. subst IsWay (sym b.edges) (a.way e); held = λ k h. a.held k (b.held k h) })
spent_kept (inr a) b = inr (record { edges = b.edges ∙ a.edges; path = a.path; held = λ k h. a.held k (b.held k h) })

-- points of A alone are spent
abbrev pub Adds : {V : Type 0} → (ℕ → ℕ) → (A : ℕ → Type 0) → List (EdgeFrom V) → List Region → List (EdgeFrom V) → List Region → Type 0
Adds z A es rs fs ts = (x : ℕ) → Kept z x es rs fs ts ⊎ (A x × Spent z x es rs fs ts)

pub adds_then : {V : Type 0} {z : ℕ → ℕ} {A B C : ℕ → Type 0} {es fs gs : List (EdgeFrom V)} {rs ts us : List Region}
    → ((x : ℕ) → A x → B x → ⊥) → ((x : ℕ) → A x → C x) → ((x : ℕ) → B x → C x) → Adds z A es rs fs ts → Adds z B fs ts gs us → Adds z C es rs gs us
adds_then {z = z} {A = A} {B = B} {C = C} {es = es} {fs = fs} {gs = gs} {rs = rs} {ts = ts} {us = us} apart first second a b x = by (a x) (b x) where
  by : Kept z x es rs fs ts ⊎ (A x × Spent z x es rs fs ts) → Kept z x fs ts gs us ⊎ (B x × Spent z x fs ts gs us) → Kept z x es rs gs us ⊎ (C x × Spent z x es rs gs us)
  by (inl m) (inl n) = inl (kept_then m n)
  by (inl m) (inr n) = inr (second x n.0, kept_spent m n.1)
  by (inr m) (inl n) = inr (first x m.0, spent_kept m.1 n)
  by (inr m) (inr n) = absurd (apart x m.0 n.0)

pub adds_more : {V : Type 0} {z : ℕ → ℕ} {A B : ℕ → Type 0} {es fs : List (EdgeFrom V)} {rs ts : List Region} → ((x : ℕ) → A x → B x) → Adds z A es rs fs ts → Adds z B es rs fs ts
adds_more {z = z} {A = A} {B = B} {es = es} {fs = fs} {rs = rs} {ts = ts} more a x = by (a x) where
  by : Kept z x es rs fs ts ⊎ (A x × Spent z x es rs fs ts) → Kept z x es rs fs ts ⊎ (B x × Spent z x es rs fs ts)
  by (inl m) = inl m
  by (inr m) = inr (more x m.0, m.1)

pub same : (m n : ℕ) → (m ≡ n) ⊎ (m ≡ n → ⊥)
same m n = grind arith

pub nothing : {V : Type 0} (z : ℕ → ℕ) (A : ℕ → Type 0) (es : List (EdgeFrom V)) (rs : List Region) → Adds z A es rs es rs
nothing z A es rs x = inl (record { edges = refl; held = λ k h. h })

-- one edge, from one point
pub one_edge : {V : Type 0} (z : ℕ → ℕ) (p : ℕ) (i : InstrOf V) (q : ℕ) (es : List (EdgeFrom V)) (rs : List Region) → Adds z (λ x. x ≡ p) es rs (es ++ made p i q ∷ []) rs
one_edge {V} z p i q es rs x = by (same x p) where
  by : (x ≡ p) ⊎ (x ≡ p → ⊥) → Kept z x es rs (es ++ made p i q ∷ []) rs ⊎ ((x ≡ p) × Spent z x es rs (es ++ made p i q ∷ []) rs)
  by (inl e) = inr (e, inl (record { way = λ h. subst (λ y. IsWay (from y (es ++ made p i q ∷ []))) (sym e) (one_way p i q es (subst (λ y. from y es ≡ []) e h)); held = λ k h. h }))
  by (inr n) = inl (record { edges = other_edge x p i q es n; held = λ k h. h })

-- the two guards of a test
pub two_edges : {V : Type 0} (z : ℕ → ℕ) (p : ℕ) (t : TreeOf V) (q r : ℕ) (es : List (EdgeFrom V)) (rs : List Region) → Adds z (λ x. x ≡ p) es rs ((es ++ made p (Guard t true) q ∷ []) ++ made p (Guard t false) r ∷ []) rs
two_edges {V} z p t q r es rs x = by (same x p) where
  fs : List (EdgeFrom V)
  fs = es ++ made p (Guard t true) q ∷ []

  by : (x ≡ p) ⊎ (x ≡ p → ⊥) → Kept z x es rs (fs ++ made p (Guard t false) r ∷ []) rs ⊎ ((x ≡ p) × Spent z x es rs (fs ++ made p (Guard t false) r ∷ []) rs)
  by (inl e) = inr (e, inl (record { way = λ h. subst (λ y. IsWay (from y (fs ++ made p (Guard t false) r ∷ []))) (sym e) (two_ways p t q r es (subst (λ y. from y es ≡ []) e h)); held = λ k h. h }))
  by (inr n) = inl (record { edges = other_edge x p (Guard t false) r fs n ∙ other_edge x p (Guard t true) q es n; held = λ k h. h })
