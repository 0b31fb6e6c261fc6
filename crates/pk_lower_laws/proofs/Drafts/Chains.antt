-- Steps one after another, with what is known carried along.
use Rattle.std.proofs.Common.{◌≡◌, ℕ, zero, suc, ◌+◌, ◌<◌, ◌≤◌, ◌⊎◌, inl, inr, List, [], ◌∷◌, ◌++◌, Option, Some, None, length, length-append, refl, ap, arith}
use Rattle.std.proofs.lemmas.Option.{none-some}
use Rattle.std.specs.Prelude.{slice_get, unwrap_or}
use Rattle.std.proofs.lemmas.List.Elements.{All-push}
use Rattle.pk_ctypes.specs.declared.places.Pos.{Pos}
use Rattle.pk_graph.specs.declared.graphs.Entry.{Entry}
use Rattle.pk_graph.specs.declared.graphs.Scope.{Scope}
use Rattle.pk_graph.specs.Graphs.{naming}
use Rattle.pk_graph.specs.Trees.{Skip}
use Rattle.pk_draft.specs.Drafts.{on, in_scope, with_entry, fresh, link, go}
use Rattle.pk_lower_statement.specs.Statements.{named, loop_begun}
use Rattle.pk_lower_laws.proofs.Drafts.Places.{D, Place, AreChained, Grown, Stage, Typed, Proper, Step, step, step_for, step_beside, quiet, same_scopes}
use Rattle.pk_lower_laws.proofs.Drafts.Verbs.{all_shorter, typed_at, typed_standing, typed_link, typed_fresh}

pub chain : {w : Place} {m l n : ℕ} {i j k : Stage} {d e g : D w} {P Q R : Type 0} → Step w m l i j d e P Q → Step w l n j k e g Q R → Step w m n i k d g P R
chain {w = w} {m = m} {l = l} {n = n} {i = i} {j = j} {k = k} {d = d} {e = e} {g = g} {P = P} {Q = Q} {R = R} a b = step w m l n i j k d e g P Q R a b

-- where nothing is asked or given, all stays known
pub run : {w : Place} {m n : ℕ} {i k : Stage} {d e : D w} (R : Type 0) → Step w m n i k d e (Unit {0}) (Unit {0}) → Step w m n i k d e R R
run {w = w} {m = m} {n = n} {i = i} {k = k} {d = d} {e = e} R a = step_for w m n i k d e (Unit {0} × R) (Unit {0} × R) R R (λ q. (tt, q)) (λ q. q.1) (step_beside w m n i k d e (Unit {0}) (Unit {0}) R a)

-- what is asked is known
pub use_it : {w : Place} {m n : ℕ} {i k : Stage} {d e : D w} {P : Type 0} (R : Type 0) → (R → P) → Step w m n i k d e P (Unit {0}) → Step w m n i k d e R R
use_it {w = w} {m = m} {n = n} {i = i} {k = k} {d = d} {e = e} {P = P} R f a = step_for w m n i k d e (P × R) (Unit {0} × R) R R (λ q. (f q, q)) (λ q. q.1) (step_beside w m n i k d e P (Unit {0}) R a)

-- what is given is known beside the rest
pub gain : {w : Place} {m n : ℕ} {i k : Stage} {d e : D w} {Q : Type 0} (R : Type 0) → Step w m n i k d e (Unit {0}) Q → Step w m n i k d e R (R × Q)
gain {w = w} {m = m} {n = n} {i = i} {k = k} {d = d} {e = e} {Q = Q} R a = step_for w m n i k d e (Unit {0} × R) (Q × R) R (R × Q) (λ q. (tt, q)) (λ q. (q.1, q.0)) (step_beside w m n i k d e (Unit {0}) Q R a)

pub given : {w : Place} {m n : ℕ} {i k : Stage} {d e : D w} {P Q : Type 0} (R : Type 0) → (Q → R) → Step w m n i k d e P Q → Step w m n i k d e P R
given {w = w} {m = m} {n = n} {i = i} {k = k} {d = d} {e = e} {P = P} {Q = Q} R f a = step_for w m n i k d e P Q P R (λ q. q) f a

pub on_step : (w : Place) (m : ℕ) (s : Stage) (p : Pos) (d : D w) → Step w m m s s d (on p d) (Unit {0}) (Unit {0})
on_step w m s p d = quiet w m s d (on p d) (Unit {0}) (Unit {0}) refl refl refl refl (λ z. z) (same_scopes _ _ refl) (omega arith) (λ o b z t q. (typed_standing w s (record { at = p; path = d.here.path; scope = d.here.scope }) d refl t.scope t, tt))

pub scope_step : (w : Place) (m : ℕ) (s : Stage) (k : ℕ) (d : D w) → Step w m m s s d (in_scope k d) (k ≤ length d.scopes) (Unit {0})
scope_step w m s k d = quiet w m s d (in_scope k d) (k ≤ length d.scopes) (Unit {0}) refl refl refl refl (λ z. z) (same_scopes _ _ refl) (omega arith) (λ o b z t q. (typed_standing w s (record { at = d.here.at; path = d.here.path; scope = k }) d refl q t, tt))

pub go_step : (w : Place) (m : ℕ) (s : Stage) (q : ℕ) (d : D w) → Step w m m s s d (go Skip q d) (q < w.points) (Unit {0})
go_step w m s q d = quiet w m s d (go Skip q d) (q < w.points) (Unit {0}) refl refl refl refl (all_shorter w.IsEdge d.edges _) (same_scopes _ _ refl) (omega arith) (λ o b z t k. (typed_at w s q (link Skip q d) k (typed_link w s Skip q d k tt (λ e. tt) t), tt))

pub begun_step : (w : Place) → Proper w → (m : ℕ) (s : Stage) (d : D w) → Step w m m s s d (loop_begun d) (Unit {0}) (d.points + 3 ≤ w.points)
begun_step w g m s d = quiet w m s d (loop_begun d) (Unit {0}) (d.points + 3 ≤ w.points) refl refl refl refl (all_shorter w.IsEdge d.edges _) (same_scopes _ _ refl) (omega arith)
    (λ o b z t k. let q : d.points < w.points = omega (b.1, arith) in
    (typed_at w s d.points (link Skip d.points (fresh 3 d)) q (typed_link w s Skip d.points (fresh 3 d) q tt (λ e. tt) (typed_fresh w g s 3 d t)), b.1))

get_before : (ss : List Scope) (z : Scope) (n : ℕ) (y : Scope) → slice_get ss n ≡ Some y → slice_get (ss ++ z ∷ []) n ≡ Some y
get_before [] z n y h = absurd (none-some y h)
get_before (s ∷ ss) z zero y h = h
get_before (s ∷ ss) z (suc n) y h = get_before ss z n y h

one_scope : (ss : List Scope) (z : Scope) → Grown ss (ss ++ z ∷ [])
one_scope ss z = record { many = let q = length-append ss (z ∷ []) in omega (q, arith); stay = get_before ss z }

-- the last entry, or one before it
last_or : (ss : List Scope) (z : Scope) (n : ℕ) (y : Scope) → slice_get (ss ++ z ∷ []) n ≡ Some y → (slice_get ss n ≡ Some y) ⊎ ((z ≡ y) × (n ≡ length ss))
last_or [] z zero y h = inr (ap (λ (o : Option Scope). unwrap_or o z) h, refl)
last_or [] z (suc n) y h = absurd (none-some y h)
last_or (s ∷ ss) z zero y h = inl h
last_or (s ∷ ss) z (suc n) y h = elim (last_or ss z n y h) [ inl a ↦ inl a | inr a ↦ (let q = a.1 in inr (a.0, omega (q, arith))) ]

pub chained_last : (ss : List Scope) (z : Scope) → AreChained ss → z.outer ≤ length ss → AreChained (ss ++ z ∷ [])
chained_last ss z h l n y e = elim (last_or ss z n y e) [ inl a ↦ h n y a | inr a ↦ (let q = a.1 in let r = ap (λ (x : Scope). x.outer) a.0 in omega (q, r, l, arith)) ]

pub typed_entry : (w : Place) (s : Stage) (e : Entry) (d : D w) → Typed w s d → (e.variable < length w.kinds) × w.CanBeNamed e.variable → Typed w s (with_entry e d)
typed_entry w s e d t k =
    let z : Scope = record { entry = e; outer = d.here.scope } in
    record {
      names = t.names;
      point = t.point;
      here = t.here;
      scope = let q = length-append d.scopes (z ∷ []) in omega (q, arith);
      chain = chained_last d.scopes z t.chain t.scope;
      labels = t.labels;
      scopes = All-push (λ (c : Scope). (c.entry.variable < length w.kinds) × w.CanBeNamed c.entry.variable) d.scopes z t.scopes k;
      starts = t.starts;
      zeros = t.zeros;
      edges = t.edges;
      objects = t.objects;
      places = t.places;
    }

-- an entry of a scope
pub entry_step : (w : Place) (m : ℕ) (s : Stage) (e : Entry) (d : D w) → Step w m m s s d (with_entry e d) ((e.variable < length w.kinds) × w.CanBeNamed e.variable) (Unit {0})
entry_step w m s e d =
    let z : Scope = record { entry = e; outer = d.here.scope } in
    quiet w m s d (with_entry e d) ((e.variable < length w.kinds) × w.CanBeNamed e.variable) (Unit {0}) refl refl refl refl (λ z. z) (one_scope d.scopes z) (omega arith) (λ o b f t k. (typed_entry w s e d t k, tt))

pub named_step : (w : Place) (m : ℕ) (s : Stage) (name : Option (List ℕ)) (x : ℕ) (d : D w) → Step w m m s s d (named name x d) ((x < length w.kinds) × w.CanBeNamed x) (Unit {0})
named_step w m s None x d = quiet w m s d d ((x < length w.kinds) × w.CanBeNamed x) (Unit {0}) refl refl refl refl (λ z. z) (same_scopes _ _ refl) (omega arith) (λ o b z t k. (t, tt))
named_step w m s (Some name) x d = entry_step w m s (naming x) d
