-- An edge of a numbered graph is one of its draft; a point's edges that both lead on, or both fail, do so alike.
use Rattle.std.proofs.Common.{◌≡◌, ℕ, zero, suc, ◌⊎◌, List, [], ◌∷◌, Bool, true, false, not, ◌&&◌, nat_eq, refl, sym, ap, ◌∙◌, subst, inl, inr, arith, if◌then◌else◌}
use Rattle.std.specs.Prelude.{Result, Ok, Err, map, ℤ}
use Rattle.std.specs.List.{Contains, filter}
use Rattle.std.proofs.lemmas.Bool.Decides.{nat_tests}
use Rattle.pk_graph.specs.Trees.{TreeOf, InstrOf, Guard}
use Rattle.pk_graph.specs.Graphs.{PathOf, EdgeOf, point_at}
use Rattle.pk_graph.specs.Steps as steps
use Rattle.pk_graph.specs.Steps.{Numbers, Failure, After, tree_value, is_true, with_value, effect}
use Rattle.pk_graph.specs.Stores.{Stored, storing}
use Rattle.pk_draft.specs.Drafts.{EdgeFrom, DraftOf, nowhere}
use Rattle.pk_number.specs.Numbering.{is_from, edges_from, reached, edge_of, numbered}
use Rattle.pk_visits.proofs.Slots.{Among}
use Rattle.pk_visits.proofs.Numbered.Edges.{IsFound, number_of, point_shown}
use Rattle.pk_visits_laws.proofs.Ways.Ways.{starts_at, from, IsWay}

-- ---- back to the draft

from_map : {X Y : Type 0} (f : X → Y) (xs : List X) (y : Y) → Contains (map f xs) y → (x : X) × Among x xs × (f x ≡ y)
from_map f [] y (k, low, e) = absurd (omega (arith, low))
from_map f (x ∷ xs) y (zero, low, e) = (x, inl refl, e)
from_map f (x ∷ xs) y (suc k, low, e) = let r = from_map f xs y (k, omega (arith, low), e) in (r.0, inr r.1, r.2)

among_filter : {X : Type 0} (test : X → Bool) (xs : List X) (x : X) → Among x (filter test xs) → Among x xs × (test x ≡ true)
among_filter test [] x h = absurd h
among_filter {X} test (y ∷ ys) x h = by (test y) refl h (λ k. among_filter test ys x k) where
  by : (b : Bool) → test y ≡ b → Among x (if b then y ∷ filter test ys else filter test ys) → (Among x (filter test ys) → Among x ys × (test x ≡ true)) → Among x (y ∷ ys) × (test x ≡ true)
  by true e (inl is) rest = (inl is, ap test is ∙ e)
  by true e (inr a) rest = let r = rest a in (inr r.0, r.1)
  by false e a rest = let r = rest a in (inr r.0, r.1)

filter_among : {X : Type 0} (test : X → Bool) (xs : List X) (x : X) → Among x xs → test x ≡ true → Among x (filter test xs)
filter_among test [] x h t = absurd h
filter_among {X} test (y ∷ ys) x h t = by (test y) refl h (λ k. filter_among test ys x k t) where
  by : (b : Bool) → test y ≡ b → Among x (y ∷ ys) → (Among x ys → Among x (filter test ys)) → Among x (if b then y ∷ filter test ys else filter test ys)
  by true e (inl is) rest = inl is
  by true e (inr a) rest = inr (rest a)
  by false e (inl is) rest = absurd (cc (e, t, ap test is))
  by false e (inr a) rest = rest a

-- the edge of the draft that an edge from the point with p's number is
pub record IsMadeFrom (d : DraftOf ℕ) (p : ℕ) (e : EdgeOf) : Type 0 where
  pub made : EdgeFrom ℕ
  pub there : Among made d.edges
  pub from : made.from ≡ p
  pub somewhere : made.to ≡ nowhere → ⊥
  pub is : edge_of (reached d.edges) made ≡ e

from_test : (p : ℕ) (x : EdgeFrom ℕ) → is_from p x ≡ true → (x.from ≡ p) × (x.to ≡ nowhere → ⊥)
from_test p x h = by (nat_eq x.from p) (nat_eq x.to nowhere) refl refl h where
  by : (a b : Bool) → nat_eq x.from p ≡ a → nat_eq x.to nowhere ≡ b → (a && not b) ≡ true → (x.from ≡ p) × (x.to ≡ nowhere → ⊥)
  by true true e f h = absurd (cc h)
  by true false e f h = (grind (arith, nat_tests), λ k. grind (arith, nat_tests))
  by false b e f h = absurd (cc h)

pub edge_back : (paths : List PathOf) (d : DraftOf ℕ) (p : ℕ) (e : EdgeOf) → IsFound d p → Contains (point_at (numbered paths d) (number_of d p)).edges e → IsMadeFrom d p e
edge_back paths d p e found there =
    let r = from_map (edge_of (reached d.edges)) (edges_from p d.edges) e (subst (λ x. Contains x.edges e) (point_shown paths d p found) there) in
    let a = among_filter (is_from p) d.edges r.0 r.1 in
    let t = from_test p r.0 a.1 in
    record { made = r.0; there = a.0; from = t.0; somewhere = t.1; is = r.2 }

-- ---- the edges of one point

-- the guards of one test
pub record AreOpposite (x y : EdgeFrom ℕ) : Type 0 where
  pub tree : TreeOf ℕ
  pub sense : Bool
  pub one : x.instr ≡ Guard tree sense
  pub other : y.instr ≡ Guard tree (not sense)

two_edges : (es : List (EdgeFrom ℕ)) (x y : EdgeFrom ℕ) → IsWay es → Among x es → Among y es → (x ≡ y) ⊎ AreOpposite x y
two_edges [] x y w a b = absurd a
two_edges (e ∷ []) x y w (inl a) (inl b) = inl (a ∙ sym b)
two_edges (e ∷ []) x y w (inl a) (inr b) = absurd b
two_edges (e ∷ []) x y w (inr a) b = absurd a
two_edges (e ∷ f ∷ []) x y w (inl a) (inl b) = inl (a ∙ sym b)
two_edges (e ∷ f ∷ []) x y w (inl a) (inr (inl b)) = inr (record { tree = w.0; sense = true; one = ap (λ (z : EdgeFrom ℕ). z.instr) a ∙ w.1; other = ap (λ (z : EdgeFrom ℕ). z.instr) b ∙ w.2 })
two_edges (e ∷ f ∷ []) x y w (inl a) (inr (inr b)) = absurd b
two_edges (e ∷ f ∷ []) x y w (inr (inl a)) (inl b) = inr (record { tree = w.0; sense = false; one = ap (λ (z : EdgeFrom ℕ). z.instr) a ∙ w.2; other = ap (λ (z : EdgeFrom ℕ). z.instr) b ∙ w.1 })
two_edges (e ∷ f ∷ []) x y w (inr (inl a)) (inr (inl b)) = inl (a ∙ sym b)
two_edges (e ∷ f ∷ []) x y w (inr (inl a)) (inr (inr b)) = absurd b
two_edges (e ∷ f ∷ []) x y w (inr (inr a)) b = absurd a
two_edges (e ∷ f ∷ g ∷ es) x y w a b = absurd w

starts : (x : EdgeFrom ℕ) (p : ℕ) → x.from ≡ p → starts_at p x ≡ true
starts x p h = grind (arith, nat_tests)

pub one_way_at : (d : DraftOf ℕ) (p : ℕ) (x y : EdgeFrom ℕ) → IsWay (from p d.edges) → Among x d.edges → x.from ≡ p → Among y d.edges → y.from ≡ p → (x ≡ y) ⊎ AreOpposite x y
one_way_at d p x y w a e b f = two_edges (from p d.edges) x y w (filter_among (starts_at p) d.edges x a (starts x p e)) (filter_among (starts_at p) d.edges y b (starts y p f))

pub no_way : (d : DraftOf ℕ) (p : ℕ) (x : EdgeFrom ℕ) → from p d.edges ≡ [] → Among x d.edges → x.from ≡ p → ⊥
no_way d p x none a e = subst (Among x) none (filter_among (starts_at p) d.edges x a (starts x p e))

-- ---- what they do

to_is : {s t : Stored} → steps.To s ≡ steps.To t → s ≡ t
to_is {s} {t} e = ap inner e where
  inner : After Stored → Stored
  inner (steps.To u) = u
  inner steps.Blocked = s
  inner (steps.Wants y n) = s
  inner (steps.Faulted f) = s

abbrev fault : Failure → After Stored
fault e = steps.Faulted e

fault_is : {e f : Failure} → fault e ≡ fault f → e ≡ f
fault_is {e} {f} h = ap inner h where
  inner : After Stored → Failure
  inner (steps.To u) = e
  inner steps.Blocked = e
  inner (steps.Wants y n) = e
  inner (steps.Faulted g) = g

-- both lead on: they are one
abbrev BothGo : (chosen : Numbers) (s : Stored) → InstrOf ℕ → InstrOf ℕ → Type 0
BothGo ch s i j = (t u : Stored) → effect storing ch i s ≡ steps.To t → effect storing ch j s ≡ steps.To u → ⊥

guards_part : (ch : Numbers) (s : Stored) (e : TreeOf ℕ) (b : Bool) → BothGo ch s (Guard e b) (Guard e (not b))
guards_part ch s e b t u = by (tree_value storing e s) b where
  sides : (a b : Bool) → steps.passed a b s ≡ steps.To t → steps.passed a (not b) s ≡ steps.To u → ⊥
  sides true true h k = absurd (cc k)
  sides true false h k = absurd (cc h)
  sides false true h k = absurd (cc h)
  sides false false h k = absurd (cc k)

  by : (r : Result ℤ Failure) (b : Bool) → with_value r (λ v. steps.passed (is_true v) b s) ≡ steps.To t → with_value r (λ v. steps.passed (is_true v) (not b) s) ≡ steps.To u → ⊥
  by (Ok v) b h k = sides (is_true v) b h k
  by (Err x) b h k = absurd (cc h)

guards_fail : (ch : Numbers) (s : Stored) (e : TreeOf ℕ) (b : Bool) (t : Stored) (x : Failure) → effect storing ch (Guard e b) s ≡ steps.To t → effect storing ch (Guard e (not b)) s ≡ steps.Faulted x → ⊥
guards_fail ch s e b t x = by (tree_value storing e s) b where
  sides : (a b : Bool) → steps.passed a b s ≡ steps.Faulted x → ⊥
  sides true true h = absurd (cc h)
  sides true false h = absurd (cc h)
  sides false true h = absurd (cc h)
  sides false false h = absurd (cc h)

  by : (r : Result ℤ Failure) (b : Bool) → with_value r (λ v. steps.passed (is_true v) b s) ≡ steps.To t → with_value r (λ v. steps.passed (is_true v) (not b) s) ≡ steps.Faulted x → ⊥
  by (Ok v) b h k = sides (is_true v) (not b) k
  by (Err y) b h k = absurd (cc h)

guards_alike : (ch : Numbers) (s : Stored) (e : TreeOf ℕ) (b : Bool) (x y : Failure) → effect storing ch (Guard e b) s ≡ steps.Faulted x → effect storing ch (Guard e (not b)) s ≡ steps.Faulted y → x ≡ y
guards_alike ch s e b x y = by (tree_value storing e s) b where
  sides : (a b : Bool) → steps.passed a b s ≡ steps.Faulted x → ⊥
  sides true true h = absurd (cc h)
  sides true false h = absurd (cc h)
  sides false true h = absurd (cc h)
  sides false false h = absurd (cc h)

  by : (r : Result ℤ Failure) (b : Bool) → with_value r (λ v. steps.passed (is_true v) b s) ≡ steps.Faulted x → with_value r (λ v. steps.passed (is_true v) (not b) s) ≡ steps.Faulted y → x ≡ y
  by (Ok v) b h k = absurd (sides (is_true v) b h)
  by (Err z) b h k = sym (fault_is h) ∙ fault_is k

twice : (b : Bool) → not (not b) ≡ b
twice true = refl
twice false = refl

not_both : {s : Stored} {x : Failure} → steps.To s ≡ steps.Faulted x → ⊥
not_both e = absurd (cc e)

pub both_go : (ch : Numbers) (s t u : Stored) (x y : EdgeFrom ℕ) → (x ≡ y) ⊎ AreOpposite x y → effect storing ch x.instr s ≡ steps.To t → effect storing ch y.instr s ≡ steps.To u → (x ≡ y) × (t ≡ u)
both_go ch s t u x y (inl e) h k = (e, to_is (sym h ∙ ap (λ (z : EdgeFrom ℕ). effect storing ch z.instr s) e ∙ k))
both_go ch s t u x y (inr o) h k =
    absurd (guards_part ch s o.tree o.sense t u (subst (λ i. effect storing ch i s ≡ steps.To t) o.one h) (subst (λ i. effect storing ch i s ≡ steps.To u) o.other k))

pub goes_or_fails : (ch : Numbers) (s t : Stored) (f : Failure) (x y : EdgeFrom ℕ) → (x ≡ y) ⊎ AreOpposite x y → effect storing ch x.instr s ≡ steps.To t → effect storing ch y.instr s ≡ steps.Faulted f → ⊥
goes_or_fails ch s t f x y (inl e) h k = not_both (sym h ∙ ap (λ (z : EdgeFrom ℕ). effect storing ch z.instr s) e ∙ k)
goes_or_fails ch s t f x y (inr o) h k = guards_fail ch s o.tree o.sense t f (subst (λ i. effect storing ch i s ≡ steps.To t) o.one h) (subst (λ i. effect storing ch i s ≡ steps.Faulted f) o.other k)

pub both_fail : (ch : Numbers) (s : Stored) (e f : Failure) (x y : EdgeFrom ℕ) → (x ≡ y) ⊎ AreOpposite x y → effect storing ch x.instr s ≡ steps.Faulted e → effect storing ch y.instr s ≡ steps.Faulted f → e ≡ f
both_fail ch s e f x y (inl is) h k = fault_is (sym h ∙ ap (λ (z : EdgeFrom ℕ). effect storing ch z.instr s) is ∙ k)
both_fail ch s e f x y (inr o) h k = guards_alike ch s o.tree o.sense e f (subst (λ i. effect storing ch i s ≡ steps.Faulted e) o.one h) (subst (λ i. effect storing ch i s ≡ steps.Faulted f) o.other k)

pub turned : (x y : EdgeFrom ℕ) → (x ≡ y) ⊎ AreOpposite x y → (y ≡ x) ⊎ AreOpposite y x
turned x y (inl e) = inl (sym e)
turned x y (inr o) = inr (record { tree = o.tree; sense = not o.sense; one = o.other; other = o.one ∙ ap (λ b. Guard o.tree b) (sym (twice o.sense)) })
