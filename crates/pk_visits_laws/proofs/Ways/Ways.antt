-- The edges that a draft has from a point.
use Rattle.std.proofs.Common.{◌≡◌, ℕ, List, [], ◌∷◌, ◌++◌, Bool, true, false, refl, sym, ap, ◌∙◌, subst, arith, nat_eq, eq-eqb, if◌then◌else◌, append-nil}
use Rattle.std.specs.List.{filter}
use Rattle.std.proofs.lemmas.Bool.Decides.{nat_tests}
use Rattle.std.proofs.lemmas.List.Elements.{filter-append}
use Rattle.pk_graph.specs.Trees.{TreeOf, InstrOf, Guard}
use Rattle.pk_draft.specs.Drafts.{EdgeFrom}

abbrev pub starts_at : {V : Type 0} → ℕ → EdgeFrom V → Bool
starts_at x e = nat_eq e.from x

abbrev pub from : {V : Type 0} → ℕ → List (EdgeFrom V) → List (EdgeFrom V)
from x es = filter (starts_at x) es

-- none, one, or the two guards of one test
abbrev pub IsWay : {V : Type 0} → List (EdgeFrom V) → Type 0
IsWay [] = Unit {0}
IsWay (e ∷ []) = Unit {0}
IsWay {V} (e ∷ f ∷ []) = (t : TreeOf V) × (e.instr ≡ Guard t true) × (f.instr ≡ Guard t false)
IsWay (e ∷ f ∷ g ∷ es) = ⊥

abbrev pub made : {V : Type 0} → ℕ → InstrOf V → ℕ → EdgeFrom V
made p i q = record { from = p; instr = i; to = q }

single : {V : Type 0} (x p : ℕ) (i : InstrOf V) (q : ℕ) → (x ≡ p → ⊥) → from x (made p i q ∷ []) ≡ []
single x p i q h = let e : nat_eq p x ≡ false = grind (arith, nat_tests, h) in ap (λ (b : Bool). if b then made p i q ∷ [] else []) e

-- an edge from another point
pub other_edge : {V : Type 0} (x p : ℕ) (i : InstrOf V) (q : ℕ) (es : List (EdgeFrom V)) → (x ≡ p → ⊥) → from x (es ++ made p i q ∷ []) ≡ from x es
other_edge x p i q es h = filter-append (starts_at x) es (made p i q ∷ []) ∙ ap (λ fs. from x es ++ fs) (single x p i q h) ∙ append-nil (from x es)

-- an edge from this point
pub own_edge : {V : Type 0} (p : ℕ) (i : InstrOf V) (q : ℕ) (es : List (EdgeFrom V)) → from p (es ++ made p i q ∷ []) ≡ from p es ++ made p i q ∷ []
own_edge p i q es = filter-append (starts_at p) es (made p i q ∷ []) ∙ ap (λ (b : Bool). from p es ++ (if b then made p i q ∷ [] else [])) (eq-eqb p p refl)

pub one_way : {V : Type 0} (p : ℕ) (i : InstrOf V) (q : ℕ) (es : List (EdgeFrom V)) → from p es ≡ [] → IsWay (from p (es ++ made p i q ∷ []))
one_way p i q es h = subst IsWay (sym (own_edge p i q es ∙ ap (λ fs. fs ++ made p i q ∷ []) h)) tt

pub two_ways : {V : Type 0} (p : ℕ) (t : TreeOf V) (q r : ℕ) (es : List (EdgeFrom V)) → from p es ≡ [] → IsWay (from p ((es ++ made p (Guard t true) q ∷ []) ++ made p (Guard t false) r ∷ []))
two_ways p t q r es h =
    subst IsWay (sym (own_edge p (Guard t false) r (es ++ made p (Guard t true) q ∷ []) ∙ ap (λ fs. fs ++ made p (Guard t false) r ∷ []) (own_edge p (Guard t true) q es ∙ ap (λ fs. fs ++ made p (Guard t true) q ∷ []) h)))
    (t, refl, refl)
