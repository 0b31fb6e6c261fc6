-- A walk and its mirror have the same sum.
use Rattle.std.specs.Prelude.{◌≡◌, ℕ, ◌<◌, ℤ, Option, List, [], ◌∷◌, ◌++◌}
use Rattle.std.proofs.Common.{◌∙◌, ap, sym, subst}
use Rattle.pk_octclose.proofs.Walks.{EachIn, Reached, each_in_append, walk_append}
use Rattle.pk_octclose.specs.Walks.{HasLeastSums, walk_sum}
use Rattle.pk_octmat.proofs.Bars.{bar_bar}
use Rattle.pk_octmat.proofs.Tropical.{at_most_both, plus_comm}
use Rattle.pk_octmat.specs.Bounds.{AtMost, plus}
use Rattle.pk_octmat.specs.Octagon.{bar}

mirror : List ℕ → List ℕ
mirror [] = []
mirror (v ∷ vs) = mirror vs ++ bar v ∷ []

walk_turned : (e : ℕ → ℕ → Option ℤ) → ((i j : ℕ) → e i j ≡ e (bar j) (bar i)) → (i j : ℕ) (vs : List ℕ) → walk_sum e i vs j ≡ walk_sum e (bar j) (mirror vs) (bar i)
unfolding mirror
walk_turned e t i j [] = t i j
walk_turned e t i j (v ∷ vs) =
    ap (λ s. plus s (walk_sum e v vs j)) (t i v) ∙ ap (λ s. plus (e (bar v) (bar i)) s) (walk_turned e t v j vs) ∙ plus_comm (e (bar v) (bar i)) (walk_sum e (bar j) (mirror vs) (bar v))
    ∙ sym (walk_append e (mirror vs) [] (bar j) (bar v) (bar i))

walk_back : (e : ℕ → ℕ → Option ℤ) → ((i j : ℕ) → e i j ≡ e (bar j) (bar i)) → (i j : ℕ) (vs : List ℕ) → walk_sum e (bar j) vs (bar i) ≡ walk_sum e i (mirror vs) j
walk_back e t i j vs = walk_turned e t (bar j) (bar i) vs ∙ ap (λ k. walk_sum e k (mirror vs) (bar (bar j))) (bar_bar i) ∙ ap (λ k. walk_sum e i (mirror vs) k) (bar_bar j)

pub sums_turned : (d : ℕ) (e p : ℕ → ℕ → Option ℤ) → ((i j : ℕ) → e i j ≡ e (bar j) (bar i)) → HasLeastSums d e p → (i j : ℕ) → i < d → j < d → bar i < d → bar j < d → p i j ≡ p (bar j) (bar i)
sums_turned d e p t h i j id jd bi bj =
    let l = h.each i j id jd in
    let m = h.each (bar j) (bar i) bj bi in
    at_most_both (p i j) (p (bar j) (bar i))
    (subst (λ s. AtMost (p i j) s) (sym (walk_back e t i j m.by) ∙ m.reached) (l.least (mirror m.by)))
    (subst (λ s. AtMost (p (bar j) (bar i)) s) (sym (walk_turned e t i j l.by) ∙ l.reached) (m.least (mirror l.by)))

-- what is reached backwards is reached
each_mirror : (P : ℕ → Type 0) → ((p : ℕ) → P p → P (bar p)) → (vs : List ℕ) → EachIn P vs → EachIn P (mirror vs)
unfolding mirror
each_mirror P f [] b = tt
each_mirror P f (v ∷ vs) b = each_in_append P (mirror vs) [] (bar v) (each_mirror P f vs b.1) (f v b.0) tt

pub reached_turned : (e : ℕ → ℕ → Option ℤ) (P : ℕ → Type 0) (i j : ℕ) (b : Option ℤ) → ((a c : ℕ) → e a c ≡ e (bar c) (bar a)) → ((p : ℕ) → P p → P (bar p)) → Reached e P (bar j) (bar i) b → Reached e P i j b
reached_turned e P i j b t f r = record { by = mirror r.by; each = each_mirror P f r.by r.each; is = sym (walk_back e t i j r.by) ∙ r.is }
