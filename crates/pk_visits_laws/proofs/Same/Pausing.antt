-- A run comes to a visit, or ends, after finitely many steps.
use Rattle.std.proofs.Common.{◌≡◌, ℕ, zero, suc, ◌+◌, ◌<◌, ◌≤◌, false, sym, subst, inl, inr, arith}
use Rattle.pk_graph.specs.Steps.{Numbers}
use Rattle.pk_meaning.specs.Programs.{Program}
use Rattle.pk_meaning.specs.Work as work
use Rattle.pk_meaning.specs.Work.{Work}
use Rattle.pk_meaning.specs.Steps.{Config, To, step}
use Rattle.pk_visits_laws.proofs.Same.Weights.{weight, returns}
use Rattle.pk_visits_laws.proofs.Same.Falling.{Falls, Falling, falling}

-- whatever follows without a visit comes to one, or ends
pub data Pauses (p : Program) (chosen : Numbers) : Config → Type 0 where
  pauses : {c : Config} → ((d : Config) → step p chosen c ≡ To d → d.is_visit ≡ false → Pauses p chosen d) → Pauses p chosen c

-- What is kept at each step: a call enters a path behind its own, of n paths.
pub record IsKept (p : Program) (chosen : Numbers) (n : ℕ) (Keeps : Config → Type 0) : Type 1 where
  pub steps : (c d : Config) → Keeps c → step p chosen c ≡ To d → Keeps d
  pub enters : (c : Config) (m : ℕ) (w : Work) → Keeps c → c.work ≡ work.Enter m w → (c.path < m) × (m < n)

falls : (p : Program) (ch : Numbers) (c d : Config) → step p ch c ≡ To d → d.is_visit ≡ false → Falls p c.path c.work d
falls p ch c d e v = subst (Falling p c.path c.work) e (falling p ch c.path c.here c.work c.values c.objects c.is_visit c.work) v

below : (a b : ℕ) → a < suc b → a ≤ b
below a b h = omega (arith, h)

-- with so much weight at most
by_weight : (p : Program) (ch : Numbers) (n : ℕ) (Keeps : Config → Type 0) → IsKept p ch n Keeps → (r m : ℕ)
    → ((c : Config) → Keeps c → returns c.work ≤ r → n < c.path + m → c.path < n → Pauses p ch c)
    → ((c : Config) → Keeps c → returns c.work < r → Pauses p ch c)
    → (w : ℕ) (c : Config) → Keeps c → returns c.work ≤ r → n ≤ c.path + m → weight p c.path c.work < w → Pauses p ch c
by_weight p ch n Keeps kept r m deeper fewer zero c k a b l = absurd (omega (arith, l))
by_weight p ch n Keeps kept r m deeper fewer (suc w) c k a b l =
    pauses (λ d e v. next (λ j f g h. by_weight p ch n Keeps kept r m deeper fewer w d j f g h) (kept.steps c d k e) (falls p ch c d e v)) where
      next : {d : Config} → (Keeps d → returns d.work ≤ r → n ≤ d.path + m → weight p d.path d.work < w → Pauses p ch d) → Keeps d → Falls p c.path c.work d → Pauses p ch d
      next {d} lighter j (inl f) =
          let same = f.path in
          let light : weight p d.path d.work < weight p c.path c.work = subst (λ i. weight p i d.work < weight p c.path c.work) (sym same) f.weight in
          lighter j (omega (arith, a, f.returns)) (omega (arith, b, same)) (omega (arith, l, light))
      next {d} lighter j (inr (inl f)) =
          let at = kept.enters c f.callee f.behind k f.enters in
          deeper d j (omega (arith, f.returns)) (omega (arith, at.0, at.1, b, f.path)) (omega (arith, at.1, f.path))
      next {d} lighter j (inr (inr f)) = fewer d j (omega (arith, f, a))

by_path : (p : Program) (ch : Numbers) (n : ℕ) (Keeps : Config → Type 0) → IsKept p ch n Keeps → (r : ℕ)
    → ((c : Config) → Keeps c → returns c.work < r → Pauses p ch c)
    → (m : ℕ) (c : Config) → Keeps c → returns c.work ≤ r → n ≤ c.path + m → Pauses p ch c
by_path p ch n Keeps kept r fewer zero c k a b =
    by_weight p ch n Keeps kept r zero (λ d j f g h. absurd (omega (arith, g, h))) fewer (suc (weight p c.path c.work)) c k a b (omega arith)
by_path p ch n Keeps kept r fewer (suc m) c k a b =
    by_weight p ch n Keeps kept r (suc m) (λ d j f g h. by_path p ch n Keeps kept r fewer m d j f (omega (arith, g))) fewer (suc (weight p c.path c.work)) c k a b (omega arith)

by_returns : (p : Program) (ch : Numbers) (n : ℕ) (Keeps : Config → Type 0) → IsKept p ch n Keeps → (r : ℕ) (c : Config) → Keeps c → returns c.work < r → Pauses p ch c
by_returns p ch n Keeps kept zero c k a = absurd (omega (arith, a))
by_returns p ch n Keeps kept (suc r) c k a = by_path p ch n Keeps kept r (by_returns p ch n Keeps kept r) n c k (below (returns c.work) r a) (omega arith)

pub pausing : (p : Program) (ch : Numbers) (n : ℕ) (Keeps : Config → Type 0) → IsKept p ch n Keeps → (c : Config) → Keeps c → Pauses p ch c
pausing p ch n Keeps kept c k = by_returns p ch n Keeps kept (suc (returns c.work)) c k (omega arith)
