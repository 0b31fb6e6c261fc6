use Rattle.std.proofs.Common.{◌≡◌, ◌<◌, ◌⊎◌, ℕ, inl, inr, ap, sym, ◌∙◌, arith}
use Rattle.std.proofs.lemmas.Bool.{cases_order}
use Rattle.pk_ctypes.specs.declared.places.Pos.{Pos}
use Rattle.pk_ctypes.specs.Places.{Before}
use Rattle.pk_ctypes.proofs.laws.place_law.Goals as goal

abbrev place : ℕ → ℕ → Pos
place l c = record { line = l; column = c }

irreflexive : (p : Pos) → Before p p → ⊥
irreflexive p (inl l) = absurd (omega (arith, l))
irreflexive p (inr h) = absurd (omega (arith, h.1))

transitive : (p q r : Pos) → Before p q → Before q r → Before p r
transitive p q r (inl l) (inl k) = inl (omega (arith, l, k))
transitive p q r (inl l) (inr k) = inl (omega (arith, l, k.0))
transitive p q r (inr h) (inl k) = inl (omega (arith, h.0, k))
transitive p q r (inr h) (inr k) = inr (h.0 ∙ k.0, omega (arith, h.1, k.1))

total : (p q : Pos) → Before p q ⊎ ((p ≡ q) ⊎ Before q p)
total p q = lines (cases_order p.line q.line)
  where
    columns : p.line ≡ q.line → (p.column ≡ q.column) ⊎ ((p.column < q.column) ⊎ (q.column < p.column)) → Before p q ⊎ ((p ≡ q) ⊎ Before q p)
    columns e (inl f) = inr (inl (ap (λ l. place l p.column) e ∙ ap (place q.line) f))
    columns e (inr (inl l)) = inl (inr (e, l))
    columns e (inr (inr l)) = inr (inr (inr (sym e, l)))

    lines : (p.line ≡ q.line) ⊎ ((p.line < q.line) ⊎ (q.line < p.line)) → Before p q ⊎ ((p ≡ q) ⊎ Before q p)
    lines (inl e) = columns e (cases_order p.column q.column)
    lines (inr (inl l)) = inl (inl l)
    lines (inr (inr l)) = inr (inr (inl l))

pub returns : goal.returns
returns c = record { irreflexive = irreflexive; transitive = transitive; total = total }
