-- Orderly rows have a reading.
use Rattle.std.proofs.Common.{◌≡◌, ℕ, zero, suc, ◌<◌, ◌≤◌, List, ◌∷◌, get_or, refl, sym, ap, ◌∙◌, Option, Some, arith, slice_get, inl, inr}
use Rattle.std.proofs.lemmas.Option.{slice_get_cases, slice_get-get_or}
use Rattle.pk_meaning.specs.Objects.{Scope}
use Rattle.pk_runner_frame.specs.declared.works.Scope as code_scope
use Rattle.pk_runner_frame.specs.declared.works.Scope.TheVariants as scopes
use Rattle.pk_runner_frame.specs.Frames.{Reading, object_in, scope_in}
use Rattle.pk_runner_state.specs.declared.tables.Row.{Row}
use Rattle.pk_runner_state.specs.Shown.{Agrees}
use Rattle.pk_runner_state.specs.Rows.{rows_of_scope, IsOrderly, by_row, read_through, reading_of}

same_scope : (a b : Reading) (j : ℕ) (x : code_scope.Scope) → ((k : ℕ) → k < j → a k ≡ b k) → rows_of_scope x ≤ j → scope_in a x ≡ scope_in b x
same_scope a b j (scopes.File n) h l = refl
same_scope a b j (scopes.Row k) h l = h k (omega (arith, l))

same_row : (a b : Reading) (j : ℕ) (rows : List Row) → IsOrderly rows → ((k : ℕ) → k < j → a k ≡ b k) → by_row (slice_get rows j) a ≡ by_row (slice_get rows j) b
same_row a b j rows o h =
    elim (slice_get_cases rows j).1 [
      | inl (r, l, e, g) ↦
          ap (λ (x : Option Row). by_row x a) e
          ∙ (ap (λ (xs : Scope). object_in r.object ∷ xs) (same_scope a b j r.parent h (o j r l g))
          ∙ sym (ap (λ (x : Option Row). by_row x b) e))
      | inr (l, e) ↦ ap (λ (x : Option Row). by_row x a) e ∙ sym (ap (λ (x : Option Row). by_row x b) e)
    ]

deep_enough : (n m j : ℕ) (rows : List Row) → IsOrderly rows → j < n → j < m → read_through n rows j ≡ read_through m rows j
deep_enough zero m j rows o h g = absurd (omega (arith, h))
deep_enough (suc n) zero j rows o h g = absurd (omega (arith, g))
deep_enough (suc n) (suc m) j rows o h g =
    same_row (read_through n rows) (read_through m rows) j rows o (λ k l. deep_enough n m k rows o (omega (arith, l, h)) (omega (arith, l, g)))

pub orderly_agree : (rows : List Row) → IsOrderly rows → Agrees (reading_of rows) rows
unfolding reading_of
orderly_agree rows o i r l e =
    ap (λ (x : Option Row). by_row x (read_through i rows)) (slice_get-get_or rows i r l ∙ ap Some e)
    ∙ ap (λ (xs : Scope). object_in r.object ∷ xs) (same_scope (read_through i rows) (reading_of rows) i r.parent (λ k h. deep_enough i (suc k) k rows o h (omega arith)) (o i r l e))
