-- Paths that stand behind by their numbers stand behind in the list.
use Rattle.std.proofs.Common.{◌≡◌, ℕ, zero, suc, List, [], ◌∷◌, inl, inr, refl, sym, ap, subst, arith}
use Rattle.std.proofs.lemmas.Option.{none-some}
use Rattle.std.specs.Prelude.{Option, Some, unwrap_or, slice_get}
use Rattle.pk_calls.specs.declared.listings.CallPath.{CallPath}
use Rattle.pk_lower.specs.Parts.{body_at}
use Rattle.pk_lower_laws.specs.Parts.Listed.{IsListed, IsBehind, NumbersTellBehind}
use Rattle.pk_lower_laws.proofs.Parts.Everywhere.{at_items}

pub some : {A : Type 0} {p q : A} → Some p ≡ Some q → p ≡ q
some {A = A} {p = p} e = ap (λ (o : Option A). unwrap_or o p) e

at_number : (ps : List CallPath) (j : ℕ) (q : CallPath) → slice_get ps j ≡ Some q → IsListed ps q.function
at_number [] j q e = none-some q e
at_number (p ∷ ps) zero q e = inl (ap (λ (x : CallPath). x.function) (sym (some e)))
at_number (p ∷ ps) (suc j) q e = inr (at_number ps j q e)

behind_first : (p : CallPath) (ps : List CallPath) (f : ℕ) → IsBehind (p ∷ ps) 0 f → IsListed ps f
behind_first p ps f (zero, q, l, e, is) = absurd (omega (l, arith))
behind_first p ps f (suc j, q, l, e, is) = subst (IsListed ps) (sym is) (at_number ps j q e)

behind_rest : (p : CallPath) (ps : List CallPath) (i f : ℕ) → IsBehind (p ∷ ps) (suc i) f → IsBehind ps i f
behind_rest p ps i f (zero, q, l, e, is) = absurd (omega (l, arith))
behind_rest p ps i f (suc j, q, l, e, is) = (j, q, omega (l, arith), e, is)

pub numbers_tell_behind : NumbersTellBehind
numbers_tell_behind u [] h = tt
numbers_tell_behind u (p ∷ ps) h =
    let first = h 0 p refl in (
      first.0,
      at_items (λ f n. IsBehind (p ∷ ps) 0 f) (λ f n. IsListed ps f) (λ f n b. behind_first p ps f b) (body_at u p.function).items first.1,
      numbers_tell_behind u ps (λ i q e. let r = h (suc i) q e in (r.0, at_items (λ f n. IsBehind (p ∷ ps) (suc i) f) (λ f n. IsBehind ps i f) (λ f n b. behind_rest p ps i f b) (body_at u q.function).items r.1)),
    )
