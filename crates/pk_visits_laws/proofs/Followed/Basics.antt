-- Small lemmas that several files use.
use Rattle.std.proofs.Common.{◌≡◌, ℕ, zero, suc, ◌<◌, ◌≤◌, ◌⊎◌, inl, inr, List, [], ◌∷◌, length, Option, Some, true, nat_eq, refl, ap, subst, arith}
use Rattle.std.proofs.lemmas.Bool.Decides.{eqb_tells}
use Rattle.std.proofs.lemmas.Option.{none-some}
use Rattle.std.specs.Prelude.{All, slice_get, unwrap_or}

pub either_is : {A B : Type 0} → A ⊎ B → (A → ⊥) → B
either_is (inl x) n = absurd (n x)
either_is (inr y) n = y

pub number_is : (m n : ℕ) → nat_eq m n ≡ true → m ≡ n
number_is m n h = elim (eqb_tells m n) [ inl e ↦ e.1 | inr e ↦ absurd (cc (e.0, h)) ]

pub split : (i l : ℕ) → (i < l) ⊎ (l ≤ i)
split i l = grind arith

pub some_at : {A : Type 0} (xs : List A) (k : ℕ) → k < length xs → (x : A) × (slice_get xs k ≡ Some x)
some_at [] k h = absurd (omega (h, arith))
some_at (x ∷ xs) zero h = (x, refl)
some_at (x ∷ xs) (suc k) h = some_at xs k (omega (h, arith))

head_is : {A : Type 0} (y x : A) → Some y ≡ Some x → y ≡ x
head_is {A = A} y x e = ap (λ (o : Option A). unwrap_or o x) e

pub all_get : {A : Type 0} (P : A → Type 0) (xs : List A) (i : ℕ) (x : A) → All P xs → slice_get xs i ≡ Some x → P x
all_get P [] i x h e = absurd (none-some x e)
all_get P (y ∷ xs) zero x h e = subst P (head_is y x e) (h 0 y (omega arith))
all_get P (y ∷ xs) (suc i) x h e = all_get P xs i x (λ k d l. h (suc k) d (omega (l, arith))) e
