-- Lists of the elements, one after another: where each one's items stand.
use Rattle.std.proofs.Common.{◌≡◌, ℕ, zero, suc, ◌+◌, ◌<◌, ◌≤◌, List, [], ◌∷◌, ◌++◌, length, get_or, refl, sym, ap, ◌∙◌, arith, inl, inr, ◌⊎◌, All, add-one, length-append}
use Rattle.std.proofs.lemmas.List.{get_or-append-add, get_or_append_left}
use Rattle.std.proofs.lemmas.Bool.{cases_lt}
use Rattle.std.proofs.lemmas.List.Elements.{All-append, All-nil}
use Rattle.pk_layout.specs.Gathered.{gathered, AreStarts}

pub gathered_more : (lists : ℕ → List ℕ) (n : ℕ) → gathered lists (n + 1) ≡ gathered lists n ++ lists n
gathered_more lists n = ap (gathered lists) (add-one n)

pub length_more : (lists : ℕ → List ℕ) (n : ℕ) → length (gathered lists (n + 1)) ≡ length (gathered lists n) + length (lists n)
length_more lists n = ap length (gathered_more lists n) ∙ length-append (gathered lists n) (lists n)

pub no_longer : (lists : ℕ → List ℕ) (m n : ℕ) → m ≤ n → length (gathered lists m) ≤ length (gathered lists n)
no_longer lists m zero h = let e : m ≡ 0 = omega (arith, h) in rw e (omega arith)
no_longer lists m (suc n) h = elim (cases_lt m (suc n)) [
  | inl below ↦ omega (arith, no_longer lists m n (omega (arith, below)), length-append (gathered lists n) (lists n))
  | inr above ↦ (let e : m ≡ suc n = omega (arith, h, above) in rw e (omega arith))
]

-- the i-th item of e's list stands so far behind where e's begin
pub stands_at : (lists : ℕ → List ℕ) (n e i d : ℕ) → e < n → i < length (lists e) → get_or (gathered lists n) (length (gathered lists e) + i) d ≡ get_or (lists e) i d
stands_at lists zero e i d h g = absurd (omega (arith, h))
stands_at lists (suc n) e i d h g = elim (cases_lt e n) [
  | inl below ↦ (
      let more = no_longer lists (e + 1) n (omega (arith, below)) in
      get_or_append_left (gathered lists n) (lists n) d (length (gathered lists e) + i) (omega (arith, more, length_more lists e, g)) ∙ stands_at lists n e i d below g)
  | inr above ↦ (
      let same : e ≡ n = omega (arith, h, above) in
      ap (λ (k : ℕ). get_or (gathered lists n ++ lists n) (length (gathered lists k) + i) d) same ∙ get_or-append-add (gathered lists n) (lists n) i d ∙ ap (λ (k : ℕ). get_or (lists k) i d) (sym same))
]

-- each place lies in the list of some element
pub lies_in : (lists : ℕ → List ℕ) (n k : ℕ) → k < length (gathered lists n) → (e : ℕ) × (e < n) × (length (gathered lists e) ≤ k) × (k < length (gathered lists (e + 1)))
lies_in lists zero k h = absurd (omega (arith, h))
lies_in lists (suc n) k h = elim (cases_lt k (length (gathered lists n))) [
  | inl below ↦ (let it = lies_in lists n k below in (it.0, omega (arith, it.1), it.2, it.3))
  | inr above ↦ (n, omega arith, above, omega (arith, h, length_more lists n, length-append (gathered lists n) (lists n)))
]

pub gathered_all : (P : ℕ → Type 0) (lists : ℕ → List ℕ) (n : ℕ) → ((e : ℕ) → e < n → All P (lists e)) → All P (gathered lists n)
gathered_all P lists zero h = All-nil P
gathered_all P lists (suc n) h = All-append P (gathered lists n) (lists n) (gathered_all P lists n (λ e below. h e (omega (arith, below)))) (h n (omega arith))

-- one start more
pub starts_more : (lists : ℕ → List ℕ) (n : ℕ) (from : List ℕ) (m : ℕ) → AreStarts lists n from → m ≡ length (gathered lists (n + 1)) → AreStarts lists (n + 1) (from ++ m ∷ [])
starts_more lists n from m h is = record {
  long = length-append from (m ∷ []) ∙ omega (arith, h.long);
  each = λ e within. by_case e (cases_lt e (n + 1)) within;
}
  where
    by_case : (e : ℕ) → (e < n + 1) ⊎ (n + 1 ≤ e) → e ≤ n + 1 → get_or (from ++ m ∷ []) e 0 ≡ length (gathered lists e)
    by_case e (inl below) within = get_or_append_left from (m ∷ []) 0 e (omega (arith, below, h.long)) ∙ h.each e (omega (arith, below))
    by_case e (inr above) within =
        let at : e ≡ length from + 0 = omega (arith, above, within, h.long) in
        let same : n + 1 ≡ e = omega (arith, above, within) in
        ap (λ (k : ℕ). get_or (from ++ m ∷ []) k 0) at ∙ get_or-append-add from (m ∷ []) 0 0 ∙ is ∙ ap (λ (k : ℕ). length (gathered lists k)) same

pub starts_none : (lists : ℕ → List ℕ) → AreStarts lists 0 (0 ∷ [])
starts_none lists = record {
  long = refl;
  each = λ e within. let none : e ≡ 0 = omega (arith, within) in rw none refl;
}
