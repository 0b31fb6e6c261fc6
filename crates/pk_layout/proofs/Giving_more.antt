-- Each read has its slot, where its reader is written.
use Rattle.std.proofs.Common.{◌≡◌, ◌≢◌, ℕ, zero, suc, ◌+◌, ◌<◌, ◌≤◌, ◌⊎◌, List, [], ◌∷◌, ◌++◌, length, get_or, refl, sym, ap, subst, ◌∙◌, arith, inl, inr, add-one, length-append, get_or-set_other, get_or-set_same}
use lib.ListN.{set}
use Rattle.std.proofs.lemmas.Bool.{cases_lt}
use Rattle.std.proofs.lemmas.List.{get_or_append_left, get_or-append-add, length-set}
use Rattle.pk_layout.specs.Gathered.{slot_of_read, AreGiven, written}
use Rattle.pk_layout.proofs.Counting.{same_or_not}

pub given_none : (first targets : List ℕ) → AreGiven first targets 0 []
given_none first targets = record {
  long = refl;
  each = λ j h. absurd (omega (arith, h));
}

pub given_more : (first targets : List ℕ) (n slot : ℕ) (slots : List ℕ) → slot ≡ slot_of_read first targets n → AreGiven first targets n slots → AreGiven first targets (n + 1) (slots ++ slot ∷ [])
given_more first targets n slot slots is given = record {
  long = length-append slots (slot ∷ []) ∙ omega (arith, given.long);
  each = λ j h. elim (cases_lt j n) [
    | inl before ↦ get_or_append_left slots (slot ∷ []) 0 j (omega (arith, before, given.long)) ∙ given.each j before
    | inr above ↦ (
        let last : j ≡ n = omega (arith, above, h) in
        let at : j ≡ length slots + 0 = omega (arith, last, given.long) in
        ap (λ (k : ℕ). get_or (slots ++ slot ∷ []) k 0) at ∙ get_or-append-add slots (slot ∷ []) 0 0 ∙ is ∙ ap (slot_of_read first targets) (sym last))
  ];
}

-- the slots of the reads are among these, and no two are the same
pub record HaveSlots (first targets : List ℕ) (slots : ℕ) : Type 0 where
  pub within : (j : ℕ) → j < length targets → slot_of_read first targets j < slots
  pub apart : (i j : ℕ) → i < j → j < length targets → slot_of_read first targets i ≢ slot_of_read first targets j

-- who reads a slot: of the first n reads' slots their readers, of all others whoever did
pub record AreWritten (first targets sources old : List ℕ) (n : ℕ) (now : List ℕ) : Type 0 where
  pub as_many : length now ≡ length old
  pub here : (j : ℕ) → j < n → get_or now (slot_of_read first targets j) 0 ≡ get_or sources j 0
  pub changed : (k : ℕ) → (get_or now k 0 ≡ get_or old k 0) ⊎ ((j : ℕ) × (j < n) × (slot_of_read first targets j ≡ k) × (get_or now k 0 ≡ get_or sources j 0))

written_more : (first targets sources old : List ℕ) (n slot : ℕ) (now : List ℕ) → HaveSlots first targets (length old) → n < length targets → slot ≡ slot_of_read first targets n
    → AreWritten first targets sources old n now → AreWritten first targets sources old (n + 1) (set now slot (get_or sources n 0))
written_more first targets sources old n slot now have below is w = record {
  as_many = length-set now slot (get_or sources n 0) ∙ w.as_many;
  here = λ j h. elim (cases_lt j n) [
    | inl before ↦ (
        let other : slot_of_read first targets j ≢ slot = λ e. have.apart j n before below (e ∙ is) in
        get_or-set_other now slot (slot_of_read first targets j) (get_or sources n 0) 0 other ∙ w.here j before)
    | inr above ↦ (
        let last : n ≡ j = omega (arith, above, h) in
        let at : slot_of_read first targets j ≡ slot = ap (slot_of_read first targets) (sym last) ∙ sym is in
        ap (λ (k : ℕ). get_or (set now slot (get_or sources n 0)) k 0) at ∙ get_or-set_same now slot (get_or sources n 0) 0 fits ∙ ap (λ (k : ℕ). get_or sources k 0) last)
  ];
  changed = λ k. elim (same_or_not k slot) [
    | inl same ↦ inr (n, omega arith, sym is ∙ sym same, ap (λ (j : ℕ). get_or (set now slot (get_or sources n 0)) j 0) same ∙ get_or-set_same now slot (get_or sources n 0) 0 fits)
    | inr other ↦ (
        let kept = get_or-set_other now slot k (get_or sources n 0) 0 other in
        elim (w.changed k) [
          | inl was ↦ inl (kept ∙ was)
          | inr it ↦ inr (it.0, omega (arith, it.1), it.2, kept ∙ it.3)
        ])
  ];
}
  where
    fits : slot < length now
    fits = omega (arith, is, w.as_many, have.within n below)

pub are_written : (first targets sources old slots : List ℕ) → HaveSlots first targets (length old) → AreGiven first targets (length targets) slots → (n : ℕ) → n ≤ length targets → AreWritten first targets sources old n (written old slots sources n)
are_written first targets sources old slots have given zero h = record {
  as_many = refl;
  here = λ j below. absurd (omega (arith, below));
  changed = λ k. inl refl;
}
are_written first targets sources old slots have given (suc n) h =
    let below : n < length targets = omega (arith, h) in
    subst (λ (k : ℕ). AreWritten first targets sources old k (set (written old slots sources n) (get_or slots n 0) (get_or sources n 0))) (add-one n)
    (written_more first targets sources old n (get_or slots n 0) (written old slots sources n) have below (given.each n below) (are_written first targets sources old slots have given n (omega (arith, h))))
