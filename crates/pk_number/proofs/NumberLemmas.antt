-- Places of points, from the last to the first.
use Rattle.std.proofs.Common.{◌≡◌, ◌≢◌, ◌<◌, ◌≤◌, ◌+◌, ◌-◌, ℕ, zero, suc, ap, ◌∙◌, sym, subst, nat_eq, Bool, true, false, ◌||◌, if◌then◌else◌, ◌⊎◌, inl, inr, List, [], ◌∷◌, length, drop, slice_index_or, slice_set, arith, length-set}
use Rattle.std.proofs.lemmas.Bool.Decides.{eqb_tells}
use Rattle.std.proofs.lemmas.List.{drop_more, drop_all, get_or-set_same, get_or-set_other}
use Rattle.pk_number.specs.Preorders.{is_among, place_among}
use Rattle.pk_number.specs.Rows.{AreBelow, AreNumbers}
use Rattle.pk_number.proofs.AmongLemmas.{among_here, among_there}

pub record AreNumbersFrom (n : ℕ) (order : List ℕ) (j : ℕ) (numbers : List ℕ) : Type 0 where
  pub size : length numbers ≡ n
  pub each : (p : ℕ) → is_among p (drop j order) ≡ true → slice_index_or numbers p 0 ≡ j + place_among (drop j order) p

pub numbers_begin : (n : ℕ) (order numbers : List ℕ) → length numbers ≡ n → AreNumbersFrom n order (length order - 0) numbers
numbers_begin n order numbers h = record { size = h; each = λ p e. absurd (none p (sym (ap (is_among p) (drop_all (length order - 0) order (omega arith))) ∙ e)) }
  where
    none : (p : ℕ) → is_among p [] ≡ true → ⊥
    none p e = cc e

among_drop : (order : List ℕ) (j p : ℕ) → is_among p (drop j order) ≡ true → is_among p order ≡ true
among_drop order zero p h = h
among_drop [] (suc j) p h = h
among_drop (x ∷ order) (suc j) p h = among_there p x order (among_drop order j p h)

pub numbers_next : (n : ℕ) (order : List ℕ) (j : ℕ) (numbers : List ℕ) → j < length order → AreBelow n order → AreNumbersFrom n order (j + 1) numbers
    → AreNumbersFrom n order j (slice_set numbers (slice_index_or order j 0) j)
numbers_next n order j numbers h b f = record {
  size = length-set numbers x j ∙ f.size;
  each = λ p e.
      subst (λ (xs : List ℕ). slice_index_or (slice_set numbers x j) p 0 ≡ j + place_among xs p) (sym more)
      (told p (subst (λ (xs : List ℕ). is_among p xs ≡ true) more e) (eqb_tells p x));
}
  where
    x : ℕ
    x = slice_index_or order j 0

    rest : List ℕ
    rest = drop (j + 1) order

    more : drop j order ≡ x ∷ rest
    more = drop_more order j 0 h

    below : x < n
    below = b x (among_drop order j x (ap (is_among x) more ∙ among_here x rest))

    told : (p : ℕ) → is_among p (x ∷ rest) ≡ true → ((nat_eq p x ≡ true) × (p ≡ x)) ⊎ ((nat_eq p x ≡ false) × (p ≢ x)) → slice_index_or (slice_set numbers x j) p 0 ≡ j + place_among (x ∷ rest) p
    told p e (inl g) =
        ap (λ (k : ℕ). slice_index_or (slice_set numbers x j) k 0) g.1
        ∙ get_or-set_same numbers x j 0 (subst (λ (m : ℕ). x < m) (sym f.size) below)
        ∙ zero_more
        ∙ ap (λ (t : Bool). j + (if t then 0 else suc (place_among rest p))) (sym g.0)
      where
        zero_more : j ≡ j + 0
        zero_more = omega arith
    told p e (inr g) =
        get_or-set_other numbers x p j 0 g.1
        ∙ f.each p (ap (λ (t : Bool). t || is_among p rest) (sym g.0) ∙ e)
        ∙ one_more (place_among rest p)
        ∙ ap (λ (t : Bool). j + (if t then 0 else suc (place_among rest p))) (sym g.0)
      where
        one_more : (k : ℕ) → j + 1 + k ≡ j + suc k
        one_more k = omega arith

pub numbers_turn : (n : ℕ) (order : List ℕ) (past : ℕ) (numbers : List ℕ) → past < length order → AreBelow n order → AreNumbersFrom n order (length order - past) numbers
    → AreNumbersFrom n order (length order - (past + 1)) (slice_set numbers (slice_index_or order (length order - 1 - past) 0) (length order - 1 - past))
numbers_turn n order past numbers h b f =
    let at : length order - 1 - past ≡ length order - (past + 1) = omega arith in
    let more : length order - past ≡ length order - 1 - past + 1 = omega (arith, h) in
    subst (λ (j : ℕ). AreNumbersFrom n order j (slice_set numbers (slice_index_or order (length order - 1 - past) 0) (length order - 1 - past))) at
    (numbers_next n order (length order - 1 - past) numbers (omega (arith, h)) b (subst (λ (j : ℕ). AreNumbersFrom n order j numbers) more f))

pub numbers_end : (n : ℕ) (order numbers : List ℕ) (past : ℕ) → length order ≤ past → AreNumbersFrom n order (length order - past) numbers → AreNumbers n order numbers
numbers_end n order numbers past h g = record { size = f.size; each = λ p e. f.each p e ∙ none (place_among order p) }
  where
    f : AreNumbersFrom n order 0 numbers
    f = let over : length order - past ≡ 0 = omega (arith, h) in subst (λ (j : ℕ). AreNumbersFrom n order j numbers) over g

    none : (k : ℕ) → 0 + k ≡ k
    none k = omega arith
