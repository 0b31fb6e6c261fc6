-- Punctuators are short, and have no byte of another word.
use Rattle.std.proofs.Common.{◌≡◌, ℕ, ◌<◌, ◌≤◌, ◌==◌, Bool, true, false, cond, not, ◌&&◌, ◌||◌, is_some, Some, List, [], ◌∷◌, ◌++◌, length, take, refl, sym, subst, arith, inl, inr, length-take}
use Rattle.std.specs.Prelude.{nat_le}
use Rattle.std.specs.List.{list_all}
use Rattle.std.specs.Cmp.Lexicographic.{same_text}
use Rattle.std.proofs.lemmas.Bool.{and_parts, cases_lt, leb-true}
use Rattle.pk_lex.specs.Bytes.{is_part, is_white, same}
use Rattle.pk_ctypes.specs.Spellings.{lookup}
use Rattle.pk_lex.specs.Tables.{punctuators_of_one, punctuators_of_two, punctuators_of_three, punctuator_of}
use Rattle.pk_lex.specs.Words.{IsLongest, BeginsNone}

-- what holds of each spelling holds of what is looked up
module _ (A : Type 0) (p : List ℕ → Bool) where
  pub looked_up : (table : List (List ℕ × A)) (word : List ℕ) → list_all (λ row. p row.0) table ≡ true → is_some (lookup table word) ≡ true → p word ≡ true
  looked_up [] word h s = cc
  looked_up (row ∷ rows) word h s =
      let e = and_parts (p row.0) (list_all (λ r. p r.0) rows) h in
      by_test (same row.0 word) refl e.0 s (looked_up rows word e.1)
    where
      by_test : (t : Bool) → same row.0 word ≡ t → p row.0 ≡ true → is_some (cond t (Some row.1) (lookup rows word)) ≡ true → (is_some (lookup rows word) ≡ true → p word ≡ true) → p word ≡ true
      by_test true f g s more = subst (λ w. p w ≡ true) (same_text row.0 word (sym f)) g
      by_test false f g s more = more s

abbrev pub is_other_byte : ℕ → Bool
is_other_byte b = is_part b || (b == 39 || (b == 34 || (b == 35 || is_white b)))

abbrev pub is_sign_byte : ℕ → Bool
is_sign_byte b = not (is_other_byte b)

abbrev pub is_sign : List ℕ → Bool
is_sign word = list_all is_sign_byte word && (nat_le 1 (length word) && nat_le (length word) 3)

pub punctuator_is_sign : (word : List ℕ) → is_some (punctuator_of word) ≡ true → is_sign word ≡ true
unfolding punctuator_of
punctuator_is_sign word h = looked_up _ is_sign (punctuators_of_one ++ punctuators_of_two ++ punctuators_of_three) word refl h

bounds : (word : List ℕ) → is_some (punctuator_of word) ≡ true → (1 ≤ length word) × (length word ≤ 3)
bounds word h =
    let s = and_parts (list_all is_sign_byte word) (nat_le 1 (length word) && nat_le (length word) 3) (punctuator_is_sign word h) in
    let l = and_parts (nat_le 1 (length word)) (nat_le (length word) 3) s.1 in
    (leb-true 1 (length word) l.0, leb-true (length word) 3 l.1)

pub punctuator_bounds : (text : List ℕ) (m : ℕ) → m ≤ length text → is_some (punctuator_of (take m text)) ≡ true → (1 ≤ m) × (m ≤ 3)
punctuator_bounds text m le h =
    let b = bounds (take m text) h in
    let e = length-take m text in
    (omega (arith, b.0, e), omega (arith, b.1, e))

abbrev Is : List ℕ → ℕ → Type 0
Is text n = (n ≤ length text) × (is_some (punctuator_of (take n text)) ≡ true)

-- the most of those that were asked for from three down
pub longest_punctuator : (text : List ℕ) (n : ℕ) → Is text n → ((m : ℕ) → n < m → m ≤ 3 → Is text m → ⊥) →
    IsLongest (λ w. is_some (punctuator_of w)) text n
longest_punctuator text n is none = record {
  fits = is.0;
  is = is.1;
  most = λ m le h. elim (cases_lt n m) [ inr k ↦ k | inl k ↦ absurd (none m k (punctuator_bounds text m le h).1 (le, h)) ];
}

pub no_three : (text : List ℕ) → (Is text 3 → ⊥) → (m : ℕ) → 2 < m → m ≤ 3 → Is text m → ⊥
no_three text none m lt le is = none (subst (Is text) (let e : m ≡ 3 = omega (arith, lt, le) in e) is)

pub no_two : (text : List ℕ) → (Is text 3 → ⊥) → (Is text 2 → ⊥) → (m : ℕ) → 1 < m → m ≤ 3 → Is text m → ⊥
no_two text none other m lt le is =
    elim (cases_lt 2 m) [ inl k ↦ no_three text none m k le is | inr k ↦ other (subst (Is text) (let e : m ≡ 2 = omega (arith, lt, k) in e) is) ]

pub no_punctuator : (text : List ℕ) → (Is text 3 → ⊥) → (Is text 2 → ⊥) → (Is text 1 → ⊥) → BeginsNone (λ w. is_some (punctuator_of w)) text
no_punctuator text three two one m le h =
    let b = punctuator_bounds text m le h in
    elim (cases_lt 1 m) [ inl k ↦ no_two text three two m k b.1 (le, h) | inr k ↦ one (subst (Is text) (let e : m ≡ 1 = omega (arith, b.0, k) in e) (le, h)) ]
