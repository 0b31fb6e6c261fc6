-- First wrong bytes, from parts of a text to the whole.
use Rattle.std.specs.Prelude.{◌≡◌, ◌⊎◌, ◌≢◌, ℕ, suc, ◌+◌, ◌<◌, ◌≤◌, List, [], ◌∷◌, ◌++◌, length, take, drop, slice_index}
use Rattle.std.proofs.Common.{arith, refl, sym, ap, subst, ◌∙◌, inl, inr, append_assoc, take-append-drop, take-take}
use Rattle.std.proofs.lemmas.List.{append-nil, length-append, append_cancel_left}
use Rattle.std.proofs.Math.Seq.{take-suc, take-append-add, take-length}
use Rattle.std.proofs.lemmas.Bool.{cases_lt}
use Rattle.pk_cert.specs.Beginnings.{TextsOf, Begins, Leads, IsFirstWrong, IsStop, IsOneWrong}

-- what begins with more begins with less
shorter : (C : List ℕ → Type 0) (bytes : List ℕ) (m n : ℕ) → m ≤ n → Begins C (take n bytes) → Begins C (take m bytes)
shorter C bytes m n h b =
    let part : List ℕ = take n bytes in
    (drop m part ++ b.0, subst C (ap (λ (x : List ℕ). x ++ b.0) (sym (take-append-drop m part)) ∙ append_assoc (take m part) (drop m part) b.0 ∙ ap (λ (x : List ℕ). x ++ (drop m part ++ b.0)) (take-take m n bytes h)) b.1)

-- no first wrong byte stands before another
ordered : (C : List ℕ → Type 0) (bytes : List ℕ) (m n : ℕ) → IsFirstWrong C bytes m → IsFirstWrong C bytes n → m < n → ⊥
ordered C bytes m n x y h = x.wrong (omega (arith, h, y.there)) (shorter C bytes (suc m) n (omega (arith, h)) y.before)

pub one_wrong : (C : List ℕ → Type 0) (bytes : List ℕ) → IsOneWrong C bytes
one_wrong C bytes = record {
  one = λ m n x y. elim (cases_lt m n) [
    | inl l ↦ absurd (ordered C bytes m n x y l)
    | inr g ↦ elim (cases_lt n m) [ inl l ↦ absurd (ordered C bytes n m y x l) | inr k ↦ omega (arith, g, k) ]
  ];
  none = λ n x of. elim (cases_lt n (length bytes)) [
    | inl l ↦ x.wrong l (drop (suc n) bytes, subst C (sym (take-append-drop (suc n) bytes)) of)
    | inr g ↦ x.early (omega (arith, g, x.there)) of
  ];
}

same_first : (n : ℕ) (bytes rest : List ℕ) → n < length bytes → slice_index (take (suc n) bytes ++ rest) 0 ≡ slice_index bytes 0
same_first n [] rest h = absurd (omega (arith, h))
same_first n (b ∷ bytes) rest h = refl

-- a stop in the first part of the texts of C that have this first byte
pub stop_part_first : (T C : List ℕ → Type 0) (bytes : List ℕ) (n : ℕ) → ((x : List ℕ) → T x → Begins C x)
    → ((x : List ℕ) → slice_index x 0 ≡ slice_index bytes 0 → Leads C x → Leads T x) → IsStop T bytes n → IsStop C bytes n
stop_part_first T C bytes n on back s = record {
  there = s.there;
  before =
      let b = on (take n bytes ++ s.before.0) s.before.1 in
      (s.before.0 ++ b.0, subst C (append_assoc (take n bytes) s.before.0 b.0) b.1);
  wrong = λ h b. s.wrong h (b.0, back (take (suc n) bytes ++ b.0) (same_first n bytes b.0 h) b.1);
  early = λ e b. s.early e (back bytes refl b);
}

-- a stop in the first part of the texts of C
pub stop_part : (T C : List ℕ → Type 0) (bytes : List ℕ) (n : ℕ) → ((x : List ℕ) → T x → Begins C x) → ((x : List ℕ) → Leads C x → Leads T x)
    → IsStop T bytes n → IsStop C bytes n
stop_part T C bytes n on back = stop_part_first T C bytes n on (λ x _ b. back x b)

-- a stop behind a first part t
pub stop_behind : (T C : List ℕ → Type 0) (t rest : List ℕ) (n : ℕ) → ((x : List ℕ) → T x → C (t ++ x)) → ((x : List ℕ) → Leads C (t ++ x) → Leads T x)
    → IsStop T rest n → IsStop C (t ++ rest) (length t + n)
stop_behind T C t rest n on back s = record {
  there = omega (arith, s.there, length-append t rest);
  before = (s.before.0, subst C (sym (append_assoc t (take n rest) s.before.0) ∙ ap (λ (p : List ℕ). p ++ s.before.0) (sym (take-append-add t rest n))) (on (take n rest ++ s.before.0) s.before.1));
  wrong = λ h b. s.wrong (omega (arith, h, length-append t rest))
      (b.0, back (take (suc n) rest ++ b.0) (subst (Leads C) (ap (λ (p : List ℕ). p ++ b.0) (more ∙ take-append-add t rest (suc n)) ∙ append_assoc t (take (suc n) rest) b.0) b.1));
  early = λ e b. s.early (omega (arith, e, length-append t rest)) (back rest b);
}
  where
    more : take (suc (length t + n)) (t ++ rest) ≡ take (length t + suc n) (t ++ rest)
    more = let e : suc (length t + n) ≡ length t + suc n = omega arith in ap (λ (k : ℕ). take k (t ++ rest)) e

-- a stop of what stands first is the first wrong byte of what has it first
pub stop_leads : (C : List ℕ → Type 0) (bytes : List ℕ) (n : ℕ) → IsStop C bytes n → IsFirstWrong (Leads C) bytes n
stop_leads C bytes n s = record {
  there = s.there;
  before = (s.before.0, (take n bytes ++ s.before.0, [], s.before.1, sym (append-nil (take n bytes ++ s.before.0))));
  wrong = s.wrong;
  early = s.early;
}

-- and of what is it alone
pub stop_alone : (C : List ℕ → Type 0) (bytes : List ℕ) (n : ℕ) → IsStop C bytes n → IsFirstWrong C bytes n
stop_alone C bytes n s = record {
  there = s.there;
  before = s.before;
  wrong = λ h b. s.wrong h (b.0, (take (suc n) bytes ++ b.0, [], b.1, sym (append-nil (take (suc n) bytes ++ b.0))));
  early = λ e b. s.early e (bytes, [], b, sym (append-nil bytes));
}

-- a first wrong byte behind a first part t
pub wrong_behind : (T C : List ℕ → Type 0) (t rest : List ℕ) (n : ℕ) → ((x : List ℕ) → T x → C (t ++ x)) → ((x : List ℕ) → C (t ++ x) → T x)
    → IsFirstWrong T rest n → IsFirstWrong C (t ++ rest) (length t + n)
wrong_behind T C t rest n on back s = record {
  there = omega (arith, s.there, length-append t rest);
  before = (s.before.0, subst C (sym (append_assoc t (take n rest) s.before.0) ∙ ap (λ (p : List ℕ). p ++ s.before.0) (sym (take-append-add t rest n))) (on (take n rest ++ s.before.0) s.before.1));
  wrong = λ h b. s.wrong (omega (arith, h, length-append t rest))
      (b.0, back (take (suc n) rest ++ b.0) (subst C (ap (λ (p : List ℕ). p ++ b.0) (more ∙ take-append-add t rest (suc n)) ∙ append_assoc t (take (suc n) rest) b.0) b.1));
  early = λ e b. s.early (omega (arith, e, length-append t rest)) (back rest b);
}
  where
    more : take (suc (length t + n)) (t ++ rest) ≡ take (length t + suc n) (t ++ rest)
    more = let e : suc (length t + n) ≡ length t + suc n = omega arith in ap (λ (k : ℕ). take k (t ++ rest)) e

-- ---- words, and a byte behind them that stands in none

abbrev pub Lacks : ℕ → List ℕ → Type 0
Lacks c [] = Unit {0}
Lacks c (x ∷ xs) = (x ≢ c) × Lacks c xs

lacking : (c : ℕ) (xs ys : List ℕ) → Lacks c (xs ++ c ∷ ys) → ⊥
lacking c [] ys h = h.0 refl
lacking c (x ∷ xs) ys h = lacking c xs ys h.1

-- one of two texts is a part of the other, up to the byte
split : (p u s r : List ℕ) (c : ℕ) → p ++ s ≡ u ++ c ∷ r → ((v : List ℕ) × (u ≡ p ++ v)) ⊎ ((q : List ℕ) × (p ≡ u ++ c ∷ q))
split [] u s r c e = inl (u, refl)
split (x ∷ p) [] s r c e = let h : x ≡ c = cc in inr (p, cc)
split (x ∷ p) (y ∷ u) s r c e =
    let h : x ≡ y = cc in
    elim (split p u s r c cc) [
      | inl v ↦ let t : u ≡ p ++ v.0 = v.1 in inl (v.0, cc)
      | inr q ↦ let t : p ≡ u ++ c ∷ q.0 = q.1 in inr (q.0, cc)
    ]

module _ {A : Type 0} (P : A → Type 0) (text : A → List ℕ) (end : ℕ) (lacks : (a : A) → P a → Lacks end (text a)) where
  -- no word that begins so has the byte in it
  within : (a b : A) (q r s : List ℕ) → P b → q ++ s ≡ text b → q ≡ text a ++ end ∷ r → ⊥
  within a b q r s h e f = lacking end (text a) (r ++ s) (subst (Lacks end) (sym e ∙ ap (λ (x : List ℕ). x ++ s) f ∙ append_assoc (text a) (end ∷ r) s) (lacks b h))

  same_end : (a : A) (x : ℕ) (q v r s : List ℕ) → text a ≡ q ++ v → q ++ x ∷ s ≡ text a ++ end ∷ r → ((text a ≡ q) × (x ≡ end)) ⊎ ((w : List ℕ) × (text a ≡ q ++ x ∷ w))
  same_end a x q [] r s t e =
      let all : q ++ x ∷ s ≡ q ++ end ∷ r = e ∙ ap (λ (y : List ℕ). y ++ end ∷ r) (t ∙ append-nil q) in
      let rest : x ∷ s ≡ end ∷ r = append_cancel_left q (x ∷ s) (end ∷ r) all in
      inl (t ∙ append-nil q, cc)
  same_end a x q (y ∷ v) r s t e =
      let all : q ++ x ∷ s ≡ q ++ (y ∷ v ++ end ∷ r) = e ∙ ap (λ (z : List ℕ). z ++ end ∷ r) t ∙ append_assoc q (y ∷ v) (end ∷ r) in
      let rest : x ∷ s ≡ y ∷ v ++ end ∷ r = append_cancel_left q (x ∷ s) (y ∷ v ++ end ∷ r) all in
      let h : y ≡ x = cc in
      inr (v, t ∙ ap (λ (z : ℕ). q ++ z ∷ v) h)

  pub word_stop : (bytes : List ℕ) (k : ℕ) → k ≤ length bytes → Begins (TextsOf P text) (take k bytes)
      → (k < length bytes → Begins (TextsOf P text) (take k bytes ++ slice_index bytes k ∷ []) → ⊥)
      → (k < length bytes → TextsOf P text (take k bytes) → slice_index bytes k ≡ end → ⊥)
      → IsStop (TextsOf P (λ (a : A). text a ++ end ∷ [])) bytes k
  word_stop bytes k there before next ended = record {
    there = there;
    before = (before.0 ++ end ∷ [], (before.1.0, before.1.1, sym (append_assoc (take k bytes) before.0 (end ∷ [])) ∙ ap (λ (x : List ℕ). x ++ end ∷ []) before.1.2));
    wrong = wrong;
    early = early;
  }
    where
      wrong : k < length bytes → Begins (Leads (TextsOf P (λ (a : A). text a ++ end ∷ []))) (take (suc k) bytes) → ⊥
      wrong h b =
          let s : List ℕ = b.0 in
          let r : List ℕ = b.1.1 in
          let a : A = b.1.2.0 in
          let x : ℕ = slice_index bytes k in
          let q : List ℕ = take k bytes in
          let e : q ++ x ∷ s ≡ text a ++ end ∷ r =
          sym (append_assoc q (x ∷ []) s) ∙ ap (λ (y : List ℕ). y ++ s) (sym (take-suc bytes k 0 h)) ∙ b.1.3 ∙ ap (λ (y : List ℕ). y ++ r) b.1.2.2 ∙ append_assoc (text a) (end ∷ []) r in
          elim (split q (text a) (x ∷ s) r end e) [
            | inl v ↦ elim (same_end a x q v.0 r s v.1 e) [
              | inl same ↦ ended h (a, b.1.2.1, sym same.0) same.1
              | inr more ↦ next h (more.0, (a, b.1.2.1, append_assoc q (x ∷ []) more.0 ∙ sym more.1))
            ]
            | inr t ↦ within a before.1.0 q t.0 before.0 before.1.1 before.1.2 t.1
          ]

      early : k ≡ length bytes → Leads (TextsOf P (λ (a : A). text a ++ end ∷ [])) bytes → ⊥
      early e b =
          let a : A = b.2.0 in
          within a before.1.0 (take k bytes) b.1 before.0 before.1.1 before.1.2
          (ap (λ (j : ℕ). take j bytes) e ∙ take-length bytes ∙ b.3 ∙ ap (λ (y : List ℕ). y ++ b.1) b.2.2 ∙ append_assoc (text a) (end ∷ []) b.1)
