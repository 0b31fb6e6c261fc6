-- The longest front of which each beginning passes a test.
use Rattle.std.proofs.Common.{◌≡◌, ◌⊎◌, inl, inr, ⊎_elim, ℕ, suc, ◌≤◌, ◌<◌, List, [], ◌∷◌, ◌++◌, length, take, drop, refl, sym, ap, ◌∙◌, Bool, true, false, cond, arith, append_assoc, length-append, take-append-drop}
use Rattle.std.proofs.Math.Seq.{length-take-le}
use Rattle.std.proofs.lemmas.Bool.{cases_lt}
use Rattle.std.proofs.lemmas.List.{append-nil}
use Rattle.pk_wrong_byte.specs.Pieces.{passing}
use Rattle.pk_wrong_byte_laws.proofs.Alike.{Apart, longer_of}

-- that many bytes pass, if any, and one more doesn't
pub record Passes (test : List ℕ → Bool) (front rest : List ℕ) (n : ℕ) : Type 0 where
  pub within : n ≤ length rest
  pub pass : (n ≡ 0) ⊎ (test (front ++ take n rest) ≡ true)
  pub stop : n < length rest → test (front ++ take (suc n) rest) ≡ false

pub passes : (test : List ℕ → Bool) (front rest : List ℕ) → Passes test front rest (passing test front rest)
passes test front [] = record { within = omega arith; pass = inl refl; stop = λ h. absurd (omega (arith, h)) }
passes test front (b ∷ rest) = by_test (test (front ++ b ∷ [])) refl (passes test (front ++ b ∷ []) rest)
  where
    n : ℕ
    n = passing test (front ++ b ∷ []) rest

    moved : (m : ℕ) → (front ++ b ∷ []) ++ take m rest ≡ front ++ b ∷ take m rest
    moved m = append_assoc front (b ∷ []) (take m rest)

    one : test (front ++ b ∷ []) ≡ true → (m : ℕ) → m ≡ 0 → test (front ++ b ∷ take m rest) ≡ true
    one e m none = rw none e

    by_test : (t : Bool) → t ≡ test (front ++ b ∷ []) → Passes test (front ++ b ∷ []) rest (passing test (front ++ b ∷ []) rest) →
        Passes test front (b ∷ rest) (cond t (suc (passing test (front ++ b ∷ []) rest)) 0)
    by_test true e p = record {
      within = omega (arith, p.within);
      pass = inr (⊎_elim (one (sym e) (passing test (front ++ b ∷ []) rest)) (λ h. ap test (sym (moved (passing test (front ++ b ∷ []) rest))) ∙ h) p.pass);
      stop = λ h. ap test (sym (moved (suc (passing test (front ++ b ∷ []) rest)))) ∙ p.stop (omega (arith, h));
    }
    by_test false e p = record { within = omega arith; pass = inl refl; stop = λ h. sym e }

-- What is told of numbers: each beginning of one passes, and behind the first byte of what passes stand bytes of a kind.
pub record Passing (P : List ℕ → Type 0) (digit : ℕ → Bool) (test : List ℕ → Bool) : Type 0 where
  pub some : (u : List ℕ) → P u → 0 < length u
  pub begun : (u v w : List ℕ) → P u → v ++ w ≡ u → 0 < length v → test v ≡ true
  pub digits : (v w : List ℕ) (b : ℕ) → test (v ++ b ∷ w) ≡ true → 0 < length v → digit b ≡ true

pub furthest : (P : List ℕ → Type 0) (digit : ℕ → Bool) (test : List ℕ → Bool) → Passing P digit test →
    (text u w x y same : List ℕ) → P u → Apart digit w → u ++ w ≡ same ++ x → text ≡ same ++ y →
    (length same ≤ passing test [] text) ⊎ (u ≡ take (passing test [] text) text)
furthest P digit test p text u w x y same h apart e f = by_length (cases_lt n (length same))
  where
    n : ℕ
    n = passing test [] text

    ps : Passes test [] text n
    ps = passes test [] text

    size : (m : ℕ) → m ≤ length text → length (take m text) ≡ m
    size m k = length-take-le m text k

    first_apart : (w : List ℕ) (b : ℕ) (more : List ℕ) → Apart digit w → w ≡ b ∷ more → digit b ≡ false
    first_apart [] b more apart e = absurd (cc e)
    first_apart (c ∷ w) b more apart e = let equal : b ≡ c = cc e in ap digit equal ∙ apart

    by_more : (b : ℕ) (z back : List ℕ) → digit b ≡ false → length u ≤ n → (more : List ℕ) → take n text ≡ u ++ more → b ∷ z ≡ more ++ back →
        u ≡ take n text
    by_more b z back other within [] is at = sym (is ∙ append-nil u)
    by_more b z back other within (c ∷ more) is at =
        let equal : b ≡ c = cc at in
        let passed : test (take n text) ≡ true = ⊎_elim (λ (none : n ≡ 0). absurd (omega (arith, none, within, p.some u h))) (λ t. t) ps.pass in
        let yes : digit c ≡ true = p.digits u more c (ap test (sym is) ∙ passed) (p.some u h) in
        let both : false ≡ true = sym other ∙ ap digit equal ∙ yes in
        absurd (cc both)

    by_rest : n < length same → (s : List ℕ) → same ≡ u ++ s → w ≡ s ++ x → length u ≤ n → u ≡ take n text
    by_rest less [] is rest within = absurd (omega (arith, less, within, ap length (is ∙ append-nil u)))
    by_rest less (b ∷ s) is rest within =
        let here : (u ++ b ∷ s) ++ y ≡ take n text ++ drop n text = ap (λ (l : List ℕ). l ++ y) (sym is) ∙ sym f ∙ sym (take-append-drop n text) in
        let l = longer_of u (b ∷ (s ++ y)) (take n text) (drop n text) (sym (append_assoc u (b ∷ s) y) ∙ here) (omega (arith, within, size n ps.within)) in
        by_more b (s ++ y) (drop n text) (first_apart w b (s ++ x) apart rest) within l.more l.longer l.rest

    by_length : (n < length same) ⊎ (length same ≤ n) → (length same ≤ n) ⊎ (u ≡ take n text)
    by_length (inr k) = inl k
    by_length (inl k) = inr (by_end (cases_lt n (length u)))
      where
        by_end : (n < length u) ⊎ (length u ≤ n) → u ≡ take n text
        by_end (inl more) =
            let whole : length (take (suc n) text) ≡ suc n = size (suc n) (omega (arith, k, ap length f, length-append same y)) in
            let l = longer_of (take (suc n) text) (drop (suc n) text) same y (take-append-drop (suc n) text ∙ f) (omega (arith, whole, k)) in
            let front = longer_of (take (suc n) text) (l.more ++ x) u w (sym (append_assoc (take (suc n) text) l.more x) ∙ ap (λ (m : List ℕ). m ++ x) (sym l.longer) ∙ sym e) (omega (arith, whole, more)) in
            let yes : test (take (suc n) text) ≡ true = p.begun u (take (suc n) text) front.more h (sym front.longer) (omega (arith, whole)) in
            let no : test (take (suc n) text) ≡ false = ps.stop (omega (arith, k, ap length f, length-append same y)) in
            let both : true ≡ false = sym yes ∙ no in
            absurd (cc both)
        by_end (inr within) = let l = longer_of u w same x e (omega (arith, k, within)) in by_rest k l.more l.longer l.rest within
