-- What digits write.
use Rattle.std.proofs.Common.{◌≡◌, ℕ, ◌+◌, ◌*◌, ◌<◌, ◌≤◌, List, [], ◌∷◌, ◌++◌, take, drop, length, get_or, fold, ap, subst, arith, take-append-drop}
use Rattle.std.proofs.lemmas.List.Sums.{fold-append, fold_more}
use Rattle.std.proofs.Math.Nat.{mul-le-mul_left}
use Rattle.pk_lex.specs.Bytes.{digit_value, value_in}

module _ (base : ℕ) (positive : 1 ≤ base) where
  -- more digits write no smaller number
  grows : (digits : List ℕ) (n : ℕ) → n ≤ fold (λ n b. n * base + digit_value b) n digits
  grows [] n = omega arith
  grows (b ∷ digits) n =
      let h = grows digits (n * base + digit_value b) in
      let m = mul-le-mul_left n positive in
      omega (arith, h, m)

  value_in-take : (digits : List ℕ) (i : ℕ) → value_in base (take i digits) ≤ value_in base digits
  value_in-take digits i =
      let e = fold-append (λ n b. n * base + digit_value b) 0 (take i digits) (drop i digits) in
      let s : value_in base (take i digits) ≤ fold (λ n b. n * base + digit_value b) 0 (take i digits ++ drop i digits) = rw e (grows (drop i digits) (value_in base (take i digits))) in
      subst (λ whole. value_in base (take i digits) ≤ value_in base whole) (take-append-drop i digits) s

  -- what some of the digits write with one more is too much already
  pub too_large : (digits : List ℕ) (i n limit : ℕ) → i < length digits → n ≡ value_in base (take i digits) → limit < n * base + digit_value (get_or digits i 0) →
      limit < value_in base digits
  too_large digits i n limit l e h =
      let m = fold_more (λ n b. n * base + digit_value b) 0 digits i 0 l in
      let f = ap (λ k. k * base) e in
      omega (arith, m, f, value_in-take digits (i + 1))
