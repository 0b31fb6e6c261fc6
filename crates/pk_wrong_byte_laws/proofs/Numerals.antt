-- The beginnings of a decimal number.
use Rattle.std.proofs.Common.{◌≡◌, ◌⊎◌, inl, inr, ℕ, zero, suc, subst, ◌+◌, ◌/◌, ◌%◌, ◌^◌, ◌≤◌, ◌<◌, List, [], ◌∷◌, ◌++◌, length, sym, ap, ◌∙◌, arith, length-append, Bool, true}
use Rattle.std.specs.Prelude.{nat_lt}
use Rattle.std.proofs.lemmas.Bool.{cases_lt, lt-ltb}
use Rattle.std.proofs.lemmas.List.{append-nil}
use Rattle.std.specs.Char.{digit_value}
use Rattle.std.specs.Fmt.{decimal}
use Rattle.std.specs.Str.Parse.{AllDigits}
use Rattle.std.proofs.lemmas.Fmt.{decimal_is_IsNumeral_wide, decimal_step_wide, decimal_digit}
use Rattle.pk_wrong_byte_laws.proofs.Alike.{longer_of}

-- a text is a decimal number, and no greater than this
pub record IsWithin (text : List ℕ) (n : ℕ) : Type 0 where
  pub number : ℕ
  pub least : number ≤ n
  pub some : 0 < n → 0 < number
  pub is : text ≡ decimal number

begun_here : (v w : List ℕ) (n : ℕ) → v ++ w ≡ decimal n → length (decimal n) ≤ length v → IsWithin v n
begun_here v [] n e h = record { number = n; least = omega arith; some = λ h. h; is = sym (append-nil v) ∙ e }
begun_here v (b ∷ w) n e h = absurd (omega (arith, length-append v (b ∷ w), ap length e, h))

abbrev Rest : ℕ → List ℕ → Type 0
Rest n v = 10 ≤ n → (l : List ℕ) → v ++ l ≡ decimal (n / 10) → IsWithin v (n / 10)

begun_by : (k n : ℕ) → n ≤ k → n < 10 ^ 64 → (v w : List ℕ) → v ++ w ≡ decimal n → 0 < length v → IsWithin v n
begun_by zero n within small v w e some =
    begun_here v w n e (omega (arith, some, ap length (decimal_digit n (omega arith))))
begun_by (suc k) n within small v w e some = by_size (λ h l m. begun_by k (n / 10) (omega arith) (omega arith) v l m some) (cases_lt n 10)
  where
    by_front : Rest n v → 10 ≤ n → (length (decimal (n / 10)) < length v) ⊎ (length v ≤ length (decimal (n / 10))) → IsWithin v n
    by_front rest h (inl longer) =
        begun_here v w n e (omega (arith, longer, ap length (decimal_step_wide n h small), length-append (decimal (n / 10)) ((48 + n % 10) ∷ [])))
    by_front rest h (inr shorter) =
        let l = longer_of v w (decimal (n / 10)) ((48 + n % 10) ∷ []) (e ∙ decimal_step_wide n h small) shorter in
        let i = rest h l.more (sym l.longer) in
        record { number = i.number; least = omega (arith, i.least); some = λ k. i.some (omega (arith, h)); is = i.is }

    by_size : Rest n v → (n < 10) ⊎ (10 ≤ n) → IsWithin v n
    by_size rest (inl h) = begun_here v w n e (omega (arith, some, ap length (decimal_digit n h)))
    by_size rest (inr h) = by_front rest h (cases_lt (length (decimal (n / 10))) (length v))

-- a beginning of a decimal number is one
pub begun : (n : ℕ) → n < 10 ^ 64 → (v w : List ℕ) → v ++ w ≡ decimal n → 0 < length v → IsWithin v n
begun n small = begun_by n n (omega arith) small

abbrev pub is_decimal : ℕ → Bool
is_decimal b = nat_lt (digit_value b) 10

among : (v w : List ℕ) (b : ℕ) → AllDigits 10 (v ++ b ∷ w) → is_decimal b ≡ true
among [] w b all = lt-ltb (digit_value b) 10 all.0
among (c ∷ v) w b all = among v w b all.1

pub decimal_digits : (n : ℕ) (v w : List ℕ) (b : ℕ) → n < 10 ^ 64 → v ++ b ∷ w ≡ decimal n → is_decimal b ≡ true
decimal_digits n v w b small e = among v w b (subst (AllDigits 10) (sym e) (decimal_is_IsNumeral_wide n small).0.1)
