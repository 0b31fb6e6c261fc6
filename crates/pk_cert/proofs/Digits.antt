-- Decimal digits, and where a number that is read stops.
use Rattle.std.specs.Prelude.{◌≡◌, ◌⊎◌, ℕ, suc, ◌+◌, ◌-◌, ◌*◌, ◌/◌, ◌%◌, ◌<◌, ◌≤◌, ◌^◌, List, [], ◌∷◌, ◌++◌, length, take, get_or, slice_index}
use Rattle.std.specs.Fmt.{decimal}
use Rattle.std.specs.Str.Parse.{AllDigits, digits_value, digits_value_after}
use Rattle.std.specs.Char.{digit_value}
use Rattle.std.proofs.Common.{arith, refl, sym, ap, subst, ◌∙◌, inl, inr, append_assoc}
use Rattle.std.proofs.lemmas.Fmt.{decimal_is_IsNumeral_wide, decimal_digit, decimal_step_wide, decimal_by_steps_wide}
use Rattle.std.proofs.lemmas.Str.Parse.{digit_from_value}
use Rattle.std.proofs.lemmas.Str.{digit_value_digit}
use Rattle.std.proofs.lemmas.List.{append-nil, length-append}
use Rattle.std.proofs.lemmas.Bool.{cases_lt}
use Rattle.std.proofs.Math.Seq.{take-suc}
use Rattle.std.proofs.Math.ListN.{get_or-append}
use Rattle.pk_cert.specs.Beginnings.{TextsOf, IsStop}
use Rattle.pk_cert.specs.declared.numbers.Decimal.{Decimal}
use Rattle.pk_cert.specs.Pieces.{value_of, IsDigitBehind, IsFirstDigit, IsDigitRead, IsBetween, counted}
use Rattle.pk_cert.proofs.Stops.{Lacks, word_stop}

digits_of : (n : ℕ) → n < 10 ^ 39 → AllDigits 10 (decimal n)
digits_of n h = (decimal_is_IsNumeral_wide n (omega (arith, h))).0.1

pub value_of_digits : (n : ℕ) → n < 10 ^ 39 → digits_value 10 (decimal n) ≡ n
value_of_digits n h = (decimal_is_IsNumeral_wide n (omega (arith, h))).1

pub some_digits : (n : ℕ) → n < 10 ^ 39 → 0 < length (decimal n)
some_digits n h = (decimal_is_IsNumeral_wide n (omega (arith, h))).0.0

pub decimal_same : (m n : ℕ) → m < 10 ^ 39 → n < 10 ^ 39 → decimal m ≡ decimal n → m ≡ n
decimal_same m n p q e = sym (value_of_digits m p) ∙ ap (digits_value 10) e ∙ value_of_digits n q

-- no number but 0 begins with the digit 0
first_digit : (n : ℕ) → 0 < n → n < 10 ^ 39 → 48 < get_or (decimal n) 0 0
first_digit n some small = (decimal_by_steps_wide (λ m ds. (0 < length ds) × (0 < m → 48 < get_or ds 0 0)) (λ m l. (omega arith, λ a. omega arith))
    (λ m ds l h. (omega (arith, length-append ds ((48 + m % 10) ∷ [])), λ a. omega (arith, get_or-append ds ((48 + m % 10) ∷ []) 0 0 h.0, h.1 (omega arith)))) n (omega (arith, small))).1 some

lacking_digits : (c : ℕ) (ds : List ℕ) → c < 48 → AllDigits 10 ds → Lacks c ds
lacking_digits c [] h d = tt
lacking_digits c (x ∷ ds) h d = ((λ e. let r = digit_from_value x d.0 in omega (arith, r, h, e)), lacking_digits c ds h d.1)

pub decimal_lacks : (c n : ℕ) → c < 48 → n < 10 ^ 39 → Lacks c (decimal n)
decimal_lacks c n h small = lacking_digits c (decimal n) h (digits_of n small)

-- bytes of digits stand from 48 to 57
abbrev pub AreDigits : List ℕ → Type 0
AreDigits [] = Unit {0}
AreDigits (c ∷ cs) = (48 ≤ c) × (c ≤ 57) × AreDigits cs

all_are : (ds : List ℕ) → AllDigits 10 ds → AreDigits ds
all_are [] h = tt
all_are (c ∷ cs) h = let d = digit_from_value c h.0 in (omega (arith, d), omega (arith, d), all_are cs h.1)

pub decimal_are : (n : ℕ) → n < 10 ^ 39 → AreDigits (decimal n)
decimal_are n h = all_are (decimal n) (digits_of n h)

-- ---- values of digits that go on

value_after_append : (n : ℕ) (xs ys : List ℕ) → digits_value_after 10 n (xs ++ ys) ≡ digits_value_after 10 (digits_value_after 10 n xs) ys
value_after_append n [] ys = refl
value_after_append n (x ∷ xs) ys = value_after_append (n * 10 + digit_value x) xs ys

least_value : (n : ℕ) (ds : List ℕ) → n ≤ digits_value_after 10 n ds
least_value n [] = omega arith
least_value n (c ∷ cs) = omega (arith, least_value (n * 10 + digit_value c) cs)

digit_there : (xs : List ℕ) (b : ℕ) (s : List ℕ) → AllDigits 10 (xs ++ b ∷ s) → digit_value b < 10
digit_there [] b s h = h.0
digit_there (x ∷ xs) b s h = digit_there xs b s h.1

pub record IsLonger (v b w : ℕ) : Type 0 where
  pub digit : IsDigitBehind v b (10 * v + (b - 48))
  pub most : 10 * v + (b - 48) ≤ w

-- what a number is whose digits go on behind another's
pub longer : (v w b : ℕ) (s : List ℕ) → v < 10 ^ 39 → w < 10 ^ 39 → decimal w ≡ decimal v ++ b ∷ s → IsLonger v b w
longer v w b s p q e =
    let d = digit_there (decimal v) b s (subst (AllDigits 10) e (digits_of w q)) in
    let r = digit_from_value b d in
    let k = digit_value_digit b r in
    record {
      digit = record { low = omega (arith, r); high = omega (arith, r); some = some (cases_lt 0 v); value = refl };
      most = omega (arith, total, least_value (v * 10 + digit_value b) s, k, d);
    }
  where
    total : w ≡ digits_value_after 10 (v * 10 + digit_value b) s
    total =
        sym (value_of_digits w q) ∙ ap (digits_value 10) e ∙ value_after_append 0 (decimal v) (b ∷ s)
        ∙ ap (λ (n : ℕ). digits_value_after 10 n (b ∷ s)) (value_of_digits v p)

    some : (0 < v) ⊎ (v ≤ 0) → 0 < v
    some (inl h) = h
    some (inr h) =
        let z : v ≡ 0 = omega (arith, h) in
        let f : decimal w ≡ 48 ∷ b ∷ s = e ∙ ap (λ (n : ℕ). decimal n ++ b ∷ s) z ∙ ap (λ (x : List ℕ). x ++ b ∷ s) (decimal_digit 0 (omega arith)) in
        elim (cases_lt 0 w) [
          | inl g ↦ let first : get_or (decimal w) 0 0 ≡ 48 = ap (λ (x : List ℕ). get_or x 0 0) f in omega (arith, first, first_digit w g q)
          | inr g ↦
              let o : w ≡ 0 = omega (arith, g) in
              let one : 48 ∷ b ∷ s ≡ 48 ∷ [] = sym f ∙ ap decimal o ∙ decimal_digit 0 (omega arith) in
              absurd (let l : suc (suc (length s)) ≡ 1 = ap (length {A = ℕ}) one in omega (arith, l))
        ]

-- a digit more
pub decimal_more : (v b w : ℕ) → IsDigitBehind v b w → w < 10 ^ 39 → decimal w ≡ decimal v ++ b ∷ []
decimal_more v b w d small =
    let front : w / 10 ≡ v = omega (arith, d.low, d.high, d.value) in
    let end : 48 + w % 10 ≡ b = omega (arith, d.low, d.high, d.value) in
    decimal_step_wide w (omega (arith, d.some, d.value)) (omega (arith, small)) ∙ (λ i. decimal (front i) ++ end i ∷ [])

-- ---- where a number stops

module _ (least most end : ℕ) (low : least ≤ most) (small : most < 10 ^ 39) (mark : end < 48) (bytes : List ℕ) where
  lacks : (n : ℕ) → IsBetween least most n → Lacks end (decimal n)
  lacks n is = decimal_lacks end n mark (omega (arith, is.high, small))

  -- behind the digits of v, with a byte that goes on with no number
  pub count_stops : (v k : ℕ) → k ≤ length bytes → take k bytes ≡ decimal v → IsBetween least most v
      → (k < length bytes → (w : ℕ) → IsDigitBehind v (slice_index bytes k) w → w ≤ most → ⊥)
      → (k < length bytes → slice_index bytes k ≡ end → ⊥)
      → IsStop (TextsOf (IsBetween least most) (counted end)) bytes k
  count_stops v k there is between none other = word_stop (IsBetween least most) decimal end lacks bytes k there
      ([], (v, between, append-nil (take k bytes) ∙ is))
      (λ h b.
      let w : ℕ = b.1.0 in
      let e : decimal w ≡ decimal v ++ slice_index bytes k ∷ b.0 =
      sym b.1.2 ∙ append_assoc (take k bytes) (slice_index bytes k ∷ []) b.0 ∙ ap (λ (x : List ℕ). x ++ slice_index bytes k ∷ b.0) is in
      let l = longer v w (slice_index bytes k) b.0 (omega (arith, between.high, small)) (omega (arith, b.1.1.high, small)) e in
      none h (10 * v + (slice_index bytes k - 48)) l.digit (omega (arith, l.most, b.1.1.high)))
      (λ h b. other h)

  -- at the first byte
  pub count_stops_first : (IsFirstDigit least bytes → ⊥) → least ≤ 1 → IsStop (TextsOf (IsBetween least most) (counted end)) bytes 0
  count_stops_first none one = word_stop (IsBetween least most) decimal end lacks bytes 0 (omega arith)
      (decimal least, (least, record { low = omega arith; high = low }, refl))
      (λ h b. next h b.1.0 b.0 b.1.1 (sym b.1.2))
      (λ h b e.
      let l : length (decimal b.0) ≡ 0 = ap (length {A = ℕ}) (sym b.2) in
      omega (arith, l, some_digits b.0 (omega (arith, b.1.high, small))))
    where
      next : 0 < length bytes → (w : ℕ) (s : List ℕ) → IsBetween least most w → decimal w ≡ slice_index bytes 0 ∷ s → ⊥
      next h w s between e =
          let d = digit_from_value (slice_index bytes 0) (subst (AllDigits 10) e (digits_of w (omega (arith, between.high, small)))).0 in
          let first : get_or (decimal w) 0 0 ≡ slice_index bytes 0 = ap (λ (x : List ℕ). get_or x 0 0) e in
          none record {
            some = h;
            low = elim (cases_lt 0 w) [
              | inl g ↦ omega (arith, first_digit w g (omega (arith, between.high, small)), first, one)
              | inr g ↦ omega (arith, g, between.low, d)
            ];
            high = omega (arith, d);
          }

-- ---- the digits so far

pub first_told : (least : ℕ) (bytes : List ℕ) (d : Decimal) → IsDigitRead least bytes d → take 1 bytes ≡ decimal (value_of d)
first_told least [] d r = absurd (omega (arith, r.first.some))
first_told least (b ∷ bytes) d r =
    let is : 48 + value_of d ≡ b = omega (arith, r.first.low, r.tens, r.last) in
    ap (λ (c : ℕ). c ∷ []) (sym is) ∙ sym (decimal_digit (value_of d) (omega (arith, r.first.high, r.first.low, r.tens, r.last)))

pub next_told : (bytes : List ℕ) (k v w : ℕ) → k < length bytes → take k bytes ≡ decimal v → IsDigitBehind v (slice_index bytes k) w → w < 10 ^ 39 → take (k + 1) bytes ≡ decimal w
next_told bytes k v w h told d small =
    let more : k + 1 ≡ suc k = omega arith in
    ap (λ (j : ℕ). take j bytes) more ∙ take-suc bytes k 0 h ∙ ap (λ (x : List ℕ). x ++ slice_index bytes k ∷ []) told ∙ sym (decimal_more v (slice_index bytes k) w d small)
