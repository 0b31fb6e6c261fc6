-- The classes of bytes (C99 5.2.1, 6.4).
use Rattle.std.specs.Prelude.{ℕ, ◌-◌, ◌*◌, ◌+◌, ◌==◌, List, [], ◌∷◌, fold, Bool, false, ◌&&◌, ◌||◌, nat_le, nat_lt, nat_eq, if◌then◌else◌}
use Rattle.std.specs.Cmp.Lexicographic.{pointwise}

-- a space, a tab, a vertical tab, a form feed or a carriage return
abbrev pub is_blank : ℕ → Bool
is_blank b = b == 32 || b == 9 || (nat_le 11 b && nat_le b 13)

abbrev pub is_newline : ℕ → Bool
is_newline b = b == 10

abbrev pub is_white : ℕ → Bool
is_white b = is_blank b || is_newline b

abbrev pub is_letter : ℕ → Bool
is_letter b = (nat_le 97 b && nat_le b 122) || (nat_le 65 b && nat_le b 90) || b == 95

abbrev pub is_digit : ℕ → Bool
is_digit b = nat_le 48 b && nat_le b 57

abbrev pub is_part : ℕ → Bool
is_part b = is_letter b || is_digit b

-- the value of a digit, of which there are those of base 16 (C99 6.4.4.1)
abbrev pub digit_value : ℕ → ℕ
digit_value b = if is_digit b then b - 48 else (if nat_le 97 b then b - 87 else b - 55)

abbrev pub is_hexadecimal_digit : ℕ → Bool
is_hexadecimal_digit b = is_digit b || (nat_le 97 b && nat_le b 102) || (nat_le 65 b && nat_le b 70)

-- a digit of a base up to 16
abbrev pub is_digit_of : ℕ → ℕ → Bool
is_digit_of base b = is_hexadecimal_digit b && nat_lt (digit_value b) base

-- the number that some digits write in a base
abbrev pub value_in : ℕ → List ℕ → ℕ
value_in base digits = fold (λ n b. n * base + digit_value b) 0 digits

-- whether the first byte is this one
abbrev pub begins_with : ℕ → List ℕ → Bool
begins_with c [] = false
begins_with c (b ∷ bytes) = b == c

-- the same bytes
abbrev pub same : List ℕ → List ℕ → Bool
same a b = pointwise nat_eq a b
