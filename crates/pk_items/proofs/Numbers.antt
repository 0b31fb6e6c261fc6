-- Tests of numbers.
use Rattle.std.proofs.Common.{◌≡◌, ℕ, ◌<◌, ◌≤◌, ◌&&◌, max, Bool, true, false, refl, arith}
use Rattle.std.proofs.Math.Dec.{leb, ltb}
use Rattle.std.proofs.lemmas.Bool.Decides.{nat_tests}

pub and_parts : (s t : Bool) → (s && t) ≡ true → (s ≡ true) × (t ≡ true)
and_parts true t h = (refl, h)
and_parts false t h = absurd (cc)

pub below : (m n : ℕ) → ltb m n ≡ true → m < n
below m n h = grind (arith, nat_tests)

pub is_below : (m n : ℕ) → m < n → ltb m n ≡ true
is_below m n h = grind (arith, nat_tests)

pub not_below : (m n : ℕ) → n ≤ m → ltb m n ≡ false
not_below m n h = grind (arith, nat_tests)

pub is_most : (m n : ℕ) → m ≤ n → leb m n ≡ true
is_most m n h = grind (arith, nat_tests)

pub between : (m n k : ℕ) → (leb m n && ltb n k) ≡ true → (m ≤ n) × (n < k)
between m n k h = (grind (arith, nat_tests), grind (arith, nat_tests))

pub is_between : (m n k : ℕ) → m ≤ n → n < k → (leb m n && ltb n k) ≡ true
is_between m n k from before = grind (arith, nat_tests)

pub max_first : (m n : ℕ) → n ≤ m → max m n ≡ m
max_first m n h = grind (arith)

pub max_second : (m n : ℕ) → m ≤ n → max m n ≡ n
max_second m n h = grind (arith)

pub max_above : (m n : ℕ) → (m ≤ max m n) × (n ≤ max m n)
max_above m n = (grind (arith), grind (arith))
