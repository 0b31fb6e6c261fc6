-- Widening ends: each step that is not below divides the modulus.
use Rattle.std.specs.Prelude.{◌≡◌, ◌⊎◌, ℕ, zero, suc, ◌+◌, ◌*◌, ◌/◌, nat_le, Bool, ◌<◌, ◌≤◌, ◌^◌, true, false, ℤ, pos, ◌-ℤ◌, ◌*ℤ◌, unsigned_abs, List, [], ◌∷◌, length}
use Rattle.std.proofs.Common.{arith, cond, ◌∙◌, ap, refl, sym, subst, inl, inr}
use Rattle.std.proofs.Math.Nat.{pow-suc}
use Rattle.std.proofs.Math.IntN.{*ℤ-zero}
use Rattle.std.proofs.lemmas.Bool.Decides.{nat_tests}
use Rattle.std.proofs.lemmas.Int.{ints}
use Rattle.std.specs.Ordering.{int_eq}
use Rattle.pk_ctypes.specs.declared.types.IntType.{IntType}
use Rattle.pk_ctypes.specs.declared.types.IntType.TheVariants.{Char, SChar, UChar, Short, UShort, Int, UInt, Long, ULong, LLong, ULLong}
use Rattle.pk_ctypes.specs.Types.{InType, size_of}
use Rattle.pk_ctypes.proofs.Wrapped.{high_is}
use Rattle.pk_congr.specs.Classes.{Class, IsMember, gcd, int_gcd, class_of, rest_modulo, is_within, widened}
use Rattle.pk_congr.specs.Laws.{IsOf, IsChain, WideningEnds, powers_within, divisions, DivisionsAreRanks}
use Rattle.pk_congr.proofs.Multiples.{Multiple, multiple_trans}
use Rattle.pk_congr.proofs.Gcd.{gcd_left, gcd_some, gcd_some_right}
use Rattle.pk_congr.proofs.Numbers.{by_test, tested_zero, is_member, class_if_is, class_only, rest_member, rest_of_zero, class_reduced}
use Rattle.pk_congr.proofs.Order.{tests, within, within_test, join_is_least, gcd_le_left, gcd_le_right, gcd_below}
use Rattle.pk_congr.proofs.Meets.{whole_part}

above : (h n : Class) → is_within h (widened h n) ≡ true
above h n = within_test h (widened h n) (join_is_least.left h n)

rises : (h n : Class) → is_within n h ≡ false → is_within (widened h n) h ≡ false
rises h n e = by (by_test (is_within (widened h n) h))
  where
    by : (is_within (widened h n) h ≡ true) ⊎ (is_within (widened h n) h ≡ false) → is_within (widened h n) h ≡ false
    by (inr f) = f
    by (inl f) =
        let yes = within_test n h (λ x k. within (widened h n) h f x (join_is_least.right h n x k)) in
        absurd (cc)

-- two constants of a type are near
size_most : (t : IntType) → size_of t ≤ 2 ^ 64
size_most Char = omega arith
size_most SChar = omega arith
size_most UChar = omega arith
size_most Short = omega arith
size_most UShort = omega arith
size_most Int = omega arith
size_most UInt = omega arith
size_most Long = omega arith
size_most ULong = omega arith
size_most LLong = omega arith
size_most ULLong = omega arith

pub distance : (t : IntType) (a b : ℤ) → InType t a → InType t b → unsigned_abs (a -ℤ b) < 2 ^ 64
distance t a b h k =
    let last = high_is t in
    let most = size_most t in
    omega (arith, ints, h.from, h.to, k.from, k.to)

-- the modulus of a widening
abbrev modulus_of : Class → Class → ℕ
modulus_of h n = gcd (gcd (unsigned_abs h.m) (unsigned_abs n.m)) (unsigned_abs (h.r -ℤ n.r))

module _ (t : IntType) (h n : Class) (f : IsOf t h) (g : IsOf t n) where
  modulus_most : modulus_of h n ≤ 2 ^ 64
  modulus_most = by (unsigned_abs h.m) (unsigned_abs n.m) refl refl
    where
      by : (k l : ℕ) → unsigned_abs h.m ≡ k → unsigned_abs n.m ≡ l → modulus_of h n ≤ 2 ^ 64
      by (suc k) l e e' =
          let some = gcd_some (unsigned_abs h.m) (unsigned_abs n.m) (omega arith) in
          let first = gcd_le_left (unsigned_abs h.m) (unsigned_abs n.m) (omega arith) in
          let second = gcd_le_left (gcd (unsigned_abs h.m) (unsigned_abs n.m)) (unsigned_abs (h.r -ℤ n.r)) some in
          let from = f.reduced.from in
          let most = f.modulus in
          omega (arith, ints)
      by zero (suc l) e e' =
          let some = gcd_some_right (unsigned_abs h.m) (unsigned_abs n.m) (omega arith) in
          let first = gcd_le_right (unsigned_abs h.m) (unsigned_abs n.m) (omega arith) in
          let second = gcd_le_left (gcd (unsigned_abs h.m) (unsigned_abs n.m)) (unsigned_abs (h.r -ℤ n.r)) some in
          let from = g.reduced.from in
          let most = g.modulus in
          omega (arith, ints)
      by zero zero e e' =
          let apart = distance t h.r n.r (f.constant (omega (arith, ints))) (g.constant (omega (arith, ints))) in
          let small = gcd_below (gcd (unsigned_abs h.m) (unsigned_abs n.m)) (unsigned_abs (h.r -ℤ n.r)) (2 ^ 64)
          (gcd_below (unsigned_abs h.m) (unsigned_abs n.m) (2 ^ 64) (omega arith) (omega arith)) apart in
          omega arith

  widened_is : widened h n ≡ class_of (pos (modulus_of h n)) h.r
  widened_is = let most = modulus_most in class_if_is (pos (modulus_of h n)) h.r (omega arith) f.reduced.rest_held

  widened_modulus : (widened h n).m ≡ pos (modulus_of h n)
  widened_modulus = ap (λ c. c.m) widened_is

  widened_only : (x : ℤ) → IsMember (widened h n) x → Multiple (pos (modulus_of h n)) (x -ℤ h.r)
  widened_only x k = class_only (pos (modulus_of h n)) h.r x (subst (λ (c : Class). IsMember c x) widened_is k)

  pub still_of : IsOf t (widened h n)
  still_of = subst (IsOf t) (sym widened_is) (record {
    reduced = class_reduced (pos (modulus_of h n)) h.r (omega (arith, ints)) (let most = modulus_most in omega arith) f.reduced.rest_held;
    modulus = let most = modulus_most in omega (arith, ints);
    constant = λ e. kept e;
  })
    where
      kept : pos (modulus_of h n) ≡ pos 0 → InType t (rest_modulo h.r (pos (modulus_of h n)))
      kept e = by (by_zero (unsigned_abs h.m) refl)
        where
          by_zero : (k : ℕ) → unsigned_abs h.m ≡ k → h.m ≡ pos 0
          by_zero zero e' = omega (arith, ints)
          by_zero (suc k) e' =
              let some = gcd_some (gcd (unsigned_abs h.m) (unsigned_abs n.m)) (unsigned_abs (h.r -ℤ n.r)) (gcd_some (unsigned_abs h.m) (unsigned_abs n.m) (omega arith)) in
              absurd (omega (arith, ints))

          by : h.m ≡ pos 0 → InType t (rest_modulo h.r (pos (modulus_of h n)))
          by none = subst (InType t) (sym (rest_of_zero h.r (pos (modulus_of h n)) e)) (f.constant none)

  module _ (e : is_within n h ≡ false) where
    -- a number that the step brings
    new : (x : ℤ) × IsMember n x × (IsMember h x → ⊥)
    new = tests.not_within n h e

    modulus_some : 0 < modulus_of h n
    modulus_some = by (modulus_of h n) refl
      where
        by : (k : ℕ) → modulus_of h n ≡ k → 0 < modulus_of h n
        by (suc k) is = omega arith
        by zero is =
            let d = widened_only new.0 (join_is_least.right h n new.0 new.1) in
            let none : d.0 *ℤ pos (modulus_of h n) ≡ pos 0 = ap (λ v. d.0 *ℤ pos v) is ∙ *ℤ-zero d.0 in
            let same : h.r ≡ new.0 = omega (arith, ints, d.1) in
            absurd (new.2 (subst (IsMember h) same (rest_member h)))

    modulus_halves : 0 < unsigned_abs h.m → 2 * modulus_of h n ≤ unsigned_abs h.m
    modulus_halves some = by (unsigned_abs h.m / modulus_of h n) (whole_part (unsigned_abs h.m) (modulus_of h n) modulus_some divisor)
      where
        divisor : Multiple (pos (modulus_of h n)) (pos (unsigned_abs h.m))
        divisor =
            let d = int_gcd h.m n.m in
            multiple_trans (pos (modulus_of h n)) d (pos (unsigned_abs h.m)) (gcd_left d (h.r -ℤ n.r)) (gcd_left (pos (unsigned_abs h.m)) n.m)

        by : (q : ℕ) → q * modulus_of h n ≡ unsigned_abs h.m → 2 * modulus_of h n ≤ unsigned_abs h.m
        by zero is = absurd (omega arith)
        by (suc (suc q)) is = omega arith
        by (suc zero) is =
            let from = f.reduced.from in
            let same : pos (modulus_of h n) ≡ h.m = omega (arith, ints) in
            let d = widened_only new.0 (join_is_least.right h n new.0 new.1) in
            absurd (new.2 (is_member h new.0 (subst (λ (m : ℤ). Multiple m (new.0 -ℤ h.r)) same d)))

chain_of : (k : ℕ) (t : IntType) (h : Class) (ns : List Class) → IsOf t h → 0 < unsigned_abs h.m → unsigned_abs h.m ≤ 2 ^ k → IsChain t h ns → length ns ≤ k
chain_of k t h [] f s l c = omega arith
chain_of zero t h (n ∷ ns) f s l c =
    let half = modulus_halves t h n f c.0 c.1 s in
    let some = modulus_some t h n f c.0 c.1 in
    absurd (omega arith)
chain_of (suc k) t h (n ∷ ns) f s l c =
    let half = modulus_halves t h n f c.0 c.1 s in
    let some = modulus_some t h n f c.0 c.1 in
    let is = ap unsigned_abs (widened_modulus t h n f c.0) in
    let power = pow-suc 2 k in
    let rest = chain_of k t (widened h n) ns (still_of t h n f c.0) (omega arith) (omega arith) c.2 in
    omega arith

ends : (t : IntType) (h : Class) (ns : List Class) → IsOf t h → IsChain t h ns → length ns ≤ 65
ends t h [] f c = omega arith
ends t h (n ∷ ns) f c =
    let some = modulus_some t h n f c.0 c.1 in
    let most = modulus_most t h n f c.0 in
    let is = ap unsigned_abs (widened_modulus t h n f c.0) in
    let rest = chain_of 64 t (widened h n) ns (still_of t h n f c.0) (omega arith) (omega arith) c.2 in
    omega arith

pub widening_ends : WideningEnds
widening_ends = record { above = above; rises = rises; ends = ends }

-- ---- how many powers of 2 are within a modulus
one_most : (t : Bool) → cond t 1 0 ≤ 1
one_most true = omega arith
one_most false = omega arith

powers_most : (k m : ℕ) → powers_within k m ≤ k
unfolding powers_within
powers_most zero m = omega arith
powers_most (suc k) m = omega (arith, one_most (nat_le (2 ^ suc k) m), powers_most k m)

by_tests : (t u : Bool) → (t ≡ true → u ≡ true) → cond t 1 0 ≤ cond u 1 0
by_tests true true h = omega arith
by_tests true false h = let no = h refl in absurd (cc)
by_tests false u h = omega arith

is_within_test : (a b : ℕ) → a ≤ b → nat_le a b ≡ true
is_within_test a b h = grind (arith, nat_tests)

test_is_within : (a b : ℕ) → nat_le a b ≡ true → a ≤ b
test_is_within a b h = grind (arith, nat_tests)

powers_mono : (k a b : ℕ) → a ≤ b → powers_within k a ≤ powers_within k b
unfolding powers_within
powers_mono zero a b h = omega arith
powers_mono (suc k) a b h =
    omega (arith, powers_mono k a b h, by_tests (nat_le (2 ^ suc k) a) (nat_le (2 ^ suc k) b) (λ e. is_within_test (2 ^ suc k) b (omega (arith, test_is_within (2 ^ suc k) a e, h))))

-- twice the number has a power more
powers_more : (k a b : ℕ) → 0 < a → 2 * a ≤ b → powers_within k a + 1 ≤ powers_within (suc k) b
unfolding powers_within
powers_more zero a b some h = let first : nat_le (2 ^ 1) b ≡ true = is_within_test 2 b (omega arith) in rw first (omega arith)
powers_more (suc k) a b some h =
    let power = pow-suc 2 (suc k) in
    let one = by_tests (nat_le (2 ^ suc k) a) (nat_le (2 ^ suc (suc k)) b) (λ e. is_within_test (2 ^ suc (suc k)) b (omega (arith, power, test_is_within (2 ^ suc k) a e, h))) in
    omega (arith, one, powers_more k a b some h)

powers_last : (k a : ℕ) → a < 2 ^ suc k → powers_within (suc k) a ≡ powers_within k a
unfolding powers_within
powers_last k a small = let none : nat_le (2 ^ suc k) a ≡ false = grind (arith, nat_tests) in rw none (omega arith)

powers_fall : (k a b : ℕ) → 0 < a → 2 * a ≤ b → b ≤ 2 ^ suc k → powers_within (suc k) a < powers_within (suc k) b
powers_fall k a b some h few =
    let power = pow-suc 2 k in
    omega (arith, powers_more k a b some h, powers_last k a (omega (arith, some)))

divisions_few : (h : Class) → divisions h ≤ 65
divisions_few h = by (int_eq h.m (pos 0))
  where
    by : (t : Bool) → cond t 65 (powers_within 64 (unsigned_abs h.m)) ≤ 65
    by true = omega arith
    by false = omega (arith, powers_most 64 (unsigned_abs h.m))

divisions_of : (c : Class) (m : ℕ) → c.m ≡ pos m → 0 < m → divisions c ≡ powers_within 64 m
divisions_of c m is some = by (int_eq c.m (pos 0)) refl
  where
    by : (t : Bool) → int_eq c.m (pos 0) ≡ t → cond t 65 (powers_within 64 (unsigned_abs c.m)) ≡ powers_within 64 m
    by true e = let none : c.m ≡ pos 0 = tested_zero c.m e in absurd (omega (arith, ints, is, some, none))
    by false e = rw is refl

divisions_constant : (c : Class) → c.m ≡ pos 0 → divisions c ≡ 65
divisions_constant c is = rw is refl

module _ (t : IntType) (h n : Class) (f : IsOf t h) (g : IsOf t n) where
  new_modulus : (widened h n).m ≡ pos (modulus_of h n)
  new_modulus = widened_modulus t h n f g

  stay_by : (k l : ℕ) → unsigned_abs h.m ≡ k → modulus_of h n ≡ l → divisions (widened h n) ≤ divisions h
  stay_by zero l e e' =
      let none : h.m ≡ pos 0 = omega (arith, ints) in
      omega (arith, divisions_constant h none, divisions_few (widened h n))
  stay_by (suc k) zero e e' =
      let some = gcd_some (gcd (unsigned_abs h.m) (unsigned_abs n.m)) (unsigned_abs (h.r -ℤ n.r)) (gcd_some (unsigned_abs h.m) (unsigned_abs n.m) (omega arith)) in
      absurd (omega arith)
  stay_by (suc k) (suc l) e e' =
      let some = gcd_some (unsigned_abs h.m) (unsigned_abs n.m) (omega arith) in
      let first = gcd_le_left (unsigned_abs h.m) (unsigned_abs n.m) (omega arith) in
      let second = gcd_le_left (gcd (unsigned_abs h.m) (unsigned_abs n.m)) (unsigned_abs (h.r -ℤ n.r)) some in
      let from = f.reduced.from in
      let held : h.m ≡ pos (suc k) = omega (arith, ints) in
      let less : modulus_of h n ≤ suc k = omega arith in
      omega (arith, divisions_of h (suc k) held (omega arith), divisions_of (widened h n) (modulus_of h n) new_modulus (omega arith), powers_mono 64 (modulus_of h n) (suc k) less)

  fall_by : (k : ℕ) → unsigned_abs h.m ≡ k → is_within n h ≡ false → divisions (widened h n) < divisions h
  fall_by zero e not_within =
      let none : h.m ≡ pos 0 = omega (arith, ints) in
      let some = modulus_some t h n f g not_within in
      omega (arith, divisions_constant h none, divisions_of (widened h n) (modulus_of h n) new_modulus some, powers_most 64 (modulus_of h n))
  fall_by (suc k) e not_within =
      let some = modulus_some t h n f g not_within in
      let half = modulus_halves t h n f g not_within (omega arith) in
      let from = f.reduced.from in
      let most = f.modulus in
      let held : h.m ≡ pos (suc k) = omega (arith, ints) in
      let few : suc k ≤ 2 ^ 64 = omega (arith, ints) in
      omega (arith, divisions_of h (suc k) held (omega arith), divisions_of (widened h n) (modulus_of h n) new_modulus some, powers_fall 63 (modulus_of h n) (suc k) some (omega arith) few)

pub divisions_are_ranks : DivisionsAreRanks
divisions_are_ranks = record {
  few = divisions_few;
  stays = λ t h n f g. stay_by t h n f g (unsigned_abs h.m) (modulus_of h n) refl refl;
  falls = λ t h n f g e. fall_by t h n f g (unsigned_abs h.m) refl e;
}
