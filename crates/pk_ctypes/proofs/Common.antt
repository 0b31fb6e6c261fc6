-- The common type of two types is the one that the standard says.
use Rattle.std.specs.Prelude.{◌≡◌, ◌<◌, ◌≤◌, nat_lt, nat_le, Bool, true, false, ◌&&◌, ◌≤ℤ◌, int_le}
use Rattle.std.proofs.Common.{◌∙◌, ap, sym, refl, arith}
use Rattle.std.proofs.lemmas.Int.{ints}
use Rattle.std.proofs.lemmas.Bool.Decides.{nat_tests}
use Rattle.pk_ctypes.specs.declared.types.IntType.{IntType}
use Rattle.pk_ctypes.specs.declared.types.IntType.TheVariants.{Char, SChar, UChar, Short, UShort, Int, UInt, Long, ULong, LLong, ULLong}
use Rattle.pk_ctypes.specs.Types.{is_signed_of, rank_of, low_of, high_of, Represents, represents}
use Rattle.pk_ctypes.specs.Conversions.{promoted, unsigned_of, mixed_of, same_sign, common_of, usual_of, IsPromoted, AreUsualConversions}
use Rattle.pk_ctypes.proofs.Values.{le_test, test_le}
use Rattle.pk_ctypes.proofs.Wrapped.{zero_in}

-- what holds of the six promoted types holds of each promotion
by_six : (P : IntType → Type 0) → P Int → P UInt → P Long → P ULong → P LLong → P ULLong → (t : IntType) → P (promoted t)
by_six P i u l m n o Char = i
by_six P i u l m n o SChar = i
by_six P i u l m n o UChar = i
by_six P i u l m n o Short = i
by_six P i u l m n o UShort = i
by_six P i u l m n o Int = i
by_six P i u l m n o UInt = u
by_six P i u l m n o Long = l
by_six P i u l m n o ULong = m
by_six P i u l m n o LLong = n
by_six P i u l m n o ULLong = o

pub promoted_twice : (t : IntType) → IsPromoted (promoted t)
promoted_twice t = by_six IsPromoted refl refl refl refl refl refl t

symmetric_at : (x : IntType) → (common_of x Int ≡ common_of Int x) → (common_of x UInt ≡ common_of UInt x) → (common_of x Long ≡ common_of Long x) → (common_of x ULong ≡ common_of ULong x) → (common_of x LLong ≡ common_of LLong x) → (common_of x ULLong ≡ common_of ULLong x) → (b : IntType) → common_of x (promoted b) ≡ common_of (promoted b) x
symmetric_at x i u l m n o b = by_six (λ y. common_of x y ≡ common_of y x) i u l m n o b

symmetric : (a b : IntType) → usual_of a b ≡ usual_of b a
symmetric a b =
    by_six (λ x. (b : IntType) → common_of x (promoted b) ≡ common_of (promoted b) x)
    (symmetric_at Int refl refl refl refl refl refl)
    (symmetric_at UInt refl refl refl refl refl refl)
    (symmetric_at Long refl refl refl refl refl refl)
    (symmetric_at ULong refl refl refl refl refl refl)
    (symmetric_at LLong refl refl refl refl refl refl)
    (symmetric_at ULLong refl refl refl refl refl refl)
    a b

same : (t : IntType) → usual_of t t ≡ promoted t
same t = by_six (λ x. common_of x x ≡ x) refl refl refl refl refl refl t

usual_is : (a b : IntType) → IsPromoted a → IsPromoted b → usual_of a b ≡ common_of a b
usual_is a b e f = ap (λ x. common_of x (promoted b)) e ∙ ap (common_of a) f

same_sign_refl : (s : Bool) → same_sign s s ≡ true
same_sign_refl true = refl
same_sign_refl false = refl

greater_of : (a b : IntType) → is_signed_of a ≡ is_signed_of b → rank_of a < rank_of b → common_of a b ≡ b
greater_of a b s r =
    let sign : same_sign (is_signed_of a) (is_signed_of b) ≡ true = ap (λ x. same_sign x (is_signed_of b)) s ∙ same_sign_refl (is_signed_of b) in
    let test : nat_lt (rank_of a) (rank_of b) ≡ true = grind (arith, nat_tests) in
    rw (sign, test) refl

mixed_is : (s u : IntType) → is_signed_of s ≡ true → is_signed_of u ≡ false → common_of s u ≡ mixed_of s u
mixed_is s u e f =
    let sign : same_sign (is_signed_of s) (is_signed_of u) ≡ false = ap (λ x. same_sign x (is_signed_of u)) e ∙ f in
    rw (sign, e) refl

unsigned_wins : (s u : IntType) → rank_of s ≤ rank_of u → mixed_of s u ≡ u
unsigned_wins s u r = let test : nat_le (rank_of s) (rank_of u) ≡ true = grind (arith, nat_tests) in rw test refl

pub Represents-test : (t u : IntType) → Represents t u → represents t u ≡ true
Represents-test t u h =
    let zero = zero_in u in
    let order : low_of u ≤ℤ high_of u = omega (arith, ints, zero.0, zero.1) in
    let low = h (low_of u) (record { from = omega (arith, ints); to = order }) in
    let high = h (high_of u) (record { from = order; to = omega (arith, ints) }) in
    let first = le_test (low_of t) (low_of u) low.from in
    let second = le_test (high_of u) (high_of t) high.to in
    rw (first, second) refl

pub test-Represents : (t u : IntType) → represents t u ≡ true → Represents t u
test-Represents t u e z h =
    let low : low_of t ≤ℤ low_of u = test_le (low_of t) (low_of u) (first (int_le (low_of t) (low_of u)) (int_le (high_of u) (high_of t)) e) in
    let high : high_of u ≤ℤ high_of t = test_le (high_of u) (high_of t) (second (int_le (low_of t) (low_of u)) (int_le (high_of u) (high_of t)) e) in
    record { from = omega (arith, ints, low, h.from); to = omega (arith, ints, high, h.to) }
  where
    first : (a b : Bool) → (a && b) ≡ true → a ≡ true
    first true b e = refl
    first false b e = e

    second : (a b : Bool) → (a && b) ≡ true → b ≡ true
    second true b e = e
    second false b e = absurd (cc)

signed_wins : (s u : IntType) → rank_of u < rank_of s → represents s u ≡ true → mixed_of s u ≡ s
signed_wins s u r e = let test : nat_le (rank_of s) (rank_of u) ≡ false = grind (arith, nat_tests) in rw (test, e) refl

neither_wins : (s u : IntType) → rank_of u < rank_of s → represents s u ≡ false → mixed_of s u ≡ unsigned_of s
neither_wins s u r e = let test : nat_le (rank_of s) (rank_of u) ≡ false = grind (arith, nat_tests) in rw (test, e) refl

no_test : (s u : IntType) → (Represents s u → ⊥) → (test : Bool) → represents s u ≡ test → represents s u ≡ false
no_test s u h true e = absurd (h (test-Represents s u e))
no_test s u h false e = e

pub usual : AreUsualConversions usual_of
usual = record {
  promotes = λ a b. sym (usual_is (promoted a) (promoted b) (promoted_twice a) (promoted_twice b));
  symmetric = symmetric;
  same = λ t e. same t ∙ e;
  greater = λ a b e f s r. usual_is a b e f ∙ greater_of a b s r;
  unsigned = λ s u e f g h r. usual_is s u e f ∙ mixed_is s u g h ∙ unsigned_wins s u r;
  signed = λ s u e f g h r all. usual_is s u e f ∙ mixed_is s u g h ∙ signed_wins s u r (Represents-test s u all);
  neither = λ s u e f g h r none. usual_is s u e f ∙ mixed_is s u g h ∙ neither_wins s u r (no_test s u none (represents s u) refl);
}
