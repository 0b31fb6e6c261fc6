-- How far a number goes.
use Rattle.std.proofs.Common.{◌≡◌, ℕ, suc, ◌+◌, ◌<◌, ◌≤◌, ◌==◌, Bool, true, false, cond, ◌&&◌, ◌||◌, List, [], ◌∷◌, length, take, drop, get_or, refl, ap, ◌∙◌, arith}
use Rattle.std.proofs.lemmas.Bool.{eqb-true}
use Rattle.std.proofs.lemmas.Bool.Decides.{nat_tests}
use Rattle.std.proofs.lemmas.List.{drop_more, drop_all}
use Rattle.pk_lex.specs.Bytes.{is_digit}
use Rattle.pk_lex.specs.Words.{IsLongest}
use Rattle.pk_lex.specs.Numbers.{goes_on, is_rest_of_number, is_fraction, is_number}
use Rattle.pk_lex.proofs.Longest.{longer, stays, ends}

abbrev pub number_run : ℕ → List ℕ → ℕ
number_run before [] = 0
number_run before (b ∷ bytes) = cond (goes_on before b) (suc (number_run b bytes)) 0

pub number_longest : (before : ℕ) (bytes : List ℕ) → IsLongest (is_rest_of_number before) bytes (number_run before bytes)
number_longest before [] = ends (is_rest_of_number before) refl
number_longest before (b ∷ bytes) = by_test (number_longest b bytes) (goes_on before b) refl
  where
    by_test : IsLongest (is_rest_of_number b) bytes (number_run b bytes) → (t : Bool) → goes_on before b ≡ t → IsLongest (is_rest_of_number before) (b ∷ bytes) (cond t (suc (number_run b bytes)) 0)
    by_test more true e = longer (is_rest_of_number before) (is_rest_of_number b) b (λ w. ap (λ t. t && is_rest_of_number b w) e) bytes (number_run b bytes) more
    by_test more false e = stays (is_rest_of_number before) b bytes refl (λ w. ap (λ t. t && is_rest_of_number b w) e)

pub run_stops : (text : List ℕ) (i last : ℕ) → i < length text → goes_on last (get_or text i 0) ≡ false → number_run last (drop i text) ≡ 0
run_stops text i last l e = rw (drop_more text i 0 l) (ap (λ t. cond t (suc (number_run (get_or text i 0) (drop (i + 1) text))) 0) e)

pub run_goes : (text : List ℕ) (i last : ℕ) → i < length text → goes_on last (get_or text i 0) ≡ true →
    number_run last (drop i text) ≡ suc (number_run (get_or text i 0) (drop (i + 1) text))
run_goes text i last l e = rw (drop_more text i 0 l) (ap (λ t. cond t (suc (number_run (get_or text i 0) (drop (i + 1) text))) 0) e)

pub run_ends : (text : List ℕ) (i last : ℕ) → length text ≤ i → number_run last (drop i text) ≡ 0
run_ends text i last le = rw (drop_all i text le) refl

or_false : (x : Bool) → (x || false) ≡ x
or_false true = refl
or_false false = refl

no_point : (b : ℕ) → is_digit b ≡ true → (b == 46) ≡ false
no_point b h = grind (arith, nat_tests)

after_digit : (b : ℕ) → is_digit b ≡ true → (w : List ℕ) → is_number (b ∷ w) ≡ is_rest_of_number b w
after_digit b d w =
    ap (λ t. (t && is_rest_of_number b w) || (b == 46 && is_fraction w)) d
    ∙ ap (λ t. is_rest_of_number b w || (t && is_fraction w)) (no_point b d)
    ∙ or_false (is_rest_of_number b w)

pub number_from_digit : (text : List ℕ) (b : ℕ) (bytes : List ℕ) (n : ℕ) → text ≡ b ∷ bytes → is_digit b ≡ true → IsLongest (is_rest_of_number b) bytes n → IsLongest is_number text (1 + n)
number_from_digit text b bytes n e d l =
    let s : 1 + n ≡ suc n = omega arith in
    rw (e, s) (longer is_number (is_rest_of_number b) b (after_digit b d) bytes n l)

from_point : (b c : ℕ) (bytes : List ℕ) (n : ℕ) → b ≡ 46 → is_digit c ≡ true → IsLongest (is_rest_of_number c) bytes n → IsLongest is_number (b ∷ c ∷ bytes) (suc (suc n))
from_point b c bytes n e d l =
    rw e
    (longer is_number is_fraction 46 (λ w. refl) (c ∷ bytes) (suc n)
    (longer is_fraction (is_rest_of_number c) c (λ w. ap (λ t. t && is_rest_of_number c w) d) bytes n l))

-- a number that begins with no digit begins with a point and a digit
point_and_digit : (a b : ℕ) (bytes : List ℕ) → is_digit a ≡ false → (is_number (take 1 (a ∷ b ∷ bytes)) || is_number (take 2 (a ∷ b ∷ bytes))) ≡ true →
    (a ≡ 46) × (is_digit b ≡ true)
point_and_digit a b bytes d h = by_tests (is_digit a) (a == 46) (is_digit b) refl refl d h
  where
    by_tests : (s t u : Bool) → (a == 46) ≡ t → is_digit b ≡ u → s ≡ false →
        (((s && true) || (t && false)) || ((s && (goes_on a b && true)) || (t && (u && true)))) ≡ true → (a ≡ 46) × (is_digit b ≡ true)
    by_tests true t u e f g h = cc
    by_tests false true true e f g h = (eqb-true a 46 e, f)
    by_tests false true false e f g h = cc
    by_tests false false u e f g h = cc

pub number_from_point : (text : List ℕ) (a : ℕ) (rest : List ℕ) (b : ℕ) (bytes : List ℕ) (n : ℕ) → text ≡ a ∷ rest → rest ≡ b ∷ bytes → is_digit a ≡ false →
    (is_number (take 1 text) || is_number (take 2 text)) ≡ true → IsLongest (is_rest_of_number b) bytes n → IsLongest is_number text (2 + n)
number_from_point text a rest b bytes n e f d h l =
    let g : text ≡ a ∷ b ∷ bytes = rw (← f) e in
    let p = point_and_digit a b bytes d (rw g at h) in
    let s : 2 + n ≡ suc (suc n) = omega arith in
    rw (g, s) (from_point a b bytes n p.0 p.1 l)
