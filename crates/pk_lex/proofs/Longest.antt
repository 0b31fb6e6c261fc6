-- The most first bytes of a text that are such.
use Rattle.std.proofs.Common.{◌≡◌, ℕ, zero, suc, ◌+◌, ◌≤◌, Bool, true, false, cond, ◌&&◌, Option, Some, None, MatchOption, List, [], ◌∷◌, length, take, refl, sym, ap, ◌∙◌, arith}
use Rattle.std.specs.List.{list_all, prefix_len}
use Rattle.std.specs.Option.{option_map}
use Rattle.std.proofs.lemmas.Bool.{both_ways}
use Rattle.pk_lex.specs.Words.{IsLongest, BeginsNone}

-- the longest such from one byte on, and from the next byte on
module _ (p q : List ℕ → Bool) (b : ℕ) (same : (w : List ℕ) → p (b ∷ w) ≡ q w) where
  pub longer : (bytes : List ℕ) (n : ℕ) → IsLongest q bytes n → IsLongest p (b ∷ bytes) (suc n)
  longer bytes n l = record {
    fits = let f = l.fits in omega arith;
    is = same (take n bytes) ∙ l.is;
    most = by_len;
  }
    where
      by_len : (m : ℕ) → m ≤ length (b ∷ bytes) → p (take m (b ∷ bytes)) ≡ true → m ≤ suc n
      by_len zero le h = omega arith
      by_len (suc m) le h = let k = l.most m (omega (arith, le)) (sym (same (take m bytes)) ∙ h) in omega (arith, k)

  pub none_longer : (bytes : List ℕ) → p [] ≡ false → BeginsNone q bytes → BeginsNone p (b ∷ bytes)
  none_longer bytes e none zero le h = both_ways (p []) e h
  none_longer bytes e none (suc m) le h = none m (omega (arith, le)) (sym (same (take m bytes)) ∙ h)

  pub answer_longer : (bytes : List ℕ) (o : Option ℕ) → p [] ≡ false → MatchOption o (BeginsNone q bytes) (λ n. IsLongest q bytes n) →
      MatchOption (option_map suc o) (BeginsNone p (b ∷ bytes)) (λ n. IsLongest p (b ∷ bytes) n)
  answer_longer bytes None e none = none_longer bytes e none
  answer_longer bytes (Some n) e l = longer bytes n l

-- none but the empty one
pub stays : (p : List ℕ → Bool) (b : ℕ) (bytes : List ℕ) → p [] ≡ true → ((w : List ℕ) → p (b ∷ w) ≡ false) → IsLongest p (b ∷ bytes) 0
stays p b bytes e fails = record { fits = omega arith; is = e; most = by_len }
  where
    by_len : (m : ℕ) → m ≤ length (b ∷ bytes) → p (take m (b ∷ bytes)) ≡ true → m ≤ 0
    by_len zero le h = omega arith
    by_len (suc m) le h = absurd (both_ways (p (b ∷ take m bytes)) (fails (take m bytes)) h)

-- none at all
pub none_begins : (p : List ℕ → Bool) (b : ℕ) (bytes : List ℕ) → p [] ≡ false → ((w : List ℕ) → p (b ∷ w) ≡ false) → BeginsNone p (b ∷ bytes)
none_begins p b bytes e fails zero le h = both_ways (p []) e h
none_begins p b bytes e fails (suc m) le h = both_ways (p (b ∷ take m bytes)) (fails (take m bytes)) h

pub nothing_begins : (p : List ℕ → Bool) → p [] ≡ false → BeginsNone p []
nothing_begins p e zero le h = both_ways (p []) e h
nothing_begins p e (suc m) le h = omega (arith, le)

-- the end of a text
pub ends : (p : List ℕ → Bool) → p [] ≡ true → IsLongest p [] 0
ends p e = record { fits = omega arith; is = e; most = λ m le h. le }

-- all bytes of a class
pub run_longest : (p : ℕ → Bool) (bytes : List ℕ) → IsLongest (list_all p) bytes (prefix_len p bytes)
run_longest p [] = ends (list_all p) refl
run_longest p (b ∷ bytes) = by_test (run_longest p bytes) (p b) refl
  where
    by_test : IsLongest (list_all p) bytes (prefix_len p bytes) → (t : Bool) → p b ≡ t → IsLongest (list_all p) (b ∷ bytes) (cond t (1 + prefix_len p bytes) 0)
    by_test more true e =
        let s : 1 + prefix_len p bytes ≡ suc (prefix_len p bytes) = omega arith in
        rw s (longer (list_all p) (list_all p) b (λ w. ap (λ t. t && list_all p w) e) bytes (prefix_len p bytes) more)
    by_test more false e = stays (list_all p) b bytes refl (λ w. ap (λ t. t && list_all p w) e)
