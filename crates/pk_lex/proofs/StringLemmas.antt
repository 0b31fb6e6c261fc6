-- Where a string ends.
use Rattle.std.proofs.Common.{◌≡◌, ℕ, zero, suc, ◌+◌, ◌<◌, ◌≤◌, ◌==◌, Bool, true, false, cond, Option, Some, None, MatchOption, List, [], ◌∷◌, length, take, drop, get_or, refl, sym, ap, ◌∙◌, arith}
use Rattle.std.specs.Option.{option_map}
use Rattle.std.proofs.lemmas.List.{drop_more, drop_all}
use Rattle.pk_lex.specs.Bytes.{is_newline, same}
use Rattle.pk_lex.specs.Words.{IsLongest, BeginsNone}
use Rattle.pk_lex.specs.Characters.{is_rest_of_string}
use Rattle.pk_lex.proofs.Longest.{answer_longer, none_begins, nothing_begins}

-- how many bytes there are up to the quote that closes, with it
abbrev pub string_run : Bool → List ℕ → Option ℕ
string_run escaped [] = None
string_run escaped (b ∷ bytes) =
    cond (is_newline b) None (cond escaped (option_map suc (string_run false bytes)) (cond (b == 34) (Some 1) (option_map suc (string_run (b == 92) bytes))))

abbrev Answers : Bool → List ℕ → Option ℕ → Type 0
Answers escaped bytes o = MatchOption o (BeginsNone (is_rest_of_string escaped) bytes) (λ n. IsLongest (is_rest_of_string escaped) bytes n)

closing : (b : ℕ) (bytes : List ℕ) → is_newline b ≡ false → (b == 34) ≡ true → IsLongest (is_rest_of_string false) (b ∷ bytes) 1
closing b bytes n q = record { fits = omega arith; is = by_tests (take 0 bytes) (is_newline b) (b == 34) n q refl; most = by_len }
  where
    by_tests : (w : List ℕ) (s t : Bool) → s ≡ false → t ≡ true → same w [] ≡ true → cond s false (cond t (same w []) (is_rest_of_string (b == 92) w)) ≡ true
    by_tests w true t e f h = cc
    by_tests w false true e f h = h
    by_tests w false false e f h = cc

    only_empty : (w : List ℕ) (s t : Bool) → s ≡ false → t ≡ true → cond s false (cond t (same w []) (is_rest_of_string (b == 92) w)) ≡ true → same w [] ≡ true
    only_empty w true t e f h = cc
    only_empty w false true e f h = h
    only_empty w false false e f h = cc

    empty_take : (m : ℕ) → m ≤ length bytes → same (take m bytes) [] ≡ true → m ≤ 0
    empty_take zero le h = omega arith
    empty_take (suc m) le h = absurd (no_bytes bytes le h)
      where
        no_bytes : (l : List ℕ) → suc m ≤ length l → same (take (suc m) l) [] ≡ true → ⊥
        no_bytes [] le h = omega (arith, le)
        no_bytes (c ∷ l) le h = cc

    by_len : (m : ℕ) → m ≤ length (b ∷ bytes) → is_rest_of_string false (take m (b ∷ bytes)) ≡ true → m ≤ 1
    by_len zero le h = omega arith
    by_len (suc m) le h =
        let k = empty_take m (omega (arith, le)) (only_empty (take m bytes) (is_newline b) (b == 34) n q h) in omega (arith, k)

pub string_answer : (escaped : Bool) (bytes : List ℕ) → Answers escaped bytes (string_run escaped bytes)
string_answer escaped [] = nothing_begins (is_rest_of_string escaped) refl
string_answer escaped (b ∷ bytes) = by_newline (string_answer false bytes) (string_answer (b == 92) bytes) (is_newline b) refl
  where
    by_quote : Answers (b == 92) bytes (string_run (b == 92) bytes) → (t : Bool) → is_newline b ≡ false → (b == 34) ≡ t → Answers false (b ∷ bytes) (cond t (Some 1) (option_map suc (string_run (b == 92) bytes)))
    by_quote more true n q = closing b bytes n q
    by_quote more false n q =
        answer_longer (is_rest_of_string false) (is_rest_of_string (b == 92)) b
        (λ w. ap (λ s. cond s false (cond (b == 34) (same w []) (is_rest_of_string (b == 92) w))) n ∙ ap (λ s. cond s (same w []) (is_rest_of_string (b == 92) w)) q)
        bytes (string_run (b == 92) bytes) refl more

    by_escape : Answers false bytes (string_run false bytes) → Answers (b == 92) bytes (string_run (b == 92) bytes) → (e : Bool) → is_newline b ≡ false →
        Answers e (b ∷ bytes) (cond e (option_map suc (string_run false bytes)) (cond (b == 34) (Some 1) (option_map suc (string_run (b == 92) bytes))))
    by_escape more other true n =
        answer_longer (is_rest_of_string true) (is_rest_of_string false) b
        (λ w. ap (λ s. cond s false (is_rest_of_string false w)) n)
        bytes (string_run false bytes) refl more
    by_escape more other false n = by_quote other (b == 34) n refl

    by_newline : Answers false bytes (string_run false bytes) → Answers (b == 92) bytes (string_run (b == 92) bytes) → (t : Bool) → is_newline b ≡ t →
        Answers escaped (b ∷ bytes) (cond t None (cond escaped (option_map suc (string_run false bytes)) (cond (b == 34) (Some 1) (option_map suc (string_run (b == 92) bytes)))))
    by_newline more other true n = none_begins (is_rest_of_string escaped) b bytes refl (λ w. ap (λ s. cond s false (cond escaped (is_rest_of_string false w) (cond (b == 34) (same w []) (is_rest_of_string (b == 92) w)))) n)
    by_newline more other false n = by_escape more other escaped n

none_after : (i : ℕ) (o whole : Option ℕ) → o ≡ None → option_map (λ n. i + n) o ≡ whole → whole ≡ None
none_after i None whole e h = sym h
none_after i (Some n) whole e h = cc

some_after : (i n : ℕ) (o whole : Option ℕ) → o ≡ Some n → option_map (λ n. i + n) o ≡ whole → whole ≡ Some (i + n)
some_after i n None whole e h = cc
some_after i n (Some m) whole e h = let f : m ≡ n = cc in sym h ∙ ap (λ k. Some (i + k)) f

answer_none : (text : List ℕ) (o : Option ℕ) → o ≡ None → Answers false text o → BeginsNone (is_rest_of_string false) text
answer_none text None e a = a
answer_none text (Some n) e a = cc

answer_some : (text : List ℕ) (m : ℕ) (o : Option ℕ) → o ≡ Some m → Answers false text o → IsLongest (is_rest_of_string false) text m
answer_some text m None e a = cc
answer_some text m (Some n) e a = let f : m ≡ n = cc in rw f a

pub string_stops : (text : List ℕ) (i : ℕ) (escaped : Bool) → i < length text → is_newline (get_or text i 0) ≡ true →
    option_map (λ n. i + n) (string_run escaped (drop i text)) ≡ string_run false text → BeginsNone (is_rest_of_string false) text
string_stops text i escaped l n h =
    let none : string_run escaped (drop i text) ≡ None =
    rw (drop_more text i 0 l)
    (ap (λ s. cond s None (cond escaped (option_map suc (string_run false (drop (i + 1) text))) (cond (get_or text i 0 == 34) (Some 1) (option_map suc (string_run (get_or text i 0 == 92) (drop (i + 1) text)))))) n)
    in
    answer_none text (string_run false text) (none_after i (string_run escaped (drop i text)) (string_run false text) none h) (string_answer false text)

pub string_ends : (text : List ℕ) (i : ℕ) (escaped : Bool) → length text ≤ i →
    option_map (λ n. i + n) (string_run escaped (drop i text)) ≡ string_run false text → BeginsNone (is_rest_of_string false) text
string_ends text i escaped l h =
    let none : string_run escaped (drop i text) ≡ None = rw (drop_all i text l) refl in
    answer_none text (string_run false text) (none_after i (string_run escaped (drop i text)) (string_run false text) none h) (string_answer false text)

pub string_closes : (text : List ℕ) (i : ℕ) → i < length text → is_newline (get_or text i 0) ≡ false → (get_or text i 0 == 34) ≡ true →
    option_map (λ n. i + n) (string_run false (drop i text)) ≡ string_run false text → IsLongest (is_rest_of_string false) text (i + 1)
string_closes text i l n q h =
    let one : string_run false (drop i text) ≡ Some 1 =
    rw (drop_more text i 0 l)
    (ap (λ s. cond s None (cond (get_or text i 0 == 34) (Some 1) (option_map suc (string_run (get_or text i 0 == 92) (drop (i + 1) text))))) n
    ∙ ap (λ s. cond s (Some 1) (option_map suc (string_run (get_or text i 0 == 92) (drop (i + 1) text)))) q)
    in
    answer_some text (i + 1) (string_run false text) (some_after i 1 (string_run false (drop i text)) (string_run false text) one h) (string_answer false text)
