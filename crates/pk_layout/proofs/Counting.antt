-- How often an element stands in the first items of a list.
use Rattle.std.proofs.Common.{◌≡◌, ◌≢◌, ℕ, zero, suc, ◌+◌, ◌<◌, ◌≤◌, ◌==◌, List, [], ◌∷◌, length, take, get_or, Bool, true, false, cond, refl, sym, ap, subst, ◌∙◌, arith, add-one, sum, inl, inr, ◌⊎◌, get_or-set_other, get_or-set_same}
use lib.ListN.{set}
use Rattle.std.proofs.lemmas.Bool.Decides.{eqb_tells}
use Rattle.std.proofs.lemmas.List.Sums.{count_by_more_yes, count_by_more_no, sum_by-cons, sum_by-take-le, sum_by-set, sum_by_more}
use Rattle.std.proofs.lemmas.List.{length-replicate}
use Rattle.pk_layout.specs.Gathered.{gathered, owned_by, times}
use Rattle.pk_layout.proofs.Lists.{length_more}

pub same_or_not : (m n : ℕ) → (m ≡ n) ⊎ (m ≢ n)
same_or_not m n = elim (eqb_tells m n) [ inl same ↦ inl same.1 | inr other ↦ inr other.1 ]

equals_itself : (n : ℕ) → (n == n) ≡ true
equals_itself n = elim (eqb_tells n n) [ inl same ↦ same.0 | inr other ↦ absurd (other.1 refl) ]

differs : (m n : ℕ) → m ≢ n → (m == n) ≡ false
differs m n h = elim (eqb_tells m n) [ inl same ↦ absurd (h same.1) | inr other ↦ other.0 ]

pub times_up : (e : ℕ) (xs : List ℕ) (i j : ℕ) → i ≤ j → times e (take i xs) ≤ times e (take j xs)
times_up e [] zero j h = omega arith
times_up e [] (suc i) zero h = absurd (omega (arith, h))
times_up e [] (suc i) (suc j) h = omega arith
times_up e (x ∷ xs) zero j h = omega arith
times_up e (x ∷ xs) (suc i) zero h = absurd (omega (arith, h))
times_up e (x ∷ xs) (suc i) (suc j) h =
    let one : ℕ → ℕ = λ y. cond (y == e) 1 0 in
    omega (arith, sum_by-cons one x (take i xs), sum_by-cons one x (take j xs), times_up e xs i j (omega (arith, h)))

pub times_all : (e : ℕ) (xs : List ℕ) (i : ℕ) → i ≤ length xs → times e (take i xs) ≤ times e xs
times_all e xs i h = sum_by-take-le (λ y. cond (y == e) 1 0) xs i

pub times_next : (xs : List ℕ) (i : ℕ) → i < length xs → times (get_or xs i 0) (take (i + 1) xs) ≡ times (get_or xs i 0) (take i xs) + 1
times_next xs i h = count_by_more_yes (λ x. x == get_or xs i 0) xs i 0 h (equals_itself (get_or xs i 0))

abbrev one_at : ℕ → ℕ → ℕ
one_at u x = cond (x == u) 1 0

counts_one : (x u : ℕ) → x ≡ u → one_at u x ≡ 1
counts_one x u same = ap (λ (y : ℕ). one_at u y) same ∙ ap (λ (c : Bool). cond {A = ℕ} c 1 0) (equals_itself u)

counts_none : (x u : ℕ) → x ≢ u → one_at u x ≡ 0
counts_none x u other = ap (λ (c : Bool). cond {A = ℕ} c 1 0) (differs x u other)

-- where an element stands for the time after i others
nth_time : (u : ℕ) (xs : List ℕ) (i : ℕ) → i < times u xs → (j : ℕ) × (j < length xs) × (get_or xs j 0 ≡ u) × (times u (take (suc j) xs) ≡ suc i)
nth_time u [] i h = absurd (omega (arith, h))
nth_time u (x ∷ xs) zero h = elim (same_or_not x u) [
  | inl same ↦ (0, omega arith, same, omega (arith, counts_one x u same, sum_by-cons (one_at u) x []))
  | inr other ↦ (
      let it = nth_time u xs zero (omega (arith, h, sum_by-cons (one_at u) x xs, counts_none x u other)) in
      (suc it.0, omega (arith, it.1), it.2, omega (arith, it.3, sum_by-cons (one_at u) x (take (suc it.0) xs), counts_none x u other)))
]
nth_time u (x ∷ xs) (suc i) h = elim (same_or_not x u) [
  | inl same ↦ (
      let it = nth_time u xs i (omega (arith, h, sum_by-cons (one_at u) x xs, counts_one x u same)) in
      (suc it.0, omega (arith, it.1), it.2, omega (arith, it.3, sum_by-cons (one_at u) x (take (suc it.0) xs), counts_one x u same)))
  | inr other ↦ (
      let it = nth_time u xs (suc i) (omega (arith, h, sum_by-cons (one_at u) x xs, counts_none x u other)) in
      (suc it.0, omega (arith, it.1), it.2, omega (arith, it.3, sum_by-cons (one_at u) x (take (suc it.0) xs), counts_none x u other)))
]

pub time_at : (u : ℕ) (xs : List ℕ) (i : ℕ) → i < times u xs → (j : ℕ) × (j < length xs) × (get_or xs j 0 ≡ u) × (times u (take (j + 1) xs) ≡ i + 1)
time_at u xs i h =
    let it = nth_time u xs i h in
    (it.0, it.1, it.2, ap (λ (k : ℕ). times u (take k xs)) (add-one it.0) ∙ it.3 ∙ sym (add-one i))

-- one item more is counted
pub counted_more : (base : ℕ → ℕ) (counts targets : List ℕ) (j m : ℕ) → j < length targets → get_or targets j 0 < length counts
    → ((u : ℕ) → u < length counts → get_or counts u 0 ≡ base u + times u (take j targets)) → m ≡ get_or counts (get_or targets j 0) 0 + 1
    → (u : ℕ) → u < length counts → get_or (set counts (get_or targets j 0) m) u 0 ≡ base u + times u (take (j + 1) targets)
counted_more base counts targets j m h low each is u in_range = elim (same_or_not u (get_or targets j 0)) [
  | inl same ↦ (
      let t = get_or targets j 0 in
      let at : get_or (set counts t m) t 0 ≡ m = get_or-set_same counts t m 0 low in
      let before = each t low in
      let after = times_next targets j h in
      let whole : get_or (set counts t m) t 0 ≡ base t + times t (take (j + 1) targets) = omega (arith, at, before, after, is) in
      rw same whole)
  | inr other ↦ (
      let t = get_or targets j 0 in
      let kept : get_or (set counts t m) u 0 ≡ get_or counts u 0 = get_or-set_other counts t u m 0 other in
      let none = count_by_more_no (λ x. x == u) targets j 0 h (differs t u (λ e. other (sym e))) in
      omega (arith, kept, each u in_range, none))
]

-- what is counted of all elements
pub sum_one_more : (counts : List ℕ) (u m : ℕ) → u < length counts → m ≡ get_or counts u 0 + 1 → sum (set counts u m) ≡ sum counts + 1
sum_one_more counts u m h is = omega (arith, sum_by-set (λ x. x) counts u m 0 h, is)

-- so many slots do the elements before e have
pub long_owned : (counts : List ℕ) (e : ℕ) → e ≤ length counts → length (gathered (owned_by counts) e) ≡ sum (take e counts) + e
long_owned counts zero h = refl
long_owned counts (suc e) h =
    let more = sum_by_more (λ x. x) counts e 0 (omega (arith, h)) in
    let all : length (gathered (owned_by counts) (e + 1)) ≡ sum (take (e + 1) counts) + (e + 1) =
    omega (arith, long_owned counts e (omega (arith, h)), length_more (owned_by counts) e, length-replicate (get_or counts e 0 + 1) e, more) in
    subst (λ (k : ℕ). length (gathered (owned_by counts) k) ≡ sum (take k counts) + k) (add-one e) all
