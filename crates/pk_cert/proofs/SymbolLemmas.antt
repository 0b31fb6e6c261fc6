-- Symbols are told by their bytes, and where one that is read stops.
use Rattle.std.specs.Prelude.{◌≡◌, ℕ, zero, suc, ◌+◌, ◌-◌, ◌<◌, ◌≤◌, ◌^◌, ℤ, pos, negsuc, neg_ℤ, List, [], ◌∷◌, ◌++◌, length, drop, slice_index, Option, Some, None, IfSome}
use Rattle.std.specs.Fmt.{decimal}
use Rattle.std.proofs.Common.{arith, refl, sym, ap, subst, ◌∙◌, inl, inr, append_assoc}
use Rattle.std.proofs.lemmas.List.{append-nil}
use Rattle.std.proofs.lemmas.Bool.{cases_lt}
use Rattle.std.proofs.lemmas.Bool.Decides.{nat_tests}
use Rattle.pk_cert.specs.declared.rows.Symbol.{Symbol}
use Rattle.pk_cert.specs.Beginnings.{TextsOf, Leads, IsStop}
use Rattle.pk_cert.specs.Rows.{symbol_text, IsShort, IsSymbol, end_of, ended_text, seen}
use Rattle.pk_cert.specs.declared.numbers.Decimal.{Decimal}
use Rattle.pk_cert.specs.Pieces.{AreFirst, value_of, IsBetween, IsCount, counted, BeginsAsNumber, IsSymbolRead}
use Rattle.pk_cert.proofs.Stops.{stop_part_first, stop_behind}
use Rattle.pk_cert.proofs.Digits.{AreDigits, decimal_are, decimal_same, some_digits}

-- bytes of symbols
abbrev Are : List ℕ → Type 0
Are [] = Unit {0}
Are (c ∷ cs) = (33 ≤ c) × (c ≤ 57) × Are cs

all_are : (cs : List ℕ) → AreDigits cs → Are cs
all_are [] h = tt
all_are (c ∷ cs) h = (omega (arith, h.0), h.1, all_are cs h.2)

symbol_are : (z : Option ℤ) → IfSome z IsShort → Are (symbol_text z)
symbol_are None h = (omega arith, omega arith, tt)
symbol_are (Some (pos n)) h = all_are (decimal n) (decimal_are n h)
symbol_are (Some (negsuc n)) h = (omega arith, omega arith, all_are (decimal (suc n)) (decimal_are (suc n) h))

-- a symbol ends where a space or a newline stands
parts : (xs ys r s : List ℕ) (c d : ℕ) → Are xs → Are ys → c ≤ 32 → d ≤ 32 → xs ++ c ∷ r ≡ ys ++ d ∷ s → (xs ≡ ys) × (c ≡ d) × (r ≡ s)
parts [] [] r s c d a b p q e = (refl, cc, cc)
parts [] (y ∷ ys) r s c d a b p q e = let h : c ≡ y = cc in absurd (omega (arith, p, b.0, h))
parts (x ∷ xs) [] r s c d a b p q e = let h : x ≡ d = cc in absurd (omega (arith, q, a.0, h))
parts (x ∷ xs) (y ∷ ys) r s c d a b p q e =
    let h : x ≡ y = cc in
    let more = parts xs ys r s c d a.2 b.2 p q cc in
    let t : xs ≡ ys = more.0 in
    (cc, more.1, more.2)

-- the first byte of a number is a digit
no_digit : (n c : ℕ) (ds : List ℕ) → n < 10 ^ 39 → c < 48 → decimal n ≡ c ∷ ds → ⊥
no_digit n c ds h l e = let d = subst AreDigits e (decimal_are n h) in omega (arith, d.0, l)

symbol_same : (y z : Option ℤ) → IfSome y IsShort → IfSome z IsShort → symbol_text y ≡ symbol_text z → y ≡ z
symbol_same None None h k e = refl
symbol_same None (Some (pos n)) h k e = absurd (no_digit n 42 [] k (omega arith) (sym e))
symbol_same None (Some (negsuc n)) h k e = absurd (let c : ◌≡◌ {A = ℕ} 42 45 = cc in omega (arith, c))
symbol_same (Some (pos m)) None h k e = absurd (no_digit m 42 [] h (omega arith) e)
symbol_same (Some (negsuc m)) None h k e = absurd (let c : ◌≡◌ {A = ℕ} 45 42 = cc in omega (arith, c))
symbol_same (Some (pos m)) (Some (pos n)) h k e = ap (λ (i : ℕ). Some (pos i)) (decimal_same m n h k e)
symbol_same (Some (pos m)) (Some (negsuc n)) h k e = absurd (no_digit m 45 (decimal (suc n)) h (omega arith) e)
symbol_same (Some (negsuc m)) (Some (pos n)) h k e = absurd (no_digit n 45 (decimal (suc m)) k (omega arith) (sym e))
symbol_same (Some (negsuc m)) (Some (negsuc n)) h k e =
    let ds : decimal (suc m) ≡ decimal (suc n) = cc in
    let same = decimal_same (suc m) (suc n) h k ds in
    ap (λ (i : ℕ). Some (negsuc i)) (omega (arith, same))

end_small : (m : ℕ) → end_of m ≤ 32
end_small m = grind (arith, nat_tests)

pub end_mark : (m : ℕ) → end_of m < 48
end_mark m = omega (arith, end_small m)

-- a symbol and its end are told by their bytes, whatever stands behind them
pub symbols_told : (bounds m : ℕ) (y z : Option ℤ) (r s : List ℕ) → IsSymbol bounds m y → IsSymbol bounds m z → ended_text m y ++ r ≡ ended_text m z ++ s → (y ≡ z) × (r ≡ s)
symbols_told bounds m y z r s h k e =
    let q = parts (symbol_text y) (symbol_text z) r s (end_of m) (end_of m) (symbol_are y h.short) (symbol_are z k.short) (end_small m) (end_small m)
    (sym (append_assoc (symbol_text y) (end_of m ∷ []) r) ∙ e ∙ append_assoc (symbol_text z) (end_of m ∷ []) s) in
    (symbol_same y z h.short k.short q.0, q.2)

-- and so is a number with its end
pub counts_told : (least most end : ℕ) → most < 10 ^ 39 → end ≤ 32 → (a b : ℕ) (x y : List ℕ) → IsBetween least most a → IsBetween least most b
    → counted end a ++ x ≡ counted end b ++ y → (a ≡ b) × (x ≡ y)
counts_told least most end small mark a b x y h k e =
    let p : a < 10 ^ 39 = omega (arith, h.high, small) in
    let q : b < 10 ^ 39 = omega (arith, k.high, small) in
    let r = parts (decimal a) (decimal b) x y end end (all_are (decimal a) (decimal_are a p)) (all_are (decimal b) (decimal_are b q)) mark mark
    (sym (append_assoc (decimal a) (end ∷ []) x) ∙ e ∙ append_assoc (decimal b) (end ∷ []) y) in
    (decimal_same a b p q r.0, r.2)

-- no symbol begins with `b`
pub no_b : (bounds m : ℕ) (z : Option ℤ) (r s : List ℕ) → IsSymbol bounds m z → ended_text m z ++ r ≡ 98 ∷ s → ⊥
no_b bounds m z r s h e = by (symbol_text z) (symbol_are z h.short) (sym (append_assoc (symbol_text z) (end_of m ∷ []) r) ∙ e)
  where
    by : (xs : List ℕ) → Are xs → xs ++ end_of m ∷ r ≡ 98 ∷ s → ⊥
    by [] a f = let h : end_of m ≡ 98 = cc in omega (arith, h, end_small m)
    by (x ∷ xs) a f = let h : x ≡ 98 = cc in omega (arith, h, a.1)

-- ---- where a symbol stops

abbrev pub Symbols : ℕ → ℕ → List ℕ → Type 0
Symbols bounds m = TextsOf (IsSymbol bounds m) (ended_text m)

abbrev pub Counts : ℕ → ℕ → List ℕ → Type 0
Counts least m = TextsOf (IsBetween least (10 ^ 39 - 1)) (counted (end_of m))

pub no_star : (bounds m : ℕ) → m < bounds → IsSymbol bounds m None
no_star bounds m h = record { number = λ k. absurd (omega (arith, h, k)); short = tt }

-- a number's first byte
first_digit : (m n c : ℕ) (r x : List ℕ) → n < 10 ^ 39 → c < 48 → x ≡ counted (end_of m) n ++ r → slice_index x 0 ≡ c → ⊥
first_digit m n c r x small low e f = by (decimal n) (some_digits n small) (decimal_are n small) (e ∙ append_assoc (decimal n) (end_of m ∷ []) r)
  where
    by : (ds : List ℕ) → 0 < length ds → AreDigits ds → x ≡ ds ++ end_of m ∷ r → ⊥
    by [] l a g = absurd (omega (arith, l))
    by (d ∷ ds) l a g = let h : slice_index x 0 ≡ d = ap (λ (y : List ℕ). slice_index y 0) g in omega (arith, h, f, low, a.0)

pub star_stops : (bounds m : ℕ) (bytes : List ℕ) (n : ℕ) → m < bounds → slice_index bytes 0 ≡ 42
    → IsStop (λ (t : List ℕ). t ≡ 42 ∷ end_of m ∷ []) bytes n → IsStop (Symbols bounds m) bytes n
star_stops bounds m bytes n some first = stop_part_first (λ (t : List ℕ). t ≡ 42 ∷ end_of m ∷ []) (Symbols bounds m) bytes n
    (λ x e. ([], (None, no_star bounds m some, append-nil x ∙ e)))
    (λ x f b. back x b.0 b.1 b.2.0 b.2.1 (f ∙ first) (b.3 ∙ ap (λ (t : List ℕ). t ++ b.1) b.2.2) b.2.2 b.3)
  where
    back : (x t r : List ℕ) (z : Option ℤ) → IsSymbol bounds m z → slice_index x 0 ≡ 42 → x ≡ ended_text m z ++ r → t ≡ ended_text m z → x ≡ t ++ r
        → Leads (λ (t : List ℕ). t ≡ 42 ∷ end_of m ∷ []) x
    back x t r None is f e g h = (t, r, g, h)
    back x t r (Some (pos v)) is f e g h = absurd (first_digit m v 42 r x is.short (omega arith) e f)
    back x t r (Some (negsuc v)) is f e g h = absurd (let k : slice_index x 0 ≡ 45 = ap (λ (y : List ℕ). slice_index y 0) e in omega (arith, k, f))

pub positive_stops : (bounds m : ℕ) (bytes : List ℕ) (n : ℕ) → BeginsAsNumber bounds m bytes → IsStop (Counts 0 m) bytes n → IsStop (Symbols bounds m) bytes n
positive_stops bounds m bytes n begins = stop_part_first (Counts 0 m) (Symbols bounds m) bytes n
    (λ x t. ([], (Some (pos t.0), record { number = λ _. refl; short = omega (arith, t.1.high) }, append-nil x ∙ t.2)))
    (λ x f b. back x b.1 b.2.0 b.2.1 f (b.3 ∙ ap (λ (t : List ℕ). t ++ b.1) b.2.2))
  where
    back : (x r : List ℕ) (z : Option ℤ) → IsSymbol bounds m z → slice_index x 0 ≡ slice_index bytes 0 → x ≡ ended_text m z ++ r → Leads (Counts 0 m) x
    back x r None is f e =
        let k : slice_index x 0 ≡ 42 = ap (λ (y : List ℕ). slice_index y 0) e in
        absurd (elim (cases_lt m bounds) [ inl h ↦ begins.star h (sym f ∙ k) | inr h ↦ let no = is.number h in cc ])
    back x r (Some (pos v)) is f e = (counted (end_of m) v, r, (v, record { low = omega arith; high = omega (arith, is.short) }, refl), e)
    back x r (Some (negsuc v)) is f e = let k : slice_index x 0 ≡ 45 = ap (λ (y : List ℕ). slice_index y 0) e in absurd (begins.sign (sym f ∙ k))

pub negative_stops : (bounds m : ℕ) (rest : List ℕ) (n : ℕ) → IsStop (Counts 1 m) rest n → IsStop (Symbols bounds m) (45 ∷ rest) (1 + n)
negative_stops bounds m rest n = stop_behind (Counts 1 m) (Symbols bounds m) (45 ∷ []) rest n (λ x t. on x t.0 t.1 t.2) (λ x b. back x b.1 b.2.0 b.2.1 (b.3 ∙ ap (λ (t : List ℕ). t ++ b.1) b.2.2))
  where
    on : (x : List ℕ) (v : ℕ) → IsBetween 1 (10 ^ 39 - 1) v → x ≡ counted (end_of m) v → Symbols bounds m (45 ∷ x)
    on x zero is e = absurd (omega (arith, is.low))
    on x (suc v) is e = (Some (negsuc v), record { number = λ _. refl; short = omega (arith, is.high) }, ap (λ (y : List ℕ). 45 ∷ y) e)

    back : (x r : List ℕ) (z : Option ℤ) → IsSymbol bounds m z → 45 ∷ x ≡ ended_text m z ++ r → Leads (Counts 1 m) x
    back x r None is e = absurd (let k : ◌≡◌ {A = ℕ} 45 42 = cc in omega (arith, k))
    back x r (Some (pos v)) is e = absurd (first_digit m v 45 r (45 ∷ x) is.short (omega arith) e refl)
    back x r (Some (negsuc v)) is e = (counted (end_of m) (suc v), r, (suc v, record { low = omega arith; high = omega (arith, is.short) }, refl), cc)

pub read_negative : (bounds m v : ℕ) (bytes : List ℕ) (n : ℕ) (s : Symbol) → 0 < length bytes → slice_index bytes 0 ≡ 45 → IsBetween 1 (10 ^ 39 - 1) v
    → AreFirst (counted (end_of m) v) (drop 1 bytes) n → s ≡ seen (Some (neg_ℤ (pos v))) → IsSymbolRead bounds m bytes s (n + 1)
read_negative bounds m v [] n s h f is first e = absurd (omega (arith, h))
read_negative bounds m zero (b ∷ bytes) n s h f is first e = absurd (omega (arith, is.low))
read_negative bounds m (suc v) (b ∷ bytes) n s h f is first e =
    let more : n + 1 ≡ suc n = omega arith in
    record {
      z = Some (negsuc v);
      is = record { number = λ _. refl; short = omega (arith, is.high) };
      seen = e;
      first = record {
        size = omega (arith, first.size);
        told = (λ i. f i ∷ first.told i) ∙ ap (λ (j : ℕ). (45 ∷ decimal (suc v) ++ end_of m ∷ []) ++ drop j (b ∷ bytes)) (sym more);
      };
    }

-- ---- the same of what `count` tells

module _ (bounds m : ℕ) (bytes : List ℕ) (n most end : ℕ) (all : most ≡ 10 ^ 39 - 1) (is : end ≡ end_of m) where
  pub stops_below_0 : 0 < length bytes → slice_index bytes 0 ≡ 45 → IsStop (TextsOf (IsBetween 1 most) (counted end)) (drop 1 bytes) n → IsStop (Symbols bounds m) bytes (n + 1)
  stops_below_0 some first s =
      subst (λ (x : List ℕ). IsStop (Symbols bounds m) x (n + 1)) (signed bytes some first)
      (subst (IsStop (Symbols bounds m) (45 ∷ drop 1 bytes)) (omega arith)
      (negative_stops bounds m (drop 1 bytes) n
      (subst (λ (e : ℕ). IsStop (TextsOf (IsBetween 1 (10 ^ 39 - 1)) (counted e)) (drop 1 bytes) n) is
      (subst (λ (a : ℕ). IsStop (TextsOf (IsBetween 1 a) (counted end)) (drop 1 bytes) n) all s))))
    where
      signed : (xs : List ℕ) → 0 < length xs → slice_index xs 0 ≡ 45 → 45 ∷ drop 1 xs ≡ xs
      signed [] h f = absurd (omega (arith, h))
      signed (x ∷ xs) h f = ap (λ (c : ℕ). c ∷ xs) (sym f)

  pub stops_above : BeginsAsNumber bounds m bytes → IsStop (TextsOf (IsBetween 0 most) (counted end)) bytes n → IsStop (Symbols bounds m) bytes n
  stops_above begins s =
      positive_stops bounds m bytes n begins
      (subst (λ (e : ℕ). IsStop (TextsOf (IsBetween 0 (10 ^ 39 - 1)) (counted e)) bytes n) is
      (subst (λ (a : ℕ). IsStop (TextsOf (IsBetween 0 a) (counted end)) bytes n) all s))

  pub reads_below_0 : (d : Decimal) (s : Symbol) → 0 < length bytes → slice_index bytes 0 ≡ 45 → IsCount 1 most end (drop 1 bytes) d n → s ≡ seen (Some (neg_ℤ (pos (value_of d)))) → IsSymbolRead bounds m bytes s (n + 1)
  reads_below_0 d s some first r e =
      read_negative bounds m (value_of d) bytes n s some first record { low = r.between.low; high = omega (arith, r.between.high, all) }
      (subst (λ (x : ℕ). AreFirst (counted x (value_of d)) (drop 1 bytes) n) is r.first) e

  pub reads_above : (d : Decimal) (s : Symbol) → IsCount 0 most end bytes d n → s ≡ seen (Some (pos (value_of d))) → IsSymbolRead bounds m bytes s n
  reads_above d s r e = record {
    z = Some (pos (value_of d));
    is = record { number = λ _. refl; short = omega (arith, r.between.high, all) };
    seen = e;
    first = subst (λ (x : ℕ). AreFirst (counted x (value_of d)) bytes n) is r.first;
  }
