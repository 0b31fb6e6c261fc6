-- Widening ends: each step moves a bound past a threshold, or to the type's end.
use Rattle.std.specs.Prelude.{◌≡◌, ℕ, suc, ◌+◌, ◌*◌, ◌<◌, ◌≤◌, ◌⊎◌, ◌&&◌, Bool, true, false, if◌then◌else◌, ℤ, ◌≤ℤ◌, ◌<ℤ◌, int_le, int_lt, List, [], ◌∷◌, length, filter, fold}
use Rattle.std.proofs.Common.{cond}
use Rattle.std.specs.Int.{int_min, int_max}
use Rattle.std.proofs.Common.{arith, refl, ap, sym, ◌∙◌, inl, inr}
use Rattle.std.proofs.lemmas.Int.{ints}
use Rattle.pk_ctypes.specs.declared.types.IntType.{IntType}
use Rattle.pk_ctypes.specs.Types.{low_of, high_of, is_in_type, InType}
use Rattle.pk_ctypes.proofs.Small.{both_true, and_true}
use Rattle.pk_interval.specs.Ranges.{Range, Holds, IsIn, is_within}
use Rattle.pk_interval.specs.Widening.{next_up, next_down, widened, IsChain, Widens, tally, lies_above, lies_below, moves, MovesAreRanks}
use Rattle.pk_interval.proofs.NextThresholds.{up_in, down_in}

abbrev In : List ℤ → ℤ → Type 0
In [] r = ⊥
In (c ∷ cs) r = (c ≡ r) ⊎ In cs r

false_and : (a b : Bool) → a ≡ false → (a && b) ≡ false
false_and false b e = refl
false_and true b e = absurd (cc)

less_true : (a b : ℤ) → a <ℤ b → int_lt a b ≡ true
less_true a b h = sym (omega (arith, ints))

-- ---- counts
tally_le_length : (p : ℤ → Bool) (cs : List ℤ) → tally p cs ≤ length cs
tally_le_length p [] = omega arith
tally_le_length p (c ∷ cs) = by (p c) (tally_le_length p cs)
  where
    by : (b : Bool) → tally p cs ≤ length cs → cond b 1 0 + tally p cs ≤ suc (length cs)
    by true k = omega arith
    by false k = omega arith

count_le : (p q : ℤ → Bool) (cs : List ℤ) → ((c : ℤ) → q c ≡ true → p c ≡ true) → tally q cs ≤ tally p cs
count_le p q [] h = omega arith
count_le p q (c ∷ cs) h = by (p c) (q c) (h c) (count_le p q cs h)
  where
    by : (a b : Bool) → (b ≡ true → a ≡ true) → tally q cs ≤ tally p cs → cond b 1 0 + tally q cs ≤ cond a 1 0 + tally p cs
    by true true g k = omega arith
    by true false g k = omega arith
    by false false g k = omega arith
    by false true g k = let e = g refl in absurd (cc)

count_falls : (p q : ℤ → Bool) (cs : List ℤ) (r : ℤ) → ((c : ℤ) → q c ≡ true → p c ≡ true) → In cs r → p r ≡ true → q r ≡ false → tally q cs < tally p cs
count_falls p q [] r h m e f = absurd m
count_falls p q (c ∷ cs) r h (inl s) e f = by (p c) (q c) (ap p s ∙ e) (ap q s ∙ f)
  where
    by : (a b : Bool) → a ≡ true → b ≡ false → cond b 1 0 + tally q cs < cond a 1 0 + tally p cs
    by true false g k = omega (arith, count_le p q cs h)
    by true true g k = absurd (cc)
    by false b g k = absurd (cc)
count_falls p q (c ∷ cs) r h (inr m) e f = by (p c) (q c) (h c) (count_falls p q cs r h m e f)
  where
    by : (a b : Bool) → (b ≡ true → a ≡ true) → tally q cs < tally p cs → cond b 1 0 + tally q cs < cond a 1 0 + tally p cs
    by true true g k = omega arith
    by true false g k = omega arith
    by false false g k = omega arith
    by false true g k = let e = g refl in absurd (cc)

-- ---- a fold that picks one of two gives one of all
picked : (f : ℤ → ℤ → ℤ) → ((a c : ℤ) → (f a c ≡ a) ⊎ (f a c ≡ c)) → (p : ℤ → Bool) (a : ℤ) (cs : List ℤ) → (fold f a (filter p cs) ≡ a) ⊎ (In cs (fold f a (filter p cs)) × (p (fold f a (filter p cs)) ≡ true))
picked f one p a [] = inl refl
picked f one p a (c ∷ cs) = by (p c) refl (picked f one p a cs) (picked f one p (f a c) cs)
  where
    by : (b : Bool) → p c ≡ b → (fold f a (filter p cs) ≡ a) ⊎ (In cs (fold f a (filter p cs)) × (p (fold f a (filter p cs)) ≡ true)) → (fold f (f a c) (filter p cs) ≡ f a c) ⊎ (In cs (fold f (f a c) (filter p cs)) × (p (fold f (f a c) (filter p cs)) ≡ true)) → (let r : ℤ = fold f a (cond b (c ∷ filter p cs) (filter p cs)) in (r ≡ a) ⊎ (In (c ∷ cs) r × (p r ≡ true)))
    by false e (inl x) k = inl x
    by false e (inr y) k = inr (inr y.0, y.1)
    by true e k (inr y) = inr (inr y.0, y.1)
    by true e k (inl x) = elim (one a c) [ inl k ↦ inl (x ∙ k) | inr k ↦ inr (inl (sym (x ∙ k)), ap p (x ∙ k) ∙ e) ]

min_one : (a c : ℤ) → (int_min a c ≡ a) ⊎ (int_min a c ≡ c)
min_one a c = by (int_lt c a)
  where
    by : (b : Bool) → (cond b c a ≡ a) ⊎ (cond b c a ≡ c)
    by true = inr refl
    by false = inl refl

max_one : (a c : ℤ) → (int_max a c ≡ a) ⊎ (int_max a c ≡ c)
max_one a c = by (int_lt c a)
  where
    by : (b : Bool) → (cond b a c ≡ a) ⊎ (cond b a c ≡ c)
    by true = inl refl
    by false = inr refl

-- ---- how often a bound can still move
abbrev ups : IntType → List ℤ → ℤ → ℕ
ups t cs hi = tally (lies_above t hi) (high_of t ∷ cs)

abbrev downs : IntType → List ℤ → ℤ → ℕ
downs t cs lo = tally (lies_below t lo) (low_of t ∷ cs)

in_type : (t : IntType) (z : ℤ) → InType t z → is_in_type t z ≡ true
in_type t z h = and_true (int_le (low_of t) z) (int_le z (high_of t)) (sym (omega (arith, ints, h.from))) (sym (omega (arith, ints, h.to)))

up_falls : (t : IntType) (cs : List ℤ) (hi x : ℤ) → hi <ℤ x → InType t x → ups t cs (next_up t cs x) < ups t cs hi
up_falls t cs hi x h k =
    elim (picked int_min min_one (λ c. int_le x c) (high_of t) cs) [
      | inl e ↦ falls (inl (sym e))
      | inr y ↦ falls (inr y.0)
    ]
  where
    inside : InType t (next_up t cs x) × (x ≤ℤ next_up t cs x)
    inside = up_in t cs x k

    falls : In (high_of t ∷ cs) (next_up t cs x) → ups t cs (next_up t cs x) < ups t cs hi
    falls m =
        let r = next_up t cs x in
        let past : hi <ℤ r = omega (arith, ints, inside.1) in
        count_falls (lies_above t hi) (lies_above t r) (high_of t ∷ cs) r
        (λ c e. let tests = both_true (int_lt r c) (is_in_type t c) e in and_true _ _ (less_true hi c (omega (arith, ints, tests.0, past))) tests.1)
        m (and_true _ _ (less_true hi r past) (in_type t r inside.0)) (false_and (int_lt r r) _ (sym (omega (arith, ints))))

down_falls : (t : IntType) (cs : List ℤ) (lo x : ℤ) → x <ℤ lo → InType t x → downs t cs (next_down t cs x) < downs t cs lo
down_falls t cs lo x h k =
    elim (picked int_max max_one (λ c. int_le c x) (low_of t) cs) [
      | inl e ↦ falls (inl (sym e))
      | inr y ↦ falls (inr y.0)
    ]
  where
    inside : InType t (next_down t cs x) × (next_down t cs x ≤ℤ x)
    inside = down_in t cs x k

    falls : In (low_of t ∷ cs) (next_down t cs x) → downs t cs (next_down t cs x) < downs t cs lo
    falls m =
        let r = next_down t cs x in
        let past : r <ℤ lo = omega (arith, ints, inside.1) in
        count_falls (lies_below t lo) (lies_below t r) (low_of t ∷ cs) r
        (λ c e. let tests = both_true (int_lt c r) (is_in_type t c) e in and_true _ _ (less_true c lo (omega (arith, ints, tests.0, past))) tests.1)
        m (and_true _ _ (less_true r lo past) (in_type t r inside.0)) (false_and (int_lt r r) _ (sym (omega (arith, ints))))

-- no step adds one
widened_stays : (t : IntType) (cs : List ℤ) (h n : Range) → IsIn t n → moves t cs (widened t cs h n) ≤ moves t cs h
widened_stays t cs h n m = by (int_lt n.lo h.lo) (int_lt h.hi n.hi) refl refl
  where
    by : (a b : Bool) → int_lt n.lo h.lo ≡ a → int_lt h.hi n.hi ≡ b → ups t cs (if b then next_up t cs n.hi else h.hi) + downs t cs (if a then next_down t cs n.lo else h.lo) ≤ moves t cs h
    by true true f g = omega (arith, up_falls t cs h.hi n.hi (omega (arith, ints)) m.to, down_falls t cs h.lo n.lo (omega (arith, ints)) m.from)
    by true false f g = omega (arith, down_falls t cs h.lo n.lo (omega (arith, ints)) m.from)
    by false true f g = omega (arith, up_falls t cs h.hi n.hi (omega (arith, ints)) m.to)
    by false false f g = omega arith

widened_falls : (t : IntType) (cs : List ℤ) (h n : Range) → IsIn t n → is_within n h ≡ false → moves t cs (widened t cs h n) < moves t cs h
widened_falls t cs h n m e = by (int_lt n.lo h.lo) (int_lt h.hi n.hi) refl refl
  where
    by : (a b : Bool) → int_lt n.lo h.lo ≡ a → int_lt h.hi n.hi ≡ b → ups t cs (if b then next_up t cs n.hi else h.hi) + downs t cs (if a then next_down t cs n.lo else h.lo) < moves t cs h
    by true true f g = omega (arith, up_falls t cs h.hi n.hi (omega (arith, ints)) m.to, down_falls t cs h.lo n.lo (omega (arith, ints)) m.from)
    by true false f g = omega (arith, down_falls t cs h.lo n.lo (omega (arith, ints)) m.from)
    by false true f g = omega (arith, up_falls t cs h.hi n.hi (omega (arith, ints)) m.to)
    by false false f g = let yes = and_true (int_le h.lo n.lo) (int_le n.hi h.hi) (sym (omega (arith, ints))) (sym (omega (arith, ints))) in absurd (cc)

chain_short : (t : IntType) (cs : List ℤ) (h : Range) (ns : List Range) → IsChain t cs h ns → length ns ≤ moves t cs h
chain_short t cs h [] c = omega arith
chain_short t cs h (n ∷ ns) c = omega (arith, widened_falls t cs h n c.0 c.1, chain_short t cs (widened t cs h n) ns c.2)

pub chain_ends : (t : IntType) (cs : List ℤ) (h : Range) (ns : List Range) → IsChain t cs h ns → length ns ≤ 2 * (length cs + 1)
chain_ends t cs h ns c = omega (arith, chain_short t cs h ns c, tally_le_length (lies_above t h.hi) (high_of t ∷ cs), tally_le_length (lies_below t h.lo) (low_of t ∷ cs))

-- ---- what a step holds
pub within : (t : IntType) (cs : List ℤ) (h n : Range) → IsIn t h → IsIn t n → ((widened t cs h n).lo ≤ℤ h.lo) × ((widened t cs h n).lo ≤ℤ n.lo) × (h.hi ≤ℤ (widened t cs h n).hi) × (n.hi ≤ℤ (widened t cs h n).hi)
within t cs h n i j =
    let down = down_in t cs n.lo j.from in
    let up = up_in t cs n.hi j.to in
    let low = by_low (int_lt n.lo h.lo) refl in
    let high = by_high (int_lt h.hi n.hi) refl in
    (low.0, low.1, high.0, high.1)
  where
    by_low : (b : Bool) → int_lt n.lo h.lo ≡ b → ((if b then next_down t cs n.lo else h.lo) ≤ℤ h.lo) × ((if b then next_down t cs n.lo else h.lo) ≤ℤ n.lo)
    by_low true e = let down = down_in t cs n.lo j.from in (omega (arith, ints, down.1, e), down.1)
    by_low false e = (omega (arith, ints), omega (arith, ints, e))

    by_high : (b : Bool) → int_lt h.hi n.hi ≡ b → (h.hi ≤ℤ (if b then next_up t cs n.hi else h.hi)) × (n.hi ≤ℤ (if b then next_up t cs n.hi else h.hi))
    by_high true e = let up = up_in t cs n.hi j.to in (omega (arith, ints, up.1, e), up.1)
    by_high false e = (omega (arith, ints), omega (arith, ints, e))

keeps : (t : IntType) (cs : List ℤ) (h n : Range) (z : ℤ) → IsIn t h → IsIn t n → Holds h z → Holds (widened t cs h n) z
keeps t cs h n z i j k = let ends = within t cs h n i j in record { from = omega (arith, ints, ends.0, k.from); to = omega (arith, ints, ends.2, k.to) }

takes : (t : IntType) (cs : List ℤ) (h n : Range) (z : ℤ) → IsIn t h → IsIn t n → Holds n z → Holds (widened t cs h n) z
takes t cs h n z i j k = let ends = within t cs h n i j in record { from = omega (arith, ints, ends.1, k.from); to = omega (arith, ints, ends.3, k.to) }

grows : (t : IntType) (cs : List ℤ) (h n : Range) → IsIn t h → IsIn t n → is_within n h ≡ false → is_within (widened t cs h n) h ≡ false
grows t cs h n i j e = by (is_within (widened t cs h n) h) refl
  where
    by : (b : Bool) → is_within (widened t cs h n) h ≡ b → b ≡ false
    by false f = refl
    by true f =
        let ends = within t cs h n i j in
        let tests = both_true (int_le h.lo (widened t cs h n).lo) (int_le (widened t cs h n).hi h.hi) f in
        let yes = and_true (int_le h.lo n.lo) (int_le n.hi h.hi) (sym (omega (arith, ints, ends.1, tests.0))) (sym (omega (arith, ints, ends.3, tests.1))) in
        absurd (cc)

pub widens : Widens
widens = record { keeps = keeps; takes = takes; grows = grows; ends = λ t cs h ns i c. chain_ends t cs h ns c }

pub moves_are_ranks : MovesAreRanks
moves_are_ranks = record {
  few = λ t cs h. omega (arith, tally_le_length (lies_above t h.hi) (high_of t ∷ cs), tally_le_length (lies_below t h.lo) (low_of t ∷ cs));
  stays = widened_stays;
  falls = widened_falls;
}
