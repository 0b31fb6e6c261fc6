-- Least common multiples, and the meet of classes.
use Rattle.std.specs.Prelude.{◌≡◌, ℕ, zero, suc, ◌-◌, ◌*◌, ◌/◌, ◌%◌, ◌<◌, ◌≤◌, ◌^◌, Bool, true, false, if◌then◌else◌, ℤ, pos, negsuc, ◌+ℤ◌, ◌-ℤ◌, ◌*ℤ◌, unsigned_abs, Option, Some, None}
use Rattle.std.specs.Int.{int_rem_euclid}
use Rattle.std.specs.Ordering.{int_eq}
use Rattle.std.proofs.Common.{arith, ◌∙◌, ap, refl, sym, subst}
use Rattle.std.proofs.Math.Nat.{mul-div_cancel, zero-div}
use Rattle.std.proofs.Math.IntN.{*ℤ_comm, zero-*ℤ, *ℤ-zero}
use Rattle.std.proofs.lemmas.Int.{ints}
use Rattle.pk_ctypes.proofs.Whole.{sum_times, times_sum, same_multiple}
use Rattle.pk_ctypes.proofs.Values.{not_zero_test}
use Rattle.pk_congr.specs.Classes.{Class, IsMember, gcd, int_lcm, is_held, has_member, class_of, are_apart, first_in, met_of, met}
use Rattle.pk_congr.specs.Laws.{MeetIsBoth}
use Rattle.pk_congr.proofs.Multiples.{Multiple, assoc, difference_times, zero_multiple, self_multiple, sum_multiple, negative_multiple, multiple_trans, mod_from_multiple}
use Rattle.pk_congr.proofs.Gcd.{gcd_left, gcd_right, combined, gcd_some}
use Rattle.pk_congr.proofs.Numbers.{rest_member, two_members, next_member, tested_zero, tested_some, euclid_differs, class_has, class_only, test_held, not_held}
use Rattle.pk_congr.proofs.Order.{member, apart, not_apart, abs_multiple, multiple_of_abs}

pub cancel : (x y : ℤ) (n : ℕ) → 0 < n → x *ℤ pos n ≡ y *ℤ pos n → x ≡ y
cancel x y n h e = same_multiple x y n (omega (arith, ints)) (omega (arith, ints))

pub whole_part : (a g : ℕ) → 0 < g → Multiple (pos g) (pos a) → a / g * g ≡ a
whole_part a g h m = let e = mod_from_multiple (pos g) (pos a) m in omega arith

pub lcm_by_left : (a b g : ℕ) → 0 < g → Multiple (pos g) (pos a) → a * b / g ≡ a / g * b
lcm_by_left a b g h m =
    let e = ap (λ k. k * b) (whole_part a g h m) in
    let same : a * b ≡ a / g * b * g = omega arith in
    ap (λ k. k / g) same ∙ mul-div_cancel (a / g * b) h

lcm_by_right : (a b g : ℕ) → 0 < g → Multiple (pos g) (pos b) → a * b / g ≡ b / g * a
lcm_by_right a b g h m =
    let e = ap (λ k. a * k) (whole_part b g h m) in
    let same : a * b ≡ b / g * a * g = omega arith in
    ap (λ k. k / g) same ∙ mul-div_cancel (b / g * a) h

pub some_abs : (a : ℤ) → (a ≡ pos 0 → ⊥) → 0 < unsigned_abs a
some_abs (pos zero) h = absurd (h refl)
some_abs (pos (suc n)) h = omega arith
some_abs (negsuc n) h = omega arith

pub lcm_left : (a b : ℤ) → (a ≡ pos 0 → ⊥) → Multiple a (int_lcm a b)
lcm_left a b h =
    let m = unsigned_abs a in
    let n = unsigned_abs b in
    let is = lcm_by_right m n (gcd m n) (gcd_some m n (some_abs a h)) (gcd_right (pos m) (pos n)) in
    multiple_trans a (pos m) (int_lcm a b) (abs_multiple a) (pos (n / gcd m n), ap pos is)

pub lcm_right : (a b : ℤ) → (a ≡ pos 0 → ⊥) → Multiple b (int_lcm a b)
lcm_right a b h =
    let m = unsigned_abs a in
    let n = unsigned_abs b in
    let is = lcm_by_left m n (gcd m n) (gcd_some m n (some_abs a h)) (gcd_left (pos m) (pos n)) in
    multiple_trans b (pos n) (int_lcm a b) (abs_multiple b) (pos (m / gcd m n), ap pos is)

swap_middle : (a b c d : ℤ) → (a *ℤ b) *ℤ (c *ℤ d) ≡ (a *ℤ c) *ℤ (b *ℤ d)
swap_middle a b c d = assoc a b (c *ℤ d) ∙ ap (λ v. a *ℤ v) (sym (assoc b c d) ∙ ap (λ v. v *ℤ d) (*ℤ_comm b c) ∙ assoc c b d) ∙ sym (assoc a c (b *ℤ d))

-- each common multiple is a multiple of the least
pub lcm_least : (a b z : ℤ) → (a ≡ pos 0 → ⊥) → Multiple a z → Multiple b z → Multiple (int_lcm a b) z
lcm_least a b z h p q = least (unsigned_abs a) (unsigned_abs b) (some_abs a h) (multiple_of_abs a z p) (multiple_of_abs b z q)
  where
    least : (m n : ℕ) → 0 < m → Multiple (pos m) z → Multiple (pos n) z → Multiple (pos (m * n / gcd m n)) z
    least m n some k l =
        let g = gcd m n in
        let l' = m * n / g in
        let c = combined m n in
        let w = l.0 *ℤ c.0 +ℤ k.0 *ℤ c.1 in
        let positive = gcd_some m n some in
        let is = lcm_by_left m n g positive (gcd_left (pos m) (pos n)) in
        let part = ap (λ v. v * n) (whole_part m g positive (gcd_left (pos m) (pos n))) in
        let again = ap (λ v. v * g) is in
        let product : l' * g ≡ m * n = omega arith in
        let first : z *ℤ (c.0 *ℤ pos m) ≡ (l.0 *ℤ c.0) *ℤ (pos m *ℤ pos n) =
        ap (λ v. v *ℤ (c.0 *ℤ pos m)) l.1 ∙ swap_middle l.0 (pos n) c.0 (pos m) ∙ ap (λ v. (l.0 *ℤ c.0) *ℤ v) (*ℤ_comm (pos n) (pos m)) in
        let second : z *ℤ (c.1 *ℤ pos n) ≡ (k.0 *ℤ c.1) *ℤ (pos m *ℤ pos n) =
        ap (λ v. v *ℤ (c.1 *ℤ pos n)) k.1 ∙ swap_middle k.0 (pos m) c.1 (pos n) in
        let both = times_sum (c.0 *ℤ pos m) (c.1 *ℤ pos n) z in
        let sums = sum_times (l.0 *ℤ c.0) (k.0 *ℤ c.1) (pos m *ℤ pos n) in
        let all : z *ℤ pos g ≡ w *ℤ (pos m *ℤ pos n) = ap (λ v. z *ℤ v) c.2 ∙ omega (arith, ints) in
        let turned : w *ℤ (pos m *ℤ pos n) ≡ (w *ℤ pos l') *ℤ pos g = ap (λ v. w *ℤ pos v) (sym product) ∙ sym (assoc w (pos l') (pos g)) in
        (w, cancel z (w *ℤ pos l') g positive (all ∙ turned))

-- looking for the first common number
none : (r m : ℤ) → r +ℤ pos 0 *ℤ m ≡ r
none r m = omega (arith, ints, zero-*ℤ m)

one_more : (r m : ℤ) (t : ℕ) → r +ℤ pos (suc t) *ℤ m ≡ (r +ℤ m) +ℤ pos t *ℤ m
one_more r m t =
    let next : pos (suc t) ≡ pos t +ℤ pos 1 = omega (arith, ints) in
    omega (arith, ints, sum_times (pos t) (pos 1) m, ap (λ v. v *ℤ m) next)

found : (b : Class) (m : ℤ) (n : ℕ) (r : ℤ) (t : ℕ) → t ≤ n → IsMember b (r +ℤ pos t *ℤ m) → IsMember b (first_in b m n r) × Multiple m (first_in b m n r -ℤ r)
unfolding first_in
found b m zero r zero h k = let z = zero_multiple m in (subst (IsMember b) (none r m) k, (z.0, omega (arith, ints, z.1)))
found b m zero r (suc t) h k = absurd (omega arith)
found b m (suc n) r t h k = by (found b m n (r +ℤ m)) (has_member b r) refl t h k
  where
    by : ((t : ℕ) → t ≤ n → IsMember b ((r +ℤ m) +ℤ pos t *ℤ m) → IsMember b (first_in b m n (r +ℤ m)) × Multiple m (first_in b m n (r +ℤ m) -ℤ (r +ℤ m))) → (w : Bool) → has_member b r ≡ w → (t : ℕ) → t ≤ suc n → IsMember b (r +ℤ pos t *ℤ m) → IsMember b (if w then r else first_in b m n (r +ℤ m)) × Multiple m ((if w then r else first_in b m n (r +ℤ m)) -ℤ r)
    by again true e t h k = ((member b r).0 e, (let z = zero_multiple m in (z.0, omega (arith, ints, z.1))))
    by again false e zero h k = let yes = (member b r).1 (subst (IsMember b) (none r m) k) in absurd (cc)
    by again false e (suc t) h k =
        let rest = again t (omega arith) (subst (IsMember b) (one_more r m t) k) in
        let s = sum_multiple m (first_in b m n (r +ℤ m) -ℤ (r +ℤ m)) m rest.1 (self_multiple m) in
        (rest.0, (s.0, omega (arith, ints, s.1)))

pub common_found : (a b : Class) → are_apart a b ≡ false → (b.m ≡ pos 0 → ⊥) → IsMember a (first_in b a.m (unsigned_abs b.m) a.r) × IsMember b (first_in b a.m (unsigned_abs b.m) a.r)
common_found a b e h =
    let c = not_apart a b e in
    let t = int_rem_euclid c.1.0 b.m in
    let d = euclid_differs b.m c.1.0 h in
    let split : c.0 ≡ (a.r +ℤ t *ℤ a.m) +ℤ (d.0 *ℤ b.m) *ℤ a.m =
    c.1.1 ∙ omega (arith, ints, ap (λ v. v *ℤ a.m) d.1, difference_times c.1.0 t a.m) in
    let turned : (d.0 *ℤ b.m) *ℤ a.m ≡ (d.0 *ℤ a.m) *ℤ b.m = assoc d.0 b.m a.m ∙ ap (λ v. d.0 *ℤ v) (*ℤ_comm b.m a.m) ∙ sym (assoc d.0 a.m b.m) in
    let m : Multiple b.m ((a.r +ℤ t *ℤ a.m) -ℤ c.0) =
    let n = negative_multiple b.m ((d.0 *ℤ a.m) *ℤ b.m) (d.0 *ℤ a.m, refl) in (n.0, omega (arith, ints, n.1)) in
    let in_b = next_member b c.0 (a.r +ℤ t *ℤ a.m) c.2 m in
    let least = some_rest c.1.0 b.m h in
    let f = found b a.m (unsigned_abs b.m) a.r least.0 (omega arith) (subst (λ (v : ℤ). IsMember b (a.r +ℤ v *ℤ a.m)) least.1 in_b) in
    (next_member a a.r _ (rest_member a) f.1, f.0)
  where
    some_rest : (z d : ℤ) → (d ≡ pos 0 → ⊥) → (t : ℕ) × (int_rem_euclid z d ≡ pos t) × (t < unsigned_abs d)
    some_rest (pos z) d h = let s = some_abs d h in (z % unsigned_abs d, refl, omega arith)
    some_rest (negsuc z) d h = let s = some_abs d h in (unsigned_abs d - 1 - z % unsigned_abs d, refl, omega arith)

-- two common numbers differ by a multiple of the least common multiple
pub common_apart : (a b : Class) (x y : ℤ) → (a.m ≡ pos 0 → ⊥) → IsMember a x → IsMember b x → IsMember a y → IsMember b y → Multiple (int_lcm a.m b.m) (x -ℤ y)
common_apart a b x y h p q p' q' = lcm_least a.m b.m (x -ℤ y) h (two_members a x y p p') (two_members b x y q q')

-- the rows of the meet
pub data MeetRow (a b : Class) : Option Class → Type 0 where
  nothing : are_apart a b ≡ true → MeetRow a b None
  left : are_apart a b ≡ false → a.m ≡ pos 0 → MeetRow a b (Some a)
  right : are_apart a b ≡ false → b.m ≡ pos 0 → MeetRow a b (Some b)
  both : are_apart a b ≡ false → (a.m ≡ pos 0 → ⊥) → (b.m ≡ pos 0 → ⊥) → MeetRow a b (Some (met_of a b))

meet_row : (a b : Class) → MeetRow a b (met a b)
meet_row a b = by (are_apart a b) (int_eq a.m (pos 0)) (int_eq b.m (pos 0)) refl refl refl
  where
    by : (p q r : Bool) → are_apart a b ≡ p → int_eq a.m (pos 0) ≡ q → int_eq b.m (pos 0) ≡ r → MeetRow a b (if p then None else (if q then Some a else (if r then Some b else Some (met_of a b))))
    by true q r e f g = nothing e
    by false true r e f g = left e (tested_zero a.m f)
    by false false true e f g = right e (tested_zero b.m g)
    by false false false e f g = both e (tested_some a.m f) (tested_some b.m g)

pub same_constant : (c : Class) (x y : ℤ) → c.m ≡ pos 0 → IsMember c x → IsMember c y → x ≡ y
same_constant c x y e h k =
    let d = two_members c x y h k in
    let gone : d.0 *ℤ c.m ≡ pos 0 = ap (λ v. d.0 *ℤ v) e ∙ *ℤ-zero d.0 in
    omega (arith, ints, d.1)

none_of : (a b : Class) (o : Option Class) → MeetRow a b o → o ≡ None → (x : ℤ) → IsMember a x → IsMember b x → ⊥
none_of a b o (nothing e) f x h k = apart a b e x h k
none_of a b o (left e g) f x h k = absurd (cc)
none_of a b o (right e g) f x h k = absurd (cc)
none_of a b o (both e g i) f x h k = absurd (cc)

in_met_of : (a b : Class) → are_apart a b ≡ false → (a.m ≡ pos 0 → ⊥) → (b.m ≡ pos 0 → ⊥) → (x : ℤ) → IsMember a x → IsMember b x → IsMember (met_of a b) x
in_met_of a b e g i x h k = by (is_held (int_lcm a.m b.m))
  where
    by : (w : Bool) → IsMember (if w then class_of (int_lcm a.m b.m) (first_in b a.m (unsigned_abs b.m) a.r) else a) x
    by false = h
    by true =
        let c = common_found a b e i in
        class_has (int_lcm a.m b.m) (first_in b a.m (unsigned_abs b.m) a.r) x (common_apart a b x _ g h k c.0 c.1)

all_of : (a b : Class) (o : Option Class) → MeetRow a b o → (c : Class) → o ≡ Some c → (x : ℤ) → IsMember a x → IsMember b x → IsMember c x
all_of a b o (nothing e) c f x h k = absurd (cc)
all_of a b o (left e g) c f x h k = let is : a ≡ c = cc in subst (λ (v : Class). IsMember v x) is h
all_of a b o (right e g) c f x h k = let is : b ≡ c = cc in subst (λ (v : Class). IsMember v x) is k
all_of a b o (both e g i) c f x h k = let is : met_of a b ≡ c = cc in subst (λ (v : Class). IsMember v x) is (in_met_of a b e g i x h k)

met_of_only : (a b : Class) → are_apart a b ≡ false → (a.m ≡ pos 0 → ⊥) → (b.m ≡ pos 0 → ⊥) → unsigned_abs (int_lcm a.m b.m) < 2 ^ 127 → (x : ℤ) → IsMember (met_of a b) x → IsMember a x × IsMember b x
met_of_only a b e g i l x h = by (is_held (int_lcm a.m b.m)) refl h
  where
    by : (w : Bool) → is_held (int_lcm a.m b.m) ≡ w → IsMember (if w then class_of (int_lcm a.m b.m) (first_in b a.m (unsigned_abs b.m) a.r) else a) x → IsMember a x × IsMember b x
    by false f h = absurd (not_held (int_lcm a.m b.m) f l)
    by true f h =
        let n = int_lcm a.m b.m in
        let s = first_in b a.m (unsigned_abs b.m) a.r in
        let c = common_found a b e i in
        let d = class_only n s x h in
        (next_member a s x c.0 (multiple_trans a.m n (x -ℤ s) (lcm_left a.m b.m g) d), next_member b s x c.1 (multiple_trans b.m n (x -ℤ s) (lcm_right a.m b.m g) d))

only_of : (a b : Class) (o : Option Class) → MeetRow a b o → (c : Class) → o ≡ Some c → unsigned_abs (int_lcm a.m b.m) < 2 ^ 127 → (x : ℤ) → IsMember c x → IsMember a x × IsMember b x
only_of a b o (nothing e) c f l x h = absurd (cc)
only_of a b o (left e g) c f l x h =
    let is : c ≡ a = cc in
    let in_a = subst (λ (v : Class). IsMember v x) is h in
    let y = not_apart a b e in
    (in_a, subst (IsMember b) (same_constant a y.0 x g y.1 in_a) y.2)
only_of a b o (right e g) c f l x h =
    let is : c ≡ b = cc in
    let in_b = subst (λ (v : Class). IsMember v x) is h in
    let y = not_apart a b e in
    (subst (IsMember a) (same_constant b y.0 x g y.2 in_b) y.1, in_b)
only_of a b o (both e g i) c f l x h = let is : c ≡ met_of a b = cc in met_of_only a b e g i l x (subst (λ (v : Class). IsMember v x) is h)

pub met_of_first : (a b : Class) → 2 ^ 127 ≤ unsigned_abs (int_lcm a.m b.m) → met_of a b ≡ a
met_of_first a b l = by (is_held (int_lcm a.m b.m)) refl
  where
    by : (w : Bool) → is_held (int_lcm a.m b.m) ≡ w → (if w then class_of (int_lcm a.m b.m) (first_in b a.m (unsigned_abs b.m) a.r) else a) ≡ a
    by false f = refl
    by true f = let k = test_held (int_lcm a.m b.m) f in absurd (omega arith)

no_lcm : (a b : ℤ) → b ≡ pos 0 → unsigned_abs (int_lcm a b) ≡ 0
no_lcm a b e =
    let size = ap unsigned_abs e in
    let product : unsigned_abs a * unsigned_abs b ≡ 0 = ap (λ v. unsigned_abs a * v) size ∙ omega arith in
    ap (λ v. v / gcd (unsigned_abs a) (unsigned_abs b)) product ∙ zero-div (gcd (unsigned_abs a) (unsigned_abs b))

first_of : (a b : Class) (o : Option Class) → MeetRow a b o → (c : Class) → o ≡ Some c → 2 ^ 127 ≤ unsigned_abs (int_lcm a.m b.m) → c ≡ a
first_of a b o (nothing e) c f l = absurd (cc)
first_of a b o (left e g) c f l = cc
first_of a b o (right e g) c f l = let n = no_lcm a.m b.m g in absurd (omega arith)
first_of a b o (both e g i) c f l = cc (met_of_first a b l)

pub meet_is_both : MeetIsBoth
meet_is_both = record {
  none = λ a b. none_of a b (met a b) (meet_row a b);
  all = λ a b c. all_of a b (met a b) (meet_row a b) c;
  only = λ a b c. only_of a b (met a b) (meet_row a b) c;
  first = λ a b c. first_of a b (met a b) (meet_row a b) c;
}

pub meet_none : (a b : Class) → are_apart a b ≡ true → met a b ≡ None
meet_none a b e = ap (λ w. if w then None else (if int_eq a.m (pos 0) then Some a else (if int_eq b.m (pos 0) then Some b else Some (met_of a b)))) e

pub meet_first : (a b : Class) → are_apart a b ≡ false → a.m ≡ pos 0 → met a b ≡ Some a
meet_first a b e f =
    ap (λ w. if w then None else (if int_eq a.m (pos 0) then Some a else (if int_eq b.m (pos 0) then Some b else Some (met_of a b)))) e
    ∙ ap (λ v. if int_eq v (pos 0) then Some a else (if int_eq b.m (pos 0) then Some b else Some (met_of a b))) f

pub meet_second : (a b : Class) → are_apart a b ≡ false → (a.m ≡ pos 0 → ⊥) → b.m ≡ pos 0 → met a b ≡ Some b
meet_second a b e f g =
    let first = not_zero_test a.m f in
    ap (λ w. if w then None else (if int_eq a.m (pos 0) then Some a else (if int_eq b.m (pos 0) then Some b else Some (met_of a b)))) e
    ∙ ap (λ w. if w then Some a else (if int_eq b.m (pos 0) then Some b else Some (met_of a b))) first
    ∙ ap (λ v. if int_eq v (pos 0) then Some b else Some (met_of a b)) g

pub meet_both : (a b : Class) → are_apart a b ≡ false → (a.m ≡ pos 0 → ⊥) → (b.m ≡ pos 0 → ⊥) → met a b ≡ Some (met_of a b)
meet_both a b e f g =
    let first = not_zero_test a.m f in
    let second = not_zero_test b.m g in
    ap (λ w. if w then None else (if int_eq a.m (pos 0) then Some a else (if int_eq b.m (pos 0) then Some b else Some (met_of a b)))) e
    ∙ ap (λ w. if w then Some a else (if int_eq b.m (pos 0) then Some b else Some (met_of a b))) first
    ∙ ap (λ w. if w then Some b else Some (met_of a b)) second
