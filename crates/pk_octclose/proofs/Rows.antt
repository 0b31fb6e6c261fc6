-- A matrix while its rows are lowered.
use Rattle.std.specs.Prelude.{◌≡◌, ◌≢◌, ℕ, ◌<◌, ◌≤◌, ◌+◌, ◌-◌, ◌*◌, ◌/◌, ◌%◌, ℤ, int_lt, Option, Some, None, Bool, true, false, if◌then◌else◌, List, ◌⊎◌, length}
use Rattle.std.proofs.Common.{◌∙◌, ap, refl, subst, sym, arith, inl, inr, get_or, set, length-set}
use Rattle.std.proofs.lemmas.Bool.{cases_eq, cases_lt}
use Rattle.std.proofs.lemmas.Int.{ints}
use Rattle.std.proofs.lemmas.List.{get_or-set_other, get_or-set_same}
use Rattle.pk_octmat.proofs.Half.{kept_set_same, row_spot}
use Rattle.pk_octmat.specs.Bounds.{is_at_most, is_none, lesser, plus}
use Rattle.pk_octmat.specs.Octagon.{bar}
use Rattle.pk_octmat.specs.Half.{block, kept_at, row_place, spot}
use Rattle.pk_octclose.specs.Pairs.{over_pair}
use Rattle.pk_octclose.proofs.Whole.{kept_set_low, own_from}

-- ---- one bound
-- what is written where two rows are joined
pub joined : (x s first second there a b c : Option ℤ) → x ≡ lesser first s → s ≡ plus there second → first ≡ a → there ≡ b → second ≡ c → x ≡ lesser a (plus b c)
joined x s first second there a b c is sum f t g = is ∙ ap (λ o. lesser o s) f ∙ ap (λ o. lesser a o) (sum ∙ ap (λ o. plus o second) t ∙ ap (λ o. plus b o) g)

pub test_true : (old a b : Option ℤ) → a ≡ old → is_at_most a b ≡ true → old ≡ lesser old b
test_true old a b e h = subst (λ o. o ≡ lesser o b) e (by a b h)
  where
    by : (a b : Option ℤ) → is_at_most a b ≡ true → a ≡ lesser a b
    by None None h = refl
    by None (Some b) h = absurd (cc)
    by (Some a) None h = refl
    by (Some a) (Some b) h = at (int_lt b a) refl
      where
        at : (t : Bool) → int_lt b a ≡ t → Some a ≡ (if t then Some b else Some a)
        at true e = absurd (omega (arith, ints, h, e))
        at false e = refl

pub test_false : (old a b : Option ℤ) → a ≡ old → is_at_most a b ≡ false → b ≡ lesser old b
test_false old a b e h = subst (λ o. b ≡ lesser o b) e (by a b h)
  where
    by : (a b : Option ℤ) → is_at_most a b ≡ false → b ≡ lesser a b
    by None b h = refl
    by (Some a) None h = absurd (cc)
    by (Some a) (Some b) h = at (int_lt b a) refl
      where
        at : (t : Bool) → int_lt b a ≡ t → Some b ≡ (if t then Some b else Some a)
        at true e = refl
        at false e = absurd (omega (arith, ints, h, e))

pub base_at : (i j k base : ℕ) → j / 2 ≤ i / 2 → base ≡ row_place i 0 → k ≡ base + j → k ≡ spot i j
base_at i j k base low is at = let to : k ≡ row_place i j = omega (arith, is, at) in to ∙ sym (row_spot i j low)

pub set_here : (d i j k : ℕ) (xs : List (Option ℤ)) (x : Option ℤ) → d % 2 ≡ 0 → length xs ≡ block (d / 2) → i < d → j < d → k ≡ spot i j → kept_at d (set xs k x) i j ≡ x
set_here d i j k xs x pairs size id jd at = subst (λ n. kept_at d (set xs n x) i j ≡ x) (sym at) (kept_set_same d xs i j x pairs size id jd)

pub set_others : (d i j k : ℕ) (xs : List (Option ℤ)) (x : Option ℤ) → j / 2 ≤ i / 2 → k ≡ spot i j → (a b : ℕ) → b / 2 ≤ a / 2 → (a ≢ i) ⊎ (b ≢ j) → kept_at d (set xs k x) a b ≡ kept_at d xs a b
set_others d i j k xs x here at a b low w = subst (λ n. kept_at d (set xs n x) a b ≡ kept_at d xs a b) (sym at) (kept_set_low d xs i j a b x low here (of w))
  where
    of : (a ≢ i) ⊎ (b ≢ j) → (a ≡ i) → (b ≡ j) → ⊥
    of (inl n) u v = n u
    of (inr n) u v = n v

-- ---- row i, lowered from a column to before j to what a bound and row k give
pub record InPart (d k i start j : ℕ) (bound : Option ℤ) (olds cells : List (Option ℤ)) : Type 0 where
  pub size : length cells ≡ block (d / 2)
  pub done : (b : ℕ) → start ≤ b → b < j → kept_at d cells i b ≡ lesser (kept_at d olds i b) (plus bound (kept_at d olds k b))
  pub rest : (a b : ℕ) → b / 2 ≤ a / 2 → (a ≢ i) ⊎ (b < start) ⊎ (j ≤ b) → kept_at d cells a b ≡ kept_at d olds a b
  pub through : (b : ℕ) → kept_at d cells k b ≡ kept_at d olds k b

-- a bound that is none lowers nothing
pub none_stays : (here over bound : Option ℤ) → is_none bound ≡ true → here ≡ lesser here (plus bound over)
none_stays None over None h = refl
none_stays (Some z) over None h = refl
none_stays here over (Some w) h = absurd (cc)

pub part_none : (d k i start : ℕ) (bound : Option ℤ) (cells : List (Option ℤ)) → length cells ≡ block (d / 2) → InPart d k i start start bound cells cells
part_none d k i start bound cells size = record { size = size; done = λ b g h. absurd (omega arith); rest = λ a b l h. refl; through = λ b. refl }

pub part_more : (d k i start j : ℕ) (bound : Option ℤ) (olds cells news : List (Option ℤ)) (over through : Option ℤ) → InPart d k i start j bound olds cells → d % 2 ≡ 0 → start ≤ j → i / 2 ≢ k / 2 → j / 2 ≢ k / 2 → j / 2 ≤ i / 2
    → over ≡ kept_at d cells k j → through ≡ plus bound over
    → length news ≡ block (d / 2) → kept_at d news i j ≡ lesser (kept_at d cells i j) through → ((a b : ℕ) → b / 2 ≤ a / 2 → (a ≢ i) ⊎ (b ≢ j) → kept_at d news a b ≡ kept_at d cells a b) → InPart d k i start (j + 1) bound olds news
part_more d k i start j bound olds cells news over through r pairs from apart beside low t sums size here others = record {
  size = size;
  done = λ b g l. done b g (cases_eq b j) l;
  rest = rest;
  through = λ b. own_from d news cells k k b pairs (λ u v l w. others u v l (away u v w)) refl ∙ r.through b;
}
  where
    away : (u v : ℕ) → (u / 2 ≡ k / 2) ⊎ (v / 2 ≡ k / 2) → (u ≢ i) ⊎ (v ≢ j)
    away u v (inl s) = inl (λ e. apart (sym (ap (λ n. n / 2) e) ∙ s))
    away u v (inr s) = inr (λ e. beside (sym (ap (λ n. n / 2) e) ∙ s))

    value : kept_at d news i j ≡ lesser (kept_at d olds i j) (plus bound (kept_at d olds k j))
    value = here ∙ ap (λ o. lesser o through) (r.rest i j low (inr (inr (omega arith)))) ∙ ap (λ o. lesser (kept_at d olds i j) o) (sums ∙ ap (λ o. plus bound o) (t ∙ r.through j))

    done : (b : ℕ) → start ≤ b → (b ≡ j) ⊎ (b ≢ j) → b < j + 1 → kept_at d news i b ≡ lesser (kept_at d olds i b) (plus bound (kept_at d olds k b))
    done b g (inl s) l = rw s value
    done b g (inr n) l = others i b (omega (arith, l, low)) (inr n) ∙ r.done b g (omega (arith, n, l))

    rest : (a b : ℕ) → b / 2 ≤ a / 2 → (a ≢ i) ⊎ (b < start) ⊎ (j + 1 ≤ b) → kept_at d news a b ≡ kept_at d olds a b
    rest a b l (inl n) = others a b l (inl n) ∙ r.rest a b l (inl n)
    rest a b l (inr w) = by (cases_eq a i) w
      where
        before : b < start → b ≢ j
        before q = λ e. absurd (omega (arith, q, e, from))

        by : (a ≡ i) ⊎ (a ≢ i) → (b < start) ⊎ (j + 1 ≤ b) → kept_at d news a b ≡ kept_at d olds a b
        by (inr n) w = others a b l (inl n) ∙ r.rest a b l (inl n)
        by (inl s) (inl q) = others a b l (inr (before q)) ∙ r.rest a b l (inr (inl q))
        by (inl s) (inr g) = others a b l (inr (λ e. absurd (omega (arith, g, e)))) ∙ r.rest a b l (inr (inr (omega (arith, g))))

-- what such a sweep leaves from its first column on, and before it
pub part_left : (d k i start j end : ℕ) (bound : Option ℤ) (olds cells : List (Option ℤ)) → InPart d k i start j bound olds cells → (start ≤ end → j ≤ end) → (a b : ℕ) → b / 2 ≤ a / 2 → (a ≢ i) ⊎ (b < start) ⊎ ((start ≤ end) × (end ≤ b))
    → kept_at d cells a b ≡ kept_at d olds a b
part_left d k i start j end bound olds cells r upto a b low (inl n) = r.rest a b low (inl n)
part_left d k i start j end bound olds cells r upto a b low (inr w) = by w
  where
    by : (b < start) ⊎ ((start ≤ end) × (end ≤ b)) → kept_at d cells a b ≡ kept_at d olds a b
    by (inl q) = r.rest a b low (inr (inl q))
    by (inr g) = let most = upto g.0 in r.rest a b low (inr (inr (omega (arith, most, g.1))))

-- as many steps as columns
pub part_steps : (start end j old new : ℕ) → new ≤ old + (j - start) → (end < start → new ≤ old) → (start ≤ end → j ≤ end) → new ≤ old + (end - start)
part_steps start end j old new most none upto = by (cases_lt end start)
  where
    by : (end < start) ⊎ (start ≤ end) → new ≤ old + (end - start)
    by (inl l) = omega (arith, none l)
    by (inr l) = omega (arith, most, upto l)

pub from_start : (a i b middle : ℕ) → (a ≢ i) ⊎ (b < 0) ⊎ (middle ≤ b) → (a ≢ i) ⊎ (b < 0) ⊎ ((0 ≤ middle) × (middle ≤ b))
from_start a i b middle (inl n) = inl n
from_start a i b middle (inr w) = inr (elim w [ inl q ↦ inl q | inr g ↦ inr (omega arith, g) ])

pub before_start : (a i b start end : ℕ) → (a ≢ i) ⊎ (b < start) → (a ≢ i) ⊎ (b < start) ⊎ ((start ≤ end) × (end ≤ b))
before_start a i b start end (inl n) = inl n
before_start a i b start end (inr q) = inr (inl q)

-- the first of two such sweeps leaves the rows of the variable
pub part_stays : (d p k i middle : ℕ) (olds ones : List (Option ℤ)) → d % 2 ≡ 0 → p % 2 ≡ 0 → k / 2 ≡ p / 2 → i / 2 ≢ p / 2 → middle ≤ p → ((a b : ℕ) → b / 2 ≤ a / 2 → (a ≢ i) ⊎ (b < 0) ⊎ (middle ≤ b) → kept_at d ones a b ≡ kept_at d olds a b)
    → (c : ℕ) → kept_at d ones k c ≡ kept_at d olds k c
part_stays d p k i middle olds ones pairs even own apart mp others c = own_from d ones olds p k c pairs (λ u v l w. others u v l (away u v w)) own
  where
    away : (u v : ℕ) → (u / 2 ≡ p / 2) ⊎ (v / 2 ≡ p / 2) → (u ≢ i) ⊎ (v < 0) ⊎ (middle ≤ v)
    away u v (inl s) = inl (λ e. apart (sym (ap (λ n. n / 2) e) ∙ s))
    away u v (inr s) = inr (inr (omega (arith, s, mp, even)))

-- what two sweeps of a row leave as it is, and what they lower: the columns on both sides of those of a variable
pub row_apart : (d p k i middle end : ℕ) (olds ones news : List (Option ℤ)) (bound : Option ℤ) → d % 2 ≡ 0 → p % 2 ≡ 0 → k / 2 ≡ p / 2 → i / 2 ≢ p / 2 → end ≡ i / 2 * 2 + 2 → middle ≤ end → middle ≤ p → (end ≤ middle) ⊎ (p ≤ middle)
    → ((b : ℕ) → 0 ≤ b → b < middle → kept_at d ones i b ≡ lesser (kept_at d olds i b) (plus bound (kept_at d olds k b)))
    → ((a b : ℕ) → b / 2 ≤ a / 2 → (a ≢ i) ⊎ (b < 0) ⊎ (middle ≤ b) → kept_at d ones a b ≡ kept_at d olds a b)
    → ((b : ℕ) → p + 2 ≤ b → b < end → kept_at d news i b ≡ lesser (kept_at d ones i b) (plus bound (kept_at d ones k b)))
    → ((a b : ℕ) → b / 2 ≤ a / 2 → (a ≢ i) ⊎ (b < p + 2) → kept_at d news a b ≡ kept_at d ones a b)
    → (b : ℕ) → b / 2 ≤ i / 2 → b / 2 ≢ p / 2 → kept_at d news i b ≡ lesser (kept_at d olds i b) (plus bound (kept_at d olds k b))
row_apart d p k i middle end olds ones news bound pairs even own apart upto me mp whole first first_others second second_others b low beside = by (cases_lt b p)
  where
    stays : (c : ℕ) → kept_at d ones k c ≡ kept_at d olds k c
    stays = part_stays d p k i middle olds ones pairs even own apart mp first_others

    by : (b < p) ⊎ (p ≤ b) → kept_at d news i b ≡ lesser (kept_at d olds i b) (plus bound (kept_at d olds k b))
    by (inl l) = second_others i b low (inr (omega (arith, l))) ∙ first b (omega arith) (below whole)
      where
        below : (end ≤ middle) ⊎ (p ≤ middle) → b < middle
        below (inl g) = omega (arith, g, upto, low)
        below (inr g) = omega (arith, g, l)
    by (inr g) =
        second b (omega (arith, g, beside, even)) (omega (arith, upto, low)) ∙ ap (λ o. lesser o (plus bound (kept_at d ones k b))) (first_others i b low (inr (inr (omega (arith, g, mp)))))
        ∙ ap (λ o. lesser (kept_at d olds i b) (plus bound o)) (stays b)

pub row_apart_others : (d p i middle end : ℕ) (olds ones news : List (Option ℤ)) → p % 2 ≡ 0 → middle ≤ p
    → ((a b : ℕ) → b / 2 ≤ a / 2 → (a ≢ i) ⊎ (b < 0) ⊎ (middle ≤ b) → kept_at d ones a b ≡ kept_at d olds a b)
    → ((a b : ℕ) → b / 2 ≤ a / 2 → (a ≢ i) ⊎ (b < p + 2) → kept_at d news a b ≡ kept_at d ones a b)
    → (a b : ℕ) → b / 2 ≤ a / 2 → (a ≢ i) ⊎ (b / 2 ≡ p / 2) → kept_at d news a b ≡ kept_at d olds a b
row_apart_others d p i middle end olds ones news even mp first second a b low (inl n) = second a b low (inl n) ∙ first a b low (inl n)
row_apart_others d p i middle end olds ones news even mp first second a b low (inr s) = second a b low (inr (omega (arith, s, even))) ∙ first a b low (inr (inr (omega (arith, s, mp, even))))

-- what leaves the bounds on a variable leaves its rows
pub own_stays : (d p i : ℕ) (olds news : List (Option ℤ)) → d % 2 ≡ 0 → i / 2 ≢ p / 2
    → ((a b : ℕ) → b / 2 ≤ a / 2 → (a ≢ i) ⊎ (b / 2 ≡ p / 2) → kept_at d news a b ≡ kept_at d olds a b)
    → (a b : ℕ) → a / 2 ≡ p / 2 → kept_at d news a b ≡ kept_at d olds a b
own_stays d p i olds news pairs apart others a b own = own_from d news olds p a b pairs (λ u v l w. others u v l (away u v w)) own
  where
    away : (u v : ℕ) → (u / 2 ≡ p / 2) ⊎ (v / 2 ≡ p / 2) → (u ≢ i) ⊎ (v / 2 ≡ p / 2)
    away u v (inl s) = inl (λ e. apart (sym (ap (λ n. n / 2) e) ∙ s))
    away u v (inr s) = inr s

-- two such sweeps of a row
pub row_twice : (d p i : ℕ) (olds ones news : List (Option ℤ)) (first second : Option ℤ) → d % 2 ≡ 0 → i / 2 ≢ p / 2 → p % 2 ≡ 0 → first ≡ kept_at d olds (p + 1) (bar i) → second ≡ kept_at d olds p (bar i)
    → ((b : ℕ) → b / 2 ≤ i / 2 → b / 2 ≢ p / 2 → kept_at d ones i b ≡ lesser (kept_at d olds i b) (plus first (kept_at d olds p b)))
    → ((a b : ℕ) → b / 2 ≤ a / 2 → (a ≢ i) ⊎ (b / 2 ≡ p / 2) → kept_at d ones a b ≡ kept_at d olds a b)
    → ((b : ℕ) → b / 2 ≤ i / 2 → b / 2 ≢ p / 2 → kept_at d news i b ≡ lesser (kept_at d ones i b) (plus second (kept_at d ones (p + 1) b)))
    → (b : ℕ) → b / 2 ≤ i / 2 → b / 2 ≢ p / 2 → kept_at d news i b ≡ over_pair (kept_at d olds) p i b
row_twice d p i olds ones news first second pairs apart even is_first is_second one others two b low beside =
    two b low beside ∙ ap (λ o. lesser o (plus second (kept_at d ones (p + 1) b))) (one b low beside ∙ ap (λ o. lesser (kept_at d olds i b) (plus o (kept_at d olds p b))) is_first)
    ∙ ap (λ o. lesser (lesser (kept_at d olds i b) (plus (kept_at d olds (p + 1) (bar i)) (kept_at d olds p b))) o)
    (ap (λ o. plus o (kept_at d ones (p + 1) b)) is_second ∙ ap (λ o. plus (kept_at d olds p (bar i)) o) (own_stays d p i olds ones pairs apart others (p + 1) b (omega (arith, even))))

pub other_row : (a b i p : ℕ) → i / 2 ≢ p / 2 → (a ≢ i) ⊎ (a / 2 ≡ p / 2) ⊎ (b / 2 ≡ p / 2) → (a ≢ i) ⊎ (b / 2 ≡ p / 2)
other_row a b i p n (inl m) = inl m
other_row a b i p n (inr w) = by w
  where
    by : (a / 2 ≡ p / 2) ⊎ (b / 2 ≡ p / 2) → (a ≢ i) ⊎ (b / 2 ≡ p / 2)
    by (inl s) = inl (λ t. n (ap (λ k. k / 2) (sym t) ∙ s))
    by (inr s) = inr s

-- ---- the rows below i are lowered over the two of a variable
pub record InRows (d p i : ℕ) (olds cells : List (Option ℤ)) : Type 0 where
  pub size : length cells ≡ block (d / 2)
  pub done : (a b : ℕ) → a < i → b / 2 ≤ a / 2 → a / 2 ≢ p / 2 → b / 2 ≢ p / 2 → kept_at d cells a b ≡ over_pair (kept_at d olds) p a b
  pub rest : (a b : ℕ) → b / 2 ≤ a / 2 → (i ≤ a) ⊎ (a / 2 ≡ p / 2) ⊎ (b / 2 ≡ p / 2) → kept_at d cells a b ≡ kept_at d olds a b

pub rows_none : (d p : ℕ) (cells : List (Option ℤ)) → length cells ≡ block (d / 2) → InRows d p 0 cells cells
rows_none d p cells size = record { size = size; done = λ a b h. absurd (omega arith); rest = λ a b l h. refl }

pub rows_own : (d p i : ℕ) (olds cells : List (Option ℤ)) → d % 2 ≡ 0 → InRows d p i olds cells → (a b : ℕ) → a / 2 ≡ p / 2 → kept_at d cells a b ≡ kept_at d olds a b
rows_own d p i olds cells pairs r a b own = own_from d cells olds p a b pairs (λ u v l w. r.rest u v l (inr w)) own

pub rows_more : (d p i : ℕ) (olds cells news : List (Option ℤ)) → d % 2 ≡ 0 → InRows d p i olds cells → p % 2 ≡ 0 → length news ≡ block (d / 2)
    → (i / 2 ≢ p / 2 → (b : ℕ) → b / 2 ≤ i / 2 → b / 2 ≢ p / 2 → kept_at d news i b ≡ over_pair (kept_at d cells) p i b)
    → ((a b : ℕ) → b / 2 ≤ a / 2 → (a ≢ i) ⊎ (a / 2 ≡ p / 2) ⊎ (b / 2 ≡ p / 2) → kept_at d news a b ≡ kept_at d cells a b)
    → InRows d p (i + 1) olds news
rows_more d p i olds cells news pairs r even size row others = record {
  size = size;
  done = λ a b l h m n. done a b h m n (cases_eq a i) l;
  rest = rest;
}
  where
    own : (a b : ℕ) → a / 2 ≡ p / 2 → kept_at d cells a b ≡ kept_at d olds a b
    own = rows_own d p i olds cells pairs r

    next : (p + 1) / 2 ≡ p / 2
    next = omega (arith, even)

    over : (b : ℕ) → b / 2 ≤ i / 2 → over_pair (kept_at d cells) p i b ≡ over_pair (kept_at d olds) p i b
    over b low = five (r.rest i b low (inl (omega arith))) (own (p + 1) (bar i) next) (own p b refl) (own p (bar i) refl) (own (p + 1) b next)
      where
        five : {a v b w c x d y e z : Option ℤ} → a ≡ v → b ≡ w → c ≡ x → d ≡ y → e ≡ z → lesser (lesser a (plus b c)) (plus d e) ≡ lesser (lesser v (plus w x)) (plus y z)
        five p q r s t = cc

    done : (a b : ℕ) → b / 2 ≤ a / 2 → a / 2 ≢ p / 2 → b / 2 ≢ p / 2 → (a ≡ i) ⊎ (a ≢ i) → a < i + 1 → kept_at d news a b ≡ over_pair (kept_at d olds) p a b
    done a b h m n (inl s) l = rw s (row (rw (sym s) m) b (rw (sym s) h) n ∙ over b (rw (sym s) h))
    done a b h m n (inr o) l = others a b h (inl o) ∙ r.done a b (omega (arith, o, l)) h m n

    rest : (a b : ℕ) → b / 2 ≤ a / 2 → (i + 1 ≤ a) ⊎ (a / 2 ≡ p / 2) ⊎ (b / 2 ≡ p / 2) → kept_at d news a b ≡ kept_at d olds a b
    rest a b low (inl g) = others a b low (inl (λ s. absurd (omega (arith, g, s)))) ∙ r.rest a b low (inl (omega (arith, g)))
    rest a b low (inr w) = others a b low (inr w) ∙ r.rest a b low (inr w)

-- ---- a row of its own, filled below j
pub record InCopy (j : ℕ) (f : ℕ → Option ℤ) (row : List (Option ℤ)) : Type 0 where
  pub size : length row ≡ 128
  pub done : (b : ℕ) → b < j → get_or row b None ≡ f b

-- the same of a row that may have no room
pub record InKept (d j : ℕ) (f : ℕ → Option ℤ) (row : List (Option ℤ)) : Type 0 where
  pub size : length row ≡ 128
  pub done : d ≤ 128 → (b : ℕ) → b < j → get_or row b None ≡ f b

pub kept_none : (d : ℕ) (f : ℕ → Option ℤ) (row : List (Option ℤ)) → length row ≡ 128 → InKept d 0 f row
kept_none d f row size = record { size = size; done = λ few b h. absurd (omega arith) }

pub kept_more : (d j : ℕ) (f : ℕ → Option ℤ) (row news : List (Option ℤ)) (x : Option ℤ) → InKept d j f row → length news ≡ 128 → (d ≤ 128 → get_or news j None ≡ x) → ((b : ℕ) → b ≢ j → get_or news b None ≡ get_or row b None) → x ≡ f j
    → InKept d (j + 1) f news
kept_more d j f row news x k size here others is = record { size = size; done = λ few b h. done few b (cases_eq b j) h }
  where
    done : d ≤ 128 → (b : ℕ) → (b ≡ j) ⊎ (b ≢ j) → b < j + 1 → get_or news b None ≡ f b
    done few b (inl s) h = rw s (here few ∙ is)
    done few b (inr n) h = others b n ∙ k.done few b (omega (arith, n, h))

pub copy_none : (f : ℕ → Option ℤ) (row : List (Option ℤ)) → length row ≡ 128 → InCopy 0 f row
copy_none f row size = record { size = size; done = λ b h. absurd (omega arith) }

pub copy_more : (j : ℕ) (f : ℕ → Option ℤ) (row : List (Option ℤ)) (x : Option ℤ) → InCopy j f row → j < 128 → x ≡ f j → InCopy (j + 1) f (set row j x)
copy_more j f row x c few is = record { size = length-set row j x ∙ c.size; done = λ b h. done b (cases_eq b j) h }
  where
    done : (b : ℕ) → (b ≡ j) ⊎ (b ≢ j) → b < j + 1 → get_or (set row j x) b None ≡ f b
    done b (inl s) h = rw s (get_or-set_same row j x None (omega (arith, c.size, few)) ∙ is)
    done b (inr n) h = get_or-set_other row j b x None n ∙ c.done b (omega (arith, n, h))
