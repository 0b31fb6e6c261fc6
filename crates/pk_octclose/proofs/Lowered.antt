-- A row of its own while it is lowered to what leads over places of other variables, and the matrix in which two such rows are written.
use Rattle.std.specs.Prelude.{◌≡◌, ◌≢◌, ℕ, ◌<◌, ◌≤◌, ◌+◌, ◌/◌, ◌%◌, ℤ, Option, None, List, ◌⊎◌, length}
use Rattle.std.proofs.Common.{◌∙◌, ap, refl, subst, sym, arith, inl, inr, get_or, set, length-set}
use Rattle.std.proofs.lemmas.Bool.{cases_eq}
use Rattle.std.proofs.lemmas.List.{get_or-set_other, get_or-set_same, get_or_read}
use Rattle.pk_octmat.specs.Bounds.{lesser, plus}
use Rattle.pk_octmat.specs.Octagon.{bar}
use Rattle.pk_octmat.specs.Half.{kept_at}
use Rattle.pk_octmat.proofs.Half.{kept_turned}
use Rattle.pk_octclose.specs.After.{line_through, lined, own_through}
use Rattle.pk_octclose.proofs.Lined.{line_more, lined_own, lined_rest, lined_row, lined_turned, own_more, own_same}
use Rattle.pk_octmat.proofs.Pair.{half_bar}

-- ---- over one place, in the columns below j
pub record InRun (j : ℕ) (first : Option ℤ) (e : ℕ → Option ℤ) (olds line : List (Option ℤ)) : Type 0 where
  pub size : length line ≡ 128
  pub done : (b : ℕ) → b < j → get_or line b None ≡ lesser (get_or olds b None) (plus first (e b))
  pub rest : (b : ℕ) → j ≤ b → get_or line b None ≡ get_or olds b None

pub run_none : (first : Option ℤ) (e : ℕ → Option ℤ) (line : List (Option ℤ)) → length line ≡ 128 → InRun 0 first e line line
run_none first e line size = record { size = size; done = λ b h. absurd (omega arith); rest = λ b g. refl }

pub run_more : (j : ℕ) (first : Option ℤ) (e : ℕ → Option ℤ) (olds line : List (Option ℤ)) (x here through over : Option ℤ) → InRun j first e olds line → j < 128 → here ≡ get_or line j here → over ≡ e j → through ≡ plus first over → x ≡ lesser here through
    → InRun (j + 1) first e olds (set line j x)
run_more j first e olds line x here through over r few at is sums value = record {
  size = length-set line j x ∙ r.size;
  done = λ b h. done b (cases_eq b j) h;
  rest = λ b g. get_or-set_other line j b x None (λ s. absurd (omega (arith, g, s))) ∙ r.rest b (omega (arith, g));
}
  where
    within : j < length line
    within = subst (λ n. j < n) (sym r.size) few

    was : here ≡ get_or olds j None
    was = get_or_read line j here within at None ∙ r.rest j (omega arith)

    done : (b : ℕ) → (b ≡ j) ⊎ (b ≢ j) → b < j + 1 → get_or (set line j x) b None ≡ lesser (get_or olds b None) (plus first (e b))
    done b (inl s) h = rw s (get_or-set_same line j x None within ∙ value ∙ ap (λ o. lesser o through) was ∙ ap (λ o. lesser (get_or olds j None) o) (sums ∙ ap (λ o. plus first o) is))
    done b (inr n) h = get_or-set_other line j b x None n ∙ r.done b (omega (arith, n, h))

-- what a row that is read at a place has there
pub line_read : (line : List (Option ℤ)) (a : ℕ) (x : Option ℤ) → length line ≡ 128 → a < 128 → x ≡ get_or line a x → x ≡ get_or line a None
line_read line a x size few at = get_or_read line a x (subst (λ n. a < n) (sym size) few) at None

-- ---- row r over the places below i
pub record InLine (d r i : ℕ) (e : ℕ → ℕ → Option ℤ) (line : List (Option ℤ)) : Type 0 where
  pub size : length line ≡ 128
  pub done : (b : ℕ) → b < d → get_or line b None ≡ line_through e r i b

pub in_line : (d r i : ℕ) (e : ℕ → ℕ → Option ℤ) (line news : List (Option ℤ)) → InLine d r i e line → i < d → length news ≡ 128
    → (i / 2 ≢ r / 2 → (b : ℕ) → b < d → get_or news b None ≡ lesser (get_or line b None) (plus (get_or line i None) (e i b)))
    → (i / 2 ≡ r / 2 → (b : ℕ) → get_or news b None ≡ get_or line b None)
    → InLine d r (i + 1) e news
in_line d r i e line news h id size lowered stays = record { size = size; done = λ b bd. line_more e r i b (get_or news b None) (λ s. stays s b ∙ h.done b bd) (λ n. below n b bd) }
  where
    below : i / 2 ≢ r / 2 → (b : ℕ) → b < d → get_or news b None ≡ lesser (line_through e r i b) (plus (line_through e r i i) (e i b))
    below n b bd = lowered n b bd ∙ ap (λ o. lesser o (plus (get_or line i None) (e i b))) (h.done b bd) ∙ ap (λ o. lesser (line_through e r i b) (plus o (e i b))) (h.done i id)

-- ---- its bounds on its own variable
pub own_written : (r q s a : ℕ) (e : ℕ → ℕ → Option ℤ) (line : List (Option ℤ)) (first here there back across to far x y : Option ℤ) → length line ≡ 128 → r < 128 → q < 128 → q ≡ bar r → s / 2 ≡ r / 2
    → first ≡ get_or line a None → here ≡ get_or line r here → to ≡ e a r → back ≡ plus first to → x ≡ lesser here back
    → there ≡ get_or (set line r x) q there → far ≡ e a q → across ≡ plus first far → y ≡ lesser there across
    → get_or (set (set line r x) q y) s None ≡ lesser (get_or line s None) (plus (get_or line a None) (e a s))
own_written r q s a e line first here there back across to far x y size rd qd is own f at t b value at_q g c value_q = by (cases_eq s r)
  where
    apart : r ≢ q
    apart u = absurd (omega (arith, u, is))

    ones : List (Option ℤ)
    ones = set line r x

    size_ones : length ones ≡ 128
    size_ones = length-set line r x ∙ size

    read : here ≡ get_or line r None
    read = line_read line r here size rd at

    read_q : there ≡ get_or line q None
    read_q = line_read ones q there size_ones qd at_q ∙ get_or-set_other line r q x None (λ u. apart (sym u))

    by : (s ≡ r) ⊎ (s ≢ r) → get_or (set ones q y) s None ≡ lesser (get_or line s None) (plus (get_or line a None) (e a s))
    by (inl v) =
        rw v (get_or-set_other ones q r y None apart ∙ get_or-set_same line r x None (subst (λ n. r < n) (sym size) rd) ∙ value ∙ ap (λ o. lesser o back) read
        ∙ ap (λ o. lesser (get_or line r None) o) (b ∙ ap (λ o. plus o to) f ∙ ap (λ o. plus (get_or line a None) o) t))
    by (inr n) =
        let at_s : s ≡ q = omega (arith, n, own, is) in
        rw at_s (get_or-set_same ones q y None (subst (λ n. q < n) (sym size_ones) qd) ∙ value_q ∙ ap (λ o. lesser o across) read_q
        ∙ ap (λ o. lesser (get_or line q None) o) (c ∙ ap (λ o. plus o far) f ∙ ap (λ o. plus (get_or line a None) o) g))

pub own_others : (r q b : ℕ) (line : List (Option ℤ)) (x y : Option ℤ) → q ≡ bar r → b / 2 ≢ r / 2 → get_or (set (set line r x) q y) b None ≡ get_or line b None
own_others r q b line x y is n =
    get_or-set_other (set line r x) q b y None (λ s. n (ap (λ k. k / 2) s ∙ ap (λ k. k / 2) is ∙ half_bar r)) ∙ get_or-set_other line r b x None (λ s. n (ap (λ k. k / 2) s))

pub record InOwn (d r i : ℕ) (e : ℕ → ℕ → Option ℤ) (l : ℕ → Option ℤ) (line : List (Option ℤ)) : Type 0 where
  pub size : length line ≡ 128
  pub done : (s : ℕ) → s / 2 ≡ r / 2 → get_or line s None ≡ own_through e l (r / 2) i s
  pub rest : (b : ℕ) → b / 2 ≢ r / 2 → get_or line b None ≡ l b

pub in_own : (d r i : ℕ) (e : ℕ → ℕ → Option ℤ) (l : ℕ → Option ℤ) (line news : List (Option ℤ)) → InOwn d r i e l line → length news ≡ 128
    → (i / 2 ≢ r / 2 → (s : ℕ) → s / 2 ≡ r / 2 → get_or news s None ≡ lesser (get_or line s None) (plus (get_or line i None) (e i s)))
    → ((b : ℕ) → b / 2 ≢ r / 2 → get_or news b None ≡ get_or line b None)
    → (i / 2 ≡ r / 2 → (b : ℕ) → get_or news b None ≡ get_or line b None)
    → InOwn d r (i + 1) e l news
in_own d r i e l line news h size lowered others stays = record {
  size = size;
  done = λ s q. own_more e l (r / 2) i s (get_or news s None) (λ u. stays u s ∙ h.done s q) (λ n. below n s q);
  rest = λ b n. others b n ∙ h.rest b n;
}
  where
    below : i / 2 ≢ r / 2 → (s : ℕ) → s / 2 ≡ r / 2 → get_or news s None ≡ lesser (own_through e l (r / 2) i s) (plus (l i) (e i s))
    below n s q = lowered n s q ∙ ap (λ o. lesser o (plus (get_or line i None) (e i s))) (h.done s q) ∙ ap (λ o. lesser (own_through e l (r / 2) i s) (plus o (e i s))) (h.rest i n)

-- ---- both
pub line_lined : (d r : ℕ) (e : ℕ → ℕ → Option ℤ) (lines owns : List (Option ℤ)) → ((b : ℕ) → b < d → get_or lines b None ≡ line_through e r d b)
    → ((s : ℕ) → s / 2 ≡ r / 2 → get_or owns s None ≡ own_through e (λ b. get_or lines b None) (r / 2) d s) → ((b : ℕ) → b / 2 ≢ r / 2 → get_or owns b None ≡ get_or lines b None)
    → (b : ℕ) → b < d → get_or owns b None ≡ lined d e (r / 2) r b
line_lined d r e lines owns is own others b bd = by (cases_eq (b / 2) (r / 2))
  where
    by : (b / 2 ≡ r / 2) ⊎ (b / 2 ≢ r / 2) → get_or owns b None ≡ lined d e (r / 2) r b
    by (inr n) = others b n ∙ is b bd ∙ sym (lined_row d e (r / 2) r b refl n)
    by (inl s) = own b s ∙ own_same e e (line_through e r d) (λ c. get_or lines c None) (r / 2) d d b (omega arith) bd is (λ a q m. refl) ∙ sym (lined_own d e (r / 2) r b refl s)

-- so the matrix has the lowered bounds
pub pair_lined : (d p : ℕ) (e : ℕ → ℕ → Option ℤ) (xs zs : List (Option ℤ)) → d % 2 ≡ 0 → p % 2 ≡ 0 → ((a b : ℕ) → e a b ≡ e (bar b) (bar a)) → ((a b : ℕ) → kept_at d xs a b ≡ e a b)
    → ((b : ℕ) → b < d → kept_at d zs p b ≡ lined d e (p / 2) p b) → ((b : ℕ) → b < d → kept_at d zs (p + 1) b ≡ lined d e (p / 2) (p + 1) b)
    → ((a b : ℕ) → a / 2 ≢ p / 2 → b / 2 ≢ p / 2 → kept_at d zs a b ≡ kept_at d xs a b)
    → (i j : ℕ) → i < d → j < d → kept_at d zs i j ≡ lined d e (p / 2) i j
pair_lined d p e xs zs pairs even turned same first second others i j id jd = by (cases_eq (i / 2) (p / 2)) (cases_eq (j / 2) (p / 2))
  where
    own : (a b : ℕ) → b < d → a / 2 ≡ p / 2 → (a ≡ p) ⊎ (a ≢ p) → kept_at d zs a b ≡ lined d e (p / 2) a b
    own a b bd s (inl u) = subst (λ q. kept_at d zs q b ≡ lined d e (p / 2) q b) (sym u) (first b bd)
    own a b bd s (inr u) = let is : a ≡ p + 1 = omega (arith, s, u, even) in subst (λ q. kept_at d zs q b ≡ lined d e (p / 2) q b) (sym is) (second b bd)

    by : (i / 2 ≡ p / 2) ⊎ (i / 2 ≢ p / 2) → (j / 2 ≡ p / 2) ⊎ (j / 2 ≢ p / 2) → kept_at d zs i j ≡ lined d e (p / 2) i j
    by (inl s) t = own i j jd s (cases_eq i p)
    by (inr m) (inl t) =
        let apart : i / 2 ≢ j / 2 = λ u. m (u ∙ t) in
        let other : i ≢ j = λ u. apart (ap (λ k. k / 2) u) in
        kept_turned d zs i j pairs id jd other ∙ own (bar j) (bar i) (omega (arith, pairs)) (half_bar j ∙ t) (cases_eq (bar j) p) ∙ lined_turned d e (p / 2) i j turned apart
    by (inr m) (inr n) = others i j m n ∙ same i j ∙ sym (lined_rest d e (p / 2) i j m n)
