-- Two places of one variable at once: one after the other, and coherent where the matrix is.
use Rattle.std.specs.Prelude.{◌≡◌, ◌≢◌, ℕ, ◌<◌, ◌≤◌, ◌+◌, ◌/◌, ◌%◌, ℤ, pos, ◌+ℤ◌, Option, Some, None, ◌⊎◌, List}
use Rattle.std.proofs.Common.{◌∙◌, ap, sym, subst, arith, inl, inr}
use Rattle.std.proofs.lemmas.Bool.{cases_eq}
use Rattle.std.proofs.lemmas.Int.{ints}
use Rattle.pk_octmat.specs.Bounds.{AtMost, plus, lesser}
use Rattle.pk_octmat.specs.Octagon.{bar}
use Rattle.pk_octmat.specs.Half.{kept_at}
use Rattle.pk_octmat.proofs.Half.{kept_turned}
use Rattle.pk_octmat.proofs.Bars.{bar_bar}
use Rattle.pk_octmat.proofs.Tropical.{at_most_both, at_most_none, at_most_same, at_most_trans, lesser_above, lesser_left, lesser_one, lesser_right, plus_assoc, plus_comm, plus_le}
use Rattle.pk_octclose.specs.Pairs.{over_pair}
use Rattle.pk_octclose.specs.Walks.{relaxed}
use Rattle.pk_octclose.proofs.Walks.{relaxed_row}
use Rattle.pk_octclose.proofs.Whole.{kept_coherent, kept_is}
use Rattle.pk_octmat.proofs.Pair.{half_bar}

-- the bounds, lowered to what leads through p and q, each of them over the other
abbrev paired : (ℕ → ℕ → Option ℤ) → ℕ → ℕ → ℕ → ℕ → Option ℤ
paired e p q i j = lesser (lesser (e i j) (plus (relaxed e q i p) (relaxed e q p j))) (plus (relaxed e p i q) (relaxed e p q j))

-- there and back over the pair is no shorter
round : (c d u w : Option ℤ) → AtMost (Some (pos 0)) (plus u w) → AtMost (plus c d) (plus (plus c w) (plus u d))
round None d u w h = tt
round (Some c) d u None h = at_most_none (plus (Some c) d)
round (Some c) None u (Some w) h = by u
  where
    by : (o : Option ℤ) → AtMost None (plus (Some (c +ℤ w)) (plus o None))
    by None = tt
    by (Some z) = tt
round (Some c) (Some d) None (Some w) h = tt
round (Some c) (Some d) (Some u) (Some w) h = omega (arith, ints, h)

pair_same : (x a b c d u w : Option ℤ) → AtMost (Some (pos 0)) (plus u w)
    → lesser (lesser x (plus (lesser a (plus c w)) (lesser b (plus u d)))) (plus (lesser c (plus a u)) (lesser d (plus w b))) ≡ lesser (lesser x (plus a b)) (plus (lesser c (plus a u)) (lesser d (plus w b)))
pair_same x a b c d u w h = at_most_both left right (lesser_above (lesser x (plus a b)) l left (lesser_above x (plus a b) left below_x below_ab) (lesser_right (lesser x f) l)) (lesser_above (lesser x f) l right (lesser_above x f right above_x above_f) (lesser_right (lesser x (plus a b)) l))
  where
    f : Option ℤ
    f = plus (lesser a (plus c w)) (lesser b (plus u d))

    l : Option ℤ
    l = plus (lesser c (plus a u)) (lesser d (plus w b))

    left : Option ℤ
    left = lesser (lesser x f) l

    right : Option ℤ
    right = lesser (lesser x (plus a b)) l

    below_x : AtMost left x
    below_x = at_most_trans left (lesser x f) x (lesser_left (lesser x f) l) (lesser_left x f)

    below_ab : AtMost left (plus a b)
    below_ab =
        at_most_trans left (lesser x f) (plus a b) (lesser_left (lesser x f) l)
        (at_most_trans (lesser x f) f (plus a b) (lesser_right x f) (plus_le (lesser a (plus c w)) (lesser b (plus u d)) a b (lesser_left a (plus c w)) (lesser_left b (plus u d))))

    above_x : AtMost right x
    above_x = at_most_trans right (lesser x (plus a b)) x (lesser_left (lesser x (plus a b)) l) (lesser_left x (plus a b))

    above_ab : AtMost right (plus a b)
    above_ab = at_most_trans right (lesser x (plus a b)) (plus a b) (lesser_left (lesser x (plus a b)) l) (lesser_right x (plus a b))

    above_f : AtMost right f
    above_f = by (lesser_one a (plus c w)) (lesser_one b (plus u d))
      where
        first : AtMost l (plus (plus a u) d)
        first = plus_le (lesser c (plus a u)) (lesser d (plus w b)) (plus a u) d (lesser_right c (plus a u)) (lesser_left d (plus w b))

        second : AtMost l (plus c (plus w b))
        second = plus_le (lesser c (plus a u)) (lesser d (plus w b)) c (plus w b) (lesser_left c (plus a u)) (lesser_right d (plus w b))

        third : AtMost l (plus c d)
        third = plus_le (lesser c (plus a u)) (lesser d (plus w b)) c d (lesser_left c (plus a u)) (lesser_left d (plus w b))

        by : (lesser a (plus c w) ≡ a) ⊎ (lesser a (plus c w) ≡ plus c w) → (lesser b (plus u d) ≡ b) ⊎ (lesser b (plus u d) ≡ plus u d) → AtMost right f
        by (inl p) (inl q) = subst (λ o. AtMost right (plus o (lesser b (plus u d)))) (sym p) (subst (λ o. AtMost right (plus a o)) (sym q) above_ab)
        by (inl p) (inr q) = subst (λ o. AtMost right (plus o (lesser b (plus u d)))) (sym p) (subst (λ o. AtMost right (plus a o)) (sym q) (subst (λ o. AtMost right o) (plus_assoc a u d) (at_most_trans right l _ (lesser_right (lesser x (plus a b)) l) first)))
        by (inr p) (inl q) = subst (λ o. AtMost right (plus o (lesser b (plus u d)))) (sym p) (subst (λ o. AtMost right (plus (plus c w) o)) (sym q) (subst (λ o. AtMost right o) (sym (plus_assoc c w b)) (at_most_trans right l _ (lesser_right (lesser x (plus a b)) l) second)))
        by (inr p) (inr q) =
            subst (λ o. AtMost right (plus o (lesser b (plus u d)))) (sym p) (subst (λ o. AtMost right (plus (plus c w) o)) (sym q)
            (at_most_trans right l _ (lesser_right (lesser x (plus a b)) l) (at_most_trans l (plus c d) _ third (round c d u w h))))

pub pairs_same : (e : ℕ → ℕ → Option ℤ) (p q i j : ℕ) → AtMost (Some (pos 0)) (plus (e p q) (e q p)) → paired e p q i j ≡ relaxed (relaxed e p) q i j
pairs_same e p q i j h = pair_same (e i j) (e i p) (e p j) (e i q) (e q j) (e p q) (e q p) h

-- ---- coherence
lesser_swap : (x f l : Option ℤ) → lesser (lesser x f) l ≡ lesser (lesser x l) f
lesser_swap x f l = at_most_both (lesser (lesser x f) l) (lesser (lesser x l) f) (half x f l) (half x l f)
  where
    half : (x f l : Option ℤ) → AtMost (lesser (lesser x f) l) (lesser (lesser x l) f)
    half x f l =
        let s = lesser (lesser x f) l in
        let low : AtMost s (lesser x f) = lesser_left (lesser x f) l in
        lesser_above (lesser x l) f s (lesser_above x l s (at_most_trans s (lesser x f) x low (lesser_left x f)) (lesser_right (lesser x f) l)) (at_most_trans s (lesser x f) f low (lesser_right x f))

-- the bounds to a place are those from its negative
to_first : (e : ℕ → ℕ → Option ℤ) (p q a : ℕ) → q ≡ bar p → ((i j : ℕ) → e i j ≡ e (bar j) (bar i)) → relaxed e p q (bar a) ≡ relaxed e q a p
to_first e p q a s t =
    let back : p ≡ bar q = sym (ap bar s ∙ bar_bar p) in
    let to_p : e q (bar a) ≡ e a p = sym (t a p ∙ ap (λ k. e k (bar a)) (sym s)) in
    let to_q : e p (bar a) ≡ e a q = sym (t a q ∙ ap (λ k. e k (bar a)) (sym back)) in
    ap (λ o. lesser o (plus (e q p) (e p (bar a)))) to_p ∙ ap (λ o. lesser (e a p) (plus (e q p) o)) to_q ∙ ap (λ o. lesser (e a p) o) (plus_comm (e q p) (e a q))

turned_swap : (x f l y g m : Option ℤ) → x ≡ y → f ≡ m → l ≡ g → lesser (lesser x f) l ≡ lesser (lesser y g) m
turned_swap x f l y g m a b c = ap (λ o. lesser (lesser o f) l) a ∙ ap (λ o. lesser (lesser y o) l) b ∙ ap (λ o. lesser (lesser y m) o) c ∙ lesser_swap y m g

pairs_turned : (e : ℕ → ℕ → Option ℤ) (p q i j : ℕ) → q ≡ bar p → ((a b : ℕ) → e a b ≡ e (bar b) (bar a)) → paired e p q i j ≡ paired e p q (bar j) (bar i)
pairs_turned e p q i j s t =
    turned_swap (e i j) (plus (relaxed e q i p) (relaxed e q p j)) (plus (relaxed e p i q) (relaxed e p q j)) (e (bar j) (bar i)) (plus (relaxed e q (bar j) p) (relaxed e q p (bar i))) (plus (relaxed e p (bar j) q) (relaxed e p q (bar i))) (t i j) first second
  where
    back : p ≡ bar q
    back = sym (ap bar s ∙ bar_bar p)

    -- to p, and to q
    at_p : (a : ℕ) → relaxed e p q (bar a) ≡ relaxed e q a p
    at_p a = to_first e p q a s t

    at_q : (a : ℕ) → relaxed e q p (bar a) ≡ relaxed e p a q
    at_q a = to_first e q p a back t

    -- from p, and from q
    from_p : (a : ℕ) → relaxed e q p a ≡ relaxed e p (bar a) q
    from_p a = ap (λ k. relaxed e q p k) (sym (bar_bar a)) ∙ at_q (bar a)

    from_q : (a : ℕ) → relaxed e p q a ≡ relaxed e q (bar a) p
    from_q a = ap (λ k. relaxed e p q k) (sym (bar_bar a)) ∙ at_p (bar a)

    first : plus (relaxed e q i p) (relaxed e q p j) ≡ plus (relaxed e p (bar j) q) (relaxed e p q (bar i))
    first = ap (λ o. plus o (relaxed e q p j)) (sym (at_p i)) ∙ ap (λ o. plus (relaxed e p q (bar i)) o) (from_p j) ∙ plus_comm (relaxed e p q (bar i)) (relaxed e p (bar j) q)

    second : plus (relaxed e p i q) (relaxed e p q j) ≡ plus (relaxed e q (bar j) p) (relaxed e q p (bar i))
    second = ap (λ o. plus o (relaxed e p q j)) (sym (at_q i)) ∙ ap (λ o. plus (relaxed e q p (bar i)) o) (from_q j) ∙ plus_comm (relaxed e q p (bar i)) (relaxed e q (bar j) p)

-- ---- the pair's own lines
pairs_lines : (e : ℕ → ℕ → Option ℤ) (p q j : ℕ) → e p p ≡ Some (pos 0) → AtMost (Some (pos 0)) (plus (e p q) (e q p)) → paired e p q p j ≡ relaxed e q p j
pairs_lines e p q j z h =
    pairs_same e p q p j h
    ∙ ap (λ o. lesser o (plus (relaxed e p p q) (relaxed e p q j))) (row j) ∙ ap (λ o. lesser (e p j) (plus o (relaxed e p q j))) (row q)
    ∙ lines (e p j) (e p q) (e q j) (e q p) h
  where
    row : (a : ℕ) → relaxed e p p a ≡ e p a
    row a = relaxed_row e p a z

    lines : (b u d w : Option ℤ) → AtMost (Some (pos 0)) (plus u w) → lesser b (plus u (lesser d (plus w b))) ≡ lesser b (plus u d)
    lines b u d w h = at_most_both _ _ (lesser_above b (plus u d) _ (lesser_left b _) (at_most_trans _ (plus u (lesser d (plus w b))) (plus u d) (lesser_right b _) (plus_le u (lesser d (plus w b)) u d (at_most_same u) (lesser_left d (plus w b))))) (lesser_above b _ _ (lesser_left b (plus u d)) (by (lesser_one d (plus w b))))
      where
        more : (b u w : Option ℤ) → AtMost (Some (pos 0)) (plus u w) → AtMost b (plus u (plus w b))
        more b None w h = at_most_none b
        more None (Some u) None h = tt
        more None (Some u) (Some w) h = tt
        more (Some b) (Some u) None h = tt
        more (Some b) (Some u) (Some w) h = omega (arith, ints, h)

        by : (lesser d (plus w b) ≡ d) ⊎ (lesser d (plus w b) ≡ plus w b) → AtMost (lesser b (plus u d)) (plus u (lesser d (plus w b)))
        by (inl s) = subst (λ o. AtMost (lesser b (plus u d)) (plus u o)) (sym s) (lesser_right b (plus u d))
        by (inr s) = subst (λ o. AtMost (lesser b (plus u d)) (plus u o)) (sym s) (at_most_trans (lesser b (plus u d)) b (plus u (plus w b)) (lesser_left b (plus u d)) (more b u w h))

-- ---- what a pivot writes
five : (a b c d e v w x y z : Option ℤ) → a ≡ v → b ≡ w → c ≡ x → d ≡ y → e ≡ z → lesser (lesser a (plus b c)) (plus d e) ≡ lesser (lesser v (plus w x)) (plus y z)
five a b c d e v w x y z p q r s t = ap (λ o. lesser (lesser o (plus b c)) (plus d e)) p ∙ ap (λ o. lesser (lesser v (plus o c)) (plus d e)) q ∙ ap (λ o. lesser (lesser v (plus w o)) (plus d e)) r ∙ ap (λ o. lesser (lesser v (plus w x)) (plus o e)) s ∙ ap (λ o. lesser (lesser v (plus w x)) (plus y o)) t

-- rows ys of the pair are lowered over each other, and then the bounds zs that are kept
pub pair_lowered : (d p : ℕ) (xs ys zs : List (Option ℤ)) → d % 2 ≡ 0 → p % 2 ≡ 0 → p + 1 < d → ((i : ℕ) → i < d → kept_at d xs i i ≡ Some (pos 0))
    → AtMost (Some (pos 0)) (plus (kept_at d xs p (p + 1)) (kept_at d xs (p + 1) p))
    → ((b : ℕ) → b < d → kept_at d ys p b ≡ relaxed (kept_at d xs) (p + 1) p b)
    → ((b : ℕ) → b < d → kept_at d ys (p + 1) b ≡ relaxed (kept_at d xs) p (p + 1) b)
    → ((a b : ℕ) → a / 2 ≢ p / 2 → b / 2 ≢ p / 2 → kept_at d ys a b ≡ kept_at d xs a b)
    → ((a b : ℕ) → a < d → b / 2 ≤ a / 2 → a / 2 ≢ p / 2 → b / 2 ≢ p / 2 → kept_at d zs a b ≡ over_pair (kept_at d ys) p a b)
    → ((a b : ℕ) → a / 2 ≡ p / 2 → kept_at d zs a b ≡ kept_at d ys a b)
    → (a b : ℕ) → a < d → b < d → kept_at d zs a b ≡ relaxed (relaxed (kept_at d xs) p) (p + 1) a b
pair_lowered d p xs ys zs pairs even room diagonal round first second others lowered own = kept_is d zs f pairs (λ a b ad bd. turned a b) low
  where
    e : ℕ → ℕ → Option ℤ
    e = kept_at d xs

    q : ℕ
    q = p + 1

    f : ℕ → ℕ → Option ℤ
    f = relaxed (relaxed e p) q

    next : p + 1 ≡ bar p
    next = omega arith

    coherent : (i j : ℕ) → e i j ≡ e (bar j) (bar i)
    coherent = kept_coherent d xs pairs diagonal

    turned : (i j : ℕ) → f i j ≡ f (bar j) (bar i)
    turned i j = sym (pairs_same e p q i j round) ∙ pairs_turned e p q i j next coherent ∙ pairs_same e p q (bar j) (bar i) round

    back : AtMost (Some (pos 0)) (plus (e q p) (e p q))
    back = subst (λ o. AtMost (Some (pos 0)) o) (plus_comm (e p q) (e q p)) round

    -- the pair's own rows
    own_first : (b : ℕ) → relaxed e q p b ≡ f p b
    own_first b = sym (pairs_lines e p q b (diagonal p (omega arith)) round) ∙ pairs_same e p q p b round

    own_second : (b : ℕ) → relaxed e p q b ≡ f q b
    own_second b = sym (pairs_lines e q p b (diagonal q room) back) ∙ lesser_swap (e q b) (plus (relaxed e p q q) (relaxed e p q b)) (plus (relaxed e q q p) (relaxed e q p b)) ∙ pairs_same e p q q b round

    own_row : (a b : ℕ) → b < d → a / 2 ≡ p / 2 → (a ≡ p) ⊎ (a ≢ p) → kept_at d ys a b ≡ f a b
    own_row a b bd s (inl h) = subst (λ k. kept_at d ys k b ≡ f k b) (sym h) (first b bd ∙ own_first b)
    own_row a b bd s (inr h) = let is : a ≡ p + 1 = omega (arith, s, h, even) in subst (λ k. kept_at d ys k b ≡ f k b) (sym is) (second b bd ∙ own_second b)

    low : (a b : ℕ) → a < d → b < d → b / 2 ≤ a / 2 → kept_at d zs a b ≡ f a b
    low a b ad bd h = by (cases_eq (a / 2) (p / 2)) (cases_eq (b / 2) (p / 2))
      where
        ba : bar a < d
        ba = omega (arith, pairs)

        by : (a / 2 ≡ p / 2) ⊎ (a / 2 ≢ p / 2) → (b / 2 ≡ p / 2) ⊎ (b / 2 ≢ p / 2) → kept_at d zs a b ≡ f a b
        by (inl s) t = own a b s ∙ own_row a b bd s (cases_eq a p)
        by (inr m) (inl t) =
            let apart : a ≢ b = λ u. m (ap (λ k. k / 2) u ∙ t) in
            let there : bar b / 2 ≡ p / 2 = half_bar b ∙ t in
            kept_turned d zs a b pairs ad bd apart ∙ own (bar b) (bar a) there ∙ own_row (bar b) (bar a) ba there (cases_eq (bar b) p) ∙ sym (turned a b)
        by (inr m) (inr n) =
            lowered a b ad h m n
            ∙ five (kept_at d ys a b) (kept_at d ys q (bar a)) (kept_at d ys p b) (kept_at d ys p (bar a)) (kept_at d ys q b) (e a b) (relaxed e q a p) (relaxed e q p b) (relaxed e p a q) (relaxed e p q b)
            (others a b m n) (second (bar a) ba ∙ to_first e p q a next coherent) (first b bd) (first (bar a) ba ∙ to_first e q p a (sym (ap bar next ∙ bar_bar p)) coherent) (second b bd)
            ∙ pairs_same e p q a b round
