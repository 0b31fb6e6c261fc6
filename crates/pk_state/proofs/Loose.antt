-- Which values may be loose.
use Rattle.std.specs.Prelude.{◌≡◌, ◌≢◌, ◌⊎◌, ℕ, zero, suc, ◌+◌, ◌-◌, ◌<◌, ◌≤◌, Bool, true, false, not, List, [], ◌∷◌, ◌++◌, length, slice_index_or, Option, Some, None, pos, ◌≤ℤ◌}
use Rattle.std.proofs.Common.{◌∙◌, ap, refl, sym, subst, arith, inl, inr, set, drop, length-set}
use Rattle.std.proofs.lemmas.List.{drop_more}
use Rattle.std.proofs.lemmas.Bool.{cases_eq, cases_lt}
use Rattle.pk_value.specs.Known.{Known, red_known, joined}
use Rattle.pk_value.specs.Laws.{IsTight}
use Rattle.pk_value.proofs.Tight.{tight_is_reduced}
use Rattle.pk_blocks.proofs.Merging.{merged_length}
use Rattle.pk_ctypes.specs.declared.types.IntType.{IntType}
use Rattle.pk_octagons.specs.Values.{known_at, AreValues, IsListed, AreMarked}
use Rattle.pk_octagons.specs.Reduced.{with_first}
use Rattle.pk_octagons.proofs.Lists.{known_same, known_other}
use Rattle.pk_octagons.proofs.Bounding.{listed_left, listed_last}
use Rattle.pk_state.specs.Facts.{joined_values}
use Rattle.pk_state.specs.Reduced.{red_all}
use Rattle.pk_state.proofs.Lists.{merged_at}

-- ---- lists

pub listed_right : (xs ys : List ℕ) (y : ℕ) → IsListed ys y → IsListed (xs ++ ys) y
listed_right [] ys y h = h
listed_right (x ∷ xs) ys y h = inr (listed_right xs ys y h)

-- what is left is the next one or among the rest
pub listed_next : (xs : List ℕ) (k d y : ℕ) → k < length xs → IsListed (drop k xs) y → (slice_index_or xs k d ≡ y) ⊎ IsListed (drop (k + 1) xs) y
listed_next xs k d y p h = subst (λ zs. IsListed zs y) (drop_more xs k d p) h

-- those of either of two lists
pub listed_both : (a b : List ℕ) (y : ℕ) → IsListed a y ⊎ IsListed b y → IsListed (a ++ b) y
listed_both a b y (inl e) = listed_left a b y e
listed_both a b y (inr e) = listed_right a b y e

-- one more than so many
pub listed_more : (xs : List ℕ) (n : ℕ) → ((y : ℕ) → y < n → IsListed xs y) → (y : ℕ) → y < n + 1 → IsListed (xs ++ n ∷ []) y
listed_more xs n h y p = by (cases_eq y n)
  where
    by : (y ≡ n) ⊎ (y ≢ n) → IsListed (xs ++ n ∷ []) y
    by (inl e) = rw e (listed_last xs n)
    by (inr d) = listed_left xs (n ∷ []) y (h y (omega (arith, p, d)))

-- what is listed stands at some place
listed_some : (xs : List ℕ) (y : ℕ) → IsListed xs y → (k : ℕ) × (k < length xs) × (slice_index_or xs k y ≡ y)
listed_some [] y h = absurd h
listed_some (x ∷ xs) y (inl e) = (0, omega arith, e)
listed_some (x ∷ xs) y (inr h) = let r = listed_some xs y h in (suc r.0, omega (arith, r.1), r.2)

listed_there : (xs : List ℕ) (k y : ℕ) → k < length xs → slice_index_or xs k y ≡ y → IsListed xs y
listed_there [] k y p e = absurd (omega (arith, p))
listed_there (x ∷ xs) zero y p e = inl e
listed_there (x ∷ xs) (suc k) y p e = inr (listed_there xs k y (omega (arith, p)) e)

any_default : (xs : List ℕ) (k d e : ℕ) → k < length xs → slice_index_or xs k d ≡ slice_index_or xs k e
any_default [] k d e p = absurd (omega (arith, p))
any_default (x ∷ xs) zero d e p = refl
any_default (x ∷ xs) (suc k) d e p = any_default xs k d e (omega (arith, p))

pub listed_at : (xs : List ℕ) (k y : ℕ) → k < length xs → slice_index_or xs k 0 ≡ y → IsListed xs y
listed_at xs k y p e = listed_there xs k y p (any_default xs k y 0 p ∙ e)

-- the others are still listed where the last one takes the place of one of x
pub listed_without : (xs ys : List ℕ) (n i x : ℕ) → n ≡ length xs → i < length xs → slice_index_or xs i 0 ≡ x → length ys + 1 ≡ length xs
    → ((d : ℕ) → i + 1 < n → slice_index_or ys i d ≡ slice_index_or xs (n - 1) d) → ((k d : ℕ) → k ≢ i → k + 1 < n → slice_index_or ys k d ≡ slice_index_or xs k d)
    → (y : ℕ) → y ≢ x → IsListed xs y → IsListed ys y
listed_without xs ys n i x many p here size last rest y other h = by (listed_some xs y h)
  where
    by : (k : ℕ) × (k < length xs) × (slice_index_or xs k y ≡ y) → IsListed ys y
    by (k, q, e) = elim (cases_eq k i) [
      | inl same ↦ absurd (other (sym e ∙ ap (λ (j : ℕ). slice_index_or xs j y) same ∙ any_default xs i y 0 p ∙ here))
      | inr apart ↦ elim (cases_lt (k + 1) n) [
        | inl inner ↦ listed_there ys k y (omega (arith, size, many, inner)) (rest k y apart inner ∙ e)
        | inr end ↦
            let place : n - 1 ≡ k = omega (arith, many, q, end) in
            listed_there ys i y (omega (arith, size, many, p, q, end, apart)) (last y (omega (arith, many, p, q, end, apart)) ∙ ap (λ (j : ℕ). slice_index_or xs j y) place ∙ e)
      ]
    ]

pub not_false : (b : Bool) → not b ≡ false → b ≡ true
not_false true e = refl
not_false false e = absurd (cc)

-- ---- values

-- a value that is written is tight, and the others are listed as before
pub marked_tight : (vs : List Known) (loose more : List ℕ) (x : ℕ) (v : Known) → AreMarked vs loose → IsTight v → ((y : ℕ) → y ≢ x → IsListed loose y → IsListed more y) → AreMarked (set vs x v) more
marked_tight vs loose more x v h t f y p = by (cases_eq y x)
  where
    here : y < length vs
    here = omega (arith, p, length-set vs x v)

    other : y ≢ x → IsTight (known_at vs y) ⊎ IsListed loose y → IsTight (known_at (set vs x v) y) ⊎ IsListed more y
    other n (inl u) = inl (rw (known_other vs x y v n) u)
    other n (inr l) = inr (f y n l)

    by : (y ≡ x) ⊎ (y ≢ x) → IsTight (known_at (set vs x v) y) ⊎ IsListed more y
    by (inl e) = inl (rw e (rw (known_same vs x v (subst (λ z. z < length vs) e here)) t))
    by (inr n) = other n (h y here)

-- a value that is written is listed, and the others as before
pub marked_loose : (vs : List Known) (loose more : List ℕ) (x : ℕ) (v : Known) → AreMarked vs loose → IsListed more x → ((y : ℕ) → IsListed loose y → IsListed more y) → AreMarked (set vs x v) more
marked_loose vs loose more x v h l f y p = by (cases_eq y x)
  where
    other : y ≢ x → IsTight (known_at vs y) ⊎ IsListed loose y → IsTight (known_at (set vs x v) y) ⊎ IsListed more y
    other n (inl u) = inl (rw (known_other vs x y v n) u)
    other n (inr m) = inr (f y m)

    by : (y ≡ x) ⊎ (y ≢ x) → IsTight (known_at (set vs x v) y) ⊎ IsListed more y
    by (inl e) = inr (rw e l)
    by (inr n) = other n (h y (omega (arith, p, length-set vs x v)))

-- those of a list that has those of another
pub marked_in : (vs : List Known) (loose more : List ℕ) → ((y : ℕ) → y < length vs → IsListed loose y → IsListed more y) → AreMarked vs loose → AreMarked vs more
marked_in vs loose more f h x p = by (h x p)
  where
    by : IsTight (known_at vs x) ⊎ IsListed loose x → IsTight (known_at vs x) ⊎ IsListed more x
    by (inl t) = inl t
    by (inr l) = inr (f x p l)

pub marked_join : (types : List IntType) (us vs : List Known) (a b all : List ℕ) → AreValues types us → AreValues types vs → ((y : ℕ) → y < length types → IsListed a y ⊎ IsListed b y → IsListed all y) → AreMarked us a → AreMarked vs b → AreMarked (joined_values us vs) all
marked_join types us vs a b all h k f m n x p = by (m x here) (n x there)
  where
    same : length us ≡ length vs
    same = h.size ∙ sym k.size

    here : x < length us
    here = omega (arith, p, merged_length (λ y. joined) 0 us vs same)

    there : x < length vs
    there = omega (arith, here, same)

    listed : IsListed a x ⊎ IsListed b x → IsTight (known_at (joined_values us vs) x) ⊎ IsListed all x
    listed e = inr (f x (omega (arith, here, h.size)) e)

    by : IsTight (known_at us x) ⊎ IsListed a x → IsTight (known_at vs x) ⊎ IsListed b x → IsTight (known_at (joined_values us vs) x) ⊎ IsListed all x
    by (inl t) (inl u) = inl (rw (merged_at (λ y. joined) 0 us vs x x here same (omega arith)) (tight_is_reduced.joins (known_at us x) (known_at vs x) (h.classes x here) t u))
    by (inl t) (inr e) = listed (inr e)
    by (inr e) u = listed (inl e)

pub marked_either : (types : List IntType) (us vs : List Known) (a b c d all : List ℕ) (n : ℕ) → n ≡ length types → c ≡ a → d ≡ b → ((y : ℕ) → y < n → IsListed c y ⊎ IsListed d y → IsListed all y) → AreValues types us → AreValues types vs → AreMarked us a → AreMarked vs b → AreMarked (joined_values us vs) all
marked_either types us vs a b c d all n size first second f h k m o = marked_join types us vs a b all h k (λ y p e. f y (omega (arith, p, size)) (by y e)) m o
  where
    by : (y : ℕ) → IsListed a y ⊎ IsListed b y → IsListed c y ⊎ IsListed d y
    by y (inl e) = inl (subst (λ zs. IsListed zs y) (sym first) e)
    by y (inr e) = inr (subst (λ zs. IsListed zs y) (sym second) e)

-- ---- reducing those that are listed

-- the values reduce as those that there were, and those that are neither tight nor left are none
pub record AreHalfway (olds vs : List Known) (left : List ℕ) : Type 0 where
  pub size : length vs ≡ length olds
  pub same : (y : ℕ) → y < length olds → red_known (known_at vs y) ≡ red_known (known_at olds y)
  pub marked : AreMarked vs left

pub halfway_start : (vs : List Known) (loose : List ℕ) → AreMarked vs loose → AreHalfway vs vs loose
halfway_start vs loose h = record { size = refl; same = λ y p. refl; marked = h }

pub halfway_step : (olds vs : List Known) (loose : List ℕ) (k x d : ℕ) (v w : Known) → AreHalfway olds vs (drop k loose) → k < length loose → x ≡ slice_index_or loose k d → x < length vs → known_at vs x ≡ v → pos 0 ≤ℤ v.class.m → pos 0 ≤ℤ w.class.m → red_known v ≡ Some w
    → AreHalfway olds (set vs x w) (drop (k + 1) loose)
halfway_step olds vs loose k x d v w h p e q f m n r = record { size = length-set vs x w ∙ h.size; same = λ y s. same y s (cases_eq y x); marked = λ y s. marked y (omega (arith, s, length-set vs x w)) (cases_eq y x) }
  where
    is : IsTight w
    is = tight_is_reduced.tight v w m r

    same : (y : ℕ) → y < length olds → (y ≡ x) ⊎ (y ≢ x) → red_known (known_at (set vs x w) y) ≡ red_known (known_at olds y)
    same y s (inl g) =
        rw g
        (ap red_known (known_same vs x w q) ∙ tight_is_reduced.again w n is ∙ sym r ∙ ap red_known (sym f) ∙ h.same x (omega (arith, q, h.size)))
    same y s (inr g) = rw (known_other vs x y w g) (h.same y s)

    rest : (y : ℕ) → y ≢ x → IsTight (known_at vs y) ⊎ IsListed (drop k loose) y → IsTight (known_at (set vs x w) y) ⊎ IsListed (drop (k + 1) loose) y
    rest y g (inl t) = inl (rw (known_other vs x y w g) t)
    rest y g (inr t) = next (listed_next loose k d y p t)
      where
        next : (slice_index_or loose k d ≡ y) ⊎ IsListed (drop (k + 1) loose) y → IsTight (known_at (set vs x w) y) ⊎ IsListed (drop (k + 1) loose) y
        next (inl u) = absurd (g (sym u ∙ sym e))
        next (inr u) = inr u

    marked : (y : ℕ) → y < length vs → (y ≡ x) ⊎ (y ≢ x) → IsTight (known_at (set vs x w) y) ⊎ IsListed (drop (k + 1) loose) y
    marked y s (inl g) = inl (rw g (rw (known_same vs x w q) is))
    marked y s (inr g) = rest y g (h.marked y s)

-- a place past the values
pub halfway_past : (olds vs : List Known) (loose : List ℕ) (k x d : ℕ) → AreHalfway olds vs (drop k loose) → k < length loose → x ≡ slice_index_or loose k d → length vs ≤ x → AreHalfway olds vs (drop (k + 1) loose)
halfway_past olds vs loose k x d h p e q = record { size = h.size; same = h.same; marked = λ y s. by y s (h.marked y s) }
  where
    by : (y : ℕ) → y < length vs → IsTight (known_at vs y) ⊎ IsListed (drop k loose) y → IsTight (known_at vs y) ⊎ IsListed (drop (k + 1) loose) y
    by y s (inl t) = inl t
    by y s (inr t) = next (listed_next loose k d y p t)
      where
        next : (slice_index_or loose k d ≡ y) ⊎ IsListed (drop (k + 1) loose) y → IsTight (known_at vs y) ⊎ IsListed (drop (k + 1) loose) y
        next (inl u) = absurd (omega (arith, s, q, e, u))
        next (inr u) = inr u

red_all_none : (vs : List Known) (x : ℕ) → x < length vs → red_known (known_at vs x) ≡ None → red_all vs ≡ None
red_all_none [] x p e = absurd (omega arith)
red_all_none (v ∷ vs) zero p e = ap (λ o. with_first o (red_all vs)) e
red_all_none (v ∷ vs) (suc x) p e = ap (λ o. with_first (red_known v) o) (red_all_none vs x (omega arith) e) ∙ by (red_known v)
  where
    by : (o : Option Known) → with_first o None ≡ None
    by None = refl
    by (Some u) = refl

red_all_some : (vs ws : List Known) → length ws ≡ length vs → ((y : ℕ) → y < length vs → red_known (known_at vs y) ≡ Some (known_at ws y)) → red_all vs ≡ Some ws
red_all_some [] [] n h = refl
red_all_some [] (w ∷ ws) n h = absurd (omega (arith, n))
red_all_some (v ∷ vs) [] n h = absurd (omega (arith, n))
red_all_some (v ∷ vs) (w ∷ ws) n h =
    ap (λ o. with_first o (red_all vs)) (h 0 (omega arith)) ∙ ap (λ o. with_first (Some w) o) (red_all_some vs ws (omega (arith, n)) (λ y p. h (suc y) (omega (arith, p))))

pub halfway_stop : (olds vs : List Known) (left : List ℕ) (x : ℕ) (v : Known) → AreHalfway olds vs left → x < length vs → known_at vs x ≡ v → None ≡ red_known v → None ≡ red_all olds
halfway_stop olds vs left x v h p e n =
    let here : x < length olds = omega (arith, p, h.size) in
    sym (red_all_none olds x here (sym (h.same x here) ∙ ap red_known e ∙ sym n))

pub halfway_end : (types : List IntType) (olds vs : List Known) (left : List ℕ) → left ≡ [] → AreValues types vs → AreHalfway olds vs left → Some vs ≡ red_all olds
halfway_end types olds vs left none a h = sym (red_all_some olds vs h.size (λ y p. sym (h.same y p) ∙ own y (omega (arith, p, h.size)) (h.marked y (omega (arith, p, h.size)))))
  where
    own : (y : ℕ) → y < length vs → IsTight (known_at vs y) ⊎ IsListed left y → red_known (known_at vs y) ≡ Some (known_at vs y)
    own y p (inl t) = tight_is_reduced.again (known_at vs y) (a.classes y p).from t
    own y p (inr t) = absurd (subst (λ zs. IsListed zs y) none t)
