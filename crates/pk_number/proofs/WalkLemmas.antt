-- What a depth-first walk keeps.
use Rattle.std.proofs.Common.{◌≡◌, ◌<◌, ◌≤◌, ◌+◌, ℕ, zero, suc, refl, ap, ◌∙◌, sym, subst, Bool, true, false, if◌then◌else◌, ◌⊎◌, inl, inr, List, [], ◌∷◌, ◌++◌, length, slice_index_or, arith}
use Rattle.std.proofs.lemmas.List.{length-append}
use Rattle.pk_number.specs.Preorders.{is_among, preorder}
use Rattle.pk_number.specs.Rows.{IsDistinct, AreBelow}
use Rattle.pk_number.proofs.AmongLemmas.{true_or_false, among_here, among_there, among_cases, among_left, among_right, among_either, distinct_push, below_head, below_tail, below_both, below_one, absent, absent_less}

pub out_of_turns : (ends : ℕ → List ℕ) (ps seen : List ℕ) → preorder ends 0 ps seen ≡ seen
unfolding preorder
out_of_turns ends ps seen = refl

pub nothing_waits : (ends : ℕ → List ℕ) (n : ℕ) (seen : List ℕ) → preorder ends n [] seen ≡ seen
unfolding preorder
nothing_waits ends zero seen = refl
nothing_waits ends (suc n) seen = refl

pub seen_before : (ends : ℕ → List ℕ) (n p : ℕ) (ps seen : List ℕ) → is_among p seen ≡ true → preorder ends (suc n) (p ∷ ps) seen ≡ preorder ends n ps seen
unfolding preorder
seen_before ends n p ps seen e =
    ap (λ (b : Bool). if b then preorder ends n ps seen else preorder ends n (ends p ++ ps) (seen ++ p ∷ [])) e

pub seen_now : (ends : ℕ → List ℕ) (n p : ℕ) (ps seen : List ℕ) → is_among p seen ≡ false → preorder ends (suc n) (p ∷ ps) seen ≡ preorder ends n (ends p ++ ps) (seen ++ p ∷ [])
unfolding preorder
seen_now ends n p ps seen e =
    ap (λ (b : Bool). if b then preorder ends n ps seen else preorder ends n (ends p ++ ps) (seen ++ p ∷ [])) e

-- What holds of turns left, points that wait and points seen, turn by turn, and where the walk ends says so of its points.
pub record Keeps (ends : ℕ → List ℕ) (I : ℕ → List ℕ → List ℕ → Type 0) (Q : List ℕ → Type 0) : Type 0 where
  pub before : (n p : ℕ) (ps seen : List ℕ) → is_among p seen ≡ true → I (suc n) (p ∷ ps) seen → I n ps seen
  pub now : (n p : ℕ) (ps seen : List ℕ) → is_among p seen ≡ false → I (suc n) (p ∷ ps) seen → I n (ends p ++ ps) (seen ++ p ∷ [])
  pub out : (ps seen : List ℕ) → I 0 ps seen → Q seen
  pub done : (n : ℕ) (seen : List ℕ) → I n [] seen → Q seen

pub kept : (ends : ℕ → List ℕ) (I : ℕ → List ℕ → List ℕ → Type 0) (Q : List ℕ → Type 0) → Keeps ends I Q → (n : ℕ) (ps seen : List ℕ) → I n ps seen → Q (preorder ends n ps seen)
kept ends I Q k zero ps seen i = subst Q (sym (out_of_turns ends ps seen)) (k.out ps seen i)
kept ends I Q k (suc n) [] seen i = subst Q (sym (nothing_waits ends (suc n) seen)) (k.done (suc n) seen i)
kept ends I Q k (suc n) (p ∷ ps) seen i = told (true_or_false (is_among p seen)) (kept ends I Q k n ps seen) (kept ends I Q k n (ends p ++ ps) (seen ++ p ∷ []))
  where
    told : (is_among p seen ≡ true) ⊎ (is_among p seen ≡ false) → (I n ps seen → Q (preorder ends n ps seen))
        → (I n (ends p ++ ps) (seen ++ p ∷ []) → Q (preorder ends n (ends p ++ ps) (seen ++ p ∷ []))) → Q (preorder ends (suc n) (p ∷ ps) seen)
    told (inl e) f g = subst Q (sym (seen_before ends n p ps seen e)) (f (k.before n p ps seen e i))
    told (inr e) f g = subst Q (sym (seen_now ends n p ps seen e)) (g (k.now n p ps seen e i))

-- ---- no point stands twice

pub walk_distinct : (ends : ℕ → List ℕ) (n : ℕ) (ps seen : List ℕ) → IsDistinct seen → IsDistinct (preorder ends n ps seen)
walk_distinct ends = kept ends (λ n ps seen. IsDistinct seen) IsDistinct (record {
  before = λ n p ps seen e i. i;
  now = λ n p ps seen e i. distinct_push seen p i e;
  out = λ ps seen i. i;
  done = λ n seen i. i;
})

-- ---- the first stays the first

abbrev IsFirst : ℕ → List ℕ → Type 0
IsFirst p xs = (0 < length xs) × (slice_index_or xs 0 0 ≡ p)

first_stays : (p q : ℕ) (xs : List ℕ) → IsFirst p xs → IsFirst p (xs ++ q ∷ [])
first_stays p q [] h = absurd (omega (arith, h.0))
first_stays p q (x ∷ xs) h = (omega arith, h.1)

pub walk_first : (ends : ℕ → List ℕ) (p n : ℕ) (ps seen : List ℕ) → IsFirst p seen → IsFirst p (preorder ends n ps seen)
walk_first ends p = kept ends (λ n ps seen. IsFirst p seen) (IsFirst p) (record {
  before = λ n q ps seen e i. i;
  now = λ n q ps seen e i. first_stays p q seen i;
  out = λ ps seen i. i;
  done = λ n seen i. i;
})

-- ---- points below a bound, of which there are so many

abbrev pub AreEndsBelow : (ℕ → List ℕ) → ℕ → Type 0
AreEndsBelow ends m = (p : ℕ) → AreBelow m (ends p)

pub walk_below : (ends : ℕ → List ℕ) (m : ℕ) → AreEndsBelow ends m → (n : ℕ) (ps seen : List ℕ) → AreBelow m ps × AreBelow m seen → AreBelow m (preorder ends n ps seen)
walk_below ends m h = kept ends (λ n ps seen. AreBelow m ps × AreBelow m seen) (AreBelow m) (record {
  before = λ n p ps seen e i. (below_tail m p ps i.0, i.1);
  now = λ n p ps seen e i. (below_both m (ends p) ps (h p) (below_tail m p ps i.0), below_both m seen (p ∷ []) i.1 (below_one m p (below_head m p ps i.0)));
  out = λ ps seen i. i.1;
  done = λ n seen i. i.1;
})

pub walk_count : (ends : ℕ → List ℕ) (m : ℕ) → AreEndsBelow ends m → (n : ℕ) (ps seen : List ℕ) → AreBelow m ps × (length seen + absent m seen ≡ m) → length (preorder ends n ps seen) ≤ m
walk_count ends m h = kept ends (λ n ps seen. AreBelow m ps × (length seen + absent m seen ≡ m)) (λ xs. length xs ≤ m) (record {
  before = λ n p ps seen e i. (below_tail m p ps i.0, i.1);
  now = λ n p ps seen e i. (below_both m (ends p) ps (h p) (below_tail m p ps i.0), more p seen (absent_less m p seen (below_head m p ps i.0) e) i.1);
  out = λ ps seen i. few seen i.1;
  done = λ n seen i. few seen i.1;
})
  where
    more : (p : ℕ) (seen : List ℕ) → absent m seen ≡ suc (absent m (seen ++ p ∷ [])) → length seen + absent m seen ≡ m → length (seen ++ p ∷ []) + absent m (seen ++ p ∷ []) ≡ m
    more p seen e f = omega (arith, e, f, length-append seen (p ∷ []))

    few : (seen : List ℕ) → length seen + absent m seen ≡ m → length seen ≤ m
    few seen e = omega (arith, e)

-- ---- every end of a point's edges is a point

-- the ends of what was seen were seen or wait
abbrev pub AreFollowed : (ℕ → List ℕ) → (ps seen : List ℕ) → Type 0
AreFollowed ends ps seen = (p q : ℕ) → is_among p seen ≡ true → is_among q (ends p) ≡ true → (is_among q seen ≡ true) ⊎ (is_among q ps ≡ true)

-- how many ends the points that weren't seen have: each of these points, once seen, has its own no more
abbrev pub AreLeft : (ℕ → List ℕ) → (List ℕ → ℕ) → Type 0
AreLeft ends left = (p : ℕ) (seen : List ℕ) → is_among p seen ≡ false → left seen ≡ left (seen ++ p ∷ []) + length (ends p)

followed_before : (ends : ℕ → List ℕ) (p : ℕ) (ps seen : List ℕ) → is_among p seen ≡ true → AreFollowed ends (p ∷ ps) seen → AreFollowed ends ps seen
followed_before ends p ps seen e h r q f g = told (h r q f g)
  where
    told : (is_among q seen ≡ true) ⊎ (is_among q (p ∷ ps) ≡ true) → (is_among q seen ≡ true) ⊎ (is_among q ps ≡ true)
    told (inl i) = inl i
    told (inr i) = further (among_cases q p ps i)
      where
        further : (q ≡ p) ⊎ (is_among q ps ≡ true) → (is_among q seen ≡ true) ⊎ (is_among q ps ≡ true)
        further (inl j) = inl (ap (λ (n : ℕ). is_among n seen) j ∙ e)
        further (inr j) = inr j

followed_now : (ends : ℕ → List ℕ) (p : ℕ) (ps seen : List ℕ) → AreFollowed ends (p ∷ ps) seen → AreFollowed ends (ends p ++ ps) (seen ++ p ∷ [])
followed_now ends p ps seen h r q f g = told (among_either r seen (p ∷ []) f)
  where
    later : (is_among q seen ≡ true) ⊎ (is_among q (p ∷ ps) ≡ true) → (is_among q (seen ++ p ∷ []) ≡ true) ⊎ (is_among q (ends p ++ ps) ≡ true)
    later (inl i) = inl (among_left q seen (p ∷ []) i)
    later (inr i) = further (among_cases q p ps i)
      where
        further : (q ≡ p) ⊎ (is_among q ps ≡ true) → (is_among q (seen ++ p ∷ []) ≡ true) ⊎ (is_among q (ends p ++ ps) ≡ true)
        further (inl j) = inl (among_right q seen (p ∷ []) (ap (λ (n : ℕ). is_among n (p ∷ [])) j ∙ among_here p []))
        further (inr j) = inr (among_right q (ends p) ps j)

    told : (is_among r seen ≡ true) ⊎ (is_among r (p ∷ []) ≡ true) → (is_among q (seen ++ p ∷ []) ≡ true) ⊎ (is_among q (ends p ++ ps) ≡ true)
    told (inl i) = later (h r q i g)
    told (inr i) = own (among_cases r p [] i)
      where
        own : (r ≡ p) ⊎ (false ≡ true) → (is_among q (seen ++ p ∷ []) ≡ true) ⊎ (is_among q (ends p ++ ps) ≡ true)
        own (inl j) = inr (among_left q (ends p) ps (subst (λ (n : ℕ). is_among q (ends n) ≡ true) j g))
        own (inr j) = absurd (cc)

pub walk_closed : (ends : ℕ → List ℕ) (left : List ℕ → ℕ) → AreLeft ends left → (n : ℕ) (ps seen : List ℕ) → AreFollowed ends ps seen × (length ps + left seen < n)
    → AreFollowed ends [] (preorder ends n ps seen)
walk_closed ends left h = kept ends (λ n ps seen. AreFollowed ends ps seen × (length ps + left seen < n)) (λ xs. AreFollowed ends [] xs) (record {
  before = λ n p ps seen e i. (followed_before ends p ps seen e i.0, omega (arith, i.1));
  now = λ n p ps seen e i. (followed_now ends p ps seen i.0, omega (arith, i.1, h p seen e, length-append (ends p) ps));
  out = λ ps seen i. absurd (omega (arith, i.1));
  done = λ n seen i. i.0;
})

-- ---- each point is reached

abbrev pub AreAll : (ℕ → Type 0) → List ℕ → Type 0
AreAll P xs = (q : ℕ) → is_among q xs ≡ true → P q

all_both : (P : ℕ → Type 0) (xs ys : List ℕ) → AreAll P xs → AreAll P ys → AreAll P (xs ++ ys)
all_both P xs ys f g q e = told (among_either q xs ys e)
  where
    told : (is_among q xs ≡ true) ⊎ (is_among q ys ≡ true) → P q
    told (inl h) = f q h
    told (inr h) = g q h

all_one : (P : ℕ → Type 0) (p : ℕ) → P p → AreAll P (p ∷ [])
all_one P p h q e = told (among_cases q p [] e)
  where
    told : (q ≡ p) ⊎ (false ≡ true) → P q
    told (inl f) = subst P (sym f) h
    told (inr f) = absurd (cc)

-- what holds of those that wait and of each end of a point of which it holds, holds of each point
pub walk_all : (ends : ℕ → List ℕ) (P : ℕ → Type 0) → ((p q : ℕ) → P p → is_among q (ends p) ≡ true → P q) → (n : ℕ) (ps seen : List ℕ) → AreAll P ps × AreAll P seen → AreAll P (preorder ends n ps seen)
walk_all ends P h = kept ends (λ n ps seen. AreAll P ps × AreAll P seen) (AreAll P) (record {
  before = λ n p ps seen e i. (λ q f. i.0 q (among_there q p ps f), i.1);
  now = λ n p ps seen e i. (
    all_both P (ends p) ps (λ q f. h p q (i.0 p (among_here p ps)) f) (λ q f. i.0 q (among_there q p ps f)),
    all_both P seen (p ∷ []) i.1 (all_one P p (i.0 p (among_here p ps))),
  );
  out = λ ps seen i. i.1;
  done = λ n seen i. i.1;
})
