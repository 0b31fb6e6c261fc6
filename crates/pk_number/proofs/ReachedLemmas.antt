-- The points that are reached from the entry.
use Rattle.std.proofs.Common.{◌≡◌, ◌<◌, ◌≤◌, ◌+◌, ℕ, zero, suc, refl, ap, ◌∙◌, sym, subst, nat_eq, Bool, true, false, not, ◌&&◌, ◌||◌, cond, if◌then◌else◌, ◌⊎◌, inl, inr, List, [], ◌∷◌, ◌++◌, length, map, slice_index_or, arith}
use Rattle.std.specs.List.{All, Contains}
use Rattle.std.proofs.lemmas.List.Elements.{All-head, All-tail, All-filter}
use Rattle.std.proofs.lemmas.Bool.Decides.{eqb_tells}
use Rattle.pk_draft.specs.Drafts.{EdgeFrom, nowhere, entry_point}
use Rattle.pk_number.specs.Preorders.{is_among, place_among, preorder}
use Rattle.pk_number.specs.Numbering.{is_from, edges_from, ends, reached}
use Rattle.pk_number.specs.Rows.{IsDistinct, AreBelow}
use Rattle.pk_number.proofs.AmongLemmas.{among_here, among_there, among_cases, among_append, among_at, place_at, below_one, below_none, absent}
use Rattle.pk_number.proofs.WalkLemmas.{seen_now, walk_distinct, walk_first, AreEndsBelow, walk_below, walk_count, AreLeft, walk_closed, AreAll, walk_all}

-- ---- ends

abbrev to_of : EdgeFrom ℕ → ℕ
to_of e = e.to

below_ends : (m : ℕ) (fs : List (EdgeFrom ℕ)) → All (λ (e : EdgeFrom ℕ). e.to < m) fs → AreBelow m (map to_of fs)
below_ends m [] h n e = absurd (cc)
below_ends m (f ∷ fs) h n e = told (among_cases n f.to (map to_of fs) e) (below_ends m fs (All-tail (λ (e : EdgeFrom ℕ). e.to < m) f fs h) n)
  where
    told : (n ≡ f.to) ⊎ (is_among n (map to_of fs) ≡ true) → (is_among n (map to_of fs) ≡ true → n < m) → n < m
    told (inl g) i = subst (λ (k : ℕ). k < m) (sym g) (All-head (λ (e : EdgeFrom ℕ). e.to < m) f fs h)
    told (inr g) i = i g

pub ends_below : (m : ℕ) (es : List (EdgeFrom ℕ)) → All (λ (e : EdgeFrom ℕ). e.to < m) es → AreEndsBelow (ends es) m
ends_below m es h p = below_ends m (edges_from p es) (All-filter (is_from p) (λ (e : EdgeFrom ℕ). e.to < m) es h)

-- an end is that of an edge
pub edge_to : (q : ℕ) (fs : List (EdgeFrom ℕ)) → is_among q (map to_of fs) ≡ true → (e : EdgeFrom ℕ) × Contains fs e × (e.to ≡ q)
edge_to q [] h = absurd (cc)
edge_to q (f ∷ fs) h = told (among_cases q f.to (map to_of fs) h) (edge_to q fs)
  where
    told : (q ≡ f.to) ⊎ (is_among q (map to_of fs) ≡ true) → (is_among q (map to_of fs) ≡ true → (e : EdgeFrom ℕ) × Contains fs e × (e.to ≡ q)) → (e : EdgeFrom ℕ) × Contains (f ∷ fs) e × (e.to ≡ q)
    told (inl g) i = (f, (0, omega arith, refl), sym g)
    told (inr g) i = let r = i g in (r.0, (suc r.1.0, omega (arith, r.1.1), r.1.2), r.2)

-- the end of an edge is an end
pub end_among : (fs : List (EdgeFrom ℕ)) (k : ℕ) (d : EdgeFrom ℕ) → k < length fs → is_among (slice_index_or fs k d).to (map to_of fs) ≡ true
end_among [] k d h = absurd (omega (arith, h))
end_among (f ∷ fs) zero d h = among_here f.to (map to_of fs)
end_among (f ∷ fs) (suc k) d h = among_there (slice_index_or fs k d).to f.to (map to_of fs) (end_among fs k d (omega (arith, h)))

-- ---- how many edges are left

abbrev bit : Bool → ℕ
bit b = if b then 1 else 0

abbrev is_left : List ℕ → EdgeFrom ℕ → Bool
is_left seen e = not (is_among e.from seen) && not (nat_eq e.to nowhere)

-- edges from points that weren't seen
abbrev left : List (EdgeFrom ℕ) → List ℕ → ℕ
left [] seen = 0
left (e ∷ es) seen = bit (is_left seen e) + left es seen

bit_small : (b : Bool) → bit b ≤ 1
bit_small true = omega arith
bit_small false = omega arith

few_left : (es : List (EdgeFrom ℕ)) (seen : List ℕ) → left es seen ≤ length es
few_left [] seen = omega arith
few_left (e ∷ es) seen = omega (arith, bit_small (is_left seen e), few_left es seen)

ends_more : (p : ℕ) (e : EdgeFrom ℕ) (es : List (EdgeFrom ℕ)) → length (ends (e ∷ es) p) ≡ bit (is_from p e) + length (ends es p)
ends_more p e es = count (is_from p e) (edges_from p es)
  where
    count : (b : Bool) (fs : List (EdgeFrom ℕ)) → length (map to_of (cond b (e ∷ fs) fs)) ≡ bit b + length (map to_of fs)
    count true fs = omega arith
    count false fs = omega arith

bits : (f q t : Bool) → (q ≡ true → f ≡ false) → bit (not f && t) ≡ bit (not (f || q) && t) + bit (q && t)
bits true true t h = absurd (cc (h refl))
bits true false t h = refl
bits false true true h = refl
bits false true false h = refl
bits false false true h = refl
bits false false false h = refl

left_once : (p : ℕ) (e : EdgeFrom ℕ) (seen : List ℕ) → is_among p seen ≡ false → bit (is_left seen e) ≡ bit (is_left (seen ++ p ∷ []) e) + bit (is_from p e)
left_once p e seen h =
    bits (is_among e.from seen) (nat_eq e.from p) (not (nat_eq e.to nowhere)) told
    ∙ ap (λ (b : Bool). bit (not b && not (nat_eq e.to nowhere)) + bit (is_from p e)) (sym (among_append e.from seen (p ∷ []) ∙ ap (λ (b : Bool). is_among e.from seen || b) (or_false (nat_eq e.from p))))
  where
    or_false : (b : Bool) → (b || false) ≡ b
    or_false true = refl
    or_false false = refl

    told : nat_eq e.from p ≡ true → is_among e.from seen ≡ false
    told f = further (eqb_tells e.from p)
      where
        further : ((nat_eq e.from p ≡ true) × (e.from ≡ p)) ⊎ ((nat_eq e.from p ≡ false) × (e.from ≡ p → ⊥)) → is_among e.from seen ≡ false
        further (inl g) = ap (λ (n : ℕ). is_among n seen) g.1 ∙ h
        further (inr g) = absurd (cc (f, g.0))

ends_are_left : (es : List (EdgeFrom ℕ)) → AreLeft (ends es) (left es)
ends_are_left [] p seen h = refl
ends_are_left (e ∷ es) p seen h =
    omega (arith, left_once p e seen h, ends_are_left es p seen h, ends_more p e es)

-- ---- what is reached

first_turn : (es : List (EdgeFrom ℕ)) → reached es ≡ preorder (ends es) (1 + length es) (ends es entry_point ++ []) (entry_point ∷ [])
first_turn es =
    let turns : 2 + length es ≡ suc (1 + length es) = omega arith in
    ap (λ (n : ℕ). preorder (ends es) n (entry_point ∷ []) []) turns ∙ seen_now (ends es) (1 + length es) entry_point [] [] refl

pub reached_distinct : (es : List (EdgeFrom ℕ)) → IsDistinct (reached es)
reached_distinct es = walk_distinct (ends es) (2 + length es) (entry_point ∷ []) [] tt

pub reached_first : (es : List (EdgeFrom ℕ)) → (0 < length (reached es)) × (slice_index_or (reached es) 0 0 ≡ entry_point)
reached_first es =
    subst (λ (xs : List ℕ). (0 < length xs) × (slice_index_or xs 0 0 ≡ entry_point)) (sym (first_turn es))
    (walk_first (ends es) entry_point (1 + length es) (ends es entry_point ++ []) (entry_point ∷ []) (omega arith, refl))

pub entry_reached : (es : List (EdgeFrom ℕ)) → is_among entry_point (reached es) ≡ true
entry_reached es =
    let f = reached_first es in ap (λ (n : ℕ). is_among n (reached es)) (sym f.1) ∙ among_at (reached es) 0 0 f.0

pub entry_place : (es : List (EdgeFrom ℕ)) → place_among (reached es) entry_point ≡ 0
entry_place es =
    let f = reached_first es in ap (place_among (reached es)) (sym f.1) ∙ place_at (reached es) 0 0 (reached_distinct es) f.0

pub reached_below : (m : ℕ) (es : List (EdgeFrom ℕ)) → entry_point < m → All (λ (e : EdgeFrom ℕ). e.to < m) es → AreBelow m (reached es)
reached_below m es h f = walk_below (ends es) m (ends_below m es f) (2 + length es) (entry_point ∷ []) [] (below_one m entry_point h, below_none m)

absent_none : (m : ℕ) → absent m [] ≡ m
absent_none zero = refl
absent_none (suc m) = omega (arith, absent_none m)

pub reached_few : (m : ℕ) (es : List (EdgeFrom ℕ)) → entry_point < m → All (λ (e : EdgeFrom ℕ). e.to < m) es → length (reached es) ≤ m
reached_few m es h f = walk_count (ends es) m (ends_below m es f) (2 + length es) (entry_point ∷ []) [] (below_one m entry_point h, omega (arith, absent_none m))

-- what an edge leads to from a reached point is reached
pub reached_closed : (es : List (EdgeFrom ℕ)) (p q : ℕ) → is_among p (reached es) ≡ true → is_among q (ends es p) ≡ true → is_among q (reached es) ≡ true
reached_closed es p q h e =
    told (walk_closed (ends es) (left es) (ends_are_left es) (2 + length es) (entry_point ∷ []) [] (λ r s f g. absurd (cc f), omega (arith, few_left es [])) p q h e)
  where
    told : (is_among q (reached es) ≡ true) ⊎ (false ≡ true) → is_among q (reached es) ≡ true
    told (inl f) = f
    told (inr f) = absurd (cc f)

-- what holds of the entry, and of each end of an edge from a point of which it holds, holds of each that is reached
pub reached_all : (es : List (EdgeFrom ℕ)) (P : ℕ → Type 0) → P entry_point → ((p q : ℕ) → P p → is_among q (ends es p) ≡ true → P q) → AreAll P (reached es)
reached_all es P h f =
    walk_all (ends es) P f (2 + length es) (entry_point ∷ []) [] (first, λ q e. absurd (cc e))
  where
    first : AreAll P (entry_point ∷ [])
    first q e = told (among_cases q entry_point [] e)
      where
        told : (q ≡ entry_point) ⊎ (false ≡ true) → P q
        told (inl g) = subst P (sym g) h
        told (inr g) = absurd (cc g)
