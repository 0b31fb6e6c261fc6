-- Stores slot by slot: their trees, and what is written to a variable with one slot.
use Rattle.std.specs.Prelude.{◌≡◌, ◌≢◌, ◌⊎◌, ℕ, zero, suc, ◌<◌, false, ℤ, List, [], ◌∷◌, ◌++◌, length, map, slice_set, Option, Some, None, Result, Ok}
use Rattle.std.specs.List.{flat_map}
use Rattle.std.proofs.Common.{arith, refl, ap, sym, ◌∙◌, inl, inr, length-set}
use Rattle.std.proofs.lemmas.List.{length-map, map-set, set-append_left, get_or-set_same, get_or-set_other}
use Rattle.std.proofs.lemmas.Bool.{cases_eq}
use Rattle.pk_ctypes.specs.Types.{wrapped}
use Rattle.pk_ctypes.specs.Operators.{value_of}
use Rattle.pk_graph.specs.Trees.{TreeOf, constant, variable, converted, unary, binary}
use Rattle.pk_graph.specs.Kinds.{Kinds, kind_at, count_of, count_at, IsScalar, IsTyped}
use Rattle.pk_graph.specs.Steps.{Numbers, number_at, Failure, at_site, and_then, tree_value}
use Rattle.pk_graph.specs.Stores.{Stored, storing, numbers_of}
use Rattle.pk_state.specs.Layouts.{Layout}
use Rattle.pk_transfer.specs.Slots.{is_small, own_slot, further_slots, spread}
use Rattle.pk_transfer.specs.Trees.{IsOver}
use Rattle.pk_transfer.proofs.Slotting.{HasCounts, first_kept, own_numbers, large_numbers, many_counted, rest_length, counted, large_is}

-- ---- trees

-- a tree reads first numbers alone
pub tree_spread : (ks : Kinds) (s : Stored) (e : TreeOf ℕ) → HasCounts ks s → IsTyped ks e → tree_value storing e (spread s) ≡ tree_value storing e s
tree_spread ks s (constant t n) st h = refl
tree_spread ks s (variable x) st h =
    ap (λ (z : ℤ). let r : Result ℤ Failure = Ok z in r)
    (ap (λ (zs : Numbers). number_at zs 0) (own_numbers s x (omega (arith, h.there, st.0))) ∙ first_kept (numbers_of s x))
tree_spread ks s (converted t e) st h = ap (λ (r : Result ℤ Failure). and_then r (λ v. Ok (wrapped t v))) (tree_spread ks s e st h)
tree_spread ks s (unary op at t e) st h = ap (λ (r : Result ℤ Failure). and_then r (λ v. at_site at (value_of op t v v))) (tree_spread ks s e st h.1)
tree_spread ks s (binary op at t a b) st h =
    ap (λ (r : Result ℤ Failure). and_then r (λ v. and_then (tree_value storing b (spread s)) (λ w. at_site at (value_of op t v w)))) (tree_spread ks s a st h.0)
    ∙ ap (λ (r : Result ℤ Failure). and_then (tree_value storing a s) (λ v. and_then r (λ w. at_site at (value_of op t v w)))) (tree_spread ks s b st h.1)

scalar_small : (o : Option ℕ) → o ≡ None → is_small o ≡ false
scalar_small None e = refl
scalar_small (Some n) e = absurd (cc)

pub scalar_large : (ks : Kinds) (x : ℕ) → IsScalar ks x → is_small (kind_at ks x).length ≡ false
scalar_large ks x h = scalar_small (kind_at ks x).length h.scalar

pub scalar_counts : (ks : Kinds) (y : Layout) (s : Stored) → IsOver ks y → HasCounts ks s → (x : ℕ) → IsScalar ks x → length (numbers_of (spread s) x) ≡ 1
scalar_counts ks y s over st x h =
    ap (λ (zs : Numbers). length zs) (large_numbers ks y s over st x h.there (scalar_large ks x h)) ∙ st.1 x h.there ∙ ap count_of h.scalar

-- ---- writing

no_rest : (zs : Numbers) → length (further_slots zs) ≡ 0 → further_slots zs ≡ []
no_rest zs e = by (further_slots zs) e
  where
    by : (ws : List Numbers) → length ws ≡ 0 → ws ≡ []
    by [] e = refl
    by (w ∷ ws) e = absurd (omega (arith, e))

-- of a variable that isn't small
pub large_rest : (o : Option ℕ) (zs : Numbers) → length zs ≡ count_of o → is_small o ≡ false → further_slots zs ≡ []
large_rest o zs e s = no_rest zs (rest_length zs ∙ counted o zs e ∙ large_is o s)

rest_kept : (s : Stored) (x : ℕ) (zs : Numbers) → further_slots (numbers_of s x) ≡ [] → further_slots zs ≡ [] → flat_map further_slots (slice_set s x zs) ≡ flat_map further_slots s
rest_kept [] x zs e f = refl
rest_kept (ws ∷ s) zero zs e f = ap (λ (us : List Numbers). us ++ flat_map further_slots s) (f ∙ sym e)
rest_kept (ws ∷ s) (suc x) zs e f = ap (λ (us : List Numbers). further_slots ws ++ us) (rest_kept s x zs e f)

pub spread_set : (ks : Kinds) (s : Stored) (x : ℕ) (zs : Numbers) → HasCounts ks s → x < length ks → is_small (kind_at ks x).length ≡ false → length zs ≡ count_at ks x → spread (slice_set s x zs) ≡ slice_set (spread s) x zs
spread_set ks s x zs st h e long =
    let o = (kind_at ks x).length in
    let own = many_counted o zs long e in
    let rest = rest_kept s x zs (large_rest o (numbers_of s x) (st.1 x h) e) (large_rest o zs long e) in
    ap (λ (us : Stored). us ++ flat_map further_slots (slice_set s x zs)) (map-set own_slot s x zs ∙ ap (slice_set (map own_slot s) x) own)
    ∙ ap (λ (us : Stored). slice_set (map own_slot s) x zs ++ us) rest
    ∙ sym (set-append_left (map own_slot s) (flat_map further_slots s) x zs (omega (arith, h, st.0, length-map s own_slot)))

pub counts_set : (ks : Kinds) (s : Stored) (x : ℕ) (zs : Numbers) → HasCounts ks s → x < length ks → length zs ≡ count_at ks x → HasCounts ks (slice_set s x zs)
counts_set ks s x zs st h long = (length-set s x zs ∙ st.0, λ y p. by y p (cases_eq y x))
  where
    by : (y : ℕ) → y < length ks → (y ≡ x) ⊎ (y ≢ x) → length (numbers_of (slice_set s x zs) y) ≡ count_at ks y
    by y p (inl e) =
        ap (λ n. length (numbers_of (slice_set s x zs) n)) e ∙ ap (λ (ws : Numbers). length ws) (get_or-set_same s x zs [] (omega (arith, h, st.0))) ∙ long ∙ ap (count_at ks) (sym e)
    by y p (inr d) = ap (λ (ws : Numbers). length ws) (get_or-set_other s x y zs [] d) ∙ st.1 y p
