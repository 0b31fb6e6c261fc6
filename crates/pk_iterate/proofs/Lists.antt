-- Facts about lists that the loops need.
use Rattle.std.proofs.Common.{◌≡◌, ◌≢◌, ℕ, ◌+◌, ◌<◌, inl, inr, List, [], ◌∷◌, ◌++◌, map, take, set, length, get_or, slice_get, refl, sym, ◌∙◌, arith, zero-add, All}
use Rattle.std.specs.List.{filter_map, range_with_len}
use Rattle.std.proofs.lemmas.Bool.Decides.{eqb_tells}
use Rattle.std.proofs.lemmas.List.{map-append, take_more, get_or-set_same, get_or-set_other, length-set}
use Rattle.std.proofs.lemmas.List.Elements.{filter_map-append, All-head, All-tail}
use Rattle.std.proofs.lemmas.List.FromFn.{map-range_with_len_more, length-map-range_with_len, get_or-map-range_with_len, fill_by_all}
use Rattle.std.proofs.lemmas.Option.{slice_get-map, slice_get_read, slice_get-get_or}

-- one element more is read
pub shared_more : {C D : Type 0} (f : D → C) (out cells : List D) (us : List ℕ) (i : ℕ) (a x : D) → i < length us → map f out ≡ filter_map (slice_get (map f cells)) (take i us) → get_or us i 0 < length cells → x ≡ get_or cells (get_or us i 0) x → f a ≡ f x → map f (out ++ a ∷ []) ≡ filter_map (slice_get (map f cells)) (take (i + 1) us)
shared_more f out cells us i a x in_range so_far below read same =
    let e = take_more us i 0 in_range in
    let found = slice_get_read cells (length cells) (get_or us i 0) x refl below read in
    rw (map-append f out (a ∷ []), e, filter_map-append (slice_get (map f cells)) (take i us) (get_or us i 0 ∷ []), slice_get-map f cells (get_or us i 0), found, same, so_far) refl

-- one number more
pub map_more : {X : Type 0} (f : ℕ → X) (xs : List X) (n : ℕ) (x : X) → xs ≡ map f (range_with_len 0 n) → x ≡ f n → xs ++ x ∷ [] ≡ map f (range_with_len 0 (n + 1))
map_more {X} f xs n x so_far is = rw (map-range_with_len_more {X = X} f 0 n n (omega arith), so_far, is) refl

-- an entry of a list by number is replaced
pub set_made : {X : Type 0} (f g : ℕ → X) (n e : ℕ) (v : X) → e < n → g e ≡ v → ((u : ℕ) → u ≢ e → g u ≡ f u) → set (map f (range_with_len 0 n)) e v ≡ map g (range_with_len 0 n)
set_made f g n e v below here others =
    fill_by_all g (set (map f (range_with_len 0 n)) e v) n v (length-set (map f (range_with_len 0 n)) e v ∙ length-map-range_with_len f 0 n)
    (λ k in_range. elim (eqb_tells k e) [
      | inl same ↦ rw (same.1, here) (get_or-set_same (map f (range_with_len 0 n)) e v v (rw (length-map-range_with_len f 0 n) below))
      | inr other ↦ get_or-set_other (map f (range_with_len 0 n)) e k v v other.1 ∙ get_or-map-range_with_len f 0 n k k v in_range (zero-add k) ∙ sym (others k other.1)
    ])

-- what is read by number
pub reads_map : {X : Type 0} (f : ℕ → X) (n : ℕ) (us : List ℕ) → All (λ u. u < n) us → filter_map (slice_get (map f (range_with_len 0 n))) us ≡ map f us
reads_map f n [] h = refl
reads_map f n (u ∷ us) h =
    let below : u < n = All-head (λ (v : ℕ). v < n) u us h in
    let found = slice_get-get_or (map f (range_with_len 0 n)) u (f u) (rw (length-map-range_with_len f 0 n) below) in
    rw (found, get_or-map-range_with_len f 0 n u u (f u) below (zero-add u), reads_map f n us (All-tail (λ (v : ℕ). v < n) u us h)) refl
