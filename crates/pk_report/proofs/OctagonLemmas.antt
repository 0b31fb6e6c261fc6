-- Variables that octagons are over, and their lines.
use Rattle.std.proofs.Common.{◌≡◌, ◌<◌, ◌≤◌, ◌+◌, ◌^◌, ℕ, ap, ◌∙◌, sym, subst, Bool, true, false, if◌then◌else◌, List, [], ◌∷◌, ◌++◌, length, take, drop, slice_index_or, Option, Some, None, append_assoc, append-nil}
use Rattle.std.specs.Prelude.{ℤ, FitsSigned}
use Rattle.std.specs.Int.{w128, cast_signed, cast_unsigned}
use Rattle.std.proofs.lemmas.Int.{to_z-of_z}
use Rattle.std.specs.List.{All, flat_map}
use Rattle.std.proofs.lemmas.List.{take_more, take_all, drop_more, drop_all}
use Rattle.std.proofs.lemmas.List.Elements.{filter-append, All-filter, All-append, All-nil, All-cons}
use Rattle.pk_ctypes.specs.declared.types.IntType.{IntType}
use Rattle.pk_ctypes.proofs.Wrapped.{sized}
use Rattle.pk_interval.specs.Ranges.{IsIn}
use Rattle.pk_graph.specs.Graphs.{GraphOf}
use Rattle.pk_value.specs.Known.{Known}
use Rattle.pk_octagons.specs.Packs.{is_chosen}
use Rattle.pk_octagons.specs.Values.{known_at}
use Rattle.pk_state.specs.Layouts.{Layout}
use Rattle.pk_state.specs.Facts.{Facts}
use Rattle.pk_state.specs.Changes.{known_in, bound_in}
use Rattle.pk_report.specs.Values.{name_of, related, bounds_of, pair_text, of_pairs, pair_lines_if, IsSmall}

-- ---- which variables

pub related_next : (l : Layout) (xs : List ℕ) (k d : ℕ) (list new : List ℕ) → k < length xs → new ≡ list ++ (if is_chosen l.packs (slice_index_or xs k d) then slice_index_or xs k d ∷ [] else []) → list ≡ related l (take k xs) → new ≡ related l (take (k + 1) xs)
related_next l xs k d list new h e f =
    e
    ∙ ap (λ (ys : List ℕ). ys ++ (if is_chosen l.packs (slice_index_or xs k d) then slice_index_or xs k d ∷ [] else [])) f
    ∙ sym (filter-append (is_chosen l.packs) (take k xs) (slice_index_or xs k d ∷ []))
    ∙ ap (related l) (sym (take_more xs k d h))

pub related_end : (l : Layout) (xs : List ℕ) (k : ℕ) (list : List ℕ) → length xs ≤ k → list ≡ related l (take k xs) → list ≡ related l xs
related_end l xs k list h e = e ∙ ap (related l) (take_all k xs h)

-- a variable that an octagon is over is pushed, others aren't

pub pushed : (l : Layout) (x : ℕ) (old new : List ℕ) → is_chosen l.packs x ≡ true → new ≡ old ++ x ∷ [] → new ≡ old ++ (if is_chosen l.packs x then x ∷ [] else [])
pushed l x old new is e = e ∙ sym (ap (λ (b : Bool). old ++ (if b then x ∷ [] else [])) is)

pub kept : (l : Layout) (x : ℕ) (old : List ℕ) → is_chosen l.packs x ≡ false → old ≡ old ++ (if is_chosen l.packs x then x ∷ [] else [])
kept l x old is = sym (append-nil old) ∙ sym (ap (λ (b : Bool). old ++ (if b then x ∷ [] else [])) is)

pub pushed_small : (x : ℕ) (old new : List ℕ) → x < 2 ^ 63 → new ≡ old ++ x ∷ [] → All (λ (y : ℕ). y < 2 ^ 63) old → All (λ (y : ℕ). y < 2 ^ 63) new
pushed_small x old new few e h =
    subst (λ (ys : List ℕ). All (λ (y : ℕ). y < 2 ^ 63) ys) (sym e)
    (All-append (λ (y : ℕ). y < 2 ^ 63) old (x ∷ []) h (All-cons (λ (y : ℕ). y < 2 ^ 63) x [] few (All-nil (λ (y : ℕ). y < 2 ^ 63))))

pub none_small : (xs : List ℕ) → xs ≡ [] → All (λ (x : ℕ). x < 2 ^ 63) xs
none_small xs e = subst (λ (ys : List ℕ). All (λ (y : ℕ). y < 2 ^ 63) ys) (sym e) (All-nil (λ (y : ℕ). y < 2 ^ 63))

pub related_below : (n : ℕ) (l : Layout) (xs : List ℕ) → All (λ (x : ℕ). x < n) xs → All (λ (x : ℕ). x < n) (related l xs)
related_below n l xs h = All-filter (is_chosen l.packs) (λ (x : ℕ). x < n) xs h

-- ---- their lines

pub small_of : (t : IntType) (k : Known) → IsIn t k.range → IsSmall k
small_of t k h =
    let a = sized t k.range.lo h.from in
    let b = sized t k.range.hi h.to in
    record { lo_from = a.0; lo_to = a.1; hi_from = b.0; hi_to = b.1 }

pub pair_is : (g : GraphOf) (l : Layout) (facts : Option Facts) (x y : ℕ) (kx ky : Known) → Some kx ≡ known_in facts x → Some ky ≡ known_in facts y
    → pair_text (name_of g x) (name_of g y) kx ky (bounds_of (bound_in l facts) x y) ≡ pair_lines_if g l facts x y
pair_is g l None x y kx ky e f = absurd (cc e)
pair_is g l (Some h) x y kx ky e f =
    let first : kx ≡ known_at h.values x = cc e in
    let second : ky ≡ known_at h.values y = cc f in
    ap (λ (k : Known). pair_text (name_of g x) (name_of g y) k ky (bounds_of (bound_in l (Some h)) x y)) first
    ∙ ap (λ (k : Known). pair_text (name_of g x) (name_of g y) (known_at h.values x) k (bounds_of (bound_in l (Some h)) x y)) second

-- those written, and the pairs of the others from k on
abbrev pub IsPaired : (ℕ → ℕ → List ℕ) → List ℕ → ℕ → (first now : List ℕ) → Type 0
IsPaired line ps k first now = now ++ of_pairs line (drop k ps) ≡ first ++ of_pairs line ps

pub paired_next : (line : ℕ → ℕ → List ℕ) (ps : List ℕ) (k d : ℕ) (first now new : List ℕ) → k < length ps → new ≡ now ++ flat_map (line (slice_index_or ps k d)) (drop (k + 1) ps) → IsPaired line ps k first now
    → IsPaired line ps (k + 1) first new
paired_next line ps k d first now new h e f =
    ap (λ (xs : List ℕ). xs ++ of_pairs line (drop (k + 1) ps)) e
    ∙ append_assoc now (flat_map (line (slice_index_or ps k d)) (drop (k + 1) ps)) (of_pairs line (drop (k + 1) ps))
    ∙ ap (λ (qs : List ℕ). now ++ of_pairs line qs) (sym (drop_more ps k d h))
    ∙ f

pub paired_end : (line : ℕ → ℕ → List ℕ) (ps : List ℕ) (k : ℕ) (first now : List ℕ) → length ps ≤ k → IsPaired line ps k first now → now ≡ first ++ of_pairs line ps
paired_end line ps k first now h f = sym (append-nil now) ∙ ap (λ (qs : List ℕ). now ++ of_pairs line qs) (sym (drop_all k ps h)) ∙ f

-- a limit as a machine word
pub limit_is : (z w : ℤ) → FitsSigned w128 z → z ≡ w → cast_signed w128 (cast_unsigned w128 z) ≡ w
limit_is z w fits e = to_z-of_z w128 z fits ∙ e
