-- Lists of octagons, place by place.
use Rattle.std.specs.Prelude.{◌≡◌, ℕ, zero, suc, ◌+◌, ◌<◌, List, [], ◌∷◌, ◌++◌, length}
use Rattle.std.proofs.Common.{◌∙◌, ap, refl, sym, arith, get_or, take}
use Rattle.std.proofs.lemmas.List.{length-map, take_more}
use Rattle.pk_octmat.specs.Octagon.{Octagon}
use Rattle.pk_blocks.specs.Rows.{merged_from}
use Rattle.pk_blocks.proofs.Merging.{merged_more}
use Rattle.pk_octagons.specs.Octagons.{octagon_at, widths}

-- what is read in range is the same by any default
pub read_at : (ms : List Octagon) (p : ℕ) (d : Octagon) → p < length ms → octagon_at ms p ≡ get_or ms p d
read_at [] p d h = absurd (omega arith)
read_at (m ∷ ms) zero d h = refl
read_at (m ∷ ms) (suc p) d h = read_at ms p d (omega arith)

pub read_is : (ms : List Octagon) (p : ℕ) (a : Octagon) → p < length ms → a ≡ get_or ms p a → a ≡ octagon_at ms p
read_is ms p a h e = e ∙ sym (read_at ms p a h)

-- one more that is kept
pub kept_more : (k : ℕ) (out xs : List Octagon) (x z : Octagon) → out ≡ take k xs → k < length xs → x ≡ get_or xs k x → z ≡ x → out ++ z ∷ [] ≡ take (k + 1) xs
kept_more k out xs x z h u d e = ap (λ t. t ++ z ∷ []) h ∙ ap (λ t. take k xs ++ t ∷ []) (e ∙ d) ∙ sym (take_more xs k x u)

pub width_at : (ms : List Octagon) (p : ℕ) → (octagon_at ms p).vars ≡ get_or (widths ms) p 0
width_at [] p = refl
width_at (m ∷ ms) zero = refl
width_at (m ∷ ms) (suc p) = width_at ms p

pub same_lengths : (ls rs : List Octagon) → widths rs ≡ widths ls → length rs ≡ length ls
same_lengths ls rs e = sym (length-map rs (λ (m : Octagon). m.vars)) ∙ ap length e ∙ length-map ls (λ (m : Octagon). m.vars)

-- octagons that stand at one place of lists of the same widths
pub same_width : (ls rs : List Octagon) (p : ℕ) (a b : Octagon) → widths rs ≡ widths ls → p < length ls → a ≡ get_or ls p a → b ≡ get_or rs p b → b.vars ≡ a.vars
same_width ls rs p a b e h f g =
    let other : p < length rs = omega (arith, h, same_lengths ls rs e) in
    ap (λ (m : Octagon). m.vars) (g ∙ sym (read_at rs p b other)) ∙ width_at rs p ∙ ap (λ ns. get_or ns p 0) e ∙ sym (width_at ls p) ∙ ap (λ (m : Octagon). m.vars) (read_at ls p a h ∙ sym f)

-- one pair more
pub zipped_more : (f : Octagon → Octagon → Octagon) (ls rs out news : List Octagon) (p : ℕ) (a b m : Octagon) → out ≡ merged_from (λ q. f) 0 (take p ls) (take p rs) → p < length ls → widths rs ≡ widths ls → a ≡ get_or ls p a → b ≡ get_or rs p b
    → m ≡ f a b → news ≡ out ++ m ∷ [] → news ≡ merged_from (λ q. f) 0 (take (p + 1) ls) (take (p + 1) rs)
zipped_more f ls rs out news p a b m before h e l r is pushed =
    let n : p + 1 ≡ suc p = omega arith in
    rw n
    (pushed ∙ ap (λ xs. xs ++ m ∷ []) before ∙ ap (λ x. merged_from (λ q. f) 0 (take p ls) (take p rs) ++ x ∷ []) is
    ∙ merged_more (λ q. f) 0 ls rs p a b h (sym (same_lengths ls rs e)) l r)
