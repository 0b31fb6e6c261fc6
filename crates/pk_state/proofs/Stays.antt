-- Values that are reduced, and values that are merged one after another.
use Rattle.std.specs.Prelude.{◌≡◌, ℕ, zero, suc, ◌+◌, ◌<◌, List, [], ◌∷◌, ◌++◌, length, Option, Some, None, IfSome}
use Rattle.std.proofs.Common.{◌∙◌, ap, refl, sym, subst, arith, set, take, drop}
use Rattle.pk_ctypes.specs.declared.types.IntType.{IntType}
use Rattle.pk_interval.specs.Ranges.{Range, IsIn}
use Rattle.pk_congr.specs.Classes.{Class, IsReduced}
use Rattle.pk_congr.specs.Laws.{IsOf as IsOfType}
use Rattle.pk_value.specs.Reduction.{red}
use Rattle.pk_value.specs.Known.{Known, known_of, red_known}
use Rattle.pk_value.proofs.Reducing.{red_inside, red_class}
use Rattle.pk_value.proofs.Tight.{tight_is_reduced}
use Rattle.pk_blocks.specs.Rows.{merged_from}
use Rattle.pk_octagons.specs.Values.{known_at, IsValue}

pub red_value : (t : IntType) (k r : Known) → IsValue t k → red_known k ≡ Some r → IsValue t r
red_value t k r h e = go (red k.range k.class) refl e
  where
    go : (o : Option (Range × Class)) → red k.range k.class ≡ o → known_of o ≡ Some r → IsValue t r
    go None f g = absurd (cc)
    go (Some p) f g =
        let l : Known = record { range = p.0; class = p.1 } in
        let same : l ≡ r = cc in
        let inside : IsIn t p.0 = subst (λ o. IfSome o (λ q. IsIn t q.0)) f (red_inside t k.range k.class h.inside h.class.from) in
        let class : IsOfType t p.1 = subst (λ o. IfSome o (λ q. IsOfType t q.1)) f (red_class t k.range k.class h.inside h.class) in
        record { inside = subst (λ (q : Known). IsIn t q.range) same inside; some = (tight_is_reduced.tight k r h.class.from e).some; class = subst (λ (q : Known). IsReduced q.class.m q.class.r) same class.reduced }

-- ---- merging one after another

pub merged_set : (f : ℕ → Known → Known → Known) (i : ℕ) (xs ys : List Known) (k j : ℕ) → k < length xs → length xs ≡ length ys → j ≡ i + k
    → set (merged_from f i (take k xs) (take k ys) ++ drop k xs) k (f j (known_at xs k) (known_at ys k)) ≡ merged_from f i (take (suc k) xs) (take (suc k) ys) ++ drop (suc k) xs
merged_set f i [] ys k j p e n = absurd (omega arith)
merged_set f i (x ∷ xs) [] k j p e n = absurd (omega arith)
merged_set f i (x ∷ xs) (y ∷ ys) zero j p e n = let same : j ≡ i = omega arith in ap (λ a. f a x y ∷ xs) same
merged_set f i (x ∷ xs) (y ∷ ys) (suc k) j p e n = ap (λ t. f i x y ∷ t) (merged_set f (i + 1) xs ys k j (omega arith) (omega arith) (omega arith))

pub merged_known : (f : ℕ → Known → Known → Known) (i : ℕ) (xs ys : List Known) (k : ℕ) → k < length xs → length xs ≡ length ys → known_at (merged_from f i (take k xs) (take k ys) ++ drop k xs) k ≡ known_at xs k
merged_known f i [] ys k p e = absurd (omega arith)
merged_known f i (x ∷ xs) [] k p e = absurd (omega arith)
merged_known f i (x ∷ xs) (y ∷ ys) zero p e = refl
merged_known f i (x ∷ xs) (y ∷ ys) (suc k) p e = merged_known f (i + 1) xs ys k (omega arith) (omega arith)

pub merged_size : (f : ℕ → Known → Known → Known) (i : ℕ) (xs ys : List Known) (k : ℕ) → length xs ≡ length ys → length (merged_from f i (take k xs) (take k ys) ++ drop k xs) ≡ length xs
merged_size f i [] [] zero e = refl
merged_size f i [] [] (suc k) e = refl
merged_size f i [] (y ∷ ys) k e = absurd (omega arith)
merged_size f i (x ∷ xs) [] k e = absurd (omega arith)
merged_size f i (x ∷ xs) (y ∷ ys) zero e = refl
merged_size f i (x ∷ xs) (y ∷ ys) (suc k) e = omega (arith, merged_size f (i + 1) xs ys k (omega arith))

-- one more is merged
pub merged_step : (f : ℕ → Known → Known → Known) (xs ys out news : List Known) (k : ℕ) (a b : Known) → out ≡ merged_from f 0 (take k xs) (take k ys) ++ drop k xs → k < length xs → length xs ≡ length ys
    → known_at xs k ≡ a → known_at ys k ≡ b → news ≡ set out k (f k a b) → news ≡ merged_from f 0 (take (k + 1) xs) (take (k + 1) ys) ++ drop (k + 1) xs
merged_step f xs ys out news k a b h p e g i w =
    let n : k + 1 ≡ suc k = omega arith in
    rw n
    (w ∙ ap (λ o. set o k (f k a b)) h ∙ ap (λ z. set (merged_from f 0 (take k xs) (take k ys) ++ drop k xs) k (f k z b)) (sym g)
    ∙ ap (λ z. set (merged_from f 0 (take k xs) (take k ys) ++ drop k xs) k (f k (known_at xs k) z)) (sym i)
    ∙ merged_set f 0 xs ys k k p e (omega arith))
