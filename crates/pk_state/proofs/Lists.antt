-- Lists of values, place by place.
use Rattle.std.specs.Prelude.{◌≡◌, ℕ, zero, suc, ◌+◌, ◌<◌, List, [], ◌∷◌, length}
use Rattle.std.proofs.Common.{ap, arith}
use Rattle.pk_value.specs.Known.{Known}
use Rattle.pk_blocks.specs.Rows.{merged_from}
use Rattle.pk_octagons.specs.Values.{known_at}

pub merged_at : (f : ℕ → Known → Known → Known) (i : ℕ) (xs ys : List Known) (x j : ℕ) → x < length xs → length xs ≡ length ys → j ≡ i + x → known_at (merged_from f i xs ys) x ≡ f j (known_at xs x) (known_at ys x)
merged_at f i [] ys x j p e n = absurd (omega arith)
merged_at f i (u ∷ xs) [] x j p e n = absurd (omega arith)
merged_at f i (u ∷ xs) (v ∷ ys) zero j p e n = let same : i ≡ j = omega arith in ap (λ k. f k u v) same
merged_at f i (u ∷ xs) (v ∷ ys) (suc x) j p e n = merged_at f (i + 1) xs ys x j (omega arith) (omega arith) (omega arith)
