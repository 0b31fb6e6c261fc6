-- Where a row begins, as it is computed.
use Rattle.std.specs.Prelude.{◌≡◌, ℕ, zero, suc, ◌<◌, ◌+◌, ◌*◌, ◌/◌, ◌%◌}
use Rattle.std.proofs.Common.{arith, subst}
use Rattle.pk_octmat.specs.Half.{block, row_place}

-- half of a square, rounded up
half_square : (a s j : ℕ) → s < 2 → ((2 * a + s) * (2 * a + s) + 1) / 2 + (2 * a + s) + j ≡ block a + s * (2 * a + 2) + j
half_square a zero j h = omega arith
half_square a (suc zero) j h = omega arith
half_square a (suc (suc s)) j h = absurd (omega arith)

pub by_square : (i j : ℕ) → (i * i + 1) / 2 + i + j ≡ row_place i j
by_square i j =
    let both : 2 * (i / 2) + i % 2 ≡ i = omega arith in
    subst (λ k. (k * k + 1) / 2 + k + j ≡ block (i / 2) + (i % 2) * (2 * (i / 2) + 2) + j) both (half_square (i / 2) (i % 2) j (omega arith))
