-- The blocks that are left.
use Rattle.std.proofs.Common.{◌≡◌, sym, ℕ, ◌+◌, ◌-◌, ◌<◌, ◌≤◌, ◌++◌, suc, zero, ap, ◌∙◌, arith, List}
use Rattle.std.proofs.lemmas.List.{append_assoc, append-nil}
use Rattle.pk_gen.specs.Generator.{next_state, block, blocks}

pub blocks_left : (size counter state : ℕ) → counter < size → blocks (size - counter) state ≡ block state ++ blocks (size - (counter + 1)) (next_state (next_state state))
unfolding blocks
blocks_left size counter state within = ap (λ n. blocks n state) left
  where
    left : size - counter ≡ suc (size - (counter + 1))
    left = omega arith

pub block_written : (text now whole : List ℕ) (size counter state after : ℕ) → counter < size → text ++ blocks (size - counter) state ≡ whole →
    now ≡ text ++ block state → after ≡ next_state (next_state state) → now ++ blocks (size - (counter + 1)) after ≡ whole
block_written text now whole size counter state after within known written next =
    ap (λ text. text ++ blocks (size - (counter + 1)) after) written ∙ ap (λ s. (text ++ block state) ++ blocks (size - (counter + 1)) s) next
    ∙ append_assoc text (block state) (blocks (size - (counter + 1)) (next_state (next_state state))) ∙ ap (λ rest. text ++ rest) (sym (blocks_left size counter state within)) ∙ known

pub all_written : (text whole : List ℕ) (size counter state : ℕ) → size ≤ counter → text ++ blocks (size - counter) state ≡ whole → text ≡ whole
unfolding blocks
all_written text whole size counter state ended known = sym (append-nil text) ∙ ap (λ n. text ++ blocks n state) (sym none) ∙ known
  where
    none : size - counter ≡ zero
    none = omega arith
