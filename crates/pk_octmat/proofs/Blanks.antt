-- A matrix while its bounds are taken away.
use Rattle.std.specs.Prelude.{◌≡◌, ◌≢◌, ℕ, ◌<◌, ◌≤◌, ◌+◌, ◌/◌, ◌%◌, ℤ, pos, Option, Some, None, List, ◌⊎◌, length}
use Rattle.std.proofs.Common.{◌∙◌, sym, subst, arith, inl, inr, get_or, set, length-set}
use Rattle.std.proofs.lemmas.Bool.{cases_eq, cases_lt}
use Rattle.pk_octmat.specs.Octagon.{top_bound}
use Rattle.pk_octmat.specs.Half.{block, kept_at, spot, unfolded, IsHalf}
use Rattle.pk_octmat.proofs.Cells.{cell_row_out, cell_column_out}
use Rattle.pk_octmat.proofs.Half.{half_from, kept_in, kept_set_other, kept_set_same, spot_in}
use Rattle.pk_octmat.proofs.Matrices.{top_near, top_other, top_same}

-- the first i numbers of the diagonal are 0, and there are no other bounds
pub record Blanked (d i : ℕ) (cells : List (Option ℤ)) : Type 0 where
  pub size : length cells ≡ block (d / 2)
  pub done : (a : ℕ) → a < i → a < d → kept_at d cells a a ≡ Some (pos 0)
  pub rest : (a b : ℕ) → a ≢ b → kept_at d cells a b ≡ None

pub blanked_none : (d k : ℕ) (cells : List (Option ℤ)) → d % 2 ≡ 0 → length cells ≡ block (d / 2) → length cells ≤ k → ((a : ℕ) → a < k → get_or cells a None ≡ None) → Blanked d 0 cells
blanked_none d k cells pairs size few none = record { size = size; done = λ a h ad. absurd (omega arith); rest = λ a b n. by a b (cases_lt a d) (cases_lt b d) }
  where
    by : (a b : ℕ) → (a < d) ⊎ (d ≤ a) → (b < d) ⊎ (d ≤ b) → kept_at d cells a b ≡ None
    by a b (inr g) q = cell_row_out d (unfolded d cells) a b g
    by a b (inl l) (inr g) = cell_column_out d (unfolded d cells) a b g
    by a b (inl l) (inl m) = let within = spot_in d a b cells pairs size l m in kept_in d cells a b l m ∙ none (spot a b) (omega (arith, within, few))

pub blanked_more : (d i k : ℕ) (cells : List (Option ℤ)) (x : Option ℤ) → d % 2 ≡ 0 → Blanked d i cells → i < d → k ≡ spot i i → x ≡ top_bound i i → Blanked d (i + 1) (set cells k x)
blanked_more d i k cells x pairs b id at is = subst (λ q. Blanked d (i + 1) (set cells q x)) (sym at) (record {
  size = length-set cells (spot i i) x ∙ b.size;
  done = λ a h ad. done a ad (cases_eq a i) h;
  rest = λ a c n. kept_set_other d cells i i a c x (λ u v. n (u ∙ sym v)) (λ u v w. n (u ∙ sym v)) ∙ b.rest a c n;
})
  where
    done : (a : ℕ) → a < d → (a ≡ i) ⊎ (a ≢ i) → a < i + 1 → kept_at d (set cells (spot i i) x) a a ≡ Some (pos 0)
    done a ad (inl s) h = rw s (kept_set_same d cells i i x pairs b.size id id ∙ is ∙ top_same i)
    done a ad (inr n) h = kept_set_other d cells i i a a x (λ u v. n u) (λ u v w. absurd (omega (arith, w))) ∙ b.done a (omega (arith, n, h)) ad

pub blanked_value : (d i : ℕ) (cells : List (Option ℤ)) → Blanked d i cells → d ≤ i → (a b : ℕ) → a < d → b < d → kept_at d cells a b ≡ top_bound a b
blanked_value d i cells h di a b ad bd = by (cases_eq a b)
  where
    by : (a ≡ b) ⊎ (a ≢ b) → kept_at d cells a b ≡ top_bound a b
    by (inl s) = subst (λ q. kept_at d cells a q ≡ top_bound a q) s (h.done a (omega (arith, ad, di)) ad ∙ sym (top_same a))
    by (inr n) = h.rest a b n ∙ sym (top_other a b n)

pub blanked_half : (d i : ℕ) (cells : List (Option ℤ)) → d % 2 ≡ 0 → Blanked d i cells → d ≤ i → IsHalf d cells
blanked_half d i cells pairs h di =
    half_from d cells pairs h.size (λ a ad. blanked_value d i cells h di a a ad ad ∙ top_same a) (λ a b ad bd. rw (blanked_value d i cells h di a b ad bd) (top_near a b))
