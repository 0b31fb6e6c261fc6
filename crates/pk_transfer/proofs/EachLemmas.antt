-- The numbers of a variable, slot by slot.
use Rattle.std.proofs.Common.{◌≡◌, ◌⊎◌, ◌≤◌, ◌<◌, ◌∙◌, ℕ, suc, ◌+◌, ◌-◌, ap, inl, inr, if◌then◌else◌, arith}
use Rattle.std.proofs.lemmas.Bool.{cases_lt}
use Rattle.pk_value.specs.Known.{Known}
use Rattle.pk_state.specs.Layouts.{slot_of}
use Rattle.pk_state.specs.Facts.{Stated}
use Rattle.pk_state.specs.Changes.{with_known}
use Rattle.pk_transfer.specs.Assignments.{HasFacts}
use Rattle.pk_value.specs.Values.{is_constant}
use Rattle.pk_transfer.specs.Transfers.{may_be, stored_at, stored_below, known_each}

-- those before number i are written
pub record AreWrittenTo (before now : Stated) (x i n : ℕ) (k : Known) : Type 0 where
  pub facts : HasFacts before (known_each before.layout before.facts x k (i - 1)) now
  pub first : n < 1 → i ≡ 1

written_next : (before old new : Stated) (x i j : ℕ) (k : Known) → i ≡ suc j → HasFacts before (known_each before.layout before.facts x k j) old → new ≡ record { layout = old.layout; facts = with_known old.facts (slot_of old.layout x i) k }
    → HasFacts before (known_each before.layout before.facts x k (suc j)) new
written_next before old new x i j k is so made =
    made ∙ ap (λ (n : ℕ). record { layout = old.layout; facts = with_known old.facts (slot_of old.layout x n) k }) is
    ∙ ap (λ (s : Stated). record { layout = s.layout; facts = with_known s.facts (slot_of s.layout x (suc j)) k }) so

pub each_next : (before old new : Stated) (x i n : ℕ) (k : Known) → 1 ≤ i → i < n → AreWrittenTo before old x i n k → new ≡ record { layout = old.layout; facts = with_known old.facts (slot_of old.layout x i) k } → AreWrittenTo before new x (i + 1) n k
each_next before old new x i n k some inside so made =
    let this : i ≡ suc (i - 1) = omega (arith, some) in
    let next : suc (i - 1) ≡ (i + 1) - 1 = omega (arith, some) in
    record {
      facts =
          written_next before old new x i (i - 1) k this so.facts made
          ∙ ap (λ (j : ℕ). record { layout = before.layout; facts = known_each before.layout before.facts x k j }) next;
      first = λ l. absurd (omega (arith, l, some, inside));
    }

pub each_end : (before now : Stated) (x i n : ℕ) (k : Known) → 1 ≤ i → (1 ≤ n → i ≤ n) → n ≤ i → AreWrittenTo before now x i n k → HasFacts before (known_each before.layout before.facts x k (n - 1)) now
each_end before now x i n k some within past so =
    let same : i - 1 ≡ n - 1 = at (cases_lt n 1) in
    so.facts ∙ ap (λ (j : ℕ). record { layout = before.layout; facts = known_each before.layout before.facts x k j }) same
  where
    at : (n < 1) ⊎ (1 ≤ n) → i - 1 ≡ n - 1
    at (inl l) = let is = so.first l in omega (arith, l, is)
    at (inr g) = omega (arith, within g, past)

-- ---- the element at an index

pub below_next : (before old new : Stated) (x i : ℕ) (k v : Known) → HasFacts before (stored_below before.layout before.facts x k v i) old
    → HasFacts old (if may_be k i then stored_at old.facts (slot_of old.layout x i) (is_constant k) v else old.facts) new → HasFacts before (stored_below before.layout before.facts x k v (i + 1)) new
below_next before old new x i k v so made =
    let next : suc i ≡ i + 1 = omega arith in
    made
    ∙ ap (λ (s : Stated). record { layout = s.layout; facts = if may_be k i then stored_at s.facts (slot_of s.layout x i) (is_constant k) v else s.facts }) so
    ∙ ap (λ (j : ℕ). record { layout = before.layout; facts = stored_below before.layout before.facts x k v j }) next
