use Rattle.std.proofs.Common.{◌≡◌, ◌==◌, ℕ, ◌<◌, length, get_or, take, count_by}
use Rattle.pk_peak.proofs.stretches.count_ends.Given as goal

abbrev pub invariant-loop-stretch : goal.invariant-loop-stretch
invariant-loop-stretch l = record {
  long_first : length l.first.items ≡ l.places;
  long_last : length l.last.items ≡ l.places;
  begins : (j : ℕ) → j < l.places → get_or l.first.items j 0 ≡ count_by (λ s. s.from == j) (take l.stretch-index l.stretches);
  ends : (j : ℕ) → j < l.places → get_or l.last.items j 0 ≡ count_by (λ s. s.to == j) (take l.stretch-index l.stretches);
}
