use Rattle.std.proofs.Common.{◌≡◌, ℕ, suc, ◌+◌, take, None, sym, subst, ◌∙◌, arith}
use Rattle.pk_show.specs.Reports.{ended_lines, first_wrong}
use Rattle.pk_show_laws.specs.Laws.{BeginReport}
use Rattle.pk_show_laws.proofs.WrongLemmas.{goes_on, ends_there}
use Rattle.pk_show_laws.proofs.laws.first_wrong_is_first.Goals as goal

pub returns : goal.returns
unfolding first_wrong
returns c = record {
  before = λ text. goes_on c.lines_are_read.ensures (ended_lines text) None;
  there = λ text h begins.
      let more : first_wrong text + 1 ≡ suc (first_wrong text) = omega arith in
      let begun = subst (λ (n : ℕ). BeginReport (take n (ended_lines text))) more begins in
      let both = sym (ends_there (ended_lines text) None h begun.0) ∙ begun.2 in
      absurd (cc both);
}
