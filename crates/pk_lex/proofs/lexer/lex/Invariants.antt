use Rattle.std.proofs.Common.{◌+◌, ◌-◌, ◌≤◌, length}
use Rattle.pk_lex.proofs.LexLemmas.{IsReached}
use Rattle.pk_lex.proofs.lexer.lex.Given as goal

abbrev pub invariant-loop-start : goal.invariant-loop-start
invariant-loop-start l = record {
  reached : IsReached l.text l.tokens.items l.start l.at;
  within : l.start ≤ length l.text;
  line_bound : l.at.line ≤ l.start + 1;
  column_bound : l.at.column ≤ l.start + 1;
}

abbrev pub decreases-loop-start : goal.decreases-loop-start
decreases-loop-start l = length l.text - l.start
