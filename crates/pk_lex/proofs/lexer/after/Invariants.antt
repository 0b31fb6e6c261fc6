use Rattle.std.proofs.Common.{◌≡◌, ◌+◌, ◌≤◌, drop}
use Rattle.pk_ctypes.specs.Places.{after_bytes}
use Rattle.pk_lex.proofs.lexer.after.Given as goal

abbrev pub invariant-loop-b : goal.invariant-loop-b
invariant-loop-b l = record {
  same_place : after_bytes (record { line = l.line; column = l.column }) (drop l.b-index l.bytes) ≡ after_bytes l.fn.at l.bytes;
  line_bound : l.line ≤ l.fn.at.line + l.b-index;
  column_bound : l.column ≤ l.fn.at.column + l.b-index;
}
