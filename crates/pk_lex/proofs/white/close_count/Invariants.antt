use Rattle.std.proofs.Common.{◌≡◌, ◌+◌, ◌-◌, ◌<◌, ◌≤◌, ◌==◌, ◌&&◌, ℕ, false, length, get_or}
use Rattle.pk_lex.proofs.white.close_count.Given as goal

abbrev pub invariant-loop-i : goal.invariant-loop-i
invariant-loop-i l = record {
  none : (k : ℕ) → k < l.i → (get_or l.text k 0 == 42 && get_or l.text (k + 1) 0 == 47) ≡ false;
  room : l.i ≤ length l.text;
}

abbrev pub decreases-loop-i : goal.decreases-loop-i
decreases-loop-i l = length l.text - l.i
