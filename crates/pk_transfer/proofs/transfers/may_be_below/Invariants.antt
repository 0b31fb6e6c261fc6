use Rattle.std.proofs.Common.{◌≡◌}
use Rattle.pk_transfer.specs.Transfers.{may_be_below}
use Rattle.pk_transfer.proofs.transfers.may_be_below.Given as goal

abbrev pub invariant-loop-i : goal.invariant-loop-i
invariant-loop-i l = l.found ≡ may_be_below l.k l.i
