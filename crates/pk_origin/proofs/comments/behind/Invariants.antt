use Rattle.std.proofs.Common.{◌≡◌, fold, take}
use Rattle.pk_origin.specs.Texts.{within_after}
use Rattle.pk_origin.proofs.comments.behind.Given as goal

abbrev pub invariant-loop-b : goal.invariant-loop-b
invariant-loop-b l = l.within ≡ fold within_after l.fn.start (take l.b-index l.line)
