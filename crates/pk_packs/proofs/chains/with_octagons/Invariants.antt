use Rattle.std.proofs.Common.{◌≡◌, ◌+◌, take}
use Rattle.pk_packs.specs.Chains.{entries_of}
use Rattle.pk_packs.proofs.chains.with_octagons.Given as goal

abbrev pub invariant-loop-number : goal.invariant-loop-number
invariant-loop-number l = l.bound ≡ l.values + entries_of (take l.number l.packs)
