use Rattle.std.proofs.Common.{◌≡◌, take}
use Rattle.pk_ctypes.proofs.names.Names.new.Given as goal

abbrev pub invariant-loop-name : goal.invariant-loop-name
invariant-loop-name l = l.names.items ≡ take l.name-index l.list
