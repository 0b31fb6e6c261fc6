use Rattle.std.proofs.Common.{◌≡◌, drop}
use Rattle.pk_octagons.specs.Values.{IsValue}
use Rattle.pk_analysis.specs.Starts.{joined_with}
use Rattle.pk_analysis.proofs.starts.joined.Given as goal

abbrev pub invariant-loop-number : goal.invariant-loop-number
invariant-loop-number l = (joined_with l.all (drop l.number-index l.numbers) ≡ joined_with l.fn.known l.numbers) × IsValue l.fn.t l.all
