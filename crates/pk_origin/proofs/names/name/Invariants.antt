use Rattle.std.proofs.Common.{◌≡◌, ◌++◌, drop}
use Rattle.std.specs.Option.{option_map}
use Rattle.pk_origin.specs.Markers.{name_from}
use Rattle.pk_origin.specs.declared.names.Spelled.TheVariants.{Plain}
use Rattle.pk_origin.proofs.names.name.Given as goal

-- the bytes so far stand before those of the rest
abbrev pub invariant-loop-k : goal.invariant-loop-k
invariant-loop-k l = option_map (λ rest. l.name.items ++ rest) (name_from (drop l.k l.text) l.state) ≡ name_from l.text Plain
