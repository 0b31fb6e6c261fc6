use Rattle.std.proofs.Common.{◌≡◌, drop}
use Rattle.pk_type_declaration.specs.Rules as declarations
use Rattle.pk_type_declaration.specs.Views.{walked_in}
use Rattle.pk_type.specs.TypeNames.{after_type_names}
use Rattle.pk_type.proofs.type_names.more.Given as goal

abbrev pub invariant-loop-name : goal.invariant-loop-name
invariant-loop-name l =
    after_type_names declarations.noting l.named (drop l.name-index l.list) (walked_in l.walk) ≡ after_type_names declarations.noting l.named l.list (walked_in l.initial.walk)
