use Rattle.std.proofs.Common.{◌≡◌, drop}
use Rattle.pk_type_scope.specs.Failures.{noted}
use Rattle.pk_type_declaration.specs.Views.{walked_in}
use Rattle.pk_type_declaration.specs.Rules.{failing}
use Rattle.pk_type.specs.Rules.{each_at}
use Rattle.pk_type.proofs.bodies.note_all.Given as goal

abbrev pub invariant-loop-at : goal.invariant-loop-at
invariant-loop-at l = failing noted (each_at l.rule (drop l.at-index l.places)) (walked_in l.walk) ≡ failing noted (each_at l.rule l.places) (walked_in l.initial.walk)
