-- What is left does what the whole does.
use Rattle.std.proofs.Common.{◌≡◌, drop}
use Rattle.pk_ast.specs.Views.{declarator_trees}
use Rattle.pk_type.specs.Files.{after_objects}
use Rattle.pk_type.specs.Views.{filed_in}
use Rattle.pk_type.specs.Rules.{noting}
use Rattle.pk_type.proofs.files.File.objects.Given as goal

abbrev pub invariant-loop-d : goal.invariant-loop-d
invariant-loop-d l =
    after_objects noting l.storage l.words (declarator_trees (drop l.d-index l.list)) (filed_in l.self) ≡ after_objects noting l.storage l.words (declarator_trees l.list) (filed_in l.initial.self)
