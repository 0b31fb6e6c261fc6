use Rattle.std.proofs.Common.{◌≡◌, map, take}
use Rattle.pk_typed.specs.Views.{file_object_tree}
use Rattle.pk_graph.specs.Graphs.{variable_view}
use Rattle.pk_lower.specs.Parts.{file_variable}
use Rattle.pk_lower.proofs.programs.file_variables.Given as goal

abbrev pub invariant-loop-object : goal.invariant-loop-object
invariant-loop-object l = map variable_view l.variables.items ≡ map (λ o. file_variable (file_object_tree o)) (take l.object-index l.unit.objects.items)
