-- What is left does what the whole does.
use Rattle.std.proofs.Common.{◌≡◌, ◌++◌, drop}
use Rattle.pk_ast.specs.Views.{enumerator_trees}
use Rattle.pk_typed.specs.Views.{declared_trees}
use Rattle.pk_type_declaration.specs.Enumerations.{after_enumerators, hidden_by}
use Rattle.pk_type_declaration.specs.Views.{walked_in}
use Rattle.pk_type_declaration.specs.Rules.{noting}
use Rattle.pk_type_declaration.proofs.walk.Walk.enumerators.Given as goal

abbrev pub invariant-loop-x : goal.invariant-loop-x
invariant-loop-x l =
    let rest = enumerator_trees (drop l.x-index l.list) in
    let all = enumerator_trees l.list in
    record {
      walked : after_enumerators noting l.next rest (walked_in l.self) ≡ after_enumerators noting l.initial.next all (walked_in l.initial.self);
      trees : declared_trees l.all.items ++ hidden_by noting l.next rest (walked_in l.self) ≡ declared_trees l.initial.all.items ++ hidden_by noting l.initial.next all (walked_in l.initial.self);
    }
