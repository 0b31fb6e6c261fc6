-- What is left does what the whole does.
use Rattle.std.proofs.Common.{◌≡◌, ◌++◌, drop}
use Rattle.pk_ast.specs.Views.{declarator_trees}
use Rattle.pk_typed.specs.Views.{declared_trees}
use Rattle.pk_type_declaration.specs.Statics.{after_statics, static_trees_at}
use Rattle.pk_type_declaration.specs.Views.{walked_in}
use Rattle.pk_type_declaration.specs.Rules.{noting}
use Rattle.pk_type_declaration.proofs.walk.Walk.static_declarators.Given as goal

abbrev pub invariant-loop-d : goal.invariant-loop-d
invariant-loop-d l =
    let rest = declarator_trees (drop l.d-index l.list) in
    let all = declarator_trees l.list in
    record {
      walked : after_statics noting l.words rest (walked_in l.self) ≡ after_statics noting l.words all (walked_in l.initial.self);
      trees : declared_trees l.all.items ++ static_trees_at noting l.words rest (walked_in l.self) ≡ declared_trees l.initial.all.items ++ static_trees_at noting l.words all (walked_in l.initial.self);
    }
