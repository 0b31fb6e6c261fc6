-- What is left does what the whole does.
use Rattle.std.proofs.Common.{◌≡◌, drop}
use Rattle.pk_ast.specs.Views.{declarator_trees}
use Rattle.pk_type_declaration.specs.Declarations.{after_declarators, declarator_trees_at}
use Rattle.pk_type_declaration.specs.Parts.{joined}
use Rattle.pk_type_declaration.specs.Views.{walked_in, declared_in}
use Rattle.pk_type_declaration.specs.Rules.{noting}
use Rattle.pk_type_declaration.proofs.walk.Walk.declarators.Given as goal

abbrev pub invariant-loop-d : goal.invariant-loop-d
invariant-loop-d l =
    let rest = declarator_trees (drop l.d-index l.list) in
    let all = declarator_trees l.list in
    record {
      walked : after_declarators noting l.words rest (walked_in l.self) ≡ after_declarators noting l.words all (walked_in l.initial.self);
      trees : joined (declared_in l.all) (declarator_trees_at noting l.words rest (walked_in l.self))
          ≡ joined (declared_in l.initial.all) (declarator_trees_at noting l.words all (walked_in l.initial.self));
    }
