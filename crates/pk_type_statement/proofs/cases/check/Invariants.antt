-- What is left does what the whole does.
use Rattle.std.proofs.Common.{◌≡◌, drop}
use Rattle.pk_type_scope.specs.Failures.{noted}
use Rattle.pk_type_declaration.specs.Parts.{parts_in, joined}
use Rattle.pk_type_declaration.specs.Views.{walked_in}
use Rattle.pk_type_declaration.specs.Rules.{failing}
use Rattle.pk_type_statement.specs.Numbers.{numbers_in}
use Rattle.pk_type_statement.specs.Trees.{case_numbers}
use Rattle.pk_type_statement.specs.Rules.{repeated}
use Rattle.pk_type_statement.proofs.cases.check.Given as goal

abbrev pub invariant-loop-case : goal.invariant-loop-case
invariant-loop-case l =
    let rest = drop l.case-index l.cases in
    record {
      walked : failing noted (repeated l.int_type (numbers_in l.before) rest) (walked_in l.walk) ≡ failing noted (repeated l.int_type (numbers_in l.initial.before) l.cases) (walked_in l.initial.walk);
      numbers : joined (parts_in l.all) (case_numbers l.int_type rest) ≡ joined (parts_in l.initial.all) (case_numbers l.int_type l.cases);
    }
