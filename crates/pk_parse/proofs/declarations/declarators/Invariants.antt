use Rattle.std.proofs.Common.{◌≤◌, length}
use Rattle.pk_ast.specs.Views.{declarator_trees}
use Rattle.pk_parse.proofs.DeclarationLemmas.{ReadsDeclarators}
use Rattle.pk_parse.proofs.declarations.declarators.Given as goal

abbrev pub invariant-loop-list : goal.invariant-loop-list
invariant-loop-list l =
    ReadsDeclarators l.parser.end l.outside l.fn.name l.tokens (declarator_trees l.list.items) l.next_name l.rest × (length l.rest ≤ length l.tokens)

abbrev pub decreases-loop-list : goal.decreases-loop-list
decreases-loop-list l = length l.rest
