use Rattle.std.proofs.Common.{◌≡◌, length}
use Rattle.pk_ast.specs.declared.declarations.Specifier.{Specifier}
use Rattle.pk_ast.specs.Lists.{one}
use Rattle.pk_ast.specs.Trees.{OneOrMore}
use Rattle.pk_grammar.specs.Grammar.{all_of}
use Rattle.pk_grammar.specs.Machine.Signs.{shape_of}
use Rattle.pk_parse_expression.specs.Parsing.{words}
use Rattle.pk_parse_expression.proofs.parser.Parser.specifiers.Given as goal

abbrev pub invariant-loop-word : goal.invariant-loop-word
invariant-loop-word l =
    let done : OneOrMore Specifier = record { first = l.first; more = l.more.items } in
    (words done l.rest ≡ words (one l.first) l.tokens) × (l.shape ≡ shape_of (all_of done))

abbrev pub decreases-loop-word : goal.decreases-loop-word
decreases-loop-word l = length l.rest
