use Rattle.std.proofs.Common.{◌≡◌, ◌+◌, ◌-◌, ◌*◌, ◌≤◌, length}
use Rattle.pk_ast.specs.Views.{item_trees}
use Rattle.pk_grammar.specs.Machine.States.{OpenBlock, block_item}
use Rattle.pk_grammar.specs.Machine.Steps.{block_nesting}
use Rattle.pk_grammar.specs.Machine.Running.{run}
use Rattle.pk_parse.specs.Parts.{with_items}
use Rattle.pk_parse.proofs.statements.+statements.Given as goal

abbrev pub decreases-labelled : goal.decreases-labelled
decreases-labelled l = 10 * (128 - l.outside)

abbrev pub decreases-statement : goal.decreases-statement
decreases-statement l = 10 * (128 - l.outside) + 1

abbrev pub decreases-case : goal.decreases-case
decreases-case l = 10 * (128 - l.inside) + 2

abbrev pub decreases-default : goal.decreases-default
decreases-default l = 10 * (128 - l.inside) + 2

abbrev pub decreases-choice : goal.decreases-choice
decreases-choice l = 10 * (128 - l.inside) + 2

abbrev pub decreases-tested : goal.decreases-tested
decreases-tested l = 10 * (128 - l.inside) + 2

abbrev pub decreases-repeated : goal.decreases-repeated
decreases-repeated l = 10 * (128 - l.inside) + 2

abbrev pub decreases-for_loop : goal.decreases-for_loop
decreases-for_loop l = 10 * (128 - l.inside) + 2

abbrev pub decreases-block_items : goal.decreases-block_items
decreases-block_items l = 10 * (128 - l.inside) + 2

abbrev pub decreases-block : goal.decreases-block
decreases-block l = 10 * (128 - l.inside) + 3

abbrev pub invariant-block_items-loop-parser : goal.invariant-block_items-loop-parser
invariant-block_items-loop-parser l =
    ((b : OpenBlock) → block_nesting b ≡ l.inside → run l.parser.end (block_item b) l.tokens ≡ run l.parser.end (block_item (with_items b (item_trees l.list.items))) l.rest)
    × (length l.rest ≤ length l.tokens)

abbrev pub decreases-block_items-loop-parser : goal.decreases-block_items-loop-parser
decreases-block_items-loop-parser l = length l.rest
