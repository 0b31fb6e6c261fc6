use Rattle.std.proofs.Common.{◌+◌, ap, arith}
use Rattle.pk_grammar.proofs.CompleteSigns.{strength_most}
use Rattle.pk_parse_expression.proofs.parser.right_of.Goals as goal

pub returns : goal.returns
returns c = ap (λ s. s + 1) c.strength.ensures

pub overflow_add-result : goal.overflow_add-result
overflow_add-result c = omega (arith, strength_most c.args.op)
