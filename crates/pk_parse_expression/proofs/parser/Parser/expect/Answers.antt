use Rattle.std.proofs.Common.{ap}
use Rattle.pk_grammar.specs.declared.failure.ParseError.TheVariants.{Syntax}
use Rattle.pk_parse_expression.proofs.parser.Parser.expect.Goals as goal

pub returns-in-Some : goal.returns-in-Some
returns-in-Some c = c.in-Some.ensures

pub returns-in-None : goal.returns-in-None
returns-in-None c = (c.in-None.ensures, ap Syntax c.place.ensures)
