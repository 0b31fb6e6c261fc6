use Rattle.std.proofs.Common.{List, ap, sym}
use Rattle.std.proofs.lemmas.List.{nil_from_length}
use Rattle.pk_lex.specs.declared.token.Token.{Token}
use Rattle.pk_grammar.specs.Machine.Running.{first_of_all}
use Rattle.pk_parse_expression.proofs.parser.Parser.kind.Goals as goal

pub returns-in-Some : goal.returns-in-Some
returns-in-Some c = ap (λ (ts : List Token). (first_of_all c.args.self.end ts).kind) (sym c.in-Some.ensures.cases.0)

pub returns-in-None : goal.returns-in-None
returns-in-None c =
    ap (λ (ts : List Token). (first_of_all c.args.self.end ts).kind)
    (sym (nil_from_length c.args.tokens.now c.in-None.ensures.cases))
