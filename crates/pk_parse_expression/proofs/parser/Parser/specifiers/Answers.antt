use Rattle.std.proofs.Common.{sym, ap, ◌∙◌}
use Rattle.pk_ast.specs.declared.declarations.Specifier.{Specifier}
use Rattle.pk_ast.specs.Trees.{OneOrMore}
use Rattle.pk_grammar.specs.Machine.Running.{first_of_all}
use Rattle.pk_parse_expression.specs.Parsing.{TypeWords, words}
use Rattle.pk_parse_expression.proofs.WordLemmas.{no_words, one_word, shape_as, shape_more, following_next, begins_next}
use Rattle.pk_parse_expression.proofs.parser.Parser.specifiers.Goals as goal

pub returns-in_default : goal.returns-in_default
returns-in_default c =
    let done : OneOrMore Specifier = record { first = c.args.first; more = c.loop-word.more.items } in
    let i = c.loop-word.invariant in
    let none = sym (following_next _ done (first_of_all c.args.self.end c.loop-word.rest.now) i.1) ∙ c.in_default.ensures in
    let e = sym (no_words c.args.self.end done c.loop-word.rest.now none) ∙ i.0 in
    (record { are = ap (λ (w : TypeWords). w.0) e; past = ap (λ (w : TypeWords). w.1) e }, i.1)

pub loop-word-init : goal.loop-word-init
loop-word-init c =
    let all = ap (λ q. record { first = c.args.first; more = q }) c.new-more.ensures.items in
    (ap (λ q. words q c.args.tokens.now) all, shape_as _ _ _ c.with_word-shape.ensures all)

pub loop-word-preserved : goal.loop-word-preserved
loop-word-preserved c =
    let done : OneOrMore Specifier = record { first = c.args.first; more = c.loop-word.more.items } in
    let i = c.loop-word.invariant in
    let s = c.in-Some.word in
    let all = ap (λ q. record { first = c.args.first; more = q }) c.in_ok-push.ensures.items in (
      ap (λ q. words q c.in-Some.after.now) all ∙ one_word done _ _ _ (begins_next _ done _ _ _ i.1 c.in-Some.ensures) ∙ i.0,
      shape_as _ _ _ (shape_more _ _ done s i.1 c.with_word-shape-in-loop-word.ensures) all,
    )
