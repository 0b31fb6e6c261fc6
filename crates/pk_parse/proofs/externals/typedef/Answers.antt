use Rattle.std.proofs.Common.{option_map, ap, ◌∙◌, arith}
use Rattle.pk_ast.specs.Views.{specifiers_tree, enumeration_tree, typedef_tree}
use Rattle.pk_grammar.specs.declared.failure.ParseError.TheVariants.{Syntax}
use Rattle.pk_grammar.specs.declared.signs.Fixed.TheVariants as fixed
use Rattle.pk_parse_expression.proofs.RunLemmas.{passed}
use Rattle.pk_parse_expression.proofs.KeptLemmas.{made, not_made}
use Rattle.pk_parse_expression.proofs.WordLemmas as word_lemmas
use Rattle.pk_parse.proofs.DeclarationLemmas.{shorter}
use Rattle.pk_parse.proofs.TypeNameLemmas.{stops_first_type, fails_type, stops_type_name, fails_names, reads_type_names, typedef_of}
use Rattle.pk_parse.proofs.externals.typedef.Goals as goal

pub returns-in_default : goal.returns-in_default
returns-in_default c = stops_first_type _ _ _ c.in_default.ensures (ap Syntax c.place.ensures)

pub returns-in_err-words : goal.returns-in_err-words
returns-in_err-words c = passed _ _ c.from_residual.result _ c.from_residual.ensures.1 (fails_type _ _ _ _ c.in-Some.ensures _ c.in_err-words.ensures)

pub returns-in_err-token : goal.returns-in_err-token
returns-in_err-token c =
    let w = c.in_ok-words.ensures in
    passed _ _ c.from_residual-in_err-token.result _ c.from_residual-in_err-token.ensures.1
    (stops_type_name c.args.parser.end _ _ _ c.in-Some.ensures (specifiers_tree c.in_ok-words.words) (option_map enumeration_tree c.in_ok-words.enumeration) _ w.0 w.1 _
    (not_made _ _ _ _ c.expect.ensures c.in_err-token.ensures))

pub returns-in_err-more : goal.returns-in_err-more
returns-in_err-more c =
    let w = c.in_ok-words.ensures in
    passed _ _ c.from_residual-in_err-more.result _ c.from_residual-in_err-more.ensures.1
    (fails_names c.args.parser.end _ _ _ c.in-Some.ensures (specifiers_tree c.in_ok-words.words) (option_map enumeration_tree c.in_ok-words.enumeration) _ w.0 w.1 _ _
    (made _ _ _ _ c.expect.ensures c.in_ok-token.ensures.0) _ (not_made _ _ _ _ c.more_names.ensures c.in_err-more.ensures))

pub returns : goal.returns
returns c =
    let w = c.in_ok-words.ensures in
    let n = made _ _ _ _ c.expect.ensures c.in_ok-token.ensures.0 in
    let r = made _ _ _ _ c.more_names.ensures c.in_ok-more.ensures.0 in
    let a = word_lemmas.shorter _ _ _ c.in-Some.ensures in
    let b = shorter fixed.Name _ _ _ n in
    let g = w.2 in
    let h = r.1 in (
      reads_type_names c.args.parser.end _ _ _ c.in-Some.ensures (specifiers_tree c.in_ok-words.words) (option_map enumeration_tree c.in_ok-words.enumeration) _ w.0 w.1 _ _ n c.in_ok-more.more.items _ r.0 _
          c.identifier.ensures (typedef_tree c.in_ok-typedef.typedef)
          (c.in_ok-typedef.ensures ∙ ap (λ k. typedef_of (specifiers_tree k.0) (option_map enumeration_tree k.1) (record { first = c.identifier.result; more = c.in_ok-more.more.items }))
          (c.in_ok-more.ensures.1 ∙ c.in_ok-token.ensures.1)),
      omega arith,
    )
