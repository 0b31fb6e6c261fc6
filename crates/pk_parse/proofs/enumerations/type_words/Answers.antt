use Rattle.std.proofs.Common.{◌≡◌, true, false, length, sym, ap, ◌∙◌, arith}
use Rattle.pk_ast.specs.Lists.{one}
use Rattle.pk_ast.specs.Views.{specifiers_tree, enumeration_tree}
use Rattle.pk_grammar.specs.declared.signs.Fixed.TheVariants as fixed
use Rattle.pk_grammar.specs.Machine.Signs.{takes_braces}
use Rattle.pk_grammar.specs.Machine.States.{after_braces}
use Rattle.pk_grammar.specs.Machine.Running.{run}
use Rattle.pk_parse_expression.proofs.RunLemmas.{passed}
use Rattle.pk_parse_expression.proofs.WordLemmas.{no_longer}
use Rattle.pk_parse_expression.proofs.KeptLemmas.{made, not_made}
use Rattle.pk_parse.proofs.DeclarationLemmas.{shorter}
use Rattle.pk_parse.proofs.EnumerationLemmas.{reads_words, ends_words, fails_braces, reads_type}
use Rattle.pk_parse.proofs.enumerations.type_words.Goals as goal

pub returns-then-not-takes_braces : goal.returns-then-not-takes_braces
returns-then-not-takes_braces c =
    let w = c.in_ok-words.ensures in
    let a = no_longer c.args.tokens.now (one c.args.first) in
    let e = ap length w.0.past in (
      reads_words c.args.parser.end _ c.requires _ _ _ _ w.0,
      ends_words c.args.parser.end _ c.requires _ _ _ _ w.0 (λ h. sym (ap takes_braces w.1) ∙ sym c.takes_braces.ensures ∙ c.if-not-takes_braces.true),
      omega arith,
    )

pub returns-in_default : goal.returns-in_default
returns-in_default c =
    let w = c.in_ok-words.ensures in
    let a = no_longer c.args.tokens.now (one c.args.first) in
    let e = ap length w.0.past in (
      reads_words c.args.parser.end _ c.requires _ _ _ _ w.0,
      ends_words c.args.parser.end _ c.requires _ _ _ _ w.0 (λ h. let g : true ≡ false = sym h ∙ c.in_default.ensures in absurd (cc)),
      omega arith,
    )

pub returns-in_err-enumeration : goal.returns-in_err-enumeration
returns-in_err-enumeration c =
    let w = c.in_ok-words.ensures in
    passed _ _ c.from_residual-in_err-enumeration.result _ c.from_residual-in_err-enumeration.ensures.1
    (fails_braces c.args.parser.end _ c.requires _ _ _ _ w.0 _ _ c.in-Some.ensures (sym (ap takes_braces w.1) ∙ sym c.takes_braces.ensures ∙ c.if-not-takes_braces.false) _
    (not_made _ _ _ _ c.braces.ensures c.in_err-enumeration.ensures))

pub returns : goal.returns
returns c =
    let w = c.in_ok-words.ensures in
    let r = made _ _ _ _ c.braces.ensures c.in_ok-enumeration.ensures.0 in
    let a = no_longer c.args.tokens.now (one c.args.first) in
    let b = shorter fixed.OpenBrace _ _ _ c.in-Some.ensures in
    let e = ap length w.0.past in
    let h = r.2 in
    let opens = sym (ap takes_braces w.1) ∙ sym c.takes_braces.ensures ∙ c.if-not-takes_braces.false in (
      λ s same. reads_type c.args.parser.end _ c.requires _ _ _ _ w.0 _ _ c.in-Some.ensures opens (enumeration_tree c.in_ok-enumeration.enumeration) _ r.0 s same
          ∙ ap (λ q. run c.args.parser.end (after_braces s (specifiers_tree q) (enumeration_tree c.in_ok-enumeration.enumeration)) c.in_ok-enumeration.last.now) (sym c.in_ok-enumeration.ensures.1),
      r.1,
      omega arith,
    )
