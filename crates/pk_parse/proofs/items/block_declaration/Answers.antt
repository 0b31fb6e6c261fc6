use Rattle.std.proofs.Common.{◌≤◌, not, sym, subst, ◌∙◌, ap, arith}
use Rattle.pk_ast.specs.Views.{declaration_tree}
use Rattle.pk_grammar.specs.Machine.States.{in_a_block}
use Rattle.pk_grammar.specs.Machine.Running.{syntax}
use Rattle.pk_parse_expression.proofs.RunLemmas.{passed, fails_as}
use Rattle.pk_parse_expression.proofs.WordLemmas as word_lemmas
use Rattle.pk_parse.proofs.ItemLemmas.{no_longer, stops_item, run_item_word, after_declaration}
use Rattle.pk_parse.proofs.items.block_declaration.Goals as goal

pub returns-in_default : goal.returns-in_default
returns-in_default c = λ b n.
    let s = c.static_word-static_at in
    s.ensures.reads b (subst (λ q. q ≤ 128) (sym n) c.requires) ∙ stops_item _ b _ s.result.0 (c.is_none.ensures ∙ ap not c.if-is_none.false) c.in_default.ensures ∙ ap syntax (sym c.place.ensures)

pub returns-in_err-declaration : goal.returns-in_err-declaration
returns-in_err-declaration c =
    let s = c.static_word-static_at in
    passed _ _ c.from_residual.result _ c.from_residual.ensures.1
    (λ b n.
    let limit = subst (λ q. q ≤ 128) (sym n) c.requires in
    fails_as _ _ _ (s.ensures.reads b limit ∙ run_item_word _ b _ s.result.0 _ _ c.in-Some.ensures limit) (c.in_err-declaration.ensures (in_a_block b s.result.0) tt c.is_some.ensures n))

pub returns : goal.returns
returns c =
    let s = c.static_word-static_at in
    let d = c.in_ok-declaration in
    let f = no_longer c.args.parser.end c.args.tokens.now s.result.1.now s.result.0 s.ensures.rest in
    let g = word_lemmas.shorter _ _ _ c.in-Some.ensures in
    let h = d.ensures.1 in (
      λ b n.
          let limit = subst (λ q. q ≤ 128) (sym n) c.requires in
          s.ensures.reads b limit ∙ run_item_word _ b _ s.result.0 _ _ c.in-Some.ensures limit ∙ d.ensures.0 (in_a_block b s.result.0) tt c.is_some.ensures n
          ∙ after_declaration _ b _ s.result.0 (declaration_tree d.declaration) _ c.in_ok-item.ensures,
      omega arith,
    )
