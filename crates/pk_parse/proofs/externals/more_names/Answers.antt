use Rattle.std.proofs.Common.{List, sym, subst, arith}
use Rattle.pk_ast.specs.declared.expressions.Identifier.{Identifier}
use Rattle.pk_grammar.specs.declared.signs.Fixed.TheVariants as fixed
use Rattle.pk_parse_expression.proofs.RunLemmas.{passed}
use Rattle.pk_parse.proofs.DeclarationLemmas.{shorter}
use Rattle.pk_parse.proofs.TypeNameLemmas.{ReadsNames, reads_no_name, reads_names, stops_names, stops_next_type, reads_name}
use Rattle.pk_parse.proofs.externals.more_names.Goals as goal

pub loop-last-init : goal.loop-last-init
loop-last-init c =
    let P : List Identifier → Type 0 = λ ids. ReadsNames c.args.parser.end c.args.tokens.now ids c.args.tokens.now in
    (subst P (sym c.new-list.ensures.items) (reads_no_name _ _), omega arith)

pub returns-in-Some : goal.returns-in-Some
returns-in-Some c =
    let i = c.loop-last.invariant in
    let a = shorter fixed.Semicolon _ _ _ c.in-Some.ensures in
    let h = i.1 in
    (reads_names _ _ c.loop-last.list.items _ i.0 _ _ c.in-Some.ensures, omega arith)

pub returns-in_err-next : goal.returns-in_err-next
returns-in_err-next c =
    passed _ _ c.from_residual.result _ c.from_residual.ensures.1 (stops_names _ _ c.loop-last.list.items _ c.loop-last.invariant.0 _ c.in_default.ensures c.in_err-next.ensures)

pub returns-in_err-token : goal.returns-in_err-token
returns-in_err-token c =
    passed _ _ c.from_residual-in_err-token.result _ c.from_residual-in_err-token.ensures.1
    (stops_next_type _ _ c.loop-last.list.items _ c.loop-last.invariant.0 _ _ c.in_ok-next.ensures _ c.in_err-token.ensures)

pub loop-last-preserved : goal.loop-last-preserved
loop-last-preserved c =
    let i = c.loop-last.invariant in
    let a = shorter fixed.Comma _ _ _ c.in_ok-next.ensures in
    let b = shorter fixed.Name _ _ _ c.in_ok-token.ensures in
    let h = i.1 in
    (reads_name _ _ c.loop-last.list.items _ i.0 _ _ c.in_ok-next.ensures _ _ _ c.in_ok-token.ensures c.identifier.ensures _ c.in_ok-push.ensures.items, omega arith)
