use Rattle.std.proofs.Common.{List, sym, ap, subst, arith}
use Rattle.pk_ast.specs.Trees.{DeclaratorTree}
use Rattle.pk_ast.specs.Views.{declarator_trees}
use Rattle.pk_grammar.specs.declared.signs.Fixed.TheVariants as fixed
use Rattle.pk_parse_expression.proofs.RunLemmas.{passed}
use Rattle.pk_parse.proofs.DeclarationLemmas.{shorter, ReadsDeclarators, reads_no_declarator, fails_declarator, reads_declarators, stops_declarators, stops_next_name, reads_declarator}
use Rattle.pk_parse.proofs.declarations.declarators.Goals as goal

pub loop-list-init : goal.loop-list-init
loop-list-init c =
    let P : List DeclaratorTree → Type 0 = λ xs. ReadsDeclarators c.args.parser.end c.args.outside c.args.name c.args.tokens.now xs c.args.name c.args.tokens.now in
    (subst P (sym (ap declarator_trees c.in_ok-list.ensures.items)) (reads_no_declarator _ _ _ _), omega arith)

pub returns-in_err-declarator : goal.returns-in_err-declarator
returns-in_err-declarator c =
    passed _ _ c.from_residual-in_err-declarator.result _ c.from_residual-in_err-declarator.ensures.1
    (fails_declarator _ _ c.requires _ _ c.loop-list.list.items _ _ c.loop-list.invariant.0 _ c.in_err-declarator.ensures)

pub returns-in-Some : goal.returns-in-Some
returns-in-Some c =
    let i = c.loop-list.invariant in
    let r = c.in_ok-declarator.ensures in
    let a = shorter fixed.Semicolon _ _ _ c.in-Some.ensures in
    let h = i.1 in
    let g = r.1 in
    (reads_declarators _ _ c.requires _ _ c.loop-list.list.items _ _ i.0 c.in_ok-declarator.declarator _ r.0 _ c.in_ok-push.ensures.items _ _ c.in-Some.ensures, omega arith)

pub returns-in_err-next : goal.returns-in_err-next
returns-in_err-next c =
    passed _ _ c.from_residual-in_err-next.result _ c.from_residual-in_err-next.ensures.1
    (stops_declarators _ _ c.requires _ _ c.loop-list.list.items _ _ c.loop-list.invariant.0 c.in_ok-declarator.declarator _ c.in_ok-declarator.ensures.0 _ c.in_default.ensures c.in_err-next.ensures)

pub returns-in_err-token : goal.returns-in_err-token
returns-in_err-token c =
    passed _ _ c.from_residual-in_err-token.result _ c.from_residual-in_err-token.ensures.1
    (stops_next_name _ _ c.requires _ _ c.loop-list.list.items _ _ c.loop-list.invariant.0 c.in_ok-declarator.declarator _ c.in_ok-declarator.ensures.0 _ _ c.in_ok-next.ensures _ c.in_err-token.ensures)

pub loop-list-preserved : goal.loop-list-preserved
loop-list-preserved c =
    let i = c.loop-list.invariant in
    let r = c.in_ok-declarator.ensures in
    let a = shorter fixed.Comma _ _ _ c.in_ok-next.ensures in
    let b = shorter fixed.Name _ _ _ c.in_ok-token.ensures in
    let h = i.1 in
    let g = r.1 in (
      reads_declarator _ _ c.requires _ _ c.loop-list.list.items _ _ i.0 c.in_ok-declarator.declarator _ r.0 _ _ c.in_ok-next.ensures _ c.in_ok-push.ensures.items _ _ _ c.in_ok-token.ensures c.identifier-next_name.ensures,
      omega arith,
    )
