use Rattle.std.proofs.Common.{List, sym, subst, arith}
use Rattle.pk_ast.specs.declared.declarations.Specifier.{Specifier}
use Rattle.pk_grammar.specs.declared.signs.Fixed.TheVariants as fixed
use Rattle.pk_parse.proofs.DeclarationLemmas.{shorter}
use Rattle.pk_parse.proofs.EnumerationLemmas.{ReadsQualifiers, reads_no_qualifier, reads_qualifier}
use Rattle.pk_parse.proofs.enumerations.qualifiers.Goals as goal

pub loop-token-init : goal.loop-token-init
loop-token-init c =
    let P : List Specifier → Type 0 = λ qs. ReadsQualifiers c.args.parser.end c.args.tokens.now qs c.args.tokens.now in
    (subst P (sym c.new-list.ensures.items) (reads_no_qualifier _ _), omega arith)

pub returns-in_default : goal.returns-in_default
returns-in_default c = let i = c.loop-token.invariant in (i.0, c.in_default.ensures, i.1)

pub loop-token-preserved : goal.loop-token-preserved
loop-token-preserved c =
    let i = c.loop-token.invariant in
    let a = shorter fixed.Const _ _ _ c.in-Some.ensures in
    let h = i.1 in
    (reads_qualifier _ _ c.loop-token.list.items _ i.0 _ _ c.in-Some.ensures _ c.in_ok-push.ensures.items, omega arith)
