use Rattle.std.proofs.Common.{arith}
use Rattle.pk_ast.specs.Views.{typedef_tree}
use Rattle.pk_grammar.specs.declared.signs.Fixed.TheVariants as fixed
use Rattle.pk_parse_expression.proofs.RunLemmas.{passed}
use Rattle.pk_parse.proofs.DeclarationLemmas.{shorter}
use Rattle.pk_parse.proofs.TypeNameLemmas.{fails_typedef, reads_typedef}
use Rattle.pk_parse.proofs.externals.external.Goals as goal

pub returns-in_err-typedef : goal.returns-in_err-typedef
returns-in_err-typedef c =
    passed _ _ c.from_residual.result _ c.from_residual.ensures.1 (fails_typedef _ _ _ _ c.in-Some.ensures _ c.in_err-typedef.ensures)

pub returns : goal.returns
returns c =
    let r = c.in_ok-typedef.ensures in
    let a = shorter fixed.Typedef _ _ _ c.in-Some.ensures in
    let g = r.1 in
    (reads_typedef _ _ _ _ c.in-Some.ensures (typedef_tree c.in_ok-typedef.typedef) _ r.0 _ c.type_names.ensures, omega arith)
