-- The last of those that are left has it, or those before it.
use Rattle.std.proofs.Common.{sym, ◌∙◌, arith}
use Rattle.pk_type_scope.proofs.ScopeLemmas.{found_there, found_before}
use Rattle.pk_type_scope.proofs.scopes.Scope.lookup_around.Goals as goal

pub returns-in-Some : goal.returns-in-Some
returns-in-Some c =
    found_there c.args.self.now.outer.items c.loop-left.left c.index.result.now (record { is_tag = c.args.is_tag; bytes = c.args.bytes.now }) c.in-Some.declared _ (omega arith) c.loop-left.invariant.within c.index.ensures c.loop-left.invariant.same (sym c.in-Some.is ∙ c.get.ensures)

pub loop-left-preserved : goal.loop-left-preserved
loop-left-preserved c = record {
  within = omega (arith, c.loop-left.invariant.within);
  same = found_before c.args.self.now.outer.items c.loop-left.left c.index.result.now (record { is_tag = c.args.is_tag; bytes = c.args.bytes.now }) _ (omega arith) c.loop-left.invariant.within c.index.ensures c.loop-left.invariant.same (sym c.in_default.is ∙ c.get.ensures);
}
