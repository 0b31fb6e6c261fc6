use Rattle.std.proofs.Common.{ℕ, List, refl, sym, ◌∙◌, ap, arith}
use Rattle.std.specs.Cmp.Lexicographic.{pointwise}
use lib.Dec.{eqb}
use Rattle.pk_calls.proofs.CallLemmas.{name_test, named_by, not_named, no_body, has_body_in}
use Rattle.pk_calls.proofs.functions.is_named.Goals as goal

pub returns-then-is_some : goal.returns-then-is_some
returns-then-is_some c = named_by c.args.unit.now c.args.function c.index-function.result.now c.args.name.now c.eq.result (omega arith) c.index-function.ensures (sym c.is_some.ensures ∙ c.if-is_some.true) (name_test c.index-function.result.now.name c.args.name.now c.eq.result (c.eq.ensures ∙ ap (λ (n : List ℕ). pointwise eqb n c.args.name.now) c.as_str.ensures))

pub returns-else-is_some : goal.returns-else-is_some
returns-else-is_some c = not_named c.args.unit.now c.args.function c.args.name.now c.is_some.result c.if-is_some.false (no_body c.args.unit.now c.args.function c.index-function.result.now (omega arith) c.index-function.ensures (sym c.is_some.ensures ∙ c.if-is_some.false))

pub returns-else-function-len : goal.returns-else-function-len
returns-else-function-len c = not_named c.args.unit.now c.args.function c.args.name.now _ refl (λ h. absurd (omega (arith, has_body_in c.args.unit.now c.args.function h)))
