use Rattle.std.proofs.Common.{◌<◌, ℕ, List, length, get_or, ◌++◌, ◌∷◌, [], arith, ◌∙◌, ap}
use Rattle.std.proofs.Math.ListN.{set}
use Rattle.std.proofs.lemmas.Result.{err_from_is_err_and}
use Rattle.pk_plan.proofs.DigraphLemmas.{length-lists_of, lists_of-kept, lists_of-add, IsKept-kept, IsKept-add}
use Rattle.pk_plan.proofs.digraphs.Digraph.add_edge.Goals as goal

pub invariant_of-self : goal.invariant_of-self
invariant_of-self c = IsKept-kept c.self.inside.successors.items c.args.from c.index_mut-row.result.now c.push.new.self c.index_mut-row.ensures.value c.in_err-push.ensures.items c.self.invariant

pub returns-in_err-push-clause-err : goal.returns-in_err-push-clause-err
returns-in_err-push-clause-err c =
    let p = err_from_is_err_and c.from_residual.result c.from_residual.ensures.1 in
    rw p.1 (lists_of-kept c.self.inside.successors.items c.args.from c.index_mut-row.result.now c.push.new.self c.index_mut-row.ensures.value c.in_err-push.ensures.items ∙ c.self.view_is)

in_place : (c : goal.In_ok-push) (v : ℕ) → v < length c.args.self.now → v < length c.self.inside.successors.items
in_place c v h = omega (arith, h, length-lists_of c.self.inside.successors.items, ap {B = ℕ} (λ (gs : List (List ℕ)). length gs) c.self.view_is)

pub invariant_of-self-2 : goal.invariant_of-self-2
invariant_of-self-2 c = IsKept-add c.self.inside.successors.items c.args.from c.args.to c.index_mut-row.result.now c.push.new.self (in_place c c.args.from c.requires.from) (in_place c c.args.to c.requires.to) c.index_mut-row.ensures.value c.in_ok-push.ensures.items c.self.invariant

pub returns-clause-ok : goal.returns-clause-ok
returns-clause-ok c =
    lists_of-add c.self.inside.successors.items c.args.from c.args.to c.index_mut-row.result.now c.push.new.self (in_place c c.args.from c.requires.from) c.index_mut-row.ensures.value c.in_ok-push.ensures.items
    ∙ ap (λ (gs : List (List ℕ)). set gs c.args.from (get_or gs c.args.from [] ++ c.args.to ∷ [])) c.self.view_is
