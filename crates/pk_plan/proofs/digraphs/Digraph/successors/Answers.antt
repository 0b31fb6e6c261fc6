use Rattle.std.proofs.Common.{◌≡◌, ◌<◌, ℕ, List, [], length, get_or, All, sym, subst, ap, ◌∙◌, arith}
use Rattle.pk_plan.specs.Digraphs.{IsClosed}
use Rattle.pk_plan.proofs.DigraphLemmas.{successors_within, row_items, length-lists_of}
use Rattle.pk_plan.proofs.digraphs.Digraph.successors.Goals as goal

pub returns-clause-within : goal.returns-clause-within
returns-clause-within c =
    let within : c.args.vertex < length c.self.inside.successors.items = omega (arith, c.requires, length-lists_of c.self.inside.successors.items, ap {B = ℕ} (λ (gs : List (List ℕ)). length gs) c.self.view_is) in
    let same : c.as_slice.result.now ≡ get_or c.args.self.now c.args.vertex [] =
    c.as_slice.ensures.value ∙ row_items c.self.inside.successors.items c.args.vertex c.index.result.now within c.index.ensures ∙ ap (λ (gs : List (List ℕ)). get_or gs c.args.vertex []) c.self.view_is in
    subst (λ (vs : List ℕ). All (λ v. v < length c.args.self.now) vs) (sym same) (successors_within c.args.self.now c.args.vertex (subst IsClosed c.self.view_is c.self.invariant.0))
