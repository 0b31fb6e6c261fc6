use Rattle.std.proofs.Common.{◌≡◌, ◌∙◌, ◌^◌, ◌<◌, ℕ, List, [], ap, arith, replicate}
use Rattle.pk_plan.specs.Digraphs.{lists_of}
use Rattle.pk_plan.proofs.DigraphLemmas.{lists_of-more, IsKept-none}
use Rattle.pk_plan.proofs.digraphs.Digraph.with_vertices.Goals as goal

pub loop-init : goal.loop-init
loop-init c = ap lists_of c.new-successors.ensures.items

pub loop-preserved : goal.loop-preserved
loop-preserved c =
    lists_of-more c.loop.successors.items c.push.new.self.items c.new.result c.loop.counter c.in_ok-push.ensures.items c.new.ensures.items c.loop.invariant

all : (c : goal.After-loop) → c.loop.counter ≡ c.args.vertices
all c = omega arith

pub invariant_of-result : goal.invariant_of-result
invariant_of-result c =
    let few : c.loop.counter < 2 ^ 32 = omega (arith, all c) in
    IsKept-none c.loop.successors.items c.loop.counter c.loop.invariant few

pub returns : goal.returns
returns c = c.loop.invariant ∙ ap (λ (n : ℕ). replicate {A = List ℕ} n []) (all c)
