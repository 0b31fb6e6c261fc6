use Rattle.std.proofs.Common.{ap, ◌∙◌, List, slice_set}
use Rattle.std.specs.Prelude.{ℤ}
use Rattle.std.specs.declared.vec.Vec.{Vec}
use Rattle.std.specs.declared.alloc.Global.{Global}
use Rattle.std.proofs.lemmas.List.{map-set}
use Rattle.pk_graph_step.proofs.StoreLemmas.{items_of}
use Rattle.pk_graph_step.proofs.stores.Store.with.Goals as goal

pub returns : goal.returns
returns c =
    map-set (λ (v : Vec ℤ Global). v.items) c.in_ok-copies.copies.items c.args.variable c.args.numbers
    ∙ ap (λ (xs : List (List ℤ)). slice_set xs c.args.variable c.args.numbers.items) (c.in_ok-copies.ensures ∙ ap items_of c.deref.ensures.value ∙ c.self.view_is)
