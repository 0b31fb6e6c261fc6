use Rattle.std.proofs.Common.{◌≡◌, ℕ, ◌+◌, ◌++◌, List, length, sym, ap, subst, ◌∙◌}
use Rattle.pk_layout.specs.Gathered.{gathered, AreStarts}
use Rattle.pk_layout.proofs.Lists.{gathered_more, starts_more}
use Rattle.pk_layout.proofs.gathering.gather.Goals as goal

pub loop-e-preserved : goal.loop-e-preserved
loop-e-preserved g c =
    let reads = (g.Y.System.meaning c.args.system.now).reads in
    let e = c.loop-e.e in
    let targets : c.extend_from_slice.new.self.items ≡ gathered reads (e + 1) =
    c.in_ok-extend_from_slice.ensures.items
    ∙ ap (λ (xs : List ℕ). c.loop-e.targets.items ++ xs) c.reads.ensures
    ∙ ap (λ (xs : List ℕ). xs ++ reads e) c.loop-e.invariant.targets
    ∙ sym (gathered_more reads e) in
    record {
      targets = targets;
      from = subst (AreStarts reads (e + 1)) (sym c.in_ok-push-2.ensures.items) (starts_more reads e c.loop-e.from.items c.len.result c.loop-e.invariant.from (c.len.ensures ∙ c.extend_from_slice.new.self.ok.0 ∙ ap length targets));
    }
