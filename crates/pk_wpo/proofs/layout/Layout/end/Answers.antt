use Rattle.std.proofs.Common.{◌≡◌, ap, arith, ◌∙◌, ℕ}
use Rattle.pk_wpo.specs.Constraints.{exit_of}
use Rattle.pk_wpo.specs.Layouts.{end_number}
use Rattle.pk_wpo.proofs.Kept.{kept, exit_in_range, exit_read, heads_long, end_small}
use Rattle.pk_wpo.proofs.layout.Layout.end.Goals as goal

pub index-requires : goal.index-requires
index-requires c =
    let long = heads_long _ _ _ _ _ c.self.view_is c.self.invariant in
    let inside = exit_in_range _ _ _ _ _ c.len.result c.self.view_is c.self.invariant (omega (arith, long, c.len.ensures)) in
    omega (arith, inside)

pub returns-clause-end : goal.returns-clause-end
returns-clause-end c =
    let long = heads_long _ _ _ _ _ c.self.view_is c.self.invariant in
    exit_read _ _ _ _ _ c.len.result c.index.result.now c.self.view_is c.self.invariant (omega (arith, long, c.len.ensures)) c.index.ensures
    ∙ ap (λ (n : ℕ). exit_of c.args.self.now.graph c.args.self.now.items n) (omega (arith, long, c.len.ensures))

pub returns-clause-few : goal.returns-clause-few
returns-clause-few c =
    let long = heads_long _ _ _ _ _ c.self.view_is c.self.invariant in
    let is : c.index.result.now ≡ end_number c.args.self.now = exit_read _ _ _ _ _ c.len.result c.index.result.now c.self.view_is c.self.invariant (omega (arith, long, c.len.ensures)) c.index.ensures
    ∙ ap (λ (n : ℕ). exit_of c.args.self.now.graph c.args.self.now.items n) (omega (arith, long, c.len.ensures)) in
    let small = end_small c.args.self.now (kept _ _ _ _ _ c.self.view_is c.self.invariant).laid in
    omega (arith, is, small)
