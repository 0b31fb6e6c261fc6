use Rattle.std.proofs.Common.{ap, rules, FitsSigned, sym, subst}
use Rattle.std.specs.Int.{w128}
use Rattle.pk_ctypes.specs.Types.{InType}
use Rattle.pk_interval.specs.Ranges.{Range}
use Rattle.pk_interval.proofs.Numbers.{back_to}
use Rattle.pk_interval.proofs.products.products.Goals as goal

pub returns : goal.returns
returns c =
    let fal : FitsSigned w128 c.a.inside.lo = search rules in
    let fah : FitsSigned w128 c.a.inside.hi = search rules in
    let fbl : FitsSigned w128 c.b.inside.lo = search rules in
    let fbh : FitsSigned w128 c.b.inside.hi = search rules in
    let al = back_to c.a.inside.lo _ fal (ap (λ (r : Range). r.lo) c.a.view_is) in
    let ah = back_to c.a.inside.hi _ fah (ap (λ (r : Range). r.hi) c.a.view_is) in
    let bl = back_to c.b.inside.lo _ fbl (ap (λ (r : Range). r.lo) c.b.view_is) in
    let bh = back_to c.b.inside.hi _ fbh (ap (λ (r : Range). r.hi) c.b.view_is) in
    cc

pub times-requires-clause-left : goal.times-requires-clause-left
times-requires-clause-left c =
    let fits : FitsSigned w128 c.a.inside.lo = search rules in
    subst (InType c.args.t) (sym (back_to c.a.inside.lo c.args.a.now.lo fits (ap (λ (r : Range). r.lo) c.a.view_is))) c.requires.left.from

pub times-requires-clause-right : goal.times-requires-clause-right
times-requires-clause-right c =
    let fits : FitsSigned w128 c.b.inside.lo = search rules in
    subst (InType c.args.t) (sym (back_to c.b.inside.lo c.args.b.now.lo fits (ap (λ (r : Range). r.lo) c.b.view_is))) c.requires.right.from

pub times-requires-2-clause-left : goal.times-requires-2-clause-left
times-requires-2-clause-left c =
    let fits : FitsSigned w128 c.a.inside.lo = search rules in
    subst (InType c.args.t) (sym (back_to c.a.inside.lo c.args.a.now.lo fits (ap (λ (r : Range). r.lo) c.a.view_is))) c.requires.left.from

pub times-requires-2-clause-right : goal.times-requires-2-clause-right
times-requires-2-clause-right c =
    let fits : FitsSigned w128 c.b.inside.hi = search rules in
    subst (InType c.args.t) (sym (back_to c.b.inside.hi c.args.b.now.hi fits (ap (λ (r : Range). r.hi) c.b.view_is))) c.requires.right.to

pub times-requires-3-clause-left : goal.times-requires-3-clause-left
times-requires-3-clause-left c =
    let fits : FitsSigned w128 c.a.inside.hi = search rules in
    subst (InType c.args.t) (sym (back_to c.a.inside.hi c.args.a.now.hi fits (ap (λ (r : Range). r.hi) c.a.view_is))) c.requires.left.to

pub times-requires-3-clause-right : goal.times-requires-3-clause-right
times-requires-3-clause-right c =
    let fits : FitsSigned w128 c.b.inside.lo = search rules in
    subst (InType c.args.t) (sym (back_to c.b.inside.lo c.args.b.now.lo fits (ap (λ (r : Range). r.lo) c.b.view_is))) c.requires.right.from

pub times-requires-4-clause-left : goal.times-requires-4-clause-left
times-requires-4-clause-left c =
    let fits : FitsSigned w128 c.a.inside.hi = search rules in
    subst (InType c.args.t) (sym (back_to c.a.inside.hi c.args.a.now.hi fits (ap (λ (r : Range). r.hi) c.a.view_is))) c.requires.left.to

pub times-requires-4-clause-right : goal.times-requires-4-clause-right
times-requires-4-clause-right c =
    let fits : FitsSigned w128 c.b.inside.hi = search rules in
    subst (InType c.args.t) (sym (back_to c.b.inside.hi c.args.b.now.hi fits (ap (λ (r : Range). r.hi) c.b.view_is))) c.requires.right.to
