use Rattle.std.proofs.Common.{◌+◌, ◌<◌, ◌^◌, length, All, sum, sym, ap, subst, ◌∙◌, arith}
use Rattle.pk_layout.proofs.Lists.{gathered_all}
use Rattle.pk_layout.proofs.Laying.{parts_of, elements_at, fit_at, laid_out_at}
use Rattle.pk_layout.proofs.layouts.Layout.new.Goals as goal

pub counted-requires : goal.counted-requires
counted-requires g c =
    let n = c.args.elements in
    let b = g.Y.System.meaning c.args.system.now in
    subst (All (λ u. u < n)) (sym (c.deref.ensures.value ∙ c.in_ok-reads.ensures.targets)) (gathered_all (λ u. u < n) b.reads n c.requires)

pub give-requires-clause-elements : goal.give-requires-clause-elements
give-requires-clause-elements g c =
    let reads = c.in_ok-reads.ensures in
    let counts = c.in_ok-counts.ensures in
    let parts =
    parts_of (g.Y.System.meaning c.args.system.now) c.args.elements c.deref-2.result.now c.in_ok-first.first.items c.in_ok-reads.reads.from.items c.in_ok-reads.reads.targets.items c.deref.result.now c.in_ok-counts.counts.items
    c.requires reads.targets c.deref.ensures.value c.deref-2.ensures.value counts.long counts.each c.in_ok-first.ensures reads.from in
    elements_at c.deref-3.result.now c.deref-4.result.now parts c.deref-3.ensures.value (c.deref-4.ensures.value ∙ reads.targets)

pub give-requires-clause-fit : goal.give-requires-clause-fit
give-requires-clause-fit g c =
    let reads = c.in_ok-reads.ensures in
    let counts = c.in_ok-counts.ensures in
    let parts =
    parts_of (g.Y.System.meaning c.args.system.now) c.args.elements c.deref-2.result.now c.in_ok-first.first.items c.in_ok-reads.reads.from.items c.in_ok-reads.reads.targets.items c.deref.result.now c.in_ok-counts.counts.items
    c.requires reads.targets c.deref.ensures.value c.deref-2.ensures.value counts.long counts.each c.in_ok-first.ensures reads.from in
    let long = ap length c.deref-2.ensures.value ∙ counts.long in
    let targets = c.in_ok-reads.reads.targets in
    let room : sum c.deref-2.result.now + length c.deref-2.result.now < 2 ^ 64 =
    omega (arith, long, ap sum c.deref-2.ensures.value, counts.all, ap length c.deref.ensures.value, targets.ok.0, targets.ok.1, targets.small, c.ranges.elements.fits) in
    fit_at c.deref-3.result.now c.deref-4.result.now parts c.deref-3.ensures.value (c.deref-4.ensures.value ∙ reads.targets) long room

pub returns : goal.returns
returns g c =
    let reads = c.in_ok-reads.ensures in
    let counts = c.in_ok-counts.ensures in
    let parts =
    parts_of (g.Y.System.meaning c.args.system.now) c.args.elements c.deref-2.result.now c.in_ok-first.first.items c.in_ok-reads.reads.from.items c.in_ok-reads.reads.targets.items c.deref.result.now c.in_ok-counts.counts.items
    c.requires reads.targets c.deref.ensures.value c.deref-2.ensures.value counts.long counts.each c.in_ok-first.ensures reads.from in
    laid_out_at c.deref-3.result.now c.deref-4.result.now c.in_ok-inputs.inputs.items parts c.deref-3.ensures.value (c.deref-4.ensures.value ∙ reads.targets) c.in_ok-inputs.ensures
