use Rattle.std.proofs.Common.{◌<◌, ℕ, List, [], length, ap, sym, ◌∙◌, arith}
use Rattle.std.specs.Global.{Vec}
use Rattle.std.proofs.lemmas.List.{length-map, get_or-map}
use Rattle.pk_analysis.specs.Arrows.{rows_of}
use Rattle.pk_analysis.specs.Parts.{part_at}
use Rattle.pk_analysis.specs.Flows.{Flow, equations_of}
use Rattle.pk_phases.specs.Equations.{reads_in}
use Rattle.pk_analysis.proofs.FlowLemmas.{reads_there, reads_past}
use Rattle.pk_analysis.proofs.flow.FlowEquate.reads.Goals as goal

pub returns-then-e-len : goal.returns-then-e-len
returns-then-e-len c =
    let f = c.self.inside in
    let a : Flow = record { graph = f.graph.now; layout = f.frame.now; thresholds = f.thresholds.items; parts = f.parts.items; delay = f.delay; narrow = f.narrow } in
    let kept = length-map f.reads.items (λ (v : Vec ℕ). v.items) in
    reads_past a (rows_of f.arrows.items) (rows_of f.reads.items) c.args.e c.well_made.ensures c.self.invariant.reads_are c.self.invariant.enough (omega (arith, kept, c.len.ensures, c.if-e-len.true))
    ∙ ap (λ (b : Flow). reads_in (equations_of b) c.args.e (part_at b.parts c.args.e)) c.self.view_is

pub returns : goal.returns
returns c =
    let f = c.self.inside in
    let a : Flow = record { graph = f.graph.now; layout = f.frame.now; thresholds = f.thresholds.items; parts = f.parts.items; delay = f.delay; narrow = f.narrow } in
    let items : Vec ℕ → List ℕ = λ v. v.items in
    let kept = length-map f.reads.items items in
    let below : c.args.e < length f.reads.items = omega (arith, c.len.ensures, c.if-e-len.false) in
    c.as_slice.ensures.value ∙ ap items c.index.ensures ∙ sym (get_or-map items f.reads.items c.args.e c.index.result.now [] below)
    ∙ reads_there a (rows_of f.arrows.items) (rows_of f.reads.items) c.args.e c.well_made.ensures c.self.invariant.arrows_are c.self.invariant.reads_are (omega (arith, kept, below))
    ∙ ap (λ (b : Flow). reads_in (equations_of b) c.args.e (part_at b.parts c.args.e)) c.self.view_is
