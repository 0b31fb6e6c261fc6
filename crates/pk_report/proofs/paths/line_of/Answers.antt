use Rattle.std.proofs.Common.{ap, sym, ◌∙◌, List, ℕ, [], ◌∷◌, ◌++◌, map}
use Rattle.pk_graph.specs.Graphs.{path_view}
use Rattle.pk_report.proofs.PathLemmas.{up_begin, up_next, up_end}
use Rattle.pk_report.proofs.paths.line_of.Goals as goal

pub loop-next-init : goal.loop-next-init
loop-next-init c =
    up_begin (map path_view c.args.paths.now) c.args.path c.push.new.self.items (c.in_ok-push.ensures.items ∙ ap (λ (xs : List ℕ). xs ++ c.args.path ∷ []) c.new-line.ensures.items)

pub loop-next-preserved : goal.loop-next-preserved
loop-next-preserved c =
    up_next (map path_view c.args.paths.now) c.args.path c.loop-next.current c.in-Some.next c.loop-next.line.items c.push-in-Some.new.self.items (sym c.caller.ensures.value ∙ c.in-Some.is) c.in_ok-push-2.ensures.items c.loop-next.invariant

pub returns : goal.returns
returns c =
    up_end (map path_view c.args.paths.now) c.args.path c.loop-next.current c.loop-next.line.items c.reverse.new.self.items (sym c.caller.ensures.value ∙ c.in_default.is) c.reverse.ensures.items c.loop-next.invariant
