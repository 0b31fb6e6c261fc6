use Rattle.std.proofs.Common.{◌-◌, ap, refl, List, false, ◌++◌, slice_index_or, arith}
use Rattle.pk_graph.specs.declared.graphs.Entry.{Entry}
use Rattle.pk_graph.specs.declared.graphs.Scope.{Scope}
use Rattle.pk_graph.specs.Graphs.{scope_at}
use Rattle.pk_graph.proofs.ScopeLemmas.{inner_left, outer_left, none_left, past_left}
use Rattle.pk_graph.proofs.graphs.in_scope.Goals as goal
use Rattle.pk_graph.proofs.graphs.in_scope.Goals.{then-loop-left-test+else-left-scopes, else-loop-left-test}

abbrev first : Scope
first = record { entry = record { variable = 0; hides = false }; outer = 0 }

pub loop-left-init : goal.loop-left-init
loop-left-init c = ap (λ (xs : List Entry). xs ++ scope_at c.args.scopes.now c.args.place) c.new-list.ensures.items

pub loop-left-preserved-then-scope-left : goal.loop-left-preserved-then-scope-left
loop-left-preserved-then-scope-left c =
    inner_left c.args.scopes.now c.args.place c.loop-left.left (slice_index_or c.args.scopes.now (c.loop-left.left - 1) first) first c.loop-left.list.items c.push.new.self.items
    c.loop-left-test.true c.if-left-scopes.true refl c.if-scope-left.true c.in_ok-push.ensures.items c.loop-left.invariant

pub loop-left-preserved : goal.loop-left-preserved
loop-left-preserved c =
    outer_left c.args.scopes.now c.args.place c.loop-left.left (slice_index_or c.args.scopes.now (c.loop-left.left - 1) first) first c.loop-left.list.items c.push.new.self.items
    c.loop-left-test.true c.if-left-scopes.true refl c.if-scope-left.false c.in_ok-push.ensures.items c.loop-left.invariant

pub returns : goal.returns
returns c =
    elim c.loop-left-test.branch [
      | then-loop-left-test+else-left-scopes w ↦ past_left c.args.scopes.now c.args.place c.loop-left.left c.loop-left.list.items w.if-left-scopes.false c.loop-left.invariant
      | else-loop-left-test w ↦ none_left c.args.scopes.now c.args.place c.loop-left.left c.loop-left.list.items (omega (arith, w.loop-left-test.false)) c.loop-left.invariant
    ]
