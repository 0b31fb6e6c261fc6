use Rattle.std.proofs.Common.{◌<◌, ◌≤◌, ◌∙◌, ◌++◌, ℕ, List, ap, sym, subst, length, map}
use Rattle.std.proofs.lemmas.List.{length-map}
use Rattle.pk_graph.specs.Graphs.{VariableOf, no_variable, variable_view}
use Rattle.pk_graph.specs.OctagonVariables.{first_asked, AreMarks}
use Rattle.pk_graph.specs.Shown.{graph_view}
use Rattle.pk_graph.proofs.FirstLemmas.{found_next, found_same, found_most, found_all, wanted_is}
use Rattle.pk_graph.proofs.octagons.octagon_variables.Goals as goal

pub loop-number-init : goal.loop-number-init
loop-number-init c = ap (λ (xs : List ℕ). xs ++ first_asked (graph_view c.args.graph.now).points c.args.most 0 (map variable_view c.variables-variables.result.now)) c.new-list.ensures.items

pub returns-then-left-eq0 : goal.returns-then-left-eq0
returns-then-left-eq0 c =
    found_most (graph_view c.args.graph.now).points (map variable_view c.variables-variables.result.now) c.args.most c.loop-number.list.items c.loop-number.left c.loop-number.number
    c.if-left-eq0.true c.loop-number.invariant
    ∙ ap (λ (vs : List VariableOf). first_asked (graph_view c.args.graph.now).points c.args.most 0 vs) c.variables-variables.ensures

pub loop-number-preserved-then-not-is_wanted : goal.loop-number-preserved-then-not-is_wanted
loop-number-preserved-then-not-is_wanted c =
    let ps = (graph_view c.args.graph.now).points in
    let vs = c.variables-variables.result.now in
    let marks = subst (λ (n : ℕ). AreMarks ps n c.in_ok-marks.marks.items) (sym (ap (λ (xs : List VariableOf). length xs) c.variables-variables.ensures)) c.in_ok-marks.ensures in
    found_same ps (map variable_view vs) c.args.most c.loop-number.list.items c.loop-number.left c.loop-number.number no_variable
    (subst (λ (n : ℕ). c.loop-number.number < n) (sym (length-map vs variable_view)) c.loop-number-test.true)
    (sym (wanted_is ps vs c.in_ok-marks.marks.items c.loop-number.number c.index-variables-number.result c.index.result.now c.loop-number-test.true marks c.index-variables-number.is c.index.ensures)
    ∙ sym c.is_wanted.ensures ∙ c.if-not-is_wanted.true)
    c.loop-number.invariant

pub loop-number-preserved : goal.loop-number-preserved
loop-number-preserved c =
    let ps = (graph_view c.args.graph.now).points in
    let vs = c.variables-variables.result.now in
    let marks = subst (λ (n : ℕ). AreMarks ps n c.in_ok-marks.marks.items) (sym (ap (λ (xs : List VariableOf). length xs) c.variables-variables.ensures)) c.in_ok-marks.ensures in
    found_next ps (map variable_view vs) c.args.most c.loop-number.list.items c.push.new.self.items c.loop-number.left c.loop-number.number no_variable
    (subst (λ (n : ℕ). c.loop-number.number < n) (sym (length-map vs variable_view)) c.loop-number-test.true)
    c.if-left-eq0.false
    (sym (wanted_is ps vs c.in_ok-marks.marks.items c.loop-number.number c.index-variables-number.result c.index.result.now c.loop-number-test.true marks c.index-variables-number.is c.index.ensures)
    ∙ sym c.is_wanted.ensures ∙ c.if-not-is_wanted.false)
    c.in_ok-push.ensures.items
    c.loop-number.invariant

pub returns : goal.returns
returns c =
    let vs = c.variables-variables.result.now in
    found_all (graph_view c.args.graph.now).points (map variable_view vs) c.args.most c.loop-number.list.items c.loop-number.left c.loop-number.number
    (subst (λ (n : ℕ). n ≤ c.loop-number.number) (sym (length-map vs variable_view)) c.loop-number-test.false)
    c.loop-number.invariant
    ∙ ap (λ (xs : List VariableOf). first_asked (graph_view c.args.graph.now).points c.args.most 0 xs) c.variables-variables.ensures
