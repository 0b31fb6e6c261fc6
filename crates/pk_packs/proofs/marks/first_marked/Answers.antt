use Rattle.std.proofs.Common.{◌≡◌, ◌<◌, ◌≤◌, ◌∙◌, ◌++◌, ℕ, Bool, false, List, ap, sym, subst, length, map, slice_index_or, arith}
use Rattle.std.proofs.lemmas.List.{length-map, get_or_default}
use Rattle.pk_graph.specs.Graphs.{no_variable, variable_view}
use Rattle.pk_graph.specs.OctagonVariables.{first_asked}
use Rattle.pk_packs.proofs.FirstLemmas.{found_next, found_same, found_most, found_all, wanted_is}
use Rattle.pk_packs.proofs.marks.first_marked.Goals as goal

here : (marks : List Bool) (k n : ℕ) → length marks ≡ n → k < n → slice_index_or marks k false ≡ slice_index_or marks k (slice_index_or marks k false)
here marks k n e h = get_or_default marks k false (slice_index_or marks k false) (omega (arith, e, h))

pub loop-number-init : goal.loop-number-init
loop-number-init c = λ ps are. ap (λ (xs : List ℕ). xs ++ first_asked ps c.args.most 0 (map variable_view c.args.variables.now)) c.new-list.ensures.items

pub returns-then-left-eq0 : goal.returns-then-left-eq0
returns-then-left-eq0 c = λ ps are.
    found_most ps (map variable_view c.args.variables.now) c.args.most c.loop-number.list.items c.loop-number.left c.loop-number.number
    c.if-left-eq0.true (c.loop-number.invariant ps are)

pub loop-number-preserved-then-not-is_wanted : goal.loop-number-preserved-then-not-is_wanted
loop-number-preserved-then-not-is_wanted c = λ ps are.
    let vs = c.args.variables.now in
    found_same ps (map variable_view vs) c.args.most c.loop-number.list.items c.loop-number.left c.loop-number.number no_variable
    (subst (λ (n : ℕ). c.loop-number.number < n) (sym (length-map vs variable_view)) c.loop-number-test.true)
    (sym (wanted_is ps vs c.args.marks.now c.loop-number.number c.index-variables-number.result _ c.loop-number-test.true are c.index-variables-number.is (here c.args.marks.now c.loop-number.number (length vs) c.requires c.loop-number-test.true))
    ∙ sym c.is_wanted.ensures ∙ c.if-not-is_wanted.true)
    (c.loop-number.invariant ps are)

pub loop-number-preserved : goal.loop-number-preserved
loop-number-preserved c = λ ps are.
    let vs = c.args.variables.now in
    found_next ps (map variable_view vs) c.args.most c.loop-number.list.items c.push.new.self.items c.loop-number.left c.loop-number.number no_variable
    (subst (λ (n : ℕ). c.loop-number.number < n) (sym (length-map vs variable_view)) c.loop-number-test.true)
    c.if-left-eq0.false
    (sym (wanted_is ps vs c.args.marks.now c.loop-number.number c.index-variables-number.result _ c.loop-number-test.true are c.index-variables-number.is (here c.args.marks.now c.loop-number.number (length vs) c.requires c.loop-number-test.true))
    ∙ sym c.is_wanted.ensures ∙ c.if-not-is_wanted.false)
    c.in_ok-push.ensures.items
    (c.loop-number.invariant ps are)

pub returns : goal.returns
returns c = λ ps are.
    let vs = c.args.variables.now in
    found_all ps (map variable_view vs) c.args.most c.loop-number.list.items c.loop-number.left c.loop-number.number
    (subst (λ (n : ℕ). n ≤ c.loop-number.number) (sym (length-map vs variable_view)) c.loop-number-test.false)
    (c.loop-number.invariant ps are)
