use Rattle.std.proofs.Common.{◌≡◌, ap, sym, ◌∙◌, map, List, ℕ, ◌++◌, false, Option, refl, slice_index_or}
use Rattle.pk_graph.specs.declared.graphs.Entry.{Entry}
use Rattle.pk_graph.specs.Graphs.{VariableOf, variable_view}
use Rattle.pk_graph.specs.Named.{names_view}
use Rattle.pk_graph.specs.Visible.{Names, with_name, is_shown, name_at, not_hidden}
use Rattle.pk_graph.proofs.VisibleLemmas.{shown_next, hidden_next, all_shown}
use Rattle.pk_graph.proofs.visibility.not_hidden.Goals as goal
use Rattle.pk_graph.proofs.visibility.not_hidden.Goals.{then-is_shown+in_ok-push, else-is_shown}

abbrev first : Entry
first = record { variable = 0; hides = false }

pub loop-number-init : goal.loop-number-init
loop-number-init c =
    ap (λ (xs : List ℕ). xs ++ not_hidden (map variable_view c.args.variables.now) (names_view c.new-names.result) c.args.scope.now) c.new-list.ensures.items
    ∙ ap (λ (has : Names). not_hidden (map variable_view c.args.variables.now) has c.args.scope.now) c.new-names.ensures

pub loop-number-preserved : goal.loop-number-preserved
loop-number-preserved c =
    let vs : List VariableOf = map variable_view c.args.variables.now in
    let e : Entry = slice_index_or c.args.scope.now c.loop-number.number first in
    let has : Names = names_view c.loop-number.names in
    let more : names_view c.add.new.self ≡ with_name (name_at vs e.variable) has =
    c.in_ok-add.ensures ∙ ap (λ (m : Option (List ℕ)). with_name m has) c.name_of-name.ensures in
    let tested : is_shown (name_at vs e.variable) e.hides has ≡ c.is_shown.result =
    ap (λ (m : Option (List ℕ)). is_shown m e.hides has) (sym c.name_of-name.ensures) ∙ sym c.is_shown.ensures in
    elim c.if-is_shown.branch [
      | then-is_shown+in_ok-push w ↦
          shown_next vs c.args.scope.now c.loop-number.number e first has (names_view c.add.new.self) c.loop-number.list.items c.if-is_shown.list.items c.loop-number-test.true refl
          (tested ∙ w.if-is_shown.true) (ap (λ (v : _). v.items) w.list-is ∙ w.in_ok-push.ensures.items) more c.loop-number.invariant
      | else-is_shown w ↦
          hidden_next vs c.args.scope.now c.loop-number.number e first has (names_view c.add.new.self) c.loop-number.list.items c.if-is_shown.list.items c.loop-number-test.true refl
          (tested ∙ w.if-is_shown.false) (ap (λ (v : _). v.items) w.list-is) more c.loop-number.invariant
    ]

pub returns : goal.returns
returns c = all_shown (map variable_view c.args.variables.now) c.args.scope.now c.loop-number.number (names_view c.loop-number.names) c.loop-number.list.items c.loop-number-test.false c.loop-number.invariant
