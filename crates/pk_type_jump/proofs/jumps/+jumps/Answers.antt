use Rattle.std.proofs.Common.{◌≤◌, ◌∙◌, ap, sym, subst, false, List, ℕ, length, take, option_map}
use Rattle.pk_ast.specs.Trees.{for_loop}
use Rattle.pk_ast.specs.Views.{expression_tree, statement_tree, for_start_tree}
use Rattle.pk_type_jump.specs.Jumps.{Around, jumped, looped, with_default_flag}
use Rattle.pk_type_jump.specs.Views.{labels_in, around_of, jumped_in}
use Rattle.pk_type_jump.proofs.ItemLemmas.{next, at_end}
use Rattle.pk_type_jump.proofs.JumpLemmas.{after_declaration, after_statement, at_last, in_switch, in_for, longer, kept}
use Rattle.pk_type_jump.proofs.jumps.+jumps.Goals as goal
use Rattle.pk_type_jump.proofs.jumps.+jumps.Goals.{items-in-Declaration+in_ok-here-in-Declaration, items-in-Statement+in_ok-statement-in-Statement}

pub items-loop-item-preserved : goal.items-loop-item-preserved
items-loop-item-preserved t c =
    let i = c.loop-item.invariant in
    let item = next c.args.list.now c.loop-item.item-index c.item-item.result in
    elim c.match-item.branch [
      | items-in-Declaration+in_ok-here-in-Declaration w ↦
          let e = w.in_ok-here-in-Declaration.ensures in
          let s = ap (λ j. j.scopes.items) w.jumps-is ∙ e.scopes in
          record {
            left = after_declaration c.args.text.now (labels_in c.args.labels.now) _ _ _ _ _ _ _ _ _ (item _ c.loop-item-test.true c.item-item.is w.in-Declaration.is)
                (ap (λ j. around_of j.scopes.items c.match-item.here) w.jumps-is ∙ (ap (around_of w.enter.new.self.scopes.items) w.here-is ∙ e.around)) (ap jumped_in w.jumps-is ∙ e.jumped) i.left;
            longer = longer _ _ _ _ s i.longer;
            kept = kept _ _ _ _ _ s i.longer i.kept;
          }
      | items-in-Statement+in_ok-statement-in-Statement w ↦
          let e = w.in_ok-statement-in-Statement.ensures in
          let s = ap (λ j. j.scopes.items) w.jumps-is ∙ e.scopes in
          record {
            left = after_statement c.args.text.now (labels_in c.args.labels.now) _ _ _ _ _ _ _ _ (item _ c.loop-item-test.true c.item-item.is w.in-Statement.is)
                (ap (λ xs. around_of xs c.match-item.here) s ∙ ap (around_of c.loop-item.jumps.scopes.items) w.here-is) (ap jumped_in w.jumps-is ∙ e.jumped) i.left;
            longer = let P : List ℕ → Type 0 = λ xs. length c.args.jumps.now.scopes.items ≤ length xs in subst P (sym s) i.longer;
            kept = ap (take (length c.args.jumps.now.scopes.items)) s ∙ i.kept;
          }
    ]

pub items-returns-clause-jumped : goal.items-returns-clause-jumped
items-returns-clause-jumped t c =
    c.leave.ensures.jumped ∙ at_last c.args.text.now (labels_in c.args.labels.now) _ _ _ _ (at_end c.args.list.now c.loop-item.item-index c.loop-item-test.false) c.loop-item.invariant.left

pub statement-returns-in_ok-statement-in-Switch-clause-jumped :
    goal.statement-returns-in_ok-statement-in-Switch-clause-jumped
unfolding statement_tree
statement-returns-in_ok-statement-in-Switch-clause-jumped t c =
    let a : Around = around_of c.args.jumps.now.scopes.items c.args.here in
    in_switch c.args.text.now (labels_in c.args.labels.now) a _ (jumped_in c.args.jumps.now) (jumped_in c.statement-in-Switch.new.jumps) _ _ _ _ (ap statement_tree c.in-Switch.is)
    (ap (around_of c.args.jumps.now.scopes.items) c.switched.ensures)
    (c.in_ok-statement-in-Switch.ensures.jumped
    ∙ ap (λ s. jumped c.args.text.now (labels_in c.args.labels.now) (around_of c.args.jumps.now.scopes.items c.switched.result) (with_default_flag false (jumped_in c.args.jumps.now)) (statement_tree s)) c.deref-in-Switch.ensures)

pub statement-returns-in_ok-statement-in-Declaration-clause-jumped :
    goal.statement-returns-in_ok-statement-in-Declaration-clause-jumped
unfolding statement_tree for_start_tree
statement-returns-in_ok-statement-in-Declaration-clause-jumped t c =
    let h = c.in-For.head.value in
    let inner = c.in_ok-inner-in-Declaration.ensures in
    let start = ap (λ x. x.start) (sym c.deref-in-For.ensures) ∙ c.in-Declaration.is in
    c.leave.ensures.jumped
    ∙ in_for c.args.text.now (labels_in c.args.labels.now) (around_of c.args.jumps.now.scopes.items c.args.here) _ (jumped_in c.args.jumps.now) (jumped_in c.enter.new.self) (jumped_in c.statement-in-Declaration.new.jumps) _ _ _ _ _ _
    (ap statement_tree c.in-For.is ∙ ap (λ x. for_loop c.in-For.field-0 (for_start_tree x) (option_map expression_tree h.condition) (option_map expression_tree h.step) (statement_tree c.in-For.body.value)) start)
    (ap (around_of c.enter.new.self.scopes.items) c.looped-in-Declaration.ensures ∙ ap looped inner.around) inner.jumped
    (c.in_ok-statement-in-Declaration.ensures.jumped
    ∙ ap (λ s. jumped c.args.text.now (labels_in c.args.labels.now) (around_of c.enter.new.self.scopes.items c.looped-in-Declaration.result) (jumped_in c.enter.new.self) (statement_tree s)) c.deref-in-Declaration.ensures)
