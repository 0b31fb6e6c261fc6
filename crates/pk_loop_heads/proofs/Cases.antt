-- Loops into which something jumps, and loops into which nothing does, whatever they test and compute.
use Rattle.std.proofs.Common.{[], ◌∷◌, false, refl, inl, None, arith}
use Rattle.std.specs.Prelude.{pos}
use Rattle.pk_ctypes.specs.declared.places.Pos.{Pos}
use Rattle.pk_ctypes.specs.declared.types.IntType.TheVariants.{Int}
use Rattle.pk_typed.specs.Trees.{ValueTree, EffectTree, StatementTree, ItemTrees, no_items}
use Rattle.pk_typed.specs.Trees as tree
use Rattle.pk_welltyped.specs.Marks.{times, times_in}
use Rattle.pk_edge_laws.specs.Jumps.{gotos, gotos_in}
use Rattle.pk_loop_heads.specs.Loops.{IsClosed, HasLoop, HasLoopIn}

abbrev then : StatementTree → ItemTrees → ItemTrees
then s is = tree.statement_before s is

-- while (v) { e; if (v) goto L; e; L: ; } return;
abbrev skipping : Pos → ValueTree → EffectTree → StatementTree
skipping p v e = tree.block p (then (tree.effect p e) (then (tree.if_then p v (tree.goto p 0)) (then (tree.effect p e) (then (tree.label p 0 (tree.empty p)) no_items))))

abbrev skips : Pos → ValueTree → EffectTree → ItemTrees
skips p v e = then (tree.while p v (skipping p v e)) (then (tree.return p None) no_items)

skipping_stands : (p : Pos) (v : ValueTree) (e : EffectTree) → HasLoopIn p (skipping p v e) (skips p v e)
unfolding HasLoop HasLoopIn
skipping_stands p v e = inl (inl (refl, refl))

skipping_is_closed : (p : Pos) (v : ValueTree) (e : EffectTree) → IsClosed (skips p v e) (skipping p v e)
unfolding times times_in gotos gotos_in
skipping_is_closed p v e = record { labels = λ l some. omega arith; no_case = record { cases = λ i. refl; default = refl } }

-- goto M; while (v) { e; goto N; while (v) { M: e; continue; N: break; } } return;
abbrev inner : Pos → ValueTree → EffectTree → StatementTree
inner p v e = tree.block p (then (tree.label p 0 (tree.effect p e)) (then (tree.continue p) (then (tree.label p 1 (tree.break p)) no_items)))

abbrev outer : Pos → ValueTree → EffectTree → StatementTree
outer p v e = tree.block p (then (tree.effect p e) (then (tree.goto p 1) (then (tree.while p v (inner p v e)) no_items)))

abbrev enters : Pos → ValueTree → EffectTree → ItemTrees
enters p v e = then (tree.goto p 0) (then (tree.while p v (outer p v e)) (then (tree.return p None) no_items))

outer_is_open : (p : Pos) (v : ValueTree) (e : EffectTree) → IsClosed (enters p v e) (outer p v e) → ⊥
unfolding times times_in gotos gotos_in
outer_is_open p v e c = let same = c.labels 0 (λ none. absurd (omega (arith, none))) in absurd (omega (arith, same))

inner_is_open : (p : Pos) (v : ValueTree) (e : EffectTree) → IsClosed (enters p v e) (inner p v e) → ⊥
unfolding times times_in gotos gotos_in
inner_is_open p v e c = let same = c.labels 1 (λ none. absurd (omega (arith, none))) in absurd (omega (arith, same))

-- while (v) switch (v) { case 7: e; } return;
abbrev choosing : Pos → ValueTree → EffectTree → StatementTree
choosing p v e = tree.switch p Int v (pos 7 ∷ []) false (tree.case p 0 (tree.effect p e))

abbrev chooses : Pos → ValueTree → EffectTree → ItemTrees
chooses p v e = then (tree.while p v (choosing p v e)) (then (tree.return p None) no_items)

choosing_is_closed : (p : Pos) (v : ValueTree) (e : EffectTree) → IsClosed (chooses p v e) (choosing p v e)
unfolding times times_in gotos gotos_in
choosing_is_closed p v e = record { labels = λ l some. refl; no_case = record { cases = λ i. refl; default = refl } }

-- switch (v) { case 7: while (v) { case 8: e; } } return;
abbrev chosen : Pos → EffectTree → StatementTree
chosen p e = tree.block p (then (tree.case p 1 (tree.effect p e)) no_items)

abbrev jumps : Pos → ValueTree → EffectTree → ItemTrees
jumps p v e = then (tree.switch p Int v (pos 7 ∷ pos 8 ∷ []) false (tree.case p 0 (tree.while p v (chosen p e)))) (then (tree.return p None) no_items)

chosen_is_open : (p : Pos) (v : ValueTree) (e : EffectTree) → IsClosed (jumps p v e) (chosen p e) → ⊥
unfolding times times_in gotos gotos_in
chosen_is_open p v e c = let none = c.no_case.cases 1 in absurd (omega (arith, none))
