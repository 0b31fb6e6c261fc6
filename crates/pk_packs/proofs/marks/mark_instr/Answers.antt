use Rattle.std.proofs.Common.{refl, false}
use Rattle.pk_graph.specs.Views.{instr_view}
use Rattle.pk_graph.specs.OctagonVariables.{is_asked_by}
use Rattle.pk_packs.proofs.MarkLemmas.{marked_none}
use Rattle.pk_packs.proofs.marks.mark_instr.Goals as goal

pub returns-in-Skip : goal.returns-in-Skip
unfolding instr_view is_asked_by
returns-in-Skip c = rw c.in-Skip.is (marked_none (λ x. false) c.args.marks.now (λ x. refl))

pub returns-in-Set : goal.returns-in-Set
unfolding instr_view is_asked_by
returns-in-Set c = rw c.in-Set.is (marked_none (λ x. false) c.args.marks.now (λ x. refl))

pub returns-in-Havoc : goal.returns-in-Havoc
unfolding instr_view is_asked_by
returns-in-Havoc c = rw c.in-Havoc.is (marked_none (λ x. false) c.args.marks.now (λ x. refl))

pub returns-in-Clear : goal.returns-in-Clear
unfolding instr_view is_asked_by
returns-in-Clear c = rw c.in-Clear.is (marked_none (λ x. false) c.args.marks.now (λ x. refl))

pub returns-in-Load : goal.returns-in-Load
unfolding instr_view is_asked_by
returns-in-Load c = rw c.in-Load.is c.mark_tree.ensures

pub returns-in-Store : goal.returns-in-Store
unfolding instr_view is_asked_by
returns-in-Store c = rw c.in-Store.is c.mark_tree-in-Store.ensures

pub returns-in-Guard : goal.returns-in-Guard
unfolding instr_view is_asked_by
returns-in-Guard c = rw c.in-Guard.is c.mark_tree-in-Guard.ensures

pub returns-in-Check : goal.returns-in-Check
unfolding instr_view is_asked_by
returns-in-Check c = rw c.in-Check.is c.mark_tree-in-Check.ensures
