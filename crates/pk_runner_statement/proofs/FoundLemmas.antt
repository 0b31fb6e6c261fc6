-- A way to a mark is never that of a false assumption.
use Rattle.std.proofs.Common.{◌≡◌, ◌<◌, ◌-◌, ℕ, refl, ap, sym, arith, List, [], ◌∷◌, length, get_or, Bool, true, false}
use Rattle.std.specs.Prelude.{if◌then◌else◌}
use Rattle.std.proofs.lemmas.List.{take_all}
use Rattle.pk_typed.specs.Trees.{StatementTree, ItemTrees, no_items, declared_before, statement_before}
use Rattle.pk_typed.specs.Trees as tree
use Rattle.pk_graph.specs.Steps.{Numbers}
use Rattle.pk_meaning.specs.Objects.{Scope}
use Rattle.pk_meaning.specs.Programs.{Program, with_declared}
use Rattle.pk_meaning.specs.Work.{Way, Onward, Refused, Lost, Ahead, Rest, Join, Again, Close, While, DoWhile, For, Do}
use Rattle.pk_meaning.specs.Steps.{Config, Mark, labelled, numbered, otherwise, is_label, is_case, is_default, place, past_switch, for_scope, found, found_in, takes}
use Rattle.pk_runner_state.specs.Shown.{outcome}
use Rattle.pk_runner_statement.proofs.StatementLemmas.{tail}

abbrev pub is_refused : Way → Bool
is_refused (Onward h w) = false
is_refused Refused = true
is_refused Lost = false

picked : (b : Bool) (v w : Way) → is_refused v ≡ false → is_refused w ≡ false → is_refused (if b then v else w) ≡ false
picked true v w e f = e
picked false v w e f = f

passed : (m : Mark) (v w : Way) → is_refused v ≡ false → is_refused w ≡ false → is_refused (past_switch m v w) ≡ false
passed (labelled l) v w e f = e
passed (numbered i) v w e f = f
passed otherwise v w e f = f

mutual
  pub not_refused : (p : Program) (k : ℕ) (m : Mark) (xs : Scope) (t : StatementTree) (a : Ahead) (o : Way) → is_refused o ≡ false → is_refused (found p k m xs t a o) ≡ false
  not_refused p k m xs (tree.block at is) a o h = not_refused_in p k m xs is a o h
  not_refused p k m xs (tree.empty at) a o h = h
  not_refused p k m xs (tree.effect at e) a o h = h
  not_refused p k m xs (tree.label at l s) a o h = picked (is_label m l) (Onward (place at xs) (Do s a)) (found p k m xs s a o) refl (not_refused p k m xs s a o h)
  not_refused p k m xs (tree.case at i s) a o h = picked (is_case m i) (Onward (place at xs) (Do s a)) (found p k m xs s a o) refl (not_refused p k m xs s a o h)
  not_refused p k m xs (tree.default at s) a o h = picked (is_default m) (Onward (place at xs) (Do s a)) (found p k m xs s a o) refl (not_refused p k m xs s a o h)
  not_refused p k m xs (tree.if_then at c s) a o h = not_refused p k m xs s (Join (place at xs) a) o h
  not_refused p k m xs (tree.if_else at c s r) a o h = not_refused p k m xs s (Join (place at xs) a) (found p k m xs r (Join (place at xs) a) o) (not_refused p k m xs r (Join (place at xs) a) o h)
  not_refused p k m xs (tree.switch at t e zs b s) a o h = passed m (found p k m xs s (Close (place at xs) a) o) o (not_refused p k m xs s (Close (place at xs) a) o h) h
  not_refused p k m xs (tree.while at c s) a o h = not_refused p k m xs s (Again (place at xs) (While c s) (place at xs) a) o h
  not_refused p k m xs (tree.do_while at s c) a o h = not_refused p k m xs s (Again (place at xs) (DoWhile s c) (place at xs) a) o h
  not_refused p k m xs (tree.for_loop at f c e s) a o h = not_refused p k m (for_scope p k f xs) s (Again (place at (for_scope p k f xs)) (For c e s) (place at xs) a) o h
  not_refused p k m xs (tree.goto at l) a o h = h
  not_refused p k m xs (tree.continue at) a o h = h
  not_refused p k m xs (tree.break at) a o h = h
  not_refused p k m xs (tree.return at e) a o h = h

  not_refused_in : (p : Program) (k : ℕ) (m : Mark) (xs : Scope) (is : ItemTrees) (a : Ahead) (o : Way) → is_refused o ≡ false → is_refused (found_in p k m xs is a o) ≡ false
  not_refused_in p k m xs no_items a o h = h
  not_refused_in p k m xs (declared_before d is) a o h = not_refused_in p k m (with_declared p k d xs) is a o h
  not_refused_in p k m xs (statement_before s is) a o h = not_refused p k m xs s (Rest xs is a) (found_in p k m xs is a o) (not_refused_in p k m xs is a o h)

-- which values wait doesn't matter on a way but that of a false assumption
pub same_takes : (c : Config) (w : Way) (us vs : Numbers) → is_refused w ≡ false → outcome (takes (record c { values = us }) w vs) (record c { values = us }) ≡ outcome (takes c w vs) c
same_takes c (Onward h w) us vs e = refl
same_takes c Refused us vs e = absurd (cc e)
same_takes c Lost us vs e = refl

pub front : {A : Type 0} (xs : List A) (d : A) → 0 < length xs → xs ≡ get_or xs 0 d ∷ tail xs
front [] d h = absurd (omega (arith, h))
front (y ∷ ys) d h = ap (λ (zs : List _). y ∷ zs) (sym (take_all (length (y ∷ ys) - 1) ys (omega arith)))
