-- What a path's body declares is settled in the whole graph, where its objects have their variables in the end.
use Rattle.std.proofs.Common.{◌≡◌, ℕ, ◌+◌, ◌<◌, ◌≤◌, inl, List, [], ◌∷◌, length, ap, sym, subst, ◌∙◌, arith}
use Rattle.pk_ctypes.specs.declared.types.IntType.{IntType}
use Rattle.pk_typed.specs.Trees.{BodyTree, LocalTree}
use Rattle.pk_welltyped.specs.Listed.{calls_in_items, objects_in_items}
use Rattle.pk_welltyped.specs.WellTyped.{AreParameters, AreItems}
use Rattle.pk_welltyped.specs.Marks.{IsMarked}
use Rattle.pk_draft.specs.Drafts.{DraftOf}
use Rattle.pk_lower_row.specs.Contexts.{Context}
use Rattle.pk_lower_statement.specs.Statements.{lowered_items}
use Rattle.pk_meaning.specs.Programs.{block_of}
use Rattle.pk_meaning.specs.Work.{Place}
use Rattle.pk_lower_laws.proofs.Drafts.Plans.{World, Draft, Lasting, replicated, body_at_is}
use Rattle.pk_visits.specs.Turns.{turns_in_items}
use Rattle.pk_visits.proofs.Slots.{Slot, label_at, object_at}
use Rattle.pk_visits.proofs.Settled.Trees.{AllTurn, SettleAll}
use Rattle.pk_visits.proofs.Settled.Bodies.{settled_function}
use Rattle.pk_visits.proofs.Stands.{Whole, context_of, final, around, Stage}
use Rattle.pk_visits_laws.proofs.Followed.Basics.{either_is}
use Rattle.pk_visits_laws.proofs.Followed.PartAdds.{context_at, body_begun, body_exit, body_ended}
use Rattle.pk_visits_laws.proofs.Followed.Pending.{PathAt, turns_at}
use Rattle.pk_visits_laws.proofs.Followed.Bodies.{part_closes}
use Rattle.pk_visits_laws.proofs.Followed.BodyStages.{IsWholeOf, begun_grows, body_stage}
use Rattle.pk_visits_laws.proofs.Followed.BodyEnds.{own_label, exit_is, items_grow}
use Rattle.pk_visits_laws.proofs.Followed.BodiesStand.{exits_of, marks_of}

-- parameters are objects
few : (ts : List IntType) (xs : List LocalTree) → AreParameters ts xs → length ts ≤ length xs
few [] xs h = omega arith
few (t ∷ ts) [] h = absurd h
few (t ∷ ts) (x ∷ xs) h = let z = few ts xs h.2 in omega (z, arith)

pub body_settled : (W : World) (l : Lasting W) (f : W.table.Variable → Slot) (d : Draft W) (g : Whole) → IsWholeOf W f d g → g.program.unit ≡ W.unit → (k : ℕ) (q : PathAt W f d k) → k < length W.paths → (h : Place) → g.shows (body_begun W f k q.first q.path q.place q.before).here k h
    → IsMarked q.place.body
    → ((i : ℕ) → length q.place.function.parameters ≤ i → i < length q.place.function.parameters + objects_in_items q.place.body.items → (i < g.objects k) × (g.numbers k i ≡ object_at (body_ended W f k q.first q.path q.place q.before).objects i))
    → AllTurn (final g k) (turns_at W f d k q)
    → SettleAll (final g k) (context_of g k) (block_of g.program k).items (exits_of W f d k q) (body_begun W f k q.first q.path q.place q.before)
body_settled W l f d g is unit k q there h here marked objects turns =
    subst (λ (y : BodyTree). SettleAll (final g k) (context_of g k) y.items x o) (sym (is.blocks k q))
    (settled_function g k h x n q.place.function.returns b o fits marked (is.blocks k q) stage (omega arith) (omega arith) (subst (λ (y : BodyTree). n ≤ length y.locals) (sym (is.blocks k q)) (few q.place.function.parameters b.locals q.place.is_body.parameters))
    (subst (λ (y : BodyTree). length y.locals ≤ length o.objects) (sym (is.blocks k q)) (omega (slots, arith)))
    (λ i from to. subst (λ (y : Context). (i < g.objects k) × (g.numbers k i ≡ object_at (lowered_items y b.items x o).objects i)) (sym (is.contexts k q)) (objects i from to))
    (λ i low. subst (λ (y : Context). label_at g.labels (p + 1 + i) ≡ label_at (lowered_items y b.items x o).labels (p + 1 + i)) (sym (is.contexts k q)) (labelled i low))
    (subst (λ (y : Context). AllTurn (final g k) (turns_in_items y b.items x o)) (sym (is.contexts k q)) turns)) where
      o : DraftOf Slot
      o = body_begun W f k q.first q.path q.place q.before

      x : Rattle.pk_lower_statement.specs.declared.statements.Exits.Exits
      x = exits_of W f d k q

      p : ℕ
      p = body_exit W f k q.first q.path q.place q.before

      b : BodyTree
      b = q.place.body

      n : ℕ
      n = length q.place.function.parameters

      fits : AreItems (around g k n) (marks_of W f d k q) b.items
      fits = subst (λ u. AreItems (record { unit = u; locals = (block_of g.program k).locals; objects = n }) (marks_of W f d k q) b.items) (sym unit)
          (subst (λ (y : BodyTree). AreItems (record { unit = W.unit; locals = y.locals; objects = n }) (marks_of W f d k q) b.items) (sym (is.blocks k q)) q.place.is_body.items)

      stage : Stage g k h (calls_in_items b.items) o (lowered_items (context_of g k) b.items x o)
      stage = subst (λ (y : Context). Stage g k h (calls_in_items b.items) o (lowered_items y b.items x o)) (sym (is.contexts k q)) (body_stage W l f d g is k q there h here)

      locals : (context_at W k q.first q.path).locals ≡ b.locals
      locals = ap (λ (y : BodyTree). y.locals) (body_at_is W.unit q.path.function q.place.function b q.place.there q.place.has)

      slots : length o.objects ≡ length b.locals + 1
      slots = (begun_grows W f k q.first q.path q.place q.before).slots ∙ (replicated (length (context_at W k q.first q.path).locals + 1) 0 ∙ ap (λ (xs : List LocalTree). length xs + 1) locals)

      labelled : (i : ℕ) → i < b.labels → label_at g.labels (p + 1 + i) ≡ label_at (body_ended W f k q.first q.path q.place q.before).labels (p + 1 + i)
      labelled i low =
          let exit = exit_is W f k q.first q.path q.place q.before in
          let up = (items_grow W f k q.first q.path q.place q.before).points in
          own_label W l f d g is.graph k q (p + 1 + i) (inl (omega (exit, arith), omega (low, arith))) (omega arith)
          ∙ either_is ((part_closes W f k q.first q.path q.place q.before).labels (p + 1 + i) (omega (low, up, arith))) (λ a. a)
