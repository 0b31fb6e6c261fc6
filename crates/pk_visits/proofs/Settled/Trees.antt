-- Declarations, marks and jumps in a tree as it is lowered from a draft: each object has the variable that the graph says of it, each mark's point the label that it gets here, each jump its target.
use Rattle.std.specs.Prelude.{◌≡◌, ℕ, ◌+◌, ◌<◌, List, [], ◌∷◌, ◌++◌, length}
use Rattle.pk_typed.specs.Trees.{DeclaredTree, ForStartTree, StatementTree, ItemTrees}
use Rattle.pk_typed.specs.Trees as tree
use Rattle.pk_draft.specs.declared.drafts.Label.{Label}
use Rattle.pk_draft.specs.Drafts.{on, at, come, fresh}
use Rattle.pk_lower_row.specs.Contexts.{Context, site}
use Rattle.pk_lower_row.specs.Rows.{operand}
use Rattle.pk_lower_expression.specs.Expressions.{ways}
use Rattle.pk_lower_statement.specs.declared.statements.Exits.{Exits}
use Rattle.pk_lower_statement.specs.Statements.{inside, in_switch, branching, loop_begun, tested, switch_begun, for_start, for_test, declared, lowered}
use Rattle.pk_welltyped.specs.Marks.{times_in, IsSwitch}
use Rattle.pk_meaning.specs.Steps.{Mark, labelled, numbered, otherwise}
use Rattle.pk_meaning.specs.Work.{Loop, While, DoWhile, For}
use Rattle.pk_visits.specs.Turns.{TurnPoint, turning}
use Rattle.pk_visits.proofs.Slots.{Draft, Among, label_at}

-- what is known in the end of a path: how many objects it declares, the variable of each, the label of each point, where each loop begins again; its items
pub record Final : Type 0 where
  pub items : ItemTrees
  pub objects : ℕ
  pub numbers : ℕ → ℕ
  pub labels : List Label
  pub turns : List TurnPoint

-- these loops begin again where is known
abbrev pub AllTurn : Final → List TurnPoint → Type 0
AllTurn o [] = Unit {0}
AllTurn o (t ∷ ts) = Among t o.turns × AllTurn o ts

pub front_turn : (o : Final) (xs ys : List TurnPoint) → AllTurn o (xs ++ ys) → AllTurn o xs
front_turn o [] ys h = tt
front_turn o (x ∷ xs) ys h = (h.0, front_turn o xs ys h.1)

pub back_turn : (o : Final) (xs ys : List TurnPoint) → AllTurn o (xs ++ ys) → AllTurn o ys
back_turn o [] ys h = h
back_turn o (x ∷ xs) ys h = back_turn o xs ys h.1

-- the point of a mark
abbrev pub mark_point : Mark → Exits → ℕ
mark_point (labelled l) x = x.labels + l
mark_point (numbered i) x = x.cases + i
mark_point otherwise x = x.otherwise

-- point p of a mark is here
abbrev pub IsMarkedAt : Final → ℕ → Draft → Type 0
IsMarkedAt o p d = label_at o.labels p ≡ d.here

-- the next variable is the declared object's
abbrev pub IsNext : Final → ℕ → Draft → Type 0
IsNext o i d = (i < o.objects) × (o.numbers i ≡ d.variables)

abbrev pub IsSettled : Final → DeclaredTree → Draft → Type 0
IsSettled o (tree.scalar_object i q e) d = IsNext o i d
IsSettled o (tree.array_object i q es) d = IsNext o i d
IsSettled o (tree.static_object i q) d = Unit {0}
IsSettled o (tree.hiding_constant x q) d = Unit {0}

unfoldable pub AreAllSettled : Final → Context → List DeclaredTree → Draft → Type 0
AreAllSettled o c [] d = Unit {0}
AreAllSettled o c (v ∷ vs) d = IsSettled o v d × AreAllSettled o c vs (declared c v d)

abbrev pub IsSettledStart : Final → Context → ForStartTree → Draft → Type 0
IsSettledStart o c (tree.declarations ds) d = AreAllSettled o c ds d
IsSettledStart o c (tree.expression e) d = Unit {0}

-- behind the first part of a `for`, whose end is a new point
abbrev pub for_begun : Context → ForStartTree → Draft → Draft
for_begun c start d = for_start c start (fresh 1 d)

unfoldable mutual
  pub Settles : Final → Context → StatementTree → Exits → Draft → Type 0
  Settles o c (tree.block q is) x d = SettleAll o c is x d
  Settles o c (tree.empty q) x d = Unit {0}
  Settles o c (tree.effect q e) x d = Unit {0}
  Settles o c (tree.label q l s) x d = IsMarkedAt o (x.labels + l) (on q d) × Settles o c s x (come (x.labels + l) (on q d))
  Settles o c (tree.case q i s) x d = IsMarkedAt o (x.cases + i) (on q d) × Settles o c s x (come (x.cases + i) (on q d))
  Settles o c (tree.default q s) x d = IsMarkedAt o x.otherwise (on q d) × Settles o c s x (come x.otherwise (on q d))
  Settles o c (tree.if_then q e s) x d = Settles o c s x (branching q (ways c e) d)
  Settles o c (tree.if_else q e s r) x d = Settles o c s x (branching q (ways c e) d) × Settles o c r x (at (d.points + 1) (lowered c s x (branching q (ways c e) d)))
  Settles o c (tree.switch q t e zs b s) x d =
      let k = tested t (operand e (ways c e)) (on q d) in IsSwitch (length zs) b s × Settles o c s (in_switch k.1.points (length zs) x) (switch_begun (site c q) t zs b k)
  Settles o c (tree.while q e s) x d = Among (turning q d.points) o.turns × Settles o c s (inside (d.points + 2) d.points x) (at (d.points + 1) ((ways c e).choice (d.points + 1) (d.points + 2) (loop_begun (on q d))))
  Settles o c (tree.do_while q s e) x d = Among (turning q d.points) o.turns × Settles o c s (inside (d.points + 2) (d.points + 1) x) (at d.points (loop_begun (on q d)))
  Settles o c (tree.for_loop q start e third s) x d =
      let f = on q (for_begun c start (on q d)) in
      IsSettledStart o c start (fresh 1 (on q d))
      × Among (turning q f.points) o.turns
      × Settles o c s (inside d.points (f.points + 2) x) (at (f.points + 1) (for_test c e (f.points + 1) d.points (loop_begun f)))
  Settles o c (tree.goto q l) x d = times_in (labelled l) o.items ≡ 1
  Settles o c (tree.continue q) x d = x.continued ≡ x.left → ⊥
  Settles o c (tree.break q) x d = x.broken ≡ x.left → ⊥
  Settles o c (tree.return q e) x d = Unit {0}

  pub SettleAll : Final → Context → ItemTrees → Exits → Draft → Type 0
  SettleAll o c tree.no_items x d = Unit {0}
  SettleAll o c (tree.declared_before v is) x d = IsSettled o v d × SettleAll o c is x (declared c v d)
  SettleAll o c (tree.statement_before s is) x d = Settles o c s x d × SettleAll o c is x (lowered c s x d)

-- a loop from where it begins again: its body from b, what continues it at m, what is behind it at e
abbrev pub LoopSettles : Final → Context → Loop → Exits → (b m e : ℕ) → Draft → Type 0
LoopSettles o c (While t s) x b m e d = Settles o c s (inside e d.point x) (at b ((ways c t).choice b e d))
LoopSettles o c (DoWhile s t) x b m e d = Settles o c s (inside e m x) (at d.point d)
LoopSettles o c (For t third s) x b m e d = Settles o c s (inside e m x) (at b (for_test c t b e d))
