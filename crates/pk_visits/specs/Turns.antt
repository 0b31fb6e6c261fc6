-- Where the loops of a program begin again in the draft of its graph.
use Rattle.std.specs.Prelude.{ℕ, ◌+◌, List, [], ◌∷◌, ◌++◌, length, map, slice_index_or, Option, Some, None}
use Rattle.pk_ctypes.specs.declared.places.Pos.{Pos}
use Rattle.pk_typed.specs.Trees.{StatementTree, ItemTrees, BodyTree, FunctionTree, UnitTree}
use Rattle.pk_typed.specs.Trees as tree
use Rattle.pk_calls.specs.declared.listings.Caller.{Caller}
use Rattle.pk_calls.specs.declared.listings.CallPath.{CallPath}
use Rattle.pk_calls.specs.Calls.{body_of, calls_of}
use Rattle.pk_draft.specs.declared.drafts.Region.{Region}
use Rattle.pk_draft.specs.declared.drafts.Size.{Size}
use Rattle.pk_draft.specs.Drafts.{Names, DraftOf, first_draft, region_of, on, at, come, fresh}
use Rattle.pk_lower_row.specs.Contexts.{Context, site}
use Rattle.pk_lower_row.specs.Rows.{operand}
use Rattle.pk_lower_expression.specs.Expressions.{ways}
use Rattle.pk_lower_statement.specs.declared.statements.Exits.{Exits}
use Rattle.pk_lower.specs.Parts as parts
use Rattle.pk_lower_statement.specs.Statements.{inside, in_switch, branching, loop_begun, tested, switch_begun, for_start, for_test, declared, lowered}

-- a loop by its place, and the point at which its turns begin
pub record TurnPoint : Type 0 where
  pub at : Pos
  pub point : ℕ

abbrev pub turning : Pos → ℕ → TurnPoint
turning q n = record { at = q; point = n }

-- those of the loops of a statement that is lowered from a draft, in order of text: a `while` or `do` begins again at its first new point, a `for` at the first behind its first part
unfoldable mutual
  pub turns_in : {V : Type 0} → Context → StatementTree → Exits → DraftOf V → List TurnPoint
  turns_in c (tree.block q is) x d = turns_in_items c is x d
  turns_in c (tree.empty q) x d = []
  turns_in c (tree.effect q e) x d = []
  turns_in c (tree.label q l s) x d = turns_in c s x (come (x.labels + l) (on q d))
  turns_in c (tree.case q i s) x d = turns_in c s x (come (x.cases + i) (on q d))
  turns_in c (tree.default q s) x d = turns_in c s x (come x.otherwise (on q d))
  turns_in c (tree.if_then q e s) x d = turns_in c s x (branching q (ways c e) d)
  turns_in c (tree.if_else q e s r) x d =
      turns_in c s x (branching q (ways c e) d)
      ++ turns_in c r x (at (d.points + 1) (lowered c s x (branching q (ways c e) d)))
  turns_in c (tree.switch q t e zs b s) x d =
      let k = tested t (operand e (ways c e)) (on q d) in
      turns_in c s (in_switch k.1.points (length zs) x) (switch_begun (site c q) t zs b k)
  turns_in c (tree.while q e s) x d =
      turning q d.points ∷ turns_in c s (inside (d.points + 2) d.points x)
      (at (d.points + 1) ((ways c e).choice (d.points + 1) (d.points + 2) (loop_begun (on q d))))
  turns_in c (tree.do_while q s e) x d =
      turning q d.points
      ∷ turns_in c s (inside (d.points + 2) (d.points + 1) x) (at d.points (loop_begun (on q d)))
  turns_in c (tree.for_loop q start e third s) x d =
      let f = on q (for_start c start (fresh 1 (on q d))) in
      turning q f.points ∷ turns_in c s (inside d.points (f.points + 2) x)
      (at (f.points + 1) (for_test c e (f.points + 1) d.points (loop_begun f)))
  turns_in c (tree.goto q l) x d = []
  turns_in c (tree.continue q) x d = []
  turns_in c (tree.break q) x d = []
  turns_in c (tree.return q e) x d = []

  pub turns_in_items : {V : Type 0} → Context → ItemTrees → Exits → DraftOf V → List TurnPoint
  turns_in_items c tree.no_items x d = []
  turns_in_items c (tree.declared_before v is) x d = turns_in_items c is x (declared c v d)
  turns_in_items c (tree.statement_before s is) x d = turns_in c s x d ++ turns_in_items c is x (lowered c s x d)

-- those of a body, of a path's part, and of each of the parts from path k on, whose calls lead to paths from n on
abbrev pub turns_of_body : {V : Type 0} → Context → BodyTree → DraftOf V → List TurnPoint
turns_of_body c b d = turns_in_items c b.items (parts.start_exits d.points) (fresh (b.labels + 1) d)

abbrev pub turns_of_part : {V : Type 0} → Context → FunctionTree → Option BodyTree → Option Caller → Region →
    DraftOf V → List TurnPoint
turns_of_part c g None from r d = []
turns_of_part c g (Some b) from r d = turns_of_body c b (parts.placed_entry from (parts.begun c g b from r d))

unfoldable pub turns_from : {V : Type 0} → UnitTree → List (Option Size) → (k n : ℕ) → List CallPath → DraftOf V →
    List (List TurnPoint)
turns_from u sizes k n [] d = []
turns_from u sizes k n (p ∷ ps) d =
    let c = parts.context u sizes k n p.function in
    turns_of_part c (parts.function_at u p.function) (body_of u p.function) p.caller (region_of k d) d
    ∷ turns_from u sizes (k + 1) (n + length (calls_of u p.function)) ps
    (parts.part c p.function p.caller (region_of k d) d)

-- those of a path of a unit
abbrev pub program_turns : {V : Type 0} → Names V → UnitTree → List CallPath → (path : ℕ) → List TurnPoint
program_turns names u paths k =
    let sizes = parts.sizes_of u paths in
    slice_index_or (turns_from u sizes 0 1 paths
    (first_draft names (map parts.file_variable u.objects) (length paths) (parts.whole_size sizes paths))) k []
