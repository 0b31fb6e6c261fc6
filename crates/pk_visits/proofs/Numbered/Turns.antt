-- Where loops begin again doesn't depend on the names of variables.
use Rattle.std.proofs.Common.{◌≡◌, ℕ, ◌+◌, List, [], ◌∷◌, ◌++◌, length, map, refl, ap, ◌∙◌}
use Rattle.std.specs.Prelude.{Option, Some, None, slice_index_or}
use Rattle.pk_ctypes.specs.declared.places.Pos.{Pos}
use Rattle.pk_typed.specs.Trees.{ValueTree, StatementTree, ItemTrees, BodyTree, FunctionTree, UnitTree}
use Rattle.pk_typed.specs.Trees as tree
use Rattle.pk_calls.specs.declared.listings.Caller.{Caller}
use Rattle.pk_calls.specs.declared.listings.CallPath.{CallPath}
use Rattle.pk_calls.specs.Calls.{body_of, calls_of}
use Rattle.pk_draft.specs.declared.drafts.Region.{Region}
use Rattle.pk_draft.specs.declared.drafts.Size.{Size}
use Rattle.pk_draft.specs.Drafts.{Names, DraftOf, Given, first_draft, region_of, on, at, come, fresh}
use Rattle.pk_lower_row.specs.Contexts.{Context, site}
use Rattle.pk_lower_row.specs.Rows.{operand}
use Rattle.pk_lower_expression.specs.Expressions.{ways}
use Rattle.pk_lower_statement.specs.declared.statements.Exits.{Exits}
use Rattle.pk_lower_statement.specs.Statements as statements
use Rattle.pk_lower_statement.specs.Statements.{inside, in_switch, branching, loop_begun, for_test, lowered}
use Rattle.pk_lower.specs.Parts as parts
use Rattle.pk_visits.specs.Turns.{TurnPoint, turning, turns_in, turns_in_items, turns_of_body, turns_of_part, turns_from, program_turns}
use Rattle.pk_visits.proofs.Numbered.Names.{names_by, draft_by, come_by, fresh_by}
use Rattle.pk_visits.proofs.Numbered.Expressions.{ways_by}
use Rattle.pk_visits.proofs.Numbered.Statements.{declared_by}
use Rattle.pk_visits.proofs.Numbered.Loops.{begun_by, branching_by}
use Rattle.pk_visits.proofs.Numbered.ForLoops.{tested_by, switch_begun_by, for_start_by, for_test_by, lowered_by}
use Rattle.pk_visits.proofs.Numbered.Parts.{part_begun_by, placed_entry_by, part_by}

both : {A : Type 0} {xs ys us vs : List A} → xs ≡ ys → us ≡ vs → xs ++ us ≡ ys ++ vs
both {xs = xs} {vs = vs} a b = ap (λ zs. xs ++ zs) b ∙ ap (λ zs. zs ++ vs) a

one_more : {A : Type 0} {x y : A} {xs ys : List A} → x ≡ y → xs ≡ ys → x ∷ xs ≡ y ∷ ys
one_more {x = x} {ys = ys} a b = ap (λ zs. x ∷ zs) b ∙ ap (λ z. z ∷ ys) a

-- from where a `for` begins again
abbrev for_turns : {W : Type 0} → Pos → Option ValueTree → StatementTree → Exits → (left : ℕ) → Context → DraftOf W → List TurnPoint
for_turns q e s x n c g = turning q g.points ∷ turns_in c s (inside n (g.points + 2) x) (at (g.points + 1) (for_test c e (g.points + 1) n (loop_begun g)))

mutual
  unfolding turns_in turns_in_items

  turns_in_by : (V W : Type 0) (f : V → W) (c : Context) (s : StatementTree) (x : Exits) (d : DraftOf V) → turns_in c s x (draft_by f d) ≡ turns_in c s x d
  turns_in_by V W f c (tree.block q is) x d = turns_in_items_by V W f c is x d
  turns_in_by V W f c (tree.empty q) x d = refl
  turns_in_by V W f c (tree.effect q e) x d = refl
  turns_in_by V W f c (tree.label q l s) x d = ap (turns_in c s x) (come_by f (x.labels + l) (on q d)) ∙ turns_in_by V W f c s x (come (x.labels + l) (on q d))
  turns_in_by V W f c (tree.case q i s) x d = ap (turns_in c s x) (come_by f (x.cases + i) (on q d)) ∙ turns_in_by V W f c s x (come (x.cases + i) (on q d))
  turns_in_by V W f c (tree.default q s) x d = ap (turns_in c s x) (come_by f x.otherwise (on q d)) ∙ turns_in_by V W f c s x (come x.otherwise (on q d))
  turns_in_by V W f c (tree.if_then q e s) x d = ap (turns_in c s x) (branching_by f q (ways c e) (ways c e) (ways_by V W f c e) d) ∙ turns_in_by V W f c s x (branching q (ways c e) d)
  turns_in_by V W f c (tree.if_else q e s r) x d =
      let t = branching q (ways c e) d in
      let same = branching_by f q (ways c e) (ways c e) (ways_by V W f c e) d in
      both (ap (turns_in c s x) same ∙ turns_in_by V W f c s x t)
      (ap (λ (y : DraftOf W). turns_in c r x (at (d.points + 1) (lowered c s x y))) same
      ∙ ap (λ (y : DraftOf W). turns_in c r x (at (d.points + 1) y)) (lowered_by V W f c s x t)
      ∙ turns_in_by V W f c r x (at (d.points + 1) (lowered c s x t)))
  turns_in_by V W f c (tree.switch q t e zs b s) x d =
      let k = statements.tested t (operand e (ways c e)) (on q d) in
      let y = in_switch k.1.points (length zs) x in
      ap (λ (k : Given W). turns_in c s (in_switch k.1.points (length zs) x) (statements.switch_begun (site c q) t zs b k)) (tested_by f t (operand e (ways c e)) (ways c e) (ways_by V W f c e) (on q d))
      ∙ ap (turns_in c s y) (switch_begun_by f (site c q) t zs b k)
      ∙ turns_in_by V W f c s y (statements.switch_begun (site c q) t zs b k)
  turns_in_by V W f c (tree.while q e s) x d =
      let p = d.points in
      let y = inside (p + 2) p x in
      ap (λ ts. turning q p ∷ ts)
      (ap (λ (z : DraftOf W). turns_in c s y (at (p + 1) ((ways c e).choice (p + 1) (p + 2) z))) (begun_by f (on q d))
      ∙ ap (λ (z : DraftOf W). turns_in c s y (at (p + 1) z)) ((ways_by V W f c e).choice (p + 1) (p + 2) (loop_begun (on q d)))
      ∙ turns_in_by V W f c s y (at (p + 1) ((ways c e).choice (p + 1) (p + 2) (loop_begun (on q d)))))
  turns_in_by V W f c (tree.do_while q s e) x d =
      let p = d.points in
      let y = inside (p + 2) (p + 1) x in
      ap (λ ts. turning q p ∷ ts) (ap (λ (z : DraftOf W). turns_in c s y (at p z)) (begun_by f (on q d)) ∙ turns_in_by V W f c s y (at p (loop_begun (on q d))))
  turns_in_by V W f c (tree.for_loop q start e third s) x d =
      let g = on q (statements.for_start c start (fresh 1 (on q d))) in
      let p = g.points in
      let y = inside d.points (p + 2) x in
      ap (λ (z : DraftOf W). for_turns q e s x d.points c (on q (statements.for_start c start z))) (fresh_by f 1 (on q d))
      ∙ ap (λ (z : DraftOf W). for_turns q e s x d.points c (on q z)) (for_start_by V W f c start (fresh 1 (on q d)))
      ∙ ap (λ (z : DraftOf W). turning q p ∷ turns_in c s y (at (p + 1) (for_test c e (p + 1) d.points z))) (begun_by f g)
      ∙ ap (λ (z : DraftOf W). turning q p ∷ turns_in c s y (at (p + 1) z)) (for_test_by V W f c e (p + 1) d.points (loop_begun g))
      ∙ ap (λ ts. turning q p ∷ ts) (turns_in_by V W f c s y (at (p + 1) (for_test c e (p + 1) d.points (loop_begun g))))
  turns_in_by V W f c (tree.goto q l) x d = refl
  turns_in_by V W f c (tree.continue q) x d = refl
  turns_in_by V W f c (tree.break q) x d = refl
  turns_in_by V W f c (tree.return q e) x d = refl

  turns_in_items_by : (V W : Type 0) (f : V → W) (c : Context) (is : ItemTrees) (x : Exits) (d : DraftOf V) → turns_in_items c is x (draft_by f d) ≡ turns_in_items c is x d
  turns_in_items_by V W f c tree.no_items x d = refl
  turns_in_items_by V W f c (tree.declared_before v is) x d = ap (turns_in_items c is x) (declared_by V W f c v d) ∙ turns_in_items_by V W f c is x (statements.declared c v d)
  turns_in_items_by V W f c (tree.statement_before s is) x d =
      both (turns_in_by V W f c s x d) (ap (turns_in_items c is x) (lowered_by V W f c s x d) ∙ turns_in_items_by V W f c is x (lowered c s x d))

turns_of_body_by : (V W : Type 0) (f : V → W) (c : Context) (b : BodyTree) (d : DraftOf V) → turns_of_body c b (draft_by f d) ≡ turns_of_body c b d
turns_of_body_by V W f c b d =
    ap (turns_in_items c b.items (parts.start_exits d.points)) (fresh_by f (b.labels + 1) d) ∙ turns_in_items_by V W f c b.items (parts.start_exits d.points) (fresh (b.labels + 1) d)

turns_of_part_by : (V W : Type 0) (f : V → W) (c : Context) (g : FunctionTree) (b : Option BodyTree) (from : Option Caller) (r : Region) (d : DraftOf V) → turns_of_part c g b from r (draft_by f d) ≡ turns_of_part c g b from r d
turns_of_part_by V W f c g None from r d = refl
turns_of_part_by V W f c g (Some b) from r d =
    let e = parts.begun c g b from r d in
    ap (λ (z : DraftOf W). turns_of_body c b (parts.placed_entry from z)) (part_begun_by V W f c g b from r d)
    ∙ ap (turns_of_body c b) (placed_entry_by f from e)
    ∙ turns_of_body_by V W f c b (parts.placed_entry from e)

pub turns_from_by : (V W : Type 0) (f : V → W) (u : UnitTree) (sizes : List (Option Size)) (k n : ℕ) (ps : List CallPath) (d : DraftOf V) → turns_from u sizes k n ps (draft_by f d) ≡ turns_from u sizes k n ps d
unfolding turns_from
turns_from_by V W f u sizes k n [] d = refl
turns_from_by V W f u sizes k n (p ∷ ps) d =
    let c = parts.context u sizes k n p.function in
    let m = n + length (calls_of u p.function) in
    one_more (turns_of_part_by V W f c (parts.function_at u p.function) (body_of u p.function) p.caller (region_of k d) d)
    (ap (turns_from u sizes (k + 1) m ps) (part_by V W f c p.function p.caller (region_of k d) d) ∙ turns_from_by V W f u sizes (k + 1) m ps (parts.part c p.function p.caller (region_of k d) d))

-- Under renamed names a unit's loops begin again at the same points.
pub program_turns_by : (V W : Type 0) (f : V → W) (names : Names V) (u : UnitTree) (paths : List CallPath) (k : ℕ) → program_turns (names_by f names) u paths k ≡ program_turns names u paths k
program_turns_by V W f names u paths k =
    ap (λ ts. slice_index_or ts k []) (turns_from_by V W f u (parts.sizes_of u paths) 0 1 paths (first_draft names (map parts.file_variable u.objects) (length paths) (parts.whole_size (parts.sizes_of u paths) paths)))
