-- Where the loops of a path begin again counts at a place as the loops of its function's body do.
use Rattle.std.specs.Prelude.{◌≡◌, ℕ, zero, suc, ◌+◌, ◌<◌, ◌≤◌, nat_eq, ◌&&◌, Bool, if◌then◌else◌, List, [], ◌∷◌, ◌++◌, length, map, slice_get, slice_index_or, All, IfSome, Option, Some, None}
use Rattle.std.specs.Option.{option_and_then}
use Rattle.std.proofs.Common.{arith, refl, sym, ap, ◌∙◌}
use Rattle.std.proofs.lemmas.Bool.{eq-eqb}
use Rattle.std.proofs.lemmas.List.Elements.{All-head, All-tail}
use Rattle.pk_ctypes.specs.declared.places.Pos.{Pos}
use Rattle.pk_typed.specs.Trees as tree
use Rattle.pk_typed.specs.Trees.{StatementTree, ItemTrees, BodyTree, FunctionTree, UnitTree}
use Rattle.pk_calls.specs.declared.listings.Caller.{Caller}
use Rattle.pk_calls.specs.declared.listings.CallPath.{CallPath}
use Rattle.pk_calls.specs.Calls.{body_of, calls_of}
use Rattle.pk_draft.specs.declared.drafts.Region.{Region}
use Rattle.pk_draft.specs.declared.drafts.Size.{Size}
use Rattle.pk_draft.specs.Drafts.{by_number, first_draft, DraftOf, region_of, fresh}
use Rattle.pk_number.specs.Preorders.{place_among}
use Rattle.pk_number.specs.Numbering.{reached}
use Rattle.pk_lower_row.specs.Contexts.{Context}
use Rattle.pk_lower_statement.specs.declared.statements.Exits.{Exits}
use Rattle.pk_lower.specs.Parts as parts
use Rattle.pk_visits.specs.Turns.{TurnPoint, turning, turns_in, turns_in_items, turns_of_part, turns_from, program_turns}
use Rattle.pk_visits.specs.Turning.{graph_turns}
use Rattle.pk_access_laws.specs.Operators.{Counting}
use Rattle.pk_access_laws.specs.Laws.{one_at}
use Rattle.pk_loop_laws.specs.Loops.{loops_in, loops_in_items}
use Rattle.pk_loop_texts.specs.Laws.{HasLoopsApart, LoopsAreApart, BeginsAtOne, TurnsAreApart}

abbrev counted : Counting → List TurnPoint → ℕ
counted q [] = 0
counted q (t ∷ ts) = q t.at + counted q ts

counted_append : (q : Counting) (xs ys : List TurnPoint) → counted q (xs ++ ys) ≡ counted q xs + counted q ys
counted_append q [] ys = omega arith
counted_append q (x ∷ xs) ys = omega (arith, counted_append q xs ys)

both_count : (q : Counting) (xs ys : List TurnPoint) {m n : ℕ} → counted q xs ≡ m → counted q ys ≡ n → counted q (xs ++ ys) ≡ m + n
both_count q xs ys h k = omega (arith, counted_append q xs ys, h, k)

-- ---- statements

mutual
  unfolding turns_in turns_in_items loops_in loops_in_items

  statement_turns : {V : Type 0} (q : Counting) (c : Context) (s : StatementTree) (x : Exits) (d : DraftOf V) → counted q (turns_in c s x d) ≡ loops_in q s
  statement_turns q c (tree.block p is) x d = item_turns q c is x d
  statement_turns q c (tree.empty p) x d = refl
  statement_turns q c (tree.effect p e) x d = refl
  statement_turns q c (tree.label p l s) x d = statement_turns q c s x _
  statement_turns q c (tree.case p i s) x d = statement_turns q c s x _
  statement_turns q c (tree.default p s) x d = statement_turns q c s x _
  statement_turns q c (tree.if_then p e s) x d = statement_turns q c s x _
  statement_turns q c (tree.if_else p e s r) x d = both_count q _ _ (statement_turns q c s x _) (statement_turns q c r x _)
  statement_turns q c (tree.switch p t e zs b s) x d = statement_turns q c s _ _
  statement_turns q c (tree.while p e s) x d = ap (λ (n : ℕ). q p + n) (statement_turns q c s _ _)
  statement_turns q c (tree.do_while p s e) x d = ap (λ (n : ℕ). q p + n) (statement_turns q c s _ _)
  statement_turns q c (tree.for_loop p start e third s) x d = ap (λ (n : ℕ). q p + n) (statement_turns q c s _ _)
  statement_turns q c (tree.goto p l) x d = refl
  statement_turns q c (tree.continue p) x d = refl
  statement_turns q c (tree.break p) x d = refl
  statement_turns q c (tree.return p e) x d = refl

  item_turns : {V : Type 0} (q : Counting) (c : Context) (is : ItemTrees) (x : Exits) (d : DraftOf V) → counted q (turns_in_items c is x d) ≡ loops_in_items q is
  item_turns q c tree.no_items x d = refl
  item_turns q c (tree.declared_before v is) x d = item_turns q c is x _
  item_turns q c (tree.statement_before s is) x d = both_count q _ _ (statement_turns q c s x d) (item_turns q c is x _)

-- ---- paths

part_turns : {V : Type 0} (at : Pos) (c : Context) (g : FunctionTree) (b : Option BodyTree) (from : Option Caller) (r : Region) (d : DraftOf V) → IfSome b HasLoopsApart → counted (one_at at) (turns_of_part c g b from r d) ≤ 1
part_turns at c g None from r d h = omega arith
part_turns at c g (Some b) from r d h =
    let e = parts.placed_entry from (parts.begun c g b from r d) in
    omega (arith, item_turns (one_at at) c b.items (parts.start_exits e.points) (fresh (b.labels + 1) e), h at)

function_apart : (fs : List FunctionTree) (f : ℕ) → All (λ (g : FunctionTree). IfSome g.body HasLoopsApart) fs → IfSome (option_and_then (λ (g : FunctionTree). g.body) (slice_get fs f)) HasLoopsApart
function_apart [] f h = tt
function_apart (g ∷ fs) zero h = All-head (λ (g : FunctionTree). IfSome g.body HasLoopsApart) g fs h
function_apart (g ∷ fs) (suc f) h = function_apart fs f (All-tail (λ (g : FunctionTree). IfSome g.body HasLoopsApart) g fs h)

body_apart : (u : UnitTree) (f : ℕ) → LoopsAreApart u → IfSome (body_of u f) HasLoopsApart
unfolding body_of
body_apart u f h = function_apart u.functions f h

path_turns : {V : Type 0} (at : Pos) (u : UnitTree) → LoopsAreApart u → (sizes : List (Option Size)) (k n : ℕ) (ps : List CallPath) (d : DraftOf V) (path : ℕ) → counted (one_at at) (slice_index_or (turns_from u sizes k n ps d) path []) ≤ 1
unfolding turns_from
path_turns at u h sizes k n [] d path = omega arith
path_turns at u h sizes k n (p ∷ ps) d zero =
    part_turns at (parts.context u sizes k n p.function) (parts.function_at u p.function) (body_of u p.function) p.caller (region_of k d) d (body_apart u p.function h)
path_turns at u h sizes k n (p ∷ ps) d (suc path) = path_turns at u h sizes (k + 1) (n + length (calls_of u p.function)) ps _ path

-- ---- points of the graph

numbered_count : (q : Counting) (found : List ℕ) (ts : List TurnPoint) → counted q (map (λ (t : TurnPoint). turning t.at (place_among found t.point)) ts) ≡ counted q ts
numbered_count q found [] = refl
numbered_count q found (t ∷ ts) = omega (arith, numbered_count q found ts)

abbrev one_if : Bool → ℕ
one_if b = if b then 1 else 0

itself : (at : Pos) → one_at at at ≡ 1
itself at =
    ap (λ (b : Bool). one_if (b && nat_eq at.column at.column)) (eq-eqb at.line at.line refl)
    ∙ ap (λ (b : Bool). one_if b) (eq-eqb at.column at.column refl)

here : (at : Pos) (t : TurnPoint) (n : ℕ) → t ≡ turning at n → one_at at t.at ≡ 1
here at t n h = ap (λ (x : TurnPoint). one_at at x.at) h ∙ itself at

one_there : (at : Pos) (ts : List TurnPoint) (k n : ℕ) → k < length ts → slice_index_or ts k (turning at n) ≡ turning at n → 1 ≤ counted (one_at at) ts
one_there at [] k n l h = absurd (omega (arith, l))
one_there at (t ∷ ts) zero n l h = omega (arith, here at t n h)
one_there at (t ∷ ts) (suc k) n l h = omega (arith, one_there at ts k n (omega (arith, l)) h)

one_point : (at : Pos) (ts : List TurnPoint) (j k m n : ℕ) → counted (one_at at) ts ≤ 1 → j < length ts → k < length ts → slice_index_or ts j (turning at m) ≡ turning at m → slice_index_or ts k (turning at n) ≡ turning at n → m ≡ n
one_point at [] j k m n once l r f g = absurd (omega (arith, l))
one_point at (t ∷ ts) zero zero m n once l r f g = ap (λ (x : TurnPoint). x.point) (sym f ∙ g)
one_point at (t ∷ ts) zero (suc k) m n once l r f g = absurd (omega (arith, once, here at t m f, one_there at ts k n (omega (arith, r)) g))
one_point at (t ∷ ts) (suc j) zero m n once l r f g = absurd (omega (arith, once, here at t n g, one_there at ts j m (omega (arith, l)) f))
one_point at (t ∷ ts) (suc j) (suc k) m n once l r f g = one_point at ts j k m n (omega (arith, once)) (omega (arith, l)) (omega (arith, r)) f g

begins_at_one : (ts : List TurnPoint) → ((at : Pos) → counted (one_at at) ts ≤ 1) → BeginsAtOne ts
begins_at_one ts once at m n h k = one_point at ts h.0 k.0 m n (once at) h.1 k.1 h.2 k.2

pub turns_are_apart : TurnsAreApart
turns_are_apart u paths h path =
    let sizes = parts.sizes_of u paths in
    let d = first_draft by_number (map parts.file_variable u.objects) (length paths) (parts.whole_size sizes paths) in
    let found = reached (parts.program_draft by_number u paths).edges in
    begins_at_one (graph_turns u paths path) (λ at. omega (arith, numbered_count (one_at at) found (program_turns by_number u paths path), path_turns at u h sizes 0 1 paths d path))
