-- Values that show graphs.
use Rattle.std.proofs.Common.{◌≡◌, append-nil, append_assoc, ℕ, ◌+◌, ◌<◌, ◌^◌, List, [], ◌∷◌, ◌++◌, length, map, refl, sym, ap, ap₂, subst, ◌∙◌, arith, All, Vec, Box, Global}
use Rattle.std.specs.List.{slice_index_or}
use Rattle.std.proofs.lemmas.List.{length-map, length-append, get_or_append_left, get_or_push, length_push}
use Rattle.std.proofs.lemmas.List.Elements.{All-head, All-tail}
use denote.RawPtr.{null_ptr}
use Rattle.pk_graph.specs.declared.graphs.Start.TheVariants as starts
use Rattle.pk_graph.specs.declared.graphs.Entry.{Entry}
use Rattle.pk_graph.specs.declared.graphs.Scope.{Scope}
use Rattle.pk_graph.specs.declared.graphs.Edge.{Edge}
use Rattle.pk_graph.specs.declared.graphs.Point.{Point}
use Rattle.pk_graph.specs.declared.trees.Tree.TheVariants as trees
use Rattle.pk_graph.specs.declared.instructions.Array.{Array}
use Rattle.pk_graph.specs.declared.instructions.Instr.TheVariants as instructions
use Rattle.pk_graph.specs.Graphs.{graph_of, PathOf, StartOf, any_start, number_start, VariableOf, EdgeOf, PointOf, path_view, start_view, variable_view, edge_view, point_view, chained}
use Rattle.pk_graph.specs.Trees as tree
use Rattle.pk_graph.specs.Trees.{TreeOf, ArrayOf, InstrOf}
use Rattle.pk_graph.specs.Views.{tree_view, instr_view}
use Rattle.pk_graph.specs.WellMade.{IsGraph}
use Rattle.pk_answer_laws.specs.Rooms.{IsShortStart, entries_in_scope, ShortGraphsHaveRoom}

heap : Global
heap = record { memory = record { seal = tt } }

module _ where
  abbrev vec_of : {A : Type 0} → (xs : List A) → length xs < 2 ^ 63 → Vec A Global
  vec_of xs few = record { ptr = null_ptr; len = length xs; cap = length xs; alloc = heap; items = xs; ok = (refl, omega arith); small = few }

  abbrev boxed : Box (Unit {0}) Global
  boxed = record { ptr = null_ptr; alloc = heap; value = tt }

  -- some value shows b
  abbrev Shown : {A B : Type 0} → (A → B) → B → Type 0
  Shown {A} view b = (a : A) × (view a ≡ b)

  tree_shown : (e : TreeOf ℕ) → Shown tree_view e
  unfolding tree_view
  tree_shown (tree.constant t n) = (trees.Constant t n, refl)
  tree_shown (tree.variable x) = (trees.Variable x, refl)
  tree_shown (tree.converted t e) = let a = tree_shown e in (trees.Converted' t boxed a.0, ap (λ (k : TreeOf ℕ). tree.converted t k) a.1)
  tree_shown (tree.unary op s t e) = let a = tree_shown e in (trees.Unary' op s t boxed a.0, ap (λ (k : TreeOf ℕ). tree.unary op s t k) a.1)
  tree_shown (tree.binary op s t e f) =
      let a = tree_shown e in
      let b = tree_shown f in
      (trees.Binary' op s t boxed a.0 boxed b.0, ap (λ (k : TreeOf ℕ). tree.binary op s t k (tree_view b.0)) a.1 ∙ ap (λ (k : TreeOf ℕ). tree.binary op s t e k) b.1)

  abbrev array_of : ArrayOf ℕ → Array
  array_of a = record { variable = a.variable; length = a.length }

  instr_shown : (i : InstrOf ℕ) → Shown instr_view i
  unfolding instr_view
  instr_shown tree.Skip = (instructions.Skip, refl)
  instr_shown (tree.Set x e) = let a = tree_shown e in (instructions.Set x a.0, ap (λ (k : TreeOf ℕ). tree.Set x k) a.1)
  instr_shown (tree.Havoc x t n) = (instructions.Havoc x t n, refl)
  instr_shown (tree.Clear a) = (instructions.Clear (array_of a), refl)
  instr_shown (tree.Load x r s b i) = let a = tree_shown i in (instructions.Load x (array_of r) s b a.0, ap (λ (k : TreeOf ℕ). tree.Load x r s b k) a.1)
  instr_shown (tree.Store r s b i e) =
      let a = tree_shown i in
      let v = tree_shown e in
      (instructions.Store (array_of r) s b a.0 v.0, ap (λ (k : TreeOf ℕ). tree.Store r s b k (tree_view v.0)) a.1 ∙ ap (λ (k : TreeOf ℕ). tree.Store r s b i k) v.1)
  instr_shown (tree.Guard e b) = let a = tree_shown e in (instructions.Guard a.0 b, ap (λ (k : TreeOf ℕ). tree.Guard k b) a.1)
  instr_shown (tree.Check s e) = let a = tree_shown e in (instructions.Check s a.0, ap (λ (k : TreeOf ℕ). tree.Check s k) a.1)

  edge_shown : (e : EdgeOf) → Shown edge_view e
  unfolding edge_view
  edge_shown e = let a = instr_shown e.instr in (record { instr = a.0; to = e.to }, ap (λ (i : InstrOf ℕ). record { instr = i; to = e.to }) a.1)

  path_shown : (p : PathOf) → Shown path_view p
  unfolding path_view
  path_shown p = (record { name = p.name; call = p.call }, refl)

  start_shown : (s : StartOf) → IsShortStart s → Shown start_view s
  unfolding start_view
  start_shown any_start h = (starts.Any, refl)
  start_shown (number_start zs) h = (starts.Numbers (vec_of zs h), refl)

  variable_shown : (x : VariableOf) → IsShortStart x.start → Shown variable_view x
  unfolding variable_view
  variable_shown x h =
      let a = start_shown x.start h in
      (record { name = x.name; int_type = x.kind.int_type; length = x.kind.length; path = x.path; start = a.0 }, ap (λ (s : StartOf). record { name = x.name; kind = x.kind; path = x.path; start = s }) a.1)

  all_shown : {A B : Type 0} (P : B → Type 0) (view : A → B) → ((b : B) → P b → Shown view b) → (bs : List B) → All P bs → Shown (map view) bs
  all_shown P view each [] h = ([], refl)
  all_shown P view each (b ∷ bs) h =
      let a = each b (All-head P b bs h) in
      let more = all_shown P view each bs (All-tail P b bs h) in
      (a.0 ∷ more.0, ap (λ k. k ∷ map view more.0) a.1 ∙ ap (λ ks. b ∷ ks) more.1)

  every_shown : {A B : Type 0} (view : A → B) → ((b : B) → Shown view b) → (bs : List B) → Shown (map view) bs
  every_shown view each bs = all_shown (λ b. Unit {0}) view (λ b h. each b) bs (λ k d h. tt)

  as_short : {A B : Type 0} (view : A → B) (as' : List A) (bs : List B) → map view as' ≡ bs → length bs < 2 ^ 63 → length as' < 2 ^ 63
  as_short view as' bs e h = subst (λ (n : ℕ). n < 2 ^ 63) (ap length (sym e) ∙ length-map as' view) h

  -- ---- scopes

  chained_more : (known : List (List Entry)) (ss more : List Scope) → chained known (ss ++ more) ≡ chained (chained known ss) more
  chained_more known [] more = refl
  chained_more known (s ∷ ss) more = chained_more (known ++ (s.entry ∷ slice_index_or known s.outer []) ∷ []) ss more

  -- a place in the chain at which these names are in scope
  record HasPlace (known : List (List Entry)) (xs : List Entry) : Type 0 where
    scopes : List Scope
    lists : List (List Entry)
    is : chained known scopes ≡ known ++ lists
    place : ℕ
    at : place < length (known ++ lists)
    found : slice_index_or (known ++ lists) place [] ≡ xs
    many : length scopes ≡ length xs

  place_for : (known : List (List Entry)) → 0 < length known → slice_index_or known 0 [] ≡ [] → (xs : List Entry) → HasPlace known xs
  place_for known some first [] = record {
    scopes = [];
    lists = [];
    is = sym (append-nil known);
    place = 0;
    at = subst (λ (l : List (List Entry)). 0 < length l) (sym (append-nil known)) some;
    found = ap (λ (l : List (List Entry)). slice_index_or l 0 []) (append-nil known) ∙ first;
    many = refl;
  }
  place_for known some first (x ∷ xs) =
      let c = place_for known some first xs in
      let s : Scope = record { entry = x; outer = c.place } in
      let whole = known ++ c.lists in
      let assoc : whole ++ (x ∷ xs) ∷ [] ≡ known ++ (c.lists ++ (x ∷ xs) ∷ []) = append_assoc known c.lists ((x ∷ xs) ∷ []) in
      record {
        scopes = c.scopes ++ s ∷ [];
        lists = c.lists ++ (x ∷ xs) ∷ [];
        is = chained_more known c.scopes (s ∷ []) ∙ ap (λ (l : List (List Entry)). chained l (s ∷ [])) c.is ∙ ap (λ (l : List Entry). whole ++ (x ∷ l) ∷ []) c.found ∙ assoc;
        place = length whole;
        at = subst (λ (l : List (List Entry)). length whole < length l) assoc (omega (arith, length_push whole (x ∷ xs)));
        found = ap (λ (l : List (List Entry)). slice_index_or l (length whole) []) (sym assoc) ∙ get_or_push whole (x ∷ xs) [] (length whole) refl;
        many = length_push c.scopes s ∙ ap (λ (n : ℕ). n + 1) c.many ∙ omega arith;
      }

  -- ---- points

  -- a point, where these lists of names are in scope at the places of the chain
  abbrev shown_in : List (List Entry) → Point → PointOf
  shown_in known p = record { at = p.at; path = p.path; scope = slice_index_or known p.scope []; edges = map edge_view p.edges.items }

  record HasPoints (known : List (List Entry)) (ps : List PointOf) : Type 0 where
    scopes : List Scope
    lists : List (List Entry)
    is : chained known scopes ≡ known ++ lists
    points : List Point
    shows : map (shown_in (known ++ lists)) points ≡ ps
    many : length scopes ≡ entries_in_scope ps

  abbrev AreShort : List PointOf → Type 0
  AreShort ps = All (λ (p : PointOf). length p.edges < 2 ^ 63) ps

  edges_shown : (p : PointOf) → length p.edges < 2 ^ 63 → (v : Vec Edge Global) × (map edge_view v.items ≡ p.edges)
  edges_shown p few = let a = every_shown edge_view edge_shown p.edges in (vec_of a.0 (as_short edge_view a.0 p.edges a.1 few), a.1)

  chain_on : (known lists more_lists : List (List Entry)) (ss more : List Scope) → chained known ss ≡ known ++ lists → chained (known ++ lists) more ≡ (known ++ lists) ++ more_lists → chained known (ss ++ more) ≡ known ++ (lists ++ more_lists)
  chain_on known lists more_lists ss more e f =
      chained_more known ss more ∙ ap (λ (l : List (List Entry)). chained l more) e ∙ f ∙ append_assoc known lists more_lists

  shown_on : (a b : List (List Entry)) (point : Point) (points : List Point) (p : PointOf) (ps : List PointOf) → a ≡ b → shown_in a point ≡ p → map (shown_in a) points ≡ ps → map (shown_in b) (point ∷ points) ≡ p ∷ ps
  shown_on a b point points p ps e f h =
      ap (λ (l : List (List Entry)). map (shown_in l) (point ∷ points)) (sym e) ∙ ap₂ (λ (q : PointOf) (qs : List PointOf). q ∷ qs) f h

  points_for : (known : List (List Entry)) → 0 < length known → slice_index_or known 0 [] ≡ [] → (ps : List PointOf) → AreShort ps → HasPoints known ps
  points_for known some first [] short = record { scopes = []; lists = []; is = sym (append-nil known); points = []; shows = refl; many = refl }
  points_for known some first (p ∷ ps) short =
      let c = place_for known some first p.scope in
      let edges = edges_shown p (All-head (λ (q : PointOf). length q.edges < 2 ^ 63) p ps short) in
      let next = known ++ c.lists in
      let more = points_for next (omega (arith, some, length-append known c.lists)) (get_or_append_left known c.lists [] 0 some ∙ first) ps (All-tail (λ (q : PointOf). length q.edges < 2 ^ 63) p ps short) in
      let assoc : next ++ more.lists ≡ known ++ (c.lists ++ more.lists) = append_assoc known c.lists more.lists in
      let point : Point = record { at = p.at; path = p.path; scope = c.place; edges = edges.0 } in
      let scope : slice_index_or (next ++ more.lists) c.place [] ≡ p.scope = get_or_append_left next more.lists [] c.place c.at ∙ c.found in
      let shown : shown_in (next ++ more.lists) point ≡ p =
      ap (λ (l : List Entry). record { at = p.at; path = p.path; scope = l; edges = map edge_view edges.0.items }) scope ∙ ap (λ (es : List EdgeOf). record { at = p.at; path = p.path; scope = p.scope; edges = es }) edges.1 in
      record {
        scopes = c.scopes ++ more.scopes;
        lists = c.lists ++ more.lists;
        is = chain_on known c.lists more.lists c.scopes more.scopes c.is more.is;
        points = point ∷ more.points;
        shows = shown_on (next ++ more.lists) (known ++ (c.lists ++ more.lists)) point more.points p ps assoc shown more.shows;
        many = length-append c.scopes more.scopes ∙ ap₂ (λ (m n : ℕ). m + n) c.many more.many;
      }

  map_views : (scopes : List Scope) (lists : List (List Entry)) → chained ([] ∷ []) scopes ≡ lists → (points : List Point) → map (point_view scopes) points ≡ map (shown_in lists) points
  unfolding point_view
  map_views scopes lists e points = ap (λ (l : List (List Entry)). map (shown_in l) points) e

  pub have_room : ShortGraphsHaveRoom
  have_room g made short =
      let paths = every_shown path_view path_shown g.paths in
      let variables = all_shown (λ (x : VariableOf). IsShortStart x.start) variable_view variable_shown g.variables short.starts in
      let ps = points_for ([] ∷ []) (omega arith) refl g.points short.edges in
      let shown = map_views ps.scopes (([] ∷ []) ++ ps.lists) ps.is ps.points ∙ ps.shows in
      let point_vec = vec_of ps.points (as_short (point_view ps.scopes) ps.points g.points shown (omega (arith, made.few))) in
      let whole : graph_of paths.0 variables.0 ps.scopes ps.points ≡ g =
      ap (λ (l : List PathOf). record { paths = l; variables = map variable_view variables.0; points = map (point_view ps.scopes) ps.points }) paths.1
      ∙ ap (λ (l : List VariableOf). record { paths = g.paths; variables = l; points = map (point_view ps.scopes) ps.points }) variables.1
      ∙ ap (λ (l : List PointOf). record { paths = g.paths; variables = g.variables; points = l }) shown in
      record {
        value = record {
          paths = vec_of paths.0 (as_short path_view paths.0 g.paths paths.1 short.paths);
          variables = vec_of variables.0 (as_short variable_view variables.0 g.variables variables.1 short.variables);
          scopes = vec_of ps.scopes (subst (λ (n : ℕ). n < 2 ^ 63) (sym ps.many) short.scopes);
          points = point_vec;
          well_made = subst IsGraph (sym whole) made;
        };
        shows = whole;
      }
