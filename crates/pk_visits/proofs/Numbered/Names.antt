-- Drafts whose variables are renamed: the verbs of the lowering make the same of them.
use Rattle.std.proofs.Common.{◌≡◌, ℕ, zero, suc, ◌+◌, List, map, Bool, true, false, refl, sym, ap, ◌∙◌, ℤ}
use Rattle.std.specs.Prelude.{Option, Some, None, Result, Ok, Err, option_map}
use Rattle.std.specs.Option.{option_and_then}
use Rattle.std.proofs.lemmas.List.{map_push}
use Rattle.pk_ctypes.specs.declared.faults.Fault.{Fault}
use Rattle.pk_ctypes.specs.declared.types.IntType.{IntType}
use Rattle.pk_ctypes.specs.declared.types.Op.{Op}
use Rattle.pk_ctypes.specs.Types.{represents, wrapped}
use Rattle.pk_ctypes.specs.Operators.{value_of, result_type}
use Rattle.pk_graph.specs.declared.trees.Site.{Site}
use Rattle.pk_graph.specs.Trees.{TreeOf, constant, variable, converted, unary, binary, ArrayOf, InstrOf, Skip, Set, Havoc, Clear, Load, Store, Guard, Check}
use Rattle.pk_draft.specs.Drafts.{Names, EdgeFrom, DraftOf, Given, at, placed, all_placed, fresh, with_temporary, next_temporary, link, go, emit, away, come, stored}
use Rattle.pk_draft.specs.Folding.{number_in, folded, kept_if, conversion, right_type, unary_tree, binary_tree, operated_tree, updated_tree}

abbrev pub tree_by : {V W : Type 0} → (V → W) → TreeOf V → TreeOf W
tree_by f (constant t z) = constant t z
tree_by f (variable x) = variable (f x)
tree_by f (converted t e) = converted t (tree_by f e)
tree_by f (unary op s t e) = unary op s t (tree_by f e)
tree_by f (binary op s t a b) = binary op s t (tree_by f a) (tree_by f b)

abbrev pub array_by : {V W : Type 0} → (V → W) → ArrayOf V → ArrayOf W
array_by f a = record { variable = f a.variable; length = a.length }

abbrev pub instr_by : {V W : Type 0} → (V → W) → InstrOf V → InstrOf W
instr_by f Skip = Skip
instr_by f (Set x e) = Set (f x) (tree_by f e)
instr_by f (Havoc x t n) = Havoc (f x) t n
instr_by f (Clear a) = Clear (array_by f a)
instr_by f (Load x a s b i) = Load (f x) (array_by f a) s b (tree_by f i)
instr_by f (Store a s b i e) = Store (array_by f a) s b (tree_by f i) (tree_by f e)
instr_by f (Guard e b) = Guard (tree_by f e) b
instr_by f (Check s e) = Check s (tree_by f e)

abbrev pub edge_by : {V W : Type 0} → (V → W) → EdgeFrom V → EdgeFrom W
edge_by f e = record { from = e.from; instr = instr_by f e.instr; to = e.to }

abbrev pub names_by : {V W : Type 0} → (V → W) → Names V → Names W
names_by f n = record { file = λ i. f (n.file i); object = λ k i x. f (n.object k i x); result = λ k x. f (n.result k x); temporary = λ x. f (n.temporary x) }

abbrev pub draft_by : {V W : Type 0} → (V → W) → DraftOf V → DraftOf W
draft_by f d = record {
  names = names_by f d.names;
  point = d.point;
  here = d.here;
  points = d.points;
  variables = d.variables;
  labels = d.labels;
  made = d.made;
  objects = d.objects;
  regions = d.regions;
  scopes = d.scopes;
  edges = map (edge_by f) d.edges;
}

abbrev pub given_by : {V W : Type 0} → (V → W) → Given V → Given W
given_by f r = (tree_by f r.0, draft_by f r.1)

-- ---- trees

number_by : {V W : Type 0} (f : V → W) (e : TreeOf V) → number_in (tree_by f e) ≡ number_in e
number_by f (constant t z) = refl
number_by f (variable x) = refl
number_by f (converted t e) = refl
number_by f (unary op s t e) = refl
number_by f (binary op s t a b) = refl

folded_by : {V W : Type 0} (f : V → W) (t : IntType) (e : TreeOf V) (o : Option (Result ℤ Fault)) → folded t (tree_by f e) o ≡ tree_by f (folded t e o)
folded_by f t e None = refl
folded_by f t e (Some (Ok n)) = refl
folded_by f t e (Some (Err x)) = refl

kept_by : {V W : Type 0} (f : V → W) (b : Bool) (t : IntType) (e : TreeOf V) → kept_if b t (tree_by f e) ≡ tree_by f (kept_if b t e)
kept_by f true t e = refl
kept_by f false t e = refl

pub conversion_by : {V W : Type 0} (f : V → W) (u t : IntType) (e : TreeOf V) → conversion u t (tree_by f e) ≡ tree_by f (conversion u t e)
conversion_by f u t e =
    ap (λ k. folded t k (option_map (λ z. Ok (wrapped t z)) (number_in (tree_by f e)))) (kept_by f (represents t u) t e)
    ∙ ap (λ o. folded t (tree_by f (kept_if (represents t u) t e)) (option_map (λ z. Ok (wrapped t z)) o)) (number_by f e)
    ∙ folded_by f t (kept_if (represents t u) t e) (option_map (λ z. Ok (wrapped t z)) (number_in e))

pub unary_by : {V W : Type 0} (f : V → W) (op : Op) (s : Site) (t : IntType) (e : TreeOf V) → unary_tree op s t (tree_by f e) ≡ tree_by f (unary_tree op s t e)
unary_by f op s t e =
    ap (λ o. folded (result_type op t) (unary op s t (tree_by f e)) (option_map (λ z. value_of op t z z) o)) (number_by f e)
    ∙ folded_by f (result_type op t) (unary op s t e) (option_map (λ z. value_of op t z z) (number_in e))

pub binary_by : {V W : Type 0} (f : V → W) (op : Op) (s : Site) (t : IntType) (a b : TreeOf V) → binary_tree op s t (tree_by f a) (tree_by f b) ≡ tree_by f (binary_tree op s t a b)
binary_by f op s t a b =
    ap (λ o. folded (result_type op t) (binary op s t (tree_by f a) (tree_by f b)) (option_and_then (λ z. option_map (λ w. value_of op t z w) (number_in (tree_by f b))) o)) (number_by f a)
    ∙ ap (λ o. folded (result_type op t) (binary op s t (tree_by f a) (tree_by f b)) (option_and_then (λ z. option_map (λ w. value_of op t z w) o) (number_in a))) (number_by f b)
    ∙ folded_by f (result_type op t) (binary op s t a b) (option_and_then (λ z. option_map (λ w. value_of op t z w) (number_in b)) (number_in a))

pub operated_by : {V W : Type 0} (f : V → W) (op : Op) (s : Site) (t u v : IntType) (a b : TreeOf V) → operated_tree op s t u v (tree_by f a) (tree_by f b) ≡ tree_by f (operated_tree op s t u v a b)
operated_by f op s t u v a b =
    ap (λ x. binary_tree op s t x (conversion v (right_type op v t) (tree_by f b))) (conversion_by f u t a)
    ∙ ap (λ y. binary_tree op s t (tree_by f (conversion u t a)) y) (conversion_by f v (right_type op v t) b)
    ∙ binary_by f op s t (conversion u t a) (conversion v (right_type op v t) b)

pub updated_by : {V W : Type 0} (f : V → W) (op : Op) (s : Site) (t u v : IntType) (a b : TreeOf V) → updated_tree op s t u v (tree_by f a) (tree_by f b) ≡ tree_by f (updated_tree op s t u v a b)
updated_by f op s t u v a b =
    ap (conversion (result_type op t) u) (operated_by f op s t u v a b) ∙ conversion_by f (result_type op t) u (operated_tree op s t u v a b)

-- ---- verbs

abbrev with_edges : {W : Type 0} → DraftOf W → List (EdgeFrom W) → DraftOf W
with_edges d es = record d { edges = es }

pub link_by : {V W : Type 0} (f : V → W) (i : InstrOf V) (q : ℕ) (d : DraftOf V) → link (instr_by f i) q (draft_by f d) ≡ draft_by f (link i q d)
link_by f i q d = ap (with_edges (draft_by f d)) (sym (map_push (edge_by f) d.edges (record { from = d.point; instr = i; to = q })))

pub go_by : {V W : Type 0} (f : V → W) (i : InstrOf V) (q : ℕ) (d : DraftOf V) → go (instr_by f i) q (draft_by f d) ≡ draft_by f (go i q d)
go_by f i q d = ap (at q) (link_by f i q d)

pub emit_by : {V W : Type 0} (f : V → W) (i : InstrOf V) (d : DraftOf V) → emit (instr_by f i) (draft_by f d) ≡ draft_by f (emit i d)
emit_by f i d = go_by f i d.points (fresh 1 d)

pub come_by : {V W : Type 0} (f : V → W) (p : ℕ) (d : DraftOf V) → come p (draft_by f d) ≡ draft_by f (come p d)
come_by f p d = go_by f Skip p (placed p d)

abbrev fresh_at : {V : Type 0} → ℕ → DraftOf V → DraftOf V
fresh_at q d = at q (fresh 1 d)

pub away_by : {V W : Type 0} (f : V → W) (q : ℕ) (d : DraftOf V) → away q (draft_by f d) ≡ draft_by f (away q d)
away_by f q d = ap (fresh_at d.points) (link_by f Skip q d)

all_placed_by : {V W : Type 0} (f : V → W) (n p : ℕ) (d : DraftOf V) → all_placed n p (draft_by f d) ≡ draft_by f (all_placed n p d)
all_placed_by f zero p d = refl
all_placed_by f (suc n) p d = all_placed_by f n (p + 1) (placed p d)

abbrev with_points : {V : Type 0} → ℕ → DraftOf V → DraftOf V
with_points n d = record d { points = n }

pub fresh_by : {V W : Type 0} (f : V → W) (n : ℕ) (d : DraftOf V) → fresh n (draft_by f d) ≡ draft_by f (fresh n d)
fresh_by f n d = ap (with_points (d.points + n)) (all_placed_by f n d.points d)

pub stored_by : {V W : Type 0} (f : V → W) (t : IntType) (e : TreeOf V) (d : DraftOf V) → stored t (tree_by f e) (draft_by f d) ≡ given_by f (stored t e d)
stored_by f t e d = ap (λ x. (variable (f (next_temporary d)), x)) (emit_by f (Set (next_temporary d) e) (with_temporary t d))
