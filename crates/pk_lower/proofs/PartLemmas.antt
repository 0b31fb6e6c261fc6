-- Parts, step by step.
use Rattle.std.proofs.Common.{◌≡◌, ◌<◌, ◌≤◌, ◌+◌, ℕ, List, length, get_or, drop, map, sym, ◌∙◌, ap, subst, Bool, true, false, cond}
use Rattle.std.specs.Prelude.{Option, Some, None, option_map, pos}
use Rattle.std.proofs.lemmas.List.{length-map, get_or-map, get_or_past, drop_more, drop_all}
use Rattle.pk_ctypes.specs.declared.types.IntType.{IntType}
use Rattle.pk_typed.specs.declared.statements.Item.{Item}
use Rattle.pk_typed.specs.declared.units.Body.{Body}
use Rattle.pk_typed.specs.declared.units.Function.{Function}
use Rattle.pk_typed.specs.declared.units.Local.{Local}
use Rattle.pk_typed.specs.Trees.{LocalTree, BodyTree, FunctionTree}
use Rattle.pk_typed.specs.Views.{item_trees, local_tree, body_tree, function_tree, unit_tree}
use Rattle.pk_calls.specs.Calls.{body_of}
use Rattle.pk_calls.proofs.CallLemmas.{body_past}
use Rattle.pk_calls.specs.declared.listings.Caller.{Caller}
use Rattle.pk_graph.specs.Graphs.{VariableOf}
use Rattle.pk_graph.specs.Trees.{TreeOf, constant, InstrOf, Skip, Set, Havoc}
use Rattle.pk_draft.specs.declared.drafts.Draft.{Draft}
use Rattle.pk_draft.specs.declared.drafts.Label.{Label}
use Rattle.pk_draft.specs.declared.drafts.Region.{Region}
use Rattle.pk_draft.specs.Drafts.{DraftOf, with_object, with_name, inner, object_number, begun_at, on, standing, fresh, go, emit}
use Rattle.pk_draft.specs.Shown.{drafted}
use Rattle.pk_lower_row.specs.declared.contexts.Context as code
use Rattle.pk_lower_row.specs.Contexts.{Context, local_at, own_result}
use Rattle.pk_lower_row.specs.Views.{context_in}
use Rattle.pk_lower_statement.specs.Statements.{named, lowered_items}
use Rattle.pk_lower_statement.specs.declared.statements.Exits.{Exits}
use Rattle.pk_lower.specs.Parts.{entry_parameter, introduced_parameter, all_introduced, with_result, begun, placed_entry, is_main, ended, start_exits, body_draft, part_of, part, function_at}
use Rattle.pk_lower.proofs.FunctionLemmas.{function_read, body_in}
use Rattle.pk_typed.specs.Defaults.{no_local}

-- ---- what a context looks up

pub locals_counted : (c : code.Context) → length c.locals.now ≡ length (context_in c).locals
unfolding context_in
locals_counted c = sym (length-map c.locals.now local_tree)

pub local_name : (c : code.Context) (i : ℕ) (x : Local) → i < length c.locals.now → (get_or c.locals.now i x).name ≡ (local_at (context_in c) i).name
unfolding context_in local_tree
local_name c i x lt = ap (λ (y : LocalTree). y.name) (sym (get_or-map local_tree c.locals.now i x no_local lt))

pub local_past : (c : code.Context) (i : ℕ) → length c.locals.now ≤ i → None ≡ (local_at (context_in c) i).name
unfolding context_in
local_past c i le =
    sym (ap (λ (y : LocalTree). y.name) (get_or_past (map local_tree c.locals.now) i no_local (subst (λ (n : ℕ). n ≤ i) (sym (length-map c.locals.now local_tree)) le)))

-- ---- parameters

-- one without a name
pub unnamed_parameter : (c : Context) (i : ℕ) (t : IntType) (n : Option ℕ) (v : VariableOf) (d : DraftOf ℕ) → None ≡ (local_at c i).name → t ≡ (local_at c i).int_type → n ≡ (local_at c i).length → v ≡ entry_parameter None t n c.path
    → with_object i v d ≡ introduced_parameter c None i d
unnamed_parameter c i t n v d ea et en ev =
    let x = local_at c i in
    let is : v ≡ entry_parameter None x.int_type x.length c.path = cc in
    ap (λ (w : VariableOf). with_object i w d) is ∙ ap (λ (a : Option (List ℕ)). named a d.variables (with_object i (entry_parameter a x.int_type x.length c.path) d)) ea

-- one with a name, which comes into scope
pub named_parameter : (c : Context) (i x : ℕ) (a : List ℕ) (t : IntType) (n : Option ℕ) (v : VariableOf) (d e : DraftOf ℕ) → Some a ≡ (local_at c i).name → t ≡ (local_at c i).int_type → n ≡ (local_at c i).length → v ≡ entry_parameter (Some a) t n c.path
    → x ≡ d.variables → e ≡ with_object i v d → with_name x e ≡ introduced_parameter c None i d
named_parameter c i x a t n v d e ea et en ev ex ee =
    let y = local_at c i in
    let is : v ≡ entry_parameter (Some a) y.int_type y.length c.path = cc in
    ap (λ (z : ℕ). with_name z e) ex
    ∙ ap (λ (f : DraftOf ℕ). with_name d.variables f) (ee ∙ ap (λ (w : VariableOf). with_object i w d) is)
    ∙ ap (λ (b : Option (List ℕ)). named b d.variables (with_object i (entry_parameter b y.int_type y.length c.path) d)) ea

pub parameters_next : (c : Context) (from : Option Caller) (ts : List IntType) (i : ℕ) (d : DraftOf ℕ) (t : IntType) → i < length ts
    → all_introduced c from i (drop i ts) d ≡ all_introduced c from (i + 1) (drop (i + 1) ts) (introduced_parameter c from i d)
unfolding all_introduced
parameters_next c from ts i d t lt = ap (λ (us : List IntType). all_introduced c from i us d) (drop_more ts i t lt)

pub parameters_end : (c : Context) (from : Option Caller) (ts : List IntType) (i : ℕ) (d : DraftOf ℕ) → length ts ≤ i → all_introduced c from i (drop i ts) d ≡ d
unfolding all_introduced
parameters_end c from ts i d le = ap (λ (us : List IntType). all_introduced c from i us d) (drop_all i ts le)

-- ---- results

pub result_added : (c : code.Context) (r : Option IntType) (t : IntType) (v : VariableOf) (d : DraftOf ℕ) → r ≡ Some t → v ≡ inner None t None c.path → with_object (length c.locals.now) v d ≡ with_result (context_in c) r d
unfolding context_in
result_added c r t v d er ev =
    ap (λ (w : VariableOf). with_object (length c.locals.now) w d) ev
    ∙ ap (λ (n : ℕ). with_object n (inner None t None c.path) d) (locals_counted c)
    ∙ ap (λ (o : Option IntType). with_result (context_in c) o d) (sym er)

pub own_result_is : (c : code.Context) (d : Draft) (x : ℕ) → x ≡ object_number (length c.locals.now) (drafted d) → x ≡ own_result (context_in c) (drafted d)
unfolding context_in drafted
own_result_is c d x e = e ∙ ap (λ (n : ℕ). object_number n (drafted d)) (locals_counted c)

pub ended_main : (c : Context) (name : List ℕ) (r : Option IntType) (t : IntType) (x : ℕ) (i : InstrOf ℕ) (e : TreeOf ℕ) (b : Bool) (d : DraftOf ℕ) → r ≡ Some t → b ≡ is_main name → b ≡ true → x ≡ own_result c d → e ≡ constant t (pos 0) → i ≡ Set x e
    → emit i d ≡ ended c name r d
ended_main c name r t x i e b d er eb met ex ee ei =
    let is : i ≡ Set (own_result c d) (constant t (pos 0)) = cc in
    ap (λ (j : InstrOf ℕ). emit j d) is
    ∙ ap (λ (q : Bool). cond q (emit (Set (own_result c d) (constant t (pos 0))) d) (emit (Havoc (own_result c d) t 1) d)) (sym (sym eb ∙ met))
    ∙ ap (λ (o : Option IntType). ended c name o d) (sym er)

pub ended_otherwise : (c : Context) (name : List ℕ) (r : Option IntType) (t : IntType) (x : ℕ) (i : InstrOf ℕ) (b : Bool) (d : DraftOf ℕ) → r ≡ Some t → b ≡ is_main name → b ≡ false → x ≡ own_result c d → i ≡ Havoc x t 1 → emit i d ≡ ended c name r d
ended_otherwise c name r t x i b d er eb unmet ex ei =
    let is : i ≡ Havoc (own_result c d) t 1 = cc in
    ap (λ (j : InstrOf ℕ). emit j d) is
    ∙ ap (λ (q : Bool). cond q (emit (Set (own_result c d) (constant t (pos 0))) d) (emit (Havoc (own_result c d) t 1) d)) (sym (sym eb ∙ unmet))
    ∙ ap (λ (o : Option IntType). ended c name o d) (sym er)

-- ---- a part

pub begun_is : (c : code.Context) (g : Function) (b : Body) (from : Option Caller) (r : Region) (n : ℕ) (ts : List IntType) (d e f : DraftOf ℕ) → n ≡ length c.locals.now + 1
    → e ≡ begun_at r (record { at = b.open; path = c.path; scope = b.visible }) n d → ts ≡ g.parameters.items → f ≡ all_introduced (context_in c) from 0 ts e
    → with_result (context_in c) g.returns f ≡ begun (context_in c) (function_tree g) (body_tree b) from r d
unfolding context_in function_tree body_tree
begun_is c g b from r n ts d e f en ee et ef =
    let here : Label = record { at = b.open; path = c.path; scope = b.visible } in
    ap (λ (x : DraftOf ℕ). with_result (context_in c) g.returns x)
    (ef
    ∙ ap (λ (us : List IntType). all_introduced (context_in c) from 0 us e) et
    ∙ ap (λ (x : DraftOf ℕ). all_introduced (context_in c) from 0 g.parameters.items x) (ee ∙ ap (λ (m : ℕ). begun_at r here m d) (en ∙ ap (λ (m : ℕ). m + 1) (locals_counted c))))

pub body_is : (c : Context) (g : Function) (b : Body) (is : List Item) (here : Label) (n p l : ℕ) (i : InstrOf ℕ) (d d1 d2 d3 d4 d5 : DraftOf ℕ) → here ≡ d.here → n ≡ b.labels + 1 → d1 ≡ fresh n d → p ≡ d.points → l ≡ p + 1 → is ≡ b.items.items
    → d2 ≡ lowered_items c (item_trees is) (record { broken = p; continued = p; left = p; labels = l; cases = p; otherwise = p }) d1
    → d3 ≡ standing here d2 → d4 ≡ on b.close d3 → d5 ≡ ended c g.name g.returns d4 → i ≡ Skip → go i p d5 ≡ body_draft c (function_tree g) (body_tree b) d
unfolding function_tree body_tree body_draft
body_is c g b is here n p l i d d1 d2 d3 d4 d5 eh en e1 ep el es e2 e3 e4 e5 ei =
    let first : d1 ≡ fresh (b.labels + 1) d = e1 ∙ ap (λ (m : ℕ). fresh m d) en in
    let exits : ◌≡◌ {A = Exits} (record { broken = p; continued = p; left = p; labels = l; cases = p; otherwise = p }) (start_exits d.points) =
    ap (λ (m : ℕ). let x : Exits = record { broken = p; continued = p; left = p; labels = m; cases = p; otherwise = p } in x) el ∙ ap (λ (m : ℕ). start_exits m) ep in
    let second : d2 ≡ lowered_items c (item_trees b.items.items) (start_exits d.points) (fresh (b.labels + 1) d) =
    e2
    ∙ ap (λ (x : Exits). lowered_items c (item_trees is) x d1) exits
    ∙ ap (λ (js : List Item). lowered_items c (item_trees js) (start_exits d.points) d1) es
    ∙ ap (λ (x : DraftOf ℕ). lowered_items c (item_trees b.items.items) (start_exits d.points) x) first in
    let third : d3 ≡ standing d.here (lowered_items c (item_trees b.items.items) (start_exits d.points) (fresh (b.labels + 1) d)) =
    e3 ∙ ap (λ (h : Label). standing h d2) eh ∙ ap (λ (x : DraftOf ℕ). standing d.here x) second in
    ap (λ (j : InstrOf ℕ). go j p d5) ei
    ∙ ap (λ (q : ℕ). go Skip q d5) ep
    ∙ ap (λ (x : DraftOf ℕ). go Skip d.points x) (e5 ∙ ap (λ (x : DraftOf ℕ). ended c g.name g.returns x) (e4 ∙ ap (λ (x : DraftOf ℕ). on b.close x) third))

pub no_part : (c : Context) (g : Function) (from : Option Caller) (r : Region) (d : DraftOf ℕ) → g.body ≡ None → d ≡ part_of c (function_tree g) (function_tree g).body from r d
unfolding function_tree
no_part c g from r d e = ap (λ (o : Option Body). part_of c (function_tree g) (option_map body_tree o) from r d) (sym e)

pub part_is : (c : Context) (g : Function) (b : Body) (from : Option Caller) (r : Region) (d e f : DraftOf ℕ) → g.body ≡ Some b → e ≡ begun c (function_tree g) (body_tree b) from r d → f ≡ placed_entry from e
    → body_draft c (function_tree g) (body_tree b) f ≡ part_of c (function_tree g) (function_tree g).body from r d
unfolding function_tree
part_is c g b from r d e f eb ee ef =
    ap (λ (x : DraftOf ℕ). body_draft c (function_tree g) (body_tree b) x) (ef ∙ ap (λ (x : DraftOf ℕ). placed_entry from x) ee)
    ∙ ap (λ (o : Option Body). part_of c (function_tree g) (option_map body_tree o) from r d) (sym eb)

pub part_read : (c : code.Context) (f : ℕ) (g : Function) (from : Option Caller) (r : Region) (d : DraftOf ℕ) → f < length c.unit.now.functions.items → g ≡ get_or c.unit.now.functions.items f g
    → part_of (context_in c) (function_tree g) (function_tree g).body from r d ≡ part (context_in c) f from r d
unfolding context_in part
part_read c f g from r d lt at =
    ap (λ (o : Option BodyTree). part_of (context_in c) (function_tree g) o from r d) (body_in c.unit.now f g lt at)
    ∙ ap (λ (h : FunctionTree). part_of (context_in c) h (body_of (unit_tree c.unit.now) f) from r d) (function_read c.unit.now f g lt at)

pub part_past : (c : code.Context) (f : ℕ) (from : Option Caller) (r : Region) (d : DraftOf ℕ) → length c.unit.now.functions.items ≤ f → d ≡ part (context_in c) f from r d
unfolding context_in part
part_past c f from r d le = ap (λ (o : Option BodyTree). part_of (context_in c) (function_at (unit_tree c.unit.now) f) o from r d) (body_past c.unit.now f le)
