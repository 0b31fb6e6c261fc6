-- What the part of a path adds to a draft, from where it begins: the regions of its calls lie in it and don't overlap, and points outside it keep their labels.
use Rattle.std.proofs.Common.{◌≡◌, ℕ, ◌+◌, ◌⊎◌, List, [], ◌∷◌, ◌++◌, length, Bool, true, false, if◌then◌else◌, refl, sym, ◌∙◌, subst, inl, inr, arith, Option, Some, None}
use Rattle.pk_ctypes.specs.declared.types.IntType.{IntType}
use Rattle.pk_typed.specs.Trees.{BodyTree, FunctionTree}
use Rattle.pk_calls.specs.declared.listings.Caller.{Caller}
use Rattle.pk_welltyped.specs.Listed.{calls_in_items}
use Rattle.pk_welltyped.specs.WellTyped.{Around, Marks, AreItems}
use Rattle.pk_graph.specs.Trees.{constant, Set, Havoc, Skip}
use Rattle.pk_draft.specs.declared.drafts.Label.{Label}
use Rattle.pk_draft.specs.declared.drafts.Region.{Region}
use Rattle.pk_draft.specs.declared.drafts.Size.{Size}
use Rattle.pk_draft.specs.Drafts.{begun_at, on, standing, fresh, placed, inner, with_object, go, emit}
use Rattle.pk_lower_row.specs.Contexts.{Context, own_result, local_at}
use Rattle.pk_lower.specs.Parts.{entry_parameter, introduced_parameter, all_introduced, with_result, begun, placed_entry, is_main, ended, start_exits, body_draft, part_of}
use Rattle.pk_lower_statement.specs.Statements.{named, lowered_items}
use Rattle.std.specs.Prelude.{pos, slice_set}
use Rattle.std.proofs.lemmas.List.{get_or-set_other, length-set}
use Rattle.pk_draft.specs.Drafts.{no_label}
use Rattle.pk_visits.proofs.Slots.{Draft, Among, label_at}
use Rattle.pk_visits.proofs.Stores.{decided}
use Rattle.pk_visits.proofs.Grows.Expressions.{AllCalled}
use Rattle.pk_visits.proofs.Stands.{Marking}
use Rattle.pk_visits.proofs.Grows.Statements.{Free, Adds, Enlarges, enlarges, path_then, stays_then, nothing_adds, on_adds, link_adds, emit_adds, fresh_adds, named_enlarges, object_enlarges, introduced_enlarges, upto, upto_from, upto_before, upto_has, front_list, fewer_marks, block}

-- ---- the begin of a part

-- nothing leads to the entry, whose point the part makes
abbrev pub entry_marks : Option Caller → Region → List ℕ
entry_marks None r = r.at ∷ []
entry_marks (Some c) r = []

parameter_enlarges : (ms : List ℕ) (C : ℕ → Size → Type 0) (c : Context) (from : Option Caller) (i : ℕ) (d : Draft) → Enlarges ms Free C d (introduced_parameter c from i d)
parameter_enlarges ms C c None i d =
    let x = local_at c i in
    let e = with_object i (entry_parameter x.name x.int_type x.length c.path) d in
    path_then (object_enlarges ms Free C i (entry_parameter x.name x.int_type x.length c.path) d tt) (named_enlarges ms Free C x.name d.variables e)
parameter_enlarges ms C c (Some caller) i d = introduced_enlarges ms Free C c i d tt

pub parameters_enlarge : (ms : List ℕ) (C : ℕ → Size → Type 0) (c : Context) (from : Option Caller) (i : ℕ) (ts : List IntType) (d : Draft) → Enlarges ms Free C d (all_introduced c from i ts d)
unfolding all_introduced
parameters_enlarge ms C c from i [] d = enlarges ms Free C d d (nothing_adds ms Free C d)
parameters_enlarge ms C c from i (t ∷ ts) d = path_then (parameter_enlarges ms C c from i d) (parameters_enlarge ms C c from (i + 1) ts (introduced_parameter c from i d))

result_enlarges : (ms : List ℕ) (C : ℕ → Size → Type 0) (c : Context) (t : Option IntType) (d : Draft) → Enlarges ms Free C d (with_result c t d)
result_enlarges ms C c None d = enlarges ms Free C d d (nothing_adds ms Free C d)
result_enlarges ms C c (Some t) d = object_enlarges ms Free C (length c.locals) (inner None t None c.path) d tt

-- where the file's names and the parameters are in scope
abbrev pub first_label : Context → BodyTree → Label
first_label c b = record { at = b.opened; path = c.path; scope = b.visible }

abbrev pub first_of : Context → BodyTree → Region → Draft → Draft
first_of c b r d = begun_at r (first_label c b) (length c.locals + 1) d

pub begun_enlarges : (ms : List ℕ) (C : ℕ → Size → Type 0) (c : Context) (g : FunctionTree) (b : BodyTree) (from : Option Caller) (r : Region) (d : Draft) → Enlarges ms Free C (first_of c b r d) (begun c g b from r d)
begun_enlarges ms C c g b from r d =
    let f = first_of c b r d in
    path_then (parameters_enlarge ms C c from 0 g.parameters f) (result_enlarges ms C c g.returns (all_introduced c from 0 g.parameters f))

-- names and objects leave the point, how many there are, and the position
abbrev Stays : Draft → Draft → Type 0
Stays d e = (e.point ≡ d.point) × (e.points ≡ d.points) × (e.here.at ≡ d.here.at)

named_stays : (o : Option (List ℕ)) (x : ℕ) (d : Draft) → Stays d (named o x d)
named_stays None x d = (refl, refl, refl)
named_stays (Some n) x d = (refl, refl, refl)

parameter_stays : (c : Context) (from : Option Caller) (i : ℕ) (d : Draft) → Stays d (introduced_parameter c from i d)
parameter_stays c None i d = let x = local_at c i in named_stays x.name d.variables (with_object i (entry_parameter x.name x.int_type x.length c.path) d)
parameter_stays c (Some caller) i d = let x = local_at c i in named_stays x.name d.variables (with_object i (inner x.name x.int_type x.length c.path) d)

parameters_stay : (c : Context) (from : Option Caller) (i : ℕ) (ts : List IntType) (d : Draft) → Stays d (all_introduced c from i ts d)
unfolding all_introduced
parameters_stay c from i [] d = (refl, refl, refl)
parameters_stay c from i (t ∷ ts) d =
    let a = parameter_stays c from i d in
    let b = parameters_stay c from (i + 1) ts (introduced_parameter c from i d) in
    (b.0 ∙ a.0, b.1 ∙ a.1, b.2 ∙ a.2)

result_stays : (c : Context) (t : Option IntType) (d : Draft) → Stays d (with_result c t d)
result_stays c None d = (refl, refl, refl)
result_stays c (Some t) d = (refl, refl, refl)

pub begun_point : (c : Context) (g : FunctionTree) (b : BodyTree) (from : Option Caller) (r : Region) (d : Draft) → (begun c g b from r d).point ≡ r.at
begun_point c g b from r d =
    let f = first_of c b r d in
    (result_stays c g.returns (all_introduced c from 0 g.parameters f)).0 ∙ (parameters_stay c from 0 g.parameters f).0

pub begun_points : (c : Context) (g : FunctionTree) (b : BodyTree) (from : Option Caller) (r : Region) (d : Draft) → (begun c g b from r d).points ≡ r.points
begun_points c g b from r d =
    let f = first_of c b r d in
    (result_stays c g.returns (all_introduced c from 0 g.parameters f)).1 ∙ (parameters_stay c from 0 g.parameters f).1

pub begun_position : (c : Context) (g : FunctionTree) (b : BodyTree) (from : Option Caller) (r : Region) (d : Draft) → (begun c g b from r d).here.at ≡ b.opened
begun_position c g b from r d =
    let f = first_of c b r d in
    (result_stays c g.returns (all_introduced c from 0 g.parameters f)).2 ∙ (parameters_stay c from 0 g.parameters f).2

pub placed_here : (from : Option Caller) (d : Draft) → (placed_entry from d).here ≡ d.here
placed_here None d = refl
placed_here (Some c) d = refl

pub placed_point : (from : Option Caller) (d : Draft) → (placed_entry from d).point ≡ d.point
placed_point None d = refl
placed_point (Some c) d = refl

pub placed_points : (from : Option Caller) (d : Draft) → (placed_entry from d).points ≡ d.points
placed_points None d = refl
placed_points (Some c) d = refl

-- a point that is placed is a mark
placed_enlarges : (ms : List ℕ) (C : ℕ → Size → Type 0) (p : ℕ) (d : Draft) → Among p ms → Enlarges ms Free C d (placed p d)
placed_enlarges ms C p d m = record {
  edges = λ e h. h;
  names = refl;
  variables = omega arith;
  points = omega arith;
  size = length-set d.labels p d.here;
  labels = λ n h. by n (decided n p);
  beyond = λ n h. by n (decided n p);
  regions = λ k. inr refl;
  apart = λ j k n. inl refl;
  paths = refl;
  scopes = λ n z h. h;
  here = refl;
  many = refl;
  made = λ n h. refl;
  unmade = λ n h. refl;
  slots = refl;
  objects = λ n. inr refl;
} where
  by : (n : ℕ) → (n ≡ p) ⊎ (n ≡ p → ⊥) → Among n ms ⊎ (label_at (slice_set d.labels p d.here) n ≡ label_at d.labels n)
  by n (inl e) = inl (subst (λ q. Among q ms) (sym e) m)
  by n (inr h) = inr (get_or-set_other d.labels p n d.here no_label h)

entry_enlarges : (C : ℕ → Size → Type 0) (from : Option Caller) (r : Region) (d : Draft) → d.point ≡ r.at → Enlarges (entry_marks from r) Free C d (placed_entry from d)
entry_enlarges C None r d is = placed_enlarges (r.at ∷ []) C d.point d (inl is)
entry_enlarges C (Some c) r d is = enlarges [] Free C d d (nothing_adds [] Free C d)

-- where the body's items begin, behind the points of its exit and its labels
abbrev pub opened_of : Context → FunctionTree → BodyTree → Option Caller → Region → Draft → Draft
opened_of c g b from r d = fresh (b.labels + 1) (placed_entry from (begun c g b from r d))

pub opened_enlarges : (C : ℕ → Size → Type 0) (c : Context) (g : FunctionTree) (b : BodyTree) (from : Option Caller) (r : Region) (d : Draft) → Enlarges (entry_marks from r) Free C (first_of c b r d) (opened_of c g b from r d)
opened_enlarges C c g b from r d =
    let ms = entry_marks from r in
    let e = begun c g b from r d in
    let f = placed_entry from e in
    path_then (begun_enlarges ms C c g b from r d) (path_then (entry_enlarges C from r e (begun_point c g b from r d)) (enlarges ms Free C f (fresh (b.labels + 1) f) (fresh_adds ms Free C (b.labels + 1) f)))

-- ---- its body

-- the marks of a body are its labels
pub marking_body : (m : Marks) (n p : ℕ) (ms : List ℕ) → m.labels ≡ n → m.cases ≡ 0 → m.has_default ≡ false → Marking (start_exits p) m (upto (n + 1) p ++ ms)
marking_body m n p ms labels cases default = record {
  labels = λ l h. subst (λ q. Among q (upto (n + 1) p ++ ms)) (omega arith) (front_list (upto (n + 1) p) ms (p + (1 + l)) (upto_has (n + 1) p (1 + l) (omega (arith, h, labels))));
  cases = λ i h. absurd (omega (arith, h, cases));
  default = λ h. absurd (let e = sym default ∙ h in grind (arith, e));
}

ended_adds : (ms : List ℕ) (S : ℕ → Type 0) (C : ℕ → Size → Type 0) (c : Context) (name : List ℕ) (t : Option IntType) (d : Draft) → Adds ms S C d (ended c name t d)
ended_adds ms S C c name None d = nothing_adds ms S C d
ended_adds ms S C c name (Some t) d = by (is_main name) where
  by : (b : Bool) → Adds ms S C d (if b then emit (Set (own_result c d) (constant t (pos 0))) d else emit (Havoc (own_result c d) t 1) d)
  by true = emit_adds ms S C (Set (own_result c d) (constant t (pos 0))) d
  by false = emit_adds ms S C (Havoc (own_result c d) t 1) d

-- at another label of the path
standing_enlarges : (ms : List ℕ) (C : ℕ → Size → Type 0) (l : Label) (d e : Draft) → l.path ≡ d.here.path → Enlarges ms Free C d e → Enlarges ms Free C d (standing l e)
standing_enlarges ms C l d e is a = record {
  edges = a.edges;
  names = a.names;
  variables = a.variables;
  points = a.points;
  size = a.size;
  labels = a.labels;
  beyond = a.beyond;
  regions = a.regions;
  apart = a.apart;
  paths = a.paths;
  scopes = a.scopes;
  here = is;
  many = a.many;
  made = a.made;
  unmade = a.unmade;
  slots = a.slots;
  objects = a.objects;
}

-- behind its items, to its exit
pub closed_adds : (ms : List ℕ) (S : ℕ → Type 0) (C : ℕ → Size → Type 0) (c : Context) (g : FunctionTree) (b : BodyTree) (q : ℕ) (d : Draft) → Adds ms S C d (go Skip q (ended c g.name g.returns (on b.closed d)))
closed_adds ms S C c g b q d =
    let o = on b.closed d in
    stays_then (on_adds ms S C b.closed d) (stays_then (ended_adds ms S C c g.name g.returns o) (link_adds ms S C Skip q (ended c g.name g.returns o)))

-- a body from between its braces
body_enlarges : (ms : List ℕ) (C : ℕ → Size → Type 0) (c : Context) (g : FunctionTree) (b : BodyTree) (a : Around) (m : Marks) (d : Draft) → AreItems a m b.items → m.labels ≡ b.labels → m.cases ≡ 0 → m.has_default ≡ false → AllCalled C c (calls_in_items b.items)
    → Enlarges ms Free C d (body_draft c g b d)
unfolding body_draft
body_enlarges ms C c g b a m d fits labels cases default called =
    let x = start_exits d.points in
    let ys = upto (b.labels + 1) d.points in
    let o = fresh (b.labels + 1) d in
    let e = lowered_items c b.items x o in
    let all = ys ++ ms in
    let f = standing d.here e in
    let opens : Enlarges all Free C d o = enlarges all Free C d o (fresh_adds all Free C (b.labels + 1) d) in
    let items : Enlarges all Free C o e = block C c a m b.items x all Free (λ i h. tt) fits (marking_body m b.labels d.points ms labels cases default) called o in
    let back : Enlarges all Free C d f = standing_enlarges all C d.here d e refl (path_then opens items) in
    let rest : Enlarges all Free C f (body_draft c g b d) = enlarges all Free C f (body_draft c g b d) (closed_adds all Free C c g b d.points f) in
    let whole : Enlarges all Free C d (body_draft c g b d) = path_then back rest in
    let i = items.points in
    let j = rest.points in
    fewer_marks ms ys d (body_draft c g b d) (λ q h. let y = upto_from (b.labels + 1) d.points q h in let z = upto_before (b.labels + 1) d.points q h in (omega (arith, y), omega (arith, z, i, j))) whole

-- What a path's part adds: its calls take regions of its own, and no label but the entry's changes outside.
pub part_enlarges : (C : ℕ → Size → Type 0) (c : Context) (g : FunctionTree) (b : BodyTree) (from : Option Caller) (r : Region) (a : Around) (m : Marks) (d : Draft)
    → AreItems a m b.items → m.labels ≡ b.labels → m.cases ≡ 0 → m.has_default ≡ false → AllCalled C c (calls_in_items b.items) → Enlarges (entry_marks from r) Free C (first_of c b r d) (part_of c g (Some b) from r d)
part_enlarges C c g b from r a m d fits labels cases default called =
    let ms = entry_marks from r in
    let e = begun c g b from r d in
    path_then (begun_enlarges ms C c g b from r d) (path_then (entry_enlarges C from r e (begun_point c g b from r d)) (body_enlarges ms C c g b a m (placed_entry from e) fits labels cases default called))
