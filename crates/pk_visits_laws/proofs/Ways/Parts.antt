-- The part of a path, from where it begins to its exit.
use Rattle.std.proofs.Common.{◌≡◌, ℕ, ◌+◌, ◌<◌, ◌≤◌, List, [], ◌∷◌, length, Bool, true, false, if◌then◌else◌, Option, Some, None, refl, ap, ◌∙◌, subst, inr, arith}
use Rattle.std.specs.Prelude.{pos}
use Rattle.pk_ctypes.specs.declared.types.IntType.{IntType}
use Rattle.pk_typed.specs.Trees.{BodyTree, FunctionTree}
use Rattle.pk_calls.specs.declared.listings.Caller.{Caller}
use Rattle.pk_welltyped.specs.Listed.{calls_in_items}
use Rattle.pk_welltyped.specs.WellTyped.{Around, Marks, AreItems}
use Rattle.pk_graph.specs.Trees.{constant, Skip, Set, Havoc}
use Rattle.pk_draft.specs.declared.drafts.Region.{Region}
use Rattle.pk_draft.specs.Drafts.{DraftOf, begun_at, on, standing, fresh, inner, with_object, go, emit}
use Rattle.pk_lower_row.specs.Contexts.{Context, own_result, local_at}
use Rattle.pk_lower_statement.specs.Statements.{named, lowered_items}
use Rattle.pk_lower_statement.specs.declared.statements.Exits.{Exits}
use Rattle.pk_lower.specs.Parts.{entry_parameter, introduced_parameter, all_introduced, with_result, begun, placed_entry, is_main, ended, start_exits, body_draft, part_of}
use Rattle.pk_welltyped.specs.Marks.{times_in, IsMarked}
use Rattle.pk_meaning.specs.Steps.{Mark, labelled, numbered, otherwise}
use Rattle.pk_visits.proofs.Grows.Statements.{IsMark}
use Rattle.pk_visits.proofs.Settled.Trees.{mark_point}
use Rattle.pk_visits.proofs.Settled.Bodies.{labels_of}
use Rattle.pk_visits.proofs.Slots.{Never}
use Rattle.pk_visits_laws.proofs.Ways.Goes.{GoesBy, goes_then, going_on}
use Rattle.pk_visits_laws.proofs.Ways.Rows.{Goes, goes_refl, emit_goes}
use Rattle.pk_visits_laws.proofs.Ways.Expressions.{Sized}
use Rattle.pk_visits_laws.proofs.Ways.Loops.{linked, from_fresh}
use Rattle.pk_visits_laws.proofs.Ways.MarkPoints.{Stood, AreApart}
use Rattle.pk_visits_laws.proofs.Ways.Statements.{items_go}

-- ---- where it begins

-- names and objects leave the point, the points, the edges and the regions
abbrev pub Stays : {V : Type 0} → DraftOf V → DraftOf V → Type 0
Stays d e = (e.point ≡ d.point) × (e.points ≡ d.points) × (e.edges ≡ d.edges) × (e.regions ≡ d.regions)

named_stays : {V : Type 0} (o : Option (List ℕ)) (x : ℕ) (d : DraftOf V) → Stays d (named o x d)
named_stays None x d = (refl, refl, refl, refl)
named_stays (Some n) x d = (refl, refl, refl, refl)

parameter_stays : {V : Type 0} (c : Context) (from : Option Caller) (i : ℕ) (d : DraftOf V) → Stays d (introduced_parameter c from i d)
parameter_stays c None i d = let x = local_at c i in named_stays x.name d.variables (with_object i (entry_parameter x.name x.int_type x.length c.path) d)
parameter_stays c (Some caller) i d = let x = local_at c i in named_stays x.name d.variables (with_object i (inner x.name x.int_type x.length c.path) d)

stays_then : {V : Type 0} (d e f : DraftOf V) → Stays d e → Stays e f → Stays d f
stays_then d e f a b = (b.0 ∙ a.0, b.1 ∙ a.1, b.2 ∙ a.2, b.3 ∙ a.3)

parameters_stay : {V : Type 0} (c : Context) (from : Option Caller) (i : ℕ) (ts : List IntType) (d : DraftOf V) → Stays d (all_introduced c from i ts d)
unfolding all_introduced
parameters_stay c from i [] d = (refl, refl, refl, refl)
parameters_stay c from i (t ∷ ts) d =
    let e = introduced_parameter c from i d in stays_then d e (all_introduced c from (i + 1) ts e) (parameter_stays c from i d) (parameters_stay c from (i + 1) ts e)

result_stays : {V : Type 0} (c : Context) (t : Option IntType) (d : DraftOf V) → Stays d (with_result c t d)
result_stays c None d = (refl, refl, refl, refl)
result_stays c (Some t) d = (refl, refl, refl, refl)

entry_stays : {V : Type 0} (from : Option Caller) (d : DraftOf V) → Stays d (placed_entry from d)
entry_stays None d = (refl, refl, refl, refl)
entry_stays (Some c) d = (refl, refl, refl, refl)

pub begun_stays : {V : Type 0} (c : Context) (g : FunctionTree) (b : BodyTree) (from : Option Caller) (r : Region) (d : DraftOf V)
    → Stays (begun_at r (record { at = b.opened; path = c.path; scope = b.visible }) (length c.locals + 1) d) (placed_entry from (begun c g b from r d))
begun_stays c g b from r d =
    let f = begun_at r (record { at = b.opened; path = c.path; scope = b.visible }) (length c.locals + 1) d in
    let i = all_introduced c from 0 g.parameters f in
    let e = with_result c g.returns i in
    stays_then f e (placed_entry from e) (stays_then f i e (parameters_stay c from 0 g.parameters f) (result_stays c g.returns i)) (entry_stays from e)

-- ---- its body

ended_goes : {V : Type 0} (z : ℕ → ℕ) (c : Context) (name : List ℕ) (t : Option IntType) (d : DraftOf V) → Goes z d (ended c name t d)
ended_goes z c name None d = goes_refl z d
ended_goes {V} z c name (Some t) d = by (is_main name) where
  by : (b : Bool) → Goes z d (if b then emit (Set (own_result c d) (constant t (pos 0))) d else emit (Havoc (own_result c d) t 1) d)
  by true = emit_goes z (Set (own_result c d) (constant t (pos 0))) d
  by false = emit_goes z (Havoc (own_result c d) t 1) d

-- its labels are apart
labels_apart : (b : BodyTree) (r : Option IntType) (n q : ℕ) → n + (b.labels + 1) ≤ q → IsMarked b → AreApart (start_exits n) (labels_of b r) (λ k. times_in k b.items) q
labels_apart b r n q room marked = record { once = once; apart = apart; below = below } where
  m : Marks
  m = labels_of b r

  x : Exits
  x = start_exits n

  once : (i : Mark) → IsMark m i → times_in i b.items ≤ 1
  once (labelled l) is = let z = marked.labels l is in omega (arith, z)
  once (numbered i) is = absurd (omega (arith, is))
  once otherwise is = absurd (grind (arith, is))

  apart : (i j : Mark) → IsMark m i → IsMark m j → mark_point i x ≡ mark_point j x → i ≡ j
  apart (labelled i) (labelled j) is also same = ap (λ l. labelled l) (omega (arith, same))
  apart (labelled i) (numbered j) is also same = absurd (omega (arith, also))
  apart (labelled i) otherwise is also same = absurd (grind (arith, also))
  apart (numbered i) j is also same = absurd (omega (arith, is))
  apart otherwise j is also same = absurd (grind (arith, is))

  below : (i : Mark) → IsMark m i → mark_point i x < q
  below (labelled l) is = omega (arith, is, room)
  below (numbered i) is = absurd (omega (arith, is))
  below otherwise is = absurd (grind (arith, is))

-- and new points behind its exit
label_point : (b : BodyTree) (r : Option IntType) (n q : ℕ) → Stood (start_exits n) (labels_of b r) (λ k. times_in k b.items) q → (n < q) × (q < n + (b.labels + 1))
label_point b r n q (labelled l, is, some, at) = (omega (arith, at), omega (arith, at, is))
label_point b r n q (numbered i, is, some, at) = absurd (omega (arith, is))
label_point b r n q (otherwise, is, some, at) = absurd (grind (arith, is))

body_goes : {V : Type 0} (z : ℕ → ℕ) (c : Context) (g : FunctionTree) (b : BodyTree) (a : Around) (d : DraftOf V) → AreItems a (labels_of b g.returns) b.items → IsMarked b → Sized z c (calls_in_items b.items) → Goes z d (body_draft c g b d)
unfolding body_draft
body_goes {V} z c g b a d fits marked called =
    let n = d.points in
    let x = start_exits n in
    let m = labels_of b g.returns in
    let L = Stood x m (λ k. times_in k b.items) in
    let o = fresh (b.labels + 1) d in
    let e = lowered_items c b.items x o in
    let f = on b.closed (standing d.here e) in
    let i = ended c g.name g.returns f in
    going_on {L = L} (b.labels + 1) n (omega arith) (omega arith) (λ k. let j = (label_point b g.returns n n k).0 in absurd (omega (arith, j))) (λ q k. let j = label_point b g.returns n q k in let l = j.0 in inr (omega (arith, l), j.1))
    (from_fresh z L (b.labels + 1) d (go Skip n i) (linked z L n o i (goes_then {M = L} {N = Never} {L = L} (λ q k. k) (λ q k. absurd k) (λ q k j. j) (items_go V z c a m b.items x o fits marked.cases called (labels_apart b g.returns n o.points (omega arith) marked)) (ended_goes z c g.name g.returns f))))

-- From where its region says, it goes on at its exit.
pub part_goes : {V : Type 0} (z : ℕ → ℕ) (c : Context) (g : FunctionTree) (b : BodyTree) (from : Option Caller) (r : Region) (a : Around) (d : DraftOf V) → AreItems a (labels_of b g.returns) b.items → IsMarked b → Sized z c (calls_in_items b.items)
    → let e = part_of c g (Some b) from r d in GoesBy z Never r.at r.points d.edges d.regions r.points e.points e.edges e.regions
unfolding body_draft
part_goes {V} z c g b from r a d fits marked called =
    let e = part_of c g (Some b) from r d in
    let f = placed_entry from (begun c g b from r d) in
    let s = begun_stays c g b from r d in
    subst (λ p. GoesBy z Never p r.points d.edges d.regions r.points e.points e.edges e.regions) s.0
    (subst (λ n. GoesBy z Never f.point n d.edges d.regions n e.points e.edges e.regions) s.1
    (subst (λ es. GoesBy z Never f.point f.points es d.regions f.points e.points e.edges e.regions) s.2
    (subst (λ rs. GoesBy z Never f.point f.points f.edges rs f.points e.points e.edges e.regions) s.3 (body_goes z c g b a f fits marked called))))
