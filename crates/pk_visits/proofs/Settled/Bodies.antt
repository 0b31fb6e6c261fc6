-- Declarations and marks are settled in a body that is lowered.
use Rattle.std.proofs.Common.{◌≡◌, ℕ, ◌+◌, ◌<◌, ◌≤◌, ◌⊎◌, List, [], ◌∷◌, ◌++◌, length, Bool, true, false, if◌then◌else◌, refl, sym, ap, ◌∙◌, subst, inl, inr, arith, ℤ, Option, Some, None}
use Rattle.std.proofs.lemmas.List.{get_or-set_same}
use Rattle.pk_ctypes.specs.declared.places.Pos.{Pos}
use Rattle.pk_ctypes.specs.declared.types.IntType.{IntType}
use Rattle.pk_typed.specs.Trees.{ValueTree, EffectTree, DeclaredTree, ForStartTree, StatementTree, ItemTrees, BodyTree}
use Rattle.pk_typed.specs.Trees as tree
use Rattle.pk_welltyped.specs.Listed.{Numbered, objects_in_declared, objects_in_all_declared, objects_at_start, objects_in, objects_in_items, calls_in, calls_if, calls_in_effect_if, calls_in_declared, calls_in_all_declared, calls_at_start, calls_in_statement, calls_in_items}
use Rattle.pk_welltyped.specs.WellTyped
use Rattle.pk_welltyped.specs.WellTyped.{Around, behind, Marks, IsDeclared, AreDeclared, IsForStart, IsStatement, AreItems}
use Rattle.pk_graph.specs.declared.trees.Site.{Site}
use Rattle.pk_graph.specs.Trees.{Skip}
use Rattle.pk_draft.specs.declared.drafts.Label.{Label}
use Rattle.pk_draft.specs.declared.drafts.Size.{Size}
use Rattle.pk_draft.specs.Drafts.{Given, at, on, fresh, in_scope, go, come, inner, with_object}
use Rattle.pk_draft.specs.Folding.{conversion}
use Rattle.pk_typed.specs.Types.{type_of}
use Rattle.pk_lower_row.specs.declared.shapes.Waiting.TheVariants.{Strong}
use Rattle.pk_lower_row.specs.Shapes.{converted_shape, shape_of}
use Rattle.pk_lower_row.specs.Contexts.{Context, callee, size_in, site, local_at}
use Rattle.pk_lower_row.specs.Rows.{Ways, operand}
use Rattle.pk_lower_expression.specs.Expressions.{ways}
use Rattle.pk_lower_statement.specs.declared.statements.Exits.{Exits}
use Rattle.pk_lower_statement.specs.Statements as statements
use Rattle.pk_lower_statement.specs.Statements.{named, introduced, declared, all_declared, inside, in_switch, branching, meeting, if_draft, loop_begun, case_tests, tested, switch_begun, performed_if, for_start, for_test, lowered, lowered_items}
use Rattle.pk_welltyped.specs.Marks as Marks
use Rattle.pk_welltyped.specs.Marks.{one_if, times, times_in, HasCases, HaveCases, HasTargets, HaveTargets, IsMarked}
use Rattle.pk_meaning.specs.Programs.{block_of}
use Rattle.pk_meaning.specs.Work.{Place}
use Rattle.pk_meaning.specs.Steps.{Mark, labelled, numbered, otherwise, is_label, is_case, is_default}
use Rattle.pk_visits.proofs.Slots.{Slot, Draft, Keeps, Grows, Among, label_at, object_at}
use Rattle.pk_visits.specs.Turns.{turns_in, turns_in_items}
use Rattle.pk_visits.proofs.Settled.Trees.{Final, AllTurn, front_turn, back_turn, IsNext, IsSettled, AreAllSettled, IsSettledStart, Settles, SettleAll, mark_point}
use Rattle.pk_visits.proofs.Stands.{Whole, Stage, context_of, final, around}
use Rattle.pk_visits.proofs.Grows.Rows.{WaysGrow, grows_trans, held_grows}
use Rattle.pk_visits.proofs.Grows.Expressions.{AllCalled, values, front_called, back_called}
use Rattle.pk_visits.proofs.Stages.{Forth, forth, forth_here, forth_then, Later, later_of, made_unmarked}
use Rattle.pk_visits.proofs.Grows.Statements.{OnPath, Stays, Marked, Adds, enlarges, stays_then, path_then, Free, IsMark, all_among, start_free, on_adds, fresh_adds, begun_adds, link_adds, away_adds, case_adds, choice_adds, meeting_adds, placing, declared_free, scalar_first_grows, array_first_grows, declared_enlarges, all_declared_enlarges, start_enlarges, third_enlarges, test_adds, label_once, case_once, begun_switch_adds, begun_switch_points, upto}
use Rattle.pk_visits.proofs.Steps.Locals.{items_fit}
use Rattle.pk_visits.proofs.Steps.Kept.{others, Sized, Spares, AreBelow, statement_spares, block_spares, statement_grown, statement_forth, nothing_spares, Known, part_known, rest_known, known_inside, below_inside, marked_here}

-- ---- declared objects

kept_object : {R : Label → Label → Type 0} {M : ℕ → Type 0} {C : ℕ → Size → Type 0} (k i : ℕ) (d e : Draft) → Keeps R M (λ j. k ≤ j) C d e → i < k → object_at e.objects i ≡ object_at d.objects i
kept_object k i d e h lt = by (h.objects i) where
  by : (k ≤ i) ⊎ (object_at e.objects i ≡ object_at d.objects i) → object_at e.objects i ≡ object_at d.objects i
  by (inl le) = absurd (omega (arith, lt, le))
  by (inr same) = same

grown_object : {C : ℕ → Size → Type 0} (i : ℕ) (d e : Draft) → Grows C d e → object_at e.objects i ≡ object_at d.objects i
grown_object i d e h = by (h.objects i) where
  by : {A : Type 0} → ⊥ ⊎ A → A
  by (inl a) = absurd a
  by (inr a) = a

named_objects : (o : Option (List ℕ)) (v : ℕ) (d : Draft) → (named o v d).objects ≡ d.objects
named_objects None v d = refl
named_objects (Some name) v d = refl

introduced_object : (c : Context) (i : ℕ) (d : Draft) → i < length d.objects → object_at (introduced c i d).objects i ≡ d.variables
introduced_object c i d lt =
    let x = local_at c i in
    ap (λ os. object_at os i) (named_objects x.name d.variables (with_object i (inner x.name x.int_type x.length c.path) d)) ∙ get_or-set_same d.objects i d.variables 0 lt

-- the object whose variable was next keeps it to the end
own_settled : (o : Final) (d e : Draft) (os : List ℕ) (i n : ℕ) → i ≡ n → (n < o.objects) × (o.numbers n ≡ object_at os n) → object_at os n ≡ object_at e.objects n → object_at e.objects i ≡ d.variables → IsNext o i d
own_settled o d e os i n is final kept here = (subst (λ j. j < o.objects) (sym is) final.0, ap o.numbers is ∙ (final.1 ∙ (kept ∙ (ap (object_at e.objects) (sym is) ∙ here))))

-- where objects keep their variables to the end
next_settled : (C : ℕ → Size → Type 0) (o : Final) (c : Context) (a : Around) (v : DeclaredTree) (d : Draft) (os : List ℕ) → IsDeclared a v → AllCalled C c (calls_in_declared v)
    → ((i : ℕ) → a.objects ≤ i → i < a.objects + objects_in_declared v → ((i < o.objects) × (o.numbers i ≡ object_at os i)) × (object_at os i ≡ object_at (declared c v d).objects i) × (i < length d.objects)) → IsSettled o v d
next_settled C o c a (tree.scalar_object i p e) d os fits called final =
    let z = final a.objects (omega arith) (omega arith) in
    let f = introduced c i (on p d) in
    own_settled o d (statements.scalar_first c i e f) os i a.objects fits.0 z.0 z.1
    (grown_object i f (statements.scalar_first c i e f) (scalar_first_grows C c i e f called) ∙ introduced_object c i (on p d) (subst (λ j. j < length d.objects) (sym fits.0) z.2))
next_settled C o c a (tree.array_object i p es) d os fits called final =
    let z = final a.objects (omega arith) (omega arith) in
    let f = introduced c i (on p d) in
    own_settled o d (statements.array_first c i es f) os i a.objects fits.0 z.0 z.1
    (grown_object i f (statements.array_first c i es f) (array_first_grows C c i es f called) ∙ introduced_object c i (on p d) (subst (λ j. j < length d.objects) (sym fits.0) z.2))
next_settled C o c a (tree.static_object i p) d os fits called final = tt
next_settled C o c a (tree.hiding_constant x p) d os fits called final = tt

all_settled : (C : ℕ → Size → Type 0) (o : Final) (c : Context) (vs : List DeclaredTree) (a : Around) (d : Draft) → AreDeclared a vs → AllCalled C c (calls_in_all_declared vs)
    → ((i : ℕ) → a.objects ≤ i → i < a.objects + objects_in_all_declared vs → (i < o.objects) × (o.numbers i ≡ object_at (all_declared c vs d).objects i)) → a.objects + objects_in_all_declared vs ≤ length d.objects → AreAllSettled o c vs d
unfolding all_declared AreAllSettled
all_settled C o c [] a d fits called final room = tt
all_settled C o c (v ∷ vs) a d fits called final room =
    let n = a.objects in
    let one = objects_in_declared v in
    let e = declared c v d in
    let called_v = front_called C c (calls_in_declared v) (calls_in_all_declared vs) called in
    let called_vs = back_called C c (calls_in_declared v) (calls_in_all_declared vs) called in
    let first = declared_enlarges [] Free C c v d (declared_free v) called_v in
    let rest = all_declared_enlarges [] (λ i. n + one ≤ i) C c vs e (all_among (λ i. n + one ≤ i) vs (behind one a) fits.1 (λ i h. h)) called_vs in
    let size = first.slots in (
      next_settled C o c a v d (all_declared c vs e).objects fits.0 called_v (λ i low high. (final i low (omega (arith, high)), kept_object (n + one) i e (all_declared c vs e) rest high, omega (arith, room, high))),
      all_settled C o c vs (behind one a) e fits.1 called_vs (λ i low high. final i (omega (arith, low)) (omega (arith, high))) (omega (arith, room, size)),
    )

-- ---- branches

-- how regions are taken up to the branches
branching_adds : (g : Whole) (q : Pos) (w : Ways Slot) (d : Draft) → WaysGrow (Sized g) w → Adds [] Free (Sized g) d (branching q w d)
branching_adds g q w d grow =
    let o = on q d in
    stays_then (on_adds [] Free (Sized g) q d) (stays_then (fresh_adds [] Free (Sized g) 2 o) (choice_adds [] Free (Sized g) w grow d.points (d.points + 1) (fresh 2 o)))

-- what is known of the branches of an `if`
first_known : (g : Whole) (o : Final) (x : Exits) (m : Marks) (v t u : Mark → ℕ) (n k j : ℕ) (q : Pos) (w : Ways Slot) (a b : Draft → Draft) (d : Draft) → WaysGrow (Sized g) w
    → Known g o x m v n j d (if_draft q w a b d) → ((c : Mark) → t c + u c ≤ v c) → k ≤ j → (branching q w d).points ≤ (a (branching q w d)).points
    → Spares Stays g x m u (n + k) d.points (at (d.points + 1) (a (branching q w d))) (b (at (d.points + 1) (a (branching q w d)))) → Known g o x m t n k (branching q w d) (a (branching q w d))
first_known g o x m v t u n k j q w a b d grow h each many le rest =
    let f = branching q w d in
    let e = a f in
    let r = b (at (d.points + 1) e) in
    part_known g o x m v t u n k n j d f e (meeting q e.point r) h each (omega arith) (omega (arith, many)) (forth g (λ i z y. y) (branching_adds g q w d grow)) le (λ y unset. stays_then (rest y unset) (meeting_adds _ _ (Sized g) q e.point r))

second_known : (g : Whole) (o : Final) (x : Exits) (m : Marks) (v u : Mark → ℕ) (n k j : ℕ) (q : Pos) (w : Ways Slot) (a b : Draft → Draft) (d : Draft) → WaysGrow (Sized g) w
    → Known g o x m v n (k + j) d (if_draft q w a b d) → ((c : Mark) → u c ≤ v c) → Forth g (branching q w d) (a (branching q w d))
    → (a (branching q w d)).points ≤ (b (at (d.points + 1) (a (branching q w d)))).points → Known g o x m u (n + k) j (at (d.points + 1) (a (branching q w d))) (b (at (d.points + 1) (a (branching q w d))))
second_known g o x m v u n k j q w a b d grow h each first le =
    let f = branching q w d in
    let e = at (d.points + 1) (a f) in
    let r = b e in
    part_known g o x m v u (λ c. 0) (n + k) j n (k + j) d e r (meeting q (a f).point r) h (λ c. let z = each c in omega (arith, z)) (omega arith) (omega arith) (forth_then g (forth g (λ i z y. y) (branching_adds g q w d grow)) first) le
    (λ y unset. meeting_adds _ _ (Sized g) q (a f).point r)

-- ---- switches

one_small : (b : Bool) → one_if b ≤ 1
one_small true = omega arith
one_small false = omega arith

room_for : (b : Bool) → b ≡ true → one_if b ≡ 1
room_for true is = refl
room_for false is = absurd (grind (arith, is))

numbered_is : {i j : ℕ} → i ≡ j → numbered i ≡ numbered j
numbered_is e = ap (λ k. numbered k) e

-- the draft behind a switch's value, with its new points
abbrev opened : List ℤ → Bool → Draft → Draft
opened zs b d = fresh (1 + length zs + (if b then 1 else 0)) d

switch_known : (g : Whole) (o : Final) (x : Exits) (m : Marks) (t : Mark → ℕ) (n k : ℕ) (r : Site) (y : IntType) (zs : List ℤ) (b : Bool) (d : Draft) (v : Given Slot) (e : Draft) → Known g o x m (λ c. Marks.in_switch c (t c)) n k d e
    → ((i : ℕ) → i < length zs → t (numbered i) ≡ 1) → t otherwise ≡ one_if b → Forth g d v.1
    → (AreBelow (in_switch v.1.points (length zs) x) (WellTyped.in_switch (length zs) b m) (switch_begun r y zs b v).points → Adds (upto (switch_begun r y zs b v).points 0) Free (Sized g) (switch_begun r y zs b v) e)
    → Known g o (in_switch v.1.points (length zs) x) (WellTyped.in_switch (length zs) b m) t n k (switch_begun r y zs b v) e
switch_known g o x m t n k r y zs b d v e h each default valued body = record {
  once = once;
  apart = apart;
  below = below;
  labels = labels;
  points = λ i c ts q first last later low high. h.points i c ts q (forth_then g begun first) last later low high;
  objects = h.objects;
  room = h.room;
  slots = h.slots;
  left = let z = h.left in let y = begun.points in omega (arith, z, y);
} where
  p : ℕ
  p = v.1.points

  s : Exits
  s = in_switch p (length zs) x

  c : Marks
  c = WellTyped.in_switch (length zs) b m

  begun : Forth g d (switch_begun r y zs b v)
  begun = forth_then g valued (forth g (λ i z a. a) (begun_switch_adds [] Free (Sized g) r y zs b v))

  many : p + length zs + 1 < (switch_begun r y zs b v).points
  many = begun_switch_points [] Free (Sized g) r y zs b v

  once : (a : Mark) → IsMark c a → t a ≤ 1
  once (labelled l) is = h.once (labelled l) is
  once (numbered i) is = let z = each i is in omega (arith, z)
  once otherwise is = let z = one_small b in omega (arith, z, default)

  below : AreBelow s c (switch_begun r y zs b v).points
  below (labelled l) is = let z = h.below (labelled l) is in let u = begun.points in omega (arith, z, u)
  below (numbered i) is = omega (arith, is, many)
  below otherwise is = omega (arith, many)

  low : (l : ℕ) → l < m.labels → x.labels + l < p
  low l is = let z = h.below (labelled l) is in let u = valued.points in omega (arith, z, u)

  apart : (a d : Mark) → IsMark c a → IsMark c d → mark_point a s ≡ mark_point d s → a ≡ d
  apart (labelled l) (labelled i) is also same = h.apart (labelled l) (labelled i) is also same
  apart (labelled l) (numbered i) is also same = let z = low l is in absurd (omega (arith, z, same))
  apart (labelled l) otherwise is also same = let z = low l is in absurd (omega (arith, z, same))
  apart (numbered i) (labelled l) is also same = let z = low l also in absurd (omega (arith, z, same))
  apart (numbered i) (numbered j) is also same = numbered_is (omega (arith, same))
  apart (numbered i) otherwise is also same = absurd (omega (arith, is, same))
  apart otherwise (labelled l) is also same = let z = low l also in absurd (omega (arith, z, same))
  apart otherwise (numbered i) is also same = absurd (omega (arith, also, same))
  apart otherwise otherwise is also same = refl

  opens : Adds (upto (switch_begun r y zs b v).points 0) Free (Sized g) (opened zs b v.1) e
  opens =
      let to = if b then p + 1 + length zs else p in
      let f = case_tests r y v.0 zs (p + 1) (opened zs b v.1) in
      stays_then (case_adds _ Free (Sized g) r y v.0 zs (p + 1) (opened zs b v.1)) (stays_then (away_adds _ Free (Sized g) to f) (body below))

  later : Later (opened zs b v.1).points v.1.regions e.regions
  later = subst (λ ts. Later (opened zs b v.1).points ts e.regions) (placing (1 + length zs + (if b then 1 else 0)) p v.1).regions (later_of (opened zs b v.1).regions e.regions opens.regions)

  -- the points of the cases and the default keep their labels
  new : (q : ℕ) → p ≤ q → q < (opened zs b v.1).points → label_at o.labels q ≡ label_at e.labels q
  new q from to = h.points p (opened zs b v.1).points v.1.regions q valued opens.points later from to

  labels : (a : Mark) → IsMark c a → (t a ≡ 0 → ⊥) → label_at o.labels (mark_point a s) ≡ label_at e.labels (mark_point a s)
  labels (labelled l) is some = h.labels (labelled l) is some
  labels (numbered i) is some = new (p + 1 + i) (omega arith) (omega (arith, is))
  labels otherwise is some = new (p + 1 + length zs) (omega arith) (let z = room_for b is in omega (arith, z))

-- behind its value
value_forth : (g : Whole) (c : Context) (t : IntType) (e : ValueTree) (d : Draft) → AllCalled (Sized g) c (calls_in e) → Forth g d (tested t (operand e (ways c e)) d).1
value_forth g c t e d called =
    let r = (ways c e).value d in
    forth g (λ i z y. y) (grows_trans ((values (Sized g) c e called).value d) (held_grows (Sized g) Strong (converted_shape (type_of e) t (shape_of e)) t (conversion (type_of e) t r.0, r.1)))

-- ---- loops

-- behind the body of a `do`, of a `for`
do_spares : (g : Whole) (x : Exits) (m : Marks) (q : Pos) (w : Ways Slot) → WaysGrow (Sized g) w → (k b e n p : ℕ) (d : Draft) → Spares Stays g x m (λ c. 0) n p d (w.choice b e (on q (go Skip k d)))
do_spares g x m q w grow k b e n p d y unset =
    let r = go Skip k d in
    let ms = others y p in
    let S = λ (i : ℕ). n ≤ i in
    stays_then (link_adds ms S (Sized g) Skip k d) (stays_then (on_adds ms S (Sized g) q r) (choice_adds ms S (Sized g) w grow b e (on q r)))

for_spares : (g : Whole) (x : Exits) (m : Marks) (c : Context) (q : Pos) (third : Option EffectTree) → AllCalled (Sized g) c (calls_in_effect_if third) → (k s h n p : ℕ) (d : Draft)
    → Spares OnPath g x m (λ b. 0) n p d (go Skip h (performed_if c third (in_scope s (on q (go Skip k d)))))
for_spares g x m c q third called k s h n p d y unset =
    let ms = others y p in
    let S = λ (i : ℕ). n ≤ i in
    path_then (enlarges ms S (Sized g) d (go Skip k d) (link_adds ms S (Sized g) Skip k d)) (third_enlarges ms S (Sized g) c q third called s h (go Skip k d))

-- the first part of a `for`
start_settled : (C : ℕ → Size → Type 0) (o : Final) (c : Context) (start : ForStartTree) (a : Around) (d : Draft) → IsForStart a start → AllCalled C c (calls_at_start start)
    → ((i : ℕ) → a.objects ≤ i → i < a.objects + objects_at_start start → (i < o.objects) × (o.numbers i ≡ object_at (for_start c start d).objects i)) → a.objects + objects_at_start start ≤ length d.objects → IsSettledStart o c start d
start_settled C o c (tree.declarations vs) a d fits called final room = all_settled C o c vs a d fits called final room
start_settled C o c (tree.expression e) a d fits called final room = tt

-- ---- statements

-- Of exits: jumps out of what is around lead elsewhere than to the function's, and each label of the function stands once.
pub record Jumping (o : Final) (x : Exits) (m : Marks) (bs cs : Bool) : Type 0 where
  pub broken : bs ≡ true → x.broken ≡ x.left → ⊥
  pub continued : cs ≡ true → x.continued ≡ x.left → ⊥
  pub labels : (l : ℕ) → l < m.labels → times_in (labelled l) o.items ≡ 1

jumps_inside : (o : Final) (x : Exits) (m : Marks) (bs cs : Bool) (b k : ℕ) → x.left < b → x.left < k → Jumping o x m bs cs → Jumping o (inside b k x) m true true
jumps_inside o x m bs cs b k low also j = record { broken = λ e f. absurd (omega (arith, low, f)); continued = λ e f. absurd (omega (arith, also, f)); labels = j.labels }

jumps_in_switch : (o : Final) (x : Exits) (m : Marks) (bs cs b : Bool) (e n : ℕ) → x.left < e → Jumping o x m bs cs → Jumping o (in_switch e n x) (WellTyped.in_switch n b m) true cs
jumps_in_switch o x m bs cs b e n low j = record { broken = λ h f. absurd (omega (arith, low, f)); continued = j.continued; labels = j.labels }

mutual
  unfolding lowered lowered_items HasTargets HaveTargets IsStatement AreItems calls_in_statement calls_in_items times times_in objects_in objects_in_items HasCases HaveCases Settles SettleAll turns_in turns_in_items

  pub settles : (s : StatementTree) (g : Whole) (o : Final) (c : Context) (a : Around) (m : Marks) (x : Exits) (d : Draft) → IsStatement a m s → HasCases s → (bs cs : Bool) → HasTargets bs cs s → Jumping o x m bs cs → AllCalled (Sized g) c (calls_in_statement s)
      → Known g o x m (λ b. times b s) a.objects (objects_in s) d (lowered c s x d) → AllTurn o (turns_in c s x d) → Settles o c s x d
  settles (tree.block q is) g o c a m x d fits cases bs cs ts js called h tp = settle_all is g o c a m x d fits cases bs cs ts js called h tp
  settles (tree.empty q) g o c a m x d fits cases bs cs ts js called h tp = tt
  settles (tree.effect q e) g o c a m x d fits cases bs cs ts js called h tp = tt
  settles (tree.label q l s) g o c a m x d fits cases bs cs ts js called h tp =
      let b = come (x.labels + l) (on q d) in
      let e = lowered c s x b in (
        marked_here g o x m (λ b. one_if (is_label b l) + times b s) (λ b. times b s) a.objects (objects_in s) q d e (labelled l) h fits.0 (let z = label_once l (times (labelled l) s) in omega (arith, z)) (statement_spares g c a m s x d.points fits.1 h.below called b),
        settles s g o c a m x b fits.1 cases bs cs ts js called
            (rest_known g o x m (λ b. one_if (is_label b l) + times b s) (λ b. times b s) a.objects (objects_in s) a.objects (objects_in s) d b e h (λ b. omega arith) (omega arith) (omega arith) (forth_here g d.points d.regions) (statement_forth g c a m s x d.points fits.1 h.below called b).points) tp,
      )
  settles (tree.case q i s) g o c a m x d fits cases bs cs ts js called h tp =
      let b = come (x.cases + i) (on q d) in
      let e = lowered c s x b in (
        marked_here g o x m (λ b. one_if (is_case b i) + times b s) (λ b. times b s) a.objects (objects_in s) q d e (numbered i) h fits.0 (let z = case_once i (times (numbered i) s) in omega (arith, z)) (statement_spares g c a m s x d.points fits.1 h.below called b),
        settles s g o c a m x b fits.1 cases bs cs ts js called
            (rest_known g o x m (λ b. one_if (is_case b i) + times b s) (λ b. times b s) a.objects (objects_in s) a.objects (objects_in s) d b e h (λ b. omega arith) (omega arith) (omega arith) (forth_here g d.points d.regions) (statement_forth g c a m s x d.points fits.1 h.below called b).points) tp,
      )
  settles (tree.default q s) g o c a m x d fits cases bs cs ts js called h tp =
      let b = come x.otherwise (on q d) in
      let e = lowered c s x b in (
        marked_here g o x m (λ b. one_if (is_default b) + times b s) (λ b. times b s) a.objects (objects_in s) q d e otherwise h fits.0 (omega arith) (statement_spares g c a m s x d.points fits.1 h.below called b),
        settles s g o c a m x b fits.1 cases bs cs ts js called
            (rest_known g o x m (λ b. one_if (is_default b) + times b s) (λ b. times b s) a.objects (objects_in s) a.objects (objects_in s) d b e h (λ b. omega arith) (omega arith) (omega arith) (forth_here g d.points d.regions) (statement_forth g c a m s x d.points fits.1 h.below called b).points) tp,
      )
  settles (tree.if_then q e s) g o c a m x d fits cases bs cs ts js called h tp =
      let w = ways c e in
      let f = branching q w d in
      let grow = values (Sized g) c e (front_called (Sized g) c (calls_in e) (calls_in_statement s) called) in
      let called_s = back_called (Sized g) c (calls_in e) (calls_in_statement s) called in
      settles s g o c a m x f fits.1 cases bs cs ts js called_s
      (first_known g o x m (λ b. times b s) (λ b. times b s) (λ b. 0) a.objects (objects_in s) (objects_in s) q w (lowered c s x) (λ r. r) d grow h (λ b. omega arith) (omega arith) (statement_forth g c a m s x d.points fits.1 h.below called_s f).points
      (nothing_spares g x m (λ b. 0) (a.objects + objects_in s) d.points (at (d.points + 1) (lowered c s x f)))) tp
  settles (tree.if_else q e s r) g o c a m x d fits cases bs cs ts js called h tp =
      let n = a.objects in
      let w = ways c e in
      let f = branching q w d in
      let i = at (d.points + 1) (lowered c s x f) in
      let called_1 = front_called (Sized g) c (calls_in e ++ calls_in_statement s) (calls_in_statement r) called in
      let called_r = back_called (Sized g) c (calls_in e ++ calls_in_statement s) (calls_in_statement r) called in
      let grow = values (Sized g) c e (front_called (Sized g) c (calls_in e) (calls_in_statement s) called_1) in
      let called_s = back_called (Sized g) c (calls_in e) (calls_in_statement s) called_1 in
      let first = statement_forth g c a m s x d.points fits.1 h.below called_s f in
      let second = statement_forth g c (behind (objects_in s) a) m r x d.points fits.2 h.below called_r i in (
        settles s g o c a m x f fits.1 cases.0 bs cs ts.0 js called_s
            (first_known g o x m (λ b. times b s + times b r) (λ b. times b s) (λ b. times b r) n (objects_in s) (objects_in s + objects_in r) q w (lowered c s x) (lowered c r x) d grow h (λ b. omega arith) (omega arith) first.points
            (statement_spares g c (behind (objects_in s) a) m r x d.points fits.2 h.below called_r i)) (front_turn o (turns_in c s x f) (turns_in c r x i) tp),
        settles r g o c (behind (objects_in s) a) m x i fits.2 cases.1 bs cs ts.1 js called_r
            (second_known g o x m (λ b. times b s + times b r) (λ b. times b r) n (objects_in s) (objects_in r) q w (lowered c s x) (lowered c r x) d grow h (λ b. omega arith) first second.points) (back_turn o (turns_in c s x f) (turns_in c r x i) tp),
      )
  settles (tree.switch q t e zs b s) g o c a m x d fits cases bs cs ts js called h tp =
      let u = on q d in
      let called_e = front_called (Sized g) c (calls_in e) (calls_in_statement s) called in
      let called_s = back_called (Sized g) c (calls_in e) (calls_in_statement s) called in
      let v = tested t (operand e (ways c e)) u in
      let i = switch_begun (site c q) t zs b v in
      let y = in_switch v.1.points (length zs) x in
      let k = WellTyped.in_switch (length zs) b m in
      let f = lowered c s y i in
      let valued = value_forth g c t e u called_e in (
        cases.0,
        settles s g o c a k y i fits.2 cases.1 true cs ts (jumps_in_switch o x m bs cs b v.1.points (length zs) (let z = h.left in let w = valued.points in omega (arith, z, w)) js) called_s
            (switch_known g o x m (λ n. times n s) a.objects (objects_in s) (site c q) t zs b d v f h cases.0.each cases.0.default valued
            (λ below. statement_grown g c a k s y i fits.2 below called_s)) tp,
      )
  settles (tree.while q e s) g o c a m x d fits cases bs cs ts js called h tp =
      let u = on q d in
      let w = ways c e in
      let grow = values (Sized g) c e (front_called (Sized g) c (calls_in e) (calls_in_statement s) called) in
      let called_s = back_called (Sized g) c (calls_in e) (calls_in_statement s) called in
      let y = inside (d.points + 2) d.points x in
      let i = at (d.points + 1) (w.choice (d.points + 1) (d.points + 2) (loop_begun u)) in
      let before = stays_then (on_adds [] Free (Sized g) q d) (stays_then (begun_adds [] Free (Sized g) u) (choice_adds [] Free (Sized g) w grow (d.points + 1) (d.points + 2) (loop_begun u))) in
      let first = statement_forth g c a m s y d.points fits.1 (below_inside x m d.points (d.points + 2) d.points h.below) called_s i in (
        tp.0,
        settles s g o c a m y i fits.1 cases true true ts (jumps_inside o x m bs cs (d.points + 2) d.points (omega (arith, h.left)) h.left js) called_s
            (known_inside g o x m (λ b. times b s) a.objects (objects_in s) (d.points + 2) d.points i (lowered c s y i)
            (rest_known g o x m (λ b. times b s) (λ b. times b s) a.objects (objects_in s) a.objects (objects_in s) d i (lowered c s y i) h (λ b. omega arith) (omega arith) (omega arith) (forth g (λ i z r. r) before) first.points)) tp.1,
      )
  settles (tree.do_while q s e) g o c a m x d fits cases bs cs ts js called h tp =
      let u = on q d in
      let w = ways c e in
      let called_s = front_called (Sized g) c (calls_in_statement s) (calls_in e) called in
      let grow = values (Sized g) c e (back_called (Sized g) c (calls_in_statement s) (calls_in e) called) in
      let y = inside (d.points + 2) (d.points + 1) x in
      let i = at d.points (loop_begun u) in
      let f = lowered c s y i in
      let r = go Skip (d.points + 1) f in
      let before = stays_then (on_adds [] Free (Sized g) q d) (begun_adds [] Free (Sized g) u) in
      let first = statement_forth g c a m s y d.points fits.0 (below_inside x m d.points (d.points + 2) (d.points + 1) h.below) called_s i in (
        tp.0,
        settles s g o c a m y i fits.0 cases true true ts (jumps_inside o x m bs cs (d.points + 2) (d.points + 1) (omega (arith, h.left)) (omega (arith, h.left)) js) called_s
            (known_inside g o x m (λ b. times b s) a.objects (objects_in s) (d.points + 2) (d.points + 1) i f
            (part_known g o x m (λ b. times b s) (λ b. times b s) (λ b. 0) a.objects (objects_in s) a.objects (objects_in s) d i f (w.choice d.points (d.points + 2) (on q r)) h (λ b. omega arith) (omega arith) (omega arith) (forth g (λ i z r. r) before) first.points
            (do_spares g x m q w grow (d.points + 1) d.points (d.points + 2) (a.objects + objects_in s) d.points f))) tp.1,
      )
  settles (tree.for_loop q start e third s) g o c a m x d fits cases bs cs ts js called h tp =
      let n = a.objects in
      let l = objects_at_start start in
      let u = on q d in
      let d1 = fresh 1 u in
      let g1 = for_start c start d1 in
      let v = on q g1 in
      let p = v.points in
      let b = loop_begun v in
      let t = for_test c e (p + 1) d.points b in
      let i = at (p + 1) t in
      let y = inside d.points (p + 2) x in
      let f = lowered c s y i in
      let k = behind l a in
      let end = go Skip p (performed_if c third (in_scope b.here.scope (on q (go Skip (p + 2) f)))) in
      let called_1 = front_called (Sized g) c (calls_at_start start ++ calls_if e ++ calls_in_effect_if third) (calls_in_statement s) called in
      let called_s = back_called (Sized g) c (calls_at_start start ++ calls_if e ++ calls_in_effect_if third) (calls_in_statement s) called in
      let called_2 = front_called (Sized g) c (calls_at_start start ++ calls_if e) (calls_in_effect_if third) called_1 in
      let called_3 = back_called (Sized g) c (calls_at_start start ++ calls_if e) (calls_in_effect_if third) called_1 in
      let called_f = front_called (Sized g) c (calls_at_start start) (calls_if e) called_2 in
      let called_e = back_called (Sized g) c (calls_at_start start) (calls_if e) called_2 in
      let below = below_inside x m d.points d.points (p + 2) h.below in
      let ms = [] in
      let starts = start_enlarges ms Free (Sized g) c start d1 (start_free start) called_f in
      let begin = path_then (enlarges ms Free (Sized g) d d1 (stays_then (on_adds ms Free (Sized g) q d) (fresh_adds ms Free (Sized g) 1 u))) starts in
      let test = stays_then (on_adds ms Free (Sized g) q g1) (stays_then (begun_adds ms Free (Sized g) v) (test_adds ms Free (Sized g) c e called_e (p + 1) d.points b)) in
      let before = path_then begin (enlarges ms Free (Sized g) g1 t test) in
      let body = statement_forth g c k m s y d.points fits.3 below called_s i in
      let rest = for_spares g x m c q third called_3 (p + 2) b.here.scope p (n + l + objects_in s) d.points f in
      let known = part_known g o x m (λ b. times b s) (λ b. times b s) (λ b. 0) (n + l) (objects_in s) n (l + objects_in s) d i f end h (λ b. omega arith) (omega arith) (omega arith) (forth g (λ i z r. r) before) body.points rest in
      let zs = others d.points d.points in
      let S = λ (j : ℕ). n + l ≤ j in
      let tests = stays_then (on_adds zs S (Sized g) q g1) (stays_then (begun_adds zs S (Sized g) v) (test_adds zs S (Sized g) c e called_e (p + 1) d.points b)) in
      let unset = λ (b : Mark) (is : IsMark m b) (z : times b s ≡ 0 → ⊥) (same : mark_point b y ≡ d.points). let r = below b is in absurd (omega (arith, r, same)) in
      let bodies = statement_spares g c k m s y d.points fits.3 below called_s i d.points unset in
      let ends = for_spares g x m c q third called_3 (p + 2) b.here.scope p (n + l) d.points f d.points (λ b is some same. absurd (some refl)) in
      let all = path_then (enlarges zs S (Sized g) g1 t tests) (path_then (enlarges zs S (Sized g) i f bodies) ends) in
      let many = h.slots in
      let more = starts.slots in
      let last = all.slots in (
        start_settled (Sized g) o c start a d1 fits.0 called_f (λ j low high. let z = h.objects j low (omega (arith, high)) in (z.0, z.1 ∙ kept_object (n + l) j g1 end all high)) (omega (arith, many, more, last)),
        tp.0,
        settles s g o c k m y i fits.3 cases true true ts (jumps_inside o x m bs cs d.points (p + 2) h.left (let z = begin.points in let w = h.left in omega (arith, z, w)) js) called_s (known_inside g o x m (λ b. times b s) (n + l) (objects_in s) d.points (p + 2) i f known) tp.1,
      )
  settles (tree.goto q l) g o c a m x d fits cases bs cs ts js called h tp = js.labels l fits
  settles (tree.continue q) g o c a m x d fits cases bs cs ts js called h tp = js.continued ts
  settles (tree.break q) g o c a m x d fits cases bs cs ts js called h tp = js.broken ts
  settles (tree.return q e) g o c a m x d fits cases bs cs ts js called h tp = tt

  pub settle_all : (is : ItemTrees) (g : Whole) (o : Final) (c : Context) (a : Around) (m : Marks) (x : Exits) (d : Draft) → AreItems a m is → HaveCases is → (bs cs : Bool) → HaveTargets bs cs is → Jumping o x m bs cs → AllCalled (Sized g) c (calls_in_items is)
      → Known g o x m (λ b. times_in b is) a.objects (objects_in_items is) d (lowered_items c is x d) → AllTurn o (turns_in_items c is x d) → SettleAll o c is x d
  settle_all tree.no_items g o c a m x d fits cases bs cs ts js called h tp = tt
  settle_all (tree.declared_before v is) g o c a m x d fits cases bs cs ts js called h tp =
      let n = a.objects in
      let e = declared c v d in
      let f = lowered_items c is x e in
      let called_v = front_called (Sized g) c (calls_in_declared v) (calls_in_items is) called in
      let called_is = back_called (Sized g) c (calls_in_declared v) (calls_in_items is) called in
      let one = objects_in_declared v in
      let first = declared_enlarges [] Free (Sized g) c v d (declared_free v) called_v in
      let rest = block_spares g c (behind one a) m is x d.points fits.1 h.below called_is e d.points (λ b is some same. let z = h.below b is in absurd (omega (arith, z, same))) in
      let many = h.slots in
      let size = first.slots in
      let more = rest.slots in (
        next_settled (Sized g) o c a v d f.objects fits.0 called_v (λ i low high. (h.objects i low (omega (arith, high)), kept_object (n + one) i e f rest high, omega (arith, high, many, size, more))),
        settle_all is g o c (behind one a) m x e fits.1 cases bs cs ts js called_is
            (rest_known g o x m (λ b. times_in b is) (λ b. times_in b is) (n + one) (objects_in_items is) n (one + objects_in_items is) d e f h (λ b. omega arith) (omega arith) (omega arith) (forth g (λ i z y. y) first) rest.points) tp,
      )
  settle_all (tree.statement_before s is) g o c a m x d fits cases bs cs ts js called h tp =
      let n = a.objects in
      let e = lowered c s x d in
      let f = lowered_items c is x e in
      let called_s = front_called (Sized g) c (calls_in_statement s) (calls_in_items is) called in
      let called_is = back_called (Sized g) c (calls_in_statement s) (calls_in_items is) called in
      let first = statement_forth g c a m s x d.points fits.0 h.below called_s d in
      let rest = block_spares g c (behind (objects_in s) a) m is x d.points fits.1 h.below called_is e in
      let more = rest d.points (λ b is some same. let z = h.below b is in absurd (omega (arith, z, same))) in (
        settles s g o c a m x d fits.0 cases.0 bs cs ts.0 js called_s
            (part_known g o x m (λ b. times b s + times_in b is) (λ b. times b s) (λ b. times_in b is) n (objects_in s) n (objects_in s + objects_in_items is) d d e f h (λ b. omega arith) (omega arith) (omega arith) (forth_here g d.points d.regions) first.points rest) (front_turn o (turns_in c s x d) (turns_in_items c is x e) tp),
        settle_all is g o c (behind (objects_in s) a) m x e fits.1 cases.1 bs cs ts.1 js called_is
            (rest_known g o x m (λ b. times b s + times_in b is) (λ b. times_in b is) (n + objects_in s) (objects_in_items is) n (objects_in s + objects_in_items is) d e f h (λ b. omega arith) (omega arith) (omega arith) first more.points) (back_turn o (turns_in c s x d) (turns_in_items c is x e) tp),
      )

-- ---- bodies

sized_calls : (g : Whole) (k : ℕ) (xs : List Numbered) → ((z : Numbered) → Among z xs → (size_in g.sizes z.call.function).points ≡ g.spans (callee (context_of g k) z.number)) → AllCalled (Sized g) (context_of g k) xs
sized_calls g k [] spans = tt
sized_calls g k (x ∷ xs) spans = (spans x (inl refl), sized_calls g k xs (λ z a. spans z (inr a)))

-- The items of a path's function at a stage: the points of its marks are apart and were made before, each mark stands once at most, and in the end each object has the variable and each mark's point the label that the graph says.
pub settled_body : (g : Whole) (k : ℕ) (h : Place) (x : Exits) (n : ℕ) (m : Marks) (is : ItemTrees) (d : Draft) → AreItems (around g k n) m is → Stage g k h (calls_in_items is) d (lowered_items (context_of g k) is x d)
    → ((b c : Mark) → IsMark m b → IsMark m c → mark_point b x ≡ mark_point c x → b ≡ c) → AreBelow x m d.points → ((b : Mark) → IsMark m b → times_in b is ≤ 1) → HaveCases is → HaveTargets false false is → x.left < d.points → ((l : ℕ) → l < m.labels → times_in (labelled l) (block_of g.program k).items ≡ 1) → n + objects_in_items is ≤ length d.objects
    → ((i : ℕ) → n ≤ i → i < n + objects_in_items is → (i < g.objects k) × (g.numbers k i ≡ object_at (lowered_items (context_of g k) is x d).objects i))
    → ((b : Mark) → IsMark m b → (times_in b is ≡ 0 → ⊥) → label_at g.labels (mark_point b x) ≡ label_at (lowered_items (context_of g k) is x d).labels (mark_point b x)) → AllTurn (final g k) (turns_in_items (context_of g k) is x d) → SettleAll (final g k) (context_of g k) is x d
settled_body g k h x n m is d fits s apart below once cases targets left marked room objects labels turns =
    settle_all is g (final g k) c (around g k n) m x d fits cases false false targets (record { broken = λ e. absurd (cc e); continued = λ e. absurd (cc e); labels = marked }) called known turns where
      c : Context
      c = context_of g k

      f : Draft
      f = lowered_items c is x d

      called : AllCalled (Sized g) c (calls_in_items is)
      called = sized_calls g k (calls_in_items is) s.spans

      stays : (q : ℕ) → (Among q s.marks → ⊥) → q < f.points → label_at g.labels q ≡ label_at f.labels q
      stays q unmarked lt = by (s.leads.labels q lt) where
        by : {A : Type 0} → Among q s.marks ⊎ A → A
        by (inl a) = absurd (unmarked a)
        by (inr a) = a

      grown : Keeps OnPath (Marked (others d.points d.points)) (λ i. n ≤ i) (Sized g) d f
      grown = block_spares g c (around g k n) m is x d.points fits below called d d.points (λ b is some same. let z = below b is in absurd (omega (arith, z, same)))

      known : Known g (final g k) x m (λ b. times_in b is) n (objects_in_items is) d f
      known = record {
        once = once;
        apart = apart;
        below = below;
        labels = labels;
        points = λ b e ts q first last later low high. stays q (made_unmarked g k h (calls_in_items is) d f b e ts q s first last later low high) (omega (arith, high, last));
        objects = objects;
        room = s.leads.room;
        slots = let z = grown.slots in omega (arith, room, z);
        left = left;
      }

-- the marks of a function outside its switches: its labels
abbrev pub labels_of : BodyTree → Option IntType → Marks
labels_of b r = record { labels = b.labels; returns = r; cases = 0; has_default = false }

-- a function's body, each of whose labels stands once
pub settled_function : (g : Whole) (k : ℕ) (h : Place) (x : Exits) (n : ℕ) (r : Option IntType) (b : BodyTree) (d : Draft) → AreItems (around g k n) (labels_of b r) b.items → IsMarked b
    → (block_of g.program k ≡ b) → Stage g k h (calls_in_items b.items) d (lowered_items (context_of g k) b.items x d) → x.left < d.points → x.labels + b.labels ≤ d.points → n ≤ length (block_of g.program k).locals → length (block_of g.program k).locals ≤ length d.objects
    → ((i : ℕ) → n ≤ i → i < n + objects_in_items b.items → (i < g.objects k) × (g.numbers k i ≡ object_at (lowered_items (context_of g k) b.items x d).objects i))
    → ((l : ℕ) → l < b.labels → label_at g.labels (x.labels + l) ≡ label_at (lowered_items (context_of g k) b.items x d).labels (x.labels + l)) → AllTurn (final g k) (turns_in_items (context_of g k) b.items x d) → SettleAll (final g k) (context_of g k) b.items x d
settled_function g k h x n r b d fits marked same s left before first room objects labels turns =
    settled_body g k h x n m b.items d fits s apart below once marked.cases marked.targets left (λ l low. subst (λ (y : BodyTree). times_in (labelled l) y.items ≡ 1) (sym same) (marked.labels l low)) slots objects marks turns where
      slots : n + objects_in_items b.items ≤ length d.objects
      slots = let z = items_fit b.items (around g k n) (labels_of b r) fits (omega (arith, first)) in omega (arith, z, room)

      m : Marks
      m = labels_of b r

      e : Draft
      e = lowered_items (context_of g k) b.items x d

      apart : (i j : Mark) → IsMark m i → IsMark m j → mark_point i x ≡ mark_point j x → i ≡ j
      apart (labelled i) (labelled j) is also same = ap (λ l. labelled l) (omega (arith, same))
      apart (labelled i) (numbered j) is also same = absurd (omega (arith, also))
      apart (labelled i) otherwise is also same = absurd (grind (arith, also))
      apart (numbered i) j is also same = absurd (omega (arith, is))
      apart otherwise j is also same = absurd (grind (arith, is))

      below : AreBelow x m d.points
      below (labelled l) is = omega (arith, is, before)
      below (numbered i) is = absurd (omega (arith, is))
      below otherwise is = absurd (grind (arith, is))

      once : (i : Mark) → IsMark m i → times_in i b.items ≤ 1
      once (labelled l) is = let z = marked.labels l is in omega (arith, z)
      once (numbered i) is = absurd (omega (arith, is))
      once otherwise is = absurd (grind (arith, is))

      marks : (i : Mark) → IsMark m i → (times_in i b.items ≡ 0 → ⊥) → label_at g.labels (mark_point i x) ≡ label_at e.labels (mark_point i x)
      marks (labelled l) is some = labels l is
      marks (numbered i) is some = absurd (omega (arith, is))
      marks otherwise is some = absurd (grind (arith, is))
