-- From the work of a `switch` to that of its value and the choice behind it, and from the choice to its body.
use Rattle.std.proofs.Common.{◌≡◌, ℕ, suc, ◌+◌, ◌<◌, ◌≤◌, ◌⊎◌, List, ◌∷◌, ◌++◌, length, Bool, if◌then◌else◌, refl, sym, ap, ◌∙◌, subst, inl, inr, arith, ℤ}
use Rattle.std.proofs.lemmas.List.{get_or-set_same}
use Rattle.pk_ctypes.specs.declared.places.Pos.{Pos}
use Rattle.pk_ctypes.specs.declared.types.IntType.{IntType}
use Rattle.pk_typed.specs.Trees.{ValueTree, StatementTree}
use Rattle.pk_typed.specs.Trees as tree
use Rattle.pk_typed.specs.Types.{type_of}
use Rattle.pk_welltyped.specs.Listed.{Numbered, calls_in, calls_in_statement}
use Rattle.pk_welltyped.specs.WellTyped
use Rattle.pk_welltyped.specs.WellTyped.{Marks, IsStatement}
use Rattle.pk_graph.specs.declared.trees.Site.{Site}
use Rattle.pk_graph.specs.Trees.{Skip}
use Rattle.pk_draft.specs.declared.drafts.Label.{Label}
use Rattle.pk_draft.specs.Drafts.{Given, no_label, on, placed, fresh, go, away}
use Rattle.pk_draft.specs.Folding.{conversion}
use Rattle.pk_draft.specs.declared.drafts.Size.{Size}
use Rattle.pk_lower_row.specs.declared.shapes.Waiting.TheVariants.{Strong}
use Rattle.pk_lower_row.specs.Shapes.{converted_shape, shape_of}
use Rattle.pk_lower_row.specs.Contexts.{Context, site}
use Rattle.pk_lower_row.specs.Rows.{operand}
use Rattle.pk_lower_expression.specs.Expressions.{ways}
use Rattle.pk_lower_statement.specs.declared.statements.Exits.{Exits}
use Rattle.pk_lower_statement.specs.Statements.{in_switch, case_tests, tested, switch_begun, lowered}
use Rattle.pk_welltyped.specs.Marks.{IsSwitch}
use Rattle.pk_meaning.specs.Work as work
use Rattle.pk_meaning.specs.Work.{Place, Ahead}
use Rattle.pk_meaning.specs.Steps.{place}
use Rattle.pk_visits.proofs.Slots.{Slot, Draft, Among, Grows, edge, last_among, label_at, Uncalled}
use Rattle.pk_visits.proofs.Stands.{Whole, Proper, context_of, final, Held, held, in_temporary, around, IsCalm, AreCalm, ShowsAt, Stage, Marking, switch_from, LaidAhead, Laid, IsCalled, IsReserved}
use Rattle.pk_visits.proofs.Settled.Trees.{Settles}
use Rattle.pk_visits.proofs.Grows.Rows.{grows_refl, grows_trans, held_grows}
use Rattle.pk_visits.proofs.Stages.{all_called, ways_grow, among_either, part_first, part_second, part_until, stage_at, stage_until, made_unmarked, later_of, ForthBy, Forth, forth_here, forth_none, forth_first, forth_then}
use Rattle.pk_visits.proofs.Steps.Tells.{any_called, shapes, converted_tells, Any}
use Rattle.pk_visits.proofs.Grows.Statements.{Stays, Adds, stays_then, placing, fresh_grows, fresh_adds, case_adds, away_adds, link_adds, inner_adds, upto, upto_from, upto_before, back_list, statement, Free}
use Rattle.pk_visits.proofs.Operands.{calm_more, held_calm, unless_more, keep_laid}
use Rattle.pk_visits.proofs.Steps.Statements.{shows_on}
use Rattle.pk_visits.proofs.Cases.{marking_cases, fresh_point}
use Rattle.pk_visits.proofs.Steps.Choices.{stage_to}

-- ---- marks of a switch

-- the points of its cases and its default
abbrev points_of : (n e : ℕ) → Bool → List ℕ
points_of n e b = upto (n + (if b then 1 else 0)) (e + 1)

-- a stage that may place more marks again
abbrev with_marks : (g : Whole) (k : ℕ) (h : Place) (xs : List Numbered) (d f : Draft) (ys : List ℕ) → ((q : ℕ) → Among q ys → q < d.points) → Stage g k h xs d f → Stage g k h xs d f
with_marks g k h xs d f ys below s = record {
  marks = ys ++ s.marks;
  later = s.later;
  leads = record {
    edges = s.leads.edges;
    names = s.leads.names;
    room = s.leads.room;
    labels = λ q m. more q (s.leads.labels q m);
    regions = s.leads.regions;
    paths = s.leads.paths;
    scopes = s.leads.scopes;
  };
  bounded = λ q m from to. either q from to (among_either ys s.marks q m);
  free = s.free;
  spans = s.spans;
  here = s.here;
  apart = s.apart;
  distinct = s.distinct;
  path = s.path;
  noted = s.noted;
} where
  more : (q : ℕ) {A : Type 0} → Among q s.marks ⊎ A → Among q (ys ++ s.marks) ⊎ A
  more q (inl m) = inl (back_list ys s.marks q m)
  more q (inr z) = inr z

  either : (q : ℕ) → d.points ≤ q → q < f.points → Among q ys ⊎ Among q s.marks → IsReserved g k f.regions q
  either q from to (inl m) = let z = below q m in absurd (omega (arith, from, z))
  either q from to (inr m) = s.bounded q m from to

-- ---- the drafts of a switch

-- the first of new points is here
pub first_label : (i n : ℕ) (d : Draft) → suc n ≡ i → d.points < length d.labels → label_at (fresh i d).labels d.points ≡ d.here
first_label i n d is r =
    subst (λ q. label_at (fresh q d).labels d.points ≡ d.here) is ((placing n (d.points + 1) (placed d.points d)).labels d.points (omega arith) ∙ get_or-set_same d.labels d.points d.here no_label r)

abbrev opened : List ℤ → Bool → Draft → Draft
opened zs b d = fresh (1 + length zs + (if b then 1 else 0)) d

-- behind the value
abbrev ended : Context → Site → IntType → List ℤ → Bool → StatementTree → Exits → Given Slot → Draft
ended c r t zs b s x v = go Skip v.1.points (lowered c s (in_switch v.1.points (length zs) x) (switch_begun r t zs b v))

-- from the new points on, where the switch's own marks may be placed
opened_adds : (g : Whole) (k : ℕ) (C : ℕ → Size → Type 0) (ms : List ℕ) (r : Site) (t : IntType) (zs : List ℤ) (b : Bool) (s : StatementTree) (x : Exits) (v : Given Slot)
    → ((d : Draft) → Adds (points_of (length zs) v.1.points b ++ ms) Free C d (lowered (context_of g k) s (in_switch v.1.points (length zs) x) d))
    → Adds (points_of (length zs) v.1.points b ++ ms) Free C (opened zs b v.1) (ended (context_of g k) r t zs b s x v)
opened_adds g k C ms r t zs b s x v body =
    let e = v.1.points in
    let ys = points_of (length zs) e b ++ ms in
    let to = if b then e + 1 + length zs else e in
    let d = case_tests r t v.0 zs (e + 1) (opened zs b v.1) in
    stays_then (case_adds ys Free C r t v.0 zs (e + 1) (opened zs b v.1)) (stays_then (away_adds ys Free C to d) (stays_then (body (away to d)) (link_adds ys Free C Skip e (lowered (context_of g k) s (in_switch e (length zs) x) (away to d)))))

-- from its value on
valued_adds : (g : Whole) (k : ℕ) (C : ℕ → Size → Type 0) (ms : List ℕ) (r : Site) (t : IntType) (zs : List ℤ) (b : Bool) (s : StatementTree) (x : Exits) (v : Given Slot)
    → ((d : Draft) → Adds (points_of (length zs) v.1.points b ++ ms) Free C d (lowered (context_of g k) s (in_switch v.1.points (length zs) x) d))
    → Adds ms Free C v.1 (ended (context_of g k) r t zs b s x v)
valued_adds g k C ms r t zs b s x v body =
    let e = v.1.points in
    inner_adds ms (points_of (length zs) e b) Free C v.1 (opened zs b v.1) (ended (context_of g k) r t zs b s x v)
    (λ q h. let y = upto_from (length zs + (if b then 1 else 0)) (e + 1) q h in let z = upto_before (length zs + (if b then 1 else 0)) (e + 1) q h in (omega (arith, y), omega (arith, z)))
    (fresh_adds ms Free C (1 + length zs + (if b then 1 else 0)) v.1) (opened_adds g k C ms r t zs b s x v body)

-- ---- the choice

-- behind the value, which is calm
choose_begun : (g : Whole) (k : ℕ) (j : Place) (x : Exits) (r : Site) (t : IntType) (zs : List ℤ) (b : Bool) (s : StatementTree) (a : Ahead) (v : Given Slot) (n : ℕ) (m : Marks) (hs : List Held) (xs : List Numbered) (d : Draft)
    → (st : Stage g k j (xs ++ calls_in_statement s) d (ended (context_of g k) r t zs b s x v)) → Forth g d v.1 → g.shows v.1.here k j
    → IsStatement (around g k n) (WellTyped.in_switch (length zs) b m) s → IsCalm v.1.variables v.0 → AreCalm v.1.variables hs → Marking x m st.marks
    → Settles (final g k) (context_of g k) s (in_switch v.1.points (length zs) x) (switch_begun r t zs b v) → LaidAhead g k x a v.1.points hs → IsSwitch (length zs) b s
    → Laid g k j x (work.Choose t zs 0 b s j a) v.1.point (held v.0 t ∷ hs)
choose_begun g k j x r t zs b s a v n m hs xs d st le here fits calm_v calm marking settled l each = (
  D,
  n,
  m,
  r,
  length zs,
  e,
  fresh_point (1 + length zs + (if b then 1 else 0)) v.1,
  refl,
  omega arith,
  fits,
  calm_more v.1.variables D.variables (held v.0 t ∷ hs) (let z = opens.variables in omega (arith, z)) (calm_v, calm),
  stage_to g k j (calls_in_statement s) D F _ same stands,
  marks,
  subst (λ q. Settles (final g k) (context_of g k) s y (away to (case_tests r t v.0 zs q D))) (omega arith) settled,
  shown,
  l,
  each,
) where
  e : ℕ
  e = v.1.points

  ys : List ℕ
  ys = points_of (length zs) e b

  to : ℕ
  to = if b then e + 1 + length zs else e

  y : Exits
  y = in_switch e (length zs) x

  D : Draft
  D = opened zs b v.1

  F : Draft
  F = ended (context_of g k) r t zs b s x v

  same : F ≡ switch_from (context_of g k) r t v.0 zs 0 (length zs) e b s x D
  same = ap (λ q. go Skip e (lowered (context_of g k) s y (away to (case_tests r t v.0 zs q D)))) (omega arith)

  opens : Grows Any v.1 D
  opens = fresh_grows Any (1 + length zs + (if b then 1 else 0)) v.1

  D_here : g.shows D.here k j
  D_here = subst (λ (i : Label). g.shows i k j) (sym opens.here) here

  stands : Stage g k j (calls_in_statement s) D F
  stands = with_marks g k j (calls_in_statement s) D F ys (λ q h. let z = upto_before (length zs + (if b then 1 else 0)) (e + 1) q h in omega (arith, z))
      (part_second g k j j xs (calls_in_statement s) d D F st (forth_then g le (forth_none g (fresh_grows Uncalled (1 + length zs + (if b then 1 else 0)) v.1))) D_here)

  marks : Marking y (WellTyped.in_switch (length zs) b m) (ys ++ st.marks)
  marks = marking_cases x m st.marks e (length zs) b marking

  rest : Adds (ys ++ st.marks) Free Any D F
  rest = opened_adds g k Any st.marks r t zs b s x v (λ f. statement Any (context_of g k) _ _ s y (ys ++ st.marks) Free (λ i o. tt) fits marks (any_called (context_of g k) (calls_in_statement s)) f)

  same_regions : ForthBy g d.points v.1.points d.regions D.regions
  same_regions = subst (ForthBy g d.points v.1.points d.regions) (sym (placing (1 + length zs + (if b then 1 else 0)) v.1.points v.1).regions) le

  unmarked : Among e (ys ++ st.marks) → ⊥
  unmarked h = by (among_either ys st.marks e h) where
    by : Among e ys ⊎ Among e st.marks → ⊥
    by (inl h) = let z = upto_from (length zs + (if b then 1 else 0)) (e + 1) e h in absurd (omega (arith, z))
    by (inr h) = made_unmarked g k j (xs ++ calls_in_statement s) d F e D.points D.regions e st same_regions rest.points (later_of D.regions F.regions rest.regions) (omega arith) (omega arith) h

  unless : {A : Type 0} {p q : Label} → (A → ⊥) → A ⊎ (q ≡ p) → q ≡ p
  unless none (inl a) = absurd (none a)
  unless none (inr is) = is

  size : e < length v.1.labels
  size = let p = rest.points in let q = rest.size in let w = opens.size in let z = st.leads.room in omega (arith, p, q, w, z)

  label : label_at g.labels e ≡ v.1.here
  label =
      let inside : e < F.points = let p = rest.points in omega (arith, p) in
      unless (λ h. unmarked (back_list ys st.marks e h)) (st.leads.labels e inside) ∙ unless unmarked (rest.labels e (omega arith)) ∙ first_label (1 + length zs + (if b then 1 else 0)) (length zs + (if b then 1 else 0)) v.1 (omega arith) size

  shown : ShowsAt g e k j
  shown = subst (λ (i : Label). g.shows i k j) (sym label) here

pub switch_laid : (g : Whole) (proper : Proper g) (k : ℕ) (h : Place) (x : Exits) (q : Pos) (t : IntType) (e : ValueTree) (zs : List ℤ) (b : Bool) (s : StatementTree) (a : Ahead) (p : ℕ) (hs : List Held)
    → Laid g k h x (work.Do (tree.switch q t e zs b s) a) p hs → Laid g k (place q h.scope) x (work.Evaluate e (work.Convert t (work.Keep (work.Choose t zs 0 b s (place q h.scope) a)))) p hs
unfolding lowered IsStatement calls_in_statement Settles
switch_laid g proper k h x q t e zs b s a p hs (d, n, m, at', fits, calm, t0, marking, settled, l) =
    let c = context_of g k in
    let j = place q h.scope in
    let o = on q d in
    let xs = calls_in e in
    let ys = calls_in_statement s in
    let r = (ways c e).value o in
    let shape = converted_shape (type_of e) t (shape_of e) in
    let w : Given Slot = (conversion (type_of e) t r.0, r.1) in
    let v = tested t (operand e (ways c e)) o in
    let F = ended c (site c q) t zs b s x v in
    let y = in_switch v.1.points (length zs) x in
    let ge = (ways_grow c e).value o in
    let gh = held_grows (IsCalled c xs) Strong shape t w in
    let valued : Grows (IsCalled c xs) o v.1 = grows_trans ge gh in
    let marks = marking_cases x m t0.marks v.1.points (length zs) b marking in
    let so = stage_at g k (place d.here.at h.scope) j (xs ++ ys) d o F t0 (forth_here g d.points d.regions) (proper.positions d.here k h.scope q t0.here) in
    let rest = valued_adds g k (IsCalled c ys) t0.marks (site c q) t zs b s x v
    (λ f. statement (IsCalled c ys) c _ _ s y (points_of (length zs) v.1.points b ++ t0.marks) Free (λ i o. tt) fits.2 marks (all_called c ys) f) in
    let se = part_first g Stays k j xs ys o v.1 F so rest in
    let ns = sym valued.names ∙ se.leads.names in
    let here = subst (λ (i : Label). g.shows i k j) (sym valued.here) so.here in
    let le = forth_first g k j xs ys o F so valued in
    let lr = ge.variables in
    let lv = valued.variables in
    subst (λ i. Laid g k j x (work.Evaluate e (work.Convert t (work.Keep (work.Choose t zs 0 b s j a)))) i hs) at' (
      o,
      n,
      refl,
      fits.0,
      (λ z. calm),
      stage_until g k j xs o r.1 v.1 se (held_grows Uncalled Strong shape t w),
      keep_laid g k j x (work.Choose t zs 0 b s j a) Strong shape t w hs Uncalled xs o v.1 se ge (grows_refl Uncalled v.1) (ge.names ∙ ns) (unless_more Strong d.variables r.1.variables hs lr calm)
          (choose_begun g k j x (site c q) t zs b s a v n m hs xs o so le here fits.2
          (held_calm shape t w (ge.names ∙ ns) (converted_tells r.1.variables (type_of e) t (shape_of e) r.0 (shapes c e o ns))) (calm_more d.variables v.1.variables hs lv calm) marking settled.1 l settled.0),
    )

-- ---- the body

-- a switch's body, in its exits
pub choose_body : (g : Whole) (proper : Proper g) (k : ℕ) (h j : Place) (x : Exits) (t : IntType) (zs : List ℤ) (i : ℕ) (b : Bool) (s : StatementTree) (a : Ahead) (p : ℕ) (v : Held) (hs : List Held)
    → (l : Laid g k h x (work.Choose t zs i b s j a) p (v ∷ hs)) → (q : ℕ) × Laid g k j (in_switch l.5 l.4 x) (work.Do s (work.Close j a)) q hs
choose_body g proper k h j x t zs i b s a p v hs (d, n, m, r, total, e, at', types, many, fits, calm, u, marking, settled, shown, l, each) =
    let c = context_of g k in
    let y = in_switch e total x in
    let to = if b then e + 1 + total else e in
    let f = case_tests r t v.tree zs (e + 1 + i) d in
    let o = away to f in
    let r1 = lowered c s y o in
    let F = go Skip e r1 in
    let before : Adds u.marks Free Any d o = stays_then (case_adds u.marks Free Any r t v.tree zs (e + 1 + i) d) (away_adds u.marks Free Any to f) in
    let first = subst (λ q. g.shows d.here k (place q j.scope)) (proper.at_positions d.here k j u.here) u.here in
    let lv = before.variables in
    let st = stage_at g k j (place o.here.at j.scope) (calls_in_statement s) d o F u (forth_none g (stays_then (case_adds u.marks Free Uncalled r t v.tree zs (e + 1 + i) d) (away_adds u.marks Free Uncalled to f))) (shows_on g proper k j.scope d.here o.here first before.here) in (
      o.point,
      (
        o,
        n,
        WellTyped.in_switch total b m,
        refl,
        fits,
        calm_more d.variables o.variables hs lv calm.1,
        part_until g Stays k (place o.here.at j.scope) (calls_in_statement s) o r1 F st (link_adds u.marks Free Uncalled Skip e r1),
        marking,
        settled,
        (x, u.leads.edges _ (last_among r1.edges (edge r1.point Skip e)), shown, refl, l),
      ),
    )

-- behind its value
kept_body : (g : Whole) (proper : Proper g) (k : ℕ) (j : Place) (x : Exits) (t : IntType) (zs : List ℤ) (b : Bool) (s : StatementTree) (a : Ahead) (p : ℕ) (v : Held) (hs : List Held) → Laid g k j x (work.Keep (work.Choose t zs 0 b s j a)) p (v ∷ hs)
    → (e : ℕ) × (n : ℕ) × (q : ℕ) × Laid g k j (in_switch e n x) (work.Do s (work.Close j a)) q hs
kept_body g proper k j x t zs b s a p v hs (inl l) = let y = choose_body g proper k j j x t zs 0 b s a p v hs l in (l.5, l.4, y.0, y.1)
kept_body g proper k j x t zs b s a p v hs (inr l) = let y = choose_body g proper k j j x t zs 0 b s a l.0 (in_temporary l.1 v.int_type) hs l.3 in (l.3.5, l.3.4, y.0, y.1)

pub switch_body : (g : Whole) (proper : Proper g) (k : ℕ) (h : Place) (x : Exits) (q : Pos) (t : IntType) (e : ValueTree) (zs : List ℤ) (b : Bool) (s : StatementTree) (a : Ahead) (p : ℕ) (hs : List Held)
    → Laid g k h x (work.Do (tree.switch q t e zs b s) a) p hs → (e : ℕ) × (n : ℕ) × (i : ℕ) × Laid g k (place q h.scope) (in_switch e n x) (work.Do s (work.Close (place q h.scope) a)) i hs
switch_body g proper k h x q t e zs b s a p hs l =
    let j = place q h.scope in
    let y = switch_laid g proper k h x q t e zs b s a p hs l in kept_body g proper k j x t zs b s a _ (held (conversion (type_of e) t ((ways (context_of g k) e).value y.0).0) t) hs y.6
