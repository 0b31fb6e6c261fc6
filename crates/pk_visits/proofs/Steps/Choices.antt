-- The graph follows the program at the tests of a `switch`, where the way to the case that holds is laid.
use Rattle.std.proofs.Common.{◌≡◌, ℕ, ◌+◌, ◌<◌, ◌≤◌, ◌⊎◌, List, [], ◌∷◌, length, Bool, true, false, if◌then◌else◌, refl, ap, ◌∙◌, subst, inr, arith, ℤ}
use Rattle.std.specs.Prelude.{Ok}
use Rattle.std.specs.Ordering.{int_eq}
use Rattle.pk_ctypes.specs.declared.types.IntType.{IntType}
use Rattle.pk_ctypes.specs.declared.types.Op.TheVariants.{Eq}
use Rattle.pk_ctypes.specs.Operators.{value_of, truth}
use Rattle.pk_typed.specs.Trees.{StatementTree}
use Rattle.pk_graph.specs.declared.trees.Site.{Site}
use Rattle.pk_graph.specs.Trees.{constant, Skip, Guard}
use Rattle.pk_graph.specs.Steps.{Numbers, tree_value, is_true, and_then, at_site}
use Rattle.pk_ctypes.specs.declared.faults.Fault.TheVariants.{Overflow}
use Rattle.pk_ctypes.proofs.Values.{fitted_inside, truth_in}
use Rattle.pk_draft.specs.Drafts.{fresh, link, go, away}
use Rattle.pk_draft.specs.Folding.{binary_tree}
use Rattle.pk_draft.specs.declared.drafts.Size.{Size}
use Rattle.pk_lower_statement.specs.declared.statements.Exits.{Exits}
use Rattle.pk_lower_statement.specs.Statements.{in_switch, case_test, case_tests, lowered}
use Rattle.pk_ctypes.specs.declared.places.Pos.{Pos}
use Rattle.pk_typed.specs.Trees as tree
use Rattle.pk_welltyped.specs.Listed.{Numbered, calls_in_statement}
use Rattle.pk_welltyped.specs.WellTyped
use Rattle.pk_welltyped.specs.WellTyped.{Marks, IsStatement}
use Rattle.pk_visits.proofs.Doom.{calm_plain}
use Rattle.pk_visits.proofs.Steps.Returns.{jump_edge}
use Rattle.pk_meaning.specs.Objects.{Objects}
use Rattle.pk_meaning.specs.Work as work
use Rattle.pk_meaning.specs.Work.{Place, Work, Ahead, Way, Onward, Refused, Lost}
use Rattle.pk_meaning.specs.Steps as meaning
use Rattle.pk_meaning.specs.Steps.{step_of}
use Rattle.pk_visits.proofs.Slots.{SlotTree, Draft, Memory, memory, Among, edge, front_among, last_among, region_at}
use Rattle.pk_visits.proofs.Settled.Trees.{Settles}
use Rattle.pk_visits.proofs.Stands.{Whole, context_of, final, around, Marking, Held, Means, FitsObjects, ShowsAt, Leads, Stage, switch_from, LaidWay, Laid, IsReserved}
use Rattle.pk_visits.proofs.Follow.{Answers, config, moved}
use Rattle.pk_visits.proofs.Steps.Tests.{passes, along}
use Rattle.pk_visits.proofs.Steps.Values.{binary_is}
use Rattle.pk_visits.proofs.Stages.{In, part_point, part_room, stage_at, fresh_one, forth_here}
use Rattle.pk_visits.proofs.Grows.Statements.{Stays, Adds, stays_then, link_adds, away_adds, case_adds, fresh_adds, statement, Free}
use Rattle.pk_visits.proofs.Steps.Tells.{any_called, Any}
use Rattle.pk_visits.proofs.Operands.{calm_more}

true_of : (b : Bool) → is_true (truth b) ≡ b
true_of true = refl
true_of false = refl

-- a test has the value of its comparison
equal_value : (s : Site) (t : IntType) (r : SlotTree) (v z : ℤ) (m : Memory) → tree_value memory r m ≡ Ok v → tree_value memory (binary_tree Eq s t r (constant t z)) m ≡ Ok (truth (int_eq v z))
equal_value s t r v z m k =
    binary_is Eq s t r (constant t z) m ∙ ap (λ q. and_then q (λ x. and_then (Ok z) (λ y. at_site s (value_of Eq t x y)))) k
    ∙ ap (λ q. at_site s q) (fitted_inside Overflow t (truth (int_eq v z)) (truth_in t (int_eq v z)))

-- the same stage, to an equal draft
abbrev pub stage_to : (g : Whole) (k : ℕ) (h : Place) (xs : List Numbered) (d e f : Draft) → e ≡ f → Stage g k h xs d e → Stage g k h xs d f
stage_to g k h xs d e f is s = record {
  marks = s.marks;
  later = s.later;
  leads = subst (λ q. Leads g s.marks s.later q) is s.leads;
  bounded = subst (λ q. (n : ℕ) → Among n s.marks → d.points ≤ n → n < q.points → IsReserved g k q.regions n) is s.bounded;
  free = subst (λ q. (m : ℕ) → k < m → ((region_at d.regions m).points ≡ 0) ⊎ ((region_at d.regions m).points + g.spans m ≤ d.points) ⊎ (q.points ≤ (region_at d.regions m).points)) is s.free;
  spans = s.spans;
  here = s.here;
  apart = s.apart;
  distinct = s.distinct;
  path = s.path;
  noted = s.noted;
}

-- one test, behind which come the others
pub choose_test : (g : Whole) (chosen : Numbers) (p : ℕ) (m : Memory) (k : ℕ) (h j : Place) (t : IntType) (z : ℤ) (zs : List ℤ) (i : ℕ) (has : Bool) (body : StatementTree) (a : Ahead) (v : ℤ) (vs : Numbers) (s : Objects) (b : Bool) (x : Exits) (top : Held) (hs : List Held)
    → (l : Laid g k h x (work.Choose t (z ∷ zs) i has body j a) p (top ∷ hs)) → LaidWay g k (meaning.found g.program k (meaning.numbered i) j.scope body (work.Close j a) Lost) (l.5 + 1 + i) hs
    → Means m (top ∷ hs) (v ∷ vs) → m.objects ≡ s → FitsObjects g.program s
    → Answers g chosen k h p m (step_of g.program chosen (config k h (work.Choose t (z ∷ zs) i has body j a) (v ∷ vs) s b) (work.Choose t (z ∷ zs) i has body j a))
unfolding case_tests
choose_test g chosen p m k h j t z zs i has body a v vs s b x top hs (d, n, mark, r, total, e, at', types, many, fits, calm, u, marking, settled, shown, l, sw) way means same f = by (int_eq v z) refl where
  T : SlotTree
  T = binary_tree Eq r t top.tree (constant t z)

  d1 : Draft
  d1 = case_test r t top.tree z (e + 1 + i) d

  U : ℕ → Size → Type 0
  U = Any

  F : Draft
  F = switch_from (context_of g k) r t top.tree (z ∷ zs) i total e has body x d

  rest : Adds u.marks Free U d1 F
  rest =
      let c = context_of g k in
      let w = case_tests r t top.tree zs (e + 1 + i + 1) d1 in
      let q = if has then e + 1 + total else e in
      stays_then (case_adds u.marks Free U r t top.tree zs (e + 1 + i + 1) d1) (stays_then (away_adds u.marks Free U q w)
      (stays_then (statement U c _ _ body (in_switch e total x) u.marks Free (λ i o. tt) fits marking (any_called c (calls_in_statement body)) (away q w)) (link_adds u.marks Free U Skip e (lowered c body (in_switch e total x) (away q w)))))

  yes : Among (edge p (Guard T true) (e + 1 + i)) g.edges
  yes = subst (λ q. Among (edge q (Guard T true) (e + 1 + i)) g.edges) at' (u.leads.edges _ (rest.edges _ (front_among _ _ _ (last_among d.edges (edge d.point (Guard T true) (e + 1 + i))))))

  not : Among (edge p (Guard T false) d.points) g.edges
  not = subst (λ q. Among (edge q (Guard T false) d.points) g.edges) at' (u.leads.edges _ (rest.edges _ (last_among _ (edge d.point (Guard T false) d.points))))

  value : tree_value memory T m ≡ Ok (truth (int_eq v z))
  value = equal_value r t top.tree v z m means.0

  here : g.shows d.here k j
  here = u.here

  grow : Adds u.marks Free U (fresh 1 d) F
  grow = stays_then (link_adds u.marks Free U (Guard T true) (e + 1 + i) (fresh 1 d)) (stays_then (link_adds u.marks Free U (Guard T false) d.points (link (Guard T true) (e + 1 + i) (fresh 1 d))) rest)

  room : d.points + 1 ≤ length d.labels
  room = let q = part_room g Stays (In u.marks) U k j (calls_in_statement body) d (fresh 1 d) F u grow in let w = (fresh_adds [] Free U 1 d).size in omega (arith, q, w)

  next : ShowsAt g d.points k j
  next = part_point g Stays U k j j (calls_in_statement body) d d (fresh 1 d) F d.points d.here u (forth_here g d.points d.regions) refl grow (omega arith) (omega arith) (fresh_one d room) here

  settled_next : Settles (final g k) (context_of g k) body (in_switch e total x) (away (if has then e + 1 + total else e) (case_tests r t top.tree zs (e + 1 + (i + 1)) d1))
  settled_next = subst (λ q. Settles (final g k) (context_of g k) body (in_switch e total x) (away (if has then e + 1 + total else e) (case_tests r t top.tree zs q d1))) (omega arith) settled

  laid : Laid g k j x (work.Choose t zs (i + 1) has body j a) d.points (top ∷ hs)
  laid = (
    d1,
    n,
    mark,
    r,
    total,
    e,
    refl,
    types,
    omega (arith, many),
    fits,
    calm_more d.variables d1.variables (top ∷ hs) (omega arith) calm,
    stage_to g k j (calls_in_statement body) d1 F (switch_from (context_of g k) r t top.tree zs (i + 1) total e has body x d1)
        (ap (λ q. go Skip e (lowered (context_of g k) body (in_switch e total x) (away (if has then e + 1 + total else e) (case_tests r t top.tree zs q d1)))) (omega arith))
        (stage_at g k j j (calls_in_statement body) d d1 F u (record { points = omega arith; regions = λ q. inr refl }) here),
    marking,
    settled_next,
    shown,
    l,
    sw,
  )

  by : (q : Bool) → int_eq v z ≡ q
      → Answers g chosen k h p m (if q then meaning.takes (config k h (work.Choose t (z ∷ zs) i has body j a) (v ∷ vs) s b) (meaning.found g.program k (meaning.numbered i) j.scope body (work.Close j a) Lost) vs
      else meaning.comes (config k h (work.Choose t (z ∷ zs) i has body j a) (v ∷ vs) s b) j (work.Choose t zs (i + 1) has body j a) (v ∷ vs))
  by true is = along g chosen p (e + 1 + i) m k h (work.Choose t (z ∷ zs) i has body j a) (v ∷ vs) vs s b T (truth (int_eq v z)) true _ hs yes value (true_of (int_eq v z) ∙ is) way means.2 same f
  by false is = moved g chosen p d.points m m (Guard T false) k j (work.Choose t zs (i + 1) has body j a) (v ∷ vs) s true x (top ∷ hs) not (passes chosen T (truth (int_eq v z)) false m value (true_of (int_eq v z) ∙ is)) (refl, next) laid means same f

-- over an edge that does nothing, along a way
jump_along : (g : Whole) (chosen : Numbers) (p q : ℕ) (m : Memory) (k : ℕ) (h : Place) (w : Work) (us vs : Numbers) (s : Objects) (b : Bool) (y : Way) (hs : List Held)
    → Among (edge p Skip q) g.edges → LaidWay g k y q hs → Means m hs vs → m.objects ≡ s → FitsObjects g.program s → Answers g chosen k h p m (meaning.takes (config k h w us s b) y vs)
jump_along g chosen p q m k h w us vs s b (Onward j v) hs there (shown, (x, l)) e same f = moved g chosen p q m m Skip k j v vs s true x hs there refl (refl, shown) l e same f
jump_along g chosen p q m k h w us vs s b Refused hs there l e same f = (Skip, subst (λ j. Among (edge p Skip j) g.edges) l there, refl)
jump_along g chosen p q m k h w us vs s b Lost hs there l e same f = absurd l

-- where no case holds: to the default or behind the switch
none_edge : (g : Whole) (k : ℕ) (j : Place) (t : IntType) (i total e : ℕ) (has : Bool) (body : StatementTree) (x : Exits) (tr : SlotTree) (r : Site) (d : Draft) (n : ℕ) (mark : Marks) (u : Stage g k j (calls_in_statement body) d (switch_from (context_of g k) r t tr [] i total e has body x d))
    → IsStatement (around g k n) (WellTyped.in_switch total has mark) body → Marking (in_switch e total x) (WellTyped.in_switch total has mark) u.marks
    → Among (edge d.point Skip (if has then e + 1 + total else e)) g.edges
unfolding case_tests
none_edge g k j t i total e has body x tr r d n mark u fits marking =
    let c = context_of g k in
    let U = Any in
    let q = if has then e + 1 + total else e in
    let rest = stays_then (statement U c _ _ body (in_switch e total x) u.marks Free (λ i o. tt) fits marking (any_called c (calls_in_statement body)) (away q d)) (link_adds u.marks Free U Skip e (lowered c body (in_switch e total x) (away q d))) in
    u.leads.edges _ (rest.edges _ (last_among d.edges (edge d.point Skip q)))

pub choose_default : (g : Whole) (chosen : Numbers) (p : ℕ) (m : Memory) (k : ℕ) (h j : Place) (t : IntType) (i : ℕ) (body : StatementTree) (a : Ahead) (v : ℤ) (vs : Numbers) (s : Objects) (b : Bool) (x : Exits) (top : Held) (hs : List Held)
    → (l : Laid g k h x (work.Choose t [] i true body j a) p (top ∷ hs)) → LaidWay g k (meaning.found g.program k meaning.otherwise j.scope body (work.Close j a) Lost) (l.5 + 1 + l.4) hs
    → Means m (top ∷ hs) (v ∷ vs) → m.objects ≡ s → FitsObjects g.program s
    → Answers g chosen k h p m (step_of g.program chosen (config k h (work.Choose t [] i true body j a) (v ∷ vs) s b) (work.Choose t [] i true body j a))
choose_default g chosen p m k h j t i body a v vs s b x top hs (d, n, mark, r, total, e, at', types, many, fits, calm, u, marking, settled, shown, l, sw) way means same f =
    let there = none_edge g k j t i total e true body x top.tree r d n mark u fits marking in
    jump_along g chosen p (e + 1 + total) m k h (work.Choose t [] i true body j a) (v ∷ vs) vs s b (meaning.found g.program k meaning.otherwise j.scope body (work.Close j a) Lost) hs
    (subst (λ q. Among (edge q Skip (e + 1 + total)) g.edges) at' there) way means.2 same f

pub choose_none : (g : Whole) (chosen : Numbers) (p : ℕ) (m : Memory) (k : ℕ) (h j : Place) (t : IntType) (i : ℕ) (body : StatementTree) (a : Ahead) (v : ℤ) (vs : Numbers) (s : Objects) (b : Bool) (x : Exits) (top : Held) (hs : List Held)
    → Laid g k h x (work.Choose t [] i false body j a) p (top ∷ hs) → Means m (top ∷ hs) (v ∷ vs) → m.objects ≡ s → FitsObjects g.program s
    → Answers g chosen k h p m (step_of g.program chosen (config k h (work.Choose t [] i false body j a) (v ∷ vs) s b) (work.Choose t [] i false body j a))
choose_none g chosen p m k h j t i body a v vs s b x top hs (d, n, mark, r, total, e, at', types, many, fits, calm, u, marking, settled, shown, l, sw) means same f =
    let there = none_edge g k j t i total e false body x top.tree r d n mark u fits marking in
    moved g chosen p e m m Skip k j (work.Go a) vs s true x hs (subst (λ q. Among (edge q Skip e) g.edges) at' there) refl (refl, shown) (calm_plain d.variables hs calm.1, l) means.2 same f

-- ---- jumps to marks

-- `goto`, where the way to its label is laid
pub goto_by : (g : Whole) (chosen : Numbers) (p : ℕ) (m : Memory) (k : ℕ) (h : Place) (vs : Numbers) (s : Objects) (b : Bool) (x : Exits) (hs : List Held) (q : Pos) (n : ℕ) (a : Ahead)
    → Laid g k h x (work.Do (tree.goto q n) a) p hs → LaidWay g k (meaning.gone_to g.program k n a) (x.labels + n) hs → Means m hs vs → m.objects ≡ s → FitsObjects g.program s
    → Answers g chosen k h p m (step_of g.program chosen (config k h (work.Do (tree.goto q n) a) vs s b) (work.Do (tree.goto q n) a))
unfolding lowered
goto_by g chosen p m k h vs s b x hs q n a (d, o, mark, at', fits, calm, t, marking, settled, l) way means same f =
    jump_along g chosen p (x.labels + n) m k h (work.Do (tree.goto q n) a) vs vs s b (meaning.gone_to g.program k n a) hs
    (subst (λ i. Among (edge i Skip (x.labels + n)) g.edges) at' (jump_edge g k _ _ q (x.labels + n) d t)) way means same f
