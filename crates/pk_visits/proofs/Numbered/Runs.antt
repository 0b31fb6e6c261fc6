-- Where a graph over slots moves or faults, the numbered graph that is its copy does.
use Rattle.std.proofs.Common.{◌≡◌, ℕ, ◌<◌, ◌⊎◌, List, [], ◌∷◌, length, Bool, true, false, not, refl, sym, ap, subst, inl, inr, arith, ℤ}
use Rattle.std.specs.Prelude.{Result, Ok, Err}
use Rattle.pk_graph.specs.Kinds.{count_of, Kind}
use Rattle.pk_graph.specs.Trees.{Skip, Set, Havoc, Clear, Load, Store, Guard, Check}
use Rattle.pk_graph.specs.Graphs.{PathOf}
use Rattle.pk_graph.specs.Steps as steps
use Rattle.pk_graph.specs.Steps.{Numbers, Failure, tree_value, is_true, with_value, effect}
use Rattle.pk_graph.specs.Stores.{Stored}
use Rattle.pk_draft.specs.Drafts.{DraftOf, nowhere}
use Rattle.pk_number.specs.Numbering.{reached, edge_of, numbered}
use Rattle.pk_meaning.specs.Objects.{Object, numbers_of, with_numbers}
use Rattle.pk_meaning.specs.Programs.{Program}
use Rattle.pk_meaning.specs.Work as work
use Rattle.pk_meaning.specs.Work.{Place}
use Rattle.pk_meaning.specs.Steps.{Config}
use Rattle.pk_meaning.specs.Runs.{Visit}
use Rattle.pk_meaning.specs.Runs as runs
use Rattle.pk_visits.specs.GraphVisits as graph
use Rattle.pk_visits.specs.GraphVisits.{GraphRuns}
use Rattle.pk_visits.specs.SameVisits.{FailsAt}
use Rattle.pk_visits.proofs.Slots.{Slot, own, temporary, Instr, edge, Memory, memory, with_memory, Among}
use Rattle.pk_visits.proofs.Stands.{Whole, HasKind, FitsObjects}
use Rattle.pk_visits.proofs.Stores.{decided, same_object, other_object}
use Rattle.pk_visits.proofs.Follow.{written, Seen, Moves, Doomed, IsInside, now, later, config, set_does}
use Rattle.pk_visits.proofs.Numbered.Edges.{IsFound, number_of, end_found, edge_shown}
use Rattle.pk_visits.proofs.Numbered.Stores.{Naming, IsNaming, Mirrors, AreThere, goes_same, faults_same, inside_same}
use Rattle.pk_visits.proofs.Numbered.Copies.{renamed_edge, HasOtherWay, IsCopy, visits_same}

-- ---- objects that are there

-- each object of the graph has a kind, with a number at least
abbrev pub HaveKinds : (Made : Slot → Type 0) → Program → Type 0
HaveKinds M p = (x : Object) → M (own x) → (n : Kind) × HasKind p x n × (0 < count_of n.length)

pub are_there : (M : Slot → Type 0) (p : Program) (m : Memory) → HaveKinds M p → FitsObjects p m.objects → AreThere M m
are_there M p m k h x i = let n = k x i in omega (arith, (h x n.0 n.1).0, n.2)

abbrev IsThere : Memory → Slot → Type 0
IsThere m (own z) = 0 < length (numbers_of z m.objects)
IsThere m (temporary k) = Unit {0}

pub there_written : (f : Naming) (M : Slot → Type 0) (n : ℕ) (m : Memory) (x : Object) (v : ℤ) → IsNaming f M n → M (own x) → AreThere M m → AreThere M (with_memory (own x) (v ∷ []) m)
there_written f M n m x v g i t y j = by (decided (f (own x)) (f (own y))) where
  one : (zs : Numbers) → zs ≡ v ∷ [] → 0 < length zs
  one zs e = subst (λ ys. 0 < length ys) (sym e) (omega arith)

  by : (f (own x) ≡ f (own y)) ⊎ (f (own x) ≡ f (own y) → ⊥) → 0 < length (numbers_of y (with_numbers x (v ∷ []) m.objects))
  by (inl e) = subst (IsThere (with_memory (own x) (v ∷ []) m)) (g.apart (own x) (own y) i j e) (one (numbers_of x (with_numbers x (v ∷ []) m.objects)) (same_object x (v ∷ []) m.objects (t x i)))
  by (inr d) = subst (λ zs. 0 < length zs) (sym (other_object x y (v ∷ []) m.objects (λ q. d (ap (λ z. f (own z)) q)))) (t y j)

-- ---- one step

-- what goes on from the end of an edge goes on from its beginning
pub one_step : (f : Naming) (M : Slot → Type 0) (paths : List PathOf) (g : Whole) (d : DraftOf ℕ) (p q : ℕ) (i : Instr) (chosen : Numbers) (m after : Memory) (s : Stored)
    → IsCopy f M g d → IsFound d p → Among (edge p i q) g.edges → (q ≡ nowhere → ⊥) → AreThere M m → Mirrors f M (length d.made) m s → effect memory chosen i m ≡ steps.To after
    → (t : Stored) × IsFound d q × Mirrors f M (length d.made) after t
    × ((vs : List Visit) (r : ℕ) (u : Stored) → GraphRuns (numbered paths d) (number_of d q) t vs r u
    → GraphRuns (numbered paths d) (number_of d p) s (graph.visits_if (numbered paths d) (edge_of (reached d.edges) (renamed_edge f (edge p i q))) t vs) r u)
one_step f M paths g d p q i ch m after s c found a n t h e =
    let r = goes_same f M (length d.made) m after s ch i c.naming (c.over (edge p i q) a) t h e in
    let there = c.edges (edge p i q) a in
    (r.0, end_found d (renamed_edge f (edge p i q)) there n found, r.2, λ vs k u go. graph.steps ch (edge_shown paths d (renamed_edge f (edge p i q)) there n found) r.1 go)

-- a step that is seen doesn't lead to nowhere
to_somewhere : (f : Naming) (M : Slot → Type 0) (g : Whole) (d : DraftOf ℕ) (c : Config) (p q : ℕ) (i : Instr) → IsCopy f M g d → Among (edge p i q) g.edges → Seen g c (written i) q → q ≡ nowhere → ⊥
to_somewhere f M g d c p q i copy a s e = by i s (copy.other_ways (edge p i q) a e) where
  by : (j : Instr) → Seen g c (written j) q → HasOtherWay g p j → ⊥
  by Skip s o = copy.somewhere q c.path c.here s.1 e
  by (Set x t) s o = o
  by (Havoc x t n) s o = o
  by (Clear x) s o = o
  by (Load x y t b j) s o = o
  by (Store x t b j y) s o = o
  by (Guard t b) s o = copy.somewhere q c.path c.here s.1 e
  by (Check t x) s o = o

-- Where the graph over slots moves, the numbered graph does, with the program's visit.
pub moves_shown : (f : Naming) (M : Slot → Type 0) (paths : List PathOf) (g : Whole) (d : DraftOf ℕ) (chosen : Numbers) (p : ℕ) (m : Memory) (c : Config) (s : Stored)
    → IsCopy f M g d → IsFound d p → AreThere M m → Mirrors f M (length d.made) m s → (z : Moves g chosen p m c)
    → (t : Stored) × IsFound d z.to × Mirrors f M (length d.made) z.after t
    × ((vs : List Visit) (r : ℕ) (u : Stored) → GraphRuns (numbered paths d) (number_of d z.to) t vs r u → GraphRuns (numbered paths d) (number_of d p) s (runs.visits_if g.program c vs) r u)
moves_shown f M paths g d ch p m c s copy found t h z =
    let o = one_step f M paths g d p z.to z.instr ch m z.after s copy found z.there (to_somewhere f M g d c p z.to z.instr copy z.there z.seen) t h z.does in (
      o.0,
      o.1,
      o.2,
      λ vs r u go. subst (λ ws. GraphRuns (numbered paths d) (number_of d p) s ws r u)
          (visits_same f M paths g d c p z.to z.instr z.after o.0 vs copy o.1 (copy.over (edge p z.instr z.to) z.there) z.seen o.2 z.stands.same) (o.3 vs r u go),
    )

-- ---- faults

-- a guard's tree faults on both of its ways
guard_fails : (r : Result ℤ Failure) (b : Bool) (m : Memory) (x : Failure) → with_value r (λ v. steps.passed (is_true v) b m) ≡ steps.Faulted x → with_value r (λ v. steps.passed (is_true v) (not b) m) ≡ steps.Faulted x
guard_fails (Ok v) b m x e = by (is_true v) b e where
  by : (a c : Bool) → steps.passed a c m ≡ steps.Faulted x → steps.passed a (not c) m ≡ steps.Faulted x
  by true true h = absurd (cc h)
  by true false h = absurd (cc h)
  by false true h = absurd (cc h)
  by false false h = absurd (cc h)
guard_fails (Err y) b m x e = e

fails_now : (f : Naming) (M : Slot → Type 0) (paths : List PathOf) (g : Whole) (d : DraftOf ℕ) (chosen : Numbers) (p q : ℕ) (i : Instr) (m : Memory) (s : Stored) (x : Failure)
    → IsCopy f M g d → IsFound d p → AreThere M m → Mirrors f M (length d.made) m s → Among (edge p i q) g.edges → (q ≡ nowhere → ⊥) → effect memory chosen i m ≡ steps.Faulted x → IsInside i m
    → FailsAt (numbered paths d) (number_of d p) s x
fails_now f M paths g d ch p q i m s x c found t h a n e inside = record {
  chosen = ch;
  edge = edge_of (reached d.edges) (renamed_edge f (edge p i q));
  there = edge_shown paths d (renamed_edge f (edge p i q)) (c.edges (edge p i q) a) n found;
  fails = faults_same f M (length d.made) m s ch i x c.naming (c.over (edge p i q) a) t h e;
  inside = inside_same f M (length d.made) m s i c.naming (c.over (edge p i q) a) t h inside;
}

-- Where the graph over slots faults from a point on, the numbered graph does.
pub doomed_shown : (f : Naming) (M : Slot → Type 0) (paths : List PathOf) (g : Whole) (d : DraftOf ℕ) (chosen : Numbers) (k : ℕ) (h : Place) (x : Failure) (p : ℕ) (m : Memory) (s : Stored)
    → IsCopy f M g d → IsFound d p → AreThere M m → Mirrors f M (length d.made) m s → Doomed g chosen k h x p m
    → (r : ℕ) × (u : Stored) × GraphRuns (numbered paths d) (number_of d p) s [] r u × FailsAt (numbered paths d) r u x
doomed_shown f M paths g d ch k h x p m s c found t mirrors (now q i a e inside) = by (decided q nowhere) where
  other : (j : Instr) → HasOtherWay g p j → effect memory ch j m ≡ steps.Faulted x → FailsAt (numbered paths d) (number_of d p) s x
  other Skip o w = absurd (cc w)
  other (Set y v) o w = absurd o
  other (Havoc y v n) o w = absurd o
  other (Clear y) o w = absurd o
  other (Load y v n b z) o w = absurd o
  other (Store y v n b z) o w = absurd o
  other (Guard y b) o w = fails_now f M paths g d ch p o.0 (Guard y (not b)) m s x c found t mirrors o.1 o.2 (guard_fails (tree_value memory y m) b m x w) tt
  other (Check v y) o w = absurd o

  by : (q ≡ nowhere) ⊎ (q ≡ nowhere → ⊥) → (r : ℕ) × (u : Stored) × GraphRuns (numbered paths d) (number_of d p) s [] r u × FailsAt (numbered paths d) r u x
  by (inl n) = (number_of d p, s, graph.ends, other i (c.other_ways (edge p i q) a n) e)
  by (inr n) = (number_of d p, s, graph.ends, fails_now f M paths g d ch p q i m s x c found t mirrors a n e inside)
doomed_shown f M paths g d ch k h x p m s c found t mirrors (later q y e v a value hidden shown rest) =
    let made = (c.over (edge p (Set (own y) e) q) a).0 in
    let after = with_memory (own y) (v ∷ []) m in
    let seen = config k h (work.Return work.Nobody) [] after.objects false in
    let o = one_step f M paths g d p q (Set (own y) e) ch m after s c found a (c.somewhere q k h shown) t mirrors (set_does ch (own y) e v m value) in
    let z = doomed_shown f M paths g d ch k h x q after o.0 c o.1 (there_written f M (length d.made) m y v c.naming made t) o.2 rest in (
      z.0,
      z.1,
      subst (λ ws. GraphRuns (numbered paths d) (number_of d p) s ws z.0 z.1)
          (visits_same f M paths g d seen p q (Set (own y) e) after o.0 [] c o.1 (c.over (edge p (Set (own y) e) q) a) (sym hidden, shown) o.2 refl) (o.3 [] z.0 z.1 z.2),
      z.3,
    )
