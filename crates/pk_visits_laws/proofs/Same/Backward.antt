-- Each run of the numbered graph is that of a run of the program that it follows.
use Rattle.std.proofs.Common.{◌≡◌, ℕ, ◌<◌, ◌⊎◌, List, [], ◌∷◌, length, Bool, true, false, refl, sym, ap, ◌∙◌, subst, inl, inr, if◌then◌else◌}
use Rattle.std.specs.List.{Contains}
use Rattle.pk_ctypes.specs.declared.types.IntType.{IntType}
use Rattle.pk_graph.specs.Trees.{Skip, Set, Havoc, Clear, Load, Store, Guard, Check}
use Rattle.pk_graph.specs.Graphs.{PathOf, EdgeOf, point_at}
use Rattle.pk_graph.specs.Steps as steps
use Rattle.pk_graph.specs.Steps.{Numbers, Failure, effect, are_any}
use Rattle.pk_graph.specs.Stores.{Stored, storing}
use Rattle.pk_draft.specs.Drafts.{EdgeFrom, DraftOf, nowhere}
use Rattle.pk_number.specs.Numbering.{reached, edge_of, numbered}
use Rattle.pk_meaning.specs.Programs.{Program}
use Rattle.pk_meaning.specs.Work as work
use Rattle.pk_meaning.specs.Work.{Place, Work}
use Rattle.pk_meaning.specs.Steps as meaning
use Rattle.pk_meaning.specs.Steps.{Config, Next, step}
use Rattle.pk_meaning.specs.Runs.{Visit, visit_of, Runs}
use Rattle.pk_meaning.specs.Runs as runs
use Rattle.pk_visits.specs.GraphVisits as graph
use Rattle.pk_visits.specs.GraphVisits.{GraphRuns}
use Rattle.pk_visits.proofs.Slots.{Slot, own, Instr, edge, Memory, memory, with_memory, Among, region_at}
use Rattle.pk_visits.proofs.Stands.{Whole, Laid, StandsAt}
use Rattle.pk_visits.proofs.Follow.{Answers, Follows, Doomed, now, later, config, set_does}
use Rattle.pk_visits.proofs.Journeys.{IsLaw}
use Rattle.pk_visits.proofs.Numbered.Edges.{IsFound, number_of, end_found}
use Rattle.pk_visits.proofs.Numbered.Stores.{Naming, AreThere, Mirrors, goes_same, faults_same}
use Rattle.pk_visits.proofs.Numbered.Copies.{renamed_edge, IsCopy, visits_same}
use Rattle.pk_visits.proofs.Numbered.Runs.{HaveKinds, there_written}
use Rattle.pk_visits.proofs.Numbered.Visits.{stands_there}
use Rattle.pk_visits_laws.proofs.Ways.Ways.{from, IsWay}
use Rattle.pk_visits_laws.proofs.Same.Pausing.{Pauses, pauses, IsKept, pausing}
use Rattle.pk_visits_laws.proofs.Same.Edges.{IsMadeFrom, edge_back, AreOpposite, one_way_at, no_way, both_go, goes_or_fails}

-- A program that its graph follows, and a draft by number that is a copy, whose points have one way each and the entry's exit none.
pub record IsSetting (f : Naming) (Made : Slot → Type 0) (g : Whole) (d : DraftOf ℕ) : Type 0 where
  pub copy : IsCopy f Made g d
  pub kinds : HaveKinds Made g.program
  pub law : IsLaw g
  pub ways : (p : ℕ) → IsWay (from p d.edges)
  pub exit : from (region_at g.regions 0).points d.edges ≡ []

-- ---- what is kept

stands_on : (g : Whole) → IsLaw g → (ch : Numbers) (c d : Config) (p : ℕ) (m : Memory) → StandsAt g c p m → step g.program ch c ≡ meaning.To d → (q : ℕ) × (n : Memory) × StandsAt g d q n
stands_on g law ch c d p m z e = by (subst (Answers g ch c.path c.here p m) e (law ch p m c z)) where
  by : Follows g ch p m d → (q : ℕ) × (n : Memory) × StandsAt g d q n
  by (inl a) = (p, m, a.1)
  by (inr a) = (a.to, a.after, a.stands)

abbrev Stands : Whole → Config → Type 0
Stands g c = (p : ℕ) × (m : Memory) × StandsAt g c p m

enters_behind : (g : Whole) (c : Config) (j : ℕ) (w : Work) (p : ℕ) (m : Memory) → StandsAt g c p m → c.work ≡ work.Enter j w → (c.path < j) × (j < length g.program.paths)
enters_behind g c j w p m z e = let l = subst (λ v. Laid g c.path c.here z.exits v p z.waiting) e z.laid in (l.4, l.0)

kept : (g : Whole) → IsLaw g → (ch : Numbers) → IsKept g.program ch (length g.program.paths) (Stands g)
kept g law ch = record {
  steps = λ c d k e. stands_on g law ch c d k.0 k.1 k.2 e;
  enters = λ c j w k e. enters_behind g c j w k.0 k.1 k.2 e;
}

pub pauses_there : (g : Whole) → IsLaw g → (ch : Numbers) (c : Config) (p : ℕ) (m : Memory) → StandsAt g c p m → Pauses g.program ch c
pauses_there g law ch c p m z = pausing g.program ch (length g.program.paths) (Stands g) (kept g law ch) c (p, m, z)

-- ---- what runs come to

-- The program has run to a configuration that stands at a point with this number.
pub record Ran (f : Naming) (M : Slot → Type 0) (g : Whole) (d : DraftOf ℕ) (c : Config) (vs : List Visit) (n : ℕ) (t : Stored) : Type 0 where
  pub last : Config
  pub runs : Runs g.program c vs last
  pub point : ℕ
  pub memory : Memory
  pub number : number_of d point ≡ n
  pub found : IsFound d point
  pub mirrors : Mirrors f M (length d.made) memory t
  pub stands : StandsAt g last point memory

-- a point with this number from which the graph fails
pub record IsDoomed (f : Naming) (M : Slot → Type 0) (g : Whole) (d : DraftOf ℕ) (ch : Numbers) (k : ℕ) (h : Place) (x : Failure) (n : ℕ) (t : Stored) : Type 0 where
  pub point : ℕ
  pub memory : Memory
  pub number : number_of d point ≡ n
  pub found : IsFound d point
  pub there : AreThere M memory
  pub mirrors : Mirrors f M (length d.made) memory t
  pub doomed : Doomed g ch k h x point memory

-- The program has run to where it fails, and the graph does behind the point.
pub record Fell (f : Naming) (M : Slot → Type 0) (g : Whole) (d : DraftOf ℕ) (c : Config) (vs : List Visit) (n : ℕ) (t : Stored) : Type 0 where
  pub last : Config
  pub runs : Runs g.program c vs last
  pub chosen : Numbers
  pub failure : Failure
  pub fails : step g.program chosen last ≡ meaning.Faulted failure.fault failure.site
  pub behind : IsDoomed f M g d chosen last.path last.here failure n t

abbrev pub Comes : (f : Naming) (M : Slot → Type 0) (g : Whole) (d : DraftOf ℕ) (c : Config) (vs : List Visit) (n : ℕ) (t : Stored) → Type 0
Comes f M g d c vs n t = Ran f M g d c vs n t ⊎ Fell f M g d c vs n t

-- one step before
comes_behind : {f : Naming} {M : Slot → Type 0} {g : Whole} {d : DraftOf ℕ} {n : ℕ} {t : Stored} (ch : Numbers) (c e : Config) (vs : List Visit) → step g.program ch c ≡ meaning.To e
    → Comes f M g d e vs n t → Comes f M g d c (runs.visits_if g.program e vs) n t
comes_behind ch c e vs is (inl r) = inl (record { last = r.last; runs = runs.steps ch is r.runs; point = r.point; memory = r.memory; number = r.number; found = r.found; mirrors = r.mirrors; stands = r.stands })
comes_behind ch c e vs is (inr r) = inr (record { last = r.last; runs = runs.steps ch is r.runs; chosen = r.chosen; failure = r.failure; fails = r.fails; behind = r.behind })

pub unseen : (p : Program) (e : Config) (vs : List Visit) → e.is_visit ≡ false → runs.visits_if p e vs ≡ vs
unseen p e vs h = ap (λ b. if b then visit_of p e ∷ vs else vs) h

-- ---- edges of a point, over slots and by number

-- an edge over slots from the point is one of the draft's
pub slot_edge : (f : Naming) (M : Slot → Type 0) (g : Whole) (d : DraftOf ℕ) (p q : ℕ) (i : Instr) (x : EdgeFrom ℕ) → IsSetting f M g d → Among (edge p i q) g.edges → Among x d.edges → x.from ≡ p → (x ≡ renamed_edge f (edge p i q)) ⊎ AreOpposite x (renamed_edge f (edge p i q))
slot_edge f M g d p q i x h a b e = one_way_at d p x (renamed_edge f (edge p i q)) (h.ways p) b e (h.copy.edges (edge p i q) a) refl

-- where both lead on, they are one, to one store
record IsOne (f : Naming) (M : Slot → Type 0) (g : Whole) (d : DraftOf ℕ) (p q : ℕ) (i : Instr) (after : Memory) (x : EdgeFrom ℕ) (t : Stored) : Type 0 where
  same : x ≡ renamed_edge f (edge p i q)
  mirrors : Mirrors f M (length d.made) after t

one_edge : (f : Naming) (M : Slot → Type 0) (g : Whole) (d : DraftOf ℕ) (ch : Numbers) (p q : ℕ) (i : Instr) (m after : Memory) (s t : Stored) (x : EdgeFrom ℕ) → IsSetting f M g d → Among (edge p i q) g.edges → Among x d.edges → x.from ≡ p
    → AreThere M m → Mirrors f M (length d.made) m s → effect memory ch i m ≡ steps.To after → effect storing ch x.instr s ≡ steps.To t → IsOne f M g d p q i after x t
one_edge f M g d ch p q i m after s t x h a b e there mirrors does goes =
    let r = goes_same f M (length d.made) m after s ch i h.copy.naming (h.copy.over (edge p i q) a) there mirrors does in
    let o = both_go ch s t r.0 x (renamed_edge f (edge p i q)) (slot_edge f M g d p q i x h a b e) goes r.1 in
    record { same = o.0; mirrors = subst (Mirrors f M (length d.made) after) (sym o.1) r.2 }

not_failing : (f : Naming) (M : Slot → Type 0) (g : Whole) (d : DraftOf ℕ) (ch : Numbers) (p q : ℕ) (i : Instr) (m : Memory) (s t : Stored) (y : Failure) (x : EdgeFrom ℕ) → IsSetting f M g d → Among (edge p i q) g.edges → Among x d.edges → x.from ≡ p
    → AreThere M m → Mirrors f M (length d.made) m s → effect memory ch i m ≡ steps.Faulted y → effect storing ch x.instr s ≡ steps.To t → ⊥
not_failing f M g d ch p q i m s t y x h a b e there mirrors fails goes =
    goes_or_fails ch s t y x (renamed_edge f (edge p i q)) (slot_edge f M g d p q i x h a b e) goes (faults_same f M (length d.made) m s ch i y h.copy.naming (h.copy.over (edge p i q) a) there mirrors fails)

-- a failure needs no numbers
pub fails_always : (ch us : Numbers) (i : Instr) (m : Memory) (x : Failure) → effect memory ch i m ≡ steps.Faulted x → effect memory us i m ≡ steps.Faulted x
fails_always ch us Skip m x e = absurd (cc e)
fails_always ch us (Set y v) m x e = e
fails_always ch us (Havoc y t n) m x e = absurd (by (are_any t n ch) e) where
  by : (b : Bool) → (if b then steps.To (with_memory y ch m) else steps.Wants t n) ≡ steps.Faulted x → ⊥
  by true e = absurd (cc e)
  by false e = absurd (cc e)
fails_always ch us (Clear y) m x e = e
fails_always ch us (Load y a s b v) m x e = e
fails_always ch us (Store a s b v w) m x e = e
fails_always ch us (Guard v b) m x e = e
fails_always ch us (Check s v) m x e = e

-- numbers that are no choice
pub waits : (ch : Numbers) (x : ℕ) (t : IntType) (n : ℕ) (s : Stored) → are_any t n ch ≡ false → effect storing ch (Havoc x t n) s ≡ steps.Wants t n
waits ch x t n s e = ap (λ b. if b then steps.To (storing.with_numbers x ch s) else steps.Wants t n) e

-- ---- one step of the graph

-- an edge that leads on: what the draft has of it
record Leads (d : DraftOf ℕ) (p : ℕ) (e : EdgeOf) (ch : Numbers) (s t : Stored) : Type 0 where
  made : IsMadeFrom d p e
  goes : effect storing ch made.made.instr s ≡ steps.To t

leads : (paths : List PathOf) (d : DraftOf ℕ) (p : ℕ) (e : EdgeOf) (ch : Numbers) (s t : Stored) → IsFound d p → Contains (point_at (numbered paths d) (number_of d p)).edges e → effect storing ch e.instr s ≡ steps.To t → Leads d p e ch s t
leads paths d p e ch s t found there goes =
    let x = edge_back paths d p e found there in
    record { made = x; goes = ap (λ i. effect storing ch i s) (ap (λ (z : EdgeOf). z.instr) x.is) ∙ goes }

-- where the graph over slots leads, and the same edge by number
record Meets (f : Naming) (M : Slot → Type 0) (g : Whole) (d : DraftOf ℕ) (p q : ℕ) (i : Instr) (after : Memory) (e : EdgeOf) (t : Stored) : Type 0 where
  is : edge_of (reached d.edges) (renamed_edge f (edge p i q)) ≡ e
  found : IsFound d q
  number : number_of d q ≡ e.to
  mirrors : Mirrors f M (length d.made) after t

meets : (f : Naming) (M : Slot → Type 0) (g : Whole) (d : DraftOf ℕ) (ch : Numbers) (p q : ℕ) (i : Instr) (m after : Memory) (s t : Stored) (e : EdgeOf) → IsSetting f M g d → Among (edge p i q) g.edges → IsFound d p → Leads d p e ch s t
    → AreThere M m → Mirrors f M (length d.made) m s → effect memory ch i m ≡ steps.To after → Meets f M g d p q i after e t
meets f M g d ch p q i m after s t e h a found l there mirrors does =
    let x = l.made in
    let o = one_edge f M g d ch p q i m after s t x.made h a x.there x.from there mirrors does l.goes in
    let is = ap (edge_of (reached d.edges)) (sym o.same) ∙ x.is in
    record {
      is = is;
      found = end_found d (renamed_edge f (edge p i q)) (h.copy.edges (edge p i q) a) (λ n. x.somewhere (ap (λ (z : EdgeFrom ℕ). z.to) o.same ∙ n)) found;
      number = ap (λ (z : EdgeOf). z.to) is;
      mirrors = o.mirrors;
    }

-- an edge to nowhere isn't it
not_nowhere : (f : Naming) (M : Slot → Type 0) (g : Whole) (d : DraftOf ℕ) (ch : Numbers) (p : ℕ) (i : Instr) (m after : Memory) (s t : Stored) (e : EdgeOf) → IsSetting f M g d → Among (edge p i nowhere) g.edges → Leads d p e ch s t
    → AreThere M m → Mirrors f M (length d.made) m s → effect memory ch i m ≡ steps.To after → ⊥
not_nowhere f M g d ch p i m after s t e h a l there mirrors does =
    let x = l.made in
    let o = one_edge f M g d ch p nowhere i m after s t x.made h a x.there x.from there mirrors does l.goes in
    x.somewhere (ap (λ (z : EdgeFrom ℕ). z.to) o.same)

never_to : (t : Stored) (y : IntType) (n : ℕ) → steps.Wants y n ≡ steps.To t → ⊥
never_to t y n e = absurd (cc e)

-- nor is one that waits for numbers
not_waiting : (f : Naming) (M : Slot → Type 0) (g : Whole) (d : DraftOf ℕ) (ch : Numbers) (p q : ℕ) (x : Slot) (t : IntType) (n : ℕ) (s u : Stored) (e : EdgeOf) → IsSetting f M g d → Among (edge p (Havoc x t n) q) g.edges → Leads d p e ch s u → are_any t n ch ≡ false → ⊥
not_waiting f M g d ch p q x t n s u e h a l none = by (slot_edge f M g d p q (Havoc x t n) l.made.made h a l.made.there l.made.from) where
  by : (l.made.made ≡ renamed_edge f (edge p (Havoc x t n) q)) ⊎ AreOpposite l.made.made (renamed_edge f (edge p (Havoc x t n) q)) → ⊥
  by (inl is) = never_to u t n (sym (waits ch (f x) t n s none) ∙ ap (λ (z : EdgeFrom ℕ). effect storing ch z.instr s) (sym is) ∙ l.goes)
  by (inr o) = absurd (cc o.other)

-- ---- in a failure

-- the graph stays on the way to where it fails, and nothing more is seen
doomed_back : (f : Naming) (M : Slot → Type 0) (paths : List PathOf) (g : Whole) (d : DraftOf ℕ) (ch : Numbers) (k : ℕ) (h : Place) (x : Failure) → IsSetting f M g d → {n r : ℕ} {s t : Stored} {vs : List Visit} → GraphRuns (numbered paths d) n s vs r t
    → (p : ℕ) (m : Memory) → number_of d p ≡ n → IsFound d p → AreThere M m → Mirrors f M (length d.made) m s → Doomed g ch k h x p m → (vs ≡ []) × IsDoomed f M g d ch k h x r t
doomed_back f M paths g d ch k h x set graph.ends p m e found there mirrors doomed = (refl, record { point = p; memory = m; number = e; found = found; there = there; mirrors = mirrors; doomed = doomed })
doomed_back f M paths g d ch k h x set (graph.steps {s = s} {t = t} {e = y} us among goes rest) p m e found there mirrors (now q i a fails inside) =
    let l = leads paths d p y us s t found (subst (λ n. Contains (point_at (numbered paths d) n).edges y) (sym e) among) goes in
    absurd (not_failing f M g d us p q i m s t x l.made.made set a l.made.there l.made.from there mirrors (fails_always ch us i m x fails) l.goes)
doomed_back f M paths g d ch k h x set (graph.steps {s = s} {t = t} {e = y} {vs = vs} us among goes rest) p m e found there mirrors (later q z v w a value hidden shown behind) =
    let l = leads paths d p y us s t found (subst (λ n. Contains (point_at (numbered paths d) n).edges y) (sym e) among) goes in
    let after = with_memory (own z) (w ∷ []) m in
    let o = meets f M g d us p q (Set (own z) v) m after s t y set a found l there mirrors (set_does us (own z) v w m value) in
    let made = (set.copy.over (edge p (Set (own z) v) q) a).0 in
    let r = doomed_back f M paths g d ch k h x set rest q after o.number o.found (there_written f M (length d.made) m z w set.copy.naming made there) o.mirrors behind in
    let seen = config k h (work.Return work.Nobody) [] after.objects false in (
      ap (λ b. graph.visits_if (numbered paths d) b t vs) (sym o.is)
          ∙ visits_same f M paths g d seen p q (Set (own z) v) after t vs set.copy o.found (set.copy.over (edge p (Set (own z) v) q) a) (sym hidden, shown) o.mirrors refl
          ∙ r.0,
      r.1,
    )

-- ---- up to the edge

-- What the rest of the graph's run gives, where the program has made the step, and where it fails.
record Rest (f : Naming) (M : Slot → Type 0) (paths : List PathOf) (g : Whole) (d : DraftOf ℕ) (e : EdgeOf) (t : Stored) (vs : List Visit) (r : ℕ) (u : Stored) : Type 0 where
  on : (c : Config) (q : ℕ) (n : Memory) → number_of d q ≡ e.to → IsFound d q → Mirrors f M (length d.made) n t → StandsAt g c q n → Comes f M g d c vs r u
  doomed : (ch : Numbers) (k : ℕ) (h : Place) (x : Failure) (q : ℕ) (n : Memory) → number_of d q ≡ e.to → IsFound d q → AreThere M n → Mirrors f M (length d.made) n t → Doomed g ch k h x q n → (vs ≡ []) × IsDoomed f M g d ch k h x r u

up_to : (f : Naming) (M : Slot → Type 0) (paths : List PathOf) (g : Whole) (d : DraftOf ℕ) (set : IsSetting f M g d) (ch : Numbers) (e : EdgeOf) (s t : Stored) (vs : List Visit) (r : ℕ) (u : Stored) → Rest f M paths g d e t vs r u
    → {c : Config} → Pauses g.program ch c → (p : ℕ) (m : Memory) → IsFound d p → Mirrors f M (length d.made) m s → Leads d p e ch s t → StandsAt g c p m → Comes f M g d c (graph.visits_if (numbered paths d) e t vs) r u
up_to f M paths g d set ch e s t vs r u rest {c} (pauses next) p m found mirrors l z =
    by (step g.program ch c) refl (set.law ch p m c z) (λ b is no q n found' mirrors' l' z'. up_to f M paths g d set ch e s t vs r u rest (next b is no) q n found' mirrors' l' z') where
      ws : List Visit
      ws = graph.visits_if (numbered paths d) e t vs

      there : AreThere M m
      there = stands_there M g c p m set.kinds z

      Again : Type 0
      Again = (b : Config) → step g.program ch c ≡ meaning.To b → b.is_visit ≡ false → (q : ℕ) (n : Memory) → IsFound d q → Mirrors f M (length d.made) n s → Leads d q e ch s t → StandsAt g b q n → Comes f M g d b ws r u

      on : (b : Config) → step g.program ch c ≡ meaning.To b → Follows g ch p m b → Again → Comes f M g d c ws r u
      on b is (inl a) again = subst (λ ys. Comes f M g d c ys r u) (unseen g.program b ws a.0) (comes_behind ch c b ws is (again b is a.0 p m found mirrors l a.1))
      on b is (inr a) again =
          let o = meets f M g d ch p a.to a.instr m a.after s t e set a.there found l there mirrors a.does in
          let v = visits_same f M paths g d b p a.to a.instr a.after t vs set.copy o.found (set.copy.over (edge p a.instr a.to) a.there) a.seen o.mirrors a.stands.same in
          subst (λ ys. Comes f M g d c ys r u) (sym v ∙ ap (λ y. graph.visits_if (numbered paths d) y t vs) o.is)
          (comes_behind ch c b vs is (rest.on b a.to a.after o.number o.found o.mirrors a.stands))

      falls : (x : Failure) → step g.program ch c ≡ meaning.Faulted x.fault x.site → Doomed g ch c.path c.here x p m → Comes f M g d c ws r u
      falls x is (now q i a fails inside) = absurd (not_failing f M g d ch p q i m s t x l.made.made set a l.made.there l.made.from there mirrors fails l.goes)
      falls x is (later q y v w a value hidden shown behind) =
          let after = with_memory (own y) (w ∷ []) m in
          let o = meets f M g d ch p q (Set (own y) v) m after s t e set a found l there mirrors (set_does ch (own y) v w m value) in
          let made = (set.copy.over (edge p (Set (own y) v) q) a).0 in
          let n = there_written f M (length d.made) m y w set.copy.naming made there in
          let k = rest.doomed ch c.path c.here x q after o.number o.found n o.mirrors behind in
          let seen = config c.path c.here (work.Return work.Nobody) [] after.objects false in
          let none : ws ≡ [] = ap (λ b. graph.visits_if (numbered paths d) b t vs) (sym o.is)
          ∙ visits_same f M paths g d seen p q (Set (own y) v) after t vs set.copy o.found (set.copy.over (edge p (Set (own y) v) q) a) (sym hidden, shown) o.mirrors refl ∙ k.0 in
          subst (λ ys. Comes f M g d c ys r u) (sym none) (inr (record { last = c; runs = runs.ends; chosen = ch; failure = x; fails = is; behind = k.1 }))

      by : (b : Next) → step g.program ch c ≡ b → Answers g ch c.path c.here p m b → Again → Comes f M g d c ws r u
      by (meaning.To b) is a again = on b is a again
      by (meaning.Faulted x at) is a again = falls (steps.failure x at) is a
      by meaning.Assumed is a again = absurd (not_nowhere f M g d ch p a.0 m m s t e set a.1 l there mirrors a.2)
      by (meaning.Returned v) is a again = absurd (no_way d (region_at g.regions 0).points l.made.made set.exit l.made.there (l.made.from ∙ a))
      by (meaning.Wants y n) is a again = absurd (not_waiting f M g d ch p a.0 a.1 y n s t e set a.2 l a.3)
      by meaning.Stuck is a again = absurd a

-- ---- runs

pub comes : (f : Naming) (M : Slot → Type 0) (paths : List PathOf) (g : Whole) (d : DraftOf ℕ) → IsSetting f M g d → {n r : ℕ} {s t : Stored} {vs : List Visit} → GraphRuns (numbered paths d) n s vs r t
    → (c : Config) (p : ℕ) (m : Memory) → number_of d p ≡ n → IsFound d p → Mirrors f M (length d.made) m s → StandsAt g c p m → Comes f M g d c vs r t
comes f M paths g d set graph.ends c p m e found mirrors z = inl (record { last = c; runs = runs.ends; point = p; memory = m; number = e; found = found; mirrors = mirrors; stands = z })
comes f M paths g d set {r = r} {t = u} (graph.steps {s = s} {t = t} {e = y} {vs = vs} ch among goes rest) c p m e found mirrors z =
    up_to f M paths g d set ch y s t vs r u
    (record {
      on = λ b q n i found' mirrors' stands. comes f M paths g d set rest b q n i found' mirrors' stands;
      doomed = λ us k h x q n i found' there' mirrors' dooms. doomed_back f M paths g d us k h x set rest q n i found' there' mirrors' dooms;
    })
    (pauses_there g set.law ch c p m z) p m found mirrors (leads paths d p y ch s t found (subst (λ n. Contains (point_at (numbered paths d) n).edges y) (sym e) among) goes) z
