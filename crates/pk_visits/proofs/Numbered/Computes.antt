-- Where a graph over slots computes something from a point on, the numbered graph that is its copy does.
use Rattle.std.proofs.Common.{◌≡◌, ℕ, ◌⊎◌, List, [], ◌∷◌, length, Bool, false, not, refl, sym, subst, inl, inr}
use Rattle.std.specs.Prelude.{Contains}
use Rattle.pk_graph.specs.Trees.{InstrOf, Skip, Set, Havoc, Clear, Load, Store, Guard, Check}
use Rattle.pk_graph.specs.Graphs.{EdgeOf, PathOf, point_at}
use Rattle.pk_graph.specs.Stores.{Stored}
use Rattle.pk_draft.specs.Drafts.{DraftOf, nowhere}
use Rattle.pk_number.specs.Numbering.{reached, edge_of, numbered}
use Rattle.pk_meaning.specs.Work as work
use Rattle.pk_meaning.specs.Work.{Place}
use Rattle.pk_visits.specs.GraphVisits as graph
use Rattle.pk_visits.specs.GraphVisits.{GraphRuns}
use Rattle.pk_visits.proofs.Slots.{Slot, own, SlotTree, Instr, edge, Memory, with_memory, Among}
use Rattle.pk_visits.proofs.Stands.{Whole}
use Rattle.pk_visits.proofs.Stores.{decided}
use Rattle.pk_visits.proofs.Follow.{config, set_does}
use Rattle.pk_visits.proofs.Computed.{Computed, now, later}
use Rattle.pk_visits.proofs.Numbered.Edges.{IsFound, number_of, edge_shown}
use Rattle.pk_visits.proofs.Numbered.Stores.{Naming, renamed_instr, IsInstrOver, Mirrors, AreThere}
use Rattle.pk_visits.proofs.Numbered.Copies.{renamed_edge, HasOtherWay, IsCopy, visits_same}
use Rattle.pk_visits.proofs.Numbered.Runs.{one_step, there_written}

-- What an instruction computes over slots is computed by it over numbers, and on both ways of a test; to do nothing computes nothing.
pub record IsCarried (f : Naming) (Made : Slot → Type 0) (n : ℕ) (Q : Memory → Instr → Type 0) (R : Stored → InstrOf ℕ → Type 0) : Type 0 where
  pub over : (m : Memory) (s : Stored) (i : Instr) → IsInstrOver Made i → Mirrors f Made n m s → Q m i → R s (renamed_instr f i)
  pub other : (m : Memory) (e : SlotTree) (b : Bool) → Q m (Guard e b) → Q m (Guard e (not b))
  pub some : (m : Memory) → Q m Skip → ⊥

-- from a point the numbered graph comes, unseen, to an edge that computes it
pub record ComputesFrom (f : Naming) (paths : List PathOf) (d : DraftOf ℕ) (R : Stored → InstrOf ℕ → Type 0) (p : ℕ) (s : Stored) : Type 0 where
  pub point : ℕ
  pub store : Stored
  pub edge : EdgeOf
  pub runs : GraphRuns (numbered paths d) (number_of d p) s [] point store
  pub there : Contains (point_at (numbered paths d) point).edges edge
  pub computes : R store edge.instr

computed_now : (f : Naming) (M : Slot → Type 0) (paths : List PathOf) (g : Whole) (d : DraftOf ℕ) (Q : Memory → Instr → Type 0) (R : Stored → InstrOf ℕ → Type 0) (p q : ℕ) (i : Instr) (m : Memory) (s : Stored)
    → IsCarried f M (length d.made) Q R → IsCopy f M g d → IsFound d p → Mirrors f M (length d.made) m s → Among (edge p i q) g.edges → (q ≡ nowhere → ⊥) → Q m i → ComputesFrom f paths d R p s
computed_now f M paths g d Q R p q i m s carried c found h a n computes = record {
  point = number_of d p;
  store = s;
  edge = edge_of (reached d.edges) (renamed_edge f (edge p i q));
  runs = graph.ends;
  there = edge_shown paths d (renamed_edge f (edge p i q)) (c.edges (edge p i q) a) n found;
  computes = carried.over m s i (c.over (edge p i q) a) h computes;
}

pub computed_shown : (f : Naming) (M : Slot → Type 0) (paths : List PathOf) (g : Whole) (d : DraftOf ℕ) (Q : Memory → Instr → Type 0) (R : Stored → InstrOf ℕ → Type 0) (k : ℕ) (h : Place) (p : ℕ) (m : Memory) (s : Stored)
    → IsCarried f M (length d.made) Q R → IsCopy f M g d → IsFound d p → AreThere M m → Mirrors f M (length d.made) m s → Computed g k h Q p m → ComputesFrom f paths d R p s
computed_shown f M paths g d Q R k h p m s carried c found t mirrors (now q i a computes) = by (decided q nowhere) where
  other : (j : Instr) → HasOtherWay g p j → Q m j → ComputesFrom f paths d R p s
  other Skip o w = absurd (carried.some m w)
  other (Set y v) o w = absurd o
  other (Havoc y v n) o w = absurd o
  other (Clear y) o w = absurd o
  other (Load y v n b z) o w = absurd o
  other (Store y v n b z) o w = absurd o
  other (Guard y b) o w = computed_now f M paths g d Q R p o.0 (Guard y (not b)) m s carried c found mirrors o.1 o.2 (carried.other m y b w)
  other (Check v y) o w = absurd o

  by : (q ≡ nowhere) ⊎ (q ≡ nowhere → ⊥) → ComputesFrom f paths d R p s
  by (inl n) = other i (c.other_ways (edge p i q) a n) computes
  by (inr n) = computed_now f M paths g d Q R p q i m s carried c found mirrors a n computes
computed_shown f M paths g d Q R k h p m s carried c found t mirrors (later q y e v a value hidden shown rest) =
    let made = (c.over (edge p (Set (own y) e) q) a).0 in
    let after = with_memory (own y) (v ∷ []) m in
    let seen = config k h (work.Return work.Nobody) [] after.objects false in
    let o = one_step f M paths g d p q (Set (own y) e) [] m after s c found a (c.somewhere q k h shown) t mirrors (set_does [] (own y) e v m value) in
    let z = computed_shown f M paths g d Q R k h q after o.0 carried c o.1 (there_written f M (length d.made) m y v c.naming made t) o.2 rest in
    record {
      point = z.point;
      store = z.store;
      edge = z.edge;
      runs = subst (λ ws. GraphRuns (numbered paths d) (number_of d p) s ws z.point z.store)
          (visits_same f M paths g d seen p q (Set (own y) e) after o.0 [] c o.1 (c.over (edge p (Set (own y) e) q) a) (sym hidden, shown) o.2 refl) (o.3 [] z.point z.store z.runs);
      there = z.there;
      computes = z.computes;
    }
