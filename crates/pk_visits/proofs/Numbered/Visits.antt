-- Where each step of a program is answered by a graph over slots, the numbered graph that is its copy has each run's visits and failure.
use Rattle.std.proofs.Common.{◌≡◌, ℕ, List, [], ◌∷◌, length, sym, ap, ◌∙◌, subst}
use Rattle.std.specs.Prelude.{Option, Some, None}
use Rattle.pk_graph.specs.Graphs.{PathOf, GraphOf}
use Rattle.pk_graph.specs.Steps.{Numbers, Failure}
use Rattle.pk_graph.specs.Stores.{Stored}
use Rattle.pk_draft.specs.Drafts.{DraftOf, entry_point}
use Rattle.pk_number.specs.Numbering.{numbered}
use Rattle.pk_meaning.specs.Steps.{Config}
use Rattle.pk_meaning.specs.Runs.{Visit, visit_of, start}
use Rattle.pk_visits.specs.GraphVisits.{GraphRuns, visit_at, ends, steps}
use Rattle.pk_visits.specs.SameVisits.{EndsAt, GraphVisits}
use Rattle.pk_meaning.specs.Endings.{ProgramVisits, Ends}
use Rattle.pk_visits.proofs.Slots.{Slot, Memory}
use Rattle.pk_visits.proofs.Stands.{Whole, ShowsAt, FitsObjects, StandsAt}
use Rattle.pk_visits.proofs.Journeys as journeys
use Rattle.pk_visits.proofs.Journeys.{Journeys, IsLaw, journey, doomed_behind}
use Rattle.pk_visits.proofs.Numbered.Edges.{IsFound, number_of, entry_found, entry_number}
use Rattle.pk_visits.proofs.Numbered.Stores.{Naming, Mirrors, AreThere}
use Rattle.pk_visits.proofs.Numbered.Copies.{IsCopy, shown_at, visit_same}
use Rattle.pk_visits.proofs.Numbered.Runs.{HaveKinds, are_there, moves_shown, doomed_shown}
use Rattle.pk_visits.proofs.Numbered.Starts.{StartsWith, first_memory, first_store}

-- a run without visits behind another
pub behind : {g : GraphOf} {p q r : ℕ} {s t u : Stored} {vs : List Visit} → GraphRuns g p s vs q t → GraphRuns g q t [] r u → GraphRuns g p s vs r u
behind ends k = k
behind (steps chosen there does rest) k = steps chosen there does (behind rest k)

-- what the numbered graph comes to, where the graph over slots stands as the configuration
pub record Arrives (f : Naming) (Made : Slot → Type 0) (paths : List PathOf) (g : Whole) (d : DraftOf ℕ) (end : Config) (p : ℕ) (s : Stored) (vs : List Visit) : Type 0 where
  pub point : ℕ
  pub memory : Memory
  pub store : Stored
  pub runs : GraphRuns (numbered paths d) (number_of d p) s vs (number_of d point) store
  pub found : IsFound d point
  pub there : AreThere Made memory
  pub mirrors : Mirrors f Made (length d.made) memory store
  pub stands : StandsAt g end point memory

pub stands_there : (M : Slot → Type 0) (g : Whole) (c : Config) (p : ℕ) (m : Memory) → HaveKinds M g.program → StandsAt g c p m → AreThere M m
stands_there M g c p m k z = are_there M g.program m k (subst (FitsObjects g.program) (sym z.same) z.fits)

pub journey_shown : (f : Naming) (M : Slot → Type 0) (paths : List PathOf) (g : Whole) (d : DraftOf ℕ) (end : Config) (p : ℕ) (m : Memory) (s : Stored) (vs : List Visit) → IsCopy f M g d → HaveKinds M g.program
    → IsFound d p → AreThere M m → Mirrors f M (length d.made) m s → Journeys g end p m vs → Arrives f M paths g d end p s vs
journey_shown f M paths g d end p m s vs c k found t h (journeys.ends z) =
    record { point = p; memory = m; store = s; runs = ends; found = found; there = t; mirrors = h; stands = z }
journey_shown f M paths g d end p m s vs c k found t h (journeys.goes {d = e} {vs = us} chosen z rest) =
    let o = moves_shown f M paths g d chosen p m e s c found t h z in
    let a = journey_shown f M paths g d end z.to z.after o.0 us c k o.1 (stands_there M g e z.to z.after k z.stands) o.2 rest in
    record {
      point = a.point;
      memory = a.memory;
      store = a.store;
      runs = o.3 us (number_of d a.point) a.store a.runs;
      found = a.found;
      there = a.there;
      mirrors = a.mirrors;
      stands = a.stands;
    }

-- The program is followed over slots, from where its runs begin, and the draft by number is a copy.
pub record IsFollowed (f : Naming) (Made : Slot → Type 0) (g : Whole) (d : DraftOf ℕ) : Type 0 where
  pub copy : IsCopy f Made g d
  pub kinds : HaveKinds Made g.program
  pub law : IsLaw g
  pub starts : (choice : Numbers) (first : Config) → start g.program choice ≡ Some first → StartsWith f Made d first.objects
  pub stands : (choice : Numbers) (first : Config) → start g.program choice ≡ Some first → StandsAt g first entry_point (first_memory first.objects)
  pub shows : (choice : Numbers) (first : Config) → start g.program choice ≡ Some first → ShowsAt g entry_point first.path first.here

-- what is at the end of a run
ends_shown : (f : Naming) (M : Slot → Type 0) (paths : List PathOf) (g : Whole) (d : DraftOf ℕ) (last : Config) (p : ℕ) (s : Stored) (vs : List Visit) (end : Option Failure) → IsFollowed f M g d → Arrives f M paths g d last p s vs
    → Ends g.program last end → (r : ℕ) × (u : Stored) × GraphRuns (numbered paths d) (number_of d p) s vs r u × EndsAt (numbered paths d) r u end
ends_shown f M paths g d last p s vs None h a e = (number_of d a.point, a.store, a.runs, tt)
ends_shown f M paths g d last p s vs (Some x) h a e =
    let o = doomed_shown f M paths g d e.0 last.path last.here x a.point a.memory a.store h.copy a.found a.there a.mirrors (doomed_behind g h.law e.0 a.point a.memory last x.fault x.site e.1 a.stands) in
    (o.0, o.1, behind a.runs o.2, o.3)

-- The visits of each run of the program, and the failure at its end, are those of a run of the numbered graph.
pub followed_visits : (f : Naming) (M : Slot → Type 0) (paths : List PathOf) (g : Whole) (d : DraftOf ℕ) → IsFollowed f M g d
    → (visits : List Visit) (end : Option Failure) → ProgramVisits g.program visits end → GraphVisits (numbered paths d) visits end
followed_visits f M paths g d h visits end v =
    let o = v.first.objects in
    let m = first_memory o in
    let s = first_store f M paths d o (h.starts v.choice v.first v.starts) in
    let z = h.stands v.choice v.first v.starts in
    let a = journey_shown f M paths g d v.last entry_point m s.0 v.others h.copy h.kinds (entry_found d) (stands_there M g v.first entry_point m h.kinds z) s.2
    (journey g h.law entry_point m v.first v.last v.others v.runs z) in
    let e = ends_shown f M paths g d v.last entry_point s.0 v.others end h a v.ends in
    record {
      first = s.0;
      point = e.0;
      last = e.1;
      others = v.others;
      begins = s.1;
      runs = subst (λ n. GraphRuns (numbered paths d) n s.0 v.others e.0 e.1) (entry_number d) e.2;
      visits_are = v.visits_are ∙ ap (λ x. x ∷ v.others) (sym (subst (λ n. visit_at (numbered paths d) n s.0 ≡ visit_of g.program v.first) (entry_number d)
          (visit_same f M paths g.program d entry_point v.first.path v.first.here m s.0 (entry_found d) (shown_at f M g d entry_point v.first.path v.first.here h.copy (h.shows v.choice v.first v.starts)) s.2)));
      ends = e.3;
    }
