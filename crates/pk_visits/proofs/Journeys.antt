-- From steps to runs: the graph over slots follows each run of the program, and faults where it does.
use Rattle.std.proofs.Common.{◌≡◌, ℕ, List, [], ◌∷◌, if◌then◌else◌, refl, sym, ◌∙◌, subst, inl, inr}
use Rattle.pk_ctypes.specs.declared.faults.Fault.{Fault}
use Rattle.pk_draft.specs.Drafts.{entry_point}
use Rattle.pk_ctypes.specs.declared.places.Pos.{Pos}
use Rattle.pk_typed.specs.Trees.{ValueTree}
use Rattle.pk_meaning.specs.Work.{Work}
use Rattle.pk_graph.specs.declared.trees.Site.{Site}
use Rattle.pk_graph.specs.Steps as steps
use Rattle.pk_graph.specs.Steps.{Numbers}
use Rattle.pk_meaning.specs.Steps.{Config, Faulted, Stuck, step}
use Rattle.pk_meaning.specs.Objects.{Objects}
use Rattle.pk_meaning.specs.Runs.{Visit, visit_of, visits_if, begins, Runs}
use Rattle.pk_visits.proofs.Slots.{Memory, region_at}
use Rattle.pk_visits.proofs.Stands.{Whole, Proper, FitsObjects, BodyOf, BodiesStand, StandsAt}
use Rattle.pk_visits.proofs.Follow.{IsNoted, Answers, Follows, Moves, Doomed}
use Rattle.pk_visits.proofs.Numbered.Starts.{first_memory}
use Rattle.pk_visits.proofs.Steps.Followed.{followed}

-- The graph goes from a point with a memory to where a configuration stands: over edges that move as the program does, with its visits in order.
pub data Journeys (g : Whole) (end : Config) : ℕ → Memory → List Visit → Type 0 where
  ends : {p : ℕ} {m : Memory} → StandsAt g end p m → Journeys g end p m []
  goes : {p : ℕ} {m : Memory} {d : Config} {vs : List Visit} (chosen : Numbers) (z : Moves g chosen p m d) → Journeys g end z.to z.after vs → Journeys g end p m (visits_if g.program d vs)

-- the first configuration stands where its body begins
pub stands_first : (g : Whole) (s : Objects) → BodyOf g 0 → (region_at g.regions 0).at ≡ entry_point → FitsObjects g.program s → StandsAt g (begins g.program s) entry_point (first_memory s)
stands_first g s q at fits =
    let end = q.ended [] tt in
    record {
      exits = q.exits;
      waiting = [];
      laid = (
        tt,
        (
          q.draft,
          q.objects,
          q.mark,
          q.enters ∙ at,
          q.fits,
          tt,
          q.stage,
          q.marking,
          q.settled,
          (
            end,
            record { draft = q.draft; objects = q.objects; mark = q.mark; fits = q.fits; calm = tt; stage = q.stage; marking = q.marking; settled = q.settled; ended = end },
            (refl, q.leaves),
            q.bare,
          ),
        ),
      );
      means = tt;
      same = refl;
      fits = fits;
    }

-- Each step from where a configuration stands is answered, if what it came to is noted.
abbrev pub IsNotedLaw : Whole → Type 0
IsNotedLaw g = (chosen : Numbers) (p : ℕ) (m : Memory) (c : Config) → IsNoted g c.path c.work → StandsAt g c p m → Answers g chosen c.path c.here p m (step g.program chosen c)

-- everything is noted
pub record IsAllNoted (g : Whole) : Type 0 where
  pub begins : (k : ℕ) (e : ValueTree) (w : Work) → g.begun k e w
  pub reads : (k : ℕ) (at : Pos) → g.read k at

-- Each step from where a configuration stands is answered.
abbrev pub IsLaw : Whole → Type 0
IsLaw g = (chosen : Numbers) (p : ℕ) (m : Memory) (c : Config) → StandsAt g c p m → Answers g chosen c.path c.here p m (step g.program chosen c)

-- that it is, where the bodies of all paths stand
pub noted_law : (g : Whole) → Proper g → BodiesStand g → IsNotedLaw g
noted_law g proper bodies chosen p m c come z = followed c.work g proper bodies chosen p m c.path c.here c.values c.objects c.is_visit z.exits z.waiting z.laid z.means z.same z.fits come

pub law : (g : Whole) → Proper g → BodiesStand g → IsAllNoted g → IsLaw g
law g proper bodies all chosen p m c z = noted_law g proper bodies chosen p m c (record { begins = λ e v is. all.begins c.path e v; reads = λ at a v is. all.reads c.path at }) z

-- a run of the program is followed by the graph
pub journey : (g : Whole) → IsLaw g → (p : ℕ) (m : Memory) (c d : Config) (vs : List Visit) → Runs g.program c vs d → StandsAt g c p m → Journeys g d p m vs
journey g answers p m c d vs Runs.ends z = ends z
journey g answers p m c e vs (Runs.steps {d = d} {vs = us} chosen is rest) z = by (subst (Answers g chosen c.path c.here p m) is (answers chosen p m c z)) (λ q n y. journey g answers q n d e us rest y) where
  by : Follows g chosen p m d → ((q : ℕ) (n : Memory) → StandsAt g d q n → Journeys g e q n us) → Journeys g e p m (visits_if g.program d us)
  by (inl a) f = subst (λ b. Journeys g e p m (if b then visit_of g.program d ∷ us else us)) (sym a.0) (f p m a.1)
  by (inr a) f = goes chosen a (f a.to a.after a.stands)

-- where its next step faults the graph faults
pub doomed_behind : (g : Whole) → IsLaw g → (chosen : Numbers) (p : ℕ) (m : Memory) (c : Config) (f : Fault) (at : Site) → step g.program chosen c ≡ Faulted f at → StandsAt g c p m → Doomed g chosen c.path c.here (steps.failure f at) p m
doomed_behind g answers chosen p m c f at is z = subst (Answers g chosen c.path c.here p m) is (answers chosen p m c z)

-- where it comes to, the configuration stands
comes_to : (g : Whole) (end : Config) (p : ℕ) (m : Memory) (vs : List Visit) → Journeys g end p m vs → (q : ℕ) × (n : Memory) × StandsAt g end q n
comes_to g end p m vs (ends z) = (p, m, z)
comes_to g end p m vs (goes {vs = us} chosen z rest) = comes_to g end z.to z.after us rest

-- no step of a run is stuck
pub never_stuck : (g : Whole) → IsLaw g → (p : ℕ) (m : Memory) (c d : Config) (vs : List Visit) (chosen : Numbers) → Runs g.program c vs d → StandsAt g c p m → step g.program chosen d ≡ Stuck → ⊥
never_stuck g answers p m c d vs chosen runs z is =
    let at = comes_to g d p m vs (journey g answers p m c d vs runs z) in
    subst (Answers g chosen d.path d.here at.0 at.1) is (answers chosen at.0 at.1 d at.2)
