-- A run of the program is followed over a graph of which its own configurations are noted.
use Rattle.std.proofs.Common.{◌≡◌, ℕ, List, [], ◌∷◌, if◌then◌else◌, refl, sym, subst, inl, inr}
use Rattle.pk_meaning.specs.Objects.{Array}
use Rattle.pk_meaning.specs.Programs.{Program}
use Rattle.pk_meaning.specs.Work as work
use Rattle.pk_meaning.specs.Work.{Work}
use Rattle.pk_meaning.specs.Steps.{Config}
use Rattle.pk_meaning.specs.Runs.{Visit, visit_of, visits_if, Runs}
use Rattle.pk_visits.proofs.Slots.{Memory}
use Rattle.pk_visits.proofs.Stands.{Whole, StandsAt}
use Rattle.pk_visits.proofs.Follow.{IsNoted, Answers, Follows}
use Rattle.pk_visits.proofs.Journeys.{Journeys, IsNotedLaw}
use Rattle.pk_visits.proofs.Journeys as journeys
use Rattle.pk_computed_laws.specs.Computed.{IsOn}
use Rattle.pk_computed_laws.proofs.Noted.{Begins, Reads, noted}

-- a run and another behind it
pub behind : {p : Program} {c d e : Config} {vs us : List Visit} → Runs p c vs d → Runs p d us e → (ws : List Visit) × Runs p c ws e
behind {us = us} Runs.ends k = (us, k)
behind {p} (Runs.steps {d = d} chosen is rest) k = let r = behind rest k in (visits_if p d r.0, Runs.steps chosen is r.1)

pub on_first : {p : Program} {first last : Config} {vs : List Visit} → Runs p first vs last → IsOn p first last first
on_first {vs = vs} r = record { visits = []; before = Runs.ends; others = vs; after = r }

pub on_last : {p : Program} {first last : Config} {vs : List Visit} → Runs p first vs last → IsOn p first last last
on_last {vs = vs} r = record { visits = vs; before = r; others = []; after = Runs.ends }

-- what the run begins to evaluate, and the elements that it reads with an operator
abbrev pub BeginsOn : Program → Config → Config → Begins
BeginsOn p first last k e w = (c : Config) × IsOn p first last c × (c.path ≡ k) × (c.work ≡ work.Evaluate e w)

abbrev pub ReadsOn : Program → Config → Config → Reads
ReadsOn p first last k at = (c : Config) × IsOn p first last c × (c.path ≡ k) × (a : Array) × (w : Work) × (c.work ≡ work.Reload at a w)

abbrev pub of_run : Whole → Config → Config → Whole
of_run g first last = noted g (BeginsOn g.program first last) (ReadsOn g.program first last)

pub is_noted : (g : Whole) (first last c : Config) → IsOn g.program first last c → IsNoted (of_run g first last) c.path c.work
is_noted g first last c o = record { begins = λ e v is. (c, o, refl, is); reads = λ at a v is. (c, o, refl, a, v, is) }

-- to a configuration of the run
pub journey_on : (g : Whole) (first last : Config) → IsNotedLaw (of_run g first last) → (c d : Config) (vs : List Visit) → Runs g.program c vs d → IsOn g.program first last c → IsOn g.program first last d
    → (p : ℕ) (m : Memory) → StandsAt (of_run g first last) c p m → Journeys (of_run g first last) d p m vs
journey_on g first last law c d vs Runs.ends o q p m z = journeys.ends z
journey_on g first last law c e vs (Runs.steps {d = d} {vs = us} chosen is rest) o q p m z =
    by (subst (Answers (of_run g first last) chosen c.path c.here p m) is (law chosen p m c (is_noted g first last c o) z)) (λ r n y. journey_on g first last law d e us rest there q r n y) where
      before : (ws : List Visit) × Runs g.program first ws d
      before = behind o.before (Runs.steps chosen is Runs.ends)

      after : (ws : List Visit) × Runs g.program d ws last
      after = behind rest q.after

      there : IsOn g.program first last d
      there = record { visits = before.0; before = before.1; others = after.0; after = after.1 }

      by : Follows (of_run g first last) chosen p m d → ((r : ℕ) (n : Memory) → StandsAt (of_run g first last) d r n → Journeys (of_run g first last) e r n us) → Journeys (of_run g first last) e p m (visits_if g.program d us)
      by (inl a) f = subst (λ b. Journeys (of_run g first last) e p m (if b then visit_of g.program d ∷ us else us)) (sym a.0) (f p m a.1)
      by (inr a) f = journeys.goes chosen a (f a.to a.after a.stands)
