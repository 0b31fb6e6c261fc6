-- What a run of a program computes a run of its graph evaluates.
use Rattle.std.proofs.Common.{◌≡◌, ℕ, ◌<◌, ◌⊎◌, List, length, false, refl, sym, ap, ◌∙◌, subst, inl, inr}
use Rattle.std.specs.Prelude.{Option, Some, None, option_map, unwrap_or}
use Rattle.std.proofs.lemmas.Option.{none-some}
use Rattle.pk_ctypes.specs.declared.faults.Fault.{Fault}
use Rattle.pk_ctypes.specs.declared.places.Pos.{Pos}
use Rattle.pk_calls.specs.Laws.{PathsAreAll}
use Rattle.pk_graph.specs.Graphs.{PathOf, GraphOf, point_at}
use Rattle.pk_graph.specs.Steps.{Numbers}
use Rattle.pk_graph.specs.Stores.{Stored}
use Rattle.pk_draft.specs.Drafts.{DraftOf, entry_point}
use Rattle.pk_number.specs.Numbering.{numbered}
use Rattle.pk_meaning.specs.Objects.{Objects}
use Rattle.pk_meaning.specs.Programs.{Program, function_of, first_objects}
use Rattle.pk_meaning.specs.Steps.{Config}
use Rattle.pk_meaning.specs.Runs.{Visit, with_arguments, begins, start, Runs}
use Rattle.pk_visits.specs.GraphVisits.{Begins, GraphRuns}
use Rattle.pk_visits.proofs.Slots.{Slot, region_at}
use Rattle.pk_visits.proofs.Stands.{Whole, Proper, BodiesStand, FitsObjects, StandsAt, site_at, Laid}
use Rattle.pk_visits.proofs.Journeys.{stands_first, IsNotedLaw, noted_law}
use Rattle.pk_visits.proofs.Computed.{Computed}
use Rattle.pk_visits.proofs.Numbered.Edges.{number_of, entry_found, entry_number}
use Rattle.pk_visits.proofs.Numbered.Stores.{Naming, Mirrors}
use Rattle.pk_visits.proofs.Numbered.Copies.{IsCopy}
use Rattle.pk_visits.proofs.Numbered.Computes.{computed_shown}
use Rattle.pk_visits.proofs.Numbered.Starts.{first_memory, first_store}
use Rattle.pk_visits.proofs.Numbered.Visits.{behind, Arrives, journey_shown, stands_there, IsFollowed}
use Rattle.pk_visits_laws.specs.Ways.OneWay.{SharesAccesses, PointsShareAccesses}
use Rattle.pk_visits_laws.proofs.Settings.{unit_set}
use Rattle.pk_visits_laws.proofs.Listed.{listed_access}
use Rattle.pk_computed_laws.specs.Computed.{Operation, index, CanFault, Computes, IsOn, IsFolded}
use Rattle.pk_computed_laws.specs.Evaluated.{IsEvaluated, OperationsAreEvaluated, ComputedIsEvaluated}
use Rattle.pk_computed_laws.proofs.Noted.{bodies_on, proper_on, copy_on}
use Rattle.pk_computed_laws.proofs.Accesses.{Evaluates, Does, carried}
use Rattle.pk_computed_laws.proofs.Steps.{Outcome, does, constants, was_read, outcome, reload_outcome}
use Rattle.pk_computed_laws.proofs.Runs.{BeginsOn, ReadsOn, of_run, journey_on, on_first, on_last}

-- ---- where a run begins

first_is : (p : Program) (choice : Numbers) (first : Config) → start p choice ≡ Some first → (s : Objects) × (begins p s ≡ first)
first_is p choice first e = by (with_arguments 0 (function_of p 0).parameters choice (first_objects p)) refl where
  by : (o : Option Objects) → with_arguments 0 (function_of p 0).parameters choice (first_objects p) ≡ o → (s : Objects) × (begins p s ≡ first)
  by None is = absurd (none-some first (sym (ap (option_map (begins p)) is) ∙ e))
  by (Some s) is = (s, ap (λ (q : Option Config). unwrap_or q first) (sym (ap (option_map (begins p)) is) ∙ e))

-- ---- a graph over slots that is copied, and its points' accesses

pub record IsSetting (f : Naming) (M : Slot → Type 0) (paths : List PathOf) (g : Whole) (d : DraftOf ℕ) : Type 0 where
  pub followed : IsFollowed f M g d
  pub proper : Proper g
  pub bodies : BodiesStand g
  pub some : 0 < length g.program.paths
  pub entry_at : (region_at g.regions 0).at ≡ entry_point
  pub shares : (p : ℕ) → SharesAccesses p (point_at (numbered paths d) p).edges

module _ (f : Naming) (M : Slot → Type 0) (paths : List PathOf) (g : Whole) (d : DraftOf ℕ) (set : IsSetting f M paths g d) (choice : Numbers) (first last : Config) (visits : List Visit) (starts : start g.program choice ≡ Some first) (runs : Runs g.program first visits last) where
  abbrev w : Whole
  w = of_run g first last

  copy : IsCopy f M w d
  copy = copy_on f M g (BeginsOn g.program first last) (ReadsOn g.program first last) d set.followed.copy

  noted_is_law : IsNotedLaw w
  noted_is_law = noted_law w (proper_on g (BeginsOn g.program first last) (ReadsOn g.program first last) set.proper) (bodies_on g (BeginsOn g.program first last) (ReadsOn g.program first last) set.bodies)

  stands : StandsAt w first entry_point (first_memory first.objects)
  stands =
      let s = first_is g.program choice first starts in
      subst (λ (c : Config). FitsObjects g.program c.objects → StandsAt w c entry_point (first_memory c.objects)) s.1
      (λ fits. stands_first w s.0 (bodies_on g (BeginsOn g.program first last) (ReadsOn g.program first last) set.bodies 0 set.some) set.entry_at fits)
      (set.followed.stands choice first starts).fits

  store : (s : Stored) × Begins (numbered paths d) s × Mirrors f M (length d.made) (first_memory first.objects) s
  store = first_store f M paths d first.objects (set.followed.starts choice first starts)

  -- where the run comes to one of its configurations the graph does
  arrives : (c : Config) (vs : List Visit) → IsOn g.program first last c → Runs g.program first vs c → Arrives f M paths w d c entry_point store.0 vs
  arrives c vs o r =
      journey_shown f M paths w d c entry_point (first_memory first.objects) store.0 vs copy set.followed.kinds (entry_found d) (stands_there M w first entry_point (first_memory first.objects) set.followed.kinds stands) store.2
      (journey_on g first last noted_is_law first c vs r (on_first runs) o entry_point (first_memory first.objects) stands)

  -- what an edge computes from there is evaluated
  evaluated : (c : Config) (vs : List Visit) (at : Pos) (operation : Operation) (fault : Fault) (a : Arrives f M paths w d c entry_point store.0 vs) → CanFault operation fault
      → Computed w c.path c.here (Does (site_at c.path at) operation) a.point a.memory → IsEvaluated (numbered paths d) (site_at c.path at) fault
  evaluated c vs at operation fault a can computed =
      let e = computed_shown f M paths w d (Does (site_at c.path at) operation) (Evaluates (site_at c.path at) fault) c.path c.here a.point a.memory a.store (carried f M (length d.made) (site_at c.path at) operation fault can) copy a.found a.there a.mirrors computed in
      let found = e.computes e.point in
      record {
        first = store.0;
        begins = store.1;
        access = found.one;
        listed = listed_access (numbered paths d) e.point e.edge found.one e.there (set.shares e.point) found.listed;
        at = found.site;
        kind = found.kind;
        visits = vs;
        store = e.store;
        runs = subst (λ n. GraphRuns (numbered paths d) n store.0 vs found.one.point e.store) (entry_number d)
            (subst (λ n. GraphRuns (numbered paths d) (number_of d entry_point) store.0 vs n e.store) (sym found.point_is) (behind a.runs e.runs));
        operands = found.operands;
      }

  -- an element that was read on the way
  was_evaluated : (k : ℕ) (at : Pos) (fault : Fault) → CanFault index fault → ReadsOn g.program first last k at → IsEvaluated (numbered paths d) (site_at k at) fault
  was_evaluated k at fault can (c, o, path, a, v, is) =
      let b = arrives c o.visits o o.before in
      subst (λ j. IsEvaluated (numbered paths d) (site_at j at) fault) path
      (evaluated c o.visits at index fault b can (reload_outcome w c.path c.here b.stands.exits at a v b.point b.memory b.stands.waiting c.values (subst (λ u. Laid w c.path c.here b.stands.exits u b.point b.stands.waiting) is b.stands.laid) b.stands.means))

  pub told : (at : Pos) (operation : Operation) (fault : Fault) → Computes last.work at operation → CanFault operation fault → IsEvaluated (numbered paths d) (site_at last.path at) fault ⊎ IsFolded g.program first last
  told at operation fault computes can = by (outcome w last.path last.here a.stands.exits a.point a.memory a.stands.waiting last.values computes a.stands.laid a.stands.means) can where
    a : Arrives f M paths w d last entry_point store.0 visits
    a = arrives last visits (on_last runs) runs

    by : {o : Operation} → Outcome w last.path last.here last.work last.values at a.point a.memory o → CanFault o fault → IsEvaluated (numbered paths d) (site_at last.path at) fault ⊎ IsFolded g.program first last
    by (does {operation = o} c) can = inl (evaluated last visits at o fault a can c)
    by (constants e v us of fixed begun goes) can = inr (record {
      operator = record {
        expression = e;
        behind = v;
        constants = of;
        begun = begun.0;
        on = begun.1;
        path = begun.2;
        begins = begun.3;
        next = record last { work = v; values = us; is_visit = false };
        goes_on = λ chosen. goes g.program chosen last refl;
      };
      value = fixed.0;
      folded = fixed.1;
    })
    by (was_read r) can = inl (was_evaluated last.path at fault can r)

-- ---- units

pub computed_is_evaluated : PathsAreAll → PointsShareAccesses → ComputedIsEvaluated
computed_is_evaluated law share u name paths unit marked has few =
    let set = unit_set law u name paths unit marked has in
    let shares = subst (λ (g : GraphOf). (p : ℕ) → SharesAccesses p (point_at g p).edges) (sym set.graph) (share u name paths unit marked has few) in
    let setting : IsSetting set.naming set.made set.listed set.whole set.draft = record { followed = set.followed; proper = set.proper; bodies = set.bodies; some = set.some; entry_at = set.entry_at; shares = shares } in
    let over : OperationsAreEvaluated set.whole.program (numbered set.listed set.draft) = λ choice first last visits at operation fault starts runs computes can.
    told set.naming set.made set.listed set.whole set.draft setting choice first last visits starts runs at operation fault computes can in
    subst (λ (g : GraphOf). OperationsAreEvaluated (record { unit = u; paths = paths }) g) set.graph (subst (λ (p : Program). OperationsAreEvaluated p (numbered set.listed set.draft)) set.program over)
