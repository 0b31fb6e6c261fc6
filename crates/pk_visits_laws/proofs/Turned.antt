-- Where a run of a program begins a turn of a loop, a run of its graph is where that loop begins again.
use Rattle.std.proofs.Common.{◌≡◌, ℕ, suc, List, [], ◌∷◌, length, map, sym, ap, ◌∙◌, subst, inl, inr, arith}
use Rattle.std.specs.Prelude.{Some}
use Rattle.std.specs.List.{Contains}
use Rattle.pk_ctypes.specs.declared.places.Pos.{Pos}
use Rattle.pk_typed.specs.Trees.{UnitTree}
use Rattle.pk_calls.specs.declared.listings.CallPath.{CallPath}
use Rattle.pk_calls.specs.Laws.{PathsAreAll}
use Rattle.pk_graph.specs.Graphs.{PathOf, GraphOf}
use Rattle.pk_graph.specs.Steps.{Numbers}
use Rattle.pk_graph.specs.Stores.{Stored}
use Rattle.pk_draft.specs.Drafts.{DraftOf, by_number, entry_point}
use Rattle.pk_number.specs.Numbering.{numbered}
use Rattle.pk_lower.specs.Graphs.{graph_of}
use Rattle.pk_meaning.specs.Objects.{Objects}
use Rattle.pk_meaning.specs.Programs.{Program}
use Rattle.pk_meaning.specs.Work as work
use Rattle.pk_meaning.specs.Work.{Place, Loop, Ahead, Work}
use Rattle.pk_meaning.specs.Steps.{Config}
use Rattle.pk_meaning.specs.Runs.{Known, Visit, known_of, start, Runs}
use Rattle.pk_visits.specs.GraphVisits.{Begins, GraphRuns}
use Rattle.pk_visits.specs.Turns.{TurnPoint, turning, program_turns}
use Rattle.pk_visits.specs.Turning.{IsTurnAt, TurnsAreAt, TurnsAreFollowed}
use Rattle.pk_visits.proofs.Slots.{Slot, slots, Among}
use Rattle.pk_visits.proofs.Stands.{Whole, ShowsAt, Held, Laid}
use Rattle.pk_visits.proofs.Journeys.{journey}
use Rattle.pk_visits.proofs.Numbered.Edges.{number_of, entry_found, entry_number}
use Rattle.pk_visits.proofs.Numbered.Stores.{Naming, Mirrors}
use Rattle.pk_visits.proofs.Numbered.Copies.{shown_at, visit_same}
use Rattle.pk_visits.proofs.Numbered.Starts.{first_memory, first_store}
use Rattle.pk_visits.proofs.Numbered.Turns.{program_turns_by}
use Rattle.pk_visits.proofs.Numbered.Visits.{Arrives, journey_shown, stands_there, IsFollowed}
use Rattle.pk_visits_laws.proofs.Followed.Pairs as pair
use Rattle.pk_visits_laws.proofs.Followed.Pairs.{Pair, pairs, slot_of}
use Rattle.pk_visits_laws.proofs.Settings.{unit_set}

abbrev seen : ℕ → Pos → List Known → Visit
seen k at known = record { path = k; at = at; known = known }

-- where the turn's loop begins again, and what is there
record Turns (g : Whole) (k : ℕ) (here : Place) (p : ℕ) (j : Place) : Type 0 where
  told : Among (turning j.at p) (g.turns k)
  shown : ShowsAt g p k here

turns_there : (g : Whole) (k : ℕ) (here : Place) (x : _) (j behind : Place) (l : Loop) (a : Ahead) (p : ℕ) (hs : List Held) → Laid g k here x (work.Turn j l behind a) p hs → Turns g k here p j
turns_there g k here x j behind l a p hs (same, plain, c, o, loop, cont, shown, rest) = record { told = loop.told; shown = subst (ShowsAt g p k) (sym same) loop.heads }

module _ (f : Naming) (M : Slot → Type 0) (paths : List PathOf) (g : Whole) (d : DraftOf ℕ) (h : IsFollowed f M g d) (choice : Numbers) (first last : Config) (visits : List Visit) (starts : start g.program choice ≡ Some first) (goes : Runs g.program first visits last) where
  store : (s : Stored) × Begins (numbered paths d) s × Mirrors f M (length d.made) (first_memory first.objects) s
  store = first_store f M paths d first.objects (h.starts choice first starts)

  there : Arrives f M paths g d last entry_point store.0 visits
  there =
      let m = first_memory first.objects in
      let z = h.stands choice first starts in
      journey_shown f M paths g d last entry_point m store.0 visits h.copy h.kinds (entry_found d) (stands_there M g first entry_point m h.kinds z) store.2
      (journey g h.law entry_point m first last visits goes z)

  pub turned : (here behind : Place) (l : Loop) (a : Ahead) → last.work ≡ work.Turn here l behind a → (p : ℕ) × Among (turning here.at p) (g.turns last.path) × IsTurnAt g.program (numbered paths d) visits last (number_of d p)
  turned here behind l a is =
      let z = there in
      let t = turns_there g last.path last.here z.stands.exits here behind l a z.point z.stands.waiting (subst (λ (w : Work). Laid g last.path last.here z.stands.exits w z.point z.stands.waiting) is z.stands.laid) in (
        z.point,
        t.told,
        record {
          first = store.0;
          begins = store.1;
          store = z.store;
          runs = subst (λ n. GraphRuns (numbered paths d) n store.0 visits (number_of d z.point) z.store) (entry_number d) z.runs;
          visit =
              visit_same f M paths g.program d z.point last.path last.here z.memory z.store z.found (shown_at f M g d z.point last.path last.here h.copy t.shown) z.mirrors
              ∙ ap (λ (s : Objects). seen last.path last.here.at (map (known_of g.program s) last.here.scope)) z.stands.same;
        },
      )

-- ---- units

listed : (number : ℕ → ℕ) (ts : List TurnPoint) (t : TurnPoint) → Among t ts → Contains (map (λ (s : TurnPoint). turning s.at (number s.point)) ts) (turning t.at (number t.point))
listed number [] t m = absurd m
listed number (s ∷ ts) t (inl same) = (0, omega arith, ap (λ (r : TurnPoint). turning r.at (number r.point)) (sym same))
listed number (s ∷ ts) t (inr m) = let z = listed number ts t m in let low = z.1 in (suc z.0, omega (arith, low), z.2)

-- by slots and by numbers they are the same
same_turns : (u : UnitTree) (paths : List CallPath) (k : ℕ) → program_turns slots u paths k ≡ program_turns by_number u paths k
same_turns u paths k = program_turns_by Pair Slot slot_of pairs u paths k ∙ sym (program_turns_by Pair ℕ pair.number_of pairs u paths k)

abbrev turns_by : UnitTree → List CallPath → DraftOf ℕ → ℕ → List TurnPoint
turns_by u paths d k = map (λ (t : TurnPoint). turning t.at (number_of d t.point)) (program_turns by_number u paths k)

pub turns_are_followed : PathsAreAll → TurnsAreFollowed
turns_are_followed law u name paths unit marked has few =
    let set = unit_set law u name paths unit marked has in
    let over : TurnsAreAt set.whole.program (numbered set.listed set.draft) (turns_by u paths set.draft) = λ choice first last visits here behind l a starts goes is.
    let t = turned set.naming set.made set.listed set.whole set.draft set.followed choice first last visits starts goes here behind l a is in (
      number_of set.draft t.0,
      listed (number_of set.draft) (program_turns by_number u paths last.path) (turning here.at t.0) (subst (λ ts. Among (turning here.at t.0) ts) (set.turns last.path ∙ same_turns u paths last.path) t.1),
      t.2,
    ) in
    subst (λ (d : DraftOf ℕ). TurnsAreAt (record { unit = u; paths = paths }) (graph_of u paths) (turns_by u paths d)) set.numbers
    (subst (λ (g : GraphOf). TurnsAreAt (record { unit = u; paths = paths }) g (turns_by u paths set.draft)) set.graph
    (subst (λ (p : Program). TurnsAreAt p (numbered set.listed set.draft) (turns_by u paths set.draft)) set.program over))
