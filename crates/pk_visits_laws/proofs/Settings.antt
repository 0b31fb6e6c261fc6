-- A unit's graph as the copy of one over slots that follows its program, as laws above need it.
use Rattle.std.proofs.Common.{◌≡◌, ℕ, ◌<◌, List, length, map, refl}
use Rattle.pk_typed.specs.Trees.{UnitTree}
use Rattle.pk_calls.specs.declared.listings.CallPath.{CallPath}
use Rattle.pk_calls.specs.Answers.{HasPaths}
use Rattle.pk_calls.specs.Laws.{PathsAreAll}
use Rattle.pk_graph.specs.Graphs.{PathOf}
use Rattle.pk_draft.specs.Drafts.{DraftOf, entry_point}
use Rattle.pk_number.specs.Numbering.{numbered}
use Rattle.pk_lower.specs.Graphs.{graph_of}
use Rattle.pk_lower.specs.Paths.{path_of}
use Rattle.pk_welltyped.specs.WellTyped.{IsUnit}
use Rattle.pk_welltyped.specs.Marks.{AreMarked}
use Rattle.pk_meaning.specs.Programs.{Program}
use Rattle.pk_visits.specs.Turns.{program_turns}
use Rattle.pk_visits.proofs.Slots.{Slot, slots, region_at}
use Rattle.pk_visits.proofs.Stands.{Whole, Proper, BodiesStand}
use Rattle.pk_visits.proofs.Numbered.Stores.{Naming}
use Rattle.pk_visits.proofs.Numbered.Visits.{IsFollowed}
use Rattle.pk_visits_laws.proofs.Followed.Pairs.{pairs_are_typed}
use Rattle.pk_visits_laws.proofs.Followed.Naming.{naming, Made}
use Rattle.pk_visits_laws.proofs.Followed.Graphs.{by_numbers, graph}
use Rattle.pk_visits_laws.proofs.Followed.Propers.{is_proper}
use Rattle.pk_visits_laws.proofs.Followed.Followed.{is_followed}
use Rattle.pk_visits_laws.proofs.Followed.Standing.{unit_stands}

pub record IsSet (u : UnitTree) (paths : List CallPath) : Type 1 where
  pub naming : Naming
  pub made : Slot → Type 0
  pub listed : List PathOf
  pub whole : Whole
  pub draft : DraftOf ℕ
  pub program : whole.program ≡ (let p : Program = record { unit = u; paths = paths } in p)
  pub graph : numbered listed draft ≡ graph_of u paths
  pub followed : IsFollowed naming made whole draft
  pub proper : Proper whole
  pub bodies : BodiesStand whole
  pub some : 0 < length whole.program.paths
  pub entry_at : (region_at whole.regions 0).at ≡ entry_point
  pub numbers : draft ≡ by_numbers u paths
  pub turns : (k : ℕ) → whole.turns k ≡ program_turns slots u paths k

pub unit_set : PathsAreAll → (u : UnitTree) (name : List ℕ) (paths : List CallPath) → IsUnit u → AreMarked u → HasPaths u name paths → IsSet u paths
unit_set law u name paths unit marked has =
    let entry = has.entry in
    let body = has.is_entry.0.0 in
    let are = law.all u entry has.seen paths has.walks has.is_listing in
    let typed = pairs_are_typed u entry paths unit body has.is_listing are in
    let stand = unit_stands u entry paths unit marked body has.is_listing are typed in
    record {
      naming = naming u paths;
      made = Made u paths;
      listed = map (path_of u paths) paths;
      whole = graph u paths;
      draft = by_numbers u paths;
      program = refl;
      graph = refl;
      followed = is_followed u entry paths unit has.is_listing typed stand;
      proper = is_proper u entry paths has.is_listing typed;
      bodies = stand.bodies;
      some = stand.some;
      entry_at = stand.entry;
      numbers = refl;
      turns = λ k. refl;
    }
