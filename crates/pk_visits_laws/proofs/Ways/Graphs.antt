-- The points of a program's graph.
use Rattle.std.proofs.Common.{ℕ, sym, ap, subst}
use Rattle.std.specs.Prelude.{map}
use Rattle.pk_calls.specs.Laws.{PathsAreAll}
use Rattle.pk_draft.specs.Drafts.{DraftOf, by_number}
use Rattle.pk_lower.specs.Parts.{program_draft}
use Rattle.pk_lower.specs.Paths.{path_of}
use Rattle.pk_visits.proofs.Numbered.Parts.{program_by}
use Rattle.pk_visits_laws.proofs.Followed.Pairs.{Pair, number_of, pairs, whole, pairs_are_typed}
use Rattle.pk_visits_laws.specs.Ways.OneWay.{PointsHaveOneWay}
use Rattle.pk_visits_laws.proofs.Ways.Ways.{from, IsWay}
use Rattle.pk_visits_laws.proofs.Ways.Renamed.{from_by, way_by}
use Rattle.pk_visits_laws.proofs.Ways.Numbers.{points_way}
use Rattle.pk_visits_laws.proofs.Ways.Programs.{whole_way}

pub points_have_one_way : PathsAreAll → PointsHaveOneWay
points_have_one_way law u name paths unit marked has few =
    let entry = has.entry in
    let body = has.is_entry.0.0 in
    let are = law.all u entry has.seen paths has.walks has.is_listing in
    let typed = pairs_are_typed u entry paths unit body has.is_listing are in
    let edges = ap (λ (d : DraftOf ℕ). d.edges) (program_by Pair ℕ number_of pairs u paths) in
    points_way (map (path_of u paths) paths) (program_draft by_number u paths) (λ x. subst (λ es. IsWay (from x es)) (sym edges) (subst IsWay (sym (from_by number_of x (whole u paths).edges)) (way_by number_of (from x (whole u paths).edges) (whole_way u entry paths unit marked body has.is_listing are typed x))))
