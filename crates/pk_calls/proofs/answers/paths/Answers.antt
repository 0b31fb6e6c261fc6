use Rattle.std.proofs.Common.{◌≡◌, List, length, arith, refl}
use Rattle.std.proofs.lemmas.List.{length-map}
use Rattle.pk_typed.specs.declared.units.Unit as declared_unit
use Rattle.pk_typed.specs.Views.{file_object_tree, unit_tree}
use Rattle.pk_calls.specs.declared.listings.CallPath.{CallPath}
use Rattle.pk_calls.proofs.Listing.{all_listed}
use Rattle.pk_calls.proofs.ListingLemmas.{listing_counted, variables_by_objects}
use Rattle.pk_calls.proofs.answers.paths.Goals as goal

objects_long : (u : declared_unit.Unit) → length (unit_tree u).objects ≡ length u.objects.items
unfolding unit_tree
objects_long u = length-map u.objects.items file_object_tree

pub returns-then-counts-gt-PATH_LIMIT : goal.returns-then-counts-gt-PATH_LIMIT
returns-then-counts-gt-PATH_LIMIT c =
    let walked = c.in_ok-counts.ensures in
    let all = all_listed (unit_tree c.args.unit.now) c.in-Some.entry walked.1.below walked.1.is_forest in
    let counts = listing_counted (unit_tree c.args.unit.now) c.in-Some.entry c.in_ok-counts.counts.paths c.in_ok-counts.counts.variables all.0 walked.1 all.1 in
    (all.0, record { entry = c.in-Some.entry; is_entry = c.in-Some.ensures; seen = walked.0.0; walks = walked.0.1; is_listing = all.1 }, (refl, omega (arith, counts.0)))

pub returns-then-saturating_add-gt-VARIABLE_LIMIT : goal.returns-then-saturating_add-gt-VARIABLE_LIMIT
returns-then-saturating_add-gt-VARIABLE_LIMIT c =
    let walked = c.in_ok-counts.ensures in
    let all = all_listed (unit_tree c.args.unit.now) c.in-Some.entry walked.1.below walked.1.is_forest in
    let counts = listing_counted (unit_tree c.args.unit.now) c.in-Some.entry c.in_ok-counts.counts.paths c.in_ok-counts.counts.variables all.0 walked.1 all.1 in (
      all.0,
      record { entry = c.in-Some.entry; is_entry = c.in-Some.ensures; seen = walked.0.0; walks = walked.0.1; is_listing = all.1 },
      (refl, omega (arith, counts.0), omega (arith, counts.1, variables_by_objects (unit_tree c.args.unit.now) all.0, objects_long c.args.unit.now, c.args.unit.now.objects.ok.0)),
    )

pub returns : goal.returns
returns c =
    let walked = c.in_ok-counts.ensures in
    let ps : List CallPath = c.in_ok-listed.field-0 in
    let counts = listing_counted (unit_tree c.args.unit.now) c.in-Some.entry c.in_ok-counts.counts.paths c.in_ok-counts.counts.variables ps walked.1 c.in_ok-listed.ensures in (
      record { entry = c.in-Some.entry; is_entry = c.in-Some.ensures; seen = walked.0.0; walks = walked.0.1; is_listing = c.in_ok-listed.ensures },
      omega (arith, counts.0),
      omega (arith, counts.1, variables_by_objects (unit_tree c.args.unit.now) ps, objects_long c.args.unit.now, c.args.unit.now.objects.ok.0),
    )
