use Rattle.std.proofs.Common.{◌≡◌, ◌++◌, take}
use Rattle.pk_typed.specs.Views.{unit_tree}
use Rattle.pk_calls.specs.Paths.{paths_by}
use Rattle.pk_calls.proofs.Listing.{Listing}
use Rattle.pk_calls.proofs.listings.listed.Given as goal

abbrev pub invariant-loop-call : goal.invariant-loop-call
invariant-loop-call l = l.list.items ≡ l.initial.list.items ++ paths_by l.path 0 (take l.call l.site-items)

abbrev pub invariant-loop-path : goal.invariant-loop-path
invariant-loop-path l = Listing (unit_tree l.unit) l.entry l.fn.counts.paths l.path l.list.items l.firsts.items
