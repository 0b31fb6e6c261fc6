use Rattle.std.proofs.Common.{◌≡◌, ◌<◌, ◌≤◌, ℕ, ◌+◌, List, length, get_or, arith, sym, ◌∙◌, subst}
use Rattle.std.proofs.lemmas.List.{get_or_default}
use Rattle.pk_typed.specs.declared.units.CallSite.{CallSite}
use Rattle.pk_typed.specs.Views.{unit_tree}
use Rattle.pk_calls.specs.Forests.{calls_in, capped}
use Rattle.pk_calls.proofs.Listing.{listed_more, call_pushed, listing_begins, listing_more, listing_ends}
use Rattle.pk_calls.proofs.listings.listed.Goals as goal

uncapped : (n k : ℕ) → n ≡ capped k → n ≤ 4096 → n ≡ k
uncapped n k e le = omega arith

pub loop-path-init : goal.loop-path-init
loop-path-init c =
    let count : c.args.counts.paths ≡ 1 + calls_in c.requires.counted.below = uncapped c.args.counts.paths (1 + calls_in c.requires.counted.below) c.requires.counted.paths_is c.requires.few in
    rw (c.in_ok-push.ensures.items, c.new-list.ensures.items, c.new-firsts.ensures.items) (listing_begins (unit_tree c.args.unit.now) c.args.entry c.args.counts.paths c.requires.counted.below c.requires.counted.is_forest count)

-- a call as the code reads it
abbrev site_of : List CallSite → ℕ → CallSite
site_of xs n = get_or xs n (record { function = 0; at = record { line = 0; column = 0 } })

pub loop-call-preserved : goal.loop-call-preserved
loop-call-preserved c =
    let xs : List CallSite = c.calls-site-items.result.now in
    let lt : c.loop-call.call < length xs = c.loop-call-test.true in
    let at : site_of xs c.loop-call.call ≡ get_or xs c.loop-call.call (site_of xs c.loop-call.call) = get_or_default xs c.loop-call.call (record { function = 0; at = record { line = 0; column = 0 } }) (site_of xs c.loop-call.call) lt in
    call_pushed c.loop-path.list.items c.loop-call.list.items c.push-in-loop-call.new.self.items c.loop-path.path c.loop-call.call xs (site_of xs c.loop-call.call) lt at c.loop-call.invariant c.in_ok-push-3.ensures.items

pub loop-path-preserved : goal.loop-path-preserved
loop-path-preserved c =
    listing_more (unit_tree c.args.unit.now) c.args.entry c.args.counts.paths c.loop-path.path c.loop-path.list.items c.loop-call.list.items c.loop-path.firsts.items c.push-in-loop-path.new.self.items c.index.result.now c.calls-site-items.result.now
    c.loop-call.call c.len.result c.loop-path-test.true c.index.ensures c.calls-site-items.ensures c.loop-call-test.false c.loop-call.invariant (c.len.ensures ∙ c.loop-path.list.ok.0) c.in_ok-push-2.ensures.items c.loop-path.invariant

pub index-requires : goal.index-requires
index-requires c =
    subst (λ (n : ℕ). c.loop-path.path < n) (sym c.loop-path.list.ok.0)
    (listed_more (unit_tree c.args.unit.now) c.args.entry c.args.counts.paths c.loop-path.invariant.total c.loop-path.path c.loop-path.list.items c.loop-path-test.true c.loop-path.invariant.listed)

same : (m n : ℕ) → m ≤ n → n ≤ m → m ≡ n
same m n le ge = omega arith

pub returns : goal.returns
returns c =
    listing_ends (unit_tree c.args.unit.now) c.args.entry c.args.counts.paths c.loop-path.path c.loop-path.list.items c.loop-path.firsts.items (same c.loop-path.path c.args.counts.paths c.loop-path.auto.path-end c.loop-path-test.false) c.loop-path.invariant
