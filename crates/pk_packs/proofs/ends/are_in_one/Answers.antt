use Prim.Native.Nat.{max, min}
use Rattle.std.proofs.Common.{◌≡◌, ℕ, ap, ◌∙◌, nat_lt, slice_index}
use Rattle.pk_plan.specs.Plans.{place_of}
use Rattle.pk_packs.proofs.EndLemmas.{joined}
use Rattle.pk_packs.proofs.ends.are_in_one.Goals as goal

pub returns : goal.returns
returns c =
    let p = c.args.plan.now in
    let a = place_of p c.args.one in
    let b = place_of p c.args.other in
    let x = c.place-place.result in
    let y = c.place-other_place.result in
    let late : c.max.result ≡ max a b = c.max.ensures ∙ ap (λ (n : ℕ). max n y) c.place-place.ensures ∙ ap (λ (n : ℕ). max a n) c.place-other_place.ensures in
    let early : c.min.result ≡ min a b = c.min.ensures ∙ ap (λ (n : ℕ). min n y) c.place-place.ensures ∙ ap (λ (n : ℕ). min a n) c.place-other_place.ensures in
    ap (λ (n : ℕ). nat_lt n (slice_index c.args.ends.now c.min.result)) late
    ∙ ap (λ (n : ℕ). nat_lt (max a b) (slice_index c.args.ends.now n)) early
    ∙ joined p c.args.ends.now c.args.one c.args.other c.axioms.ensures.axioms c.requires.ends c.requires.one c.requires.other
