use Rattle.std.proofs.Common.{◌≡◌, ℕ, List, ◌∷◌, [], ◌++◌, filter, nat_lt, Vec, Global, ap, sym, subst, ◌∙◌, arith}
use Rattle.std.specs.List.Sorted.{IsPermutation}
use Rattle.std.proofs.lemmas.List.{take_all}
use Rattle.std.proofs.lemmas.List.Sorted.{IsNonDecreasingBy-from_sort}
use Rattle.pk_items.proofs.Members.{point_members, vertex_alone, sorted_members, one_kept, one_passed}
use Rattle.pk_items.proofs.items.points_of.Goals.{then-e-points+in_ok-push-2, else-e-points}
use Rattle.pk_items.proofs.items.points_of.Goals as goal

pub returns-then-not-is_exit : goal.returns-then-not-is_exit
returns-then-not-is_exit c =
    c.in_ok-push.ensures.items ∙ ap (λ (xs : List ℕ). xs ++ c.args.x ∷ []) c.new-points.ensures.items
    ∙ vertex_alone c.args.plan.now c.axioms.ensures.axioms c.args.x c.requires (sym c.is_exit.ensures ∙ c.if-not-is_exit.true)

pub loop-e-init : goal.loop-e-init
loop-e-init c = c.new-points.ensures.items

pub loop-e-preserved : goal.loop-e-preserved
loop-e-preserved c =
    elim c.if-e-points.branch [
      | then-e-points+in_ok-push-2 w ↦ one_kept c.args.plan.now.points c.members-e-items.result.now c.loop-e.points.items c.if-e-points.points.items c.loop-e.e-index c.loop-e-test.true c.loop-e.invariant (let e = c.points.ensures in let l = w.if-e-points.true in omega (arith, e, l)) (ap (λ (v : Vec ℕ Global). v.items) w.points-is ∙ w.in_ok-push-2.ensures.items)
      | else-e-points w ↦ one_passed c.args.plan.now.points c.members-e-items.result.now c.loop-e.points.items c.if-e-points.points.items c.loop-e.e-index c.loop-e-test.true c.loop-e.invariant (let e = c.points.ensures in let l = w.if-e-points.false in omega (arith, e, l)) (ap (λ (v : Vec ℕ Global). v.items) w.points-is)
    ]

pub returns : goal.returns
returns c =
    let p = c.args.plan.now in
    let component = c.component_of.result.now in
    let read : c.loop-e.points.items ≡ point_members p component = c.loop-e.invariant ∙ ap (filter (λ u. nat_lt u p.points)) (take_all c.loop-e.e-index c.members-e-items.result.now c.loop-e-test.false ∙ c.members-e-items.ensures) in
    sorted_members p c.axioms.ensures.axioms c.args.x component c.sort_unstable.new.self.items c.requires c.component_of.ensures.of c.component_of.ensures.exit
    (subst (λ (xs : List ℕ). IsPermutation xs c.sort_unstable.new.self.items) read c.sort_unstable.ensures.permutation)
    (IsNonDecreasingBy-from_sort (λ n. n) c.sort_unstable.new.self.items c.sort_unstable.ensures.sorted)
