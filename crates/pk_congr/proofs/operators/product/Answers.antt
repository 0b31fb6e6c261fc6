use Rattle.std.specs.Prelude.{◌≡◌}
use Rattle.std.specs.Int.{w128}
use Rattle.std.proofs.Common.{◌∙◌, ap, arith, to_z, of_z}
use Rattle.std.proofs.lemmas.Int.{ints}
use Rattle.pk_congr.specs.Classes.{Class}
use Rattle.pk_congr.proofs.Held.{same_products, products_same}
use Rattle.pk_congr.proofs.operators.product.Goals as goal

pub returns : goal.returns
returns c =
    let am : to_z w128 (of_z w128 c.a.inside.m) ≡ c.args.a.now.m = omega (arith, ints, ap (λ (v : Class). v.m) c.a.view_is) in
    let ar : to_z w128 (of_z w128 c.a.inside.r) ≡ c.args.a.now.r = omega (arith, ints, ap (λ (v : Class). v.r) c.a.view_is) in
    let bm : to_z w128 (of_z w128 c.b.inside.m) ≡ c.args.b.now.m = omega (arith, ints, ap (λ (v : Class). v.m) c.b.view_is) in
    let br : to_z w128 (of_z w128 c.b.inside.r) ≡ c.args.b.now.r = omega (arith, ints, ap (λ (v : Class). v.r) c.b.view_is) in
    c.product_class.ensures
    ∙ products_same c.args.a.now c.args.b.now c.times.result c.times-2.result c.times-3.result c.times-4.result
    (same_products (to_z w128 (of_z w128 c.a.inside.m)) (to_z w128 (of_z w128 c.b.inside.m)) c.args.a.now.m c.args.b.now.m c.times.result c.times.ensures am bm)
    (same_products (to_z w128 (of_z w128 c.a.inside.m)) (to_z w128 (of_z w128 c.b.inside.r)) c.args.a.now.m c.args.b.now.r c.times-2.result c.times-2.ensures am br)
    (same_products (to_z w128 (of_z w128 c.b.inside.m)) (to_z w128 (of_z w128 c.a.inside.r)) c.args.b.now.m c.args.a.now.r c.times-3.result c.times-3.ensures bm ar)
    (same_products (to_z w128 (of_z w128 c.a.inside.r)) (to_z w128 (of_z w128 c.b.inside.r)) c.args.a.now.r c.args.b.now.r c.times-4.result c.times-4.ensures ar br)
