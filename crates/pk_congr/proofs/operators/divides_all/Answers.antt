use Rattle.std.specs.Prelude.{◌≡◌, ◌&&◌, pos, unsigned_abs, FitsSigned}
use Rattle.std.specs.Int.{w128}
use Rattle.std.proofs.Common.{◌∙◌, ap, arith, sym, of_z}
use Rattle.std.proofs.lemmas.Int.{ints, to_z-of_z}
use Rattle.pk_congr.specs.Classes.{Class, divides}
use Rattle.pk_congr.proofs.Held.{not_divided, not_divided_zero, is_divided_by}
use Rattle.pk_congr.proofs.operators.divides_all.Goals as goal

pub returns-then-b-ne0 : goal.returns-then-b-ne0
returns-then-b-ne0 c = sym (not_divided c.args.a.now c.args.b.now (λ e. c.if-b-ne0.true (ap (of_z w128) (ap (λ (v : Class). v.m) c.b.view_is ∙ e))))

pub returns-then-b-eq0 : goal.returns-then-b-eq0
returns-then-b-eq0 c =
    let br = ap (λ (v : Class). v.r) c.b.view_is in
    let none : c.args.b.now.r ≡ pos 0 = omega (arith, ints, c.if-b-eq0.true) in
    sym (not_divided_zero c.args.a.now c.args.b.now none)

pub returns-then-is_divisor : goal.returns-then-is_divisor
returns-then-is_divisor c =
    let number : FitsSigned w128 c.a.inside.m = omega (arith, ints) in
    let divisor : FitsSigned w128 c.b.inside.r = omega (arith, ints) in
    let constant : c.args.b.now.m ≡ pos 0 = let bm = ap (λ (v : Class). v.m) c.b.view_is in omega (arith, ints, c.if-b-ne0.false) in
    let n : c.unsigned_abs.result ≡ unsigned_abs c.args.a.now.m = (simp to_z-of_z at c.unsigned_abs.ensures.value) ∙ ap (λ (v : Class). unsigned_abs v.m) c.a.view_is in
    let d : c.unsigned_abs-d.result ≡ unsigned_abs c.args.b.now.r = (simp to_z-of_z at c.unsigned_abs-d.ensures.value) ∙ ap (λ (v : Class). unsigned_abs v.r) c.b.view_is in
    let first : c.is_divisor.result ≡ divides c.args.b.now.r c.args.a.now.m = cc in
    let both = is_divided_by c.args.a.now c.args.b.now constant (λ e. c.if-b-eq0.false (ap (of_z w128) (ap (λ (v : Class). v.r) c.b.view_is ∙ e))) in
    let rest : FitsSigned w128 c.a.inside.r = omega (arith, ints) in
    let r : c.unsigned_abs-then-is_divisor.result ≡ unsigned_abs c.args.a.now.r = (simp to_z-of_z at c.unsigned_abs-then-is_divisor.ensures.value) ∙ ap (λ (v : Class). unsigned_abs v.r) c.a.view_is in
    let second : c.is_divisor-then-is_divisor.result ≡ divides c.args.b.now.r c.args.a.now.r = cc in
    second ∙ ap (λ t. t && divides c.args.b.now.r c.args.a.now.r) (sym c.if-is_divisor.true ∙ first) ∙ sym both

pub returns-else-is_divisor : goal.returns-else-is_divisor
returns-else-is_divisor c =
    let number : FitsSigned w128 c.a.inside.m = omega (arith, ints) in
    let divisor : FitsSigned w128 c.b.inside.r = omega (arith, ints) in
    let constant : c.args.b.now.m ≡ pos 0 = let bm = ap (λ (v : Class). v.m) c.b.view_is in omega (arith, ints, c.if-b-ne0.false) in
    let n : c.unsigned_abs.result ≡ unsigned_abs c.args.a.now.m = (simp to_z-of_z at c.unsigned_abs.ensures.value) ∙ ap (λ (v : Class). unsigned_abs v.m) c.a.view_is in
    let d : c.unsigned_abs-d.result ≡ unsigned_abs c.args.b.now.r = (simp to_z-of_z at c.unsigned_abs-d.ensures.value) ∙ ap (λ (v : Class). unsigned_abs v.r) c.b.view_is in
    let first : c.is_divisor.result ≡ divides c.args.b.now.r c.args.a.now.m = cc in
    let both = is_divided_by c.args.a.now c.args.b.now constant (λ e. c.if-b-eq0.false (ap (of_z w128) (ap (λ (v : Class). v.r) c.b.view_is ∙ e))) in
    c.if-is_divisor.false ∙ ap (λ t. t && divides c.args.b.now.r c.args.a.now.r) (sym c.if-is_divisor.false ∙ first) ∙ sym both
