use Rattle.std.proofs.Common.{rules, ◌≡◌, ◌+◌, ◌∙◌, ap, sym, arith, drop, get_or, ℕ, List}
use Rattle.std.specs.Prelude.{pos}
use Rattle.pk_ctypes.specs.declared.types.IntType.{IntType}
use Rattle.pk_ctypes.specs.declared.types.IntType.TheVariants.{Char}
use Rattle.pk_ctypes.specs.Types.{is_in_type}
use Rattle.std.proofs.lemmas.Int.{to_z-of_z}
use mir.Syntax.{w128}
use mir.Val.{SFits, to_z, of_z}
use Rattle.pk_graph.specs.Steps.{Numbers}
use Rattle.pk_meaning.specs.Objects.{Objects}
use Rattle.pk_meaning.specs.Runs.{with_arguments}
use Rattle.pk_runner_state.specs.Shown.{objects_in}
use Rattle.pk_runner.proofs.ArgumentLemmas.{next_argument, unlike}
use Rattle.pk_runner.proofs.runs.set_arguments.Goals as goal

pub returns-then-types-numbers : goal.returns-then-types-numbers
returns-then-types-numbers c = unlike 0 c.args.types.now c.args.numbers.now (objects_in c.args.objects.now) c.if-types-numbers.true

pub loop-number-preserved : goal.loop-number-preserved
loop-number-preserved c =
    let n : ℕ = c.loop-number.number in
    let ts : List IntType = c.args.types.now in
    let zs : Numbers = c.args.numbers.now in
    let fits : SFits w128 (get_or zs n (pos 0)) = search rules in
    let number : to_z w128 (of_z w128 (get_or zs n (pos 0))) ≡ get_or zs n (pos 0) = to_z-of_z w128 (get_or zs n (pos 0)) fits in
    ap (λ (o : Objects). with_arguments (n + 1) (drop (n + 1) ts) (drop (n + 1) zs) o) c.in_ok-set_number.ensures
    ∙ (sym (next_argument n n ts zs Char (pos 0) (objects_in c.loop-number.objects) (omega (arith, c.loop-number-test.true)) (omega
    (arith, c.loop-number-test.true, c.if-types-numbers.false)) (ap (is_in_type (get_or ts n Char)) (sym number) ∙ (sym c.fits.ensures ∙ c.if-not-fits.false)))
    ∙ c.loop-number.invariant)
