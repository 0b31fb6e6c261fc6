use Rattle.std.proofs.Common.{map, ◌∙◌, ap, arith, ℕ, List, get_or}
use Rattle.std.specs.Prelude.{pos}
use Rattle.pk_typed.specs.declared.units.Local.{Local}
use Rattle.pk_typed.specs.Views.{local_tree}
use Rattle.pk_meaning.specs.Programs.{zeros_of}
use Rattle.std.specs.Prelude.{ℤ}
use Rattle.std.specs.declared.vec.Vec.{Vec}
use Rattle.std.specs.declared.alloc.Global.{Global}
use Rattle.pk_runner_state.proofs.ProgramLemmas.{made_next, made_end, map_twice}
use Rattle.pk_typed.specs.Views.{body_tree}
use Rattle.std.specs.Prelude.{replicate}
use Rattle.pk_runner_state.proofs.objects.zeros_of_body.Goals as goal

pub loop-local-preserved : goal.loop-local-preserved
unfolding local_tree
loop-local-preserved c =
    made_next (λ (v : Vec ℤ Global). v.items) (λ (x : Local). zeros_of
    (local_tree x)) c.loop-local.rows.items c.push.new.self.items c.args.body.now.locals.items c.loop-local.local-index c.in_ok-zeros.field-0 c.local-item.result
    (omega arith) c.in_ok-push.ensures.items
    (c.local-item.is ∙ ap (λ (xs : List Local). get_or xs c.loop-local.local-index c.local-item.result) c.deref-local-items.ensures.value) (c.in_ok-zeros.ensures
    ∙ ap (λ (n : ℕ). replicate n (pos 0)) c.count_of.ensures) c.loop-local.invariant

pub returns : goal.returns
unfolding body_tree
returns c =
    made_end (λ (v : Vec ℤ Global). v.items) (λ (x : Local). zeros_of (local_tree x)) c.loop-local.rows.items c.args.body.now.locals.items c.loop-local.local-index (omega arith) c.loop-local.invariant
    ∙ map_twice zeros_of local_tree c.args.body.now.locals.items
