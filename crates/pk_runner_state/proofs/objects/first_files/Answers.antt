use Rattle.std.proofs.Common.{map, ◌∙◌, ap, arith, List, get_or}
use Rattle.pk_typed.specs.declared.units.FileObject.{FileObject}
use Rattle.pk_typed.specs.Views.{start_tree, unit_tree}
use Rattle.pk_meaning.specs.Programs.{start_of}
use Rattle.std.specs.Prelude.{ℤ}
use Rattle.std.specs.declared.vec.Vec.{Vec}
use Rattle.std.specs.declared.alloc.Global.{Global}
use Rattle.pk_runner_state.proofs.ProgramLemmas.{made_next, made_end, map_twice}
use Rattle.pk_typed.specs.Views.{file_object_tree}
use Rattle.pk_typed.specs.Trees.{FileObjectTree}
use Rattle.pk_runner_state.proofs.objects.first_files.Goals as goal

pub loop-object-preserved : goal.loop-object-preserved
loop-object-preserved c =
    made_next (λ (v : Vec ℤ Global). v.items) (λ (x : FileObject). start_of
    (start_tree x.start)) c.loop-object.rows.items c.push.new.self.items c.args.program.now.unit.now.objects.items c.loop-object.object-index c.in_ok-start_of.field-0
    c.object-item.result (omega arith) c.in_ok-push.ensures.items
    (c.object-item.is ∙ ap (λ (xs : List FileObject). get_or xs c.loop-object.object-index c.object-item.result) c.deref-object-items.ensures.value) c.in_ok-start_of.ensures c.loop-object.invariant

pub returns : goal.returns
unfolding unit_tree file_object_tree
returns c =
    made_end (λ (v : Vec ℤ Global). v.items) (λ (x : FileObject). start_of
    (start_tree x.start)) c.loop-object.rows.items c.args.program.now.unit.now.objects.items c.loop-object.object-index (omega arith) c.loop-object.invariant
    ∙ map_twice (λ (x : FileObjectTree). start_of x.start) file_object_tree c.args.program.now.unit.now.objects.items
