use Rattle.std.proofs.Common.{◌∙◌, ap, sym, arith, List, [], slice_index_or}
use Rattle.pk_graph.specs.Steps.{Numbers}
use Rattle.pk_runner_frame.specs.declared.works.Object.{Object}
use Rattle.pk_runner_frame.specs.Frames.{object_in}
use Rattle.pk_meaning.specs.Objects.{numbers_of}
use Rattle.pk_runner_state.specs.Shown.{objects_in}
use Rattle.pk_runner_state.proofs.ObjectLemmas.{locals_read}
use Rattle.pk_runner_state.proofs.ObjectLemmas.{rows_of, locals_past}
use Rattle.pk_runner_state.proofs.objects.Objects.numbers.Goals as goal

pub returns-in-File : goal.returns-in-File
unfolding objects_in
returns-in-File c = c.row_of.ensures ∙ (ap (λ (rs : List _). slice_index_or (rows_of rs) c.in-File.number []) c.deref.ensures.value
    ∙ ap (λ (o : Object). numbers_of (object_in o) (objects_in c.args.self.now)) (sym c.in-File.is))

pub returns-then-path-len : goal.returns-then-path-len
unfolding objects_in
returns-then-path-len c =
    c.row_of-then-path-len.ensures ∙ (ap (λ (rs : List _). slice_index_or (rows_of rs) c.in-Local.number []) c.deref-then-path-len.ensures.value
    ∙ (ap (λ (rs : List Numbers). slice_index_or rs c.in-Local.number []) (locals_read c.args.self.now.locals.items c.in-Local.path c.index.result.now (omega arith) c.index.ensures)
    ∙ ap (λ (o : Object). numbers_of (object_in o) (objects_in c.args.self.now)) (sym c.in-Local.is)))

pub returns-else-path-len : goal.returns-else-path-len
unfolding objects_in
returns-else-path-len c = ap (λ (rs : List Numbers). slice_index_or rs c.in-Local.number []) (locals_past c.args.self.now.locals.items c.in-Local.path (omega arith))
    ∙ ap (λ (o : Object). numbers_of (object_in o) (objects_in c.args.self.now)) (sym c.in-Local.is)

pub returns-in-Result : goal.returns-in-Result
unfolding objects_in
returns-in-Result c = c.row_of-in-Result.ensures ∙ (ap (λ (rs : List _). slice_index_or (rows_of rs) c.in-Result.path []) c.deref-in-Result.ensures.value
    ∙ ap (λ (o : Object). numbers_of (object_in o) (objects_in c.args.self.now)) (sym c.in-Result.is))
