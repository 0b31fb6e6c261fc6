use Rattle.std.proofs.Common.{◌∙◌, ap, sym, arith, List, [], slice_index_or, slice_set}
use Rattle.pk_graph.specs.Steps.{Numbers}
use Rattle.pk_runner_frame.specs.declared.works.Object.{Object}
use Rattle.pk_runner_frame.specs.Frames.{object_in}
use Rattle.pk_meaning.specs.Objects.{with_numbers, numbers_of}
use Rattle.pk_runner_state.specs.Shown.{objects_in}
use Rattle.pk_runner_state.proofs.ObjectLemmas.{row_read, locals_read, file_set, file_past, local_set, local_row_past, local_past, result_set, result_past}
use Rattle.pk_meaning.specs.Objects.{file, local, result}
use Rattle.pk_runner_state.proofs.objects.Objects.set_element.Goals as goal

pub returns-then-row-len : goal.returns-then-row-len
unfolding objects_in
returns-then-row-len c = file_set c.args.self.now c.in-File.row _ (slice_set (numbers_of (file c.in-File.row) (objects_in c.args.self.now)) c.args.place c.args.number.now) (c.set_at.ensures
    ∙ ap (λ (zs : Numbers). slice_set zs c.args.place c.args.number.now) (row_read c.args.self.now.files.items c.in-File.row c.index_mut.result.now (omega arith) c.index_mut.ensures.value))
    ∙ ap (λ (o : Object). with_numbers (object_in o) (slice_set (numbers_of (object_in o) (objects_in c.args.self.now)) c.args.place c.args.number.now) (objects_in c.args.self.now))
    (sym c.in-File.is)

pub returns-else-row-len : goal.returns-else-row-len
returns-else-row-len c = file_past c.args.self.now c.in-File.row (slice_set (numbers_of (file c.in-File.row) (objects_in c.args.self.now)) c.args.place c.args.number.now) (omega arith)
    ∙ ap (λ (o : Object). with_numbers (object_in o) (slice_set (numbers_of (object_in o) (objects_in c.args.self.now)) c.args.place c.args.number.now) (objects_in c.args.self.now))
    (sym c.in-File.is)

pub returns-then-row-len-2 : goal.returns-then-row-len-2
unfolding objects_in
returns-then-row-len-2 c =
    local_set c.args.self.now c.in-Local.path c.in-Local.row c.index_mut-rows.result.now _ (slice_set (numbers_of (local c.in-Local.path c.in-Local.row)
    (objects_in c.args.self.now)) c.args.place c.args.number.now) (omega arith) c.index_mut-rows.ensures.value
    (c.set_at-then-row-len-2.ensures ∙ ap (λ (zs : Numbers). slice_set zs c.args.place c.args.number.now)
    (row_read c.index_mut-rows.result.now.items c.in-Local.row c.index_mut-then-row-len-2.result.now (omega arith) c.index_mut-then-row-len-2.ensures.value
    ∙ ap (λ (rs : List Numbers). slice_index_or rs c.in-Local.row []) (locals_read c.args.self.now.locals.items c.in-Local.path c.index_mut-rows.result.now
    (omega arith) c.index_mut-rows.ensures.value))) ∙ ap (λ (o : Object). with_numbers (object_in o) (slice_set (numbers_of (object_in o)
    (objects_in c.args.self.now)) c.args.place c.args.number.now) (objects_in c.args.self.now)) (sym c.in-Local.is)

pub returns-else-row-len-2 : goal.returns-else-row-len-2
returns-else-row-len-2 c = local_row_past c.args.self.now c.in-Local.path c.in-Local.row c.index_mut-rows.result.now (slice_set (numbers_of (local c.in-Local.path c.in-Local.row)
    (objects_in c.args.self.now)) c.args.place c.args.number.now) (omega arith) c.index_mut-rows.ensures.value (omega arith)
    ∙ ap (λ (o : Object). with_numbers (object_in o) (slice_set (numbers_of (object_in o) (objects_in c.args.self.now)) c.args.place c.args.number.now) (objects_in c.args.self.now))
    (sym c.in-Local.is)

pub returns-else-path-len : goal.returns-else-path-len
returns-else-path-len c = local_past c.args.self.now c.in-Local.path c.in-Local.row (slice_set (numbers_of (local c.in-Local.path c.in-Local.row)
    (objects_in c.args.self.now)) c.args.place c.args.number.now) (omega arith)
    ∙ ap (λ (o : Object). with_numbers (object_in o) (slice_set (numbers_of (object_in o) (objects_in c.args.self.now)) c.args.place c.args.number.now) (objects_in c.args.self.now))
    (sym c.in-Local.is)

pub returns-then-path-len-2 : goal.returns-then-path-len-2
unfolding objects_in
returns-then-path-len-2 c = result_set c.args.self.now c.in-Result.path _ (slice_set (numbers_of (result c.in-Result.path) (objects_in c.args.self.now)) c.args.place c.args.number.now)
    (c.set_at-then-path-len-2.ensures ∙ ap (λ (zs : Numbers). slice_set zs c.args.place c.args.number.now)
    (row_read c.args.self.now.results.items c.in-Result.path c.index_mut-then-path-len-2.result.now (omega arith) c.index_mut-then-path-len-2.ensures.value))
    ∙ ap (λ (o : Object). with_numbers (object_in o) (slice_set (numbers_of (object_in o) (objects_in c.args.self.now)) c.args.place c.args.number.now) (objects_in c.args.self.now))
    (sym c.in-Result.is)

pub returns-else-path-len-2 : goal.returns-else-path-len-2
returns-else-path-len-2 c = result_past c.args.self.now c.in-Result.path (slice_set (numbers_of (result c.in-Result.path) (objects_in c.args.self.now)) c.args.place c.args.number.now)
    (omega arith) ∙ ap (λ (o : Object). with_numbers (object_in o) (slice_set (numbers_of (object_in o) (objects_in c.args.self.now)) c.args.place c.args.number.now)
    (objects_in c.args.self.now)) (sym c.in-Result.is)
