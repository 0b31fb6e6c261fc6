use Rattle.std.proofs.Common.{◌∙◌, ap, sym, arith, [], ◌∷◌}
use Rattle.pk_runner_frame.specs.declared.works.Object.{Object}
use Rattle.pk_runner_frame.specs.Frames.{object_in}
use Rattle.pk_meaning.specs.Objects.{with_numbers}
use Rattle.pk_runner_state.specs.Shown.{objects_in}
use Rattle.pk_runner_state.proofs.ObjectLemmas.{file_set, file_past, local_set, local_row_past, local_past, result_set, result_past}
use Rattle.pk_runner_state.proofs.objects.Objects.set_number.Goals as goal

pub returns-in_ok-set_only-in-File : goal.returns-in_ok-set_only-in-File
returns-in_ok-set_only-in-File c = file_set c.args.self.now c.in-File.place _ (c.args.number.now ∷ []) c.in_ok-set_only-in-File.ensures
    ∙ ap (λ (o : Object). with_numbers (object_in o) (c.args.number.now ∷ []) (objects_in c.args.self.now)) (sym c.in-File.is)

pub returns-else-place-len : goal.returns-else-place-len
returns-else-place-len c = file_past c.args.self.now c.in-File.place (c.args.number.now ∷ []) (omega arith)
    ∙ ap (λ (o : Object). with_numbers (object_in o) (c.args.number.now ∷ []) (objects_in c.args.self.now)) (sym c.in-File.is)

pub returns-in_ok-set_only-in-Local : goal.returns-in_ok-set_only-in-Local
returns-in_ok-set_only-in-Local c = local_set c.args.self.now c.in-Local.path c.in-Local.place c.index_mut-row.result.now _ (c.args.number.now ∷ [])
    (omega arith) c.index_mut-row.ensures.value c.in_ok-set_only-in-Local.ensures
    ∙ ap (λ (o : Object). with_numbers (object_in o) (c.args.number.now ∷ []) (objects_in c.args.self.now)) (sym c.in-Local.is)

pub returns-else-place-len-2 : goal.returns-else-place-len-2
returns-else-place-len-2 c = local_row_past c.args.self.now c.in-Local.path c.in-Local.place c.index_mut-row.result.now (c.args.number.now ∷ []) (omega arith) c.index_mut-row.ensures.value
    (omega arith) ∙ ap (λ (o : Object). with_numbers (object_in o) (c.args.number.now ∷ []) (objects_in c.args.self.now)) (sym c.in-Local.is)

pub returns-else-path-len : goal.returns-else-path-len
returns-else-path-len c = local_past c.args.self.now c.in-Local.path c.in-Local.place (c.args.number.now ∷ []) (omega arith)
    ∙ ap (λ (o : Object). with_numbers (object_in o) (c.args.number.now ∷ []) (objects_in c.args.self.now)) (sym c.in-Local.is)

pub returns-in_ok-set_only-in-Result : goal.returns-in_ok-set_only-in-Result
returns-in_ok-set_only-in-Result c = result_set c.args.self.now c.in-Result.path _ (c.args.number.now ∷ []) c.in_ok-set_only-in-Result.ensures
    ∙ ap (λ (o : Object). with_numbers (object_in o) (c.args.number.now ∷ []) (objects_in c.args.self.now)) (sym c.in-Result.is)

pub returns-else-path-len-2 : goal.returns-else-path-len-2
returns-else-path-len-2 c = result_past c.args.self.now c.in-Result.path (c.args.number.now ∷ []) (omega arith)
    ∙ ap (λ (o : Object). with_numbers (object_in o) (c.args.number.now ∷ []) (objects_in c.args.self.now)) (sym c.in-Result.is)
