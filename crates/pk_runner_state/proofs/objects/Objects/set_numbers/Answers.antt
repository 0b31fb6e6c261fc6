use Rattle.std.proofs.Common.{refl, ◌∙◌, ap, sym, arith}
use Rattle.pk_runner_frame.specs.declared.works.Object.{Object}
use Rattle.pk_runner_frame.specs.Frames.{object_in}
use Rattle.pk_meaning.specs.Objects.{with_numbers}
use Rattle.pk_runner_state.specs.Shown.{objects_in}
use Rattle.pk_runner_state.proofs.ObjectLemmas.{file_set, file_past, local_set, local_row_past, local_past, result_set, result_past}
use Rattle.pk_runner_state.proofs.objects.Objects.set_numbers.Goals as goal

pub returns-then-number-len : goal.returns-then-number-len
returns-then-number-len c = file_set c.args.self.now c.in-File.number c.args.numbers c.args.numbers.items refl
    ∙ ap (λ (o : Object). with_numbers (object_in o) c.args.numbers.items (objects_in c.args.self.now)) (sym c.in-File.is)

pub returns-else-number-len : goal.returns-else-number-len
returns-else-number-len c = file_past c.args.self.now c.in-File.number c.args.numbers.items (omega arith)
    ∙ ap (λ (o : Object). with_numbers (object_in o) c.args.numbers.items (objects_in c.args.self.now)) (sym c.in-File.is)

pub returns-then-number-len-2 : goal.returns-then-number-len-2
returns-then-number-len-2 c = local_set c.args.self.now c.in-Local.path c.in-Local.number c.index_mut-row.result.now c.args.numbers c.args.numbers.items
    (omega arith) c.index_mut-row.ensures.value refl ∙ ap (λ (o : Object). with_numbers (object_in o) c.args.numbers.items (objects_in c.args.self.now)) (sym c.in-Local.is)

pub returns-else-number-len-2 : goal.returns-else-number-len-2
returns-else-number-len-2 c = local_row_past c.args.self.now c.in-Local.path c.in-Local.number c.index_mut-row.result.now c.args.numbers.items (omega arith) c.index_mut-row.ensures.value
    (omega arith) ∙ ap (λ (o : Object). with_numbers (object_in o) c.args.numbers.items (objects_in c.args.self.now)) (sym c.in-Local.is)

pub returns-else-path-len : goal.returns-else-path-len
returns-else-path-len c = local_past c.args.self.now c.in-Local.path c.in-Local.number c.args.numbers.items (omega arith)
    ∙ ap (λ (o : Object). with_numbers (object_in o) c.args.numbers.items (objects_in c.args.self.now)) (sym c.in-Local.is)

pub returns-then-path-len-2 : goal.returns-then-path-len-2
returns-then-path-len-2 c = result_set c.args.self.now c.in-Result.path c.args.numbers c.args.numbers.items refl
    ∙ ap (λ (o : Object). with_numbers (object_in o) c.args.numbers.items (objects_in c.args.self.now)) (sym c.in-Result.is)

pub returns-else-path-len-2 : goal.returns-else-path-len-2
returns-else-path-len-2 c = result_past c.args.self.now c.in-Result.path c.args.numbers.items (omega arith)
    ∙ ap (λ (o : Object). with_numbers (object_in o) c.args.numbers.items (objects_in c.args.self.now)) (sym c.in-Result.is)
