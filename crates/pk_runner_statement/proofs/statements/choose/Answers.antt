use Rattle.std.proofs.Common.{◌≡◌, ◌+◌, ℕ, refl, ap, ◌∙◌, sym, subst, arith, List, [], ◌∷◌, length, take, get_or, Bool, IfOk}
use Rattle.std.specs.Prelude.{ℤ, pos, if◌then◌else◌}
use Rattle.std.proofs.lemmas.Int.{to_z-of_z}
use mir.Syntax.{w128}
use Rattle.pk_typed.specs.Trees.{StatementTree}
use Rattle.pk_typed.specs.Views.{statement_tree}
use Rattle.pk_graph.specs.Steps.{Numbers}
use Rattle.pk_meaning.specs.Programs.{Program}
use Rattle.pk_meaning.specs.Work as work
use Rattle.pk_meaning.specs.Work.{Ahead, Place}
use Rattle.pk_meaning.specs.Steps.{Config, Next, comes}
use Rattle.pk_runner_state.specs.Shown.{told}
use Rattle.pk_runner_frame.specs.Frames.{Held, held, ahead_at, place_in, work_in}
use Rattle.pk_runner_state.specs.Shown.{program_in, shown, outcome, Outcome}
use Rattle.std.proofs.Common.{◌-◌}
use Rattle.std.specs.Prelude.{reverse}
use Rattle.std.specs.Ordering.{int_eq}
use Rattle.pk_meaning.specs.Steps.{numbered, otherwise, found, takes, chooses, on_top}
use Rattle.pk_meaning.specs.Work.{Way}
use Rattle.pk_runner_statement.proofs.StatementLemmas.{none_there, tail}
use Rattle.pk_ctypes.proofs.Small.{some_is}
use Rattle.pk_runner_statement.proofs.FoundLemmas.{not_refused, same_takes, front}
use Rattle.pk_runner_statement.proofs.statements.choose.Goals as goal

pub returns-in-None-clause-told : goal.returns-in-None-clause-told
unfolding shown work_in
returns-in-None-clause-told c = λ s agrees.
    let old : Config = shown s c.args.state.now in
    let hs : List Held = held s c.args.state.now.frames.items in
    let p : Program = program_in c.args.program.now in
    let a : Ahead = ahead_at hs c.args.ahead in
    let h : Place = place_in s c.args.here in
    let b : StatementTree = statement_tree c.args.body.now in
    let all : Numbers = c.args.state.now.values.items in
    let left : Numbers = reverse (take (length all - 1) all) in
    let choose : List ℤ → Bool → ℤ → Numbers → Next = λ zs d v vs. chooses p old c.args.int_type zs c.args.number d b h a v vs in
    sym (ap (λ (us : Numbers). outcome (on_top us (λ v vs. choose c.args.cases.now c.args.has_default v vs)) old) (ap reverse (sym c.deref.ensures.value) ∙ c.in-None.ensures))

pub returns-then-has_default-clause-told : goal.returns-then-has_default-clause-told
unfolding shown work_in
returns-then-has_default-clause-told c = λ s agrees.
    let old : Config = shown s c.args.state.now in
    let hs : List Held = held s c.args.state.now.frames.items in
    let p : Program = program_in c.args.program.now in
    let a : Ahead = ahead_at hs c.args.ahead in
    let h : Place = place_in s c.args.here in
    let b : StatementTree = statement_tree c.args.body.now in
    let all : Numbers = c.args.state.now.values.items in
    let left : Numbers = reverse (take (length all - 1) all) in
    let choose : List ℤ → Bool → ℤ → Numbers → Next = λ zs d v vs. chooses p old c.args.int_type zs c.args.number d b h a v vs in
    let top : outcome (on_top old.values (λ v vs. choose c.args.cases.now c.args.has_default v vs)) old ≡ outcome (choose c.args.cases.now c.args.has_default c.in-Some.value left) old =
    ap (λ (us : Numbers). outcome (on_top us (λ v vs. choose c.args.cases.now c.args.has_default v vs)) old)
    (ap reverse (sym c.deref.ensures.value) ∙ (c.in-Some.ensures ∙ ap (λ (us : Numbers). c.in-Some.value ∷ reverse (take (length us - 1) us)) c.deref.ensures.value)) in
    let way : Way = found p c.args.state.now.path otherwise h.scope b (work.Close h a) work.Lost in
    subst (λ (o : Outcome). IfOk c.go_to_case.result (λ r. told r (shown s c.go_to_case.new.state) ≡ o))
    (ap (λ (us : Numbers). outcome (takes (record old { values = us }) way us) (record old { values = us })) (ap reverse c.without.ensures)
    ∙ (same_takes old way left left (not_refused p c.args.state.now.path otherwise h.scope b (work.Close h a) work.Lost refl)
    ∙ sym (top ∙ (ap (λ (zs : List ℤ). outcome (choose zs c.args.has_default c.in-Some.value left) old) (none_there c.args.cases.now c.if-cases-eq0.true)
    ∙ ap (λ (d : Bool). outcome (choose [] d c.in-Some.value left) old) c.if-has_default.true))))
    (c.go_to_case.ensures.told s agrees)

pub returns-else-has_default-clause-told : goal.returns-else-has_default-clause-told
unfolding shown work_in
returns-else-has_default-clause-told c = λ s agrees.
    let old : Config = shown s c.args.state.now in
    let hs : List Held = held s c.args.state.now.frames.items in
    let p : Program = program_in c.args.program.now in
    let a : Ahead = ahead_at hs c.args.ahead in
    let h : Place = place_in s c.args.here in
    let b : StatementTree = statement_tree c.args.body.now in
    let all : Numbers = c.args.state.now.values.items in
    let left : Numbers = reverse (take (length all - 1) all) in
    let choose : List ℤ → Bool → ℤ → Numbers → Next = λ zs d v vs. chooses p old c.args.int_type zs c.args.number d b h a v vs in
    let top : outcome (on_top old.values (λ v vs. choose c.args.cases.now c.args.has_default v vs)) old ≡ outcome (choose c.args.cases.now c.args.has_default c.in-Some.value left) old =
    ap (λ (us : Numbers). outcome (on_top us (λ v vs. choose c.args.cases.now c.args.has_default v vs)) old)
    (ap reverse (sym c.deref.ensures.value) ∙ (c.in-Some.ensures ∙ ap (λ (us : Numbers). c.in-Some.value ∷ reverse (take (length us - 1) us)) c.deref.ensures.value)) in
    c.come.ensures s
    ∙ (ap (λ (us : Numbers). outcome (comes old h (work.Go a) us) old) (ap reverse c.without.ensures)
    ∙ sym (top ∙ (ap (λ (zs : List ℤ). outcome (choose zs c.args.has_default c.in-Some.value left) old) (none_there c.args.cases.now c.if-cases-eq0.true)
    ∙ ap (λ (d : Bool). outcome (choose [] d c.in-Some.value left) old) c.if-has_default.false)))

pub returns-then-is_same-clause-told : goal.returns-then-is_same-clause-told
unfolding shown work_in
returns-then-is_same-clause-told c = λ s agrees.
    let old : Config = shown s c.args.state.now in
    let hs : List Held = held s c.args.state.now.frames.items in
    let p : Program = program_in c.args.program.now in
    let a : Ahead = ahead_at hs c.args.ahead in
    let h : Place = place_in s c.args.here in
    let b : StatementTree = statement_tree c.args.body.now in
    let all : Numbers = c.args.state.now.values.items in
    let left : Numbers = reverse (take (length all - 1) all) in
    let choose : List ℤ → Bool → ℤ → Numbers → Next = λ zs d v vs. chooses p old c.args.int_type zs c.args.number d b h a v vs in
    let top : outcome (on_top old.values (λ v vs. choose c.args.cases.now c.args.has_default v vs)) old ≡ outcome (choose c.args.cases.now c.args.has_default c.in-Some.value left) old =
    ap (λ (us : Numbers). outcome (on_top us (λ v vs. choose c.args.cases.now c.args.has_default v vs)) old)
    (ap reverse (sym c.deref.ensures.value) ∙ (c.in-Some.ensures ∙ ap (λ (us : Numbers). c.in-Some.value ∷ reverse (take (length us - 1) us)) c.deref.ensures.value)) in
    let way : Way = found p c.args.state.now.path (numbered c.args.number) h.scope b (work.Close h a) work.Lost in
    subst (λ (o : Outcome). IfOk c.go_to_case-then-is_same.result (λ r. told r (shown s c.go_to_case-then-is_same.new.state) ≡ o))
    (ap (λ (us : Numbers). outcome (takes (record old { values = us }) way us) (record old { values = us })) (ap reverse c.without-then-is_same.ensures)
    ∙ (same_takes old way left left (not_refused p c.args.state.now.path (numbered c.args.number) h.scope b (work.Close h a) work.Lost refl)
    ∙ sym (top ∙ (ap (λ (zs : List ℤ). outcome (choose zs c.args.has_default c.in-Some.value left) old) (front c.args.cases.now (pos 0) (omega (arith, c.if-cases-eq0.false)))
    ∙ ap (λ (e : Bool). outcome (if e then takes old (found p c.args.state.now.path (numbered c.args.number) h.scope b (work.Close h a) work.Lost) left else comes old h
    (work.Choose c.args.int_type (tail c.args.cases.now) (c.args.number + 1) c.args.has_default b h a) (c.in-Some.value ∷ left)) old) (ap (λ (z : ℤ). int_eq z (get_or c.args.cases.now 0
    (pos 0))) (sym (to_z-of_z w128 c.in-Some.value (record { sfits = (rw c.in-Some.is at c.top.type_inv).1.1.1.1.0.1 }))) ∙ (sym c.is_same.ensures ∙ c.if-is_same.true))))))
    (c.go_to_case-then-is_same.ensures.told s agrees)

pub returns-in_ok-next-in-Some-clause-told : goal.returns-in_ok-next-in-Some-clause-told
unfolding shown work_in
returns-in_ok-next-in-Some-clause-told c = λ s agrees.
    let old : Config = shown s c.args.state.now in
    let hs : List Held = held s c.args.state.now.frames.items in
    let p : Program = program_in c.args.program.now in
    let a : Ahead = ahead_at hs c.args.ahead in
    let h : Place = place_in s c.args.here in
    let b : StatementTree = statement_tree c.args.body.now in
    let all : Numbers = c.args.state.now.values.items in
    let left : Numbers = reverse (take (length all - 1) all) in
    let choose : List ℤ → Bool → ℤ → Numbers → Next = λ zs d v vs. chooses p old c.args.int_type zs c.args.number d b h a v vs in
    let top : outcome (on_top old.values (λ v vs. choose c.args.cases.now c.args.has_default v vs)) old ≡ outcome (choose c.args.cases.now c.args.has_default c.in-Some.value left) old =
    ap (λ (us : Numbers). outcome (on_top us (λ v vs. choose c.args.cases.now c.args.has_default v vs)) old)
    (ap reverse (sym c.deref.ensures.value) ∙ (c.in-Some.ensures ∙ ap (λ (us : Numbers). c.in-Some.value ∷ reverse (take (length us - 1) us)) c.deref.ensures.value)) in
    let next : c.in_ok-next-in-Some.next ≡ c.args.number + 1 = some_is _ _ _ _ c.checked_add.ensures c.in_ok-next-in-Some.ensures.ok_part in
    c.come-else-is_same.ensures s
    ∙ (ap (λ (i : ℕ). outcome (comes old h (work.Choose c.args.int_type (tail c.args.cases.now) i c.args.has_default b h a) old.values) old) next
    ∙ (ap (λ (us : Numbers). outcome (comes old h (work.Choose c.args.int_type (tail c.args.cases.now) (c.args.number + 1) c.args.has_default b h a) us) old) (ap reverse
    (sym c.deref.ensures.value) ∙ (c.in-Some.ensures ∙ ap (λ (us : Numbers). c.in-Some.value ∷ reverse (take (length us - 1) us)) c.deref.ensures.value))
    ∙ sym (top ∙ (ap (λ (zs : List ℤ). outcome (choose zs c.args.has_default c.in-Some.value left) old) (front c.args.cases.now (pos 0) (omega (arith, c.if-cases-eq0.false)))
    ∙ ap (λ (e : Bool). outcome (if e then takes old (found p c.args.state.now.path (numbered c.args.number) h.scope b (work.Close h a) work.Lost) left else comes old h
    (work.Choose c.args.int_type (tail c.args.cases.now) (c.args.number + 1) c.args.has_default b h a) (c.in-Some.value ∷ left)) old) (ap (λ (z : ℤ). int_eq z (get_or c.args.cases.now 0
    (pos 0))) (sym (to_z-of_z w128 c.in-Some.value (record { sfits = (rw c.in-Some.is at c.top.type_inv).1.1.1.1.0.1 }))) ∙ (sym c.is_same.ensures ∙ c.if-is_same.false))))))
