use Rattle.std.proofs.Common.{◌∙◌, ◌+◌, ◌<◌, ◌^◌, ap, sym, subst, refl, length, false}
use Rattle.pk_blocks.specs.Rows.{merged_from}
use Rattle.pk_blocks.proofs.Merging.{never}
use Rattle.pk_blocks.proofs.block.Block.merge.Goals as goal

pub stay-requires-clause-same : goal.stay-requires-clause-same
stay-requires-clause-same g c =
    let left = rw c.deref.ensures at c.deref-2.ensures.value in
    let right = rw c.deref-3.ensures at c.deref-4.ensures.value in
    ap length left ∙ c.self.invariant ∙ sym (ap length right ∙ c.other.invariant)

pub stay-requires-clause-room : goal.stay-requires-clause-room
stay-requires-clause-room g c =
    let left = rw c.deref.ensures at c.deref-2.ensures.value in
    subst (λ n. c.args.from + n < 2 ^ 62) (sym (ap length left ∙ c.self.invariant)) c.requires

pub merge_items-requires-clause-same : goal.merge_items-requires-clause-same
merge_items-requires-clause-same g c =
    let left = rw c.deref-5.ensures at c.deref-6.ensures.value in
    let right = rw c.deref-7.ensures at c.deref-8.ensures.value in
    ap length left ∙ c.self.invariant ∙ sym (ap length right ∙ c.other.invariant)

pub merge_items-requires-clause-room : goal.merge_items-requires-clause-room
merge_items-requires-clause-room g c =
    let left = rw c.deref-5.ensures at c.deref-6.ensures.value in
    subst (λ n. c.args.from + n < 2 ^ 62) (sym (ap length left ∙ c.self.invariant)) c.requires

pub made-requires : goal.made-requires
made-requires g c =
    let left = rw c.deref-5.ensures at c.deref-6.ensures.value in
    c.in_ok-items.ensures.size ∙ ap length left ∙ c.self.invariant

pub returns-then-stay-clause-value : goal.returns-then-stay-clause-value
returns-then-stay-clause-value g c =
    let f = g.M.Merge.merged c.args.by.now in
    let left = (rw c.deref.ensures at c.deref-2.ensures.value) ∙ c.self.view_is in
    let right = (rw c.deref-3.ensures at c.deref-4.ensures.value) ∙ c.other.view_is in
    c.in_ok-share.ensures
    ∙ sym (ap (λ t. merged_from f c.args.from t c.args.other.now) (sym left) ∙ ap (λ t. merged_from f c.args.from c.deref-2.result.now t) (sym right) ∙ c.stay.ensures c.if-stay.true ∙ left)

pub returns-then-stay-clause-same : goal.returns-then-stay-clause-same
returns-then-stay-clause-same g c = λ e. c.in_ok-share.ensures

pub returns-clause-value : goal.returns-clause-value
returns-clause-value g c =
    let f = g.M.Merge.merged c.args.by.now in
    let left = (rw c.deref-5.ensures at c.deref-6.ensures.value) ∙ c.self.view_is in
    let right = (rw c.deref-7.ensures at c.deref-8.ensures.value) ∙ c.other.view_is in
    c.in_ok-made.ensures ∙ c.in_ok-items.ensures.value ∙ ap (λ t. merged_from f c.args.from t c.deref-8.result.now) left ∙ ap (λ t. merged_from f c.args.from c.args.self.now t) right

pub returns-clause-same : goal.returns-clause-same
returns-clause-same g c = λ e. absurd (never false refl e)
