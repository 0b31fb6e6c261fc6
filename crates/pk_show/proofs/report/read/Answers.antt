use Rattle.std.proofs.Common.{take, map, ap, sym, ◌∙◌}
use Rattle.std.proofs.lemmas.List.{take-map, length-map}
use Rattle.pk_show.proofs.ReportLemmas.{refused_behind}
use Rattle.pk_show.proofs.report.read.Goals as goal

pub returns-clause-refused : goal.returns-clause-refused
returns-clause-refused c =
    let items = c.in_ok-pieces.pieces.items in
    let ended = c.split_at.result.0.now in
    let n = c.ended_count.result in
    let pieces = map (λ line. line.now) items in
    let told = refused_behind c.args.text.now pieces (map (λ line. line.now) ended) c.behind.result.now n c.in_ok-rows.rows.items
    c.in_ok-pieces.ensures
    (rw c.deref-2.ensures.value at c.ended_count.ensures.value)
    (ap (map (λ line. line.now)) (c.split_at.ensures.front ∙ ap (take n) c.deref.ensures.value) ∙ sym (take-map (λ line. line.now) n items))
    (length-map ended (λ line. line.now) ∙ c.split_at.ensures.front_len)
    c.in_ok-rows.ensures.rows
    (rw c.deref-3.ensures.value at c.behind.ensures)
    (sym c.is_same.ensures ∙ c.if-is_same.false) in
    (told.0, c.split_at.ensures.front_len ∙ told.1)
