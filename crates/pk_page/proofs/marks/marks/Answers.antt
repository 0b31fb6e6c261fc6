use Rattle.std.proofs.Common.{map}
use Rattle.std.proofs.lemmas.Result.{IfOk-weaker}
use Rattle.pk_page.proofs.TableLemmas.{are_marks}
use Rattle.pk_page.proofs.marks.marks.Goals as goal

pub returns : goal.returns
returns c =
    IfOk-weaker c.marked.result _ _
    (λ rows h. are_marks (map (λ line. line.now) c.args.lines.now) c.args.operations.now rows.items h) c.marked.ensures
