use Rattle.std.proofs.lemmas.Result.{IfOk-weaker}
use Rattle.std.proofs.Common.{map, string_bytes, ℕ, List, sym, subst, ◌∙◌}
use Rattle.pk_text_report.specs.Answers.{IsShort}
use Rattle.pk_top.specs.Headline.{IsUntold}
use Rattle.pk_text_report.proofs.Answering.{not_taken}
use Rattle.pk_top.proofs.Replies.{handed_on, if_err, told_so, textless_so, stopped_so, no_source}
use Rattle.pk_top.proofs.Truthful.{told_if_ok}
use Rattle.pk_top.proofs.top.make.Goals as goal

pub returns-in_err-text-clause-untold : goal.returns-in_err-text-clause-untold
returns-in_err-text-clause-untold g c = λ text about.
    handed_on (IsUntold (map string_bytes c.args.words.now) text) c.from_residual-in_err-text.result c.in_err-text.field-0.0 c.from_residual-in_err-text.ensures.1
    (textless_so (map string_bytes c.args.words.now) (g.S.Source.left c.args.src.now) c.in_ok-command.command c.in_err-text.field-0.0 c.in_ok-command.ensures.asked c.in_err-text.ensures.none text about)

pub returns-in_err-text-clause-refused : goal.returns-in_err-text-clause-refused
returns-in_err-text-clause-refused g c = λ refused. absurd (not_taken (map string_bytes c.args.words.now) c.in_ok-command.command c.in_ok-command.ensures.asked refused)

pub returns-in_err-text-clause-unread : goal.returns-in_err-text-clause-unread
returns-in_err-text-clause-unread g c = λ none. c.in_err-text.ensures.unread (no_source (map string_bytes c.args.words.now) c.in_ok-command.command c.in_ok-command.ensures.asked none)

pub returns-clause-made : goal.returns-clause-made
returns-clause-made g c = λ text about.
    IfOk-weaker c.told.result _ _ (λ made told. told_so (map string_bytes c.args.words.now) (g.S.Source.left c.args.src.now) c.in_ok-command.command c.deref.result.now made.1 made.0.items c.in_ok-command.ensures.asked
    (λ t e. c.deref.ensures.value ∙ c.in_ok-text.ensures.text t e) (subst (λ (bytes : List ℕ). IsShort bytes c.in_ok-command.command) (sym c.deref.ensures.value) c.in_ok-text.ensures.short) told text about) c.told.ensures.told

pub returns-clause-untold : goal.returns-clause-untold
returns-clause-untold g c = λ text about.
    if_err c.told.result (λ s stopped. stopped_so (map string_bytes c.args.words.now) (g.S.Source.left c.args.src.now) c.in_ok-command.command c.deref.result.now s c.in_ok-command.ensures.asked
    (λ t e. c.deref.ensures.value ∙ c.in_ok-text.ensures.text t e) (subst (λ (bytes : List ℕ). IsShort bytes c.in_ok-command.command) (sym c.deref.ensures.value) c.in_ok-text.ensures.short) stopped text about) c.told.ensures.stopped

pub returns-clause-refused : goal.returns-clause-refused
returns-clause-refused g c = λ refused. absurd (not_taken (map string_bytes c.args.words.now) c.in_ok-command.command c.in_ok-command.ensures.asked refused)

pub returns-clause-unread : goal.returns-clause-unread
returns-clause-unread g c = λ none. c.in_ok-text.ensures.unread (no_source (map string_bytes c.args.words.now) c.in_ok-command.command c.in_ok-command.ensures.asked none)

pub returns-clause-range : goal.returns-clause-range
returns-clause-range g c = told_if_ok c.told.result (c.in_ok-command.command, c.in_ok-command.ensures.asked, c.in_ok-command.ensures.range)
