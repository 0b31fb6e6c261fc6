-- What one more option and one more command make of a command.
use Rattle.std.proofs.Common.{◌≡◌, ◌∙◌, ◌||◌, ap, subst, Bool, Result, Ok, Err, IfOk}
use Rattle.clap.specs.Words.{App, AddsArg, AddsSubcommand, Rule, rule_of, shape_of, with_rule, with_subcommand}
use Rattle.clap.specs.declared.builder.arg.Arg.{Arg}
use Rattle.clap.specs.declared.builder.command.Command.{Command}
use Rattle.clap.specs.declared.builder.command.Command.TheViews.{out-Command as fields_of}
use Rattle.pk_command.specs.CommandLine.{IsCommand, IsOption}

pub ok_is : {A E : Type 0} (P : A → Type 0) (r : Result A E) (a : A) → r ≡ Ok a → IfOk r P → P a
ok_is P (Ok b) a e h = let same : b ≡ a = cc in subst P same h
ok_is P (Err x) a e h = cc

pub added : (old new : Command) (o : Arg) (app : App) (rule : Rule) → IsCommand app old → IsOption rule o → AddsArg old o new → IsCommand (with_rule app rule) new
added old new o app rule command option adds = record {
  is = adds.shape option.local ∙ (ap (λ (a : App). with_rule a (rule_of o)) command.is ∙ ap (with_rule app) option.is);
  local = adds.globals ∙ (ap (λ (b : Bool). b || o.global) command.local ∙ option.local);
}

pub behind : (old sub new : Command) (app other : App) → IsCommand app old → IsCommand other sub → AddsSubcommand old sub new → IsCommand (with_subcommand app other.top) new
behind old sub new app other command further adds = record {
  is = adds.shape further.local ∙ (ap (λ (a : App). with_subcommand a (shape_of sub)) command.is ∙ ap (λ (a : App). with_subcommand app a.top) further.is);
  local = adds.globals ∙ (ap (λ (b : Bool). b || (fields_of sub).has_globals) command.local ∙ further.local);
}
