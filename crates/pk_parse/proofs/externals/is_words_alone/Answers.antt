use Rattle.std.proofs.Common.{◌≡◌, true, false, None, option_map, not, sym, ap, ◌∙◌}
use Rattle.pk_ast.specs.Views.{brackets_tree, parameter_tree}
use Rattle.pk_parse.proofs.ParameterLemmas.{absent, none_there}
use Rattle.pk_parse.proofs.externals.is_words_alone.Goals as goal

pub returns-in-Some : goal.returns-in-Some
unfolding parameter_tree
returns-in-Some c = (
  λ t. let e : false ≡ true = t in absurd (cc),
  λ v. let e : option_map brackets_tree c.args.p.now.brackets ≡ None = v.1 in let f = sym (ap (option_map brackets_tree) c.in-Some.is) ∙ e in absurd (cc),
)

pub returns-in-None : goal.returns-in-None
unfolding parameter_tree
returns-in-None c = (
  λ t. (absent c.args.p.now.name (c.is_none.ensures ∙ ap not t), ap (option_map brackets_tree) c.in-None.is),
  λ v. none_there c.args.p.now.name _ c.is_none.ensures v.0,
)
