use Rattle.std.proofs.Common.{◌∙◌, ap, sym}
use Rattle.std.specs.Option.{is_some}
use Rattle.pk_ast.specs.Views.{dimensions_tree, declarator_tree}
use Rattle.pk_type_declaration.specs.Specials.{special}
use Rattle.pk_type.specs.Views.{filed_in}
use Rattle.pk_type.proofs.FileLemmas.{head_walked, is_some_map}
use Rattle.pk_type.proofs.files.File.head.Goals as goal

pub returns-clause-walked : goal.returns-clause-walked
unfolding declarator_tree
returns-clause-walked c =
    head_walked c.args.storage.now c.args.words (declarator_tree c.args.d.now) (filed_in c.args.self.now) _ _ _ _ _ _ _ _ _ _ _ _
    c.in_ok-length.ensures.walked (c.is_some-is_array.ensures ∙ sym (is_some_map dimensions_tree c.args.d.now.dimensions)) c.in_ok-length.ensures.length c.object_of-object.ensures c.in_ok-is_again.ensures.again c.in_ok-is_again.ensures.walked
    c.is_extern.ensures c.is_void.ensures (c.is_some-is_special.ensures ∙ (ap is_some c.special.ensures ∙ ap (λ q. is_some (special q)) c.spelling.ensures)) c.note_rows.ensures c.note_braces.ensures c.note_misfit.ensures
