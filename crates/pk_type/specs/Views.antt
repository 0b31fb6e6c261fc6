-- What the values of the code stand for.
use Rattle.std.specs.Prelude.{ℕ, Bool, List, Option, option_map, map}
use Rattle.std.specs.HashSet.{contains_by}
use Rattle.std.specs.Str.{bytes_eq}
use Rattle.pk_typed.specs.Views.{body_tree, file_object_tree}
use Rattle.pk_type_scope.specs.declared.failures.Failure.{Failure}
use Rattle.pk_type_declaration.specs.Views.{walked_in}
use Rattle.pk_type.specs.declared.defined.Defined as declared_defined
use Rattle.pk_type.specs.declared.files.Entry.{Entry}
use Rattle.pk_type.specs.declared.files.File as declared_file
use Rattle.pk_type.specs.declared.signatures.Signature.{Signature}
use Rattle.pk_type.specs.Files.{EntryTree, Filed}
use Rattle.pk_type.specs.Signatures.{SignatureTree}

abbrev pub signature_tree : Signature → SignatureTree
signature_tree s = record { returns = s.returns; parameters = s.parameters.items }

abbrev pub entry_tree : Entry → EntryTree
entry_tree e =
    record {
      name = e.name;
      signature = signature_tree e.signature;
      is_defined = e.is_defined;
      body = option_map body_tree e.body;
    }

abbrev pub filed_in : declared_file.File → Filed (Option Failure)
filed_in f =
    record {
      walked = walked_in f.to.walk;
      objects = map file_object_tree f.objects.items;
      functions = map entry_tree f.functions.items;
    }

abbrev pub defined_names : declared_defined.Defined → List ℕ → Bool
defined_names d q = contains_by (λ k. bytes_eq q k.now) d.names
