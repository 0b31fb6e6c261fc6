-- What the values of the code stand for.
use Rattle.std.specs.Prelude.{ℕ, List, Option}
use Rattle.std.specs.HashMap.{get_by}
use Rattle.std.specs.Str.{bytes_eq}
use Rattle.pk_type_jump.specs.declared.labels.Label.{Label}
use Rattle.pk_type_jump.specs.declared.labels.Labels.{Labels}
use Rattle.pk_type_jump.specs.declared.jumps.Here.{Here}
use Rattle.pk_type_jump.specs.declared.jumps.Jumps.{Jumps}
use Rattle.pk_type_jump.specs.Jumps.{Around, Jumped}
use Rattle.pk_type_jump.specs.Labels.{Listed}

abbrev pub labels_in : Labels → List ℕ → Option Label
labels_in l q = get_by (λ k. bytes_eq q k.now) l.by_name

abbrev pub listed_in : Labels → Listed
listed_in l =
    record { labels = labels_in l; count = l.count; declarations = l.declarations; repeated = l.repeated.items }

abbrev pub around_of : List ℕ → Here → Around
around_of scopes h = record { scopes = scopes; here = h.scope; in_loop = h.in_loop; switch = h.switch }

abbrev pub jumped_in : Jumps → Jumped
jumped_in j =
    record {
      declarations = j.declarations;
      has_default = j.has_default;
      unknown = j.unknown.items;
      misplaced = j.misplaced.items;
    }
