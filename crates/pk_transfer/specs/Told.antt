-- What a tree tells of its value: its type, what is known of it, and its linear form.
use Rattle.std.specs.Prelude.{ℕ, Option, option_map}
use Rattle.pk_ctypes.specs.declared.types.IntType.{IntType}
use Rattle.pk_ctypes.specs.declared.types.Op.{Op}
use Rattle.pk_ctypes.specs.declared.types.Op.TheVariants.{Add, Sub, Neg}
use Rattle.pk_ctypes.specs.Operators.{result_type}
use Rattle.pk_graph.specs.Trees.{TreeOf}
use Rattle.pk_graph.specs.Kinds.{type_of}
use Rattle.pk_value.specs.Known.{Known}
use Rattle.pk_value.specs.Values.{converted, operated}
use Rattle.pk_state.specs.Layouts.{Layout}
use Rattle.pk_transfer.specs.Trees.{known_with, tree_known, kinds_of}
use Rattle.pk_transfer.specs.Linear.{Linear, negative, sum, difference, both, where_known, where_both, is_inside, is_exact, if_negative, if_sum, linear}

pub record Told : Type 0 where
  pub int_type : IntType
  pub known : Option Known
  pub form : Option Linear

abbrev pub told : Layout → (ℕ → Option Known) → TreeOf ℕ → Told
told y g e = record { int_type = type_of (kinds_of y) e; known = tree_known g e; form = linear y.packs g e }

-- of a conversion and of operators, by what their operands tell
abbrev pub told_converted : IntType → Told → Told
told_converted t d =
    record {
      int_type = t;
      known = known_with d.known (converted t);
      form = where_known d.known (λ k. is_inside t k.range) d.form;
    }

abbrev pub told_unary : Op → IntType → Told → Told
told_unary op t d = record {
  int_type = result_type op t;
  known = known_with d.known (λ k. operated op t k k);
  form = if_negative op (where_known d.known (λ k. is_exact Neg t k k) (option_map negative d.form));
}

abbrev pub told_binary : Op → IntType → Told → Told → Told
told_binary op t a b = record {
  int_type = result_type op t;
  known = known_with a.known (λ j. known_with b.known (λ k. operated op t j k));
  form = if_sum op (where_both a.known b.known (is_exact Add t) (both sum a.form b.form))
      (where_both a.known b.known (is_exact Sub t) (both difference a.form b.form));
}
