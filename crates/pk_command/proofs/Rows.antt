-- The rows of words without a fault: each value passes the parser of its argument.
use Rattle.std.proofs.Common.{◌≡◌, ◌∙◌, ◌&&◌, ◌||◌, ◌++◌, refl, sym, ap, subst, ℕ, zero, suc, Bool, true, false, cond, List, [], ◌∷◌, Option, Some, None, length, arith, ◌+◌, if◌then◌else◌, is_some}
use Rattle.std.specs.Prelude.{find, fold, min, slice_get, drop, encode_utf8, nat_lt, not}
use Rattle.std.specs.Option.{option_map_or}
use Rattle.std.specs.Str.{bytes_eq, chars}
use Rattle.std.proofs.lemmas.Slice.Eq.{bytes_eq-Decides}
use Rattle.clap.specs.Lexer.{long_of, short_of}
use Rattle.clap.specs.Matches.{count_text}
use Rattle.clap.specs.Facts.{parser_of_value, unwrap_or_range}
use Rattle.clap.specs.Kinds.{Kinds, or_else, request_kinds, value_kinds, values_kinds, range_kinds}
use Rattle.clap.specs.Walk.{Held, Names, Outcome, done, waits, plain, refused, Row, Rule, Step, next, trailing, subcommand, value, Text, Waiting, idle, option, positional, Walk, action_of, after_flag, after_step, arg_by_id, arg_by_index, arg_by_long, arg_by_short, at_row, attached_value, bundle, bundle_met, bundle_step, count_of, counted, default_rows, finished, flag_met, has_row, is_empty, is_pending, long_met, long_or_other, more_values, most_values, new_count, nothing_held, option_met, option_word, plain_word, reacted, reading_by, rows_after, settled, settled_rows, short_met, short_or_plain, subcommand_met, subcommand_or_other, takes_several, takes_values, to_positional, used, used_as, used_by_id, values_or_missing, walk, walk_from, walked, walked_from, with_count, with_default, with_values, without, word_met}
use Rattle.clap.specs.Simple.{Shape}
use Rattle.clap.specs.Faults.{action_fault, bundle_fault, bundle_step_fault, check_fault, flag_word_fault, count_fault, default_fault, defaults_fault, flags_fault, given_default_fault, level_fault, long_fault, option_fault, other_fault, positional_fault, react_fault, repeat_fault, settle_fault, short_fault, step_fault, stray_fault, turn_fault, use_fault, values_fault, walk_fault, word_fault}
use Rattle.clap.specs.declared.builder.action.ArgAction.{ArgAction}
use Rattle.clap.specs.declared.builder.action.ArgAction.TheVariants.{Set, Append, SetTrue, SetFalse, Count, Help, HelpShort, HelpLong, Version}
use Rattle.clap.specs.declared.parser.matches.ValueSource.{ValueSource}
use Rattle.clap.specs.declared.parser.matches.ValueSource.TheVariants.{CommandLine, DefaultValue}
use Rattle.clap.specs.declared.builder.value_parser.ValueParser.{ValueParser}
use Rattle.clap.specs.declared.error.kind.ErrorKind.TheVariants as kind

-- ---- lists

abbrev pub Each : {X : Type 0} → (X → Type 0) → List X → Type 0
Each P [] = Unit {0}
Each P (x ∷ xs) = P x × Each P xs

each_append : {X : Type 0} (P : X → Type 0) (xs ys : List X) → Each P xs → Each P ys → Each P (xs ++ ys)
each_append P [] ys a b = b
each_append P (x ∷ xs) ys a b = (a.0, each_append P xs ys a.1 b)

some_same : {X : Type 0} (x y : X) → Some x ≡ Some y → x ≡ y
some_same x y e = cc

found_head : {X : Type 0} (P : X → Type 0) (test : X → Bool) (y x : X) (rest : Option X) (b : Bool) → test y ≡ b → P y → (rest ≡ Some x → P x × (test x ≡ true))
    → cond b (Some y) rest ≡ Some x → P x × (test x ≡ true)
found_head P test y x rest true is head tail e = let same = some_same y x e in (subst P same head, subst (λ z. test z ≡ true) same is)
found_head P test y x rest false is head tail e = tail e

none_some : {X : Type 0} (x : X) → None ≡ Some x → ⊥
none_some x e = cc

-- what a search finds is one of the list
pub each_found : {X : Type 0} (P : X → Type 0) (test : X → Bool) (xs : List X) (x : X) → Each P xs → find test xs ≡ Some x → P x × (test x ≡ true)
each_found P test [] x each found = absurd (none_some x found)
each_found P test (y ∷ ys) x each found = found_head P test y x (find test ys) (test y) refl each.0 (each_found P test ys x each.1) found

cons_empty : {X : Type 0} (x : X) (xs : List X) → x ∷ xs ≡ [] → ⊥
cons_empty x xs e = cc

first_empty : (a b : Kinds) → or_else a b ≡ [] → a ≡ []
first_empty [] b e = refl
first_empty (k ∷ ks) b e = e

second_empty : (a b : Kinds) → or_else a b ≡ [] → b ≡ []
second_empty [] b e = e
second_empty (k ∷ ks) b e = absurd (cons_empty k ks e)

values_append : (ignore_case : Bool) (parser : ValueParser) (xs ys : List Text) → values_kinds ignore_case parser xs ≡ [] → values_kinds ignore_case parser ys ≡ []
    → values_kinds ignore_case parser (xs ++ ys) ≡ []
values_append ignore_case parser [] ys a b = b
values_append ignore_case parser (x ∷ xs) ys a b =
    let head = first_empty (value_kinds ignore_case parser x) (values_kinds ignore_case parser xs) a in
    let rest = values_append ignore_case parser xs ys (second_empty (value_kinds ignore_case parser x) (values_kinds ignore_case parser xs) a) b in
    rw (head, rest) refl

-- ---- rows

-- each use of the argument has a value, or values that stand for none
abbrev pub has_value : Rule → Bool
has_value a = nat_lt 0 (unwrap_or_range a.range).start_inclusive || not (is_empty a.missing)

-- the argument is the first of its id, and each use of it has a value
abbrev pub IsFirst : List Rule → Rule → Type 0
IsFirst c a = (arg_by_id c a.id ≡ Some a) × (has_value a ≡ true)

-- each argument is the first of its id, and each use of it has a value
abbrev pub IsKeyed : List Rule → Type 0
IsKeyed c = Each (IsFirst c) c

-- the row has values, which pass the parser of its argument, and are read as that says
abbrev pub Passes : List Rule → Row → Type 0
Passes c r = (is_empty r.values ≡ false) × ((a : Rule) → arg_by_id c r.id ≡ Some a → (values_fault a r.values ≡ []) × (r.reading ≡ reading_by a))

-- there are values, and they pass the parser of the argument
abbrev Pass : Rule → List Text → Type 0
Pass a values = (is_empty values ≡ false) × (values_fault a values ≡ [])

cons_some : (v : Text) (vs : List Text) → is_empty (v ∷ vs) ≡ false
cons_some v vs = grind arith

append_some : (xs ys : List Text) → is_empty xs ≡ false → is_empty (xs ++ ys) ≡ false
append_some [] ys some = cc
append_some (x ∷ xs) ys some = cons_some x (xs ++ ys)

has_missing : (positive none : Bool) (rest : Kinds) → (positive || not none) ≡ true → cond (positive && true) (kind.InvalidValue ∷ []) rest ≡ [] → none ≡ false
has_missing true none rest has range = absurd (cons_empty _ _ range)
has_missing false true rest has range = cc
has_missing false false rest has range = refl

-- the values of a use, or those that stand for none
used_some : (a : Rule) (values : List Text) → has_value a ≡ true → range_kinds (unwrap_or_range a.range).start_inclusive (most_values a) (length values) ≡ []
    → is_empty (values_or_missing a values) ≡ false
used_some a (v ∷ vs) has range = cons_some v vs
used_some a [] has range = has_missing (nat_lt 0 (unwrap_or_range a.range).start_inclusive) (is_empty a.missing) _ has range

at_head : (P : Row → Type 0) (id : Text) (change : Row → List Row) (missing : List Row) (r : Row) (rs : List Row) (b : Bool) → bytes_eq r.id id ≡ b
    → P r → Each P rs → (r.id ≡ id → P r → Each P (change r)) → Each P (at_row id change missing rs)
    → Each P (cond b (change r ++ rs) (r ∷ at_row id change missing rs))
at_head P id change missing r rs true is pass each changed rest = each_append P (change r) rs (changed ((bytes_eq-Decides r.id id).0 is) pass) each
at_head P id change missing r rs false is pass each changed rest = (pass, rest)

each_at_row : (P : Row → Type 0) (id : Text) (change : Row → List Row) (missing rows : List Row) → Each P rows
    → ((r : Row) → r.id ≡ id → P r → Each P (change r)) → Each P missing → Each P (at_row id change missing rows)
each_at_row P id change missing [] each changed other = other
each_at_row P id change missing (r ∷ rs) each changed other =
    at_head P id change missing r rs (bytes_eq r.id id) refl each.0 each.1 (changed r) (each_at_row P id change missing rs each.1 changed other)

each_without : (P : Row → Type 0) (id : Text) (rows : List Row) → Each P rows → Each P (without id rows)
each_without P id rows each = each_at_row P id (λ r. []) [] rows each (λ r is pass. tt) tt

module _ (c : List Rule) where
  -- values that pass may be added to a row
  grown : (a : Rule) (values : List Text) (r : Row) → IsFirst c a → Pass a values → r.id ≡ a.id → Passes c r
      → (is_empty (r.values ++ values) ≡ false) × ((b : Rule) → arg_by_id c r.id ≡ Some b → (values_fault b (r.values ++ values) ≡ []) × (r.reading ≡ reading_by b))
  grown a values r first pass is old = (
    append_some r.values values old.0,
    λ b found.
        let same : a ≡ b = some_same a b (sym first.0 ∙ ap (arg_by_id c) (sym is) ∙ found) in
        let before = old.1 b found in
        (values_append b.ignore_case (parser_of_value b.parser) r.values values before.0 (subst (λ (x : Rule). values_fault x values ≡ []) same pass.1), before.1),
  )

  fresh : (a : Rule) (values : List Text) → IsFirst c a → Pass a values
      → (is_empty values ≡ false) × ((b : Rule) → arg_by_id c a.id ≡ Some b → (values_fault b values ≡ []) × (reading_by a ≡ reading_by b))
  fresh a values first pass = (
    pass.0,
    λ b found.
        let same : a ≡ b = some_same a b (sym first.0 ∙ found) in
        (subst (λ (x : Rule). values_fault x values ≡ []) same pass.1, ap reading_by same),
  )

  each_with_values : (a : Rule) (source : ValueSource) (values : List Text) (rows : List Row) → IsFirst c a → Pass a values → Each (Passes c) rows
      → Each (Passes c) (with_values a.id (reading_by a) source values rows)
  each_with_values a source values rows first pass each =
      each_at_row (Passes c) a.id (more_values source values) _ rows each (λ r is old. (grown a values r first pass is old, tt)) (fresh a values first pass, tt)

  each_with_count : (a : Rule) (source : ValueSource) (n : ℕ) (rows : List Row) → IsFirst c a → values_fault a (count_text n ∷ []) ≡ [] → Each (Passes c) rows
      → Each (Passes c) (with_count a.id (reading_by a) source n rows)
  each_with_count a source n rows first pass each =
      let some = cons_some (count_text n) [] in
      each_at_row (Passes c) a.id (new_count source n) _ rows each (λ r is old. (grown a (count_text n ∷ []) r first (some, pass) is old, tt)) (fresh a (count_text n ∷ []) first (some, pass), tt)

  -- ---- one use of an argument

  each_set : (again : Bool) (a : Rule) (values : List Text) (rows : List Row) → IsFirst c a → is_empty values ≡ false
      → or_else (repeat_fault again a.id rows) (values_fault a values) ≡ [] → Each (Passes c) rows
      → Each (Passes c) (with_values a.id (reading_by a) CommandLine values (without a.id rows))
  each_set again a values rows first some pass each =
      each_with_values a CommandLine values (without a.id rows) first (some, second_empty (repeat_fault again a.id rows) (values_fault a values) pass) (each_without (Passes c) a.id rows each)

  each_counted : (a : Rule) (values : List Text) (rows : List Row) → IsFirst c a → count_fault a values rows ≡ [] → Each (Passes c) rows
      → Each (Passes c) (counted a.id (reading_by a) values rows)
  each_counted a [] rows first pass each =
      each_with_count a CommandLine (min (count_of a.id rows + 1) 255) (without a.id rows) first (rw pass refl) (each_without (Passes c) a.id rows each)
  each_counted a (v ∷ vs) rows first pass each =
      each_with_values a CommandLine (v ∷ vs) (without a.id rows) first (cons_some v vs, pass) (each_without (Passes c) a.id rows each)

  each_used_as : (x : ArgAction) (again : Bool) (a : Rule) (values : List Text) (rows : List Row) → IsFirst c a → is_empty values ≡ false → action_fault x again a values rows ≡ [] → Each (Passes c) rows
      → Each (Passes c) (used_as x a.id (reading_by a) values rows)
  each_used_as Set again a values rows first some pass each = each_set again a values rows first some pass each
  each_used_as SetTrue again a values rows first some pass each = each_set again a values rows first some pass each
  each_used_as SetFalse again a values rows first some pass each = each_set again a values rows first some pass each
  each_used_as Append again a values rows first some pass each = each_with_values a CommandLine values rows first (some, pass) each
  each_used_as Count again a values rows first some pass each = each_counted a values rows first pass each
  each_used_as Help again a values rows first some pass each = each
  each_used_as HelpShort again a values rows first some pass each = each
  each_used_as HelpLong again a values rows first some pass each = each
  each_used_as Version again a values rows first some pass each = each

  each_used : (again : Bool) (a : Rule) (values : List Text) (rows : List Row) → IsFirst c a → use_fault again a values rows ≡ [] → Each (Passes c) rows
      → Each (Passes c) (used a values rows)
  each_used again a values rows first pass each =
      let range = range_kinds (unwrap_or_range a.range).start_inclusive (most_values a) (length values) in
      let action = action_fault (action_of a) again a (values_or_missing a values) rows in
      each_used_as (action_of a) again a (values_or_missing a values) rows first (used_some a values first.1 (first_empty range action pass)) (second_empty range action pass) each

  -- ---- the walk

  each_used_by_id : (again : Bool) (found : Option Rule) (values : List Text) (rows : List Row) → ((a : Rule) → found ≡ Some a → IsFirst c a)
      → option_map_or (λ a. use_fault again a values rows) found [] ≡ [] → Each (Passes c) rows → Each (Passes c) (used_by_id found values rows)
  each_used_by_id again None values rows first pass each = each
  each_used_by_id again (Some a) values rows first pass each = each_used again a values rows (first a refl) pass each

  module _ (keyed : IsKeyed c) where
    by_id : (id : Text) (a : Rule) → arg_by_id c id ≡ Some a → IsFirst c a
    by_id id a found = (each_found (IsFirst c) _ c a keyed found).0

    by_long : (name : Text) (a : Rule) → arg_by_long c name ≡ Some a → IsFirst c a
    by_long name a found = (each_found (IsFirst c) _ c a keyed found).0

    by_short : (x : ℕ) (a : Rule) → arg_by_short c x ≡ Some a → IsFirst c a
    by_short x a found = (each_found (IsFirst c) _ c a keyed found).0

    each_settled_rows : (again : Bool) (pending : Option (Text × List Text)) (rows : List Row)
        → option_map_or (λ p. option_map_or (λ a. use_fault again a p.1 rows) (arg_by_id c p.0) []) pending [] ≡ [] → Each (Passes c) rows
        → Each (Passes c) (settled_rows c pending rows)
    each_settled_rows again None rows pass each = each
    each_settled_rows again (Some p) rows pass each = each_used_by_id again (arg_by_id c p.0) p.1 rows (by_id p.0) pass each

    each_settled : (again : Bool) (h : Held) → settle_fault c again h ≡ [] → Each (Passes c) h.rows → Each (Passes c) (settled c h).rows
    each_settled again h pass each = each_settled_rows again h.pending h.rows pass each

    each_reacted : (again : Bool) (a : Rule) (values : List Text) (h : Held) → IsFirst c a → react_fault c again a values h ≡ [] → Each (Passes c) h.rows
        → Each (Passes c) (reacted c a values h).rows
    each_reacted again a values h first pass each =
        let one = first_empty (settle_fault c again h) (use_fault again a values (settled c h).rows) pass in
        let two = second_empty (settle_fault c again h) (use_fault again a values (settled c h).rows) pass in
        each_used again a values (settled c h).rows first two (each_settled again h one each)

    each_option : (again : Bool) (a : Rule) (v : Option Text) (h : Held) → IsFirst c a → option_fault c again a v h ≡ [] → Each (Passes c) h.rows
        → Each (Passes c) (option_met c a v h).0.rows
    each_option again a (Some v) h first pass each = each_reacted again a (v ∷ []) h first pass each
    each_option again a None h first pass each = each_settled again h pass each

    each_flag : (again : Bool) (a : Rule) (v : Option Text) (h : Held) → IsFirst c a → (if is_some v then kind.TooManyValues ∷ [] else react_fault c again a [] h) ≡ [] → Each (Passes c) h.rows
        → Each (Passes c) (flag_met c a v h).0.rows
    each_flag again a (Some v) h first pass each = each
    each_flag again a None h first pass each = each_reacted again a [] h first pass each

    each_long_taken : (again takes : Bool) (a : Rule) (v : Option Text) (h : Held) → IsFirst c a
        → cond takes (option_fault c again a v h) (if is_some v then kind.TooManyValues ∷ [] else react_fault c again a [] h) ≡ [] → Each (Passes c) h.rows
        → Each (Passes c) (cond takes (option_met c a v h) (flag_met c a v h)).0.rows
    each_long_taken again true a v h first pass each = each_option again a v h first pass each
    each_long_taken again false a v h first pass each = each_flag again a v h first pass each

    each_long : (again : Bool) (found : Option Rule) (v : Option Text) (h : Held) → ((a : Rule) → found ≡ Some a → IsFirst c a)
        → long_fault c again found v h ≡ [] → Each (Passes c) h.rows → Each (Passes c) (long_met c found v h).0.rows
    each_long again None v h first pass each = each
    each_long again (Some a) v h first pass each = each_long_taken again (takes_values a) a v h (first a refl) pass each

    each_short_taken : (again takes : Bool) (a : Rule) (rest : Text) (h : Held) (go : Held → Held × Outcome) (ask : Held → Kinds) → IsFirst c a
        → ((g : Held) → ask g ≡ [] → Each (Passes c) g.rows → Each (Passes c) (go g).0.rows)
        → cond takes (option_fault c again a (attached_value rest) h) (or_else (react_fault c again a [] h) (ask (reacted c a [] h))) ≡ [] → Each (Passes c) h.rows
        → Each (Passes c) (cond takes (option_met c a (attached_value rest) h) (go (reacted c a [] h))).0.rows
    each_short_taken again true a rest h go ask first later pass each = each_option again a (attached_value rest) h first pass each
    each_short_taken again false a rest h go ask first later pass each =
        let one = first_empty (react_fault c again a [] h) (ask (reacted c a [] h)) pass in
        let two = second_empty (react_fault c again a [] h) (ask (reacted c a [] h)) pass in
        later (reacted c a [] h) two (each_reacted again a [] h first one each)

    each_short : (again : Bool) (found : Option Rule) (rest : Text) (h : Held) (go : Held → Held × Outcome) (ask : Held → Kinds) → ((a : Rule) → found ≡ Some a → IsFirst c a)
        → ((g : Held) → ask g ≡ [] → Each (Passes c) g.rows → Each (Passes c) (go g).0.rows)
        → short_fault c again found rest h ask ≡ [] → Each (Passes c) h.rows → Each (Passes c) (short_met c found rest h go).0.rows
    each_short again None rest h go ask first later pass each = each
    each_short again (Some a) rest h go ask first later pass each = each_short_taken again (takes_values a) a rest h go ask (first a refl) later pass each

    each_bundle_step : (again : Bool) (char : Option ℕ) (flags : Text) (skip : ℕ) (so_far : Outcome) (h : Held)
        (go : Text → ℕ → Outcome → Held → Held × Outcome) (ask : Text → ℕ → Held → Kinds)
        → ((f : Text) (s : ℕ) (o : Outcome) (g : Held) → ask f s g ≡ [] → Each (Passes c) g.rows → Each (Passes c) (go f s o g).0.rows)
        → bundle_step_fault c again char flags skip h ask ≡ [] → Each (Passes c) h.rows → Each (Passes c) (bundle_step c char flags skip so_far h go).0.rows
    each_bundle_step again None flags skip so_far h go ask later pass each = each
    each_bundle_step again (Some x) flags zero so_far h go ask later pass each =
        let rest = drop (length (encode_utf8 x)) flags in
        each_short again (arg_by_short c x) rest h (go rest 0 done) (ask rest 0) (by_short x) (later rest 0 done) pass each
    each_bundle_step again (Some x) flags (suc skip) so_far h go ask later pass each = later (drop (length (encode_utf8 x)) flags) skip so_far h pass each

    each_bundle : (again : Bool) (k : ℕ) (flags : Text) (skip : ℕ) (so_far : Outcome) (h : Held) → flags_fault c again k flags skip h ≡ [] → Each (Passes c) h.rows
        → Each (Passes c) (bundle_met c k flags skip so_far h).0.rows
    unfolding flags_fault bundle_met
    each_bundle again zero flags skip so_far h pass each = each
    each_bundle again (suc k) flags skip so_far h pass each =
        each_bundle_step again (slice_get (chars flags) 0) flags skip so_far h (bundle_met c k) (flags_fault c again k) (each_bundle again k) pass each

    -- a word that is no flag changes no row
    each_option_word : (found : Option Rule) (id word : Text) (h : Held) → Each (Passes c) h.rows → Each (Passes c) (option_word found id word h).0.rows
    each_option_word None id word h each = each
    each_option_word (Some a) id word h each = each

    each_plain : (waiting : Waiting) (word : Text) (h : Held) → Each (Passes c) h.rows → Each (Passes c) (plain_word c waiting word h).0.rows
    each_plain idle word h each = each
    each_plain positional word h each = each
    each_plain (option id) word h each = each_option_word (arg_by_id c id) id word h each

    each_after : (o : Outcome) (waiting : Waiting) (word : Text) (h : Held) → Each (Passes c) h.rows → Each (Passes c) (after_flag c waiting word h o).0.rows
    each_after done waiting word h each = each
    each_after (waits id) waiting word h each = each
    each_after plain waiting word h each = each_plain waiting word h each
    each_after refused waiting word h each = each_plain waiting word h each

    each_short_or_plain : (again : Bool) (flags : Option Text) (waiting : Waiting) (word : Text) (h : Held)
        → option_map_or (λ f. bundle_fault c again f h) flags [] ≡ [] → Each (Passes c) h.rows → Each (Passes c) (short_or_plain c waiting word flags h).0.rows
    each_short_or_plain again (Some flags) waiting word h pass each =
        each_after (bundle c flags h).1 waiting word (bundle c flags h).0 (each_bundle again (length flags) flags h.skip plain (record h { skip = 0 }) pass each)
    each_short_or_plain again None waiting word h pass each = each_plain waiting word h each

    each_long_or_other : (again : Bool) (p : Option (Text × Option Text)) (waiting : Waiting) (word : Text) (h : Held)
        → flag_word_fault c again p word h ≡ [] → Each (Passes c) h.rows → Each (Passes c) (long_or_other c waiting word p h).0.rows
    each_long_or_other again (Some p) waiting word h pass each =
        let met = long_met c (arg_by_long c p.0) p.1 h in
        each_after met.1 waiting word met.0 (each_long again (arg_by_long c p.0) p.1 h (by_long p.0) pass each)
    each_long_or_other again None waiting word h pass each = each_short_or_plain again (short_of word) waiting word h pass each

    each_dashes : (again is : Bool) (waiting : Waiting) (position : ℕ) (word : Text) (h : Held)
        → cond is [] (flag_word_fault c again (long_of word) word h) ≡ [] → Each (Passes c) h.rows
        → Each (Passes c) (cond is (h, trailing position) (long_or_other c waiting word (long_of word) h)).0.rows
    each_dashes again true waiting position word h pass each = each
    each_dashes again false waiting position word h pass each = each_long_or_other again (long_of word) waiting word h pass each

    each_met : (again : Bool) (met : Option Text) (s : Shape) → s.rules ≡ c → s.args_override_self ≡ again → (waiting : Waiting) (position : ℕ) (word : Text) (h : Held)
        → other_fault s met word h ≡ [] → Each (Passes c) h.rows → Each (Passes c) (subcommand_or_other c met waiting position word h).0.rows
    each_met again (Some name) s rules override waiting position word h pass each = each
    each_met again None s rules override waiting position word h pass each =
        each_dashes again (bytes_eq word (45 ∷ 45 ∷ [])) waiting position word h (rw (rules, override) at pass) each

    each_word : (s : Shape) → s.rules ≡ c → (names : Names) (is_trailing : Bool) (waiting : Waiting) (position : ℕ) (word : Text) (h : Held)
        → word_fault s names is_trailing waiting word h ≡ [] → Each (Passes c) h.rows → Each (Passes c) (word_met c names is_trailing waiting position word h).0.rows
    each_word s rules names true waiting position word h pass each = each
    each_word s rules names false waiting position word h pass each =
        each_met s.args_override_self (subcommand_met names waiting word) s rules refl waiting position word h pass each

    each_positional_held : (again plainly : Bool) (a : Rule) (word : Text) (h : Held) → cond plainly [] (settle_fault c again h) ≡ [] → Each (Passes c) h.rows
        → Each (Passes c) (cond plainly h (settled c h)).rows
    each_positional_held again true a word h pass each = each
    each_positional_held again false a word h pass each = each_settled again h pass each

    each_to_positional : (again : Bool) (found : Option Rule) (word : Text) (w : Walk) (h : Held) → ((a : Rule) → found ≡ Some a → positional_fault c again a h ≡ [])
        → Each (Passes c) h.rows → Each (Passes c) (to_positional c found word w h).held.rows
    each_to_positional again None word w h pass each = each
    each_to_positional again (Some a) word w h pass each =
        each_positional_held again (is_pending a h.pending && takes_several a) a word h (pass a refl) each

option_at : (f : Rule → Kinds) (found : Option Rule) (other : Kinds) (a : Rule) → found ≡ Some a → option_map_or f found other ≡ [] → f a ≡ []
option_at f None other a is pass = absurd (none_some a is)
option_at f (Some b) other a is pass = let same = some_same b a is in subst (λ (x : Rule). f x ≡ []) same pass

module _ (s : Shape) (names : Names) (keyed : IsKeyed s.rules) where
  each_step : (step : Step) (word : Text) (w : Walk) (h : Held) → step_fault s w.position h step ≡ [] → Each (Passes s.rules) h.rows
      → Each (Passes s.rules) (after_step s.rules word w h step).held.rows
  each_step (next waiting) word w h pass each = each
  each_step (trailing position) word w h pass each = each
  each_step (subcommand name) word w h pass each = each
  each_step value word w h pass each =
      each_to_positional s.rules keyed s.args_override_self (arg_by_index s.rules w.position) word w h
      (λ a is. option_at (λ a. positional_fault s.rules s.args_override_self a h) (arg_by_index s.rules w.position) (stray_fault s) a is pass) each

  each_turn : (stopped : Option (Text × List Text)) (w : Walk) (word : Text)
      → (let met = word_met s.rules names w.is_trailing w.waiting w.position word w.held in
      cond (is_some stopped) [] (or_else (word_fault s names w.is_trailing w.waiting word w.held) (step_fault s w.position met.0 met.1))) ≡ []
      → Each (Passes s.rules) w.held.rows → Each (Passes s.rules) (walked_from s.rules names stopped w word).held.rows
  each_turn (Some p) w word pass each = each
  each_turn None w word pass each =
      let met = word_met s.rules names w.is_trailing w.waiting w.position word w.held in
      let one = first_empty (word_fault s names w.is_trailing w.waiting word w.held) (step_fault s w.position met.0 met.1) pass in
      let two = second_empty (word_fault s names w.is_trailing w.waiting word w.held) (step_fault s w.position met.0 met.1) pass in
      each_step met.1 word w met.0 two (each_word s.rules keyed s refl names w.is_trailing w.waiting w.position word w.held one each)

  each_walk : (words : List Text) (w : Walk) → walk_fault s names w words ≡ [] → Each (Passes s.rules) w.held.rows
      → Each (Passes s.rules) (fold (walked s.rules names) w words).held.rows
  unfolding walk_fault walked
  each_walk [] w pass each = each
  each_walk (word ∷ words) w pass each =
      let one = first_empty (turn_fault s names w word) (walk_fault s names (walked s.rules names w word) words) pass in
      let two = second_empty (turn_fault s names w word) (walk_fault s names (walked s.rules names w word) words) pass in
      each_walk words (walked s.rules names w word) two (each_turn w.stopped w word one each)

-- ---- defaults

each_default_rows : (c : List Rule) (a : Rule) (values : List Text) (rows : List Row) → IsFirst c a → values_fault a values ≡ [] → Each (Passes c) rows
    → Each (Passes c) (default_rows a.id (reading_by a) values rows)
each_default_rows c a [] rows first pass each = each
each_default_rows c a (v ∷ vs) rows first pass each = each_with_values c a DefaultValue (v ∷ vs) rows first (cons_some v vs, pass) each

each_default_given : (c : List Rule) (a : Rule) (values : List Text) (rows : List Row) → IsFirst c a → cond (is_empty values) [] (given_default_fault a values) ≡ [] → Each (Passes c) rows
    → Each (Passes c) (default_rows a.id (reading_by a) values rows)
each_default_given c a [] rows first pass each = each
each_default_given c a (v ∷ vs) rows first pass each =
    each_default_rows c a (v ∷ vs) rows first (second_empty (request_kinds (action_of a)) (values_fault a (v ∷ vs)) (rw (cons_some v vs) at pass)) each

each_with_default : (c : List Rule) (a : Rule) (rows : List Row) (has : Bool) → IsFirst c a → cond (has || is_empty a.defaults) [] (given_default_fault a a.defaults) ≡ [] → Each (Passes c) rows
    → Each (Passes c) (cond has rows (default_rows a.id (reading_by a) a.defaults rows))
each_with_default c a rows true first pass each = each
each_with_default c a rows false first pass each = each_default_given c a a.defaults rows first pass each

each_finished : (c rest : List Rule) (rows : List Row) → Each (IsFirst c) rest → defaults_fault rows rest ≡ [] → Each (Passes c) rows
    → Each (Passes c) (fold with_default rows rest)
unfolding defaults_fault
each_finished c [] rows first pass each = each
each_finished c (a ∷ rest) rows first pass each =
    let one = first_empty (default_fault rows a) (defaults_fault (with_default rows a) rest) pass in
    let two = second_empty (default_fault rows a) (defaults_fault (with_default rows a) rest) pass in
    each_finished c rest (with_default rows a) first.1 two (each_with_default c a rows (has_row a.id rows) first.0 one each)

-- ---- a whole level

-- where a level fails nowhere, neither does the level below, and a subcommand was entered if one is required
pub below_passes : (s : Shape) (names : Names) (h : Held) (words : List Text) (has : Bool) (below : Kinds) → level_fault s names h words has below ≡ [] → below ≡ []
below_passes s names h words has below pass =
    let end = (walk s.rules names h words).held in
    let last = or_else (settle_fault s.rules s.args_override_self end) (or_else (defaults_fault (settled s.rules end).rows s.rules) (check_fault s (finished s.rules end) has)) in
    first_empty below last (second_empty (walk_fault s names (walk_from h) words) (or_else below last) pass)

pub check_passes : (s : Shape) (names : Names) (h : Held) (words : List Text) (has : Bool) (below : Kinds) → level_fault s names h words has below ≡ []
    → check_fault s (finished s.rules (walk s.rules names h words).held) has ≡ []
check_passes s names h words has below pass =
    let end = (walk s.rules names h words).held in
    let check = check_fault s (finished s.rules end) has in
    let defaults = or_else (defaults_fault (settled s.rules end).rows s.rules) check in
    let last = or_else (settle_fault s.rules s.args_override_self end) defaults in
    second_empty (defaults_fault (settled s.rules end).rows s.rules) check (second_empty (settle_fault s.rules s.args_override_self end) defaults
    (second_empty below last (second_empty (walk_fault s names (walk_from h) words) (or_else below last) pass)))

-- the rows of a level that fails nowhere
pub each_row : (s : Shape) (names : Names) (words : List Text) (has : Bool) (below : Kinds) → IsKeyed s.rules → level_fault s names nothing_held words has below ≡ []
    → Each (Passes s.rules) (rows_after s.rules names words)
each_row s names words has below keyed pass =
    let end = (walk s.rules names nothing_held words).held in
    let defaults = or_else (defaults_fault (settled s.rules end).rows s.rules) (check_fault s (finished s.rules end) has) in
    let last = or_else (settle_fault s.rules s.args_override_self end) defaults in
    let one = first_empty (walk_fault s names (walk_from nothing_held) words) (or_else below last) pass in
    let two = second_empty below last (second_empty (walk_fault s names (walk_from nothing_held) words) (or_else below last) pass) in
    let three = first_empty (settle_fault s.rules s.args_override_self end) defaults two in
    let four = first_empty (defaults_fault (settled s.rules end).rows s.rules) (check_fault s (finished s.rules end) has) (second_empty (settle_fault s.rules s.args_override_self end) defaults two) in
    each_finished s.rules s.rules (settled s.rules end).rows keyed four
    (each_settled s.rules keyed s.args_override_self end three (each_walk s names keyed words (walk_from nothing_held) one tt))
