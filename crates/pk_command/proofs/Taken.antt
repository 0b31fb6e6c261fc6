-- What words that are taken name and give.
use Rattle.std.proofs.Common.{◌≡◌, ◌∙◌, ◌&&◌, ◌||◌, ◌^◌, ◌≤◌, ◌<◌, arith, refl, sym, ap, subst, ℕ, Bool, true, false, not, cond, List, [], ◌∷◌, Option, Some, None, is_some, codes, lit<, lit≤, drop, Result, Ok, Err, ◌⊎◌, inl, inr}
use Rattle.std.proofs.lemmas.Int.{ints}
use Rattle.std.proofs.lemmas.Bool.{ne_eqb}
use Rattle.std.proofs.lemmas.Str.Parse.{digit_from_value}
use Rattle.std.proofs.lemmas.Slice.Eq.{bytes_eq-Decides}
use Rattle.std.specs.Prelude.{Box, find, option_and_then, option_map, slice_get, pos, unwrap_or, ◌==◌, IfSome}
use Rattle.std.specs.Borrow.{Bor}
use Rattle.std.specs.Box.{box_value}
use Rattle.std.specs.Option.{option_map_or}
use Rattle.std.specs.Str.{bytes_eq}
use Rattle.std.specs.Str.Parse.{IsNumeral, ParsesUnsigned, digits_value, starts_with_minus, without_leading_plus}
use Rattle.clap.specs.Lexer.{without_minus}
use Rattle.clap.specs.Values.{Accepts, IsSignedIn, read_as}
use Rattle.clap.specs.ValueTests.{accepts}
use Rattle.clap.specs.Matches.{ReadsOne, first_value, one_text, subcommand_name_of}
use Rattle.clap.specs.declared.parser.matches.ArgMatches.{ArgMatches}
use Rattle.clap.specs.declared.parser.matches.ArgMatches.TheViews.{out-ArgMatches, out-SubCommand}
use Rattle.clap.specs.declared.parser.matches.SubCommand.{SubCommand}
use Rattle.clap.specs.declared.parser.matches.Found.{Found}
use Rattle.clap.proofs.WalkLemmas.{first_value-rows, one_text-rows}
use Rattle.clap.specs.Facts.{explicit_source, parser_of_value}
use Rattle.clap.specs.Takes.{is_given}
use Rattle.std.specs.List.{list_any}
use Rattle.clap.specs.Kinds.{IsAmong, Kinds, check_kinds, values_kinds}
use Rattle.clap.specs.Walk.{Row, Rule, Text, answers_to, arg_by_id, finished, is_empty as has_none, first_of, nothing_held, one_of, reading_by, row_text, rows_after, rows_of, walk}
use Rattle.clap.specs.Simple.{App, HasMatchesOf, Shape, built, entered, is_simple, label_of, names_of, rows_at, subcommand_of, subcommand_rows, subcommand_rows_of}
use Rattle.clap.specs.Faults.{check_fault, entered_fault, fault_of, is_simple_and_free, level_fault, values_fault}
use Rattle.clap.specs.declared.builder.value_parser.ValueParser.{ValueParser}
use Rattle.clap.specs.declared.error.kind.ErrorKind.{ErrorKind}
use Rattle.clap.specs.declared.error.kind.ErrorKind.TheVariants.{OutOfMemory}
use Rattle.clap.proofs.ValueTestLemmas.{accepts-Accepts}
use Rattle.pk_command.specs.CommandLine.{is_empty, number_option, pikos_app}
use Rattle.pk_command.specs.Given.{IsGen, IsInRange, cert_options, given_by, is_set, number_given, number_in, number_of, run_options, text_of}
use Rattle.pk_command.specs.declared.asked.Command.TheVariants.{Run, Gen, Cert}
use Rattle.pk_command.specs.declared.asked.GenOptions.{GenOptions}
use Rattle.pk_command.specs.Found.{AreNumbersFound, IsFlagFound, IsGenFound, IsNumberFound, IsRequiredFound, IsRunFound}
use Rattle.pk_command.proofs.Rows.{Each, IsKeyed, Passes, below_passes, check_passes, each_found, each_row}

-- ---- the subcommand

no_kind : (k : ErrorKind) (ks : Kinds) → k ∷ ks ≡ [] → ⊥
no_kind k ks e = cc

pub no_fault : (faults : Kinds) → is_empty faults ≡ true → faults ≡ []
no_fault [] e = refl
no_fault (k ∷ ks) e = cc

pub a_fault : (faults : Kinds) → (faults ≡ [] → ⊥) → is_empty faults ≡ false
a_fault [] some = absurd (some refl)
a_fault (k ∷ ks) some = refl

wants_command : (help argument : Bool) → check_kinds help true argument ≡ [] → ⊥
wants_command true argument e = no_kind _ _ e
wants_command false argument e = no_kind _ _ e

no_argument : (help command argument : Bool) → check_kinds help command argument ≡ [] → argument ≡ false
no_argument true command argument e = absurd (no_kind _ _ e)
no_argument false true argument e = absurd (no_kind _ _ e)
no_argument false false true e = absurd (no_kind _ _ e)
no_argument false false false e = refl

missing_command : (s : Shape) (rows : List Row) → s.subcommand_required ≡ true → check_fault s rows false ≡ [] → ⊥
missing_command s rows required e =
    let help = s.arg_required_else_help && not (list_any (λ r. explicit_source r.source) rows) in
    let argument = not (s.subcommand_negates_reqs && false) && list_any (λ a. a.required && not (is_given a.id rows)) s.rules in
    wants_command help argument (subst (λ (b : Bool). check_kinds help b argument ≡ []) required e)

-- what clap says of an application holds of this one, where it is this one
module _ (a : App) (words : List Text) (is : a ≡ pikos_app) where
  pub no_fault_of : (is_simple_and_free a ≡ true → fault_of a words ≡ []) → fault_of pikos_app words ≡ []
  no_fault_of says = subst (λ (b : App). fault_of b words ≡ []) is (says (ap is_simple_and_free is))

  pub rows_of_app : (m : ArgMatches) → HasMatchesOf a words m → subcommand_rows_of m ≡ given_by words
  rows_of_app m says = (says (ap is_simple is)).1 ∙ ap (λ (b : App). subcommand_of b words) is

  -- an error that isn't want of memory is a fault
  pub a_fault_of : (k : ErrorKind) → (k ≡ OutOfMemory → ⊥) → (is_simple_and_free a ≡ true → (k ≡ OutOfMemory) ⊎ IsAmong k (fault_of a words)) → fault_of pikos_app words ≡ [] → ⊥
  a_fault_of k other says none =
      let faults : fault_of a words ≡ [] = ap (λ (b : App). fault_of b words) is ∙ none in
      elim (says (ap is_simple_and_free is)) [
        | inl memory ↦ other memory
        | inr among ↦ subst (IsAmong k) faults among
      ]

-- a subcommand that was entered, where it fails nowhere
pub record Enters (P : Shape → Type 0) (a : App) (stop : Option (Text × List Text)) : Type 0 where
  pub shape : Shape
  pub words : List Text
  pub one : P shape
  pub rows : entered a stop ≡ Some (rows_at shape words)
  pub pass : level_fault shape [] nothing_held words false [] ≡ []

enters_found : (P : Shape → Type 0) (a : App) (p : Text × List Text) (rows : List Row) (found : Option Shape) → find (λ s. answers_to p.0 (label_of s)) a.subs ≡ found
    → ((s : Shape) → found ≡ Some s → P s) → a.top.subcommand_required ≡ true
    → check_fault a.top rows (is_some (option_map (λ s. rows_at s p.1) found)) ≡ []
    → option_map_or (λ s. level_fault s [] nothing_held p.1 false []) found [] ≡ [] → Enters P a (Some p)
enters_found P a p rows None is one required check below = absurd (missing_command a.top rows required check)
enters_found P a p rows (Some s) is one required check below = record {
  shape = s;
  words = p.1;
  one = one s refl;
  rows = ap (option_map (λ s. rows_at s p.1)) is;
  pass = below;
}

enters : (P : Shape → Type 0) (a : App) (stop : Option (Text × List Text)) (rows : List Row) → Each P a.subs → a.top.subcommand_required ≡ true
    → check_fault a.top rows (is_some (entered a stop)) ≡ [] → entered_fault a stop ≡ [] → Enters P a stop
enters P a None rows each required check below = absurd (missing_command a.top rows required check)
enters P a (Some p) rows each required check below =
    enters_found P a p rows (find (λ s. answers_to p.0 (label_of s)) a.subs) refl
    (λ s found. (each_found P (λ s. answers_to p.0 (label_of s)) a.subs s each found).0) required check below

-- the built shapes of the commands
abbrev pub run_shape : Shape
run_shape = unwrap_or (slice_get (built pikos_app).subs 0) (built pikos_app).top

abbrev pub order_shape : Shape
order_shape = unwrap_or (slice_get (built pikos_app).subs 1) (built pikos_app).top

abbrev pub gen_shape : Shape
gen_shape = unwrap_or (slice_get (built pikos_app).subs 2) (built pikos_app).top

abbrev pub cert_shape : Shape
cert_shape = unwrap_or (slice_get (built pikos_app).subs 3) (built pikos_app).top

abbrev pub check_shape : Shape
check_shape = unwrap_or (slice_get (built pikos_app).subs 4) (built pikos_app).top

-- the words name the command of this shape, each value that they give passes the parser of its option, and no required option is missing
pub record NamesCommand (shape : Shape) (words : List Text) : Type 0 where
  pub rows : List Row
  pub given : given_by words ≡ Some (shape.name, rows)
  pub pass : Each (Passes shape.rules) rows
  pub check : check_fault shape rows false ≡ []

abbrev IsCommand : Shape → Type 0
IsCommand s = (s ≡ run_shape) ⊎ (s ≡ order_shape) ⊎ (s ≡ gen_shape) ⊎ (s ≡ cert_shape) ⊎ (s ≡ check_shape)

-- the words name one of the commands
abbrev pub NamesOne : List Text → Type 0
NamesOne words =
    NamesCommand run_shape words ⊎ NamesCommand order_shape words ⊎ NamesCommand gen_shape words ⊎ NamesCommand cert_shape words ⊎ NamesCommand check_shape words

run_keyed : IsKeyed run_shape.rules
run_keyed = ((refl, refl), ((refl, refl), ((refl, refl), ((refl, refl), ((refl, refl), ((refl, refl), ((refl, refl), ((refl, refl), ((refl, refl), tt)))))))))

order_keyed : IsKeyed order_shape.rules
order_keyed = ((refl, refl), ((refl, refl), tt))

gen_keyed : IsKeyed gen_shape.rules
gen_keyed = ((refl, refl), ((refl, refl), ((refl, refl), tt)))

cert_keyed : IsKeyed cert_shape.rules
cert_keyed = ((refl, refl), ((refl, refl), ((refl, refl), ((refl, refl), ((refl, refl), ((refl, refl), tt))))))

-- where the walk over the words stops
abbrev stop_at : List Text → Option (Text × List Text)
stop_at words = (walk (built pikos_app).top.rules (names_of (built pikos_app)) nothing_held words).stopped

names_shape : (P : Shape → Type 0) (shape : Shape) (words : List Text) (met : Enters P (built pikos_app) (stop_at words)) → met.shape ≡ shape → IsKeyed shape.rules → NamesCommand shape words
names_shape P shape words met is keyed =
    let own : IsKeyed met.shape.rules = subst (λ (s : Shape). IsKeyed s.rules) (sym is) keyed in
    record {
      rows = rows_after met.shape.rules [] met.words;
      given = met.rows ∙ ap (λ (s : Shape). Some (s.name, rows_after met.shape.rules [] met.words)) is;
      pass = subst (λ (s : Shape). Each (Passes s.rules) (rows_after met.shape.rules [] met.words)) is
          (each_row met.shape [] met.words false [] own met.pass);
      check = subst (λ (s : Shape). check_fault s (rows_after met.shape.rules [] met.words) false ≡ []) is
          (check_passes met.shape [] nothing_held met.words false [] met.pass);
    }

names_one : (words : List Text) (met : Enters IsCommand (built pikos_app) (stop_at words)) → IsCommand met.shape → NamesOne words
names_one words met (inl is) = inl (names_shape IsCommand run_shape words met is run_keyed)
names_one words met (inr (inl is)) = inr (inl (names_shape IsCommand order_shape words met is order_keyed))
names_one words met (inr (inr (inl is))) = inr (inr (inl (names_shape IsCommand gen_shape words met is gen_keyed)))
names_one words met (inr (inr (inr (inl is)))) = inr (inr (inr (inl (names_shape IsCommand cert_shape words met is cert_keyed))))
names_one words met (inr (inr (inr (inr is)))) = inr (inr (inr (inr (names_shape IsCommand check_shape words met is tt))))

pub taken_names : (words : List Text) → fault_of pikos_app words ≡ [] → NamesOne words
taken_names words taken =
    let a = built pikos_app in
    let stop = stop_at words in
    let below = below_passes a.top (names_of a) nothing_held words (is_some (entered a stop)) (entered_fault a stop) taken in
    let check = check_passes a.top (names_of a) nothing_held words (is_some (entered a stop)) (entered_fault a stop) taken in
    let each : Each IsCommand a.subs = (inl refl, (inr (inl refl), (inr (inr (inl refl)), (inr (inr (inr (inl refl))), (inr (inr (inr (inr refl))), tt))))) in
    let met = enters IsCommand a stop (finished a.top.rules (walk a.top.rules (names_of a) nothing_held words).held) each refl check below in
    names_one words met met.one

-- ---- the values

none_row : {X : Type 0} (x : X) → None ≡ Some x → ⊥
none_row x e = cc

first_accepted : (ignore_case : Bool) (parser : ValueParser) (v : Text) (vs : List Text) (b : Bool) → accepts ignore_case parser v ≡ b → values_kinds ignore_case parser (v ∷ vs) ≡ []
    → accepts ignore_case parser v ≡ true
first_accepted ignore_case parser v vs true is pass = is
first_accepted ignore_case parser v vs false is pass = let bad = rw is at pass in absurd (no_kind _ _ bad)

-- the first value of an argument, where it has one, passed its parser, and is read as that says
pub record IsGiven (a : Rule) (first one : Option Text) : Type 0 where
  pub passed : IfSome first (Accepts a.ignore_case (parser_of_value a.parser))
  pub read : one ≡ option_map (read_as (reading_by a)) first

given_values : (a : Rule) (r : Row) (values : List Text) → r.reading ≡ reading_by a → values_fault a values ≡ []
    → IsGiven a (slice_get values 0) (option_map (read_as r.reading) (slice_get values 0))
given_values a r [] reading pass = record { passed = tt; read = refl }
given_values a r (v ∷ vs) reading pass = record {
  passed = accepts-Accepts a.ignore_case (parser_of_value a.parser) v (first_accepted a.ignore_case (parser_of_value a.parser) v vs (accepts a.ignore_case (parser_of_value a.parser) v) refl pass);
  read = ap (λ how. Some (read_as how v)) reading;
}

given_row : (c : List Rule) (a : Rule) (name : Text) (found : Option Row) → arg_by_id c name ≡ Some a → ((r : Row) → found ≡ Some r → Passes c r × (bytes_eq r.id name ≡ true))
    → IsGiven a (option_and_then (λ r. slice_get r.values 0) found) (option_and_then row_text found)
given_row c a name None first each = record { passed = tt; read = refl }
given_row c a name (Some r) first each =
    let at = each r refl in
    let same : r.id ≡ name = (bytes_eq-Decides r.id name).0 at.1 in
    let pass = at.0.1 a (ap (arg_by_id c) same ∙ first) in
    given_values a r r.values pass.1 pass.0

-- what is given for an argument of a level that fails nowhere
pub given_of : (c : List Rule) (a : Rule) (name : Text) (rows : List Row) → arg_by_id c name ≡ Some a → Each (Passes c) rows → IsGiven a (first_of name rows) (one_of name rows)
given_of c a name rows first each =
    given_row c a name (find (λ r. bytes_eq r.id name) rows) first (λ r found. each_found (Passes c) (λ q. bytes_eq q.id name) rows r each found)

-- a row of a level that fails nowhere has a value
given_some : (values : List Text) → has_none values ≡ false → is_some (slice_get values 0) ≡ true
given_some [] some = cc
given_some (v ∷ vs) some = refl

required_row : (P : Row → Type 0) (found : Option Row) → ((r : Row) → found ≡ Some r → P r × (has_none r.values ≡ false)) → option_map_or (λ r. explicit_source r.source) found false ≡ true
    → is_some (option_and_then (λ r. slice_get r.values 0) found) ≡ true
required_row P None each given = cc
required_row P (Some r) each given = given_some r.values (each r refl).1

-- what was given has a value
required_given : (c : List Rule) (name : Text) (rows : List Row) → Each (Passes c) rows → is_given name rows ≡ true → is_some (first_of name rows) ≡ true
required_given c name rows pass given =
    required_row (Passes c) (find (λ r. bytes_eq r.id name) rows)
    (λ r found. let at = each_found (Passes c) (λ q. bytes_eq q.id name) rows r pass found in (at.0, at.0.0)) given

-- ---- numbers

without_minus-cond : (t : Text) → without_minus t ≡ cond (starts_with_minus t) (drop 1 t) t
without_minus-cond [] = refl
without_minus-cond (x ∷ xs) = go (x == 45)
  where
    go : (b : Bool) → unwrap_or (cond b (Some xs) None) (x ∷ xs) ≡ cond b xs (x ∷ xs)
    go true = refl
    go false = refl

no_plus : (ds : Text) → IsNumeral 10 ds → without_leading_plus ds ≡ ds
no_plus [] h = refl
no_plus (d ∷ ds) h =
    let plus : (d == 43) ≡ false = ne_eqb _ _ (λ e. omega (arith, digit_from_value d h.1.0)) in
    ap (λ (b : Bool). drop (cond b 1 0) (d ∷ ds)) plus

-- a text that passed a range of numbers from 0 up is read as the number that it writes
pub number_reads : (E : Type 0) (G : Text → Result ℕ E → Type 0) (k low high : ℕ) (t : Text) (r : Option ℕ)
    → ReadsOne G (without_minus t) r → ((u : Text) (x : Result ℕ E) → G u x → ParsesUnsigned k 10 u x) → high < 2 ^ k
    → IsSignedIn (pos low) (pos high) t
    → r ≡ Some (number_in t)
number_reads E G k low high t r read only fits passed =
    go (starts_with_minus t) refl r (subst (λ (u : Text). ReadsOne G u r) (without_minus-cond t) read)
  where
    go : (b : Bool) → starts_with_minus t ≡ b → (o : Option ℕ) → ReadsOne G (cond (starts_with_minus t) (drop 1 t) t) o → o ≡ Some (number_in t)
    go true minus (Some v) h =
        let numeral : IsNumeral 10 (drop 1 t) = rw minus at passed.0 in
        let parsed = only (drop 1 t) (Ok v) (rw minus at h) in
        let is : v ≡ digits_value 10 (drop 1 t) = parsed.1 ∙ ap (digits_value 10) (no_plus (drop 1 t) numeral) in
        rw minus (ap Some is)
    go true minus None h =
        let low_ok = rw minus at passed.2 in
        let numeral : IsNumeral 10 (drop 1 t) = rw minus at passed.0 in
        let same = no_plus (drop 1 t) numeral in
        let small : digits_value 10 (drop 1 t) < 2 ^ k = omega (arith, ints) in
        absurd (only (drop 1 t) (Err h.0) (rw minus at h.1) (rw same numeral, rw same small))
    go false minus (Some v) h =
        let parsed = only t (Ok v) (rw minus at h) in
        rw minus (ap Some parsed.1)
    go false minus None h =
        let low_ok = rw minus at passed.2 in
        let high_ok = rw minus at passed.3 in
        let numeral = rw minus at passed.0 in
        absurd (only t (Err h.0) (rw minus at h.1) (numeral, omega (arith, ints)))

signed_within : (low high : ℕ) (t : Text) → IsSignedIn (pos low) (pos high) t → (low ≤ number_in t) × (number_in t ≤ high)
signed_within low high t passed = go (starts_with_minus t) refl
  where
    go : (b : Bool) → starts_with_minus t ≡ b → (low ≤ number_in t) × (number_in t ≤ high)
    go true minus =
        let low_ok = rw minus at passed.2 in
        let high_ok = rw minus at passed.3 in
        rw minus (omega (arith, ints), omega (arith, ints))
    go false minus =
        let low_ok = rw minus at passed.2 in
        let high_ok = rw minus at passed.3 in
        rw minus (omega (arith, ints), omega (arith, ints))

number_within : (low high default : ℕ) (o : Option Text) → low ≤ default → default ≤ high → IfSome o (IsSignedIn (pos low) (pos high))
    → (low ≤ unwrap_or (option_map number_in o) default) × (unwrap_or (option_map number_in o) default ≤ high)
number_within low high default None least most passed = (least, most)
number_within low high default (Some t) least most passed = signed_within low high t passed

-- an option's number lies in its range, as its default does
pub number_in_range : (name : Text) (low high default : ℕ) (rows : List Row) → low ≤ default → default ≤ high → IsNumberFound name low high rows
    → (low ≤ number_of name default rows) × (number_of name default rows ≤ high)
number_in_range name low high default rows least most found = number_within low high default (first_of name rows) least most found.within

number_got : (E : Type 0) (G : Text → Result ℕ E → Type 0) (first one : Option Text) (r : Option ℕ)
    → ((u : Text) (x : Result ℕ E) → G u x → ParsesUnsigned 64 10 u x) → IfSome first (IsSignedIn (pos 0) (pos 549755813888))
    → one ≡ option_map without_minus first → (one ≡ None → r ≡ None) → ((t : Text) → one ≡ Some t → ReadsOne G t r)
    → r ≡ option_map number_in first
number_got E G None one r only passed read none value = none read
number_got E G (Some t) one r only passed read none value =
    number_reads E G 64 0 549755813888 t r (value (without_minus t) read) only (lit< tt) passed

-- what `get_one` gives for an option
pub number_read : (E : Type 0) (G : Text → Result ℕ E → Type 0) (name : Text) (f : Found) (r : Option ℕ)
    → ((u : Text) (x : Result ℕ E) → G u x → ParsesUnsigned 64 10 u x) → IsNumberFound name 0 549755813888 (rows_of f)
    → (one_text f name ≡ None → r ≡ None) → ((t : Text) → one_text f name ≡ Some t → ReadsOne G t r)
    → r ≡ number_given name (rows_of f)
number_read E G name f r only found none value =
    number_got E G (first_of name (rows_of f)) (one_text f name) r only found.within (one_text-rows f name ∙ found.read) none value

given_within : (low high n : ℕ) (o : Option Text) → IfSome o (IsSignedIn (pos low) (pos high)) → option_map number_in o ≡ Some n → (low ≤ n) × (n ≤ high)
given_within low high n None passed is = cc
given_within low high n (Some t) passed is =
    let same : number_in t ≡ n = cc in
    subst (λ (m : ℕ). (low ≤ m) × (m ≤ high)) same (signed_within low high t passed)

-- a number that was given lies in its range
pub given_in_range : (name : Text) (low high n : ℕ) (rows : List Row) → IsNumberFound name low high rows → number_given name rows ≡ Some n → (low ≤ n) × (n ≤ high)
given_in_range name low high n rows found is = given_within low high n (first_of name rows) found.within is

-- an option that was given isn't missing
pub not_missing : (name : Text) (rows : List Row) → is_some (first_of name rows) ≡ true → number_given name rows ≡ None → ⊥
not_missing name rows given none = missing (first_of name rows) given none
  where
    missing : (o : Option Text) → is_some o ≡ true → option_map number_in o ≡ None → ⊥
    missing None given none = cc
    missing (Some t) given none = cc

flag_word : (text : Text) (r b : Bool) → bytes_eq text (codes "true") ≡ b → (bytes_eq text (codes "true") || bytes_eq text (codes "false")) ≡ true
    → (text ≡ codes "true" → r ≡ true) → (text ≡ codes "false" → r ≡ false) → r ≡ b
flag_word text r true is word when_true when_false = when_true ((bytes_eq-Decides text (codes "true")).0 is)
flag_word text r false is word when_true when_false = let other = rw is at word in when_false ((bytes_eq-Decides text (codes "false")).0 other)

flag_got : (first one : Option Text) (r : Bool) → IfSome first (λ text. (bytes_eq text (codes "true") || bytes_eq text (codes "false")) ≡ true) → one ≡ first
    → (one ≡ None → r ≡ false) → (one ≡ Some (codes "true") → r ≡ true) → (one ≡ Some (codes "false") → r ≡ false)
    → r ≡ option_map_or (λ text. bytes_eq text (codes "true")) first false
flag_got None one r word read none when_true when_false = none read
flag_got (Some text) one r word read none when_true when_false =
    flag_word text r (bytes_eq text (codes "true")) refl word (λ e. when_true (read ∙ ap Some e)) (λ e. when_false (read ∙ ap Some e))

-- what `get_flag` gives
pub flag_read : (name : Text) (f : Found) (r : Bool) → IsFlagFound name (rows_of f)
    → (one_text f name ≡ None → r ≡ false) → (one_text f name ≡ Some (codes "true") → r ≡ true) → (one_text f name ≡ Some (codes "false") → r ≡ false)
    → r ≡ is_set name (rows_of f)
flag_read name f r found none when_true when_false = flag_got (first_of name (rows_of f)) (one_text f name) r found.word (one_text-rows f name ∙ found.read) none when_true when_false

-- ---- the options of `run` and of `cert`

abbrev run_rule : ℕ → Rule
run_rule i = unwrap_or (slice_get run_shape.rules i) (number_option [] 0 0)

copied : (o : Option Text) → option_map (λ t. t) o ≡ o
copied None = refl
copied (Some t) = refl

-- the numbers of a level whose rules find the five of `run` by their names
numbers_found : (c : List Rule) (rows : List Row) → arg_by_id c (codes "workers") ≡ Some (run_rule 0) → arg_by_id c (codes "delay") ≡ Some (run_rule 1)
    → arg_by_id c (codes "narrow") ≡ Some (run_rule 2) → arg_by_id c (codes "oct") ≡ Some (run_rule 3) → arg_by_id c (codes "max-runs") ≡ Some (run_rule 4)
    → Each (Passes c) rows → AreNumbersFound rows
numbers_found c rows first second third fourth fifth pass =
    let workers = given_of c (run_rule 0) (codes "workers") rows first pass in
    let delay = given_of c (run_rule 1) (codes "delay") rows second pass in
    let narrow = given_of c (run_rule 2) (codes "narrow") rows third pass in
    let oct = given_of c (run_rule 3) (codes "oct") rows fourth pass in
    let max_runs = given_of c (run_rule 4) (codes "max-runs") rows fifth pass in
    record {
      workers = record { within = workers.passed; read = workers.read };
      delay = record { within = delay.passed; read = delay.read };
      narrow = record { within = narrow.passed; read = narrow.read };
      oct = record { within = oct.passed; read = oct.read };
      max_runs = record { within = max_runs.passed; read = max_runs.read };
    }

pub run_found : (rows : List Row) → Each (Passes run_shape.rules) rows → IsRunFound rows
run_found rows pass =
    let points = given_of run_shape.rules (run_rule 6) (codes "points") rows refl pass in
    let lean = given_of run_shape.rules (run_rule 7) (codes "lean") rows refl pass in
    let packs = given_of run_shape.rules (run_rule 8) (codes "packs") rows refl pass in
    record {
      numbers = numbers_found run_shape.rules rows refl refl refl refl refl pass;
      points = record { word = points.passed; read = points.read ∙ copied (first_of (codes "points") rows) };
      lean = record { word = lean.passed; read = lean.read ∙ copied (first_of (codes "lean") rows) };
      packs = record { word = packs.passed; read = packs.read ∙ copied (first_of (codes "packs") rows) };
    }

pub cert_found : (rows : List Row) → Each (Passes cert_shape.rules) rows → AreNumbersFound rows
cert_found rows pass = numbers_found cert_shape.rules rows refl refl refl refl refl pass

signed_wider : (least most high : ℕ) (t : Text) → most ≤ high → IsSignedIn (pos least) (pos most) t → IsSignedIn (pos 0) (pos high) t
signed_wider least most high t wide passed = (passed.0, passed.1, omega (arith, ints, passed.2), omega (arith, ints, passed.3))

number_wider : (least most high : ℕ) (o : Option Text) → most ≤ high → IfSome o (IsSignedIn (pos least) (pos most)) → IfSome o (IsSignedIn (pos 0) (pos high))
number_wider least most high None wide passed = passed
number_wider least most high (Some t) wide passed = signed_wider least most high t wide passed

-- a number of a narrow range is one of a wide range
pub found_wider : (name : Text) (least most high : ℕ) (rows : List Row) → most ≤ high → IsNumberFound name least most rows → IsNumberFound name 0 high rows
found_wider name least most high rows wide found = record { within = number_wider least most high (first_of name rows) wide found.within; read = found.read }

pub required_wider : (name : Text) (least most high : ℕ) (rows : List Row) → most ≤ high → IsRequiredFound name least most rows → IsRequiredFound name 0 high rows
required_wider name least most high rows wide found = record { number = found_wider name least most high rows wide found.number; given = found.given }

pub workers_in_range : (rows : List Row) → IsNumberFound (codes "workers") 1 64 rows → (1 ≤ number_of (codes "workers") 4 rows) × (number_of (codes "workers") 4 rows ≤ 64)
workers_in_range rows found = number_in_range (codes "workers") 1 64 4 rows (lit≤ tt) (lit≤ tt) found

pub cert_in_range : (rows : List Row) → AreNumbersFound rows → IsInRange (Cert (cert_options rows))
cert_in_range rows found =
    let workers = workers_in_range rows found.workers in
    let delay = number_in_range (codes "delay") 0 16 0 rows (lit≤ tt) (lit≤ tt) found.delay in
    let narrow = number_in_range (codes "narrow") 0 8 2 rows (lit≤ tt) (lit≤ tt) found.narrow in
    let oct = number_in_range (codes "oct") 0 64 16 rows (lit≤ tt) (lit≤ tt) found.oct in
    let max_runs = number_in_range (codes "max-runs") 1 549755813888 1000000 rows (lit≤ tt) (lit≤ tt) found.max_runs in
    (workers.0, workers.1, delay.1, narrow.1, oct.1, max_runs.0, max_runs.1)

-- the ranges are the same
pub run_in_range : (rows : List Row) → IsRunFound rows → IsInRange (Run (run_options rows))
run_in_range rows found = cert_in_range rows found.numbers

-- ---- the options of `gen`

abbrev gen_rule : ℕ → Rule
gen_rule i = unwrap_or (slice_get gen_shape.rules i) (number_option [] 0 0)

both_given : (a b rest : Bool) → (not a || (not b || rest)) ≡ false → (a ≡ true) × (b ≡ true)
both_given true true rest none = (refl, refl)
both_given true false rest none = cc
both_given false b rest none = cc

gen_given : (rows : List Row) → check_fault gen_shape rows false ≡ [] → (is_given (codes "seed") rows ≡ true) × (is_given (codes "size") rows ≡ true)
gen_given rows check =
    let missing = list_any (λ a. a.required && not (is_given a.id rows)) gen_shape.rules in
    both_given (is_given (codes "seed") rows) (is_given (codes "size") rows) false (no_argument false false missing check)

pub gen_found : (rows : List Row) → Each (Passes gen_shape.rules) rows → check_fault gen_shape rows false ≡ [] → IsGenFound rows
gen_found rows pass check =
    let seed = given_of gen_shape.rules (gen_rule 0) (codes "seed") rows refl pass in
    let size = given_of gen_shape.rules (gen_rule 1) (codes "size") rows refl pass in
    let workers = given_of gen_shape.rules (gen_rule 2) (codes "workers") rows refl pass in
    let given = gen_given rows check in
    record {
      seed = record { number = record { within = seed.passed; read = seed.read }; given = required_given gen_shape.rules (codes "seed") rows pass given.0 };
      size = record { number = record { within = size.passed; read = size.read }; given = required_given gen_shape.rules (codes "size") rows pass given.1 };
      workers = record { within = workers.passed; read = workers.read };
    }

pub gen_in_range : (rows : List Row) (options : GenOptions) → IsGenFound rows → IsGen rows options → IsInRange (Gen options)
gen_in_range rows options found is =
    let seed = given_in_range (codes "seed") 0 2147483647 options.seed rows found.seed.number is.seed in
    let size = given_in_range (codes "size") 1 1000 options.size rows found.size.number is.size in
    let workers = rw (sym is.workers) at (workers_in_range rows found.workers) in
    (seed.1, size.0, size.1, workers.0, workers.1)

the_number : (name : Text) (rows : List Row) (o : Option ℕ) → number_given name rows ≡ o → (o ≡ None → ⊥) → (n : ℕ) × (number_given name rows ≡ Some n)
the_number name rows None is some = absurd (some refl)
the_number name rows (Some n) is some = (n, is)

-- the options that were given
pub gen_options : (rows : List Row) → IsGenFound rows → (options : GenOptions) × IsGen rows options
gen_options rows found =
    let seed = the_number (codes "seed") rows (number_given (codes "seed") rows) refl (not_missing (codes "seed") rows found.seed.given) in
    let size = the_number (codes "size") rows (number_given (codes "size") rows) refl (not_missing (codes "size") rows found.size.given) in
    (record { seed = seed.0; size = size.0; workers = number_of (codes "workers") 4 rows }, record { seed = seed.1; size = size.1; workers = refl })

-- ---- the options of `order`

abbrev order_rule : ℕ → Rule
order_rule i = unwrap_or (slice_get order_shape.rules i) (number_option [] 0 0)

order_found : (rows : List Row) → Each (Passes order_shape.rules) rows → IsFlagFound (codes "peak") rows
order_found rows pass =
    let peak = given_of order_shape.rules (order_rule 1) (codes "peak") rows refl pass in
    record { word = peak.passed; read = peak.read ∙ copied (first_of (codes "peak") rows) }

-- what `get_str` gives for an option, or the default
pub text_read : (name default : Text) (f : Found) (r : Option (Bor Text)) → option_map (λ s. s.now) r ≡ first_value f name
    → option_map_or (λ s. s.now) r default ≡ text_of name default (rows_of f)
text_read name default f r is = go r ∙ ap (λ o. unwrap_or o default) (is ∙ first_value-rows f name)
  where
    go : (o : Option (Bor Text)) → option_map_or (λ s. s.now) o default ≡ unwrap_or (option_map (λ s. s.now) o) default
    go None = refl
    go (Some s) = refl

-- ---- the command that is found

pub pair_rows : (o : Option (Text × List Row)) (rows given : List Row) (name : Text) → option_map (λ p. p.1) o ≡ Some rows → o ≡ Some (name, given) → rows ≡ given
pair_rows o rows given name left right = some_rows rows given (sym left ∙ ap (option_map (λ p. p.1)) right)
  where
    some_rows : (a b : List Row) → Some a ≡ Some b → a ≡ b
    some_rows a b e = cc

-- no command has two names
pub other_names : (o : Option (Text × List Row)) (name other : Text) (rows given : List Row) → (bytes_eq name other ≡ false) → o ≡ Some (name, rows) → o ≡ Some (other, given) → ⊥
other_names o name other rows given differ left right =
    let same : name ≡ other = some_text name other (sym (ap (option_map (λ p. p.0)) left) ∙ ap (option_map (λ p. p.0)) right) in
    let yes : bytes_eq name other ≡ true = (bytes_eq-Decides name other).1 same in
    cc
  where
    some_text : (a b : Text) → Some a ≡ Some b → a ≡ b
    some_text a b e = cc

pair_of : (o : Option (Text × List Row)) (name : Text) (rows : List Row) → option_map (λ p. p.0) o ≡ Some name → option_map (λ p. p.1) o ≡ Some rows → o ≡ Some (name, rows)
pair_of None name rows left right = absurd (none_row rows right)
pair_of (Some p) name rows left right =
    let first : p.0 ≡ name = cc in
    let second : p.1 ≡ rows = cc in
    ap (λ n. Some (n, p.1)) first ∙ ap (λ r. Some (name, r)) second

name_of_rows : (m : ArgMatches) → subcommand_name_of m ≡ option_map (λ p. p.0) (subcommand_rows_of m)
name_of_rows m = go (out-ArgMatches m).subcommand
  where
    go : {Z : Type 0} (o : Option (Box SubCommand Z)) → option_map (λ b. (out-SubCommand (box_value b)).name.now) o ≡ option_map (λ p. p.0) (subcommand_rows o)
    go None = refl
    go (Some b) = refl

-- what is found under a name is what the words give
pub given_of_found : (words : List Text) (m : ArgMatches) (name : Text) (rows : List Row) → subcommand_rows_of m ≡ given_by words
    → subcommand_name_of m ≡ Some name → option_map (λ p. p.1) (subcommand_rows_of m) ≡ Some rows → given_by words ≡ Some (name, rows)
given_of_found words m name rows given named is = sym given ∙ pair_of (subcommand_rows_of m) name rows (sym (name_of_rows m) ∙ named) is

-- the rows of a command are as its options say
module _ (words : List Text) (rows : List Row) where
  -- the words name another command
  other : (shape : Shape) (name : Text) → bytes_eq name shape.name ≡ false → given_by words ≡ Some (name, rows) → NamesCommand shape words → ⊥
  other shape name differ given names = other_names (given_by words) name shape.name rows names.rows differ given names.given

  -- what holds of the rows that the command of this shape has holds of these
  own : (P : List Row → Type 0) (shape : Shape) → given_by words ≡ Some (shape.name, rows) → (names : NamesCommand shape words) → P names.rows → P rows
  own P shape given names is = subst P (sym (pair_rows (given_by words) rows names.rows shape.name (ap (option_map (λ p. p.1)) given) names.given)) is

  run_of : given_by words ≡ Some (codes "run", rows) → NamesOne words → IsRunFound rows
  run_of given (inl names) = own IsRunFound run_shape given names (run_found names.rows names.pass)
  run_of given (inr (inl names)) = absurd (other order_shape (codes "run") refl given names)
  run_of given (inr (inr (inl names))) = absurd (other gen_shape (codes "run") refl given names)
  run_of given (inr (inr (inr (inl names)))) = absurd (other cert_shape (codes "run") refl given names)
  run_of given (inr (inr (inr (inr names)))) = absurd (other check_shape (codes "run") refl given names)

  order_of : given_by words ≡ Some (codes "order", rows) → NamesOne words → IsFlagFound (codes "peak") rows
  order_of given (inl names) = absurd (other run_shape (codes "order") refl given names)
  order_of given (inr (inl names)) = own (IsFlagFound (codes "peak")) order_shape given names (order_found names.rows names.pass)
  order_of given (inr (inr (inl names))) = absurd (other gen_shape (codes "order") refl given names)
  order_of given (inr (inr (inr (inl names)))) = absurd (other cert_shape (codes "order") refl given names)
  order_of given (inr (inr (inr (inr names)))) = absurd (other check_shape (codes "order") refl given names)

  gen_of : given_by words ≡ Some (codes "gen", rows) → NamesOne words → IsGenFound rows
  gen_of given (inl names) = absurd (other run_shape (codes "gen") refl given names)
  gen_of given (inr (inl names)) = absurd (other order_shape (codes "gen") refl given names)
  gen_of given (inr (inr (inl names))) = own IsGenFound gen_shape given names (gen_found names.rows names.pass names.check)
  gen_of given (inr (inr (inr (inl names)))) = absurd (other cert_shape (codes "gen") refl given names)
  gen_of given (inr (inr (inr (inr names)))) = absurd (other check_shape (codes "gen") refl given names)

  cert_of : given_by words ≡ Some (codes "cert", rows) → NamesOne words → AreNumbersFound rows
  cert_of given (inl names) = absurd (other run_shape (codes "cert") refl given names)
  cert_of given (inr (inl names)) = absurd (other order_shape (codes "cert") refl given names)
  cert_of given (inr (inr (inl names))) = absurd (other gen_shape (codes "cert") refl given names)
  cert_of given (inr (inr (inr (inl names)))) = own AreNumbersFound cert_shape given names (cert_found names.rows names.pass)
  cert_of given (inr (inr (inr (inr names)))) = absurd (other check_shape (codes "cert") refl given names)

  pub run_of_taken : fault_of pikos_app words ≡ [] → given_by words ≡ Some (codes "run", rows) → IsRunFound rows
  run_of_taken taken given = run_of given (taken_names words taken)

  pub order_of_taken : fault_of pikos_app words ≡ [] → given_by words ≡ Some (codes "order", rows) → IsFlagFound (codes "peak") rows
  order_of_taken taken given = order_of given (taken_names words taken)

  pub gen_of_taken : fault_of pikos_app words ≡ [] → given_by words ≡ Some (codes "gen", rows) → IsGenFound rows
  gen_of_taken taken given = gen_of given (taken_names words taken)

  pub cert_of_taken : fault_of pikos_app words ≡ [] → given_by words ≡ Some (codes "cert", rows) → AreNumbersFound rows
  cert_of_taken taken given = cert_of given (taken_names words taken)

-- words that are taken name one of the commands
abbrev pub HasName : ArgMatches → Text → Type 0
HasName m name = subcommand_name_of m ≡ Some name

name_found : (words : List Text) (m : ArgMatches) (shape : Shape) → subcommand_rows_of m ≡ given_by words → NamesCommand shape words → HasName m shape.name
name_found words m shape given names = name_of_rows m ∙ ap (option_map (λ p. p.0)) (given ∙ names.given)

pub one_is_named : (words : List Text) (m : ArgMatches) → fault_of pikos_app words ≡ [] → subcommand_rows_of m ≡ given_by words
    → HasName m (codes "run") ⊎ HasName m (codes "order") ⊎ HasName m (codes "gen") ⊎ HasName m (codes "cert") ⊎ HasName m (codes "check")
one_is_named words m taken given = go (taken_names words taken)
  where
    go : NamesOne words → HasName m (codes "run") ⊎ HasName m (codes "order") ⊎ HasName m (codes "gen") ⊎ HasName m (codes "cert") ⊎ HasName m (codes "check")
    go (inl names) = inl (name_found words m run_shape given names)
    go (inr (inl names)) = inr (inl (name_found words m order_shape given names))
    go (inr (inr (inl names))) = inr (inr (inl (name_found words m gen_shape given names)))
    go (inr (inr (inr (inl names)))) = inr (inr (inr (inl (name_found words m cert_shape given names))))
    go (inr (inr (inr (inr names)))) = inr (inr (inr (inr (name_found words m check_shape given names))))
