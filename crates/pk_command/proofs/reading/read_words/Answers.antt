use Rattle.std.proofs.Common.{ap, codes, inl, inr, map, refl, string_bytes}
use Rattle.clap.specs.Words.{found_of, rows_of}
use Rattle.pk_command.specs.CommandLine.{is_empty, is_taken}
use Rattle.pk_command.specs.Given.{AsksFor}
use Rattle.pk_command.proofs.Taken.{cert_in_range, cert_of_taken, gen_in_range, gen_of_taken, given_of_found, one_is_named, order_of_taken, run_in_range, run_of_taken}
use Rattle.pk_command.proofs.reading.read_words.Goals as goal

pub run_options-requires : goal.run_options-requires
run_options-requires c =
    let words = map string_bytes c.args.words.now in
    let rows = rows_of (found_of c.in-Some.found.now) in
    run_of_taken words rows c.in_ok-matches.ensures.taken
    (given_of_found words c.in_ok-matches.matches (codes "run") rows c.in_ok-matches.ensures.given (c.in-Some.ensures.found.0 refl) c.in-Some.ensures.rows)

pub returns-in-Some-clause-range : goal.returns-in-Some-clause-range
returns-in-Some-clause-range c =
    let words = map string_bytes c.args.words.now in
    let rows = rows_of (found_of c.in-Some.found.now) in
    let given = given_of_found words c.in_ok-matches.matches (codes "run") rows c.in_ok-matches.ensures.given (c.in-Some.ensures.found.0 refl) c.in-Some.ensures.rows in
    rw c.in_ok-run_options-in-Some.ensures (run_in_range rows (run_of_taken words rows c.in_ok-matches.ensures.taken given))

pub returns-in-Some-clause-command : goal.returns-in-Some-clause-command
unfolding is_taken AsksFor
returns-in-Some-clause-command c =
    let words = map string_bytes c.args.words.now in
    let rows = rows_of (found_of c.in-Some.found.now) in
    let given = given_of_found words c.in_ok-matches.matches (codes "run") rows c.in_ok-matches.ensures.given (c.in-Some.ensures.found.0 refl) c.in-Some.ensures.rows in
    (ap is_empty c.in_ok-matches.ensures.taken, (rows, (given, c.in_ok-run_options-in-Some.ensures)))

pub order_options-requires : goal.order_options-requires
order_options-requires c =
    let words = map string_bytes c.args.words.now in
    let rows = rows_of (found_of c.in-Some-subcommand_matches.found.now) in
    order_of_taken words rows c.in_ok-matches.ensures.taken
    (given_of_found words c.in_ok-matches.matches (codes "order") rows c.in_ok-matches.ensures.given (c.in-Some-subcommand_matches.ensures.found.0 refl) c.in-Some-subcommand_matches.ensures.rows)

pub returns-in-Some-subcommand_matches-clause-command :
    goal.returns-in-Some-subcommand_matches-clause-command
unfolding is_taken AsksFor
returns-in-Some-subcommand_matches-clause-command c =
    let words = map string_bytes c.args.words.now in
    let rows = rows_of (found_of c.in-Some-subcommand_matches.found.now) in
    let given = given_of_found words c.in_ok-matches.matches (codes "order") rows c.in_ok-matches.ensures.given (c.in-Some-subcommand_matches.ensures.found.0 refl) c.in-Some-subcommand_matches.ensures.rows in
    (ap is_empty c.in_ok-matches.ensures.taken, (rows, (given, c.in_ok-order_options-in-Some-subcommand_matches.ensures)))

pub gen_options-requires : goal.gen_options-requires
gen_options-requires c =
    let words = map string_bytes c.args.words.now in
    let rows = rows_of (found_of c.in-Some-subcommand_matches-2.found.now) in
    gen_of_taken words rows c.in_ok-matches.ensures.taken
    (given_of_found words c.in_ok-matches.matches (codes "gen") rows c.in_ok-matches.ensures.given (c.in-Some-subcommand_matches-2.ensures.found.0 refl) c.in-Some-subcommand_matches-2.ensures.rows)

pub returns-in-Some-subcommand_matches-2-clause-command :
    goal.returns-in-Some-subcommand_matches-2-clause-command
unfolding is_taken AsksFor
returns-in-Some-subcommand_matches-2-clause-command c =
    let words = map string_bytes c.args.words.now in
    let rows = rows_of (found_of c.in-Some-subcommand_matches-2.found.now) in
    let given = given_of_found words c.in_ok-matches.matches (codes "gen") rows c.in_ok-matches.ensures.given (c.in-Some-subcommand_matches-2.ensures.found.0 refl) c.in-Some-subcommand_matches-2.ensures.rows in
    (ap is_empty c.in_ok-matches.ensures.taken, (rows, (given, c.gen_options.ensures)))

pub returns-in-Some-subcommand_matches-2-clause-range :
    goal.returns-in-Some-subcommand_matches-2-clause-range
returns-in-Some-subcommand_matches-2-clause-range c =
    let words = map string_bytes c.args.words.now in
    let rows = rows_of (found_of c.in-Some-subcommand_matches-2.found.now) in
    let given = given_of_found words c.in_ok-matches.matches (codes "gen") rows c.in_ok-matches.ensures.given (c.in-Some-subcommand_matches-2.ensures.found.0 refl) c.in-Some-subcommand_matches-2.ensures.rows in
    gen_in_range rows c.gen_options.result (gen_of_taken words rows c.in_ok-matches.ensures.taken given) c.gen_options.ensures

pub cert_options-requires : goal.cert_options-requires
cert_options-requires c =
    let words = map string_bytes c.args.words.now in
    let rows = rows_of (found_of c.in-Some-subcommand_matches-3.found.now) in
    cert_of_taken words rows c.in_ok-matches.ensures.taken
    (given_of_found words c.in_ok-matches.matches (codes "cert") rows c.in_ok-matches.ensures.given (c.in-Some-subcommand_matches-3.ensures.found.0 refl) c.in-Some-subcommand_matches-3.ensures.rows)

pub returns-in-Some-subcommand_matches-3-clause-range :
    goal.returns-in-Some-subcommand_matches-3-clause-range
returns-in-Some-subcommand_matches-3-clause-range c =
    let words = map string_bytes c.args.words.now in
    let rows = rows_of (found_of c.in-Some-subcommand_matches-3.found.now) in
    let given = given_of_found words c.in_ok-matches.matches (codes "cert") rows c.in_ok-matches.ensures.given (c.in-Some-subcommand_matches-3.ensures.found.0 refl) c.in-Some-subcommand_matches-3.ensures.rows in
    rw c.in_ok-cert_options-in-Some-subcommand_matches-3.ensures (cert_in_range rows (cert_of_taken words rows c.in_ok-matches.ensures.taken given))

pub returns-in-Some-subcommand_matches-3-clause-command :
    goal.returns-in-Some-subcommand_matches-3-clause-command
unfolding is_taken AsksFor
returns-in-Some-subcommand_matches-3-clause-command c =
    let words = map string_bytes c.args.words.now in
    let rows = rows_of (found_of c.in-Some-subcommand_matches-3.found.now) in
    let given = given_of_found words c.in_ok-matches.matches (codes "cert") rows c.in_ok-matches.ensures.given (c.in-Some-subcommand_matches-3.ensures.found.0 refl) c.in-Some-subcommand_matches-3.ensures.rows in
    (ap is_empty c.in_ok-matches.ensures.taken, (rows, (given, c.in_ok-cert_options-in-Some-subcommand_matches-3.ensures)))

pub returns-in-Some-subcommand_matches-4-clause-command :
    goal.returns-in-Some-subcommand_matches-4-clause-command
unfolding is_taken AsksFor
returns-in-Some-subcommand_matches-4-clause-command c =
    let words = map string_bytes c.args.words.now in
    let rows = rows_of (found_of c.in-Some-subcommand_matches-4.field-0.now) in
    let given = given_of_found words c.in_ok-matches.matches (codes "check") rows c.in_ok-matches.ensures.given (c.in-Some-subcommand_matches-4.ensures.found.0 refl) c.in-Some-subcommand_matches-4.ensures.rows in
    (ap is_empty c.in_ok-matches.ensures.taken, (rows, given))

pub unreachable-requires : goal.unreachable-requires
unreachable-requires c =
    elim (one_is_named (map string_bytes c.args.words.now) c.in_ok-matches.matches c.in_ok-matches.ensures.taken c.in_ok-matches.ensures.given) [
      | inl named ↦ let bad = c.in-None.ensures.found.1 named in cc
      | inr other ↦ elim other [
        | inl named ↦ let bad = c.in-None-subcommand_matches.ensures.found.1 named in cc
        | inr other ↦ elim other [
          | inl named ↦ let bad = c.in-None-subcommand_matches-2.ensures.found.1 named in cc
          | inr other ↦ elim other [
            | inl named ↦ let bad = c.in-None-subcommand_matches-3.ensures.found.1 named in cc
            | inr named ↦ let bad = c.in-None-subcommand_matches-4.ensures.found.1 named in cc
          ]
        ]
      ]
    ]
