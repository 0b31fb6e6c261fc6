use Rattle.std.proofs.Common.{refl, inl, inr, IsTrue, List}
use Rattle.clap.specs.Faults.{fault_of}
use Rattle.clap.specs.Words.{Text}
use Rattle.pk_command.specs.declared.asked.Command.{Command}
use Rattle.pk_command.specs.declared.asked.Command.TheVariants.{Run, Order, Gen, Cert, Check}
use Rattle.pk_command.specs.CommandLine.{is_taken, pikos_app}
use Rattle.pk_command.specs.Given.{AsksFor, cert_options, order_options, run_options}
use Rattle.pk_command.proofs.Taken.{NamesOne, gen_found, gen_options, no_fault, taken_names}
use Rattle.pk_command.proofs.laws.taken_asks.Goals as goal

asked : (words : List Text) → IsTrue (is_taken words) → NamesOne words → (command : Command) × AsksFor words command
unfolding AsksFor
asked words taken (inl names) = (Run (run_options names.rows), (taken, (names.rows, (names.given, refl))))
asked words taken (inr (inl names)) = (Order (order_options names.rows), (taken, (names.rows, (names.given, refl))))
asked words taken (inr (inr (inl names))) =
    let options = gen_options names.rows (gen_found names.rows names.pass names.check) in
    (Gen options.0, (taken, (names.rows, (names.given, options.1))))
asked words taken (inr (inr (inr (inl names)))) = (Cert (cert_options names.rows), (taken, (names.rows, (names.given, refl))))
asked words taken (inr (inr (inr (inr names)))) = (Check, (taken, (names.rows, names.given)))

pub returns : goal.returns
unfolding is_taken
returns c = λ words taken. asked words taken (taken_names words (no_fault (fault_of pikos_app words) taken))
